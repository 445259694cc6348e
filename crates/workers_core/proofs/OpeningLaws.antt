-- Monitors before their first clock.
use Rattle.std.proofs.Common.{
  ◌≡◌,
  ℕ,
  zero,
  suc,
  ◌+◌,
  ◌<◌,
  List,
  [],
  ◌∷◌,
  ◌++◌,
  length,
  get_or,
  take,
  map,
  sym,
  ap,
  ◌∙◌,
  arith,
}
use Rattle.std.specs.Prelude.{Some, slice_get}
use Rattle.std.specs.List.{range_with_len}
use Rattle.std.proofs.lemmas.List.{take_more, map-append}
use Rattle.bytecode_programs.specs.Values.{ProgramData}
use Rattle.workers_core.specs.States.{MonitorState}
use Rattle.workers_core.specs.Opening.{MonitorPart, part_at, parts_from, opened_monitor}

-- how many signals programs have
abbrev pub signals_in : List ProgramData → ℕ
signals_in [] = 0
signals_in (p ∷ ps) = length p.signals + signals_in ps

signals-more : (xs : List ProgramData) (p : ProgramData)
    → signals_in (xs ++ p ∷ []) ≡ signals_in xs + length p.signals
signals-more [] p = omega arith
signals-more (x ∷ xs) p = omega (arith, signals-more xs p)

parts-more : (a : ℕ) (xs : List ProgramData) (p : ProgramData)
    → parts_from a (xs ++ p ∷ []) ≡ parts_from a xs ++ part_at (a + signals_in xs) p ∷ []
parts-more a [] p = let e : a ≡ a + 0 = omega arith in ap (λ (n : ℕ). part_at n p ∷ []) e
parts-more a (x ∷ xs) p =
    let e : (a + length x.signals) + signals_in xs ≡ a + (length x.signals + signals_in xs) =
    omega arith in
    ap (λ (qs : List MonitorPart). part_at a x ∷ qs)
    (parts-more (a + length x.signals) xs p
    ∙ ap (λ (n : ℕ). parts_from (a + length x.signals) xs ++ part_at n p ∷ []) e)

-- one program more
pub signals-next : (ps : List ProgramData) (i from to : ℕ) (d p : ProgramData) → i < length ps
    → p ≡ get_or ps i d → from ≡ signals_in (take i ps) → to ≡ from + length p.signals
    → to ≡ signals_in (take (i + 1) ps)
signals-next ps i from to d p lt at is end =
    end ∙ ap (λ (n : ℕ). n + length p.signals) is ∙ sym (signals-more (take i ps) p)
    ∙ ap (λ (x : ProgramData). signals_in (take i ps ++ x ∷ [])) at
    ∙ sym (ap signals_in (take_more ps i d lt))

pub parts-next :
    (ps : List ProgramData) (i from : ℕ) (d p : ProgramData) (qs : List MonitorPart) (q : MonitorPart) →
    i < length ps → p ≡ get_or ps i d → from ≡ signals_in (take i ps) →
    qs ≡ parts_from 0 (take i ps) →
    q ≡ part_at from p → qs ++ q ∷ [] ≡ parts_from 0 (take (i + 1) ps)
parts-next ps i from d p qs q lt at is are one =
    let e : from ≡ 0 + signals_in (take i ps) = is ∙ omega arith in
    ap (λ (xs : List MonitorPart). xs ++ q ∷ []) are
    ∙ ap (λ (x : MonitorPart). parts_from 0 (take i ps) ++ x ∷ [])
    (one ∙ ap (λ (n : ℕ). part_at n p) e)
    ∙ sym (parts-more 0 (take i ps) p)
    ∙ ap (λ (x : ProgramData). parts_from 0 (take i ps ++ x ∷ [])) at
    ∙ sym (ap (parts_from 0) (take_more ps i d lt))

pub opened-next :
    (ps : List ProgramData) (i : ℕ) (d p : ProgramData) (ms : List MonitorState)
    (m : MonitorState) → i < length ps → p ≡ get_or ps i d →
    ms ≡ map opened_monitor (take i ps) →
    m ≡ opened_monitor p → ms ++ m ∷ [] ≡ map opened_monitor (take (i + 1) ps)
opened-next ps i d p ms m lt at are one =
    ap (λ (xs : List MonitorState). xs ++ m ∷ []) are
    ∙ ap (λ (x : MonitorState). map opened_monitor (take i ps) ++ x ∷ []) one
    ∙ sym (map-append opened_monitor (take i ps) (p ∷ []))
    ∙ ap (λ (x : ProgramData). map opened_monitor (take i ps ++ x ∷ [])) at
    ∙ sym (ap (map opened_monitor) (take_more ps i d lt))

-- one number more
range-from : (a n : ℕ) → range_with_len a (n + 1) ≡ range_with_len a n ++ (a + n) ∷ []
range-from a zero = let e : a ≡ a + 0 = omega arith in ap (λ (k : ℕ). k ∷ []) e
range-from a (suc n) =
    let e : (a + 1) + n ≡ a + suc n = omega arith in
    let f : suc n + 1 ≡ suc (n + 1) = omega arith in
    ap (range_with_len a) f
    ∙ ap (λ (xs : List ℕ). a ∷ xs)
    (range-from (a + 1) n ∙ ap (λ (k : ℕ). range_with_len (a + 1) n ++ k ∷ []) e)

pub range-more : (n : ℕ) → range_with_len 0 n ++ n ∷ [] ≡ range_with_len 0 (n + 1)
range-more n =
    let e : n ≡ 0 + n = omega arith in
    ap (λ (k : ℕ). range_with_len 0 n ++ k ∷ []) e ∙ sym (range-from 0 n)

-- nothing stands in an empty list
pub none-there : {A : Type 0} (xs : List A) (i : ℕ) (x : A) → xs ≡ [] → slice_get xs i ≡ Some x → ⊥
none-there [] i x none is = absurd cc
none-there (y ∷ xs) i x none is = absurd cc
