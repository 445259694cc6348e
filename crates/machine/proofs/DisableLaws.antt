-- Pools that are emptied from the front.
use Rattle.std.proofs.Common.{◌≡◌, ℕ, suc, ◌+◌, ◌-◌, ◌<◌, ◌≤◌, List, [], ◌∷◌, ◌++◌, length, Option}
use Rattle.std.proofs.Common.{Some, None, refl, sym, ap, ◌∙◌, arith, append_assoc, append-nil, length-append}
use Rattle.std.specs.Prelude.{nat_eq, IsSome}
use Rattle.std.specs.List.{IsDistinct}
use Rattle.std.specs.Map.{lookup, remove_entry, keys_of}
use Rattle.signals.specs.declared.verdict.Verdict.TheVariants.{Disabled}
use Rattle.signals.specs.declared.verdict.Decided.{Decided}
use Rattle.machine_checked.specs.Outcomes.{Ran, done, trapped, and_then}
use Rattle.machine_checked.specs.Clocks.{disable_all}
use Rattle.attempt_pool.specs.Pooled.{Pooled, pooled, first_slot, slot_after}
use Rattle.attempt_pool.specs.Walk.{WalkIsAt}
use Rattle.machine.specs.declared.attempt.AttemptRecord.{AttemptRecord}
use Rattle.machine.specs.Records.{attempt_of}
use Rattle.machine.specs.Live.{attempts_in, AreDisabled}
use Rattle.machine.proofs.PoolSteps as steps

module _ {T : Type 0} where
  -- no first slot
  pub empty : (pool : Pooled T) → None ≡ first_slot pool.live → pool.live ≡ []
  empty pool e = none pool.live e
    where
      none : (live : List (ℕ × T)) → None ≡ first_slot live → live ≡ []
      none [] e = refl
      none (p ∷ ps) e = cc

  pub emptied : (pool old : Pooled T) → pool.cap ≡ old.cap → pool.live ≡ [] → pool ≡ pooled old.cap []
  emptied pool old cap live = λ j. pooled (cap j) (live j)

  -- the first slot
  module _ (pool : Pooled T) (s : ℕ) (slot : Some s ≡ first_slot pool.live)
      (distinct : IsDistinct nat_eq (keys_of pool.live)) where
    at-first : WalkIsAt pool.live (Some s) [] pool.live
    at-first = steps.starts pool (Some s) distinct slot

    pub live : IsSome (lookup (nat_eq s) pool.live)
    live = steps.live pool (Some s) s [] pool.live at-first refl

    module _ (x : T) (got : lookup (nat_eq s) pool.live ≡ Some x) where
      pub rest : List (ℕ × T)
      rest = steps.tail pool (Some s) s [] pool.live at-first refl

      pub split : pool.live ≡ (s, x) ∷ rest
      unfolding rest
      split = steps.split pool (Some s) s [] pool.live at-first refl x got

      pub retired : (after : Pooled T) → after ≡ pooled pool.cap (remove_entry (nat_eq s) pool.live) → after.live ≡ rest
      unfolding rest
      retired after e =
          let moved =
          steps.retired pool (Some s) s [] pool.live at-first refl x got (slot_after s pool.live) refl after e in
          moved.0.all

some-of : {T : Type 0} (o : Option T) → IsSome o → (x : T) × (o ≡ Some x)
some-of None h = cc
some-of (Some x) h = (x, refl)

-- one record less, whatever it holds
pub one-less : {T : Type 0} (pool : Pooled T) (s : ℕ) (slot : Some s ≡ first_slot pool.live)
    (distinct : IsDistinct nat_eq (keys_of pool.live)) (after : Pooled T)
    → after ≡ pooled pool.cap (remove_entry (nat_eq s) pool.live) → length after.live < length pool.live
one-less pool s slot distinct after e =
    let x = some-of (lookup (nat_eq s) pool.live) (live pool s slot distinct) in
    omega (
      arith,
      ap length (split pool s slot distinct x.0 x.1),
      ap length (retired pool s slot distinct x.0 x.1 after e),
    )

abbrev pub joined : List Decided → List Decided → ℕ → Ran (List Decided)
joined ds es m = done (ds ++ es) m

joined-none : (r : Ran (List Decided)) → r ≡ and_then r (joined [])
joined-none (done es m) = refl
joined-none (trapped t) = refl

joined-more : (ds : List Decided) (d : Decided) (r : Ran (List Decided))
    → and_then (and_then r (λ es m. done (d ∷ es) m)) (joined ds) ≡ and_then r (joined (ds ++ d ∷ []))
joined-more ds d (done es m) = ap (λ (l : List Decided). done l m) (sym (append_assoc ds (d ∷ []) es))
joined-more ds d (trapped t) = refl

pub record Disabling (now : ℕ) (pool : Pooled AttemptRecord) (left : ℕ) (out : List Decided)
    (old : Pooled AttemptRecord) (first : ℕ) (told : List Decided) : Type 0 where
  pub fits : length pool.live ≤ left
  pub decided : List Decided
  pub tells : out ≡ told ++ decided
  pub room : length out + length pool.live ≤ 1024
  pub whole : disable_all now (attempts_in old.live) first ≡ and_then (disable_all now (attempts_in pool.live) left)
      (joined decided)
  pub cap : pool.cap ≡ old.cap

pub disabling-first : (now : ℕ) (pool : Pooled AttemptRecord) (left : ℕ) (out : List Decided) → length pool.live ≤ left
    → length out + length pool.live ≤ 1024 → Disabling now pool left out pool left out
disabling-first now pool left out fits room = record {
  fits = fits;
  decided = [];
  tells = sym (append-nil out);
  room = room;
  whole = joined-none (disable_all now (attempts_in pool.live) left);
  cap = refl;
}

pub disabling-last : (now : ℕ) (pool : Pooled AttemptRecord) (left : ℕ) (out : List Decided)
    (old : Pooled AttemptRecord) (first : ℕ) (told : List Decided) → Disabling now pool left out old first told
    → None ≡ first_slot pool.live → AreDisabled now (attempts_in old.live) first told left out
disabling-last now pool left out old first told i e = record {
  decided = i.decided;
  told = i.tells;
  came =
      i.whole
      ∙ ap (λ (l : List (ℕ × AttemptRecord)). and_then (disable_all now (attempts_in l) left) (joined i.decided))
      (empty pool e)
      ∙ ap (λ (l : List Decided). done l left) (append-nil i.decided);
}

module _ (now : ℕ) (pool : Pooled AttemptRecord) (left : ℕ) (out : List Decided) (old : Pooled AttemptRecord)
    (first : ℕ) (told : List Decided) (i : Disabling now pool left out old first told) (s : ℕ)
    (slot : Some s ≡ first_slot pool.live) (distinct : IsDistinct nat_eq (keys_of pool.live)) where
  some-long : {x : AttemptRecord} (got : lookup (nat_eq s) pool.live ≡ Some x)
      → length pool.live ≡ suc (length (rest pool s slot distinct x got))
  some-long got = ap length (split pool s slot distinct _ got)

  long : length pool.live ≡ suc (length pool.live - 1)
  long =
      let x = some-of (lookup (nat_eq s) pool.live) (live pool s slot distinct) in
      omega (arith, ap length (split pool s slot distinct x.0 x.1))

  pub affords : 1 ≤ left
  affords = omega (arith, long, i.fits)

  pub has_room : length out < 1024
  has_room = omega (arith, long, i.room)

  pub next : (x : AttemptRecord) → lookup (nat_eq s) pool.live ≡ Some x → (after : Pooled AttemptRecord)
      → after ≡ pooled pool.cap (remove_entry (nat_eq s) pool.live) → (more : List Decided)
      → more ≡ out ++ record { start = x.start; verdict = Disabled now } ∷ []
      → Disabling now after (left - 1) more old first told
  next x got after e more is-more =
      let d : Decided = record { start = x.start; verdict = Disabled now } in
      let tail = rest pool s slot distinct x got in
      let is-split = split pool s slot distinct x got in
      let is-rest = retired pool s slot distinct x got after e in
      let one : left ≡ suc (left - 1) = omega (arith, affords) in
      let longer : length more ≡ length out + 1 = ap length is-more ∙ length-append out (d ∷ []) in
      let shorter : length pool.live ≡ suc (length after.live) =
      ap length is-split ∙ ap (λ (l : List (ℕ × AttemptRecord)). suc (length l)) (sym is-rest) in
      record {
        fits = omega (arith, shorter, i.fits);
        decided = i.decided ++ d ∷ [];
        tells = is-more ∙ ap (λ (l : List Decided). l ++ d ∷ []) i.tells ∙ append_assoc told i.decided (d ∷ []);
        room = omega (arith, shorter, i.room, longer);
        whole =
            i.whole
            ∙ ap (λ (l : List (ℕ × AttemptRecord)). and_then (disable_all now (attempts_in l) left) (joined i.decided))
            is-split
            ∙ ap (λ (n : ℕ). and_then (disable_all now (attempt_of x ∷ attempts_in tail) n) (joined i.decided)) one
            ∙ joined-more i.decided d (disable_all now (attempts_in tail) (left - 1))
            ∙ ap (λ (l : List (ℕ × AttemptRecord)). and_then (disable_all now (attempts_in l) (left - 1))
            (joined (i.decided ++ d ∷ []))) (sym is-rest);
        cap = ap (λ (q : Pooled AttemptRecord). q.cap) e ∙ i.cap;
      }
