-- The visits of obligations, one more in front of those that are left.
use Rattle.std.proofs.Common.{◌≡◌, ℕ, suc, ◌+◌, ◌-◌, ◌*◌, ◌<◌, ◌≤◌, Bool, true, false}
use Rattle.std.proofs.Common.{if◌then◌else◌, List, [], ◌∷◌, ◌++◌, length, Option, Some, None, refl, sym}
use Rattle.std.proofs.Common.{ap, ◌∙◌, subst, arith, append_assoc, append-nil, bit_or}
use Rattle.std.proofs.lemmas.List.{map-append}
use Rattle.std.proofs.lemmas.Nat.Bits.{bit_at_or, same_from_bits}
use lib.Bits.{or_zero_l, or_zero_r}
use Rattle.std.specs.Prelude.{nat_eq}
use Rattle.std.specs.Map.{lookup, set_value, remove_entry}
use Rattle.bytecode_programs.specs.Values.{ProgramData}
use Rattle.verifier.specs.Limits.{path_sum}
use Rattle.machine_checked.specs.Outcomes.{Ran, done, trapped, and_then}
use Rattle.machine_checked.specs.Blocks.{Visit, visit}
use Rattle.machine_checked.specs.Clocks.{Obligation, Fate, visit_obligations, staying, is_ended, is_broken}
use Rattle.machine_checked.specs.Bounds.{RisesBetween, since, IsOwed}
use Rattle.machine_checked.proofs.Outcomes.{Meets-at}
use Rattle.machine_checked.proofs.Typing.{IsSection}
use Rattle.machine_checked.proofs.Visits.{Visited, visit-meets}
use Rattle.attempt_pool.specs.Pooled.{Pooled, pooled, slot_after}
use Rattle.attempt_pool.specs.Walk.{WalkIsAt, left_at}
use Rattle.machine.specs.declared.fates.Fates.{Fates}
use Rattle.machine.specs.declared.obligation.ObligationRecord.{ObligationRecord}
use Rattle.machine.specs.Marks.{fate_mark, mark_set, is_fate_open, fates_of, AreRecent}
use Rattle.machine.specs.Records.{obligation_of, left_open}
use Rattle.machine.specs.Live.{obligations_in, OpenedLately, AreVisited}
use Rattle.machine.proofs.PoolSteps as steps

-- the fates so far, in front of those of the others
abbrev pub joined : List Fate → List Fate → ℕ → Ran (List Fate)
joined fs gs m = done (fs ++ gs) m

joined-none : (r : Ran (List Fate)) → r ≡ and_then r (joined [])
joined-none (done gs m) = refl
joined-none (trapped t) = refl

joined-more : (fs : List Fate) (f : Fate) (r : Ran (List Fate))
    → and_then (and_then r (λ gs m. done (f ∷ gs) m)) (joined fs) ≡ and_then r (joined (fs ++ f ∷ []))
joined-more fs f (done gs m) = ap (λ (l : List Fate). done l m) (sym (append_assoc fs (f ∷ []) gs))
joined-more fs f (trapped t) = refl

or-assoc : (a b c : ℕ) → bit_or (bit_or a b) c ≡ bit_or a (bit_or b c)
or-assoc a b c = same_from_bits (bit_or (bit_or a b) c) (bit_or a (bit_or b c)) (λ i.
    omega (arith, bit_at_or (bit_or a b) c i, bit_at_or a b i, bit_at_or a (bit_or b c) i, bit_at_or b c i))

marked-more : (passes : Fate → Bool) (now : ℕ) (f : Fate) (fs : List Fate) → mark_set passes now (fs ++ f ∷ [])
    ≡ bit_or (mark_set passes now fs) (fate_mark passes now f)
marked-more passes now f [] = or_zero_r (fate_mark passes now f) ∙ sym (or_zero_l (fate_mark passes now f))
marked-more passes now f (g ∷ fs) =
    ap (λ n. bit_or (fate_mark passes now g) n) (marked-more passes now f fs)
    ∙ sym (or-assoc (fate_mark passes now g) (mark_set passes now fs) (fate_mark passes now f))

recent-more : (now : ℕ) (f : Fate) → f.tick ≤ now → now ≤ f.tick + 127 → (fs : List Fate) → AreRecent now fs
    → AreRecent now (fs ++ f ∷ [])
recent-more now f low high [] h = (low, high, tt)
recent-more now f low high (g ∷ fs) h = (h.0, h.1, recent-more now f low high fs h.2)

abbrev pub stays : Fate → List Obligation
stays f = if is_ended f then [] else left_open f ∷ []

staying-one : (f g : Fate) (b : Bool) (all rest : List Obligation) → all ≡ rest ++ stays f
    → (if b then all else left_open g ∷ all) ≡ (if b then rest else left_open g ∷ rest) ++ stays f
staying-one f g true all rest h = h
staying-one f g false all rest h = ap (λ (l : List Obligation). left_open g ∷ l) h

staying-more : (f : Fate) (fs : List Fate) → staying (fs ++ f ∷ []) ≡ staying fs ++ stays f
staying-more f [] = refl
staying-more f (g ∷ fs) = staying-one f g (is_ended g) (staying (fs ++ f ∷ [])) (staying fs) (staying-more f fs)

-- a walk that visits: what lies after it, and what the visits of what is left come to
pub record Visiting (p : ProgramData) (atoms : List Bool) (now : ℕ) (pool : Pooled ObligationRecord) (at : Option ℕ)
    (left : ℕ) (fates : Fates) (old : Pooled ObligationRecord) (first : ℕ) : Type 0 where
  pub before : List (ℕ × ObligationRecord)
  pub rest : List (ℕ × ObligationRecord)
  pub stands : WalkIsAt pool.live at before rest
  pub low : ℕ
  pub rises : RisesBetween since (IsOwed p now) low (now + 1) (obligations_in rest)
  pub lately : OpenedLately now (obligations_in rest)
  pub fits : length rest * (1 + path_sum 0 p.consequent.blocks) ≤ left
  pub fs : List Fate
  pub stayed : obligations_in before ≡ staying fs
  pub sets : fates ≡ fates_of now fs
  pub recent : AreRecent now fs
  pub whole : visit_obligations p.consequent atoms (obligations_in old.live) first
      ≡ and_then (visit_obligations p.consequent atoms (obligations_in rest) left) (joined fs)
  pub cap : pool.cap ≡ old.cap

pub visiting-first : (p : ProgramData) (atoms : List Bool) (now : ℕ) (pool : Pooled ObligationRecord) (at : Option ℕ)
    (left : ℕ) (fates : Fates) → fates ≡ fates_of 0 [] → WalkIsAt pool.live at [] pool.live
    → RisesBetween since (IsOwed p now) 0 (now + 1) (obligations_in pool.live)
    → OpenedLately now (obligations_in pool.live)
    → length pool.live * (1 + path_sum 0 p.consequent.blocks) ≤ left
    → Visiting p atoms now pool at left fates pool left
visiting-first p atoms now pool at left fates none stands rises lately fits = record {
  before = [];
  rest = pool.live;
  stands = stands;
  low = 0;
  rises = rises;
  lately = lately;
  fits = fits;
  fs = [];
  stayed = refl;
  sets = none;
  recent = tt;
  whole = joined-none (visit_obligations p.consequent atoms (obligations_in pool.live) left);
  cap = refl;
}

pub visiting-last : (p : ProgramData) (atoms : List Bool) (now : ℕ) (pool : Pooled ObligationRecord) (at : Option ℕ)
    (left : ℕ) (fates : Fates) (old : Pooled ObligationRecord) (first : ℕ)
    → Visiting p atoms now pool at left fates old first → at ≡ None
    → AreVisited p.consequent atoms now (obligations_in old.live) first (obligations_in pool.live) left fates
visiting-last p atoms now pool at left fates old first i e =
    let end = steps.over pool at i.before i.rest i.stands e in
    record {
      fs = i.fs;
      came =
          i.whole
          ∙ ap (λ (l : List (ℕ × ObligationRecord)). and_then
          (visit_obligations p.consequent atoms (obligations_in l) left) (joined i.fs)) end.0
          ∙ ap (λ (l : List Fate). done l left) (append-nil i.fs);
      stayed = ap (λ (l : List (ℕ × ObligationRecord)). obligations_in l) end.1 ∙ i.stayed;
      sets = i.sets;
      recent = i.recent;
    }

-- at a slot whose record was read
module _ (p : ProgramData) (atoms : List Bool) (now : ℕ) (pool : Pooled ObligationRecord) (at : Option ℕ) (left : ℕ)
    (fates : Fates) (old : Pooled ObligationRecord) (first : ℕ)
    (i : Visiting p atoms now pool at left fates old first) (s : ℕ) (is : at ≡ Some s) (x : ObligationRecord)
    (got : lookup (nat_eq s) pool.live ≡ Some x) where
  abbrev pub tail : List (ℕ × ObligationRecord)
  tail = steps.tail pool at s i.before i.rest i.stands is

  split : i.rest ≡ (s, x) ∷ tail
  split = steps.split pool at s i.before i.rest i.stands is x got

  rises-here : RisesBetween since (IsOwed p now) i.low (now + 1) (obligation_of x ∷ obligations_in tail)
  rises-here =
      subst (λ (l : List (ℕ × ObligationRecord)). RisesBetween since (IsOwed p now) i.low (now + 1)
      (obligations_in l)) split
      i.rises

  lately-here : OpenedLately now (obligation_of x ∷ obligations_in tail)
  lately-here = subst (λ (l : List (ℕ × ObligationRecord)). OpenedLately now (obligations_in l)) split i.lately

  pub owed : IsOwed p now (obligation_of x)
  owed = rises-here.1

  pub opened : x.tick ≤ now
  opened = lately-here.0

  pub late : now ≤ x.tick + 127
  late = lately-here.1

  pub affords : 1 + path_sum 0 p.consequent.blocks + length tail * (1 + path_sum 0 p.consequent.blocks) ≤ left
  affords =
      let long : length i.rest ≡ suc (length tail) = ap length split in
      let product : length i.rest * (1 + path_sum 0 p.consequent.blocks) ≡ 1 + path_sum 0 p.consequent.blocks
      + length tail * (1 + path_sum 0 p.consequent.blocks) = ap (λ n. n * (1 + path_sum 0 p.consequent.blocks))
      long ∙ omega arith in
      omega (arith, product, i.fits)

  -- after its visit
  module _ (section : IsSection (length atoms) p.consequent) (v : Visit) (less : ℕ)
      (visits : visit p.consequent atoms x.positions (left - 1) ≡ done v less) where
    seen : Visited p.consequent x.tick now (left - 1) v less
    seen =
        Meets-at (Visited p.consequent x.tick now (left - 1)) (visit p.consequent atoms x.positions (left - 1)) v less
        visits
        (visit-meets p.consequent atoms section x.tick now x.positions (left - 1) owed.positions
        (omega (arith, affords)))

    abbrev pub fate : Fate
    fate = record { tick = x.tick; positions = v.entered; kept = v.accepted }

    moved-on : (after : Pooled ObligationRecord) (at' : Option ℕ) (before : List (ℕ × ObligationRecord))
        → WalkIsAt after.live at' before tail → obligations_in before ≡ obligations_in i.before ++ stays fate
        → after.cap ≡ pool.cap → (noted : Fates)
        → noted.open_ticks ≡ bit_or fates.open_ticks (fate_mark is_fate_open now fate) → noted.broken_ticks
        ≡ bit_or fates.broken_ticks (fate_mark is_broken now fate) → Visiting p atoms now after at' less noted old first
    moved-on after at' before stands stayed cap noted opening breaking =
        let one : left ≡ suc (left - 1) = omega (arith, affords) in
        let others = visit_obligations p.consequent atoms (obligations_in tail) less in
        let opens : noted.open_ticks ≡ mark_set is_fate_open now (i.fs ++ fate ∷ []) =
        opening ∙ ap (λ (f : Fates). bit_or f.open_ticks (fate_mark is_fate_open now fate)) i.sets
        ∙ sym (marked-more is_fate_open now fate i.fs) in
        let breaks : noted.broken_ticks ≡ mark_set is_broken now (i.fs ++ fate ∷ []) =
        breaking ∙ ap (λ (f : Fates). bit_or f.broken_ticks (fate_mark is_broken now fate)) i.sets
        ∙ sym (marked-more is_broken now fate i.fs) in
        record {
          before = before;
          rest = tail;
          stands = stands;
          low = x.tick + 1;
          rises = rises-here.2;
          lately = lately-here.2;
          fits = omega (arith, affords, seen.1);
          fs = i.fs ++ fate ∷ [];
          stayed = stayed ∙ ap (λ (l : List Obligation). l ++ stays fate) i.stayed ∙ sym (staying-more fate i.fs);
          sets = (λ j. record { open_ticks = opens j; broken_ticks = breaks j });
          recent = recent-more now fate opened late i.fs i.recent;
          whole =
              i.whole
              ∙ ap (λ (l : List (ℕ × ObligationRecord)). and_then
              (visit_obligations p.consequent atoms (obligations_in l) left) (joined i.fs)) split
              ∙ ap (λ (n : ℕ). and_then (visit_obligations p.consequent atoms (obligation_of x ∷ obligations_in tail) n)
              (joined i.fs)) one
              ∙ ap (λ (r : Ran Visit). and_then
              (and_then r
              (λ v left. and_then (visit_obligations p.consequent atoms (obligations_in tail) left)
              (λ gs left. done (record { tick = x.tick; positions = v.entered; kept = v.accepted } ∷ gs) left)))
              (joined i.fs)) visits
              ∙ joined-more i.fs fate others;
          cap = cap ∙ i.cap;
        }

    -- ended, and retired
    pub retired : is_ended fate ≡ true → (next : Option ℕ) → next ≡ slot_after s pool.live
        → (after : Pooled ObligationRecord) → after ≡ pooled pool.cap (remove_entry (nat_eq s) pool.live)
        → (noted : Fates) → noted.open_ticks ≡ bit_or fates.open_ticks (fate_mark is_fate_open now fate)
        → noted.broken_ticks
        ≡ bit_or fates.broken_ticks (fate_mark is_broken now fate)
        → Visiting p atoms now after next less noted old first × (left_at next after.live < left_at at pool.live)
    retired ended next is-next after e noted opening breaking =
        let moved = steps.retired pool at s i.before i.rest i.stands is x got next is-next after e in
        let none : stays fate ≡ [] = ap (λ (b : Bool). if b then [] else left_open fate ∷ []) ended in (
          moved-on after next i.before moved.0 (sym (append-nil (obligations_in i.before))
              ∙ ap (λ (l : List Obligation). obligations_in i.before ++ l) (sym none))
              (ap (λ (q : Pooled ObligationRecord). q.cap) e) noted opening breaking,
          moved.1,
        )

    -- open, and set
    pub reset : is_ended fate ≡ false → (next : Option ℕ) → next ≡ slot_after s pool.live
        → (after : Pooled ObligationRecord) (y : ObligationRecord) → obligation_of y ≡ left_open fate
        → after ≡ pooled pool.cap (set_value (nat_eq s) pool.live y) → (noted : Fates)
        → noted.open_ticks ≡ bit_or fates.open_ticks (fate_mark is_fate_open now fate) → noted.broken_ticks
        ≡ bit_or fates.broken_ticks (fate_mark is_broken now fate)
        → Visiting p atoms now after next less noted old first × (left_at next after.live < left_at at pool.live)
    reset going next is-next after y same e noted opening breaking =
        let moved = steps.reset pool at s i.before i.rest i.stands is x got next is-next after y e in
        let one : stays fate ≡ left_open fate ∷ [] = ap (λ (b : Bool). if b then [] else left_open fate ∷ []) going in (
          moved-on after next (i.before ++ (s, y) ∷ []) moved.0
              (map-append (λ e. obligation_of e.1) i.before ((s, y) ∷ [])
              ∙ ap (λ (o : Obligation). obligations_in i.before ++ o ∷ []) same
              ∙ ap (λ (l : List Obligation). obligations_in i.before ++ l) (sym one))
              (ap (λ (q : Pooled ObligationRecord). q.cap) e) noted opening breaking,
          moved.1,
        )
