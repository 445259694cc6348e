-- How attempts are settled, one more in front of those that are left.
use Rattle.std.proofs.Common.{◌≡◌, ℕ, suc, ◌+◌, ◌-◌, ◌<◌, ◌≤◌, List, [], ◌∷◌, ◌++◌, length, Option}
use Rattle.std.proofs.Common.{Some, None, refl, sym, ap, ◌∙◌, subst, arith, append_assoc, append-nil, length-append}
use Rattle.std.proofs.lemmas.List.{map-append}
use Rattle.std.specs.Prelude.{nat_eq}
use Rattle.std.specs.Map.{lookup, remove_entry}
use Rattle.signals.specs.declared.verdict.Verdict.{Verdict}
use Rattle.signals.specs.declared.verdict.Verdict.TheVariants.{Open}
use Rattle.signals.specs.declared.verdict.Decided.{Decided}
use Rattle.machine_checked.specs.Outcomes.{Ran, done, trapped, and_then}
use Rattle.machine_checked.specs.Clocks.{Attempt, Fate, Settlement, settle, settle_all, stays, ends}
use Rattle.attempt_pool.specs.Pooled.{Pooled, pooled, slot_after}
use Rattle.attempt_pool.specs.Walk.{WalkIsAt, left_at}
use Rattle.machine.specs.declared.attempt.AttemptRecord.{AttemptRecord}
use Rattle.machine.specs.declared.fates.Fates.{Fates}
use Rattle.machine.specs.Marks.{fates_of, AreRecent, SettlesAs}
use Rattle.machine.specs.Records.{attempt_of, settled}
use Rattle.machine.specs.Live.{attempts_in, HaveBegun, AreSettled}
use Rattle.machine_checked.specs.Runs.{open_ones}
use Rattle.machine.proofs.PoolSteps as steps

-- those that stay and those that were decided, in front of the settlement of the others
abbrev pub joined : List Attempt → List Decided → Settlement → ℕ → Ran Settlement
joined seen ds r m = done (record { live = seen ++ r.live; decided = ds ++ r.decided }) m

joined-none : (r : Ran Settlement) → r ≡ and_then r (joined [] [])
joined-none (done s m) = refl
joined-none (trapped t) = refl

module _ (seen : List Attempt) (ds : List Decided) (a : Attempt) where
  joined-stays : (r : Ran Settlement) → and_then (and_then r (λ s m. done (stays a s) m)) (joined seen ds)
      ≡ and_then r (joined (seen ++ a ∷ []) ds)
  joined-stays (done s m) =
      ap (λ (l : List Attempt). done (record { live = l; decided = ds ++ s.decided }) m)
      (sym (append_assoc seen (a ∷ []) s.live))
  joined-stays (trapped t) = refl

  joined-ends : (v : Verdict) (r : Ran Settlement) → and_then (and_then r (λ s m. done (ends a v s) m)) (joined seen ds)
      ≡ and_then r (joined seen (ds ++ record { start = a.start; verdict = v } ∷ []))
  joined-ends v (done s m) =
      ap (λ (l : List Decided). done (record { live = seen ++ s.live; decided = l }) m)
      (sym (append_assoc ds (record { start = a.start; verdict = v } ∷ []) s.decided))
  joined-ends v (trapped t) = refl

settles-as : (now : ℕ) (fs : List Fate) (a : Attempt) (v : Option Verdict)
    → ((r : Settlement) → settle now fs a r ≡ settled v a r) → (r : Ran Settlement)
    → and_then r (λ s m. done (settle now fs a s) m) ≡ and_then r (λ s m. done (settled v a s) m)
settles-as now fs a v same (done s m) = ap (λ (x : Settlement). done x m) (same s)
settles-as now fs a v same (trapped t) = refl

pub record Settling (now : ℕ) (fates : Fates) (pool : Pooled AttemptRecord) (at : Option ℕ) (left : ℕ)
    (out : List Decided) (old : Pooled AttemptRecord) (first : ℕ) (told : List Decided) : Type 0 where
  pub before : List (ℕ × AttemptRecord)
  pub rest : List (ℕ × AttemptRecord)
  pub stands : WalkIsAt pool.live at before rest
  pub begun : HaveBegun now (attempts_in rest)
  pub fits : length rest ≤ left
  pub decided : List Decided
  pub tells : out ≡ told ++ decided
  pub room : length out + length rest ≤ 1024
  pub whole : (fs : List Fate) → AreRecent now fs → fates ≡ fates_of now fs
      → settle_all now fs (attempts_in old.live) first ≡ and_then (settle_all now fs (attempts_in rest) left)
      (joined (attempts_in before) decided)
  pub cap : pool.cap ≡ old.cap

pub settling-first : (now : ℕ) (fates : Fates) (pool : Pooled AttemptRecord) (at : Option ℕ) (left : ℕ)
    (out : List Decided) → WalkIsAt pool.live at [] pool.live → HaveBegun now (attempts_in pool.live)
    → length pool.live ≤ left → length out + length pool.live ≤ 1024
    → Settling now fates pool at left out pool left out
settling-first now fates pool at left out stands begun fits room = record {
  before = [];
  rest = pool.live;
  stands = stands;
  begun = begun;
  fits = fits;
  decided = [];
  tells = sym (append-nil out);
  room = room;
  whole = λ fs recent sets. joined-none (settle_all now fs (attempts_in pool.live) left);
  cap = refl;
}

pub settling-last : (now : ℕ) (fates : Fates) (pool : Pooled AttemptRecord) (at : Option ℕ) (left : ℕ)
    (out : List Decided) (old : Pooled AttemptRecord) (first : ℕ) (told : List Decided)
    → Settling now fates pool at left out old first told → at ≡ None
    → AreSettled now fates (attempts_in old.live) first told (attempts_in pool.live) left out
settling-last now fates pool at left out old first told i e =
    let end = steps.over pool at i.before i.rest i.stands e in
    record {
      decided = i.decided;
      told = i.tells;
      came = λ fs recent sets.
          i.whole fs recent sets
          ∙ ap (λ (l : List (ℕ × AttemptRecord)). and_then (settle_all now fs (attempts_in l) left)
          (joined (attempts_in i.before) i.decided)) end.0
          ∙ ap (λ (l : List Attempt). done (record { live = l; decided = i.decided ++ [] }) left)
          (append-nil (attempts_in i.before) ∙ ap (λ (l : List (ℕ × AttemptRecord)). attempts_in l) (sym end.1))
          ∙ ap (λ (l : List Decided). done (record { live = attempts_in pool.live; decided = l }) left)
          (append-nil i.decided);
    }

module _ (now : ℕ) (fates : Fates) (pool : Pooled AttemptRecord) (at : Option ℕ) (left : ℕ) (out : List Decided)
    (old : Pooled AttemptRecord) (first : ℕ) (told : List Decided)
    (i : Settling now fates pool at left out old first told) (s : ℕ) (is : at ≡ Some s) (x : AttemptRecord)
    (got : lookup (nat_eq s) pool.live ≡ Some x) where
  abbrev pub tail : List (ℕ × AttemptRecord)
  tail = steps.tail pool at s i.before i.rest i.stands is

  split : i.rest ≡ (s, x) ∷ tail
  split = steps.split pool at s i.before i.rest i.stands is x got

  begun-here : HaveBegun now (attempt_of x ∷ attempts_in tail)
  begun-here = subst (λ (l : List (ℕ × AttemptRecord)). HaveBegun now (attempts_in l)) split i.begun

  pub started : x.start ≤ now
  started = begun-here.0

  long : length i.rest ≡ suc (length tail)
  long = ap length split

  pub affords : 1 ≤ left
  affords = omega (arith, long, i.fits)

  pub has_room : length out < 1024
  has_room = omega (arith, long, i.room)

  on : (v : Option Verdict) → SettlesAs now fates (attempt_of x) v → (fs : List Fate) → AreRecent now fs
      → fates ≡ fates_of now fs → settle_all now fs (attempts_in old.live) first
      ≡ and_then
      (and_then (settle_all now fs (attempts_in tail) (left - 1)) (λ r m. done (settled v (attempt_of x) r) m))
      (joined (attempts_in i.before) i.decided)
  on v settles fs recent sets =
      let one : left ≡ suc (left - 1) = omega (arith, affords) in
      i.whole fs recent sets
      ∙ ap (λ (l : List (ℕ × AttemptRecord)). and_then (settle_all now fs (attempts_in l) left)
      (joined (attempts_in i.before) i.decided)) split
      ∙ ap (λ (n : ℕ). and_then (settle_all now fs (attempt_of x ∷ attempts_in tail) n)
      (joined (attempts_in i.before) i.decided)) one
      ∙ ap (λ (r : Ran Settlement). and_then r (joined (attempts_in i.before) i.decided))
      (settles-as now fs (attempt_of x) v (λ r. settles fs r recent sets)
      (settle_all now fs (attempts_in tail) (left - 1)))

  pub kept : SettlesAs now fates (attempt_of x) None → (next : Option ℕ) → next ≡ slot_after s pool.live
      → Settling now fates pool next (left - 1) out old first told × (left_at next pool.live < left_at at pool.live)
  kept settles next is-next =
      let moved = steps.kept pool at s i.before i.rest i.stands is x got next is-next in (
        record {
          before = i.before ++ (s, x) ∷ [];
          rest = tail;
          stands = moved.0;
          begun = begun-here.1;
          fits = omega (arith, long, i.fits);
          decided = i.decided;
          tells = i.tells;
          room = omega (arith, long, i.room);
          whole = λ fs recent sets.
              on None settles fs recent sets
              ∙ joined-stays (attempts_in i.before) i.decided (attempt_of x)
              (settle_all now fs (attempts_in tail) (left - 1))
              ∙ ap (λ (l : List Attempt). and_then (settle_all now fs (attempts_in tail) (left - 1))
              (joined l i.decided)) (sym (map-append (λ e. attempt_of e.1) i.before ((s, x) ∷ [])));
          cap = i.cap;
        },
        moved.1,
      )

  pub retired : (v : Verdict) → SettlesAs now fates (attempt_of x) (Some v) → (next : Option ℕ)
      → next ≡ slot_after s pool.live → (after : Pooled AttemptRecord)
      → after ≡ pooled pool.cap (remove_entry (nat_eq s) pool.live) → (more : List Decided)
      → more ≡ out ++ record { start = x.start; verdict = v } ∷ []
      → Settling now fates after next (left - 1) more old first told
      × (left_at next after.live < left_at at pool.live)
  retired v settles next is-next after e more is-more =
      let moved = steps.retired pool at s i.before i.rest i.stands is x got next is-next after e in
      let longer : length more ≡ length out + 1 =
      ap length is-more ∙ length-append out (record { start = x.start; verdict = v } ∷ []) in (
        record {
          before = i.before;
          rest = tail;
          stands = moved.0;
          begun = begun-here.1;
          fits = omega (arith, long, i.fits);
          decided = i.decided ++ record { start = x.start; verdict = v } ∷ [];
          tells =
              is-more ∙ ap (λ (l : List Decided). l ++ record { start = x.start; verdict = v } ∷ []) i.tells
              ∙ append_assoc told i.decided (record { start = x.start; verdict = v } ∷ []);
          room = omega (arith, long, i.room, longer);
          whole = λ fs recent sets.
              on (Some v) settles fs recent sets
              ∙ joined-ends (attempts_in i.before) i.decided (attempt_of x) v
              (settle_all now fs (attempts_in tail) (left - 1));
          cap = ap (λ (q : Pooled AttemptRecord). q.cap) e ∙ i.cap;
        },
        moved.1,
      )

-- a walk that tells each attempt as open
pub record Telling (pool : Pooled AttemptRecord) (at : Option ℕ) (out told : List Decided) : Type 0 where
  pub before : List (ℕ × AttemptRecord)
  pub rest : List (ℕ × AttemptRecord)
  pub stands : WalkIsAt pool.live at before rest
  pub tells : out ≡ told ++ open_ones (attempts_in before)
  pub room : length out + length rest ≤ 1024

pub telling-first : (pool : Pooled AttemptRecord) (at : Option ℕ) (out : List Decided)
    → WalkIsAt pool.live at [] pool.live
    → length out + length pool.live ≤ 1024 → Telling pool at out out
telling-first pool at out stands room =
    record { before = []; rest = pool.live; stands = stands; tells = sym (append-nil out); room = room }

pub telling-last : (pool : Pooled AttemptRecord) (at : Option ℕ) (out told : List Decided) → Telling pool at out told
    → at ≡ None → out ≡ told ++ open_ones (attempts_in pool.live)
telling-last pool at out told i e =
    let end = steps.over pool at i.before i.rest i.stands e in
    i.tells ∙ ap (λ (l : List (ℕ × AttemptRecord)). told ++ open_ones (attempts_in l)) (sym end.1)

module _ (pool : Pooled AttemptRecord) (at : Option ℕ) (out told : List Decided) (i : Telling pool at out told) (s : ℕ)
    (is : at ≡ Some s) (x : AttemptRecord) (got : lookup (nat_eq s) pool.live ≡ Some x) where
  longer : length i.rest ≡ suc (length (steps.tail pool at s i.before i.rest i.stands is))
  longer = ap length (steps.split pool at s i.before i.rest i.stands is x got)

  pub has_place : length out < 1024
  has_place = omega (arith, longer, i.room)

  abbrev one : Decided
  one = record { start = x.start; verdict = Open }

  pub tells-next : (next : Option ℕ) → next ≡ slot_after s pool.live → (more : List Decided)
      → more ≡ out ++ record { start = x.start; verdict = Open } ∷ [] → Telling pool next more told
      × (left_at next pool.live < left_at at pool.live)
  tells-next next is-next more is-more =
      let moved = steps.kept pool at s i.before i.rest i.stands is x got next is-next in
      let grown : length more ≡ length out + 1 = ap length is-more ∙ length-append out (one ∷ []) in
      let all : open_ones (attempts_in (i.before ++ (s, x) ∷ [])) ≡ open_ones (attempts_in i.before) ++ one ∷ [] =
      ap (λ (l : List Attempt). open_ones l) (map-append (λ e. attempt_of e.1) i.before ((s, x) ∷ []))
      ∙ map-append (λ (a : Attempt). record { start = a.start; verdict = Open }) (attempts_in i.before)
      (attempt_of x ∷ []) in (
        record {
          before = i.before ++ (s, x) ∷ [];
          rest = steps.tail pool at s i.before i.rest i.stands is;
          stands = moved.0;
          tells =
              is-more ∙ ap (λ (l : List Decided). l ++ one ∷ []) i.tells
              ∙ append_assoc told (open_ones (attempts_in i.before)) (one ∷ [])
              ∙ ap (λ (l : List Decided). told ++ l) (sym all);
          room = omega (arith, longer, i.room, grown);
        },
        moved.1,
      )
