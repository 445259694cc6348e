-- The sample code of a program is typed: it runs over rows of one tick, in which all is 0 but the
-- constant.
use Rattle.std.proofs.Common.{◌≡◌, ◌∙◌, ℕ, zero, suc, ◌-◌, ◌%◌, ◌^◌, ◌<◌, ◌≤◌, List, [], ◌∷◌}
use Rattle.std.proofs.Common.{refl, sym, ap, arith}
use Rattle.std.specs.List.{AllByRecursion}
use Rattle.std.proofs.Math.Nat.{mod-eq_of_lt}
use Rattle.signals.proofs.Widths.{fits_wider}
use Rattle.expressions.specs.declared.name.Name.{Name}
use Rattle.expressions.specs.declared.name.Origin.{Origin}
use Rattle.expressions.specs.declared.name.Origin.TheVariants.{Signal, Counter}
use Rattle.expressions.specs.Terms.{Term, constant, named, slice, group, concat, inverse, reduce}
use Rattle.expressions.specs.Terms.{combine, shift, compare, connect, choose, past, change}
use Rattle.expressions.specs.Terms.{Samples, sample_at, name_at}
use Rattle.bytecode_programs.specs.declared.limits.Limits.{Limits}
use Rattle.machine_checked.specs.Samples.{nothing_made}
use Rattle.compiler.specs.Codes.{Slots, slot_of}
use Rattle.compiler.specs.Samples.{Held, held_slot, sample_need, sample_reach}
use Rattle.compiler.specs.Laws.{TellsSlot, TellsNames, AreTold}
use Rattle.compiler.specs.Laws.{program_terms, SamplesAreTyped}
use Rattle.compiler.proofs.Steps.{state}
use Rattle.compiler.proofs.Programs.{body, made_by, body-steps}
use Rattle.compiler.proofs.Tables.{typed-within}

-- one row: the constant slot holds 1, every other slot 0
abbrev rows : ℕ → ℕ → ℕ
rows zero zero = 1
rows zero (suc slot) = 0
rows (suc back) slot = 0

small : (slot : ℕ) → rows 0 slot < 2
small zero = omega arith
small (suc slot) = omega arith

before : (back slot : ℕ) → 0 < back → rows back slot ≡ 0
before zero slot h = absurd (omega (arith, h))
before (suc back) slot h = refl

-- the samples that these rows tell
abbrev samples : Slots → Samples
samples at =
    record {
      signal_at = λ place j. rows 0 (at Signal place);
      counter_at = λ place j. rows 0 (at Counter place);
    }

module _ (at : Slots) where
  sample-told :
      (origin : Origin) (place j : ℕ) →
      sample_at (samples at) origin place j ≡ rows 0 (at origin place)
  sample-told Signal place j = refl
  sample-told Counter place j = refl

  name-seen :
      (name : Name) (back : ℕ) → back ≤ 0 →
      rows back (slot_of at name) ≡ name_at (samples at) name (0 - back)
  name-seen name zero le =
      let held : ℕ = rows 0 (slot_of at name) in
      let fits : held < 2 ^ name.width =
      fits_wider held 1 name.width name.some_bits (small (slot_of at name)) in
      sym (ap (λ v. v % 2 ^ name.width) (sample-told name.origin name.place (0 - 0))
      ∙ mod-eq_of_lt fits)
  name-seen name (suc back) le = absurd (omega (arith, le))

  name-told : (name : Name) → TellsSlot rows 0 (slot_of at name) (name_at (samples at) name)
  name-told name =
      record { seen = name-seen name; before = λ back lt. before back (slot_of at name) lt }

  told : (e : Term) → TellsNames (samples at) at rows 0 e
  told (constant bits) = tt
  told (named name) = name-told name
  told (slice part) = name-told part.name
  told (group e) = (tt, told e)
  told (concat a b) = (tt, told a, told b)
  told (inverse e) = (tt, told e)
  told (reduce op e) = (tt, told e)
  told (combine op a b) = (tt, told a, told b)
  told (shift op a b) = (tt, told a, told b)
  told (compare op a b) = (tt, told a, told b)
  told (connect op a b) = (tt, told a, told b)
  told (choose c a b) = (tt, told c, told a, told b)
  told (past e ticks) = (tt, told e)
  told (change op e) = (tt, told e)

  all-told : (es : List Term) → AllByRecursion (TellsNames (samples at) at rows 0) es
  all-told [] = tt
  all-told (e ∷ es) = (told e, all-told es)

  counts-told :
      (hs : List Held) →
      AllByRecursion (λ h. rows 0 (held_slot at h) ≡ (samples at).counter_at h.place 0) hs
  counts-told [] = tt
  counts-told (h ∷ hs) = (refl, counts-told hs)

  counts-fit :
      (hs : List Held) →
      AllByRecursion (λ h. (samples at).counter_at h.place 0 < 2 ^ h.counter.width) hs
  counts-fit [] = tt
  counts-fit (h ∷ hs) = (
    fits_wider (rows 0 (held_slot at h)) 1 h.counter.width h.counter.some_bits
        (small (held_slot at h)),
    counts-fit hs,
  )

  ticks-seen : (back : ℕ) → back ≤ 0 → rows back 0 ≡ 1
  ticks-seen zero le = refl
  ticks-seen (suc back) le = absurd (omega (arith, le))

  pub quiet : (es : List Term) (hs : List Held) → AreTold (samples at) at rows 0 es hs
  quiet es hs = record {
    ticks = record { seen = ticks-seen; before = λ back lt. before back 0 lt };
    names = all-told (program_terms es hs);
    counts = counts-told hs;
    fit = counts-fit hs;
  }

-- the least that the code asks
abbrev pub asked : List Term → List Held → Limits
asked es hs =
    record {
      history = sample_reach es hs;
      stack = sample_need es hs;
      attempts = 0;
      obligations = 0;
      budget = 0;
    }

pub samples-are-typed : SamplesAreTyped
samples-are-typed f at es hs frame =
    typed-within f (asked es hs) rows (body at es hs) (state [] (nothing_made f))
    (state [] (made_by (samples at) 0 es hs))
    (body-steps f (asked es hs) (samples at) at rows 0 es hs frame (quiet at es hs) (omega arith)
    (omega arith)) refl refl
