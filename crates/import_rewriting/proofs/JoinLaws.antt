-- What is joined in a sense.
use Rattle.std.proofs.Common.{◌≡◌, ℕ, ◌-◌, sym, subst}
use Rattle.assertions.specs.Written.{Written, kernel}
use Rattle.import_properties.specs.declared.condition.Condition.{Condition}
use Rattle.import_properties.specs.declared.condition.Condition.TheVariants.{One}
use Rattle.import_properties.specs.Properties.{Form, negated, both, either, implied, followed, each_later, some_later}
use Rattle.import_properties.proofs.FormLaws.{same-swap}
use Rattle.import_properties.proofs.RowLaws.{negated-both, negated-either, negated-implied, negated-each_later}
use Rattle.import_properties.proofs.RowLaws.{negated-some_later}
use Rattle.import_rewriting.specs.declared.sense.Sense.{Sense}
use Rattle.import_rewriting.specs.declared.sense.Sense.TheVariants.{Kept, Negated}
use Rattle.import_rewriting.specs.Sides.{Says}
use Rattle.import_rewriting.specs.Senses.{JoinsBoth, JoinsEither, JoinsImplied, JoinsEach, JoinsSome}
use Rattle.import_rewriting.proofs.SaysLaws.{says_same}
use Rattle.import_rewriting.proofs.EndsLaws.{Ends, Each, Both}

abbrev pub Either : Written Condition → Written Condition → Written Condition → Type 0
Either v w u =
    (bound : ℕ) (p q : Form Condition) → Says bound p v → Says bound q w → Says bound (either p q) u

abbrev pub Some : ℕ → ℕ → Written Condition → Written Condition → Type 0
Some least most v u =
    (bound : ℕ) (p : Form Condition) → Says bound p v → Says bound (some_later least (most - least) p) u

abbrev pub Followed : Written Condition → Written Condition → Written Condition → Type 0
Followed r v u = (bound : ℕ) (p : Form Condition) → Says bound p v → Says bound (followed (kernel One r) p) u

module _ (sense : Sense) (u v w : Written Condition) where
  pub kept_both : sense ≡ Kept → Both u v w → JoinsBoth sense u v w
  kept_both e h = subst (λ s. JoinsBoth s u v w) (sym e) (λ bound p q su sv. h bound p q su sv)

  pub kept_either : sense ≡ Kept → Either u v w → JoinsEither sense u v w
  kept_either e h = subst (λ s. JoinsEither s u v w) (sym e) (λ bound p q su sv. h bound p q su sv)

  pub negated_both : sense ≡ Negated → Either u v w → JoinsBoth sense u v w
  negated_both e h = subst (λ s. JoinsBoth s u v w) (sym e) (λ bound p q su sv.
      says_same bound (either (negated p) (negated q)) (negated (both p q)) w
      (same-swap (negated (both p q)) (either (negated p) (negated q)) (negated-both p q))
      (h bound (negated p) (negated q) su sv))

  pub negated_either : sense ≡ Negated → Both u v w → JoinsEither sense u v w
  negated_either e h = subst (λ s. JoinsEither s u v w) (sym e) (λ bound p q su sv.
      says_same bound (both (negated p) (negated q)) (negated (either p q)) w
      (same-swap (negated (either p q)) (both (negated p) (negated q)) (negated-either p q))
      (h bound (negated p) (negated q) su sv))

  pub kept_implied : sense ≡ Kept → Ends u v w → JoinsImplied sense u v w
  kept_implied e h = subst (λ s. JoinsImplied s u v w) (sym e) (λ bound p sv. h bound p sv)

  pub negated_implied : sense ≡ Negated → Followed u v w → JoinsImplied sense u v w
  negated_implied e h = subst (λ s. JoinsImplied s u v w) (sym e) (λ bound p sv.
      says_same bound (followed (kernel One u) (negated p)) (negated (implied (kernel One u) p)) w
      (same-swap (negated (implied (kernel One u) p)) (followed (kernel One u) (negated p))
      (negated-implied (kernel One u) p)) (h bound (negated p) sv))

module _ (sense : Sense) (least most : ℕ) (v w : Written Condition) where
  pub kept_each : sense ≡ Kept → Each least most v w → JoinsEach sense least most v w
  kept_each e h = subst (λ s. JoinsEach s least most v w) (sym e) (λ bound p sv. h bound p sv)

  pub kept_some : sense ≡ Kept → Some least most v w → JoinsSome sense least most v w
  kept_some e h = subst (λ s. JoinsSome s least most v w) (sym e) (λ bound p sv. h bound p sv)

  pub negated_each : sense ≡ Negated → Some least most v w → JoinsEach sense least most v w
  negated_each e h = subst (λ s. JoinsEach s least most v w) (sym e) (λ bound p sv.
      says_same bound (some_later least (most - least) (negated p)) (negated (each_later least (most - least) p)) w
      (same-swap (negated (each_later least (most - least) p)) (some_later least (most - least) (negated p))
      (negated-each_later least (most - least) p)) (h bound (negated p) sv))

  pub negated_some : sense ≡ Negated → Each least most v w → JoinsSome sense least most v w
  negated_some e h = subst (λ s. JoinsSome s least most v w) (sym e) (λ bound p sv.
      says_same bound (each_later least (most - least) (negated p)) (negated (some_later least (most - least) p)) w
      (same-swap (negated (some_later least (most - least) p)) (each_later least (most - least) (negated p))
      (negated-some_later least (most - least) p)) (h bound (negated p) sv))
