use Rattle.std.proofs.Common.{◌≡◌, ◌≢◌, ℕ, Bool, true, false, if◌then◌else◌, not, ◌&&◌, ◌||◌, refl, sym, ap, ◌∙◌}
use Rattle.std.proofs.Common.{bit_or}
use Rattle.std.specs.Prelude.{◌==◌}
use Rattle.std.proofs.lemmas.Bool.{eq-eqb, ne_eqb}
use lib.Bits.{or_zero_r}
use Rattle.machine_checked.specs.Clocks.{Fate, is_broken}
use Rattle.machine.specs.Marks.{is_fate_open, mark_of, fate_mark}
use Rattle.machine.specs.Records.{fate_of}
use Rattle.machine.proofs.fates.Fates.note.Goals as goal

-- nothing is noted where the test fails
unmarked : (passes : Fate → Bool) (now : ℕ) (f : Fate) (set : ℕ) → passes f ≡ false
    → set ≡ bit_or set (fate_mark passes now f)
unmarked passes now f set off =
    sym (ap (λ (b : Bool). bit_or set (if b then mark_of now f.tick else 0)) off ∙ or_zero_r set)

or-left : (a b : Bool) → a ≡ true → (a || b) ≡ true
or-left a b h = ap (λ (x : Bool). x || b) h

and-left : (a b : Bool) → a ≡ false → (a && b) ≡ false
and-left a b h = ap (λ (x : Bool). x && b) h

module _ (f : Fate) where
  kept-open : f.kept ≡ true → is_fate_open f ≡ false
  kept-open h = ap not (or-left f.kept (f.positions == 0) h)

  kept-broken : f.kept ≡ true → is_broken f ≡ false
  kept-broken h = and-left (not f.kept) (f.positions == 0) (ap not h)

  gone-open : f.positions ≡ 0 → is_fate_open f ≡ false
  gone-open h = ap (λ (b : Bool). not (f.kept || b)) (eq-eqb f.positions 0 h) ∙ last f.kept
    where
      last : (b : Bool) → not (b || true) ≡ false
      last true = refl
      last false = refl

  left-broken : f.positions ≢ 0 → is_broken f ≡ false
  left-broken h = ap (λ (b : Bool). not f.kept && b) (ne_eqb f.positions 0 h) ∙ last (not f.kept)
    where
      last : (b : Bool) → (b && false) ≡ false
      last true = refl
      last false = refl

pub returns-then-visit-clause-open : goal.returns-then-visit-clause-open
returns-then-visit-clause-open c =
    let f = fate_of c.args.obligation c.args.visit in unmarked is_fate_open c.args.now f c.args.self.now.open_ticks
    (kept-open f c.if-visit.true)

pub returns-then-visit-clause-broken : goal.returns-then-visit-clause-broken
returns-then-visit-clause-broken c =
    let f = fate_of c.args.obligation c.args.visit in unmarked is_broken c.args.now f c.args.self.now.broken_ticks
    (kept-broken f c.if-visit.true)

pub returns-then-visit-eq0-clause-open : goal.returns-then-visit-eq0-clause-open
returns-then-visit-eq0-clause-open c =
    let f = fate_of c.args.obligation c.args.visit in unmarked is_fate_open c.args.now f c.args.self.now.open_ticks
    (gone-open f c.if-visit-eq0.true)

pub returns-else-visit-eq0-clause-broken : goal.returns-else-visit-eq0-clause-broken
returns-else-visit-eq0-clause-broken c =
    let f = fate_of c.args.obligation c.args.visit in unmarked is_broken c.args.now f c.args.self.now.broken_ticks
    (left-broken f c.if-visit-eq0.false)
