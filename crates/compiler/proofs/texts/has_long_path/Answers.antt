use Rattle.std.proofs.Common.{◌||◌, refl, ap, sym, ◌∙◌}
use Rattle.std.specs.List.{list_any}
use Rattle.std.specs.Prelude.{slice_index}
use Rattle.std.proofs.lemmas.List.{take_all}
use Rattle.std.proofs.lemmas.List.Folds.{list_any_more}
use Rattle.compiler.specs.Faults.{is_long_path}
use Rattle.compiler.proofs.texts.has_long_path.Goals as goal

pub loop-place-init : goal.loop-place-init
loop-place-init c = refl

pub loop-place-preserved : goal.loop-place-preserved
loop-place-preserved c =
    list_any_more (is_long_path c.args.signals.now) c.args.places.now c.loop-place.place-index 0 c.loop-place-test.true
    ∙ ap (λ b. b || is_long_path c.args.signals.now (slice_index c.args.places.now c.loop-place.place-index))
    c.loop-place.invariant
    ∙ sym c.if-is_long_path.ensures

pub returns : goal.returns
returns c =
    sym (ap (list_any (is_long_path c.args.signals.now))
    (sym (take_all c.loop-place.place-index c.args.places.now c.loop-place-test.false))
    ∙ c.loop-place.invariant)
