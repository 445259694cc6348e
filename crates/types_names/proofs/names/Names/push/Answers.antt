use Rattle.std.proofs.Common.{◌≡◌, sym, refl, ◌∙◌, rules}
use Rattle.types_names.specs.declared.width.Width.{Width}
use Rattle.types_names.specs.Views.{widths_of}
use Rattle.types_names.proofs.EntryLaws.{found-stays, found-grows, same-found}
use Rattle.types_names.proofs.names.Names.push.Goals as goal

pub returns-then-contains_key-clause-ok : goal.returns-then-contains_key-clause-ok
unfolding widths_of
returns-then-contains_key-clause-ok c =
    found-stays (λ (w : Width). w.bits) c.args.self.now.widths c.args.path.now c.args.width
    (sym c.contains_key.ensures ∙ c.if-contains_key.true)

pub returns-clause-ok : goal.returns-clause-ok
unfolding widths_of
returns-clause-ok c =
    found-grows (λ (w : Width). w.bits) c.args.self.now.widths c.args.path.now c.insert.new.self c.in_ok-key.key _
    c.in_ok-key.ensures.ok (sym c.contains_key.ensures ∙ c.if-contains_key.false) c.in_ok-insert.ensures.updates

pub returns-in_err-insert-clause-err : goal.returns-in_err-insert-clause-err
unfolding widths_of
returns-in_err-insert-clause-err c =
    let same : widths_of (record { widths = c.insert.new.self }) ≡ widths_of c.args.self.now =
    same-found _ (widths_of c.args.self.now) (λ q. rw c.in_err-insert.ensures.err refl) in search rules
