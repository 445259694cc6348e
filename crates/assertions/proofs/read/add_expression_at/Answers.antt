use Rattle.std.proofs.Common.{length, refl, sym}
use Rattle.std.proofs.lemmas.Option.{slice_get_read}
use Rattle.std.proofs.lemmas.Bool.{ltb-true}
use Rattle.assertions.proofs.ReadLaws.{no-expression}
use Rattle.assertions.proofs.read.add_expression_at.Goals as goal

pub returns-in-None : goal.returns-in-None
returns-in-None c = no-expression c.args.all.now c.args.place c.in-None.ensures.lookup.3 c.args.names.now.items

pub returns-in-Some : goal.returns-in-Some
returns-in-Some c =
    let e = c.in-Some.ensures.lookup in
    rw (slice_get_read c.args.all.now (length c.args.all.now) c.args.place c.in-Some.expression.now refl
    (ltb-true c.args.place (length c.args.all.now) (sym e.0)) e.1) c.add_expression.ensures
