use Rattle.std.proofs.Common.{ℕ, List, refl, subst}
use Rattle.cli_names.specs.Faults.{WhyNoTableOver, WhyTableUnwritten}
use Rattle.cli_names.specs.Told.{IsTableOf, WhyNotTold}
use Rattle.cli_names.proofs.ToldLaws.{err_is, untold, cut_short}
use Rattle.cli_names.proofs.names.names_one.Goals as goal

pub returns-in_err-bytes-clause-refused : goal.returns-in_err-bytes-clause-refused
returns-in_err-bytes-clause-refused g c =
    let before = g.S.Source.state c.args.source.now in
    let after = g.S.Source.state c.bytes_of.new.source in
    let out = g.W.Sink.state c.args.out.now in
    let fault = c.in_err-bytes.field-0.0 in
    err_is c.from_residual.result fault (WhyNotTold before after out out c.args.filter.now) c.from_residual.ensures.1
    (untold before after out out c.args.filter.now refl fault c.in_err-bytes.ensures.refused)

pub returns-in_err-table-clause-refused : goal.returns-in_err-table-clause-refused
returns-in_err-table-clause-refused g c =
    let before = g.S.Source.state c.args.source.now in
    let after = g.S.Source.state c.bytes_of.new.source in
    let out = g.W.Sink.state c.args.out.now in
    let fault = c.in_err-table.field-0.0 in
    let none = subst (λ (bs : List ℕ). WhyNoTableOver bs fault) c.deref.ensures.value c.in_err-table.ensures.refused in
    err_is c.from_residual-in_err-table.result fault (WhyNotTold before after out out c.args.filter.now)
    c.from_residual-in_err-table.ensures.1
    (untold before after out out c.args.filter.now refl fault
    (none before after c.in_ok-bytes.ensures.gave c.in_ok-bytes.ensures.counted))

pub returns-in_err-write_table-clause-refused : goal.returns-in_err-write_table-clause-refused
returns-in_err-write_table-clause-refused g c =
    let before = g.S.Source.state c.args.source.now in
    let after = g.S.Source.state c.bytes_of.new.source in
    let held = g.W.Sink.state c.args.out.now in
    let holds = g.W.Sink.state c.write_table.new.out in
    let asked = c.args.filter.now in
    let table = c.in_ok-table.table.items in
    let count = c.in_ok-table.count in
    let fault = c.in_err-write_table.field-0.0 in
    err_is c.from_residual-in_err-write_table.result fault (WhyNotTold before after held holds asked)
    c.from_residual-in_err-write_table.ensures.1
    (cut_short before after held holds asked c.in_ok-bytes.bytes.items table count c.in_ok-bytes.ensures.gave
    c.in_ok-bytes.ensures.counted
    (subst (λ (bs : List ℕ). IsTableOf asked bs table count) c.deref.ensures.value c.in_ok-table.ensures.told) fault
    (subst (λ (t : List ℕ). WhyTableUnwritten held holds t fault) c.deref-2.ensures.value
    c.in_err-write_table.ensures.refused))
