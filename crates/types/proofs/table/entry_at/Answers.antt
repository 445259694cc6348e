use Rattle.std.proofs.Common.{sym, ap, ◌∙◌, Some}
use Rattle.std.proofs.lemmas.Option.{slice_get-get_or, slice_get_past}
use Rattle.types.specs.Entries.{is_entry}
use Rattle.types.proofs.SpellLaws.{has_name}
use Rattle.types.proofs.table.entry_at.Goals as goal

pub returns-in_ok-copy-in-Some-Some-clause-entry :
    goal.returns-in_ok-copy-in-Some-Some-clause-entry
returns-in_ok-copy-in-Some-Some-clause-entry c = λ bodies table.
    let e = c.in-Some-Some.ensures.lookup in
    let found =
    slice_get-get_or c.args.table.now c.args.place c.in-Some-Some.field-0.now e.3.0
    ∙ ap Some (sym e.1 ∙ c.in-Some-Some.field-0-is) in
    has_name bodies c.args.place c.in-Some-Some.entry c.in_ok-copy-in-Some-Some.field-0
    (table c.args.place c.in-Some-Some.entry found) c.in_ok-copy-in-Some-Some.ensures

pub returns-in-Some-None-clause-lacking : goal.returns-in-Some-None-clause-lacking
returns-in-Some-None-clause-lacking c =
    let e = c.in-Some-None.ensures.lookup in
    let found =
    slice_get-get_or c.args.table.now c.args.place c.in-Some-None.field-0.now e.3.0
    ∙ ap Some (sym e.1 ∙ c.in-Some-None.field-0-is) in
    ap is_entry found

pub returns-in-None-clause-lacking : goal.returns-in-None-clause-lacking
returns-in-None-clause-lacking c =
    let e = c.in-None.ensures.lookup in ap is_entry (slice_get_past c.args.table.now c.args.place e.3)
