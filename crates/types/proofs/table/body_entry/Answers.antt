use Rattle.std.proofs.Common.{map, sym, ap, ◌∙◌, Some}
use Rattle.std.specs.Prelude.{option_map}
use Rattle.std.proofs.lemmas.Option.{slice_get-map, slice_get-get_or}
use Rattle.types.specs.Views.{draft_of}
use Rattle.types.proofs.EntryLaws.{ok_map, some_map}
use Rattle.types.proofs.TableLaws.{entry_of_body}
use Rattle.types.proofs.table.body_entry.Goals as goal

pub returns-clause-entry : goal.returns-clause-entry
returns-clause-entry c =
    let found =
    slice_get-map draft_of c.args.bodies.now c.args.place
    ∙ ap (option_map draft_of)
    (slice_get-get_or c.args.bodies.now c.args.place c.index-bodies-place.result c.requires
    ∙ ap Some (sym c.index-bodies-place.is)) in
    ok_map c.entry_of.result _ _
    (λ o. some_map o _ _
    (λ e made table. entry_of_body (map draft_of c.args.bodies.now) c.args.place
    (draft_of c.index-bodies-place.result) e found (made (map draft_of c.args.bodies.now) table)))
    c.entry_of.ensures.entry
