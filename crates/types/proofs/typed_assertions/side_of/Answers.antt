use Rattle.assertions.specs.Shapes.{written_form}
use Rattle.types_names.proofs.Lists.{when_ok}
use Rattle.types.proofs.MadeLaws.{ok_both, on_ok_map, side_of, used_by, list_by}
use Rattle.types.proofs.typed_assertions.side_of.Goals as goal

pub returns-clause-meant : goal.returns-clause-meant
returns-clause-meant c = λ booleans more w h.
    when_ok c.place_sequence.result
    (λ b p.
    side_of booleans c.place_sequence.new.places.items more c.args.entry.now c.in-Some.sequence w
    (written_form b.value) c.requires.light c.in-Some.is h
    (rw c.deref.ensures at p.0) p.1.0 (rw c.deref.ensures at p.1.1))
    (ok_both _ _ c.place_sequence.result (c.place_sequence.ensures.placed booleans more)
    (ok_both _ _ c.place_sequence.result c.place_sequence.ensures.listed c.place_sequence.ensures.form))

pub returns-clause-used : goal.returns-clause-used
returns-clause-used c = λ w h.
    on_ok_map c.place_sequence.result
    (λ f.
    used_by c.args.places.now.items c.place_sequence.new.places.items c.args.entry.now
    c.in-Some.sequence w c.requires.light c.in-Some.is h (rw c.deref.ensures at f))
    c.place_sequence.ensures.own

pub returns-clause-list : goal.returns-clause-list
returns-clause-list c =
    on_ok_map c.place_sequence.result
    (λ f.
    list_by c.args.places.now.items c.place_sequence.new.places.items c.args.entry.now
    c.in-Some.sequence c.in-Some.is (rw c.deref.ensures at f))
    c.place_sequence.ensures.list
