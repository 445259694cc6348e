use Rattle.std.proofs.Common.{length, map, ap, arith}
use Rattle.parser_grammar.specs.Views.{item_of}
use Rattle.types_names.specs.Views.{scope_of, columns_in}
use Rattle.types_names.proofs.ColumnLaws.{columns-all}
use Rattle.types.specs.Sides.{sides_in, consequents_in}
use Rattle.types.specs.Sides.{AreWeighed}
use Rattle.types.specs.Readings.{outlines_of}
use Rattle.types.specs.Faults.{sides_of, consequents_of}
use Rattle.types.specs.Texts.{declarations_of, assertions_of}
use Rattle.types.proofs.BodyLaws.{outlined, bodies_stay}
use Rattle.types.proofs.WeighLaws.{sides_weighed, consequents_weighed, sides_fit, sides_known}
use Rattle.types.proofs.StageLaws.{clear_sound, refused_memory, refused_same}
use Rattle.types.proofs.suite.resolved_of.Goals as goal

pub entries_of-requires-clause-sound : goal.entries_of-requires-clause-sound
entries_of-requires-clause-sound c =
    clear_sound (scope_of c.args.scope.now) (map item_of c.args.items.now) c.requires.clear

pub entries_of-requires-clause-listed : goal.entries_of-requires-clause-listed
entries_of-requires-clause-listed c =
    rw c.requires.columns (columns-all (scope_of c.args.scope.now) (map item_of c.args.items.now))

pub all_resolved-requires-clause-sound : goal.all_resolved-requires-clause-sound
all_resolved-requires-clause-sound c =
    clear_sound (scope_of c.args.scope.now) (map item_of c.args.items.now) c.requires.clear

pub all_resolved-requires-clause-listed : goal.all_resolved-requires-clause-listed
all_resolved-requires-clause-listed c =
    rw c.requires.columns (columns-all (scope_of c.args.scope.now) (map item_of c.args.items.now))

pub all_resolved-requires-clause-declared : goal.all_resolved-requires-clause-declared
all_resolved-requires-clause-declared c =
    λ t p h. omega (arith, c.requires.declared t p h, c.in_ok-table.ensures.long, ap length c.as_slice.ensures.value)

pub check_resolved-requires : goal.check_resolved-requires
check_resolved-requires c =
    let h = c.in_ok-table.ensures.bodies in
    rw c.as_slice-2.ensures.value
    (sides_known (scope_of c.args.scope.now) (columns_in c.args.columns.now) c.all_resolved.new.booleans.items h.bodies
    (assertions_of (map item_of c.args.items.now)) c.in_ok-resolved.resolved.items 0
    (c.in_ok-resolved.ensures.resolved h.bodies (rw c.as_slice.ensures.value h.entries)))

pub returns-in_err-resolved-clause-refused : goal.returns-in_err-resolved-clause-refused
returns-in_err-resolved-clause-refused c =
    refused_memory (scope_of c.args.scope.now) (map item_of c.args.items.now) c.from_residual-in_err-resolved.result
    c.from_residual-in_err-resolved.ensures.1

pub returns-in_err-check_resolved-clause-refused : goal.returns-in_err-check_resolved-clause-refused
returns-in_err-check_resolved-clause-refused c =
    let s = scope_of c.args.scope.now in
    let items = map item_of c.args.items.now in
    let cs = columns_in c.args.columns.now in
    let e = c.all_resolved.new.booleans.items in
    let h = c.in_ok-table.ensures.bodies in
    let bodies = h.bodies in
    let now = c.entries_of.new.booleans.items in
    let all = c.in_ok-resolved.ensures.resolved bodies (rw c.as_slice.ensures.value h.entries) in
    let same = outlined s cs now items bodies h.read in
    let resolved = c.in_ok-resolved.resolved.items in
    let sides : AreWeighed (outlines_of s items) (sides_of s (assertions_of items)) (sides_in c.as_slice-2.result.now) =
    rw c.as_slice-2.ensures.value
    (sides_weighed s cs e bodies (outlines_of s items) same (assertions_of items) resolved 0 all) in
    let consequents : AreWeighed (outlines_of s items) (consequents_of s (assertions_of items))
    (consequents_in c.as_slice-2.result.now) =
    rw c.as_slice-2.ensures.value
    (consequents_weighed s cs e bodies (outlines_of s items) same (assertions_of items) resolved 0 all) in
    refused_same s items c.in_err-check_resolved.field-0.0 c.from_residual-in_err-check_resolved.result
    c.from_residual-in_err-check_resolved.ensures.1
    (c.in_err-check_resolved.ensures.err s items c.in_ok-table.ensures.clear sides consequents)

pub returns-clause-faultless : goal.returns-clause-faultless
returns-clause-faultless c =
    let s = scope_of c.args.scope.now in
    let items = map item_of c.args.items.now in
    let cs = columns_in c.args.columns.now in
    let e = c.all_resolved.new.booleans.items in
    let h = c.in_ok-table.ensures.bodies in
    let all = c.in_ok-resolved.ensures.resolved h.bodies (rw c.as_slice.ensures.value h.entries) in
    let same = outlined s cs c.entries_of.new.booleans.items items h.bodies h.read in
    let resolved = c.in_ok-resolved.resolved.items in
    c.in_ok-check_resolved.ensures.ok s items c.in_ok-table.ensures.clear
    (rw c.as_slice-2.ensures.value
    (sides_weighed s cs e h.bodies (outlines_of s items) same (assertions_of items) resolved 0 all))
    (rw c.as_slice-2.ensures.value
    (consequents_weighed s cs e h.bodies (outlines_of s items) same (assertions_of items) resolved 0 all))

pub returns-clause-resolved : goal.returns-clause-resolved
returns-clause-resolved c =
    let s = scope_of c.args.scope.now in
    let items = map item_of c.args.items.now in
    let cs = columns_in c.args.columns.now in
    let h = c.in_ok-table.ensures.bodies in
    let all = c.in_ok-resolved.ensures.resolved h.bodies (rw c.as_slice.ensures.value h.entries) in
    let same = outlined s cs c.entries_of.new.booleans.items items h.bodies h.read in
    record {
      bodies = h.bodies;
      read = bodies_stay s cs _ _ c.in_ok-resolved.ensures.grows (declarations_of items) h.bodies h.read;
      made = all;
      fit =
          sides_fit s cs c.all_resolved.new.booleans.items h.bodies (outlines_of s items) same (assertions_of items)
          c.in_ok-resolved.resolved.items 0 all (rw c.as_slice-2.ensures.value at c.in_ok-check_resolved.ensures.light);
    }
