use Rattle.std.proofs.Common.{length, map, sym, ap, ◌∙◌}
use Rattle.std.proofs.lemmas.List.{length-map}
use Rattle.parser_grammar.specs.Trees.{DeclarationForm}
use Rattle.parser_grammar.specs.Views.{item_of}
use Rattle.types.specs.Views.{draft_of}
use Rattle.types_names.specs.Views.{scope_of, columns_in}
use Rattle.types.specs.Texts.{declarations_of}
use Rattle.types.specs.CycleStages.{AreOutlined}
use Rattle.types.proofs.BodyLaws.{bodies_in, outlined, body_count}
use Rattle.types.proofs.OutlineLaws.{all_declared}
use Rattle.types.proofs.StageLaws.{refused_memory, refused_same}
use Rattle.types.proofs.suite.entries_of.Goals as goal

pub resolve-requires : goal.resolve-requires
resolve-requires c =
    let items = map item_of c.args.items.now in
    rw c.as_slice.ensures.value
    (all_declared (scope_of c.args.scope.now) (columns_in c.args.columns.now) c.bodies_of.new.booleans.items
    (length (declarations_of items)) c.requires.declared (bodies_in (declarations_of items))
    (map draft_of c.in_ok-bodies.bodies.items) (length-map (declarations_of items) (λ (d : DeclarationForm). d.body))
    c.in_ok-bodies.ensures.read)

pub check_cycles-requires-clause-bytes : goal.check_cycles-requires-clause-bytes
check_cycles-requires-clause-bytes c =
    let items = map item_of c.args.items.now in
    ap length (c.as_slice-3.ensures.value ∙ c.in_ok-bytes.ensures)
    ∙ length-map (declarations_of items) (λ (d : DeclarationForm). d.name.at)
    ∙ sym (body_count (scope_of c.args.scope.now) (columns_in c.args.columns.now) c.bodies_of.new.booleans.items items
    c.in_ok-bodies.bodies.items c.in_ok-bodies.ensures.read) ∙ sym (ap length c.as_slice-2.ensures.value)

pub returns-in_err-check_cycles-clause-refused : goal.returns-in_err-check_cycles-clause-refused
returns-in_err-check_cycles-clause-refused c =
    let s = scope_of c.args.scope.now in
    let items = map item_of c.args.items.now in
    let o : AreOutlined s items (map draft_of c.as_slice-2.result.now) c.as_slice-3.result.now = record {
      outlines =
          rw c.as_slice-2.ensures.value
          (outlined s (columns_in c.args.columns.now) c.bodies_of.new.booleans.items items
          (map draft_of c.in_ok-bodies.bodies.items) c.in_ok-bodies.ensures.read);
      declared = c.as_slice-3.ensures.value ∙ c.in_ok-bytes.ensures;
    } in
    refused_same s items c.in_err-check_cycles.field-0.0 c.from_residual-in_err-check_cycles.result
    c.from_residual-in_err-check_cycles.ensures.1 (c.in_err-check_cycles.ensures.err s items o c.requires.clear)

pub returns-clause-long : goal.returns-clause-long
returns-clause-long c =
    let items = map item_of c.args.items.now in
    c.in_ok-table.ensures.long ∙ ap length c.as_slice.ensures.value
    ∙ body_count (scope_of c.args.scope.now) (columns_in c.args.columns.now) c.bodies_of.new.booleans.items items
    c.in_ok-bodies.bodies.items c.in_ok-bodies.ensures.read

pub returns-clause-clear : goal.returns-clause-clear
returns-clause-clear c =
    let s = scope_of c.args.scope.now in
    let items = map item_of c.args.items.now in
    let o : AreOutlined s items (map draft_of c.as_slice-2.result.now) c.as_slice-3.result.now = record {
      outlines =
          rw c.as_slice-2.ensures.value
          (outlined s (columns_in c.args.columns.now) c.bodies_of.new.booleans.items items
          (map draft_of c.in_ok-bodies.bodies.items) c.in_ok-bodies.ensures.read);
      declared = c.as_slice-3.ensures.value ∙ c.in_ok-bytes.ensures;
    } in
    c.in_ok-check_cycles.ensures.ok s items o c.requires.clear

pub returns-in_err-bodies-clause-refused : goal.returns-in_err-bodies-clause-refused
returns-in_err-bodies-clause-refused c =
    refused_memory (scope_of c.args.scope.now) (map item_of c.args.items.now) c.from_residual.result
    c.from_residual.ensures.1

pub returns-in_err-bytes-clause-refused : goal.returns-in_err-bytes-clause-refused
returns-in_err-bytes-clause-refused c =
    refused_memory (scope_of c.args.scope.now) (map item_of c.args.items.now) c.from_residual-in_err-bytes.result
    c.from_residual-in_err-bytes.ensures.1

pub returns-in_err-table-clause-refused : goal.returns-in_err-table-clause-refused
returns-in_err-table-clause-refused c =
    refused_memory (scope_of c.args.scope.now) (map item_of c.args.items.now) c.from_residual-in_err-table.result
    c.from_residual-in_err-table.ensures.1
