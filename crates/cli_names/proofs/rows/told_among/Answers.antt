use Rattle.std.proofs.Common.{◌≡◌, ◌∙◌, ◌++◌, ◌∷◌, [], ℕ, List, false, true, map, refl, ap, subst}
use Rattle.std.proofs.lemmas.List.{map-append}
use Rattle.vcd_reader.specs.Variables.{names_of}
use Rattle.vcd_reader.specs.Held.{named_of}
use Rattle.vcd_declarations.specs.Declarations.{Declaration, declarations}
use Rattle.vcd_declarations.specs.Views.{left_in, scopes_in, fields_of, range_in}
use Rattle.cli_names.specs.Filters.{is_asked}
use Rattle.cli_names.specs.Names.{names_next}
use Rattle.cli_names.specs.Rows.{path_told, row_with, row_data}
use Rattle.cli_names.proofs.RowLaws.{IsAlong, along-start, along-end, along-skip, along-push, along-same}
use Rattle.cli_names.proofs.RowLaws.{next-told}
use Rattle.cli_names.proofs.rows.told_among.Goals as goal

pub variables-init : goal.variables-init
unfolding names_of
variables-init c =
    along-start c.args.filter.now (declarations c.args.bytes.now) (left_in c.new-header.result)
    (map named_of c.args.names.now) (map row_data c.new-rows.result.items) c.new-header.ensures c.requires
    (ap (map row_data) c.new-rows.ensures.items)

pub returns-in_default-clause-rows : goal.returns-in_default-clause-rows
returns-in_default-clause-rows c =
    let none = rw c.in_default.is at c.in_ok-variable.ensures in
    (along-end c.args.filter.now (declarations c.args.bytes.now) (left_in c.variables.header)
    (map named_of c.variables.left.now) (map row_data c.variables.rows.items) c.variables.total c.variables.invariant
    none.0).0

pub returns-in_default-clause-total : goal.returns-in_default-clause-total
returns-in_default-clause-total c =
    let none = rw c.in_default.is at c.in_ok-variable.ensures in
    (along-end c.args.filter.now (declarations c.args.bytes.now) (left_in c.variables.header)
    (map named_of c.variables.left.now) (map row_data c.variables.rows.items) c.variables.total c.variables.invariant
    none.0).1

pub variables-preserved-then-not-asks : goal.variables-preserved-then-not-asks
variables-preserved-then-not-asks c =
    let f = c.args.filter.now in
    let ds = declarations c.args.bytes.now in
    let names = map named_of c.variables.left.now in
    let rows = map row_data c.variables.rows.items in
    let total = c.variables.total in
    let later = left_in c.next.new.self in
    let d : Declaration = record { scopes = scopes_in c.next.new.self; fields = fields_of c.in-Some.variable } in
    let next = rw c.in-Some.is at c.in_ok-variable.ensures in
    let a = subst (λ (l : List Declaration). IsAlong f ds l names rows total) next c.variables.invariant in
    let spelled = c.in_ok-spelling.ensures.path in
    let itself = c.is_next-itself.ensures ∙ ap (names_next names) (c.path.ensures ∙ spelled)
    ∙ next-told f ds d later names rows total a in
    let out : false ≡ is_asked f (path_told d) =
    c.if-not-asks.ensures ∙ ap (is_asked f) (c.path-in-variables.ensures ∙ spelled) in
    along-same f ds later _ (map named_of c.names_after-left.result.now) rows rows _ c.saturating_add-total.result
    c.names_after-left.ensures refl c.saturating_add-total.ensures
    (along-skip f ds d later names rows total a c.is_next-itself.result itself out)

pub variables-preserved : goal.variables-preserved
variables-preserved c =
    let f = c.args.filter.now in
    let ds = declarations c.args.bytes.now in
    let names = map named_of c.variables.left.now in
    let rows = map row_data c.variables.rows.items in
    let total = c.variables.total in
    let later = left_in c.next.new.self in
    let d : Declaration = record { scopes = scopes_in c.next.new.self; fields = fields_of c.in-Some.variable } in
    let next = rw c.in-Some.is at c.in_ok-variable.ensures in
    let a = subst (λ (l : List Declaration). IsAlong f ds l names rows total) next c.variables.invariant in
    let spelled = c.in_ok-spelling.ensures.path in
    let itself = c.is_next-itself.ensures ∙ ap (names_next names) (c.path.ensures ∙ spelled)
    ∙ next-told f ds d later names rows total a in
    let asked : true ≡ is_asked f (path_told d) =
    c.if-not-asks.ensures ∙ ap (is_asked f) (c.path-in-variables.ensures ∙ spelled) in
    let row = row_data c.in_ok-row_of.field-0 in
    let told = c.in_ok-row_of.ensures
    ∙ ap (λ (p : List ℕ). row_with p (range_in c.in_ok-spelling.spelling) d.fields c.is_next-itself.result) spelled
    ∙ ap (λ (r : List ℕ). row_with (path_told d) r d.fields c.is_next-itself.result) c.in_ok-spelling.ensures.range in
    let pushed : map row_data c.push.new.self.items ≡ rows ++ row ∷ [] =
    ap (map row_data) c.in_ok-push.ensures.items
    ∙ map-append row_data c.variables.rows.items (c.in_ok-row_of.field-0 ∷ []) in
    along-same f ds later _ (map named_of c.names_after-left.result.now) (rows ++ row ∷ [])
    (map row_data c.push.new.self.items) _ c.saturating_add-total.result c.names_after-left.ensures pushed
    c.saturating_add-total.ensures
    (along-push f ds d later names rows total a c.is_next-itself.result row itself asked told)
