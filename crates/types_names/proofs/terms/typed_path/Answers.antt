use Rattle.parser_grammar.specs.Views.{path_of}
use Rattle.types_names.specs.declared.own.Sought.TheVariants.{Unknown, OutOfRange}
use Rattle.types_names.specs.Scopes.{path_text, first_byte, meaning, bits_of}
use Rattle.types_names.specs.Columns.{column_of}
use Rattle.types_names.specs.Views.{scope_of, columns_in}
use Rattle.types_names.proofs.TypedLaws.{known-path, has-bits, read-whole, read-part}
use Rattle.types_names.proofs.terms.typed_path.Goals as goal

pub path_name-requires-clause-known : goal.path_name-requires-clause-known
path_name-requires-clause-known c =
    known-path (first_byte (path_of c.args.path.now))
    (bits_of (meaning (scope_of c.args.scope.now) (path_of c.args.path.now))) c.args.select (c.requires.sound Unknown)

pub slice_of-requires : goal.slice_of-requires
slice_of-requires c =
    has-bits (meaning (scope_of c.args.scope.now) (path_of c.args.path.now))
    (column_of (columns_in c.args.columns.now) (path_text (path_of c.args.path.now))) c.in_ok-name.name
    (first_byte (path_of c.args.path.now)) c.args.select c.in-Some.select c.in-Some.is c.in_ok-name.ensures
    (c.requires.sound OutOfRange)

pub returns-in-None : goal.returns-in-None
returns-in-None c =
    read-whole (meaning (scope_of c.args.scope.now) (path_of c.args.path.now))
    (column_of (columns_in c.args.columns.now) (path_text (path_of c.args.path.now))) c.args.select
    c.in_ok-name.name _ c.in-None.is c.in_ok-name.ensures c.name.ensures

pub returns-in-Some : goal.returns-in-Some
returns-in-Some c =
    read-part (meaning (scope_of c.args.scope.now) (path_of c.args.path.now))
    (column_of (columns_in c.args.columns.now) (path_text (path_of c.args.path.now))) c.args.select
    c.in-Some.select c.in_ok-name.name c.slice_of.result _ c.in-Some.is c.in_ok-name.ensures
    c.slice_of.ensures.name c.slice_of.ensures.high c.slice_of.ensures.low c.slice.ensures
