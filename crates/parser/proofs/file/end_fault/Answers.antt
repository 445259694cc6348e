use Rattle.std.proofs.Common.{sym, ◌∙◌}
use Rattle.parser.proofs.FileLaws.{no-end, other-end, behind-end, found, no-assertion}
use Rattle.parser.proofs.file.end_fault.Goals as goal

pub returns-in_default-clause-file : goal.returns-in_default-clause-file
returns-in_default-clause-file c = λ xs read said. no-end _ _ _ read _ c.in_default.ensures

pub returns-then-not-is-clause-file : goal.returns-then-not-is-clause-file
returns-then-not-is-clause-file c =
    λ xs read said. other-end _ _ _ read _ _ c.in-Some.ensures _ c.if-not-is.ensures

pub returns-in-Some-first-clause-file : goal.returns-in-Some-first-clause-file
returns-in-Some-first-clause-file c =
    λ xs read said. behind-end _ _ _ read _ _ c.in-Some.ensures _
    (λ none. let more = sym c.in-Some-first.ensures ∙ none in absurd cc)

pub returns-then-not-asserted-clause-file : goal.returns-then-not-asserted-clause-file
returns-then-not-asserted-clause-file c =
    λ xs read said. no-assertion _ _ _ read _ (sym c.if-not-asserted.true ∙ said)

pub returns-clause-file : goal.returns-clause-file
returns-clause-file c =
    λ xs read said. found _ _ _ read _ _ c.in-Some.ensures c.if-not-is.ensures c.in_default-first.ensures
    (sym c.if-not-asserted.false ∙ said)
