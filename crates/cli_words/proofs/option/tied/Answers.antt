use Rattle.std.proofs.Common.{◌≡◌, ◌∙◌, sym, ap}
use Rattle.std.proofs.lemmas.Result.{IfOk-weaker}
use Rattle.clap.specs.Words.{Rule}
use Rattle.cli_words.specs.declared.row.Tie.{Tie}
use Rattle.cli_words.specs.Rows.{tie_rule}
use Rattle.cli_words.proofs.CommandLaws.{unless_one, tied_by_others, tied_by_a_want}
use Rattle.cli_words.proofs.option.tied.Goals as goal

by_tie : (t u : Tie) (r o : Rule) → t ≡ u → o ≡ tie_rule u r → o ≡ tie_rule t r
by_tie t u r o is rule = rule ∙ sym (ap (λ (x : Tie). tie_rule x r) is)

pub returns-in-UnlessPorts-clause-rule : goal.returns-in-UnlessPorts-clause-rule
returns-in-UnlessPorts-clause-rule c =
    IfOk-weaker c.required_unless_present.result _ _
    (λ r h. by_tie c.args.tie _ _ _ c.in-UnlessPorts.is (unless_one c.args.option r _ _ h))
    c.required_unless_present.ensures

pub returns-in-UnlessPortsOrTeam-clause-rule : goal.returns-in-UnlessPortsOrTeam-clause-rule
returns-in-UnlessPortsOrTeam-clause-rule c =
    IfOk-weaker c.required_unless_present_any.result _ _
    (λ r h. by_tie c.args.tie _ _ _ c.in-UnlessPortsOrTeam.is (unless_one c.args.option r _ _ h))
    c.required_unless_present_any.ensures

pub returns-in-NotBesideText-clause-rule : goal.returns-in-NotBesideText-clause-rule
returns-in-NotBesideText-clause-rule c =
    IfOk-weaker c.conflicts_with_all.result _ _
    (λ r h. by_tie c.args.tie _ _ _ c.in-NotBesideText.is (tied_by_others c.args.option r _ _ h))
    c.conflicts_with_all.ensures

pub returns-in_ok-requires_arg-in-WithTeam-clause-rule : goal.returns-in_ok-requires_arg-in-WithTeam-clause-rule
returns-in_ok-requires_arg-in-WithTeam-clause-rule c =
    let wanting = c.in_ok-requires_arg-in-WithTeam in
    IfOk-weaker c.conflicts_with_all-in-WithTeam.result _ _
    (λ r h. by_tie c.args.tie _ _ _ c.in-WithTeam.is
    (tied_by_others wanting.field-0 r _ _ h ∙ tied_by_a_want c.args.option wanting.field-0 _ wanting.ensures))
    c.conflicts_with_all-in-WithTeam.ensures
