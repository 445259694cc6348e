use Rattle.std.proofs.lemmas.Result.{IfOk-weaker}
use Rattle.cli_words.proofs.CommandLaws.{of_name}
use Rattle.cli_words.proofs.read.named_request.Goals as goal

pub returns-in-check : goal.returns-in-check
returns-in-check c = IfOk-weaker c.check_request.result _ _ (of_name c.in-check.is) c.check_request.ensures

pub returns-in-build : goal.returns-in-build
returns-in-build c = IfOk-weaker c.build_request.result _ _ (of_name c.in-build.is) c.build_request.ensures

pub returns-in-verify : goal.returns-in-verify
returns-in-verify c = IfOk-weaker c.verify_request.result _ _ (of_name c.in-verify.is) c.verify_request.ensures

pub returns-in-run : goal.returns-in-run
returns-in-run c = IfOk-weaker c.run_request.result _ _ (of_name c.in-run.is) c.run_request.ensures

pub returns-in-judge : goal.returns-in-judge
returns-in-judge c = IfOk-weaker c.judge_request.result _ _ (of_name c.in-judge.is) c.judge_request.ensures

pub returns-in-rules : goal.returns-in-rules
returns-in-rules c = IfOk-weaker c.rules_request.result _ _ (of_name c.in-rules.is) c.rules_request.ensures

pub returns-in-upgrade : goal.returns-in-upgrade
returns-in-upgrade c = IfOk-weaker c.upgrade_request.result _ _ (of_name c.in-upgrade.is) c.upgrade_request.ensures

pub returns-in-explain : goal.returns-in-explain
returns-in-explain c = IfOk-weaker c.explain_request.result _ _ (of_name c.in-explain.is) c.explain_request.ensures

pub returns-in-lint : goal.returns-in-lint
returns-in-lint c = IfOk-weaker c.lint_request.result _ _ (of_name c.in-lint.is) c.lint_request.ensures

pub returns-in-names : goal.returns-in-names
returns-in-names c = IfOk-weaker c.names_request.result _ _ (of_name c.in-names.is) c.names_request.ensures

pub returns-in-import : goal.returns-in-import
returns-in-import c = IfOk-weaker c.import_request.result _ _ (of_name c.in-import.is) c.import_request.ensures
