use Rattle.std.proofs.lemmas.Result.{on_ok_weaker}
use Rattle.axi4_rules.specs.Rules.{counting}
use Rattle.axi4_rules.proofs.AddLaws.{and_then, nothing}
use Rattle.axi4_rules.proofs.writing.push_counting.Goals as goal

pub returns : goal.returns
unfolding counting
returns c =
    let counters = and_then (nothing c.in_ok-push_comment.ensures) c.in_ok-push_counters.ensures in
    on_ok_weaker c.push_responses.result (λ h. and_then counters (and_then (nothing c.in_ok-push_comment-2.ensures) h))
    c.push_responses.ensures
