use Rattle.std.proofs.Common.{ℕ, List, subst}
use Rattle.std.specs.Prelude.{flat_map}
use Rattle.report_explained.specs.declared.failed_attempt.FailedAttempt.{FailedAttempt}
use Rattle.report_forms.specs.Grown.{Grows}
use Rattle.report_forms.specs.Provenances.{provenance_of}
use Rattle.report_forms.proofs.PieceLaws.{and_then}
use Rattle.report_gtkwave.specs.Saves.{pair_text, markers_text, unset_text}
use Rattle.report_gtkwave.proofs.markers.push_markers.Goals as goal

pub returns : goal.returns
unfolding markers_text
returns c =
    let p = provenance_of c.args.from.now in
    let primary = c.push_primary.new.out.items in
    let paired = c.push_pairs.new.out.items in
    let pairs =
    subst (λ (l : List FailedAttempt). Grows primary paired (flat_map (pair_text p c.args.scale) l)) c.marked.ensures
    c.in_ok-push_pairs.ensures in
    let unset =
    subst (λ (n : ℕ). Grows paired c.push_unset.new.out.items (unset_text n)) c.saturating_sub.ensures
    c.in_ok-push_unset.ensures in
    and_then (and_then c.in_ok-push_primary.ensures pairs) unset
