use Rattle.std.proofs.Common.{ℕ, string_bytes, subst}
use Rattle.report_forms.specs.Grown.{Grows}
use Rattle.report_forms.proofs.PieceLaws.{and_then}
use Rattle.report_explained.specs.ExplainedText.{ends_text}
use Rattle.report_page.specs.Pictures.{led_text}
use Rattle.report_page.proofs.picture.push_led.Goals as goal

pub returns : goal.returns
unfolding led_text
returns c =
    let ends = subst (λ (n : ℕ). Grows (string_bytes c.push_text.new.text) (string_bytes c.push_ends.new.text)
    (ends_text n c.args.picture.now.ends.now)) c.back.ensures c.in_ok-push_ends.ensures in
    and_then (and_then (and_then c.in_ok-push_text.ensures ends) c.in_ok-push_number.ensures)
    c.in_ok-push_text-2.ensures
