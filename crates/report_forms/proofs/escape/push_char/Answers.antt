use Rattle.std.proofs.Common.{ap, sym}
use Rattle.std.specs.Prelude.{codes, encode_utf8_all}
use Rattle.std.proofs.Common.{arith}
use Rattle.std.specs.Char.{encode_utf8}
use Rattle.report_forms.specs.Escapes.{escaped_char}
use Rattle.report_forms.proofs.EscapeLaws.{added, plain_bytes}
use Rattle.report_forms.proofs.escape.push_char.Goals as goal

pub returns-in-34 : goal.returns-in-34
unfolding escaped_char encode_utf8
returns-in-34 c =
    added c.push_text.result _ _ (codes "&quot;") (encode_utf8_all (escaped_char c.args.character))
    (ap (λ x. encode_utf8_all (escaped_char x)) (sym c.in-34.is)) c.push_text.ensures

pub returns-in-38 : goal.returns-in-38
unfolding escaped_char encode_utf8
returns-in-38 c =
    added c.push_text-in-38.result _ _ (codes "&amp;") (encode_utf8_all (escaped_char c.args.character))
    (ap (λ x. encode_utf8_all (escaped_char x)) (sym c.in-38.is)) c.push_text-in-38.ensures

pub returns-in-60 : goal.returns-in-60
unfolding escaped_char encode_utf8
returns-in-60 c =
    added c.push_text-in-60.result _ _ (codes "&lt;") (encode_utf8_all (escaped_char c.args.character))
    (ap (λ x. encode_utf8_all (escaped_char x)) (sym c.in-60.is)) c.push_text-in-60.ensures

pub returns-in-62 : goal.returns-in-62
unfolding escaped_char encode_utf8
returns-in-62 c =
    added c.push_text-in-62.result _ _ (codes "&gt;") (encode_utf8_all (escaped_char c.args.character))
    (ap (λ x. encode_utf8_all (escaped_char x)) (sym c.in-62.is)) c.push_text-in-62.ensures

pub returns-in-9 : goal.returns-in-9
unfolding escaped_char encode_utf8
returns-in-9 c =
    added c.push_text-in-9.result _ _ (codes "&#9;") (encode_utf8_all (escaped_char c.args.character))
    (ap (λ x. encode_utf8_all (escaped_char x)) (sym c.in-9.is)) c.push_text-in-9.ensures

pub returns-in-10 : goal.returns-in-10
unfolding escaped_char encode_utf8
returns-in-10 c =
    added c.push_text-in-10.result _ _ (codes "&#10;") (encode_utf8_all (escaped_char c.args.character))
    (ap (λ x. encode_utf8_all (escaped_char x)) (sym c.in-10.is)) c.push_text-in-10.ensures

pub returns-in-13 : goal.returns-in-13
unfolding escaped_char encode_utf8
returns-in-13 c =
    added c.push_text-in-13.result _ _ (codes "&#13;") (encode_utf8_all (escaped_char c.args.character))
    (ap (λ x. encode_utf8_all (escaped_char x)) (sym c.in-13.is)) c.push_text-in-13.ensures

pub returns-in_default : goal.returns-in_default
returns-in_default c =
    added c.push_character.result _ _ (encode_utf8 c.told_char.result) (encode_utf8_all (escaped_char c.args.character))
    (plain_bytes c.args.character c.told_char.result c.told_char.ensures (omega arith) (omega arith) (omega arith)
    (omega arith) (omega arith) (omega arith) (omega arith)) c.push_character.ensures
