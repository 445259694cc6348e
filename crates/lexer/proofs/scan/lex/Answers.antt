use Rattle.std.proofs.Common.{take, ◌≡◌, ◌∙◌, ◌<◌, ◌+◌, ◌-◌, ℕ, List, Ok, length, drop, get_or, sym, ap, arith, subst}
use Rattle.std.proofs.Common.{Option, Some, map}
use Rattle.std.proofs.Math.ListN.{drop_of_length-le}
use Rattle.std.proofs.lemmas.List.{length-drop}
use Rattle.std.proofs.lemmas.Str.{IsCharBoundary-after_ascii}
use Rattle.lexer.specs.declared.token.Token.{Token}
use Rattle.lexer.specs.declared.scan.Next.TheVariants.{Gap, Lexeme, Unclosed, Stray}
use Rattle.std.specs.Str.{IsCharBoundary}
use Rattle.lexer.specs.declared.token.Kind.{Kind}
use Rattle.lexer.specs.declared.fault.LexFault.TheVariants.{UnclosedComment, BadCharacter, BadNumber}
use Rattle.lexer.proofs.CoveringLaws.{tokens_of-covered, tokens_of-faulty}
use Rattle.lexer.specs.Cutting.{with_token, kind_of, cuts, cut_of, tokens_of}
use Rattle.lexer.proofs.CutLaws.{cuts_behind, cuts-turn, cuts-end, cuts_behind-end, cuts_behind-err, cuts_behind-push}
use Rattle.lexer.proofs.scan.lex.Goals as goal

pub returns-clause-tokens : goal.returns-clause-tokens
unfolding tokens_of
returns-clause-tokens c =
    let l = c.cuts in
    let bytes = c.as_bytes-bytes.result.now in
    ap tokens_of (sym c.as_bytes-bytes.ensures.value) ∙ l.invariant.3
    ∙ ap (cuts_behind l.tokens.items)
    (cuts-end l.invariant.1 l.at (drop l.at bytes) (drop_of_length-le bytes c.cuts-test.false))
    ∙ cuts_behind-end l.tokens.items _
    ∙ ap (λ (ts : List Token). Ok (map cut_of ts)) (sym c.in_ok-push.ensures.items)

pub returns-in-Unclosed-clause-tokens : goal.returns-in-Unclosed-clause-tokens
returns-in-Unclosed-clause-tokens c =
    let l = c.cuts in
    let bytes = c.as_bytes-bytes.result.now in
    ap tokens_of (sym c.as_bytes-bytes.ensures.value) ∙ l.invariant.3
    ∙ ap (cuts_behind l.tokens.items)
    (cuts-turn l.invariant.1 l.at bytes Unclosed c.cuts-test.true l.invariant.2 c.in-Unclosed.ensures.value)
    ∙ cuts_behind-err l.tokens.items _

pub returns-in-Stray-clause-tokens : goal.returns-in-Stray-clause-tokens
returns-in-Stray-clause-tokens c =
    let l = c.cuts in
    let bytes = c.as_bytes-bytes.result.now in
    ap tokens_of (sym c.as_bytes-bytes.ensures.value) ∙ l.invariant.3
    ∙ ap (cuts_behind l.tokens.items)
    (cuts-turn l.invariant.1 l.at bytes Stray c.cuts-test.true l.invariant.2 c.in-Stray.ensures.value)
    ∙ cuts_behind-err l.tokens.items _

pub cuts-preserved-in-Gap : goal.cuts-preserved-in-Gap
cuts-preserved-in-Gap c =
    let l = c.cuts in
    let bytes = c.as_bytes-bytes.result.now in
    let n = c.in-Gap.len in (
      c.in-Gap.ensures.inside.1,
      l.invariant.1 - 1,
      omega (
        arith,
        l.invariant.2,
        c.in-Gap.ensures.inside.0,
        c.in-Gap.ensures.inside.1,
        length-drop l.at bytes,
        length-drop (l.at + n) bytes,
      ),
      l.invariant.3
          ∙ ap (cuts_behind l.tokens.items)
          (cuts-turn l.invariant.1 l.at bytes (Gap n) c.cuts-test.true l.invariant.2 c.in-Gap.ensures.value),
    )

pub returns-clause-covered : goal.returns-clause-covered
returns-clause-covered c = tokens_of-covered _ _ (returns-clause-tokens c)

pub returns-in-Unclosed-clause-faulty : goal.returns-in-Unclosed-clause-faulty
returns-in-Unclosed-clause-faulty c =
    tokens_of-faulty _ (UnclosedComment c.cuts.at) (returns-in-Unclosed-clause-tokens c)

pub returns-in-Stray-clause-faulty : goal.returns-in-Stray-clause-faulty
returns-in-Stray-clause-faulty c = tokens_of-faulty _ (BadCharacter c.cuts.at) (returns-in-Stray-clause-tokens c)

pub returns-in_default-clause-tokens : goal.returns-in_default-clause-tokens
returns-in_default-clause-tokens c =
    let l = c.cuts in
    let text = c.args.text.now in
    let bytes = c.as_bytes-bytes.result.now in
    let n = c.in-Lexeme.len in
    let rest = cuts (l.invariant.1 - 1) (l.at + n) (drop (l.at + n) bytes) in
    let len : l.at + n - l.at ≡ n = omega arith in
    let cut_text : take n (drop l.at bytes) ≡ c.as_bytes.result.now =
    ap (λ (bs : List ℕ). take n (drop l.at bs)) c.as_bytes-bytes.ensures.value
    ∙ ap (λ (k : ℕ). take k (drop l.at text)) (sym len) ∙ sym c.range-slice.ensures.value
    ∙ sym c.as_bytes.ensures.value in
    ap tokens_of (sym c.as_bytes-bytes.ensures.value) ∙ l.invariant.3
    ∙ ap (cuts_behind l.tokens.items)
    (cuts-turn l.invariant.1 l.at bytes (Lexeme n c.in-Lexeme.shape) c.cuts-test.true l.invariant.2
    c.in-Lexeme.ensures.value)
    ∙ ap (λ (t : List ℕ). cuts_behind l.tokens.items (with_token (kind_of c.in-Lexeme.shape t) l.at t rest)) cut_text
    ∙ ap (λ (o : Option Kind). cuts_behind l.tokens.items (with_token o l.at c.as_bytes.result.now rest))
    (sym c.in_default.ensures)
    ∙ cuts_behind-err l.tokens.items (BadNumber l.at)

pub returns-in_default-clause-faulty : goal.returns-in_default-clause-faulty
returns-in_default-clause-faulty c = tokens_of-faulty _ (BadNumber c.cuts.at) (returns-in_default-clause-tokens c)

pub cuts-init : goal.cuts-init
unfolding tokens_of
cuts-init c =
    let bytes = c.as_bytes-bytes.result.now in (
      omega arith,
      length bytes,
      omega arith,
      ap (λ (ts : List Token). cuts_behind ts (cuts (length bytes) 0 bytes)) (sym c.new-tokens.ensures.items),
    )

pub range-slice-requires-clause-end_boundary : goal.range-slice-requires-clause-end_boundary
range-slice-requires-clause-end_boundary c =
    let i = c.cuts.at + c.in-Lexeme.len - 1 in
    let last : get_or c.args.text.now i 0 < 128 =
    subst (λ (bs : List ℕ). get_or bs i 0 < 128) c.as_bytes-bytes.ensures.value c.in-Lexeme.ensures.inside.3 in
    let within : i < length c.args.text.now =
    omega (arith, c.in-Lexeme.ensures.inside.0, c.in-Lexeme.ensures.inside.1, c.as_bytes-bytes.ensures.len) in
    let end : i + 1 ≡ c.cuts.at + c.in-Lexeme.len = omega (arith, c.in-Lexeme.ensures.inside.0) in
    subst (λ (k : ℕ). IsCharBoundary c.args.text.now k) end
    (IsCharBoundary-after_ascii c.args.text.now i c.utf8.text within last)

pub cuts-preserved : goal.cuts-preserved
cuts-preserved c =
    let l = c.cuts in
    let text = c.args.text.now in
    let bytes = c.as_bytes-bytes.result.now in
    let n = c.in-Lexeme.len in
    let token : Token = record { kind = c.in-Some.kind; at = l.at; text = c.range-slice.result } in
    let rest = cuts (l.invariant.1 - 1) (l.at + n) (drop (l.at + n) bytes) in
    let len : l.at + n - l.at ≡ n = omega arith in
    let known : kind_of c.in-Lexeme.shape c.range-slice.result.now ≡ Some c.in-Some.kind =
    ap (kind_of c.in-Lexeme.shape) (sym c.as_bytes.ensures.value) ∙ sym c.in-Some.ensures in
    let cut_text : take n (drop l.at bytes) ≡ c.range-slice.result.now =
    ap (λ (bs : List ℕ). take n (drop l.at bs)) c.as_bytes-bytes.ensures.value
    ∙ ap (λ (k : ℕ). take k (drop l.at text)) (sym len) ∙ sym c.range-slice.ensures.value in (
      c.in-Lexeme.ensures.inside.1,
      l.invariant.1 - 1,
      omega (
        arith,
        l.invariant.2,
        c.in-Lexeme.ensures.inside.0,
        c.in-Lexeme.ensures.inside.1,
        length-drop l.at bytes,
        length-drop (l.at + n) bytes,
      ),
      l.invariant.3
          ∙ ap (cuts_behind l.tokens.items)
          (cuts-turn l.invariant.1 l.at bytes (Lexeme n c.in-Lexeme.shape) c.cuts-test.true l.invariant.2
          c.in-Lexeme.ensures.value)
          ∙ ap (λ (t : List ℕ). cuts_behind l.tokens.items (with_token (kind_of c.in-Lexeme.shape t) l.at t rest))
          cut_text
          ∙ ap (λ (o : Option Kind). cuts_behind l.tokens.items (with_token o l.at c.range-slice.result.now rest)) known
          ∙ cuts_behind-push l.tokens.items token rest
          ∙ ap (λ (ps : List Token). cuts_behind ps rest) (sym c.in_ok-push-in-Lexeme.ensures.items),
    )
