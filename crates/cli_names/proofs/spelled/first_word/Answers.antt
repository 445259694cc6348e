use Rattle.std.proofs.Common.{◌≡◌, ℕ, length, take, sym, ap, ◌∙◌, arith, below_more}
use Rattle.std.proofs.lemmas.Bool.{eq-eqb, ne_eqb}
use Rattle.std.proofs.lemmas.List.{take_all}
use Rattle.std.proofs.lemmas.List.Sums.{position_or_len_is}
use Rattle.cli_names.specs.Spelled.{is_dot}
use Rattle.cli_names.proofs.spelled.first_word.Goals as goal

pub loop-i-preserved : goal.loop-i-preserved
loop-i-preserved c = below_more _ _ c.loop-i.invariant (ne_eqb _ 46 c.if-byte-eq46.false)

pub returns-then-byte-eq46 : goal.returns-then-byte-eq46
returns-then-byte-eq46 c =
    let path = c.args.path.now in
    ap (λ (n : ℕ). take n path)
    (sym (position_or_len_is is_dot path c.loop-i.i 0 (omega arith) c.loop-i.invariant
    (λ lt. eq-eqb _ 46 c.if-byte-eq46.true)))

pub returns : goal.returns
returns c =
    let path = c.args.path.now in
    let all : c.loop-i.i ≡ length path = omega arith in
    sym (take_all c.loop-i.i path (omega arith))
    ∙ ap (λ (n : ℕ). take n path)
    (sym (position_or_len_is is_dot path c.loop-i.i 0 (omega arith) c.loop-i.invariant (λ lt. absurd (omega arith))))
