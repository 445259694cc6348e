use Rattle.std.proofs.Common.{◌≡◌, ◌∙◌, ◌/◌, ◌%◌, ◌^◌, ◌++◌, ◌∷◌, [], ℕ, List, ap, length, refl}
use Rattle.vcd_reader.specs.Stored.{stored_change}
use Rattle.vcd_reader.proofs.StoredLaws.{stored-narrow, stored-wide}
use Rattle.vcd_reader.proofs.body.new_change.Goals as goal

pub returns-then-above-eq0-clause-change : goal.returns-then-above-eq0-clause-change
returns-then-above-eq0-clause-change c =
    λ more. stored-narrow (c.args.high.now.items ++ more) c.args.code c.args.value c.if-above-eq0.true

pub returns-clause-change : goal.returns-clause-change
returns-clause-change c = λ more.
    let long : c.len.result ≡ length (c.args.high.now.items ++ (c.args.value / 2 ^ 64) ∷ []) =
    c.len.ensures ∙ c.push.new.self.ok.0 ∙ ap (λ (xs : List ℕ). length xs) c.in_ok-push.ensures.items in
    ap (λ (xs : List ℕ). stored_change (xs ++ more)
    (record { code = c.args.code; high = c.len.result; low = c.args.value % 2 ^ 64 })) c.in_ok-push.ensures.items
    ∙ stored-wide c.args.high.now.items more c.args.code c.args.value (c.args.value / 2 ^ 64) c.len.result refl
    long
