use Rattle.std.proofs.Common.{◌≡◌, ◌∙◌, length, vec_len, ap, ℕ, List, arith}
use Rattle.vcd_reader.specs.Keys.{key_from, key_of}
use Rattle.vcd_reader.specs.Scopes.{front_of}
use Rattle.vcd_reader.proofs.ScopeLaws.{tree-pushed, opened-pushed}
use Rattle.vcd_reader.proofs.scopes.open_scope.Goals as goal

pub returns-clause-tree : goal.returns-clause-tree
returns-clause-tree c =
    let ss = c.args.scopes.now.items in
    let kept : vec_len c.args.scopes.now ≡ length ss = c.args.scopes.now.ok.0 in
    let long : c.in-Ok.last ≡ length ss = omega (arith, c.in-Ok.ensures.1) in
    let front = rw c.deref.ensures.value at c.front_key.ensures in
    let first = rw (c.deref-3.ensures.value, c.deref-4.ensures.value) at c.first_place-first.ensures in
    let key : c.key_behind-key.result ≡ key_from (key_of (front_of ss c.args.parent)) c.in_ok-front.front.items =
    c.key_behind-key.ensures ∙ ap (λ (n : ℕ). key_from n c.deref-2.result.now) front
    ∙ ap (λ (xs : List ℕ). key_from (key_of (front_of ss c.args.parent)) xs) c.deref-2.ensures.value in
    tree-pushed ss c.push.new.self.items _ c.in-Ok.last c.in_ok-push.ensures.items long c.requires.tree
    c.requires.inside key first

pub returns-clause-opened : goal.returns-clause-opened
returns-clause-opened c =
    let ss = c.args.scopes.now.items in
    let kept : vec_len c.args.scopes.now ≡ length ss = c.args.scopes.now.ok.0 in
    let long : c.in-Ok.last ≡ length ss = omega (arith, c.in-Ok.ensures.1) in
    opened-pushed ss c.push.new.self.items _ c.in-Ok.last c.args.name.now c.in_ok-push.ensures.items long
    c.in_ok-front.ensures.name
