use Rattle.std.proofs.Common.{◌≡◌, ◌++◌, ◌∷◌, [], ℕ, List, Bor, map, length, take, drop, ◌+◌, sym, ap, ◌∙◌, arith}
use Rattle.std.specs.List.{flat_map}
use Rattle.vcd_declarations.specs.Sections.{texts}
use Rattle.vcd_declarations.specs.Declarations.{joined}
use Rattle.vcd_declarations.specs.Views.{scopes_in, path_in, range_in}
use Rattle.vcd_declarations.proofs.SpellingLaws.{front-name, front-range}
use Rattle.vcd_declarations.proofs.header.Header.spell.Goals as goal

pub returns-clause-path : goal.returns-clause-path
unfolding path_in
returns-clause-path c =
    let front = flat_map (λ (s : List ℕ). s ++ 46 ∷ []) (scopes_in c.args.self.now) in
    let reference = joined (texts c.args.variable.now.reference.now) in
    let first : c.push_front.new.text.items ≡ front =
    c.in_ok-push_front.ensures
    ∙ ap (λ (x : List ℕ). x ++ flat_map (λ (s : List ℕ). s ++ 46 ∷ []) (map (λ s. s.now) c.deref.result.now))
    c.new-text.ensures.items
    ∙ ap (λ (ss : List (Bor (List ℕ))). flat_map (λ (s : List ℕ). s ++ 46 ∷ []) (map (λ s. s.now) ss))
    c.deref.ensures.value in
    let whole : c.deref-2.result.now ≡ front ++ reference =
    c.deref-2.ensures.value ∙ c.in_ok-push_joined.ensures ∙ ap (λ (x : List ℕ). x ++ reference) first in
    let long = ap (λ (x : List ℕ). length x) first in
    let at : c.len-front.result ≡ length front = omega arith in
    ap (take (c.len-front.result + c.range_start.result)) (sym c.deref-2.ensures.value)
    ∙ front-name front reference c.deref-2.result.now c.len-front.result c.range_start.result whole at
    c.range_start.ensures.name

pub returns-clause-range : goal.returns-clause-range
unfolding range_in
returns-clause-range c =
    let front = flat_map (λ (s : List ℕ). s ++ 46 ∷ []) (scopes_in c.args.self.now) in
    let reference = joined (texts c.args.variable.now.reference.now) in
    let first : c.push_front.new.text.items ≡ front =
    c.in_ok-push_front.ensures
    ∙ ap (λ (x : List ℕ). x ++ flat_map (λ (s : List ℕ). s ++ 46 ∷ []) (map (λ s. s.now) c.deref.result.now))
    c.new-text.ensures.items
    ∙ ap (λ (ss : List (Bor (List ℕ))). flat_map (λ (s : List ℕ). s ++ 46 ∷ []) (map (λ s. s.now) ss))
    c.deref.ensures.value in
    let whole : c.deref-2.result.now ≡ front ++ reference =
    c.deref-2.ensures.value ∙ c.in_ok-push_joined.ensures ∙ ap (λ (x : List ℕ). x ++ reference) first in
    let long = ap (λ (x : List ℕ). length x) first in
    let at : c.len-front.result ≡ length front = omega arith in
    ap (drop (c.len-front.result + c.range_start.result)) (sym c.deref-2.ensures.value)
    ∙ front-range front reference c.deref-2.result.now c.len-front.result c.range_start.result whole at
    c.range_start.ensures.high c.range_start.ensures.name
