-- Widths held at 129.
use Rattle.std.proofs.Common.{◌≡◌, ℕ, ◌+◌, max, min, refl, arith}
use Rattle.parser_grammar.specs.Trees.{Links, end, link, Parts, no_part, part}
use Rattle.types_names.specs.declared.operator.Binary.{Binary}
use Rattle.types_names.specs.declared.operator.Binary.TheVariants.{Arithmetic, Shift, Comparison, Connective}
use Rattle.types_names.specs.declared.operator.Unary.{Unary}
use Rattle.types_names.specs.declared.operator.Unary.TheVariants as unaries
use Rattle.types_names.specs.Scopes.{Scope}
use Rattle.types_names.specs.Width.{binary_of, binary_width, unary_width, own_width, chain_width, parts_width}

max-held : (a b c d : ℕ) → min a 129 ≡ min c 129 → min b 129 ≡ min d 129 → min (max a b) 129 ≡ min (max c d) 129
max-held a b c d h k = omega arith

pub sum-held : (a b c d : ℕ) → min a 129 ≡ min c 129 → min b 129 ≡ min d 129 → min (a + b) 129 ≡ min (c + d) 129
sum-held a b c d h k = omega arith

pub held-held : (a : ℕ) → min (min a 129) 129 ≡ min a 129
held-held a = omega arith

pub binary-held : (op : Binary) (a b c d : ℕ) → min a 129 ≡ min c 129 → min b 129 ≡ min d 129
    → min (binary_width op a b) 129 ≡ min (binary_width op c d) 129
binary-held (Arithmetic op) a b c d h k = max-held a b c d h k
binary-held (Shift op) a b c d h k = h
binary-held (Comparison op) a b c d h k = refl
binary-held (Connective op) a b c d h k = refl

pub unary-held : (op : Unary) (a c : ℕ) → min a 129 ≡ min c 129 → min (unary_width op a) 129
    ≡ min (unary_width op c) 129
unary-held unaries.Complement a c h = h
unary-held (unaries.Reduce op) a c h = refl

pub chain-held : (s : Scope) (a b : ℕ) (links : Links) → min a 129 ≡ min b 129 → min (chain_width s a links) 129
    ≡ min (chain_width s b links) 129
unfolding own_width
chain-held s a b end h = h
chain-held s a b (link op e links) h =
    chain-held s (binary_width (binary_of op) a (own_width s e)) (binary_width (binary_of op) b (own_width s e)) links
    (binary-held (binary_of op) a (own_width s e) b (own_width s e) h refl)

pub parts-held : (s : Scope) (a b : ℕ) (parts : Parts) → min a 129 ≡ min b 129 → min (parts_width s a parts) 129
    ≡ min (parts_width s b parts) 129
unfolding own_width
parts-held s a b no_part h = h
parts-held s a b (part e parts) h =
    parts-held s (a + own_width s e) (b + own_width s e) parts (sum-held a (own_width s e) b (own_width s e) h refl)
