-- An operator of a text joins as loosely as what it stands for.
use Rattle.std.proofs.Common.{◌≡◌, ℕ, refl}
use Rattle.parser_grammar.specs.declared.operator.Infix.{Infix}
use Rattle.parser_grammar.specs.declared.operator.Infix.TheVariants as infixes
use Rattle.parser_grammar.specs.Operators.{infix_level}
use Rattle.types_names.specs.declared.operator.Binary.{Binary}
use Rattle.types_names.specs.declared.operator.Binary.TheVariants.{Arithmetic, Shift, Comparison, Connective}
use Rattle.types_names.specs.Width.{binary_of}
use Rattle.compiler.specs.Depths.{arithmetic_level, comparison_level, connective_level}

abbrev pub binary_level : Binary → ℕ
binary_level (Arithmetic op) = arithmetic_level op
binary_level (Shift op) = 2
binary_level (Comparison op) = comparison_level op
binary_level (Connective op) = connective_level op

pub level-infix : (op : Infix) → binary_level (binary_of op) ≡ infix_level op
level-infix infixes.Add = refl
level-infix infixes.Sub = refl
level-infix infixes.ShiftLeft = refl
level-infix infixes.ShiftRight = refl
level-infix infixes.Less = refl
level-infix infixes.LessEqual = refl
level-infix infixes.Greater = refl
level-infix infixes.GreaterEqual = refl
level-infix infixes.Equal = refl
level-infix infixes.NotEqual = refl
level-infix infixes.And = refl
level-infix infixes.Xor = refl
level-infix infixes.Xnor = refl
level-infix infixes.Or = refl
level-infix infixes.LogicalAnd = refl
level-infix infixes.LogicalOr = refl
