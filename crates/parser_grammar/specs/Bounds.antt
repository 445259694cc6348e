-- Numbers as bounds.
use Rattle.std.specs.Prelude.{ℕ, Option, Some, None, ◌&&◌, nat_le, if◌then◌else◌}
use Rattle.lexer.specs.declared.token.Base.{Base}
use Rattle.lexer.specs.declared.token.Kind.{Kind}
use Rattle.lexer.specs.declared.token.Kind.TheVariants as kinds
use Rattle.lexer.specs.declared.token.Token.{Token}
use Rattle.parser_grammar.specs.declared.bound.Bound.{Bound}
use Rattle.parser_grammar.specs.declared.bound.Index.{Index}

abbrev pub index_of_kind : ℕ → Kind → Option Index
index_of_kind at (kinds.Number n) = Some (record { value = n.value; at = at })
index_of_kind at _ = None

-- NUM in a select: any number
unfoldable pub index : Token → Option Index
index t = index_of_kind t.at t.kind

-- a plain decimal has no base
abbrev pub plain_within : ℕ → ℕ → ℕ → ℕ → Option Base → Option Bound
plain_within least most at value (Some base) = None
plain_within least most at value None =
    if nat_le least value && nat_le value most then Some (record { value = value; at = at })
    else None

abbrev pub bound_of_kind : ℕ → ℕ → ℕ → Kind → Option Bound
bound_of_kind least most at (kinds.Number n) = plain_within least most at n.value n.base
bound_of_kind least most at _ = None

-- NUM in a bound: an unsized decimal from least to most
unfoldable pub bound_within : ℕ → ℕ → Token → Option Bound
bound_within least most t = bound_of_kind least most t.at t.kind
