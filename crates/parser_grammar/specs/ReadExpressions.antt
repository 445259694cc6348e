-- The grammar of expressions as functions, which read as far as they can.
use Rattle.std.specs.Prelude.{ℕ, zero, suc, List, [], ◌∷◌, Option, Some, None, if◌then◌else◌}
use Rattle.lexer.specs.declared.token.Token.{Token}
use Rattle.parser_grammar.specs.declared.bound.Select.{Select}
use Rattle.parser_grammar.specs.declared.mark.Mark.{Mark}
use Rattle.parser_grammar.specs.declared.mark.Mark.TheVariants as marks
use Rattle.parser_grammar.specs.declared.mark.Function.{Function}
use Rattle.parser_grammar.specs.declared.operator.Infix.{Infix}
use Rattle.parser_grammar.specs.declared.operator.Prefix.{Prefix}
use Rattle.parser_grammar.specs.declared.terminal.Terminal.TheVariants.{OpenRound, CloseRound}
use Rattle.parser_grammar.specs.declared.terminal.Terminal.TheVariants.{CloseBrace}
use Rattle.parser_grammar.specs.declared.terminal.Terminal.TheVariants.{OpenSquare, CloseSquare}
use Rattle.parser_grammar.specs.declared.terminal.Terminal.TheVariants.{Comma}
use Rattle.parser_grammar.specs.declared.terminal.Terminal.TheVariants.{Colon, Dot}
use Rattle.parser_grammar.specs.Terminals.{is, is_name, is_word}
use Rattle.parser_grammar.specs.Bounds.{index, bound_within}
use Rattle.parser_grammar.specs.Operators.{infix_of, is_infix}
use Rattle.parser_grammar.specs.Marks.{mark, has_precedence, choice_level}
use Rattle.parser_grammar.specs.Trees.{Tree, number, path, concatenation, past, call, unary, chain}
use Rattle.parser_grammar.specs.Trees.{choice}
use Rattle.parser_grammar.specs.Trees.{Links, end, link, Parts, no_part, part}
use Rattle.parser_grammar.specs.Readers.{◌>>=◌, Reader, refuse, lead, expect, pick, optional, each}

unfoldable pub name_of : Token → Option Token
name_of t = if is_name t then Some t else None

unfoldable pub word_of : Token → Option Token
word_of t = if is_word t then Some t else None

-- ("." NAME)*
unfoldable pub members : Reader (List Token)
members ts = each (is Dot) (λ dot. pick word_of) ts

-- path
unfoldable pub path_words : Reader (List Token)
path_words ts = pick name_of ts >>= λ p. members p.1 >>= λ q. Some (p.0 ∷ q.0, q.1)

-- NUM [":" NUM] "]"
unfoldable pub select : Reader Select
select ts =
    pick index ts >>= λ p. optional Colon (pick index) p.1
    >>= λ q. expect CloseSquare q.1 >>= λ r. Some (record { high = p.0; low = q.0 }, r.1)

-- what may stand inside, one deeper
pub record Inner : Type 0 where
  pub expr : Reader Tree
  pub prefixed : Reader Tree
  pub select : Reader Select

abbrev pub links_of : List (Infix × Tree) → Links
links_of [] = end
links_of (x ∷ xs) = link x.0 x.1 (links_of xs)

abbrev pub parts_of : List Tree → Parts
parts_of [] = no_part
parts_of (x ∷ xs) = part x (parts_of xs)

-- after a path's first word
unfoldable pub name_reader : Inner → Token → Reader Tree
name_reader inner t ts =
    members ts >>= λ p. optional OpenSquare inner.select p.1 >>= λ q. Some (path (t ∷ p.0) q.0, q.1)

-- after "("
unfoldable pub bracket_reader : Inner → Reader Tree
bracket_reader inner ts = inner.expr ts >>= λ p. expect CloseRound p.1 >>= λ r. Some (p.0, r.1)

-- after "{"
unfoldable pub concatenation_reader : Inner → Token → Reader Tree
concatenation_reader inner t ts =
    inner.expr ts >>= λ p. each (is Comma) (λ comma. inner.expr) p.1
    >>= λ q. expect CloseBrace q.1 >>= λ r. Some (concatenation t p.0 (parts_of q.0), r.1)

-- after "$past"
unfoldable pub past_reader : Inner → Token → Reader Tree
past_reader inner t ts =
    expect OpenRound ts >>= λ o. inner.expr o.1
    >>= λ p. optional Comma (pick (bound_within 1 64)) p.1 >>= λ q. expect CloseRound q.1
    >>= λ r. Some (past t p.0 q.0, r.1)

-- after a function's name
unfoldable pub call_reader : Inner → Function → Token → Reader Tree
call_reader inner g t ts =
    expect OpenRound ts >>= λ o. bracket_reader inner o.1 >>= λ p. Some (call g t p.0, p.1)

-- after a unary operator
unfoldable pub prefix_reader : Inner → Prefix → Token → Reader Tree
prefix_reader inner op t ts = inner.prefixed ts >>= λ p. Some (unary op t p.0, p.1)

abbrev pub prefixed_by : Inner → Mark → Token → Reader Tree
prefixed_by inner (marks.Number n) t ts = Some (number n t, ts)
prefixed_by inner marks.Name t ts = name_reader inner t ts
prefixed_by inner (marks.Prefix op) t ts = prefix_reader inner op t ts
prefixed_by inner marks.Opening t ts = bracket_reader inner ts
prefixed_by inner marks.Brace t ts = concatenation_reader inner t ts
prefixed_by inner marks.Past t ts = past_reader inner t ts
prefixed_by inner (marks.Call g) t ts = call_reader inner g t ts
prefixed_by inner marks.Other t ts = None

-- a primary, or a unary operator with its operand
unfoldable pub prefixed_with : Inner → Reader Tree
prefixed_with inner [] = None
prefixed_with inner (t ∷ ts) = prefixed_by inner (mark t) t ts

-- after a left operator: it with its right operand
unfoldable pub link_reader : Reader Tree → Token → Reader (Infix × Tree)
link_reader operand t ts =
    infix_of t >>= λ op. operand ts >>= λ p. Some ((op, p.0), p.1)

-- operators of level l + 1 with their right operands
unfoldable pub links : Reader Tree → ℕ → Reader (List (Infix × Tree))
links operand l ts = each (is_infix (suc l)) (link_reader operand) ts

abbrev pub chain_of : Tree → List (Infix × Tree) → Tree
chain_of first [] = first
chain_of first (x ∷ xs) = chain first (links_of (x ∷ xs))

-- what goes on after what the reader reads
abbrev pub behind : Reader Tree → (Tree → Reader Tree) → Reader Tree
behind reader go ts = reader ts >>= λ p. go p.0 p.1

-- the operators of the l tightest levels, after a first operand
unfoldable pub climb : Reader Tree → ℕ → Tree → Reader Tree
climb base zero first ts = Some (first, ts)
climb base (suc l) first ts =
    climb base l first ts >>= λ p. links (behind base (climb base l)) l p.1
    >>= λ q. Some (chain_of p.0 q.0, q.1)

unfoldable pub level : Reader Tree → ℕ → Reader Tree
level base l ts = behind base (climb base l) ts

abbrev pub choice_by : Reader Tree → Option (Token × List Token) → Tree → Reader Tree
choice_by inner None c ts = Some (c, ts)
choice_by inner (Some t) c ts =
    inner t.1 >>= λ a. expect Colon a.1 >>= λ r. inner r.1 >>= λ b. Some (choice c a.0 b.0, b.1)

-- after a condition, if it is one
unfoldable pub choice_with : Reader Tree → Tree → Reader Tree
choice_with inner c ts = choice_by inner (lead (has_precedence choice_level) ts) c ts

-- the rest of an expression after its first operand
abbrev pub finish_with : Inner → Reader Tree → Tree → Reader Tree
finish_with inner base first ts = climb base 9 first ts >>= λ p. choice_with inner.expr p.0 p.1

abbrev pub expr_with : Inner → Reader Tree → Reader Tree
expr_with inner base = behind base (finish_with inner base)

-- what may stand where so many more brackets and operators may open
unfoldable pub readers : ℕ → Inner
readers zero = record { expr = refuse; prefixed = refuse; select = refuse }
readers (suc d) =
    record {
      expr = expr_with (readers d) (prefixed_with (readers d));
      prefixed = prefixed_with (readers d);
      select = select;
    }

unfoldable pub unary_reader : ℕ → Reader Tree
unary_reader d ts = prefixed_with (readers d) ts

-- an operand of a left operator looser than l, in which at most d brackets and unfinished operators
-- are open at once
unfoldable pub operand : ℕ → ℕ → Reader Tree
operand d l ts = level (prefixed_with (readers d)) l ts

unfoldable pub finish : ℕ → Tree → Reader Tree
finish d first ts = finish_with (readers d) (prefixed_with (readers d)) first ts

unfoldable pub expression : ℕ → Reader Tree
expression d ts = expr_with (readers d) (prefixed_with (readers d)) ts
