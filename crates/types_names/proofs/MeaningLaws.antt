-- What expressions mean has their own widths.
use Rattle.std.proofs.Common.{◌≡◌, ℕ, ◌+◌, ◌-◌, max, List, Option, Some, None, refl, ap, ◌∙◌}
use Rattle.parser_grammar.specs.declared.bound.Select.{Select}
use Rattle.parser_grammar.specs.Trees.{Tree, number, path, concatenation, past, call, unary, chain, choice, Links, end}
use Rattle.parser_grammar.specs.Trees.{link}
use Rattle.parser_grammar.specs.Trees.{Parts, no_part, part}
use Rattle.expressions.specs.Terms as terms
use Rattle.expressions.specs.Terms.{Term, width_of}
use Rattle.expressions.specs.declared.name.Name.{Name}
use Rattle.types_names.specs.declared.own.Own.TheVariants.{Counter, Sequence}
use Rattle.types_names.specs.declared.own.Meaning.{Meaning}
use Rattle.types_names.specs.declared.own.Meaning.TheVariants.{Signal, Own as Declared}
use Rattle.types_names.specs.declared.operator.Binary.{Binary}
use Rattle.types_names.specs.declared.operator.Binary.TheVariants.{Arithmetic, Shift, Comparison, Connective}
use Rattle.types_names.specs.declared.operator.Unary.{Unary}
use Rattle.types_names.specs.declared.operator.Unary.TheVariants as unaries
use Rattle.types_names.specs.declared.operator.Call.{Call}
use Rattle.types_names.specs.declared.operator.Call.TheVariants as calls
use Rattle.types_names.specs.Scopes.{Scope, path_text, meaning, bits_of}
use Rattle.types_names.specs.Width.{binary_of, unary_of, call_of, binary_width, unary_width, path_width_by}
use Rattle.types_names.specs.Width.{high_of, low_of, own_width, chain_width, parts_width}
use Rattle.types_names.specs.Columns.{column_of}
use Rattle.types_names.specs.Meanings.{binary_term, unary_term, call_term, IsNameOf, IsReference, Means, Chains}
use Rattle.types_names.specs.Meanings.{Joins}
use Rattle.types_names.specs.Meanings.{JoinsMore}

name-width : (means : Option Meaning) (column : Option ℕ) (n : Name) → IsNameOf means column n
    → n.width ≡ path_width_by (bits_of means) None
name-width None column n h = elim h [ ]
name-width (Some (Signal width)) column n h = h.width_is
name-width (Some (Declared (Counter place width))) column n h = h.width_is
name-width (Some (Declared (Sequence place))) column n h = elim h [ ]

read-width : (means : Option Meaning) (column : Option ℕ) (x : Option Select) (e : Term) → IsReference means column x e
    → width_of e ≡ path_width_by (bits_of means) x
read-width means column None e h = ap width_of h.is ∙ name-width means column h.name h.names
read-width means column (Some x) e h =
    ap width_of h.is ∙ ap (λ n. n - h.part.low + 1) h.high ∙ ap (λ n. high_of x - n + 1) h.low
    ∙ part-width (bits_of means)
  where
    part-width : (bits : Option ℕ) → high_of x - low_of x + 1 ≡ path_width_by bits (Some x)
    part-width None = refl
    part-width (Some width) = refl

combined-width : (op : Binary) (a b : Term) → width_of (binary_term op a b) ≡ binary_width op (width_of a) (width_of b)
combined-width (Arithmetic op) a b = refl
combined-width (Shift op) a b = refl
combined-width (Comparison op) a b = refl
combined-width (Connective op) a b = refl

prefixed-width : (op : Unary) (a : Term) → width_of (unary_term op a) ≡ unary_width op (width_of a)
prefixed-width unaries.Complement a = refl
prefixed-width (unaries.Reduce op) a = refl

called-width : (op : Call) (a : Term) → width_of (call_term op a) ≡ 1
called-width (calls.Change op) a = refl
called-width (calls.Reduce op) a = refl

module _ (s : Scope) (cs : List (List ℕ)) where
  mutual
    unfolding Means own_width

    pub mean-width : (t : Tree) (e : Term) → Means s cs t e → width_of e ≡ own_width s t
    mean-width (number n t) e m = ap width_of m.is ∙ m.width
    mean-width (path words x) e m = read-width (meaning s words) (column_of cs (path_text words)) x e m
    mean-width (concatenation t d parts) e m = joins-width parts m.0 (own_width s d) e (mean-width d m.0 m.1) m.2
    mean-width (past t d n) e m = ap width_of m.2 ∙ mean-width d m.0 m.1
    mean-width (call f t d) e m = ap width_of m.2 ∙ called-width (call_of f) m.0
    mean-width (unary op t d) e m =
        ap width_of m.2 ∙ prefixed-width (unary_of op) m.0 ∙ ap (unary_width (unary_of op)) (mean-width d m.0 m.1)
    mean-width (chain d links) e m = chains-width links m.0 (own_width s d) e (mean-width d m.0 m.1) m.2
    mean-width (choice d x y) e m =
        ap width_of m.6 ∙ ap (λ n. max n (width_of m.2)) (mean-width x m.1 m.4)
        ∙ ap (max (own_width s x)) (mean-width y m.2 m.5)

    chains-width : (links : Links) (a : Term) (w : ℕ) (e : Term) → width_of a ≡ w → Chains s cs a links e
        → width_of e ≡ chain_width s w links
    chains-width end a w e h m = ap width_of m ∙ h
    chains-width (link op d links) a w e h m =
        chains-width links (binary_term (binary_of op) a m.0) (binary_width (binary_of op) w (own_width s d)) e
        (combined-width (binary_of op) a m.0 ∙ ap (λ n. binary_width (binary_of op) n (width_of m.0)) h
        ∙ ap (binary_width (binary_of op) w) (mean-width d m.0 m.1)) m.2

    joins-width : (parts : Parts) (a : Term) (w : ℕ) (e : Term) → width_of a ≡ w → Joins s cs a parts e
        → width_of e ≡ parts_width s w parts
    joins-width no_part a w e h m = ap width_of m ∙ h
    joins-width (part d parts) a w e h m =
        joins_more-width parts (terms.concat a m.0) (w + own_width s d) e
        (ap (λ n. n + width_of m.0) h ∙ ap (λ n. w + n) (mean-width d m.0 m.1)) m.2

    joins_more-width : (parts : Parts) (a : Term) (w : ℕ) (e : Term) → width_of a ≡ w → JoinsMore s cs a parts e
        → width_of e ≡ parts_width s w parts
    joins_more-width no_part a w e h m = ap width_of m ∙ h
    joins_more-width (part d parts) a w e h m =
        joins_more-width parts (terms.concat a m.0) (w + own_width s d) e
        (ap (λ n. n + width_of m.0) h ∙ ap (λ n. w + n) (mean-width d m.0 m.1)) m.2
