-- What an expression of a text means has few operators and operands, and no call where that has none.
use Rattle.std.proofs.Common.{◌≡◌, ◌⊎◌, inl, inr, ℕ, zero, suc, ◌+◌, ◌*◌, ◌≤◌, ◌<◌, List, [], ◌∷◌, ◌++◌, length}
use Rattle.std.proofs.Common.{Option, Some, None, refl, sym, ap, ◌∙◌, subst, arith}
use Rattle.std.specs.Prelude.{Contains}
use Rattle.std.proofs.lemmas.List.Elements.{Contains-append_cases, Contains-push_cases}
use Rattle.lexer.specs.declared.token.Token.{Token}
use Rattle.parser_grammar.specs.declared.bound.Select.{Select}
use Rattle.parser_grammar.specs.Trees.{Tree, number, path, concatenation, past, call, unary, chain, choice}
use Rattle.parser_grammar.specs.Trees.{Links, end, link, Parts, no_part, part}
use Rattle.expressions.specs.declared.name.Origin.{Origin}
use Rattle.expressions.specs.declared.name.Origin.TheVariants as origins
use Rattle.expressions.specs.declared.name.Name.{Name}
use Rattle.expressions.specs.Terms as terms
use Rattle.expressions.specs.Terms.{Term}
use Rattle.assertions.specs.Names.{names_in}
use Rattle.types_names.specs.declared.own.Own.TheVariants.{Counter, Sequence}
use Rattle.types_names.specs.declared.own.Meaning.{Meaning}
use Rattle.types_names.specs.declared.own.Meaning.TheVariants.{Signal, Own as Declared}
use Rattle.types_names.specs.declared.operator.Binary.{Binary}
use Rattle.types_names.specs.declared.operator.Binary.TheVariants.{Arithmetic, Shift}
use Rattle.types_names.specs.declared.operator.Binary.TheVariants.{Comparison, Connective}
use Rattle.types_names.specs.declared.operator.Unary.{Unary}
use Rattle.types_names.specs.declared.operator.Unary.TheVariants as unaries
use Rattle.types_names.specs.declared.operator.Call.{Call}
use Rattle.types_names.specs.declared.operator.Call.TheVariants as calls
use Rattle.types_names.specs.Scopes.{Scope, path_text, meaning}
use Rattle.types_names.specs.Columns.{column_of}
use Rattle.types_names.specs.Width.{binary_of, unary_of, call_of, ticks_before}
use Rattle.types_names.specs.Meanings.{binary_term, unary_term, call_term, IsNameOf, IsReference}
use Rattle.types_names.specs.Meanings.{Means, Chains, Joins, JoinsMore}
use Rattle.compiler.specs.Laws.{EachPart, IsNoChange, size}
use Rattle.compiler_laws.specs.WrittenOut.{tree_size, links_size, parts_size}
use Rattle.compiler_laws.specs.Small.{IsNoCounter, IsStill, AreStillLinks, AreStillParts}

-- Each operator and operand of a text is at most two of what it means, one of which is spared.
binary_size : (op : Binary) (a b : Term) → size (binary_term op a b) ≡ 1 + (size a + size b)
binary_size (Arithmetic op) a b = refl
binary_size (Shift op) a b = refl
binary_size (Comparison op) a b = refl
binary_size (Connective op) a b = refl

unary_size : (op : Unary) (a : Term) → size (unary_term op a) ≡ 1 + size a
unary_size unaries.Complement a = refl
unary_size (unaries.Reduce op) a = refl

call_size : (op : Call) (a : Term) → size (call_term op a) ≡ 1 + size a
call_size (calls.Change op) a = refl
call_size (calls.Reduce op) a = refl

module _ (s : Scope) (cs : List (List ℕ)) where
  read_size : (means : Option Meaning) (column : Option ℕ) (x : Option Select) (e : Term) →
      IsReference means column x e → size e ≡ 1
  read_size means column None e h = ap size h.is
  read_size means column (Some x) e h = ap size h.is

  mutual
    unfolding Means tree_size

    pub means_short : (t : Tree) (e : Term) → Means s cs t e → size e + 1 ≤ 2 * tree_size t
    means_short (number n t) e h = omega (arith, ap size h.is)
    means_short (path words x) e h =
        omega (arith, read_size (meaning s words) (column_of cs (path_text words)) x e h)
    means_short (concatenation t d parts) e h =
        omega (arith, joins_short h.0 parts e (2 * tree_size d) (means_short d h.0 h.1) h.2)
    means_short (past t d n) e h = omega (arith, ap size h.2, means_short d h.0 h.1)
    means_short (call f t d) e h =
        omega (arith, ap size h.2, call_size (call_of f) h.0, means_short d h.0 h.1)
    means_short (unary op t d) e h =
        omega (arith, ap size h.2, unary_size (unary_of op) h.0, means_short d h.0 h.1)
    means_short (chain d links) e h =
        omega (arith, chains_short h.0 links e (2 * tree_size d) (means_short d h.0 h.1) h.2)
    means_short (choice d x y) e h =
        omega (
          arith,
          ap size h.6,
          means_short d h.0 h.3,
          means_short x h.1 h.4,
          means_short y h.2 h.5,
        )

    chains_short : (a : Term) (links : Links) (e : Term) (most : ℕ) → size a + 1 ≤ most →
        Chains s cs a links e → size e + 1 ≤ most + 2 * links_size links
    chains_short a end e most g h = omega (arith, ap size h, g)
    chains_short a (link op d links) e most g h =
        omega (
          arith,
          chains_short (binary_term (binary_of op) a h.0) links e (most + 2 * tree_size d)
              (omega (arith, binary_size (binary_of op) a h.0, g, means_short d h.0 h.1)) h.2,
        )

    joins_short : (a : Term) (parts : Parts) (e : Term) (most : ℕ) → size a + 1 ≤ most →
        Joins s cs a parts e → size e + 1 ≤ most + 2 * parts_size parts + 2
    joins_short a no_part e most g h = omega (arith, ap size h, g)
    joins_short a (part d parts) e most g h =
        omega (
          arith,
          more_short (terms.concat a h.0) parts e (most + 2 * tree_size d)
              (omega (arith, g, means_short d h.0 h.1)) h.2,
        )

    more_short : (a : Term) (parts : Parts) (e : Term) (most : ℕ) → size a + 1 ≤ most →
        JoinsMore s cs a parts e → size e + 1 ≤ most + 2 * parts_size parts
    more_short a no_part e most g h = omega (arith, ap size h, g)
    more_short a (part d parts) e most g h =
        omega (
          arith,
          more_short (terms.concat a h.0) parts e (most + 2 * tree_size d)
              (omega (arith, g, means_short d h.0 h.1)) h.2,
        )

-- no call, and signals alone
pub record IsQuiet (e : Term) : Type 0 where
  pub still : EachPart IsNoChange e
  pub signals : (n : Name) → Contains (names_in e) n → n.origin ≡ origins.Signal

pub none_there : {X : Type 0} (x : X) → Contains [] x → ⊥
none_there x h = omega (arith, h.1)

one_there : (name n : Name) → name.origin ≡ origins.Signal → Contains (name ∷ []) n → n.origin ≡ origins.Signal
one_there name n is h =
    elim (Contains-push_cases [] name n h) [
      | inl k ↦ absurd (none_there n k)
      | inr same ↦ subst (λ (m : Name). m.origin ≡ origins.Signal) same is
    ]

pub two_there : (xs ys : List Name) → ((n : Name) → Contains xs n → n.origin ≡ origins.Signal) →
    ((n : Name) → Contains ys n → n.origin ≡ origins.Signal) →
    (n : Name) → Contains (xs ++ ys) n → n.origin ≡ origins.Signal
two_there xs ys f g n h = elim (Contains-append_cases xs ys n h) [ inl k ↦ f n k | inr k ↦ g n k ]

quiet_concat : (a b : Term) → IsQuiet a → IsQuiet b → IsQuiet (terms.concat a b)
quiet_concat a b x y =
    record { still = (tt, x.still, y.still); signals = two_there (names_in a) (names_in b) x.signals y.signals }

quiet_binary : (op : Binary) (a b : Term) → IsQuiet a → IsQuiet b → IsQuiet (binary_term op a b)
quiet_binary (Arithmetic op) a b x y =
    record { still = (tt, x.still, y.still); signals = two_there (names_in a) (names_in b) x.signals y.signals }
quiet_binary (Shift op) a b x y =
    record { still = (tt, x.still, y.still); signals = two_there (names_in a) (names_in b) x.signals y.signals }
quiet_binary (Comparison op) a b x y =
    record { still = (tt, x.still, y.still); signals = two_there (names_in a) (names_in b) x.signals y.signals }
quiet_binary (Connective op) a b x y =
    record { still = (tt, x.still, y.still); signals = two_there (names_in a) (names_in b) x.signals y.signals }

quiet_unary : (op : Unary) (a : Term) → IsQuiet a → IsQuiet (unary_term op a)
quiet_unary unaries.Complement a x = record { still = (tt, x.still); signals = x.signals }
quiet_unary (unaries.Reduce op) a x = record { still = (tt, x.still); signals = x.signals }

quiet_choice : (c a b : Term) → IsQuiet c → IsQuiet a → IsQuiet b → IsQuiet (terms.choose c a b)
quiet_choice c a b z x y = record {
  still = (tt, z.still, x.still, y.still);
  signals =
      two_there (names_in c) (names_in a ++ names_in b) z.signals
      (two_there (names_in a) (names_in b) x.signals y.signals);
}

quiet_same : (a e : Term) → e ≡ a → IsQuiet a → IsQuiet e
quiet_same a e is h = subst IsQuiet (sym is) h

name_signal : (means : Option Meaning) (column : Option ℕ) (name : Name) → IsNoCounter means →
    IsNameOf means column name → name.origin ≡ origins.Signal
name_signal None column name q h = elim h [ ]
name_signal (Some (Signal width)) column name q h = h.origin_is
name_signal (Some (Declared (Counter place width))) column name q h = elim q [ ]
name_signal (Some (Declared (Sequence place))) column name q h = elim h [ ]

quiet_read : (means : Option Meaning) (column : Option ℕ) (x : Option Select) (e : Term) → IsNoCounter means →
    IsReference means column x e → IsQuiet e
quiet_read means column None e q h =
    quiet_same (terms.named h.name) e h.is
    (record {
      still = tt;
      signals = λ n c. one_there h.name n (name_signal means column h.name q h.names) c;
    })
quiet_read means column (Some x) e q h =
    quiet_same (terms.slice h.part) e h.is
    (record {
      still = tt;
      signals = λ n c. one_there h.part.name n (name_signal means column h.part.name q h.names) c;
    })

module _ (s : Scope) (cs : List (List ℕ)) where
  mutual
    unfolding Means IsStill

    pub means_quiet : (t : Tree) (e : Term) → IsStill s t → Means s cs t e → IsQuiet e
    means_quiet (number n t) e q h =
        quiet_same (terms.constant h.bits) e h.is
        (record { still = tt; signals = λ n c. absurd (none_there n c) })
    means_quiet (path words x) e q h =
        quiet_read (meaning s words) (column_of cs (path_text words)) x e q h
    means_quiet (concatenation t d parts) e q h =
        joins_quiet h.0 parts e q.1 (means_quiet d h.0 q.0 h.1) h.2
    means_quiet (past t d n) e q h = elim q [ ]
    means_quiet (call f t d) e q h = elim q [ ]
    means_quiet (unary op t d) e q h =
        quiet_same (unary_term (unary_of op) h.0) e h.2
        (quiet_unary (unary_of op) h.0 (means_quiet d h.0 q h.1))
    means_quiet (chain d links) e q h = chains_quiet h.0 links e q.1 (means_quiet d h.0 q.0 h.1) h.2
    means_quiet (choice d x y) e q h =
        quiet_same (terms.choose h.0 h.1 h.2) e h.6
        (quiet_choice h.0 h.1 h.2 (means_quiet d h.0 q.0 h.3) (means_quiet x h.1 q.1 h.4)
        (means_quiet y h.2 q.2 h.5))

    chains_quiet : (a : Term) (links : Links) (e : Term) → AreStillLinks s links → IsQuiet a →
        Chains s cs a links e → IsQuiet e
    chains_quiet a end e q g h = quiet_same a e h g
    chains_quiet a (link op d links) e q g h =
        chains_quiet (binary_term (binary_of op) a h.0) links e q.1
        (quiet_binary (binary_of op) a h.0 g (means_quiet d h.0 q.0 h.1)) h.2

    joins_quiet : (a : Term) (parts : Parts) (e : Term) → AreStillParts s parts → IsQuiet a →
        Joins s cs a parts e → IsQuiet e
    joins_quiet a no_part e q g h =
        quiet_same (terms.group a) e h (record { still = (tt, g.still); signals = g.signals })
    joins_quiet a (part d parts) e q g h =
        more_quiet (terms.concat a h.0) parts e q.1
        (quiet_concat a h.0 g (means_quiet d h.0 q.0 h.1)) h.2

    more_quiet : (a : Term) (parts : Parts) (e : Term) → AreStillParts s parts → IsQuiet a →
        JoinsMore s cs a parts e → IsQuiet e
    more_quiet a no_part e q g h = quiet_same a e h g
    more_quiet a (part d parts) e q g h =
        more_quiet (terms.concat a h.0) parts e q.1
        (quiet_concat a h.0 g (means_quiet d h.0 q.0 h.1)) h.2
