-- The names in what an expression of a text means are those of the signals and counters that it names.
use Rattle.std.proofs.Common.{◌≡◌, ℕ, List, [], ◌∷◌, ◌++◌, Option, Some, None, sym, subst}
use Rattle.std.specs.List.{AllByRecursion}
use Rattle.parser_grammar.specs.declared.bound.Select.{Select}
use Rattle.parser_grammar.specs.Trees.{Tree, number, path, concatenation, past, call, unary, chain, choice}
use Rattle.parser_grammar.specs.Trees.{Links, end, link, Parts, no_part, part}
use Rattle.expressions.specs.declared.name.Origin.{Origin}
use Rattle.expressions.specs.declared.name.Origin.TheVariants as origins
use Rattle.expressions.specs.declared.name.Name.{Name}
use Rattle.expressions.specs.Terms as terms
use Rattle.expressions.specs.Terms.{Term}
use Rattle.assertions.specs.Names.{names_in}
use Rattle.types_names.specs.declared.own.Own.TheVariants.{Counter, Sequence}
use Rattle.types_names.specs.declared.own.Meaning.{Meaning}
use Rattle.types_names.specs.declared.own.Meaning.TheVariants.{Signal, Own as Declared}
use Rattle.types_names.specs.declared.operator.Binary.{Binary}
use Rattle.types_names.specs.declared.operator.Binary.TheVariants.{Arithmetic, Shift, Comparison, Connective}
use Rattle.types_names.specs.declared.operator.Unary.{Unary}
use Rattle.types_names.specs.declared.operator.Unary.TheVariants as unaries
use Rattle.types_names.specs.declared.operator.Call.{Call}
use Rattle.types_names.specs.declared.operator.Call.TheVariants as calls
use Rattle.types_names.specs.Scopes.{Scope, path_text, meaning}
use Rattle.types_names.specs.Columns.{path_signals, signals, link_signals, part_signals, column_of}
use Rattle.types_names.specs.Width.{binary_of, unary_of, call_of}
use Rattle.types_names.specs.Meanings.{binary_term, unary_term, call_term, IsNameOf, IsReference}
use Rattle.types_names.specs.Meanings.{Means, Chains, Joins, JoinsMore}
use Rattle.laws_one_report.specs.ReadInText.{path_counters, counters, link_counters, part_counters}

module _ {X : Type 0} (P : X → Type 0) where
  pub all_first : (xs ys : List X) → AllByRecursion P (xs ++ ys) → AllByRecursion P xs
  all_first [] ys h = tt
  all_first (x ∷ xs) ys h = (h.0, all_first xs ys h.1)

  pub all_second : (xs ys : List X) → AllByRecursion P (xs ++ ys) → AllByRecursion P ys
  all_second [] ys h = h
  all_second (x ∷ xs) ys h = all_second xs ys h.1

  pub all_two : (xs ys : List X) → AllByRecursion P xs → AllByRecursion P ys → AllByRecursion P (xs ++ ys)
  all_two [] ys h k = k
  all_two (x ∷ xs) ys h k = (h.0, all_two xs ys h.1 k)

-- A name is that of a signal, in the column of a path of which P holds, or of a counter, C holding of its place.
module _ (s : Scope) (cs : List (List ℕ)) (P : List ℕ → Type 0) (C : ℕ → Type 0) where
  abbrev pub IsFrom : Origin → ℕ → Type 0
  IsFrom origins.Signal place = (p : List ℕ) × P p × (column_of cs p ≡ Some place)
  IsFrom origins.Counter place = C place

  abbrev pub IsNameFrom : Name → Type 0
  IsNameFrom n = IsFrom n.origin n.place

  abbrev pub AreFrom : List Name → Type 0
  AreFrom names = AllByRecursion IsNameFrom names

  abbrev pub TermFrom : Term → Type 0
  TermFrom e = AreFrom (names_in e)

  some_same : (a b : ℕ) → Some a ≡ Some b → a ≡ b
  some_same a b h = cc

  term_same : (a e : Term) → e ≡ a → TermFrom a → TermFrom e
  term_same a e is h = subst TermFrom (sym is) h

  name_from : (p : List ℕ) (means : Option Meaning) (name : Name) → AllByRecursion P (path_signals p means) →
      AllByRecursion C (path_counters means) → IsNameOf means (column_of cs p) name → IsNameFrom name
  name_from p None name f g h = elim h [ ]
  name_from p (Some (Signal width)) name f g h =
      subst (λ (o : Origin). IsFrom o name.place) (sym h.origin_is) (p, f.0, h.place_is)
  name_from p (Some (Declared (Counter place width))) name f g h =
      subst (λ (o : Origin). IsFrom o name.place) (sym h.origin_is)
      (subst C (some_same place name.place h.place_is) g.0)
  name_from p (Some (Declared (Sequence place))) name f g h = elim h [ ]

  read_from : (p : List ℕ) (means : Option Meaning) (x : Option Select) (e : Term) →
      AllByRecursion P (path_signals p means) → AllByRecursion C (path_counters means) →
      IsReference means (column_of cs p) x e → TermFrom e
  read_from p means None e f g h =
      term_same (terms.named h.name) e h.is (name_from p means h.name f g h.names, tt)
  read_from p means (Some x) e f g h =
      term_same (terms.slice h.part) e h.is (name_from p means h.part.name f g h.names, tt)

  two_from : (a b : Term) → TermFrom a → TermFrom b → AreFrom (names_in a ++ names_in b)
  two_from a b x y = all_two IsNameFrom (names_in a) (names_in b) x y

  binary_from : (op : Binary) (a b : Term) → TermFrom a → TermFrom b → TermFrom (binary_term op a b)
  binary_from (Arithmetic op) a b x y = two_from a b x y
  binary_from (Shift op) a b x y = two_from a b x y
  binary_from (Comparison op) a b x y = two_from a b x y
  binary_from (Connective op) a b x y = two_from a b x y

  unary_from : (op : Unary) (a : Term) → TermFrom a → TermFrom (unary_term op a)
  unary_from unaries.Complement a x = x
  unary_from (unaries.Reduce op) a x = x

  call_from : (op : Call) (a : Term) → TermFrom a → TermFrom (call_term op a)
  call_from (calls.Change op) a x = x
  call_from (calls.Reduce op) a x = x

  mutual
    unfolding Means signals counters

    pub means_from : (t : Tree) (e : Term) → AllByRecursion P (signals s t) → AllByRecursion C (counters s t) →
        Means s cs t e → TermFrom e
    means_from (number n t) e f g h = term_same (terms.constant h.bits) e h.is tt
    means_from (path words x) e f g h = read_from (path_text words) (meaning s words) x e f g h
    means_from (concatenation t d parts) e f g h =
        joins_from h.0 parts e (all_second P (signals s d) (part_signals s parts) f)
        (all_second C (counters s d) (part_counters s parts) g)
        (means_from d h.0 (all_first P (signals s d) (part_signals s parts) f)
        (all_first C (counters s d) (part_counters s parts) g) h.1) h.2
    means_from (past t d n) e f g h = term_same _ e h.2 (means_from d h.0 f g h.1)
    means_from (call o t d) e f g h =
        term_same (call_term (call_of o) h.0) e h.2 (call_from (call_of o) h.0 (means_from d h.0 f g h.1))
    means_from (unary op t d) e f g h =
        term_same (unary_term (unary_of op) h.0) e h.2 (unary_from (unary_of op) h.0 (means_from d h.0 f g h.1))
    means_from (chain d links) e f g h =
        chains_from h.0 links e (all_second P (signals s d) (link_signals s links) f)
        (all_second C (counters s d) (link_counters s links) g)
        (means_from d h.0 (all_first P (signals s d) (link_signals s links) f)
        (all_first C (counters s d) (link_counters s links) g) h.1) h.2
    means_from (choice d x y) e f g h =
        let fs = all_second P (signals s d) (signals s x ++ signals s y) f in
        let gs = all_second C (counters s d) (counters s x ++ counters s y) g in
        term_same (terms.choose h.0 h.1 h.2) e h.6
        (all_two IsNameFrom (names_in h.0) (names_in h.1 ++ names_in h.2)
        (means_from d h.0 (all_first P (signals s d) (signals s x ++ signals s y) f)
        (all_first C (counters s d) (counters s x ++ counters s y) g) h.3)
        (two_from h.1 h.2
        (means_from x h.1 (all_first P (signals s x) (signals s y) fs)
        (all_first C (counters s x) (counters s y) gs) h.4)
        (means_from y h.2 (all_second P (signals s x) (signals s y) fs)
        (all_second C (counters s x) (counters s y) gs) h.5)))

    chains_from : (a : Term) (links : Links) (e : Term) → AllByRecursion P (link_signals s links) →
        AllByRecursion C (link_counters s links) → TermFrom a → Chains s cs a links e → TermFrom e
    chains_from a end e f g x h = term_same a e h x
    chains_from a (link op d links) e f g x h =
        chains_from (binary_term (binary_of op) a h.0) links e
        (all_second P (signals s d) (link_signals s links) f)
        (all_second C (counters s d) (link_counters s links) g)
        (binary_from (binary_of op) a h.0 x
        (means_from d h.0 (all_first P (signals s d) (link_signals s links) f)
        (all_first C (counters s d) (link_counters s links) g) h.1)) h.2

    joins_from : (a : Term) (parts : Parts) (e : Term) → AllByRecursion P (part_signals s parts) →
        AllByRecursion C (part_counters s parts) → TermFrom a → Joins s cs a parts e → TermFrom e
    joins_from a no_part e f g x h = term_same (terms.group a) e h x
    joins_from a (part d parts) e f g x h =
        more_from (terms.concat a h.0) parts e
        (all_second P (signals s d) (part_signals s parts) f)
        (all_second C (counters s d) (part_counters s parts) g)
        (two_from a h.0 x
        (means_from d h.0 (all_first P (signals s d) (part_signals s parts) f)
        (all_first C (counters s d) (part_counters s parts) g) h.1)) h.2

    more_from : (a : Term) (parts : Parts) (e : Term) → AllByRecursion P (part_signals s parts) →
        AllByRecursion C (part_counters s parts) → TermFrom a → JoinsMore s cs a parts e → TermFrom e
    more_from a no_part e f g x h = term_same a e h x
    more_from a (part d parts) e f g x h =
        more_from (terms.concat a h.0) parts e
        (all_second P (signals s d) (part_signals s parts) f)
        (all_second C (counters s d) (part_counters s parts) g)
        (two_from a h.0 x
        (means_from d h.0 (all_first P (signals s d) (part_signals s parts) f)
        (all_first C (counters s d) (part_counters s parts) g) h.1)) h.2
