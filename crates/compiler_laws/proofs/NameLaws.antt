-- The names of what a text's expressions mean are signals and counters of its suite.
use Rattle.std.proofs.Common.{◌≡◌, ℕ, zero, suc, ◌+◌, ◌<◌, List, [], ◌∷◌, length, Option, Some}
use Rattle.std.proofs.Common.{None, Bool, true, false, slice_get, get_or, refl, sym, ◌∙◌, subst}
use Rattle.std.proofs.Common.{arith}
use Rattle.std.specs.Prelude.{bytes_eq, cond}
use Rattle.std.specs.Cmp.Lexicographic.{bytes_decides}
use Rattle.std.proofs.lemmas.List.Quantifiers.{position-Some}
use Rattle.parser_grammar.specs.Trees.{Tree, number, path, concatenation, past, call, unary, chain, choice}
use Rattle.parser_grammar.specs.Trees.{Links, end, link, Parts, no_part, part, ItemForm, counter}
use Rattle.parser_grammar.specs.Trees.{declaration, assertion}
use Rattle.parser_grammar.specs.declared.bound.Select.{Select}
use Rattle.lexer.specs.declared.token.Token.{Token}
use Rattle.expressions.specs.declared.counter.Counter as counters
use Rattle.expressions.specs.declared.name.Origin.{Origin}
use Rattle.expressions.specs.declared.name.Origin.TheVariants as origins
use Rattle.expressions.specs.declared.name.Name.{Name}
use Rattle.expressions.specs.Terms as terms
use Rattle.expressions.specs.Terms.{Term}
use Rattle.assertions.specs.declared.signal.Signal.{Signal}
use Rattle.assertions.specs.declared.suite.Suite.{Suite}
use Rattle.types_names.specs.declared.own.Own.{Own}
use Rattle.types_names.specs.declared.own.Own.TheVariants as own
use Rattle.types_names.specs.declared.operator.Binary.{Binary}
use Rattle.types_names.specs.declared.operator.Binary.TheVariants.{Arithmetic, Shift}
use Rattle.types_names.specs.declared.operator.Binary.TheVariants.{Comparison, Connective}
use Rattle.types_names.specs.declared.operator.Unary.{Unary}
use Rattle.types_names.specs.declared.operator.Unary.TheVariants as unaries
use Rattle.types_names.specs.declared.operator.Call.{Call}
use Rattle.types_names.specs.declared.operator.Call.TheVariants as calls
use Rattle.types_names.specs.Scopes.{Scope, path_text, meaning, meaning_by, look_up}
use Rattle.types_names.specs.Scopes.{owns_from, width_in}
use Rattle.types_names.specs.Columns.{column_of}
use Rattle.types_names.specs.Width.{binary_of, unary_of, call_of, ticks_before}
use Rattle.types_names.specs.Meanings.{binary_term, unary_term, call_term, IsName, IsNameOf}
use Rattle.types_names.specs.Meanings.{IsReference, Means, Chains, Joins, JoinsMore}
use Rattle.types.specs.Texts.{counters_of}
use Rattle.types.specs.Suites.{AreSignals, AreCounters}
use Rattle.compiler.specs.Laws.{EachPart, OfName}
use Rattle.compiler.specs.Conditions.{IsOriginIn, IsSuiteName}

-- The signal of a column.
record ColumnSignal (s : Scope) (p : List ℕ) (xs : List Signal) (place : ℕ) : Type 0 where
  pub signal : Signal
  pub found : slice_get xs place ≡ Some signal
  pub wide : s.dump p ≡ Some signal.width

signal_at : (s : Scope) (cs : List (List ℕ)) (xs : List Signal) (place : ℕ) → place < length cs →
    AreSignals s cs xs → ColumnSignal s (get_or cs place []) xs place
signal_at s [] xs place lt h = absurd (omega (arith, lt))
signal_at s (c ∷ cs) [] place lt h = elim h [ ]
signal_at s (c ∷ cs) (x ∷ xs) zero lt h = record { signal = x; found = refl; wide = h.0.1 }
signal_at s (c ∷ cs) (x ∷ xs) (suc i) lt h =
    let r = signal_at s cs xs i (omega (arith, lt)) h.1 in
    record { signal = r.signal; found = r.found; wide = r.wide }

column_signal : (s : Scope) (cs : List (List ℕ)) (xs : List Signal) (p : List ℕ) (place : ℕ) →
    AreSignals s cs xs → column_of cs p ≡ Some place → ColumnSignal s p xs place
column_signal s cs xs p place h is =
    let at = position-Some (bytes_eq p) cs place [] is in
    let same : p ≡ get_or cs place [] = (bytes_decides p (get_or cs place [])).0 at.1 in
    subst (λ (q : List ℕ). ColumnSignal s q xs place) (sym same) (signal_at s cs xs place at.0 h)

-- The counter of a declaration, where so many stand before.
pub record DeclaredCounter (ms : List counters.Counter) (before place width : ℕ) : Type 0 where
  pub later : ℕ
  pub at : place ≡ before + later
  pub made : counters.Counter
  pub found : slice_get ms later ≡ Some made
  pub wide : made.width ≡ width

same_counter : (p q v w : ℕ) → Some (own.Counter p v) ≡ Some (own.Counter q w) → (p ≡ q) × (v ≡ w)
same_counter p q v w h = (let e : p ≡ q = cc in e, let f : v ≡ w = cc in f)

no_counter : (p q w : ℕ) → Some (own.Sequence p) ≡ Some (own.Counter q w) → ⊥
no_counter p q w h = absurd cc

module _ (s : Scope) (cs : List (List ℕ)) where
  pub declared_counter : (items : List ItemForm) (ms : List counters.Counter) (name : List ℕ)
      (c n place width : ℕ) → AreCounters s cs (counters_of items) ms →
      look_up (owns_from c n items) name ≡ Some (own.Counter place width) →
      DeclaredCounter ms c place width
  declared_counter [] ms name c n place width h is = absurd cc
  declared_counter (counter x ∷ items) [] name c n place width h is = elim h [ ]
  declared_counter (counter x ∷ items) (m ∷ ms) name c n place width h is =
      first (bytes_eq name x.name.text.now) is
      (λ e. declared_counter items ms name (c + 1) n place width h.1 e)
    where
      first : (b : Bool) →
          cond b (Some (own.Counter c (width_in x.width.value)))
          (look_up (owns_from (c + 1) n items) name) ≡ Some (own.Counter place width) →
          (look_up (owns_from (c + 1) n items) name ≡ Some (own.Counter place width) →
          DeclaredCounter ms (c + 1) place width) →
          DeclaredCounter (m ∷ ms) c place width
      first true e f =
          let same = same_counter c place (width_in x.width.value) width e in
          record {
            later = 0;
            at = omega (arith, same.0);
            made = m;
            found = refl;
            wide = h.0.width ∙ same.1;
          }
      first false e f =
          let r = f e in
          record {
            later = suc r.later;
            at = omega (arith, r.at);
            made = r.made;
            found = r.found;
            wide = r.wide;
          }
  declared_counter (declaration x ∷ items) ms name c n place width h is =
      first (bytes_eq name x.name.text.now) is
      (λ e. declared_counter items ms name c (n + 1) place width h e)
    where
      first : (b : Bool) →
          cond b (Some (own.Sequence n)) (look_up (owns_from c (n + 1) items) name)
          ≡ Some (own.Counter place width) →
          (look_up (owns_from c (n + 1) items) name ≡ Some (own.Counter place width) →
          DeclaredCounter ms c place width) →
          DeclaredCounter ms c place width
      first true e f = absurd (no_counter n place width e)
      first false e f = f e
  declared_counter (assertion x ∷ items) ms name c n place width h is =
      declared_counter items ms name c n place width h is

  module _
      (suite : Suite)
      (signals : AreSignals s cs suite.names.items)
      (owned : (p : List ℕ) (place width : ℕ) → s.own p ≡ Some (own.Counter place width) →
      DeclaredCounter suite.counters.items 0 place width) where
    some_width : (v w : ℕ) → Some v ≡ Some w → v ≡ w
    some_width v w h = cc

    signal_named : (p : List ℕ) (width : ℕ) (name : Name) → s.dump p ≡ Some width →
        IsName origins.Signal (column_of cs p) width name → IsSuiteName suite name
    signal_named p width name known h =
        let r = column_signal s cs suite.names.items p name.place signals h.place_is in
        subst (λ (o : Origin). IsOriginIn suite o name.place name.width) (sym h.origin_is)
        (record {
          signal = r.signal;
          found = r.found;
          wide = some_width r.signal.width width (sym r.wide ∙ known) ∙ sym h.width_is;
        })

    counter_named : (p : List ℕ) (place width : ℕ) (name : Name) →
        s.own p ≡ Some (own.Counter place width) →
        IsName origins.Counter (Some place) width name → IsSuiteName suite name
    counter_named p place width name known h =
        let r = owned p place width known in
        let at : r.later ≡ name.place =
        omega (arith, r.at, some_width place name.place h.place_is) in
        subst (λ (o : Origin). IsOriginIn suite o name.place name.width) (sym h.origin_is)
        (record {
          counter = r.made;
          found = subst (λ (i : ℕ). slice_get suite.counters.items i ≡ Some r.made) at r.found;
          wide = r.wide ∙ sym h.width_is;
        })

    name_known : (p : List ℕ) (o : Option Own) (w : Option ℕ) (name : Name) → s.own p ≡ o →
        s.dump p ≡ w → IsNameOf (meaning_by o w) (column_of cs p) name → IsSuiteName suite name
    name_known p None None name e f h = elim h [ ]
    name_known p None (Some width) name e f h = signal_named p width name f h
    name_known p (Some (own.Counter place width)) w name e f h =
        counter_named p place width name e h
    name_known p (Some (own.Sequence place)) w name e f h = elim h [ ]

    named_in : (words : List Token) (name : Name) →
        IsNameOf (meaning s words) (column_of cs (path_text words)) name → IsSuiteName suite name
    named_in words name h =
        let p = path_text words in
        name_known p (s.own p) (s.dump p) name refl refl h

    abbrev AreNamed : Term → Type 0
    AreNamed e = EachPart (OfName (IsSuiteName suite)) e

    binary_named : (op : Binary) (a b : Term) → AreNamed a → AreNamed b →
        AreNamed (binary_term op a b)
    binary_named (Arithmetic op) a b g h = (tt, g, h)
    binary_named (Shift op) a b g h = (tt, g, h)
    binary_named (Comparison op) a b g h = (tt, g, h)
    binary_named (Connective op) a b g h = (tt, g, h)

    unary_named : (op : Unary) (a : Term) → AreNamed a → AreNamed (unary_term op a)
    unary_named unaries.Complement a h = (tt, h)
    unary_named (unaries.Reduce op) a h = (tt, h)

    call_named : (op : Call) (a : Term) → AreNamed a → AreNamed (call_term op a)
    call_named (calls.Change op) a h = (tt, h)
    call_named (calls.Reduce op) a h = (tt, h)

    moved : (a e : Term) → e ≡ a → AreNamed a → AreNamed e
    moved a e is h = subst AreNamed (sym is) h

    read_named : (words : List Token) (x : Option Select) (e : Term) →
        IsReference (meaning s words) (column_of cs (path_text words)) x e → AreNamed e
    read_named words None e h = moved (terms.named h.name) e h.is (named_in words h.name h.names)
    read_named words (Some x) e h =
        moved (terms.slice h.part) e h.is (named_in words h.part.name h.names)

    -- Each name of what an expression means.
    mutual
      unfolding Means

      pub means_named : (t : Tree) (e : Term) → Means s cs t e → AreNamed e
      means_named (number n t) e h = moved (terms.constant h.bits) e h.is tt
      means_named (path words x) e h = read_named words x e h
      means_named (concatenation t d parts) e h =
          joins_named h.0 parts e (means_named d h.0 h.1) h.2
      means_named (past t d n) e h =
          moved (terms.past h.0 (ticks_before n)) e h.2 (tt, means_named d h.0 h.1)
      means_named (call f t d) e h =
          moved (call_term (call_of f) h.0) e h.2
          (call_named (call_of f) h.0 (means_named d h.0 h.1))
      means_named (unary op t d) e h =
          moved (unary_term (unary_of op) h.0) e h.2
          (unary_named (unary_of op) h.0 (means_named d h.0 h.1))
      means_named (chain d links) e h = chains_named h.0 links e (means_named d h.0 h.1) h.2
      means_named (choice d x y) e h =
          moved (terms.choose h.0 h.1 h.2) e h.6
          (tt, means_named d h.0 h.3, means_named x h.1 h.4, means_named y h.2 h.5)

      chains_named : (a : Term) (links : Links) (e : Term) → AreNamed a →
          Chains s cs a links e → AreNamed e
      chains_named a end e g h = moved a e h g
      chains_named a (link op d links) e g h =
          chains_named (binary_term (binary_of op) a h.0) links e
          (binary_named (binary_of op) a h.0 g (means_named d h.0 h.1)) h.2

      joins_named : (a : Term) (parts : Parts) (e : Term) → AreNamed a → Joins s cs a parts e →
          AreNamed e
      joins_named a no_part e g h = moved (terms.group a) e h (tt, g)
      joins_named a (part d parts) e g h =
          more_named (terms.concat a h.0) parts e (tt, g, means_named d h.0 h.1) h.2

      more_named : (a : Term) (parts : Parts) (e : Term) → AreNamed a → JoinsMore s cs a parts e →
          AreNamed e
      more_named a no_part e g h = moved a e h g
      more_named a (part d parts) e g h =
          more_named (terms.concat a h.0) parts e (tt, g, means_named d h.0 h.1) h.2
