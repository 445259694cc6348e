-- What expressions mean has one value.
use Rattle.std.proofs.Common.{◌≡◌, ℕ, ◌+◌, ◌-◌, ◌*◌, ◌/◌, ◌%◌, ◌^◌, max, List, Option, Some, None, refl, sym, ap, ◌∙◌}
use Rattle.std.proofs.Common.{if◌then◌else◌}
use Rattle.std.specs.Prelude.{nat_le, ◌==◌}
use Rattle.parser_grammar.specs.declared.bound.Select.{Select}
use Rattle.parser_grammar.specs.Trees.{Tree, number, path, concatenation, past, call, unary, chain, choice, Links, end}
use Rattle.parser_grammar.specs.Trees.{link}
use Rattle.parser_grammar.specs.Trees.{Parts, no_part, part}
use Rattle.expressions.specs.Terms as terms
use Rattle.expressions.specs.Terms.{Term, Samples, width_of, value_of, name_at, sample_at}
use Rattle.expressions.specs.Operators.{complement, arithmetic, shift_value, comparison_value, connective_value}
use Rattle.expressions.specs.Operators.{reduction_value, change_of}
use Rattle.expressions.specs.declared.name.Origin.{Origin}
use Rattle.expressions.specs.declared.name.Name.{Name}
use Rattle.expressions.specs.declared.operator.Reduction.{Reduction}
use Rattle.expressions.specs.declared.operator.Change.{Change}
use Rattle.types_names.specs.declared.own.Own.TheVariants.{Counter, Sequence}
use Rattle.types_names.specs.declared.own.Meaning.{Meaning}
use Rattle.types_names.specs.declared.own.Meaning.TheVariants.{Signal, Own as Declared}
use Rattle.types_names.specs.declared.operator.Binary.{Binary}
use Rattle.types_names.specs.declared.operator.Binary.TheVariants.{Arithmetic, Shift, Comparison, Connective}
use Rattle.types_names.specs.declared.operator.Unary.{Unary}
use Rattle.types_names.specs.declared.operator.Unary.TheVariants as unaries
use Rattle.types_names.specs.declared.operator.Call.{Call}
use Rattle.types_names.specs.declared.operator.Call.TheVariants as calls
use Rattle.types_names.specs.Scopes.{Scope, path_text, meaning}
use Rattle.types_names.specs.Width.{binary_of, unary_of, call_of, ticks_before}
use Rattle.types_names.specs.Columns.{column_of}
use Rattle.types_names.specs.Meanings.{binary_term, unary_term, call_term, IsName, IsNameOf, IsReference, Means}
use Rattle.types_names.specs.Meanings.{Chains, Joins, JoinsMore}

-- two terms of one width and one value
pub record AreSame (x : Samples) (e f : Term) : Type 0 where
  pub width : width_of e ≡ width_of f
  pub value : (k w : ℕ) → value_of x e k w ≡ value_of x f k w

module _ (x : Samples) where
  -- at its own width
  own : (e f : Term) → AreSame x e f → (k : ℕ) → value_of x e k (width_of e) ≡ value_of x f k (width_of f)
  own e f h k = h.value k (width_of e) ∙ ap (value_of x f k) h.width

  -- a term made of others: first with one part changed, then with the next
  larger : (a b c d : Term) → AreSame x a b → AreSame x c d → max (width_of a) (width_of c)
      ≡ max (width_of b) (width_of d)
  larger a b c d h k = ap (λ n. max n (width_of c)) h.width ∙ ap (max (width_of b)) k.width

  same-combined : (op : Binary) (a b c d : Term) → AreSame x a b → AreSame x c d
      → AreSame x (binary_term op a c) (binary_term op b d)
  same-combined (Arithmetic op) a b c d h k = record {
    width = larger a b c d h k;
    value =
        λ t w. ap (λ v. arithmetic op w v (value_of x c t w)) (h.value t w)
        ∙ ap (arithmetic op w (value_of x b t w)) (k.value t w);
  }
  same-combined (Shift op) a b c d h k = record {
    width = h.width;
    value =
        λ t w. ap (λ v. shift_value op w v (value_of x c t (width_of c))) (h.value t w)
        ∙ ap (shift_value op w (value_of x b t w)) (own c d k t);
  }
  same-combined (Comparison op) a b c d h k = record {
    width = refl;
    value = λ t w.
        let n = max (width_of a) (width_of c) in
        ap (λ v. comparison_value op v (value_of x c t n)) (h.value t n)
        ∙ ap (comparison_value op (value_of x b t n)) (k.value t n)
        ∙ ap (λ m. comparison_value op (value_of x b t m) (value_of x d t m)) (larger a b c d h k);
  }
  same-combined (Connective op) a b c d h k = record {
    width = refl;
    value =
        λ t w. ap (λ v. connective_value op v (value_of x c t (width_of c))) (own a b h t)
        ∙ ap (connective_value op (value_of x b t (width_of b))) (own c d k t);
  }

  same-concat : (a b c d : Term) → AreSame x a b → AreSame x c d → AreSame x (terms.concat a c) (terms.concat b d)
  same-concat a b c d h k = record {
    width = ap (λ n. n + width_of c) h.width ∙ ap (λ n. width_of b + n) k.width;
    value = λ t w. ap (λ v. v * 2 ^ width_of c + value_of x c t (width_of c)) (own a b h t)
        ∙ ap (λ n. value_of x b t (width_of b) * 2 ^ n + value_of x c t (width_of c)) k.width
        ∙ ap (λ v. value_of x b t (width_of b) * 2 ^ width_of d + v) (own c d k t);
  }

  same-group : (a b : Term) → AreSame x a b → AreSame x (terms.group a) (terms.group b)
  same-group a b h = record { width = h.width; value = λ t w. own a b h t }

  same-reduce : (op : Reduction) (a b : Term) → AreSame x a b → AreSame x (terms.reduce op a) (terms.reduce op b)
  same-reduce op a b h =
      record {
        width = refl;
        value = λ t w. ap (λ n. reduction_value op n (value_of x a t (width_of a))) h.width
            ∙ ap (reduction_value op (width_of b)) (own a b h t);
      }

  same-prefixed : (op : Unary) (a b : Term) → AreSame x a b → AreSame x (unary_term op a) (unary_term op b)
  same-prefixed unaries.Complement a b h = record { width = h.width; value = λ t w. ap (complement w) (h.value t w) }
  same-prefixed (unaries.Reduce op) a b h = same-reduce op a b h

  same-change : (op : Change) (a b : Term) → AreSame x a b → AreSame x (terms.change op a) (terms.change op b)
  same-change op a b h = record {
    width = refl;
    value = λ t w. ap (λ v. change_of op v (if nat_le 1 t then value_of x a (t - 1) (width_of a) else 0)) (own a b h t)
        ∙ ap (λ v. change_of op (value_of x b t (width_of b)) (if nat_le 1 t then v else 0)) (own a b h (t - 1));
  }

  same-called : (op : Call) (a b : Term) → AreSame x a b → AreSame x (call_term op a) (call_term op b)
  same-called (calls.Change op) a b h = same-change op a b h
  same-called (calls.Reduce op) a b h = same-reduce op a b h

  same-past : (n : ℕ) (a b : Term) → AreSame x a b → AreSame x (terms.past a n) (terms.past b n)
  same-past n a b h =
      record { width = h.width; value = λ t w. ap (λ v. if nat_le n t then v else 0) (own a b h (t - n)) }

  same-choose : (a b c d e f : Term) → AreSame x a b → AreSame x c d → AreSame x e f
      → AreSame x (terms.choose a c e) (terms.choose b d f)
  same-choose a b c d e f h k l = record {
    width = larger c d e f k l;
    value = λ t w. ap (λ v. if v == 0 then value_of x e t w else value_of x c t w) (own a b h t)
        ∙ ap (λ v. if value_of x b t (width_of b) == 0 then v else value_of x c t w) (l.value t w)
        ∙ ap (λ v. if value_of x b t (width_of b) == 0 then value_of x f t w else v) (k.value t w);
  }

  -- equal terms are the same
  same-by : (e f g h : Term) → e ≡ g → f ≡ h → AreSame x g h → AreSame x e f
  same-by e f g h p q s = record {
    width = ap width_of p ∙ s.width ∙ sym (ap width_of q);
    value = λ k w. ap (λ y. value_of x y k w) p ∙ s.value k w ∙ sym (ap (λ y. value_of x y k w) q);
  }

  some-same : (m n : ℕ) → Some m ≡ Some n → m ≡ n
  some-same m n h = cc

  same-name : (origin : Origin) (column : Option ℕ) (width : ℕ) (m n : Name) → IsName origin column width m
      → IsName origin column width n → (k : ℕ) → name_at x m k ≡ name_at x n k
  same-name origin column width m n h l k =
      let places = some-same m.place n.place (sym h.place_is ∙ l.place_is) in
      ap (λ (o : Origin). sample_at x o m.place k % 2 ^ m.width) (h.origin_is ∙ sym l.origin_is)
      ∙ ap (λ p. sample_at x n.origin p k % 2 ^ m.width) places
      ∙ ap (λ w. sample_at x n.origin n.place k % 2 ^ w) (h.width_is ∙ sym l.width_is)

  record AreOneName (m n : Name) : Type 0 where
    width : m.width ≡ n.width
    value : (k : ℕ) → name_at x m k ≡ name_at x n k

  one-name : (means : Option Meaning) (column : Option ℕ) (m n : Name) → IsNameOf means column m
      → IsNameOf means column n → AreOneName m n
  one-name None column m n h l = elim h [ ]
  one-name (Some (Signal width)) column m n h l =
      record { width = h.width_is ∙ sym l.width_is; value = same-name _ _ _ m n h l }
  one-name (Some (Declared (Counter place width))) column m n h l =
      record { width = h.width_is ∙ sym l.width_is; value = same-name _ _ _ m n h l }
  one-name (Some (Declared (Sequence place))) column m n h l = elim h [ ]

  same-read : (means : Option Meaning) (column : Option ℕ) (sel : Option Select) (e f : Term)
      → IsReference means column sel e → IsReference means column sel f → AreSame x e f
  same-read means column None e f h l =
      let o = one-name means column h.name l.name h.names l.names in
      same-by e f (terms.named h.name) (terms.named l.name) h.is l.is
      (record { width = o.width; value = λ k w. o.value k })
  same-read means column (Some y) e f h l =
      let o = one-name means column h.part.name l.part.name h.names l.names in
      let high = h.high ∙ sym l.high in
      let low = h.low ∙ sym l.low in
      same-by e f (terms.slice h.part) (terms.slice l.part) h.is l.is (record {
        width = ap (λ n. n - h.part.low + 1) high ∙ ap (λ n. l.part.high - n + 1) low;
        value = λ k w. ap (λ v. v / 2 ^ h.part.low % 2 ^ (h.part.high - h.part.low + 1)) (o.value k)
            ∙ ap (λ n. name_at x l.part.name k / 2 ^ h.part.low % 2 ^ (n - h.part.low + 1)) high
            ∙ ap (λ n. name_at x l.part.name k / 2 ^ n % 2 ^ (l.part.high - n + 1)) low;
      })

  module _ (s : Scope) (cs : List (List ℕ)) where
    mutual
      unfolding Means

      pub one-meaning : (t : Tree) (e f : Term) → Means s cs t e → Means s cs t f → AreSame x e f
      one-meaning (number form t) e f m n =
          same-by e f (terms.constant m.bits) (terms.constant n.bits) m.is n.is
          (record { width = m.width ∙ sym n.width; value = λ k w. m.value ∙ sym n.value })
      one-meaning (path words sel) e f m n = same-read (meaning s words) (column_of cs (path_text words)) sel e f m n
      one-meaning (concatenation t d parts) e f m n = one-join parts m.0 n.0 e f (one-meaning d m.0 n.0 m.1 n.1) m.2 n.2
      one-meaning (past t d p) e f m n =
          same-by e f (terms.past m.0 (ticks_before p)) (terms.past n.0 (ticks_before p)) m.2 n.2
          (same-past (ticks_before p) m.0 n.0 (one-meaning d m.0 n.0 m.1 n.1))
      one-meaning (call g t d) e f m n =
          same-by e f (call_term (call_of g) m.0) (call_term (call_of g) n.0) m.2 n.2
          (same-called (call_of g) m.0 n.0 (one-meaning d m.0 n.0 m.1 n.1))
      one-meaning (unary op t d) e f m n =
          same-by e f (unary_term (unary_of op) m.0) (unary_term (unary_of op) n.0) m.2 n.2
          (same-prefixed (unary_of op) m.0 n.0 (one-meaning d m.0 n.0 m.1 n.1))
      one-meaning (chain d links) e f m n = one-chain links m.0 n.0 e f (one-meaning d m.0 n.0 m.1 n.1) m.2 n.2
      one-meaning (choice c y z) e f m n =
          same-by e f (terms.choose m.0 m.1 m.2) (terms.choose n.0 n.1 n.2) m.6 n.6
          (same-choose m.0 n.0 m.1 n.1 m.2 n.2 (one-meaning c m.0 n.0 m.3 n.3) (one-meaning y m.1 n.1 m.4 n.4)
          (one-meaning z m.2 n.2 m.5 n.5))

      one-chain : (links : Links) (a b e f : Term) → AreSame x a b → Chains s cs a links e → Chains s cs b links f
          → AreSame x e f
      one-chain end a b e f h m n = same-by e f a b m n h
      one-chain (link op d links) a b e f h m n =
          one-chain links (binary_term (binary_of op) a m.0) (binary_term (binary_of op) b n.0) e f
          (same-combined (binary_of op) a b m.0 n.0 h (one-meaning d m.0 n.0 m.1 n.1)) m.2 n.2

      one-join : (parts : Parts) (a b e f : Term) → AreSame x a b → Joins s cs a parts e → Joins s cs b parts f
          → AreSame x e f
      one-join no_part a b e f h m n = same-by e f (terms.group a) (terms.group b) m n (same-group a b h)
      one-join (part d parts) a b e f h m n =
          one-join_more parts (terms.concat a m.0) (terms.concat b n.0) e f
          (same-concat a b m.0 n.0 h (one-meaning d m.0 n.0 m.1 n.1)) m.2 n.2

      one-join_more : (parts : Parts) (a b e f : Term) → AreSame x a b → JoinsMore s cs a parts e
          → JoinsMore s cs b parts f → AreSame x e f
      one-join_more no_part a b e f h m n = same-by e f a b m n h
      one-join_more (part d parts) a b e f h m n =
          one-join_more parts (terms.concat a m.0) (terms.concat b n.0) e f
          (same-concat a b m.0 n.0 h (one-meaning d m.0 n.0 m.1 n.1)) m.2 n.2
