-- What a typed expression needs, and what it means, node by node.
use Rattle.std.proofs.Common.{◌≡◌, ℕ, ◌+◌, ◌≤◌, ◌<◌, Bool, true, false, List, [], ◌∷◌, ◌++◌, map, length, Option, Some}
use Rattle.std.proofs.Common.{None, refl, sym, ap, ◌∙◌, subst, arith, IsTrue}
use Rattle.std.specs.Prelude.{nat_le, nat_lt, is_some}
use Rattle.std.proofs.lemmas.Bool.{and_parts, leb-true, ltb-true}
use Rattle.lexer.specs.declared.token.Number.{Number}
use Rattle.lexer.specs.declared.token.Token.{Token}
use Rattle.parser_grammar.specs.declared.bound.Bound.{Bound}
use Rattle.parser_grammar.specs.declared.bound.Select.{Select}
use Rattle.parser_grammar.specs.declared.mark.Function.{Function}
use Rattle.parser_grammar.specs.declared.operator.Infix.{Infix}
use Rattle.parser_grammar.specs.declared.operator.Prefix.{Prefix}
use Rattle.parser_grammar.specs.Trees.{Tree, number, path, concatenation, past, call, unary, chain, choice, Links, end}
use Rattle.parser_grammar.specs.Trees.{link}
use Rattle.parser_grammar.specs.Trees.{Parts, no_part, part}
use Rattle.parser_grammar.specs.ReadExpressions.{parts_of}
use Rattle.parser_grammar.specs.declared.expression.ExprTree.{ExprTree}
use Rattle.parser_grammar.specs.Views.{tree_of}
use Rattle.signals.specs.declared.bits.Bits.{Bits}
use Rattle.expressions.specs.Terms as terms
use Rattle.expressions.specs.Terms.{Term, width_of}
use Rattle.expressions.specs.declared.name.Name.{Name}
use Rattle.expressions.specs.declared.slice.Slice.{Slice}
use Rattle.types_names.specs.declared.own.Own.TheVariants.{Counter, Sequence}
use Rattle.types_names.specs.declared.own.Meaning.{Meaning}
use Rattle.types_names.specs.declared.own.Meaning.TheVariants.{Signal, Own as Declared}
use Rattle.types_names.specs.declared.own.Sought.{Sought}
use Rattle.types_names.specs.declared.own.Sought.TheVariants.{Unknown, Wide, OutOfRange}
use Rattle.types_names.specs.Scopes.{Scope, path_text, first_byte, meaning, bits_of}
use Rattle.types_names.specs.Width.{binary_of, unary_of, call_of, literal_width, literal_value, ticks_before}
use Rattle.types_names.specs.Width.{high_of, low_of, own_width, parts_width}
use Rattle.types_names.specs.Faults.{unless, has_bits, path_faults, wide_faults, faults, link_faults, part_faults}
use Rattle.types_names.specs.Faults.{IsSound}
use Rattle.types_names.specs.Columns.{signals, link_signals, part_signals, path_signals, all_listed, column_of}
use Rattle.types_names.specs.Columns.{HasColumns}
use Rattle.types_names.specs.Meanings.{binary_term, unary_term, call_term, IsNameOf, IsReference, Means, Chains}
use Rattle.types_names.specs.Meanings.{Joins}
use Rattle.types_names.specs.Meanings.{JoinsMore}
use Rattle.types_names.proofs.FaultLaws.{no_faults-parts}
use Rattle.types_names.proofs.ColumnLaws.{listed-parts}
use Rattle.types_names.proofs.MeaningLaws.{mean-width}

unless-true : (b : Bool) (at : ℕ) → unless b at ≡ [] → b ≡ true
unless-true true at h = refl
unless-true false at h = absurd cc

module _ (s : Scope) (cs : List (List ℕ)) where
  -- no faults, and the columns, of the parts of what has none and has them
  pub record IsReady (t : Tree) : Type 0 where
    pub sound : IsSound s t
    pub listed : HasColumns s cs t

  pub record AreReadyLinks (links : Links) : Type 0 where
    pub sound : (k : Sought) → link_faults s k links ≡ []
    pub listed : IsTrue (all_listed cs (link_signals s links))

  pub record AreReadyParts (parts : Parts) : Type 0 where
    pub sound : (k : Sought) → part_faults s k parts ≡ []
    pub listed : IsTrue (all_listed cs (part_signals s parts))

  pub ready-concatenation : (x : Tree) (t : Token) (e : Tree) (parts : Parts) → x ≡ concatenation t e parts
      → IsSound s x → HasColumns s cs x → IsReady e × AreReadyParts parts
      × (parts_width s (own_width s e) parts ≤ 128)
  unfolding faults signals
  ready-concatenation x t e parts is sound listed =
      let whole =
      λ (k : Sought). no_faults-parts (wide_faults k t.at (parts_width s (own_width s e) parts))
      (faults s k e ++ part_faults s k parts) (sym (ap (faults s k) is) ∙ sound k) in
      let inner = λ (k : Sought). no_faults-parts (faults s k e) (part_faults s k parts) (whole k).1 in
      let columns =
      listed-parts cs (signals s e) (part_signals s parts) (subst (λ (y : Tree). HasColumns s cs y) is listed) in
      let narrow : parts_width s (own_width s e) parts ≤ 128 =
      omega (
        arith,
        leb-true (parts_width s (own_width s e) parts) 128
            (unless-true (nat_le (parts_width s (own_width s e) parts) 128) t.at (whole Wide).0),
      ) in (
        record { sound = λ k. (inner k).0; listed = columns.0 },
        record { sound = λ k. (inner k).1; listed = columns.1 },
        narrow,
      )

  pub ready-past : (x : Tree) (t : Token) (e : Tree) (n : Option Bound) → x ≡ past t e n → IsSound s x
      → HasColumns s cs x → IsReady e
  unfolding faults signals
  ready-past x t e n is sound listed =
      record
      { sound = λ k. sym (ap (faults s k) is) ∙ sound k; listed = subst (λ (y : Tree). HasColumns s cs y) is listed }

  pub ready-call : (x : Tree) (f : Function) (t : Token) (e : Tree) → x ≡ call f t e → IsSound s x → HasColumns s cs x
      → IsReady e
  unfolding faults signals
  ready-call x f t e is sound listed =
      record
      { sound = λ k. sym (ap (faults s k) is) ∙ sound k; listed = subst (λ (y : Tree). HasColumns s cs y) is listed }

  pub ready-unary : (x : Tree) (op : Prefix) (t : Token) (e : Tree) → x ≡ unary op t e → IsSound s x → HasColumns s cs x
      → IsReady e
  unfolding faults signals
  ready-unary x op t e is sound listed =
      record
      { sound = λ k. sym (ap (faults s k) is) ∙ sound k; listed = subst (λ (y : Tree). HasColumns s cs y) is listed }

  pub ready-chain : (x e : Tree) (links : Links) → x ≡ chain e links → IsSound s x → HasColumns s cs x → IsReady e
      × AreReadyLinks links
  unfolding faults signals
  ready-chain x e links is sound listed =
      let whole =
      λ (k : Sought). no_faults-parts (faults s k e) (link_faults s k links) (sym (ap (faults s k) is) ∙ sound k)
      in
      let columns =
      listed-parts cs (signals s e) (link_signals s links) (subst (λ (y : Tree). HasColumns s cs y) is listed) in
      (record { sound = λ k. (whole k).0; listed = columns.0 }, record { sound = λ k. (whole k).1; listed = columns.1 })

  pub ready-choice : (x c a b : Tree) → x ≡ choice c a b → IsSound s x → HasColumns s cs x → IsReady c × IsReady a
      × IsReady b
  unfolding faults signals
  ready-choice x c a b is sound listed =
      let whole =
      λ (k : Sought). no_faults-parts (faults s k c) (faults s k a ++ faults s k b)
      (sym (ap (faults s k) is) ∙ sound k) in
      let arms = λ (k : Sought). no_faults-parts (faults s k a) (faults s k b) (whole k).1 in
      let columns =
      listed-parts cs (signals s c) (signals s a ++ signals s b)
      (subst (λ (y : Tree). HasColumns s cs y) is listed) in
      let inner = listed-parts cs (signals s a) (signals s b) columns.1 in (
        record { sound = λ k. (whole k).0; listed = columns.0 },
        record { sound = λ k. (arms k).0; listed = inner.0 },
        record { sound = λ k. (arms k).1; listed = inner.1 },
      )

  pub ready-link : (now : Links) (op : Infix) (e : Tree) (rest : Links) → now ≡ link op e rest
      → ((k : Sought) → link_faults s k now ≡ []) → IsTrue (all_listed cs (link_signals s now)) → IsReady e
      × AreReadyLinks rest
  unfolding faults signals
  ready-link now op e rest is sound listed =
      let whole =
      λ (k : Sought). no_faults-parts (faults s k e) (link_faults s k rest) (sym (ap (link_faults s k) is)
      ∙ sound k) in
      let columns =
      listed-parts cs (signals s e) (link_signals s rest)
      (subst (λ (y : Links). IsTrue (all_listed cs (link_signals s y))) is listed) in
      (record { sound = λ k. (whole k).0; listed = columns.0 }, record { sound = λ k. (whole k).1; listed = columns.1 })

  pub ready-part : (now : Parts) (e : Tree) (rest : Parts) → now ≡ part e rest
      → ((k : Sought) → part_faults s k now ≡ []) → IsTrue (all_listed cs (part_signals s now)) → IsReady e
      × AreReadyParts rest
  unfolding faults signals
  ready-part now e rest is sound listed =
      let whole =
      λ (k : Sought). no_faults-parts (faults s k e) (part_faults s k rest) (sym (ap (part_faults s k) is)
      ∙ sound k) in
      let columns =
      listed-parts cs (signals s e) (part_signals s rest)
      (subst (λ (y : Parts). IsTrue (all_listed cs (part_signals s y))) is listed) in
      (record { sound = λ k. (whole k).0; listed = columns.0 }, record { sound = λ k. (whole k).1; listed = columns.1 })

  pub path-sound : (x : Tree) (words : List Token) (sel : Option Select) → x ≡ path words sel → IsSound s x
      → (k : Sought) → path_faults k (first_byte words) (bits_of (meaning s words)) sel ≡ []
  unfolding faults
  path-sound x words sel is sound k = sym (ap (faults s k) is) ∙ sound k

  pub path-listed : (x : Tree) (words : List Token) (sel : Option Select) → x ≡ path words sel → HasColumns s cs x
      → IsTrue (all_listed cs (path_signals (path_text words) (meaning s words)))
  unfolding signals
  path-listed x words sel is listed = subst (λ (y : Tree). HasColumns s cs y) is listed

  -- widths only grow
  parts_width-above : (w : ℕ) (parts : Parts) → w ≤ parts_width s w parts
  unfolding own_width
  parts_width-above w no_part = omega arith
  parts_width-above w (part e parts) = let h = parts_width-above (w + own_width s e) parts in omega (arith, h)

  pub room-for-part : (now : Parts) (e : Tree) (rest : Parts) (a b : Term) → now ≡ part e rest
      → parts_width s (width_of a) now ≤ 128 → Means s cs e b → width_of a + width_of b ≤ 128
  unfolding own_width
  room-for-part now e rest a b is narrow m =
      let room = subst (λ (ps : Parts). parts_width s (width_of a) ps ≤ 128) is narrow in
      omega (arith, parts_width-above (width_of a + own_width s e) rest, mean-width s cs e b m, room)

  pub narrow-step : (now : Parts) (e : Tree) (rest : Parts) (a b f : Term) → now ≡ part e rest
      → parts_width s (width_of a) now ≤ 128 → Means s cs e b → f ≡ terms.concat a b
      → parts_width s (width_of f) rest ≤ 128
  unfolding own_width
  narrow-step now e rest a b f is narrow m made =
      let room = subst (λ (ps : Parts). parts_width s (width_of a) ps ≤ 128) is narrow in
      let same : width_of f ≡ width_of a + own_width s e =
      ap width_of made ∙ ap (λ n. width_of a + n) (mean-width s cs e b m) in
      subst (λ (n : ℕ). parts_width s n rest ≤ 128) (sym same) room

  pub first-narrow : (e : Tree) (parts : Parts) (a : Term) → Means s cs e a → parts_width s (own_width s e) parts ≤ 128
      → parts_width s (width_of a) parts ≤ 128
  first-narrow e parts a m narrow = subst (λ (n : ℕ). parts_width s n parts ≤ 128) (sym (mean-width s cs e a m)) narrow

  -- what each node means
  pub means-number : (x : Tree) (n : Number) (t : Token) (bits : Bits) (e : Term) → x ≡ number n t
      → bits.width ≡ literal_width n → bits.value ≡ literal_value n → e ≡ terms.constant bits → Means s cs x e
  unfolding Means
  means-number x n t bits e is width value made =
      subst (λ (y : Tree). Means s cs y e) (sym is) (record { bits = bits; width = width; value = value; is = made })

  pub means-path : (x : Tree) (words : List Token) (sel : Option Select) (e : Term) → x ≡ path words sel
      → IsReference (meaning s words) (column_of cs (path_text words)) sel e → Means s cs x e
  unfolding Means
  means-path x words sel e is h = subst (λ (y : Tree). Means s cs y e) (sym is) h

  pub means-concatenation : (x : Tree) (t : Token) (d : Tree) (parts : Parts) (a e : Term) → x ≡ concatenation t d parts
      → Means s cs d a → Joins s cs a parts e → Means s cs x e
  unfolding Means
  means-concatenation x t d parts a e is m h = subst (λ (y : Tree). Means s cs y e) (sym is) (a, m, h)

  pub means-past : (x : Tree) (t : Token) (d : Tree) (n : Option Bound) (a e : Term) → x ≡ past t d n → Means s cs d a
      → e ≡ terms.past a (ticks_before n) → Means s cs x e
  unfolding Means
  means-past x t d n a e is m h = subst (λ (y : Tree). Means s cs y e) (sym is) (a, m, h)

  pub means-call : (x : Tree) (f : Function) (t : Token) (d : Tree) (a e : Term) → x ≡ call f t d → Means s cs d a
      → e ≡ call_term (call_of f) a → Means s cs x e
  unfolding Means
  means-call x f t d a e is m h = subst (λ (y : Tree). Means s cs y e) (sym is) (a, m, h)

  pub means-unary : (x : Tree) (op : Prefix) (t : Token) (d : Tree) (a e : Term) → x ≡ unary op t d → Means s cs d a
      → e ≡ unary_term (unary_of op) a → Means s cs x e
  unfolding Means
  means-unary x op t d a e is m h = subst (λ (y : Tree). Means s cs y e) (sym is) (a, m, h)

  pub means-chain : (x d : Tree) (links : Links) (a e : Term) → x ≡ chain d links → Means s cs d a
      → Chains s cs a links e → Means s cs x e
  unfolding Means
  means-chain x d links a e is m h = subst (λ (y : Tree). Means s cs y e) (sym is) (a, m, h)

  pub means-choice : (x d f g : Tree) (c a b e : Term) → x ≡ choice d f g → Means s cs d c → Means s cs f a
      → Means s cs g b → e ≡ terms.choose c a b → Means s cs x e
  unfolding Means
  means-choice x d f g c a b e is m n o h = subst (λ (y : Tree). Means s cs y e) (sym is) (c, a, b, m, n, o, h)

  -- one more of a loop: what is left means what the whole does
  pub chains-step : (now : Links) (op : Infix) (d : Tree) (rest : Links) (a b f e : Term) → now ≡ link op d rest
      → Means s cs d b → f ≡ binary_term (binary_of op) a b → Chains s cs f rest e → Chains s cs a now e
  unfolding Means
  chains-step now op d rest a b f e is m made h =
      subst (λ (y : Links). Chains s cs a y e) (sym is) (b, m, subst (λ (g : Term). Chains s cs g rest e) made h)

  pub chains-end : (now : Links) (a : Term) → now ≡ end → Chains s cs a now a
  unfolding Means
  chains-end now a is = subst (λ (y : Links). Chains s cs a y a) (sym is) refl

  pub joins-step : (now : Parts) (d : Tree) (rest : Parts) (a b f e : Term) → now ≡ part d rest → Means s cs d b
      → f ≡ terms.concat a b → JoinsMore s cs f rest e → JoinsMore s cs a now e
  unfolding Means
  joins-step now d rest a b f e is m made h =
      subst (λ (y : Parts). JoinsMore s cs a y e) (sym is)
      (b, m, subst (λ (g : Term). JoinsMore s cs g rest e) made h)

  pub joins-end : (now : Parts) (a : Term) → now ≡ no_part → JoinsMore s cs a now a
  unfolding Means
  joins-end now a is = subst (λ (y : Parts). JoinsMore s cs a y a) (sym is) refl

  pub joins-group : (xs : List ExprTree) (a e : Term) → length xs ≡ 0 → e ≡ terms.group a
      → Joins s cs a (parts_of (map tree_of xs)) e
  unfolding Means
  joins-group [] a e none made = made
  joins-group (x ∷ xs) a e none made = absurd (omega arith)

  pub joins-more : (xs : List ExprTree) (a e : Term) → (length xs ≡ 0 → ⊥)
      → JoinsMore s cs a (parts_of (map tree_of xs)) e → Joins s cs a (parts_of (map tree_of xs)) e
  unfolding Means
  joins-more [] a e some h = absurd (some refl)
  joins-more (x ∷ xs) a e some h = h

-- the name of a path
pub known-path : (at : ℕ) (bits : Option ℕ) (sel : Option Select) → path_faults Unknown at bits sel ≡ []
    → IsTrue (is_some bits)
known-path at None sel h = absurd cc
known-path at (Some width) sel h = refl

within : (width at : ℕ) (n : Name) (x : Select) → n.width ≡ width → unless (has_bits width x) at ≡ []
    → IsTrue (has_bits n.width x)
within width at n x same h = ap (λ w. has_bits w x) same ∙ unless-true (has_bits width x) at h

pub has-bits : (means : Option Meaning) (column : Option ℕ) (n : Name) (at : ℕ) (sel : Option Select) (x : Select)
    → sel ≡ Some x → IsNameOf means column n → path_faults OutOfRange at (bits_of means) sel ≡ []
    → IsTrue (has_bits n.width x)
has-bits means column n at sel x is names h =
    by means names (subst (λ (y : Option Select). path_faults OutOfRange at (bits_of means) y ≡ []) is h)
  where
    by : (m : Option Meaning) → IsNameOf m column n → path_faults OutOfRange at (bits_of m) (Some x) ≡ []
        → IsTrue (has_bits n.width x)
    by None k e = elim k [ ]
    by (Some (Signal width)) k e = within width at n x k.width_is e
    by (Some (Declared (Counter place width))) k e = within width at n x k.width_is e
    by (Some (Declared (Sequence place))) k e = elim k [ ]

pub read-whole : (means : Option Meaning) (column : Option ℕ) (sel : Option Select) (n : Name) (e : Term) → sel ≡ None
    → IsNameOf means column n → e ≡ terms.named n → IsReference means column sel e
read-whole means column sel n e is names made =
    subst (λ (y : Option Select). IsReference means column y e) (sym is) (record { name = n; names = names; is = made })

pub read-part : (means : Option Meaning) (column : Option ℕ) (sel : Option Select) (x : Select) (n : Name) (p : Slice)
    (e : Term) → sel ≡ Some x → IsNameOf means column n →
    p.name ≡ n → p.high ≡ high_of x → p.low ≡ low_of x → e ≡ terms.slice p → IsReference means column sel e
read-part means column sel x n p e is names same high low made =
    subst (λ (y : Option Select). IsReference means column y e) (sym is)
    (record {
      part = p;
      names = subst (λ (m : Name). IsNameOf means column m) (sym same) names;
      high = high;
      low = low;
      is = made;
    })

-- the bits of a select, as numbers
pub high-below : (width : ℕ) (x : Select) → IsTrue (has_bits width x) → high_of x < width
high-below width x h =
    ltb-true (high_of x) width (and_parts (nat_le (low_of x) (high_of x)) (nat_lt (high_of x) width) h).1

pub low-below : (width : ℕ) (x : Select) → IsTrue (has_bits width x) → low_of x ≤ high_of x
low-below width x h =
    leb-true (low_of x) (high_of x) (and_parts (nat_le (low_of x) (high_of x)) (nat_lt (high_of x) width) h).0
