-- Texts of terms, from those of their operands.
use Rattle.std.proofs.Common.{◌≡◌, ◌∙◌, ◌≤◌, ◌<◌, ◌+◌, ℕ, zero, suc, Bool, true, false, List, [], ◌∷◌, ◌++◌, Box, Vec}
use Rattle.std.proofs.Common.{Global}
use Rattle.std.proofs.Common.{Result, String, IfOk, string_bytes}
use Rattle.std.proofs.Common.{length, map, take, get_or, refl, sym, ap, subst, arith, add-one, inl, inr, ◌⊎◌}
use Rattle.std.specs.Prelude.{codes, nat_lt, if◌then◌else◌, ◌==◌}
use Rattle.std.specs.Vec.{vec_len}
use Rattle.std.proofs.Math.Seq.{take-suc}
use Rattle.std.proofs.lemmas.Bool.{ltb-false}
use Rattle.std.proofs.lemmas.Result.{IfOk-weaker}
use Rattle.std.proofs.lemmas.List.{map-append, length-map, take_all}
use Rattle.signals.specs.declared.bits.Bits.{Bits}
use Rattle.expressions.specs.declared.name.Name.{Name}
use Rattle.expressions.specs.declared.slice.Slice.{Slice}
use Rattle.expressions.specs.declared.operator.Arithmetic.{Arithmetic}
use Rattle.expressions.specs.declared.operator.Arithmetic.TheVariants as sums
use Rattle.expressions.specs.declared.operator.Shift.{Shift}
use Rattle.expressions.specs.declared.operator.Comparison.{Comparison}
use Rattle.expressions.specs.declared.operator.Comparison.TheVariants as comparisons
use Rattle.expressions.specs.declared.operator.Connective.{Connective}
use Rattle.expressions.specs.declared.operator.Connective.TheVariants as connectives
use Rattle.expressions.specs.declared.operator.Reduction.{Reduction}
use Rattle.expressions.specs.declared.operator.Change.{Change}
use Rattle.expressions.specs.declared.node.Node.{Node}
use Rattle.expressions.specs.declared.node.Node.TheOpen.{Node-F}
use Rattle.expressions.specs.declared.node.Node.TheFolds.{fold-roll-Node}
use Rattle.expressions.specs.declared.node.Node.TheVariants as node
use Rattle.expressions.specs.Terms.{Term, constant, named, slice, group, concat, inverse, reduce}
use Rattle.expressions.specs.Terms.{combine, shift, compare, connect, choose, past, change}
use Rattle.expressions.specs.Nodes.{Seen, chain_term, concatenation_term, seen_step, seen_node, node_term, step_of}
use Rattle.report_explained.specs.ExpressionText.{Called, Stands, IsBare, IsText, IsJoined, IsWithin, IsFront}
use Rattle.report_explained.specs.ExpressionText.{level_of, sum_sign, sum_level, shift_sign}
use Rattle.report_explained.specs.ExpressionText.{comparison_sign, comparison_level, connective_sign, connective_level}
use Rattle.report_explained.specs.ExpressionText.{reduction_level, is_function, reduction_word, change_word, ticks_text}
use Rattle.report_explained.specs.ExpressionText.{IsReduced}

-- what stands may stand where looser operators may
pub looser : (level p q : ℕ) (Is : List ℕ → Type 0) (t : List ℕ) → q ≤ p → Stands level p Is t → Stands level q Is t
looser level p q Is t below s = record {
  bare = s.bare;
  is_bare = s.is_bare;
  pairs = s.pairs;
  is = s.is;
  tight = λ none. let h : p ≤ level = s.tight none in omega (arith, h, below);
}

-- what stands may stand where its own operator may
pub stands_by_level : (level p q : ℕ) (Is : List ℕ → Type 0) (t : List ℕ) → q ≤ level → Stands level p Is t
    → Stands level q Is t
stands_by_level level p q Is t below s = record {
  bare = s.bare;
  is_bare = s.is_bare;
  pairs = s.pairs;
  is = s.is;
  tight = λ none. below;
}

-- in brackets it may stand anywhere
pub in_pair : (level p q : ℕ) (Is : List ℕ → Type 0) (t u : List ℕ) → u ≡ codes "(" ++ t ++ codes ")"
    → Stands level p Is t → Stands level q Is u
in_pair level p q Is t u e s = record {
  bare = s.bare;
  is_bare = s.is_bare;
  pairs = suc s.pairs;
  is = e ∙ ap (λ (x : List ℕ). codes "(" ++ x ++ codes ")") s.is;
  tight = λ none. absurd (omega (arith, none));
}

pub bare_at : (level p : ℕ) (Is : List ℕ → Type 0) (t : List ℕ) → p ≤ level → Is t → Stands level p Is t
bare_at level p Is t below is =
    record { bare = t; is_bare = is; pairs = 0; is = refl; tight = λ none. below }

-- in brackets where asked, it may stand where it may without them
pub in_pair_if : (level p q : ℕ) (Is : List ℕ → Type 0) (t u : List ℕ) (b : Bool)
    → u ≡ (if b then codes "(" ++ t ++ codes ")" else t) → (b ≡ false → q ≤ level) → Stands level p Is t
    → Stands level q Is u
in_pair_if level p q Is t u true e tight s = in_pair level p q Is t u e s
in_pair_if level p q Is t u false e tight s =
    subst (λ (x : List ℕ). Stands level q Is x) (sym e) (stands_by_level level p q Is t (tight refl) s)

-- the same where a text that may stand at one level is to stand at another
pub in_pair_below : (level p q : ℕ) (Is : List ℕ → Type 0) (t : List ℕ)
    → Stands level p Is t → Stands level q Is (if nat_lt p q then codes "(" ++ t ++ codes ")" else t)
in_pair_below level p q Is t s = go (nat_lt p q) refl
  where
    go : (b : Bool) → nat_lt p q ≡ b → Stands level q Is (if b then codes "(" ++ t ++ codes ")" else t)
    go true is = in_pair level p q Is t _ refl s
    go false is = looser level p q Is t (ltb-false p q is) s

-- a result that is a text of another name's term
pub if_text : {E : Type 0} (r : Result (String Global) E) (c : Called) (p : ℕ) (e d : Term) → e ≡ d
    → IfOk r (λ t. IsText c p d (string_bytes t)) → IfOk r (λ t. IsText c p e (string_bytes t))
if_text r c p e d same h =
    subst (λ (x : Term). IfOk r (λ t. IsText c p x (string_bytes t))) (sym same) h

-- a result that is this very text
pub if_made : {E : Type 0} (r : Result (String Global) E) (Is : List ℕ → Type 0) (made : List ℕ) → Is made
    → IfOk r (λ t. string_bytes t ≡ made) → IfOk r (λ t. Is (string_bytes t))
if_made r Is made is h =
    IfOk-weaker r (λ t. string_bytes t ≡ made) (λ t. Is (string_bytes t)) (λ t e. subst Is (sym e) is) h

-- a term under another name
pub text_of_same : (c : Called) (p : ℕ) (e d : Term) (t : List ℕ) → e ≡ d → IsText c p d t → IsText c p e t
text_of_same c p e d t same h = subst (λ (x : Term). IsText c p x t) (sym same) h

-- Operators of a chain: what joins two operands is bare at the operator's level.
pub record AreOperators {O : Type 0} (make : O → Term → Term → Term) (sign : O → List ℕ) (level : O → ℕ) : Type 0 where
  pub some : (op : O) → 1 ≤ level op
  pub low : (op : O) → level op + 1 ≤ 11
  pub level_is : (op : O) (a b : Term) → level op ≤ level_of (make op a b)
  pub is_bare : (c : Called) (op : O) (a b : Term) (t : List ℕ)
      → IsJoined (sign op) (IsText c (level op) a) (IsText c (level op + 1) b) t → IsBare c (make op a b) t

pub sums_are : AreOperators combine sum_sign sum_level
unfolding IsText
sums_are = record {
  some = λ op. some_sum op;
  low = λ op. low_sum op;
  level_is = λ op a b. omega arith;
  is_bare = λ c op a b t h. h;
}
  where
    some_sum : (op : Arithmetic) → 1 ≤ sum_level op
    some_sum sums.Add = omega arith
    some_sum sums.Sub = omega arith
    some_sum sums.And = omega arith
    some_sum sums.Or = omega arith
    some_sum sums.Xor = omega arith
    some_sum sums.Xnor = omega arith

    low_sum : (op : Arithmetic) → sum_level op + 1 ≤ 11
    low_sum sums.Add = omega arith
    low_sum sums.Sub = omega arith
    low_sum sums.And = omega arith
    low_sum sums.Or = omega arith
    low_sum sums.Xor = omega arith
    low_sum sums.Xnor = omega arith

pub shifts_are : AreOperators shift shift_sign (λ op. 9)
unfolding IsText
shifts_are = record {
  some = λ op. omega arith;
  low = λ op. omega arith;
  level_is = λ op a b. omega arith;
  is_bare = λ c op a b t h. h;
}

pub comparisons_are : AreOperators compare comparison_sign comparison_level
unfolding IsText
comparisons_are = record {
  some = λ op. some_one op;
  low = λ op. low_one op;
  level_is = λ op a b. omega arith;
  is_bare = λ c op a b t h. h;
}
  where
    some_one : (op : Comparison) → 1 ≤ comparison_level op
    some_one comparisons.Equal = omega arith
    some_one comparisons.Differs = omega arith
    some_one comparisons.Less = omega arith
    some_one comparisons.AtMost = omega arith
    some_one comparisons.Greater = omega arith
    some_one comparisons.AtLeast = omega arith

    low_one : (op : Comparison) → comparison_level op + 1 ≤ 11
    low_one comparisons.Equal = omega arith
    low_one comparisons.Differs = omega arith
    low_one comparisons.Less = omega arith
    low_one comparisons.AtMost = omega arith
    low_one comparisons.Greater = omega arith
    low_one comparisons.AtLeast = omega arith

pub connectives_are : AreOperators connect connective_sign connective_level
unfolding IsText
connectives_are = record {
  some = λ op. some_one op;
  low = λ op. low_one op;
  level_is = λ op a b. omega arith;
  is_bare = λ c op a b t h. h;
}
  where
    some_one : (op : Connective) → 1 ≤ connective_level op
    some_one connectives.Both = omega arith
    some_one connectives.Either = omega arith

    low_one : (op : Connective) → connective_level op + 1 ≤ 11
    low_one connectives.Both = omega arith
    low_one connectives.Either = omega arith

pub chain_last : {O : Type 0} (make : O → Term → Term → Term) (first : Term) (steps : List (O × Seen)) (s : O × Seen)
    → chain_term make first (steps ++ s ∷ []) ≡ make s.0 (chain_term make first steps) s.1.term
chain_last make first [] s = refl
chain_last make first (x ∷ steps) s = chain_last make (make x.0 first x.1.term) steps s

pub chain_next : {O : Type 0} (make : O → Term → Term → Term) (first : Term) (all : List (O × Node)) (i : ℕ)
    (d : O × Node)
    → i < length all → chain_term make first (map step_of (take (i + 1) all))
    ≡ make (get_or all i d).0 (chain_term make first (map step_of (take i all))) (node_term (get_or all i d).1)
chain_next {O} make first all i d below =
    ap (λ (l : List (O × Node)). chain_term make first (map step_of l))
    (ap (λ (k : ℕ). take k all) (add-one i) ∙ take-suc all i d below)
    ∙ ap (λ (l : List (O × Seen)). chain_term make first l) (map-append step_of (take i all) (get_or all i d ∷ []))
    ∙ chain_last make first (map step_of (take i all)) (step_of (get_or all i d))

-- the text of a chain, with one operand more
pub chain_more : {O : Type 0} (make : O → Term → Term → Term) (sign : O → List ℕ) (level : O → ℕ)
    → AreOperators make sign level → (c : Called) (first : Term) (all : List (O × Node)) (i : ℕ) (d : O × Node) (at : ℕ)
    (old operand new : List ℕ) → i < length all
    → new ≡ (if nat_lt at (level (get_or all i d).0) then codes "(" ++ old ++ codes ")" else old)
    ++ sign (get_or all i d).0 ++ operand
    → IsText c at (chain_term make first (map step_of (take i all))) old
    → IsText c 11 (node_term (get_or all i d).1) operand
    → IsText c (level (get_or all i d).0) (chain_term make first (map step_of (take (i + 1) all))) new
unfolding IsText
chain_more {O} make sign level are c first all i d at old operand new below is so one =
    let op = (get_or all i d).0 in
    let e = chain_term make first (map step_of (take i all)) in
    let f = node_term (get_or all i d).1 in
    text_of_same c (level op) (chain_term make first (map step_of (take (i + 1) all))) (make op e f) new
    (chain_next make first all i d below)
    (bare_at (level_of (make op e f)) (level op) (IsBare c (make op e f)) new (are.level_is op e f)
    (are.is_bare c op e f new (record {
      first = if nat_lt at (level op) then codes "(" ++ old ++ codes ")" else old;
      is_first = in_pair_below (level_of e) at (level op) (IsBare c e) old so;
      second = operand;
      is_second = looser (level_of f) 11 (level op + 1) (IsBare c f) operand (are.low op) one;
      is = is;
    })))

-- Parts in braces, but for the braces: the first one alone, or more.
pub record AreOpen (c : Called) (e : Term) (t : List ℕ) : Type 0 where
  pub a : Term
  pub b : Term
  pub is : e ≡ concat a b
  pub bare : IsBare c (concat a b) (codes "{" ++ t ++ codes "}")

abbrev pub ArePartsOf : Called → ℕ → Term → Term → List ℕ → Type 0
ArePartsOf c i first e t = ((i ≡ 0) × (e ≡ first) × IsText c 1 first t) ⊎ ((0 < i) × AreOpen c e t)

-- one part more
open_more : (c : Called) (e f : Term) (t u new : List ℕ) → new ≡ t ++ codes ", " ++ u
    → (IsFront e (IsBare c e) t ⊎ IsText c 1 e t) → IsText c 1 f u → AreOpen c (concat e f) new
unfolding IsText
open_more c e f t u new is front one = record {
  a = e;
  b = f;
  is = refl;
  bare = record {
    inner = new;
    is_inner = record { first = t; is_first = front; second = u; is_second = one; is = is };
    is = refl;
  };
}

front_of : (c : Called) (e : Term) (t : List ℕ) → AreOpen c e t → IsFront e (IsBare c e) t
front_of c e t o =
    subst (λ (x : Term). IsFront x (IsBare c x) t) (sym o.is) o.bare

pub parts_more : (c : Called) (i : ℕ) (first e f : Term) (t u new : List ℕ) → new ≡ t ++ codes ", " ++ u
    → ArePartsOf c i first e t → IsText c 1 f u → ArePartsOf c (i + 1) first (concat e f) new
parts_more c i first e f t u new is (inl (none, same, alone)) one =
    inr (omega arith, open_more c e f t u new is (inr (subst (λ (x : Term). IsText c 1 x t) (sym same) alone)) one)
parts_more c i first e f t u new is (inr (some, open_parts)) one =
    inr (omega arith, open_more c e f t u new is (inl (front_of c e t open_parts)) one)

pub parts_last : (first : Term) (parts : List Seen) (part : Seen)
    → concatenation_term first (parts ++ part ∷ []) ≡ concat (concatenation_term first parts) part.term
parts_last first [] part = refl
parts_last first (x ∷ parts) part = parts_last (concat first x.term) parts part

pub parts_next : (first : Term) (all : List Node) (i : ℕ) (d : Node) → i < length all
    → concatenation_term first (map seen_node (take (i + 1) all))
    ≡ concat (concatenation_term first (map seen_node (take i all))) (node_term (get_or all i d))
parts_next first all i d below =
    ap (λ (l : List Node). concatenation_term first (map seen_node l))
    (ap (λ (k : ℕ). take k all) (add-one i) ∙ take-suc all i d below)
    ∙ ap (λ (l : List Seen). concatenation_term first l) (map-append seen_node (take i all) (get_or all i d ∷ []))
    ∙ parts_last first (map seen_node (take i all)) (seen_node (get_or all i d))

-- a list of parts is a primary
open_level : (a b : Term) (parts : List Seen) → level_of (concatenation_term (concat a b) parts) ≡ 12
open_level a b [] = refl
open_level a b (p ∷ parts) = open_level (concat a b) p.term parts

pub parts_level : (first : Term) (parts : List Seen) → 0 < length parts
    → 12 ≤ level_of (concatenation_term first parts)
parts_level first [] some = absurd (omega (arith, some))
parts_level first (p ∷ parts) some =
    let e : level_of (concatenation_term (concat first p.term) parts) ≡ 12 = open_level first p.term parts in
    omega (arith, e)

-- all parts, in their braces
pub parts_closed : (c : Called) (i : ℕ) (first e : Term) (t new : List ℕ) → 0 < i
    → new ≡ codes "{" ++ t ++ codes "}" → ArePartsOf c i first e t → IsText c 1 e new
unfolding IsText
parts_closed c i first e t new some is (inl (none, same, alone)) = absurd (omega (arith, some, none))
parts_closed c i first e t new some is (inr (more, o)) =
    text_of_same c 1 e (concat o.a o.b) new o.is
    (bare_at 12 1 (IsBare c (concat o.a o.b)) new (omega arith)
    (subst (λ (x : List ℕ). IsBare c (concat o.a o.b) x) (sym is) o.bare))

-- The terms of trees.
pub constant_term : (n : Node) (bits : Bits) → n ≡ node.Constant bits → node_term n ≡ constant bits
constant_term n bits is =
    ap (λ (s : Seen). s.term) (ap seen_node is ∙ ap seen_node (sym (node.rolls-Constant bits))
    ∙ fold-roll-Node Seen seen_step (Node-F.Constant bits))

pub named_term : (n : Node) (name : Name) → n ≡ node.Name name → node_term n ≡ named name
named_term n name is =
    ap (λ (s : Seen). s.term) (ap seen_node is ∙ ap seen_node (sym (node.rolls-Name name))
    ∙ fold-roll-Node Seen seen_step (Node-F.Name name))

pub slice_term : (n : Node) (part : Slice) → n ≡ node.Slice part → node_term n ≡ slice part
slice_term n part is =
    ap (λ (s : Seen). s.term) (ap seen_node is ∙ ap seen_node (sym (node.rolls-Slice part))
    ∙ fold-roll-Node Seen seen_step (Node-F.Slice part))

pub group_term : (n : Node) (kept : ℕ) (e : Box Node Global) → n ≡ node.Group kept e
    → node_term n ≡ group (node_term e.value)
group_term n kept e is =
    ap (λ (s : Seen). s.term) (ap seen_node is ∙ ap seen_node (sym (node.rolls-Group kept e))
    ∙ fold-roll-Node Seen seen_step (Node-F.Group kept e))

pub inverse_term : (n : Node) (kept : ℕ) (e : Box Node Global) → n ≡ node.Complement kept e
    → node_term n ≡ inverse (node_term e.value)
inverse_term n kept e is =
    ap (λ (s : Seen). s.term) (ap seen_node is ∙ ap seen_node (sym (node.rolls-Complement kept e))
    ∙ fold-roll-Node Seen seen_step (Node-F.Complement kept e))

pub reduce_term : (n : Node) (op : Reduction) (e : Box Node Global) → n ≡ node.Reduce op e
    → node_term n ≡ reduce op (node_term e.value)
reduce_term n op e is =
    ap (λ (s : Seen). s.term) (ap seen_node is ∙ ap seen_node (sym (node.rolls-Reduce op e))
    ∙ fold-roll-Node Seen seen_step (Node-F.Reduce op e))

pub past_term : (n : Node) (kept : ℕ) (e : Box Node Global) (ticks : ℕ) → n ≡ node.Past kept e ticks
    → node_term n ≡ past (node_term e.value) ticks
past_term n kept e ticks is =
    ap (λ (s : Seen). s.term) (ap seen_node is ∙ ap seen_node (sym (node.rolls-Past kept e ticks))
    ∙ fold-roll-Node Seen seen_step (Node-F.Past kept e ticks))

pub change_term : (n : Node) (op : Change) (e : Box Node Global) → n ≡ node.Change op e
    → node_term n ≡ change op (node_term e.value)
change_term n op e is =
    ap (λ (s : Seen). s.term) (ap seen_node is ∙ ap seen_node (sym (node.rolls-Change op e))
    ∙ fold-roll-Node Seen seen_step (Node-F.Change op e))

pub concat_term : (n : Node) (kept : ℕ) (first : Box Node Global) (parts : Vec Node Global)
    → n ≡ node.Concat kept first parts
    → node_term n ≡ concatenation_term (node_term first.value) (map seen_node parts.items)
concat_term n kept first parts is =
    ap (λ (s : Seen). s.term) (ap seen_node is ∙ ap seen_node (sym (node.rolls-Concat kept first parts))
    ∙ fold-roll-Node Seen seen_step (Node-F.Concat kept first parts))

pub sums_term : (n : Node) (kept : ℕ) (first : Box Node Global) (steps : Vec (Arithmetic × Node) Global)
    → n ≡ node.Arithmetic kept first steps
    → node_term n ≡ chain_term combine (node_term first.value) (map step_of steps.items)
sums_term n kept first steps is =
    ap (λ (s : Seen). s.term) (ap seen_node is ∙ ap seen_node (sym (node.rolls-Arithmetic kept first steps))
    ∙ fold-roll-Node Seen seen_step (Node-F.Arithmetic kept first steps))

pub shifts_term : (n : Node) (kept : ℕ) (first : Box Node Global) (steps : Vec (Shift × Node) Global)
    → n ≡ node.Shift kept first steps
    → node_term n ≡ chain_term shift (node_term first.value) (map step_of steps.items)
shifts_term n kept first steps is =
    ap (λ (s : Seen). s.term) (ap seen_node is ∙ ap seen_node (sym (node.rolls-Shift kept first steps))
    ∙ fold-roll-Node Seen seen_step (Node-F.Shift kept first steps))

pub comparisons_term : (n : Node) (kept : ℕ) (first : Box Node Global) (steps : Vec (Comparison × Node) Global)
    → n ≡ node.Compare kept first steps
    → node_term n ≡ chain_term compare (node_term first.value) (map step_of steps.items)
comparisons_term n kept first steps is =
    ap (λ (s : Seen). s.term) (ap seen_node is ∙ ap seen_node (sym (node.rolls-Compare kept first steps))
    ∙ fold-roll-Node Seen seen_step (Node-F.Compare kept first steps))

pub connections_term : (n : Node) (first : Box Node Global) (steps : Vec (Connective × Node) Global)
    → n ≡ node.Connect first steps
    → node_term n ≡ chain_term connect (node_term first.value) (map step_of steps.items)
connections_term n first steps is =
    ap (λ (s : Seen). s.term) (ap seen_node is ∙ ap seen_node (sym (node.rolls-Connect first steps))
    ∙ fold-roll-Node Seen seen_step (Node-F.Connect first steps))

pub choose_term : (n : Node) (kept : ℕ) (d a b : Box Node Global) → n ≡ node.Choose kept d a b
    → node_term n ≡ choose (node_term d.value) (node_term a.value) (node_term b.value)
choose_term n kept d a b is =
    ap (λ (s : Seen). s.term) (ap seen_node is ∙ ap seen_node (sym (node.rolls-Choose kept d a b))
    ∙ fold-roll-Node Seen seen_step (Node-F.Choose kept d a b))

not_none : (k : ℕ) → (k == 0) ≡ false → 0 < k
not_none zero h = cc
not_none (suc k) h = omega arith

-- a list of parts, in braces
pub concat_level : (n : Node) (kept : ℕ) (first : Box Node Global) (parts : Vec Node Global) (none : Bool)
    → n ≡ node.Concat kept first parts → none ≡ (vec_len parts == 0) → none ≡ false → 12 ≤ level_of (node_term n)
concat_level n kept first parts none is tests some_are =
    let many : 0 < parts.len = not_none parts.len (sym tests ∙ some_are) in
    let some : 0 < length parts.items = omega (arith, many, parts.ok) in
    subst (λ (e : Term). 12 ≤ level_of e) (sym (concat_term n kept first parts is))
    (parts_level (node_term first.value) (map seen_node parts.items)
    (let e : length (map seen_node parts.items) ≡ length parts.items = length-map parts.items seen_node in
    omega (arith, e, some)))

-- The same of results.
pub text_looser : (c : Called) (p q : ℕ) (e : Term) (t : List ℕ) → q ≤ p → IsText c p e t → IsText c q e t
unfolding IsText
text_looser c p q e t below h = looser (level_of e) p q (IsBare c e) t below h

pub text_bare : (c : Called) (p : ℕ) (e : Term) (t : List ℕ) → p ≤ level_of e → IsBare c e t → IsText c p e t
unfolding IsText
text_bare c p e t below is = bare_at (level_of e) p (IsBare c e) t below is

pub if_bare : {E : Type 0} (r : Result (String Global) E) (c : Called) (e d : Term) → e ≡ d → 1 ≤ level_of d
    → IfOk r (λ t. IsBare c d (string_bytes t)) → IfOk r (λ t. IsText c 1 e (string_bytes t))
if_bare r c e d same some h =
    if_text r c 1 e d same
    (IfOk-weaker r (λ t. IsBare c d (string_bytes t)) (λ t. IsText c 1 d (string_bytes t))
    (λ t is. text_bare c 1 d (string_bytes t) some is) h)

-- an operand, in brackets where it needs them
pub if_operand : {E : Type 0} (r : Result (String Global) E) (c : Called) (q : ℕ) (e : Term) (t : List ℕ) (b : Bool)
    → (b ≡ false → q ≤ level_of e) → IsText c 1 e t
    → IfOk r (λ m. string_bytes m ≡ (if b then codes "(" ++ t ++ codes ")" else t))
    → IfOk r (λ m. IsText c q e (string_bytes m))
unfolding IsText
if_operand r c q e t b tight h made =
    IfOk-weaker r (λ m. string_bytes m ≡ (if b then codes "(" ++ t ++ codes ")" else t))
    (λ m. IsText c q e (string_bytes m))
    (λ m is. in_pair_if (level_of e) 1 q (IsBare c e) t (string_bytes m) b is tight h) made

pub if_group : {E : Type 0} (r : Result (String Global) E) (c : Called) (n : Node) (kept : ℕ) (e : Box Node Global)
    (d : Node) (t u : List ℕ) → n ≡ node.Group kept e → d ≡ e.value → u ≡ t → IsText c 1 (node_term d) t
    → IfOk r (λ m. string_bytes m ≡ codes "{" ++ u ++ codes "}")
    → IfOk r (λ m. IsText c 1 (node_term n) (string_bytes m))
unfolding IsText
if_group r c n kept e d t u is same text h made =
    if_bare r c (node_term n) (group (node_term d))
    (group_term n kept e is ∙ ap (λ (x : Node). group (node_term x)) (sym same)) (omega arith)
    (if_made r (IsBare c (group (node_term d))) (codes "{" ++ u ++ codes "}")
    (record { inner = u; is_inner = subst (λ (x : List ℕ). IsText c 1 (node_term d) x) (sym text) h; is = refl }) made)

pub if_inverse : {E : Type 0} (r : Result (String Global) E) (c : Called) (n : Node) (kept : ℕ) (e : Box Node Global)
    (d : Node) (t u : List ℕ) → n ≡ node.Complement kept e → d ≡ e.value → u ≡ t → IsText c 12 (node_term d) t
    → IfOk r (λ m. string_bytes m ≡ codes "~" ++ u ++ [])
    → IfOk r (λ m. IsText c 1 (node_term n) (string_bytes m))
unfolding IsText
if_inverse r c n kept e d t u is same text h made =
    if_bare r c (node_term n) (inverse (node_term d))
    (inverse_term n kept e is ∙ ap (λ (x : Node). inverse (node_term x)) (sym same)) (omega arith)
    (if_made r (IsBare c (inverse (node_term d))) (codes "~" ++ u ++ [])
    (record { inner = u; is_inner = subst (λ (x : List ℕ). IsText c 12 (node_term d) x) (sym text) h; is = refl }) made)

pub if_change : {E : Type 0} (r : Result (String Global) E) (c : Called) (n : Node) (op : Change) (e : Box Node Global)
    (d : Node) (word : List ℕ) → n ≡ node.Change op e → d ≡ e.value → word ≡ change_word op
    → IfOk r (λ m. IsWithin (word ++ codes "(") (codes ")") (IsText c 1 (node_term d)) (string_bytes m))
    → IfOk r (λ m. IsText c 1 (node_term n) (string_bytes m))
unfolding IsText
if_change r c n op e d word is same word_is h =
    if_bare r c (node_term n) (change op (node_term d))
    (change_term n op e is ∙ ap (λ (x : Node). change op (node_term x)) (sym same)) (omega arith)
    (subst (λ (w : List ℕ). IfOk r (λ m. IsWithin (w ++ codes "(") (codes ")") (IsText c 1 (node_term d))
    (string_bytes m)))
    word_is h)

pub if_past : {E : Type 0} (r : Result (String Global) E) (c : Called) (e : Term) (ticks : ℕ) (t u v : List ℕ)
    → u ≡ t → v ≡ ticks_text (ticks == 1) ticks ++ codes ")" → IsText c 1 e t
    → IfOk r (λ m. string_bytes m ≡ codes "$past(" ++ u ++ v)
    → IfOk r (λ m. IsText c 1 (past e ticks) (string_bytes m))
unfolding IsText
if_past r c e ticks t u v text after h made =
    if_bare r c (past e ticks) (past e ticks) refl (omega arith)
    (if_made r (IsBare c (past e ticks)) (codes "$past(" ++ u ++ v)
    (record {
      inner = u;
      is_inner = subst (λ (x : List ℕ). IsText c 1 e x) (sym text) h;
      is = ap (λ (x : List ℕ). codes "$past(" ++ u ++ x) after;
    }) made)

-- tests of all bits
reduced_some : (op : Reduction) → 1 ≤ reduction_level (is_function op)
reduced_some op = go (is_function op)
  where
    go : (b : Bool) → 1 ≤ reduction_level b
    go true = omega arith
    go false = omega arith

pub if_function : {E : Type 0} (r : Result (String Global) E) (c : Called) (op : Reduction) (e : Term) (word : List ℕ)
    (b : Bool) → b ≡ is_function op → b ≡ true → word ≡ reduction_word op
    → IfOk r (λ m. IsWithin (word ++ codes "(") (codes ")") (IsText c 1 e) (string_bytes m))
    → IfOk r (λ m. IsText c 1 (reduce op e) (string_bytes m))
unfolding IsText
if_function r c op e word b tests is word_is h =
    if_bare r c (reduce op e) (reduce op e) refl (reduced_some op)
    (subst (λ (k : Bool). IfOk r (λ m. IsReduced k (reduction_word op) (IsText c 1 e) (IsText c 12 e) (string_bytes m)))
    (sym is ∙ tests)
    (subst (λ (w : List ℕ). IfOk r (λ m. IsWithin (w ++ codes "(") (codes ")") (IsText c 1 e) (string_bytes m))) word_is
    h))

pub if_sign : {E : Type 0} (r : Result (String Global) E) (c : Called) (op : Reduction) (e : Term) (word t u : List ℕ)
    (b : Bool) → b ≡ is_function op → b ≡ false → word ≡ reduction_word op → u ≡ t → IsText c 12 e t
    → IfOk r (λ m. string_bytes m ≡ word ++ u ++ [])
    → IfOk r (λ m. IsText c 1 (reduce op e) (string_bytes m))
unfolding IsText
if_sign r c op e word t u b tests is word_is text h made =
    if_bare r c (reduce op e) (reduce op e) refl (reduced_some op)
    (subst (λ (k : Bool). IfOk r (λ m. IsReduced k (reduction_word op) (IsText c 1 e) (IsText c 12 e) (string_bytes m)))
    (sym is ∙ tests)
    (if_made r (IsWithin (reduction_word op) [] (IsText c 12 e)) (word ++ u ++ [])
    (record {
      inner = u;
      is_inner = subst (λ (x : List ℕ). IsText c 12 e x) (sym text) h;
      is = ap (λ (w : List ℕ). w ++ u ++ []) word_is;
    }) made))

-- a condition
pub chosen_text : (c : Called) (d a b : Term) (t u v new : List ℕ) → IsText c 11 d t → IsText c 11 a u → IsText c 11 b v
    → new ≡ t ++ codes " ? " ++ (u ++ codes " : " ++ v) → IsText c 1 (choose d a b) new
unfolding IsText
chosen_text c d a b t u v new first second third is =
    text_bare c 1 (choose d a b) new (omega arith) (record {
      first = t;
      is_first = text_looser c 11 2 d t (omega arith) first;
      second = u ++ codes " : " ++ v;
      is_second = record {
        first = u;
        is_first = text_looser c 11 1 a u (omega arith) second;
        second = v;
        is_second = text_looser c 11 1 b v (omega arith) third;
        is = refl;
      };
      is = is;
    })

pub if_choice : {E : Type 0} (r : Result (String Global) E) (c : Called) (n : Node) (kept : ℕ) (d a b : Box Node Global)
    (dd da db : Node) (t u v second third : List ℕ) → n ≡ node.Choose kept d a b → dd ≡ d.value → da ≡ a.value
    → db ≡ b.value → second ≡ u → third ≡ v → IsText c 11 (node_term dd) t → IsText c 11 (node_term da) u
    → IsText c 11 (node_term db) v
    → IfOk r (λ m. string_bytes m ≡ t ++ codes " ? " ++ (second ++ codes " : " ++ third))
    → IfOk r (λ m. IsText c 1 (node_term n) (string_bytes m))
if_choice r c n kept d a b dd da db t u v second third is same_d same_a same_b second_is third_is h k l made =
    if_text r c 1 (node_term n) (choose (node_term dd) (node_term da) (node_term db))
    (choose_term n kept d a b is ∙ ap (λ (x : Node). choose (node_term x) (node_term a.value) (node_term b.value))
    (sym same_d)
    ∙ ap (λ (x : Node). choose (node_term dd) (node_term x) (node_term b.value)) (sym same_a)
    ∙ ap (λ (x : Node). choose (node_term dd) (node_term da) (node_term x)) (sym same_b))
    (if_made r (IsText c 1 (choose (node_term dd) (node_term da) (node_term db)))
    (t ++ codes " ? " ++ (second ++ codes " : " ++ third))
    (chosen_text c (node_term dd) (node_term da) (node_term db) t u v
    (t ++ codes " ? " ++ (second ++ codes " : " ++ third))
    h k l
    (ap (λ (x : List ℕ). t ++ codes " ? " ++ (x ++ codes " : " ++ third)) second_is
    ∙ ap (λ (x : List ℕ). t ++ codes " ? " ++ (u ++ codes " : " ++ x)) third_is)) made)

-- One part more, of a list in memory; and all.
pub parts_step : (c : Called) (first : Term) (all : List Node) (i : ℕ) (x : Node) (t u said new : List ℕ)
    → i < length all → x ≡ get_or all i x → said ≡ u → new ≡ t ++ codes ", " ++ said
    → ArePartsOf c i first (concatenation_term first (map seen_node (take i all))) t → IsText c 1 (node_term x) u
    → ArePartsOf c (i + 1) first (concatenation_term first (map seen_node (take (i + 1) all))) new
parts_step c first all i x t u said new below at said_is is so one =
    let e = concatenation_term first (map seen_node (take i all)) in
    subst (λ (y : Term). ArePartsOf c (i + 1) first y new)
    (ap (λ (n : Node). concat e (node_term n)) at ∙ sym (parts_next first all i x below))
    (parts_more c i first e (node_term x) t said new is so
    (subst (λ (y : List ℕ). IsText c 1 (node_term x) y) (sym said_is) one))

pub parts_all : {E : Type 0} (r : Result (String Global) E) (c : Called) (first : Term) (all : List Node) (i : ℕ)
    (t said : List ℕ) (none : Bool) → none ≡ (length all == 0) → none ≡ false → length all ≤ i → said ≡ t
    → ArePartsOf c i first (concatenation_term first (map seen_node (take i all))) t
    → IfOk r (λ m. string_bytes m ≡ codes "{" ++ said ++ codes "}")
    → IfOk r (λ m. IsText c 1 (concatenation_term first (map seen_node all)) (string_bytes m))
parts_all r c first all i t said none tests some_are over said_is so made =
    let whole : take i all ≡ all = take_all i all over in
    let some : 0 < length all = not_none (length all) (sym tests ∙ some_are) in
    let e = concatenation_term first (map seen_node (take i all)) in
    if_text r c 1 (concatenation_term first (map seen_node all)) e
    (ap (λ (l : List Node). concatenation_term first (map seen_node l)) (sym whole))
    (if_made r (IsText c 1 e) (codes "{" ++ said ++ codes "}")
    (parts_closed c i first e said (codes "{" ++ said ++ codes "}") (omega (arith, some, over)) refl
    (subst (λ (y : List ℕ). ArePartsOf c i first e y) (sym said_is) so)) made)

-- One operand more of a chain in memory; and all.
pub chain_step : {O : Type 0} (make : O → Term → Term → Term) (sign : O → List ℕ) (level : O → ℕ)
    → AreOperators make sign level → (c : Called) (first : Term) (all : List (O × Node)) (i : ℕ) (x : O × Node)
    (at next : ℕ) (old operand said signs new : List ℕ) → i < length all → x ≡ get_or all i x → next ≡ level x.0
    → signs ≡ sign x.0 → said ≡ operand
    → new ≡ (if nat_lt at next then codes "(" ++ old ++ codes ")" else old) ++ signs ++ said
    → IsText c at (chain_term make first (map step_of (take i all))) old → IsText c 11 (node_term x.1) operand
    → IsText c next (chain_term make first (map step_of (take (i + 1) all))) new
chain_step {O} make sign level are c first all i x at next old operand said signs new below here next_is signs_are
    said_is is so one =
    let front : ℕ → List ℕ = λ n. if nat_lt at n then codes "(" ++ old ++ codes ")" else old in
    let y = get_or all i x in
    let level_is : next ≡ level y.0 = next_is ∙ ap (λ (z : O × Node). level z.0) here in
    let new_is : new ≡ front (level y.0) ++ sign y.0 ++ operand =
    is ∙ ap (λ (n : ℕ). front n ++ signs ++ said) level_is
    ∙ ap (λ (l : List ℕ). front (level y.0) ++ l ++ said) (signs_are ∙ ap (λ (z : O × Node). sign z.0) here)
    ∙ ap (λ (l : List ℕ). front (level y.0) ++ sign y.0 ++ l) said_is in
    subst (λ (n : ℕ). IsText c n (chain_term make first (map step_of (take (i + 1) all))) new) (sym level_is)
    (chain_more make sign level are c first all i x at old operand new below new_is so
    (subst (λ (z : O × Node). IsText c 11 (node_term z.1) operand) here one))

pub chain_all : {O : Type 0} (make : O → Term → Term → Term) (c : Called) (p : ℕ) (first : Term) (all : List (O × Node))
    (i : ℕ) (t : List ℕ) → 1 ≤ p → length all ≤ i → IsText c p (chain_term make first (map step_of (take i all))) t
    → IsText c 1 (chain_term make first (map step_of all)) t
chain_all {O} make c p first all i t some over h =
    text_of_same c 1 (chain_term make first (map step_of all)) (chain_term make first (map step_of (take i all))) t
    (ap (λ (l : List (O × Node)). chain_term make first (map step_of l)) (sym (take_all i all over)))
    (text_looser c p 1 (chain_term make first (map step_of (take i all))) t some h)
