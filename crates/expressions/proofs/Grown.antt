-- Chains that grow by a step.
use Rattle.std.proofs.Common.{◌≡◌, ℕ, Bool, true, List, [], ◌∷◌, ◌++◌, map, Vec, Box, Global, refl, sym, ap, ◌∙◌}
use Rattle.std.proofs.Common.{IsTrue}
use Rattle.std.specs.Prelude.{◌&&◌}
use Rattle.std.proofs.lemmas.Bool.{and_parts}
use Rattle.expressions.specs.declared.node.Node.{Node}
use Rattle.expressions.specs.declared.node.Node.TheOpen.{Node-F}
use Rattle.expressions.specs.declared.node.Node.TheFolds.{fold-roll-Node}
use Rattle.expressions.specs.declared.operator.Arithmetic.{Arithmetic}
use Rattle.expressions.specs.declared.operator.Shift.{Shift}
use Rattle.expressions.specs.declared.operator.Comparison.{Comparison}
use Rattle.expressions.specs.declared.operator.Connective.{Connective}
use Rattle.expressions.specs.declared.node.Node.TheVariants.{Concat, Arithmetic as Sums, Shift as Shifts, Compare}
use Rattle.expressions.specs.declared.node.Node.TheVariants.{Connect, rolls-Concat, rolls-Arithmetic, rolls-Shift}
use Rattle.expressions.specs.declared.node.Node.TheVariants.{rolls-Compare, rolls-Connect}
use Rattle.expressions.specs.Terms.{Term, concat, combine, shift, compare, connect, width_of}
use Rattle.expressions.specs.Nodes.{Seen, chain_term, concatenation_term, all_typed, all_parts_typed, width_compared}
use Rattle.expressions.specs.Nodes.{has_some, has_part, keeps, kept_chain, seen_step, seen_node, node_term, is_typed}
use Rattle.expressions.specs.Nodes.{step_of, IsTree}
use Rattle.expressions.proofs.Opened.{IsChain, opens_sums, opens_shifts, opens_compare, opens_connect, opens_concat}

chained-append : (O : Type 0) (make : O → Term → Term → Term) (e : Term) (ss : List (O × Seen)) (s : O × Seen) →
    chain_term make e (ss ++ s ∷ []) ≡ make s.0 (chain_term make e ss) s.1.term
chained-append O make e [] s = refl
chained-append O make e (r ∷ ss) s = chained-append O make (make r.0 e r.1.term) ss s

joined-append : (e : Term) (parts : List Seen) (part : Seen) → concatenation_term e (parts ++ part ∷ [])
    ≡ concat (concatenation_term e parts) part.term
joined-append e [] part = refl
joined-append e (p ∷ parts) part = joined-append (concat e p.term) parts part

and_true : (a b : Bool) → a ≡ true → b ≡ true → (a && b) ≡ true
and_true a b x y = rw (x, y) refl

all_typed-append : (O : Type 0) (ss : List (O × Seen)) (s : O × Seen) → IsTrue (all_typed ss) → IsTrue s.1.is_typed
    → IsTrue (all_typed (ss ++ s ∷ []))
all_typed-append O [] s h t = and_true s.1.is_typed true t refl
all_typed-append O (r ∷ ss) s h t =
    let p = and_parts r.1.is_typed (all_typed ss) h in
    and_true r.1.is_typed (all_typed (ss ++ s ∷ [])) p.0 (all_typed-append O ss s p.1 t)

all_parts_typed-append : (parts : List Seen) (part : Seen) → IsTrue (all_parts_typed parts) → IsTrue part.is_typed
    → IsTrue (all_parts_typed (parts ++ part ∷ []))
all_parts_typed-append [] part h t = and_true part.is_typed true t refl
all_parts_typed-append (r ∷ parts) part h t =
    let p = and_parts r.is_typed (all_parts_typed parts) h in
    and_true r.is_typed (all_parts_typed (parts ++ part ∷ [])) p.0 (all_parts_typed-append parts part p.1 t)

has_some-append : (O : Type 0) (ss : List (O × Seen)) (s : O × Seen) → IsTrue (has_some (ss ++ s ∷ []))
has_some-append O [] s = refl
has_some-append O (r ∷ ss) s = refl

has_part-append : (parts : List Seen) (part : Seen) → IsTrue (has_part (parts ++ part ∷ []))
has_part-append [] part = refl
has_part-append (r ∷ parts) part = refl

width_compared-append : (e : Term) (ss : List (Comparison × Seen)) (s : Comparison × Seen) → IsTrue (has_some ss)
    → width_compared e (ss ++ s ∷ []) ≡ width_compared e ss
width_compared-append e [] s h = (cc)
width_compared-append e (r ∷ ss) s h = refl

map-append_one : (A B : Type 0) (f : A → B) (xs : List A) (x : A) → map f (xs ++ x ∷ []) ≡ map f xs ++ f x ∷ []
map-append_one A B f [] x = refl
map-append_one A B f (y ∷ xs) x = ap (λ ys. f y ∷ ys) (map-append_one A B f xs x)

-- what a chain of one more step stands for
pub record IsLonger (O : Type 0) (make : O → Term → Term → Term) (left first : Node) (op : O) (right : Node)
    (steps : List (O × Seen)) : Type 0 where
  pub chain : chain_term make (node_term first) steps ≡ make op (node_term left) (node_term right)
  pub first_typed : IsTrue (is_typed first)
  pub steps_typed : IsTrue (all_typed steps)

grows : (O : Type 0) (make : O → Term → Term → Term) (left first : Node) (old new : List (O × Node)) (op : O)
    (right : Node) →
    IsChain O make left first (map step_of old) → IsTrue (is_typed right) → new ≡ old ++ (op, right) ∷ []
    → IsLonger O make left first op right (map step_of new)
grows O make left first old new op right h typed is =
    let more : map step_of new ≡ map step_of old ++ (op, seen_node right) ∷ [] =
    ap (λ xs. map step_of xs) is ∙ map-append_one (O × Node) (O × Seen) step_of old (op, right) in
    record {
      chain = rw (more, h.term) (chained-append O make (node_term first) (map step_of old) (op, seen_node right));
      first_typed = h.first_typed;
      steps_typed = rw more (all_typed-append O (map step_of old) (op, seen_node right) h.steps_typed typed);
    }

kept_longer : (O : Type 0) (make : O → Term → Term → Term) (left first : Node) (op : O) (right : Node)
    (steps : List (O × Seen)) (kept : ℕ) (node : Node) →
    IsLonger O make left first op right steps
    → IsTrue (keeps kept (width_of (make op (node_term left) (node_term right)))) →
    seen_node node ≡ kept_chain make kept (seen_node first) steps
    → IsTree (make op (node_term left) (node_term right)) node
kept_longer O make left first op right steps kept node h keeping same =
    record {
      term = ap (λ (s : Seen). s.term) same ∙ h.chain;
      typed = ap (λ (s : Seen). s.is_typed) same
          ∙ and_true (is_typed first && all_typed steps)
          (keeps kept (width_of (chain_term make (node_term first) steps)))
          (and_true (is_typed first) (all_typed steps) h.first_typed h.steps_typed) (rw h.chain keeping);
    }

pub longer_sums : (left : Node) (width : ℕ) (first : Box Node Global) (old new : Vec (Arithmetic × Node) Global)
    (op : Arithmetic) (right : Node) (kept : ℕ) →
    left ≡ Sums width first old → IsTrue (is_typed left) → IsTrue (is_typed right)
    → IsTrue (keeps kept (width_of (combine op (node_term left) (node_term right)))) →
    new.items ≡ old.items ++ (op, right) ∷ []
    → IsTree (combine op (node_term left) (node_term right)) (Sums kept first new)
longer_sums left width first old new op right kept is typed right_typed keeping longer =
    let o = opens_sums left width first old is typed in
    let g = grows Arithmetic combine left first.value old.items new.items op right o.chain right_typed longer in
    kept_longer Arithmetic combine left first.value op right (map step_of new.items) kept (Sums kept first new) g
    keeping
    (ap seen_node (sym (rolls-Arithmetic kept first new))
    ∙ fold-roll-Node Seen seen_step (Node-F.Arithmetic kept first new))

pub longer_shifts : (left : Node) (width : ℕ) (first : Box Node Global) (old new : Vec (Shift × Node) Global)
    (op : Shift) (right : Node) (kept : ℕ) →
    left ≡ Shifts width first old → IsTrue (is_typed left) → IsTrue (is_typed right)
    → IsTrue (keeps kept (width_of (shift op (node_term left) (node_term right)))) →
    new.items ≡ old.items ++ (op, right) ∷ []
    → IsTree (shift op (node_term left) (node_term right)) (Shifts kept first new)
longer_shifts left width first old new op right kept is typed right_typed keeping longer =
    let o = opens_shifts left width first old is typed in
    let g = grows Shift shift left first.value old.items new.items op right o.chain right_typed longer in
    kept_longer Shift shift left first.value op right (map step_of new.items) kept (Shifts kept first new) g keeping
    (ap seen_node (sym (rolls-Shift kept first new)) ∙ fold-roll-Node Seen seen_step (Node-F.Shift kept first new))

pub longer_compare : (left : Node) (kept : ℕ) (first : Box Node Global) (old new : Vec (Comparison × Node) Global)
    (op : Comparison) (right : Node) →
    left ≡ Compare kept first old → IsTrue (is_typed left) → IsTrue (is_typed right) →
    new.items ≡ old.items ++ (op, right) ∷ []
    → IsTree (compare op (node_term left) (node_term right)) (Compare kept first new)
longer_compare left kept first old new op right is typed right_typed longer =
    let all = map step_of new.items in
    let o = opens_compare left kept first old is typed in
    let g = grows Comparison compare left first.value old.items new.items op right o.chain right_typed longer in
    let w = width_compared (node_term first.value) all in
    let same : seen_node (Compare kept first new)
    ≡ record {
      term = chain_term compare (node_term first.value) all;
      is_typed = is_typed first.value && all_typed all && keeps kept w;
    } =
    ap seen_node (sym (rolls-Compare kept first new)) ∙ fold-roll-Node Seen seen_step (Node-F.Compare kept first new) in
    let more : all ≡ map step_of old.items ++ (op, seen_node right) ∷ [] =
    ap (λ xs. map step_of xs) longer ∙ map-append_one (Comparison × Node) (Comparison × Seen) step_of old.items
    (op, right) in
    let width : w ≡ width_compared (node_term first.value) (map step_of old.items) =
    ap (λ ss. width_compared (node_term first.value) ss) more
    ∙ width_compared-append (node_term first.value) (map step_of old.items) (op, seen_node right) o.some in
    record {
      term = ap (λ (s : Seen). s.term) same ∙ g.chain;
      typed = ap (λ (s : Seen). s.is_typed) same
          ∙ and_true (is_typed first.value && all_typed all) (keeps kept w)
          (and_true (is_typed first.value) (all_typed all) g.first_typed g.steps_typed)
          (ap (λ v. keeps kept v) width ∙ o.keeping);
    }

pub longer_connect : (left : Node) (first : Box Node Global) (old new : Vec (Connective × Node) Global)
    (op : Connective) (right : Node) →
    left ≡ Connect first old → IsTrue (is_typed left) → IsTrue (is_typed right) →
    new.items ≡ old.items ++ (op, right) ∷ []
    → IsTree (connect op (node_term left) (node_term right)) (Connect first new)
longer_connect left first old new op right is typed right_typed longer =
    let all = map step_of new.items in
    let o = opens_connect left first old is typed in
    let g = grows Connective connect left first.value old.items new.items op right o.chain right_typed longer in
    let same : seen_node (Connect first new)
    ≡ record {
      term = chain_term connect (node_term first.value) all;
      is_typed = is_typed first.value && all_typed all && has_some all;
    } =
    ap seen_node (sym (rolls-Connect first new)) ∙ fold-roll-Node Seen seen_step (Node-F.Connect first new) in
    let more : all ≡ map step_of old.items ++ (op, seen_node right) ∷ [] =
    ap (λ xs. map step_of xs) longer ∙ map-append_one (Connective × Node) (Connective × Seen) step_of old.items
    (op, right) in
    record {
      term = ap (λ (s : Seen). s.term) same ∙ g.chain;
      typed = ap (λ (s : Seen). s.is_typed) same
          ∙ and_true (is_typed first.value && all_typed all) (has_some all)
          (and_true (is_typed first.value) (all_typed all) g.first_typed g.steps_typed)
          (rw more (has_some-append Connective (map step_of old.items) (op, seen_node right)));
    }

pub longer_concat : (left : Node) (width : ℕ) (first : Box Node Global) (old new : Vec Node Global) (right : Node)
    (kept : ℕ) →
    left ≡ Concat width first old → IsTrue (is_typed left) → IsTrue (is_typed right)
    → IsTrue (keeps kept (width_of (concat (node_term left) (node_term right)))) →
    new.items ≡ old.items ++ right ∷ [] → IsTree (concat (node_term left) (node_term right)) (Concat kept first new)
longer_concat left width first old new right kept is typed right_typed keeping longer =
    let all = map seen_node new.items in
    let o = opens_concat left width first old is typed in
    let w = width_of (concatenation_term (node_term first.value) all) in
    let same : seen_node (Concat kept first new)
    ≡ record {
      term = concatenation_term (node_term first.value) all;
      is_typed = is_typed first.value && all_parts_typed all && has_part all && keeps kept w;
    } =
    ap seen_node (sym (rolls-Concat kept first new)) ∙ fold-roll-Node Seen seen_step (Node-F.Concat kept first new) in
    let more : all ≡ map seen_node old.items ++ seen_node right ∷ [] =
    ap (λ xs. map seen_node xs) longer ∙ map-append_one Node Seen seen_node old.items right in
    let e : concatenation_term (node_term first.value) all ≡ concat (node_term left) (node_term right) =
    rw (more, o.term) (joined-append (node_term first.value) (map seen_node old.items) (seen_node right)) in
    let parts : IsTrue (all_parts_typed all) =
    rw more (all_parts_typed-append (map seen_node old.items) (seen_node right) o.parts_typed right_typed) in
    let some : IsTrue (has_part all) = rw more (has_part-append (map seen_node old.items) (seen_node right)) in
    record {
      term = ap (λ (s : Seen). s.term) same ∙ e;
      typed = ap (λ (s : Seen). s.is_typed) same
          ∙ and_true (is_typed first.value && all_parts_typed all && has_part all) (keeps kept w)
          (and_true (is_typed first.value && all_parts_typed all) (has_part all)
          (and_true (is_typed first.value) (all_parts_typed all) o.first_typed parts) some)
          (ap (λ x. keeps kept (width_of x)) e ∙ keeping);
    }
