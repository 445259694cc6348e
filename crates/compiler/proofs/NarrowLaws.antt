-- No part of a typed expression has over 128 bits.
use Rattle.std.proofs.Common.{◌≡◌, ℕ, Bool, ◌≤◌, max, List, [], ◌∷◌, ◌++◌, map, Option}
use Rattle.std.proofs.Common.{Some, None, refl, sym, subst, arith, IsTrue}
use Rattle.std.specs.Prelude.{◌&&◌, slice_get}
use Rattle.std.specs.List.{AllByRecursion, flat_map}
use Rattle.std.proofs.lemmas.Bool.{and_parts}
use Rattle.expressions.specs.declared.expr.Expr.{Expr}
use Rattle.expressions.specs.declared.rule.Rule.{Rule}
use Rattle.expressions.specs.declared.counter.Counter.{Counter}
use Rattle.expressions.specs.declared.operator.Arithmetic.{Arithmetic}
use Rattle.expressions.specs.declared.operator.Shift.{Shift}
use Rattle.expressions.specs.declared.operator.Comparison.{Comparison}
use Rattle.expressions.specs.declared.operator.Connective.{Connective}
use Rattle.expressions.specs.declared.node.Node.{Node, map-Node, roll-Node}
use Rattle.expressions.specs.declared.node.Node.TheOpen.{Node-F}
use Rattle.expressions.specs.declared.node.Node.TheFolds.{ind-Node, fold-roll-Node}
use Rattle.expressions.specs.Terms.{Term, constant, named, slice, group, concat, inverse, reduce}
use Rattle.expressions.specs.Terms.{combine, shift, compare, connect, choose, past, change}
use Rattle.expressions.specs.Terms.{width_of}
use Rattle.expressions.specs.Nodes.{Seen, chain_term, concatenation_term, all_typed}
use Rattle.expressions.specs.Nodes.{all_parts_typed}
use Rattle.expressions.specs.Nodes.{width_compared, has_some, has_part, keeps, seen_step, seen_node}
use Rattle.expressions.specs.Expressions.{term_of}
use Rattle.expressions.proofs.Opened.{kept_parts}
use Rattle.expressions.proofs.Chains.{width-joined, total_above}
use Rattle.bytecode_programs.specs.Instructions.{FrameData}
use Rattle.compiler.specs.Codes.{Slots}
use Rattle.compiler.specs.Samples.{Held, rule_terms, clear_terms, counter_terms}
use Rattle.compiler.specs.Chosen.{term_found, terms_at, held_counters}
use Rattle.compiler.specs.Laws.{EachPart, IsNarrow, HasSlot, IsInFrame, ProgramsAreNarrow}

pub each-self : (P : Term → Type 0) (e : Term) → EachPart P e → P e
each-self P (constant bits) h = h
each-self P (named name) h = h
each-self P (slice part) h = h
each-self P (group e) h = h.0
each-self P (concat a b) h = h.0
each-self P (inverse e) h = h.0
each-self P (reduce op e) h = h.0
each-self P (combine op a b) h = h.0
each-self P (shift op a b) h = h.0
each-self P (compare op a b) h = h.0
each-self P (connect op a b) h = h.0
each-self P (choose c a b) h = h.0
each-self P (past e ticks) h = h.0
each-self P (change op e) h = h.0

abbrev AreNarrow : Term → Type 0
AreNarrow = EachPart IsNarrow

own : (e : Term) → AreNarrow e → width_of e ≤ 128
own e h = each-self IsNarrow e h

-- a chain, where its operator keeps operands narrow
chain-narrow :
    {O : Type 0} (make : O → Term → Term → Term) →
    ((o : O) (a b : Term) → AreNarrow a → AreNarrow b → AreNarrow (make o a b)) →
    (e : Term) (ss : List (O × Seen)) → AreNarrow e →
    AllByRecursion (λ s. AreNarrow s.1.term) ss → AreNarrow (chain_term make e ss)
chain-narrow make join e [] h all = h
chain-narrow make join e (s ∷ rest) h all =
    chain-narrow make join (make s.0 e s.1.term) rest (join s.0 e s.1.term h all.0) all.1

parts-narrow :
    (e : Term) (parts : List Seen) → AreNarrow e →
    AllByRecursion (λ s. AreNarrow s.term) parts → width_of (concatenation_term e parts) ≤ 128 →
    AreNarrow (concatenation_term e parts)
parts-narrow e [] h all fits = h
parts-narrow e (part ∷ rest) h all fits =
    let both : Term = concat e part.term in
    let less : width_of both ≤ 128 =
    omega (arith, fits, width-joined both rest, total_above (width_of both) rest) in
    parts-narrow both rest (less, h, all.0) all.1 fits

-- what holds of a tree, said of what is seen of it
abbrev IsFine : Seen → Type 0
IsFine s = IsTrue s.is_typed → AreNarrow s.term

abbrev Fine : Type 0
Fine = (n : Node) × IsFine (seen_node n)

steps-fine :
    {O : Type 0} (G : O × Fine → O × Node) (F : O × Node → O × Seen) →
    ((s : O × Fine) → (F (G s)).1 ≡ seen_node s.1.0) → (ss : List (O × Fine)) →
    IsTrue (all_typed (map F (map G ss))) →
    AllByRecursion (λ s. AreNarrow s.1.term) (map F (map G ss))
steps-fine G F same [] typed = tt
steps-fine G F same (s ∷ rest) typed =
    let p = and_parts (F (G s)).1.is_typed (all_typed (map F (map G rest))) typed in
    (subst IsFine (sym (same s)) s.1.1 p.0, steps-fine G F same rest p.1)

parts-fine :
    (G : Fine → Node) (F : Node → Seen) → ((s : Fine) → F (G s) ≡ seen_node s.0) →
    (ss : List Fine) → IsTrue (all_parts_typed (map F (map G ss))) →
    AllByRecursion (λ s. AreNarrow s.term) (map F (map G ss))
parts-fine G F same [] typed = tt
parts-fine G F same (s ∷ rest) typed =
    let p = and_parts (F (G s)).is_typed (all_parts_typed (map F (map G rest))) typed in
    (subst IsFine (sym (same s)) s.1 p.0, parts-fine G F same rest p.1)

abbrev layer : Node-F Fine → Node-F Node
layer = map-Node Fine Node (λ e. e.0)

-- what is seen of the parts of a layer
abbrev seen_layer : Node-F Fine → Node-F Seen
seen_layer y = map-Node Node Seen seen_node (layer y)

abbrev sums_of : Node-F Seen → List (Arithmetic × Seen)
sums_of (Node-F.Arithmetic kept first steps) = steps.items
sums_of z = []

abbrev shifts_of : Node-F Seen → List (Shift × Seen)
shifts_of (Node-F.Shift kept first steps) = steps.items
shifts_of z = []

abbrev comparisons_of : Node-F Seen → List (Comparison × Seen)
comparisons_of (Node-F.Compare kept first steps) = steps.items
comparisons_of z = []

abbrev connections_of : Node-F Seen → List (Connective × Seen)
connections_of (Node-F.Connect first steps) = steps.items
connections_of z = []

abbrev parts_of : Node-F Seen → List Seen
parts_of (Node-F.Concat kept first parts) = parts.items
parts_of z = []

-- A chain of operators that keep operands narrow, however its kept width is tested.
chain-fine :
    {O : Type 0} (make : O → Term → Term → Term) →
    ((o : O) (a b : Term) → AreNarrow a → AreNarrow b → AreNarrow (make o a b)) →
    (s : Seen) (ss : List (O × Seen)) (test : Bool) → IsFine s →
    (IsTrue (all_typed ss) → AllByRecursion (λ s. AreNarrow s.1.term) ss) →
    IsTrue (s.is_typed && all_typed ss && test) → AreNarrow (chain_term make s.term ss)
chain-fine make join s ss test first all typed =
    let p = and_parts (s.is_typed && all_typed ss) test typed in
    let q = and_parts s.is_typed (all_typed ss) p.0 in
    chain-narrow make join s.term ss (first q.0) (all q.1)

joined-fine :
    (kept : ℕ) (s : Seen) (ss : List Seen) → IsFine s →
    (IsTrue (all_parts_typed ss) → AllByRecursion (λ s. AreNarrow s.term) ss) →
    IsTrue (s.is_typed && all_parts_typed ss && has_part ss
    && keeps kept (width_of (concatenation_term s.term ss))) →
    AreNarrow (concatenation_term s.term ss)
joined-fine kept s ss first all typed =
    let w : ℕ = width_of (concatenation_term s.term ss) in
    let p = and_parts (s.is_typed && all_parts_typed ss && has_part ss) (keeps kept w) typed in
    let q = and_parts (s.is_typed && all_parts_typed ss) (has_part ss) p.0 in
    let r = and_parts s.is_typed (all_parts_typed ss) q.0 in
    let k = kept_parts kept w p.1 in
    parts-narrow s.term ss (first r.0) (all r.1) (omega (arith, k.is, k.at_most_128))

one-fine :
    (s : Seen) (test : Bool) → IsFine s → IsTrue (s.is_typed && test) → AreNarrow s.term
one-fine s test h typed = h (and_parts s.is_typed test typed).0

fine-layer : (y : Node-F Fine) → IsFine (seen_step (seen_layer y))
fine-layer (Node-F.Constant bits) typed = bits.at_most_128
fine-layer (Node-F.Name name) typed = name.at_most_128
fine-layer (Node-F.Slice part) typed = omega (arith, part.inside, part.name.at_most_128)
fine-layer (Node-F.Group kept e) typed =
    let s : Seen = seen_node e.value.0 in
    let h : AreNarrow s.term = one-fine s (keeps kept (width_of s.term)) e.value.1 typed in
    (own s.term h, h)
fine-layer (Node-F.Concat kept first parts) typed =
    joined-fine kept (seen_node first.value.0)
    (parts_of (seen_layer (Node-F.Concat kept first parts))) first.value.1
    (parts-fine _ _ (λ s. refl) parts.items) typed
fine-layer (Node-F.Complement kept e) typed =
    let s : Seen = seen_node e.value.0 in
    let h : AreNarrow s.term = one-fine s (keeps kept (width_of s.term)) e.value.1 typed in
    (own s.term h, h)
fine-layer (Node-F.Reduce op e) typed = (omega arith, e.value.1 typed)
fine-layer (Node-F.Arithmetic kept first steps) typed =
    let s : Seen = seen_node first.value.0 in
    let ss : List (Arithmetic × Seen) = sums_of (seen_layer (Node-F.Arithmetic kept first steps)) in
    chain-fine combine (λ o a b g h. (omega (arith, own a g, own b h), g, h)) s ss
    (keeps kept (width_of (chain_term combine s.term ss))) first.value.1
    (steps-fine _ _ (λ s. refl) steps.items) typed
fine-layer (Node-F.Shift kept first steps) typed =
    let s : Seen = seen_node first.value.0 in
    let ss : List (Shift × Seen) = shifts_of (seen_layer (Node-F.Shift kept first steps)) in
    chain-fine shift (λ o a b g h. (own a g, g, h)) s ss
    (keeps kept (width_of (chain_term shift s.term ss))) first.value.1
    (steps-fine _ _ (λ s. refl) steps.items) typed
fine-layer (Node-F.Compare kept first steps) typed =
    let s : Seen = seen_node first.value.0 in
    let ss : List (Comparison × Seen) =
    comparisons_of (seen_layer (Node-F.Compare kept first steps)) in
    chain-fine compare (λ o a b g h. (omega arith, g, h)) s ss
    (keeps kept (width_compared s.term ss)) first.value.1
    (steps-fine _ _ (λ s. refl) steps.items) typed
fine-layer (Node-F.Connect first steps) typed =
    let s : Seen = seen_node first.value.0 in
    let ss : List (Connective × Seen) = connections_of (seen_layer (Node-F.Connect first steps)) in
    chain-fine connect (λ o a b g h. (omega arith, g, h)) s ss (has_some ss) first.value.1
    (steps-fine _ _ (λ s. refl) steps.items) typed
fine-layer (Node-F.Choose kept c a b) typed =
    let sc : Seen = seen_node c.value.0 in
    let sa : Seen = seen_node a.value.0 in
    let sb : Seen = seen_node b.value.0 in
    let w : ℕ = max (width_of sa.term) (width_of sb.term) in
    let p = and_parts (sc.is_typed && sa.is_typed && sb.is_typed) (keeps kept w) typed in
    let q = and_parts (sc.is_typed && sa.is_typed) sb.is_typed p.0 in
    let r = and_parts sc.is_typed sa.is_typed q.0 in
    let ha : AreNarrow sa.term = a.value.1 r.1 in
    let hb : AreNarrow sb.term = b.value.1 q.1 in
    (omega (arith, own sa.term ha, own sb.term hb), c.value.1 r.0, ha, hb)
fine-layer (Node-F.Past kept e ticks) typed =
    let s : Seen = seen_node e.value.0 in
    let h : AreNarrow s.term = one-fine s (keeps kept (width_of s.term)) e.value.1 typed in
    (own s.term h, h)
fine-layer (Node-F.Change op e) typed = (omega arith, e.value.1 typed)

fine : (n : Node) → IsFine (seen_node n)
fine =
    ind-Node (λ n. IsFine (seen_node n))
    (λ x y is.
    subst (λ z. IsFine (seen_node (roll-Node z))) is
    (subst IsFine (sym (fold-roll-Node Seen seen_step (layer y))) (fine-layer y)))

pub expression-narrow : (e : Expr) → AreNarrow (term_of e)
expression-narrow e = fine e.node e.typed

rule-narrow : (r : Option Rule) → AllByRecursion AreNarrow (rule_terms r)
rule-narrow None = tt
rule-narrow (Some r) = (expression-narrow r.when, (expression-narrow r.by, tt))

clear-narrow : (e : Option Expr) → AllByRecursion AreNarrow (clear_terms e)
clear-narrow None = tt
clear-narrow (Some e) = (expression-narrow e, tt)

both-narrow :
    (es ds : List Term) → AllByRecursion AreNarrow es → AllByRecursion AreNarrow ds →
    AllByRecursion AreNarrow (es ++ ds)
both-narrow [] ds g h = h
both-narrow (e ∷ es) ds g h = (g.0, both-narrow es ds g.1 h)

counter-narrow : (c : Counter) → AllByRecursion AreNarrow (counter_terms c)
counter-narrow c =
    let clear : List Term = clear_terms c.clear in
    let load : List Term = rule_terms c.load in
    let add : List Term = rule_terms c.add in
    both-narrow (clear ++ load ++ add) (rule_terms c.sub)
    (both-narrow (clear ++ load) add
    (both-narrow clear load (clear-narrow c.clear) (rule-narrow c.load)) (rule-narrow c.add))
    (rule-narrow c.sub)

held-narrow :
    (hs : List Held) → AllByRecursion AreNarrow (flat_map (λ h. counter_terms h.counter) hs)
held-narrow [] = tt
held-narrow (h ∷ hs) =
    both-narrow (counter_terms h.counter) (flat_map (λ h. counter_terms h.counter) hs)
    (counter-narrow h.counter) (held-narrow hs)

found-narrow :
    (o : Option Expr) (rest : List Term) → AllByRecursion AreNarrow rest →
    AllByRecursion AreNarrow (term_found o rest)
found-narrow None rest h = h
found-narrow (Some e) rest h = (expression-narrow e, h)

terms-narrow :
    (all : List Expr) (places : List ℕ) → AllByRecursion AreNarrow (terms_at all places)
terms-narrow all [] = tt
terms-narrow all (place ∷ places) =
    found-narrow (slice_get all place) (terms_at all places) (terms-narrow all places)

pub programs-are-narrow : ProgramsAreNarrow
programs-are-narrow booleans atoms counters stores =
    both-narrow (terms_at booleans atoms)
    (flat_map (λ h. counter_terms h.counter) (held_counters counters stores))
    (terms-narrow booleans atoms) (held-narrow (held_counters counters stores))

-- two facts of each part as one
pub each-placed :
    (f : FrameData) (at : Slots) (e : Term) → EachPart (HasSlot f at) e → EachPart IsNarrow e →
    EachPart (IsInFrame f at) e
each-placed f at (constant bits) g h = record { slot = g; narrow = h }
each-placed f at (named name) g h = record { slot = g; narrow = h }
each-placed f at (slice part) g h = record { slot = g; narrow = h }
each-placed f at (group e) g h =
    (record { slot = g.0; narrow = h.0 }, each-placed f at e g.1 h.1)
each-placed f at (concat a b) g h =
    (record { slot = g.0; narrow = h.0 }, each-placed f at a g.1 h.1, each-placed f at b g.2 h.2)
each-placed f at (inverse e) g h =
    (record { slot = g.0; narrow = h.0 }, each-placed f at e g.1 h.1)
each-placed f at (reduce op e) g h =
    (record { slot = g.0; narrow = h.0 }, each-placed f at e g.1 h.1)
each-placed f at (combine op a b) g h =
    (record { slot = g.0; narrow = h.0 }, each-placed f at a g.1 h.1, each-placed f at b g.2 h.2)
each-placed f at (shift op a b) g h =
    (record { slot = g.0; narrow = h.0 }, each-placed f at a g.1 h.1, each-placed f at b g.2 h.2)
each-placed f at (compare op a b) g h =
    (record { slot = g.0; narrow = h.0 }, each-placed f at a g.1 h.1, each-placed f at b g.2 h.2)
each-placed f at (connect op a b) g h =
    (record { slot = g.0; narrow = h.0 }, each-placed f at a g.1 h.1, each-placed f at b g.2 h.2)
each-placed f at (choose c a b) g h = (
  record { slot = g.0; narrow = h.0 },
  each-placed f at c g.1 h.1,
  each-placed f at a g.2 h.2,
  each-placed f at b g.3 h.3,
)
each-placed f at (past e ticks) g h =
    (record { slot = g.0; narrow = h.0 }, each-placed f at e g.1 h.1)
each-placed f at (change op e) g h =
    (record { slot = g.0; narrow = h.0 }, each-placed f at e g.1 h.1)

pub all-placed :
    (f : FrameData) (at : Slots) (es : List Term) → AllByRecursion (EachPart (HasSlot f at)) es →
    AllByRecursion (EachPart IsNarrow) es → AllByRecursion (EachPart (IsInFrame f at)) es
all-placed f at [] g h = tt
all-placed f at (e ∷ es) g h = (each-placed f at e g.0 h.0, all-placed f at es g.1 h.1)
