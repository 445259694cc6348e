-- Outlines of trees in memory, form by form, and of one delay or side more.
use Rattle.std.proofs.Common.{◌≡◌, ℕ, List, [], ◌∷◌, ◌++◌, map, length, Vec, Box, Global, refl, sym, ap, ◌∙◌, rules}
use Rattle.std.proofs.lemmas.List.{map-append}
use Rattle.lexer.specs.declared.token.Token.{Token}
use Rattle.parser_grammar.specs.declared.bound.Range.{Range}
use Rattle.parser_grammar.specs.declared.operator.Junction.{Junction}
use Rattle.parser_grammar.specs.declared.expression.ExprTree.{ExprTree}
use Rattle.parser_grammar.specs.declared.sequence.SequenceTree.{SequenceTree}
use Rattle.parser_grammar.specs.declared.sequence.SequenceTree as seq
use Rattle.parser_grammar.specs.ReadSequences.{steps_of, others_of}
use Rattle.parser_grammar.specs.Trees as trees
use Rattle.parser_grammar.specs.Trees.{Tree, SequenceForm, Steps, Others, step, no_step, other, no_other}
use Rattle.parser_grammar.specs.Views.{tree_of, sequence_of, delay_step_of}
use Rattle.parser_grammar.proofs.TreeLaws.{seq-Boolean, seq-Repeated, seq-Late, seq-Delayed, seq-Throughout, seq-Joined}
use Rattle.assertions.specs.Written.{Written, boolean, delay, lead, repeat, throughout}
use Rattle.import_properties.specs.declared.condition.Condition.{Condition}
use Rattle.import_properties.specs.declared.sequence.Sequence.{Sequence}
use Rattle.import_properties.specs.declared.sequence.Sequence as form
use Rattle.import_properties.specs.Shapes.{written_form}
use Rattle.import_text.specs.Outlines.{Dot, dot, outline, spelled_outline, outline_after, outline_beside}
use Rattle.import_text.specs.Outlines.{least_of, most_of, joined_by}

-- form by form

form-boolean : (e : Tree) → spelled_outline (trees.boolean e) ≡ boolean dot
unfolding spelled_outline
form-boolean e = refl

form-repeated : (q : SequenceForm) (n : Range)
    → spelled_outline (trees.repeated q n) ≡ repeat (spelled_outline q) (least_of n) (most_of n)
unfolding spelled_outline
form-repeated q n = refl

form-late : (t : Token) (n : Range) (q : SequenceForm)
    → spelled_outline (trees.late t n q) ≡ lead (least_of n) (most_of n) (spelled_outline q)
unfolding spelled_outline
form-late t n q = refl

form-delayed : (q : SequenceForm) (steps : Steps)
    → spelled_outline (trees.delayed q steps) ≡ outline_after (spelled_outline q) steps
unfolding spelled_outline
form-delayed q steps = refl

form-throughout : (e : Tree) (q : SequenceForm)
    → spelled_outline (trees.throughout e q) ≡ throughout dot (spelled_outline q)
unfolding spelled_outline
form-throughout e q = refl

form-joined : (j : Junction) (q : SequenceForm) (others : Others)
    → spelled_outline (trees.joined j q others) ≡ outline_beside j (spelled_outline q) others
unfolding spelled_outline
form-joined j q others = refl

after-none : (r : Written Dot) → outline_after r no_step ≡ r
unfolding outline_after
after-none r = refl

after-step : (r : Written Dot) (n : Range) (q : SequenceForm) (steps : Steps) → outline_after r (step n q steps)
    ≡ outline_after (delay r (least_of n) (most_of n) (spelled_outline q)) steps
unfolding outline_after
after-step r n q steps = refl

beside-none : (j : Junction) (r : Written Dot) → outline_beside j r no_other ≡ r
unfolding outline_beside
beside-none j r = refl

beside-other : (j : Junction) (r : Written Dot) (q : SequenceForm) (others : Others)
    → outline_beside j r (other q others)
    ≡ outline_beside j (joined_by j r (spelled_outline q)) others
unfolding outline_beside
beside-other j r q others = refl

-- one delay, or one side, more

after-last : (r : Written Dot) (xs : List (Range × SequenceForm)) (x : Range × SequenceForm)
    → outline_after r (steps_of (xs ++ x ∷ []))
    ≡ delay (outline_after r (steps_of xs)) (least_of x.0) (most_of x.0) (spelled_outline x.1)
after-last r [] x =
    after-step r x.0 x.1 no_step ∙ after-none (delay r (least_of x.0) (most_of x.0) (spelled_outline x.1))
    ∙ ap (λ v. delay v (least_of x.0) (most_of x.0) (spelled_outline x.1)) (sym (after-none r))
after-last r (y ∷ ys) x =
    let d = delay r (least_of y.0) (most_of y.0) (spelled_outline y.1) in
    after-step r y.0 y.1 (steps_of (ys ++ x ∷ [])) ∙ after-last d ys x
    ∙ ap (λ v. delay v (least_of x.0) (most_of x.0) (spelled_outline x.1)) (sym (after-step r y.0 y.1 (steps_of ys)))

beside-last : (j : Junction) (r : Written Dot) (xs : List SequenceForm) (x : SequenceForm)
    → outline_beside j r (others_of (xs ++ x ∷ []))
    ≡ joined_by j (outline_beside j r (others_of xs)) (spelled_outline x)
beside-last j r [] x =
    beside-other j r x no_other ∙ beside-none j (joined_by j r (spelled_outline x))
    ∙ ap (λ v. joined_by j v (spelled_outline x)) (sym (beside-none j r))
beside-last j r (y ∷ ys) x =
    let d = joined_by j r (spelled_outline y) in
    beside-other j r y (others_of (ys ++ x ∷ [])) ∙ beside-last j d ys x
    ∙ ap (λ v. joined_by j v (spelled_outline x)) (sym (beside-other j r y (others_of ys)))

-- of trees in memory

pub tree-boolean : (t : SequenceTree) (e : Box ExprTree Global) → t ≡ seq.Boolean e
    → spelled_outline (sequence_of t) ≡ boolean dot
tree-boolean t e is =
    ap (λ x. spelled_outline (sequence_of x)) is ∙ ap spelled_outline (seq-Boolean e) ∙ form-boolean (tree_of e.value)

pub tree-repeated : (t : SequenceTree) (b : Box SequenceTree Global) (n : Range) → t ≡ seq.Repeated b n
    → spelled_outline (sequence_of t) ≡ repeat (spelled_outline (sequence_of b.value)) (least_of n) (most_of n)
tree-repeated t b n is =
    ap (λ x. spelled_outline (sequence_of x)) is ∙ ap spelled_outline (seq-Repeated b n)
    ∙ form-repeated (sequence_of b.value) n

pub tree-late : (t : SequenceTree) (word : Token) (n : Range) (b : Box SequenceTree Global) → t ≡ seq.Late word n b
    → spelled_outline (sequence_of t) ≡ lead (least_of n) (most_of n) (spelled_outline (sequence_of b.value))
tree-late t word n b is =
    ap (λ x. spelled_outline (sequence_of x)) is ∙ ap spelled_outline (seq-Late word n b)
    ∙ form-late word n (sequence_of b.value)

pub tree-throughout : (t : SequenceTree) (e : Box ExprTree Global) (b : Box SequenceTree Global)
    → t ≡ seq.Throughout e b
    → spelled_outline (sequence_of t) ≡ throughout dot (spelled_outline (sequence_of b.value))
tree-throughout t e b is =
    ap (λ x. spelled_outline (sequence_of x)) is ∙ ap spelled_outline (seq-Throughout e b)
    ∙ form-throughout (tree_of e.value) (sequence_of b.value)

pub tree-delayed : (t : SequenceTree) (b : Box SequenceTree Global) (v : Vec (Range × SequenceTree) Global)
    → t ≡ seq.Delayed b v → spelled_outline (sequence_of t)
    ≡ outline_after (spelled_outline (sequence_of b.value)) (steps_of (map delay_step_of v.items))
tree-delayed t b v is =
    ap (λ x. spelled_outline (sequence_of x)) is ∙ ap spelled_outline (seq-Delayed b v)
    ∙ form-delayed (sequence_of b.value) (steps_of (map delay_step_of v.items))

pub tree-joined : (t : SequenceTree) (j : Junction) (b : Box SequenceTree Global) (v : Vec SequenceTree Global)
    → t ≡ seq.Joined j b v → spelled_outline (sequence_of t)
    ≡ outline_beside j (spelled_outline (sequence_of b.value)) (others_of (map sequence_of v.items))
tree-joined t j b v is =
    ap (λ x. spelled_outline (sequence_of x)) is ∙ ap spelled_outline (seq-Joined j b v)
    ∙ form-joined j (sequence_of b.value) (others_of (map sequence_of v.items))

pub delays-none : (r : Written Dot) (xs : List (Range × SequenceTree)) → length xs ≡ 0
    → outline_after r (steps_of (map delay_step_of xs)) ≡ r
delays-none r [] none = after-none r
delays-none r (x ∷ xs) none = absurd cc

pub delays-last : (r : Written Dot) (xs before : List (Range × SequenceTree)) (x : Range × SequenceTree)
    → xs ≡ before ++ x ∷ [] → outline_after r (steps_of (map delay_step_of xs))
    ≡ delay (outline_after r (steps_of (map delay_step_of before))) (least_of x.0) (most_of x.0)
    (spelled_outline (sequence_of x.1))
delays-last r xs before x is =
    ap (λ ys. outline_after r (steps_of (map delay_step_of ys))) is
    ∙ ap (λ ys. outline_after r (steps_of ys)) (map-append delay_step_of before (x ∷ []))
    ∙ after-last r (map delay_step_of before) (delay_step_of x)

pub sides-none : (j : Junction) (r : Written Dot) (xs : List SequenceTree) → length xs ≡ 0
    → outline_beside j r (others_of (map sequence_of xs)) ≡ r
sides-none j r [] none = beside-none j r
sides-none j r (x ∷ xs) none = absurd cc

pub sides-last : (j : Junction) (r : Written Dot) (xs before : List SequenceTree) (x : SequenceTree)
    → xs ≡ before ++ x ∷ [] → outline_beside j r (others_of (map sequence_of xs))
    ≡ joined_by j (outline_beside j r (others_of (map sequence_of before))) (spelled_outline (sequence_of x))
sides-last j r xs before x is =
    ap (λ ys. outline_beside j r (others_of (map sequence_of ys))) is
    ∙ ap (λ ys. outline_beside j r (others_of ys)) (map-append sequence_of before (x ∷ []))
    ∙ beside-last j r (map sequence_of before) (sequence_of x)

-- the same, beside what was written

pub like-repeated : (t : SequenceTree) (b : Box SequenceTree Global) (n : Range) (body : SequenceTree) (w : Written Dot)
    (least most : ℕ) → t ≡ seq.Repeated b n → body ≡ b.value → least_of n ≡ least → most_of n ≡ most
    → spelled_outline (sequence_of body) ≡ w → spelled_outline (sequence_of t) ≡ repeat w least most
like-repeated t b n body w least most is at low high same =
    tree-repeated t b n is ∙ ap (λ x. repeat (spelled_outline (sequence_of x)) (least_of n) (most_of n)) (sym at)
    ∙ ap (λ v. repeat v (least_of n) (most_of n)) same ∙ ap (λ k. repeat w k (most_of n)) low
    ∙ ap (λ k. repeat w least k) high

pub like-late : (t : SequenceTree) (word : Token) (n : Range) (b : Box SequenceTree Global) (body : SequenceTree)
    (w : Written Dot) (least most : ℕ) → t ≡ seq.Late word n b → body ≡ b.value → least_of n ≡ least
    → most_of n ≡ most → spelled_outline (sequence_of body) ≡ w → spelled_outline (sequence_of t) ≡ lead least most w
like-late t word n b body w least most is at low high same =
    tree-late t word n b is ∙ ap (λ x. lead (least_of n) (most_of n) (spelled_outline (sequence_of x))) (sym at)
    ∙ ap (λ v. lead (least_of n) (most_of n) v) same ∙ ap (λ k. lead k (most_of n) w) low
    ∙ ap (λ k. lead least k w) high

pub like-throughout : (t : SequenceTree) (e : Box ExprTree Global) (b : Box SequenceTree Global) (body : SequenceTree)
    (w : Written Dot) → t ≡ seq.Throughout e b → body ≡ b.value → spelled_outline (sequence_of body) ≡ w
    → spelled_outline (sequence_of t) ≡ throughout dot w
like-throughout t e b body w is at same =
    tree-throughout t e b is ∙ ap (λ x. throughout dot (spelled_outline (sequence_of x))) (sym at)
    ∙ ap (λ v. throughout dot v) same

pub like-delayed : (t : SequenceTree) (b : Box SequenceTree Global) (v : Vec (Range × SequenceTree) Global)
    (first : SequenceTree) (steps : List (Range × SequenceTree)) (w : Written Dot)
    → t ≡ seq.Delayed b v → first ≡ b.value → steps ≡ v.items
    → outline_after (spelled_outline (sequence_of first)) (steps_of (map delay_step_of steps)) ≡ w
    → spelled_outline (sequence_of t) ≡ w
like-delayed t b v first steps w is at list same =
    tree-delayed t b v is
    ∙ ap (λ x. outline_after (spelled_outline (sequence_of x)) (steps_of (map delay_step_of v.items))) (sym at)
    ∙ ap (λ xs. outline_after (spelled_outline (sequence_of first)) (steps_of (map delay_step_of xs))) (sym list)
    ∙ same

pub like-joined : (t : SequenceTree) (j : Junction) (b : Box SequenceTree Global) (v : Vec SequenceTree Global)
    (first : SequenceTree) (others : List SequenceTree) (w : Written Dot)
    → t ≡ seq.Joined j b v → first ≡ b.value → others ≡ v.items
    → outline_beside j (spelled_outline (sequence_of first)) (others_of (map sequence_of others)) ≡ w
    → spelled_outline (sequence_of t) ≡ w
like-joined t j b v first others w is at list same =
    tree-joined t j b v is
    ∙ ap (λ x. outline_beside j (spelled_outline (sequence_of x)) (others_of (map sequence_of v.items))) (sym at)
    ∙ ap (λ xs. outline_beside j (spelled_outline (sequence_of first)) (others_of (map sequence_of xs))) (sym list)
    ∙ same

pub like-delay : (r : Written Dot) (xs before : List (Range × SequenceTree)) (x : Range × SequenceTree)
    (v w : Written Dot) (least most : ℕ) → xs ≡ before ++ x ∷ [] → least_of x.0 ≡ least → most_of x.0 ≡ most
    → outline_after r (steps_of (map delay_step_of before)) ≡ v → spelled_outline (sequence_of x.1) ≡ w
    → outline_after r (steps_of (map delay_step_of xs)) ≡ delay v least most w
like-delay r xs before x v w least most is low high front last =
    let q = spelled_outline (sequence_of x.1) in
    delays-last r xs before x is ∙ ap (λ u. delay u (least_of x.0) (most_of x.0) q) front
    ∙ ap (λ k. delay v k (most_of x.0) q) low ∙ ap (λ k. delay v least k q) high
    ∙ ap (λ u. delay v least most u) last

pub like-sides : (j : Junction) (r : Written Dot) (xs before : List SequenceTree) (x : SequenceTree)
    (v w : Written Dot) → xs ≡ before ++ x ∷ []
    → outline_beside j r (others_of (map sequence_of before)) ≡ v → spelled_outline (sequence_of x) ≡ w
    → outline_beside j r (others_of (map sequence_of xs)) ≡ joined_by j v w
like-sides j r xs before x v w is front last =
    sides-last j r xs before x is ∙ ap (λ u. joined_by j u (spelled_outline (sequence_of x))) front
    ∙ ap (λ u. joined_by j v u) last

-- what was written, form by form

pub written-boolean : (s : Sequence) (b : Condition) → s ≡ form.Boolean b → outline (written_form s) ≡ boolean dot
written-boolean s b is = ap (λ x. outline (written_form x)) is ∙ search (rules, form.the_lemmas)

repeat-step : (b : Box Sequence Global) (least most : ℕ)
    → outline (written_form (form.Repeat b least most)) ≡ repeat (outline (written_form b.value)) least most
repeat-step b least most = search (rules, form.the_lemmas)

lead-step : (least most : ℕ) (b : Box Sequence Global)
    → outline (written_form (form.Lead least most b)) ≡ lead least most (outline (written_form b.value))
lead-step least most b = search (rules, form.the_lemmas)

throughout-step : (e : Condition) (b : Box Sequence Global)
    → outline (written_form (form.Throughout e b)) ≡ throughout dot (outline (written_form b.value))
throughout-step e b = search (rules, form.the_lemmas)

delay-step : (a : Box Sequence Global) (least most : ℕ) (b : Box Sequence Global)
    → outline (written_form (form.Delay a least most b))
    ≡ delay (outline (written_form a.value)) least most (outline (written_form b.value))
delay-step a least most b = search (rules, form.the_lemmas)

pub written-repeat : (s : Sequence) (b : Box Sequence Global) (least most : ℕ) (inner : Sequence)
    → s ≡ form.Repeat b least most → inner ≡ b.value
    → outline (written_form s) ≡ repeat (outline (written_form inner)) least most
written-repeat s b least most inner is at =
    ap (λ x. outline (written_form x)) is ∙ repeat-step b least most
    ∙ ap (λ x. repeat (outline (written_form x)) least most) (sym at)

pub written-lead : (s : Sequence) (least most : ℕ) (b : Box Sequence Global) (inner : Sequence)
    → s ≡ form.Lead least most b → inner ≡ b.value
    → outline (written_form s) ≡ lead least most (outline (written_form inner))
written-lead s least most b inner is at =
    ap (λ x. outline (written_form x)) is ∙ lead-step least most b
    ∙ ap (λ x. lead least most (outline (written_form x))) (sym at)

pub written-throughout : (s : Sequence) (e : Condition) (b : Box Sequence Global) (inner : Sequence)
    → s ≡ form.Throughout e b → inner ≡ b.value
    → outline (written_form s) ≡ throughout dot (outline (written_form inner))
written-throughout s e b inner is at =
    ap (λ x. outline (written_form x)) is ∙ throughout-step e b
    ∙ ap (λ x. throughout dot (outline (written_form x))) (sym at)

pub written-delay : (s : Sequence) (a : Box Sequence Global) (least most : ℕ) (b : Box Sequence Global)
    (left right : Sequence) → s ≡ form.Delay a least most b → left ≡ a.value → right ≡ b.value
    → outline (written_form s) ≡ delay (outline (written_form left)) least most (outline (written_form right))
written-delay s a least most b left right is first second =
    ap (λ x. outline (written_form x)) is ∙ delay-step a least most b
    ∙ ap (λ x. delay (outline (written_form x)) least most (outline (written_form b.value))) (sym first)
    ∙ ap (λ x. delay (outline (written_form left)) least most (outline (written_form x))) (sym second)
