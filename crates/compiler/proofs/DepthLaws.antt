-- What code asks is bounded by the depth of its expression.
use Rattle.std.proofs.Common.{◌≡◌, ℕ, ◌+◌, ◌-◌, ◌*◌, ◌≤◌, max, min, Bool, true, false, List, []}
use Rattle.std.proofs.Common.{◌∷◌, ◌++◌, Option, Some, None, refl, arith}
use Rattle.std.specs.Prelude.{nat_le, if◌then◌else◌}
use Rattle.std.specs.List.{AllByRecursion, flat_map}
use Rattle.std.proofs.lemmas.Bool.{leb-true}
use Rattle.expressions.specs.declared.expr.Expr.{Expr}
use Rattle.expressions.specs.declared.rule.Rule.{Rule}
use Rattle.expressions.specs.declared.counter.Counter.{Counter}
use Rattle.expressions.specs.declared.operator.Arithmetic.{Arithmetic}
use Rattle.expressions.specs.declared.operator.Arithmetic.TheVariants as arithmetic
use Rattle.expressions.specs.declared.operator.Comparison.{Comparison}
use Rattle.expressions.specs.declared.operator.Comparison.TheVariants.{Equal, Differs, Less}
use Rattle.expressions.specs.declared.operator.Comparison.TheVariants.{AtMost, Greater, AtLeast}
use Rattle.expressions.specs.declared.operator.Connective.{Connective}
use Rattle.expressions.specs.declared.operator.Connective.TheVariants.{Both, Either}
use Rattle.expressions.specs.declared.operator.Reduction.{Reduction}
use Rattle.expressions.specs.declared.operator.Reduction.TheVariants.{OneHot, OneHotOrZero}
use Rattle.expressions.specs.Terms.{Term, constant, named, slice, group, concat, inverse, reduce}
use Rattle.expressions.specs.Terms.{combine, shift, compare, connect, choose, past, change}
use Rattle.expressions.specs.Expressions.{term_of}
use Rattle.compiler.specs.Codes.{reads_slot, guarded_need, need, reach}
use Rattle.compiler.specs.Samples.{amount_need, sum_need, loaded_need, cleared_need}
use Rattle.compiler.specs.Samples.{next_need, largest, rule_terms, clear_terms}
use Rattle.compiler.specs.Samples.{counter_terms}
use Rattle.compiler.specs.Laws.{EachPart}
use Rattle.compiler.specs.Depths.{arithmetic_level, comparison_level, connective_level}
use Rattle.compiler.specs.Depths.{term_level}
use Rattle.compiler.specs.Depths.{bracketed, left_depth, reduction_depth, braced, depth}
use Rattle.compiler.specs.Depths.{IsShortPast, DepthBoundsCode}
use Rattle.compiler.proofs.Lists.{all-front, all-back, all-flat}

arithmetic-loose : (op : Arithmetic) → (1 ≤ arithmetic_level op) × (arithmetic_level op ≤ 9)
arithmetic-loose arithmetic.Add = (omega arith, omega arith)
arithmetic-loose arithmetic.Sub = (omega arith, omega arith)
arithmetic-loose arithmetic.And = (omega arith, omega arith)
arithmetic-loose arithmetic.Or = (omega arith, omega arith)
arithmetic-loose arithmetic.Xor = (omega arith, omega arith)
arithmetic-loose arithmetic.Xnor = (omega arith, omega arith)

comparison-loose : (op : Comparison) → (1 ≤ comparison_level op) × (comparison_level op ≤ 9)
comparison-loose Equal = (omega arith, omega arith)
comparison-loose Differs = (omega arith, omega arith)
comparison-loose Less = (omega arith, omega arith)
comparison-loose AtMost = (omega arith, omega arith)
comparison-loose Greater = (omega arith, omega arith)
comparison-loose AtLeast = (omega arith, omega arith)

connective-loose : (op : Connective) → (1 ≤ connective_level op) × (connective_level op ≤ 9)
connective-loose Both = (omega arith, omega arith)
connective-loose Either = (omega arith, omega arith)

-- A bound with eleven for each bracket, and one for each level of operators between two.
abbrev Within : ℕ → ℕ → ℕ → Type 0
Within n loose deep = n ≤ 11 * deep + min loose 9 + 1

bracketed-cases :
    (b : Bool) (most loose deep n : ℕ) → nat_le loose most ≡ b → Within n loose deep →
    n ≤ 11 * (if b then deep else 1 + deep) + most + 1
bracketed-cases true most loose deep n is h = omega (arith, h, leb-true loose most is)
bracketed-cases false most loose deep n is h = omega (arith, h)

bracketed-within :
    (most loose deep n : ℕ) → Within n loose deep →
    n ≤ 11 * bracketed most loose deep + most + 1
bracketed-within most loose deep n h = bracketed-cases (nat_le loose most) most loose deep n refl h

bracketed-more : (most loose deep : ℕ) → deep ≤ bracketed most loose deep
bracketed-more most loose deep = more (nat_le loose most)
  where
    more : (b : Bool) → deep ≤ (if b then deep else 1 + deep)
    more true = omega arith
    more false = omega arith

-- the operands of a left operator
left-within :
    (own x y : ℕ) (a b : Term) → 1 ≤ own → own ≤ 9 → Within x (term_level a) (depth a) →
    Within y (term_level b) (depth b) →
    Within (max x (1 + y)) own (left_depth own (term_level a) (depth a) (term_level b) (depth b))
left-within own x y a b some most g h =
    omega (
      arith,
      some,
      most,
      bracketed-within own (term_level a) (depth a) x g,
      bracketed-within (own - 1) (term_level b) (depth b) y h,
    )

reduction-within :
    (op : Reduction) (e : Term) (n : ℕ) → Within n (term_level e) (depth e) →
    n ≤ 11 * reduction_depth op (term_level e) (depth e) + 1
reduction-within OneHot e n h = omega (arith, h)
reduction-within OneHotOrZero e n h = omega (arith, h)
reduction-within op e n h = omega (arith, bracketed-within 0 (term_level e) (depth e) n h)

braced-within :
    (e : Term) (n : ℕ) → Within n (term_level e) (depth e) → n ≤ 11 * braced e (depth e) + 1
braced-within (concat a b) n h = omega (arith, h)
braced-within e n h = omega (arith, h)

guarded-within :
    (b : Bool) (n deep : ℕ) → n ≤ 11 * deep + 10 → guarded_need b n + 1 ≤ 11 * (1 + deep) + 1
guarded-within true n deep h = omega (arith, h)
guarded-within false n deep h = omega (arith, h)

need-within : (e : Term) → Within (need e) (term_level e) (depth e)
need-within (constant bits) = omega arith
need-within (named name) = omega arith
need-within (slice part) = omega arith
need-within (group e) = omega (arith, need-within e)
need-within (concat a b) = omega (arith, braced-within a (need a) (need-within a), need-within b)
need-within (inverse e) =
    omega (arith, bracketed-within 0 (term_level e) (depth e) (need e) (need-within e))
need-within (reduce op e) = omega (arith, reduction-within op e (need e) (need-within e))
need-within (combine op a b) =
    left-within (arithmetic_level op) (need a) (need b) a b (arithmetic-loose op).0
    (arithmetic-loose op).1 (need-within a) (need-within b)
need-within (shift op a b) =
    left-within 2 (need a) (need b) a b (omega arith) (omega arith) (need-within a) (need-within b)
need-within (compare op a b) =
    left-within (comparison_level op) (need a) (need b) a b (comparison-loose op).0
    (comparison-loose op).1 (need-within a) (need-within b)
need-within (connect op a b) =
    left-within (connective_level op) (need a) (need b) a b (connective-loose op).0
    (connective-loose op).1 (need-within a) (need-within b)
need-within (choose c a b) =
    omega (
      arith,
      bracketed-within 9 (term_level c) (depth c) (need c) (need-within c),
      need-within a,
      need-within b,
    )
need-within (past e ticks) =
    omega (arith, guarded-within (reads_slot e) (need e) (depth e) (omega (arith, need-within e)))
need-within (change op e) =
    omega (
      arith,
      guarded-within (reads_slot e) (need e) (depth e) (omega (arith, need-within e)),
      need-within e,
    )

-- a bound with 64 ticks for each bracket
left-reaches :
    (own x y : ℕ) (a b : Term) → x ≤ 64 * depth a → y ≤ 64 * depth b →
    max x y ≤ 64 * left_depth own (term_level a) (depth a) (term_level b) (depth b)
left-reaches own x y a b g h =
    omega (
      arith,
      g,
      h,
      bracketed-more own (term_level a) (depth a),
      bracketed-more (own - 1) (term_level b) (depth b),
    )

reduction-deeper : (op : Reduction) (loose deep : ℕ) → deep ≤ reduction_depth op loose deep
reduction-deeper OneHot loose deep = omega arith
reduction-deeper OneHotOrZero loose deep = omega arith
reduction-deeper op loose deep = omega (arith, bracketed-more 0 loose deep)

braced-deeper : (e : Term) (deep : ℕ) → deep ≤ braced e deep
braced-deeper (concat a b) deep = omega arith
braced-deeper e deep = omega arith

reach-within : (e : Term) → EachPart IsShortPast e → reach e ≤ 64 * depth e
reach-within (constant bits) h = omega arith
reach-within (named name) h = omega arith
reach-within (slice part) h = omega arith
reach-within (group e) h = omega (arith, reach-within e h.1)
reach-within (concat a b) h =
    omega (arith, braced-deeper a (depth a), reach-within a h.1, reach-within b h.2)
reach-within (inverse e) h =
    omega (arith, bracketed-more 0 (term_level e) (depth e), reach-within e h.1)
reach-within (reduce op e) h =
    omega (arith, reduction-deeper op (term_level e) (depth e), reach-within e h.1)
reach-within (combine op a b) h =
    left-reaches (arithmetic_level op) (reach a) (reach b) a b (reach-within a h.1)
    (reach-within b h.2)
reach-within (shift op a b) h =
    left-reaches 2 (reach a) (reach b) a b (reach-within a h.1) (reach-within b h.2)
reach-within (compare op a b) h =
    left-reaches (comparison_level op) (reach a) (reach b) a b (reach-within a h.1)
    (reach-within b h.2)
reach-within (connect op a b) h =
    left-reaches (connective_level op) (reach a) (reach b) a b (reach-within a h.1)
    (reach-within b h.2)
reach-within (choose c a b) h =
    omega (
      arith,
      bracketed-more 9 (term_level c) (depth c),
      reach-within c h.1,
      reach-within a h.2,
      reach-within b h.3,
    )
reach-within (past e ticks) h = omega (arith, h.0, reach-within e h.1)
reach-within (change op e) h = omega (arith, reach-within e h.1)

-- lists of expressions
largest-under :
    {A : Type 0} (f : A → ℕ) (P : A → Type 0) (n : ℕ) → ((x : A) → P x → f x ≤ n) → (xs : List A) →
    AllByRecursion P xs → largest f xs ≤ n
largest-under f P n go [] h = omega arith
largest-under f P n go (x ∷ xs) h =
    omega (arith, go x h.0, largest-under f P n go xs h.1)

module _ (most : ℕ) where
  abbrev Shallow : Term → Type 0
  Shallow e = (depth e ≤ most) × EachPart IsShortPast e

  both :
      (es : List Term) → AllByRecursion (λ e. depth e ≤ most) es →
      AllByRecursion (EachPart IsShortPast) es → AllByRecursion Shallow es
  both [] g h = tt
  both (e ∷ es) g h = ((g.0, h.0), both es g.1 h.1)

  needs : (e : Term) → Shallow e → need e ≤ 11 * most + 10
  needs e h = omega (arith, need-within e, h.0)

  reaches : (e : Term) → Shallow e → reach e ≤ 64 * most
  reaches e h = omega (arith, reach-within e h.1, h.0)

  amount-within : (r : Rule) → AllByRecursion Shallow (rule_terms (Some r)) → amount_need r ≤ 11 *
      most + 11
  amount-within r h =
      omega (arith, needs (term_of r.when) h.0, needs (term_of r.by) h.1.0)

  sum-within :
      (add sub : Option Rule) → AllByRecursion Shallow (rule_terms add) →
      AllByRecursion Shallow (rule_terms sub) → sum_need add sub ≤ 11 * most + 13
  sum-within None None g h = omega arith
  sum-within (Some r) None g h = omega (arith, amount-within r g)
  sum-within None (Some r) g h = omega (arith, amount-within r h)
  sum-within (Some r) (Some s) g h = omega (arith, amount-within r g, amount-within s h)

  loaded-within :
      (load : Option Rule) (n : ℕ) → AllByRecursion Shallow (rule_terms load) →
      n ≤ 11 * most + 13 → loaded_need load n ≤ 11 * most + 15
  loaded-within None n h le = omega (arith, le)
  loaded-within (Some r) n h le =
      omega (arith, needs (term_of r.when) h.0, needs (term_of r.by) h.1.0, le)

  cleared-within :
      (clear : Option Expr) (n : ℕ) → AllByRecursion Shallow (clear_terms clear) →
      n ≤ 11 * most + 15 → cleared_need clear n ≤ 11 * most + 17
  cleared-within None n h le = omega (arith, le)
  cleared-within (Some e) n h le = omega (arith, needs (term_of e) h.0, le)

  next-within :
      (c : Counter) → AllByRecursion Shallow (counter_terms c) → next_need c ≤ 11 * most + 17
  next-within c h =
      let clear : List Term = clear_terms c.clear in
      let load : List Term = rule_terms c.load in
      let add : List Term = rule_terms c.add in
      let sub : List Term = rule_terms c.sub in
      let three : AllByRecursion Shallow (clear ++ load ++ add) =
      all-front Shallow (clear ++ load ++ add) sub h in
      let two : AllByRecursion Shallow (clear ++ load) =
      all-front Shallow (clear ++ load) add three in
      cleared-within c.clear (loaded_need c.load (sum_need c.add c.sub))
      (all-front Shallow clear load two)
      (loaded-within c.load (sum_need c.add c.sub) (all-back Shallow clear load two)
      (sum-within c.add c.sub (all-back Shallow (clear ++ load) add three)
      (all-back Shallow (clear ++ load ++ add) sub h)))

pub depth-bounds-code : DepthBoundsCode
depth-bounds-code es hs most g h =
    let P : Term → Type 0 = Shallow most in
    let others : List Term = flat_map (λ h. counter_terms h.counter) hs in
    let all : AllByRecursion P (es ++ others) = both most (es ++ others) g h in
    let here : AllByRecursion P es = all-front P es others all in
    let held : AllByRecursion (λ h. AllByRecursion P (counter_terms h.counter)) hs =
    all-flat P (λ h. counter_terms h.counter) hs (all-back P es others all) in
    record {
      need =
          omega (
            arith,
            largest-under need P (11 * most + 10) (needs most) es here,
            largest-under (λ h. next_need h.counter) (λ h. AllByRecursion P (counter_terms
                h.counter))
                (11 * most + 17) (λ h served. next-within most h.counter served) hs held,
          );
      reach =
          omega (
            arith,
            largest-under reach P (64 * most) (reaches most) es here,
            largest-under (λ h. largest reach (counter_terms h.counter))
                (λ h. AllByRecursion P (counter_terms h.counter)) (64 * most)
                (λ h served. largest-under reach P (64 * most) (reaches most) (counter_terms
                h.counter)
                served) hs held,
          );
    }
