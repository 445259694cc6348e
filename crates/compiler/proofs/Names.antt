-- The names of an expression, part by part.
use Rattle.std.proofs.Common.{List, [], ◌∷◌, ◌++◌, Option, Some, None, refl, arith}
use Rattle.std.specs.Prelude.{Contains}
use Rattle.std.specs.List.{AllByRecursion}
use Rattle.std.proofs.lemmas.List.Elements.{Contains-append_left, Contains-append_right}
use Rattle.expressions.specs.declared.name.Name.{Name}
use Rattle.expressions.specs.declared.expr.Expr.{Expr}
use Rattle.expressions.specs.declared.rule.Rule.{Rule}
use Rattle.expressions.specs.declared.counter.Counter.{Counter}
use Rattle.expressions.specs.Terms.{Term, constant, named, slice, group, concat, inverse, reduce}
use Rattle.expressions.specs.Terms.{combine, shift, compare, connect, choose, past, change}
use Rattle.expressions.specs.Expressions.{term_of}
use Rattle.assertions.specs.Names.{names_in, expression_names, rule_names, counter_names}
use Rattle.compiler.specs.Samples.{rule_terms, clear_terms, counter_terms}
use Rattle.compiler.specs.Laws.{EachPart, OfName}

-- these names are among those
abbrev pub Within : List Name → List Name → Type 0
Within xs ys = (n : Name) → Contains xs n → Contains ys n

first-of : (n : Name) (ns : List Name) → Contains (n ∷ ns) n
first-of n ns = (0, omega arith, refl)

left-within : (xs ys : List Name) → Within xs (xs ++ ys)
left-within xs ys n h = Contains-append_left xs ys n h

right-within : (xs ys : List Name) → Within ys (xs ++ ys)
right-within xs ys n h = Contains-append_right xs ys n h

-- P holds of the name that each part is, where it holds of all names
module _ (P : Name → Type 0) where
  abbrev Has : Term → Type 0
  Has e = (n : Name) → Contains (names_in e) n → P n

  two : (a b : Term) → ((n : Name) → Contains (names_in a ++ names_in b) n → P n) → Has a × Has b
  two a b h = (
    λ n c. h n (left-within (names_in a) (names_in b) n c),
    λ n c. h n (right-within (names_in a) (names_in b) n c),
  )

  pub each-name : (e : Term) → ((n : Name) → Contains (names_in e) n → P n) → EachPart (OfName P) e
  each-name (constant bits) h = tt
  each-name (named name) h = h name (first-of name [])
  each-name (slice part) h = h part.name (first-of part.name [])
  each-name (group e) h = (tt, each-name e h)
  each-name (concat a b) h = let s = two a b h in (tt, each-name a s.0, each-name b s.1)
  each-name (inverse e) h = (tt, each-name e h)
  each-name (reduce op e) h = (tt, each-name e h)
  each-name (combine op a b) h = let s = two a b h in (tt, each-name a s.0, each-name b s.1)
  each-name (shift op a b) h = let s = two a b h in (tt, each-name a s.0, each-name b s.1)
  each-name (compare op a b) h = let s = two a b h in (tt, each-name a s.0, each-name b s.1)
  each-name (connect op a b) h = let s = two a b h in (tt, each-name a s.0, each-name b s.1)
  each-name (choose c a b) h =
      let more = λ (n : Name) (k : Contains (names_in a ++ names_in b) n).
      h n (right-within (names_in c) (names_in a ++ names_in b) n k) in
      let s = two a b more in (
        tt,
        each-name c (λ n k. h n (left-within (names_in c) (names_in a ++ names_in b) n k)),
        each-name a s.0,
        each-name b s.1,
      )
  each-name (past e ticks) h = (tt, each-name e h)
  each-name (change op e) h = (tt, each-name e h)

-- two facts of each part give a third
module _ (P Q R : Term → Type 0) (go : (e : Term) → P e → Q e → R e) where
  pub each-both : (e : Term) → EachPart P e → EachPart Q e → EachPart R e
  each-both (constant bits) p q = go (constant bits) p q
  each-both (named name) p q = go (named name) p q
  each-both (slice part) p q = go (slice part) p q
  each-both (group e) p q = (go (group e) p.0 q.0, each-both e p.1 q.1)
  each-both (concat a b) p q =
      (go (concat a b) p.0 q.0, each-both a p.1 q.1, each-both b p.2 q.2)
  each-both (inverse e) p q = (go (inverse e) p.0 q.0, each-both e p.1 q.1)
  each-both (reduce op e) p q = (go (reduce op e) p.0 q.0, each-both e p.1 q.1)
  each-both (combine op a b) p q =
      (go (combine op a b) p.0 q.0, each-both a p.1 q.1, each-both b p.2 q.2)
  each-both (shift op a b) p q =
      (go (shift op a b) p.0 q.0, each-both a p.1 q.1, each-both b p.2 q.2)
  each-both (compare op a b) p q =
      (go (compare op a b) p.0 q.0, each-both a p.1 q.1, each-both b p.2 q.2)
  each-both (connect op a b) p q =
      (go (connect op a b) p.0 q.0, each-both a p.1 q.1, each-both b p.2 q.2)
  each-both (choose c a b) p q = (
    go (choose c a b) p.0 q.0,
    each-both c p.1 q.1,
    each-both a p.2 q.2,
    each-both b p.3 q.3,
  )
  each-both (past e ticks) p q = (go (past e ticks) p.0 q.0, each-both e p.1 q.1)
  each-both (change op e) p q = (go (change op e) p.0 q.0, each-both e p.1 q.1)

-- two facts of the name of a part give a third
module _ (P Q R : Name → Type 0) (go : (n : Name) → P n → Q n → R n) where
  pub name-both : (e : Term) → OfName P e → OfName Q e → OfName R e
  name-both (constant bits) p q = tt
  name-both (named name) p q = go name p q
  name-both (slice part) p q = go part.name p q
  name-both (group e) p q = tt
  name-both (concat a b) p q = tt
  name-both (inverse e) p q = tt
  name-both (reduce op e) p q = tt
  name-both (combine op a b) p q = tt
  name-both (shift op a b) p q = tt
  name-both (compare op a b) p q = tt
  name-both (connect op a b) p q = tt
  name-both (choose c a b) p q = tt
  name-both (past e ticks) p q = tt
  name-both (change op e) p q = tt

-- each of these expressions has only names among these
abbrev pub AllWithin : List Name → List Term → Type 0
AllWithin ns es = AllByRecursion (λ e. Within (names_in e) ns) es

pub further : (xs ys : List Name) (es : List Term) → Within xs ys → AllWithin xs es → AllWithin ys es
further xs ys [] go h = tt
further xs ys (e ∷ es) go h = (λ n c. go n (h.0 n c), further xs ys es go h.1)

joined : (ns : List Name) (es fs : List Term) → AllWithin ns es → AllWithin ns fs → AllWithin ns (es ++ fs)
joined ns [] fs g h = h
joined ns (e ∷ es) fs g h = (g.0, joined ns es fs g.1 h)

clear-within : (o : Option Expr) → AllWithin (expression_names o) (clear_terms o)
clear-within None = tt
clear-within (Some e) = (λ n c. c, tt)

rule-within : (o : Option Rule) → AllWithin (rule_names o) (rule_terms o)
rule-within None = tt
rule-within (Some r) =
    let a = names_in (term_of r.when) in
    let b = names_in (term_of r.by) in
    (left-within a b, (right-within a b, tt))

-- the names of a counter's expressions are those of its clauses
pub counter-within : (c : Counter) → AllWithin (counter_names c) (counter_terms c)
counter-within c =
    let n0 = expression_names c.clear in
    let n1 = rule_names c.load in
    let n2 = rule_names c.add in
    let n3 = rule_names c.sub in
    let m2 = n2 ++ n3 in
    let m1 = n1 ++ m2 in
    let all = n0 ++ m1 in
    let w0 = further n0 all (clear_terms c.clear) (left-within n0 m1) (clear-within c.clear) in
    let w1 =
    further n1 all (rule_terms c.load) (λ n k. right-within n0 m1 n (left-within n1 m2 n k)) (rule-within c.load)
    in
    let w2 =
    further n2 all (rule_terms c.add) (λ n k. right-within n0 m1 n (right-within n1 m2 n (left-within n2 n3 n k)))
    (rule-within c.add) in
    let w3 =
    further n3 all (rule_terms c.sub)
    (λ n k. right-within n0 m1 n (right-within n1 m2 n (right-within n2 n3 n k))) (rule-within c.sub) in
    joined all (clear_terms c.clear ++ rule_terms c.load ++ rule_terms c.add) (rule_terms c.sub)
    (joined all (clear_terms c.clear ++ rule_terms c.load) (rule_terms c.add)
    (joined all (clear_terms c.clear) (rule_terms c.load) w0 w1) w2) w3
