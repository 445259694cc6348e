-- What is meant by a part of a text is no deeper than the part.
use Rattle.std.proofs.Common.{◌≡◌, ◌⊎◌, inl, inr, ℕ, suc, ◌+◌, ◌-◌, ◌<◌, ◌≤◌, max, Bool, true, false, if◌then◌else◌}
use Rattle.std.proofs.Common.{◌&&◌}
use Rattle.std.proofs.Common.{List, Option, Some, None, refl, sym, ap, ◌∙◌, subst, arith}
use Rattle.std.specs.Prelude.{nat_le}
use Rattle.std.proofs.lemmas.Bool.{cases_lt, le-leb, lt-leb, leb-true, and_parts}
use Rattle.lexer.specs.declared.token.Base.{Base}
use Rattle.lexer.specs.declared.token.Kind.{Kind}
use Rattle.lexer.specs.declared.token.Kind.TheVariants as kinds
use Rattle.lexer.specs.declared.token.Token.{Token}
use Rattle.parser_grammar.specs.declared.bound.Bound.{Bound}
use Rattle.parser_grammar.specs.declared.bound.Select.{Select}
use Rattle.parser_grammar.specs.declared.mark.Function.{Function}
use Rattle.parser_grammar.specs.declared.mark.Function.TheVariants.{Rose, Fell, Stable, Changed, OneHot, OneHot0}
use Rattle.parser_grammar.specs.Bounds.{bound_within, bound_of_kind, plain_within}
use Rattle.parser_grammar.specs.Trees.{Tree, Links, Parts}
use Rattle.parser_grammar.specs.Expressions.{Operand, is_number, is_path, is_concatenation, in_brackets, is_past}
use Rattle.parser_grammar.specs.Expressions.{is_call}
use Rattle.parser_grammar.specs.Expressions.{is_unary, is_tighter, is_chain}
use Rattle.parser_grammar.specs.Expressions.{Follows, no_more, one_more, AreParts, no_parts, one_part, Spells}
use Rattle.parser_grammar.specs.Expressions.{is_operand}
use Rattle.parser_grammar.specs.Expressions.{is_choice}
use Rattle.parser_grammar.specs.Expressions.{IsSelected, whole, bit, bits, IsTicks, one_tick, some_ticks}
use Rattle.expressions.specs.declared.operator.Reduction.{Reduction}
use Rattle.expressions.specs.declared.operator.Reduction.TheVariants as reductions
use Rattle.expressions.specs.Terms as terms
use Rattle.expressions.specs.Terms.{Term}
use Rattle.types_names.specs.declared.own.Meaning.{Meaning}
use Rattle.types_names.specs.declared.operator.Binary.{Binary}
use Rattle.types_names.specs.declared.operator.Binary.TheVariants.{Arithmetic, Shift, Comparison, Connective}
use Rattle.types_names.specs.declared.operator.Unary.{Unary}
use Rattle.types_names.specs.declared.operator.Unary.TheVariants as unaries
use Rattle.types_names.specs.Scopes.{Scope, meaning, path_text}
use Rattle.types_names.specs.Columns.{column_of}
use Rattle.types_names.specs.Width.{binary_of, unary_of, call_of, ticks_before}
use Rattle.types_names.specs.Meanings.{binary_term, unary_term, call_term, IsReference, Means, Chains, Joins}
use Rattle.types_names.specs.Meanings.{JoinsMore}
use Rattle.compiler.specs.Laws.{EachPart}
use Rattle.compiler.specs.Depths.{depth, term_level, bracketed, braced, reduction_depth, left_depth}
use Rattle.compiler.specs.Depths.{IsShortPast}
use Rattle.compiler_laws.proofs.LevelLaws.{binary_level, level-infix}

-- so many are open in it
pub record Shallow (deep : ℕ) (e : Term) : Type 0 where
  pub within : depth e ≤ deep
  pub near : EachPart IsShortPast e

-- so many are open in it where it is an operand, with brackets round what is looser than the level
pub record Fits (most deep : ℕ) (e : Term) : Type 0 where
  pub within : bracketed most (term_level e) (depth e) ≤ deep
  pub near : EachPart IsShortPast e

-- brackets

bracketed-either : (m l d : ℕ) → ((l ≤ m) × (bracketed m l d ≡ d)) ⊎ ((m < l) × (bracketed m l d ≡ 1 + d))
bracketed-either m l d = elim (cases_lt m l) [
  | inl loose ↦ inr (loose, ap (λ b. if b then d else 1 + d) (lt-leb l m loose))
  | inr tight ↦ inl (tight, ap (λ b. if b then d else 1 + d) (le-leb l m tight))
]

fits-open : (m deep : ℕ) (e : Term) → Fits m deep e → Shallow deep e
fits-open m deep e fits = record {
  within =
      elim (bracketed-either m (term_level e) (depth e)) [
        | inl a ↦ omega (arith, a.1, fits.within)
        | inr b ↦ omega (arith, b.1, fits.within)
      ];
  near = fits.near;
}

in-place : (m deep : ℕ) (e : Term) → term_level e ≤ m → Shallow deep e → Fits m deep e
in-place m deep e tight shallow = record {
  within =
      elim (bracketed-either m (term_level e) (depth e)) [
        | inl a ↦ omega (arith, a.1, shallow.within)
        | inr b ↦ absurd (omega (arith, b.0))
      ];
  near = shallow.near;
}

in-round : (m deep : ℕ) (e : Term) → Shallow deep e → Fits m (suc deep) e
in-round m deep e shallow = record {
  within =
      elim (bracketed-either m (term_level e) (depth e)) [
        | inl a ↦ omega (arith, a.1, shallow.within)
        | inr b ↦ omega (arith, b.1, shallow.within)
      ];
  near = shallow.near;
}

looser : (m deep : ℕ) (e : Term) → Fits m deep e → Fits (suc m) deep e
looser m deep e fits = record {
  within = elim (bracketed-either m (term_level e) (depth e)) [
    | inl a ↦ elim (bracketed-either (suc m) (term_level e) (depth e)) [
      | inl x ↦ omega (arith, a.1, x.1, fits.within)
      | inr y ↦ absurd (omega (arith, a.0, y.0))
    ]
    | inr b ↦ elim (bracketed-either (suc m) (term_level e) (depth e)) [
      | inl x ↦ omega (arith, b.1, x.1, fits.within)
      | inr y ↦ omega (arith, b.1, y.1, fits.within)
    ]
  ];
  near = fits.near;
}

-- operators

binary-left : (op : Binary) (a b : Term) → (term_level (binary_term op a b) ≡ binary_level op)
    × (depth (binary_term op a b) ≡ left_depth (binary_level op) (term_level a) (depth a) (term_level b) (depth b))
binary-left (Arithmetic op) a b = (refl, refl)
binary-left (Shift op) a b = (refl, refl)
binary-left (Comparison op) a b = (refl, refl)
binary-left (Connective op) a b = (refl, refl)

binary-near : (op : Binary) (a b : Term) → EachPart IsShortPast a → EachPart IsShortPast b
    → EachPart IsShortPast (binary_term op a b)
binary-near (Arithmetic op) a b x y = (tt, x, y)
binary-near (Shift op) a b x y = (tt, x, y)
binary-near (Comparison op) a b x y = (tt, x, y)
binary-near (Connective op) a b x y = (tt, x, y)

binary-fits : (op : Binary) (m deep : ℕ) (a b : Term) → binary_level op ≡ suc m → Fits (suc m) deep a → Fits m deep b
    → Fits (suc m) deep (binary_term op a b)
binary-fits op m deep a b is first second =
    let shape = binary-left op a b in
    let less : suc m - 1 ≡ m = omega arith in
    let own : left_depth (binary_level op) (term_level a) (depth a) (term_level b) (depth b)
    ≡ left_depth (suc m) (term_level a) (depth a) (term_level b) (depth b) =
    ap (λ n. left_depth n (term_level a) (depth a) (term_level b) (depth b)) is in
    let right : bracketed (suc m - 1) (term_level b) (depth b) ≡ bracketed m (term_level b) (depth b) =
    ap (λ n. bracketed n (term_level b) (depth b)) less in
    let sides : left_depth (suc m) (term_level a) (depth a) (term_level b) (depth b) ≤ deep =
    max_le (bracketed (suc m) (term_level a) (depth a))
    (bracketed (suc m - 1) (term_level b) (depth b)) deep first.within
    (omega (arith, right, second.within)) in
    in-place (suc m) deep (binary_term op a b) (omega (arith, shape.0, is))
    (record { within = omega (arith, shape.1, own, sides); near = binary-near op a b first.near second.near })
  where
    max_le : (x y n : ℕ) → x ≤ n → y ≤ n → max x y ≤ n
    max_le x y n a b = omega arith

reduction-within : (op : Reduction) (l d : ℕ) → reduction_depth op l d ≤ 1 + bracketed 0 l d
reduction-within reductions.Zero l d = omega arith
reduction-within reductions.NonZero l d = omega arith
reduction-within reductions.AllOnes l d = omega arith
reduction-within reductions.NotAllOnes l d = omega arith
reduction-within reductions.Odd l d = omega arith
reduction-within reductions.Even l d = omega arith
reduction-within reductions.OneHot l d =
    elim (bracketed-either 0 l d) [ inl a ↦ omega (arith, a.1) | inr b ↦ omega (arith, b.1) ]
reduction-within reductions.OneHotOrZero l d =
    elim (bracketed-either 0 l d) [ inl a ↦ omega (arith, a.1) | inr b ↦ omega (arith, b.1) ]

unary-fits : (u : Unary) (deep : ℕ) (a : Term) → Fits 0 deep a → Fits 0 (suc deep) (unary_term u a)
unary-fits unaries.Complement deep a fits =
    in-place 0 (suc deep) (terms.inverse a) (omega arith)
    (record { within = omega (arith, fits.within); near = (tt, fits.near) })
unary-fits (unaries.Reduce op) deep a fits =
    in-place 0 (suc deep) (terms.reduce op a) (omega arith)
    (record
    { within = omega (arith, fits.within, reduction-within op (term_level a) (depth a)); near = (tt, fits.near) })

call-fits : (f : Function) (deep : ℕ) (a : Term) → Shallow deep a → Fits 0 (suc deep) (call_term (call_of f) a)
call-fits Rose deep a shallow =
    in-place 0 (suc deep) _ (omega arith)
    (record { within = omega (arith, shallow.within); near = (tt, shallow.near) })
call-fits Fell deep a shallow =
    in-place 0 (suc deep) _ (omega arith)
    (record { within = omega (arith, shallow.within); near = (tt, shallow.near) })
call-fits Stable deep a shallow =
    in-place 0 (suc deep) _ (omega arith)
    (record { within = omega (arith, shallow.within); near = (tt, shallow.near) })
call-fits Changed deep a shallow =
    in-place 0 (suc deep) _ (omega arith)
    (record { within = omega (arith, shallow.within); near = (tt, shallow.near) })
call-fits OneHot deep a shallow =
    in-place 0 (suc deep) _ (omega arith)
    (record { within = omega (arith, shallow.within); near = (tt, shallow.near) })
call-fits OneHot0 deep a shallow =
    in-place 0 (suc deep) _ (omega arith)
    (record { within = omega (arith, shallow.within); near = (tt, shallow.near) })

-- $past

when-some : {A : Type 0} (c : Bool) (x y : A) → (if c then Some x else None) ≡ Some y → (c ≡ true) × (x ≡ y)
when-some true x y h = (refl, ap (λ o. or_else o y) h)
  where
    or_else : {A : Type 0} → Option A → A → A
    or_else None d = d
    or_else (Some x) d = x
when-some false x y h = absurd cc

plain-most : (most at value : ℕ) (base : Option Base) (b : Bound) → plain_within 1 most at value base ≡ Some b
    → b.value ≤ most
plain-most most at value (Some base) b h = absurd cc
plain-most most at value None b h =
    let found = when-some (nat_le 1 value && nat_le value most) (record { value = value; at = at }) b h in
    let within : value ≤ most = leb-true value most (and_parts (nat_le 1 value) (nat_le value most) found.0).1 in
    let same : value ≡ b.value = ap (λ (x : Bound). x.value) found.1 in
    omega arith

kind-most : (most at : ℕ) (k : Kind) (b : Bound) → bound_of_kind 1 most at k ≡ Some b → b.value ≤ most
kind-most most at kinds.Word b h = absurd cc
kind-most most at kinds.System b h = absurd cc
kind-most most at (kinds.Number n) b h = plain-most most at n.value n.base b h
kind-most most at (kinds.Symbol x) b h = absurd cc
kind-most most at kinds.End b h = absurd cc

bound-most : (most : ℕ) (t : Token) (b : Bound) → bound_within 1 most t ≡ Some b → b.value ≤ most
unfolding bound_within
bound-most most t b h = kind-most most t.at t.kind b h

ticks-most : {n : Option Bound} {ts rest : List Token} → IsTicks n ts rest → ticks_before n ≤ 64
ticks-most one_tick = omega arith
ticks-most (some_ticks {n = n} {b = b} k h) = bound-most 64 n b h

past-fits : (deep ticks : ℕ) (a : Term) → ticks ≤ 64 → Shallow deep a → Fits 0 (suc deep) (terms.past a ticks)
past-fits deep ticks a short shallow =
    in-place 0 (suc deep) (terms.past a ticks) (omega arith)
    (record { within = omega (arith, shallow.within); near = (short, shallow.near) })

-- names and selects

fits-as : (m deep : ℕ) (e f : Term) → e ≡ f → Fits m deep f → Fits m deep e
fits-as m deep e f is fits = subst (Fits m deep) (sym is) fits

path-fits : {d : ℕ} {x : Option Select} {ts rest : List Token} (means : Option Meaning) (column : Option ℕ) (e : Term)
    → IsSelected d x ts rest → IsReference means column x e → Fits 0 d e
path-fits {d = d} means column e whole is =
    fits-as 0 d e (terms.named is.name) is.is
    (in-place 0 d (terms.named is.name) (omega arith) (record { within = omega arith; near = tt }))
path-fits means column e (bit {d = d} l i r) is =
    fits-as 0 (suc d) e (terms.slice is.part) is.is
    (in-place 0 (suc d) (terms.slice is.part) (omega arith) (record { within = omega arith; near = tt }))
path-fits means column e (bits {d = d} l i k j r) is =
    fits-as 0 (suc d) e (terms.slice is.part) is.is
    (in-place 0 (suc d) (terms.slice is.part) (omega arith) (record { within = omega arith; near = tt }))

-- braces

braced-most : (e : Term) (d : ℕ) → braced e d ≤ 1 + d
braced-most (terms.constant x) d = omega arith
braced-most (terms.named x) d = omega arith
braced-most (terms.slice x) d = omega arith
braced-most (terms.group x) d = omega arith
braced-most (terms.concat x y) d = omega arith
braced-most (terms.inverse x) d = omega arith
braced-most (terms.reduce x y) d = omega arith
braced-most (terms.combine x y z) d = omega arith
braced-most (terms.shift x y z) d = omega arith
braced-most (terms.compare x y z) d = omega arith
braced-most (terms.connect x y z) d = omega arith
braced-most (terms.choose x y z) d = omega arith
braced-most (terms.past x y) d = omega arith
braced-most (terms.change x y) d = omega arith

-- so many are open in what is joined so far
pub record Joined (deep : ℕ) (e : Term) : Type 0 where
  pub within : braced e (depth e) ≤ deep
  pub near : EachPart IsShortPast e

joined-first : (deep : ℕ) (e : Term) → Shallow deep e → Joined (suc deep) e
joined-first deep e shallow =
    record { within = omega (arith, braced-most e (depth e), shallow.within); near = shallow.near }

joined-more : (deep : ℕ) (a b : Term) → Joined (suc deep) a → Shallow deep b → Shallow (suc deep) (terms.concat a b)
joined-more deep a b first second =
    record { within = omega (arith, first.within, second.within); near = (tt, first.near, second.near) }

joined-again : (deep : ℕ) (a b : Term) → Shallow deep (terms.concat a b) → Joined deep (terms.concat a b)
joined-again deep a b shallow = record { within = shallow.within; near = shallow.near }

group-fits : (deep : ℕ) (a : Term) → Shallow deep a → Fits 0 (suc deep) (terms.group a)
group-fits deep a shallow =
    in-place 0 (suc deep) (terms.group a) (omega arith)
    (record { within = omega (arith, shallow.within); near = (tt, shallow.near) })

choice-open : (deep : ℕ) (c a b : Term) → Fits 9 (suc deep) c → Shallow deep a → Shallow deep b
    → Shallow (suc deep) (terms.choose c a b)
choice-open deep c a b first second third =
    record {
      within = omega (arith, first.within, second.within, third.within);
      near = (tt, first.near, second.near, third.near);
    }

-- the grammar

module _ (s : Scope) (columns : List (List ℕ)) where
  mutual
    unfolding Means Chains Joins JoinsMore

    pub operand-fits : {d l : ℕ} {t : Tree} {ts rest : List Token} → Operand d l t ts rest → l ≤ 9 → (e : Term)
        → Means s columns t e → Fits l d e
    operand-fits (is_number {d = d} m) low e is =
        fits-as 0 d e (terms.constant is.bits) is.is
        (in-place 0 d (terms.constant is.bits) (omega arith) (record { within = omega arith; near = tt }))
    operand-fits (is_path {words = words} p x) low e is =
        path-fits (meaning s words) (column_of columns (path_text words)) e x is
    operand-fits (is_concatenation {d = d} m first no_parts c) low e is =
        fits-as 0 (suc d) e (terms.group is.0) is.2 (group-fits d is.0 (spells-open first is.0 is.1))
    operand-fits (is_concatenation {d = d} m first (one_part k second more) c) low e is =
        let a : Term = is.0 in
        let b : Term = is.2.0 in
        parts-fit more a b
        (joined-more d a b (joined-first d a (spells-open first a is.1)) (spells-open second b is.2.1)) e is.2.2
    operand-fits (in_brackets {d = d} m inner c) low e is = in-round 0 d e (spells-open inner e is)
    operand-fits (is_past {d = d} {ticks = ticks} m o inner n c) low e is =
        fits-as 0 (suc d) e (terms.past is.0 (ticks_before ticks)) is.2
        (past-fits d (ticks_before ticks) is.0 (ticks-most n) (spells-open inner is.0 is.1))
    operand-fits (is_call {d = d} {g = g} m o inner c) low e is =
        fits-as 0 (suc d) e (call_term (call_of g) is.0) is.2 (call-fits g d is.0 (spells-open inner is.0 is.1))
    operand-fits (is_unary {d = d} {op = op} m inner) low e is =
        fits-as 0 (suc d) e (unary_term (unary_of op) is.0) is.2
        (unary-fits (unary_of op) d is.0 (operand-fits inner low is.0 is.1))
    operand-fits (is_tighter {d = d} {l = l} inner) low e is = looser l d e (operand-fits inner (omega arith) e is)
    operand-fits (is_chain {d = d} {l = l} first more) low e is =
        follows-fit more low is.0 (looser l d is.0 (operand-fits first (omega arith) is.0 is.1)) e is.2

    pub follows-fit : {d l : ℕ} {links : Links} {ts rest : List Token} → Follows d l links ts rest → suc l ≤ 9
        → (a : Term) → Fits (suc l) d a →
        (e : Term) → Chains s columns a links e → Fits (suc l) d e
    follows-fit (no_more {d = d} {l = l}) low a fits e is = fits-as (suc l) d e a is fits
    follows-fit (one_more {d = d} {l = l} {op = op} h k operand more) low a fits e is =
        follows-fit more low (binary_term (binary_of op) a is.0)
        (binary-fits (binary_of op) l d a is.0 (level-infix op ∙ k) fits (operand-fits operand (omega arith) is.0 is.1))
        e is.2

    pub parts-fit : {d : ℕ} {parts : Parts} {ts rest : List Token} → AreParts d parts ts rest → (a b : Term)
        → Shallow (suc d) (terms.concat a b) →
        (e : Term) → JoinsMore s columns (terms.concat a b) parts e → Fits 0 (suc d) e
    parts-fit (no_parts {d = d}) a b so_far e is =
        fits-as 0 (suc d) e (terms.concat a b) is (in-place 0 (suc d) (terms.concat a b) (omega arith) so_far)
    parts-fit (one_part {d = d} k next more) a b so_far e is =
        parts-fit more (terms.concat a b) is.0
        (joined-more d (terms.concat a b) is.0 (joined-again (suc d) a b so_far) (spells-open next is.0 is.1)) e
        is.2

    pub spells-open : {d : ℕ} {t : Tree} {ts rest : List Token} → Spells d t ts rest → (e : Term) → Means s columns t e
        → Shallow d e
    spells-open (is_operand {d = d} operand) e is = fits-open 9 d e (operand-fits operand (omega arith) e is)
    spells-open (is_choice {d = d} h k condition first second) e is =
        let c : Term = is.0 in
        let a : Term = is.1 in
        let b : Term = is.2 in
        subst (Shallow (suc d)) (sym is.6)
        (choice-open d c a b (operand-fits condition (omega arith) c is.3) (spells-open first a is.4)
        (spells-open second b is.5))
