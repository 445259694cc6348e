-- Conditionals, directive by directive.
use Rattle.std.proofs.Common.{◌≡◌, ◌≢◌, ℕ, List, [], ◌∷◌, ◌++◌, Bool, true, false, Option, Some, None}
use Rattle.std.proofs.Common.{refl, sym, ap, ◌∙◌, subst, append_assoc, append-nil}
use Rattle.std.proofs.Common.{suc, ◌+◌, ◌<◌, ◌≤◌, length, arith, take, drop, get_or, add-one, drop-cons}
use Rattle.std.proofs.Math.Seq.{take-suc}
use Rattle.std.proofs.lemmas.List.{map-append, reverse-append, take-append-drop, take_all}
use Rattle.std.proofs.lemmas.Option.{none-some}
use Rattle.std.specs.Prelude.{reverse}
use Rattle.import_tokens.specs.declared.conditional.Conditional.{Conditional}
use Rattle.import_tokens.specs.declared.turn.Turn.{Turn}
use Rattle.import_tokens.specs.declared.turn.Turn.TheVariants.{If, ElseIf, Else, EndIf}
use Rattle.import_tokens.specs.Nesting.{AreWhole, none, one_more, IsInside, at_end, at_else, at_else_if}
use Rattle.import_tokens.specs.Nesting.{turns, Nest, IsAt, IsStray, IsUnclosed}
use Rattle.import_tokens.specs.Steps.{step, IsStep, Takes, outermost_of}

-- what is open after directives, if each may stand where it does
abbrev ran : Option (List Bool) → List Turn → Option (List Bool)
ran None rest = None
ran (Some around) [] = Some around
ran (Some around) (turn ∷ rest) = ran (step around turn) rest

mutual
  whole_runs : {first rest : List Turn} → AreWhole first rest → (around : List Bool)
      → ran (Some around) first ≡ ran (Some around) rest
  whole_runs none around = refl
  whole_runs (one_more inside more) around = inside_runs inside around ∙ whole_runs more around

  inside_runs : {inside rest : List Turn} → IsInside inside rest → (around : List Bool)
      → ran (Some (false ∷ around)) inside ≡ ran (Some around) rest
  inside_runs (at_end first) around = whole_runs first (false ∷ around)
  inside_runs (at_else first last) around = whole_runs first (false ∷ around) ∙ whole_runs last (true ∷ around)
  inside_runs (at_else_if first branch) around = whole_runs first (false ∷ around) ∙ inside_runs branch around

-- two facts of what stands between
record Joint (P Q : List Turn → Type 0) : Type 0 where
  at : List Turn
  here : P at
  later : Q at

-- Directives end what is open, and then those that are left are so related to the rest.
abbrev Ends : (List Turn → List Turn → Type 0) → List Bool → List Turn → List Turn → Type 0
Ends B [] first rest = B first rest
Ends B (false ∷ around) first rest = Joint (λ at. IsInside first at) (λ at. Ends B around at rest)
Ends B (true ∷ around) first rest = Joint (λ at. AreWhole first (EndIf ∷ at)) (λ at. Ends B around at rest)

abbrev EndsAfter : (List Turn → List Turn → Type 0) → Option (List Bool) → List Turn → List Turn → Type 0
EndsAfter B None first rest = ⊥
EndsAfter B (Some around) first rest = Ends B around first rest

more_inside : {inside after rest : List Turn} → IsInside inside after → IsInside after rest
    → IsInside (If ∷ inside) rest
more_inside inside (at_end first) = at_end (one_more inside first)
more_inside inside (at_else first last) = at_else (one_more inside first) last
more_inside inside (at_else_if first branch) = at_else_if (one_more inside first) branch

in_front : (B : List Turn → List Turn → Type 0) (had_else : Bool) (around : List Bool) (inside after rest : List Turn)
    → IsInside inside after → Ends B (had_else ∷ around) after rest → Ends B (had_else ∷ around) (If ∷ inside) rest
in_front B false around inside after rest is h =
    record { at = h.at; here = more_inside is h.here; later = h.later }
in_front B true around inside after rest is h = record { at = h.at; here = one_more is h.here; later = h.later }

-- a directive where something is open
one_back : (B : List Turn → List Turn → Type 0) (had_else : Bool) (around : List Bool) (turn : Turn)
    (after rest : List Turn) → EndsAfter B (step (had_else ∷ around) turn) after rest
    → Ends B (had_else ∷ around) (turn ∷ after) rest
one_back B had_else around If after rest h = in_front B had_else around after h.at rest h.here h.later
one_back B false around EndIf after rest h = record { at = after; here = at_end none; later = h }
one_back B true around EndIf after rest h = record { at = after; here = none; later = h }
one_back B false around ElseIf after rest h = record { at = h.at; here = at_else_if none h.here; later = h.later }
one_back B false around Else after rest h = record { at = h.at; here = at_else none h.here; later = h.later }
one_back B true around ElseIf after rest h = absurd h
one_back B true around Else after rest h = absurd h

-- a directive where nothing has to be open
whole_back : (around : List Bool) (turn : Turn) (after rest : List Turn)
    → EndsAfter AreWhole (step around turn) after rest → Ends AreWhole around (turn ∷ after) rest
whole_back [] If after rest h = one_more h.here h.later
whole_back [] EndIf after rest h = absurd h
whole_back [] ElseIf after rest h = absurd h
whole_back [] Else after rest h = absurd h
whole_back (had_else ∷ around) turn after rest h = one_back AreWhole had_else around turn after rest h

-- as many ends as are open
abbrev ends : List Bool → List Turn
ends [] = []
ends (had_else ∷ around) = EndIf ∷ ends around

ends_all : (B : List Turn → List Turn → Type 0) (around : List Bool) → B [] [] → Ends B around (ends around) []
ends_all B [] base = base
ends_all B (false ∷ around) base = record { at = ends around; here = at_end none; later = ends_all B around base }
ends_all B (true ∷ around) base = record { at = ends around; here = none; later = ends_all B around base }

abbrev IsSame : List Turn → List Turn → Type 0
IsSame first rest = first ≡ rest

-- The outermost conditional that is open begins at a place, and what came after it is in it.
record IsFirst (found : List Conditional) (at : ℕ) (around : List Bool) : Type 0 where
  before : List Conditional
  one : Conditional
  after : List Conditional
  is : IsAt found before one after at
  nest : Nest before
  begins : one.turn ≡ If
  inside : (more rest : List Turn) → Ends IsSame around more rest → IsInside (turns after ++ more) rest

abbrev HasFirst : List Conditional → ℕ → List Bool → Type 0
HasFirst found at [] = Unit {0}
HasFirst found at (had_else ∷ around) = IsFirst found at (had_else ∷ around)

-- what the directives so far leave open, the outermost first in `items`
pub record Walks (found : List Conditional) (first : ℕ) (items : List Bool) : Type 0 where
  around : List Bool
  held : items ≡ reverse around
  runs : (more : List Turn) → ran (Some []) (turns found ++ more) ≡ ran (Some around) more
  nests : (more rest : List Turn) → Ends AreWhole around more rest → AreWhole (turns found ++ more) rest
  outermost : HasFirst found first around

pub walks_none : Walks [] 0 []
walks_none = record { around = []; held = refl; runs = λ more. refl; nests = λ more rest h. h; outermost = tt }

-- one directive more
turns_more : (found : List Conditional) (one : Conditional) (more : List Turn)
    → turns (found ++ one ∷ []) ++ more ≡ turns found ++ one.turn ∷ more
turns_more found one more =
    ap (λ (ts : List Turn). ts ++ more) (map-append (λ (c : Conditional). c.turn) found (one ∷ []))
    ∙ append_assoc (turns found) (one.turn ∷ []) more

not_empty : (around : List Bool) (had_else : Bool) (next before : ℕ)
    → outermost_of (around ++ had_else ∷ []) next before ≡ before
not_empty [] had_else next before = refl
not_empty (one ∷ around) had_else next before = refl

before_first : (found : List Conditional) → ((more rest : List Turn) → AreWhole more rest
    → AreWhole (turns found ++ more) rest) → Nest found
before_first found nests = subst (λ (ts : List Turn). AreWhole ts []) (append-nil (turns found)) (nests [] [] none)

-- what a step leads to
abbrev IsNext : Option (List Bool) → List Bool → Type 0
IsNext None after = ⊥
IsNext (Some around) after = around ≡ after

goes_on : (B : List Turn → List Turn → Type 0) (o : Option (List Bool)) (after : List Bool) (more rest : List Turn)
    → IsNext o after → Ends B after more rest → EndsAfter B o more rest
goes_on B None after more rest is h = absurd is
goes_on B (Some around) after more rest is h = subst (λ (bs : List Bool). Ends B bs more rest) (sym is) h

runs_on : (o : Option (List Bool)) (after : List Bool) (more : List Turn) → IsNext o after
    → ran o more ≡ ran (Some after) more
runs_on None after more is = absurd is
runs_on (Some around) after more is = ap (λ (bs : List Bool). ran (Some bs) more) is

-- where a directive is taken, or not
record Next (o : Option (List Bool)) (items : List Bool) : Type 0 where
  around : List Bool
  is : IsNext o around
  held : items ≡ reverse around

taken_next : (o : Option (List Bool)) (items : List Bool) → IsStep o true items → Next o items
taken_next None items h = absurd h
taken_next (Some around) items h = record { around = around; is = refl; held = h }

not_taken : (o : Option (List Bool)) (items : List Bool) → IsStep o false items → o ≡ None
not_taken None items h = refl
not_taken (Some around) items h = absurd h

runs_none : (o : Option (List Bool)) (more : List Turn) → o ≡ None → ran o more ≡ None
runs_none o more e = ap (λ (p : Option (List Bool)). ran p more) e

abbrev IsSome : {A : Type 0} → List A → Type 0
IsSome [] = ⊥
IsSome (one ∷ rest) = Unit {0}

some_list : {A : Type 0} (one : A) (rest : List A) → one ∷ rest ≢ []
some_list one rest e = subst (λ xs. IsSome xs) e tt

reversed : (had_else : Bool) (around : List Bool) → reverse (had_else ∷ around) ≡ reverse around ++ had_else ∷ []
reversed had_else around = reverse-append (had_else ∷ []) around

ends_with : (around : List Bool) (had_else : Bool) → [] ≢ around ++ had_else ∷ []
ends_with [] had_else e = some_list _ _ (sym e)
ends_with (one ∷ around) had_else e = some_list _ _ (sym e)

closed_whole : (all : List Conditional) (first : ℕ) (around : List Bool) → [] ≡ reverse around
    → ((more rest : List Turn) → Ends AreWhole around more rest → AreWhole (turns all ++ more) rest) → Nest all
closed_whole all first [] held nests =
    subst (λ (ts : List Turn). AreWhole ts []) (append-nil (turns all)) (nests [] [] none)
closed_whole all first (had_else ∷ around) held nests =
    absurd (ends_with (reverse around) had_else (held ∙ reversed had_else around))

open_unclosed : (all : List Conditional) (first : ℕ) (items around : List Bool) → items ≡ reverse around
    → items ≢ [] → HasFirst all first around → IsUnclosed all first
open_unclosed all first items [] held some h = absurd (some held)
open_unclosed all first items (had_else ∷ around) held some h = record {
  before = h.before;
  one = h.one;
  after = h.after;
  is = h.is;
  nest = h.nest;
  begins = h.begins;
  added = ends (had_else ∷ around);
  some = λ e. some_list _ _ e;
  ends = h.inside (ends (had_else ∷ around)) [] (ends_all IsSame (had_else ∷ around) refl);
}

first_begins : (found : List Conditional) (one : Conditional) (turn : Turn) → one.turn ≡ turn → (after : List Bool)
    → IsNext (step [] turn) after → Nest found → HasFirst (found ++ one ∷ []) one.at after
first_begins found one ElseIf e after is nest = absurd is
first_begins found one Else e after is nest = absurd is
first_begins found one EndIf e after is nest = absurd is
first_begins found one If e after is nest =
    subst (λ (around : List Bool). HasFirst (found ++ one ∷ []) one.at around) is (record {
      before = found;
      one = one;
      after = [];
      is = record { joined = refl; place = refl };
      nest = nest;
      begins = e;
      inside = λ more rest h. subst (λ (ts : List Turn). IsInside more ts) h.later h.here;
    })

first_stays : (found : List Conditional) (first : ℕ) (one : Conditional) (had_else : Bool) (around after : List Bool)
    → IsNext (step (had_else ∷ around) one.turn) after → IsFirst found first (had_else ∷ around)
    → HasFirst (found ++ one ∷ []) first after
first_stays found first one had_else around [] is h = tt
first_stays found first one had_else around (another ∷ after) is h = record {
  before = h.before;
  one = h.one;
  after = h.after ++ one ∷ [];
  is = record {
    joined =
        ap (λ (cs : List Conditional). cs ++ one ∷ []) h.is.joined
        ∙ append_assoc h.before (h.one ∷ h.after) (one ∷ []);
    place = h.is.place;
  };
  nest = h.nest;
  begins = h.begins;
  inside = λ more rest e.
      subst (λ (ts : List Turn). IsInside ts rest) (sym (turns_more h.after one more))
      (h.inside (one.turn ∷ more) rest
      (one_back IsSame had_else around one.turn more rest (goes_on IsSame _ (another ∷ after) more rest is e)));
}

first_after : (found : List Conditional) (first : ℕ) (one : Conditional) (around after : List Bool)
    → IsNext (step around one.turn) after → HasFirst found first around
    → ((more rest : List Turn) → Ends AreWhole around more rest → AreWhole (turns found ++ more) rest)
    → HasFirst (found ++ one ∷ []) (outermost_of (reverse around) one.at first) after
first_after found first one [] after is h nests =
    first_begins found one one.turn refl after is (before_first found nests)
first_after found first one (had_else ∷ around) after is h nests =
    subst (λ (n : ℕ). HasFirst (found ++ one ∷ []) n after)
    (sym (ap (λ (bs : List Bool). outermost_of bs one.at first) (reversed had_else around)
    ∙ not_empty (reverse around) had_else one.at first))
    (first_stays found first one had_else around after is h)

walks_after : (found : List Conditional) (first : ℕ) (items after : List Bool) (one : Conditional)
    → (w : Walks found first items) → (next : List Bool) → IsNext (step w.around one.turn) next
    → after ≡ reverse next → Walks (found ++ one ∷ []) (outermost_of items one.at first) after
walks_after found first items after one w next is e = record {
  around = next;
  held = e;
  runs = λ more.
      ap (λ (ts : List Turn). ran (Some []) ts) (turns_more found one more) ∙ w.runs (one.turn ∷ more)
      ∙ runs_on _ next more is;
  nests = λ more rest h.
      subst (λ (ts : List Turn). AreWhole ts rest) (sym (turns_more found one more))
      (w.nests (one.turn ∷ more) rest
      (whole_back w.around one.turn more rest (goes_on AreWhole _ next more rest is h)));
  outermost =
      subst (λ (bs : List Bool). HasFirst (found ++ one ∷ []) (outermost_of bs one.at first) next) (sym w.held)
      (first_after found first one w.around next is w.outermost w.nests);
}

pub walks_more : (found : List Conditional) (first : ℕ) (items after : List Bool) (one : Conditional)
    → Walks found first items → Takes items one.turn true after
    → Walks (found ++ one ∷ []) (outermost_of items one.at first) after
walks_more found first items after one w takes =
    let next = taken_next _ after (takes w.around w.held) in
    walks_after found first items after one w next.around next.is next.held

-- a directive that can't stand where it does
pub is_stray : (all found rest : List Conditional) (first : ℕ) (items after : List Bool) (one : Conditional)
    → all ≡ found ++ one ∷ rest → Walks found first items → Takes items one.turn false after → IsStray all one.at
is_stray all found rest first items after one joined w takes = record {
  before = found;
  one = one;
  after = rest;
  is = record { joined = joined; place = refl };
  more = ends w.around;
  can = w.nests (ends w.around) [] (ends_all AreWhole w.around none);
  stray = λ more whole.
      none-some _ (sym (runs_none _ more (not_taken _ after (takes w.around w.held)))
      ∙ sym (w.runs (one.turn ∷ more)) ∙ whole_runs whole []);
}

-- all of them, with nothing open
pub are_whole : (all : List Conditional) (first : ℕ) → Walks all first [] → Nest all
are_whole all first w = closed_whole all first w.around w.held w.nests

-- all of them, with something open
pub is_unclosed : (all : List Conditional) (first : ℕ) (items : List Bool) → Walks all first items → items ≢ []
    → IsUnclosed all first
is_unclosed all first items w some = open_unclosed all first items w.around w.held some w.outermost

-- a directive among all
module _ (all : List Conditional) (index : ℕ) (d : Conditional) (lt : index < length all) where
  pub parted : all ≡ take index all ++ get_or all index d ∷ drop (suc index) all
  parted =
      sym (take-append-drop index all)
      ∙ ap (λ (cs : List Conditional). take index all ++ cs) (drop-cons all index d lt)

  pub walks_further : (first : ℕ) (items after : List Bool) → Walks (take index all) first items
      → Takes items (get_or all index d).turn true after
      → Walks (take (index + 1) all) (outermost_of items (get_or all index d).at first) after
  walks_further first items after w takes =
      subst (λ (cs : List Conditional). Walks cs (outermost_of items (get_or all index d).at first) after)
      (sym (ap (λ (n : ℕ). take n all) (add-one index) ∙ take-suc all index d lt))
      (walks_more (take index all) first items after (get_or all index d) w takes)

  pub strays : (first : ℕ) (items after : List Bool) → Walks (take index all) first items
      → Takes items (get_or all index d).turn false after → IsStray all (get_or all index d).at
  strays first items after w takes =
      is_stray all (take index all) (drop (suc index) all) first items after (get_or all index d) parted w takes

pub all_taken : (all : List Conditional) (index first : ℕ) (items : List Bool) → length all ≤ index
    → Walks (take index all) first items → Walks all first items
all_taken all index first items le w =
    subst (λ (cs : List Conditional). Walks cs first items) (take_all index all le) w

pub none_of : (items : List Bool) → length items ≡ 0 → items ≡ []
none_of [] e = refl
none_of (one ∷ items) e = absurd (omega (arith, e))
