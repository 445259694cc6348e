-- Sequences of parts that are placed are placed.
use Rattle.std.proofs.Common.{◌≡◌, ◌⊎◌, inl, inr, ℕ, ◌+◌, ◌-◌, ◌≤◌, ◌++◌, ◌||◌, List, [], ◌∷◌, length, Bool, nat_le}
use Rattle.std.proofs.Common.{◌*◌, refl, sym, ap, ◌∙◌, subst, arith, Result, Ok, Err}
use Rattle.std.specs.Prelude.{Box, IfOk}
use Rattle.std.specs.List.{flat_map}
use Rattle.std.specs.declared.alloc.Global.{Global}
use Rattle.std.proofs.lemmas.List.{append_assoc, append-nil, length-append}
use Rattle.std.proofs.lemmas.Grind.{flat_map-append}
use Rattle.expressions.specs.declared.expr.Expr.{Expr}
use Rattle.assertions.specs.declared.sequence.Boolean.{Boolean}
use Rattle.assertions.specs.declared.sequence.Boolean.TheVariants.{One, Listed}
use Rattle.assertions.specs.Segments.{sat}
use Rattle.assertions.specs.declared.sequence.Sequence.{Sequence}
use Rattle.assertions.specs.Shapes.{value_in, written_form}
use Rattle.assertions.specs.Written.{Written, boolean, delay, lead, repeat, or, and, intersect, throughout, kernel}
use Rattle.assertions.specs.Written.{after}
use Rattle.assertions.specs.Written.{later}
use Rattle.assertions.specs.Listed.{EachBoolean, IsUsed, IsListed}
use Rattle.types.specs.Drafts.{IsNumberIn}
use Rattle.types.specs.Placed.{atom_true, MatchesByPlaces, IsPlacedBoolean, ExtendsPlaces, AddsPlaces}
use Rattle.types.specs.Placed.{AllListed}
use Rattle.types.specs.Placed.{ArePlaced}
use Rattle.types.specs.Leaves.{leaves, place_listed, sequence_places, is_one, form_of}
use Rattle.types.proofs.InLaws.{in_last}
use Rattle.types.proofs.UsedLaws.{each_listed}
use Rattle.types.proofs.AlikeLaws.{alike_one, alike_one_of, alike_after, alike_later, alike_times}
use Rattle.types.proofs.AlikeLaws.{alike_either, alike_both, alike_meet, alike_during}

pub placed_more : (e : List Expr) (before after more : List ℕ) (x : ExtendsPlaces before after) (w u : Written Boolean)
    → MatchesByPlaces e (before ++ (x.added ++ more)) w u → MatchesByPlaces e (after ++ more) w u
placed_more e before after more x w u h =
    subst (λ (ps : List ℕ). MatchesByPlaces e ps w u) (sym (append_assoc before x.added more)
    ∙ sym (ap (λ (ps : List ℕ). ps ++ more) x.is)) h

pub placed_boolean_more : (e : List Expr) (before after more : List ℕ) (x : ExtendsPlaces before after) (a b : Boolean)
    → IsPlacedBoolean e (before ++ (x.added ++ more)) a b → IsPlacedBoolean e (after ++ more) a b
placed_boolean_more e before after more x a b h =
    subst (λ (ps : List ℕ). IsPlacedBoolean e ps a b) (sym (append_assoc before x.added more)
    ∙ sym (ap (λ (ps : List ℕ). ps ++ more) x.is)) h

module _ (e : List Expr) (ps : List ℕ) where
  pub placed_one : (a b : Boolean) → IsPlacedBoolean e ps a b → MatchesByPlaces e ps (boolean a) (boolean b)
  placed_one a b h t n =
      alike_one (sat (atom_true e t) n) (sat (value_in e ps t) n) a b
      (λ k. ap (λ (x : Bool). nat_le n k || x) (h t k))

  pub placed_delay : (w v u x : Written Boolean) (least most : ℕ) → MatchesByPlaces e ps w u → MatchesByPlaces e ps v x
      → MatchesByPlaces e ps (delay w least most v) (delay u least most x)
  placed_delay w v u x least most f s t n =
      alike_one_of (sat (atom_true e t) n) (sat (value_in e ps t) n) least (most - least)
      (after One (kernel One w) (kernel One v)) (after One (kernel One u) (kernel One x))
      (alike_after (sat (atom_true e t) n) (sat (value_in e ps t) n) One One (kernel One w) (kernel One v)
      (kernel One u) (kernel One x) (λ k. refl) (f t n) (s t n))

  pub placed_lead : (v x : Written Boolean) (least most : ℕ) → MatchesByPlaces e ps v x
      → MatchesByPlaces e ps (lead least most v) (lead least most x)
  placed_lead v x least most s t n =
      alike_one_of (sat (atom_true e t) n) (sat (value_in e ps t) n) least (most - least) (later One (kernel One v))
      (later One (kernel One x))
      (alike_later (sat (atom_true e t) n) (sat (value_in e ps t) n) One One (kernel One v) (kernel One x) (λ k. refl)
      (s t n))

  pub placed_repeat : (v x : Written Boolean) (least most : ℕ) → MatchesByPlaces e ps v x
      → MatchesByPlaces e ps (repeat v least most) (repeat x least most)
  placed_repeat v x least most s t n =
      alike_times (sat (atom_true e t) n) (sat (value_in e ps t) n) (kernel One v) (kernel One x) least most (s t n)

  pub placed_or : (w v u x : Written Boolean) → MatchesByPlaces e ps w u → MatchesByPlaces e ps v x
      → MatchesByPlaces e ps (or w v) (or u x)
  placed_or w v u x f s t n =
      alike_either (sat (atom_true e t) n) (sat (value_in e ps t) n) (kernel One w) (kernel One v) (kernel One u)
      (kernel One x) (f t n) (s t n)

  pub placed_and : (w v u x : Written Boolean) → MatchesByPlaces e ps w u → MatchesByPlaces e ps v x
      → MatchesByPlaces e ps (and w v) (and u x)
  placed_and w v u x f s t n =
      alike_both (sat (atom_true e t) n) (sat (value_in e ps t) n) (kernel One w) (kernel One v) (kernel One u)
      (kernel One x) (f t n) (s t n)

  pub placed_intersect : (w v u x : Written Boolean) → MatchesByPlaces e ps w u → MatchesByPlaces e ps v x
      → MatchesByPlaces e ps (intersect w v) (intersect u x)
  placed_intersect w v u x f s t n =
      alike_meet (sat (atom_true e t) n) (sat (value_in e ps t) n) (kernel One w) (kernel One v) (kernel One u)
      (kernel One x) (f t n) (s t n)

  pub placed_throughout : (a b : Boolean) (v x : Written Boolean) → IsPlacedBoolean e ps a b → MatchesByPlaces e ps v x
      → MatchesByPlaces e ps (throughout a v) (throughout b x)
  placed_throughout a b v x h s t n =
      alike_during (sat (atom_true e t) n) (sat (value_in e ps t) n) a b (kernel One v) (kernel One x)
      (λ k. ap (λ (y : Bool). nat_le n k || y) (h t k)) (s t n)

-- more places
pub longer : (before after : List ℕ) → ExtendsPlaces before after → length before ≤ length after
longer before after x =
    let long : length after ≡ length before + length x.added =
    ap length x.is ∙ length-append before x.added in
    omega (arith, long)

pub listed_on : (before after : List ℕ) (w : Written Boolean) → ExtendsPlaces before after →
    EachBoolean (IsListed (length before)) w → EachBoolean (IsListed (length after)) w
listed_on before after w x h = each_listed (length before) (length after) w (longer before after x) h

-- the places of a boolean alone, and of two parts
pub of_pushed : (before after : List ℕ) (place : ℕ) (b : Boolean) → b ≡ Listed place →
    after ≡ before ++ place ∷ [] → AddsPlaces (boolean b) before after
of_pushed before after place b is pushed p h =
    elim (in_last p place before (subst (λ (ps : List ℕ). IsNumberIn p ps) pushed h))
    [ inl x ↦ inl x | inr e ↦ inr (ap Listed e ∙ sym is) ]

pub of_two : (before between after : List ℕ) (v w : Written Boolean) → AddsPlaces v before between →
    AddsPlaces w between after → (p : ℕ) → IsNumberIn p after →
    IsNumberIn p before ⊎ (IsUsed (Listed p) v ⊎ IsUsed (Listed p) w)
of_two before between after v w f g p h =
    elim (g p h) [
      | inl there ↦ elim (f p there) [ inl i ↦ inl i | inr u ↦ inr (inl u) ]
      | inr u ↦ inr (inr u)
    ]

-- the list after a boolean, and after two parts
pub list_pushed : (before after : List ℕ) (place : ℕ) (b : Boolean) → b ≡ Listed place →
    after ≡ before ++ place ∷ [] → after ≡ before ++ sequence_places (boolean b)
list_pushed before after place b is pushed = pushed
    ∙ ap (λ (c : Boolean). before ++ sequence_places (boolean c)) (sym is)

pub list_same : (before : List ℕ) (b : Boolean) → b ≡ One → before ≡ before ++ sequence_places (boolean b)
list_same before b is =
    sym (append-nil before) ∙ ap (λ (c : Boolean). before ++ sequence_places (boolean c)) (sym is)

list_two : (before between after : List ℕ) (xs ys : List Boolean) → between ≡ before ++ flat_map place_listed xs →
    after ≡ between ++ flat_map place_listed ys → after ≡ before ++ flat_map place_listed (xs ++ ys)
list_two before between after xs ys f g =
    g ∙ ap (λ (ps : List ℕ). ps ++ flat_map place_listed ys) f
    ∙ append_assoc before (flat_map place_listed xs) (flat_map place_listed ys)
    ∙ ap (λ (ps : List ℕ). before ++ ps) (sym (flat_map-append place_listed xs ys))

-- what is placed of a sequence, from its parts
extends_two : (before between after : List ℕ) → ExtendsPlaces before between → ExtendsPlaces between after
    → ExtendsPlaces before after
extends_two before between after x y =
    record {
      added = x.added ++ y.added;
      is = y.is ∙ ap (λ (ps : List ℕ). ps ++ y.added) x.is ∙ append_assoc before x.added y.added;
    }

module _ (before after : List ℕ) where
  pub are_lead : (w b : Written Boolean) (least most : ℕ) → ArePlaced before after w b
      → ArePlaced before after (lead least most w) (lead least most b)
  are_lead w b least most y =
      record {
        grows = y.grows;
        placed = λ e more. placed_lead e (after ++ more) w b least most (y.placed e more);
        weighs = omega (arith, y.weighs);
        ordered = λ o. (o.0, y.ordered o.1);
        listed = y.listed;
        own = y.own;
        list = y.list;
        form = ap (λ (z : Written Bool). lead least most z) y.form;
      }

  pub are_repeat : (w b : Written Boolean) (least most : ℕ) → ArePlaced before after w b
      → ArePlaced before after (repeat w least most) (repeat b least most)
  are_repeat w b least most y =
      record {
        grows = y.grows;
        placed = λ e more. placed_repeat e (after ++ more) w b least most (y.placed e more);
        weighs = ap (λ (n : ℕ). most * n) y.weighs;
        ordered = λ o. (o.0, y.ordered o.1);
        listed = y.listed;
        own = y.own;
        list = y.list;
        form = ap (λ (z : Written Bool). repeat z least most) y.form;
      }

module _ (before between after : List ℕ) (v w a b : Written Boolean) (x : ArePlaced before between v a)
    (y : ArePlaced between after w b) where
  first_placed : (e : List Expr) (more : List ℕ) → MatchesByPlaces e (after ++ more) v a
  first_placed e more = placed_more e between after more y.grows v a (x.placed e (y.grows.added ++ more))

  both_listed : AllListed after a × AllListed after b
  both_listed = (listed_on between after a y.grows x.listed, y.listed)

  pub are_delay : (least most : ℕ) → ArePlaced before after (delay v least most w) (delay a least most b)
  are_delay least most =
      record {
        grows = extends_two before between after x.grows y.grows;
        placed = λ e more. placed_delay e (after ++ more) v w a b least most (first_placed e more) (y.placed e more);
        weighs = omega (arith, x.weighs, y.weighs);
        ordered = λ o. (o.0, x.ordered o.1, y.ordered o.2);
        listed = both_listed;
        own = of_two before between after v w x.own y.own;
        list = list_two before between after (leaves v) (leaves w) x.list y.list;
        form =
            ap (λ (z : Written Bool). delay z least most (form_of b)) x.form
            ∙ ap (λ (z : Written Bool). delay (form_of v) least most z) y.form;
      }

  pub are_or : ArePlaced before after (or v w) (or a b)
  are_or =
      record {
        grows = extends_two before between after x.grows y.grows;
        placed = λ e more. placed_or e (after ++ more) v w a b (first_placed e more) (y.placed e more);
        weighs = omega (arith, x.weighs, y.weighs);
        ordered = λ o. (x.ordered o.0, y.ordered o.1);
        listed = both_listed;
        own = of_two before between after v w x.own y.own;
        list = list_two before between after (leaves v) (leaves w) x.list y.list;
        form =
            ap (λ (z : Written Bool). or z (form_of b)) x.form
            ∙ ap (λ (z : Written Bool). or (form_of v) z) y.form;
      }

  pub are_and : ArePlaced before after (and v w) (and a b)
  are_and =
      record {
        grows = extends_two before between after x.grows y.grows;
        placed = λ e more. placed_and e (after ++ more) v w a b (first_placed e more) (y.placed e more);
        weighs = cc (x.weighs, y.weighs);
        ordered = λ o. (x.ordered o.0, y.ordered o.1);
        listed = both_listed;
        own = of_two before between after v w x.own y.own;
        list = list_two before between after (leaves v) (leaves w) x.list y.list;
        form =
            ap (λ (z : Written Bool). and z (form_of b)) x.form
            ∙ ap (λ (z : Written Bool). and (form_of v) z) y.form;
      }

  pub are_intersect : ArePlaced before after (intersect v w) (intersect a b)
  are_intersect =
      record {
        grows = extends_two before between after x.grows y.grows;
        placed = λ e more. placed_intersect e (after ++ more) v w a b (first_placed e more) (y.placed e more);
        weighs = cc (x.weighs, y.weighs);
        ordered = λ o. (x.ordered o.0, y.ordered o.1);
        listed = both_listed;
        own = of_two before between after v w x.own y.own;
        list = list_two before between after (leaves v) (leaves w) x.list y.list;
        form =
            ap (λ (z : Written Bool). intersect z (form_of b)) x.form
            ∙ ap (λ (z : Written Bool). intersect (form_of v) z) y.form;
      }

pub are_boolean : (before after : List ℕ) (a b : Boolean) → ExtendsPlaces before after
    → ((e : List Expr) (more : List ℕ) → IsPlacedBoolean e (after ++ more) a b) → IsListed (length after) b
    → AddsPlaces (boolean a) before after → after ≡ before ++ sequence_places (boolean a) → is_one b ≡ is_one a
    → ArePlaced before after (boolean a) (boolean b)
are_boolean before after a b grows placed listed own list form =
    record {
      grows = grows;
      placed = λ e more. placed_one e (after ++ more) a b (placed e more);
      weighs = refl;
      ordered = λ o. tt;
      listed = listed;
      own = own;
      list = list;
      form = ap (λ (z : Bool). boolean z) form;
    }

pub are_throughout : (before between after : List ℕ) (a b : Boolean) (w u : Written Boolean)
    → ExtendsPlaces before between
    → ((e : List Expr) (more : List ℕ) → IsPlacedBoolean e (between ++ more) a b) → IsListed (length between) b
    → AddsPlaces (boolean a) before between → between ≡ before ++ sequence_places (boolean a) → is_one b ≡ is_one a
    → ArePlaced between after w u → ArePlaced before after (throughout a w) (throughout b u)
are_throughout before between after a b w u grows placed listed own list form y =
    record {
      grows = extends_two before between after grows y.grows;
      placed =
          λ e more. placed_throughout e (after ++ more) a b w u
          (placed_boolean_more e between after more y.grows a b (placed e (y.grows.added ++ more))) (y.placed e more);
      weighs = y.weighs;
      ordered = y.ordered;
      listed = (listed_on between after (boolean b) y.grows listed, y.listed);
      own = of_two before between after (boolean a) w own y.own;
      list = list_two before between after (a ∷ []) (leaves w) list y.list;
      form =
          ap (λ (z : Bool). throughout z (form_of u)) form
          ∙ ap (λ (z : Written Bool). throughout (is_one a) z) y.form;
    }

-- what is made of a sequence in a box
pub in_box : {E : Type 0} (r : Result (Box Sequence Global) E) (x : Sequence) (P : Written Boolean → Type 0)
    → P (written_form x) → IfOk r (λ b. b.value ≡ x) → IfOk r (λ b. P (written_form b.value))
in_box (Ok b) x P h is = rw is h
in_box (Err e) x P h is = is
