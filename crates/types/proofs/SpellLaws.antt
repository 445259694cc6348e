-- What is written with names written out: deeper nesting allows no less.
use Rattle.std.proofs.Common.{◌≡◌, ℕ, zero, suc, ◌+◌, ◌-◌, ◌≤◌, max, List, Option, Some, None, slice_get, refl, ap}
use Rattle.std.proofs.Common.{arith, subst}
use Rattle.std.specs.Prelude.{option_map, option_and_then}
use Rattle.assertions.specs.Written.{Written}
use Rattle.assertions.specs.Written as written
use Rattle.assertions.specs.declared.sequence.Boolean.{Boolean}
use Rattle.types.specs.Drafts.{Draft, boolean, name, delay, lead, repeat, or, and, intersect, throughout}
use Rattle.types.specs.Drafts.{both_there}
use Rattle.types.specs.Drafts.{spelling_of, named_within, IsWrittenOut}
use Rattle.types.specs.declared.entry.Entry.{Entry}
use Rattle.types.specs.Entries.{IsTheEntryOf, HasEntry, IsEntryOf}

-- what the first finds, the second finds
abbrev pub Grows : {A : Type 0} → Option A → Option A → Type 0
Grows None b = Unit {0}
Grows (Some x) b = b ≡ Some x

map_grows : {A C : Type 0} (f : A → C) (a b : Option A) → Grows a b → Grows (option_map f a) (option_map f b)
map_grows f None b g = tt
map_grows f (Some x) b g = ap (option_map f) g

both_grow : {A C : Type 0} (f : A → A → C) (a b c d : Option A) → Grows a b → Grows c d
    → Grows (both_there f a c) (both_there f b d)
both_grow f None b c d g h = tt
both_grow f (Some x) b None d g h = tt
both_grow f (Some x) b (Some y) d g h = rw (g, h) refl

bind_grows : {A C : Type 0} (f g : A → Option C) (a : Option A) → ((x : A) → Grows (f x) (g x))
    → Grows (option_and_then f a) (option_and_then g a)
bind_grows f g None h = tt
bind_grows f g (Some x) h = h x

pub spelled_grows : {B : Type 0} (f g : ℕ → Option (Written B)) (d : Draft B) → ((p : ℕ) → Grows (f p) (g p))
    → Grows (spelling_of f d) (spelling_of g d)
spelled_grows f g (boolean b) h = refl
spelled_grows f g (name p) h = h p
spelled_grows f g (delay r least extra s) h =
    both_grow (λ v w. written.delay v least (least + extra) w) (spelling_of f r) (spelling_of g r) (spelling_of f s)
    (spelling_of g s) (spelled_grows f g r h) (spelled_grows f g s h)
spelled_grows f g (lead least extra s) h =
    map_grows (written.lead least (least + extra)) (spelling_of f s) (spelling_of g s) (spelled_grows f g s h)
spelled_grows f g (repeat r least extra) h =
    map_grows (λ v. written.repeat v least (least + extra)) (spelling_of f r) (spelling_of g r)
    (spelled_grows f g r h)
spelled_grows f g (or r s) h =
    both_grow written.or (spelling_of f r) (spelling_of g r) (spelling_of f s) (spelling_of g s)
    (spelled_grows f g r h) (spelled_grows f g s h)
spelled_grows f g (and r s) h =
    both_grow written.and (spelling_of f r) (spelling_of g r) (spelling_of f s) (spelling_of g s)
    (spelled_grows f g r h) (spelled_grows f g s h)
spelled_grows f g (intersect r s) h =
    both_grow written.intersect (spelling_of f r) (spelling_of g r) (spelling_of f s) (spelling_of g s)
    (spelled_grows f g r h) (spelled_grows f g s h)
spelled_grows f g (throughout b r) h =
    map_grows (written.throughout b) (spelling_of f r) (spelling_of g r) (spelled_grows f g r h)

pub named_grows : {B : Type 0} (bodies : List (Draft B)) (n more p : ℕ)
    → Grows (named_within bodies n p) (named_within bodies (more + n) p)
named_grows bodies zero more p = tt
named_grows {B} bodies (suc n) more p =
    subst (λ (k : ℕ). Grows (named_within bodies (suc n) p) (named_within bodies k p))
    (let e : suc (more + n) ≡ more + suc n = omega arith in e)
    (bind_grows (spelling_of (named_within bodies n)) (spelling_of (named_within bodies (more + n)))
    (slice_get bodies p)
    (λ d. spelled_grows (named_within bodies n) (named_within bodies (more + n)) d (λ q. named_grows bodies n more q)))

found_by : {A : Type 0} (a b : Option A) (x : A) → Grows a b → a ≡ Some x → b ≡ Some x
found_by a b x g e = (subst (λ (o : Option _). Grows o b) e g)

pub spelled_deeper : {B : Type 0} (bodies : List (Draft B)) (d : Draft B) (w : Written B) (n m : ℕ) → n ≤ m
    → spelling_of (named_within bodies n) d ≡ Some w → spelling_of (named_within bodies m) d ≡ Some w
spelled_deeper bodies d w n m le e =
    subst (λ (k : ℕ). spelling_of (named_within bodies k) d ≡ Some w) (let h : (m - n) + n ≡ m = omega (arith, le) in h)
    (found_by (spelling_of (named_within bodies n) d) (spelling_of (named_within bodies ((m - n) + n)) d) w
    (spelled_grows (named_within bodies n) (named_within bodies ((m - n) + n)) d (named_grows bodies n (m - n))) e)

-- what two parts spell, at one depth
pub record SpellBoth {B : Type 0} (bodies : List (Draft B)) (r s : Draft B) (v w : Written B) : Type 0 where
  pub depth : ℕ
  pub first : spelling_of (named_within bodies depth) r ≡ Some v
  pub second : spelling_of (named_within bodies depth) s ≡ Some w

pub spell_both : {B : Type 0} (bodies : List (Draft B)) (r s : Draft B) (v w : Written B) → IsWrittenOut bodies r v
    → IsWrittenOut bodies s w → SpellBoth bodies r s v w
spell_both bodies r s v w a b =
    record {
      depth = max a.0 b.0;
      first = spelled_deeper bodies r v a.0 (max a.0 b.0) (omega arith) a.1;
      second = spelled_deeper bodies s w b.0 (max a.0 b.0) (omega arith) b.1;
    }

pub has_boolean : (bodies : List (Draft Boolean)) (b : Boolean) (e : Entry) → IsTheEntryOf (written.boolean b) e
    → HasEntry bodies (boolean b) e
has_boolean bodies b e i = record { meant = written.boolean b; spells = (0, refl); entry = i }

pub has_name : (bodies : List (Draft Boolean)) (p : ℕ) (a e : Entry) → IsEntryOf bodies p a
    → ((w : Written Boolean) → IsTheEntryOf w a → IsTheEntryOf w e) → HasEntry bodies (name p) e
has_name bodies p a e i f = record { meant = i.meant; spells = (i.depth, i.named); entry = f i.meant i.entry }

pub has_delay : (bodies : List (Draft Boolean)) (r s : Draft Boolean) (least extra : ℕ) (a b e : Entry)
    → HasEntry bodies r a → HasEntry bodies s b →
    ((v w : Written Boolean) → IsTheEntryOf v a → IsTheEntryOf w b
    → IsTheEntryOf (written.delay v least (least + extra) w) e)
    → HasEntry bodies (delay r least extra s) e
has_delay bodies r s least extra a b e x y f =
    let both = spell_both bodies r s x.meant y.meant x.spells y.spells in
    record {
      meant = written.delay x.meant least (least + extra) y.meant;
      spells = (both.depth, rw (both.first, both.second) refl);
      entry = f x.meant y.meant x.entry y.entry;
    }

pub has_or : (bodies : List (Draft Boolean)) (r s : Draft Boolean) (a b e : Entry) → HasEntry bodies r a
    → HasEntry bodies s b →
    ((v w : Written Boolean) → IsTheEntryOf v a → IsTheEntryOf w b → IsTheEntryOf (written.or v w) e)
    → HasEntry bodies (or r s) e
has_or bodies r s a b e x y f =
    let both = spell_both bodies r s x.meant y.meant x.spells y.spells in
    record {
      meant = written.or x.meant y.meant;
      spells = (both.depth, rw (both.first, both.second) refl);
      entry = f x.meant y.meant x.entry y.entry;
    }

pub has_and : (bodies : List (Draft Boolean)) (r s : Draft Boolean) (a b e : Entry) → HasEntry bodies r a
    → HasEntry bodies s b →
    ((v w : Written Boolean) → IsTheEntryOf v a → IsTheEntryOf w b → IsTheEntryOf (written.and v w) e)
    → HasEntry bodies (and r s) e
has_and bodies r s a b e x y f =
    let both = spell_both bodies r s x.meant y.meant x.spells y.spells in
    record {
      meant = written.and x.meant y.meant;
      spells = (both.depth, rw (both.first, both.second) refl);
      entry = f x.meant y.meant x.entry y.entry;
    }

pub has_intersect : (bodies : List (Draft Boolean)) (r s : Draft Boolean) (a b e : Entry) → HasEntry bodies r a
    → HasEntry bodies s b →
    ((v w : Written Boolean) → IsTheEntryOf v a → IsTheEntryOf w b → IsTheEntryOf (written.intersect v w) e)
    → HasEntry bodies
    (intersect r s) e
has_intersect bodies r s a b e x y f =
    let both = spell_both bodies r s x.meant y.meant x.spells y.spells in
    record {
      meant = written.intersect x.meant y.meant;
      spells = (both.depth, rw (both.first, both.second) refl);
      entry = f x.meant y.meant x.entry y.entry;
    }

pub has_lead : (bodies : List (Draft Boolean)) (s : Draft Boolean) (least extra : ℕ) (b e : Entry) → HasEntry bodies s b
    →
    ((w : Written Boolean) → IsTheEntryOf w b → IsTheEntryOf (written.lead least (least + extra) w) e)
    → HasEntry bodies (lead least extra s) e
has_lead bodies s least extra b e y f =
    record {
      meant = written.lead least (least + extra) y.meant;
      spells = (y.spells.0, rw y.spells.1 refl);
      entry = f y.meant y.entry;
    }

pub has_repeat : (bodies : List (Draft Boolean)) (s : Draft Boolean) (least extra : ℕ) (b e : Entry)
    → HasEntry bodies s b →
    ((w : Written Boolean) → IsTheEntryOf w b → IsTheEntryOf (written.repeat w least (least + extra)) e)
    → HasEntry bodies (repeat s least extra) e
has_repeat bodies s least extra b e y f =
    record {
      meant = written.repeat y.meant least (least + extra);
      spells = (y.spells.0, rw y.spells.1 refl);
      entry = f y.meant y.entry;
    }

pub has_throughout : (bodies : List (Draft Boolean)) (c : Boolean) (s : Draft Boolean) (b e : Entry)
    → HasEntry bodies s b →
    ((w : Written Boolean) → IsTheEntryOf w b → IsTheEntryOf (written.throughout c w) e)
    → HasEntry bodies (throughout c s) e
has_throughout bodies c s b e y f =
    record
    { meant = written.throughout c y.meant; spells = (y.spells.0, rw y.spells.1 refl); entry = f y.meant y.entry }
