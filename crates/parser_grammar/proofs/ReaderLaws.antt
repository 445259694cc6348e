-- Reading, a step at a time.
use Rattle.std.proofs.Common.{◌≡◌, ◌⊎◌, ℕ, zero, suc, Bool, true, false, List, [], ◌∷◌, length, Option, Some, None}
use Rattle.std.proofs.Common.{option_map, refl, sym, subst, inl, inr}
use Rattle.lexer.specs.declared.token.Token.{Token}
use Rattle.parser_grammar.specs.declared.terminal.Terminal.{Terminal}
use Rattle.parser_grammar.specs.declared.terminal.Terminal.TheVariants as word
use Rattle.parser_grammar.specs.Terminals.{terminal, is}
use Rattle.parser_grammar.specs.Marks.{precedence, next_precedence}
use Rattle.parser_grammar.specs.Readers.{◌>>=◌, Reader, lead, expect, pick, optional_by, optional, many_by, many, each}
use Rattle.parser_grammar.proofs.TerminalLaws.{is-true, true-is, false-is}

pub tells : (b : Bool) → (b ≡ true) ⊎ (b ≡ false)
tells true = inl refl
tells false = inr refl

-- a step that was taken
pub bind-some : {A B : Type 0} (o : Option A) (f : A → Option B) (b : B) → (o >>= f) ≡ Some b → (a : A) × (o ≡ Some a)
    × (f a ≡ Some b)
bind-some None f b h = absurd cc
bind-some (Some a) f b h = (a, refl, h)

-- and how a proof goes on from it: what was read is a name there, so terms stay small
pub bind-then : {A B C : Type 0} (o : Option A) (f : A → Option B) (b : B) → (o >>= f) ≡ Some b
    → ((a : A) → o ≡ Some a → f a ≡ Some b → C) → C
bind-then None f b h go = absurd cc
bind-then (Some a) f b h go = go a refl h

pub bind-assoc : {A B C : Type 0} (o : Option A) (f : A → Option B) (g : B → Option C)
    → ((o >>= f) >>= g) ≡ (o >>= λ a. f a >>= g)
bind-assoc None f g = refl
bind-assoc (Some a) f g = refl

-- the first token
pub lead-true : (test : Token → Bool) (t : Token) (ts : List Token) → test t ≡ true → lead test (t ∷ ts) ≡ Some (t, ts)
unfolding lead
lead-true test t ts h = rw h refl

pub lead-false : (test : Token → Bool) (t : Token) (ts : List Token) → test t ≡ false → lead test (t ∷ ts) ≡ None
unfolding lead
lead-false test t ts h = rw h refl

pub lead-nil : (test : Token → Bool) → lead test [] ≡ None
unfolding lead
lead-nil test = refl

pub record Leads (test : Token → Bool) (ts : List Token) (p : Token × List Token) : Type 0 where
  pub parts : ts ≡ p.0 ∷ p.1
  pub passes : test p.0 ≡ true

pub lead-some : (test : Token → Bool) (ts : List Token) (p : Token × List Token) → lead test ts ≡ Some p
    → Leads test ts p
unfolding lead
lead-some test [] p h = absurd cc
lead-some test (t ∷ ts) p h =
    elim (tells (test t)) [
      | inl e ↦
          let k = rw e at h in
          let same : (t, ts) ≡ p = cc (k) in
          subst (λ (q : Token × List Token). Leads test (t ∷ ts) q) same (record { parts = refl; passes = e })
      | inr e ↦ let k = rw e at h in absurd cc
    ]

pub expect-is : (w : Terminal) (t : Token) (ts : List Token) → terminal t ≡ w → expect w (t ∷ ts) ≡ Some (t, ts)
unfolding expect
expect-is w t ts h = lead-true (is w) t ts (true-is w t h)

pub expect-not : (w : Terminal) (t : Token) (ts : List Token) → (terminal t ≡ w → ⊥) → expect w (t ∷ ts) ≡ None
unfolding expect
expect-not w t ts h = lead-false (is w) t ts (false-is w t h)

pub record Expects (w : Terminal) (ts : List Token) (p : Token × List Token) : Type 0 where
  pub parts : ts ≡ p.0 ∷ p.1
  pub marked : terminal p.0 ≡ w

pub expect-some : (w : Terminal) (ts : List Token) (p : Token × List Token) → expect w ts ≡ Some p → Expects w ts p
unfolding expect
expect-some w ts p h = let l = lead-some (is w) ts p h in record { parts = l.parts; marked = is-true w p.0 l.passes }

-- a terminal so loose does not stand where something else does
pub expect-precedence : (w : Terminal) (k : ℕ) → ((t : Token) → terminal t ≡ w → precedence t ≡ k) → (ts : List Token)
    → (next_precedence ts ≡ k → ⊥) → expect w ts ≡ None
unfolding expect
expect-precedence w k loose [] h = lead-nil (is w)
expect-precedence w k loose (t ∷ ts) h = lead-false (is w) t ts (false-is w t (λ e. h (loose t e)))

pub pick-is : {A : Type 0} (f : Token → Option A) (a : A) (t : Token) (ts : List Token) → f t ≡ Some a
    → pick f (t ∷ ts) ≡ Some (a, ts)
unfolding pick
pick-is f a t ts h = rw h refl

pub pick-nil : {A : Type 0} (f : Token → Option A) → pick f [] ≡ None
unfolding pick
pick-nil f = refl

pub pick-no : {A : Type 0} (f : Token → Option A) (t : Token) (ts : List Token) → f t ≡ None → pick f (t ∷ ts) ≡ None
unfolding pick
pick-no f t ts h = rw h refl

pub record Picks {A : Type 0} (f : Token → Option A) (ts : List Token) (p : A × List Token) : Type 0 where
  pub token : Token
  pub parts : ts ≡ token ∷ p.1
  pub picked : f token ≡ Some p.0

pick_by : {A : Type 0} (f : Token → Option A) (t : Token) (ts : List Token) (p : A × List Token) (o : Option A)
    → f t ≡ o → option_map (λ a. (a, ts)) o ≡ Some p → Picks f (t ∷ ts) p
pick_by f t ts p None e h = absurd cc
pick_by f t ts p (Some a) e h =
    let same : (a, ts) ≡ p = cc in subst (λ (q : _ × List Token). Picks f (t ∷ ts) q) same
    (record { token = t; parts = refl; picked = e })

pub pick-some : {A : Type 0} (f : Token → Option A) (ts : List Token) (p : A × List Token) → pick f ts ≡ Some p
    → Picks f ts p
unfolding pick
pick-some f [] p h = absurd cc
pick-some f (t ∷ ts) p h = pick_by f t ts p (f t) refl h

-- a part that may be there
pub optional-none : {A : Type 0} (w : Terminal) (r : Reader A) (ts : List Token) → expect w ts ≡ None
    → optional w r ts ≡ Some (None, ts)
unfolding optional
optional-none w r ts h = rw h refl

pub optional-is : {A : Type 0} (w : Terminal) (r : Reader A) (t : Token) (ts : List Token) (a : A) (us : List Token)
    → terminal t ≡ w → r ts ≡ Some (a, us) → optional w r (t ∷ ts) ≡ Some (Some a, us)
unfolding optional
optional-is w r t ts a us h k = rw (expect-is w t ts h, k) refl

pub data IsOptional {A : Type 0} (w : Terminal) (r : Reader A) (ts : List Token) : Option A → List Token → Type 0 where
  absent : IsOptional w r ts None ts
  present : {t : Token} {us : List Token} {a : A} {vs : List Token} → ts ≡ t ∷ us → terminal t ≡ w → r us ≡ Some (a, vs)
      → IsOptional w r ts (Some a) vs

pub optional-sound : {A : Type 0} (w : Terminal) (r : Reader A) (ts : List Token) (q : Option A × List Token)
    → optional w r ts ≡ Some q → IsOptional w r ts q.0 q.1
unfolding optional
optional-sound w r ts q h = by_lead (expect w ts) refl h
  where
    by_lead : (o : Option (Token × List Token)) → expect w ts ≡ o → optional_by r o ts ≡ Some q
        → IsOptional w r ts q.0 q.1
    by_lead None e k =
        let same : (None, ts) ≡ q = cc (k) in subst (λ (x : Option _ × List Token). IsOptional w r ts x.0 x.1) same
        absent
    by_lead (Some p) e k =
        let a = bind-some (r p.1) (λ (x : _ × List Token). Some (Some x.0, x.1)) q k in
        let same : (Some a.0.0, a.0.1) ≡ q = cc (a.2) in
        let x = expect-some w ts p e in
        subst (λ (x : Option _ × List Token). IsOptional w r ts x.0 x.1) same (present x.parts x.marked a.1)

-- many parts
module _ {A : Type 0} (test : Token → Bool) (r : Token → Reader A) where
  pub many-none : (n : ℕ) (ts : List Token) → lead test ts ≡ None → many test r n ts ≡ Some ([], ts)
  unfolding many
  many-none zero ts h = refl
  many-none (suc n) ts h = rw h refl

  pub each-none : (ts : List Token) → lead test ts ≡ None → each test r ts ≡ Some ([], ts)
  unfolding each
  each-none ts h = many-none (length ts) ts h

  pub many-more : (n : ℕ) (t : Token) (ts : List Token) (a : A) (us : List Token) (more : List A) (rest : List Token)
      → test t ≡ true → r t ts ≡ Some (a, us) → many test r n us ≡ Some (more, rest)
      → many test r (suc n) (t ∷ ts) ≡ Some (a ∷ more, rest)
  unfolding many
  many-more n t ts a us more rest h k l = rw (lead-true test t ts h, k, l) refl

  module _ (L : List A → List Token → List Token → Type 0) (nil : (ts : List Token) → L [] ts ts)
      (more : (t : Token) (a : A) (xs : List A) (us vs rest : List Token) → test t ≡ true → r t us ≡ Some (a, vs)
      → L xs vs rest → L (a ∷ xs) (t ∷ us) rest) where
    many_by-sound : (n : ℕ) → ((us : List Token) (q : List A × List Token) → many test r n us ≡ Some q → L q.0 us q.1)
        → (ts : List Token) (p : List A × List Token) (o : Option (Token × List Token)) → lead test ts ≡ o
        → many_by r (many test r n) o ts ≡ Some p → L p.0 ts p.1
    many_by-sound n go ts p None e h =
        let same : ([], ts) ≡ p = cc (h) in subst (λ (x : List A × List Token). L x.0 ts x.1) same (nil ts)
    many_by-sound n go ts p (Some l) e h =
        let a = bind-some (r l.0 l.1) (λ (q : A × List Token). many test r n q.1 >>= λ s. Some (q.0 ∷ s.0, s.1)) p h in
        let b = bind-some (many test r n a.0.1) (λ (s : List A × List Token). Some (a.0.0 ∷ s.0, s.1)) p a.2 in
        let same : (a.0.0 ∷ b.0.0, b.0.1) ≡ p = cc (b.2) in
        let x = lead-some test ts l e in
        subst (λ (x : List A × List Token). L x.0 ts x.1) same
        (subst (λ (us : List Token). L (a.0.0 ∷ b.0.0) us b.0.1) (sym x.parts)
        (more l.0 a.0.0 b.0.0 l.1 a.0.1 b.0.1 x.passes a.1 (go a.0.1 b.0 b.1)))

    many-sound : (n : ℕ) (ts : List Token) (p : List A × List Token) → many test r n ts ≡ Some p → L p.0 ts p.1
    unfolding many
    many-sound zero ts p h =
        let same : ([], ts) ≡ p = cc (h) in subst (λ (x : List A × List Token). L x.0 ts x.1) same (nil ts)
    many-sound (suc n) ts p h = many_by-sound n (many-sound n) ts p (lead test ts) refl h

    pub each-sound : (ts : List Token) (p : List A × List Token) → each test r ts ≡ Some p → L p.0 ts p.1
    unfolding each
    each-sound ts p h = many-sound (length ts) ts p h

-- what a reader reads is so
abbrev pub Reads : {A : Type 0} → Reader A → (A → List Token → List Token → Type 0) → Type 0
Reads {A} reader P = (ts : List Token) (p : A × List Token) → reader ts ≡ Some p → P p.0 ts p.1

-- how loose the terminals are
pub precedence-Dot : (t : Token) → terminal t ≡ word.Dot → precedence t ≡ 0
unfolding precedence
precedence-Dot t h = rw h refl

pub precedence-OpenSquare : (t : Token) → terminal t ≡ word.OpenSquare → precedence t ≡ 0
unfolding precedence
precedence-OpenSquare t h = rw h refl

pub precedence-Throughout : (t : Token) → terminal t ≡ word.Throughout → precedence t ≡ 11
unfolding precedence
precedence-Throughout t h = rw h refl

pub precedence-OpenRepeat : (t : Token) → terminal t ≡ word.OpenRepeat → precedence t ≡ 12
unfolding precedence
precedence-OpenRepeat t h = rw h refl

pub precedence-Delay : (t : Token) → terminal t ≡ word.Delay → precedence t ≡ 13
unfolding precedence
precedence-Delay t h = rw h refl

pub precedence-Intersect : (t : Token) → terminal t ≡ word.Intersect → precedence t ≡ 14
unfolding precedence
precedence-Intersect t h = rw h refl

pub precedence-And : (t : Token) → terminal t ≡ word.And → precedence t ≡ 15
unfolding precedence
precedence-And t h = rw h refl

pub precedence-Or : (t : Token) → terminal t ≡ word.Or → precedence t ≡ 16
unfolding precedence
precedence-Or t h = rw h refl

pub precedence-Comma : (t : Token) → terminal t ≡ word.Comma → precedence t ≡ 100
unfolding precedence
precedence-Comma t h = rw h refl

pub precedence-Colon : (t : Token) → terminal t ≡ word.Colon → precedence t ≡ 100
unfolding precedence
precedence-Colon t h = rw h refl

pub precedence-Semicolon : (t : Token) → terminal t ≡ word.Semicolon → precedence t ≡ 100
unfolding precedence
precedence-Semicolon t h = rw h refl

pub precedence-CloseRound : (t : Token) → terminal t ≡ word.CloseRound → precedence t ≡ 100
unfolding precedence
precedence-CloseRound t h = rw h refl

pub precedence-CloseBrace : (t : Token) → terminal t ≡ word.CloseBrace → precedence t ≡ 100
unfolding precedence
precedence-CloseBrace t h = rw h refl

pub precedence-EndSequence : (t : Token) → terminal t ≡ word.EndSequence → precedence t ≡ 100
unfolding precedence
precedence-EndSequence t h = rw h refl
