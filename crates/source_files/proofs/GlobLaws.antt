-- What a pattern means, part by part between its stars.
use Rattle.std.proofs.Common.{◌≡◌, ◌∷◌, [], ◌+◌, ◌<◌, ℕ, zero, suc, List, Bool, true, false, ◌&&◌, ◌||◌, length, drop}
use Rattle.std.proofs.Common.{Option, Some, None, refl, sym, ap, ◌∙◌, arith}
use Rattle.std.specs.Prelude.{◌==◌, if◌then◌else◌}
use Rattle.source_files.specs.Globs.{means, some_end, begins, is_empty, front_part, after_star, fits, after}
use Rattle.source_files.specs.Globs.{or_else, first_after}

-- whether what is left, if anything is, passes
abbrev pub passes_some : Option (List ℕ) → (List ℕ → Bool) → Bool
passes_some None g = false
passes_some (Some ts) g = g ts

-- what a pattern means, by what stands after its first star
abbrev pub split : Option (List ℕ) → List ℕ → List ℕ → Bool
split None q t = fits q is_empty t
split (Some ps) q t = fits q (some_end (means ps)) t

split-none : (o : Option (List ℕ)) (p : ℕ) (q : List ℕ) → split o (p ∷ q) [] ≡ false
split-none None p q = refl
split-none (Some ps) p q = refl

split-more : (o : Option (List ℕ)) (p : ℕ) (q : List ℕ) (c : ℕ) (cs : List ℕ)
    → split o (p ∷ q) (c ∷ cs) ≡ (((p == 63) || (p == c)) && split o q cs)
split-more None p q c cs = refl
split-more (Some ps) p q c cs = refl

pub means-split : (p t : List ℕ) → means p t ≡ split (after_star p) (front_part p) t
means-split [] t = refl
means-split (p ∷ ps) t = by (p == 42) t (means-split ps)
  where
    by : (b : Bool) (t : List ℕ) → ((s : List ℕ) → means ps s ≡ split (after_star ps) (front_part ps) s)
        → (if b then some_end (means ps) else begins p (means ps)) t
        ≡ split (if b then Some ps else after_star ps) (if b then [] else p ∷ front_part ps) t
    by true t rest = refl
    by false [] rest = sym (split-none (after_star ps) p (front_part ps))
    by false (c ∷ cs) rest =
        ap (λ (b : Bool). ((p == 63) || (p == c)) && b) (rest cs)
        ∙ sym (split-more (after_star ps) p (front_part ps) c cs)

-- bytes without a star, by what is left behind them
pub fits-after : (q : List ℕ) (g : List ℕ → Bool) (t : List ℕ) → fits q g t ≡ passes_some (after q t) g
fits-after [] g t = refl
fits-after (q ∷ qs) g [] = refl
fits-after (q ∷ qs) g (c ∷ cs) = by ((q == 63) || (q == c)) (fits-after qs g cs)
  where
    by : (b : Bool) → fits qs g cs ≡ passes_some (after qs cs) g
        → (b && fits qs g cs) ≡ passes_some (if b then after qs cs else None) g
    by true rest = rest
    by false rest = refl

-- the same ends pass
pub same-ends : (f g : List ℕ → Bool) (t : List ℕ) → ((s : List ℕ) → f s ≡ g s) → some_end f t ≡ some_end g t
same-ends f g [] same = same []
same-ends f g (c ∷ cs) same =
    ap (λ (b : Bool). b || some_end f cs) (same (c ∷ cs))
    ∙ ap (λ (b : Bool). g (c ∷ cs) || b) (same-ends f g cs same)

-- an end of an end is one
or-true : (a b : Bool) → b ≡ true → (a || b) ≡ true
or-true true b e = refl
or-true false b e = e

some-behind : (g : List ℕ → Bool) (n : ℕ) (t : List ℕ) → some_end g (drop n t) ≡ true → some_end g t ≡ true
some-behind g zero t e = e
some-behind g (suc n) [] e = e
some-behind g (suc n) (c ∷ cs) e = or-true (g (c ∷ cs)) (some_end g cs) (some-behind g n cs e)

-- what passes behind bytes that fit
no-truth : false ≡ true → ⊥
no-truth e = absurd (cc e)

fits-behind : (q : List ℕ) (g : List ℕ → Bool) (t : List ℕ) → fits q g t ≡ true → g (drop (length q) t) ≡ true
fits-behind [] g t e = e
fits-behind (q ∷ qs) g [] e = absurd (no-truth e)
fits-behind (q ∷ qs) g (c ∷ cs) e = by ((q == 63) || (q == c)) (fits-behind qs g cs) e
  where
    by : (b : Bool) → (fits qs g cs ≡ true → g (drop (length qs) cs) ≡ true) → (b && fits qs g cs) ≡ true
        → g (drop (length qs) cs) ≡ true
    by true rest e = rest e
    by false rest e = absurd (no-truth e)

-- an end that passes begins somewhere
some-at : (f : List ℕ → Bool) (t : List ℕ) → some_end f t ≡ true → (k : ℕ) × (f (drop k t) ≡ true)
some-at f [] e = (0, e)
some-at f (c ∷ cs) e = by (f (c ∷ cs)) refl (some-at f cs) e
  where
    by : (b : Bool) → f (c ∷ cs) ≡ b → (some_end f cs ≡ true → (k : ℕ) × (f (drop k cs) ≡ true))
        → (b || some_end f cs) ≡ true → (k : ℕ) × (f (drop k (c ∷ cs)) ≡ true)
    by true is rest e = (0, is)
    by false is rest e = (suc (rest e).0, (rest e).1)

-- what is left behind bytes that fit
after-drop : (q t r : List ℕ) → after q t ≡ Some r → r ≡ drop (length q) t
after-drop [] t r e = cc e
after-drop (q ∷ qs) [] r e = absurd (cc e)
after-drop (q ∷ qs) (c ∷ cs) r e = by ((q == 63) || (q == c)) (after-drop qs cs r) e
  where
    by : (b : Bool) → (after qs cs ≡ Some r → r ≡ drop (length qs) cs)
        → (if b then after qs cs else None) ≡ Some r → r ≡ drop (length qs) cs
    by true rest e = rest e
    by false rest e = absurd (cc e)

-- bytes left out again and again
drop-more : (m n : ℕ) (t : List ℕ) → drop m (drop n t) ≡ drop (m + n) t
drop-more m zero t = ap (λ (k : ℕ). drop k t) (omega arith)
drop-more zero (suc n) [] = ap (λ (k : ℕ). drop k []) (let e : suc n ≡ 0 + suc n = omega arith in e)
drop-more (suc m) (suc n) [] =
    ap (λ (k : ℕ). drop k []) (let e : suc m ≡ suc m = refl in e)
    ∙ ap (λ (k : ℕ). drop k []) (let e : suc (m + suc n) ≡ suc m + suc n = omega arith in e)
drop-more m (suc n) (c ∷ cs) =
    drop-more m n cs ∙ ap (λ (k : ℕ). drop k (c ∷ cs)) (let e : suc (m + n) ≡ m + suc n = omega arith in e)

-- what passes behind a later place passes behind the first
later : (q : List ℕ) (g : List ℕ → Bool) (c : ℕ) (cs r : List ℕ) → after q (c ∷ cs) ≡ Some r
    → some_end (fits q (some_end g)) cs ≡ true → some_end g r ≡ true
later q g c cs r first e =
    let found = some-at (fits q (some_end g)) cs e in
    let k = found.0 in
    let behind = fits-behind q (some_end g) (drop k cs) found.1 in
    let here : drop (length q) (drop k cs) ≡ drop (suc k) (drop (length q) (c ∷ cs)) =
    drop-more (length q) k cs
    ∙ ap (λ (n : ℕ). drop n (c ∷ cs)) (let e : suc (length q + k) ≡ suc k + length q = omega arith in e)
    ∙ sym (drop-more (suc k) (length q) (c ∷ cs)) in
    let there : some_end g (drop (suc k) r) ≡ true =
    ap (λ (t : List ℕ). some_end g (drop (suc k) t)) (after-drop q (c ∷ cs) r first)
    ∙ ap (λ (t : List ℕ). some_end g t) (sym here)
    ∙ behind in
    some-behind g (suc k) r there

or-first : (a b : Bool) → (b ≡ true → a ≡ true) → (a || b) ≡ a
or-first true b more = refl
or-first false true more = sym (more refl)
or-first false false more = refl

-- where bytes between two stars stand, by the first place of them
pub ends-first : (q : List ℕ) (g : List ℕ → Bool) (t : List ℕ)
    → some_end (fits q (some_end g)) t ≡ passes_some (first_after q t) (some_end g)
ends-first q g [] = fits-after q (some_end g) []
ends-first q g (c ∷ cs) =
    ap (λ (b : Bool). b || some_end (fits q (some_end g)) cs) (fits-after q (some_end g) (c ∷ cs))
    ∙ by (after q (c ∷ cs)) refl (ends-first q g cs)
  where
    by : (o : Option (List ℕ)) → after q (c ∷ cs) ≡ o
        → some_end (fits q (some_end g)) cs ≡ passes_some (first_after q cs) (some_end g)
        → (passes_some o (some_end g) || some_end (fits q (some_end g)) cs)
        ≡ passes_some (or_else o (first_after q cs)) (some_end g)
    by None is rest = rest
    by (Some r) is rest = or-first (some_end g r) (some_end (fits q (some_end g)) cs) (later q g c cs r is)

-- bytes that are all of a text are as many
fits-long : (q t : List ℕ) → fits q is_empty t ≡ true → length q ≡ length t
fits-long [] [] e = refl
fits-long [] (c ∷ cs) e = absurd (no-truth e)
fits-long (q ∷ qs) [] e = absurd (no-truth e)
fits-long (q ∷ qs) (c ∷ cs) e = by ((q == 63) || (q == c)) (fits-long qs cs) e
  where
    by : (b : Bool) → (fits qs is_empty cs ≡ true → length qs ≡ length cs) → (b && fits qs is_empty cs) ≡ true
        → length (q ∷ qs) ≡ length (c ∷ cs)
    by true rest e = ap (λ (n : ℕ). suc n) (rest e)
    by false rest e = absurd (no-truth e)

is-false : (b : Bool) → (b ≡ true → ⊥) → b ≡ false
is-false true other = absurd (other refl)
is-false false other = refl

misfit : (q t : List ℕ) → (length q ≡ length t → ⊥) → fits q is_empty t ≡ false
misfit q t other = is-false (fits q is_empty t) (λ e. other (fits-long q t e))

-- no end is long enough
pub ends-short : (q t : List ℕ) → length t < length q → some_end (fits q is_empty) t ≡ false
ends-short q [] short = misfit q [] (λ e. omega (arith, e, short))
ends-short q (c ∷ cs) short =
    ap (λ (b : Bool). b || some_end (fits q is_empty) cs) (misfit q (c ∷ cs) (λ e. omega (arith, e, short)))
    ∙ ends-short q cs (omega (arith, short))

or-false : (a b : Bool) → b ≡ false → (a || b) ≡ a
or-false true b e = refl
or-false false b e = e

-- one end is as long
pub ends-long : (q t : List ℕ) (k : ℕ) → k + length q ≡ length t
    → some_end (fits q is_empty) t ≡ fits q is_empty (drop k t)
ends-long q [] zero long = refl
ends-long q [] (suc k) long = absurd (omega (arith, long))
ends-long q (c ∷ cs) zero long =
    or-false (fits q is_empty (c ∷ cs)) (some_end (fits q is_empty) cs) (ends-short q cs (omega (arith, long)))
ends-long q (c ∷ cs) (suc k) long =
    ap (λ (b : Bool). b || some_end (fits q is_empty) cs) (misfit q (c ∷ cs) (λ e. omega (arith, e, long)))
    ∙ ends-long q cs k (omega (arith, long))

-- a pattern without a star
pub all-plain : (p q t : List ℕ) → None ≡ after_star p → q ≡ front_part p → means p t ≡ fits q is_empty t
all-plain p q t none front =
    means-split p t
    ∙ ap (λ (o : Option (List ℕ)). split o (front_part p) t) (sym none)
    ∙ ap (λ (q : List ℕ). fits q is_empty t) (sym front)

-- a pattern up to its first star
pub all-starred : (p q more t : List ℕ) → Some more ≡ after_star p → q ≡ front_part p
    → means p t ≡ fits q (some_end (means more)) t
all-starred p q more t some front =
    means-split p t
    ∙ ap (λ (o : Option (List ℕ)). split o (front_part p) t) (sym some)
    ∙ ap (λ (q : List ℕ). fits q (some_end (means more)) t) (sym front)

-- what stands behind the bytes up to the first star
pub all-behind : (p q more t : List ℕ) (o : Option (List ℕ)) → Some more ≡ after_star p → q ≡ front_part p
    → o ≡ after q t → means p t ≡ passes_some o (some_end (means more))
all-behind p q more t o some front left =
    all-starred p q more t some front
    ∙ fits-after q (some_end (means more)) t
    ∙ ap (λ (o : Option (List ℕ)). passes_some o (some_end (means more))) (sym left)

-- behind the last star
pub end-plain : (p q t : List ℕ) → None ≡ after_star p → q ≡ front_part p
    → some_end (means p) t ≡ some_end (fits q is_empty) t
end-plain p q t none front = same-ends (means p) (fits q is_empty) t (λ s. all-plain p q s none front)

-- between two stars
pub end-behind : (p q more t : List ℕ) (o : Option (List ℕ)) → Some more ≡ after_star p → q ≡ front_part p
    → o ≡ first_after q t → some_end (means p) t ≡ passes_some o (some_end (means more))
end-behind p q more t o some front left =
    same-ends (means p) (fits q (some_end (means more))) t (λ s. all-starred p q more s some front)
    ∙ ends-first q (means more) t
    ∙ ap (λ (o : Option (List ℕ)). passes_some o (some_end (means more))) (sym left)

-- bytes of which some are left and no text is
pub after-short : (q t : List ℕ) (i : ℕ) → i < length q → length t < 1 → None ≡ after (drop i q) t
after-short [] t i h l = absurd (omega (arith, h))
after-short (x ∷ q) [] zero h l = refl
after-short (x ∷ q) (c ∷ cs) zero h l = absurd (omega (arith, l))
after-short (x ∷ q) t (suc i) h l = after-short q t i (omega (arith, h)) l

-- a place where they don't stand
pub first-passed : (q t : List ℕ) (i : ℕ) → i < length t → None ≡ after q (drop i t)
    → first_after q (drop i t) ≡ first_after q (drop (i + 1) t)
first-passed q [] i h none = absurd (omega (arith, h))
first-passed q (c ∷ cs) zero h none =
    ap (λ (o : Option (List ℕ)). or_else o (first_after q cs)) (sym none)
first-passed q (c ∷ cs) (suc i) h none =
    first-passed q cs i (omega (arith, h)) none
    ∙ ap (λ (k : ℕ). first_after q (drop k (c ∷ cs))) (let e : suc (i + 1) ≡ suc i + 1 = omega arith in e)
