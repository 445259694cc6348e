-- Keys of notes, one after another.
use Rattle.std.proofs.Common.{◌≡◌, ◌∙◌, ◌++◌, ◌+◌, ◌<◌, ◌≤◌, ℕ, zero, suc, List, [], ◌∷◌, length, drop, map}
use Rattle.std.proofs.Common.{refl, sym, ap, subst, arith, append_assoc, append-nil}
use Rattle.lexer.specs.declared.token.Token.{Token}
use Rattle.report_lines.specs.declared.line.Line.{Line}
use Rattle.lint_notes.specs.declared.facts.Facts.{Facts}
use Rattle.lint_notes.specs.declared.head.Head.{Head}
use Rattle.lint_notes.specs.Told.{Key, first_keys, token_keys}
use Rattle.lint_notes.specs.Idle.{HeadData, data_of, idle_keys}

-- three pieces after what was there
pub three : (old one two all n1 n2 n3 k1 k2 k3 : List Key) → one ≡ old ++ n1 → n1 ≡ k1 → two ≡ one ++ n2
    → n2 ≡ k2 → all ≡ two ++ n3 → n3 ≡ k3 → all ≡ old ++ (k1 ++ (k2 ++ k3))
three old one two all n1 n2 n3 k1 k2 k3 e1 f1 e2 f2 e3 f3 =
    e3 ∙ ap (λ (l : List Key). l ++ n3) (e2 ∙ ap (λ (l : List Key). l ++ n2) e1)
    ∙ append_assoc (old ++ n1) n2 n3 ∙ append_assoc old n1 (n2 ++ n3)
    ∙ ap (λ (l : List Key). old ++ (l ++ (n2 ++ n3))) f1
    ∙ ap (λ (l : List Key). old ++ (k1 ++ (l ++ n3))) f2
    ∙ ap (λ (l : List Key). old ++ (k1 ++ (k2 ++ l))) f3

-- the keys of what is left are those of its first token, and of the rest
pub next-keys : (text : List ℕ) (f : Facts) (ts : List Token) (place : ℕ) → place < length ts
    → token_keys text f (drop place ts)
    ≡ first_keys text f (drop place ts) ++ token_keys text f (drop (place + 1) ts)
next-keys text f [] place h = absurd (omega (arith, h))
next-keys text f (t ∷ ts) zero h = refl
next-keys text f (t ∷ ts) (suc p) h =
    let e : suc p + 1 ≡ suc (p + 1) = omega arith in
    subst (λ (n : ℕ). token_keys text f (drop p ts)
    ≡ first_keys text f (drop p ts) ++ token_keys text f (drop n (t ∷ ts))) (sym e)
    (next-keys text f ts p (omega (arith, h)))

-- one token more
pub keys-more : (text : List ℕ) (f : Facts) (ts : List Token) (place : ℕ) (old new : List Key)
    → place < length ts → old ++ token_keys text f (drop place ts) ≡ token_keys text f ts
    → new ≡ old ++ first_keys text f (drop place ts)
    → new ++ token_keys text f (drop (place + 1) ts) ≡ token_keys text f ts
keys-more text f ts place old new below before grown =
    let rest = token_keys text f (drop (place + 1) ts) in
    ap (λ (l : List Key). l ++ rest) grown ∙ append_assoc old (first_keys text f (drop place ts)) rest
    ∙ ap (λ (l : List Key). old ++ l) (sym (next-keys text f ts place below)) ∙ before

no-lines : (hs : List HeadData) → idle_keys hs [] ≡ []
no-lines [] = refl
no-lines (x ∷ hs) = refl

-- no assertion is left
no-heads : (hs : List Head) (ls : List Line) (place : ℕ) → length hs ≤ place
    → idle_keys (map data_of (drop place hs)) ls ≡ []
no-heads [] ls zero h = refl
no-heads [] ls (suc p) h = refl
no-heads (x ∷ hs) ls zero h = absurd (omega (arith, h))
no-heads (x ∷ hs) ls (suc p) h = no-heads hs ls p (omega (arith, h))

-- no line is left
past-lines : (hs : List HeadData) (ls : List Line) (place : ℕ) → length ls ≤ place
    → idle_keys hs (drop place ls) ≡ []
past-lines hs [] zero h = no-lines hs
past-lines hs [] (suc p) h = no-lines hs
past-lines hs (l ∷ ls) zero h = absurd (omega (arith, h))
past-lines hs (l ∷ ls) (suc p) h = past-lines hs ls p (omega (arith, h))

-- the notes are all there
pub idle-heads : (hs : List Head) (ls : List Line) (place : ℕ) (keys : List Key) → length hs ≤ place
    → keys ++ idle_keys (map data_of (drop place hs)) (drop place ls) ≡ idle_keys (map data_of hs) ls
    → keys ≡ idle_keys (map data_of hs) ls
idle-heads hs ls place keys past all =
    sym (append-nil keys) ∙ ap (λ (l : List Key). keys ++ l) (sym (no-heads hs (drop place ls) place past)) ∙ all

pub idle-lines : (hs : List Head) (ls : List Line) (place : ℕ) (keys : List Key) → length ls ≤ place
    → keys ++ idle_keys (map data_of (drop place hs)) (drop place ls) ≡ idle_keys (map data_of hs) ls
    → keys ≡ idle_keys (map data_of hs) ls
idle-lines hs ls place keys past all =
    sym (append-nil keys)
    ∙ ap (λ (l : List Key). keys ++ l) (sym (past-lines (map data_of (drop place hs)) ls place past)) ∙ all
