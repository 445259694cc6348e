-- Loops that read many parts: what was found stands before what is left to read.
use Rattle.std.proofs.Common.{◌≡◌, ℕ, zero, suc, ◌-◌, ◌<◌, ◌≤◌, Bool, List, [], ◌∷◌, ◌++◌, map, length, Option, Some}
use Rattle.std.proofs.Common.{None, option_map, append_assoc, refl, sym, ap, ◌∙◌, arith}
use Rattle.lexer.specs.declared.token.Token.{Token}
use Rattle.parser_grammar.specs.declared.terminal.Terminal.{Terminal}
use Rattle.parser_grammar.specs.Terminals.{is}
use Rattle.parser_grammar.specs.Readers.{◌>>=◌, Reader, lead, expect, many, each}
use Rattle.parser.specs.declared.stop.Stop.{Stop}
use Rattle.parser.specs.Views.{Fails}
use Rattle.parser.proofs.Steps.{failing}

abbrev pub behind : {A : Type 0} → List A → Option (List A × List Token) → Option (List A × List Token)
behind found o = option_map (λ p. (found ++ p.0, p.1)) o

pub record Turns {A : Type 0} (test : Token → Bool) (r : Token → Reader A) (start : List Token) (found : List A)
    (left : List Token) : Type 0 where
  pub turns : ℕ
  pub enough : length left ≤ turns
  pub same : each test r start ≡ behind found (many test r turns left)

pub expect-lead : (w : Terminal) (ts : List Token) (o : Option (Token × List Token)) → expect w ts ≡ o
    → lead (is w) ts ≡ o
unfolding expect
expect-lead w ts o h = h

append-nil : {A : Type 0} (xs : List A) → xs ++ [] ≡ xs
append-nil [] = refl
append-nil (x ∷ xs) = ap (λ ys. x ∷ ys) (append-nil xs)

pub map-push : {A B : Type 0} (f : A → B) (xs : List A) (x : A) → map f (xs ++ x ∷ []) ≡ map f xs ++ f x ∷ []
map-push f [] x = refl
map-push f (y ∷ xs) x = ap (λ ys. f y ∷ ys) (map-push f xs x)

behind-nil : {A : Type 0} (o : Option (List A × List Token)) → o ≡ behind [] o
behind-nil None = refl
behind-nil (Some p) = refl

behind-push : {A : Type 0} (found : List A) (a : A) (o : Option (List A × List Token))
    → behind found (o >>= λ s. Some (a ∷ s.0, s.1)) ≡ behind (found ++ a ∷ []) o
behind-push found a None = refl
behind-push found a (Some p) = ap (λ ys. Some (ys, p.1)) (sym (append_assoc found (a ∷ []) p.0))

module _ {A : Type 0} (test : Token → Bool) (r : Token → Reader A) where
  pub turns-init : (ts : List Token) → Turns test r ts [] ts
  unfolding each
  turns-init ts = record { turns = length ts; enough = omega arith; same = behind-nil (many test r (length ts) ts) }

  many-stop : (n : ℕ) (ts : List Token) → lead test ts ≡ None → many test r n ts ≡ Some ([], ts)
  unfolding many
  many-stop zero ts h = refl
  many-stop (suc n) ts h = rw h refl

  many-go : (n : ℕ) (ts : List Token) (t : Token) (us : List Token) → length ts ≤ n → length us < length ts
      → lead test ts ≡ Some (t, us)
      → many test r n ts ≡ (r t us >>= λ q. many test r (n - 1) q.1 >>= λ s. Some (q.0 ∷ s.0, s.1))
  unfolding many
  many-go zero ts t us le lt h = absurd (omega arith)
  many-go (suc n) ts t us le lt h =
      let e : n ≡ suc n - 1 = omega arith in
      rw h (ap (λ (k : ℕ). r t us >>= λ q. many test r k q.1 >>= λ s. Some (q.0 ∷ s.0, s.1)) e)

  module _ (start : List Token) (found : List A) (left : List Token) (w : Turns test r start found left) where
    pub turns-stop : lead test left ≡ None → each test r start ≡ Some (found, left)
    turns-stop h =
        w.same ∙ ap (behind found) (many-stop w.turns left h)
        ∙ ap (λ (xs : List A). Some (xs, left)) (append-nil found)

    module _ (t : Token) (us : List Token) (h : lead test left ≡ Some (t, us)) (lt : length us < length left) where
      pub turns-fail : (x : Stop) → Fails x (r t us) → Fails x (each test r start)
      turns-fail x f =
          failing x (r t us) (each test r start)
          (λ none. w.same
          ∙ ap (behind found) (many-go w.turns left t us w.enough lt h
          ∙ ap (λ (o : Option (A × List Token)). o >>= λ q. many test r (w.turns - 1) q.1
          >>= λ s. Some (q.0 ∷ s.0, s.1)) none)) f

      pub turns-next : (a : A) (vs : List Token) (more : List A) → length vs ≤ length us → r t us ≡ Some (a, vs)
          → more ≡ found ++ a ∷ [] → Turns test r start more vs
      turns-next a vs more le read e = record {
        turns = w.turns - 1;
        enough = omega (arith, w.enough);
        same =
            w.same
            ∙ ap (behind found) (many-go w.turns left t us w.enough lt h
            ∙ ap (λ (o : Option (A × List Token)). o >>= λ q. many test r (w.turns - 1) q.1
            >>= λ s. Some (q.0 ∷ s.0, s.1)) read)
            ∙ behind-push found a (many test r (w.turns - 1) vs)
            ∙ ap (λ (xs : List A). behind xs (many test r (w.turns - 1) vs)) (sym e);
      }
