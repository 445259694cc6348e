-- Tokens that are cut alike are one another's, moved.
use Rattle.std.proofs.Common.{
  ◌≡◌,
  ℕ,
  suc,
  ◌<◌,
  ◌≤◌,
  eqb,
  Bool,
  false,
  List,
  [],
  ◌∷◌,
  map,
  refl,
  ap,
  ◌∙◌,
  arith,
}
use Rattle.std.specs.Prelude.{if◌then◌else◌}
use Rattle.std.proofs.lemmas.Bool.{eq-eqb, ne_eqb}
use Rattle.lexer.specs.declared.token.Token.{Token}
use Rattle.lexer.specs.Cutting.{Cut, cut_of}
use Rattle.lexer.specs.Covering.{IsCut, at_end, over_gap, over_token}
use Rattle.lexer.proofs.CoveringLaws.{tokens_of-covered}
use Rattle.laws_one_report.proofs.MovedTrees.{moved}
use Rattle.cli.specs.Reported.{AreTokens}

-- where the text of the first token at a byte lies
abbrev pub lies_in : List Token → ℕ → ℕ × ℕ
lies_in [] at = (0, 0)
lies_in (t ∷ ts) at = if eqb t.at at then t.text.ref_ptr else lies_in ts at

-- each stands after the byte at which the one before it does
abbrev AreApart : ℕ → List Cut → Type 0
AreApart from [] = Unit {0}
AreApart from (c ∷ cs) = (from ≤ c.at) × AreApart (suc c.at) cs

-- Tokens of a text do, since each but the last has a byte.
cut-apart : {at : ℕ} {bytes : List ℕ} {cs : List Cut} → IsCut at bytes cs → (from : ℕ) → from ≤ at
    → AreApart from cs
cut-apart at_end from le = (le, tt)
cut-apart (over_gap some inside g more) from le = cut-apart more from (omega arith)
cut-apart (over_token {at = at} apart longest is more) from le =
    (le, cut-apart more (suc at) (omega (arith, longest.some)))

-- the texts of the tokens lie where the function says of their bytes
abbrev LieAt : (ℕ → ℕ × ℕ) → List Token → Type 0
LieAt lies [] = Unit {0}
LieAt lies (t ∷ ts) = (lies t.at ≡ t.text.ref_ptr) × LieAt lies ts

-- A token in front of those that stand after it changes nothing for them.
lies-behind : (t : Token) (ts us : List Token) (from : ℕ) → t.at < from
    → AreApart from (map cut_of us) → LieAt (lies_in ts) us → LieAt (lies_in (t ∷ ts)) us
lies-behind t ts [] from lt apart h = tt
lies-behind t ts (u ∷ us) from lt apart h =
    let other : eqb t.at u.at ≡ false =
    ne_eqb t.at u.at (λ e. absurd (omega (arith, e, apart.0))) in (
      ap (λ (b : Bool). if b then t.text.ref_ptr else lies_in ts u.at) other ∙ h.0,
      lies-behind t ts us (suc u.at) (omega (arith, apart.0)) apart.1 h.1,
    )

lies_in-is : (ts : List Token) (from : ℕ) → AreApart from (map cut_of ts) → LieAt (lies_in ts) ts
lies_in-is [] from apart = tt
lies_in-is (t ∷ ts) from apart = (
  ap (λ (b : Bool). if b then t.text.ref_ptr else lies_in ts t.at) (eq-eqb t.at t.at refl),
  lies-behind t ts ts (suc t.at) (omega arith) apart.1 (lies_in-is ts (suc t.at) apart.1),
)

-- a token by its kind, place and text, and where that lies
token_by : Cut → ℕ × ℕ → Token
token_by c address =
    record { kind = c.kind; at = c.at; text = record { ref_ptr = address; now = c.text } }

moved_one : (lies : ℕ → ℕ × ℕ) (u t : Token) → cut_of u ≡ cut_of t → lies t.at ≡ t.text.ref_ptr
    → moved lies u ≡ t
unfolding token_by
moved_one lies u t e h = ap (λ (c : Cut). token_by c (lies c.at)) e ∙ ap (token_by (cut_of t)) h

moved-is : (lies : ℕ → ℕ × ℕ) (us ts : List Token) → map cut_of us ≡ map cut_of ts → LieAt lies ts
    → map (moved lies) us ≡ ts
moved-is lies [] [] e h = refl
moved-is lies [] (t ∷ ts) e h = absurd cc
moved-is lies (u ∷ us) [] e h = absurd cc
moved-is lies (u ∷ us) (t ∷ ts) e h =
    let one : cut_of u ≡ cut_of t = cc (e) in
    let more : map cut_of us ≡ map cut_of ts = cc (e) in
    ap (λ (x : Token). x ∷ map (moved lies) us) (moved_one lies u t one h.0)
    ∙ ap (λ (xs : List Token). t ∷ xs) (moved-is lies us ts more h.1)

-- Tokens of a text are any others of it, moved.
pub moved_tokens : (text : List ℕ) (us ts : List Token) → AreTokens text us → AreTokens text ts
    → map (moved (lies_in ts)) us ≡ ts
moved_tokens text us ts h k =
    let same : map cut_of us ≡ map cut_of ts = cc (h, k) in
    moved-is (lies_in ts) us ts same
    (lies_in-is ts 0 (cut-apart (tokens_of-covered text (map cut_of ts) k) 0 (omega arith)))
