-- Tokens at which faults stand.
use Rattle.std.proofs.Common.{◌≡◌, ℕ, suc, ◌+◌, List, ◌∷◌, drop, refl, sym, subst, ◌∙◌, arith}
use Rattle.std.specs.List.{Contains}
use Rattle.std.proofs.lemmas.List.{length-drop, get_or-drop}
use Rattle.lexer.specs.declared.token.Token.{Token}
use Rattle.parser.specs.declared.fault.ParseFault.{ParseFault}
use Rattle.parser.specs.declared.fault.ParseFault.TheVariants as faults
use Rattle.parser.specs.Faults.{IsWordIn, IsPlaced}
use Rattle.parser.specs.Bytes.{IsByteIn}

pub contains-behind : (ts : List Token) (t : Token) (us : List Token) (x : Token) → ts ≡ t ∷ us → Contains us x
    → Contains ts x
contains-behind ts t us x e h = rw e (suc h.0, omega (arith, h.1), h.2)

contains-drop : (n : ℕ) (ts : List Token) (x : Token) → Contains (drop n ts) x → Contains ts x
contains-drop n ts x h = (n + h.0, omega (arith, h.1, length-drop n ts), sym (get_or-drop n ts h.0 x) ∙ h.2)

pub byte-at : (ts : List Token) (t : Token) → Contains ts t → IsByteIn ts t.at
byte-at ts t h = record { token = t; among = h; stands = refl }

pub word-at : (ts : List Token) (t : Token) → Contains ts t → IsWordIn ts t.text.now t.at
word-at ts t h = record { token = t; among = h; stands = refl; text = refl }

byte-drop : (n : ℕ) (ts : List Token) (at : ℕ) → IsByteIn (drop n ts) at → IsByteIn ts at
byte-drop n ts at h = record { token = h.token; among = contains-drop n ts h.token h.among; stands = h.stands }

-- a fault that stands in the last tokens
pub placed-drop : (n : ℕ) (ts us : List Token) (fault : ParseFault) → us ≡ drop n ts → IsPlaced us fault
    → IsPlaced ts fault
placed-drop n ts us faults.Memory e h = tt
placed-drop n ts us (faults.Expected what at) e h = byte-drop n ts at (subst (λ (vs : List Token). IsByteIn vs at) e h)
placed-drop n ts us (faults.OutsideProfile word at) e h =
    let in_last : IsWordIn (drop n ts) word.now at = subst (λ (vs : List Token). IsWordIn vs word.now at) e h in
    record {
      token = in_last.token;
      among = contains-drop n ts in_last.token in_last.among;
      stands = in_last.stands;
      text = in_last.text;
    }
placed-drop n ts us (faults.TooDeep at) e h = byte-drop n ts at (subst (λ (vs : List Token). IsByteIn vs at) e h)
placed-drop n ts us (faults.BadBound at) e h = byte-drop n ts at (subst (λ (vs : List Token). IsByteIn vs at) e h)

pub ruleset for_byte_in = (byte-at)

pub ruleset for_unexpected = (byte-at, word-at)
