-- What stands for texts in values of attributes, character by character.
use Rattle.std.proofs.Common.{◌≡◌, ◌≢◌, ℕ, inl, inr, List, [], ◌∷◌, ◌++◌, Bool, true, false, Some, map, refl}
use Rattle.std.proofs.Common.{sym, ap, ◌∙◌, subst}
use Rattle.std.proofs.Common.{append_assoc, append-nil, Result}
use Rattle.std.specs.Prelude.{OnOk, if◌then◌else◌}
use Rattle.std.specs.Prelude.{◌&&◌, encode_utf8_all, IsUtf8, encode_utf8}
use Rattle.std.specs.Str.{chars}
use Rattle.std.specs.List.{list_all}
use Rattle.std.proofs.lemmas.Bool.{cases_eq, ne_eqb}
use Rattle.std.proofs.lemmas.Str.{chars_past_char, encodes-append, chars-nil, chars-append}
use Rattle.std.proofs.lemmas.Str.{chars-encodes, scalars-chars}
use lib.Utf8.{scalar, scalars}
use Rattle.report_forms.specs.Grown.{Grows}
use Rattle.report_forms.specs.Escapes.{is_xml_char, told_char, escaped_char, escaped_chars, escaped, say}
use Rattle.report_forms.specs.Escapes.{unescaped, plain}

false_is_true : false ≡ true → ⊥
false_is_true e = cc

-- one character more
pub escaped-step : (bs rest : List ℕ) (c : ℕ) → IsUtf8 bs → bs ≡ encode_utf8 c ++ rest
    → escaped bs ≡ encode_utf8_all (escaped_char c) ++ escaped rest
escaped-step bs rest c utf8 is =
    ap (λ cs. encode_utf8_all (escaped_chars cs)) (chars_past_char bs rest c utf8 is)
    ∙ encodes-append (escaped_char c) (escaped_chars (chars rest))

pub escaped-nil : (bs : List ℕ) → bs ≡ [] → escaped bs ≡ []
escaped-nil bs is = ap escaped is ∙ ap (λ cs. encode_utf8_all (escaped_chars cs)) chars-nil

-- a character that stands for itself, or for which U+FFFD stands
pub stands : (c : ℕ) → c ≢ 34 → c ≢ 38 → c ≢ 60 → c ≢ 62 → c ≢ 9 → c ≢ 10 → c ≢ 13
    → escaped_char c ≡ told_char c ∷ []
unfolding escaped_char
stands c a b d e f g h =
    rw (ne_eqb c 34 a, ne_eqb c 38 b, ne_eqb c 60 d, ne_eqb c 62 e, ne_eqb c 9 f, ne_eqb c 10 g, ne_eqb c 13 h) refl

-- what was added is what stands for the character
pub added : {E : Type 0} (r : Result (Unit {0}) E) (s t a b : List ℕ) → a ≡ b → OnOk r (Grows s t a)
    → OnOk r (Grows s t b)
added r s t a b e = subst (λ l. OnOk r (Grows s t l)) e

-- a character that isn't escaped
pub plain_bytes : (c told : ℕ) → told ≡ told_char c → c ≢ 34 → c ≢ 38 → c ≢ 60 → c ≢ 62 → c ≢ 9 → c ≢ 10 → c ≢ 13
    → encode_utf8 told ≡ encode_utf8_all (escaped_char c)
plain_bytes c told is a b d e f g h =
    ap encode_utf8 is ∙ sym (append-nil (encode_utf8 (told_char c)))
    ∙ ap encode_utf8_all (sym (stands c a b d e f g h))

-- a reader takes such a character for itself
read_xml : (c : ℕ) (rest : List ℕ) → is_xml_char c ≡ true → c ≢ 34 → c ≢ 38 → c ≢ 60 → c ≢ 9 → c ≢ 10 → c ≢ 13
    → unescaped plain (c ∷ rest) ≡ say c (unescaped plain rest)
unfolding unescaped
read_xml c rest xml a b d f g h =
    elim (cases_eq c 32) [
      | inl e ↦ subst (λ x. unescaped plain (x ∷ rest) ≡ say x (unescaped plain rest)) (sym e) refl
      | inr ne ↦
          rw (
            xml,
            ne_eqb c 34 a,
            ne_eqb c 38 b,
            ne_eqb c 32 ne,
            ne_eqb c 9 f,
            ne_eqb c 10 g,
            ne_eqb c 13 h,
            ne_eqb c 60
                d,
          ) refl
    ]

read_told : (c : ℕ) (rest : List ℕ) → c ≢ 34 → c ≢ 38 → c ≢ 60 → c ≢ 9 → c ≢ 10 → c ≢ 13
    → unescaped plain (told_char c ∷ rest) ≡ say (told_char c) (unescaped plain rest)
unfolding unescaped
read_told c rest a b d f g h = go (is_xml_char c) refl
  where
    go : (x : Bool) → is_xml_char c ≡ x
        → unescaped plain (told_char c ∷ rest) ≡ say (told_char c) (unescaped plain rest)
    go true is =
        let told : told_char c ≡ c = ap (λ b. if b then c else 0xfffd) is in
        subst (λ x. unescaped plain (x ∷ rest) ≡ say x (unescaped plain rest)) (sym told)
        (read_xml c rest is a b d f g h)
    go false is =
        let told : told_char c ≡ 0xfffd = ap (λ b. if b then c else 0xfffd) is in
        subst (λ x. unescaped plain (x ∷ rest) ≡ say x (unescaped plain rest)) (sym told) refl

-- the characters that are escaped, and the others
by_cases : (P : ℕ → Type 0) → P 34 → P 38 → P 60 → P 62 → P 9 → P 10 → P 13
    → ((c : ℕ) → c ≢ 34 → c ≢ 38 → c ≢ 60 → c ≢ 62 → c ≢ 9 → c ≢ 10 → c ≢ 13 → P c) → (c : ℕ) → P c
by_cases P p q r s t u v other c =
    at 34 p
    (λ a. at 38 q (λ b. at 60 r (λ d. at 62 s (λ e. at 9 t (λ f. at 10 u (λ g. at 13 v (other c a b d e f g)))))))
  where
    at : (x : ℕ) → P x → (c ≢ x → P c) → P c
    at x known unlike = elim (cases_eq c x) [ inl e ↦ subst P (sym e) known | inr ne ↦ unlike ne ]

-- a reader takes what stands for a character for what is told of it
read-step : (c : ℕ) (rest : List ℕ)
    → unescaped plain (escaped_char c ++ rest) ≡ say (told_char c) (unescaped plain rest)
unfolding escaped_char unescaped
read-step c rest =
    by_cases (λ x. unescaped plain (escaped_char x ++ rest) ≡ say (told_char x) (unescaped plain rest)) refl refl refl
    refl refl refl refl
    (λ x a b d e f g h. ap (λ l. unescaped plain (l ++ rest)) (stands x a b d e f g h) ∙ read_told x rest a b d f g h)
    c

-- and what stands for a text for what is told of that
read_chars : (text rest : List ℕ)
    → unescaped plain (escaped_chars text ++ 34 ∷ rest) ≡ Some (map told_char text, rest)
unfolding unescaped
read_chars [] rest = refl
read_chars (c ∷ cs) rest =
    ap (unescaped plain) (append_assoc (escaped_char c) (escaped_chars cs) (34 ∷ rest))
    ∙ read-step c (escaped_chars cs ++ 34 ∷ rest) ∙ ap (say (told_char c)) (read_chars cs rest)

and_true : (a b : Bool) → (a && b) ≡ true → (a ≡ true) × (b ≡ true)
and_true true b both = (refl, both)
and_true false b both = absurd (false_is_true both)

-- what stands for characters are characters
scalar_told : (c : ℕ) → scalar c ≡ true → scalar (told_char c) ≡ true
scalar_told c is = go (is_xml_char c)
  where
    go : (x : Bool) → scalar (if x then c else 0xfffd) ≡ true
    go true = is
    go false = refl

scalars-one : (c : ℕ) → scalar c ≡ true → scalars (escaped_char c) ≡ true
unfolding escaped_char
scalars-one =
    by_cases (λ x. scalar x ≡ true → scalars (escaped_char x) ≡ true) (λ is. refl) (λ is. refl) (λ is. refl)
    (λ is. refl) (λ is. refl) (λ is. refl) (λ is. refl)
    (λ x a b d e f g h is. ap scalars (stands x a b d e f g h) ∙ ap (λ y. y && true) (scalar_told x is))

scalars-append : (xs ys : List ℕ) → scalars xs ≡ true → scalars ys ≡ true → scalars (xs ++ ys) ≡ true
scalars-append [] ys p q = q
scalars-append (x ∷ xs) ys p q =
    let both = and_true (scalar x) (scalars xs) p in
    ap (λ b. b && scalars (xs ++ ys)) both.0 ∙ scalars-append xs ys both.1 q

scalars-escaped : (cs : List ℕ) → scalars cs ≡ true → scalars (escaped_chars cs) ≡ true
scalars-escaped [] is = refl
scalars-escaped (c ∷ cs) is =
    let both = and_true (scalar c) (scalars cs) is in
    scalars-append (escaped_char c) (escaped_chars cs) (scalars-one c both.0) (scalars-escaped cs both.1)

chars-quote : (rest : List ℕ) → chars (34 ∷ rest) ≡ 34 ∷ chars rest
unfolding chars
chars-quote [] = refl
chars-quote (b ∷ bs) = refl

-- what stands in a file for a text is read as what is told of it
pub read_back : (text rest : List ℕ) → IsUtf8 text
    → unescaped plain (chars (escaped text ++ 34 ∷ rest)) ≡ Some (map told_char (chars text), chars rest)
read_back text rest utf8 =
    let cs = chars text in
    let are = scalars-escaped cs (scalars-chars text utf8) in
    let back : chars (escaped text ++ 34 ∷ rest) ≡ escaped_chars cs ++ 34 ∷ chars rest =
    chars-append (escaped text) (34 ∷ rest) (escaped_chars cs, (are, refl))
    ∙ ap (λ l. l ++ chars (34 ∷ rest)) (chars-encodes (escaped_chars cs) are)
    ∙ ap (λ l. escaped_chars cs ++ l) (chars-quote rest) in
    ap (unescaped plain) back ∙ read_chars cs (chars rest)

-- a text is told as it is where a document may have each of its characters
pub told_same : (text : List ℕ) → list_all is_xml_char text ≡ true → map told_char text ≡ text
told_same [] all = refl
told_same (c ∷ cs) all = go (told_same cs) (is_xml_char c) refl (list_all is_xml_char cs) refl
  where
    go : (list_all is_xml_char cs ≡ true → map told_char cs ≡ cs) → (x : Bool) → is_xml_char c ≡ x → (y : Bool)
        → list_all is_xml_char cs ≡ y → map told_char (c ∷ cs) ≡ c ∷ cs
    go rest true is true are =
        let told : told_char c ≡ c = ap (λ b. if b then c else 0xfffd) is in
        ap (λ d. d ∷ map told_char cs) told ∙ ap (λ l. c ∷ l) (rest are)
    go rest true is false are =
        absurd (false_is_true (sym (ap (λ y. is_xml_char c && y) are ∙ ap (λ x. x && false) is) ∙ all))
    go rest false is y are =
        absurd (false_is_true (sym (ap (λ x. x && list_all is_xml_char cs) is) ∙ all))
