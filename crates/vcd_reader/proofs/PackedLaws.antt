-- Codes as numbers.
use Rattle.std.proofs.Common.{◌≡◌, ℕ, zero, suc, ◌+◌, ◌*◌, ◌/◌, ◌%◌, ◌<◌, true, false, ltb, List, [], ◌∷◌, ◌++◌, length}
use Rattle.std.proofs.Common.{get_or, set, refl, sym, ap, ◌∙◌, arith, subst}
use Rattle.std.proofs.lemmas.Bool.{lt-ltb, le-ltb}
use Rattle.std.proofs.Common.{Some}
use Rattle.std.proofs.lemmas.List.{get_or-map, get_or_default, length-map}
use Rattle.vcd_reader.specs.declared.codes.Entry.{Entry}
use Rattle.vcd_reader.specs.declared.places.Places.{Places}
use Rattle.vcd_reader.specs.declared.variable.Variable.{Variable}
use Rattle.vcd_reader.specs.Index.{codes_in, IsIndex}
use Rattle.vcd_reader.specs.Variables.{place_of}
use Rattle.vcd_reader.specs.Packed.{unpacked_code, no_entry, IsKnown, AreKnown}

list-1 : (xs : List ℕ) → length xs ≡ 1 → get_or xs 0 0 ∷ [] ≡ xs
list-1 [] e = absurd (omega arith)
list-1 (a ∷ []) e = refl
list-1 (a ∷ b ∷ xs) e = absurd (omega arith)

list-2 : (xs : List ℕ) → length xs ≡ 2 → get_or xs 0 0 ∷ get_or xs 1 0 ∷ [] ≡ xs
list-2 [] e = absurd (omega arith)
list-2 (a ∷ xs) e = ap (λ (ys : List ℕ). a ∷ ys) (list-1 xs (omega arith))

list-3 : (xs : List ℕ) → length xs ≡ 3 → get_or xs 0 0 ∷ get_or xs 1 0 ∷ get_or xs 2 0 ∷ [] ≡ xs
list-3 [] e = absurd (omega arith)
list-3 (a ∷ xs) e = ap (λ (ys : List ℕ). a ∷ ys) (list-2 xs (omega arith))

list-4 : (xs : List ℕ) → length xs ≡ 4 → get_or xs 0 0 ∷ get_or xs 1 0 ∷ get_or xs 2 0 ∷ get_or xs 3 0 ∷ [] ≡ xs
list-4 [] e = absurd (omega arith)
list-4 (a ∷ xs) e = ap (λ (ys : List ℕ). a ∷ ys) (list-3 xs (omega arith))

pub packs-1 : (xs : List ℕ) → length xs ≡ 1 → get_or xs 0 0 < 256 → unpacked_code (get_or xs 0 0) ≡ xs
unfolding unpacked_code
packs-1 xs e a = let t : ltb (get_or xs 0 0) 256 ≡ true = lt-ltb _ _ a in rw t (list-1 xs e)

pub two : (a b : ℕ) → a < 256 → b < 256 → 0 < b → unpacked_code (a + b * 256) ≡ a ∷ b ∷ []
unfolding unpacked_code
two a b p q r =
    let f : ltb (a + b * 256) 256 ≡ false = le-ltb _ _ (omega arith) in
    let t : ltb (a + b * 256) 65536 ≡ true = lt-ltb _ _ (omega arith) in
    let x : (a + b * 256) % 256 ≡ a = omega arith in
    let y : (a + b * 256) / 256 ≡ b = omega arith in
    rw (f, t, x, y) refl

pub three : (a b c : ℕ) → a < 256 → b < 256 → c < 256 → 0 < c → unpacked_code (a + b * 256 + c * 65536) ≡ a ∷ b ∷ c ∷ []
unfolding unpacked_code
three a b c p q r s =
    let f : ltb (a + b * 256 + c * 65536) 256 ≡ false = le-ltb _ _ (omega arith) in
    let g : ltb (a + b * 256 + c * 65536) 65536 ≡ false = le-ltb _ _ (omega arith) in
    let t : ltb (a + b * 256 + c * 65536) 16777216 ≡ true = lt-ltb _ _ (omega arith) in
    let x : (a + b * 256 + c * 65536) % 256 ≡ a = omega arith in
    let y : (a + b * 256 + c * 65536) / 256 % 256 ≡ b = omega arith in
    let z : (a + b * 256 + c * 65536) / 65536 ≡ c = omega arith in
    rw (f, g, t, x, y, z) refl

four : (a b c d : ℕ) → a < 256 → b < 256 → c < 256 → d < 256 → 0 < d
    → unpacked_code (a + b * 256 + c * 65536 + d * 16777216) ≡ a ∷ b ∷ c ∷ d ∷ []
unfolding unpacked_code
four a b c d p q r s m =
    let n = a + b * 256 + c * 65536 + d * 16777216 in
    let f : ltb (a + b * 256 + c * 65536 + d * 16777216) 256 ≡ false = le-ltb _ _ (omega arith) in
    let g : ltb (a + b * 256 + c * 65536 + d * 16777216) 65536 ≡ false = le-ltb _ _ (omega arith) in
    let t : ltb (a + b * 256 + c * 65536 + d * 16777216) 16777216 ≡ false = le-ltb _ _ (omega arith) in
    let x : (a + b * 256 + c * 65536 + d * 16777216) % 256 ≡ a = omega arith in
    let y : (a + b * 256 + c * 65536 + d * 16777216) / 256 % 256 ≡ b = omega arith in
    let z : (a + b * 256 + c * 65536 + d * 16777216) / 65536 % 256 ≡ c = omega arith in
    let w : (a + b * 256 + c * 65536 + d * 16777216) / 16777216 ≡ d = omega arith in
    rw (f, g, t, x, y, z, w) refl

pub packs-2 : (xs : List ℕ) → length xs ≡ 2 → get_or xs 0 0 < 256 → get_or xs 1 0 < 256 → 0 < get_or xs 1 0
    → unpacked_code (get_or xs 0 0 + get_or xs 1 0 * 256) ≡ xs
packs-2 xs e a b z = two (get_or xs 0 0) (get_or xs 1 0) a b z ∙ list-2 xs e

pub packs-3 : (xs : List ℕ) → length xs ≡ 3 → get_or xs 0 0 < 256 → get_or xs 1 0 < 256 → get_or xs 2 0 < 256
    → 0 < get_or xs 2 0 → unpacked_code (get_or xs 0 0 + get_or xs 1 0 * 256 + get_or xs 2 0 * 65536) ≡ xs
packs-3 xs e a b c z = three (get_or xs 0 0) (get_or xs 1 0) (get_or xs 2 0) a b c z ∙ list-3 xs e

pub packs-4 : (xs : List ℕ) → length xs ≡ 4 → get_or xs 0 0 < 256 → get_or xs 1 0 < 256 → get_or xs 2 0 < 256
    → get_or xs 3 0 < 256 → 0 < get_or xs 3 0
    → unpacked_code (get_or xs 0 0 + get_or xs 1 0 * 256 + get_or xs 2 0 * 65536 + get_or xs 3 0 * 16777216) ≡ xs
packs-4 xs e a b c d z = four (get_or xs 0 0) (get_or xs 1 0) (get_or xs 2 0) (get_or xs 3 0) a b c d z ∙ list-4 xs e

pub ruleset packs = (packs-1, packs-2, packs-3, packs-4)

-- known entries
known-pushed : (texts : List (List ℕ)) (es : List Entry) → AreKnown texts es → (i : ℕ)
    → IsKnown texts (get_or (es ++ no_entry ∷ []) i no_entry)
known-pushed texts [] known zero = λ h. absurd (omega arith)
known-pushed texts [] known (suc i) = λ h. absurd (omega arith)
known-pushed texts (e ∷ es) known zero = known zero
known-pushed texts (e ∷ es) known (suc i) = known-pushed texts es (λ j. known (suc j)) i

pub known-push : (texts : List (List ℕ)) (es new : List Entry) → new ≡ es ++ no_entry ∷ [] → AreKnown texts es
    → AreKnown texts new
known-push texts es new is known = subst (λ (xs : List Entry). AreKnown texts xs) (sym is) (known-pushed texts es known)

pub known-set : (texts : List (List ℕ)) (es : List Entry) (k : ℕ) (e : Entry) → IsKnown texts e → AreKnown texts es
    → (i : ℕ) → IsKnown texts (get_or (set es k e) i no_entry)
known-set texts [] k e is known i = known i
known-set texts (x ∷ es) zero e is known zero = is
known-set texts (x ∷ es) zero e is known (suc i) = known (suc i)
known-set texts (x ∷ es) (suc k) e is known zero = known zero
known-set texts (x ∷ es) (suc k) e is known (suc i) = known-set texts es k e is (λ j. known (suc j)) i

pub known-none : (texts : List (List ℕ)) → AreKnown texts []
known-none texts i = λ h. absurd (omega arith)

-- what is found in a variable's entry
pub entry-known : (vs : List Variable) (p : Places) (i k n : ℕ) (v : Variable) → IsIndex (codes_in vs) p → i < length vs
    → (0 < k → unpacked_code k ≡ (get_or vs i v).code.items) → n ≡ get_or p.firsts.items i n
    → IsKnown (codes_in vs) (record { packed = k; number = n })
entry-known vs p i k n v index below packed number = λ some.
    let long : length (codes_in vs) ≡ length vs = rw length-map refl in
    let fits : i < length (codes_in vs) = omega arith in
    let first : i < length p.firsts.items = omega (arith, index.long) in
    let item : get_or (codes_in vs) i [] ≡ (get_or vs i v).code.items =
    get_or-map (λ (w : Variable). w.code.items) vs i v [] below in
    ap (place_of (codes_in vs)) (packed some ∙ sym item) ∙ sym (index.first i fits)
    ∙ ap (λ (m : ℕ). Some m)
    (sym (number ∙ get_or_default p.firsts.items i n 0 first))
