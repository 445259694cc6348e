-- A field that is read is one that was written, and what was written is read again.
use Rattle.std.proofs.Common.{◌≡◌, ℕ, zero, suc, ◌+◌, ◌*◌, ◌/◌, ◌%◌, ◌^◌, ◌<◌, ◌≤◌, Bool, true, false, ◌&&◌, ltb, leb}
use Rattle.std.proofs.Common.{List, [], ◌∷◌, ◌++◌, length, get_or, take, drop, Result, Ok, Err, refl, sym, ap, subst}
use Rattle.std.proofs.Common.{◌∙◌, append_assoc, arith, inl, inr}
use Rattle.std.specs.Prelude.{if◌then◌else◌}
use Rattle.std.specs.Int.{Width, w16, w32, w64, byte_len, from_be_bytes, to_be_bytes}
use Rattle.std.specs.List.{flat_map, list_all}
use Rattle.std.proofs.lemmas.List.Concat.{flat_map-cons}
use Rattle.std.proofs.lemmas.Bool.{leb-true, cases_lt, ltb-false, le-ltb, lt-ltb, ltb-true, and_parts, and_from}
use Rattle.std.proofs.lemmas.List.{take_at, drop_at, take-append-drop, length-append, length-take, get_or-drop}
use Rattle.std.proofs.lemmas.List.{get_or-take, get_or_past}
use Rattle.std.proofs.lemmas.Nat.{be_bytes_2, be_bytes_4, be_bytes_8, from_be_bytes-to_be_bytes_2}
use Rattle.std.proofs.lemmas.Nat.{from_be_bytes-to_be_bytes_4, from_be_bytes-to_be_bytes_8}
use Rattle.bytecode.specs.declared.stop.Stop.{Stop}
use Rattle.bytecode.specs.declared.stop.Stop.TheVariants as stops
use Rattle.bytecode_programs.specs.Values.{in_byte, in_two, in_four, is_width, fits_list, fits_text}
use Rattle.bytecode.specs.Spelling.{byte, two, four, eight, sixteen, counted_spelling, text_spelling}
use Rattle.bytecode.specs.Reading.{◌>>=◌, Reader, number_at, sixteen_at, byte_at, checked_at, width_at, bytes_at}
use Rattle.bytecode.specs.Reading.{text_at, many_at, counted_at}

abbrev pub IsBytes : List ℕ → Type 0
IsBytes bytes = (i : ℕ) → get_or bytes i 0 < 256

IsBytes-drop : (n : ℕ) (bytes : List ℕ) → IsBytes bytes → IsBytes (drop n bytes)
IsBytes-drop n bytes h i = rw get_or-drop (h (n + i))

IsBytes-take : (n : ℕ) (bytes : List ℕ) → IsBytes bytes → IsBytes (take n bytes)
IsBytes-take n bytes h i =
    elim (cases_lt i n) [
      | inl lt ↦ rw (get_or-take n bytes i 0 lt) (h i)
      | inr le ↦ rw (get_or_past (take n bytes) i 0 (omega (arith, length-take n bytes))) (omega arith)
    ]

pub IsBytes-rest : (b : ℕ) (bytes : List ℕ) → IsBytes (b ∷ bytes) → IsBytes bytes
IsBytes-rest b bytes h i = h (suc i)

-- the value of a step that did not fail
pub bind_ok : {A B : Type 0} (r : Result A Stop) (f : A → Result B Stop) (y : B) → (r >>= f) ≡ Ok y → (x : A)
    × (r ≡ Ok x) × (f x ≡ Ok y)
bind_ok (Ok x) f y e = (x, refl, e)
bind_ok (Err d) f y e = absurd cc

-- a test that did not fail
pub test_ok : {A : Type 0} (b : Bool) (d : Stop) (x : A) (y : A) → (if b then Ok x else Err d) ≡ Ok y → (b ≡ true)
    × (x ≡ y)
test_ok true d x y e = (refl, cc)
test_ok false d x y e = absurd cc

pub guard_ok : {A : Type 0} (b : Bool) (d : Stop) (x : A) (y : A) → (if b then Err d else Ok x) ≡ Ok y → (b ≡ false)
    × (x ≡ y)
guard_ok true d x y e = absurd cc
guard_ok false d x y e = (refl, cc)

-- what a reader took from the front
pub record Takes (bytes text rest : List ℕ) : Type 0 where
  pub parts : bytes ≡ text ++ rest
  pub rest_fits : IsBytes rest

pub Takes-then : (a x b y c : List ℕ) → Takes a x b → Takes b y c → Takes a (x ++ y) c
Takes-then a x b y c p q =
    record
    { parts = p.parts ∙ ap (λ (t : List ℕ). x ++ t) q.parts ∙ sym (append_assoc x y c); rest_fits = q.rest_fits }

-- Reading and writing a kind of value undo each other.
pub record IsCodec {A : Type 0} (fits : A → Bool) (spelling : A → List ℕ) (read : Reader A) : Type 0 where
  pub takes : (bytes : List ℕ) (x : A) (rest : List ℕ) → IsBytes bytes → read bytes ≡ Ok (x, rest)
      → Takes bytes (spelling x) rest × (fits x ≡ true)
  pub again : (x : A) (rest : List ℕ) → fits x ≡ true → read (spelling x ++ rest) ≡ Ok (x, rest)

-- ---- numbers

record IsWide (w : Width) (limit : ℕ) : Type 0 where
  pub len : (n : ℕ) → length (to_be_bytes w n) ≡ byte_len w
  pub back : (bytes : List ℕ) → length bytes ≡ byte_len w → IsBytes bytes → to_be_bytes w (from_be_bytes w bytes)
      ≡ bytes
  pub again : (n : ℕ) → n < limit → from_be_bytes w (to_be_bytes w n) ≡ n
  pub below : (bytes : List ℕ) → IsBytes bytes → from_be_bytes w bytes < limit

wide16 : IsWide w16 65536
wide16 = record {
  len = λ n. refl;
  back = λ bytes len fits. be_bytes_2 bytes _ len fits refl;
  again = λ n lt. from_be_bytes-to_be_bytes_2 n lt;
  below = λ bytes fits. omega (arith, fits 0, fits 1);
}

wide32 : IsWide w32 4294967296
wide32 = record {
  len = λ n. refl;
  back = λ bytes len fits. be_bytes_4 bytes _ len fits refl;
  again = λ n lt. from_be_bytes-to_be_bytes_4 n lt;
  below = λ bytes fits. omega (arith, fits 0, fits 1, fits 2, fits 3);
}

wide64 : IsWide w64 (2 ^ 64)
wide64 = record {
  len = λ n. refl;
  back = λ bytes len fits. be_bytes_8 bytes _ len fits refl;
  again = λ n lt. from_be_bytes-to_be_bytes_8 n lt;
  below = λ bytes fits. omega (arith, fits 0, fits 1, fits 2, fits 3, fits 4, fits 5, fits 6, fits 7);
}

number_takes : (w : Width) (limit : ℕ) (wide : IsWide w limit) (bytes : List ℕ) (n : ℕ) (rest : List ℕ) → IsBytes bytes
    → number_at w bytes ≡ Ok (n, rest) → Takes bytes (to_be_bytes w n) rest × (ltb n limit ≡ true)
number_takes w limit wide bytes n rest fits e =
    let g =
    guard_ok (ltb (length bytes) (byte_len w)) stops.Cut
    (from_be_bytes w (take (byte_len w) bytes), drop (byte_len w) bytes) (n, rest) e in
    let long : byte_len w ≤ length bytes = ltb-false _ _ g.0 in
    let n-is : from_be_bytes w (take (byte_len w) bytes) ≡ n = ap (λ (p : ℕ × List ℕ). p.0) g.1 in
    let rest-is : drop (byte_len w) bytes ≡ rest = ap (λ (p : ℕ × List ℕ). p.1) g.1 in
    let front : to_be_bytes w n ≡ take (byte_len w) bytes =
    rw (← n-is)
    (wide.back (take (byte_len w) bytes) (omega (arith, length-take (byte_len w) bytes))
    (IsBytes-take (byte_len w) bytes fits)) in (
      record {
        parts = rw (front, ← rest-is) (sym (take-append-drop (byte_len w) bytes));
        rest_fits = rw (← rest-is) (IsBytes-drop (byte_len w) bytes fits);
      },
      lt-ltb n limit (rw (← n-is) (wide.below (take (byte_len w) bytes) (IsBytes-take (byte_len w) bytes fits))),
    )

number_again : (w : Width) (limit : ℕ) (wide : IsWide w limit) (n : ℕ) (rest : List ℕ) → ltb n limit ≡ true
    → number_at w (to_be_bytes w n ++ rest) ≡ Ok (n, rest)
number_again w limit wide n rest fits =
    let len = wide.len n in
    let long : ltb (length (to_be_bytes w n ++ rest)) (byte_len w) ≡ false =
    le-ltb _ _ (omega (arith, length-append (to_be_bytes w n) rest)) in
    rw (
      long,
      take_at (to_be_bytes w n) rest (byte_len w) len,
      drop_at (to_be_bytes w n) rest (byte_len w) len,
      wide.again n (ltb-true n limit fits),
    ) refl

pub two-codec : IsCodec in_two two (number_at w16)
two-codec = record { takes = number_takes w16 65536 wide16; again = number_again w16 65536 wide16 }

pub four-codec : IsCodec in_four four (number_at w32)
four-codec = record { takes = number_takes w32 4294967296 wide32; again = number_again w32 4294967296 wide32 }

eight-codec : IsCodec (λ n. ltb n (2 ^ 64)) eight (number_at w64)
eight-codec = record { takes = number_takes w64 (2 ^ 64) wide64; again = number_again w64 (2 ^ 64) wide64 }

abbrev pub in_sixteen : ℕ → Bool
in_sixteen n = ltb n (2 ^ 128)

halves-high : (high low : ℕ) → low < 2 ^ 64 → (high * 2 ^ 64 + low) / 2 ^ 64 ≡ high
halves-high high low lt = omega arith

halves-low : (high low : ℕ) → low < 2 ^ 64 → (high * 2 ^ 64 + low) % 2 ^ 64 ≡ low
halves-low high low lt = omega arith

halves-whole : (n : ℕ) → n / 2 ^ 64 * 2 ^ 64 + n % 2 ^ 64 ≡ n
halves-whole n = omega arith

abbrev done : {A : Type 0} → A → Result A Stop
done x = Ok x

pub ok_is : {A : Type 0} (x y : A) → done x ≡ done y → x ≡ y
ok_is x y e = cc

sixteen-takes : (bytes : List ℕ) (n : ℕ) (rest : List ℕ) → IsBytes bytes → sixteen_at bytes ≡ Ok (n, rest)
    → Takes bytes (sixteen n) rest × (in_sixteen n ≡ true)
unfolding sixteen_at
sixteen-takes bytes n rest fits e =
    let a =
    bind_ok (number_at w64 bytes) (λ high. number_at w64 high.1 >>= λ low. Ok (high.0 * 2 ^ 64 + low.0, low.1))
    (n, rest) e in
    let b = bind_ok (number_at w64 a.0.1) (λ low. Ok (a.0.0 * 2 ^ 64 + low.0, low.1)) (n, rest) a.2 in
    let s = eight-codec.takes bytes a.0.0 a.0.1 fits a.1 in
    let t = eight-codec.takes a.0.1 b.0.0 b.0.1 s.0.rest_fits b.1 in
    let high : a.0.0 < 2 ^ 64 = ltb-true a.0.0 (2 ^ 64) s.1 in
    let low : b.0.0 < 2 ^ 64 = ltb-true b.0.0 (2 ^ 64) t.1 in
    let both = Takes-then bytes (eight a.0.0) a.0.1 (eight b.0.0) b.0.1 s.0 t.0 in
    let whole : Takes bytes (sixteen (a.0.0 * 2 ^ 64 + b.0.0)) b.0.1 =
    rw (halves-high a.0.0 b.0.0 low, halves-low a.0.0 b.0.0 low) both in
    subst (λ (p : ℕ × List ℕ). Takes bytes (sixteen p.0) p.1 × (in_sixteen p.0 ≡ true))
    (ok_is (a.0.0 * 2 ^ 64 + b.0.0, b.0.1) (n, rest) b.2)
    (whole, lt-ltb (a.0.0 * 2 ^ 64 + b.0.0) (2 ^ 128) (omega (arith, high, low)))

sixteen-again : (n : ℕ) (rest : List ℕ) → in_sixteen n ≡ true → sixteen_at (sixteen n ++ rest) ≡ Ok (n, rest)
unfolding sixteen_at
sixteen-again n rest fits =
    let below : n < 2 ^ 128 = ltb-true n (2 ^ 128) fits in
    let high : ltb (n / 2 ^ 64) (2 ^ 64) ≡ true = lt-ltb (n / 2 ^ 64) (2 ^ 64) (omega (arith, below)) in
    let low : ltb (n % 2 ^ 64) (2 ^ 64) ≡ true = lt-ltb (n % 2 ^ 64) (2 ^ 64) (omega arith) in
    let regrouped : sixteen n ++ rest ≡ eight (n / 2 ^ 64) ++ (eight (n % 2 ^ 64) ++ rest) =
    append_assoc (eight (n / 2 ^ 64)) (eight (n % 2 ^ 64)) rest in
    ap sixteen_at regrouped
    ∙ rw (
      eight-codec.again (n / 2 ^ 64) (eight (n % 2 ^ 64) ++ rest) high,
      eight-codec.again (n % 2 ^ 64) rest low,
      halves-whole n,
    ) refl

pub sixteen-codec : IsCodec in_sixteen sixteen sixteen_at
sixteen-codec = record { takes = sixteen-takes; again = sixteen-again }

-- Two tests that pass the same values.
pub refit : {A : Type 0} (f g : A → Bool) (s : A → List ℕ) (r : Reader A) → ((x : A) → f x ≡ true → g x ≡ true)
    → ((x : A) → g x ≡ true → f x ≡ true) → IsCodec f s r → IsCodec g s r
refit f g s r to back c = record {
  takes = λ bytes x rest fits e. let t = c.takes bytes x rest fits e in (t.0, to x t.1);
  again = λ x rest fits. c.again x rest (back x fits);
}

-- ---- bytes, widths, texts

byte-takes : (bytes : List ℕ) (n : ℕ) (rest : List ℕ) → IsBytes bytes → byte_at bytes ≡ Ok (n, rest)
    → Takes bytes (byte n) rest × (in_byte n ≡ true)
unfolding byte_at
byte-takes [] n rest fits e = absurd cc
byte-takes (b ∷ bs) n rest fits e =
    subst (λ (p : ℕ × List ℕ). Takes (b ∷ bs) (byte p.0) p.1 × (in_byte p.0 ≡ true)) (ok_is (b, bs) (n, rest) e)
    (record { parts = refl; rest_fits = IsBytes-rest b bs fits }, lt-ltb b 256 (fits 0))

byte-again : (n : ℕ) (rest : List ℕ) → in_byte n ≡ true → byte_at (byte n ++ rest) ≡ Ok (n, rest)
unfolding byte_at
byte-again n rest fits = refl

pub byte-codec : IsCodec in_byte byte byte_at
byte-codec = record { takes = byte-takes; again = byte-again }

module _ {A : Type 0} (fits : A → Bool) (spelling : A → List ℕ) (read : Reader A) (c : IsCodec fits spelling read)
    (test : A → Bool) where
  checked-takes : (bytes : List ℕ) (x : A) (rest : List ℕ) → IsBytes bytes → checked_at test read bytes ≡ Ok (x, rest)
      → Takes bytes (spelling x) rest × ((fits x && test x) ≡ true)
  checked-takes bytes x rest are e =
      let b = bind_ok (read bytes) (λ y. if test y.0 then Ok y else Err (stops.Field (length bytes))) (x, rest) e in
      let g = test_ok (test b.0.0) (stops.Field (length bytes)) b.0 (x, rest) b.2 in
      let t = c.takes bytes b.0.0 b.0.1 are b.1 in
      subst (λ (p : A × List ℕ). Takes bytes (spelling p.0) p.1 × ((fits p.0 && test p.0) ≡ true)) g.1
      (t.0, and_from (fits b.0.0) (test b.0.0) t.1 g.0)

  checked-again : (x : A) (rest : List ℕ) → (fits x && test x) ≡ true → checked_at test read (spelling x ++ rest)
      ≡ Ok (x, rest)
  checked-again x rest both =
      let parts = and_parts (fits x) (test x) both in
      rw (c.again x rest parts.0, parts.1) refl

  pub checked-codec : IsCodec (λ x. fits x && test x) spelling (checked_at test read)
  checked-codec = record { takes = checked-takes; again = checked-again }

width-in-byte : (w : ℕ) → is_width w ≡ true → (in_byte w && is_width w) ≡ true
width-in-byte w h =
    and_from (in_byte w) (is_width w)
    (lt-ltb w 256 (omega (arith, leb-true w 128 (and_parts (leb 1 w) (leb w 128) h).1))) h

pub width-codec : IsCodec is_width byte width_at
width-codec =
    refit (λ w. in_byte w && is_width w) is_width byte width_at (λ w h. (and_parts (in_byte w) (is_width w) h).1)
    width-in-byte (checked-codec in_byte byte byte_at byte-codec is_width)

bytes-takes : (bytes text rest : List ℕ) → IsBytes bytes → bytes_at bytes ≡ Ok (text, rest)
    → Takes bytes (text_spelling text) rest × (in_two (length text) ≡ true)
unfolding bytes_at
bytes-takes bytes text rest fits e =
    let b =
    bind_ok (number_at w16 bytes)
    (λ n. if ltb (length n.1) n.0 then Err stops.Cut else Ok (take n.0 n.1, drop n.0 n.1)) (text, rest) e in
    let n = b.0 in
    let t = two-codec.takes bytes n.0 n.1 fits b.1 in
    let g = guard_ok (ltb (length n.1) n.0) stops.Cut (take n.0 n.1, drop n.0 n.1) (text, rest) b.2 in
    let long : n.0 ≤ length n.1 = ltb-false _ _ g.0 in
    let len : length (take n.0 n.1) ≡ n.0 = omega (arith, length-take n.0 n.1) in
    let second : Takes n.1 (take n.0 n.1) (drop n.0 n.1) =
    record { parts = sym (take-append-drop n.0 n.1); rest_fits = IsBytes-drop n.0 n.1 t.0.rest_fits } in
    let both = Takes-then bytes (two n.0) n.1 (take n.0 n.1) (drop n.0 n.1) t.0 second in
    let whole : Takes bytes (text_spelling (take n.0 n.1)) (drop n.0 n.1) =
    subst (λ (k : ℕ). Takes bytes (two k ++ take n.0 n.1) (drop n.0 n.1)) (sym len) both in
    subst (λ (p : List ℕ × List ℕ). Takes bytes (text_spelling p.0) p.1 × (in_two (length p.0) ≡ true)) g.1
    (whole, subst (λ (k : ℕ). in_two k ≡ true) (sym len) t.1)

bytes-again : (text rest : List ℕ) → in_two (length text) ≡ true → bytes_at (text_spelling text ++ rest)
    ≡ Ok (text, rest)
unfolding bytes_at
bytes-again text rest fits =
    let long : ltb (length (text ++ rest)) (length text) ≡ false =
    le-ltb _ _ (omega (arith, length-append text rest)) in
    let regrouped : text_spelling text ++ rest ≡ two (length text) ++ (text ++ rest) =
    append_assoc (two (length text)) text rest in
    ap bytes_at regrouped
    ∙ rw (
      two-codec.again (length text) (text ++ rest) fits,
      long,
      take_at text rest (length text) refl,
      drop_at text rest (length text) refl,
    ) refl

bytes-codec : IsCodec (λ t. in_two (length t)) text_spelling bytes_at
bytes-codec = record { takes = bytes-takes; again = bytes-again }

pub text-codec : (is_text : List ℕ → Bool) → IsCodec (fits_text is_text) text_spelling (text_at is_text)
text-codec is_text = checked-codec (λ t. in_two (length t)) text_spelling bytes_at bytes-codec is_text

-- ---- lists

module _ {A : Type 0} (fits : A → Bool) (spelling : A → List ℕ) (read : Reader A) (c : IsCodec fits spelling read) where
  pub many-takes : (n : ℕ) (bytes : List ℕ) (xs : List A) (rest : List ℕ) → IsBytes bytes → many_at read n bytes
      ≡ Ok (xs, rest) → Takes bytes (flat_map spelling xs) rest × (length xs ≡ n) × (list_all fits xs ≡ true)
  unfolding many_at
  many-takes zero bytes xs rest are e =
      subst (λ (p : List A × List ℕ). Takes bytes (flat_map spelling p.0) p.1 × (length p.0 ≡ 0)
      × (list_all fits p.0 ≡ true)) (ok_is ([], bytes) (xs, rest) e)
      (record { parts = refl; rest_fits = are }, refl, refl)
  many-takes (suc n) bytes xs rest are e =
      let a = bind_ok (read bytes) (λ x. many_at read n x.1 >>= λ ys. Ok (x.0 ∷ ys.0, ys.1)) (xs, rest) e in
      let b = bind_ok (many_at read n a.0.1) (λ ys. Ok (a.0.0 ∷ ys.0, ys.1)) (xs, rest) a.2 in
      let s = c.takes bytes a.0.0 a.0.1 are a.1 in
      let t = many-takes n a.0.1 b.0.0 b.0.1 s.0.rest_fits b.1 in
      let both = Takes-then bytes (spelling a.0.0) a.0.1 (flat_map spelling b.0.0) b.0.1 s.0 t.0 in
      subst (λ (p : List A × List ℕ). Takes bytes (flat_map spelling p.0) p.1 × (length p.0 ≡ suc n)
      × (list_all fits p.0 ≡ true)) (ok_is (a.0.0 ∷ b.0.0, b.0.1) (xs, rest) b.2)
      (rw flat_map-cons both, ap suc t.1, and_from (fits a.0.0) (list_all fits b.0.0) s.1 t.2)

  pub many-again : (xs : List A) (rest : List ℕ) → list_all fits xs ≡ true
      → many_at read (length xs) (flat_map spelling xs ++ rest) ≡ Ok (xs, rest)
  unfolding many_at
  many-again [] rest h = refl
  many-again (x ∷ xs) rest h =
      let parts = and_parts (fits x) (list_all fits xs) h in
      let regrouped : flat_map spelling (x ∷ xs) ++ rest ≡ spelling x ++ (flat_map spelling xs ++ rest) =
      ap (λ (ys : List ℕ). ys ++ rest) (flat_map-cons spelling x xs)
      ∙ append_assoc (spelling x) (flat_map spelling xs) rest in
      ap (many_at read (suc (length xs))) regrouped
      ∙ rw (c.again x (flat_map spelling xs ++ rest) parts.0, many-again xs rest parts.1) refl

  counted-takes : (bytes : List ℕ) (xs : List A) (rest : List ℕ) → IsBytes bytes → counted_at read bytes ≡ Ok (xs, rest)
      → Takes bytes (counted_spelling spelling xs) rest × (fits_list fits xs ≡ true)
  unfolding counted_at
  counted-takes bytes xs rest are e =
      let a = bind_ok (number_at w16 bytes) (λ n. many_at read n.0 n.1) (xs, rest) e in
      let s = two-codec.takes bytes a.0.0 a.0.1 are a.1 in
      let t = many-takes a.0.0 a.0.1 xs rest s.0.rest_fits a.2 in
      let both = Takes-then bytes (two a.0.0) a.0.1 (flat_map spelling xs) rest s.0 t.0 in (
        subst (λ (k : ℕ). Takes bytes (two k ++ flat_map spelling xs) rest) (sym t.1) both,
        and_from (in_two (length xs)) (list_all fits xs) (subst (λ (k : ℕ). in_two k ≡ true) (sym t.1) s.1) t.2,
      )

  counted-again : (xs : List A) (rest : List ℕ) → fits_list fits xs ≡ true
      → counted_at read (counted_spelling spelling xs ++ rest) ≡ Ok (xs, rest)
  unfolding counted_at
  counted-again xs rest h =
      let parts = and_parts (in_two (length xs)) (list_all fits xs) h in
      let regrouped : counted_spelling spelling xs ++ rest ≡ two (length xs) ++ (flat_map spelling xs ++ rest) =
      append_assoc (two (length xs)) (flat_map spelling xs) rest in
      ap (counted_at read) regrouped ∙ rw (two-codec.again (length xs) (flat_map spelling xs ++ rest) parts.0)
      (many-again xs rest parts.1)

  pub counted-codec : IsCodec (fits_list fits) (counted_spelling spelling) (counted_at read)
  counted-codec = record { takes = counted-takes; again = counted-again }
