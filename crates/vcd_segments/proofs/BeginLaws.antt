-- Dumps in pieces.
use Rattle.std.proofs.Common.{◌≡◌, ℕ, zero, suc, ◌+◌, ◌<◌, ◌≤◌, ◌≢◌, Bool, true, false, cond, eqb}
use Rattle.std.proofs.Common.{List, [], ◌∷◌, ◌++◌, length, Option, Some, None, Result, Ok, Err}
use Rattle.std.proofs.Common.{◌⊎◌, inl, inr, refl, sym, ap, ◌∙◌, append_assoc, arith, subst, drop}
use Rattle.std.proofs.lemmas.List.{length-append, length-drop}
use Rattle.std.proofs.lemmas.Bool.Decides.{eqb_tells}
use Rattle.std.specs.List.{AllByRecursion}
use Rattle.vcd_reader.specs.declared.fault.Fault.{Fault}
use Rattle.vcd_reader.specs.declared.fault.Fault.TheVariants.{BadToken, Truncated}
use Rattle.vcd_reader.specs.Faults.{◌>>=◌}
use Rattle.vcd_reader.specs.Tokens.{DumpToken, is_separator, token_goes_on, with_byte, tokens}
use Rattle.vcd_reader.specs.Values.{ValueChange, Moment}
use Rattle.vcd_reader.specs.Variables.{Declared, codes_of}
use Rattle.vcd_reader.specs.Header.{Header, header}
use Rattle.vcd_reader.specs.Body.{Rest, Kind, Time, Scalar, Vector, Text, Lone, Section, Bad}
use Rattle.vcd_reader.specs.Body.{kind_of, codeless_fault, behind_first, body, steps_of}
use Rattle.vcd_reader.specs.Dump.{Contents, contents_behind, dump_of}
use Rattle.vcd_segments.specs.Pieces.{Place, Between, AfterDigits, AfterText, Inside, Stand, stand}
use Rattle.vcd_segments.specs.Pieces.{Event, Told, scalar_told, kind_told, place_told, more_told}
use Rattle.vcd_segments.specs.Pieces.{tokens_told, ended, with_events, body_at}
use Rattle.vcd_segments.specs.Beginnings.{IsMore, contents_with, IsBegun, HasBegun}
use Rattle.vcd_segments.proofs.PieceLaws.{bind-bind, bind-same, body-tells-on, body-is-told}
use Rattle.vcd_segments.proofs.PieceLaws.{body-is-cut, tokens-are-cut, events-append}
use Rattle.vcd_segments.proofs.HeadLaws.{header-more}

-- tokens begin inside the bytes
abbrev pub AreBelow : ℕ → List DumpToken → Type 0
AreBelow n ts = AllByRecursion (λ (t : DumpToken). suc t.at ≤ n) ts

below-byte : (n b at : ℕ) (ts : List DumpToken) → suc at ≤ n → AreBelow n ts
    → AreBelow n (with_byte b at ts)
below-byte n b at [] le all = all
below-byte n b at (t ∷ ts) le all = (le, all.1)

below-if : (n b at : ℕ) (s g : Bool) (ts : List DumpToken) → suc at ≤ n → AreBelow n ts
    → AreBelow n (cond s ts (cond g (with_byte b at ts) (record { text = b ∷ []; at = at } ∷ ts)))
below-if n b at true g ts le all = all
below-if n b at false true ts le all = below-byte n b at ts le all
below-if n b at false false ts le all = (le, all)

pub tokens-below : (n at : ℕ) (bytes : List ℕ) → at + length bytes ≤ n → AreBelow n (tokens at bytes)
unfolding tokens
tokens-below n at [] le = tt
tokens-below n at (b ∷ bs) le =
    below-if n b at (is_separator b) (token_goes_on bs) (tokens (suc at) bs) (omega arith)
    (tokens-below n (suc at) bs (omega arith))

-- a token that doesn't end the input tells the same, whatever the length of the input
pub differs : (m n : ℕ) → m ≢ n → eqb m n ≡ false
differs m n other = elim (eqb_tells m n) [ inl p ↦ absurd (other p.1) | inr p ↦ p.0 ]

not-last : (at len : ℕ) → suc at < len → eqb (suc at) len ≡ eqb (suc at) 0
not-last at len lt =
    differs (suc at) len (λ e. absurd (omega arith))
    ∙ sym (differs (suc at) 0 (λ e. absurd (omega arith)))

codeless-any : (at len : ℕ) → suc at < len → codeless_fault at len ≡ codeless_fault at 0
codeless-any at len lt =
    ap (λ (b : Bool). cond b Truncated (BadToken at)) (not-last at len lt)

scalar-any : (declared : List (List ℕ)) (len digit : ℕ) (text : List ℕ) (at count now : ℕ)
    → suc at < len
    → scalar_told declared len digit text at count now
    ≡ scalar_told declared 0 digit text at count now
scalar-any declared len digit [] at count now lt =
    ap (λ (f : Fault). (let x : Result Told Fault = Err f in x)) (codeless-any at len lt)
scalar-any declared len digit (c ∷ code) at count now lt = refl

kind-any : (k : Kind) (declared : List (List ℕ)) (len : ℕ) (t : DumpToken) (count now : ℕ)
    → suc t.at < len → kind_told k declared len t count now ≡ kind_told k declared 0 t count now
kind-any (Time time) declared len t count now lt = refl
kind-any (Scalar digit) declared len t count now lt =
    scalar-any declared len digit (behind_first t.text) t.at count now lt
kind-any (Vector digits) declared len t count now lt = refl
kind-any Text declared len t count now lt = refl
kind-any Lone declared len t count now lt = refl
kind-any Section declared len t count now lt = refl
kind-any Bad declared len t count now lt = refl

place-any : (place : Place) (declared : List (List ℕ)) (len : ℕ) (t : DumpToken) (count now : ℕ)
    → suc t.at < len
    → place_told place declared len t count now ≡ place_told place declared 0 t count now
place-any Between declared len t count now lt =
    kind-any (kind_of t.text) declared len t count now lt
place-any (AfterDigits digits) declared len t count now lt = refl
place-any AfterText declared len t count now lt = refl
place-any (Inside word) declared len t count now lt = refl

pub told-any : (declared : List (List ℕ)) (len n : ℕ) (s : Stand) (ts : List DumpToken)
    → AreBelow n ts → n < len → tokens_told declared len s ts ≡ tokens_told declared 0 s ts
unfolding tokens_told
told-any declared len n s [] all lt = refl
told-any declared len n s (t ∷ ts) all lt =
    let here : suc t.at ≤ n = all.0 in
    bind-same (place_told s.place declared len t s.count s.now)
    (λ p. more_told p.0 (tokens_told declared len p.1 ts))
    (λ p. more_told p.0 (tokens_told declared 0 p.1 ts))
    (λ p. ap (more_told p.0) (told-any declared len n p.1 ts all.1 lt))
    ∙ ap (λ (first : Result Told Fault).
    first >>= λ p. more_told p.0 (tokens_told declared 0 p.1 ts))
    (place-any s.place declared len t s.count s.now (omega arith))

-- the dump that a header and what stands behind it make
dump-behind : (len : ℕ) (vs : List Declared) (ts : List DumpToken)
    → contents_behind len (vs, ts)
    ≡ (body_at (codes_of vs) len (stand Between 0 0) ts >>= λ r. Ok (contents_with vs r))
unfolding contents_behind
dump-behind len vs ts = bind-bind (body (codes_of vs) len 0 0 ts) _ _

-- what was told, before what is still to be read
abbrev pub after : List Declared → List Event → Result Rest Fault → Result Contents Fault
after vs es read = read >>= λ r. Ok (contents_with vs (with_events es r))

after-more : (vs : List Declared) (es fs : List Event) (read : Result Rest Fault)
    → after vs es (read >>= λ r. Ok (with_events fs r)) ≡ after vs (es ++ fs) read
after-more vs es fs (Ok r) =
    ap (λ (q : Rest). (let x : Result Contents Fault = Ok (contents_with vs q) in x))
    (sym (events-append es fs r))
after-more vs es fs (Err f) = refl

-- the length of a piece, of the separator after it, and of more
piece-length : (bytes piece : List ℕ) (byte : ℕ) (more : List ℕ)
    → length bytes + length piece < length (bytes ++ (piece ++ byte ∷ more))
piece-length bytes piece byte more =
    let a : length (bytes ++ (piece ++ byte ∷ more)) ≡ length bytes + length (piece ++ byte ∷ more)
    = length-append bytes (piece ++ byte ∷ more) in
    let b : length (piece ++ byte ∷ more) ≡ length piece + suc (length more)
    = length-append piece (byte ∷ more) in
    omega arith

-- a piece behind bytes that begin a dump
piece-told : (bytes piece : List ℕ) (byte : ℕ) (vs : List Declared) (es : List Event) (s : Stand)
    → IsBegun bytes vs es s → is_separator byte ≡ true → (more : List ℕ)
    → dump_of (bytes ++ (piece ++ byte ∷ more))
    ≡ after vs es (tokens_told (codes_of vs) 0 s (tokens (length bytes) piece)
    >>= λ p. body_at (codes_of vs) (length (bytes ++ (piece ++ byte ∷ more))) p.1
    (tokens (suc (length bytes + length piece)) more) >>= λ r. Ok (with_events p.0 r))
piece-told bytes piece byte vs es s begun sep more =
    let len = length (bytes ++ (piece ++ byte ∷ more)) in
    begun.says (piece ++ byte ∷ more)
    ∙ ap (after vs es) (body-is-cut (codes_of vs) len s (length bytes) byte piece more sep
    ∙ ap (λ (told : Result Told Fault). told >>= λ p. body_at (codes_of vs) len p.1
    (tokens (suc (length bytes + length piece)) more) >>= λ r. Ok (with_events p.0 r))
    (told-any (codes_of vs) len (length bytes + length piece) s (tokens (length bytes) piece)
    (tokens-below (length bytes + length piece) (length bytes) piece (omega arith))
    (piece-length bytes piece byte more)))

regroup : (bytes piece : List ℕ) (byte : ℕ) (more : List ℕ)
    → (bytes ++ (piece ++ byte ∷ [])) ++ more ≡ bytes ++ (piece ++ byte ∷ more)
regroup bytes piece byte more =
    append_assoc bytes (piece ++ byte ∷ []) more
    ∙ ap (λ (xs : List ℕ). bytes ++ xs) (append_assoc piece (byte ∷ []) more)

pub dump-goes-on : (bytes piece : List ℕ) (byte : ℕ) (vs : List Declared) (es fs : List Event)
    (s t : Stand) → IsBegun bytes vs es s → is_separator byte ≡ true
    → tokens_told (codes_of vs) 0 s (tokens (length bytes) piece) ≡ Ok (fs, t)
    → IsBegun (bytes ++ (piece ++ byte ∷ [])) vs (es ++ fs) t
dump-goes-on bytes piece byte vs es fs s t begun sep told = record {
  says = λ more.
      let all = bytes ++ (piece ++ byte ∷ more) in
      let long : suc (length bytes + length piece) ≡ length (bytes ++ (piece ++ byte ∷ [])) =
      let a : length (bytes ++ (piece ++ byte ∷ [])) ≡ length bytes + length (piece ++ byte ∷ [])
      = length-append bytes (piece ++ byte ∷ []) in
      let b : length (piece ++ byte ∷ []) ≡ length piece + suc 0
      = length-append piece (byte ∷ []) in omega arith in
      ap dump_of (regroup bytes piece byte more)
      ∙ piece-told bytes piece byte vs es s begun sep more
      ∙ ap (λ (read : Result Told Fault). after vs es (read >>= λ p.
      body_at (codes_of vs) (length all) p.1 (tokens (suc (length bytes + length piece)) more)
      >>= λ r. Ok (with_events p.0 r))) told
      ∙ after-more vs es fs
      (body_at (codes_of vs) (length all) t (tokens (suc (length bytes + length piece)) more))
      ∙ ap (λ (n : ℕ). after vs (es ++ fs)
      (body_at (codes_of vs) (length all) t (tokens n more))) long
      ∙ ap (λ (xs : List ℕ). after vs (es ++ fs) (body_at (codes_of vs) (length xs) t
      (tokens (length (bytes ++ (piece ++ byte ∷ []))) more)))
      (sym (regroup bytes piece byte more));
}

pub dump-fails : (bytes piece : List ℕ) (byte : ℕ) (vs : List Declared) (es : List Event)
    (s : Stand) (f : Fault) → IsBegun bytes vs es s → is_separator byte ≡ true
    → tokens_told (codes_of vs) 0 s (tokens (length bytes) piece) ≡ Err f
    → (more : List ℕ) → dump_of (bytes ++ (piece ++ byte ∷ more)) ≡ Err f
dump-fails bytes piece byte vs es s f begun sep told more =
    piece-told bytes piece byte vs es s begun sep more
    ∙ ap (λ (read : Result Told Fault). after vs es (read >>= λ p.
    body_at (codes_of vs) (length (bytes ++ (piece ++ byte ∷ more))) p.1
    (tokens (suc (length bytes + length piece)) more) >>= λ r. Ok (with_events p.0 r))) told

-- what was told of the last piece
ends-behind : (vs : List Declared) (es : List Event) (told : Result Told Fault)
    → after vs es (told >>= λ p. ended p.1.place >>= λ r. Ok (with_events p.0 r))
    ≡ (told >>= λ p. ended p.1.place >>= λ r. Ok (contents_with vs (with_events (es ++ p.0) r)))
ends-behind vs es (Ok p) = after-more vs es p.0 (ended p.1.place)
ends-behind vs es (Err f) = refl

pub dump-ends : (bytes last : List ℕ) (vs : List Declared) (es : List Event) (s : Stand)
    → IsBegun bytes vs es s
    → dump_of (bytes ++ last)
    ≡ (tokens_told (codes_of vs) (length (bytes ++ last)) s (tokens (length bytes) last)
    >>= λ p. ended p.1.place >>= λ r. Ok (contents_with vs (with_events (es ++ p.0) r)))
dump-ends bytes last vs es s begun =
    begun.says last
    ∙ ap (after vs es)
    (body-is-told (codes_of vs) (length (bytes ++ last)) s (tokens (length bytes) last))
    ∙ ends-behind vs es
    (tokens_told (codes_of vs) (length (bytes ++ last)) s (tokens (length bytes) last))

is-more : (us : List DumpToken) (x more : Result Header Fault) (h : Header) → x ≡ Ok h
    → IsMore us x more → more ≡ Ok (h.0, h.1 ++ us)
is-more us x more h e m = subst (λ (y : Result Header Fault). IsMore us y more) e m

-- the tokens of bytes, of a separator, and of more
cut-tokens : (bytes : List ℕ) (byte : ℕ) (more : List ℕ) → is_separator byte ≡ true
    → tokens 0 (bytes ++ byte ∷ more) ≡ tokens 0 bytes ++ tokens (suc (length bytes)) more
cut-tokens bytes byte more sep =
    let none : suc (0 + length bytes) ≡ suc (length bytes) = omega arith in
    tokens-are-cut 0 byte bytes more sep ∙ ap (λ (n : ℕ). tokens 0 bytes ++ tokens n more) none

dump-header : (all : List ℕ) (vs : List Declared) (ts : List DumpToken)
    → header [] [] (tokens 0 all) ≡ Ok (vs, ts)
    → dump_of all
    ≡ (body_at (codes_of vs) (length all) (stand Between 0 0) ts
    >>= λ r. Ok (contents_with vs r))
unfolding dump_of
dump-header all vs ts e =
    ap (λ (h : Result Header Fault). h >>= contents_behind (length all)) e
    ∙ dump-behind (length all) vs ts

pub dump-begins : (bytes : List ℕ) (byte : ℕ) (vs : List Declared) (es : List Event) (s : Stand)
    → is_separator byte ≡ true → HasBegun bytes vs es s → IsBegun (bytes ++ byte ∷ []) vs es s
dump-begins bytes byte vs es s sep begun = record {
  says = λ more.
      let us = tokens (suc (length bytes)) more in
      let behind = tokens begun.end (drop begun.end bytes) in
      let all = bytes ++ byte ∷ more in
      let le = begun.inside in
      let inner : begun.end + length (drop begun.end bytes) ≤ length bytes =
      omega (arith, length-drop begun.end bytes) in
      let far : length bytes < length all =
      omega (arith, length-append bytes (byte ∷ more)) in
      let long : suc (length bytes) ≡ length (bytes ++ byte ∷ []) =
      omega (arith, length-append bytes (byte ∷ [])) in
      ap dump_of (append_assoc bytes (byte ∷ []) more)
      ∙ dump-header all vs (behind ++ us)
      (ap (header [] []) (cut-tokens bytes byte more sep)
      ∙ is-more us (header [] [] (tokens 0 bytes)) _ (vs, behind) begun.declares
      (header-more us [] [] (tokens 0 bytes)))
      ∙ ap (λ (read : Result Rest Fault). read >>= λ r. Ok (contents_with vs r))
      (body-tells-on (codes_of vs) (length all) (stand Between 0 0) behind us
      ∙ ap (λ (told : Result Told Fault). told >>= λ p. body_at (codes_of vs) (length all) p.1 us
      >>= λ r. Ok (with_events p.0 r))
      (told-any (codes_of vs) (length all) (length bytes) (stand Between 0 0) behind
      (tokens-below (length bytes) begun.end (drop begun.end bytes) inner) far ∙ begun.tells))
      ∙ bind-bind (body_at (codes_of vs) (length all) s us) _ _
      ∙ ap (λ (n : ℕ). after vs es (body_at (codes_of vs) (length all) s (tokens n more))) long
      ∙ ap (λ (xs : List ℕ). after vs es (body_at (codes_of vs) (length xs) s
      (tokens (length (bytes ++ byte ∷ [])) more))) (sym (append_assoc bytes (byte ∷ []) more));
}

pub header-fails : (bytes : List ℕ) (byte : ℕ) (more : List ℕ) → is_separator byte ≡ true
    → IsMore (tokens (suc (length bytes)) more) (header [] [] (tokens 0 bytes))
    (header [] [] (tokens 0 (bytes ++ byte ∷ more)))
header-fails bytes byte more sep =
    rw (cut-tokens bytes byte more sep)
    (header-more (tokens (suc (length bytes)) more) [] [] (tokens 0 bytes))
