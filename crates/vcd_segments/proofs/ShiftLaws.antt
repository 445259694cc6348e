-- Tokens that stand further behind.
use Rattle.std.proofs.Common.{◌≡◌, ℕ, zero, suc, ◌+◌, Bool, true, false, cond, eqb, ltb}
use Rattle.std.proofs.Common.{List, [], ◌∷◌, ◌++◌, map, Option, Some, None, Result, Ok, Err}
use Rattle.std.proofs.Common.{refl, sym, ap, ◌∙◌, arith}
use Rattle.std.specs.List.{list_all}
use Rattle.std.specs.Str.{bytes_eq}
use Rattle.std.specs.Prelude.{codes}
use Rattle.vcd_reader.specs.declared.fault.Fault.{Fault}
use Rattle.vcd_reader.specs.declared.fault.Fault.TheVariants.{BadToken, UnknownCode, TimeBack}
use Rattle.vcd_reader.specs.declared.fault.Fault.TheVariants.{Truncated, TooLarge}
use Rattle.vcd_reader.specs.Faults.{◌>>=◌}
use Rattle.vcd_reader.specs.Tokens.{DumpToken, is_separator, token_goes_on, with_byte, tokens}
use Rattle.vcd_reader.specs.Variables.{is_code_byte, place_of}
use Rattle.vcd_reader.specs.Body.{Kind, Time, Scalar, Vector, Text, Lone, Section, Bad, kind_of}
use Rattle.vcd_reader.specs.Body.{most_changes, missing_fault, codeless_fault, behind_first}
use Rattle.vcd_segments.specs.Pieces.{Place, Between, AfterDigits, AfterText, Inside, Stand, stand}
use Rattle.vcd_segments.specs.Pieces.{Event, Changes, Begins, Told, change_told, scalar_told}
use Rattle.vcd_segments.specs.Pieces.{time_told, kind_told, place_told, more_told, tokens_told}
use Rattle.vcd_segments.specs.Shifts.{moved_token, moved_place, moved_stand, moved_fault}
use Rattle.vcd_segments.specs.Shifts.{moved_told}
use Rattle.vcd_segments.proofs.PieceLaws.{bind-bind, bind-same}

byte-moves : (by b at : ℕ) (ts : List DumpToken)
    → with_byte b (by + at) (map (moved_token by) ts) ≡ map (moved_token by) (with_byte b at ts)
byte-moves by b at [] = refl
byte-moves by b at (t ∷ ts) = refl

if-moves : (by b at : ℕ) (s g : Bool) (ts : List DumpToken)
    → cond s (map (moved_token by) ts) (cond g (with_byte b (by + at) (map (moved_token by) ts))
    (record { text = b ∷ []; at = by + at } ∷ map (moved_token by) ts))
    ≡ map (moved_token by)
    (cond s ts (cond g (with_byte b at ts) (record { text = b ∷ []; at = at } ∷ ts)))
if-moves by b at true g ts = refl
if-moves by b at false true ts = byte-moves by b at ts
if-moves by b at false false ts = refl

pub tokens-move : (by at : ℕ) (bytes : List ℕ)
    → tokens (by + at) bytes ≡ map (moved_token by) (tokens at bytes)
unfolding tokens
tokens-move by at [] = refl
tokens-move by at (b ∷ bs) =
    let next : suc (by + at) ≡ by + suc at = omega arith in
    let rest : tokens (suc (by + at)) bs ≡ map (moved_token by) (tokens (suc at) bs) =
    ap (λ (n : ℕ). tokens n bs) next ∙ tokens-move by (suc at) bs in
    ap (λ (ts : List DumpToken). cond (is_separator b) ts (cond (token_goes_on bs)
    (with_byte b (by + at) ts) (record { text = b ∷ []; at = by + at } ∷ ts))) rest
    ∙ if-moves by b at (is_separator b) (token_goes_on bs) (tokens (suc at) bs)

module _ (declared : List (List ℕ)) (by len far : ℕ)
    (same : (at : ℕ) → eqb (suc (by + at)) far ≡ eqb (suc at) len) where
  missing-moves : (known : Bool) (at : ℕ)
      → (let x : Result Told Fault =
      Err (cond known (UnknownCode (by + at)) (BadToken (by + at))) in x)
      ≡ moved_told by (Err (cond known (UnknownCode at) (BadToken at)))
  missing-moves true at = refl
  missing-moves false at = refl

  room-moves : (room : Bool) (p : Told) (f : Fault) → moved_stand by p.1 ≡ p.1
      → moved_fault by f ≡ f
      → cond room (Ok p) (Err f) ≡ moved_told by (cond room (Ok p) (Err f))
  room-moves true p f e g =
      ap (λ (s : Stand). (let x : Result Told Fault = Ok (p.0, s) in x)) (sym e)
  room-moves false p f e g = ap (λ (h : Fault). (let x : Result Told Fault = Err h in x)) (sym g)

  change-moves : (o : Option ℕ) (code digits : List ℕ) (at count now : ℕ)
      → change_told o code digits (by + at) count now
      ≡ moved_told by (change_told o code digits at count now)
  change-moves None code digits at count now = missing-moves (list_all is_code_byte code) at
  change-moves (Some n) code digits at count now =
      room-moves (ltb count most_changes) (_, stand Between (suc count) now) TooLarge refl refl

  codeless-moves : (last last' : Bool) (at : ℕ) → last' ≡ last
      → (let x : Result Told Fault = Err (cond last' Truncated (BadToken (by + at))) in x)
      ≡ moved_told by (Err (cond last Truncated (BadToken at)))
  codeless-moves true last' at e =
      ap (λ (b : Bool). (let x : Result Told Fault =
      Err (cond b Truncated (BadToken (by + at))) in x)) e
  codeless-moves false last' at e =
      ap (λ (b : Bool). (let x : Result Told Fault =
      Err (cond b Truncated (BadToken (by + at))) in x)) e

  scalar-moves : (digit : ℕ) (text : List ℕ) (at count now : ℕ)
      → scalar_told declared far digit text (by + at) count now
      ≡ moved_told by (scalar_told declared len digit text at count now)
  scalar-moves digit [] at count now =
      codeless-moves (eqb (suc at) len) (eqb (suc (by + at)) far) at (same at)
  scalar-moves digit (c ∷ code) at count now =
      change-moves (place_of declared (c ∷ code)) (c ∷ code) (digit ∷ []) at count now

  time-moves : (low equal : Bool) (time at count now : ℕ)
      → cond low (Err (TimeBack (by + at))) (cond equal (Ok ([], stand Between count now))
      (Ok (Begins time ∷ [], stand Between count time)))
      ≡ moved_told by (cond low (Err (TimeBack at)) (cond equal (Ok ([], stand Between count now))
      (Ok (Begins time ∷ [], stand Between count time))))
  time-moves true equal time at count now = refl
  time-moves false true time at count now = refl
  time-moves false false time at count now = refl

  kind-moves : (k : Kind) (t : DumpToken) (count now : ℕ)
      → kind_told k declared far (moved_token by t) count now
      ≡ moved_told by (kind_told k declared len t count now)
  kind-moves (Time time) t count now = time-moves (ltb time now) (eqb time now) time t.at count now
  kind-moves (Scalar digit) t count now = scalar-moves digit (behind_first t.text) t.at count now
  kind-moves (Vector digits) t count now = refl
  kind-moves Text t count now = refl
  kind-moves Lone t count now = refl
  kind-moves Section t count now = refl
  kind-moves Bad t count now = refl

  stop-moves : (stop : Bool) (word count now : ℕ)
      → cond stop (Ok ([], stand Between count now))
      (Ok ([], stand (Inside (by + word)) count now))
      ≡ moved_told by (cond stop (Ok ([], stand Between count now))
      (Ok ([], stand (Inside word) count now)))
  stop-moves true word count now = refl
  stop-moves false word count now = refl

  place-moves : (place : Place) (t : DumpToken) (count now : ℕ)
      → place_told (moved_place by place) declared far (moved_token by t) count now
      ≡ moved_told by (place_told place declared len t count now)
  place-moves Between t count now = kind-moves (kind_of t.text) t count now
  place-moves (AfterDigits digits) t count now =
      change-moves (place_of declared t.text) t.text digits t.at count now
  place-moves AfterText t count now = refl
  place-moves (Inside word) t count now =
      stop-moves (bytes_eq t.text (codes "$end")) word count now

  more-moves : (es : List Event) (told : Result Told Fault)
      → more_told es (moved_told by told) ≡ moved_told by (more_told es told)
  more-moves es (Ok p) = refl
  more-moves es (Err f) = refl

  bind-moves : (told : Result Told Fault) (f g : Stand → Result Told Fault)
      → ((s : Stand) → f (moved_stand by s) ≡ moved_told by (g s))
      → (moved_told by told >>= λ p. more_told p.0 (f p.1))
      ≡ moved_told by (told >>= λ p. more_told p.0 (g p.1))
  bind-moves (Ok p) f g e =
      ap (more_told p.0) (e p.1) ∙ more-moves p.0 (g p.1)
  bind-moves (Err h) f g e = refl

  pub told-moves : (s : Stand) (ts : List DumpToken)
      → tokens_told declared far (moved_stand by s) (map (moved_token by) ts)
      ≡ moved_told by (tokens_told declared len s ts)
  unfolding tokens_told
  told-moves s [] = refl
  told-moves s (t ∷ ts) =
      ap (λ (told : Result Told Fault). told >>= λ p.
      more_told p.0 (tokens_told declared far p.1 (map (moved_token by) ts)))
      (place-moves s.place t s.count s.now)
      ∙ bind-moves (place_told s.place declared len t s.count s.now)
      (λ q. tokens_told declared far q (map (moved_token by) ts))
      (λ q. tokens_told declared len q ts) (λ q. told-moves q ts)
