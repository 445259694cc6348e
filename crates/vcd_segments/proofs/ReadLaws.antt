-- Dumps in chunks.
use Rattle.std.proofs.Common.{◌≡◌, ℕ, zero, suc, ◌+◌, ◌<◌, ◌≤◌, ◌≢◌, Bool, true, false, eqb}
use Rattle.std.proofs.Common.{List, [], ◌∷◌, ◌++◌, length, map, Result, Ok, Err, ◌⊎◌, inl, inr}
use Rattle.std.proofs.Common.{refl, sym, ap, ◌∙◌, subst, arith}
use Rattle.std.proofs.lemmas.List.{append-nil, length-append}
use Rattle.std.proofs.lemmas.Bool.Decides.{eqb_tells}
use Rattle.vcd_reader.specs.declared.fault.Fault.{Fault}
use Rattle.vcd_reader.specs.declared.fault.Fault.TheVariants.{UnclosedSection, Truncated}
use Rattle.vcd_reader.specs.Faults.{◌>>=◌}
use Rattle.vcd_reader.specs.Tokens.{DumpToken, is_separator, tokens}
use Rattle.vcd_reader.specs.Variables.{Declared, codes_of}
use Rattle.vcd_reader.specs.Body.{Rest}
use Rattle.vcd_reader.specs.Dump.{Contents, dump_of}
use Rattle.vcd_segments.specs.Pieces.{Place, Between, AfterDigits, AfterText, Inside, Stand, stand}
use Rattle.vcd_segments.specs.Pieces.{Event, Told, tokens_told, ended, with_events, body_at}
use Rattle.vcd_segments.specs.Beginnings.{contents_with, IsBegun}
use Rattle.vcd_segments.specs.Steps.{blank_step, closed_by, open_behind}
use Rattle.vcd_segments.specs.Shifts.{moved_token, moved_place, moved_stand, moved_fault, moved_told}
use Rattle.vcd_segments.specs.Reads.{is_at_end}
use Rattle.vcd_segments.proofs.PieceLaws.{body-is-told, finish, tokens-are-cut}
use Rattle.vcd_segments.proofs.BeginLaws.{differs, told-any, tokens-below, after}
use Rattle.vcd_segments.proofs.BeginLaws.{dump-goes-on, dump-fails}
use Rattle.vcd_segments.proofs.StepLaws.{dump-has-steps}
use Rattle.vcd_segments.proofs.ShiftLaws.{tokens-move, told-moves}

-- no token of a piece is the last one, here or further on
never-last : (by at : ℕ) → eqb (suc (by + at)) 0 ≡ eqb (suc at) 0
never-last by at =
    differs (suc (by + at)) 0 (λ e. absurd (omega arith))
    ∙ sym (differs (suc at) 0 (λ e. absurd (omega arith)))

-- a token ends the longer input where it ends the shorter one
last-as-well : (by len at : ℕ) → eqb (suc (by + at)) (by + len) ≡ eqb (suc at) len
last-as-well by len at = elim (eqb_tells (suc at) len) [
  | inl p ↦
      let same : suc at ≡ len = p.1 in
      let far : suc (by + at) ≡ by + len = omega arith in
      ap (λ (n : ℕ). eqb n (by + len)) far ∙ itself (by + len) ∙ sym p.0
  | inr p ↦
      differs (suc (by + at)) (by + len)
      (λ e. p.1 (let same : suc at ≡ len = omega arith in same))
      ∙ sym p.0
]
  where
    itself : (n : ℕ) → eqb n n ≡ true
    itself n = elim (eqb_tells n n) [ inl p ↦ p.0 | inr p ↦ absurd (p.1 refl) ]

between-stays : (by : ℕ) (t : Stand) → t.place ≡ Between → moved_stand by t ≡ t
between-stays by t e =
    ap (λ (p : Place). (let x : Stand =
    record { place = moved_place by p; count = t.count; now = t.now } in x)) e
    ∙ sym (ap (λ (p : Place). (let x : Stand =
    record { place = p; count = t.count; now = t.now } in x)) e)

-- the tokens of a chunk are those before its separator
chunk-tokens : (piece : List ℕ) (byte : ℕ) → is_separator byte ≡ true
    → tokens 0 (piece ++ byte ∷ []) ≡ tokens 0 piece
unfolding tokens
chunk-tokens piece byte sep = tokens-are-cut 0 byte piece [] sep ∙ append-nil (tokens 0 piece)

module _ (declared : List (List ℕ)) (s : Stand) where
  -- what a chunk tells as a body of its own, its tokens tell of any longer input
  chunk-told : (piece : List ℕ) (byte : ℕ) → is_separator byte ≡ true
      → tokens_told declared (length (piece ++ byte ∷ [])) s (tokens 0 (piece ++ byte ∷ []))
      ≡ tokens_told declared 0 s (tokens 0 piece)
  chunk-told piece byte sep =
      let len = length (piece ++ byte ∷ []) in
      let long : length piece < len = omega (arith, length-append piece (byte ∷ [])) in
      ap (tokens_told declared len s) (chunk-tokens piece byte sep)
      ∙ told-any declared len (length piece) s (tokens 0 piece)
      (tokens-below (length piece) 0 piece (omega arith)) long

  -- and so they do further on
  told-behind : (by len far : ℕ) (bytes : List ℕ)
      → ((at : ℕ) → eqb (suc (by + at)) far ≡ eqb (suc at) len)
      → tokens_told declared far (moved_stand by s) (tokens by bytes)
      ≡ moved_told by (tokens_told declared len s (tokens 0 bytes))
  told-behind by len far bytes same =
      let none : by ≡ by + 0 = omega arith in
      ap (λ (n : ℕ). tokens_told declared far (moved_stand by s) (tokens n bytes)) none
      ∙ ap (tokens_told declared far (moved_stand by s)) (tokens-move by 0 bytes)
      ∙ told-moves declared by len far same s (tokens 0 bytes)

pub chunk-goes-on : (bytes piece : List ℕ) (byte : ℕ) (vs : List Declared) (es fs : List Event)
    (count now : ℕ) (t : Stand) → IsBegun bytes vs es (stand Between count now)
    → is_separator byte ≡ true
    → tokens_told (codes_of vs) (length (piece ++ byte ∷ [])) (stand Between count now)
    (tokens 0 (piece ++ byte ∷ [])) ≡ Ok (fs, t)
    → t.place ≡ Between → IsBegun (bytes ++ (piece ++ byte ∷ [])) vs (es ++ fs) t
chunk-goes-on bytes piece byte vs es fs count now t begun sep told between =
    let s = stand Between count now in
    let by = length bytes in
    let here : tokens_told (codes_of vs) 0 s (tokens 0 piece) ≡ Ok (fs, t) =
    sym (chunk-told (codes_of vs) s piece byte sep) ∙ told in
    let there : tokens_told (codes_of vs) 0 s (tokens by piece) ≡ Ok (fs, moved_stand by t) =
    told-behind (codes_of vs) s by 0 0 piece (never-last by) ∙ ap (moved_told by) here in
    subst (λ (u : Stand). IsBegun (bytes ++ (piece ++ byte ∷ [])) vs (es ++ fs) u)
    (between-stays by t between)
    (dump-goes-on bytes piece byte vs es fs s (moved_stand by t) begun sep there)

-- a body's fault that isn't that of its end is one that its tokens tell
told-fault : (told : Result Told Fault) (f : Fault) → (told >>= finish) ≡ Err f
    → is_at_end f ≡ false → told ≡ Err f
told-fault (Err g) f e no_end = let same : g ≡ f = cc in
    ap (λ (h : Fault). (let x : Result Told Fault = Err h in x)) same
told-fault (Ok p) f e no_end = absurd (at-end p.1.place p.0 f e no_end)
  where
    at-end : (place : Place) (es : List Event) (f : Fault)
        → (ended place >>= λ r. Ok (with_events es r)) ≡ Err f → is_at_end f ≡ false → ⊥
    at-end Between es f e no_end = absurd cc
    at-end (AfterDigits digits) es f e no_end =
        let same : Truncated ≡ f = cc in
        let t : is_at_end Truncated ≡ is_at_end f = ap is_at_end same in absurd cc
    at-end AfterText es f e no_end =
        let same : Truncated ≡ f = cc in
        let t : is_at_end Truncated ≡ is_at_end f = ap is_at_end same in absurd cc
    at-end (Inside word) es f e no_end =
        let same : UnclosedSection word ≡ f = cc in
        let t : is_at_end (UnclosedSection word) ≡ is_at_end f = ap is_at_end same in absurd cc

pub chunk-fails : (bytes piece : List ℕ) (byte : ℕ) (vs : List Declared) (es : List Event)
    (count now : ℕ) (f : Fault) → IsBegun bytes vs es (stand Between count now)
    → is_separator byte ≡ true
    → body_at (codes_of vs) (length (piece ++ byte ∷ [])) (stand Between count now)
    (tokens 0 (piece ++ byte ∷ [])) ≡ Err f
    → is_at_end f ≡ false
    → (more : List ℕ) → dump_of (bytes ++ (piece ++ byte ∷ more)) ≡ Err (moved_fault (length bytes) f)
chunk-fails bytes piece byte vs es count now f begun sep fails no_end more =
    let s = stand Between count now in
    let by = length bytes in
    let chunk = piece ++ byte ∷ [] in
    let told : tokens_told (codes_of vs) (length chunk) s (tokens 0 chunk) ≡ Err f =
    told-fault (tokens_told (codes_of vs) (length chunk) s (tokens 0 chunk)) f
    (sym (body-is-told (codes_of vs) (length chunk) s (tokens 0 chunk)) ∙ fails) no_end in
    let here : tokens_told (codes_of vs) 0 s (tokens 0 piece) ≡ Err f =
    sym (chunk-told (codes_of vs) s piece byte sep) ∙ told in
    let there : tokens_told (codes_of vs) 0 s (tokens by piece) ≡ Err (moved_fault by f) =
    told-behind (codes_of vs) s by 0 0 piece (never-last by) ∙ ap (moved_told by) here in
    dump-fails bytes piece byte vs es s (moved_fault by f) begun sep there more

pub last-chunk-ends : (bytes last : List ℕ) (vs : List Declared) (es fs : List Event)
    (count now : ℕ) (t : Stand) → IsBegun bytes vs es (stand Between count now)
    → tokens_told (codes_of vs) (length last) (stand Between count now) (tokens 0 last)
    ≡ Ok (fs, t)
    → t.place ≡ Between
    → dump_of (bytes ++ last) ≡ Ok (record {
      variables = vs;
      steps = closed_by (blank_step 0) (es ++ fs)
          ++ open_behind (blank_step 0) (es ++ fs) ∷ [];
    })
last-chunk-ends bytes last vs es fs count now t begun told between =
    let s = stand Between count now in
    let by = length bytes in
    let far : by + length last ≡ length (bytes ++ last) = sym (length-append bytes last) in
    let same_end : moved_stand by t ≡ stand Between t.count t.now =
    between-stays by t between ∙ ap (λ (p : Place). (let x : Stand =
    record { place = p; count = t.count; now = t.now } in x)) between in
    let there : tokens_told (codes_of vs) (by + length last) s (tokens by last)
    ≡ Ok (fs, stand Between t.count t.now) =
    told-behind (codes_of vs) s by (length last) (by + length last) last
    (last-as-well by (length last))
    ∙ ap (moved_told by) told
    ∙ ap (λ (u : Stand). (let x : Result Told Fault = Ok (fs, u) in x)) same_end in
    dump-has-steps bytes last vs es fs s t.count t.now begun
    (ap (λ (n : ℕ). tokens_told (codes_of vs) n s (tokens by last)) (sym far) ∙ there)

-- what a body says further on
abbrev moved_rest : ℕ → Result Rest Fault → Result Rest Fault
moved_rest by (Ok r) = Ok r
moved_rest by (Err f) = Err (moved_fault by f)

end-moves : (by : ℕ) (place : Place) (es : List Event)
    → (ended (moved_place by place) >>= λ r. Ok (with_events es r))
    ≡ moved_rest by (ended place >>= λ r. Ok (with_events es r))
end-moves by Between es = refl
end-moves by (AfterDigits digits) es = refl
end-moves by AfterText es = refl
end-moves by (Inside word) es = refl

finish-moves : (by : ℕ) (told : Result Told Fault)
    → (moved_told by told >>= finish) ≡ moved_rest by (told >>= finish)
finish-moves by (Ok p) = end-moves by p.1.place p.0
finish-moves by (Err f) = refl

pub last-chunk-fails : (bytes last : List ℕ) (vs : List Declared) (es : List Event)
    (count now : ℕ) (f : Fault) → IsBegun bytes vs es (stand Between count now)
    → body_at (codes_of vs) (length last) (stand Between count now) (tokens 0 last) ≡ Err f
    → dump_of (bytes ++ last) ≡ Err (moved_fault (length bytes) f)
last-chunk-fails bytes last vs es count now f begun fails =
    let s = stand Between count now in
    let by = length bytes in
    let far : length (bytes ++ last) ≡ by + length last = length-append bytes last in
    let there : body_at (codes_of vs) (by + length last) s (tokens by last)
    ≡ Err (moved_fault by f) =
    body-is-told (codes_of vs) (by + length last) s (tokens by last)
    ∙ ap (λ (told : Result Told Fault). told >>= finish)
    (told-behind (codes_of vs) s by (length last) (by + length last) last
    (last-as-well by (length last)))
    ∙ finish-moves by (tokens_told (codes_of vs) (length last) s (tokens 0 last))
    ∙ ap (moved_rest by)
    (sym (body-is-told (codes_of vs) (length last) s (tokens 0 last)) ∙ fails) in
    begun.says last
    ∙ ap (λ (n : ℕ). after vs es (body_at (codes_of vs) n s (tokens by last))) far
    ∙ ap (after vs es) there
