-- Reading the body item by item.
use Rattle.std.proofs.Common.{◌≡◌, ℕ, suc, ◌+◌, ◌-◌, ◌<◌, ◌≤◌, Bool, true, false, cond, ltb, eqb, List, [], ◌∷◌, ◌++◌}
use Rattle.std.proofs.Common.{length, Option, Some, None, Result, Ok, Err, refl, sym, ap, ◌∙◌, arith, append_assoc}
use Rattle.std.proofs.Common.{add-one, get_or, inl, inr}
use Rattle.std.specs.Str.{bytes_eq}
use Rattle.std.specs.Prelude.{codes}
use Rattle.std.specs.List.{slice_range}
use Rattle.std.proofs.Math.Seq.{drop-cons}
use Rattle.std.proofs.lemmas.List.{append-nil}
use Rattle.std.proofs.lemmas.Bool.{eq-eqb, lt-ltb, le-ltb}
use Rattle.std.proofs.lemmas.Bool.Decides.{eqb_tells}
use Rattle.vcd_reader.specs.declared.item.Seen.TheVariants as code
use Rattle.vcd_reader.specs.declared.fault.Fault.{Fault}
use Rattle.vcd_reader.specs.declared.fault.Fault.TheVariants.{BadToken, TimeBack, UnclosedSection, Truncated, TooLarge}
use Rattle.vcd_reader.specs.declared.item.Item.TheVariants.{Timed, Changed}
use Rattle.vcd_reader.specs.Tokens.{DumpToken}
use Rattle.vcd_reader.specs.Numbers.{bit_of, bits_from, bits_value}
use Rattle.vcd_reader.specs.Values.{ValueChange}
use Rattle.vcd_reader.specs.Variables.{place_of}
use Rattle.vcd_reader.specs.Faults.{◌>>=◌}
use Rattle.vcd_reader.specs.Stored.{StoredChange, StoredStep, kept_change, kept_step}
use Rattle.vcd_reader.specs.Body.{Kind, Time, Scalar, Vector, Text, Lone, Section, Bad, Rest, Next, with_step}
use Rattle.vcd_reader.specs.Body.{with_time, change_by_code, scalar, by_kind, behind_first, most_changes, body, section}
use Rattle.vcd_reader.specs.Body.{vector, behind_ignored, steps_of, kind_of}
use Rattle.vcd_reader.specs.Kept.{seen_kind, KeptRest, kept_result, kept_steps, with_kept, with_kept_step, with_item}
use Rattle.vcd_reader.specs.Kept.{code_item, scalar_item}
use Rattle.vcd_reader.specs.Readings.{joined}

pub joined-none : (read : Result Rest Fault) → kept_steps (steps_of read) ≡ joined [] 0 [] (kept_result read)
unfolding kept_step
joined-none (Ok r) = refl
joined-none (Err f) = refl

pub joined-change : (steps : List StoredStep) (now : ℕ) (changes : List StoredChange) (c : StoredChange)
    (read : Result KeptRest Fault) → joined steps now changes (with_kept c read)
    ≡ joined steps now (changes ++ c ∷ []) read
joined-change steps now changes c (Ok r) =
    ap (λ (cs : List StoredChange). Ok (steps ++ record { time = now; changes = cs } ∷ r.1))
    (sym (append_assoc changes (c ∷ []) r.0))
joined-change steps now changes c (Err f) = refl

pub joined-step : (steps : List StoredStep) (now time : ℕ) (changes : List StoredChange) (read : Result KeptRest Fault)
    → joined steps now changes (with_kept_step time read)
    ≡ joined (steps ++ record { time = now; changes = changes } ∷ []) time [] read
joined-step steps now time changes (Ok r) =
    ap (λ (cs : List StoredChange).
    Ok (steps ++ record { time = now; changes = cs } ∷ record { time = time; changes = r.0 } ∷ r.1))
    (append-nil changes)
    ∙ ap (λ (ms : List StoredStep). Ok ms)
    (sym (append_assoc steps (record { time = now; changes = changes } ∷ [])
    (record { time = time; changes = r.0 } ∷ r.1)))
joined-step steps now time changes (Err f) = refl

-- keeping goes through each part of a reading
kept-change : (c : ValueChange) (read : Result Rest Fault) → kept_result (read >>= λ r. Ok (c ∷ r.0, r.1))
    ≡ with_kept (kept_change c) (kept_result read)
kept-change c (Ok r) = refl
kept-change c (Err f) = refl

kept-step : (time : ℕ) (read : Result Rest Fault) → kept_result (with_step time read)
    ≡ with_kept_step time (kept_result read)
unfolding kept_step
kept-step time (Ok r) = refl
kept-step time (Err f) = refl

kept-cond : (b : Bool) (x y : Result Rest Fault) → kept_result (cond b x y) ≡ cond b (kept_result x) (kept_result y)
kept-cond true x y = refl
kept-cond false x y = refl

kept-with_time : (time at count now : ℕ) (rest : Next) → kept_result (with_time time at count now rest)
    ≡ with_item (Timed time at) count now (λ c n. kept_result (rest c n))
kept-with_time time at count now rest =
    kept-cond (ltb time now) _ _ ∙ ap (λ (x : Result KeptRest Fault). cond (ltb time now) (Err (TimeBack at)) x)
    (kept-cond (eqb time now) _ _
    ∙ ap (λ (x : Result KeptRest Fault). cond (eqb time now) (kept_result (rest count now)) x)
    (kept-step time (rest count time)))

kept-changed : (o : Option ℕ) (text digits : List ℕ) (at count now : ℕ) (rest : Next)
    → kept_result (change_by_code o text digits at count now rest)
    ≡ (code_item o text (bits_value digits) at >>= λ i. with_item i count now (λ c n. kept_result (rest c n)))
unfolding kept_change
kept-changed None text digits at count now rest = refl
kept-changed (Some n) text digits at count now rest =
    kept-cond (ltb count most_changes) _ _
    ∙ ap (λ (x : Result KeptRest Fault). cond (ltb count most_changes) x (Err TooLarge))
    (kept-change (record { code = n; digits = digits }) (rest (suc count) now))

bits_value-one : (d : ℕ) → bits_value (d ∷ []) ≡ bit_of d
unfolding bits_from
bits_value-one d = elim (eqb_tells d 49) [ inl p ↦ rw p.0 refl | inr p ↦ rw p.0 refl ]

kept-scalar : (declared : List (List ℕ)) (len digit : ℕ) (text : List ℕ) (at count now : ℕ) (rest : Next)
    → kept_result (scalar declared len digit text at count now rest)
    ≡ (scalar_item declared len text (bit_of digit) at
    >>= λ i. with_item i count now (λ c n. kept_result (rest c n)))
kept-scalar declared len digit [] at count now rest = refl
kept-scalar declared len digit (c ∷ text) at count now rest =
    kept-changed (place_of declared (c ∷ text)) (c ∷ text) (digit ∷ []) at count now rest
    ∙ ap (λ (v : ℕ). code_item (place_of declared (c ∷ text)) (c ∷ text) v at
    >>= λ i. with_item i count now (λ c n. kept_result (rest c n))) (bits_value-one digit)

-- what each kind of token leads to
module _ (declared : List (List ℕ)) (len count now : ℕ) where
  module _ (t : DumpToken) (items : Next) (vectors : List ℕ → Result Rest Fault) (second words : Result Rest Fault)
    where
      by-time : (k : Kind) (time : ℕ) → code.Time time ≡ seen_kind k
          → kept_result (by_kind k declared len t count now items vectors second words)
          ≡ with_item (Timed time t.at) count now (λ c n. kept_result (items c n))
      by-time (Time n) time e = let h : n ≡ time = cc in rw h (kept-with_time time t.at count now items)
      by-time k time e = absurd cc

      by-scalar : (k : Kind) (value : ℕ) → code.Scalar value ≡ seen_kind k
          → kept_result (by_kind k declared len t count now items vectors second words)
          ≡ (scalar_item declared len (behind_first t.text) value t.at
          >>= λ i. with_item i count now (λ c n. kept_result (items c n)))
      by-scalar (Scalar digit) value e =
          let h : bit_of digit ≡ value = cc in kept-scalar declared len digit (behind_first t.text) t.at count now items
          ∙ rw h refl
      by-scalar k value e = absurd cc

      by-vector : (k : Kind) (value : ℕ) → code.Vector value ≡ seen_kind k → (digits : List ℕ)
          × (bits_value digits ≡ value)
          × (kept_result (by_kind k declared len t count now items vectors second words) ≡ kept_result (vectors digits))
      by-vector (Vector digits) value e = (digits, cc, refl)
      by-vector k value e = absurd cc

      by-text : (k : Kind) → code.Text ≡ seen_kind k
          → kept_result (by_kind k declared len t count now items vectors second words) ≡ kept_result second
      by-text Text e = refl
      by-text k e = absurd cc

      by-lone : (k : Kind) → code.Lone ≡ seen_kind k
          → kept_result (by_kind k declared len t count now items vectors second words) ≡ kept_result (items count now)
      by-lone Lone e = refl
      by-lone k e = absurd cc

      by-section : (k : Kind) → code.Section ≡ seen_kind k
          → kept_result (by_kind k declared len t count now items vectors second words) ≡ kept_result words
      by-section Section e = refl
      by-section k e = absurd cc

      by-bad : (k : Kind) → code.Bad ≡ seen_kind k
          → kept_result (by_kind k declared len t count now items vectors second words) ≡ Err (BadToken t.at)
      by-bad Bad e = refl
      by-bad k e = absurd cc

  pub body-none : (ts : List DumpToken) → ts ≡ [] → kept_result (body declared len count now ts) ≡ Ok ([], [])
  unfolding body
  body-none ts e = rw e refl

  vector-cons : (digits : List ℕ) (ts : List DumpToken) (text : List ℕ) (at : ℕ) (rest : List DumpToken)
      → ts ≡ record { text = text; at = at } ∷ rest
      → vector declared len count now digits ts ≡ change_by_code (place_of declared text) text digits at count now
      (λ c n. body declared len c n rest)
  unfolding body vector
  vector-cons digits ts text at rest e = rw e refl

  module _ (ts : List DumpToken) (text : List ℕ) (at : ℕ) (rest : List DumpToken)
      (e : ts ≡ record { text = text; at = at } ∷ rest) where
    body-cons : body declared len count now ts
        ≡ by_kind (kind_of text) declared len (record { text = text; at = at }) count now
        (λ c n. body declared len c n rest) (λ digits. vector declared len count now digits rest)
        (behind_ignored declared len count now rest) (section declared len count now at rest)
    unfolding body
    body-cons = rw e refl

    pub body-time : (time : ℕ) → code.Time time ≡ seen_kind (kind_of text)
        → kept_result (body declared len count now ts)
        ≡ with_item (Timed time at) count now (λ c n. kept_result (body declared len c n rest))
    body-time time k = ap kept_result body-cons ∙ by-time _ _ _ _ _ (kind_of text) time k

    pub body-scalar : (value : ℕ) → code.Scalar value ≡ seen_kind (kind_of text)
        → kept_result (body declared len count now ts)
        ≡ (scalar_item declared len (behind_first text) value at
        >>= λ i. with_item i count now (λ c n. kept_result (body declared len c n rest)))
    body-scalar value k = ap kept_result body-cons ∙ by-scalar _ _ _ _ _ (kind_of text) value k

    pub body-vector_none : (value : ℕ) → code.Vector value ≡ seen_kind (kind_of text) → rest ≡ []
        → kept_result (body declared len count now ts) ≡ Err Truncated
    unfolding body vector
    body-vector_none value k n =
        let v = by-vector (record { text = text; at = at }) (λ c m. body declared len c m rest)
        (λ digits. vector declared len count now digits rest) (behind_ignored declared len count now rest)
        (section declared len count now at rest) (kind_of text) value k in
        ap kept_result body-cons ∙ v.2 ∙ rw n refl

    pub body-vector : (value : ℕ) (text' : List ℕ) (at' : ℕ) (rest' : List DumpToken)
        → code.Vector value ≡ seen_kind (kind_of text) → rest ≡ record { text = text'; at = at' } ∷ rest'
        → kept_result (body declared len count now ts)
        ≡ (code_item (place_of declared text') text' value at'
        >>= λ i. with_item i count now (λ c n. kept_result (body declared len c n rest')))
    body-vector value text' at' rest' k n =
        let v =
        by-vector (record { text = text; at = at }) (λ c m. body declared len c m rest)
        (λ digits. vector declared len count now digits rest) (behind_ignored declared len count now rest)
        (section declared len count now at rest) (kind_of text) value k in
        ap kept_result body-cons ∙ v.2 ∙ ap kept_result (vector-cons v.0 rest text' at' rest' n)
        ∙ kept-changed (place_of declared text') text' v.0 at' count now (λ c m. body declared len c m rest')
        ∙ ap (λ (x : ℕ). code_item (place_of declared text') text' x at'
        >>= λ i. with_item i count now (λ c m. kept_result (body declared len c m rest'))) v.1

    pub body-text_none : code.Text ≡ seen_kind (kind_of text) → rest ≡ [] → kept_result (body declared len count now ts)
        ≡ Err Truncated
    unfolding body behind_ignored
    body-text_none k n = ap kept_result body-cons ∙ by-text _ _ _ _ _ (kind_of text) k ∙ rw n refl

    pub body-text : (skipped : DumpToken) (rest' : List DumpToken) → code.Text ≡ seen_kind (kind_of text)
        → rest ≡ skipped ∷ rest' → kept_result (body declared len count now ts)
        ≡ kept_result (body declared len count now rest')
    unfolding body behind_ignored
    body-text skipped rest' k n = ap kept_result body-cons ∙ by-text _ _ _ _ _ (kind_of text) k ∙ rw n refl

    pub body-lone : code.Lone ≡ seen_kind (kind_of text) → kept_result (body declared len count now ts)
        ≡ kept_result (body declared len count now rest)
    body-lone k = ap kept_result body-cons ∙ by-lone _ _ _ _ _ (kind_of text) k

    pub body-section : code.Section ≡ seen_kind (kind_of text) → kept_result (body declared len count now ts)
        ≡ kept_result (section declared len count now at rest)
    body-section k = ap kept_result body-cons ∙ by-section _ _ _ _ _ (kind_of text) k

    pub body-bad : code.Bad ≡ seen_kind (kind_of text) → kept_result (body declared len count now ts)
        ≡ Err (BadToken at)
    body-bad k = ap kept_result body-cons ∙ by-bad _ _ _ _ _ (kind_of text) k

  pub section-none : (word : ℕ) (ts : List DumpToken) → ts ≡ [] → section declared len count now word ts
      ≡ Err (UnclosedSection word)
  unfolding body section
  section-none word ts e = rw e refl

  pub section-end : (word : ℕ) (ts : List DumpToken) (text : List ℕ) (at : ℕ) (rest : List DumpToken)
      → ts ≡ record { text = text; at = at } ∷ rest → bytes_eq text (codes "$end") ≡ true
      → section declared len count now word ts ≡ body declared len count now rest
  unfolding body section
  section-end word ts text at rest e h = rw (e, h) refl

  pub section-more : (word : ℕ) (ts : List DumpToken) (text : List ℕ) (at : ℕ) (rest : List DumpToken)
      → ts ≡ record { text = text; at = at } ∷ rest → bytes_eq text (codes "$end") ≡ false
      → section declared len count now word ts ≡ section declared len count now word rest
  unfolding body section
  section-more word ts text at rest e h = rw (e, h) refl

pub ruleset items = (body-none, body-time, body-vector_none, body-text_none, body-text, body-lone, body-bad)

pub slice_range-cons : (xs : List ℕ) (i j : ℕ) → i < j → j ≤ length xs → slice_range xs i j
    ≡ get_or xs i 0 ∷ slice_range xs (i + 1) j
slice_range-cons xs i j lt le =
    let k : j - i ≡ suc (j - (i + 1)) = omega arith in
    let lti : i < length xs = omega arith in
    rw (k, drop-cons xs i 0 lti, add-one) refl

pub behind : (xs : List ℕ) (i j : ℕ) → i < j → j ≤ length xs → behind_first (slice_range xs i j)
    ≡ slice_range xs (i + 1) j
behind xs i j lt le = ap behind_first (slice_range-cons xs i j lt le)

-- a scalar with a code, and one without
pub scalar-code : (declared : List (List ℕ)) (len : ℕ) (bytes : List ℕ) (i j value at : ℕ) → i < j → j ≤ length bytes
    → scalar_item declared len (slice_range bytes i j) value at
    ≡ code_item (place_of declared (slice_range bytes i j)) (slice_range bytes i j) value at
scalar-code declared len bytes i j value at lt le = rw (slice_range-cons bytes i j lt le) refl

pub scalar-cut : (declared : List (List ℕ)) (bytes : List ℕ) (i j value : ℕ) → i + 1 ≡ j → j ≡ length bytes
    → scalar_item declared (length bytes) (slice_range bytes (i + 1) j) value i ≡ Err Truncated
scalar-cut declared bytes i j value e le =
    let none : slice_range bytes (i + 1) j ≡ [] = let z : j - (i + 1) ≡ 0 = omega arith in rw z refl in
    let at_end : eqb (suc i) (length bytes) ≡ true = eq-eqb (suc i) (length bytes) (omega arith) in
    rw (none, at_end) refl

pub scalar-bare : (declared : List (List ℕ)) (bytes : List ℕ) (i j value : ℕ) → i + 1 ≡ j → j < length bytes
    → scalar_item declared (length bytes) (slice_range bytes (i + 1) j) value i ≡ Err (BadToken i)
scalar-bare declared bytes i j value e lt =
    let none : slice_range bytes (i + 1) j ≡ [] = let z : j - (i + 1) ≡ 0 = omega arith in rw z refl in
    let inside : eqb (suc i) (length bytes) ≡ false =
    elim (eqb_tells (suc i) (length bytes)) [ inl p ↦ absurd (omega (arith, p.1)) | inr p ↦ p.0 ] in
    rw (none, inside) refl

pub ruleset scalars = (scalar-code, scalar-cut, scalar-bare)

-- what the code does with an item
pub applied-full : (n value count now : ℕ) (rest : ℕ → ℕ → Result KeptRest Fault) → 4294967295 ≤ count
    → with_item (Changed n value) count now rest ≡ Err TooLarge
applied-full n value count now rest h = let f : ltb count most_changes ≡ false = le-ltb _ _ h in rw f refl

pub applied-change : (n value count now : ℕ) (rest : ℕ → ℕ → Result KeptRest Fault) → count < 4294967295
    → with_item (Changed n value) count now rest ≡ with_kept (record { code = n; value = value })
    (rest (count + 1) now)
applied-change n value count now rest h = let t : ltb count most_changes ≡ true = lt-ltb _ _ h in rw (t, add-one) refl

pub applied-later : (time at count now : ℕ) (rest : ℕ → ℕ → Result KeptRest Fault) → now < time
    → with_item (Timed time at) count now rest ≡ with_kept_step time (rest count time)
applied-later time at count now rest h =
    let f : ltb time now ≡ false = le-ltb _ _ (omega arith) in
    let g : eqb time now ≡ false = elim (eqb_tells time now) [ inl p ↦ absurd (omega (arith, p.1)) | inr p ↦ p.0 ] in
    rw (f, g) refl

pub applied-equal : (time at count now : ℕ) (rest : ℕ → ℕ → Result KeptRest Fault) → time ≡ now
    → with_item (Timed time at) count now rest ≡ rest count now
applied-equal time at count now rest h =
    let f : ltb time now ≡ false = le-ltb _ _ (omega arith) in
    let g : eqb time now ≡ true = eq-eqb _ _ h in
    rw (f, g) refl
