-- Bodies in pieces.
use Rattle.std.proofs.Common.{◌≡◌, ℕ, zero, suc, ◌+◌, Bool, true, false, not, cond, ltb, eqb}
use Rattle.std.proofs.Common.{List, [], ◌∷◌, ◌++◌, length, Option, Some, None, Result, Ok, Err}
use Rattle.std.proofs.Common.{refl, sym, ap, ◌∙◌, append_assoc, arith}
use Rattle.std.specs.Str.{bytes_eq}
use Rattle.std.specs.Prelude.{codes}
use Rattle.vcd_reader.specs.declared.fault.Fault.{Fault}
use Rattle.vcd_reader.specs.declared.fault.Fault.TheVariants.{TimeBack}
use Rattle.vcd_reader.specs.Faults.{◌>>=◌}
use Rattle.vcd_reader.specs.Tokens.{DumpToken, is_separator, token_goes_on, with_byte, tokens}
use Rattle.vcd_reader.specs.Values.{ValueChange, Moment}
use Rattle.vcd_reader.specs.Variables.{place_of}
use Rattle.vcd_reader.specs.Body.{Kind, Time, Scalar, Vector, Text, Lone, Section, Bad, kind_of}
use Rattle.vcd_reader.specs.Body.{Rest, Next, most_changes, behind_first, by_kind, with_time}
use Rattle.vcd_reader.specs.Body.{with_step, change_by_code, scalar}
use Rattle.vcd_reader.specs.Body.{body, section, vector, behind_ignored}
use Rattle.vcd_segments.specs.Pieces.{Place, Between, AfterDigits, AfterText, Inside, Stand, stand}
use Rattle.vcd_segments.specs.Pieces.{Event, Changes, Begins, Told, change_told, scalar_told}
use Rattle.vcd_segments.specs.Pieces.{time_told, kind_told, place_told, more_told, tokens_told}
use Rattle.vcd_segments.specs.Pieces.{ended, with_events, body_of, body_at}

-- what goes on after a result goes on after what it came from
pub bind-bind : {A B C : Type 0} (read : Result A Fault) (f : A → Result B Fault)
    (g : B → Result C Fault) → ((read >>= f) >>= g) ≡ (read >>= λ x. f x >>= g)
bind-bind (Ok x) f g = refl
bind-bind (Err e) f g = refl

pub bind-same : {A B : Type 0} (read : Result A Fault) (f g : A → Result B Fault)
    → ((x : A) → f x ≡ g x) → (read >>= f) ≡ (read >>= g)
bind-same (Ok x) f g same = same x
bind-same (Err e) f g same = refl

bind-ok : {A : Type 0} (read : Result A Fault) → read ≡ (read >>= λ x. Ok x)
bind-ok (Ok x) = refl
bind-ok (Err e) = refl

-- tokens of which the first is known
record Starts (ts : List DumpToken) : Type 0 where
  first : DumpToken
  rest : List DumpToken
  is : ts ≡ first ∷ rest

starts-by : (s g : Bool) (c at : ℕ) (more : List DumpToken) → s ≡ false
    → (g ≡ true → Starts more)
    → Starts (cond s more (cond g (with_byte c at more) (record { text = c ∷ []; at = at } ∷ more)))
starts-by true g c at more e h = absurd cc
starts-by false true c at more e h =
    let m = h refl in record {
      first = record { text = c ∷ m.first.text; at = at };
      rest = m.rest;
      is = ap (with_byte c at) m.is;
    }
starts-by false false c at more e h = record {
  first = record { text = c ∷ []; at = at };
  rest = more;
  is = refl;
}

no-separator : (s : Bool) → not s ≡ true → s ≡ false
no-separator true e = absurd cc
no-separator false e = refl

-- bytes that go on with a token have one
first-token : (bytes : List ℕ) (at : ℕ) → token_goes_on bytes ≡ true → Starts (tokens at bytes)
unfolding tokens
first-token [] at e = absurd cc
first-token (c ∷ cs) at e =
    starts-by (is_separator c) (token_goes_on cs) c at (tokens (suc at) cs)
    (no-separator (is_separator c) e) (λ g. first-token cs (suc at) g)

goes-on-cut : (bytes : List ℕ) (byte : ℕ) (back : List ℕ) → is_separator byte ≡ true
    → token_goes_on (bytes ++ byte ∷ back) ≡ token_goes_on bytes
goes-on-cut [] byte back s = ap not s
goes-on-cut (c ∷ cs) byte back s = refl

-- a byte in front of tokens, and of the first of them
cut-more : (s g : Bool) (b at : ℕ) (whole front back : List DumpToken) → whole ≡ front ++ back
    → (g ≡ true → Starts front)
    → cond s whole (cond g (with_byte b at whole) (record { text = b ∷ []; at = at } ∷ whole))
    ≡ cond s front (cond g (with_byte b at front) (record { text = b ∷ []; at = at } ∷ front))
    ++ back
cut-more true g b at whole front back e h = e
cut-more false true b at whole front back e h =
    let m = h refl in
    ap (with_byte b at) (e ∙ ap (λ (ts : List DumpToken). ts ++ back) m.is)
    ∙ sym (ap (λ (ts : List DumpToken). with_byte b at ts ++ back) m.is)
cut-more false false b at whole front back e h =
    ap (λ (ts : List DumpToken). record { text = b ∷ []; at = at } ∷ ts) e

pub tokens-are-cut : (at byte : ℕ) (front back : List ℕ) → is_separator byte ≡ true
    → tokens at (front ++ byte ∷ back) ≡ tokens at front ++ tokens (suc (at + length front)) back
unfolding tokens
tokens-are-cut at byte [] back s =
    let none : at ≡ at + 0 = omega arith in
    rw s (ap (λ (n : ℕ). tokens (suc n) back) none)
tokens-are-cut at byte (b ∷ bs) back s =
    let whole = tokens (suc at) (bs ++ byte ∷ back) in
    let far : suc at + length bs ≡ at + suc (length bs) = omega arith in
    ap (λ (g : Bool). cond (is_separator b) whole
    (cond g (with_byte b at whole) (record { text = b ∷ []; at = at } ∷ whole)))
    (goes-on-cut bs byte back s)
    ∙ cut-more (is_separator b) (token_goes_on bs) b at whole (tokens (suc at) bs)
    (tokens (suc (suc at + length bs)) back) (tokens-are-cut (suc at) byte bs back s)
    (λ g. first-token bs (suc at) g)
    ∙ ap (λ (n : ℕ). tokens at (b ∷ bs) ++ tokens (suc n) back) far

-- events one after the other
pub events-append : (es fs : List Event) (r : Rest)
    → with_events (es ++ fs) r ≡ with_events es (with_events fs r)
events-append [] fs r = refl
events-append (Changes c ∷ es) fs r =
    ap (λ (q : Rest). (let x : Rest = (c ∷ q.0, q.1) in x)) (events-append es fs r)
events-append (Begins time ∷ es) fs r =
    ap (λ (q : Rest). (let x : Rest = ([], record { time = time; changes = q.0 } ∷ q.1) in x))
    (events-append es fs r)

told-pair : List Event → Stand → Told
told-pair es s = (es, s)

more-none : (read : Result Told Fault) → read ≡ more_told [] read
more-none (Ok p) = refl
more-none (Err e) = refl

more-more : (es fs : List Event) (read : Result Told Fault)
    → more_told es (more_told fs read) ≡ more_told (es ++ fs) read
more-more es fs (Ok p) =
    ap (λ (gs : List Event). (let x : Result Told Fault = Ok (gs, p.1) in x))
    (sym (append_assoc es fs p.0))
more-more es fs (Err e) = refl

-- one token of a body, before others
module _ (declared : List (List ℕ)) (len : ℕ) (ts : List DumpToken) where
  -- what was told, and the body that stands there
  abbrev go : Told → Result Rest Fault
  go p = body_at declared len p.1 ts >>= λ r. Ok (with_events p.0 r)

  abbrev items : Next
  items = λ count now. body declared len count now ts

  change-room : (room : Bool) (c : ValueChange) (count now : ℕ) (full : Fault)
      → cond room (items (suc count) now >>= λ r. Ok (c ∷ r.0, r.1)) (Err full)
      ≡ (cond room (Ok (Changes c ∷ [], stand Between (suc count) now)) (Err full) >>= go)
  change-room true c count now full = refl
  change-room false c count now full = refl

  change-step : (o : Option ℕ) (code digits : List ℕ) (at count now : ℕ)
      → change_by_code o code digits at count now items
      ≡ (change_told o code digits at count now >>= go)
  change-step None code digits at count now = refl
  change-step (Some n) code digits at count now =
      change-room (ltb count most_changes) (record { code = n; digits = digits }) count now _

  scalar-step : (digit : ℕ) (text : List ℕ) (at count now : ℕ)
      → scalar declared len digit text at count now items
      ≡ (scalar_told declared len digit text at count now >>= go)
  scalar-step digit [] at count now = refl
  scalar-step digit (c ∷ code) at count now =
      change-step (place_of declared (c ∷ code)) (c ∷ code) (digit ∷ []) at count now

  time-room : (low same : Bool) (time at count now : ℕ)
      → cond low (Err (TimeBack at))
      (cond same (items count now) (with_step time (items count time)))
      ≡ (cond low (Err (TimeBack at)) (cond same (Ok ([], stand Between count now))
      (Ok (Begins time ∷ [], stand Between count time))) >>= go)
  time-room true same time at count now = refl
  time-room false true time at count now = bind-ok (items count now)
  time-room false false time at count now = refl

  kind-step : (k : Kind) (t : DumpToken) (count now : ℕ)
      → by_kind k declared len t count now items
      (λ digits. vector declared len count now digits ts)
      (behind_ignored declared len count now ts) (section declared len count now t.at ts)
      ≡ (kind_told k declared len t count now >>= go)
  kind-step (Time time) t count now =
      time-room (ltb time now) (eqb time now) time t.at count now
  kind-step (Scalar digit) t count now = scalar-step digit (behind_first t.text) t.at count now
  kind-step (Vector digits) t count now = bind-ok (vector declared len count now digits ts)
  kind-step Text t count now = bind-ok (behind_ignored declared len count now ts)
  kind-step Lone t count now = bind-ok (items count now)
  kind-step Section t count now = bind-ok (section declared len count now t.at ts)
  kind-step Bad t count now = refl

  section-room : (stop : Bool) (word count now : ℕ)
      → cond stop (items count now) (section declared len count now word ts)
      ≡ (cond stop (Ok ([], stand Between count now)) (Ok ([], stand (Inside word) count now))
      >>= go)
  section-room true word count now = bind-ok (items count now)
  section-room false word count now = bind-ok (section declared len count now word ts)

  place-step : (place : Place) (t : DumpToken) (count now : ℕ)
      → body_of place declared len count now (t ∷ ts)
      ≡ (place_told place declared len t count now >>= go)
  unfolding body vector behind_ignored section
  place-step Between t count now = kind-step (kind_of t.text) t count now
  place-step (AfterDigits digits) t count now =
      change-step (place_of declared t.text) t.text digits t.at count now
  place-step AfterText t count now = bind-ok (items count now)
  place-step (Inside word) t count now =
      section-room (bytes_eq t.text (codes "$end")) word count now

end-step : (place : Place) (declared : List (List ℕ)) (len count now : ℕ)
    → body_of place declared len count now [] ≡ (ended place >>= λ r. Ok (with_events [] r))
unfolding body vector behind_ignored section
end-step Between declared len count now = refl
end-step (AfterDigits digits) declared len count now = refl
end-step AfterText declared len count now = refl
end-step (Inside word) declared len count now = refl

-- the end of the input behind what was told
abbrev pub finish : Told → Result Rest Fault
finish p = ended p.1.place >>= λ r. Ok (with_events p.0 r)

pub finish-behind : (es fs : List Event) (read : Result Rest Fault)
    → ((read >>= λ r. Ok (with_events fs r)) >>= λ r. Ok (with_events es r))
    ≡ (read >>= λ r. Ok (with_events (es ++ fs) r))
finish-behind es fs (Ok r) =
    ap (λ (q : Rest). (let x : Result Rest Fault = Ok q in x)) (sym (events-append es fs r))
finish-behind es fs (Err e) = refl

pub more-finish : (es : List Event) (told : Result Told Fault)
    → ((told >>= finish) >>= λ r. Ok (with_events es r)) ≡ (more_told es told >>= finish)
more-finish es (Ok p) = finish-behind es p.0 (ended p.1.place)
more-finish es (Err e) = refl

pub body-is-told : (declared : List (List ℕ)) (len : ℕ) (s : Stand) (ts : List DumpToken)
    → body_at declared len s ts
    ≡ (tokens_told declared len s ts
    >>= λ p. ended p.1.place >>= λ r. Ok (with_events p.0 r))
unfolding tokens_told
body-is-told declared len s [] = end-step s.place declared len s.count s.now
body-is-told declared len s (t ∷ ts) =
    let first = place_told s.place declared len t s.count s.now in
    let rest : Told → Result Told Fault = λ p. more_told p.0 (tokens_told declared len p.1 ts) in
    place-step declared len ts s.place t s.count s.now
    ∙ bind-same first (go declared len ts) (λ p. rest p >>= finish)
    (λ p. ap (λ (read : Result Rest Fault). read >>= λ r. Ok (with_events p.0 r))
    (body-is-told declared len p.1 ts)
    ∙ more-finish p.0 (tokens_told declared len p.1 ts))
    ∙ sym (bind-bind first rest finish)

-- events before what is told by tokens, and by others after them
more-behind : (es : List Event) (told : Result Told Fault) (on : Stand → Result Told Fault)
    → more_told es (told >>= λ q. more_told q.0 (on q.1))
    ≡ (more_told es told >>= λ q. more_told q.0 (on q.1))
more-behind es (Ok q) on = more-more es q.0 (on q.1)
more-behind es (Err e) on = refl

pub tokens-tell-on : (declared : List (List ℕ)) (len : ℕ) (s : Stand) (ts us : List DumpToken)
    → tokens_told declared len s (ts ++ us)
    ≡ (tokens_told declared len s ts >>= λ p. more_told p.0 (tokens_told declared len p.1 us))
unfolding tokens_told
tokens-tell-on declared len s [] us = more-none (tokens_told declared len s us)
tokens-tell-on declared len s (t ∷ ts) us =
    let first = place_told s.place declared len t s.count s.now in
    let on : Stand → Result Told Fault = λ q. tokens_told declared len q us in
    let behind : Told → Result Told Fault = λ q. more_told q.0 (on q.1) in
    bind-same first (λ p. more_told p.0 (tokens_told declared len p.1 (ts ++ us)))
    (λ p. more_told p.0 (tokens_told declared len p.1 ts) >>= behind)
    (λ p. ap (more_told p.0) (tokens-tell-on declared len p.1 ts us)
    ∙ more-behind p.0 (tokens_told declared len p.1 ts) on)
    ∙ sym (bind-bind first (λ p. more_told p.0 (tokens_told declared len p.1 ts)) behind)

-- tokens of a body, and the body behind them
pub body-tells-on : (declared : List (List ℕ)) (len : ℕ) (s : Stand) (ts us : List DumpToken)
    → body_at declared len s (ts ++ us)
    ≡ (tokens_told declared len s ts
    >>= λ p. body_at declared len p.1 us >>= λ r. Ok (with_events p.0 r))
body-tells-on declared len s ts us =
    let told = tokens_told declared len s ts in
    let on : Told → Result Told Fault = λ p. more_told p.0 (tokens_told declared len p.1 us) in
    body-is-told declared len s (ts ++ us)
    ∙ ap (λ (read : Result Told Fault). read >>= finish) (tokens-tell-on declared len s ts us)
    ∙ bind-bind told on finish
    ∙ bind-same told (λ p. on p >>= finish)
    (λ p. body_at declared len p.1 us >>= λ r. Ok (with_events p.0 r))
    (λ p. sym (more-finish p.0 (tokens_told declared len p.1 us))
    ∙ ap (λ (read : Result Rest Fault). read >>= λ r. Ok (with_events p.0 r))
    (sym (body-is-told declared len p.1 us)))

pub body-is-cut : (declared : List (List ℕ)) (len : ℕ) (s : Stand) (at byte : ℕ)
    (front back : List ℕ) → is_separator byte ≡ true
    → body_at declared len s (tokens at (front ++ byte ∷ back))
    ≡ (tokens_told declared len s (tokens at front)
    >>= λ p. body_at declared len p.1 (tokens (suc (at + length front)) back)
    >>= λ r. Ok (with_events p.0 r))
body-is-cut declared len s at byte front back e =
    ap (body_at declared len s) (tokens-are-cut at byte front back e)
    ∙ body-tells-on declared len s (tokens at front) (tokens (suc (at + length front)) back)
