-- Where tokens lead to.
use Rattle.std.proofs.Common.{◌≡◌, ℕ, suc, ◌+◌, Bool, true, false, cond, eqb, ltb, List, [], ◌∷◌}
use Rattle.std.proofs.Common.{◌++◌, Option, Some, None, Result, Ok, Err, refl, sym, ap, ◌∙◌, arith}
use Rattle.std.specs.Prelude.{codes, IfOk}
use Rattle.std.specs.Str.{bytes_eq}
use Rattle.vcd_reader.specs.declared.fault.Fault.{Fault}
use Rattle.vcd_reader.specs.Faults.{◌>>=◌}
use Rattle.vcd_reader.specs.Tokens.{DumpToken}
use Rattle.vcd_reader.specs.Values.{ValueChange, Moment}
use Rattle.vcd_reader.specs.Variables.{place_of}
use Rattle.vcd_reader.specs.Body.{Kind, Time, Scalar, Vector, Text, Lone, Section, Bad, kind_of}
use Rattle.vcd_reader.specs.Body.{most_changes, behind_first}
use Rattle.vcd_segments.specs.Pieces.{Place, Between, AfterDigits, AfterText, Inside, Stand, stand}
use Rattle.vcd_segments.specs.Pieces.{Event, Changes, Begins, Told, change_told, scalar_told}
use Rattle.vcd_segments.specs.Pieces.{time_told, kind_told, place_told, more_told, tokens_told}
use Rattle.vcd_segments.specs.Steps.{blank_step, with_changes, open_behind, time_behind}
use Rattle.vcd_segments.specs.Steps.{changes_told, IsLedTo}

-- what was told leads on from there
abbrev Leads : Stand → Result Told Fault → Type 0
Leads s read = IfOk read (λ p. IsLedTo s p.0 p.1)

time-append : (now : ℕ) (es fs : List Event)
    → time_behind now (es ++ fs) ≡ time_behind (time_behind now es) fs
time-append now [] fs = refl
time-append now (Changes c ∷ es) fs = time-append now es fs
time-append now (Begins time ∷ es) fs = time-append time es fs

count-append : (es fs : List Event) → changes_told (es ++ fs) ≡ changes_told es + changes_told fs
count-append [] fs = omega arith
count-append (Changes c ∷ es) fs = let more = count-append es fs in omega arith
count-append (Begins time ∷ es) fs = count-append es fs

-- the open step has that time
pub open-time : (m : Moment) (es : List Event)
    → (open_behind m es).time ≡ time_behind m.time es
open-time m [] = refl
open-time m (Changes c ∷ es) = open-time (with_changes m (c ∷ [])) es
open-time m (Begins time ∷ es) = open-time (blank_step time) es

led-nowhere : (s : Stand) (place : Place) → IsLedTo s [] (stand place s.count s.now)
led-nowhere s place = record { now = refl; count = omega arith }

led-on : (s t u : Stand) (es fs : List Event) → IsLedTo s es t → IsLedTo t fs u
    → IsLedTo s (es ++ fs) u
led-on s t u es fs one two = record {
  now = two.now ∙ ap (λ (n : ℕ). time_behind n fs) one.now ∙ sym (time-append s.now es fs);
  count = omega (arith, two.count, one.count, count-append es fs);
}

module _ (s : Stand) where
  change-leads : (room : Bool) (c : ValueChange) (full : Fault)
      → Leads s (cond room (Ok (Changes c ∷ [], stand Between (suc s.count) s.now)) (Err full))
  change-leads true c full = record { now = refl; count = omega arith }
  change-leads false c full = tt

  code-leads : (o : Option ℕ) (code digits : List ℕ) (at : ℕ)
      → Leads s (change_told o code digits at s.count s.now)
  code-leads None code digits at = tt
  code-leads (Some n) code digits at =
      change-leads (ltb s.count most_changes) (record { code = n; digits = digits }) _

  scalar-leads : (declared : List (List ℕ)) (len digit : ℕ) (text : List ℕ) (at : ℕ)
      → Leads s (scalar_told declared len digit text at s.count s.now)
  scalar-leads declared len digit [] at = tt
  scalar-leads declared len digit (c ∷ code) at =
      code-leads (place_of declared (c ∷ code)) (c ∷ code) (digit ∷ []) at

  time-leads : (low same : Bool) (time : ℕ) (back : Fault)
      → Leads s (cond low (Err back) (cond same (Ok ([], stand Between s.count s.now))
      (Ok (Begins time ∷ [], stand Between s.count time))))
  time-leads true same time back = tt
  time-leads false true time back = led-nowhere s Between
  time-leads false false time back = record { now = refl; count = omega arith }

  kind-leads : (k : Kind) (declared : List (List ℕ)) (len : ℕ) (t : DumpToken)
      → Leads s (kind_told k declared len t s.count s.now)
  kind-leads (Time time) declared len t = time-leads (ltb time s.now) (eqb time s.now) time _
  kind-leads (Scalar digit) declared len t =
      scalar-leads declared len digit (behind_first t.text) t.at
  kind-leads (Vector digits) declared len t = led-nowhere s (AfterDigits digits)
  kind-leads Text declared len t = led-nowhere s AfterText
  kind-leads Lone declared len t = led-nowhere s Between
  kind-leads Section declared len t = led-nowhere s (Inside t.at)
  kind-leads Bad declared len t = tt

  stop-leads : (stop : Bool) (word : ℕ)
      → Leads s (cond stop (Ok ([], stand Between s.count s.now))
      (Ok ([], stand (Inside word) s.count s.now)))
  stop-leads true word = led-nowhere s Between
  stop-leads false word = led-nowhere s (Inside word)

  place-leads : (place : Place) (declared : List (List ℕ)) (len : ℕ) (t : DumpToken)
      → Leads s (place_told place declared len t s.count s.now)
  place-leads Between declared len t = kind-leads (kind_of t.text) declared len t
  place-leads (AfterDigits digits) declared len t =
      code-leads (place_of declared t.text) t.text digits t.at
  place-leads AfterText declared len t = led-nowhere s Between
  place-leads (Inside word) declared len t = stop-leads (bytes_eq t.text (codes "$end")) word

  more-leads : (es : List Event) (mid : Stand) (read : Result Told Fault) → IsLedTo s es mid
      → Leads mid read
      → Leads s (more_told es read)
  more-leads es mid (Ok p) one two = led-on s mid p.1 es p.0 one two
  more-leads es mid (Err e) one two = tt

  bind-leads : (read : Result Told Fault) (on : Stand → Result Told Fault)
      → Leads s read
      → ((t : Stand) → Leads t (on t))
      → Leads s (read >>= λ p. more_told p.0 (on p.1))
  bind-leads (Ok p) on one rest = more-leads p.0 p.1 (on p.1) one (rest p.1)
  bind-leads (Err e) on one rest = tt

pub tokens-lead : (declared : List (List ℕ)) (len : ℕ) (s : Stand) (ts : List DumpToken)
    → Leads s (tokens_told declared len s ts)
unfolding tokens_told
tokens-lead declared len s [] = led-nowhere s s.place
tokens-lead declared len s (t ∷ ts) =
    bind-leads s (place_told s.place declared len t s.count s.now)
    (λ u. tokens_told declared len u ts) (place-leads s s.place declared len t)
    (λ u. tokens-lead declared len u ts)

-- where tokens that told these events lead to
pub led-by : (declared : List (List ℕ)) (len : ℕ) (s t : Stand) (ts : List DumpToken)
    (es : List Event)
    → tokens_told declared len s ts ≡ (let x : Result Told Fault = Ok (es, t) in x)
    → IsLedTo s es t
led-by declared len s t ts es e = by-result (tokens_told declared len s ts) e (tokens-lead declared len s ts)
  where
    by-result : (read : Result Told Fault) → read ≡ Ok (es, t)
        → Leads s read → IsLedTo s es t
    by-result (Ok p) is led =
        let first : p.0 ≡ es = cc in let second : p.1 ≡ t = cc in
        let a : p.1.now ≡ time_behind s.now p.0 = led.now in
        let b : p.1.count ≡ s.count + changes_told p.0 = led.count in
        record {
          now = sym (ap (λ (u : Stand). u.now) second) ∙ a
              ∙ ap (λ (fs : List Event). time_behind s.now fs) first;
          count = sym (ap (λ (u : Stand). u.count) second) ∙ b
              ∙ ap (λ (fs : List Event). s.count + changes_told fs) first;
        }
    by-result (Err f) is led = absurd cc
