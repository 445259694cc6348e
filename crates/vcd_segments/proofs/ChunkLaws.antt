-- What the reader of bodies has of a chunk.
use Rattle.std.proofs.Common.{◌≡◌, ℕ, ◌+◌, ◌≤◌, List, [], ◌∷◌, ◌++◌, length, map, Result, Ok, Err}
use Rattle.std.proofs.Common.{refl, sym, ap, ◌∙◌, subst}
use Rattle.std.proofs.lemmas.List.{append-nil, map-append}
use Rattle.std.proofs.Math.Seq.{drop-length}
use Rattle.vcd_reader.specs.declared.fault.Fault.{Fault}
use Rattle.vcd_reader.specs.declared.step.Step.{Step}
use Rattle.vcd_reader.specs.declared.step.Change.{Change}
use Rattle.vcd_reader.specs.Faults.{◌>>=◌}
use Rattle.vcd_reader.specs.Tokens.{tokens}
use Rattle.vcd_reader.specs.Values.{ValueChange, Moment}
use Rattle.vcd_reader.specs.Stored.{StoredChange, StoredStep, stored_change, stored_step}
use Rattle.vcd_reader.specs.Stored.{kept_change, kept_step}
use Rattle.vcd_reader.specs.Body.{Rest, body, most_changes}
use Rattle.vcd_reader.specs.Kept.{KeptRest, kept_rest, kept_result}
use Rattle.vcd_reader.specs.Readings.{joined, rest_at, steps_from, IsRead}
use Rattle.vcd_segments.specs.Pieces.{Place, Between, AfterDigits, AfterText, Inside, Stand, stand}
use Rattle.vcd_segments.specs.Pieces.{Event, Told, tokens_told, ended, with_events}
use Rattle.vcd_segments.specs.Steps.{blank_step, with_changes, closed_by, open_behind}
use Rattle.vcd_segments.specs.Chunks.{IsChunk}
use Rattle.vcd_segments.proofs.PieceLaws.{body-is-told, finish}
use Rattle.vcd_segments.proofs.StepLaws.{steps-come}
use Rattle.vcd_segments.proofs.LeadLaws.{led-by, open-time}

-- nothing stands at the end of bytes
none-at-end : (declared : List (List ℕ)) (bytes : List ℕ) (count now : ℕ)
    → rest_at declared bytes count now (length bytes) ≡ Ok ([], [])
unfolding tokens body
none-at-end declared bytes count now = rw (drop-length bytes) refl

-- the last of two lists, and what stands before it
last-split : {A : Type 0} (xs ys : List A) (x y : A) → xs ++ x ∷ [] ≡ ys ++ y ∷ []
    → (xs ≡ ys) × (x ≡ y)
last-split [] [] x y e = (refl, cc)
last-split [] (b ∷ []) x y e = absurd cc
last-split [] (b ∷ c ∷ ys) x y e = absurd cc
last-split (a ∷ []) [] x y e = absurd cc
last-split (a ∷ b ∷ xs) [] x y e = absurd cc
last-split {A = A} (a ∷ xs) (b ∷ ys) x y e =
    let same : a ≡ b = cc in let rest : xs ++ x ∷ [] ≡ ys ++ y ∷ [] = cc in
    let r = last-split xs ys x y rest in
    (ap (λ (z : A). z ∷ xs) same ∙ ap (λ (zs : List A). b ∷ zs) r.0, r.1)

-- the steps of a chunk, as numbers
abbrev numbers_of : ℕ → List Event → List StoredStep
numbers_of first es =
    map kept_step (closed_by (blank_step first) es ++ open_behind (blank_step first) es ∷ [])

open-ends : (first : ℕ) (es : List Event)
    → with_changes (blank_step first) (with_events es ([], [])).0 ∷ (with_events es ([], [])).1
    ≡ closed_by (blank_step first) es ++ open_behind (blank_step first) es ∷ []
open-ends first es =
    steps-come (blank_step first) es ([], [])
    ∙ ap (λ (cs : List ValueChange). closed_by (blank_step first) es
    ++ (let m : Moment =
    record { time = (open_behind (blank_step first) es).time; changes = cs } in m) ∷ [])
    (append-nil (open_behind (blank_step first) es).changes)

kept-time : (m : Moment) → (kept_step m).time ≡ m.time
unfolding kept_step
kept-time m = refl

-- a chunk without a fault ends between items, with these steps
module _ (first : ℕ) (all : List StoredStep) where
  at-place : (place : Place) (es : List Event)
      → joined [] first [] (kept_result (ended place >>= λ r. Ok (with_events es r))) ≡ Ok all
      → (place ≡ Between) × (numbers_of first es ≡ all)
  unfolding kept_step
  at-place Between es e =
      let says : (let ss : List StoredStep = record {
        time = first;
        changes = map kept_change (with_events es ([], [])).0;
      } ∷ map kept_step (with_events es ([], [])).1 in ss) ≡ all = cc in
      (refl, sym (ap (map kept_step) (open-ends first es)) ∙ says)
  at-place (AfterDigits digits) es e = absurd cc
  at-place AfterText es e = absurd cc
  at-place (Inside word) es e = absurd cc

  record Found (told : Result Told Fault) : Type 0 where
    events : List Event
    end : Stand
    is : told ≡ Ok (events, end)
    between : end.place ≡ Between
    numbers : numbers_of first events ≡ all

  found : (told : Result Told Fault)
      → joined [] first [] (kept_result (told >>= finish)) ≡ Ok all → Found told
  found (Ok p) e =
      let r = at-place p.1.place p.0 e in
      record { events = p.0; end = p.1; is = refl; between = r.0; numbers = r.1 }
  found (Err f) e = absurd cc

pub readings-are-chunks : (declared : List (List ℕ)) (bytes : List ℕ) (first : ℕ)
    (steps : List Step) (now : ℕ) (changes : List Change) (high : List ℕ) (read : ℕ)
    → IsRead [] declared bytes 0 first steps now changes high read (length bytes)
    → (count : ℕ) → count + read ≤ most_changes
    → IsChunk declared bytes count first steps now changes high
readings-are-chunks declared bytes first steps now changes high read is count few =
    let told = tokens_told declared (length bytes) (stand Between count first) (tokens 0 bytes) in
    let last : StoredStep = record { time = now; changes = map (stored_change high) changes } in
    let all : List StoredStep = map (stored_step high) steps ++ last ∷ [] in
    let as_body : joined [] first [] (kept_result (told >>= finish))
    ≡ steps_from declared bytes count first 0 =
    ap (λ (read : Result Rest Fault). joined [] first [] (kept_result read))
    (sym (body-is-told declared (length bytes) (stand Between count first) (tokens 0 bytes))) in
    let as_read : steps_from declared bytes count first 0 ≡ Ok all =
    is.same count [] few
    ∙ ap (joined (map (stored_step (high ++ [])) steps) now (map (stored_change (high ++ [])) changes))
    (none-at-end declared bytes (count + read) now)
    ∙ ap (λ (h : List ℕ). joined (map (stored_step h) steps) now (map (stored_change h) changes)
    (Ok ([], []))) (append-nil high)
    ∙ ap (λ (cs : List StoredChange). (let x : Result (List StoredStep) Fault =
    Ok (map (stored_step high) steps ++ record { time = now; changes = cs } ∷ []) in x))
    (append-nil (map (stored_change high) changes)) in
    let f = found first all told (as_body ∙ as_read) in
    let parts = last-split (map kept_step (closed_by (blank_step first) f.events))
    (map (stored_step high) steps) (kept_step (open_behind (blank_step first) f.events)) last
    (sym (map-append kept_step (closed_by (blank_step first) f.events)
    (open_behind (blank_step first) f.events ∷ [])) ∙ f.numbers) in
    let led = led-by declared (length bytes) (stand Between count first) f.end (tokens 0 bytes)
    f.events f.is in
    record {
      events = f.events;
      end = f.end;
      told = f.is;
      between = f.between;
      now_is = led.now ∙ sym (open-time (blank_step first) f.events)
          ∙ sym (kept-time (open_behind (blank_step first) f.events))
          ∙ ap (λ (t : StoredStep). t.time) parts.1;
      count_is = led.count;
      closed = parts.0;
      still_open = parts.1;
    }
