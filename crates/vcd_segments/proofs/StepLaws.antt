-- Steps as events come.
use Rattle.std.proofs.Common.{◌≡◌, ℕ, List, [], ◌∷◌, ◌++◌, length, Result, Ok, Err}
use Rattle.std.proofs.Common.{refl, sym, ap, ◌∙◌, append_assoc}
use Rattle.std.proofs.lemmas.List.{append-nil}
use Rattle.vcd_reader.specs.declared.fault.Fault.{Fault}
use Rattle.vcd_reader.specs.Faults.{◌>>=◌}
use Rattle.vcd_reader.specs.Tokens.{tokens}
use Rattle.vcd_reader.specs.Values.{ValueChange, Moment}
use Rattle.vcd_reader.specs.Variables.{Declared, codes_of}
use Rattle.vcd_reader.specs.Body.{Rest}
use Rattle.vcd_reader.specs.Dump.{Contents, dump_of}
use Rattle.vcd_segments.specs.Pieces.{Between, Stand, Event, Changes, Begins, Told, tokens_told}
use Rattle.vcd_segments.specs.Pieces.{ended, with_events}
use Rattle.vcd_segments.specs.Beginnings.{contents_with, IsBegun}
use Rattle.vcd_segments.specs.Steps.{blank_step, with_changes, closed_by, open_behind}
use Rattle.vcd_segments.proofs.BeginLaws.{dump-ends}

pub steps-come : (step : Moment) (es : List Event) (r : Rest)
    → with_changes step (with_events es r).0 ∷ (with_events es r).1
    ≡ closed_by step es ++ (with_changes (open_behind step es) r.0 ∷ r.1)
steps-come step [] r = refl
steps-come step (Changes c ∷ es) r =
    ap (λ (cs : List ValueChange).
    (let m : Moment = record { time = step.time; changes = cs } in m) ∷ (with_events es r).1)
    (sym (append_assoc step.changes (c ∷ []) (with_events es r).0))
    ∙ steps-come (with_changes step (c ∷ [])) es r
steps-come step (Begins time ∷ es) r =
    ap (λ (cs : List ValueChange). (let m : Moment = record { time = step.time; changes = cs } in m)
    ∷ with_changes (blank_step time) (with_events es r).0 ∷ (with_events es r).1)
    (append-nil step.changes)
    ∙ ap (λ (ms : List Moment). step ∷ ms) (steps-come (blank_step time) es r)

closed-more : (step : Moment) (es fs : List Event)
    → closed_by step (es ++ fs) ≡ closed_by step es ++ closed_by (open_behind step es) fs
closed-more step [] fs = refl
closed-more step (Changes c ∷ es) fs = closed-more (with_changes step (c ∷ [])) es fs
closed-more step (Begins time ∷ es) fs =
    ap (λ (ms : List Moment). step ∷ ms) (closed-more (blank_step time) es fs)

open-more : (step : Moment) (es fs : List Event)
    → open_behind step (es ++ fs) ≡ open_behind (open_behind step es) fs
open-more step [] fs = refl
open-more step (Changes c ∷ es) fs = open-more (with_changes step (c ∷ [])) es fs
open-more step (Begins time ∷ es) fs = open-more (blank_step time) es fs

pub steps-go-on : (step : Moment) (es fs : List Event)
    → (closed_by step (es ++ fs) ≡ closed_by step es ++ closed_by (open_behind step es) fs)
    × (open_behind step (es ++ fs) ≡ open_behind (open_behind step es) fs)
steps-go-on step es fs = (closed-more step es fs, open-more step es fs)

-- the steps at the end
steps-at-end : (es : List Event)
    → (let ms : List Moment =
    record { time = 0; changes = (with_events es ([], [])).0 } ∷ (with_events es ([], [])).1 in ms)
    ≡ closed_by (blank_step 0) es ++ open_behind (blank_step 0) es ∷ []
steps-at-end es =
    steps-come (blank_step 0) es ([], [])
    ∙ ap (λ (cs : List ValueChange). closed_by (blank_step 0) es
    ++ (let m : Moment = record { time = (open_behind (blank_step 0) es).time; changes = cs } in m)
    ∷ []) (append-nil (open_behind (blank_step 0) es).changes)

pub dump-has-steps : (bytes last : List ℕ) (vs : List Declared) (es fs : List Event) (s : Stand)
    (count now : ℕ) → IsBegun bytes vs es s
    → tokens_told (codes_of vs) (length (bytes ++ last)) s (tokens (length bytes) last)
    ≡ Ok (fs, record { place = Between; count = count; now = now })
    → dump_of (bytes ++ last) ≡ Ok (record {
      variables = vs;
      steps = closed_by (blank_step 0) (es ++ fs)
          ++ open_behind (blank_step 0) (es ++ fs) ∷ [];
    })
dump-has-steps bytes last vs es fs s count now begun told =
    dump-ends bytes last vs es s begun
    ∙ ap (λ (read : Result Told Fault). read >>= λ p. ended p.1.place
    >>= λ r. Ok (contents_with vs (with_events (es ++ p.0) r))) told
    ∙ ap (λ (ms : List Moment). (let x : Result Contents Fault =
    Ok (record { variables = vs; steps = ms }) in x)) (steps-at-end (es ++ fs))
