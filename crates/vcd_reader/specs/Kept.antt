-- What the code keeps of a body, beside the definition.
use Rattle.std.specs.Prelude.{◌≡◌, ℕ, suc, ◌==◌, List, [], ◌∷◌, ◌++◌, map, nat_lt, Option, Some}
use Rattle.std.specs.Prelude.{None, Result, Ok, Err, if◌then◌else◌}
use Rattle.vcd_reader.specs.declared.fault.Fault.{Fault}
use Rattle.vcd_reader.specs.declared.fault.Fault.TheVariants.{TimeBack, TooLarge}
use Rattle.vcd_reader.specs.declared.item.Seen.{Seen}
use Rattle.vcd_reader.specs.declared.item.Seen.TheVariants as code
use Rattle.vcd_reader.specs.declared.item.Item.{Item}
use Rattle.vcd_reader.specs.declared.item.Item.TheVariants.{Timed, Changed, Skipped}
use Rattle.vcd_reader.specs.Faults.{◌>>=◌, view_of}
use Rattle.vcd_reader.specs.Numbers.{bit_of, bits_value}
use Rattle.vcd_reader.specs.Values.{Moment}
use Rattle.vcd_reader.specs.Variables.{place_of}
use Rattle.vcd_reader.specs.Stored.{StoredChange, StoredStep, kept_change, kept_step}
use Rattle.vcd_reader.specs.Body.{Kind, Time, Scalar, Vector, Text, Lone, Section, Bad, Rest}
use Rattle.vcd_reader.specs.Body.{most_changes, missing_fault, codeless_fault}

abbrev pub seen_kind : Kind → Seen
seen_kind (Time n) = code.Time n
seen_kind (Scalar digit) = code.Scalar (bit_of digit)
seen_kind (Vector digits) = code.Vector (bits_value digits)
seen_kind Text = code.Text
seen_kind Lone = code.Lone
seen_kind Section = code.Section
seen_kind Bad = code.Bad

abbrev pub KeptRest : Type 0
KeptRest = List StoredChange × List StoredStep

abbrev pub kept_rest : Rest → KeptRest
kept_rest r = (map kept_change r.0, map kept_step r.1)

abbrev pub kept_result : Result Rest Fault → Result KeptRest Fault
kept_result read = view_of kept_rest read

abbrev pub kept_steps : Result (List Moment) Fault → Result (List StoredStep) Fault
kept_steps read = view_of (map kept_step) read

abbrev pub with_kept : StoredChange → Result KeptRest Fault → Result KeptRest Fault
with_kept c read = read >>= λ r. Ok (c ∷ r.0, r.1)

abbrev pub with_kept_step : ℕ → Result KeptRest Fault → Result KeptRest Fault
with_kept_step time read = read >>= λ r. Ok ([], record { time = time; changes = r.0 } ∷ r.1)

-- what an item and the rest say
abbrev pub with_item : Item → ℕ → ℕ → (ℕ → ℕ → Result KeptRest Fault) → Result KeptRest Fault
with_item (Changed n value) count now rest =
    if nat_lt count most_changes
    then with_kept (record { code = n; value = value }) (rest (suc count) now)
    else Err TooLarge
with_item Skipped count now rest = rest count now
with_item (Timed time at) count now rest =
    if nat_lt time now then Err (TimeBack at)
    else (if time == now then rest count now else with_kept_step time (rest count time))

-- what a reader that found an item, and where it ends, goes on to give
abbrev pub with_next_item : Result (Option (Item × ℕ)) Fault → ℕ → ℕ
    → (ℕ → ℕ → ℕ → Result KeptRest Fault) → Result KeptRest Fault
with_next_item (Err fault) count now go = Err fault
with_next_item (Ok None) count now go = Ok ([], [])
with_next_item (Ok (Some (item, end))) count now go = with_item item count now (λ c n. go c n end)

abbrev pub code_item : Option ℕ → List ℕ → ℕ → ℕ → Result Item Fault
code_item None text value at = Err (missing_fault text at)
code_item (Some n) text value at = Ok (Changed n value)

-- what a scalar says with this text after its digit
abbrev pub scalar_item : List (List ℕ) → ℕ → List ℕ → ℕ → ℕ → Result Item Fault
scalar_item declared len [] value at = Err (codeless_fault at len)
scalar_item declared len (c ∷ text) value at =
    code_item (place_of declared (c ∷ text)) (c ∷ text) value at

-- the list is the other one with more after it
abbrev pub Extends : List ℕ → List ℕ → Type 0
Extends old new = (added : List ℕ) × (new ≡ old ++ added)
