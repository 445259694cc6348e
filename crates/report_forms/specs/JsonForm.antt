-- A report as a JSON value (RFC 8259): `document` of `json` says which value a text is.
use Rattle.std.specs.Prelude.{ℕ, List, [], ◌∷◌, map, codes, decimal}
use Rattle.json.specs.Json.{Json, Members, number, string, array, object, no_members, member}
use Rattle.json.specs.Value.{items_of}
use Rattle.report_lines.specs.declared.line.Counts.{Counts}
use Rattle.report_lines.specs.declared.line.Failure.{Failure}
use Rattle.report_lines.specs.Lines.{LineData, ReportData}
use Rattle.report_forms.specs.Provenances.{ProvenanceData, time_at}
use Rattle.report_forms.specs.Refusals.{RefusedData}

-- the number of this schema
abbrev pub schema_version : ℕ
schema_version = 1

abbrev pub members_with : List (List ℕ × Json) → Members
members_with [] = no_members
members_with (m ∷ ms) = member m.0 m.1 (members_with ms)

-- an object with these members, in order
abbrev pub object_with : List (List ℕ × Json) → Json
object_with ms = object (members_with ms)

abbrev pub list_of : List Json → Json
list_of js = array (items_of js)

-- a number, in decimal
abbrev pub number_of : ℕ → Json
number_of n = number (decimal n)

-- how many attempts came to each verdict
abbrev pub counts_json : Counts → Json
counts_json c = object_with (
    (codes "holds", number_of c.holds) ∷
    (codes "vacuous", number_of c.vacuous) ∷
    (codes "fails", number_of c.fails) ∷
    (codes "disabled", number_of c.disabled) ∷
    (codes "open", number_of c.still_open) ∷ [])

-- an attempt that failed: the clocks of its start and of the decision, and their times
abbrev pub failure_json : ProvenanceData → Failure → Json
failure_json p f = object_with (
    (codes "start", number_of f.start) ∷
    (codes "start_time", number_of (time_at p f.start)) ∷
    (codes "clock", number_of f.clock) ∷
    (codes "clock_time", number_of (time_at p f.clock)) ∷ [])

-- an assertion: its name, its counts, and all of its failures
abbrev pub line_json : ProvenanceData → LineData → Json
line_json p l = object_with (
    (codes "name", string l.name) ∷
    (codes "counts", counts_json l.counts) ∷
    (codes "failures", list_of (map (failure_json p) l.fails)) ∷ [])

-- an item that is refused
abbrev pub refused_json : RefusedData → Json
refused_json r = object_with (
    (codes "place", string r.place) ∷
    (codes "reason", string r.reason) ∷ [])

-- those that are refused, if there are some
abbrev pub refused_members : List RefusedData → List (List ℕ × Json)
refused_members [] = []
refused_members (r ∷ rs) = (codes "refused", list_of (map refused_json (r ∷ rs))) ∷ []

-- the whole report, and what is refused
abbrev pub report_json : ProvenanceData → List RefusedData → ReportData → Json
report_json p rs r = object_with (
    (codes "version", number_of schema_version) ∷
    (codes "dump", string p.dump) ∷
    (codes "text", string p.text) ∷
    (codes "clocks", number_of r.clocks) ∷
    (codes "assertions", list_of (map (line_json p) r.lines)) ∷
    (codes "total", counts_json r.total) ∷ refused_members rs)
