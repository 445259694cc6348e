-- Where a report comes from, apart from where it lies in memory.
use Rattle.std.specs.Prelude.{ℕ, List, slice_index}
use Rattle.report_forms.specs.declared.provenance.Provenance.{Provenance}

-- the dump's path, the path of the assertions' text, and the time of each clock
pub record ProvenanceData : Type 0 where
  pub dump : List ℕ
  pub text : List ℕ
  pub times : List ℕ

abbrev pub provenance_of : Provenance → ProvenanceData
provenance_of p = record { dump = p.dump.now; text = p.text.now; times = p.times.now }

-- the time of a clock, 0 where none is given
abbrev pub time_at : ProvenanceData → ℕ → ℕ
time_at p clock = slice_index p.times clock
