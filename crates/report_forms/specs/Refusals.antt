-- What is told of items that are refused, apart from where it lies in memory.
use Rattle.std.specs.Prelude.{ℕ, List}
use Rattle.report_forms.specs.declared.refused.Refused.{Refused}

-- where an item stands, and why it is refused
pub record RefusedData : Type 0 where
  pub place : List ℕ
  pub reason : List ℕ

abbrev pub refused_of : Refused → RefusedData
refused_of r = record { place = r.place.now; reason = r.reason.now }
