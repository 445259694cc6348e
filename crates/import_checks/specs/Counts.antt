-- How often and when, where the bound stands for an end that is left open.
use Rattle.std.specs.Prelude.{◌≡◌, ◌≤◌, ℕ, Option, Some, None}
use Rattle.import_elaboration.specs.declared.part.Count.{Count}

-- what is written as the end, or the bound
abbrev pub end_of : Option ℕ → Option ℕ → Option ℕ
end_of bound None = bound
end_of bound (Some most) = Some most

-- from least to most, the bound where no end is written
pub record IsCount (bound : Option ℕ) (count : Count) (least most : ℕ) : Type 0 where
  pub begins : count.least ≡ least
  pub ends : end_of bound count.most ≡ Some most
  pub ordered : least ≤ most

-- from least to some number
pub record BeginsAt (bound : Option ℕ) (count : Count) (least : ℕ) : Type 0 where
  pub most : ℕ
  pub is : IsCount bound count least most
