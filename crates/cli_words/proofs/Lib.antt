mod CommandLaws
mod NumberLaws
mod PathLaws
mod RowLaws
