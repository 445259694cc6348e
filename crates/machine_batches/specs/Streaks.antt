-- Attempts that were decided alike, one after another.
use Rattle.std.specs.Prelude.{ℕ, ◌-◌, List, map, Vec, vec_len, vec_capacity}
use Rattle.std.specs.List.{range_with_len, flat_map}
use Rattle.std.specs.Global.{Global}
use Rattle.signals.specs.declared.verdict.Decided.{Decided}
use Rattle.machine_batches.specs.declared.streak.Streak.{Streak}
use Rattle.machine_batches.specs.Ages.{nth}

-- the attempts of a streak
abbrev pub streak_attempts : Streak → List Decided
streak_attempts s = map (nth s.first) (range_with_len 0 s.count)

-- those of streaks, one after another
abbrev pub attempts_in_all : List Streak → List Decided
attempts_in_all = flat_map streak_attempts

-- Attempts that are kept: all of them, in their order, and for how many more there is room.
pub record Attempts : Type 0 where
  pub items : List Decided
  pub room : ℕ

abbrev pub attempts_kept : Vec Streak Global → Attempts
attempts_kept v = record {
  items = attempts_in_all v.items;
  room = vec_capacity v - vec_len v;
}
