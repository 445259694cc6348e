use Rattle.std.proofs.Common.{◌≡◌, []}
use Rattle.std.specs.List.{flat_map}
use Rattle.positions.specs.Tables.{numbers_from}
use Rattle.positions.specs.Rows.{change_all, turn_data}
use Rattle.positions.proofs.repeat.repeat.Given as goal

abbrev pub invariant-loop-copy : goal.invariant-loop-copy
invariant-loop-copy l =
    l.draft ≡ record {
      rows = flat_map (λ c. change_all (turn_data l.body l.least l.most c) l.body.rows) (numbers_from 0 l.copy);
      begun = [];
    }
