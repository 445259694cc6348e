-- What the ranges of a port's numbers say.
use Rattle.std.proofs.Common.{◌≡◌, ◌≤◌, true}
use Rattle.std.specs.Prelude.{◌&&◌, nat_le}
use Rattle.std.proofs.lemmas.Bool.{and_parts, leb-true}
use Rattle.axi4_rules.specs.Lines.{SizeData}
use Rattle.axi4_rules.specs.Ports.{are_sizes, is_between, is_data_width}

pub id_at_most : (s : SizeData) → are_sizes s ≡ true → s.id ≤ 16
unfolding are_sizes
id_at_most s h =
    let front : (is_between 12 64 s.addr && is_data_width s.data_width && is_between 1 16 s.id) ≡ true =
    (and_parts _ (nat_le s.wait 64) h).0 in
    let ids : is_between 1 16 s.id ≡ true =
    (and_parts (is_between 12 64 s.addr && is_data_width s.data_width) _ front).1 in
    leb-true _ _ (and_parts (nat_le 1 s.id) _ ids).1
