-- What every dump holds.
use Rattle.std.proofs.Math.Logic.{∥∥₁_map}
use Rattle.vcd_reader.specs.declared.dump.Dump.{Dump}
use Rattle.vcd_reader.specs.Dump.{Contents}
use Rattle.vcd_reader.specs.Held.{variables_of, steps_in, high_of, HoldsContents}

-- a dump says something
pub says-something : (d : Dump) → ∥ ((c : Contents) × HoldsContents d c) ∥₁
unfolding variables_of steps_in high_of
says-something d = ∥∥₁_map d.says (λ s. (s.0, record { variables = s.1.same_variables; steps = s.1.same_steps }))
