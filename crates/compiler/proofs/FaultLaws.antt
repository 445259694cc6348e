-- Of several faults of an assertion the first.
use Rattle.std.proofs.Common.{◌<◌, ◌≤◌, Bool, List, length, arith}
use Rattle.assertions.specs.declared.assertion.Assertion.{Assertion}
use Rattle.assertions.specs.declared.suite.Suite.{Suite}
use Rattle.compiler.specs.declared.fault.CompileFault.{CompileFault}
use Rattle.compiler.specs.declared.fault.CompileFault.TheVariants.{TooManyAtoms, CodeTooLong}
use Rattle.compiler.specs.declared.fault.CompileFault.TheVariants.{TooManySlots, TextTooLong, Memory}
use Rattle.compiler.specs.Readings.{slot_count}
use Rattle.compiler.specs.Faults.{StandsOver, fault_rank}

module _ (suite : Suite) (a : Assertion) (signals counters : List Bool) where
  pub slots-first : length a.booleans.items ≤ 127 → (other : CompileFault) → fault_rank other < 2
      → StandsOver suite a signals counters other → ⊥
  slots-first few TooManyAtoms lt h = omega (arith, few, h)
  slots-first few TooManySlots lt h = omega (arith, lt)
  slots-first few TextTooLong lt h = omega (arith, lt)
  slots-first few CodeTooLong lt h = omega (arith, lt)
  slots-first few Memory lt h = omega (arith, lt)

  pub texts-first : length a.booleans.items ≤ 127 → slot_count signals counters ≤ 256 → (other : CompileFault)
      → fault_rank other < 3 →
      StandsOver suite a signals counters other → ⊥
  texts-first few slots TooManyAtoms lt h = omega (arith, few, h)
  texts-first few slots TooManySlots lt h = omega (arith, slots, h)
  texts-first few slots TextTooLong lt h = omega (arith, lt)
  texts-first few slots CodeTooLong lt h = omega (arith, lt)
  texts-first few slots Memory lt h = omega (arith, lt)
