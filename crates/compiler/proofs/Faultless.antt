-- An assertion with a program has no fault.
use Rattle.std.proofs.Common.{◌≡◌, ◌<◌, ◌≤◌, ℕ, Bool, List, length, arith, ap, sym, ◌∙◌, inl, inr}
use Rattle.assertions.specs.declared.assertion.Assertion.{Assertion}
use Rattle.assertions.specs.declared.suite.Suite.{Suite}
use Rattle.assertions.specs.Shapes.{written_form}
use Rattle.verifier.specs.Sections.{instructions_in}
use Rattle.bytecode_programs.specs.Values.{ProgramData, SectionData}
use Rattle.compiler.specs.declared.fault.CompileFault.{CompileFault}
use Rattle.compiler.specs.declared.fault.CompileFault.TheVariants.{TooManyAtoms, CodeTooLong}
use Rattle.compiler.specs.declared.fault.CompileFault.TheVariants.{TooManySlots, TextTooLong, Memory}
use Rattle.compiler.specs.Readings.{IsReading}
use Rattle.compiler.specs.Faults.{StandsOver, HasLongCode, AreCounted, HasNoFault, fault_rank}
use Rattle.compiler.specs.Parts.{AreProgramParts}
use Rattle.compiler.proofs.LedLaws.{led-size}

module _ (suite : Suite) (a : Assertion) (signals counters : List Bool) (p : ProgramData) where
  short : AreProgramParts suite a signals counters p → HasLongCode suite a signals counters → ⊥
  short parts (inl long) = omega (arith, long, parts.short_sample, ap length parts.sample)
  short parts (inr (inl (inl long))) =
      omega (
        arith,
        long,
        parts.short_antecedent,
        ap (λ (s : SectionData). instructions_in s.blocks) parts.antecedent,
        led-size a.first (written_form a.antecedent),
      )
  short parts (inr (inl (inr long))) = omega (arith, long, parts.light_antecedent)
  short parts (inr (inr (inl long))) =
      omega (arith, long, parts.short_consequent, ap (λ (s : SectionData). instructions_in s.blocks) parts.consequent)
  short parts (inr (inr (inr long))) = omega (arith, long, parts.light_consequent)

  none : AreCounted suite a signals counters → AreProgramParts suite a signals counters p → (fault : CompileFault)
      → fault_rank fault < fault_rank Memory →
      StandsOver suite a signals counters fault → ⊥
  none counted parts TooManyAtoms lt h = omega (arith, counted.atoms, h)
  none counted parts TooManySlots lt h = omega (arith, counted.slots, h)
  none counted parts TextTooLong lt h = counted.texts h
  none counted parts CodeTooLong lt h = short parts h
  none counted parts Memory lt h = omega (arith, lt)

  pub faultless : IsReading suite a signals counters → AreCounted suite a signals counters
      → AreProgramParts suite a signals counters p → HasNoFault suite a
  faultless reading counted parts =
      record { signals = signals; counters = counters; reading = reading; none = none counted parts }
