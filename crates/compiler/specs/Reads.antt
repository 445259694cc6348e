-- What the code keeps of what an assertion reads.
use Rattle.std.specs.Prelude.{◌≡◌}
use Rattle.assertions.specs.declared.assertion.Assertion.{Assertion}
use Rattle.assertions.specs.declared.suite.Suite.{Suite}
use Rattle.assertions.specs.Marks.{places_from}
use Rattle.compiler.specs.Readings.{IsReading}
use Rattle.compiler.specs.declared.reading.Reading.{Reading}

-- It says what is read, and where.
pub record IsReadingOf (suite : Suite) (a : Assertion) (r : Reading) : Type 0 where
  pub is : IsReading suite a r.signals.items r.counters.items
  pub signals_at : r.signal_places.items ≡ places_from 0 r.signals.items
  pub counters_at : r.counter_places.items ≡ places_from 0 r.counters.items
