-- What a verified program never meets.
use Rattle.std.specs.Prelude.{ℕ, ◌+◌, ◌≤◌, List, length}
use Rattle.bytecode_programs.specs.Values.{ProgramData}
use Rattle.verifier.specs.Programs.{least_attempts, least_obligations, IsAccepted}
use Rattle.machine_checked.specs.Outcomes.{Meets}
use Rattle.machine_checked.specs.Machine.{opening, clocks}
use Rattle.machine_checked.specs.Bounds.{IsReached}

-- Over any rows a program that the verifier accepts meets no trap: no bad operand, no jump outside
-- its code, no sample past its history, no full pool, and no cost over its budget. And what stands
-- between two clocks is bounded.
abbrev pub NeverTraps : Type 0
NeverTraps =
    (p : ProgramData) → IsAccepted p → (rows : List (List ℕ)) →
    Meets (λ s left. IsReached p s.standing) (clocks p (opening p) rows)

-- So many attempts and obligations are live between clocks that one more of each has room in pools
-- of the least size.
abbrev pub FewAreLive : Type 0
FewAreLive =
    (p : ProgramData) → IsAccepted p → (rows : List (List ℕ)) →
    Meets
    (λ s left.
    (length s.standing.attempts + 1 ≤ least_attempts p)
    × (length s.standing.obligations + 1 ≤ least_obligations p))
    (clocks p (opening p) rows)
