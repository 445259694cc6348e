-- What the sections of a sequence are good for.
use Rattle.std.specs.Prelude.{◌≡◌, ◌⊎◌, Option, Some, None, ℕ, ◌+◌, ◌*◌, ◌<◌, ◌≤◌, Bool, true}
use Rattle.std.specs.Prelude.{false, List, length}
use Rattle.bytecode_programs.specs.Values.{SectionData}
use Rattle.verifier.specs.Sections.{IsSection, instructions_in}
use Rattle.assertions.specs.declared.sequence.Boolean.{Boolean}
use Rattle.assertions.specs.Written.{Written, boolean, delay, lead, repeat, or, and, intersect}
use Rattle.assertions.specs.Written.{throughout, kernel, weight, IsOrdered}
use Rattle.machine_sections.specs.Automata.{AutomatonFollows}
use Rattle.machine_sections.specs.Effects.{automaton_of}
use Rattle.machine_sections.specs.Firsts.{accepting_first}
use Rattle.assertions.specs.Segments.{Matches}
use Rattle.assertions.specs.Attempts.{every, first_match}
use Rattle.positions.specs.Plans.{plan}
use Rattle.positions.specs.Tables.{plan_table}
use Rattle.positions.specs.Living.{sifted}
use Rattle.positions.specs.Sections.{section_of, told_atom}

-- A boolean occurs in a sequence; the constant 1 does where a delay needs it.
abbrev pub Occurs : {B : Type 0} → B → B → Written B → Type 0
Occurs true_one b (boolean c) = c ≡ b
Occurs true_one b (delay r least most s) =
    (true_one ≡ b) ⊎ (Occurs true_one b r ⊎ Occurs true_one b s)
Occurs true_one b (lead least most s) = (true_one ≡ b) ⊎ Occurs true_one b s
Occurs true_one b (repeat r least most) = Occurs true_one b r
Occurs true_one b (or r s) = Occurs true_one b r ⊎ Occurs true_one b s
Occurs true_one b (and r s) = Occurs true_one b r ⊎ Occurs true_one b s
Occurs true_one b (intersect r s) = Occurs true_one b r ⊎ Occurs true_one b s
Occurs true_one b (throughout c r) = (c ≡ b) ⊎ Occurs true_one b r

-- The atoms of each tick tell the booleans that occur.
abbrev pub TellBooleans :
    {B : Type 0} → (B → Option ℕ) → (ℕ → List Bool) → (B → ℕ → Bool) → B → Written B → Type 0
TellBooleans {B} atom rows value true_one w =
    (k : ℕ) (b : B) → Occurs true_one b w → told_atom (atom b) (rows k) ≡ value b k

-- an atom that a boolean has is there
abbrev pub IsThere : ℕ → Option ℕ → Type 0
IsThere atoms None = Unit {0}
IsThere atoms (Some n) = n < atoms

-- the section of a sequence, where atom tells the number of each boolean but of the constant 1
abbrev pub section_for : {B : Type 0} → (B → Option ℕ) → B → Written B → SectionData
section_for atom true_one w = section_of atom (sifted (plan_table (plan true_one w)))

-- the section of an antecedent, of which each match counts or the first one alone
abbrev pub led_section : {B : Type 0} → Bool → (B → Option ℕ) → B → Written B → SectionData
led_section false atom true_one w = section_for atom true_one w
led_section true atom true_one w = accepting_first (section_for atom true_one w)

-- It follows the sequence.
abbrev pub SectionFollows : Type 0
SectionFollows =
    (atom : Boolean → Option ℕ) (true_one : Boolean) (rows : ℕ → List Bool)
    (value : Boolean → ℕ → Bool) (w : Written Boolean) →
    IsOrdered w → TellBooleans atom rows value true_one w →
    AutomatonFollows value (every (kernel true_one w))
    (automaton_of (section_for atom true_one w) rows)

-- It is well formed, as whichever section of a program that has an atom for each boolean.
abbrev pub SectionIsWellFormed : Type 0
SectionIsWellFormed =
    (number atoms : ℕ) (atom : Boolean → Option ℕ) (true_one : Boolean) (w : Written Boolean) →
    ((b : Boolean) → Occurs true_one b w → IsThere atoms (atom b)) →
    IsSection number atoms (section_for atom true_one w)

-- It has no more positions than the sequence weighs.
abbrev pub SectionIsSmall : Type 0
SectionIsSmall =
    (atom : Boolean → Option ℕ) (true_one : Boolean) (w : Written Boolean) →
    IsOrdered w → length (section_for atom true_one w).blocks ≤ weight w

-- No `and` or `intersect`, and no delay between two parts that may be 0.
abbrev pub IsPlain : {B : Type 0} → Written B → Type 0
IsPlain (boolean b) = Unit {0}
IsPlain (delay r least most s) = (1 ≤ least) × IsPlain r × IsPlain s
IsPlain (lead least most s) = IsPlain s
IsPlain (repeat r least most) = IsPlain r
IsPlain (or r s) = IsPlain r × IsPlain s
IsPlain (and r s) = ⊥
IsPlain (intersect r s) = ⊥
IsPlain (throughout b r) = IsPlain r

-- how many booleans are written
abbrev pub booleans : {B : Type 0} → Written B → ℕ
booleans (boolean b) = 1
booleans (delay r least most s) = booleans r + booleans s
booleans (lead least most s) = booleans s
booleans (repeat r least most) = booleans r
booleans (or r s) = booleans r + booleans s
booleans (and r s) = booleans r + booleans s
booleans (intersect r s) = booleans r + booleans s
booleans (throughout b r) = booleans r + 1

-- Its section then has at most n (n - 1) / 2 + n (m + 2) instructions, where it weighs n and has m
-- booleans.
abbrev pub SectionIsShort : Type 0
SectionIsShort =
    (atom : Boolean → Option ℕ) (true_one : Boolean) (w : Written Boolean) →
    IsOrdered w → IsPlain w →
    2 * instructions_in (section_for atom true_one w).blocks + weight w
    ≤ weight w * weight w + 2 * (weight w * (booleans w + 2))

-- Its section with AcceptFirst in place of Accept follows the first matches, where none is empty.
abbrev pub SectionFollowsFirst : Type 0
SectionFollowsFirst =
    (atom : Boolean → Option ℕ) (true_one : Boolean) (rows : ℕ → List Bool)
    (value : Boolean → ℕ → Bool) (w : Written Boolean) →
    IsOrdered w → TellBooleans atom rows value true_one w →
    ((e : ℕ) → Matches value (kernel true_one w) e e → ⊥) →
    AutomatonFollows value (first_match (kernel true_one w))
    (automaton_of (accepting_first (section_for atom true_one w)) rows)

-- A well formed antecedent stays so with AcceptFirst in place of Accept, and is as long.
abbrev pub AcceptingFirstIsWellFormed : Type 0
AcceptingFirstIsWellFormed =
    (atoms : ℕ) (s : SectionData) → IsSection 2 atoms s → IsSection 2 atoms (accepting_first s)

abbrev pub AcceptingFirstIsAsLong : Type 0
AcceptingFirstIsAsLong =
    (s : SectionData) →
    (length (accepting_first s).blocks ≡ length s.blocks)
    × (instructions_in (accepting_first s).blocks ≡ instructions_in s.blocks)
