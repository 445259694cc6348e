-- The section of an antecedent, each match of it or the first one alone.
use Rattle.std.proofs.Common.{◌≡◌, ℕ, Bool, true, false, length, refl, sym}
use Rattle.std.proofs.lemmas.Bool.{false≢true}
use Rattle.assertions.specs.declared.sequence.Boolean.{Boolean}
use Rattle.assertions.specs.declared.sequence.Boolean.TheVariants.{One}
use Rattle.assertions.specs.Written.{Written}
use Rattle.bytecode_programs.specs.Values.{SectionData}
use Rattle.verifier.specs.Sections.{IsSection, instructions_in}
use Rattle.machine_sections.specs.Firsts.{accepting_first}
use Rattle.positions.specs.Sequences.{atom_of}
use Rattle.positions.specs.Laws.{section_for, led_section}
use Rattle.positions.proofs.Firsts.{law-well_formed, law-as_long}

-- which one it is
pub led-first : (first : Bool) (w : Written Boolean) → first ≡ true
    → accepting_first (section_for atom_of One w) ≡ led_section first atom_of One w
led-first true w on = refl
led-first false w on = absurd (false≢true on)

pub led-each : (first : Bool) (w : Written Boolean) → first ≡ false
    → section_for atom_of One w ≡ led_section first atom_of One w
led-each true w off = absurd (false≢true (sym off))
led-each false w off = refl

-- It is well formed, and as long, whichever it is.
pub led-formed : (first : Bool) (atoms : ℕ) (w : Written Boolean) → IsSection 2 atoms (section_for atom_of One w)
    → IsSection 2 atoms (led_section first atom_of One w)
led-formed false atoms w h = h
led-formed true atoms w h = law-well_formed atoms (section_for atom_of One w) h

pub led-long : (first : Bool) (w : Written Boolean)
    → length (led_section first atom_of One w).blocks ≡ length (section_for atom_of One w).blocks
led-long false w = refl
led-long true w = (law-as_long (section_for atom_of One w)).0

pub led-size : (first : Bool) (w : Written Boolean)
    → instructions_in (led_section first atom_of One w).blocks ≡ instructions_in (section_for atom_of One w).blocks
led-size false w = refl
led-size true w = (law-as_long (section_for atom_of One w)).1
