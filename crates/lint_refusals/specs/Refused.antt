-- Which texts are accepted over the variables of a dump, and at which byte others are refused.
use Rattle.std.specs.Prelude.{◌≡◌, ◌≢◌, ℕ, List, Option, Some, None, Ok, map}
use Rattle.std.specs.Prelude.{slice_get, unwrap_or}
use Rattle.std.specs.List.{AllByRecursion}
use Rattle.std.specs.Prelude.{Bool, true, false, ◌==◌}
use Rattle.lexer.specs.declared.token.Token.{Token}
use Rattle.lexer.specs.declared.fault.LexFault.{LexFault}
use Rattle.lexer.specs.Covering.{IsLexFault}
use Rattle.lexer.specs.Cutting.{cut_of, tokens_of}
use Rattle.parser_grammar.specs.Trees.{ItemForm}
use Rattle.parser.specs.declared.fault.ParseFault.{ParseFault}
use Rattle.parser.specs.Faults.{IsParseFault}
use Rattle.types.specs.declared.fault.TypeFault.{TypeFault}
use Rattle.types.specs.Faults.{IsFaultless, IsTypeFault}
use Rattle.types.specs.Texts.{assertions_of, suite_clock}
use Rattle.vcd_reader.specs.Variables.{Declared}
use Rattle.compiler.specs.declared.fault.CompileFault.{CompileFault}
use Rattle.compiler.specs.declared.fault.CompileFault.TheVariants as programs
use Rattle.compiler.specs.Faults.{WhyNotCompiled}
use Rattle.report_programs.specs.Faults.{HasAcceptedProgram}
use Rattle.assertions.specs.declared.assertion.Assertion.{Assertion}
use Rattle.assertions.specs.declared.suite.Suite.{Suite}
use Rattle.types.specs.Suites.{IsSuite}
use Rattle.lint_notes.specs.Idle.{heads}
use Rattle.suite_over_dump.specs.Dumps.{width_named}
use Rattle.suite_over_dump.specs.Suites.{Spells, scope_over, clock_byte}
use Rattle.lint_messages.specs.Bytes.{byte_of_lex, byte_of_parse, byte_of_type}

abbrev pub is_one_bit : Option ℕ → Bool
is_one_bit None = false
is_one_bit (Some width) = width == 1

-- whether the clock of items is a variable of one bit
abbrev pub has_clock : List Declared → List ItemForm → Bool
has_clock vs items = is_one_bit (width_named vs (suite_clock (assertions_of items)))

-- Items say a suite of which each assertion has a program.
pub record HavePrograms (vs : List Declared) (items : List ItemForm) : Type 0 where
  pub suite : Suite
  pub says : IsSuite (scope_over vs items) items suite
  pub programs : AllByRecursion (HasAcceptedProgram suite) suite.assertions.items

-- The text spells items in which no fault of types stands, and which have a clock and programs.
pub record IsAccepted (vs : List Declared) (text : List ℕ) : Type 0 where
  pub tokens : List Token
  pub items : List ItemForm
  pub spells : Spells text tokens items
  pub faultless : IsFaultless (scope_over vs items) items
  pub clocked : has_clock vs items ≡ true
  pub programs : HavePrograms vs items

-- The fault stands of an assertion, which has no program.
pub record IsWithout (suite : Suite) (a : Assertion) (fault : CompileFault) : Type 0 where
  pub why : WhyNotCompiled suite a fault
  pub real : fault ≢ programs.Memory

-- The fault is that of the assertion at a place.
pub record IsProgramless (suite : Suite) (place : ℕ) (fault : CompileFault) : Type 0 where
  pub assertion : Assertion
  pub is : slice_get suite.assertions.items place ≡ Some assertion
  pub without : IsWithout suite assertion fault

-- the bytes at which assertions begin, and that of one place
abbrev pub head_bytes : List ItemForm → List ℕ
head_bytes items = map (λ h. h.0) (heads items)

abbrev pub head_at : List ItemForm → ℕ → ℕ
head_at items place = unwrap_or (slice_get (head_bytes items) place) 0

-- The assertion of the suite that begins at a byte of the items has no program.
pub record IsUnprogrammed (suite : Suite) (items : List ItemForm) (at : ℕ) : Type 0 where
  pub place : ℕ
  pub fault : CompileFault
  pub programless : IsProgramless suite place fault
  pub begins : at ≡ head_at items place

-- The same of a suite that the items say.
pub record HasProgramless (vs : List Declared) (items : List ItemForm) (at : ℕ) : Type 0 where
  pub suite : Suite
  pub says : IsSuite (scope_over vs items) items suite
  pub unprogrammed : IsUnprogrammed suite items at

-- The text is refused at a byte: it has no tokens, its tokens spell no items, there is a fault of
-- types in its items, they have no clock, or an assertion has no program.
pub data IsRefused (vs : List Declared) (text : List ℕ) (at : ℕ) : Type 0 where
  unlexed : (fault : LexFault) → IsLexFault text fault → byte_of_lex fault ≡ Some at
      → IsRefused vs text at
  unparsed : (fault : ParseFault) (tokens : List Token) → tokens_of text ≡ Ok (map cut_of tokens)
      → IsParseFault tokens fault → byte_of_parse fault ≡ Some at → IsRefused vs text at
  mistyped : (fault : TypeFault) (tokens : List Token) (items : List ItemForm)
      → Spells text tokens items → IsTypeFault (scope_over vs items) items fault
      → byte_of_type fault ≡ Some at → IsRefused vs text at
  unclocked : (tokens : List Token) (items : List ItemForm) → Spells text tokens items
      → has_clock vs items ≡ false → at ≡ clock_byte items → IsRefused vs text at
  unprogrammed : (tokens : List Token) (items : List ItemForm) → Spells text tokens items
      → HasProgramless vs items at → IsRefused vs text at
