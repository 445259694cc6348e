-- Laws of sample code.
use Rattle.std.specs.Prelude.{◌≡◌, ℕ, ◌+◌, ◌-◌, ◌*◌, ◌^◌, ◌<◌, ◌≤◌, List, [], ◌∷◌, ◌++◌, length}
use Rattle.std.specs.Prelude.{map}
use Rattle.std.specs.Prelude.{Some, slice_get, sum_by, true}
use Rattle.std.specs.List.{AllByRecursion, flat_map, list_all}
use Rattle.expressions.specs.declared.name.Name.{Name}
use Rattle.expressions.specs.declared.expr.Expr.{Expr}
use Rattle.expressions.specs.declared.counter.Counter.{Counter}
use Rattle.expressions.specs.Terms.{Term, constant, named, slice, group, concat, inverse, reduce}
use Rattle.expressions.specs.Terms.{combine, shift, compare, connect, choose, past, change}
use Rattle.expressions.specs.Terms.{Samples, name_at, width_of, value_of, is_true}
use Rattle.expressions.specs.Counters.{next_count}
use Rattle.bytecode_programs.specs.declared.limits.Limits.{Limits}
use Rattle.bytecode_programs.specs.declared.sample_instr.SampleInstr.{SampleInstr}
use Rattle.bytecode_programs.specs.Values.{ProgramData, fits_sample}
use Rattle.bytecode_programs.specs.Instructions.{FrameData, frame_of, sample_flow}
use Rattle.verifier.specs.Rules.{sample_rules}
use Rattle.verifier.specs.Typing.{IsCodeTyped, AreShort, longest_list}
use Rattle.verifier.specs.Limits.{farthest, longest_path}
use Rattle.verifier.specs.Programs.{IsAccepted}
use Rattle.machine_checked.specs.Outcomes.{done}
use Rattle.machine_checked.specs.Samples.{Operand, operand, Made, nothing_made, run_sample}
use Rattle.compiler.specs.Codes.{Slots, slot_of, code_of, need, reach}
use Rattle.compiler.specs.Samples.{Held, held_slot, next_code, next_need, counter_terms}
use Rattle.compiler.specs.Samples.{sample_code, sample_need, sample_reach}
use Rattle.compiler.specs.Samples.{largest}
use Rattle.compiler.specs.Chosen.{terms_at, held_counters}

-- P holds of an expression and of each of its parts.
abbrev pub EachPart : (Term → Type 0) → Term → Type 0
EachPart P (constant bits) = P (constant bits)
EachPart P (named name) = P (named name)
EachPart P (slice part) = P (slice part)
EachPart P (group e) = P (group e) × EachPart P e
EachPart P (concat a b) = P (concat a b) × EachPart P a × EachPart P b
EachPart P (inverse e) = P (inverse e) × EachPart P e
EachPart P (reduce op e) = P (reduce op e) × EachPart P e
EachPart P (combine op a b) = P (combine op a b) × EachPart P a × EachPart P b
EachPart P (shift op a b) = P (shift op a b) × EachPart P a × EachPart P b
EachPart P (compare op a b) = P (compare op a b) × EachPart P a × EachPart P b
EachPart P (connect op a b) = P (connect op a b) × EachPart P a × EachPart P b
EachPart P (choose c a b) = P (choose c a b) × EachPart P c × EachPart P a × EachPart P b
EachPart P (past e ticks) = P (past e ticks) × EachPart P e
EachPart P (change op e) = P (change op e) × EachPart P e

-- what holds of the name that an expression is, or whose bits it is
abbrev pub OfName : (Name → Type 0) → Term → Type 0
OfName P (named name) = P name
OfName P (slice part) = P part.name
OfName P e = Unit {0}

abbrev pub IsNarrow : Term → Type 0
IsNarrow e = width_of e ≤ 128

-- a name's slot has its width
abbrev pub HasSlot : FrameData → Slots → Term → Type 0
HasSlot f at = OfName (λ name. slice_get f.slots (slot_of at name) ≡ Some name.width)

-- the same, and no expression has over 128 bits
pub record IsInFrame (f : FrameData) (at : Slots) (e : Term) : Type 0 where
  pub slot : HasSlot f at e
  pub narrow : IsNarrow e

-- Rows up to the tick k, counted back from it: what a slot held at the ticks that there were, and 0
-- before them.
pub record TellsSlot (sample : ℕ → ℕ → ℕ) (k slot : ℕ) (value : ℕ → ℕ) : Type 0 where
  pub seen : (back : ℕ) → back ≤ k → sample back slot ≡ value (k - back)
  pub before : (back : ℕ) → k < back → sample back slot ≡ 0

-- slot 0 is the constant 1
abbrev pub TellsTicks : (ℕ → ℕ → ℕ) → ℕ → Type 0
TellsTicks sample k = TellsSlot sample k 0 (λ j. 1)

abbrev pub TellsNames : Samples → Slots → (ℕ → ℕ → ℕ) → ℕ → Term → Type 0
TellsNames t at sample k =
    EachPart (OfName (λ name. TellsSlot sample k (slot_of at name) (name_at t name)))

-- Wherever the code stands, with room on the declared stack, it leaves a value of w bits on the
-- stack, and spends one for each instruction.
abbrev pub LeavesValue :
    FrameData → Limits → (ℕ → ℕ → ℕ) → List SampleInstr → ℕ → ℕ → ℕ → Type 0
LeavesValue f d sample code w v room =
    (before after : List SampleInstr) (xs : List Operand) (made : Made) (left : ℕ) →
    length xs + room ≤ d.stack →
    run_sample f d sample (before ++ (code ++ after)) (length code + left) (length before) xs made
    ≡ run_sample f d sample (before ++ (code ++ after)) left (length before + length code)
    (operand w v ∷ xs) made

-- The code of an expression leaves its value.
abbrev pub ExpressionsLeaveValues : Type 0
ExpressionsLeaveValues =
    (f : FrameData) (d : Limits) (t : Samples) (at : Slots) (sample : ℕ → ℕ → ℕ) (k : ℕ) →
    slice_get f.slots 0 ≡ Some 1 → TellsTicks sample k →
    (e : Term) → EachPart (IsInFrame f at) e → TellsNames t at sample k e → reach e ≤ d.history →
    (w : ℕ) → width_of e ≤ w
    → LeavesValue f d sample (code_of at e w 0) w (value_of t e k w) (need e)

-- What the slot of a counter holds: its width, and its value at this tick.
pub record IsCount (f : FrameData) (t : Samples) (at : Slots) (sample : ℕ → ℕ → ℕ) (k : ℕ)
    (h : Held) : Type 0 where
  pub slot : slice_get f.slots (held_slot at h) ≡ Some h.counter.width
  pub now : sample 0 (held_slot at h) ≡ t.counter_at h.place k
  pub fits : t.counter_at h.place k < 2 ^ h.counter.width

-- The code of a counter leaves its value at the next tick.
abbrev pub CountersLeaveNext : Type 0
CountersLeaveNext =
    (f : FrameData) (d : Limits) (t : Samples) (at : Slots) (sample : ℕ → ℕ → ℕ) (k : ℕ) →
    slice_get f.slots 0 ≡ Some 1 → TellsTicks sample k →
    (h : Held) → IsCount f t at sample k h →
    AllByRecursion (EachPart (IsInFrame f at)) (counter_terms h.counter) →
    AllByRecursion (TellsNames t at sample k) (counter_terms h.counter) →
    largest reach (counter_terms h.counter) ≤ d.history →
    LeavesValue f d sample (next_code at h) h.counter.width
    (next_count t h.counter (t.counter_at h.place k) k) (next_need h.counter)

-- the expressions of a program's booleans and counters
abbrev pub program_terms : List Term → List Held → List Term
program_terms es hs = es ++ flat_map (λ h. counter_terms h.counter) hs

-- What code of these booleans and counters may name: a slot of its width for each name and counter,
-- an atom for each boolean, a store for each counter.
pub record IsFrame (f : FrameData) (at : Slots) (es : List Term) (hs : List Held) : Type 0 where
  pub one : slice_get f.slots 0 ≡ Some 1
  pub slots : AllByRecursion (EachPart (HasSlot f at)) (program_terms es hs)
  pub narrow : AllByRecursion (EachPart IsNarrow) (program_terms es hs)
  pub held :
      AllByRecursion (λ h. slice_get f.slots (held_slot at h) ≡ Some h.counter.width) hs
  pub atoms : f.atoms ≡ length es
  pub counters : f.counters ≡ map (λ h. h.counter.width) hs

-- Rows that tell the samples at the ticks up to k.
pub record AreTold (t : Samples) (at : Slots) (sample : ℕ → ℕ → ℕ) (k : ℕ) (es : List Term)
    (hs : List Held) : Type 0 where
  pub ticks : TellsTicks sample k
  pub names : AllByRecursion (TellsNames t at sample k) (program_terms es hs)
  pub counts : AllByRecursion (λ h. sample 0 (held_slot at h) ≡ t.counter_at h.place k) hs
  pub fit : AllByRecursion (λ h. t.counter_at h.place k < 2 ^ h.counter.width) hs

-- No part of the expressions and counters that a program is made of has over 128 bits.
abbrev pub ProgramsAreNarrow : Type 0
ProgramsAreNarrow =
    (booleans : List Expr) (atoms : List ℕ) (counters : List Counter) (stores : List ℕ) →
    AllByRecursion (EachPart IsNarrow)
    (program_terms (terms_at booleans atoms) (held_counters counters stores))

-- Code that some table types, with lists of at most so many operands, that reads at most so far
-- back and has one path.
pub record IsTypedWithin (f : FrameData) (code : List SampleInstr) (stack history : ℕ) :
    Type 0 where
  pub table : ℕ → List ℕ
  pub typed : IsCodeTyped (sample_rules f) 0 code table
  pub lists : longest_list table 0 code ≤ stack
  pub short : stack ≤ 1024 → AreShort (sample_rules f) 0 code table
  pub near : farthest code ≤ history
  pub path : longest_path 0 (map sample_flow code) ≡ length code

-- The sample code of a program is typed.
abbrev pub SamplesAreTyped : Type 0
SamplesAreTyped =
    (f : FrameData) (at : Slots) (es : List Term) (hs : List Held) → IsFrame f at es hs →
    IsTypedWithin f (sample_code at es hs) (sample_need es hs) (sample_reach es hs)

-- A program that the verifier accepts, whose sample code is that of these booleans and counters: at
-- each clock it runs to its end, which costs one for each instruction. Then each atom is the truth
-- of its boolean at this tick, and each store is what the counter counts from its value at this
-- tick.
abbrev pub SamplesTell : Type 0
SamplesTell =
    (p : ProgramData) (at : Slots) (es : List Term) (hs : List Held) →
    IsAccepted p → p.sample ≡ sample_code at es hs → IsFrame (frame_of p) at es hs →
    (t : Samples) (sample : ℕ → ℕ → ℕ) (k : ℕ) → AreTold t at sample k es hs →
    run_sample (frame_of p) p.header.limits sample p.sample p.header.limits.budget 0 []
    (nothing_made (frame_of p))
    ≡ done
    (record {
      atoms = map (λ e. is_true t e k) es;
      stores = map (λ h. Some (next_count t h.counter (t.counter_at h.place k) k)) hs;
    })
    (p.header.limits.budget - length p.sample)

-- Each instruction of the sample code of a program can be written to a file.
abbrev pub SamplesFit : Type 0
SamplesFit =
    (f : FrameData) (at : Slots) (es : List Term) (hs : List Held) → IsFrame f at es hs →
    length f.slots ≤ 65536 → length es ≤ 256 → length hs ≤ 256 → sample_reach es hs < 65536 →
    list_all fits_sample (sample_code at es hs) ≡ true

-- operators and operands
abbrev pub size : Term → ℕ
size (constant bits) = 1
size (named name) = 1
size (slice part) = 1
size (group e) = 1 + size e
size (concat a b) = 1 + (size a + size b)
size (inverse e) = 1 + size e
size (reduce op e) = 1 + size e
size (combine op a b) = 1 + (size a + size b)
size (shift op a b) = 1 + (size a + size b)
size (compare op a b) = 1 + (size a + size b)
size (connect op a b) = 1 + (size a + size b)
size (choose c a b) = 1 + (size c + (size a + size b))
size (past e ticks) = 1 + size e
size (change op e) = 1 + size e

-- no call of $rose, $fell, $stable or $changed, which hold the code of their operand twice
abbrev pub IsNoChange : Term → Type 0
IsNoChange (change op e) = ⊥
IsNoChange e = Unit {0}

-- Such code is short: five instructions for each operator and operand, two for each boolean, and
-- the Halt.
abbrev pub SamplesAreShort : Type 0
SamplesAreShort =
    (at : Slots) (es : List Term) → AllByRecursion (EachPart IsNoChange) es →
    length (sample_code at es []) ≤ 5 * sum_by size es + 2 * length es + 1
