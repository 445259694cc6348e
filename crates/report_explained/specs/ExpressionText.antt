-- Expressions as text: IEEE 1800-2017, 11.3 (tables 11-1 and 11-2) and A.8.
use Rattle.std.specs.Prelude.{◌≡◌, ◌⊎◌, ◌≤◌, ℕ, zero, suc, ◌+◌, ◌==◌, Bool, true, false, List, []}
use Rattle.std.specs.Prelude.{◌++◌}
use Rattle.std.specs.Prelude.{Option, Some, None, map, codes, decimal, nat_le, slice_get}
use Rattle.std.specs.Prelude.{string_bytes}
use Rattle.signals.specs.declared.bits.Bits.{Bits}
use Rattle.assertions.specs.declared.signal.Signal.{Signal as Watched}
use Rattle.assertions.specs.declared.suite.Suite.{Suite}
use Rattle.expressions.specs.declared.name.Name.{Name}
use Rattle.expressions.specs.declared.name.Origin.{Origin}
use Rattle.expressions.specs.declared.name.Origin.TheVariants.{Signal, Counter}
use Rattle.expressions.specs.declared.slice.Slice.{Slice}
use Rattle.expressions.specs.declared.operator.Arithmetic.{Arithmetic}
use Rattle.expressions.specs.declared.operator.Arithmetic.TheVariants as sums
use Rattle.expressions.specs.declared.operator.Shift.{Shift}
use Rattle.expressions.specs.declared.operator.Shift.TheVariants as shifts
use Rattle.expressions.specs.declared.operator.Comparison.{Comparison}
use Rattle.expressions.specs.declared.operator.Comparison.TheVariants as comparisons
use Rattle.expressions.specs.declared.operator.Connective.{Connective}
use Rattle.expressions.specs.declared.operator.Connective.TheVariants as connectives
use Rattle.expressions.specs.declared.operator.Reduction.{Reduction}
use Rattle.expressions.specs.declared.operator.Reduction.TheVariants as reductions
use Rattle.expressions.specs.declared.operator.Change.{Change}
use Rattle.expressions.specs.declared.operator.Change.TheVariants as changes
use Rattle.expressions.specs.Terms.{Term, constant, named, slice, group, concat, inverse, reduce}
use Rattle.expressions.specs.Terms.{combine, shift, compare, connect, choose, past, change}
use Rattle.report_explained.specs.declared.expression_text.Names.{Names}
use Rattle.report_explained.specs.SheetText.{IsMarked}

-- what signals and counters are called, by their places
pub record Called : Type 0 where
  pub signals : List Watched
  pub counters : List (List ℕ)

abbrev pub called : Names → Called
called n = record { signals = n.signals.now; counters = map (λ t. t.now) n.counters.now }

-- what they are called in a suite whose counters have these names
abbrev pub called_in : Suite → List (List ℕ) → Called
called_in suite counters = record { signals = suite.names.items; counters = counters }

-- a path, or a name; those of what isn't there are of no account
abbrev pub path_of : Option Watched → List ℕ
path_of None = []
path_of (Some signal) = string_bytes signal.path

abbrev pub text_or_none : Option (List ℕ) → List ℕ
text_or_none None = []
text_or_none (Some text) = text

abbrev pub text_at : Called → Origin → ℕ → List ℕ
text_at c Signal place = path_of (slice_get c.signals place)
text_at c Counter place = text_or_none (slice_get c.counters place)

abbrev pub name_text : Called → Name → List ℕ
name_text c name = text_at c name.origin name.place

-- [n], and [high:low] (11.5.1)
abbrev pub select_text : Bool → ℕ → ℕ → List ℕ
select_text true high low = codes "[" ++ decimal high ++ codes "]"
select_text false high low = codes "[" ++ decimal high ++ codes ":" ++ decimal low ++ codes "]"

abbrev pub slice_text : Called → Slice → List ℕ
slice_text c part = name_text c part.name ++ select_text (part.low == part.high) part.high part.low

-- A number (5.7.1): without a size it has 32 bits; else the size, a base and digits, which are
-- decimal up to 4 bits.
abbrev pub IsBased : Bool → ℕ → List ℕ → Type 0
IsBased true value text = text ≡ codes "'d" ++ decimal value
IsBased false value text = IsMarked value text

pub record IsSized (bits : Bits) (text : List ℕ) : Type 0 where
  pub based : List ℕ
  pub is_based : IsBased (nat_le bits.width 4) bits.value based
  pub is : text ≡ decimal bits.width ++ based

abbrev pub IsNumberBy : Bool → Bits → List ℕ → Type 0
IsNumberBy true bits text = text ≡ decimal bits.value
IsNumberBy false bits text = IsSized bits text

abbrev pub IsNumber : Bits → List ℕ → Type 0
IsNumber bits text = IsNumberBy (bits.width == 32) bits text

-- operators of two operands (table 11-1)
abbrev pub sum_sign : Arithmetic → List ℕ
sum_sign sums.Add = codes " + "
sum_sign sums.Sub = codes " - "
sum_sign sums.And = codes " & "
sum_sign sums.Or = codes " | "
sum_sign sums.Xor = codes " ^ "
sum_sign sums.Xnor = codes " ~^ "

abbrev pub shift_sign : Shift → List ℕ
shift_sign shifts.Left = codes " << "
shift_sign shifts.Right = codes " >> "

abbrev pub comparison_sign : Comparison → List ℕ
comparison_sign comparisons.Equal = codes " == "
comparison_sign comparisons.Differs = codes " != "
comparison_sign comparisons.Less = codes " < "
comparison_sign comparisons.AtMost = codes " <= "
comparison_sign comparisons.Greater = codes " > "
comparison_sign comparisons.AtLeast = codes " >= "

abbrev pub connective_sign : Connective → List ℕ
connective_sign connectives.Both = codes " && "
connective_sign connectives.Either = codes " || "

-- operators of one operand, and functions (11.4.9, 20.9)
abbrev pub reduction_word : Reduction → List ℕ
reduction_word reductions.Zero = codes "!"
reduction_word reductions.NonZero = codes "|"
reduction_word reductions.AllOnes = codes "&"
reduction_word reductions.NotAllOnes = codes "~&"
reduction_word reductions.Odd = codes "^"
reduction_word reductions.Even = codes "~^"
reduction_word reductions.OneHot = codes "$onehot"
reduction_word reductions.OneHotOrZero = codes "$onehot0"

abbrev pub is_function : Reduction → Bool
is_function reductions.OneHot = true
is_function reductions.OneHotOrZero = true
is_function _ = false

-- functions of values before (16.9.3)
abbrev pub change_word : Change → List ℕ
change_word changes.Rose = codes "$rose"
change_word changes.Fell = codes "$fell"
change_word changes.Stable = codes "$stable"
change_word changes.Changed = codes "$changed"

-- How tightly operators bind (table 11-2): a condition loosest, 1; of one operand 11; and 12 what
-- is no operator, a primary (A.8.4).
abbrev pub sum_level : Arithmetic → ℕ
sum_level sums.Add = 10
sum_level sums.Sub = 10
sum_level sums.And = 6
sum_level sums.Xor = 5
sum_level sums.Xnor = 5
sum_level sums.Or = 4

abbrev pub comparison_level : Comparison → ℕ
comparison_level comparisons.Equal = 7
comparison_level comparisons.Differs = 7
comparison_level comparisons.Less = 8
comparison_level comparisons.AtMost = 8
comparison_level comparisons.Greater = 8
comparison_level comparisons.AtLeast = 8

abbrev pub connective_level : Connective → ℕ
connective_level connectives.Both = 3
connective_level connectives.Either = 2

abbrev pub reduction_level : Bool → ℕ
reduction_level true = 12
reduction_level false = 11

abbrev pub level_of : Term → ℕ
level_of (inverse e) = 11
level_of (reduce op e) = reduction_level (is_function op)
level_of (combine op a b) = sum_level op
level_of (shift op a b) = 9
level_of (compare op a b) = comparison_level op
level_of (connect op a b) = connective_level op
level_of (choose c a b) = 1
level_of _ = 12

abbrev pub in_brackets : ℕ → List ℕ → List ℕ
in_brackets zero text = text
in_brackets (suc pairs) text = codes "(" ++ in_brackets pairs text ++ codes ")"

-- What has a level may stand where one is asked: in brackets (A.8.4), or bare, if it binds so
-- tightly.
pub record Stands (level asked : ℕ) (IsBare : List ℕ → Type 0) (text : List ℕ) : Type 0 where
  pub bare : List ℕ
  pub is_bare : IsBare bare
  pub pairs : ℕ
  pub is : text ≡ in_brackets pairs bare
  pub tight : pairs ≡ 0 → asked ≤ level

-- a text between two others
pub record IsWithin (before after : List ℕ) (Is : List ℕ → Type 0) (text : List ℕ) :
    Type 0 where
  pub inner : List ℕ
  pub is_inner : Is inner
  pub is : text ≡ before ++ inner ++ after

-- a text, a sign, and another one
pub record IsJoined (sign : List ℕ) (IsFirst IsSecond : List ℕ → Type 0) (text : List ℕ) :
    Type 0 where
  pub first : List ℕ
  pub is_first : IsFirst first
  pub second : List ℕ
  pub is_second : IsSecond second
  pub is : text ≡ first ++ sign ++ second

-- of one operand: a function of it, or a sign before a primary (A.8.3)
abbrev pub IsReduced :
    Bool → List ℕ → (List ℕ → Type 0) → (List ℕ → Type 0) → List ℕ → Type 0
IsReduced true word IsAny IsPrimary = IsWithin (word ++ codes "(") (codes ")") IsAny
IsReduced false word IsAny IsPrimary = IsWithin word [] IsPrimary

-- the parts before the last one, whose braces are those of all
abbrev pub IsFront : Term → (List ℕ → Type 0) → List ℕ → Type 0
IsFront (concat a b) IsBare text = IsBare (codes "{" ++ text ++ codes "}")
IsFront _ IsBare text = ⊥

-- how many ticks before, if it isn't one (16.9.3)
abbrev pub ticks_text : Bool → ℕ → List ℕ
ticks_text true ticks = []
ticks_text false ticks = codes ", " ++ decimal ticks

-- The text of a term, without brackets around it. Operators group from the left, a condition's from
-- the right (11.3.2).
abbrev pub IsBare : Called → Term → List ℕ → Type 0
IsBare c (constant bits) text = IsNumber bits text
IsBare c (named name) text = text ≡ name_text c name
IsBare c (slice part) text = text ≡ slice_text c part
IsBare c (group e) text =
    IsWithin (codes "{") (codes "}") (Stands (level_of e) 1 (IsBare c e)) text
IsBare c (concat a b) text =
    IsWithin (codes "{") (codes "}")
    (IsJoined (codes ", ")
    (λ t. IsFront a (IsBare c a) t ⊎ Stands (level_of a) 1 (IsBare c a) t)
    (Stands (level_of b) 1 (IsBare c b))) text
IsBare c (inverse e) text =
    IsWithin (codes "~") [] (Stands (level_of e) 12 (IsBare c e)) text
IsBare c (reduce op e) text =
    IsReduced (is_function op) (reduction_word op) (Stands (level_of e) 1 (IsBare c e))
    (Stands (level_of e) 12 (IsBare c e)) text
IsBare c (combine op a b) text =
    IsJoined (sum_sign op) (Stands (level_of a) (sum_level op) (IsBare c a))
    (Stands (level_of b) (sum_level op + 1) (IsBare c b)) text
IsBare c (shift op a b) text =
    IsJoined (shift_sign op) (Stands (level_of a) 9 (IsBare c a))
    (Stands (level_of b) 10 (IsBare c b)) text
IsBare c (compare op a b) text =
    IsJoined (comparison_sign op) (Stands (level_of a) (comparison_level op) (IsBare c a))
    (Stands (level_of b) (comparison_level op + 1) (IsBare c b)) text
IsBare c (connect op a b) text =
    IsJoined (connective_sign op) (Stands (level_of a) (connective_level op) (IsBare c a))
    (Stands (level_of b) (connective_level op + 1) (IsBare c b)) text
IsBare c (choose d a b) text =
    IsJoined (codes " ? ") (Stands (level_of d) 2 (IsBare c d))
    (IsJoined (codes " : ") (Stands (level_of a) 1 (IsBare c a))
    (Stands (level_of b) 1 (IsBare c b))) text
IsBare c (past e ticks) text =
    IsWithin (codes "$past(") (ticks_text (ticks == 1) ticks ++ codes ")")
    (Stands (level_of e) 1 (IsBare c e)) text
IsBare c (change op e) text =
    IsWithin (change_word op ++ codes "(") (codes ")") (Stands (level_of e) 1 (IsBare c e)) text

-- The text of a term where operators of a level, or tighter ones, may stand.
unfoldable pub IsText : Called → ℕ → Term → List ℕ → Type 0
IsText c asked e text = Stands (level_of e) asked (IsBare c e) text
