-- What a sheet shows: its clocks, and its rows.
use Rattle.std.specs.Prelude.{◌≡◌, ◌⊎◌, ◌+◌, ◌-◌, ◌||◌, ℕ, zero, suc, Bool, true, false}
use Rattle.std.specs.Prelude.{List, [], ◌∷◌, ◌++◌, length, nat_le, nat_lt, string_bytes}
use Rattle.std.specs.Prelude.{Option, Some, None, map, slice_get}
use Rattle.std.specs.List.{AllZip}
use Rattle.expressions.specs.declared.counter.Counter.{Counter as Counted}
use Rattle.assertions.specs.declared.signal.Signal.{Signal as Watched}
use Rattle.expressions.specs.declared.name.Name.{Name}
use Rattle.expressions.specs.declared.name.Origin.{Origin}
use Rattle.expressions.specs.declared.name.Origin.TheVariants.{Signal as FromSignal}
use Rattle.expressions.specs.declared.name.Origin.TheVariants.{Counter as FromCounter}
use Rattle.assertions.specs.Marks.{AreMarks, places_from}
use Rattle.assertions.specs.Reads.{AreRead}
use Rattle.expressions.specs.declared.expr.Expr.{Expr}
use Rattle.expressions.specs.Expressions.{term_of}
use Rattle.report_explained.specs.Asked.{is_asked}
use Rattle.report_explained.specs.ExpressionText.{Called, text_at, IsText}
use Rattle.report_explained.specs.Reach.{reach}
use Rattle.report_explained.specs.declared.asked.Attempt.{Attempt}
use Rattle.report_explained.specs.declared.sheet.Sheet.{Sheet}
use Rattle.report_explained.specs.declared.sheet.SheetRow.{SheetRow}
use Rattle.expressions.specs.declared.rows.Rows.{Rows}
use Rattle.expressions.specs.Rows.{samples_of}
use Rattle.expressions.specs.Tables.{column}
use Rattle.assertions.specs.declared.assertion.Assertion.{Assertion}
use Rattle.assertions.specs.declared.suite.Suite.{Suite}
use Rattle.assertions.specs.Shapes.{expression_at, is_true_at}
use Rattle.report_explained.specs.declared.cells.RowSource.{RowSource}
use Rattle.report_explained.specs.declared.cells.RowSource.TheVariants.{Signal, Counter, Listed}

-- whether a clock is one of the first eight from one on, or of the last eight before another
abbrev pub is_at_end : ℕ → ℕ → ℕ → Bool
is_at_end first end clock = nat_lt (clock - first) 8 || nat_le (end - clock) 8

-- a list that ends with a number, after a front
pub record EndsWith (n : ℕ) (Before : List ℕ → Type 0) (ns : List ℕ) : Type 0 where
  pub front : List ℕ
  pub is : ns ≡ front ++ n ∷ []
  pub before : Before front

-- So many clocks from one on, in order, of which some may be left out, but none that must be shown.
unfoldable pub AreShown : (ℕ → Bool) → ℕ → ℕ → List ℕ → Type 0
AreShown must first zero clocks = clocks ≡ []
AreShown must first (suc count) clocks =
    EndsWith (first + count) (AreShown must first count) clocks
    ⊎ ((must (first + count) ≡ false) × AreShown must first count clocks)

-- those from one clock up to the one before another
abbrev pub AreShownIn : ℕ → ℕ → List ℕ → Type 0
AreShownIn first end = AreShown (is_at_end first end) first (end - first)

-- The clocks of a sheet: from as many before the attempt's first as the booleans look back, up to
-- its last.
abbrev pub AreClocks : Suite → Assertion → Attempt → List ℕ → Type 0
AreClocks suite a t clocks = AreShownIn (t.start - reach suite a) t.end clocks

-- what bits a signal has; those of no signal are of no account
abbrev pub bits_of : Option Watched → ℕ
bits_of None = 1
bits_of (Some signal) = signal.width

abbrev pub bits_counted : Option Counted → ℕ
bits_counted None = 1
bits_counted (Some counter) = counter.width

-- the text of an expression, if there is one
abbrev pub IsTextAt : Called → Option Expr → List ℕ → Type 0
IsTextAt c None text = text ≡ []
IsTextAt c (Some e) text = IsText c 1 (term_of e) text

-- The row of a signal is called as its path is, that of a counter by its name, and that of a
-- boolean by its text.
abbrev pub IsCalled : Suite → Called → Assertion → RowSource → List ℕ → Type 0
IsCalled suite c a (Signal place) label = label ≡ text_at c FromSignal place
IsCalled suite c a (Counter place) label = label ≡ text_at c FromCounter place
IsCalled suite c a (Listed place) label =
    IsTextAt c (expression_at suite.booleans.items (slice_get a.booleans.items place)) label

-- how many bits a row has
abbrev pub bits_of_row : Suite → RowSource → ℕ
bits_of_row suite (Signal place) = bits_of (slice_get suite.names.items place)
bits_of_row suite (Counter place) = bits_counted (slice_get suite.counters.items place)
bits_of_row suite (Listed place) = 1

-- a boolean as a number
abbrev pub bit_number : Bool → ℕ
bit_number true = 1
bit_number false = 0

-- the value that a row shows at a clock: that of a signal, of a counter, or of a boolean of the
-- assertion's list
abbrev pub value_of_row : Suite → Assertion → Rows → RowSource → ℕ → ℕ
value_of_row suite a rows (Signal place) clock = column rows.signals place clock
value_of_row suite a rows (Counter place) clock = column rows.counters place clock
value_of_row suite a rows (Listed place) clock =
    bit_number
    (is_true_at (samples_of rows)
    (expression_at suite.booleans.items (slice_get a.booleans.items place)) clock)

-- signals and counters are shown at each clock, and a boolean where the attempt may ask it
abbrev pub is_shown : Assertion → Attempt → RowSource → ℕ → Bool
is_shown a t (Signal place) clock = true
is_shown a t (Counter place) clock = true
is_shown a t (Listed place) clock = is_asked a t place clock

abbrev pub value_if : Bool → ℕ → Option ℕ
value_if true value = Some value
value_if false value = None

-- the cell of a row at a clock
abbrev pub cell_at : Suite → Assertion → Attempt → Rows → RowSource → ℕ → Option ℕ
cell_at suite a t rows source clock =
    value_if (is_shown a t source clock) (value_of_row suite a rows source clock)

-- A row is called as its source is, has its bits, and a cell for each clock.
pub record IsShownRow (suite : Suite) (c : Called) (a : Assertion) (t : Attempt) (rows : Rows)
    (clocks : List ℕ) (source : RowSource) (row : SheetRow) : Type 0 where
  pub source_is : row.source ≡ source
  pub called : IsCalled suite c a source (string_bytes row.label)
  pub bits : row.width ≡ bits_of_row suite source
  pub cells : row.cells.items ≡ map (cell_at suite a t rows source) clocks

-- There is a row for each source.
abbrev pub ShowsRows :
    Suite → Called → Assertion → Attempt → Rows → List ℕ → List RowSource → List SheetRow → Type 0
ShowsRows suite c a t rows clocks = AllZip (IsShownRow suite c a t rows clocks)

-- the booleans of so many places
abbrev pub listed_below : ℕ → List RowSource
listed_below zero = []
listed_below (suc count) = listed_below count ++ Listed count ∷ []

-- in rising order, the places of an origin that are among some names
pub record ArePlaces (origin : Origin) (names : List Name) (count : ℕ) (places : List ℕ) :
    Type 0 where
  pub marks : List Bool
  pub marks_are : AreMarks origin names count marks
  pub places_are : places ≡ places_from 0 marks

-- Where the rows of an assertion come from: the signals that it reads, in the suite's order, the
-- counters that it reads, and its booleans.
pub record AreSources (suite : Suite) (a : Assertion) (sources : List RowSource) : Type 0 where
  pub names : List Name
  pub read : AreRead suite a names
  pub signals : List ℕ
  pub signals_are : ArePlaces FromSignal names (length suite.names.items) signals
  pub counters : List ℕ
  pub counters_are : ArePlaces FromCounter names (length suite.counters.items) counters
  pub are : sources
      ≡ (map Signal signals ++ map Counter counters) ++ listed_below (length a.booleans.items)

-- A sheet shows what an assertion reads, at the clocks of an attempt.
pub record IsSheet (suite : Suite) (c : Called) (a : Assertion) (t : Attempt) (rows : Rows)
    (sheet : Sheet) : Type 0 where
  pub clocks : AreClocks suite a t sheet.clocks.items
  pub sources : List RowSource
  pub read : AreSources suite a sources
  pub shows : ShowsRows suite c a t rows sheet.clocks.items sources sheet.rows.items
