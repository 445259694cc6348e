-- What is told of a text: each refusal is one of the text without the items that were refused
-- before it.
use Rattle.std.specs.Prelude.{◌≡◌, ◌≤◌, ◌<◌, ℕ, ◌-◌, [], ◌∷◌, ◌++◌, List, Option, length, min}
use Rattle.std.specs.Prelude.{IfSome}
use Rattle.std.specs.Prelude.{string_bytes, String}
use Rattle.std.specs.declared.alloc.Global.{Global}
use Rattle.diagnostics.specs.Blanked.{blanked}
use Rattle.std.specs.Prelude.{nat_lt, ◌&&◌, if◌then◌else◌, slice_index}
use Rattle.diagnostics.specs.Items.{item_at, start_of, stop_of}
use Rattle.diagnostics.specs.Strays.{closes_nothing}

-- the item that holds a byte: at the end of the text, the one that is not ended
abbrev pub item_with : List ℕ → List ℕ → ℕ → ℕ
item_with text ends at = item_at ends (min at (length text - 1))

-- The item that is refused by a fault at a byte: the one that holds it; but the one before that,
-- where this closes nothing, since such a word is taken for a label of what follows.
abbrev pub item_of : List ℕ → List ℕ → ℕ → ℕ
item_of text ends at =
    let item = item_with text ends at in
    if nat_lt 0 item && closes_nothing text (slice_index ends (item - 1)) then item - 1 else item

-- the text without an item
abbrev pub without_item : List ℕ → List ℕ → ℕ → List ℕ
without_item text ends item =
    blanked text (start_of ends item) (stop_of (length text) ends item)

-- the text without the item in which a refusal stands
abbrev pub without : List ℕ → List ℕ → ℕ → List ℕ
without text ends at =
    blanked text (start_of ends (item_of text ends at))
    (stop_of (length text) ends (item_of text ends at))

-- what a front end refuses: a text first at a byte; what stands in a text at a byte, be it the
-- first or not; and the item between two places of the whole text alone, at a byte
pub record Refusing : Type 1 where
  pub refuses : List ℕ → ℕ → Type 0
  pub stands : List ℕ → ℕ → Type 0
  pub alone : ℕ → ℕ → ℕ → Type 0

abbrev pub refusing : (List ℕ → ℕ → Type 0) → (List ℕ → ℕ → Type 0) → (ℕ → ℕ → ℕ → Type 0)
    → Refusing
refusing refuses stands alone =
    record { refuses = refuses; stands = stands; alone = alone }

-- A text is refused at these bytes, one after another, each time without the items in which it was
-- refused before, and this is left of it. An item between two places that is refused alone,
-- whatever stands beside it, is refused at any time; so is an item in which something that is
-- refused stood before others were left out.
pub data AreRefusals (by : Refusing) (ends text : List ℕ) : List ℕ → List ℕ → Type 0 where
  none : AreRefusals by ends text [] text
  more : {places left : List ℕ} {at : ℕ} → AreRefusals by ends text places left
      → by.refuses left at
      → AreRefusals by ends text (places ++ at ∷ []) (without left ends at)
  by_itself : {places left : List ℕ} {at : ℕ} (item : ℕ)
      → AreRefusals by ends text places left
      → by.alone (start_of ends item) (stop_of (length text) ends item) at
      → AreRefusals by ends text (places ++ at ∷ []) (without_item left ends item)
  beside : {before places earlier left : List ℕ} {at : ℕ} (item : ℕ)
      → AreRefusals by ends text before earlier → by.stands earlier at
      → start_of ends item ≤ at → at < stop_of (length text) ends item
      → AreRefusals by ends text places left
      → AreRefusals by ends text (places ++ at ∷ []) (without_item left ends item)

-- Something that is refused stood at a byte of what was left of a text at some time.
pub record HasStood (by : Refusing) (ends text : List ℕ) (at : ℕ) : Type 0 where
  pub before : List ℕ
  pub earlier : List ℕ
  pub are : AreRefusals by ends text before earlier
  pub stands : by.stands earlier at

-- What is told of a text, and what is left of it, where that could be made.
pub record IsTold (by : Refusing) (ends text places : List ℕ) (rest : Option (String Global)) :
    Type 0 where
  pub left : List ℕ
  pub are : AreRefusals by ends text places left
  pub same : IfSome rest (λ t. string_bytes t ≡ left)
