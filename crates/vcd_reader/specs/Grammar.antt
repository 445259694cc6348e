-- The grammar of a whole dump (IEEE 1364-2005, clauses 18.2.1 to 18.2.3): a list of sections, the
-- header's end, and a list of entries, each spelled by tokens of its own.
use Rattle.std.specs.Prelude.{◌≡◌, ℕ, suc, ◌^◌, ◌≤◌, ◌==◌, ◌↔◌, List, [], ◌∷◌, ◌++◌, true, false}
use Rattle.std.specs.Prelude.{Some, Ok, if◌then◌else◌}
use Rattle.std.specs.List.{flat_map, list_all, AllByRecursion}
use Rattle.vcd_reader.specs.declared.header.Word.TheVariants as words
use Rattle.vcd_reader.specs.Tokens.{DumpToken, tokens}
use Rattle.vcd_reader.specs.Numbers.{is_empty, decimal_below}
use Rattle.vcd_reader.specs.Values.{ValueChange, Moment}
use Rattle.vcd_reader.specs.Variables.{Declared, is_code_byte, codes_of, place_of}
use Rattle.vcd_reader.specs.Header.{is_end, outer_scopes, variable, word_of}
use Rattle.vcd_reader.specs.Body.{Time, Scalar, Vector, Text, Lone, Section, Rest, kind_of}
use Rattle.vcd_reader.specs.Body.{behind_first, most_changes}
use Rattle.vcd_reader.specs.Dump.{Contents, dump_of}

-- none of the tokens is $end
abbrev pub AreInner : List DumpToken → Type 0
AreInner ts = AllByRecursion (λ t. is_end t.text ≡ false) ts

abbrev pub IsEnd : DumpToken → Type 0
IsEnd t = is_end t.text ≡ true

-- a section of the header, with its tokens
pub data Part : Type 0 where
  -- $scope type name $end
  Opens : DumpToken → DumpToken → DumpToken → DumpToken → Part
  -- $upscope $end
  Closes : DumpToken → DumpToken → Part
  -- $var type size code reference.. $end, and the number that its size is
  Declares : DumpToken → DumpToken → DumpToken → ℕ → DumpToken → DumpToken → List DumpToken
      → DumpToken → Part
  -- any other section
  Skipped : DumpToken → List DumpToken → DumpToken → Part

abbrev pub part_tokens : Part → List DumpToken
part_tokens (Opens word type name stop) = word ∷ type ∷ name ∷ stop ∷ []
part_tokens (Closes word stop) = word ∷ stop ∷ []
part_tokens (Declares word type size n code first more stop) =
    word ∷ type ∷ size ∷ code ∷ first ∷ more ++ stop ∷ []
part_tokens (Skipped word inner stop) = word ∷ inner ++ stop ∷ []

-- whether the tokens are such a section
abbrev pub IsPart : Part → Type 0
IsPart (Opens word type name stop) =
    (words.Scope ≡ word_of word.text) × AreInner (type ∷ name ∷ []) × IsEnd stop
IsPart (Closes word stop) = (words.Upscope ≡ word_of word.text) × IsEnd stop
IsPart (Declares word type size n code first more stop) =
    (words.Var ≡ word_of word.text) × AreInner (type ∷ size ∷ code ∷ first ∷ more)
    × (decimal_below (2 ^ 32) size.text ≡ Some n) × (list_all is_code_byte code.text ≡ true)
    × IsEnd stop
IsPart (Skipped word inner stop) = (words.Other ≡ word_of word.text) × AreInner inner × IsEnd stop

-- the text that tokens make, with nothing between
abbrev pub joined_text : List DumpToken → List ℕ
joined_text ts = flat_map (λ t. t.text) ts

-- the variables that sections declare inside these scopes
abbrev pub declared_by : List (List ℕ) → List Part → List Declared
declared_by scopes [] = []
declared_by scopes (Opens word type name stop ∷ ps) = declared_by (scopes ++ name.text ∷ []) ps
declared_by scopes (Closes word stop ∷ ps) = declared_by (outer_scopes scopes) ps
declared_by scopes (Declares word type size n code first more stop ∷ ps) =
    variable scopes (record { type = type.text; size = n; code = code.text })
    (first.text ++ joined_text more) ∷ declared_by scopes ps
declared_by scopes (Skipped word inner stop ∷ ps) = declared_by scopes ps

-- an entry of the body, with its tokens
pub data Entry : Type 0 where
  -- #time
  Instant : DumpToken → ℕ → Entry
  -- a digit with its code
  Bit : DumpToken → ValueChange → Entry
  -- digits, then the code
  Digits : DumpToken → DumpToken → ValueChange → Entry
  -- a real or a string, and the token after
  Ignored : DumpToken → DumpToken → Entry
  -- $dumpvars and its kin, and $end
  Alone : DumpToken → Entry
  -- any other section
  Comment : DumpToken → List DumpToken → DumpToken → Entry

abbrev pub entry_tokens : Entry → List DumpToken
entry_tokens (Instant t time) = t ∷ []
entry_tokens (Bit t c) = t ∷ []
entry_tokens (Digits t code c) = t ∷ code ∷ []
entry_tokens (Ignored t u) = t ∷ u ∷ []
entry_tokens (Alone t) = t ∷ []
entry_tokens (Comment word inner stop) = word ∷ inner ++ stop ∷ []

-- whether the tokens are such an entry, under the header's codes
abbrev pub IsEntry : List (List ℕ) → Entry → Type 0
IsEntry declared (Instant t time) = kind_of t.text ≡ Time time
IsEntry declared (Bit t c) =
    (digit : ℕ) × (kind_of t.text ≡ Scalar digit) × (c.digits ≡ digit ∷ [])
    × (is_empty (behind_first t.text) ≡ false)
    × (place_of declared (behind_first t.text) ≡ Some c.code)
IsEntry declared (Digits t code c) =
    (kind_of t.text ≡ Vector c.digits) × (place_of declared code.text ≡ Some c.code)
IsEntry declared (Ignored t u) = kind_of t.text ≡ Text
IsEntry declared (Alone t) = kind_of t.text ≡ Lone
IsEntry declared (Comment word inner stop) =
    (kind_of word.text ≡ Section) × AreInner inner × IsEnd stop

-- no time falls
abbrev pub Rises : ℕ → List Entry → Type 0
Rises now [] = Unit {0}
Rises now (Instant t time ∷ es) = (now ≤ time) × Rises time es
Rises now (Bit t c ∷ es) = Rises now es
Rises now (Digits t code c ∷ es) = Rises now es
Rises now (Ignored t u ∷ es) = Rises now es
Rises now (Alone t ∷ es) = Rises now es
Rises now (Comment word inner stop ∷ es) = Rises now es

-- how many changes the entries have
abbrev pub changes_in : List Entry → ℕ
changes_in [] = 0
changes_in (Instant t time ∷ es) = changes_in es
changes_in (Bit t c ∷ es) = suc (changes_in es)
changes_in (Digits t code c ∷ es) = suc (changes_in es)
changes_in (Ignored t u ∷ es) = changes_in es
changes_in (Alone t ∷ es) = changes_in es
changes_in (Comment word inner stop ∷ es) = changes_in es

-- what the entries say: further changes of the step that is open, and later steps
abbrev pub said_rest : ℕ → List Entry → Rest
said_rest now [] = ([], [])
said_rest now (Instant t time ∷ es) =
    if time == now then said_rest now es
    else ([], record { time = time; changes = (said_rest time es).0 } ∷ (said_rest time es).1)
said_rest now (Bit t c ∷ es) = (c ∷ (said_rest now es).0, (said_rest now es).1)
said_rest now (Digits t code c ∷ es) = (c ∷ (said_rest now es).0, (said_rest now es).1)
said_rest now (Ignored t u ∷ es) = said_rest now es
said_rest now (Alone t ∷ es) = said_rest now es
said_rest now (Comment word inner stop ∷ es) = said_rest now es

-- the steps: the first is at time 0
abbrev pub steps_said : List Entry → List Moment
steps_said es = record { time = 0; changes = (said_rest 0 es).0 } ∷ (said_rest 0 es).1

-- The bytes are a dump that says this.
pub record IsDump (bytes : List ℕ) (c : Contents) : Type 0 where
  pub parts : List Part
  pub ends : DumpToken
  pub stop : DumpToken
  pub entries : List Entry
  -- the tokens are those of the header's sections, of $enddefinitions $end, and of the body's
  -- entries
  pub spelled : flat_map part_tokens parts ++ ends ∷ stop ∷ flat_map entry_tokens entries
      ≡ tokens 0 bytes
  pub are_parts : AllByRecursion IsPart parts
  pub definitions_end : (words.Ends ≡ word_of ends.text) × IsEnd stop
  pub are_entries : AllByRecursion (IsEntry (codes_of c.variables)) entries
  pub rises : Rises 0 entries
  pub bounded : changes_in entries ≤ most_changes
  pub variables : declared_by [] parts ≡ c.variables
  pub steps : steps_said entries ≡ c.steps

-- what is read is spelled so, and what is spelled so is read
abbrev pub IsGrammar : Type 0
IsGrammar = (bytes : List ℕ) (c : Contents) → IsDump bytes c ↔ (dump_of bytes ≡ Ok c)
