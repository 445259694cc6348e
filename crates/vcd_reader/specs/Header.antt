-- The part of a dump up to $enddefinitions: sections, each from its word to $end (IEEE 1364-2005,
-- clause 18.2.3).
use Rattle.std.specs.Prelude.{ℕ, ◌^◌, ◌-◌, List, [], ◌∷◌, ◌++◌, length, take, Bool, false, not}
use Rattle.std.specs.Prelude.{◌&&◌, ◌==◌, Option, Some, None, Result, Ok, Err, if◌then◌else◌, codes}
use Rattle.std.specs.List.{list_all, list_any}
use Rattle.std.specs.Str.{bytes_eq}
use Rattle.vcd_reader.specs.declared.fault.Fault.{Fault}
use Rattle.vcd_reader.specs.declared.fault.Fault.TheVariants.{BadToken, UnclosedSection, BadSize}
use Rattle.vcd_reader.specs.declared.fault.Fault.TheVariants.{Truncated}
use Rattle.vcd_reader.specs.declared.header.Word.{Word}
use Rattle.vcd_reader.specs.declared.header.Word.TheVariants.{Ends, Scope, Upscope, Var, Other}
use Rattle.vcd_reader.specs.declared.header.Word.TheVariants.{NoWord}
use Rattle.vcd_reader.specs.Tokens.{DumpToken}
use Rattle.vcd_reader.specs.Numbers.{decimal_below}
use Rattle.vcd_reader.specs.Variables.{Declared, is_code_byte, path_of, can_bind}

abbrev pub is_end : List ℕ → Bool
is_end text = bytes_eq text (codes "$end")

-- whether the last byte is a `]`
abbrev pub ends_in_bracket : List ℕ → Bool
ends_in_bracket [] = false
ends_in_bracket (b ∷ []) = b == 93
ends_in_bracket (b ∷ c ∷ cs) = ends_in_bracket (c ∷ cs)

-- a range, as [7:0]: a `[`, no further one, a `:` and a final `]`
abbrev pub is_range : List ℕ → Bool
is_range [] = false
is_range (b ∷ bs) =
    (b == 91) && not (list_any (λ c. c == 91) bs) && list_any (λ c. c == 58) bs
    && ends_in_bracket bs

-- a reference's name: the text without a range at its end
unfoldable pub name_of : List ℕ → List ℕ
name_of [] = []
name_of (b ∷ bs) = if is_range (b ∷ bs) then [] else b ∷ name_of bs

-- what opens a section, by its word; `Other` is skipped
unfoldable pub word_of : List ℕ → Word
word_of [] = NoWord
word_of (b ∷ bs) =
    if bytes_eq (b ∷ bs) (codes "$var") then Var
    else (if bytes_eq (b ∷ bs) (codes "$scope") then Scope
    else (if bytes_eq (b ∷ bs) (codes "$upscope") then Upscope
    else (if bytes_eq (b ∷ bs) (codes "$enddefinitions") then Ends
    else (if (b == 36) && not (is_end (b ∷ bs)) then Other
    else NoWord))))

-- the scopes that are open after $upscope, which does nothing at the top
abbrev pub outer_scopes : List (List ℕ) → List (List ℕ)
outer_scopes scopes = take (length scopes - 1) scopes

-- what stands in a $var before its reference
pub record Head : Type 0 where
  pub type : List ℕ
  pub size : ℕ
  pub code : List ℕ

-- the variable that a $var declares, where its reference's tokens make this text
abbrev pub variable : List (List ℕ) → Head → List ℕ → Declared
variable scopes h reference = record {
  path = path_of scopes (name_of reference);
  code = h.code;
  size = h.size;
  bindable = can_bind h.type h.size;
}

-- the header's variables, and the tokens of the body
abbrev pub Header : Type 0
Header = List Declared × List DumpToken

abbrev pub by_word : Word → DumpToken → Result Header Fault → Result Header Fault
    → Result Header Fault → Result Header Fault → Result Header Fault → Result Header Fault
by_word Ends t ends scope upscope var other = ends
by_word Scope t ends scope upscope var other = scope
by_word Upscope t ends scope upscope var other = upscope
by_word Var t ends scope upscope var other = var
by_word Other t ends scope upscope var other = other
by_word NoWord t ends scope upscope var other = Err (BadToken t.at)

-- the next token of the section that the word opens, which needs one more
abbrev pub field : DumpToken → List DumpToken → (DumpToken → List DumpToken → Result Header Fault)
    → Result Header Fault
field word [] go = Err (UnclosedSection word.at)
field word (t ∷ ts) go = if is_end t.text then Err (BadToken t.at) else go t ts

-- the end of the section that the word opens, which has no more
abbrev pub close : DumpToken → List DumpToken → (List DumpToken → Result Header Fault)
    → Result Header Fault
close word [] go = Err (UnclosedSection word.at)
close word (t ∷ ts) go = if is_end t.text then go ts else Err (BadToken t.at)

abbrev pub with_size : Option ℕ → DumpToken → (ℕ → Result Header Fault) → Result Header Fault
with_size None t go = Err (BadSize t.at)
with_size (Some n) t go = go n

-- $enddefinitions
abbrev pub header_end : List Declared → DumpToken → List DumpToken → Result Header Fault
header_end vars word ts = close word ts (λ rest. Ok (vars, rest))

unfoldable mutual
  -- between sections
  pub header : List (List ℕ) → List Declared → List DumpToken → Result Header Fault
  header scopes vars [] = Err Truncated
  header scopes vars (t ∷ ts) =
      by_word (word_of t.text) t (header_end vars t ts) (scope_type scopes vars t ts)
      (closing_token (outer_scopes scopes) vars t ts) (var_type scopes vars t ts)
      (skipped_section scopes vars t ts)

  -- before the $end of a section with nothing left to say
  pub closing_token : List (List ℕ) → List Declared → DumpToken → List DumpToken
      → Result Header Fault
  closing_token scopes vars word [] = Err (UnclosedSection word.at)
  closing_token scopes vars word (t ∷ ts) =
      if is_end t.text then header scopes vars ts else Err (BadToken t.at)

  -- in a section that is skipped
  pub skipped_section : List (List ℕ) → List Declared → DumpToken → List DumpToken
      → Result Header Fault
  skipped_section scopes vars word [] = Err (UnclosedSection word.at)
  skipped_section scopes vars word (t ∷ ts) =
      if is_end t.text then header scopes vars ts else skipped_section scopes vars word ts

  -- $scope type name $end
  pub scope_type : List (List ℕ) → List Declared → DumpToken → List DumpToken → Result Header Fault
  scope_type scopes vars word [] = Err (UnclosedSection word.at)
  scope_type scopes vars word (t ∷ ts) =
      if is_end t.text then Err (BadToken t.at) else scope_name scopes vars word ts

  pub scope_name : List (List ℕ) → List Declared → DumpToken → List DumpToken → Result Header Fault
  scope_name scopes vars word [] = Err (UnclosedSection word.at)
  scope_name scopes vars word (t ∷ ts) =
      if is_end t.text then Err (BadToken t.at)
      else closing_token (scopes ++ t.text ∷ []) vars word ts

  -- $var type size code reference.. $end
  pub var_type : List (List ℕ) → List Declared → DumpToken → List DumpToken → Result Header Fault
  var_type scopes vars word [] = Err (UnclosedSection word.at)
  var_type scopes vars word (t ∷ ts) =
      if is_end t.text then Err (BadToken t.at) else var_size scopes vars word t.text ts

  pub var_size : List (List ℕ) → List Declared → DumpToken → List ℕ → List DumpToken
      → Result Header Fault
  var_size scopes vars word type [] = Err (UnclosedSection word.at)
  var_size scopes vars word type (t ∷ ts) =
      if is_end t.text then Err (BadToken t.at)
      else with_size (decimal_below (2 ^ 32) t.text) t
      (λ size. var_code scopes vars word type size ts)

  pub var_code : List (List ℕ) → List Declared → DumpToken → List ℕ → ℕ → List DumpToken
      → Result Header Fault
  var_code scopes vars word type size [] = Err (UnclosedSection word.at)
  var_code scopes vars word type size (t ∷ ts) =
      if is_end t.text then Err (BadToken t.at)
      else (if list_all is_code_byte t.text
      then var_reference scopes vars word (record { type = type; size = size; code = t.text }) ts
      else Err (BadToken t.at))

  pub var_reference : List (List ℕ) → List Declared → DumpToken → Head → List DumpToken
      → Result Header Fault
  var_reference scopes vars word h [] = Err (UnclosedSection word.at)
  var_reference scopes vars word h (t ∷ ts) =
      if is_end t.text then Err (BadToken t.at) else var_more scopes vars word h t.text ts

  -- further tokens of the reference, after this text of those before
  pub var_more : List (List ℕ) → List Declared → DumpToken → Head → List ℕ → List DumpToken
      → Result Header Fault
  var_more scopes vars word h reference [] = Err (UnclosedSection word.at)
  var_more scopes vars word h reference (t ∷ ts) =
      if is_end t.text then header scopes (vars ++ variable scopes h reference ∷ []) ts
      else var_more scopes vars word h (reference ++ t.text) ts
