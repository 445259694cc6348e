-- How the tokens of a text are cut into items, each where the grammar ends it, or where another
-- one begins.
use Rattle.std.specs.Prelude.{◌≡◌, ℕ, ◌+◌, ◌-◌, [], ◌∷◌, List, Bool, true, false, length, min, map}
use Rattle.std.specs.Prelude.{drop, codes, if◌then◌else◌, nat_le, slice_get, Ok}
use Rattle.std.specs.Prelude.{slice_index, slice_index_or, ◌==◌, unwrap_or, option_map}
use Rattle.std.specs.Prelude.{◌&&◌, ◌||◌, not}
use Rattle.std.specs.List.{list_any, prefix_len}
use Rattle.std.specs.Str.{bytes_eq}
use Rattle.lexer.specs.declared.token.Token.{Token}
use Rattle.lexer.specs.declared.token.Kind.{Kind}
use Rattle.lexer.specs.declared.token.Kind.TheVariants as kinds
use Rattle.lexer.specs.Cutting.{cut_of, tokens_of}

-- whether a token is one of some words
abbrev pub is_one : List (List ℕ) → Token → Bool
is_one words token = list_any (bytes_eq token.text.now) words

-- what opens an item that goes on over `;`
abbrev pub openers : List (List ℕ)
openers = codes "sequence" ∷ codes "property" ∷ []

-- what ends such an item
abbrev pub closers : List (List ℕ)
closers = codes "endsequence" ∷ codes "endproperty" ∷ []

-- what ends any other item
abbrev pub ends : List (List ℕ)
ends =
    codes ";" ∷ codes "endsequence" ∷ codes "endproperty" ∷ codes "endclocking"
    ∷ codes "endmodule" ∷ codes "end" ∷ []

-- what begins an item, maybe after a label
abbrev pub starts : List (List ℕ)
starts =
    codes "assert" ∷ codes "assume" ∷ codes "cover" ∷ codes "restrict" ∷ codes "sequence" ∷ []

-- what stands after a label
abbrev pub colon : List (List ℕ)
colon = codes ":" ∷ []

-- what an item goes on after, whatever follows: a label's colon, a path's dot, a dash in a label, a
-- bracket, and words that stand before `sequence`
abbrev pub joints : List (List ℕ)
joints =
    codes ":" ∷ codes "." ∷ codes "-" ∷ codes "(" ∷ codes "assert" ∷ codes "assume"
    ∷ codes "cover" ∷ []

-- whether the word that begins an item stands first
abbrev pub is_start : List Token → Bool
is_start [] = false
is_start (t ∷ ts) = is_one starts t

-- whether it stands after a colon
abbrev pub is_labelled : List Token → Bool
is_labelled [] = false
is_labelled (t ∷ ts) = is_one colon t && is_start ts

-- whether an item begins there, with its label or with its word
abbrev pub begins : List Token → Bool
begins [] = false
begins (t ∷ ts) = is_one starts t || is_labelled ts

-- whether an item ends after a token: it is one of some words, or another item begins after it, and
-- no token joins them
abbrev pub ends_after : List (List ℕ) → Token → List Token → Bool
ends_after words t ts = is_one words t || (begins ts && not (is_one joints t))

-- how many tokens there are up to the first after which an item ends, which counts
abbrev pub through : List (List ℕ) → List Token → ℕ
through words [] = 0
through words (t ∷ ts) = if ends_after words t ts then 1 else 1 + through words ts

-- how many tokens a name after a colon has, if one stands first
abbrev pub closing_name : List Token → ℕ
closing_name [] = 0
closing_name (t ∷ ts) = if is_one colon t then 1 + min 1 (length ts) else 0

-- how many tokens a named sequence or a property declaration has
abbrev pub block_length : List Token → ℕ
block_length ts =
    through closers ts + closing_name (drop (through closers ts) ts)

-- what holds other items: they are part of it
unfoldable pub holders : List (List ℕ)
holders =
    codes "if" ∷ codes "else" ∷ codes "for" ∷ codes "while" ∷ codes "case" ∷ codes "casex"
    ∷ codes "casez" ∷ codes "unique" ∷ codes "priority" ∷ codes "always" ∷ codes "always_comb"
    ∷ codes "always_ff" ∷ codes "always_latch" ∷ codes "initial" ∷ codes "final"
    ∷ codes "generate" ∷ codes "begin" ∷ codes "class" ∷ codes "function" ∷ codes "task"
    ∷ codes "foreach" ∷ codes "fork" ∷ codes "checker" ∷ []

-- what opens a block, which may stand in another
unfoldable pub block_starts : List (List ℕ)
block_starts =
    codes "begin" ∷ codes "case" ∷ codes "casex" ∷ codes "casez" ∷ codes "generate"
    ∷ codes "class" ∷ codes "function" ∷ codes "task" ∷ codes "fork" ∷ codes "checker" ∷ []

-- what closes one
unfoldable pub block_ends : List (List ℕ)
block_ends =
    codes "end" ∷ codes "endcase" ∷ codes "endgenerate" ∷ codes "endclass"
    ∷ codes "endfunction" ∷ codes "endtask" ∷ codes "endchecker" ∷ codes "join"
    ∷ codes "join_any" ∷ codes "join_none" ∷ []

-- a bracket, in which a `;` ends nothing
abbrev pub left_bracket : List (List ℕ)
left_bracket = codes "(" ∷ []

abbrev pub right_bracket : List (List ℕ)
right_bracket = codes ")" ∷ []

-- whether a token opens a block or a bracket, and whether it closes one
abbrev pub opens : Token → Bool
opens t = is_one block_starts t || is_one left_bracket t

abbrev pub closes : Token → Bool
closes t = is_one block_ends t || is_one right_bracket t

-- how many blocks and brackets are open after a token
abbrev pub open_after : ℕ → Token → ℕ
open_after k t = if opens t then k + 1 else (if closes t then k - 1 else k)

-- whether what holds items ends with a token: all its blocks are closed
abbrev pub is_held_end : ℕ → Token → Bool
is_held_end k t = (k == 0) && (is_one (codes ";" ∷ []) t || is_one block_ends t)

-- how many tokens there are up to that end, which counts, where so many blocks are open
abbrev pub held_from : ℕ → List Token → ℕ
held_from k [] = 0
held_from k (t ∷ ts) =
    if is_held_end (open_after k t) t then 1 else 1 + held_from (open_after k t) ts

-- how many tokens the first item has, where no declaration begins it
abbrev pub free_length : List Token → ℕ
free_length [] = 0
free_length (t ∷ ts) = if is_one holders t then held_from 0 (t ∷ ts) else through ends (t ∷ ts)

-- how many tokens the first item has
abbrev pub item_length : List Token → ℕ
item_length [] = 0
item_length (t ∷ ts) =
    if is_one openers t then block_length (t ∷ ts) else free_length (t ∷ ts)

-- the byte after a token, which is no more than the text has
abbrev pub end_of : ℕ → Token → ℕ
end_of size token = min size (token.at + length token.text.now)

-- the byte after the first item
abbrev pub item_end : ℕ → List Token → ℕ
item_end size ts =
    unwrap_or (option_map (end_of size) (slice_get ts (item_length ts - 1))) size

-- the end of a text
abbrev pub is_end : Kind → Bool
is_end kinds.End = true
is_end _ = false

-- whether no item begins there: at the end of the text
abbrev pub is_over : List Token → Bool
is_over [] = true
is_over (t ∷ ts) = is_end t.kind

-- These are the bytes after the items of tokens.
pub data AreEnds (size : ℕ) : List Token → List ℕ → Type 0 where
  over : {ts : List Token} → is_over ts ≡ true → AreEnds size ts []
  item : {ts : List Token} {ends : List ℕ} → is_over ts ≡ false
      → AreEnds size (drop (item_length ts) ts) ends
      → AreEnds size ts (item_end size ts ∷ ends)

-- These are the bytes after the items of a text.
pub record AreItemEnds (text ends : List ℕ) : Type 0 where
  pub tokens : List Token
  pub cut : tokens_of text ≡ Ok (map cut_of tokens)
  pub are : AreEnds (length text) tokens ends

-- which item holds a byte: the first that ends after it, and what is left where none does
abbrev pub item_at : List ℕ → ℕ → ℕ
item_at ends at = prefix_len (λ e. nat_le e at) ends

-- where an item begins: after the one before it
abbrev pub start_of : List ℕ → ℕ → ℕ
start_of ends n = if n == 0 then 0 else slice_index ends (n - 1)

-- where an item ends, and what is left with the text
abbrev pub stop_of : ℕ → List ℕ → ℕ → ℕ
stop_of size ends n = slice_index_or ends n size
