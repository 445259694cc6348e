-- Words that close nothing: `endmodule` and its kin, where no item of the profile was opened.
use Rattle.std.specs.Prelude.{ℕ, ◌-◌, ◌==◌, List, [], ◌∷◌, length, Bool, codes, nat_lt, not}
use Rattle.std.specs.Prelude.{◌&&◌, ◌||◌, slice_index}
use Rattle.std.specs.List.{list_any}
use Rattle.std.specs.Char.{is_ascii_alphanumeric}
use Rattle.diagnostics.specs.Hints.{stands_before}

abbrev pub is_name_byte : ℕ → Bool
is_name_byte b = is_ascii_alphanumeric b || (b == 95)

-- whether a whole word stands in front of a byte
abbrev pub is_word_before : List ℕ → ℕ → List ℕ → Bool
is_word_before text at word =
    stands_before text at word (length word)
    && not (nat_lt (length word) at && is_name_byte (slice_index text (at - length word - 1)))

-- what closes no item of the profile
unfoldable pub closing_words : List (List ℕ)
closing_words =
    codes "end" ∷ codes "endcase" ∷ codes "endchecker" ∷ codes "endclass" ∷ codes "endclocking"
    ∷ codes "endfunction" ∷ codes "endgenerate" ∷ codes "endinterface" ∷ codes "endmodule"
    ∷ codes "endpackage" ∷ codes "endprogram" ∷ codes "endtask" ∷ codes "join" ∷ []

-- whether what stands in front of a byte closes what no item opens
abbrev pub closes_nothing : List ℕ → ℕ → Bool
closes_nothing text at = list_any (is_word_before text at) closing_words
