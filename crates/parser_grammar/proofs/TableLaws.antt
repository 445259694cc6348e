-- A table of words, searched from its first row.
use Rattle.std.proofs.Common.{◌≡◌, ◌∙◌, ℕ, ◌+◌, ◌<◌, Bool, true, false, cond, Bor, List, [], ◌∷◌, length, get_or, drop}
use Rattle.std.proofs.Common.{refl, ap, add-one}
use Rattle.std.proofs.Math.Seq.{drop-cons}
use Rattle.std.specs.List.{fold}
use Rattle.std.specs.Str.{bytes_eq}
use Rattle.parser_grammar.specs.declared.terminal.Terminal.{Terminal}

abbrev pub Row : Type 0
Row = Bor (List ℕ) × Terminal

module _ (text : List ℕ) where
  abbrev step : (Terminal → Terminal) → Row → Terminal → Terminal
  step go row rest = go (cond (bytes_eq text row.0.now) row.1 rest)

  -- the terminal beside the text, as a chain of tests with another at its end
  abbrev pub terminal_in : List Row → Terminal → Terminal
  terminal_in rows other = fold step (λ w. w) rows other

  settled : (w : Terminal) (rows : List Row) (other : Terminal) → fold step (λ rest. w) rows other ≡ w
  settled w [] other = refl
  settled w (r ∷ rows) other = settled w rows other

  passed : (r : Row) (rows : List Row) (other : Terminal) → bytes_eq text r.0.now ≡ false
      → terminal_in (r ∷ rows) other ≡ terminal_in rows other
  passed r rows other h = ap (λ (b : Bool). fold step (λ rest. cond b r.1 rest) rows other) h

  met : (r : Row) (rows : List Row) (other : Terminal) → bytes_eq text r.0.now ≡ true
      → terminal_in (r ∷ rows) other ≡ r.1
  met r rows other h =
      ap (λ (b : Bool). fold step (λ rest. cond b r.1 rest) rows other) h ∙ settled r.1 rows other

  module _ (rows : List Row) (i : ℕ) (d : Row) (lt : i < length rows) where
    cell : drop i rows ≡ get_or rows i d ∷ drop (i + 1) rows
    cell = rw add-one (drop-cons rows i d lt)

    pub further : bytes_eq text (get_or rows i d).0.now ≡ false → (other : Terminal)
        → terminal_in (drop i rows) other ≡ terminal_in (drop (i + 1) rows) other
    further h other =
        ap (λ (rs : List Row). terminal_in rs other) cell ∙ passed (get_or rows i d) (drop (i + 1) rows) other h

    pub found : bytes_eq text (get_or rows i d).0.now ≡ true → (other : Terminal)
        → terminal_in (drop i rows) other ≡ (get_or rows i d).1
    found h other =
        ap (λ (rs : List Row). terminal_in rs other) cell ∙ met (get_or rows i d) (drop (i + 1) rows) other h
