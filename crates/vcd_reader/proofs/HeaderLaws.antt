-- Reading the header section by section.
use Rattle.std.proofs.Common.{◌≡◌, ℕ, ◌^◌, Bool, true, false, cond, List, [], ◌∷◌, ◌++◌, Option, Result, Ok, Err}
use Rattle.std.proofs.Common.{refl, sym, ◌∙◌, subst}
use Rattle.std.specs.List.{list_all}
use Rattle.vcd_reader.specs.declared.fault.Fault.{Fault}
use Rattle.vcd_reader.specs.declared.fault.Fault.TheVariants.{BadToken, UnclosedSection, Truncated}
use Rattle.vcd_reader.specs.declared.fault.ReadError.{ReadError}
use Rattle.vcd_reader.specs.declared.header.Word.{Word}
use Rattle.vcd_reader.specs.declared.header.Word.TheVariants as words
use Rattle.vcd_reader.specs.Faults.{Fails}
use Rattle.vcd_reader.specs.Tokens.{DumpToken}
use Rattle.vcd_reader.specs.Numbers.{decimal_below}
use Rattle.vcd_reader.specs.Variables.{Declared, is_code_byte}
use Rattle.vcd_reader.specs.Header.{Header, Head, is_end, field, close, with_size, by_word, word_of, header_end}
use Rattle.vcd_reader.specs.Header.{outer_scopes, variable, header, closing_token, skipped_section, scope_type}
use Rattle.vcd_reader.specs.Header.{scope_name, var_type, var_size, var_code, var_reference, var_more}

-- the word of a section, by its text
abbrev pub opened : List ℕ → ℕ → DumpToken
opened text at = record { text = text; at = at }

module _ (scopes : List (List ℕ)) (vars : List Declared) (word : DumpToken) where
  -- what follows each field
  abbrev pub then_name : DumpToken → List DumpToken → Result Header Fault
  then_name t us = scope_name scopes vars word us

  abbrev pub then_close : DumpToken → List DumpToken → Result Header Fault
  then_close t us = closing_token (scopes ++ t.text ∷ []) vars word us

  abbrev pub then_size : DumpToken → List DumpToken → Result Header Fault
  then_size t us = var_size scopes vars word t.text us

  abbrev pub sized : List ℕ → DumpToken → List DumpToken → Option ℕ → Result Header Fault
  sized type t us size = with_size size t (λ n. var_code scopes vars word type n us)

  abbrev pub then_code : List ℕ → DumpToken → List DumpToken → Result Header Fault
  then_code type t us = sized type t us (decimal_below (2 ^ 32) t.text)

  abbrev pub coded : List ℕ → ℕ → DumpToken → List DumpToken → Bool → Result Header Fault
  coded type size t us fits =
      cond fits (var_reference scopes vars word (record { type = type; size = size; code = t.text }) us)
      (Err (BadToken t.at))

  abbrev pub then_reference : List ℕ → ℕ → DumpToken → List DumpToken → Result Header Fault
  then_reference type size t us = coded type size t us (list_all is_code_byte t.text)

  abbrev pub then_more : Head → DumpToken → List DumpToken → Result Header Fault
  then_more h t us = var_more scopes vars word h t.text us

  pub scope_type-field : (ts : List DumpToken) → scope_type scopes vars word ts
      ≡ field word ts (λ t us. scope_name scopes vars word us)
  unfolding header scope_type
  scope_type-field [] = refl
  scope_type-field (t ∷ ts) = refl

  pub scope_name-field : (ts : List DumpToken) → scope_name scopes vars word ts
      ≡ field word ts (λ t us. closing_token (scopes ++ t.text ∷ []) vars word us)
  unfolding header scope_name
  scope_name-field [] = refl
  scope_name-field (t ∷ ts) = refl

  pub closed-close : (ts : List DumpToken) → closing_token scopes vars word ts
      ≡ close word ts (λ us. header scopes vars us)
  unfolding header closing_token
  closed-close [] = refl
  closed-close (t ∷ ts) = refl

  pub var_type-field : (ts : List DumpToken) → var_type scopes vars word ts
      ≡ field word ts (λ t us. var_size scopes vars word t.text us)
  unfolding header var_type
  var_type-field [] = refl
  var_type-field (t ∷ ts) = refl

  pub var_size-field : (type : List ℕ) (ts : List DumpToken) → var_size scopes vars word type ts
      ≡ field word ts
      (λ t us. with_size (decimal_below (2 ^ 32) t.text) t (λ size. var_code scopes vars word type size us))
  unfolding header var_size
  var_size-field type [] = refl
  var_size-field type (t ∷ ts) = refl

  pub var_code-field : (type : List ℕ) (size : ℕ) (ts : List DumpToken) → var_code scopes vars word type size ts
      ≡ field word ts
      (λ t us. cond (list_all is_code_byte t.text)
      (var_reference scopes vars word (record { type = type; size = size; code = t.text }) us)
      (Err (BadToken t.at)))
  unfolding header var_code
  var_code-field type size [] = refl
  var_code-field type size (t ∷ ts) = refl

  pub var_reference-field : (h : Head) (ts : List DumpToken) → var_reference scopes vars word h ts
      ≡ field word ts (λ t us. var_more scopes vars word h t.text us)
  unfolding header var_reference
  var_reference-field h [] = refl
  var_reference-field h (t ∷ ts) = refl

  pub skipped-none : (ts : List DumpToken) → ts ≡ [] → skipped_section scopes vars word ts
      ≡ Err (UnclosedSection word.at)
  unfolding header skipped_section
  skipped-none ts e = rw e refl

  pub skipped-end : (ts : List DumpToken) (text : List ℕ) (at : ℕ) (rest : List DumpToken)
      → ts ≡ record { text = text; at = at } ∷ rest → is_end text ≡ true → skipped_section scopes vars word ts
      ≡ header scopes vars rest
  unfolding header skipped_section
  skipped-end ts text at rest e h = rw (e, h) refl

  pub skipped-more : (ts : List DumpToken) (text : List ℕ) (at : ℕ) (rest : List DumpToken)
      → ts ≡ record { text = text; at = at } ∷ rest → is_end text ≡ false → skipped_section scopes vars word ts
      ≡ skipped_section scopes vars word rest
  unfolding header skipped_section
  skipped-more ts text at rest e h = rw (e, h) refl

  pub more-none : (h : Head) (reference : List ℕ) (ts : List DumpToken) → ts ≡ []
      → var_more scopes vars word h reference ts ≡ Err (UnclosedSection word.at)
  unfolding header var_more
  more-none h reference ts e = rw e refl

  pub more-end : (h : Head) (reference : List ℕ) (ts : List DumpToken) (text : List ℕ) (at : ℕ) (rest : List DumpToken)
      → ts ≡ record { text = text; at = at } ∷ rest → is_end text ≡ true
      → var_more scopes vars word h reference ts ≡ header scopes (vars ++ variable scopes h reference ∷ []) rest
  unfolding header var_more
  more-end h reference ts text at rest e is = rw (e, is) refl

  pub more-more : (h : Head) (reference : List ℕ) (ts : List DumpToken) (text : List ℕ) (at : ℕ) (rest : List DumpToken)
      → ts ≡ record { text = text; at = at } ∷ rest → is_end text ≡ false
      → var_more scopes vars word h reference ts ≡ var_more scopes vars word h (reference ++ text) rest
  unfolding header var_more
  more-more h reference ts text at rest e is = rw (e, is) refl

-- what each word leads to
module _ (scopes : List (List ℕ)) (vars : List Declared) (text : List ℕ) (at : ℕ) (ts : List DumpToken) where
  abbrev opener : DumpToken
  opener = record { text = text; at = at }

  at-word : (w : Word) → w ≡ word_of text → header scopes vars (opener ∷ ts)
      ≡ by_word w opener (header_end vars opener ts) (scope_type scopes vars opener ts)
      (closing_token (outer_scopes scopes) vars opener ts) (var_type scopes vars opener ts)
      (skipped_section scopes vars opener ts)
  unfolding header
  at-word w e = rw e refl

  pub at-no_word : words.NoWord ≡ word_of text → header scopes vars (opener ∷ ts) ≡ Err (BadToken at)
  at-no_word e = at-word words.NoWord e

  pub at-ends : words.Ends ≡ word_of text → header scopes vars (opener ∷ ts) ≡ close opener ts (λ rest. Ok (vars, rest))
  at-ends e = at-word words.Ends e

  pub at-scope : words.Scope ≡ word_of text → header scopes vars (opener ∷ ts) ≡ scope_type scopes vars opener ts
  at-scope e = at-word words.Scope e

  pub at-upscope : words.Upscope ≡ word_of text → header scopes vars (opener ∷ ts)
      ≡ close opener ts (λ us. header (outer_scopes scopes) vars us)
  at-upscope e = at-word words.Upscope e ∙ closed-close (outer_scopes scopes) vars opener ts

  pub at-var : words.Var ≡ word_of text → header scopes vars (opener ∷ ts) ≡ var_type scopes vars opener ts
  at-var e = at-word words.Var e

  pub at-other : words.Other ≡ word_of text → header scopes vars (opener ∷ ts) ≡ skipped_section scopes vars opener ts
  at-other e = at-word words.Other e

pub ruleset sections = (at-no_word)

-- a failing call fails the whole
pub fails-along : {a b : Result Header Fault} (e : ReadError) → a ≡ b → Fails e b → Fails e a
fails-along {a} {b} e p h = subst (λ (r : Result Header Fault). Fails e r) (sym p) h

pub header-none : (scopes : List (List ℕ)) (vars : List Declared) (ts : List DumpToken) → ts ≡ []
    → header scopes vars ts ≡ Err Truncated
unfolding header
header-none scopes vars ts e = rw e refl
