-- Headers with more tokens behind them.
use Rattle.std.proofs.Common.{◌≡◌, ℕ, ◌^◌, Bool, true, false, not, cond, eqb, ◌&&◌, List, [], ◌∷◌}
use Rattle.std.proofs.Common.{◌++◌}
use Rattle.std.specs.Str.{bytes_eq}
use Rattle.std.specs.Prelude.{codes}
use Rattle.std.proofs.Common.{Option, Some, None, Result, Ok, Err, refl}
use Rattle.std.specs.List.{list_all}
use Rattle.vcd_reader.specs.declared.fault.Fault.{Fault}
use Rattle.vcd_reader.specs.declared.fault.Fault.TheVariants.{BadToken, UnclosedSection, BadSize}
use Rattle.vcd_reader.specs.Tokens.{DumpToken}
use Rattle.vcd_reader.specs.Numbers.{decimal_below}
use Rattle.vcd_reader.specs.Variables.{Declared, is_code_byte}
use Rattle.vcd_reader.specs.Header.{Header, Head, is_end, with_size, by_word, word_of, header_end}
use Rattle.vcd_reader.specs.Header.{outer_scopes, variable, header, closing_token}
use Rattle.vcd_reader.specs.Header.{skipped_section, scope_type, scope_name, var_type, var_size}
use Rattle.vcd_reader.specs.Header.{var_code, var_reference, var_more}
use Rattle.vcd_segments.specs.Beginnings.{IsMore}

module _ (us : List DumpToken) where
  more-if : (b : Bool) (x y x' y' : Result Header Fault) → IsMore us x x' → IsMore us y y'
      → IsMore us (cond b x y) (cond b x' y')
  more-if true x y x' y' m n = m
  more-if false x y x' y' m n = n

  more-size : (o : Option ℕ) (t : DumpToken) (f g : ℕ → Result Header Fault)
      → ((n : ℕ) → IsMore us (f n) (g n)) → IsMore us (with_size o t f) (with_size o t g)
  more-size None t f g m = refl
  more-size (Some n) t f g m = m n

  more-choice : {W : Type 0} (f g : W → Result Header Fault) (b : Bool) (x y : W)
      → IsMore us (f x) (g x) → IsMore us (f y) (g y)
      → IsMore us (f (cond b x y)) (g (cond b x y))
  more-choice f g true x y m n = m
  more-choice f g false x y m n = n

  -- what opens a section, by its text
  more-word : (text : List ℕ) (t : DumpToken) (a b c d e a' b' c' d' e' : Result Header Fault)
      → IsMore us a a' → IsMore us b b' → IsMore us c c' → IsMore us d d' → IsMore us e e'
      → IsMore us (by_word (word_of text) t a b c d e) (by_word (word_of text) t a' b' c' d' e')
  unfolding word_of
  more-word [] t a b c d e a' b' c' d' e' p q r s u = refl
  more-word (n ∷ ns) t a b c d e a' b' c' d' e' p q r s u =
      more-choice (λ w. by_word w t a b c d e) (λ w. by_word w t a' b' c' d' e')
      (bytes_eq (n ∷ ns) (codes "$var")) _ _ s
      (more-choice (λ w. by_word w t a b c d e) (λ w. by_word w t a' b' c' d' e')
      (bytes_eq (n ∷ ns) (codes "$scope")) _ _ q
      (more-choice (λ w. by_word w t a b c d e) (λ w. by_word w t a' b' c' d' e')
      (bytes_eq (n ∷ ns) (codes "$upscope")) _ _ r
      (more-choice (λ w. by_word w t a b c d e) (λ w. by_word w t a' b' c' d' e')
      (bytes_eq (n ∷ ns) (codes "$enddefinitions")) _ _ p
      (more-choice (λ w. by_word w t a b c d e) (λ w. by_word w t a' b' c' d' e')
      (eqb n 36 && not (is_end (n ∷ ns))) _ _ u refl))))

  more-end : (vars : List Declared) (word : DumpToken) (ts : List DumpToken)
      → IsMore us (header_end vars word ts) (header_end vars word (ts ++ us))
  more-end vars word [] = tt
  more-end vars word (t ∷ ts) = more-if (is_end t.text) _ _ _ _ refl refl

  mutual
    unfolding header closing_token skipped_section scope_type scope_name var_type var_size var_code var_reference
        var_more

    pub header-more : (scopes : List (List ℕ)) (vars : List Declared) (ts : List DumpToken)
        → IsMore us (header scopes vars ts) (header scopes vars (ts ++ us))
    header-more scopes vars [] = tt
    header-more scopes vars (t ∷ ts) =
        more-word t.text t _ _ _ _ _ _ _ _ _ _ (more-end vars t ts)
        (scope_type-more scopes vars t ts) (closing_token-more (outer_scopes scopes) vars t ts)
        (var_type-more scopes vars t ts) (skipped_section-more scopes vars t ts)

    closing_token-more : (scopes : List (List ℕ)) (vars : List Declared) (word : DumpToken)
        (ts : List DumpToken)
        → IsMore us (closing_token scopes vars word ts) (closing_token scopes vars word (ts ++ us))
    closing_token-more scopes vars word [] = tt
    closing_token-more scopes vars word (t ∷ ts) =
        more-if (is_end t.text) _ _ _ _ (header-more scopes vars ts) refl

    skipped_section-more : (scopes : List (List ℕ)) (vars : List Declared) (word : DumpToken)
        (ts : List DumpToken)
        → IsMore us (skipped_section scopes vars word ts)
        (skipped_section scopes vars word (ts ++ us))
    skipped_section-more scopes vars word [] = tt
    skipped_section-more scopes vars word (t ∷ ts) =
        more-if (is_end t.text) _ _ _ _ (header-more scopes vars ts)
        (skipped_section-more scopes vars word ts)

    scope_type-more : (scopes : List (List ℕ)) (vars : List Declared) (word : DumpToken)
        (ts : List DumpToken)
        → IsMore us (scope_type scopes vars word ts) (scope_type scopes vars word (ts ++ us))
    scope_type-more scopes vars word [] = tt
    scope_type-more scopes vars word (t ∷ ts) =
        more-if (is_end t.text) _ _ _ _ refl (scope_name-more scopes vars word ts)

    scope_name-more : (scopes : List (List ℕ)) (vars : List Declared) (word : DumpToken)
        (ts : List DumpToken)
        → IsMore us (scope_name scopes vars word ts) (scope_name scopes vars word (ts ++ us))
    scope_name-more scopes vars word [] = tt
    scope_name-more scopes vars word (t ∷ ts) =
        more-if (is_end t.text) _ _ _ _ refl
        (closing_token-more (scopes ++ t.text ∷ []) vars word ts)

    var_type-more : (scopes : List (List ℕ)) (vars : List Declared) (word : DumpToken)
        (ts : List DumpToken)
        → IsMore us (var_type scopes vars word ts) (var_type scopes vars word (ts ++ us))
    var_type-more scopes vars word [] = tt
    var_type-more scopes vars word (t ∷ ts) =
        more-if (is_end t.text) _ _ _ _ refl (var_size-more scopes vars word t.text ts)

    var_size-more : (scopes : List (List ℕ)) (vars : List Declared) (word : DumpToken)
        (type : List ℕ) (ts : List DumpToken)
        → IsMore us (var_size scopes vars word type ts) (var_size scopes vars word type (ts ++ us))
    var_size-more scopes vars word type [] = tt
    var_size-more scopes vars word type (t ∷ ts) =
        more-if (is_end t.text) _ _ _ _ refl
        (more-size (decimal_below (2 ^ 32) t.text) t _ _
        (λ n. var_code-more scopes vars word type n ts))

    var_code-more : (scopes : List (List ℕ)) (vars : List Declared) (word : DumpToken)
        (type : List ℕ) (size : ℕ) (ts : List DumpToken)
        → IsMore us (var_code scopes vars word type size ts)
        (var_code scopes vars word type size (ts ++ us))
    var_code-more scopes vars word type size [] = tt
    var_code-more scopes vars word type size (t ∷ ts) =
        more-if (is_end t.text) _ _ _ _ refl
        (more-if (list_all is_code_byte t.text) _ _ _ _
        (var_reference-more scopes vars word
        (record { type = type; size = size; code = t.text }) ts) refl)

    var_reference-more : (scopes : List (List ℕ)) (vars : List Declared) (word : DumpToken)
        (h : Head) (ts : List DumpToken)
        → IsMore us (var_reference scopes vars word h ts)
        (var_reference scopes vars word h (ts ++ us))
    var_reference-more scopes vars word h [] = tt
    var_reference-more scopes vars word h (t ∷ ts) =
        more-if (is_end t.text) _ _ _ _ refl (var_more-more scopes vars word h t.text ts)

    var_more-more : (scopes : List (List ℕ)) (vars : List Declared) (word : DumpToken)
        (h : Head) (reference : List ℕ) (ts : List DumpToken)
        → IsMore us (var_more scopes vars word h reference ts)
        (var_more scopes vars word h reference (ts ++ us))
    var_more-more scopes vars word h reference [] = tt
    var_more-more scopes vars word h reference (t ∷ ts) =
        more-if (is_end t.text) _ _ _ _
        (header-more scopes (vars ++ variable scopes h reference ∷ []) ts)
        (var_more-more scopes vars word h (reference ++ t.text) ts)
