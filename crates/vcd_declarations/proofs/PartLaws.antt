-- The declarations of a dump are its variables.
use Rattle.std.proofs.Common.{◌≡◌, ℕ, ◌^◌, Bool, true, false, not, ◌&&◌, eqb, cond, List, [], ◌∷◌, ◌++◌, map}
use Rattle.std.proofs.Common.{Option, Some}
use Rattle.std.proofs.Common.{refl, sym, ap, ◌∙◌, append_assoc}
use Rattle.std.specs.Prelude.{codes, unwrap_or}
use Rattle.std.specs.Str.{bytes_eq}
use Rattle.std.specs.List.{flat_map, AllByRecursion}
use Rattle.std.proofs.lemmas.Slice.Eq.{bytes_eq-Decides}
use Rattle.vcd_reader.specs.Tokens.{DumpToken}
use Rattle.vcd_reader.specs.Numbers.{decimal_below}
use Rattle.vcd_reader.specs.Variables.{Declared}
use Rattle.vcd_reader.specs.Header.{is_end, word_of, outer_scopes, variable}
use Rattle.vcd_reader.specs.Dump.{Contents}
use Rattle.vcd_reader.specs.Grammar.{AreInner, IsEnd, Part, Opens, Closes, Declares, Skipped, part_tokens, IsPart}
use Rattle.vcd_reader.specs.Grammar.{joined_text, declared_by, IsDump}
use Rattle.vcd_declarations.specs.Sections.{texts, with_text, sections}
use Rattle.vcd_declarations.specs.Declarations as says
use Rattle.vcd_declarations.specs.Declarations.{joined, Fields, size_in, Said, said, declarations_in, declarations}
use Rattle.vcd_declarations.specs.Declarations.{variable_of}
use Rattle.vcd_declarations.proofs.TextLaws.{text_list}
use Rattle.vcd_declarations.proofs.SectionLaws.{sections-end, sections-more}
use Rattle.vcd_declarations.proofs.DeclarationLaws.{at-ended, at-opened, at-closed, at-declared, at-silent}

-- a section's word, by what vcd_reader makes of it

var-true : (v s u e o : Bool) → word_of (codes "$var")
    ≡ cond v (word_of (codes "$var")) (cond s (word_of (codes "$scope")) (cond u (word_of (codes "$upscope"))
    (cond e (word_of (codes "$enddefinitions")) (cond o (word_of (codes "$x")) (word_of []))))) → v ≡ true
unfolding word_of
var-true true s u e o h = refl
var-true false true u e o h = absurd cc
var-true false false true e o h = absurd cc
var-true false false false true o h = absurd cc
var-true false false false false true h = absurd cc
var-true false false false false false h = absurd cc

scope-true : (v s u e o : Bool) → word_of (codes "$scope")
    ≡ cond v (word_of (codes "$var")) (cond s (word_of (codes "$scope")) (cond u (word_of (codes "$upscope"))
    (cond e (word_of (codes "$enddefinitions")) (cond o (word_of (codes "$x")) (word_of []))))) → s ≡ true
unfolding word_of
scope-true true s u e o h = absurd cc
scope-true false true u e o h = refl
scope-true false false true e o h = absurd cc
scope-true false false false true o h = absurd cc
scope-true false false false false true h = absurd cc
scope-true false false false false false h = absurd cc

upscope-true : (v s u e o : Bool) → word_of (codes "$upscope")
    ≡ cond v (word_of (codes "$var")) (cond s (word_of (codes "$scope")) (cond u (word_of (codes "$upscope"))
    (cond e (word_of (codes "$enddefinitions")) (cond o (word_of (codes "$x")) (word_of []))))) → u ≡ true
unfolding word_of
upscope-true true s u e o h = absurd cc
upscope-true false true u e o h = absurd cc
upscope-true false false true e o h = refl
upscope-true false false false true o h = absurd cc
upscope-true false false false false true h = absurd cc
upscope-true false false false false false h = absurd cc

ends-true : (v s u e o : Bool) → word_of (codes "$enddefinitions")
    ≡ cond v (word_of (codes "$var")) (cond s (word_of (codes "$scope")) (cond u (word_of (codes "$upscope"))
    (cond e (word_of (codes "$enddefinitions")) (cond o (word_of (codes "$x")) (word_of []))))) → e ≡ true
unfolding word_of
ends-true true s u e o h = absurd cc
ends-true false true u e o h = absurd cc
ends-true false false true e o h = absurd cc
ends-true false false false true o h = refl
ends-true false false false false true h = absurd cc
ends-true false false false false false h = absurd cc

-- another word is none of these
other-false : (v s u e o : Bool) → word_of (codes "$x")
    ≡ cond v (word_of (codes "$var")) (cond s (word_of (codes "$scope")) (cond u (word_of (codes "$upscope"))
    (cond e (word_of (codes "$enddefinitions")) (cond o (word_of (codes "$x")) (word_of [])))))
    → (v ≡ false) × (s ≡ false) × (u ≡ false) × (e ≡ false)
unfolding word_of
other-false true s u e o h = absurd cc
other-false false true u e o h = absurd cc
other-false false false true e o h = absurd cc
other-false false false false true o h = absurd cc
other-false false false false false o h = (refl, refl, refl, refl)

var-text : (text : List ℕ) → word_of (codes "$var") ≡ word_of text → text ≡ codes "$var"
unfolding word_of
var-text [] h = absurd cc
var-text (b ∷ bs) h =
    (bytes_eq-Decides (b ∷ bs) (codes "$var")).0 (var-true (bytes_eq (b ∷ bs) (codes "$var"))
    (bytes_eq (b ∷ bs) (codes "$scope")) (bytes_eq (b ∷ bs) (codes "$upscope"))
    (bytes_eq (b ∷ bs) (codes "$enddefinitions")) (eqb b 36 && not (is_end (b ∷ bs))) h)

scope-text : (text : List ℕ) → word_of (codes "$scope") ≡ word_of text → text ≡ codes "$scope"
unfolding word_of
scope-text [] h = absurd cc
scope-text (b ∷ bs) h =
    (bytes_eq-Decides (b ∷ bs) (codes "$scope")).0 (scope-true (bytes_eq (b ∷ bs) (codes "$var"))
    (bytes_eq (b ∷ bs) (codes "$scope")) (bytes_eq (b ∷ bs) (codes "$upscope"))
    (bytes_eq (b ∷ bs) (codes "$enddefinitions")) (eqb b 36 && not (is_end (b ∷ bs))) h)

upscope-text : (text : List ℕ) → word_of (codes "$upscope") ≡ word_of text → text ≡ codes "$upscope"
unfolding word_of
upscope-text [] h = absurd cc
upscope-text (b ∷ bs) h =
    (bytes_eq-Decides (b ∷ bs) (codes "$upscope")).0 (upscope-true (bytes_eq (b ∷ bs) (codes "$var"))
    (bytes_eq (b ∷ bs) (codes "$scope")) (bytes_eq (b ∷ bs) (codes "$upscope"))
    (bytes_eq (b ∷ bs) (codes "$enddefinitions")) (eqb b 36 && not (is_end (b ∷ bs))) h)

ends-text : (text : List ℕ) → word_of (codes "$enddefinitions") ≡ word_of text → text ≡ codes "$enddefinitions"
unfolding word_of
ends-text [] h = absurd cc
ends-text (b ∷ bs) h =
    (bytes_eq-Decides (b ∷ bs) (codes "$enddefinitions")).0 (ends-true (bytes_eq (b ∷ bs) (codes "$var"))
    (bytes_eq (b ∷ bs) (codes "$scope")) (bytes_eq (b ∷ bs) (codes "$upscope"))
    (bytes_eq (b ∷ bs) (codes "$enddefinitions")) (eqb b 36 && not (is_end (b ∷ bs))) h)

silent-tests : (v s u e : Bool) (x y : Said) → v ≡ false → s ≡ false → u ≡ false → e ≡ false
    → cond v x (cond s y (cond u says.Closed (cond e says.Ended says.Silent))) ≡ says.Silent
silent-tests v s u e x y pv ps pu pe = rw (pv, ps, pu, pe) refl

other-silent : (text : List ℕ) (fields : List (List ℕ)) → word_of (codes "$x") ≡ word_of text
    → says.Silent ≡ said (text ∷ fields)
unfolding word_of
other-silent [] fields h = absurd cc
other-silent (b ∷ bs) fields h =
    let t = other-false (bytes_eq (b ∷ bs) (codes "$var")) (bytes_eq (b ∷ bs) (codes "$scope"))
    (bytes_eq (b ∷ bs) (codes "$upscope")) (bytes_eq (b ∷ bs) (codes "$enddefinitions"))
    (eqb b 36 && not (is_end (b ∷ bs))) h in
    sym (silent-tests (bytes_eq (b ∷ bs) (codes "$var")) (bytes_eq (b ∷ bs) (codes "$scope"))
    (bytes_eq (b ∷ bs) (codes "$upscope")) (bytes_eq (b ∷ bs) (codes "$enddefinitions"))
    (says.variable_said fields) (says.scope_said fields) t.0 t.1 t.2 t.3)

-- another word is not $end
end-no_word : (text : List ℕ) → is_end text ≡ true → word_of (codes "$x") ≡ word_of text → ⊥
unfolding word_of
end-no_word text e h =
    let same : text ≡ codes "$end" = (bytes_eq-Decides text (codes "$end")).0 e in
    let none = h ∙ ap word_of same in cc

other-inner : (text : List ℕ) → word_of (codes "$x") ≡ word_of text → is_end text ≡ false
other-inner text h = inner (is_end text) refl
  where
    inner : (b : Bool) → b ≡ is_end text → is_end text ≡ false
    inner true e = absurd (end-no_word text (sym e) h)
    inner false e = sym e

text-inner : (text word : List ℕ) → text ≡ word → is_end word ≡ false → is_end text ≡ false
text-inner text word e h = ap is_end e ∙ h

-- the texts of a section that its $end follows
inner-texts : (ts : List DumpToken) (stop : DumpToken) (us : List DumpToken) → AreInner ts → IsEnd stop
    → sections (text_list (ts ++ stop ∷ us)) ≡ text_list ts ∷ sections (text_list us)
inner-texts [] stop us all e = sections-end stop.text (text_list us) e
inner-texts (t ∷ ts) stop us all e =
    sections-more t.text (text_list (ts ++ stop ∷ us)) all.0
    ∙ ap (with_text t.text) (inner-texts ts stop us all.1 e)

-- the same after the section's word
section-texts : (word : DumpToken) (ts : List DumpToken) (stop : DumpToken) (us : List DumpToken)
    → is_end word.text ≡ false → AreInner ts → IsEnd stop
    → sections (text_list (word ∷ ts ++ stop ∷ us)) ≡ (word.text ∷ text_list ts) ∷ sections (text_list us)
section-texts word ts stop us inner all e = inner-texts (word ∷ ts) stop us (inner, all) e

-- what a section with that word says
says-word : (text word : List ℕ) (fields : List (List ℕ)) → text ≡ word → said (word ∷ fields) ≡ said (text ∷ fields)
says-word text word fields e = ap (λ (w : List ℕ). said (w ∷ fields)) (sym e)

joined-texts : (ts : List DumpToken) → joined (text_list ts) ≡ joined_text ts
joined-texts [] = refl
joined-texts (t ∷ ts) = ap (λ (x : List ℕ). t.text ++ x) (joined-texts ts)

size-some : (digits : List ℕ) (n : ℕ) → decimal_below (2 ^ 32) digits ≡ Some n → size_in digits ≡ n
size-some digits n e = ap (λ (o : Option ℕ). unwrap_or o 0) e

-- the fields of a $var as they are told
abbrev fields_said : DumpToken → DumpToken → DumpToken → DumpToken → List DumpToken → Fields
fields_said type size code first more = record {
  kind = type.text;
  size = size_in size.text;
  code = code.text;
  reference = joined (first.text ∷ text_list more);
}

same-variable : (scopes : List (List ℕ)) (type size code first : DumpToken) (n : ℕ) (more : List DumpToken)
    → decimal_below (2 ^ 32) size.text ≡ Some n
    → variable_of (record { scopes = scopes; fields = fields_said type size code first more })
    ≡ variable scopes (record { type = type.text; size = n; code = code.text }) (first.text ++ joined_text more)
unfolding variable_of
same-variable scopes type size code first n more e =
    ap (λ (m : ℕ). variable scopes (record { type = type.text; size = m; code = code.text })
    (first.text ++ joined (text_list more))) (size-some size.text n e)
    ∙ ap (λ (x : List ℕ). variable scopes (record { type = type.text; size = n; code = code.text })
    (first.text ++ x)) (joined-texts more)

-- the sections of a header, and its end
parts-declare : (scopes : List (List ℕ)) (ps : List Part) (ends stop : DumpToken) (ts : List DumpToken)
    → AllByRecursion IsPart ps → word_of (codes "$enddefinitions") ≡ word_of ends.text → IsEnd stop
    → map variable_of (declarations_in scopes (text_list (flat_map part_tokens ps ++ ends ∷ stop ∷ ts)))
    ≡ declared_by scopes ps
unfolding word_of
parts-declare scopes [] ends stop ts all w e =
    let word = ends-text ends.text w in
    ap (map variable_of)
    (at-ended scopes (text_list (ends ∷ stop ∷ ts)) (ends.text ∷ []) (text_list ts)
    (section-texts ends [] stop ts (text-inner ends.text _ word refl) tt e)
    (says-word ends.text (codes "$enddefinitions") [] word))
parts-declare scopes (Opens word type name s ∷ ps) ends stop ts all w e =
    let rest = flat_map part_tokens ps ++ ends ∷ stop ∷ ts in
    let inner = type ∷ name ∷ [] in
    let is = scope-text word.text all.0.0 in
    ap (map variable_of)
    (at-opened scopes (text_list (word ∷ type ∷ name ∷ s ∷ rest)) (word.text ∷ text_list inner) (text_list rest)
    (section-texts word inner s rest (text-inner word.text _ is refl) all.0.1 all.0.2) name.text
    (says-word word.text (codes "$scope") (text_list inner) is))
    ∙ parts-declare (scopes ++ name.text ∷ []) ps ends stop ts all.1 w e
parts-declare scopes (Closes word s ∷ ps) ends stop ts all w e =
    let rest = flat_map part_tokens ps ++ ends ∷ stop ∷ ts in
    let is = upscope-text word.text all.0.0 in
    ap (map variable_of)
    (at-closed scopes (text_list (word ∷ s ∷ rest)) (word.text ∷ []) (text_list rest)
    (section-texts word [] s rest (text-inner word.text _ is refl) tt all.0.1)
    (says-word word.text (codes "$upscope") [] is))
    ∙ parts-declare (outer_scopes scopes) ps ends stop ts all.1 w e
parts-declare scopes (Declares word type size n code first more s ∷ ps) ends stop ts all w e =
    let rest = flat_map part_tokens ps ++ ends ∷ stop ∷ ts in
    let inner = type ∷ size ∷ code ∷ first ∷ more in
    let is = var-text word.text all.0.0 in
    let flat : (more ++ s ∷ []) ++ flat_map part_tokens ps ++ ends ∷ stop ∷ ts ≡ more ++ s ∷ rest =
    ap (λ (xs : List DumpToken). xs ++ ends ∷ stop ∷ ts) (append_assoc more (s ∷ []) (flat_map part_tokens ps))
    ∙ append_assoc more (s ∷ flat_map part_tokens ps) (ends ∷ stop ∷ ts) in
    let fields = fields_said type size code first more in
    ap (λ (xs : List DumpToken). map variable_of (declarations_in scopes
    (text_list (word ∷ type ∷ size ∷ code ∷ first ∷ xs)))) flat
    ∙ ap (map variable_of)
    (at-declared scopes (text_list (word ∷ inner ++ s ∷ rest)) (word.text ∷ text_list inner) (text_list rest)
    (section-texts word inner s rest (text-inner word.text _ is refl) all.0.1 all.0.4) fields
    (says-word word.text (codes "$var") (text_list inner) is))
    ∙ ap (λ (v : Declared). v ∷ map variable_of (declarations_in scopes (text_list rest)))
    (same-variable scopes type size code first n more all.0.2)
    ∙ ap (λ (vs : List Declared). variable scopes
    (record { type = type.text; size = n; code = code.text }) (first.text ++ joined_text more) ∷ vs)
    (parts-declare scopes ps ends stop ts all.1 w e)
parts-declare scopes (Skipped word inner s ∷ ps) ends stop ts all w e =
    let rest = flat_map part_tokens ps ++ ends ∷ stop ∷ ts in
    let flat : (inner ++ s ∷ []) ++ flat_map part_tokens ps ++ ends ∷ stop ∷ ts ≡ inner ++ s ∷ rest =
    ap (λ (xs : List DumpToken). xs ++ ends ∷ stop ∷ ts) (append_assoc inner (s ∷ []) (flat_map part_tokens ps))
    ∙ append_assoc inner (s ∷ flat_map part_tokens ps) (ends ∷ stop ∷ ts) in
    ap (λ (xs : List DumpToken). map variable_of (declarations_in scopes (text_list (word ∷ xs)))) flat
    ∙ ap (map variable_of)
    (at-silent scopes (text_list (word ∷ inner ++ s ∷ rest)) (word.text ∷ text_list inner) (text_list rest)
    (section-texts word inner s rest (other-inner word.text all.0.0) all.0.1 all.0.2)
    (other-silent word.text (text_list inner) all.0.0))
    ∙ parts-declare scopes ps ends stop ts all.1 w e

-- the declarations of a dump are its variables
pub dump-declares : (bytes : List ℕ) (c : Contents) → IsDump bytes c → map variable_of (declarations bytes)
    ≡ c.variables
unfolding declarations texts word_of
dump-declares bytes c d =
    ap (λ (ts : List DumpToken). map variable_of (declarations_in [] (text_list ts))) (sym d.spelled)
    ∙ parts-declare [] d.parts d.ends d.stop _ d.are_parts d.definitions_end.0 d.definitions_end.1
    ∙ d.variables
