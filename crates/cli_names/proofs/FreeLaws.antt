-- A variable has no note exactly where a rule can name it.
use Rattle.std.proofs.Common.{◌≡◌, ℕ, Bool, true, false, not, ◌&&◌, ◌||◌, cond, eqb, ltb, List, Option, Some}
use Rattle.std.proofs.Common.{None, refl, sym, ap, ◌∙◌, arith}
use Rattle.std.specs.Prelude.{nat_le, codes}
use Rattle.std.specs.Str.{bytes_eq}
use Rattle.std.proofs.lemmas.Bool.Decides.{nat_tests}
use Rattle.vcd_reader.specs.Variables.{Declared, variable_at_place, is_bindable, if_bindable, variable_named, is_place}
use Rattle.vcd_reader.specs.Variables.{paths_of, place_of, can_bind, has_no_digits}
use Rattle.vcd_declarations.specs.Declarations.{Declaration, variable_of}
use Rattle.cli_names.specs.declared.note.Note.{Note}
use Rattle.cli_names.specs.declared.note.Note.TheVariants.{Free, Real, Text, Event, NoBits, Wide, NoWords}
use Rattle.cli_names.specs.declared.note.Note.TheVariants.{Reserved}
use Rattle.cli_names.specs.declared.note.Note.TheVariants.{Later}
use Rattle.cli_names.specs.Spelled.{are_words, begins_with_name, is_spelled}
use Rattle.cli_names.specs.Notes.{note_of}
use Rattle.cli_names.specs.Rows.{path_told, row_told}
use Rattle.cli_names.proofs.NameLaws.{place-some}

-- the tests of a note, in their order
abbrev chain : Bool → Bool → Bool → Bool → Bool → Bool → Bool → Bool → Note
chain real text event none wide words name itself =
    cond real Real (cond text Text (cond event Event (cond none NoBits (cond wide Wide
    (cond (not words) NoWords (cond (not name) Reserved (cond itself Free Later)))))))

chain-free : (a b c d e f g h : Bool) → chain a b c d e f g h ≡ Free → ((f && g) ≡ true) × (h ≡ true)
chain-free true b c d e f g h is = absurd cc
chain-free false true c d e f g h is = absurd cc
chain-free false false true d e f g h is = absurd cc
chain-free false false false true e f g h is = absurd cc
chain-free false false false false true f g h is = absurd cc
chain-free false false false false false false g h is = absurd cc
chain-free false false false false false true false h is = absurd cc
chain-free false false false false false true true false is = absurd cc
chain-free false false false false false true true true is = (refl, refl)

pub noted-free : (vs : List Declared) (k : ℕ) (d : Declaration) → (row_told vs k d).note ≡ Free
    → (is_spelled (path_told d) ≡ true) × (variable_named vs (path_told d) ≡ Some k)
unfolding row_told note_of
noted-free vs k d e =
    let free = chain-free _ _ _ _ _ (are_words true (path_told d)) (begins_with_name (path_told d))
    (is_place k (variable_named vs (path_told d))) e in
    (free.0, place-some k (variable_named vs (path_told d)) free.1)

bound-at : (vs : List Declared) (o : Option ℕ) (k : ℕ) → if_bindable vs o ≡ Some k → is_bindable vs k ≡ true
bound-at vs None k e = absurd cc
bound-at vs (Some v) k e = bound (is_bindable vs v) refl e
  where
    bound : (b : Bool) → is_bindable vs v ≡ b → cond b (Some v) None ≡ Some k → is_bindable vs k ≡ true
    bound true is h = ap (is_bindable vs) (let same : k ≡ v = cc in same) ∙ is
    bound false is h = absurd cc

named-bound : (vs : List Declared) (path : List ℕ) (k : ℕ) → variable_named vs path ≡ Some k
    → (variable_at_place vs k).bindable ≡ true
unfolding variable_named is_bindable
named-bound vs path k e = bound-at vs (place_of (paths_of vs) path) k e

-- what a variable has that can be bound
record Bound (kind : List ℕ) (size : ℕ) : Type 0 where
  low : nat_le 1 size ≡ true
  high : nat_le size 128 ≡ true
  digits : has_no_digits kind ≡ false

bound-parts : (a b c : Bool) → (a && b && not c) ≡ true → (a ≡ true) × (b ≡ true) × (c ≡ false)
bound-parts true true false e = (refl, refl, refl)
bound-parts true true true e = absurd cc
bound-parts true false c e = absurd cc
bound-parts false true c e = absurd cc
bound-parts false false c e = absurd cc

no-kind : (a b c d : Bool) → (a || b || c || d) ≡ false → ((a || b) ≡ false) × (c ≡ false) × (d ≡ false)
no-kind false false false false e = (refl, refl, refl)
no-kind true b c d e = absurd (cc (any b c d))
  where
    any : (b c d : Bool) → (true || b || c || d) ≡ true
    any b c d = refl
no-kind false true c d e = absurd cc
no-kind false false true d e = absurd cc
no-kind false false false true e = absurd cc

spelled-parts : (a b : Bool) → (a && b) ≡ true → (a ≡ true) × (b ≡ true)
spelled-parts true true e = (refl, refl)
spelled-parts true false e = absurd cc
spelled-parts false b e = absurd cc

chain-none : (a b c d e f g h : Bool) → a ≡ false → b ≡ false → c ≡ false → d ≡ false → e ≡ false → f ≡ true
    → g ≡ true → h ≡ true → chain a b c d e f g h ≡ Free
chain-none a b c d e f g h pa pb pc pd pe pf pg ph = rw (pa, pb, pc, pd, pe, pf, pg, ph) refl

itself-place : (k : ℕ) (o : Option ℕ) → o ≡ Some k → is_place k o ≡ true
itself-place k o e = rw e (let h : eqb k k ≡ true = grind (arith, nat_tests) in h)

pub free-noted : (vs : List Declared) (k : ℕ) (d : Declaration) → variable_at_place vs k ≡ variable_of d
    → is_spelled (path_told d) ≡ true → variable_named vs (path_told d) ≡ Some k → (row_told vs k d).note ≡ Free
unfolding row_told note_of variable_of
free-noted vs k d at spelled named =
    let size = d.fields.size in
    let binds : can_bind d.fields.kind size ≡ true =
    sym (ap (λ (v : Declared). v.bindable) at) ∙ named-bound vs (path_told d) k named in
    let parts = bound-parts (nat_le 1 size) (nat_le size 128) (has_no_digits d.fields.kind) binds in
    let kind = d.fields.kind in
    let kinds = no-kind (bytes_eq kind (codes "real")) (bytes_eq kind (codes "realtime"))
    (bytes_eq kind (codes "string")) (bytes_eq kind (codes "event")) parts.2 in
    let words = spelled-parts (are_words true (path_told d)) (begins_with_name (path_told d)) spelled in
    let low = parts.0 in
    let high = parts.1 in
    let some : eqb size 0 ≡ false = grind (arith, nat_tests) in
    let fits : ltb 128 size ≡ false = grind (arith, nat_tests) in
    chain-none (bytes_eq kind (codes "real") || bytes_eq kind (codes "realtime")) (bytes_eq kind (codes "string"))
    (bytes_eq kind (codes "event")) (eqb size 0) (ltb 128 size) (are_words true (path_told d))
    (begins_with_name (path_told d)) (is_place k (variable_named vs (path_told d))) kinds.0 kinds.1 kinds.2 some fits
    words.0 words.1
    (itself-place k (variable_named vs (path_told d)) named)
