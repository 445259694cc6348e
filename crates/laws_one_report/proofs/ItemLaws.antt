-- A text spells one list of items, but for where their tokens lie.
use Rattle.std.proofs.Common.{
  ◌≡◌,
  ℕ,
  List,
  [],
  ◌∷◌,
  map,
  Option,
  Some,
  Result,
  Ok,
  sym,
  ap,
  ◌∙◌,
  subst,
}
use Rattle.lexer.specs.declared.token.Token.{Token}
use Rattle.parser_grammar.specs.Trees.{ItemForm}
use Rattle.parser_grammar.specs.Files.{IsFile}
use Rattle.parser_grammar.specs.ReadFiles.{items}
use Rattle.parser_grammar.proofs.FilesComplete.{file-read}
use Rattle.assertions.specs.declared.suite.Suite.{Suite}
use Rattle.types_names.specs.declared.own.Own.{Own}
use Rattle.types_names.specs.Scopes.{Scope, look_up, owns}
use Rattle.types_names.specs.Columns.{columns_of}
use Rattle.types_names.specs.Asked.{widths_among, scope_over_any}
use Rattle.types.specs.declared.fault.TypeFault.{TypeFault}
use Rattle.types.specs.Faults.{FaultStands}
use Rattle.types.specs.Suites.{IsSuite}
use Rattle.laws_one_report.proofs.MovedTrees.{moved_item}
use Rattle.laws_one_report.proofs.MovedFiles.{file-moved}
use Rattle.laws_one_report.proofs.MovedSuites.{owns-moved, columns-moved, suite-moved}
use Rattle.laws_one_report.proofs.MovedFaults.{stands-moved}
use Rattle.vcd_reader.specs.Variables.{Declared}
use Rattle.suite_over_dump.specs.Dumps.{width_named}
use Rattle.suite_over_dump.specs.Suites.{scope_over}
use Rattle.cli.specs.Reported.{AreTokens, HasItems}
use Rattle.laws_one_report.proofs.TokenLaws.{lies_in, moved_tokens}

pub same_ok : {A E : Type 0} (x y : A) (r : Result A E) → r ≡ Ok x → r ≡ Ok y → x ≡ y
same_ok x y r h k = cc

same_read : {A : Type 0} (o : Option (A × List Token)) (a b : A) (us vs : List Token)
    → o ≡ Some (a, us) → o ≡ Some (b, vs) → a ≡ b
same_read {A = A} o a b us vs h k =
    let e : Some (a, us) ≡ Some (b, vs) = sym h ∙ k in
    let same : (a, us) ≡ (b, vs) = cc (e) in
    ap (λ (p : A × List Token). p.0) same

-- Tokens spell at most one file.
one_file : (xs ys : List ItemForm) (tokens : List Token) → IsFile xs tokens → IsFile ys tokens
    → xs ≡ ys
one_file xs ys tokens h k =
    let first = file-read xs tokens h in
    let second = file-read ys tokens k in
    same_read (items tokens) xs ys (first.last ∷ []) (second.last ∷ []) first.read second.read

-- What tokens of a text spell, its other tokens spell, moved.
pub file_of : (text : List ℕ) (xs : List ItemForm) (ts : List Token) → HasItems text xs
    → AreTokens text ts → IsFile (map (moved_item (lies_in ts)) xs) ts
file_of text xs ts h k =
    let lies = lies_in ts in
    subst (λ (us : List Token). IsFile (map (moved_item lies) xs) us)
    (moved_tokens text h.tokens ts h.cut k) (file-moved lies xs h.tokens h.spelled)

-- So items of a text are any others of it, moved.
pub moved_items :
    (text : List ℕ) (xs ys : List ItemForm) (h : HasItems text xs) (k : HasItems text ys)
    → map (moved_item (lies_in k.tokens)) xs ≡ ys
moved_items text xs ys h k =
    one_file (map (moved_item (lies_in k.tokens)) xs) ys k.tokens (file_of text xs k.tokens h k.cut)
    k.spelled

-- Moved, they have the same scope, say the same suites and have the same faults.
module _ (lies : ℕ → ℕ × ℕ) (vs : List Declared) where
  scope-moved : (xs : List ItemForm) → scope_over vs xs ≡ scope_over vs (map (moved_item lies) xs)
  scope-moved xs =
      ap (λ (os : List (List ℕ × Own)). record {
        own = look_up os;
        dump = widths_among (columns_of (record { own = look_up os; dump = λ p. Some 1 }) xs) (width_named vs);
      }) (sym (owns-moved lies 0 0 xs))
      ∙ ap (λ (cs : List (List ℕ)). record {
        own = look_up (owns (map (moved_item lies) xs));
        dump = widths_among cs (width_named vs);
      }) (sym (columns-moved lies (scope_over_any (map (moved_item lies) xs)) xs))

  suite_over-moved : (xs : List ItemForm) (suite : Suite) → IsSuite (scope_over vs xs) xs suite
      → IsSuite (scope_over vs (map (moved_item lies) xs)) (map (moved_item lies) xs) suite
  suite_over-moved xs suite h =
      subst (λ (s : Scope). IsSuite s (map (moved_item lies) xs) suite) (scope-moved xs)
      (suite-moved lies (scope_over vs xs) xs suite h)

  stands_over-moved : (xs : List ItemForm) (fault : TypeFault)
      → FaultStands (scope_over vs xs) xs fault
      → FaultStands (scope_over vs (map (moved_item lies) xs)) (map (moved_item lies) xs) fault
  stands_over-moved xs fault h =
      subst (λ (s : Scope). FaultStands s (map (moved_item lies) xs) fault) (scope-moved xs)
      (stands-moved lies (scope_over vs xs) xs fault h)

-- And so do any others of the text.
pub other_suite : (vs : List Declared) (text : List ℕ) (xs ys : List ItemForm) (suite : Suite)
    → HasItems text xs → HasItems text ys → IsSuite (scope_over vs xs) xs suite
    → IsSuite (scope_over vs ys) ys suite
other_suite vs text xs ys suite h k is =
    subst (λ (zs : List ItemForm). IsSuite (scope_over vs zs) zs suite) (moved_items text xs ys h k)
    (suite_over-moved (lies_in k.tokens) vs xs suite is)

pub other_stands : (vs : List Declared) (text : List ℕ) (xs ys : List ItemForm) (fault : TypeFault)
    → HasItems text xs → HasItems text ys → FaultStands (scope_over vs xs) xs fault
    → FaultStands (scope_over vs ys) ys fault
other_stands vs text xs ys fault h k stands =
    subst (λ (zs : List ItemForm). FaultStands (scope_over vs zs) zs fault)
    (moved_items text xs ys h k) (stands_over-moved (lies_in k.tokens) vs xs fault stands)
