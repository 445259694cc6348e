-- What a suite has for the assertions of its text keeps to what the text says.
use Rattle.std.proofs.Common.{◌≡◌, ℕ, ◌+◌, ◌*◌, ◌<◌, ◌≤◌, List, [], ◌∷◌, ◌++◌, map, length, Option, Some, None}
use Rattle.std.proofs.Common.{slice_get, refl, sym, ap, ◌∙◌, subst, arith}
use Rattle.std.specs.Prelude.{sum_by, Contains}
use Rattle.std.specs.List.{AllByRecursion, AllZip, flat_map}
use Rattle.std.proofs.lemmas.List.Sums.{sum_by-cons}
use Rattle.parser_grammar.specs.Trees.{Tree, AssertionForm, ItemForm}
use Rattle.expressions.specs.declared.expr.Expr.{Expr}
use Rattle.expressions.specs.declared.name.Origin.TheVariants as origins
use Rattle.expressions.specs.declared.name.Name.{Name}
use Rattle.expressions.specs.Expressions.{term_of}
use Rattle.assertions.specs.declared.sequence.Boolean.{Boolean}
use Rattle.assertions.specs.declared.sequence.Boolean.TheVariants.{Listed}
use Rattle.assertions.specs.declared.assertion.Assertion.{Assertion}
use Rattle.assertions.specs.declared.suite.Suite.{Suite}
use Rattle.assertions.specs.Written.{Written, weight}
use Rattle.assertions.specs.Shapes.{written_form}
use Rattle.assertions.specs.Names.{expression_names}
use Rattle.compiler.specs.Chosen.{term_found, terms_at}
use Rattle.compiler.specs.Laws.{EachPart, IsNoChange, size}
use Rattle.positions.specs.Laws.{IsPlain, booleans}
use Rattle.types.specs.Drafts.{Draft}
use Rattle.types.specs.Outlines.{map_written}
use Rattle.types.specs.Leaves.{leaves, place_listed, sequence_places, is_one, form_of}
use Rattle.types.proofs.MapLaws.{weight_map, spells_one}
use Rattle.types_names.specs.Scopes.{Scope}
use Rattle.types_names.specs.Asked.{scope_for}
use Rattle.types_names.specs.Columns.{columns_of}
use Rattle.types.specs.Texts.{declarations_of, assertions_of}
use Rattle.types.specs.Readings.{IsBooleanOf, AllRead}
use Rattle.types.specs.Suites.{IsMeant, IsDisabledBy, off_places, IsAssertion, AreAssertions}
use Rattle.compiler.specs.Readings.{boolean_terms}
use Rattle.compiler.specs.Small.{IsSmallSide, IsSmall}
use Rattle.compiler_laws.specs.SuiteLaws.{SaysOver}
use Rattle.compiler_laws.specs.WrittenOut.{Leaf, tree_bodies, antecedent_trees, consequent_trees, given}
use Rattle.compiler_laws.specs.WrittenOut.{AreWrittenOut, expressions_of, all_expressions, tree_size}
use Rattle.compiler_laws.specs.Small.{HasManyBooleans, IsStill, IsSmallText, KeepsTo, SuitesKeepTo}
use Rattle.compiler_laws.proofs.MeasureLaws.{plain_map, map_plain, booleans_map, leaves_map}
use Rattle.compiler_laws.proofs.TrimmedLaws.{plain_kept, light_kept, few_kept, Fewer, fewer_same, fewer_two}
use Rattle.compiler_laws.proofs.TrimmedLaws.{places_kept}
use Rattle.compiler_laws.proofs.TreeLaws.{means_short, IsQuiet, none_there, two_there, means_quiet}
use Rattle.compiler_laws.proofs.LeafLaws.{Pair, first_of, second_of, ArePaired, bodies_paired, antecedent_paired}
use Rattle.compiler_laws.proofs.LeafLaws.{consequent_paired, SpellBoth, spelled_both, IsPlaceOf, pairs_zip, zip_two}

-- what stands at a place of the suite's
abbrev size_found : Option Expr → ℕ
size_found None = 0
size_found (Some e) = size (term_of e)

abbrev IsQuietFound : Option Expr → Type 0
IsQuietFound None = Unit {0}
IsQuietFound (Some e) = IsQuiet (term_of e)

module _ (s : Scope) (cs : List (List ℕ)) (bs : List Expr) where
  abbrev size_at : ℕ → ℕ
  size_at p = size_found (slice_get bs p)

  abbrev IsQuietAt : ℕ → Type 0
  IsQuietAt p = IsQuietFound (slice_get bs p)

  -- the terms at some places
  terms_sum : (ps : List ℕ) → sum_by size (terms_at bs ps) ≤ sum_by size_at ps
  terms_sum [] = omega arith
  terms_sum (p ∷ ps) =
      omega (arith, sum_by-cons size_at p ps, found (slice_get bs p) (terms_sum ps))
    where
      found : (o : Option Expr) → sum_by size (terms_at bs ps) ≤ sum_by size_at ps →
          sum_by size (term_found o (terms_at bs ps)) ≤ size_found o + sum_by size_at ps
      found None h = omega (arith, h)
      found (Some e) h = omega (arith, sum_by-cons size (term_of e) (terms_at bs ps), h)

  terms_still : (ps : List ℕ) → AllByRecursion IsQuietAt ps → AllByRecursion (EachPart IsNoChange) (terms_at bs ps)
  terms_still [] h = tt
  terms_still (p ∷ ps) h = found (slice_get bs p) h.0 (terms_still ps h.1)
    where
      found : (o : Option Expr) → IsQuietFound o → AllByRecursion (EachPart IsNoChange) (terms_at bs ps) →
          AllByRecursion (EachPart IsNoChange) (term_found o (terms_at bs ps))
      found None q k = k
      found (Some e) q k = (q.still, k)

  quiet_names : (o : Option Expr) → IsQuietFound o → (n : Name) → Contains (expression_names o) n →
      n.origin ≡ origins.Signal
  quiet_names None q n c = absurd (none_there n c)
  quiet_names (Some e) q n c = q.signals n c

  names_quiet : (ps : List ℕ) → AllByRecursion IsQuietAt ps → (n : Name) →
      Contains (flat_map (λ place. expression_names (slice_get bs place)) ps) n → n.origin ≡ origins.Signal
  names_quiet [] h n c = absurd (none_there n c)
  names_quiet (p ∷ ps) h n c =
      two_there (expression_names (slice_get bs p))
      (flat_map (λ place. expression_names (slice_get bs place)) ps)
      (quiet_names (slice_get bs p) h.0) (names_quiet ps h.1) n c

  -- places of expressions of the text
  atom_found : (t : Tree) (p : ℕ) (h : IsBooleanOf s cs bs t (Listed p)) → slice_get bs p ≡ Some h.expression
  atom_found t p h =
      let is : Listed p ≡ Listed h.place = h.is in
      let same : p ≡ h.place = cc in
      subst (λ (k : ℕ). slice_get bs k ≡ Some h.expression) (sym same) h.found

  zip_long : (ps : List ℕ) (ts : List Tree) → AllZip (IsPlaceOf s cs bs) ps ts → length ps ≡ length ts
  zip_long [] [] h = refl
  zip_long [] (t ∷ ts) h = elim h [ ]
  zip_long (p ∷ ps) [] h = elim h [ ]
  zip_long (p ∷ ps) (t ∷ ts) h = omega (arith, zip_long ps ts h.1)

  zip_sum : (ps : List ℕ) (ts : List Tree) → AllZip (IsPlaceOf s cs bs) ps ts →
      sum_by size_at ps ≤ 2 * sum_by tree_size ts
  zip_sum [] [] h = omega arith
  zip_sum [] (t ∷ ts) h = elim h [ ]
  zip_sum (p ∷ ps) [] h = elim h [ ]
  zip_sum (p ∷ ps) (t ∷ ts) h =
      omega (
        arith,
        sum_by-cons size_at p ps,
        sum_by-cons tree_size t ts,
        ap size_found (atom_found t p h.0),
        means_short s cs t (term_of h.0.expression) h.0.means,
        zip_sum ps ts h.1,
      )

  zip_quiet : (ps : List ℕ) (ts : List Tree) → AllZip (IsPlaceOf s cs bs) ps ts → AllByRecursion (IsStill s) ts →
      AllByRecursion IsQuietAt ps
  zip_quiet [] [] h q = tt
  zip_quiet [] (t ∷ ts) h q = elim h [ ]
  zip_quiet (p ∷ ps) [] h q = elim h [ ]
  zip_quiet (p ∷ ps) (t ∷ ts) h q = (
    subst IsQuietFound (sym (atom_found t p h.0)) (means_quiet s cs t (term_of h.0.expression) q.0 h.0.means),
    zip_quiet ps ts h.1 q.1,
  )

  off_zip : (o : Option Tree) (off : Option ℕ) → IsDisabledBy s cs bs o off →
      AllZip (IsPlaceOf s cs bs) (off_places off) (given o)
  off_zip None None h = tt
  off_zip None (Some p) h = elim h [ ]
  off_zip (Some t) None h = elim h [ ]
  off_zip (Some t) (Some p) h = (h, tt)

  -- a side, with the expressions that its booleans are
  module _ (bodies : List (Draft Boolean)) (es : List (Draft Leaf)) (places : List ℕ) (d : Draft Boolean)
      (e : Draft Leaf) (made : Written Boolean) (m : IsMeant bodies bs places d made)
      (both : SpellBoth s cs bs es e m.meant) where
    abbrev side_written : Written Leaf
    side_written = map_written (second_of s cs bs) both.both

    side_zip : AllZip (IsPlaceOf s cs bs) (sequence_places m.meant) (expressions_of side_written)
    side_zip =
        let z = both.both in
        let one = sym (leaves_map (first_of s cs bs) z) ∙ ap leaves both.first in
        let two = sym (leaves_map (second_of s cs bs) z) in
        subst (λ (xs : List Boolean). AllZip (IsPlaceOf s cs bs) (flat_map place_listed xs)
        (flat_map given (leaves side_written))) one
        (subst (λ (xs : List Leaf). AllZip (IsPlaceOf s cs bs)
        (flat_map place_listed (map (first_of s cs bs) (leaves z))) (flat_map given xs)) two
        (pairs_zip s cs bs (leaves z)))

    side_small : IsSmallSide side_written → IsSmallSide made
    side_small small =
        let z = both.both in
        let plain_meant : IsPlain m.meant =
        subst IsPlain both.first
        (plain_map (first_of s cs bs) z (map_plain (second_of s cs bs) z small.plain)) in
        let plain_held : IsPlain m.kept = plain_kept m.meant m.kept m.trimmed m.ordered plain_meant in
        record {
          plain = map_plain is_one made (subst IsPlain (sym m.form) (plain_map is_one m.kept plain_held));
          light =
              omega (
                arith,
                weight_map is_one made,
                ap weight m.form,
                weight_map is_one m.kept,
                light_kept m.meant m.kept m.trimmed plain_meant,
                ap weight both.first,
                weight_map (first_of s cs bs) z,
                weight_map (second_of s cs bs) z,
                small.light,
              );
          few =
              omega (
                arith,
                booleans_map is_one made,
                ap booleans m.form,
                booleans_map is_one m.kept,
                few_kept m.meant m.kept m.trimmed m.ordered,
                ap booleans both.first,
                booleans_map (first_of s cs bs) z,
                booleans_map (second_of s cs bs) z,
                small.few,
              );
        }

module _ (suite : Suite) (s : Scope) (cs : List (List ℕ)) (items : List ItemForm) (bodies : List (Draft Boolean))
    (read : AllRead s cs suite.booleans.items (map (λ d. d.body) (declarations_of items)) bodies) where
  abbrev bs : List Expr
  bs = suite.booleans.items

  module _ (n : ℕ) (a : AssertionForm) (made : Assertion) (h : IsAssertion s cs bs bodies n a made) where
    paired : ArePaired s cs bs bodies (tree_bodies s items)
    paired = bodies_paired s cs bs (declarations_of items) bodies read

    before_both : SpellBoth s cs bs (tree_bodies s items) (antecedent_trees s a.property) h.antecedent_meant.meant
    before_both =
        spelled_both s cs bs bodies (tree_bodies s items) h.antecedent (antecedent_trees s a.property)
        h.antecedent_meant.meant paired (antecedent_paired s cs bs a.property h.antecedent h.reads_antecedent)
        h.antecedent_meant.spells

    behind_both : SpellBoth s cs bs (tree_bodies s items) (consequent_trees s a.property) h.consequent_meant.meant
    behind_both =
        spelled_both s cs bs bodies (tree_bodies s items) h.consequent (consequent_trees s a.property)
        h.consequent_meant.meant paired (consequent_paired s cs bs a.property h.consequent h.reads_consequent)
        h.consequent_meant.spells

    -- All that follows is of any two such.
    module _
        (v : SpellBoth s cs bs (tree_bodies s items) (antecedent_trees s a.property) h.antecedent_meant.meant)
        (w : SpellBoth s cs bs (tree_bodies s items) (consequent_trees s a.property) h.consequent_meant.meant) where
      abbrev before : Written Leaf
      before = map_written (second_of s cs bs) v.both

      abbrev behind : Written Leaf
      behind = map_written (second_of s cs bs) w.both

      written_out : AreWrittenOut s items a before behind
      written_out = record { antecedent = v.second; consequent = w.second }

      -- the places of all that is meant, as often as it is written
      abbrev meant_places : List ℕ
      meant_places =
          sequence_places h.antecedent_meant.meant ++ (sequence_places h.consequent_meant.meant ++ off_places h.off)

      all_zip : AllZip (IsPlaceOf s cs bs) meant_places (all_expressions a before behind)
      all_zip =
          zip_two s cs bs (sequence_places h.antecedent_meant.meant)
          (sequence_places h.consequent_meant.meant ++ off_places h.off) (expressions_of before)
          (expressions_of behind ++ given a.disable)
          (side_zip s cs bs bodies (tree_bodies s items) made.booleans.items h.antecedent
          (antecedent_trees s a.property) (written_form made.antecedent) h.antecedent_meant v)
          (zip_two s cs bs (sequence_places h.consequent_meant.meant) (off_places h.off) (expressions_of behind)
          (given a.disable)
          (side_zip s cs bs bodies (tree_bodies s items) made.booleans.items h.consequent
          (consequent_trees s a.property) (written_form made.consequent) h.consequent_meant w)
          (off_zip s cs bs a.disable h.off h.disabled))

      list_fewer : (g : ℕ → ℕ) (P : ℕ → Type 0) → Fewer g P made.booleans.items meant_places
      list_fewer g P =
          let one = h.antecedent_meant in
          let two = h.consequent_meant in
          let rest = sequence_places two.kept ++ off_places h.off in
          subst (λ (ps : List ℕ). Fewer g P ps meant_places) (sym h.list)
          (fewer_two g P (sequence_places one.kept) rest (sequence_places one.meant)
          (sequence_places two.meant ++ off_places h.off) (places_kept g P one.meant one.kept one.trimmed)
          (fewer_two g P (sequence_places two.kept) (off_places h.off) (sequence_places two.meant) (off_places h.off)
          (places_kept g P two.meant two.kept two.trimmed) (fewer_same g P (off_places h.off))))

      has_many : 127 < length made.booleans.items → HasManyBooleans s items a
      has_many many =
          let fewer = list_fewer (size_at s cs bs) (IsQuietAt s cs bs) in
          record {
            before = before;
            behind = behind;
            out = written_out;
            many =
                omega (
                  arith,
                  many,
                  fewer.few,
                  zip_long s cs bs meant_places (all_expressions a before behind) all_zip,
                );
          }

      small_over : IsSmallSide before → IsSmallSide behind → length (all_expressions a before behind) ≤ 32 →
          sum_by tree_size (all_expressions a before behind) ≤ 256 →
          AllByRecursion (IsStill s) (all_expressions a before behind) → IsSmall suite made
      small_over first second few short still =
          let fewer = list_fewer (size_at s cs bs) (IsQuietAt s cs bs) in
          let ts = all_expressions a before behind in
          let quiet = fewer.all (zip_quiet s cs bs meant_places ts all_zip still) in
          record {
            antecedent =
                side_small s cs bs bodies (tree_bodies s items) made.booleans.items h.antecedent
                (antecedent_trees s a.property) (written_form made.antecedent) h.antecedent_meant v first;
            consequent =
                side_small s cs bs bodies (tree_bodies s items) made.booleans.items h.consequent
                (consequent_trees s a.property) (written_form made.consequent) h.consequent_meant w second;
            few = omega (arith, few, fewer.few, zip_long s cs bs meant_places ts all_zip);
            short =
                omega (
                  arith,
                  terms_sum s cs bs made.booleans.items,
                  fewer.short,
                  zip_sum s cs bs meant_places ts all_zip,
                  short,
                );
            still = terms_still s cs bs made.booleans.items quiet;
            signals = names_quiet s cs bs made.booleans.items quiet;
          }

      is_small : IsSmallText s items a → IsSmall suite made
      is_small t =
          let one : t.before ≡ before =
          spells_one (tree_bodies s items) (antecedent_trees s a.property) t.before before t.out.antecedent
          v.second in
          let two : t.behind ≡ behind =
          spells_one (tree_bodies s items) (consequent_trees s a.property) t.behind behind t.out.consequent
          w.second in
          let same : all_expressions a t.before t.behind ≡ all_expressions a before behind =
          ap (λ (x : Written Leaf). all_expressions a x t.behind) one
          ∙ ap (λ (x : Written Leaf). all_expressions a before x) two in
          small_over (subst (λ (x : Written Leaf). IsSmallSide x) one t.antecedent)
          (subst (λ (x : Written Leaf). IsSmallSide x) two t.consequent)
          (subst (λ (ts : List Tree). length ts ≤ 32) same t.few)
          (subst (λ (ts : List Tree). sum_by tree_size ts ≤ 256) same t.short)
          (subst (λ (ts : List Tree). AllByRecursion (IsStill s) ts) same t.still)

    keeps_to : KeepsTo s items suite a made
    keeps_to = record { few = has_many before_both behind_both; small = is_small before_both behind_both }

  all_keep_to : (n : ℕ) (forms : List AssertionForm) (ms : List Assertion) → AreAssertions s cs bs bodies n forms ms →
      AllZip (KeepsTo s items suite) forms ms
  all_keep_to n [] [] h = tt
  all_keep_to n [] (m ∷ ms) h = elim h [ ]
  all_keep_to n (a ∷ forms) [] h = elim h [ ]
  all_keep_to n (a ∷ forms) (m ∷ ms) h = (keeps_to n a m h.0, all_keep_to (n + 1) forms ms h.1)

-- The suite of a text.
pub suites-keep_to : SuitesKeepTo
suites-keep_to widths text suite x =
    let items = x.items in
    let s = scope_for items widths in
    let h = x.says in
    all_keep_to suite s (columns_of s items) items h.bodies h.read 0 (assertions_of items) suite.assertions.items
    h.assertions
