-- The causes of an assertion's fault stand in the text.
use Rattle.std.proofs.Common.{◌≡◌, ℕ, zero, suc, ◌+◌, Bool, true, false, List, [], ◌∷◌, map, Some, slice_get}
use Rattle.std.proofs.Common.{refl, sym, ap, ◌∙◌, subst, arith, inl, inr, string_bytes}
use Rattle.std.specs.Prelude.{bytes_eq, if◌then◌else◌, ◌||◌}
use Rattle.std.specs.List.{AllZip, list_any}
use Rattle.std.specs.Cmp.Lexicographic.{bytes_decides}
use Rattle.std.proofs.lemmas.Bool.{or_cases}
use Rattle.parser_grammar.specs.Trees.{AssertionForm, ItemForm}
use Rattle.assertions.specs.declared.sequence.Boolean.{Boolean}
use Rattle.assertions.specs.declared.assertion.Assertion.{Assertion}
use Rattle.assertions.specs.declared.suite.Suite.{Suite}
use Rattle.assertions.specs.Marks.{places_from}
use Rattle.types.specs.Drafts.{Draft, IsNumberIn}
use Rattle.types_names.specs.Scopes.{Scope, path_text, first_byte}
use Rattle.types_names.specs.Columns.{columns_of}
use Rattle.types.specs.declared.fault.TypeFault.TheVariants.{OtherClock}
use Rattle.types.specs.Texts.{declarations_of, counters_of, assertions_of, label_text, clocks_unlike}
use Rattle.types.specs.Texts.{suite_clock}
use Rattle.types.specs.Readings.{AllRead}
use Rattle.types.specs.Suites.{AreSignals, AreCounters, AreAssertions}
use Rattle.compiler.specs.declared.fault.CompileFault.{CompileFault}
use Rattle.compiler.specs.declared.fault.CompileFault.TheVariants as compiles
use Rattle.compiler.specs.Readings.{IsReading}
use Rattle.compiler.specs.Faults.{is_long, is_long_path, HasLongText, WhyNotCompiled}
use Rattle.compiler.specs.Small.{SmallHaveCode}
use Rattle.compiler_laws.specs.Small.{KeepsTo, SuitesKeepTo}
use Rattle.vcd_reader.specs.Dump.{Contents}
use Rattle.suite_over_dump.specs.Dumps.{width_named}
use Rattle.suite_over_dump.specs.Suites.{scope_over}
use Rattle.cli.specs.Reported.{SaysSuite}
use Rattle.laws_one_report.specs.ReadInText.{IsLongText, HasLongName}
use Rattle.laws_one_report.specs.Causes.{IsCompileCause, HasCause, FaultsHaveCauses, HasNamedCause}
use Rattle.laws_one_report.specs.Causes.{BuildFaultsHaveCauses}
use Rattle.laws_one_report.proofs.ReadLaws.{TextReads, text_reads}
use Rattle.laws_one_report.proofs.ManyLaws.{long_is, reads_many, reads_long}

-- what the text has where the suite has an assertion
record Found (s : Scope) (items : List ItemForm) (suite : Suite) (forms : List AssertionForm) (n place : ℕ)
    (m : Assertion) : Type 0 where
  form : AssertionForm
  is : slice_get forms place ≡ Some form
  named : string_bytes m.name ≡ label_text (n + place) form.label
  keeps : KeepsTo s items suite form m
  reads : TextReads s items suite form m

some_same : (a b : Assertion) → Some a ≡ Some b → a ≡ b
some_same a b h = cc

module _ (s : Scope) (items : List ItemForm) (suite : Suite) (bodies : List (Draft Boolean))
    (counted : AreCounters s (columns_of s items) (counters_of items) suite.counters.items)
    (read : AllRead s (columns_of s items) suite.booleans.items (map (λ d. d.body) (declarations_of items)) bodies)
  where
    form_at : (forms : List AssertionForm) (ms : List Assertion) (n place : ℕ) (m : Assertion) →
        AreAssertions s (columns_of s items) suite.booleans.items bodies n forms ms →
        AllZip (KeepsTo s items suite) forms ms → slice_get ms place ≡ Some m → Found s items suite forms n place m
    form_at [] [] n place m h k at = absurd cc
    form_at [] (x ∷ ms) n place m h k at = elim h [ ]
    form_at (a ∷ forms) [] n place m h k at = elim h [ ]
    form_at (a ∷ forms) (x ∷ ms) n zero m h k at =
        let same : x ≡ m = some_same x m at in
        let here : n ≡ n + 0 = omega arith in
        record {
          form = a;
          is = refl;
          named =
              subst (λ (i : ℕ). string_bytes m.name ≡ label_text i a.label) here
              (subst (λ (y : Assertion). string_bytes y.name ≡ label_text n a.label) same h.0.name);
          keeps = subst (λ (y : Assertion). KeepsTo s items suite a y) same k.0;
          reads =
              subst (λ (y : Assertion). TextReads s items suite a y) same
              (text_reads suite s items bodies counted read n a x h.0);
        }
    form_at (a ∷ forms) (x ∷ ms) n (suc place) m h k at =
        let r = form_at forms ms (n + 1) place m h.1 k.1 at in
        let later : n + 1 + place ≡ n + suc place = omega arith in
        record {
          form = r.form;
          is = r.is;
          named = subst (λ (i : ℕ). string_bytes m.name ≡ label_text i r.form.label) later r.named;
          keeps = r.keeps;
          reads = r.reads;
        }

-- Where no clock is another than the first, each is the first.
some_form : (a b : AssertionForm) → Some a ≡ Some b → a ≡ b
some_form a b h = cc

one_clock : (clock : List ℕ) (forms : List AssertionForm) (place : ℕ) (a : AssertionForm) →
    ((at : ℕ) → IsNumberIn at (clocks_unlike clock forms) → ⊥) → slice_get forms place ≡ Some a →
    path_text a.clock ≡ clock
one_clock clock [] place a none is = absurd cc
one_clock clock (b ∷ forms) place a none is =
    here (bytes_eq (path_text b.clock) clock) refl none place is (λ k f h. one_clock clock forms k a f h)
  where
    here : (t : Bool) → bytes_eq (path_text b.clock) clock ≡ t →
        ((at : ℕ) →
        IsNumberIn at (if t then clocks_unlike clock forms else first_byte b.clock ∷ clocks_unlike clock forms) → ⊥) →
        (k : ℕ) → slice_get (b ∷ forms) k ≡ Some a →
        ((i : ℕ) → ((at : ℕ) → IsNumberIn at (clocks_unlike clock forms) → ⊥) → slice_get forms i ≡ Some a →
        path_text a.clock ≡ clock) →
        path_text a.clock ≡ clock
    here false e f k h rest = absurd (f (first_byte b.clock) (inl refl))
    here true e f zero h rest =
        subst (λ (x : AssertionForm). path_text x.clock ≡ clock) (some_form b a h)
        ((bytes_decides (path_text b.clock) clock).0 e)
    here true e f (suc k) h rest = rest k f h

module _ (law : SmallHaveCode) (s : Scope) (items : List ItemForm) (suite : Suite) (place : ℕ) (m : Assertion)
    (found : Found s items suite (assertions_of items) 0 place m)
    (are : AreSignals s (columns_of s items) suite.names.items)
    (clocked : string_bytes suite.clock ≡ path_text found.form.clock) where
  named_by : string_bytes m.name ≡ label_text place found.form.label
  named_by =
      let same : 0 + place ≡ place = omega arith in
      found.named ∙ ap (λ (k : ℕ). label_text k found.form.label) same

  long_name : (signals counters : List Bool) → IsReading suite m signals counters → HasLongText suite m signals →
      HasLongName s items place found.form
  long_name signals counters reading long =
      let paths = list_any (is_long_path suite.names.items) (places_from 0 signals) in
      elim (or_cases (is_long (string_bytes m.name)) (is_long (string_bytes suite.clock) || paths) long) [
        | inl on ↦ inl (subst IsLongText named_by (long_is (string_bytes m.name) on))
        | inr more ↦
            elim (or_cases (is_long (string_bytes suite.clock)) paths more) [
              | inl on ↦ inr (inl (subst IsLongText clocked (long_is (string_bytes suite.clock) on)))
              | inr on ↦
                  inr (inr (reads_long s items suite found.form m found.reads signals counters reading are on))
            ]
      ]

  cause_of : (fault : CompileFault) → WhyNotCompiled suite m fault → IsCompileCause s items place found.form fault
  cause_of compiles.TooManyAtoms why = found.keeps.few why.stands
  cause_of compiles.CodeTooLong why =
      λ small. law suite m why.signals why.counters why.reading (found.keeps.small small) why.stands
  cause_of compiles.TooManySlots why =
      reads_many s items suite found.form m found.reads why.signals why.counters why.reading why.stands
  cause_of compiles.TextTooLong why = long_name why.signals why.counters why.reading why.stands
  cause_of compiles.Memory why = tt

-- the cause, of the assertion of the name
record NamedCause (c : Contents) (text : List ℕ) (place : ℕ) (m : Assertion) (fault : CompileFault) : Type 0 where
  has : HasCause c text place fault
  named : label_text place has.assertion.label ≡ string_bytes m.name

module _ (law : SmallHaveCode) (keep : SuitesKeepTo) where
  has_cause : (c : Contents) (text : List ℕ) (suite : Suite) (x : SaysSuite c text suite) (place : ℕ) (m : Assertion)
      (fault : CompileFault) → slice_get suite.assertions.items place ≡ Some m → WhyNotCompiled suite m fault →
      NamedCause c text place m fault
  has_cause c text suite x place m fault at why =
      let items = x.items in
      let s = scope_over c.variables items in
      let says = x.typed.says in
      let found =
      form_at s items suite says.bodies says.counters says.read (assertions_of items) suite.assertions.items 0 place
      m says.assertions
      (keep (width_named c.variables) text suite
      (record {
        tokens = x.spelled.tokens;
        items = items;
        cut = x.spelled.cut;
        spelled = x.spelled.spelled;
        faultless = x.typed.faultless;
        says = says;
      }))
      at in
      let one =
      one_clock (suite_clock (assertions_of items)) (assertions_of items) place found.form
      (λ byte. x.typed.faultless (OtherClock byte)) found.is in
      record {
        has =
            record {
              items = items;
              spelled = x.spelled;
              assertion = found.form;
              is = found.is;
              cause =
                  cause_of law s items suite place m found says.signals (says.clock ∙ sym one) fault why;
            };
        named = sym (named_by law s items suite place m found says.signals (says.clock ∙ sym one));
      }

  pub faults_caused : FaultsHaveCauses
  faults_caused c text fault h =
      let caused =
      has_cause c text h.suite h.says h.why.place h.why.assertion fault h.why.is h.why.why in
      (h.why.place, caused.has)

  named_cause : (c : Contents) (text name : List ℕ) (suite : Suite) (x : SaysSuite c text suite) (place : ℕ)
      (m : Assertion) (fault : CompileFault) → slice_get suite.assertions.items place ≡ Some m →
      string_bytes m.name ≡ name → WhyNotCompiled suite m fault → HasNamedCause c text name fault
  named_cause c text name suite x place m fault at named why =
      let caused = has_cause c text suite x place m fault at why in
      record { place = place; has = caused.has; named = caused.named ∙ named }

  pub build_faults_caused : BuildFaultsHaveCauses
  build_faults_caused c text name compiles.Memory h = elim h.why [ ]
  build_faults_caused c text name compiles.TooManyAtoms h =
      named_cause c text name h.suite h.says h.why.of.place h.why.assertion compiles.TooManyAtoms h.why.of.is
      h.why.of.named h.why.why
  build_faults_caused c text name compiles.CodeTooLong h =
      named_cause c text name h.suite h.says h.why.of.place h.why.assertion compiles.CodeTooLong h.why.of.is
      h.why.of.named h.why.why
  build_faults_caused c text name compiles.TooManySlots h =
      named_cause c text name h.suite h.says h.why.of.place h.why.assertion compiles.TooManySlots h.why.of.is
      h.why.of.named h.why.why
  build_faults_caused c text name compiles.TextTooLong h =
      named_cause c text name h.suite h.says h.why.of.place h.why.assertion compiles.TextTooLong h.why.of.is
      h.why.of.named h.why.why
