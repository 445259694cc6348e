-- Where faults stand among moved items: where they stood.
use Rattle.std.proofs.Common.{◌≡◌, ℕ, zero, suc, ◌+◌, List, [], ◌∷◌, ◌++◌, map, Option, Some, None, refl, sym, ap, ◌∙◌}
use Rattle.std.proofs.Common.{subst, max, Bool, false}
use Rattle.std.specs.Prelude.{is_some, slice_get, bytes_eq, if◌then◌else◌}
use Rattle.lexer.specs.declared.token.Token.{Token}
use Rattle.parser_grammar.specs.declared.operator.Junction.{Junction}
use Rattle.parser_grammar.specs.Trees.{Tree, number, path, concatenation, past, call, unary, chain, choice, Links, end}
use Rattle.parser_grammar.specs.Trees.{link}
use Rattle.parser_grammar.specs.Trees.{Parts, no_part, part, SequenceForm, boolean, repeated, late, delayed, throughout}
use Rattle.parser_grammar.specs.Trees.{joined, Steps, no_step, step, Others, no_other, other, PropertyForm, plain}
use Rattle.parser_grammar.specs.Trees.{implication}
use Rattle.parser_grammar.specs.Trees.{CounterForm, DeclarationForm, AssertionForm, ItemForm, counter, declaration}
use Rattle.parser_grammar.specs.Trees.{assertion}
use Rattle.assertions.specs.Written.{Written}
use Rattle.types.specs.Drafts as drafts
use Rattle.types.specs.Drafts.{Draft, IsNumberIn, IsCyclic}
use Rattle.types_names.specs.declared.own.Sought.{Sought}
use Rattle.types_names.specs.Scopes.{Scope, path_text, first_byte, bits_of, meaning, sequence_named}
use Rattle.types_names.specs.Width.{own_width, chain_width, parts_width, path_width_by, unary_width, unary_of}
use Rattle.types_names.specs.Width.{binary_width, binary_of}
use Rattle.types_names.specs.Faults.{path_faults, wide_faults, faults, link_faults, part_faults, boolean_faults}
use Rattle.types_names.specs.Faults.{sequence_faults, step_faults, other_faults, property_faults, optional_faults}
use Rattle.types_names.specs.Faults.{clause_faults, counter_faults, assertion_faults, item_faults, file_faults}
use Rattle.types.specs.declared.fault.TypeFault.{TypeFault}
use Rattle.types.specs.declared.fault.TypeFault.TheVariants.{UnknownName, Duplicate}
use Rattle.types.specs.declared.fault.TypeFault.TheVariants.{WiderThan128, SliceRange}
use Rattle.types.specs.declared.fault.TypeFault.TheVariants.{Degenerate, OtherClock}
use Rattle.types.specs.declared.fault.TypeFault.TheVariants.{AdmitsEmpty as Empty}
use Rattle.types.specs.declared.fault.TypeFault.TheVariants.{CyclicSequence, TooWide, Memory}
use Rattle.types.specs.Readings.{Dot, dot, joined_by, outline, outline_steps, outline_others, outline_by}
use Rattle.types.specs.Readings.{least_of, extra_of}
use Rattle.types.specs.Texts.{declarations_of, assertions_of, label_byte, assertions_after, name_made}
use Rattle.types.specs.Texts.{names_from, repeated_names, duplicates, label_text, clocks_unlike, suite_clock}
use Rattle.types.specs.Texts.{other_clocks, tree_byte, sequence_byte, led_byte, is_led}
use Rattle.types.specs.Readings.{outlines_of}
use Rattle.types.specs.Faults.{Side, outline_before, antecedents_in, consequent_in, sides_of}
use Rattle.types.specs.Faults.{consequents_of, CycleAt}
use Rattle.types.specs.Faults.{SideAt, FaultStands}
use Rattle.laws_one_report.proofs.MovedTrees.{moved, moved_option, moved_tree, moved_links, moved_parts, moved_sequence}
use Rattle.laws_one_report.proofs.MovedTrees.{moved_steps, moved_others, moved_property, moved_condition, moved_rule}
use Rattle.laws_one_report.proofs.MovedTrees.{moved_counter, moved_declaration, moved_assertion, moved_item}
use Rattle.laws_one_report.proofs.MovedReadings.{both_same, path_text-moved, meaning-moved, named-moved}
use Rattle.laws_one_report.proofs.MovedSuites.{label-moved, clock-moved}

module _ (lies : ℕ → ℕ × ℕ) where
  byte-moved : (ws : List Token) → first_byte (map (moved lies) ws) ≡ first_byte ws
  byte-moved [] = refl
  byte-moved (w ∷ ws) = refl

  module _ (s : Scope) where
    bits-moved : (ws : List Token) → bits_of (meaning s (map (moved lies) ws)) ≡ bits_of (meaning s ws)
    bits-moved ws = ap bits_of (meaning-moved lies s ws)

    -- own widths
    mutual
      unfolding moved_tree own_width

      width-moved : (t : Tree) → own_width s (moved_tree lies t) ≡ own_width s t
      width-moved (number n t) = refl
      width-moved (path words x) = ap (λ (o : Option ℕ). path_width_by o x) (bits-moved words)
      width-moved (concatenation t e parts) =
          ap (λ (w : ℕ). parts_width s w (moved_parts lies parts)) (width-moved e)
          ∙ parts_width-moved (own_width s e) parts
      width-moved (past t e n) = width-moved e
      width-moved (call f t e) = refl
      width-moved (unary op t e) = ap (unary_width (unary_of op)) (width-moved e)
      width-moved (chain e links) =
          ap (λ (w : ℕ). chain_width s w (moved_links lies links)) (width-moved e)
          ∙ chain_width-moved (own_width s e) links
      width-moved (choice c a b) =
          ap (λ (w : ℕ). max w (own_width s (moved_tree lies b))) (width-moved a)
          ∙ ap (max (own_width s a)) (width-moved b)

      chain_width-moved : (w : ℕ) (links : Links) → chain_width s w (moved_links lies links) ≡ chain_width s w links
      chain_width-moved w end = refl
      chain_width-moved w (link op e links) =
          ap (λ (v : ℕ). chain_width s (binary_width (binary_of op) w v) (moved_links lies links)) (width-moved e)
          ∙ chain_width-moved (binary_width (binary_of op) w (own_width s e)) links

      parts_width-moved : (w : ℕ) (parts : Parts) → parts_width s w (moved_parts lies parts) ≡ parts_width s w parts
      parts_width-moved w no_part = refl
      parts_width-moved w (part e parts) =
          ap (λ (v : ℕ). parts_width s (w + v) (moved_parts lies parts)) (width-moved e)
          ∙ parts_width-moved (w + own_width s e) parts

    -- names, widths and slices (Y1, Y3, Y4)
    module _ (k : Sought) where
      mutual
        unfolding moved_tree faults

        faults-moved : (t : Tree) → faults s k (moved_tree lies t) ≡ faults s k t
        faults-moved (number n t) = refl
        faults-moved (path words x) =
            ap (λ (o : Option ℕ). path_faults k (first_byte (map (moved lies) words)) o x) (bits-moved words)
            ∙ ap (λ (at : ℕ). path_faults k at (bits_of (meaning s words)) x) (byte-moved words)
        faults-moved (concatenation t e parts) =
            both_same (wide_faults k t.at (parts_width s (own_width s (moved_tree lies e)) (moved_parts lies parts)))
            (wide_faults k t.at (parts_width s (own_width s e) parts)) _ (faults s k e ++ part_faults s k parts)
            (ap (wide_faults k t.at) (ap (λ (w : ℕ). parts_width s w (moved_parts lies parts)) (width-moved e)
            ∙ parts_width-moved (own_width s e) parts))
            (both_same _ (faults s k e) _ (part_faults s k parts) (faults-moved e) (part_faults-moved parts))
        faults-moved (past t e n) = faults-moved e
        faults-moved (call f t e) = faults-moved e
        faults-moved (unary op t e) = faults-moved e
        faults-moved (chain e links) =
            both_same _ (faults s k e) _ (link_faults s k links) (faults-moved e) (link_faults-moved links)
        faults-moved (choice c a b) =
            both_same _ (faults s k c) _ (faults s k a ++ faults s k b) (faults-moved c)
            (both_same _ (faults s k a) _ (faults s k b) (faults-moved a) (faults-moved b))

        link_faults-moved : (links : Links) → link_faults s k (moved_links lies links) ≡ link_faults s k links
        link_faults-moved end = refl
        link_faults-moved (link op e links) =
            both_same _ (faults s k e) _ (link_faults s k links) (faults-moved e) (link_faults-moved links)

        part_faults-moved : (parts : Parts) → part_faults s k (moved_parts lies parts) ≡ part_faults s k parts
        part_faults-moved no_part = refl
        part_faults-moved (part e parts) =
            both_same _ (faults s k e) _ (part_faults s k parts) (faults-moved e) (part_faults-moved parts)

      boolean_faults-moved : (t : Tree) → boolean_faults s k (moved_tree lies t) ≡ boolean_faults s k t
      boolean_faults-moved t =
          ap (λ (o : Option ℕ). if is_some o then [] else faults s k (moved_tree lies t)) (named-moved lies s t)
          ∙ ap (λ (xs : List ℕ). if is_some (sequence_named s t) then [] else xs) (faults-moved t)

      mutual
        unfolding moved_sequence sequence_faults

        sequence_faults-moved : (q : SequenceForm) → sequence_faults s k (moved_sequence lies q) ≡ sequence_faults s k q
        sequence_faults-moved (boolean e) = boolean_faults-moved e
        sequence_faults-moved (repeated q n) = sequence_faults-moved q
        sequence_faults-moved (late t n q) = sequence_faults-moved q
        sequence_faults-moved (delayed q steps) =
            both_same _ (sequence_faults s k q) _ (step_faults s k steps) (sequence_faults-moved q)
            (step_faults-moved steps)
        sequence_faults-moved (throughout e q) =
            both_same _ (faults s k e) _ (sequence_faults s k q) (faults-moved e) (sequence_faults-moved q)
        sequence_faults-moved (joined j q others) =
            both_same _ (sequence_faults s k q) _ (other_faults s k others) (sequence_faults-moved q)
            (other_faults-moved others)

        step_faults-moved : (steps : Steps) → step_faults s k (moved_steps lies steps) ≡ step_faults s k steps
        step_faults-moved no_step = refl
        step_faults-moved (step n q steps) =
            both_same _ (sequence_faults s k q) _ (step_faults s k steps) (sequence_faults-moved q)
            (step_faults-moved steps)

        other_faults-moved : (others : Others) → other_faults s k (moved_others lies others) ≡ other_faults s k others
        other_faults-moved no_other = refl
        other_faults-moved (other q others) =
            both_same _ (sequence_faults s k q) _ (other_faults s k others) (sequence_faults-moved q)
            (other_faults-moved others)

      property_faults-moved : (p : PropertyForm) → property_faults s k (moved_property lies p) ≡ property_faults s k p
      property_faults-moved (plain q) = sequence_faults-moved q
      property_faults-moved (implication word a t c) =
          both_same _ (sequence_faults s k a) _ (sequence_faults s k c) (sequence_faults-moved a)
          (sequence_faults-moved c)

      optional_faults-moved : (o : Option Tree) → optional_faults s k (moved_condition lies o) ≡ optional_faults s k o
      optional_faults-moved None = refl
      optional_faults-moved (Some e) = faults-moved e

      clause_faults-moved : (o : Option (Tree × Tree)) → clause_faults s k (moved_rule lies o) ≡ clause_faults s k o
      clause_faults-moved None = refl
      clause_faults-moved (Some p) =
          both_same _ (faults s k p.0) _ (faults s k p.1) (faults-moved p.0) (faults-moved p.1)

      counter_faults-moved : (c : CounterForm) → counter_faults s k (moved_counter lies c) ≡ counter_faults s k c
      counter_faults-moved c =
          both_same _ (optional_faults s k c.clear) _
          (clause_faults s k c.load ++ (clause_faults s k c.add ++ clause_faults s k c.sub))
          (optional_faults-moved c.clear)
          (both_same _ (clause_faults s k c.load) _ (clause_faults s k c.add ++ clause_faults s k c.sub)
          (clause_faults-moved c.load)
          (both_same _ (clause_faults s k c.add) _ (clause_faults s k c.sub) (clause_faults-moved c.add)
          (clause_faults-moved c.sub)))

      assertion_faults-moved : (a : AssertionForm) → assertion_faults s k (moved_assertion lies a)
          ≡ assertion_faults s k a
      assertion_faults-moved a =
          both_same _ (optional_faults s k a.disable) _ (property_faults s k a.property)
          (optional_faults-moved a.disable) (property_faults-moved a.property)

      item_faults-moved : (i : ItemForm) → item_faults s k (moved_item lies i) ≡ item_faults s k i
      item_faults-moved (counter c) = counter_faults-moved c
      item_faults-moved (declaration d) = sequence_faults-moved d.body
      item_faults-moved (assertion a) = assertion_faults-moved a

      pub file_faults-moved : (items : List ItemForm) → file_faults s k (map (moved_item lies) items)
          ≡ file_faults s k items
      file_faults-moved [] = refl
      file_faults-moved (i ∷ items) =
          both_same _ (item_faults s k i) _ (file_faults s k items) (item_faults-moved i) (file_faults-moved items)

  -- names declared again (Y2)
  label_byte-moved : (a : AssertionForm) (o : Option Token) → label_byte (moved_assertion lies a) (moved_option lies o)
      ≡ label_byte a o
  label_byte-moved a None = refl
  label_byte-moved a (Some t) = refl

  name_made-moved : (n : ℕ) (i : ItemForm) → name_made n (moved_item lies i) ≡ name_made n i
  name_made-moved n (counter c) = refl
  name_made-moved n (declaration d) = refl
  name_made-moved n (assertion a) =
      ap (λ (name : List ℕ). (name, label_byte (moved_assertion lies a) (moved_option lies a.label)))
      (label-moved lies n a.label) ∙ ap (λ (at : ℕ). (label_text n a.label, at)) (label_byte-moved a a.label)

  assertions_after-moved : (n : ℕ) (i : ItemForm) → assertions_after n (moved_item lies i) ≡ assertions_after n i
  assertions_after-moved n (counter c) = refl
  assertions_after-moved n (declaration d) = refl
  assertions_after-moved n (assertion a) = refl

  names_from-moved : (n : ℕ) (items : List ItemForm) → names_from n (map (moved_item lies) items) ≡ names_from n items
  names_from-moved n [] = refl
  names_from-moved n (i ∷ items) =
      ap (λ (m : ℕ). name_made n (moved_item lies i) ∷ names_from m (map (moved_item lies) items))
      (assertions_after-moved n i)
      ∙ ap (λ (x : List ℕ × ℕ). x ∷ names_from (assertions_after n i) (map (moved_item lies) items))
      (name_made-moved n i)
      ∙ ap (λ (xs : List (List ℕ × ℕ)). name_made n i ∷ xs) (names_from-moved (assertions_after n i) items)

  pub duplicates-moved : (items : List ItemForm) → duplicates (map (moved_item lies) items) ≡ duplicates items
  duplicates-moved items = ap (repeated_names []) (names_from-moved 0 items)

  -- other clocks (Y7)
  assertions-moved : (items : List ItemForm) → assertions_of (map (moved_item lies) items)
      ≡ map (moved_assertion lies) (assertions_of items)
  assertions-moved [] = refl
  assertions-moved (counter c ∷ items) = assertions-moved items
  assertions-moved (declaration d ∷ items) = assertions-moved items
  assertions-moved (assertion a ∷ items) =
      ap (λ (xs : List AssertionForm). moved_assertion lies a ∷ xs) (assertions-moved items)

  differing-moved : (clock : List ℕ) (some : List AssertionForm) → clocks_unlike clock (map (moved_assertion lies) some)
      ≡ clocks_unlike clock some
  differing-moved clock [] = refl
  differing-moved clock (a ∷ more) =
      ap (λ (p : List ℕ). if bytes_eq p clock then clocks_unlike clock (map (moved_assertion lies) more) else first_byte
      (map (moved lies) a.clock) ∷ clocks_unlike clock (map (moved_assertion lies) more))
      (path_text-moved lies a.clock)
      ∙ ap (λ (at : ℕ). if bytes_eq (path_text a.clock) clock then clocks_unlike clock (map (moved_assertion lies) more)
      else at ∷ clocks_unlike clock (map (moved_assertion lies) more)) (byte-moved a.clock)
      ∙ ap (λ (xs : List ℕ). if bytes_eq (path_text a.clock) clock then xs else first_byte a.clock ∷ xs)
      (differing-moved clock more)

  pub other_clocks-moved : (items : List ItemForm) → other_clocks (assertions_of (map (moved_item lies) items))
      ≡ other_clocks (assertions_of items)
  other_clocks-moved items =
      ap (λ (clock : List ℕ). clocks_unlike clock (assertions_of (map (moved_item lies) items)))
      (clock-moved lies items) ∙ ap (clocks_unlike (suite_clock (assertions_of items))) (assertions-moved items)
      ∙ differing-moved (suite_clock (assertions_of items)) (assertions_of items)

  -- outlines
  module _ (s : Scope) where
    mutual
      unfolding moved_sequence outline

      outline-moved : (q : SequenceForm) → outline s (moved_sequence lies q) ≡ outline s q
      outline-moved (boolean e) = ap outline_by (named-moved lies s e)
      outline-moved (repeated q r) = ap (λ (d : Draft Dot). drafts.repeat d (least_of r) (extra_of r)) (outline-moved q)
      outline-moved (late t r q) = ap (drafts.lead (least_of r) (extra_of r)) (outline-moved q)
      outline-moved (delayed q steps) =
          ap (λ (d : Draft Dot). outline_steps s d (moved_steps lies steps)) (outline-moved q)
          ∙ outline_steps-moved (outline s q) steps
      outline-moved (throughout e q) = ap (drafts.throughout dot) (outline-moved q)
      outline-moved (joined j q others) =
          ap (λ (d : Draft Dot). outline_others s j d (moved_others lies others)) (outline-moved q)
          ∙ outline_others-moved j (outline s q) others

      outline_steps-moved : (a : Draft Dot) (steps : Steps) → outline_steps s a (moved_steps lies steps)
          ≡ outline_steps s a steps
      outline_steps-moved a no_step = refl
      outline_steps-moved a (step r q steps) =
          ap (λ (d : Draft Dot). outline_steps s (drafts.delay a (least_of r) (extra_of r) d) (moved_steps lies steps))
          (outline-moved q) ∙ outline_steps-moved (drafts.delay a (least_of r) (extra_of r) (outline s q)) steps

      outline_others-moved : (j : Junction) (a : Draft Dot) (others : Others)
          → outline_others s j a (moved_others lies others) ≡ outline_others s j a others
      outline_others-moved j a no_other = refl
      outline_others-moved j a (other q others) =
          ap (λ (d : Draft Dot). outline_others s j (joined_by j a d) (moved_others lies others)) (outline-moved q)
          ∙ outline_others-moved j (joined_by j a (outline s q)) others

    outlines-moved : (items : List ItemForm) → outlines_of s (map (moved_item lies) items) ≡ outlines_of s items
    outlines-moved [] = refl
    outlines-moved (counter c ∷ items) = outlines-moved items
    outlines-moved (declaration d ∷ items) =
        ap (λ (x : Draft Dot). x ∷ outlines_of s (map (moved_item lies) items)) (outline-moved d.body)
        ∙ ap (λ (xs : List (Draft Dot)). outline s d.body ∷ xs) (outlines-moved items)
    outlines-moved (assertion a ∷ items) = outlines-moved items

    -- sides, and where they begin
    tree_byte-moved : (t : Tree) → tree_byte (moved_tree lies t) ≡ tree_byte t
    unfolding moved_tree
    tree_byte-moved (number n t) = refl
    tree_byte-moved (path words x) = byte-moved words
    tree_byte-moved (concatenation t e parts) = refl
    tree_byte-moved (past t e n) = refl
    tree_byte-moved (call f t e) = refl
    tree_byte-moved (unary op t e) = refl
    tree_byte-moved (chain e links) = tree_byte-moved e
    tree_byte-moved (choice c a b) = tree_byte-moved c

    sequence_byte-moved : (q : SequenceForm) → sequence_byte (moved_sequence lies q) ≡ sequence_byte q
    unfolding moved_sequence
    sequence_byte-moved (boolean e) = tree_byte-moved e
    sequence_byte-moved (repeated q n) = sequence_byte-moved q
    sequence_byte-moved (late t n q) = refl
    sequence_byte-moved (delayed q steps) = sequence_byte-moved q
    sequence_byte-moved (throughout e q) = tree_byte-moved e
    sequence_byte-moved (joined j q others) = sequence_byte-moved q

    side_by : Bool → Draft Dot → ℕ → Side
    side_by f d at = record { outline = d; first = f; byte = at }

    side_same : (f : Bool) (d e : Draft Dot) (at by : ℕ) → d ≡ e → at ≡ by → side_by f d at ≡ side_by f e by
    side_same f d e at by h k = ap (λ (x : Draft Dot). side_by f x at) h ∙ ap (side_by f e) k

    led_byte-moved : (w : Option Token) (q : SequenceForm) → led_byte (moved_option lies w) (moved_sequence lies q)
        ≡ led_byte w q
    led_byte-moved None q = sequence_byte-moved q
    led_byte-moved (Some t) q = refl

    is_led-moved : (w : Option Token) → is_led (moved_option lies w) ≡ is_led w
    is_led-moved None = refl
    is_led-moved (Some t) = refl

    antecedents-moved : (p : PropertyForm) → antecedents_in s (moved_property lies p) ≡ antecedents_in s p
    unfolding side_by
    antecedents-moved (plain q) = refl
    antecedents-moved (implication word a i c) =
        ap (λ (x : Side). x ∷ [])
        (ap (λ (f : Bool). side_by f (outline_before i (outline s (moved_sequence lies a)))
        (led_byte (moved_option lies word) (moved_sequence lies a))) (is_led-moved word)
        ∙ side_same (is_led word) (outline_before i (outline s (moved_sequence lies a)))
        (outline_before i (outline s a)) (led_byte (moved_option lies word) (moved_sequence lies a)) (led_byte word a)
        (ap (outline_before i) (outline-moved a)) (led_byte-moved word a))

    consequent-moved : (p : PropertyForm) → consequent_in s (moved_property lies p) ≡ consequent_in s p
    unfolding side_by
    consequent-moved (plain q) =
        side_same false (outline s (moved_sequence lies q)) (outline s q) (sequence_byte (moved_sequence lies q))
        (sequence_byte q) (outline-moved q) (sequence_byte-moved q)
    consequent-moved (implication word a t c) =
        side_same false (outline s (moved_sequence lies c)) (outline s c) (sequence_byte (moved_sequence lies c))
        (sequence_byte c) (outline-moved c) (sequence_byte-moved c)

    sides-moved : (items : List ItemForm) → sides_of s (assertions_of (map (moved_item lies) items))
        ≡ sides_of s (assertions_of items)
    sides-moved [] = refl
    sides-moved (counter c ∷ items) = sides-moved items
    sides-moved (declaration d ∷ items) = sides-moved items
    sides-moved (assertion a ∷ items) =
        both_same (antecedents_in s (moved_property lies a.property) ++ consequent_in s (moved_property lies a.property)
        ∷ []) (antecedents_in s a.property ++ consequent_in s a.property ∷ [])
        (sides_of s (assertions_of (map (moved_item lies) items))) (sides_of s (assertions_of items))
        (both_same _ (antecedents_in s a.property) _ (consequent_in s a.property ∷ []) (antecedents-moved a.property)
        (ap (λ (x : Side). x ∷ []) (consequent-moved a.property)))
        (sides-moved items)

    consequents-moved : (items : List ItemForm) → consequents_of s (assertions_of (map (moved_item lies) items))
        ≡ consequents_of s (assertions_of items)
    consequents-moved [] = refl
    consequents-moved (counter c ∷ items) = consequents-moved items
    consequents-moved (declaration d ∷ items) = consequents-moved items
    consequents-moved (assertion a ∷ items) =
        ap (λ (x : Side). x ∷ consequents_of s (assertions_of (map (moved_item lies) items)))
        (consequent-moved a.property)
        ∙ ap (λ (xs : List Side). consequent_in s a.property ∷ xs) (consequents-moved items)

    -- a cycle
    found-moved : (items : List ItemForm) (place : ℕ) (d : DeclarationForm) → slice_get (declarations_of items) place
        ≡ Some d → slice_get (declarations_of (map (moved_item lies) items)) place ≡ Some (moved_declaration lies d)
    found-moved [] place d h = absurd cc
    found-moved (counter c ∷ items) place d h = found-moved items place d h
    found-moved (declaration e ∷ items) zero d h =
        let same : e ≡ d = cc (h) in ap (λ (x : DeclarationForm). Some (moved_declaration lies x)) same
    found-moved (declaration e ∷ items) (suc place) d h = found-moved items place d h
    found-moved (assertion a ∷ items) place d h = found-moved items place d h

    cycle-moved : (items : List ItemForm) (at : ℕ) → CycleAt s items at → CycleAt s (map (moved_item lies) items) at
    cycle-moved items at h = record {
      place = h.place;
      declared = moved_declaration lies h.declared;
      found = found-moved items h.place h.declared h.found;
      cyclic = subst (λ (ds : List (Draft Dot)). IsCyclic ds h.place) (sym (outlines-moved items)) h.cyclic;
      byte = h.byte;
    }

    side-moved : (ds es : List (Draft Dot)) (xs ys : List Side) (IsSo : Bool → Written Dot → Type 0) (at : ℕ) → es ≡ ds
        → ys ≡ xs → SideAt ds xs IsSo at → SideAt es ys IsSo at
    side-moved ds es xs ys IsSo at e f h =
        let first : SideAt ds ys IsSo at = subst (λ (zs : List Side). SideAt ds zs IsSo at) (sym f) h in
        subst (λ (bs : List (Draft Dot)). SideAt bs ys IsSo at) (sym e) first

    is_in-moved : (at : ℕ) (xs ys : List ℕ) → ys ≡ xs → IsNumberIn at xs → IsNumberIn at ys
    is_in-moved at xs ys e h = subst (λ (zs : List ℕ). IsNumberIn at zs) (sym e) h

    -- A fault that stands in items stands in them moved.
    pub stands-moved : (items : List ItemForm) (fault : TypeFault) → FaultStands s items fault
        → FaultStands s (map (moved_item lies) items) fault
    stands-moved items (UnknownName at) h = is_in-moved at (file_faults s _ items) _ (file_faults-moved s _ items) h
    stands-moved items (Duplicate at) h = is_in-moved at (duplicates items) _ (duplicates-moved items) h
    stands-moved items (WiderThan128 at) h = is_in-moved at (file_faults s _ items) _ (file_faults-moved s _ items) h
    stands-moved items (SliceRange at) h = is_in-moved at (file_faults s _ items) _ (file_faults-moved s _ items) h
    stands-moved items (OtherClock at) h =
        is_in-moved at (other_clocks (assertions_of items)) _ (other_clocks-moved items) h
    stands-moved items (CyclicSequence at) h = cycle-moved items at h
    stands-moved items (TooWide at) h =
        side-moved (outlines_of s items) _ (sides_of s (assertions_of items)) _ _ at (outlines-moved items)
        (sides-moved items) h
    stands-moved items (Degenerate at) h =
        side-moved (outlines_of s items) _ (sides_of s (assertions_of items)) _ _ at (outlines-moved items)
        (sides-moved items) h
    stands-moved items (Empty at) h =
        side-moved (outlines_of s items) _ (consequents_of s (assertions_of items)) _ _ at (outlines-moved items)
        (consequents-moved items) h
    stands-moved items Memory h = h
