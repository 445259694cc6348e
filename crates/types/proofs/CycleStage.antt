-- Faults of cycles, by the entries of named sequences.
use Rattle.std.proofs.Common.{◌≡◌, ℕ, ◌<◌, ◌≤◌, List, [], ◌∷◌, map, length, get_or, Option, Some, None, true, slice_get}
use Rattle.std.proofs.Common.{refl, sym, ap, subst, ◌∙◌, arith}
use Rattle.std.proofs.lemmas.Bool.{false≢true}
use Rattle.std.proofs.lemmas.List.{length-map}
use Rattle.std.proofs.lemmas.Option.{slice_get-map, slice_get-get_or, get_or_from_slice_get}
use Rattle.std.specs.Prelude.{option_map}
use Rattle.parser_grammar.specs.Trees.{DeclarationForm, ItemForm}
use Rattle.assertions.specs.declared.sequence.Boolean.{Boolean}
use Rattle.types.specs.declared.entry.Entry.{Entry}
use Rattle.types.specs.Drafts.{Draft, IsCyclic}
use Rattle.types.specs.Outlines.{map_draft}
use Rattle.types.specs.Entries.{IsEntryTable, has_entry, is_entry}
use Rattle.types.proofs.MapLaws.{cyclic_map, map_cyclic}
use Rattle.types.proofs.AcyclicLaws.{named_acyclic}
use Rattle.types.proofs.CyclicLaws.{declared_by_reach}
use Rattle.types_names.specs.Scopes.{Scope}
use Rattle.types.specs.declared.fault.TypeFault.TheVariants.{CyclicSequence}
use Rattle.types.specs.declared.fault.TypeFault.{TypeFault}
use Rattle.types.specs.Readings.{Dot, dot}
use Rattle.types.specs.Texts.{declarations_of}
use Rattle.types.specs.Readings.{outlines_of}
use Rattle.types.specs.Faults.{CycleAt, ClearTo, FaultStands, IsFirst, rank, byte_of}
use Rattle.types.specs.CycleStages.{IsLowest, AreOutlined}
use Rattle.types.proofs.StageLaws.{clear_next, first_at, of_rank}

entry_there : (o : Option (Option Entry)) → is_entry o ≡ true → (e : Entry) × (o ≡ Some (Some e))
entry_there None h = absurd (false≢true h)
entry_there (Some None) h = absurd (false≢true h)
entry_there (Some (Some e)) h = (e, refl)

-- what has an entry doesn't reach itself
pub entry_acyclic : (bodies : List (Draft Boolean)) (table : List (Option Entry)) (p : ℕ) → IsEntryTable bodies table
    → has_entry table p ≡ true → IsCyclic bodies p → ⊥
entry_acyclic bodies table p t h c =
    let there = entry_there (slice_get table p) h in
    let of = t p there.0 there.1 in
    named_acyclic bodies of.depth p of.meant of.named c

some_at : {A : Type 0} (xs : List A) (p : ℕ) → p < length xs → (x : A) × (slice_get xs p ≡ Some x)
some_at [] p h = absurd (omega (arith, h))
some_at (x ∷ xs) p h = (get_or (x ∷ xs) p x, slice_get-get_or (x ∷ xs) p x h)

module _ (s : Scope) (items : List ItemForm) (bodies : List (Draft Boolean)) (bytes : List ℕ)
    (o : AreOutlined s items bodies bytes) where
  outlined : (p : ℕ) → IsCyclic (outlines_of s items) p → IsCyclic bodies p
  outlined p c = map_cyclic (λ b. dot) bodies p (subst (λ (ds : List (Draft Dot)). IsCyclic ds p) (sym o.outlines) c)

  to_outline : (p : ℕ) → IsCyclic bodies p → IsCyclic (outlines_of s items) p
  to_outline p c = subst (λ (ds : List (Draft Dot)). IsCyclic ds p) o.outlines (cyclic_map (λ b. dot) bodies p c)

  long : length bodies ≡ length (declarations_of items)
  long = sym (length-map bodies (map_draft (λ b. dot))) ∙ ap length o.outlines ∙ length-map (declarations_of items) _

  byte_at : (p : ℕ) (d : DeclarationForm) → slice_get (declarations_of items) p ≡ Some d → get_or bytes p 0 ≡ d.name.at
  byte_at p d e =
      ap (λ (bs : List ℕ). get_or bs p 0) o.declared
      ∙ get_or_from_slice_get (map (λ (x : DeclarationForm). x.name.at) (declarations_of items)) p d.name.at 0
      (slice_get-map (λ (x : DeclarationForm). x.name.at) (declarations_of items) p
      ∙ ap (option_map (λ (x : DeclarationForm). x.name.at)) e)

  -- no declaration reaches itself
  pub clear_6 : ((p : ℕ) → p < length bodies → IsCyclic bodies p → ⊥) → ClearTo s items 5 → ClearTo s items 6
  clear_6 none clear =
      clear_next s items 5 clear (λ fault r h.
      let c : CycleAt s items (byte_of fault) = of_rank s items 6 fault r h in
      let d = outlined c.place c.cyclic in
      none c.place (declared_by_reach bodies d.0 c.place c.place d.1) d)

  lowest_at : (at : ℕ) → IsLowest bodies bytes (length bodies) at → CycleAt s items at
  lowest_at at low =
      let there = some_at (declarations_of items) low.place (omega (arith, low.inside, long)) in
      record {
        place = low.place;
        declared = there.0;
        found = there.1;
        cyclic = to_outline low.place low.cyclic;
        byte = low.byte ∙ byte_at low.place there.0 there.1;
      }

  above_lowest : (at : ℕ) → IsLowest bodies bytes (length bodies) at → (other : TypeFault) → rank other ≡ 6
      → FaultStands s items other → at ≤ byte_of other
  above_lowest at low other r h =
      let c : CycleAt s items (byte_of other) = of_rank s items 6 other r h in
      let d = outlined c.place c.cyclic in
      let under = low.lowest c.place (declared_by_reach bodies d.0 c.place c.place d.1) d in
      omega (arith, under, byte_at c.place c.declared c.found, c.byte)

  -- the lowest one that does
  pub first_6 : (at : ℕ) → IsLowest bodies bytes (length bodies) at → ClearTo s items 5
      → IsFirst s items (CyclicSequence at)
  first_6 at low clear =
      first_at s items 5 (CyclicSequence at) clear (omega arith) (lowest_at at low) (above_lowest at low)
