-- Faults of sides, in their order.
use Rattle.std.proofs.Common.{◌≡◌, ℕ, ◌<◌, ◌≤◌, List, Some, None, arith}
use Rattle.parser_grammar.specs.Trees.{ItemForm}
use Rattle.assertions.specs.Segments.{AdmitsEmpty}
use Rattle.assertions.specs.Attempts.{IsDegenerateBy}
use Rattle.assertions.specs.Written.{kernel, weight}
use Rattle.types_names.specs.Scopes.{Scope}
use Rattle.types_names.specs.Faults.{least}
use Rattle.types.specs.declared.side.Side.{Side}
use Rattle.types.specs.declared.fault.TypeFault.{TypeFault}
use Rattle.types.specs.declared.fault.TypeFault.TheVariants.{UnknownName, Duplicate}
use Rattle.types.specs.declared.fault.TypeFault.TheVariants.{WiderThan128, SliceRange}
use Rattle.types.specs.declared.fault.TypeFault.TheVariants.{Degenerate, AdmitsEmpty as Empty, OtherClock}
use Rattle.types.specs.declared.fault.TypeFault.TheVariants.{CyclicSequence, TooWide, Memory}
use Rattle.types.specs.Readings.{dot}
use Rattle.types.specs.Texts.{assertions_of}
use Rattle.types.specs.Readings.{outlines_of}
use Rattle.types.specs.Faults.{sides_of, consequents_of, ClearTo, IsFaultless, IsFirst, rank, byte_of}
use Rattle.types.specs.Sides.{AreWeighed, AreLight, places_where, is_wide, is_degenerate, is_side_empty}
use Rattle.types.proofs.StageLaws.{nowhere, least_stands, clear_next, first_at, of_rank}
use Rattle.types.proofs.SideLaws.{side_there, side_back, tells_wide, tells_degenerate, tells_empty, Any, all_any, Light}

module _ (s : Scope) (items : List ItemForm) (ys : List Side)
    (all : AreWeighed (outlines_of s items) (sides_of s (assertions_of items)) ys) where
  pub clear_7 : ClearTo s items 6 → least (places_where is_wide ys) ≡ None → ClearTo s items 7
  clear_7 clear e =
      clear_next s items 6 clear (λ fault r h. nowhere (places_where is_wide ys) e (byte_of fault)
      (side_there Any (λ first w. 127 < weight w) is_wide tells_wide (outlines_of s items)
      (sides_of s (assertions_of items)) ys
      all (all_any ys) (byte_of fault) (of_rank s items 7 fault r h)))

  pub first_7 : (at : ℕ) → ClearTo s items 6 → least (places_where is_wide ys) ≡ Some at → IsFirst s items (TooWide at)
  first_7 at clear e =
      let l = least_stands (places_where is_wide ys) at e in
      first_at s items 6 (TooWide at) clear (omega arith)
      (side_back Any (λ first w. 127 < weight w) is_wide tells_wide (outlines_of s items)
      (sides_of s (assertions_of items)) ys
      all (all_any ys) at l.stands)
      (λ other r h. l.lowest (byte_of other)
      (side_there Any (λ first w. 127 < weight w) is_wide tells_wide (outlines_of s items)
      (sides_of s (assertions_of items)) ys
      all (all_any ys) (byte_of other) (of_rank s items 7 other r h)))

  pub clear_8 : AreLight ys → ClearTo s items 7 → least (places_where is_degenerate ys) ≡ None → ClearTo s items 8
  clear_8 light clear e =
      clear_next s items 7 clear (λ fault r h. nowhere (places_where is_degenerate ys) e (byte_of fault)
      (side_there Light (λ first w. IsDegenerateBy first (kernel dot w)) is_degenerate tells_degenerate
      (outlines_of s items)
      (sides_of s (assertions_of items)) ys all light (byte_of fault) (of_rank s items 8 fault r h)))

  pub first_8 : (at : ℕ) → AreLight ys → ClearTo s items 7 → least (places_where is_degenerate ys) ≡ Some at
      → IsFirst s items (Degenerate at)
  first_8 at light clear e =
      let l = least_stands (places_where is_degenerate ys) at e in
      first_at s items 7 (Degenerate at) clear (omega arith)
      (side_back Light (λ first w. IsDegenerateBy first (kernel dot w)) is_degenerate tells_degenerate
      (outlines_of s items)
      (sides_of s (assertions_of items)) ys all light at l.stands)
      (λ other r h. l.lowest (byte_of other)
      (side_there Light (λ first w. IsDegenerateBy first (kernel dot w)) is_degenerate tells_degenerate
      (outlines_of s items)
      (sides_of s (assertions_of items)) ys all light (byte_of other) (of_rank s items 8 other r h)))

module _ (s : Scope) (items : List ItemForm) (ys : List Side)
    (all : AreWeighed (outlines_of s items) (consequents_of s (assertions_of items)) ys) where
  pub clear_9 : ClearTo s items 8 → least (places_where is_side_empty ys) ≡ None → ClearTo s items 9
  clear_9 clear e =
      clear_next s items 8 clear (λ fault r h. nowhere (places_where is_side_empty ys) e (byte_of fault)
      (side_there Any (λ first w. AdmitsEmpty (kernel dot w)) is_side_empty tells_empty (outlines_of s items)
      (consequents_of s (assertions_of items)) ys all (all_any ys) (byte_of fault) (of_rank s items 9 fault r h)))

  pub first_9 : (at : ℕ) → ClearTo s items 8 → least (places_where is_side_empty ys) ≡ Some at
      → IsFirst s items (Empty at)
  first_9 at clear e =
      let l = least_stands (places_where is_side_empty ys) at e in
      first_at s items 8 (Empty at) clear (omega arith)
      (side_back Any (λ first w. AdmitsEmpty (kernel dot w)) is_side_empty tells_empty (outlines_of s items)
      (consequents_of s (assertions_of items)) ys all (all_any ys) at l.stands)
      (λ other r h. l.lowest (byte_of other)
      (side_there Any (λ first w. AdmitsEmpty (kernel dot w)) is_side_empty tells_empty (outlines_of s items)
      (consequents_of s (assertions_of items)) ys all (all_any ys) (byte_of other) (of_rank s items 9 other r h)))

rank_most : (fault : TypeFault) → rank fault ≤ 9
rank_most (UnknownName at) = omega arith
rank_most (Duplicate at) = omega arith
rank_most (WiderThan128 at) = omega arith
rank_most (SliceRange at) = omega arith
rank_most (OtherClock at) = omega arith
rank_most (CyclicSequence at) = omega arith
rank_most (TooWide at) = omega arith
rank_most (Degenerate at) = omega arith
rank_most (Empty at) = omega arith
rank_most Memory = omega arith

-- there is no tenth kind
pub clear_all : (s : Scope) (items : List ItemForm) → ClearTo s items 9 → IsFaultless s items
clear_all s items clear fault h = omega (arith, clear fault h, rank_most fault)
