-- The places may move to another thread where their values may, and the lease where its allocator
-- frees from any. Threads may share the places where they may share the values, and any lease.
use Rattle.std.specs.Prelude.{ℕ, ◌+◌, List, [], ◌∷◌, Option, Some, None}
use Rattle.std.specs.Mem.{type_size}
use base.Fraction.{full_share}
use base.Shift.{Keyless}
use denote.RattleType.{RattleType}
use denote.RawPtr.{Ptr, block_ptr, null_ptr}
use denote.Struct.Struct.{exits_of}
use denote.Struct.Owning.{shape, fields, to}
use denote.Param.Send.{IsSend, AllSend, Frees, part_keyless, owning_send, struct_send, sendable}
use denote.Param.Send.{IsSync, Common, struct_sync}
use Rattle.core.specs.declared.alloc.Allocator.{Ghosts}
use Rattle.std_alloc.proofs.SendSync.{quiet}
use Rattle.raw_places.specs.Ownership.{row_owned, places_owned, row_lent, places_lent}
use Rattle.raw_places.specs.contracts.places.Places as Places
use Rattle.raw_places.specs.contracts.places.Lease as Lease

module _ (R : RattleType) where
  row_Keyless : IsSend R → (block offset : ℕ) (places : List (Option R.Denot))
      → Keyless (row_owned R block offset places)
  row_Keyless s block offset [] = tt
  row_Keyless s block offset (Some value ∷ places) = (
    part_keyless R s full_share value block offset,
    row_Keyless s block (offset + type_size R) places,
  )
  row_Keyless s block offset (None ∷ places) =
      (tt, row_Keyless s block (offset + type_size R) places)

  places_Keyless : IsSend R → (start : Ptr) (places : List (Option R.Denot))
      → Keyless (places_owned R start places)
  places_Keyless s (block_ptr block offset) places = (tt, row_Keyless s block offset places)
  places_Keyless s null_ptr places = tt

  row_Common : IsSync R → (block offset : ℕ) (places : List (Option R.Denot))
      → Common (row_lent R block offset places)
  row_Common s block offset [] κ = tt
  row_Common s block offset (Some value ∷ places) κ =
      (s.shared value block offset κ, row_Common s block (offset + type_size R) places κ)
  row_Common s block offset (None ∷ places) κ =
      (tt, row_Common s block (offset + type_size R) places κ)

  places_Common : IsSync R → (start : Ptr) (places : List (Option R.Denot))
      → Common (places_lent R start places)
  places_Common s (block_ptr block offset) places κ = (tt, row_Common s block offset places κ)
  places_Common s null_ptr places κ = tt

  pub places_sync : IsSync R → IsSync (Places.the_row R)
  places_sync s = let O = Places.the_type R in record {
    shared = λ p block offset κ. (
      (struct_sync (shape O) (search sendable, (search sendable, tt))).shared (to O p) block offset κ,
      places_Common s p.start p.held κ,
    );
  }

  pub places_send : IsSend R → IsSend (Places.the_row R)
  places_send s =
      let O = Places.the_type R in
      let all : AllSend (fields O) = (search sendable, (search sendable, tt)) in
      owning_send O all (λ p. places_Keyless s p.start p.held)
      (λ k. quiet (to O) (exits_of k (fields O)) ((struct_send (shape O) all).leaving k))

  pub lease_send : (A : RattleType) (g : Ghosts A.Denot) → Frees g g.dealloc_token
      → IsSend (Lease.the_row R A g)
  lease_send A g frees =
      let O = Lease.the_type R A g in let all : AllSend (fields O) = (search sendable, tt) in
      owning_send O all (λ l. frees.frees l.alloc _ l.start)
      (λ k. quiet (to O) (exits_of k (fields O)) ((struct_send (shape O) all).leaving k))

  pub lease_sync : (A : RattleType) (g : Ghosts A.Denot) → IsSync (Lease.the_row R A g)
  lease_sync A g = let O = Lease.the_type R A g in record {
    shared = λ l block offset κ.
        ((struct_sync (shape O) (search sendable, tt)).shared (to O l) block offset κ, tt);
  }
