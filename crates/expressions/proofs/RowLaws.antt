-- A table of counters grows by the next row.
use Rattle.std.proofs.Common.{◌≡◌, inl, inr, ℕ, zero, suc, ◌+◌, ◌≤◌, List, [], ◌∷◌, ◌++◌, length, get_or, refl, sym, ap}
use Rattle.std.proofs.Common.{◌∙◌, arith}
use Rattle.std.specs.Prelude.{slice_get, slice_index_or}
use Rattle.std.proofs.Math.ListN.{get_or-append}
use Rattle.std.proofs.lemmas.Bool.{cases_lt}
use Rattle.expressions.specs.declared.counter.Counter.{Counter}
use Rattle.expressions.specs.Terms.{Samples}
use Rattle.expressions.specs.Tables.{cell, column}
use Rattle.expressions.specs.Counters.{next_of, counter_at, counter_samples}
use Rattle.expressions.specs.Laws.{AgreeTo}
use Rattle.expressions.proofs.Causality.{same_next, counts_by_rule}

pub get_or_end : {X : Type 0} (xs : List X) (x d : X) (i : ℕ) → i ≡ length xs → get_or (xs ++ x ∷ []) i d ≡ x
get_or_end [] x d zero h = refl
get_or_end [] x d (suc i) h = absurd (omega arith)
get_or_end (y ∷ ys) x d zero h = absurd (omega arith)
get_or_end (y ∷ ys) x d (suc i) h = get_or_end ys x d i (omega arith)

pub get_or_past : {X : Type 0} (xs : List X) (d : X) (i : ℕ) → length xs ≤ i → get_or xs i d ≡ d
get_or_past [] d i h = refl
get_or_past (y ∷ ys) d zero h = absurd (omega arith)
get_or_past (y ∷ ys) d (suc i) h = get_or_past ys d i (omega arith)

pub table_grows : (signals : List (List ℕ)) (all : List Counter) (table : List (List ℕ)) (row : List ℕ) (tick : ℕ) →
    length table ≡ tick + 1 →
    AgreeTo tick (record { signal_at = column signals; counter_at = column table })
    (counter_samples (column signals) all) →
    ((i : ℕ) → slice_index_or row i 0 ≡ next_of (record { signal_at = column signals; counter_at = column table })
    (slice_get all i) (cell table tick i) tick) →
    AgreeTo (tick + 1) (record { signal_at = column signals; counter_at = column (table ++ row ∷ []) })
    (counter_samples (column signals) all)
table_grows signals all table row tick long held next = record {
  signals = λ place k le. refl;
  counters = λ i k le.
      elim (cases_lt k (tick + 1)) [
        | inl old ↦ ap (λ r. slice_index_or r i 0) (get_or-append table (row ∷ []) [] k (omega arith))
            ∙ held.counters i k (omega arith)
        | inr new ↦
            let last : k ≡ tick + 1 = omega arith in
            let s = column signals in
            let t : Samples = record { signal_at = s; counter_at = column table } in
            rw last
            (ap (λ r. slice_index_or r i 0) (get_or_end table row [] (tick + 1) (sym long))
            ∙ next i
            ∙ ap (λ now. next_of t (slice_get all i) now tick) (held.counters i tick (omega arith))
            ∙ same_next t (counter_samples s all) (slice_get all i) (counter_at s all i tick) tick held
            ∙ sym ((counts_by_rule s all).next i tick))
      ];
}
