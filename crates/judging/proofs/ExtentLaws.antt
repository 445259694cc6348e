-- Where nothing was seen, the ends of matches tell how many ticks a match may take.
use Rattle.std.proofs.Common.{◌≡◌, ◌∙◌, ℕ, ◌+◌, ◌<◌, ◌≤◌, Bool, ◌&&◌, true, List, [], length, refl, sym, ap, arith}
use Rattle.std.proofs.Common.{nat_le}
use Rattle.std.specs.Prelude.{IsTrue, ◌==◌}
use Rattle.std.proofs.lemmas.Bool.{or_left, le-leb}
use Rattle.assertions.specs.declared.sequence.Boolean.{Boolean}
use Rattle.assertions.specs.declared.sequence.Boolean.TheVariants.{One}
use Rattle.assertions.specs.Quantifiers.{some_in}
use Rattle.assertions.specs.Segments.{Seq, sat, always, is_match, longest}
use Rattle.assertions.specs.Written.{Written, kernel, IsOrdered}
use Rattle.assertions.specs.Emptiness.{takes_ticks}
use Rattle.assertions.proofs.Quantifiers.{some_in-found, some_in-true}
use Rattle.assertions.proofs.Segments.{Matches-longest, Matches-mono, is_match-Matches, Matches-is_match}
use Rattle.assertions.proofs.EmptinessLaws.{moves-takes, takes-moves}
use Rattle.judging.specs.Tables.{marks, row_at, seen_value, held_at, IsRow, IsRelation}
use Rattle.judging.proofs.RowLaws.{same_truth}
use Rattle.judging.proofs.DecisionLaws.{first_row}

pub takes_law : (w : Written Boolean) → IsOrdered w → (values : List (List Bool)) → values ≡ [] → (count : ℕ)
    → longest (kernel One w) < count → (starts ends : List Bool) (table : List (List Bool))
    → IsRow (λ j. (j == 0) && true) count starts → IsRelation (is_match (held_at values) (kernel One w)) starts table
    → ends ≡ row_at table 0 → some_in 1 count (marks ends) ≡ takes_ticks w
takes_law w ordered values none count long starts ends table start rel is =
    let r : Seq Boolean = kernel One w in
    let h : Boolean → ℕ → Bool = held_at values in
    let free : (b : Boolean) (k : ℕ) → IsTrue (h b k) =
    λ b k. or_left _ _ (le-leb (length values) k (let e = ap (λ (vs : List (List Bool)). length vs) none in
    omega (arith, e))) in
    let at =
    (first_row Boolean (seen_value values) (length values) r count starts ends table (omega arith) start rel is).1 in
    same_truth (some_in 1 count (marks ends)) (takes_ticks w)
    (λ t.
    let f = some_in-found 1 count (marks ends) t in
    let m = is_match-Matches Boolean h r 0 f.0 (sym (at f.0 f.2) ∙ f.3) in
    moves-takes Boolean One w ordered 0 f.0 (omega (arith, f.1))
    (Matches-mono Boolean h always (λ b k x. refl) r 0 f.0 m))
    (λ t.
    let m = takes-moves Boolean One w t 0 in
    let here = Matches-mono Boolean always h (λ b k x. free b k) r 0 m.0 m.2 in
    let below : m.0 < count = omega (arith, Matches-longest Boolean always r 0 m.0 m.2, long) in
    some_in-true 1 count (marks ends) m.0 (omega (arith, m.1)) below
    (at m.0 below ∙ Matches-is_match Boolean h r 0 m.0 here))
