-- A round of any owners.
use Rattle.std.proofs.Common.{◌≡◌, ℕ, suc, ◌+◌, ◌<◌, ◌≤◌, List, [], ◌∷◌, ◌++◌, length, map, Some, None, Bool}
use Rattle.std.proofs.Common.{true, cond, refl, sym, ap, ◌∙◌, subst, arith}
use Rattle.std.specs.Prelude.{slice_get, ◌&&◌, ◌==◌, nat_lt, option_and_then}
use Rattle.std.specs.List.{list_all, range_with_len}
use Rattle.std.proofs.lemmas.List.{length-map, length-replicate}
use Rattle.workers_core.specs.declared.step.Step.TheVariants as steps
use Rattle.workers_core.specs.States.{CoreState, WorkerState, MonitorState, Setting, monitor_clock, is_at, is_idle}
use Rattle.workers_core.specs.States.{is_free, monitor_cleared, put_done, emptied, next_slide, next_gather}
use Rattle.laws_headline.specs.Steps.{state_after, turns, working_steps, round_steps, owned_by, owned_lists}
use Rattle.laws_headline.specs.Rounds.{IsWaiting, IsAtRest, AreOwners, with_done, next_end, next_clocks}
use Rattle.laws_headline.specs.Rounds.{further, all_further, batches_from, worked, gathered}
use Rattle.laws_headline.specs.RoundTheorems.{IsRound}
use Rattle.laws_headline.proofs.ListLaws.{mapped}
use Rattle.laws_headline.proofs.GatherLaws.{
  crew,
  put-all,
  all-free,
  all-idle,
  all-emptied,
  none-done,
}
use Rattle.laws_headline.proofs.MonitorLaws.{goes, waits, batch-is}
use Rattle.laws_headline.proofs.TurnLaws.{from, after-append, amid, EachGoes, all-turns}

-- all monitors stand at a clock
all-at : (g : Setting) (t : ℕ) (ms : List MonitorState)
    → ((i : ℕ) (m : MonitorState) → slice_get ms i ≡ Some m → IsWaiting g t m)
    → list_all (is_at t) ms ≡ true
all-at g t [] h = refl
all-at g t (m ∷ ms) h =
    let here : monitor_clock m ≡ t = (h 0 m refl).now in
    let one : (monitor_clock m == t) ≡ true = grind (arith, here) in
    ap (λ (b : Bool). b && list_all (is_at t) ms) one ∙ all-at g t ms (λ i x is. h (suc i) x is)

module _ (g : Setting) (n : ℕ) (owners : List ℕ) (s : CoreState) (h : IsAtRest g n s)
    (o : AreOwners (length s.monitors) n owners) (more : s.end < g.clocks) (size : 1 ≤ g.size) where
  abbrev a : ℕ
  a = s.end

  abbrev b : ℕ
  b = next_end g s

  abbrev k : ℕ
  k = next_clocks g s

  some : a < b
  some = omega arith

  all : a + k ≡ b
  all = omega (arith, some)

  inside : b ≤ g.clocks
  inside = omega arith

  each-goes : EachGoes g a b k s.monitors
  each-goes i m is = goes g a b k m (h.monitors i m is) all inside

  -- the window slides
  abbrev slid : CoreState
  slid = amid a b s.monitors s.waiting s.workers s.board

  slides : next_slide g s ≡ Some slid
  slides =
      let idle : list_all is_idle s.workers ≡ true = ap (list_all is_idle) h.workers ∙ all-idle n in
      let at : list_all (is_at s.end) s.monitors ≡ true = all-at g s.end s.monitors h.monitors in
      let left : nat_lt s.end g.clocks ≡ true = grind (arith, more) in
      ap (λ (x : Bool).
      cond (x && list_all (is_at s.end) s.monitors && nat_lt s.end g.clocks) (Some slid) None) idle
      ∙ ap (λ (x : Bool). cond (x && nat_lt s.end g.clocks) (Some slid) None) at
      ∙ ap (λ (x : Bool). cond x (Some slid) None) left

  slid-is : slid
      ≡ amid a b s.monitors (range_with_len 0 (length s.monitors)) (crew (λ w. []) 0 n) s.board
  slid-is =
      ap (λ (ws : List ℕ). amid a b s.monitors ws s.workers s.board) h.waiting
      ∙ ap (λ (ws : List WorkerState).
      amid a b s.monitors (range_with_len 0 (length s.monitors)) ws s.board)
      (h.workers ∙ none-done 0 n)

  -- all is worked
  workers-are : length s.workers ≡ n
  workers-are = ap length h.workers ∙ length-replicate n (with_done [])

  abbrev done_by : ℕ → CoreState
  done_by count =
      amid a b (all_further g k s.monitors) [] (map with_done (owned_lists owners count))
      (s.board ++ batches_from g k 0 s.monitors)

  working : state_after g s (working_steps owners k) ≡ Some (worked g owners s)
  working =
      ap (option_and_then (from g (turns owners k))) slides
      ∙ ap (from g (turns owners k)) slid-is
      ∙ all-turns g a b k n some all owners 0 [] s.monitors (λ w. []) s.board refl o.each o.known
      each-goes
      ∙ ap (λ (count : ℕ). Some (done_by count)) (sym workers-are)

  -- all is gathered
  abbrev ended : List ℕ → List WorkerState → CoreState
  ended waiting workers =
      amid a b (all_further g k s.monitors) waiting workers
      (s.board ++ batches_from g k 0 s.monitors)

  gathers : next_gather (done_by n) ≡ Some (gathered g s)
  gathers =
      let free : list_all is_free (crew (owned_by owners) 0 n) ≡ true = all-free (owned_by owners) 0 n in
      let next =
      ended (put_done (crew (owned_by owners) 0 n) []) (map emptied (crew (owned_by owners) 0 n)) in
      let waiting : put_done (crew (owned_by owners) 0 n) [] ≡ s.waiting =
      put-all n owners o.known ∙ ap (range_with_len 0) o.each ∙ sym h.waiting in
      let workers : map emptied (crew (owned_by owners) 0 n) ≡ s.workers =
      all-emptied (owned_by owners) 0 n ∙ sym h.workers in
      ap (λ (x : Bool). cond x (Some next) None) free
      ∙ ap (λ (ws : List ℕ). Some (ended ws (map emptied (crew (owned_by owners) 0 n)))) waiting
      ∙ ap (λ (ws : List WorkerState). Some (ended s.waiting ws)) workers

  whole : state_after g s (round_steps owners k) ≡ Some (gathered g s)
  whole =
      after-append g (working_steps owners k) (steps.Gather ∷ []) s
      ∙ ap (option_and_then (from g (steps.Gather ∷ []))) working
      ∙ ap (λ (count : ℕ). option_and_then (from g []) (next_gather (done_by count))) workers-are
      ∙ ap (option_and_then (from g [])) gathers

  still-waits : (i : ℕ) (m : MonitorState) → slice_get (all_further g k s.monitors) i ≡ Some m
      → IsWaiting g b m
  still-waits i m is =
      let r = mapped (λ x. monitor_cleared (further g k x)) s.monitors i m is in
      subst (λ (x : MonitorState). IsWaiting g b x) r.same
      (waits g a b k r.of (h.monitors i r.of r.is) all inside)

  rests : IsAtRest g n (gathered g s)
  rests =
      record {
        waiting = h.waiting
            ∙ ap (range_with_len 0) (sym (length-map s.monitors (λ x. monitor_cleared (further g k x))));
        workers = h.workers;
        monitors = still-waits;
      }

  pub is-round : IsRound g n owners s
  is-round =
      record {
        working = working;
        whole = whole;
        rests = rests;
        batches = λ i m is. batch-is g a b k m (h.monitors i m is) all inside i;
      }
