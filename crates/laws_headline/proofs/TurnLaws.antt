-- The turns of a round, one after another.
use Rattle.std.proofs.Common.{◌≡◌, ℕ, zero, suc, ◌+◌, ◌<◌, List, [], ◌∷◌, ◌++◌, length, Option, Some, None}
use Rattle.std.proofs.Common.{Bool, true, false, cond, refl, sym, ap, ◌∙◌, arith, append_assoc, length-append}
use Rattle.std.specs.Prelude.{slice_get, slice_set, ◌==◌, nat_lt, option_and_then}
use Rattle.std.specs.List.{range_with_len}
use Rattle.std.proofs.Math.Path.{fun_ext}
use Rattle.std.proofs.lemmas.List.{append-nil}
use Rattle.workers_core.specs.declared.step.Step.{Step}
use Rattle.workers_core.specs.declared.step.Step.TheVariants as steps
use Rattle.workers_core.specs.States.{
  CoreState,
  WorkerState,
  MonitorState,
  BatchState,
  Setting,
  monitor_clock,
  is_free_one,
  is_below,
  hand_of,
  held,
  done_of,
  monitor_cleared,
  batch,
  with_monitor,
  next,
  next_claim,
  next_advance,
  next_publish,
}
use Rattle.workers_core.proofs.CorePartLaws.{claimed, advancing, publishing}
use Rattle.laws_headline.specs.Steps.{state_after, turns, owned_from}
use Rattle.laws_headline.specs.Rounds.{with_done, further, all_further, batches_from}
use Rattle.laws_headline.proofs.ListLaws.{mid-get, mid-set, written, rewritten}
use Rattle.laws_headline.proofs.OwnedLaws.{front}
use Rattle.laws_headline.proofs.GatherLaws.{crew}
use Rattle.laws_headline.proofs.MonitorLaws.{Goes}

-- from a state on
abbrev pub from : Setting → List Step → CoreState → Option CoreState
from g steps s = state_after g s steps

-- steps after steps
append-step : (g : Setting) (xs ys : List Step) →
    ((s : CoreState) → state_after g s (xs ++ ys) ≡ option_and_then (from g ys) (state_after g s xs)) →
    (o : Option CoreState) →
    option_and_then (from g (xs ++ ys)) o
    ≡ option_and_then (from g ys) (option_and_then (from g xs) o)
append-step g xs ys rest None = refl
append-step g xs ys rest (Some s) = rest s

pub after-append : (g : Setting) (xs ys : List Step) (s : CoreState)
    → state_after g s (xs ++ ys) ≡ option_and_then (from g ys) (state_after g s xs)
after-append g [] ys s = refl
after-append g (x ∷ xs) ys s = append-step g xs ys (λ t. after-append g xs ys t) (next g s x)

-- the worker v has done x, too
abbrev added : (ℕ → List ℕ) → ℕ → ℕ → ℕ → List ℕ
added D v x w = cond (v == w) (D w ++ x ∷ []) (D w)

added-out : (D : ℕ → List ℕ) (v x a n : ℕ) → v < a → crew (added D v x) a n ≡ crew D a n
added-out D v x a zero lt = refl
added-out D v x a (suc n) lt =
    let no : (v == a) ≡ false = grind (arith, lt) in
    ap (λ (b : Bool). with_done (cond b (D a ++ x ∷ []) (D a)) ∷ crew (added D v x) (a + 1) n) no
    ∙ ap (λ (ws : List WorkerState). with_done (D a) ∷ ws)
    (added-out D v x (a + 1) n (omega (arith, lt)))

crew-get : (D : ℕ → List ℕ) (v a n w : ℕ) → v ≡ a + w → w < n
    → slice_get (crew D a n) w ≡ Some (with_done (D v))
crew-get D v a zero w is lt = absurd (omega (arith, lt))
crew-get D v a (suc n) zero is lt =
    let same : a ≡ v = omega (arith, is) in ap (λ (u : ℕ). Some (with_done (D u))) same
crew-get D v a (suc n) (suc w) is lt =
    crew-get D v (a + 1) n w (omega (arith, is)) (omega (arith, lt))

crew-set : (D : ℕ → List ℕ) (v x a n w : ℕ) → v ≡ a + w → w < n
    → slice_set (crew D a n) w (with_done (D v ++ x ∷ [])) ≡ crew (added D v x) a n
crew-set D v x a zero w is lt = absurd (omega (arith, lt))
crew-set D v x a (suc n) zero is lt =
    let same : v ≡ a = omega (arith, is) in
    let yes : (v == a) ≡ true = grind (arith, same) in
    ap (λ (u : ℕ). with_done (D u ++ x ∷ []) ∷ crew D (a + 1) n) same
    ∙ ap (λ (ws : List WorkerState). with_done (D a ++ x ∷ []) ∷ ws)
    (sym (added-out D v x (a + 1) n (omega (arith, same))))
    ∙ ap (λ (b : Bool). with_done (cond b (D a ++ x ∷ []) (D a)) ∷ crew (added D v x) (a + 1) n)
    (sym yes)
crew-set D v x a (suc n) (suc w) is lt =
    let no : (v == a) ≡ false = grind (arith, is) in
    ap (λ (ws : List WorkerState). with_done (D a) ∷ ws)
    (crew-set D v x (a + 1) n w (omega (arith, is)) (omega (arith, lt)))
    ∙ ap (λ (b : Bool). with_done (cond b (D a ++ x ∷ []) (D a)) ∷ crew (added D v x) (a + 1) n)
    (sym no)

-- in a round
abbrev pub amid : ℕ → ℕ → List MonitorState → List ℕ → List WorkerState → List BatchState
    → CoreState
amid a b monitors waiting workers board =
    record {
      first = a;
      end = b;
      monitors = monitors;
      waiting = waiting;
      workers = workers;
      board = board;
    }

-- one turn: v claims the monitor m, runs it to the window's end and publishes its batch
module _ (g : Setting) (a b k n v low : ℕ) (before : List MonitorState) (m : MonitorState)
    (rest : List MonitorState) (waiting : List ℕ) (D : ℕ → List ℕ) (board : List BatchState)
    (behind : length before ≡ low) (known : v < n) (some : a < b) (all : a + k ≡ b)
    (h : Goes g a b k m) where
  abbrev new : MonitorState
  new = further g k m

  abbrev monitors : List MonitorState
  monitors = before ++ m ∷ rest

  abbrev old : WorkerState
  old = with_done (D v)

  abbrev busy : WorkerState
  busy = record { hand = Some low; done = D v }

  abbrev holding : List WorkerState
  holding = slice_set (crew D 0 n) v busy

  abbrev start : CoreState
  start = amid a b monitors (low ∷ waiting) (crew D 0 n) board

  abbrev held_one : CoreState
  held_one = amid a b monitors waiting holding board

  there : slice_get (crew D 0 n) v ≡ Some old
  there = crew-get D v 0 n v (omega arith) known

  here : slice_get monitors low ≡ Some m
  here = mid-get before m rest low behind

  claims : next_claim start v ≡ Some held_one
  claims =
      let less : nat_lt (monitor_clock m) b ≡ true = grind (arith, h.now, some) in
      claimed start v low waiting holding refl (ap is_free_one there)
      (ap (is_below b) here ∙ less)
      (ap (λ (w : Option WorkerState).
      slice_set (crew D 0 n) v (record { hand = Some low; done = done_of w })) (sym there))

  hand : held holding v ≡ Some low
  hand = ap hand_of (written (crew D 0 n) v old busy there)

  abbrev run : CoreState
  run = with_monitor held_one low new

  advances : next_advance g held_one v k ≡ Some run
  advances =
      advancing g held_one v k low m hand here (omega (arith, some, all))
      (omega (arith, h.now, all))

  abbrev told : CoreState
  told =
      amid a b (slice_set (slice_set monitors low new) low (monitor_cleared new)) waiting
      (slice_set holding v
      (record { hand = None; done = done_of (slice_get holding v) ++ low ∷ [] }))
      (board ++ batch low new ∷ [])

  publishes : next_publish run v ≡ Some told
  publishes =
      publishing run v low new hand (written monitors low m new here) h.to

  abbrev end : CoreState
  end =
      amid a b ((before ++ monitor_cleared new ∷ []) ++ rest) waiting (crew (added D v low) 0 n)
      (board ++ batch low new ∷ [])

  monitors-are : slice_set (slice_set monitors low new) low (monitor_cleared new)
      ≡ (before ++ monitor_cleared new ∷ []) ++ rest
  monitors-are =
      rewritten monitors low new (monitor_cleared new) ∙ mid-set before m (monitor_cleared new) rest low behind
      ∙ sym (append_assoc before (monitor_cleared new ∷ []) rest)

  workers-are : slice_set holding v
      (record { hand = None; done = done_of (slice_get holding v) ++ low ∷ [] })
      ≡ crew (added D v low) 0 n
  workers-are =
      ap (λ (w : Option WorkerState).
      slice_set holding v (record { hand = None; done = done_of w ++ low ∷ [] }))
      (written (crew D 0 n) v old busy there)
      ∙ rewritten (crew D 0 n) v busy (with_done (D v ++ low ∷ []))
      ∙ crew-set D v low 0 n v (omega arith) known

  told-is : told ≡ end
  told-is =
      ap (λ (ms : List MonitorState).
      amid a b ms waiting
      (slice_set holding v
      (record { hand = None; done = done_of (slice_get holding v) ++ low ∷ [] }))
      (board ++ batch low new ∷ [])) monitors-are
      ∙ ap (λ (ws : List WorkerState).
      amid a b ((before ++ monitor_cleared new ∷ []) ++ rest) waiting ws (board ++ batch low new ∷ []))
      workers-are

  turn : (later : List Step)
      → state_after g start (steps.Claim v ∷ steps.Advance v k ∷ steps.Publish v ∷ later)
      ≡ state_after g end later
  turn later =
      ap (option_and_then (from g (steps.Advance v k ∷ steps.Publish v ∷ later))) claims
      ∙ ap (option_and_then (from g (steps.Publish v ∷ later))) advances
      ∙ ap (option_and_then (from g later)) publishes ∙ ap (from g later) told-is

-- each monitor of a list runs from one clock to the other
abbrev pub EachGoes : Setting → ℕ → ℕ → ℕ → List MonitorState → Type 0
EachGoes g a b k ms = (i : ℕ) (m : MonitorState) → slice_get ms i ≡ Some m → Goes g a b k m

-- the done lists, with those that are still to be done
abbrev pub joined : (ℕ → List ℕ) → ℕ → List ℕ → ℕ → List ℕ
joined D low owners w = D w ++ owned_from low owners w

join-one : (b : Bool) (xs ys : List ℕ) (x : ℕ)
    → cond b (xs ++ x ∷ []) xs ++ ys ≡ xs ++ front b x ys
join-one true xs ys x = append_assoc xs (x ∷ []) ys
join-one false xs ys x = refl

joined-next : (D : ℕ → List ℕ) (v low : ℕ) (owners : List ℕ)
    → joined (added D v low) (low + 1) owners ≡ joined D low (v ∷ owners)
joined-next D v low owners =
    fun_ext (λ w. join-one (v == w) (D w) (owned_from (low + 1) owners w) low)

-- after all turns
abbrev through : Setting → ℕ → ℕ → ℕ → ℕ → ℕ → List MonitorState → List MonitorState →
    (ℕ → List ℕ) → List BatchState → CoreState
through g a b k n low before ms D board =
    amid a b (before ++ all_further g k ms) [] (crew D 0 n) (board ++ batches_from g k low ms)

through-none : (g : Setting) (a b k n low : ℕ) (before : List MonitorState) (D : ℕ → List ℕ)
    (board : List BatchState)
    → amid a b (before ++ []) [] (crew D 0 n) board
    ≡ through g a b k n low before [] (joined D low []) board
through-none g a b k n low before D board =
    let same : (λ w. D w ++ []) ≡ D = fun_ext (λ w. append-nil (D w)) in
    ap (λ (E : ℕ → List ℕ). amid a b (before ++ []) [] (crew E 0 n) board) (sym same)
    ∙ ap (λ (bs : List BatchState). amid a b (before ++ []) [] (crew (λ w. D w ++ []) 0 n) bs)
    (sym (append-nil board))

through-next : (g : Setting) (a b k n low v : ℕ) (owners : List ℕ) (before : List MonitorState)
    (m : MonitorState) (ms : List MonitorState) (D : ℕ → List ℕ) (board : List BatchState)
    → through g a b k n (low + 1) (before ++ monitor_cleared (further g k m) ∷ []) ms
    (joined (added D v low) (low + 1) owners) (board ++ batch low (further g k m) ∷ [])
    ≡ through g a b k n low before (m ∷ ms) (joined D low (v ∷ owners)) board
through-next g a b k n low v owners before m ms D board =
    let x = monitor_cleared (further g k m) in
    let one = batch low (further g k m) in
    let bs = batches_from g k (low + 1) ms in
    let E = joined (added D v low) (low + 1) owners in
    ap (λ (xs : List MonitorState).
    amid a b xs [] (crew E 0 n) ((board ++ one ∷ []) ++ bs))
    (append_assoc before (x ∷ []) (all_further g k ms))
    ∙ ap (λ (cs : List BatchState).
    amid a b (before ++ x ∷ all_further g k ms) [] (crew E 0 n) cs)
    (append_assoc board (one ∷ []) bs)
    ∙ ap (λ (F : ℕ → List ℕ).
    amid a b (before ++ x ∷ all_further g k ms) [] (crew F 0 n) (board ++ one ∷ bs))
    (joined-next D v low owners)

pub all-turns : (g : Setting) (a b k n : ℕ) → a < b → a + k ≡ b → (owners : List ℕ) (low : ℕ)
    (before ms : List MonitorState) (D : ℕ → List ℕ) (board : List BatchState) →
    length before ≡ low → length owners ≡ length ms →
    ((i w : ℕ) → slice_get owners i ≡ Some w → w < n) → EachGoes g a b k ms →
    state_after g (amid a b (before ++ ms) (range_with_len low (length ms)) (crew D 0 n) board)
    (turns owners k)
    ≡ Some (through g a b k n low before ms (joined D low owners) board)
all-turns g a b k n some all [] low before [] D board behind same known h =
    ap Some (through-none g a b k n low before D board)
all-turns g a b k n some all [] low before (m ∷ ms) D board behind same known h =
    absurd (omega (arith, same))
all-turns g a b k n some all (v ∷ owners) low before [] D board behind same known h =
    absurd (omega (arith, same))
all-turns g a b k n some all (v ∷ owners) low before (m ∷ ms) D board behind same known h =
    let x = monitor_cleared (further g k m) in
    let longer : length (before ++ x ∷ []) ≡ low + 1 =
    omega (arith, length-append before (x ∷ []), behind) in
    turn g a b k n v low before m ms (range_with_len (low + 1) (length ms)) D board behind
    (known 0 v refl) some all (h 0 m refl) (turns owners k)
    ∙ all-turns g a b k n some all owners (low + 1) (before ++ x ∷ []) ms (added D v low)
    (board ++ batch low (further g k m) ∷ []) longer (omega (arith, same))
    (λ i w is. known (suc i) w is) (λ i y is. h (suc i) y is)
    ∙ ap Some (through-next g a b k n low v owners before m ms D board)
