-- Where the numbers of monitors stand, before and after a step.
use Rattle.std.proofs.Common.{◌≡◌, ◌∙◌, ℕ, zero, suc, ◌+◌, ◌<◌, ◌≤◌, Bool, true, false, List, [], ◌∷◌, ◌++◌}
use Rattle.std.proofs.Common.{length, map, replicate, Option, Some, None, refl, ap, sym, subst, arith, cond, inl, inr}
use Rattle.std.specs.Prelude.{◌==◌, ◌&&◌, if◌then◌else◌, nat_lt, drop, slice_get, slice_set, unwrap_or}
use Rattle.std.specs.List.{list_all, flat_map, range_with_len}
use Rattle.std.specs.Option.{option_to_list}
use Rattle.std.proofs.lemmas.Bool.{false≢true, eq-eqb, eqb-true, cases_eq}
use Rattle.std.proofs.lemmas.List.{length-set, length-map}
use Rattle.std.proofs.lemmas.List.Sums.{sum_by-cons, sum_by-append}
use Rattle.bytecode_programs.specs.Values.{ProgramData}
use Rattle.workers_core.specs.declared.core_parts.CoreParts.{CoreParts}
use Rattle.workers_core.specs.declared.monitor.Monitor.{Monitor}
use Rattle.workers_core.specs.declared.worker.Worker.{Worker}
use Rattle.workers_core.specs.declared.step.Reply.{Reply}
use Rattle.workers_core.specs.declared.step.Reply.TheVariants as replies
use Rattle.workers_core.specs.States.{MonitorState, WorkerState, BatchState, CoreState, numbers_of, monitor_numbers}
use Rattle.workers_core.specs.States.{times_in, EachStandsOnce, Replies, monitor_clock, monitor_cleared, batch, emptied}
use Rattle.workers_core.specs.States.{holds_none, is_none, is_free, is_free_one, front_below, hand_of, held, done_of}
use Rattle.workers_core.specs.States.{next_claim, may_claim, next_publish, publish_by, publish_one, next_gather}
use Rattle.workers_core.specs.States.{put, put_each, put_done}
use Rattle.workers_core.specs.Standing.{monitor_state}
use Rattle.workers_core.specs.Parts.{core_state, worker_state, KeepsParts}
use Rattle.workers_core.specs.Opening.{MonitorPart, monitor_part, opened_monitor}
use Rattle.workers_core.specs.Cores.{opening_state}

-- what one number counts
abbrev count_one : Bool → ℕ
count_one b = cond b 1 0

abbrev one : ℕ → ℕ → ℕ
one i x = count_one (x == i)

in-front : (i x : ℕ) (xs : List ℕ) → times_in i (x ∷ xs) ≡ one i x + times_in i xs
in-front i x xs = sum_by-cons (λ y. cond (y == i) 1 0) x xs

in-both : (i : ℕ) (xs ys : List ℕ) → times_in i (xs ++ ys) ≡ times_in i xs + times_in i ys
in-both i xs ys = sum_by-append (λ y. cond (y == i) 1 0) xs ys

-- how often a number stands with workers
abbrev had : ℕ → List WorkerState → ℕ
had i ws = times_in i (flat_map numbers_of ws)

in-worker : (i : ℕ) (w : WorkerState) (ws : List WorkerState) → had i (w ∷ ws) ≡ times_in i (numbers_of w) + had i ws
in-worker i w ws = in-both i (numbers_of w) (flat_map numbers_of ws)

-- one worker in the place of another
replaced : (i : ℕ) (ws : List WorkerState) (k : ℕ) (old new : WorkerState) → slice_get ws k ≡ Some old
    → had i (slice_set ws k new) + times_in i (numbers_of old) ≡ had i ws + times_in i (numbers_of new)
replaced i [] k old new at = absurd cc
replaced i (w ∷ ws) zero old new at =
    let same : w ≡ old = cc in
    let after : had i (slice_set (w ∷ ws) zero new) ≡ times_in i (numbers_of new) + had i ws = in-worker i new ws in
    let before : had i (w ∷ ws) ≡ times_in i (numbers_of w) + had i ws = in-worker i w ws in
    let old_one : times_in i (numbers_of w) ≡ times_in i (numbers_of old) =
    ap (λ (x : WorkerState). times_in i (numbers_of x)) same in
    omega (arith, after, before, old_one)
replaced i (w ∷ ws) (suc k) old new at =
    let more = replaced i ws k old new at in
    let after : had i (slice_set (w ∷ ws) (suc k) new) ≡ times_in i (numbers_of w) + had i (slice_set ws k new) =
    in-worker i w (slice_set ws k new) in
    omega (arith, more, after, in-worker i w ws)

-- a choice that came to something
chosen : (b : Bool) (x y : CoreState) → (if b then Some x else None) ≡ Some y → (b ≡ true) × (x ≡ y)
chosen true x y h = (refl, ap (λ (o : Option CoreState). unwrap_or o x) h)
chosen false x y h = absurd cc

both-true : (a b : Bool) → (a && b) ≡ true → (a ≡ true) × (b ≡ true)
both-true true b h = (refl, h)
both-true false b h = absurd (false≢true h)

empty-hand : (h : Option ℕ) → holds_none h ≡ true → h ≡ None
empty-hand None is = refl
empty-hand (Some i) is = absurd (false≢true is)

empty-list : (xs : List ℕ) → is_none xs ≡ true → xs ≡ []
empty-list [] is = refl
empty-list (x ∷ xs) is = absurd (false≢true is)

free-one : (o : Option WorkerState) → is_free_one o ≡ true → (x : WorkerState) × (o ≡ Some x) × (x.hand ≡ None)
free-one None is = absurd (false≢true is)
free-one (Some x) is = (x, refl, empty-hand x.hand is)

holding : (o : Option WorkerState) (j : ℕ) → hand_of o ≡ Some j
    → (x : WorkerState) × (o ≡ Some x) × (x.hand ≡ Some j)
holding None j is = absurd cc
holding (Some x) j is = (x, refl, is)

in-hand : (i : ℕ) (w : WorkerState) (h : Option ℕ) → w.hand ≡ h
    → times_in i (numbers_of w) ≡ times_in i (option_to_list h ++ w.done)
in-hand i w h is = ap (λ (o : Option ℕ). times_in i (option_to_list o ++ w.done)) is

front : (t : ℕ) (ms : List MonitorState) (is : List ℕ) → front_below t ms is ≡ true
    → (j : ℕ) × (rest : List ℕ) × (is ≡ j ∷ rest)
front t ms [] h = absurd (false≢true h)
front t ms (j ∷ rest) h = (j, rest, refl)

-- A state with as many monitors, in which each number stands as often.
record IsAlike (old new : CoreState) : Type 0 where
  long : length new.monitors ≡ length old.monitors
  each : (i : ℕ) → times_in i (monitor_numbers new) ≡ times_in i (monitor_numbers old)

alike-once : (old new : CoreState) → IsAlike old new → EachStandsOnce old → EachStandsOnce new
alike-once old new alike h = record {
  once = λ i lt. alike.each i ∙ h.once i (omega (arith, lt, alike.long));
  other = λ i le. alike.each i ∙ h.other i (omega (arith, le, alike.long));
}

replied-once : (old new : CoreState) (after : Option CoreState) (r : Reply) → Replies old after new r
    → ((s : CoreState) → after ≡ Some s → IsAlike old s) → EachStandsOnce old → EachStandsOnce new
replied-once old new after replies.Done h alike once = alike-once old new (alike new h) once
replied-once old new after replies.Refused h alike once = subst EachStandsOnce (sym h.1) once
replied-once old new after replies.Memory h alike once = subst EachStandsOnce (sym h.1) once

-- the front one goes into a hand
claim-alike : (s : CoreState) (w : ℕ) (new : CoreState) → next_claim s w ≡ Some new → IsAlike s new
claim-alike s w new h =
    let taken : WorkerState =
    record { hand = slice_get s.waiting 0; done = done_of (slice_get s.workers w) } in
    let made : CoreState = record {
      first = s.first;
      end = s.end;
      monitors = s.monitors;
      waiting = drop 1 s.waiting;
      workers = slice_set s.workers w taken;
      board = s.board;
    } in
    let pick = chosen (may_claim s w) made new h in
    let both =
    both-true (is_free_one (slice_get s.workers w)) (front_below s.end s.monitors s.waiting) pick.0 in
    let x = free-one (slice_get s.workers w) both.0 in
    let f = front s.end s.monitors s.waiting both.1 in
    let j = f.0 in
    let rest = f.1 in
    subst (IsAlike s) pick.1
    (record {
      long = refl;
      each = λ i.
          let waited : times_in i s.waiting ≡ one i j + times_in i rest = ap (times_in i) f.2 ∙ in-front i j rest in
          let waits : times_in i (drop 1 s.waiting) ≡ times_in i rest = ap (λ is. times_in i (drop 1 is)) f.2 in
          let has : times_in i (numbers_of taken) ≡ one i j + times_in i x.0.done =
          ap (λ is. times_in i (option_to_list (slice_get is 0) ++ done_of (slice_get s.workers w))) f.2
          ∙ ap (λ o. times_in i (j ∷ done_of o)) x.1
          ∙ in-front i j x.0.done in
          let before : times_in i (numbers_of x.0) ≡ times_in i x.0.done = in-hand i x.0 None x.2 in
          let swap = replaced i s.workers w x.0 taken x.1 in
          let new_all = in-both i (drop 1 s.waiting) (flat_map numbers_of (slice_set s.workers w taken)) in
          let old_all = in-both i s.waiting (flat_map numbers_of s.workers) in
          omega (arith, waited, waits, has, before, swap, new_all, old_all);
    })

pub claim-once : (old new : CoreState) (w : ℕ) (r : Reply) → Replies old (next_claim old w) new r
    → EachStandsOnce old → EachStandsOnce new
claim-once old new w r h = replied-once old new (next_claim old w) r h (claim-alike old w)

-- a worker's monitor goes into its done list
publish-one-alike : (s : CoreState) (w j : ℕ) (o : Option MonitorState) (new : CoreState)
    → held s.workers w ≡ Some j → publish_one s w j o ≡ Some new → IsAlike s new
publish-one-alike s w j None new holds h = absurd cc
publish-one-alike s w j (Some m) new holds h =
    let laid : WorkerState = record { hand = None; done = done_of (slice_get s.workers w) ++ j ∷ [] } in
    let made : CoreState = record {
      first = s.first;
      end = s.end;
      monitors = slice_set s.monitors j (monitor_cleared m);
      waiting = s.waiting;
      workers = slice_set s.workers w laid;
      board = s.board ++ batch j m ∷ [];
    } in
    let pick = chosen (monitor_clock m == s.end) made new h in
    let x = holding (slice_get s.workers w) j holds in
    subst (IsAlike s) pick.1
    (record {
      long = length-set s.monitors j (monitor_cleared m);
      each = λ i.
          let last : times_in i (j ∷ []) ≡ one i j + 0 = in-front i j [] in
          let has : times_in i (numbers_of laid) ≡ times_in i x.0.done + times_in i (j ∷ []) =
          ap (λ o. times_in i (done_of o ++ j ∷ [])) x.1 ∙ in-both i x.0.done (j ∷ []) in
          let before : times_in i (numbers_of x.0) ≡ one i j + times_in i x.0.done =
          in-hand i x.0 (Some j) x.2 ∙ in-front i j x.0.done in
          let swap = replaced i s.workers w x.0 laid x.1 in
          let new_all = in-both i s.waiting (flat_map numbers_of (slice_set s.workers w laid)) in
          let old_all = in-both i s.waiting (flat_map numbers_of s.workers) in
          omega (arith, last, has, before, swap, new_all, old_all);
    })

publish-alike : (s : CoreState) (w : ℕ) (hand : Option ℕ) (new : CoreState) → held s.workers w ≡ hand
    → publish_by s w hand ≡ Some new → IsAlike s new
publish-alike s w None new holds h = absurd cc
publish-alike s w (Some j) new holds h = publish-one-alike s w j (slice_get s.monitors j) new holds h

pub publish-once : (old new : CoreState) (w : ℕ) (r : Reply) → Replies old (next_publish old w) new r
    → EachStandsOnce old → EachStandsOnce new
publish-once old new w r h =
    replied-once old new (next_publish old w) r h (λ s is. publish-alike old w (held old.workers w) s refl is)

-- numbers that are put in order
put-by : (i j x : ℕ) (xs : List ℕ) → times_in i (put j xs) ≡ one i j + times_in i xs → (b : Bool) →
    times_in i (if b then j ∷ x ∷ xs else x ∷ put j xs) ≡ one i j + times_in i (x ∷ xs)
put-by i j x xs more true = in-front i j (x ∷ xs)
put-by i j x xs more false = omega (arith, in-front i x (put j xs), more, in-front i x xs)

put-times : (i j : ℕ) (xs : List ℕ) → times_in i (put j xs) ≡ one i j + times_in i xs
put-times i j [] = in-front i j []
put-times i j (x ∷ xs) = put-by i j x xs (put-times i j xs) (nat_lt j x)

each-times : (i : ℕ) (js xs : List ℕ) → times_in i (put_each js xs) ≡ times_in i js + times_in i xs
each-times i [] xs = let none : times_in i [] ≡ 0 = refl in omega (arith, none)
each-times i (j ∷ js) xs = omega (arith, each-times i js (put j xs), put-times i j xs, in-front i j js)

free-hand : (i : ℕ) (w : WorkerState) → is_free w ≡ true → times_in i (numbers_of w) ≡ times_in i w.done
free-hand i w free = in-hand i w None (empty-hand w.hand free)

done-times : (i : ℕ) (ws : List WorkerState) (xs : List ℕ) → list_all is_free ws ≡ true
    → times_in i (put_done ws xs) ≡ had i ws + times_in i xs
done-times i [] xs free = let none : times_in i [] ≡ 0 = refl in omega (arith, none)
done-times i (w ∷ ws) xs free =
    let both = both-true (is_free w) (list_all is_free ws) free in
    omega (
      arith,
      done-times i ws (put_each w.done xs) both.1,
      each-times i w.done xs,
      in-worker i w ws,
      free-hand i w both.0,
    )

none-times : (i : ℕ) (ws : List WorkerState) → list_all is_free ws ≡ true → had i (map emptied ws) ≡ 0
none-times i [] free = refl
none-times i (w ∷ ws) free =
    let both = both-true (is_free w) (list_all is_free ws) free in
    let here : times_in i (numbers_of (emptied w)) ≡ 0 = free-hand i (emptied w) both.0 in
    let all : had i (map emptied (w ∷ ws)) ≡ times_in i (numbers_of (emptied w)) + had i (map emptied ws) =
    in-worker i (emptied w) (map emptied ws) in
    omega (arith, all, here, none-times i ws both.1)

gather-alike : (s new : CoreState) → next_gather s ≡ Some new → IsAlike s new
gather-alike s new h =
    let made : CoreState = record {
      first = s.first;
      end = s.end;
      monitors = s.monitors;
      waiting = put_done s.workers [];
      workers = map emptied s.workers;
      board = s.board;
    } in
    let pick = chosen (is_none s.waiting && list_all is_free s.workers) made new h in
    let both = both-true (is_none s.waiting) (list_all is_free s.workers) pick.0 in
    subst (IsAlike s) pick.1
    (record {
      long = refl;
      each = λ i.
          let none : times_in i [] ≡ 0 = refl in
          let waited : times_in i s.waiting ≡ 0 = ap (times_in i) (empty-list s.waiting both.0) in
          let waits = done-times i s.workers [] both.1 in
          let new_all = in-both i (put_done s.workers []) (flat_map numbers_of (map emptied s.workers)) in
          let old_all = in-both i s.waiting (flat_map numbers_of s.workers) in
          omega (arith, none, waited, waits, none-times i s.workers both.1, new_all, old_all);
    })

pub gather-once : (old new : CoreState) (r : Reply) → Replies old (next_gather old) new r → EachStandsOnce old
    → EachStandsOnce new
gather-once old new r h = replied-once old new (next_gather old) r h (gather-alike old)

-- nothing moves between the lists
pub unmoved-once : (old new : CoreParts) → KeepsParts old new → new.waiting ≡ old.waiting → new.workers ≡ old.workers
    → EachStandsOnce (core_state old) → EachStandsOnce (core_state new)
unmoved-once old new kept waiting workers =
    alike-once (core_state old) (core_state new)
    (record {
      long =
          length-map new.monitors.items monitor_state
          ∙ sym (length-map new.monitors.items monitor_part)
          ∙ ap (λ (qs : List MonitorPart). length qs) kept.parts
          ∙ length-map old.monitors.items monitor_part
          ∙ sym (length-map old.monitors.items monitor_state);
      each = λ i.
          ap (λ q. times_in i (q.items ++ flat_map numbers_of (map worker_state new.workers.items))) waiting
          ∙ ap (λ ws. times_in i (old.waiting.items ++ flat_map numbers_of (map worker_state ws.items))) workers;
    })

-- before the first step all wait
none-idle : (i n : ℕ) → had i (replicate n (record { hand = None; done = [] })) ≡ 0
none-idle i zero = refl
none-idle i (suc n) = none-idle i n

not-counted : (i x : ℕ) → (x ≡ i → ⊥) → (b : Bool) → (x == i) ≡ b → count_one b ≡ 0
not-counted i x not true is = absurd (not (eqb-true x i is))
not-counted i x not false is = refl

other-number : (i x : ℕ) → (x ≡ i → ⊥) → one i x ≡ 0
other-number i x not = not-counted i x not (x == i) refl

same-number : (i x : ℕ) → x ≡ i → one i x ≡ 1
same-number i x is = ap count_one (eq-eqb x i is)

below-range : (i a n : ℕ) → i < a → times_in i (range_with_len a n) ≡ 0
below-range i a zero lt = refl
below-range i a (suc n) lt =
    let not : a ≡ i → ⊥ = λ is. absurd (omega (arith, is, lt)) in
    omega (
      arith,
      in-front i a (range_with_len (a + 1) n),
      other-number i a not,
      below-range i (a + 1) n (omega (arith, lt)),
    )

past-range : (i a n : ℕ) → a + n ≤ i → times_in i (range_with_len a n) ≡ 0
past-range i a zero le = refl
past-range i a (suc n) le =
    let not : a ≡ i → ⊥ = λ is. absurd (omega (arith, is, le)) in
    omega (
      arith,
      in-front i a (range_with_len (a + 1) n),
      other-number i a not,
      past-range i (a + 1) n (omega (arith, le)),
    )

in-range : (i a n : ℕ) → a ≤ i → i < a + n → times_in i (range_with_len a n) ≡ 1
in-range i a zero le lt = absurd (omega (arith, le, lt))
in-range i a (suc n) le lt = elim (cases_eq a i) [
  | inl same ↦
      omega (
        arith,
        in-front i a (range_with_len (a + 1) n),
        same-number i a same,
        below-range i (a + 1) n (omega (arith, same)),
      )
  | inr not ↦
      omega (
        arith,
        in-front i a (range_with_len (a + 1) n),
        other-number i a not,
        in-range i (a + 1) n (omega (arith, le, not)) (omega (arith, lt)),
      )
]

pub opening-once : (ps : List ProgramData) (n : ℕ) → EachStandsOnce (opening_state ps n)
opening-once ps n =
    let long : length (map opened_monitor ps) ≡ length ps = length-map ps opened_monitor in
    let idle : List WorkerState = replicate n (record { hand = None; done = [] }) in
    let all = λ (i : ℕ). in-both i (range_with_len 0 (length ps)) (flat_map numbers_of idle) in
    record {
      once = λ i lt.
          omega (arith, all i, none-idle i n, in-range i 0 (length ps) (omega arith) (omega (arith, lt, long)));
      other = λ i le.
          omega (arith, all i, none-idle i n, past-range i 0 (length ps) (omega (arith, le, long)));
    }
