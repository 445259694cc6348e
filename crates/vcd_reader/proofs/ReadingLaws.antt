-- What was read of a body, put together.
use Rattle.std.proofs.Common.{◌≡◌, ℕ, ◌+◌, ◌≤◌, List, [], ◌∷◌, ◌++◌, length, map, Result, Ok, Err, refl, sym, ap, ◌∙◌}
use Rattle.std.proofs.Common.{append_assoc, arith, ◌<◌}
use Rattle.std.proofs.lemmas.List.{append-nil, map-append, length-append}
use Rattle.std.proofs.Math.Seq.{drop-length}
use Rattle.vcd_reader.specs.declared.fault.Fault.{Fault}
use Rattle.vcd_reader.specs.declared.step.Step.{Step}
use Rattle.vcd_reader.specs.declared.step.Change.{Change}
use Rattle.vcd_reader.specs.Faults.{◌>>=◌}
use Rattle.vcd_reader.specs.Stored.{StoredChange, StoredStep, stored_change, stored_step}
use Rattle.vcd_reader.specs.Body.{body, most_changes, steps_of}
use Rattle.vcd_reader.specs.Kept.{KeptRest, kept_steps}
use Rattle.vcd_reader.specs.Sections.{tokens_at}
use Rattle.vcd_reader.specs.Tokens.{tokens}
use Rattle.vcd_reader.specs.Kept.{with_item, Extends}
use Rattle.vcd_reader.specs.Readings.{joined, rest_at, steps_from, IsRead}
use Rattle.vcd_reader.specs.declared.item.Item.TheVariants.{Timed, Changed}
use Rattle.vcd_reader.proofs.BodyLaws.{joined-none, body-none, joined-change, joined-step}
use Rattle.vcd_reader.proofs.BodyLaws.{applied-change, applied-later, applied-equal}
use Rattle.vcd_reader.proofs.StoredLaws.{step-pushed, change-pushed}

-- these steps before all that are read
after_steps : List StoredStep → Result (List StoredStep) Fault → Result (List StoredStep) Fault
after_steps steps read = read >>= λ all. Ok (steps ++ all)

-- steps before others, and before none
joined-after : (before steps : List StoredStep) (now : ℕ) (changes : List StoredChange) (read : Result KeptRest Fault)
    → joined (before ++ steps) now changes read ≡ after_steps before (joined steps now changes read)
unfolding after_steps
joined-after before steps now changes (Ok r) =
    ap (λ (ss : List StoredStep). Ok ss)
    (append_assoc before steps (record { time = now; changes = changes ++ r.0 } ∷ r.1))
joined-after before steps now changes (Err f) = refl

joined-first : (before : List StoredStep) (now : ℕ) (read : Result KeptRest Fault)
    → joined before now [] read ≡ after_steps before (joined [] now [] read)
unfolding after_steps
joined-first before now (Ok r) = refl
joined-first before now (Err f) = refl

-- what was read from where another reading stands goes on with it
pub read-after : (declared : List (List ℕ)) (bytes : List ℕ) (start first : ℕ) (steps : List Step) (now : ℕ)
    (high : List ℕ) (count at : ℕ) (steps' : List Step) (now' : ℕ) (changes' : List Change) (high' : List ℕ)
    (count' at' : ℕ)
    → count + count' ≤ most_changes → IsRead [] declared bytes start first steps now [] high count at
    → IsRead high declared bytes at now steps' now' changes' high' count' at'
    → IsRead [] declared bytes start first (steps ++ steps') now' changes' (high ++ high') (count + count') at'
read-after declared bytes start first steps now high count at steps' now' changes' high' count' at' few one other =
    record {
      inside = other.inside;
      wide = let w = one.wide in let v = other.wide in let l = length-append high high' in omega arith;
      few = few;
      same = λ before more room.
          let all = high ++ (high' ++ more) in
          let same_high : all ≡ (high ++ high') ++ more = sym (append_assoc high high' more) in
          let sum : (before + count) + count' ≡ before + (count + count') = omega arith in
          one.same before (high' ++ more) (omega arith)
          ∙ joined-first (map (stored_step all) steps) now (rest_at declared bytes (before + count) now at)
          ∙ ap (after_steps (map (stored_step all) steps)) (other.same (before + count) more (omega arith))
          ∙ sym (joined-after (map (stored_step all) steps) (map (stored_step all) steps') now'
          (map (stored_change all) changes') (rest_at declared bytes ((before + count) + count') now' at'))
          ∙ ap (λ (ss : List StoredStep). joined ss now' (map (stored_change all) changes')
          (rest_at declared bytes ((before + count) + count') now' at'))
          (sym (map-append (stored_step all) steps steps'))
          ∙ ap (λ (n : ℕ). joined (map (stored_step all) (steps ++ steps')) now' (map (stored_change all) changes')
          (rest_at declared bytes n now' at')) sum
          ∙ ap (λ (h : List ℕ). joined (map (stored_step h) (steps ++ steps')) now' (map (stored_change h) changes')
          (rest_at declared bytes (before + (count + count')) now' at')) same_high;
    }

-- after none, nothing is moved
pub read-unmoved : (front : List ℕ) (declared : List (List ℕ)) (bytes : List ℕ) (start first : ℕ)
    (steps : List Step) (now : ℕ) (changes : List Change) (high : List ℕ) (count at : ℕ) → length front ≡ 0
    → IsRead [] declared bytes start first steps now changes high count at
    → IsRead front declared bytes start first steps now changes high count at
read-unmoved [] declared bytes start first steps now changes high count at none read = read
read-unmoved (x ∷ xs) declared bytes start first steps now changes high count at none read = absurd (omega arith)

-- where no wide value is stored, more in front is more after
pub read-narrow : (front : List ℕ) (declared : List (List ℕ)) (bytes : List ℕ) (start first : ℕ)
    (steps : List Step) (now : ℕ) (changes : List Change) (high : List ℕ) (count at : ℕ) → high ≡ []
    → IsRead [] declared bytes start first steps now changes high count at
    → IsRead front declared bytes start first steps now changes high count at
read-narrow front declared bytes start first steps now changes high count at none read = record {
  inside = read.inside;
  wide = read.wide;
  few = read.few;
  same = λ before more few.
      read.same before (front ++ more) few
      ∙ ap (λ (h : List ℕ). joined (map (stored_step h) steps) now (map (stored_change h) changes)
      (rest_at declared bytes (before + count) now at)) (rw none refl);
}

-- nothing stands at the end
none-at-end : (declared : List (List ℕ)) (bytes : List ℕ) (count now : ℕ)
    → rest_at declared bytes count now (length bytes) ≡ Ok ([], [])
unfolding tokens
none-at-end declared bytes count now =
    body-none declared (length bytes) count now (tokens_at bytes (length bytes)) (rw (drop-length bytes) refl)

-- what an item at the byte where the reading stands makes of it
module _ (declared : List (List ℕ)) (bytes : List ℕ) (start first : ℕ) (steps : List Step) (now : ℕ)
    (changes : List Change) (high : List ℕ) (count at : ℕ)
    (read : IsRead [] declared bytes start first steps now changes high count at) where
  -- the steps and the open one, over such high halves, before the rest
  abbrev with_rest : List ℕ → Result KeptRest Fault → Result (List StoredStep) Fault
  with_rest all rest = joined (map (stored_step all) steps) now (map (stored_change all) changes) rest

  pub read-fails : (f : Fault) → rest_at declared bytes count now at ≡ Err f
      → steps_from declared bytes 0 first start ≡ Err f
  read-fails f is =
      let few = read.few in
      let none : 0 + count ≡ count = omega arith in
      read.same 0 [] (omega arith)
      ∙ ap (λ (n : ℕ). with_rest (high ++ []) (rest_at declared bytes n now at)) none
      ∙ ap (with_rest (high ++ [])) is

  pub read-skipped : (end : ℕ) → end ≤ length bytes
      → ((c : ℕ) → rest_at declared bytes c now at ≡ rest_at declared bytes c now end)
      → IsRead [] declared bytes start first steps now changes high count end
  read-skipped end le next = record {
    inside = le;
    wide = read.wide;
    few = read.few;
    same = λ before more few. read.same before more few ∙ ap (with_rest (high ++ more)) (next (before + count));
  }

  pub read-none : ((c : ℕ) → rest_at declared bytes c now at ≡ Ok ([], []))
      → IsRead [] declared bytes start first steps now changes high count (length bytes)
  read-none none =
      read-skipped (length bytes) (omega arith) (λ c. none c ∙ sym (none-at-end declared bytes c now))

  pub read-same : (time from end : ℕ) → end ≤ length bytes → time ≡ now
      → ((c : ℕ) → rest_at declared bytes c now at
      ≡ with_item (Timed time from) c now (λ k n. rest_at declared bytes k n end))
      → IsRead [] declared bytes start first steps now changes high count end
  read-same time from end le same next =
      read-skipped end le (λ c. next c ∙ applied-equal time from c now (λ k n. rest_at declared bytes k n end) same)

  pub read-change : (code value end : ℕ) (change : Change) (changes' : List Change) (high' : List ℕ)
      → end ≤ length bytes → count < most_changes
      → ((c : ℕ) → rest_at declared bytes c now at
      ≡ with_item (Changed code value) c now (λ k n. rest_at declared bytes k n end))
      → Extends high high' → length high' ≤ length high + 1
      → ((more : List ℕ) → stored_change (high' ++ more) change ≡ record { code = code; value = value })
      → changes' ≡ changes ++ change ∷ []
      → IsRead [] declared bytes start first steps now changes' high' (count + 1) end
  read-change code value end change changes' high' le few next added longer stored is = record {
    inside = le;
    wide = let w = read.wide in omega arith;
    few = omega arith;
    same = λ before more room.
        let all = high' ++ more in
        let same_high : high ++ (added.0 ++ more) ≡ all =
        sym (append_assoc high added.0 more) ∙ ap (λ (xs : List ℕ). xs ++ more) (sym added.1) in
        let sum : (before + count) + 1 ≡ before + (count + 1) = omega arith in
        read.same before (added.0 ++ more) (omega arith)
        ∙ ap (λ (h : List ℕ). with_rest h (rest_at declared bytes (before + count) now at)) same_high
        ∙ ap (with_rest all) (next (before + count)
        ∙ applied-change code value (before + count) now (λ k n. rest_at declared bytes k n end) (omega arith))
        ∙ joined-change (map (stored_step all) steps) now (map (stored_change all) changes)
        (record { code = code; value = value }) (rest_at declared bytes ((before + count) + 1) now end)
        ∙ ap (λ (cs : List StoredChange). joined (map (stored_step all) steps) now cs
        (rest_at declared bytes ((before + count) + 1) now end))
        (sym (change-pushed all changes changes' change _ is (stored more)))
        ∙ ap (λ (n : ℕ). joined (map (stored_step all) steps) now (map (stored_change all) changes')
        (rest_at declared bytes n now end)) sum;
  }

  pub read-step : (time from end : ℕ) (steps' : List Step) (s : Step) → end ≤ length bytes → now < time
      → ((c : ℕ) → rest_at declared bytes c now at
      ≡ with_item (Timed time from) c now (λ k n. rest_at declared bytes k n end))
      → steps' ≡ steps ++ s ∷ [] → s.time ≡ now → s.changes.items ≡ changes
      → IsRead [] declared bytes start first steps' time [] high count end
  read-step time from end steps' s le later next is at_now done = record {
    inside = le;
    wide = read.wide;
    few = read.few;
    same = λ before more few.
        let all = high ++ more in
        let rest = rest_at declared bytes (before + count) time end in
        read.same before more few
        ∙ ap (with_rest all) (next (before + count)
        ∙ applied-later time from (before + count) now (λ k n. rest_at declared bytes k n end) later)
        ∙ joined-step (map (stored_step all) steps) now time (map (stored_change all) changes) rest
        ∙ ap (λ (n : ℕ). joined (map (stored_step all) steps
        ++ record { time = n; changes = map (stored_change all) changes } ∷ []) time [] rest) (sym at_now)
        ∙ ap (λ (ss : List StoredStep). joined ss time [] rest) (sym (step-pushed all steps steps' s changes is done));
  }

-- all was read: the open step is the last
pub read-all : (declared : List (List ℕ)) (bytes : List ℕ) (start first : ℕ) (steps : List Step) (now : ℕ)
    (changes : List Change) (high : List ℕ) (count at : ℕ) (steps' : List Step) (s : Step)
    → IsRead [] declared bytes start first steps now changes high count at
    → at ≡ length bytes → steps' ≡ steps ++ s ∷ [] → s.time ≡ now → s.changes.items ≡ changes
    → steps_from declared bytes 0 first start ≡ Ok (map (stored_step high) steps')
read-all declared bytes start first steps now changes high count at steps' s read ended is at_now done =
    let few = read.few in
    let none : rest_at declared bytes (0 + count) now at ≡ Ok ([], []) =
    ap (λ (n : ℕ). rest_at declared bytes (0 + count) now n) ended ∙ none-at-end declared bytes (0 + count) now in
    read.same 0 [] (omega arith)
    ∙ ap (joined (map (stored_step (high ++ [])) steps) now (map (stored_change (high ++ [])) changes)) none
    ∙ ap (λ (h : List ℕ). joined (map (stored_step h) steps) now (map (stored_change h) changes) (Ok ([], [])))
    (append-nil high)
    ∙ ap (λ (cs : List StoredChange). Ok (map (stored_step high) steps ++ record { time = now; changes = cs } ∷ []))
    (append-nil (map (stored_change high) changes))
    ∙ ap (λ (n : ℕ). Ok (map (stored_step high) steps
    ++ record { time = n; changes = map (stored_change high) changes } ∷ [])) (sym at_now)
    ∙ ap (λ (ss : List StoredStep). Ok ss) (sym (step-pushed high steps steps' s changes is done))

-- what a reading of all of it makes of a body
pub read-whole : (declared : List (List ℕ)) (bytes : List ℕ) (start start' first : ℕ)
    (made : Result (List StoredStep) Fault) → start' ≡ start → first ≡ 0
    → steps_from declared bytes 0 first start' ≡ made
    → kept_steps (steps_of (body declared (length bytes) 0 0 (tokens_at bytes start))) ≡ made
read-whole declared bytes start start' first made here zero is =
    joined-none (body declared (length bytes) 0 0 (tokens_at bytes start))
    ∙ sym (ap (λ (n : ℕ). steps_from declared bytes 0 0 n) here)
    ∙ sym (ap (λ (n : ℕ). steps_from declared bytes 0 n start') zero) ∙ is
