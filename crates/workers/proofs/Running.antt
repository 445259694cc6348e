-- What a worker's round comes to.
use Rattle.std.proofs.Common.{◌≡◌, ℕ, ◌+◌, ◌*◌, ◌^◌, ◌<◌, ◌≤◌, Bool, false, Option, Some}
use Rattle.std.proofs.Common.{None, List, [], ◌∷◌, ◌++◌, length, sym, refl, ap, ◌∙◌, subst, get_or, append_assoc}
use Rattle.std.proofs.Common.{length-append, arith, All, IfSome}
use Rattle.std.specs.List.{slice_index}
use Rattle.std.proofs.lemmas.List.Sums.{sum_by-le, sum_by_push, count_by-le-length}
use Rattle.signals.specs.declared.verdict.Verdict.{Verdict}
use Rattle.report_lines.specs.Tallies.{is_holds, is_vacuous, is_fails, is_disabled}
use Rattle.cycle_window.specs.declared.window.Window.{Window}
use Rattle.workers_core.specs.declared.job.Job.{Job}
use Rattle.crossbeam_queue.specs.Passes.{Pass, view}
use Rattle.verdicts.specs.declared.board.Board.{Board}
use Rattle.verdicts.specs.declared.board.Receipt.{Receipt}
use Rattle.verdicts.specs.Receipts.{shown_by}
use Rattle.verdicts.specs.declared.tally.Share.{Share}
use Rattle.verdicts.specs.Counts.{count_of, counts_of}
use Rattle.verdicts.specs.Shares.{parts, amounts, plus, EachAtMost}
use Rattle.workers_bench.specs.declared.numbered.Numbered.{Numbered}
use Rattle.workers_bench.specs.declared.passes.Hand.{Hand}
use Rattle.workers_bench.specs.declared.bench.Bench.{Bench}
use Rattle.workers_bench.specs.Monitors.{IsMonitorAt}
use Rattle.workers_bench.specs.Hands.{hand, with_taken, TakesOne, NumbersRise, NumbersRiseFrom, end_after}
use Rattle.workers_bench.specs.Benches.{IsPassOfBench}
use Rattle.workers_bench.proofs.Keeps.{all_pushed, none_fail, end_push}
use Rattle.workers.specs.declared.worker.Published.{Published}
use Rattle.workers.specs.Works.{IsOnBoard, IsPublished, published_number, numbers_back, published_count}
use Rattle.workers.specs.Works.{published_counts, monitor_clock_of, HasWorked}

four : {a b c d a' b' c' d' : ℕ} → a ≡ a' → b ≡ b' → c ≡ c' → d ≡ d' → a ∷ b ∷ c ∷ d ∷ [] ≡ a' ∷ b' ∷ c' ∷ d' ∷ []
four p q r s = λ i. p i ∷ q i ∷ r i ∷ s i ∷ []

append_none : (xs : List ℕ) → xs ++ [] ≡ xs
append_none [] = refl
append_none (x ∷ xs) = ap (λ l. x ∷ l) (append_none xs)

back_one : (xs ys : List ℕ) (x : ℕ) (zs : List ℕ) → zs ≡ ys ++ x ∷ [] → (xs ++ ys) ++ x ∷ [] ≡ xs ++ zs
back_one xs ys x zs is = append_assoc xs ys (x ∷ []) ∙ ap (λ l. xs ++ l) (sym is)

backs_published : (ps : List Published) (p : Published) → numbers_back (ps ++ p ∷ []) None
    ≡ numbers_back ps None ++ published_number p ∷ []
backs_published [] p = refl
backs_published (q ∷ qs) p = ap (λ l. published_number q ∷ l) (backs_published qs p)

backs_kept : (ps : List Published) (m : Numbered) → numbers_back ps (Some m) ≡ numbers_back ps None ++ m.number ∷ []
backs_kept [] m = refl
backs_kept (q ∷ qs) m = ap (λ l. published_number q ∷ l) (backs_kept qs m)

longer : {X : Type 0} (xs : List X) (x : X) → length (xs ++ x ∷ []) ≡ length xs + 1
longer [] x = refl
longer (y ∷ ys) x = omega (arith, longer ys x)

-- rising numbers are no more than they rise
few : (low : ℕ) (xs : List ℕ) → NumbersRiseFrom low xs → length xs + low ≤ end_after low xs
few low [] h = omega arith
few low (x ∷ xs) h = omega (arith, few (x + 1) xs h.1, h.0)

length_back : (xs : List ℕ) (ps : List Published) (kept : Option Numbered)
    → length ps ≤ length (xs ++ numbers_back ps kept)
length_back [] [] kept = omega arith
length_back [] (p ∷ ps) kept = omega (arith, length_back [] ps kept)
length_back (x ∷ xs) ps kept = omega (arith, length_back xs ps kept)

-- what is on the board by the receipt that was counted
pub on-board-of : {j : Job} {w : Window} {board : Board} (r : Option Receipt) (p : Published) → r ≡ Some p.receipt
    → IfSome r (IsOnBoard j w board p.monitor) → IsOnBoard j w board p.monitor p.receipt
on-board-of {j} {w} {board} r p is on = subst (λ (o : Option Receipt). IfSome o (IsOnBoard j w board p.monitor)) is on

-- a batch counts at most its verdicts
batch_few : (is : Verdict → Bool) (j : Job) (w : Window) (board : Board) (p : Published) → IsPublished j w board p
    → count_of is (shown_by p.receipt).decided.items ≤ 131072
batch_few is j w board p h =
    omega (arith, count_by-le-length (λ d. is d.verdict) (shown_by p.receipt).decided.items, h.on.batch.few)

round_few : (is : Verdict → Bool) (j : Job) (w : Window) (board : Board) (ps : List Published)
    → All (IsPublished j w board) ps → published_count is ps ≤ length ps * 131072
round_few is j w board ps all =
    sum_by-le (λ (p : Published). count_of is (shown_by p.receipt).decided.items) 131072 ps
    (λ k d below. let p : Published = get_or ps k d in batch_few is j w board p (all k d below))

one_more : (is : Verdict → Bool) (ps qs : List Published) (p : Published) → qs ≡ ps ++ p ∷ [] → published_count is qs
    ≡ published_count is ps + count_of is (shown_by p.receipt).decided.items
one_more is ps qs p same =
    ap (published_count is) same ∙ sum_by_push (λ (q : Published). count_of is (shown_by q.receipt).decided.items) ps p

-- one batch more fits beside so many
pub fits-one : (j : Job) (w : Window) (board : Board) (have : List ℕ) (p : Published) → EachAtMost have (2 ^ 55)
    → IsPublished j w board p → EachAtMost (plus have (counts_of (shown_by p.receipt).decided.items)) (2 ^ 56)
fits-one j w board have p room at =
    let a = batch_few is_holds j w board p at in
    let b = batch_few is_vacuous j w board p at in
    let c = batch_few is_fails j w board p at in
    let d = batch_few is_disabled j w board p at in
    (omega arith, omega arith, omega arith, omega arith)

module _ {L : Type 0} (bench : Bench) (board : Board) (window : Window) (from : Hand) (given : Share L)
    (claimed : ℕ) where
  abbrev pub Now : Pass Numbered Hand → Share L → ℕ → List Published → Option Numbered → Type 0
  Now = HasWorked bench board window from given claimed

  -- nothing was done yet
  pub begins_with : (pass : Pass Numbered Hand) → view pass ≡ from → IsPassOfBench bench pass → NumbersRise from.taken
      × (end_after 0 from.taken ≤ length bench.job.now.programs.items) → (ps : List Published) → ps ≡ []
      → HasWorked bench board window from given claimed pass given claimed ps None
  begins_with pass is of rising ps none = record {
    of = of;
    taken = is ∙ (λ i. hand from.parts from.puts from.round from.put (back i));
    rises = subst (λ (v : Hand). NumbersRise v.taken
        × (end_after 0 v.taken ≤ length bench.job.now.programs.items)) (sym is) rising;
    at_end = none_fail (IsPublished bench.job.now window board) ps none;
    at_own = tt;
    shared = (
      refl,
      four (omega (arith, counts is_holds)) (omega (arith, counts is_vacuous))
          (omega (arith, counts is_fails)) (omega (arith, counts is_disabled)),
    );
    counted = omega (arith, ap (λ l. length (numbers_back l None)) none);
  }
    where
      back : from.taken ≡ from.taken ++ numbers_back ps None
      back = sym (append_none from.taken) ∙ ap (λ l. from.taken ++ numbers_back l None) (sym none)

      counts : (kind : Verdict → Bool) → published_count kind ps ≡ 0
      counts kind = ap (published_count kind) none

  -- the pass took one more, whose number stands after the others
  took : (pass pass' : Pass Numbered Hand) (x : Numbered) (before after : List ℕ)
      → TakesOne (view pass) x (view pass') → x.number < length bench.job.now.programs.items → from.puts ≡ false
      → view pass ≡ hand from.parts from.puts from.round from.put (from.taken ++ before)
      → after ≡ before ++ x.number ∷ []
      → (view pass' ≡ hand from.parts from.puts from.round from.put (from.taken ++ after))
      × (NumbersRise (view pass').taken × (end_after 0 (view pass').taken ≤ length bench.job.now.programs.items))
  took pass pass' x before after t below takes is grown =
      let here : view pass'
      ≡ with_taken (hand from.parts from.puts from.round from.put (from.taken ++ before)) x.number =
      t.0 ∙ ap (λ (v : Hand). with_taken v x.number) is in
      let ended : end_after 0 (view pass').taken ≡ x.number + 1 =
      ap (λ (v : Hand). end_after 0 v.taken) here ∙ end_push 0 (from.taken ++ before) x.number in (
        here ∙ ap (λ l. hand from.parts from.puts from.round from.put l)
            (back_one from.taken before x.number after grown),
        (t.2 (ap (λ (v : Hand). v.puts) is ∙ takes), omega arith),
      )

  pub keeps_one : (pass pass' : Pass Numbered Hand) (share : Share L) (claims : ℕ) (ps qs : List Published)
      (x m : Numbered) → Now pass share claims ps None → TakesOne (view pass) x (view pass')
      → x.number < length bench.job.now.programs.items → from.puts ≡ false
      → IsPassOfBench bench pass' → m.number ≡ x.number → IsMonitorAt bench.job.now (monitor_clock_of m) m → qs ≡ ps
      → HasWorked bench board window from given claimed pass' share (claims + 1) qs (Some m)
  keeps_one pass pass' share claims ps qs x m h t below takes of number at same =
      let grown : numbers_back qs (Some m) ≡ numbers_back ps None ++ x.number ∷ [] =
      ap (λ l. numbers_back l (Some m)) same
      ∙ (backs_kept ps m ∙ ap (λ k. numbers_back ps None ++ k ∷ []) number) in
      let r = took pass pass' x (numbers_back ps None) (numbers_back qs (Some m)) t below takes h.taken grown in
      record {
        of = of;
        taken = r.0;
        rises = r.1;
        at_end = subst (All (IsPublished bench.job.now window board)) (sym same) h.at_end;
        at_own = at;
        shared = (h.shared.0, h.shared.1 ∙ ap (λ l. plus (amounts given) (published_counts l)) (sym same));
        counted = omega (arith, h.counted, ap length grown, longer (numbers_back ps None) x.number);
      }

  pub publishes : (pass pass' : Pass Numbered Hand) (share share' : Share L) (claims : ℕ) (ps qs : List Published)
      (x : Numbered) (p : Published) → Now pass share claims ps None → TakesOne (view pass) x (view pass')
      → x.number < length bench.job.now.programs.items → from.puts ≡ false → IsPassOfBench bench pass'
      → p.monitor.number
      ≡ x.number → IsPublished bench.job.now window board p → parts share' ≡ parts share
      → amounts share' ≡ plus (amounts share) (counts_of (shown_by p.receipt).decided.items) → qs ≡ ps ++ p ∷ []
      → HasWorked bench board window from given claimed pass' share' (claims + 1) qs None
  publishes pass pass' share share' claims ps qs x p h t below takes of number at same_parts grows pushed =
      let grown : numbers_back qs None ≡ numbers_back ps None ++ x.number ∷ [] =
      ap (λ l. numbers_back l None) pushed
      ∙ (backs_published ps p ∙ ap (λ k. numbers_back ps None ++ k ∷ []) number) in
      let r = took pass pass' x (numbers_back ps None) (numbers_back qs None) t below takes h.taken grown in
      record {
        of = of;
        taken = r.0;
        rises = r.1;
        at_end = all_pushed (IsPublished bench.job.now window board) ps qs p pushed h.at_end at;
        at_own = tt;
        shared = (
          same_parts ∙ h.shared.0,
          grows
              ∙ four (omega (arith, ap (λ l. slice_index l 0) h.shared.1, one_more is_holds ps qs p pushed))
              (omega (arith, ap (λ l. slice_index l 1) h.shared.1, one_more is_vacuous ps qs p pushed))
              (omega (arith, ap (λ l. slice_index l 2) h.shared.1, one_more is_fails ps qs p pushed))
              (omega (arith, ap (λ l. slice_index l 3) h.shared.1, one_more is_disabled ps qs p pushed)),
        );
        counted = omega (arith, h.counted, ap length grown, longer (numbers_back ps None) x.number);
      }

  pub fits : (pass : Pass Numbered Hand) (share : Share L) (claims : ℕ) (ps : List Published) (p : Published)
      → Now pass share claims ps None → IsPublished bench.job.now window board p
      → EachAtMost (amounts given) (2 ^ 55)
      → EachAtMost (plus (amounts share) (counts_of (shown_by p.receipt).decided.items)) (2 ^ 56)
  fits pass share claims ps p h at room =
      let most = bench.job.now.most in
      let some = few 0 (view pass).taken h.rises.0 in
      let many = length_back from.taken ps None in
      let all = ap (λ (v : Hand). length v.taken) h.taken in
      let a = batch_few is_holds bench.job.now window board p at in
      let b = batch_few is_vacuous bench.job.now window board p at in
      let c = batch_few is_fails bench.job.now window board p at in
      let d = batch_few is_disabled bench.job.now window board p at in
      let a' = round_few is_holds bench.job.now window board ps h.at_end in
      let b' = round_few is_vacuous bench.job.now window board ps h.at_end in
      let c' = round_few is_fails bench.job.now window board ps h.at_end in
      let d' = round_few is_disabled bench.job.now window board ps h.at_end in (
        omega (arith, ap (λ l. slice_index l 0) h.shared.1, h.rises.1),
        omega (arith, ap (λ l. slice_index l 1) h.shared.1, h.rises.1),
        omega (arith, ap (λ l. slice_index l 2) h.shared.1, h.rises.1),
        omega (arith, ap (λ l. slice_index l 3) h.shared.1, h.rises.1),
      )

  -- the claims of a round are few
  pub claims-few : (pass : Pass Numbered Hand) (share : Share L) (claims : ℕ) (ps : List Published)
      → Now pass share claims ps None → claims ≤ claimed + 4096
  claims-few pass share claims ps h =
      let most = bench.job.now.most in
      let some = few 0 (view pass).taken h.rises.0 in
      let all = ap (λ (v : Hand). length v.taken) h.taken in
      let both = length-append from.taken (numbers_back ps None) in
      omega (arith, h.counted, h.rises.1)
