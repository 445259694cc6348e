use Rattle.std.proofs.Common.{◌≡◌, ◌∙◌, ◌+◌, ◌++◌, ℕ, List, map, refl, ap, subst, arith}
use Rattle.std.proofs.Math.Logic.{∥∥₁_elim}
use Rattle.signals.specs.declared.verdict.Decided.{Decided}
use Rattle.bytecode_programs.specs.Values.{SlotData}
use Rattle.machine.specs.Running.{Running}
use Rattle.machine.specs.Again.{AreAgain}
use Rattle.machine_batches.proofs.RowLaws.{row-values, values-prop}
use Rattle.workers_core.proofs.PlaceLaws as laws
use Rattle.workers_core.proofs.monitor.Monitor.repeat.Goals as goal

pub repeat-requires-clause-row : goal.repeat-requires-clause-row
repeat-requires-clause-row c =
    let row = c.as_slice-row.result.now in
    let widths = map (λ (s : SlotData). s.width) c.args.self.now.machine.program.signals in
    ∥∥₁_elim c.requires.row (values-prop widths row) (λ f.
    row-values f.0 f.2 f.1 row widths (c.as_slice-row.ensures.value ∙ f.3) f.4
    (λ i. (c.type_inv.row i).fits))

pub returns-then-clocks-eq0-clause-clocks : goal.returns-then-clocks-eq0-clause-clocks
returns-then-clocks-eq0-clause-clocks c =
    let old = c.args.self.now in
    laws.more-none old old old.row.items (laws.same-self old) refl refl

pub returns-in-None-clause-clocks : goal.returns-in-None-clause-clocks
returns-in-None-clause-clocks c =
    let old = c.args.self.now in
    let is : c.repeat.new.self ≡ old.machine = c.in-None.ensures.none in
    laws.more-none old
    (record {
      machine = c.repeat.new.self;
      from = old.from;
      to = old.to;
      row = old.row;
      attempts = old.attempts;
      since = old.since;
      decided = old.decided;
      spare = old.spare;
      wide = _;
    }) old.row.items
    (record {
      program = ap (λ (m : Running). m.program) is;
      from = refl;
      to = refl;
      attempts = refl;
      since = refl;
    }) is refl

pub from_first-requires-clause-starts : goal.from_first-requires-clause-starts
from_first-requires-clause-starts c =
    let again = c.in-Some.ensures.again in
    omega (arith, again.began, c.requires.more)

pub from_first-requires-clause-clocks : goal.from_first-requires-clause-clocks
from_first-requires-clause-clocks c =
    let again = c.in-Some.ensures.again in
    omega (
      arith,
      laws.known-by c.args.self.now.machine.state.standing.now c.in-Some.first.verdict again.verdict,
      c.requires.more,
    )

pub returns-in-Some-clause-clocks : goal.returns-in-Some-clause-clocks
returns-in-Some-clause-clocks c =
    let old = c.args.self.now in
    let first = c.in-Some.first in
    let again =
    subst (λ (r : List ℕ). AreAgain old.machine r c.args.clocks first c.repeat.new.self)
    c.as_slice-row.ensures.value c.in-Some.ensures.again in
    laws.passed-over old
    (record {
      machine = c.repeat.new.self;
      from = old.from;
      to = old.to;
      row = old.row;
      attempts = old.attempts;
      since = old.since;
      decided = c.push_streak.new.self;
      spare = old.spare;
      wide = _;
    }) old.row.items c.args.clocks first again
    (record { program = again.program; from = refl; to = refl; attempts = refl; since = refl })
    (omega arith)
    (c.push_streak.ensures.items
    ∙ ap (λ (ds : List Decided). old.decided.items ++ ds) c.from_first.ensures)
    c.push_streak.ensures.room
