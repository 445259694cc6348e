use Rattle.std.proofs.Common.{◌∙◌, ap}
use Rattle.bytecode_programs.specs.Programs.{data_of}
use Rattle.machine.specs.Live.{attempts_in, obligations_in, standing_of}
use Rattle.machine.proofs.OwnLaws.{none-stands}
use Rattle.machine.proofs.ToldLaws.{told-of}
use Rattle.machine.proofs.live.Live.idle_clock.Goals as goal

pub note-requires-clause-told : goal.note-requires-clause-told
note-requires-clause-told c =
    let p = data_of c.args.program.now in
    let old = c.args.self.now in
    let new = c.own_clock-2.new.self in
    let t = c.in-Some-told_alone.ensures in
    let on = c.own_clock-2.ensures.advanced in
    told-of p c.args.atoms.now old.now (standing_of old.now old.attempts old.obligations)
    (standing_of new.now new.attempts new.obligations) c.args.left.now c.own_clock-2.new.left on.decided
    (none-stands old.now old.attempts.live old.obligations.live c.requires.no_attempt c.requires.no_obligation)
    on.came (ap attempts_in t.idle.0) (ap obligations_in t.idle.1) c.args.out.now.items c.own_clock-2.new.out.items
    c.in-Some-told_alone.told c.own_clock-2.ensures.fewer t.budget.0 t.budget.1 on.told
    (λ before last e. t.last before last (c.as_slice.ensures.value ∙ e))
