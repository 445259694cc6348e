-- Each turn of the loop keeps step with the checked machine.
use Rattle.std.proofs.Common.{[], refl, sym, subst, arith}
use Rattle.std.specs.Prelude.{slice_index_or}
use Rattle.bytecode_programs.specs.declared.sample_instr.SampleInstr.TheVariants.{Push}
use Rattle.bytecode_programs.specs.Instructions.{frame_of}
use Rattle.bytecode_programs.specs.Programs.{data_of}
use Rattle.machine_sample_code.proofs.RunLaws.{Stands, Stands-at, Stands-first, Stands-cost}
use Rattle.machine_sample_code.proofs.RunLaws.{Stands-ready, IsAt-after, read-at}
use Rattle.machine_sample_code.proofs.sample_run.run_code.Goals as goal

pub loop-next-init : goal.loop-next-init
loop-next-init c =
    let p = data_of c.args.program.now in
    let rows = c.args.ring.now.rows in
    let old = c.args.counters.now in
    subst (λ xs. Stands p rows old 0 0 xs c.args.atoms.now old) (sym c.requires.no_operand)
    (subst (λ bs. Stands p rows old 0 0 [] bs old) (sym c.requires.no_atom)
    (Stands-first p rows old c.requires.accepted c.requires.counters))

pub obey-requires : goal.obey-requires
obey-requires c =
    let p = data_of c.args.program.now in
    let code = c.as_slice-code.result.now in
    let l = c.loop-next in
    let pc = c.in-Some.pc in
    let s =
    Stands-at p c.args.ring.now.rows c.args.counters.now l.next pc l.spent l.stack l.atoms l.counters l.invariant
    c.in-Some.is in
    let i = slice_index_or code pc (Push 0 0) in
    let here = read-at code p.sample pc i c.as_slice-code.ensures.value s.inside refl in
    Stands-ready s i here c.args.widths.now c.args.ring.now c.args.program.now.fits c.requires.rows

pub loop-next-smaller : goal.loop-next-smaller
loop-next-smaller c =
    let p = data_of c.args.program.now in
    let code = c.as_slice-code.result.now in
    let l = c.loop-next in
    let pc = c.in-Some.pc in
    let s =
    Stands-at p c.args.ring.now.rows c.args.counters.now l.next pc l.spent l.stack l.atoms l.counters l.invariant
    c.in-Some.is in
    let i = slice_index_or code pc (Push 0 0) in
    let here = read-at code p.sample pc i c.as_slice-code.ensures.value s.inside refl in
    omega (arith, Stands-cost s i here)

pub loop-next-preserved : goal.loop-next-preserved
loop-next-preserved c =
    let p = data_of c.args.program.now in
    let code = c.as_slice-code.result.now in
    let l = c.loop-next in
    let pc = c.in-Some.pc in
    let s =
    Stands-at p c.args.ring.now.rows c.args.counters.now l.next pc l.spent l.stack l.atoms l.counters l.invariant
    c.in-Some.is in
    let i = slice_index_or code pc (Push 0 0) in
    let here = read-at code p.sample pc i c.as_slice-code.ensures.value s.inside refl in
    IsAt-after s i here c.obey.new.next c.obey.ensures.next c.obey.new.stack
    (c.obey.ensures.operands (frame_of p) (sym c.requires.rows.slots)) c.obey.new.atoms c.obey.ensures.atoms
    c.obey.new.counters c.obey.ensures.counters
