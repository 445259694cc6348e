-- What an instruction makes that reads no slot, over these slots.
use Rattle.machine_checked.specs.Machine.{sample_of}
use Rattle.machine_sample_code.proofs.instructions.obey.Goals as goal

pub returns-in-Push-clause-operands : goal.returns-in-Push-clause-operands
returns-in-Push-clause-operands c = λ f same. rw c.in-Push.is (c.push.ensures f (sample_of c.args.ring.now.rows))

pub returns-in-Join-clause-operands : goal.returns-in-Join-clause-operands
returns-in-Join-clause-operands c = λ f same. rw c.in-Join.is (c.join.ensures f (sample_of c.args.ring.now.rows))

pub returns-in-Compare-clause-operands : goal.returns-in-Compare-clause-operands
returns-in-Compare-clause-operands c =
    λ f same. rw c.in-Compare.is (c.compare.ensures f (sample_of c.args.ring.now.rows))

pub returns-in-Shift-clause-operands : goal.returns-in-Shift-clause-operands
returns-in-Shift-clause-operands c = λ f same. rw c.in-Shift.is (c.shift.ensures f (sample_of c.args.ring.now.rows))

pub returns-in-Not-clause-operands : goal.returns-in-Not-clause-operands
returns-in-Not-clause-operands c = λ f same. rw c.in-Not.is (c.complement.ensures f (sample_of c.args.ring.now.rows))

pub returns-in-Reduce-clause-operands : goal.returns-in-Reduce-clause-operands
returns-in-Reduce-clause-operands c = λ f same. rw c.in-Reduce.is (c.reduce.ensures f (sample_of c.args.ring.now.rows))

pub returns-in-Concat-clause-operands : goal.returns-in-Concat-clause-operands
returns-in-Concat-clause-operands c = λ f same. rw c.in-Concat.is (c.concat.ensures f (sample_of c.args.ring.now.rows))

pub returns-in-Zext-clause-operands : goal.returns-in-Zext-clause-operands
returns-in-Zext-clause-operands c = λ f same. rw c.in-Zext.is (c.extend.ensures f (sample_of c.args.ring.now.rows))

pub returns-in-Slice-clause-operands : goal.returns-in-Slice-clause-operands
returns-in-Slice-clause-operands c = λ f same. rw c.in-Slice.is (c.cut.ensures f (sample_of c.args.ring.now.rows))

pub returns-in-Mux-clause-operands : goal.returns-in-Mux-clause-operands
returns-in-Mux-clause-operands c = λ f same. rw c.in-Mux.is (c.choose.ensures f (sample_of c.args.ring.now.rows))

pub returns-in-SetAtom-clause-operands : goal.returns-in-SetAtom-clause-operands
returns-in-SetAtom-clause-operands c =
    λ f same. rw c.in-SetAtom.is (c.set_atom.ensures.operands f (sample_of c.args.ring.now.rows))

pub returns-in-Store-clause-operands : goal.returns-in-Store-clause-operands
returns-in-Store-clause-operands c =
    λ f same. rw c.in-Store.is (c.store.ensures.operands f (sample_of c.args.ring.now.rows))

pub returns-in-JumpIfZero-clause-operands : goal.returns-in-JumpIfZero-clause-operands
returns-in-JumpIfZero-clause-operands c =
    λ f same. rw c.in-JumpIfZero.is (c.jump_if_zero.ensures.operands f (sample_of c.args.ring.now.rows))
