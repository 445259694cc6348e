use Rattle.std.proofs.Common.{Some, [], subst}
use Rattle.compiler.specs.Samples.{sample_code}
use Rattle.compiler.specs.Chosen.{terms_at, held_counters}
use Rattle.compiler.specs.Slots.{slots_in}
use Rattle.compiler.specs.Written.{Writes}
use Rattle.compiler.proofs.WrittenLaws.{writes-then, is-whole, finish-made, finish-long}
use Rattle.compiler.proofs.sample_code.sample_code.Goals as goal

pub returns-clause-made : goal.returns-clause-made
returns-clause-made c =
    let at = slots_in c.args.slots.now in
    let es = terms_at c.args.booleans.now c.args.atoms.now in
    let hs = held_counters c.args.counters.now c.args.stores.now in
    let two = writes-then c.in_ok-atoms_code.ensures c.in_ok-stores_code.ensures in
    let all : Writes (Some []) c.put.new.self (sample_code at es hs) =
    subst (λ o. Writes o c.put.new.self (sample_code at es hs)) c.new-code.ensures
    (writes-then two c.in_ok-put.ensures) in
    let whole = is-whole c.put.new.self (sample_code at es hs) all in
    finish-made c.finish.result c.put.new.self (sample_code at es hs) whole c.finish.ensures

pub returns-clause-too_long : goal.returns-clause-too_long
returns-clause-too_long c =
    let at = slots_in c.args.slots.now in
    let es = terms_at c.args.booleans.now c.args.atoms.now in
    let hs = held_counters c.args.counters.now c.args.stores.now in
    let two = writes-then c.in_ok-atoms_code.ensures c.in_ok-stores_code.ensures in
    let all : Writes (Some []) c.put.new.self (sample_code at es hs) =
    subst (λ o. Writes o c.put.new.self (sample_code at es hs)) c.new-code.ensures
    (writes-then two c.in_ok-put.ensures) in
    let whole = is-whole c.put.new.self (sample_code at es hs) all in
    finish-long c.finish.result c.put.new.self (sample_code at es hs) whole c.finish.ensures
