use Rattle.std.proofs.Common.{rules, ◌∙◌, ◌+◌, sym, ap, subst, [], List, Bool, ℕ, take, get_or}
use Rattle.import_tokens.specs.declared.conditional.Conditional.{Conditional}
use Rattle.import_tokens.specs.declared.turn.Turn.TheVariants.{If}
use Rattle.import_tokens.specs.Steps.{Takes, outermost_of}
use Rattle.import_tokens.proofs.NestingLaws.{Walks, walks_none, walks_further, strays, all_taken}
use Rattle.import_tokens.proofs.NestingLaws.{are_whole, is_unclosed, none_of}
use Rattle.import_tokens.proofs.nesting.nesting_among.Goals as goal

nothing : Conditional
nothing = record { turn = If; at = 0 }

pub loop-one-init : goal.loop-one-init
loop-one-init c = subst (λ (bs : List Bool). Walks [] 0 bs) (sym c.new-around.ensures.items) walks_none

pub returns-then-not-branch : goal.returns-then-not-branch
unfolding nothing
returns-then-not-branch c =
    let all = c.args.found.now in
    let one = get_or all c.loop-one.one-index nothing in
    strays all c.loop-one.one-index nothing c.loop-one-test.true c.loop-one.first c.loop-one.around.items
    c.takes.new.around.items c.loop-one.invariant
    (subst (λ (b : Bool). Takes c.loop-one.around.items one.turn b c.takes.new.around.items) c.if-not-branch.true
    c.in_ok-takes.ensures)

pub loop-one-preserved : goal.loop-one-preserved
unfolding nothing
loop-one-preserved c =
    let all = c.args.found.now in
    let one = get_or all c.loop-one.one-index nothing in
    subst (λ (n : ℕ). Walks (take (c.loop-one.one-index + 1) all) n c.takes.new.around.items)
    (sym (c.outermost-first.ensures
    ∙ ap (λ (bs : List Bool). outermost_of bs one.at c.loop-one.first) c.as_slice.ensures.value))
    (walks_further all c.loop-one.one-index nothing c.loop-one-test.true c.loop-one.first c.loop-one.around.items
    c.takes.new.around.items c.loop-one.invariant
    (subst (λ (b : Bool). Takes c.loop-one.around.items one.turn b c.takes.new.around.items) c.if-not-branch.false
    c.in_ok-takes.ensures))

pub returns-then-is_empty : goal.returns-then-is_empty
returns-then-is_empty c =
    are_whole c.args.found.now c.loop-one.first
    (subst (λ (bs : List Bool). Walks c.args.found.now c.loop-one.first bs)
    (none_of c.loop-one.around.items (search rules))
    (all_taken c.args.found.now c.loop-one.one-index c.loop-one.first c.loop-one.around.items c.loop-one-test.false
    c.loop-one.invariant))

pub returns : goal.returns
returns c =
    is_unclosed c.args.found.now c.loop-one.first c.loop-one.around.items
    (all_taken c.args.found.now c.loop-one.one-index c.loop-one.first c.loop-one.around.items c.loop-one-test.false
    c.loop-one.invariant) (search rules)
