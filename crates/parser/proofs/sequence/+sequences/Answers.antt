use Rattle.std.proofs.Common.{◌∙◌, List, map, length, sym, ap, subst, arith}
use Rattle.std.proofs.lemmas.Option.{same_Some}
use Rattle.lexer.specs.declared.token.Token.{Token}
use Rattle.parser_grammar.specs.Terminals.{is}
use Rattle.parser_grammar.specs.declared.terminal.Terminal.TheVariants.{Delay, Intersect, And, Or}
use Rattle.parser_grammar.specs.declared.bound.Range.{Range}
use Rattle.parser_grammar.specs.Trees.{SequenceForm}
use Rattle.parser_grammar.specs.ReadSequences.{sequences, late_part, delayed_behind, during_with, conjunction_with}
use Rattle.parser_grammar.specs.ReadSequences.{intersection_with}
use Rattle.parser_grammar.specs.declared.sequence.SequenceTree.{SequenceTree}
use Rattle.parser_grammar.specs.Views.{sequence_of, delay_step_of}
use Rattle.parser.proofs.Steps.{failing, gives-as}
use Rattle.parser.proofs.SequenceSteps.{alternatives-fails, alternatives-ok, behind-deep, behind-fail2}
use Rattle.parser.proofs.SequenceSteps.{behind-fails, behind-ok, behind-tail, body-deep, body-fail1, body-fail2}
use Rattle.parser.proofs.SequenceSteps.{body-plain-fails, body-plain-ok, body-tail, conjunction-fails}
use Rattle.parser.proofs.SequenceSteps.{conjunction-ok, delayed-fails, delayed-ok, during-late-fails}
use Rattle.parser.proofs.SequenceSteps.{during-late-tail, during-plain-fails, during-tail, late-part-fail1}
use Rattle.parser.proofs.SequenceSteps.{late-part-fail2, late-part-fail3, late-part-ok, side-fail1, side-tail}
use Rattle.parser.proofs.SequenceSteps.{whole-fails, whole-tail, with-during, with-fails}
use Rattle.parser.proofs.SequenceSteps.{meet-fails, meet-ok, conjunct-fail1, conjunct-tail}
use Rattle.parser.proofs.LoopLaws.{Turns, turns-init, turns-stop, turns-fail, turns-next, expect-lead}
use Rattle.parser.proofs.LoopLaws.{map-push}
use Rattle.parser.proofs.sequence.+sequences.Goals as goal

pub read_alternatives-alternatives-init : goal.read_alternatives-alternatives-init
read_alternatives-alternatives-init t c = (
  omega arith,
  subst (λ (xs : List (SequenceTree)). Turns (is Or) (λ t. conjunction_with c.args.depth (sequences c.args.depth))
      c.args.tokens.now (map sequence_of xs) c.args.tokens.now) (sym c.new-found.ensures.items)
      (turns-init (is Or) (λ t. conjunction_with c.args.depth (sequences c.args.depth)) c.args.tokens.now),
)

pub read_alternatives-returns-in_default-clause-read : goal.read_alternatives-returns-in_default-clause-read
read_alternatives-returns-in_default-clause-read t c =
    gives-as _ _ _ _
    (alternatives-ok _ _ _ _ _
    (turns-stop (is Or) (λ t. conjunction_with c.args.depth (sequences c.args.depth)) _ _ _
    c.alternatives.invariant.1 (expect-lead Or _ _ c.in_default.ensures.token)))
    c.with_others.ensures.read

pub read_alternatives-returns-in-Err-clause-read : goal.read_alternatives-returns-in-Err-clause-read
read_alternatives-returns-in-Err-clause-read t c =
    alternatives-fails _ _ _ _
    (turns-fail (is Or) (λ t. conjunction_with c.args.depth (sequences c.args.depth)) _ _ _ c.alternatives.invariant.1
    _ _ (expect-lead Or _ _ c.in-Some.ensures.token) c.in-Some.ensures.shorter _ c.in-Err.ensures.read)

pub read_alternatives-alternatives-preserved : goal.read_alternatives-alternatives-preserved
read_alternatives-alternatives-preserved t c = (
  omega (
    arith,
    ap length c.same-left.ensures,
    c.in-Ok.ensures.shorter,
    c.in-Some.ensures.shorter,
    c.alternatives.invariant.0,
  ),
  subst (λ (ts : List Token). Turns (is Or) (λ t. conjunction_with c.args.depth (sequences c.args.depth))
      c.args.tokens.now (map sequence_of c.push_sequence.new.found.items) ts) (sym c.same-left.ensures)
      (turns-next (is Or) (λ t. conjunction_with c.args.depth (sequences c.args.depth)) _ _ _ c.alternatives.invariant.1
      _ _ (expect-lead Or _ _ c.in-Some.ensures.token) c.in-Some.ensures.shorter _ _ _
      (omega (arith, c.in-Ok.ensures.shorter))
      c.in-Ok.ensures.read (ap (map sequence_of) c.in-Ok-push_sequence.ensures.ok ∙ map-push sequence_of _ _)),
)

pub read_intersection-meets-init : goal.read_intersection-meets-init
read_intersection-meets-init t c = (
  omega arith,
  subst (λ (xs : List (SequenceTree)). Turns (is Intersect) (λ t. during_with c.args.depth (sequences c.args.depth))
      c.args.tokens.now (map sequence_of xs) c.args.tokens.now) (sym c.new-found.ensures.items)
      (turns-init (is Intersect) (λ t. during_with c.args.depth (sequences c.args.depth)) c.args.tokens.now),
)

pub read_intersection-returns-in_default-clause-read : goal.read_intersection-returns-in_default-clause-read
read_intersection-returns-in_default-clause-read t c =
    gives-as _ _ _ _
    (meet-ok _ _ _ _ _
    (turns-stop (is Intersect) (λ t. during_with c.args.depth (sequences c.args.depth)) _ _ _ c.meets.invariant.1
    (expect-lead Intersect _ _ c.in_default.ensures.token)))
    c.with_others.ensures.read

pub read_intersection-returns-in-Err-clause-read : goal.read_intersection-returns-in-Err-clause-read
read_intersection-returns-in-Err-clause-read t c =
    meet-fails _ _ _ _
    (turns-fail (is Intersect) (λ t. during_with c.args.depth (sequences c.args.depth)) _ _ _ c.meets.invariant.1 _ _
    (expect-lead Intersect _ _ c.in-Some.ensures.token) c.in-Some.ensures.shorter _
    (with-fails _ _ _ c.in-Err.ensures.read))

pub read_intersection-meets-preserved : goal.read_intersection-meets-preserved
read_intersection-meets-preserved t c = (
  omega (
    arith,
    ap length c.same-left.ensures,
    c.in-Ok.ensures.shorter,
    c.in-Some.ensures.shorter,
    c.meets.invariant.0,
  ),
  subst (λ (ts : List Token). Turns (is Intersect)
      (λ t. during_with c.args.depth (sequences c.args.depth)) c.args.tokens.now
      (map sequence_of c.push_sequence.new.found.items) ts) (sym c.same-left.ensures)
      (turns-next (is Intersect) (λ t. during_with c.args.depth (sequences c.args.depth)) _ _ _ c.meets.invariant.1 _ _
      (expect-lead Intersect _ _ c.in-Some.ensures.token) c.in-Some.ensures.shorter _ _ _
      (omega (arith, c.in-Ok.ensures.shorter))
      (with-during _ _ _ c.in-Ok.ensures.read) (ap (map sequence_of) c.in-Ok-push_sequence.ensures.ok
      ∙ map-push sequence_of _ _)),
)

pub read_conjunction-conjuncts-init : goal.read_conjunction-conjuncts-init
read_conjunction-conjuncts-init t c = (
  omega arith,
  subst (λ (xs : List (SequenceTree)). Turns (is And) (λ t. intersection_with c.args.depth (sequences c.args.depth))
      c.args.tokens.now (map sequence_of xs) c.args.tokens.now) (sym c.new-found.ensures.items)
      (turns-init (is And) (λ t. intersection_with c.args.depth (sequences c.args.depth)) c.args.tokens.now),
)

pub read_conjunction-returns-in_default-clause-read : goal.read_conjunction-returns-in_default-clause-read
read_conjunction-returns-in_default-clause-read t c =
    gives-as _ _ _ _
    (conjunction-ok _ _ _ _ _
    (turns-stop (is And) (λ t. intersection_with c.args.depth (sequences c.args.depth)) _ _ _ c.conjuncts.invariant.1
    (expect-lead And _ _ c.in_default.ensures.token)))
    c.with_others.ensures.read

pub read_conjunction-returns-in-Err-clause-read : goal.read_conjunction-returns-in-Err-clause-read
read_conjunction-returns-in-Err-clause-read t c =
    conjunction-fails _ _ _ _
    (turns-fail (is And)
    (λ t. intersection_with c.args.depth (sequences c.args.depth)) _ _ _ c.conjuncts.invariant.1 _ _
    (expect-lead And _ _ c.in-Some.ensures.token) c.in-Some.ensures.shorter _
    c.in-Err.ensures.read)

pub read_conjunction-conjuncts-preserved : goal.read_conjunction-conjuncts-preserved
read_conjunction-conjuncts-preserved t c = (
  omega (
    arith,
    ap length c.same-left.ensures,
    c.in-Ok.ensures.shorter,
    c.in-Some.ensures.shorter,
    c.conjuncts.invariant.0,
  ),
  subst (λ (ts : List Token). Turns (is And)
      (λ t. intersection_with c.args.depth (sequences c.args.depth)) c.args.tokens.now
      (map sequence_of c.push_sequence.new.found.items) ts) (sym c.same-left.ensures)
      (turns-next (is And)
      (λ t. intersection_with c.args.depth (sequences c.args.depth)) _ _ _ c.conjuncts.invariant.1 _ _
      (expect-lead And _ _ c.in-Some.ensures.token) c.in-Some.ensures.shorter _ _ _
      (omega (arith, c.in-Ok.ensures.shorter))
      c.in-Ok.ensures.read (ap (map sequence_of) c.in-Ok-push_sequence.ensures.ok
      ∙ map-push sequence_of _ _)),
)

pub read_delayed-steps-init : goal.read_delayed-steps-init
read_delayed-steps-init t c = (
  omega arith,
  subst (λ (xs : List (Range × SequenceTree)). Turns (is Delay)
      (λ t. late_part c.args.depth (sequences c.args.depth)) c.args.tokens.now (map delay_step_of xs) c.args.tokens.now)
      (sym c.new-found.ensures.items)
      (turns-init (is Delay) (λ t. late_part c.args.depth (sequences c.args.depth)) c.args.tokens.now),
)

pub read_delayed-returns-in_default-clause-read : goal.read_delayed-returns-in_default-clause-read
read_delayed-returns-in_default-clause-read t c =
    gives-as _ _ _ _
    (delayed-ok _ _ _ _ _
    (turns-stop (is Delay) (λ t. late_part c.args.depth (sequences c.args.depth)) _ _ _ c.steps.invariant.1
    (expect-lead Delay _ _ c.in_default.ensures.token)))
    c.with_steps.ensures.read

pub read_delayed-returns-in-Err-clause-read : goal.read_delayed-returns-in-Err-clause-read
read_delayed-returns-in-Err-clause-read t c =
    delayed-fails _ _ _ _
    (turns-fail (is Delay) (λ t. late_part c.args.depth (sequences c.args.depth)) _ _ _ c.steps.invariant.1 _ _
    (expect-lead Delay _ _ c.in-Some.ensures.token) c.in-Some.ensures.shorter _ c.in-Err.ensures.read)

pub read_delayed-steps-preserved : goal.read_delayed-steps-preserved
read_delayed-steps-preserved t c = (
  omega (arith, ap length c.same-left.ensures, c.in-Ok.ensures.shorter, c.in-Some.ensures.shorter, c.steps.invariant.0),
  subst (λ (ts : List Token). Turns (is Delay) (λ t. late_part c.args.depth (sequences c.args.depth)) c.args.tokens.now
      (map delay_step_of c.push_step.new.found.items) ts) (sym c.same-left.ensures)
      (turns-next (is Delay) (λ t. late_part c.args.depth (sequences c.args.depth)) _ _ _ c.steps.invariant.1 _ _
      (expect-lead Delay _ _ c.in-Some.ensures.token) c.in-Some.ensures.shorter _ _ _
      (omega (arith, c.in-Ok.ensures.shorter))
      c.in-Ok.ensures.read (ap (map delay_step_of) c.in-Ok-push_step.ensures.ok ∙ map-push delay_step_of _ _)),
)

pub read_behind-returns-clause-read : goal.read_behind-returns-clause-read
read_behind-returns-clause-read t c =
    gives-as _ _ _ _
    (behind-ok _ _ _ _ _ _ _ _ _ c.in-Ok.ensures.side.0 c.in-Ok.ensures.side.1 c.in-Ok-deeper.ensures.some
    c.in-Ok-read_during.ensures.read)
    c.throughout.ensures.read

pub read_body-returns-in-Err-clause-read : goal.read_body-returns-in-Err-clause-read
read_body-returns-in-Err-clause-read t c =
    body-plain-fails _ _ _ c.in_default.ensures.token c.in-Err.ensures.read

pub read_body-returns-in_default-clause-read : goal.read_body-returns-in_default-clause-read
read_body-returns-in_default-clause-read t c =
    gives-as _ _ _ _ (body-plain-ok _ _ _ _ c.in_default.ensures.token c.in-Ok.ensures.read)
    c.plain.ensures.read

pub read_body-returns-in-Err-deeper-clause-read : goal.read_body-returns-in-Err-deeper-clause-read
read_body-returns-in-Err-deeper-clause-read t c =
    body-deep _ _ _ _ _ c.in-Some.ensures.token c.in-Err-deeper.ensures.none

pub read_body-returns-in-Err-read_sequence-clause-read : goal.read_body-returns-in-Err-read_sequence-clause-read
read_body-returns-in-Err-read_sequence-clause-read t c =
    body-fail1 _ _ _ _ _ _ c.in-Some.ensures.token c.in-Ok-deeper.ensures.some c.in-Err-read_sequence.ensures.read

pub read_body-returns-in-Err-expect-clause-read : goal.read_body-returns-in-Err-expect-clause-read
read_body-returns-in-Err-expect-clause-read t c =
    body-fail2 _ _ _ _ _ _ _ _ c.in-Some.ensures.token c.in-Ok-deeper.ensures.some c.in-Ok-read_sequence.ensures.read
    c.in-Err-expect.ensures.token

pub read_body-returns-clause-read : goal.read_body-returns-clause-read
read_body-returns-clause-read t c =
    gives-as _ _ _ _ (body-tail _ _ _ _ _ _ _ _ _ c.in-Some.ensures.token c.in-Ok-deeper.ensures.some
    c.in-Ok-read_sequence.ensures.read c.in-Ok-expect.ensures.token)
    c.regroup.ensures.read

pub read_late-returns-in-Err-clause-read : goal.read_late-returns-in-Err-clause-read
read_late-returns-in-Err-clause-read t c =
    late-part-fail1 _ _ _ c.in-Err.ensures.read

pub read_late-returns-in-Err-read_body-clause-read : goal.read_late-returns-in-Err-read_body-clause-read
read_late-returns-in-Err-read_body-clause-read t c =
    late-part-fail2 _ _ _ _ _ c.in-Ok.ensures.read c.in-Err-read_body.ensures.read

pub read_late-returns-in-Err-read_repeat-clause-read : goal.read_late-returns-in-Err-read_repeat-clause-read
read_late-returns-in-Err-read_repeat-clause-read t c =
    late-part-fail3 _ _ _ _ _ _ _ c.in-Ok.ensures.read c.in-Ok-read_body.ensures.read
    c.in-Err-read_repeat.ensures.read

pub read_late-returns-clause-read : goal.read_late-returns-clause-read
read_late-returns-clause-read t c =
    late-part-ok _ _ _ _ _ _ _ _ c.in-Ok.ensures.read c.in-Ok-read_body.ensures.read c.in-Ok-read_repeat.ensures.read

pub read_behind-returns-in-Err-read_repeat-clause-read : goal.read_behind-returns-in-Err-read_repeat-clause-read
read_behind-returns-in-Err-read_repeat-clause-read t c =
    behind-fails _ _ _ _ _ c.in-Err.ensures.side.0 c.in-Err.ensures.side.1 c.in-Err-read_repeat.ensures.read

pub read_behind-returns-in-Err-clause-read : goal.read_behind-returns-in-Err-clause-read
read_behind-returns-in-Err-clause-read t c =
    gives-as _ _ _ _ (behind-tail _ _ _ _ _ _ c.in-Err.ensures.side.0 c.in-Err.ensures.side.1
    c.in-Ok-read_repeat.ensures.read)
    c.read_delayed.ensures.read

pub read_behind-returns-in-Err-deeper-clause-read : goal.read_behind-returns-in-Err-deeper-clause-read
read_behind-returns-in-Err-deeper-clause-read t c =
    behind-deep _ _ _ _ _ _ _ c.in-Ok.ensures.side.0 c.in-Ok.ensures.side.1 c.in-Err-deeper.ensures.none

pub read_behind-returns-in-Err-read_during-clause-read : goal.read_behind-returns-in-Err-read_during-clause-read
read_behind-returns-in-Err-read_during-clause-read t c =
    behind-fail2 _ _ _ _ _ _ _ _ c.in-Ok.ensures.side.0 c.in-Ok.ensures.side.1 c.in-Ok-deeper.ensures.some
    c.in-Err-read_during.ensures.read

pub read_during-returns-in-Err-clause-read : goal.read_during-returns-in-Err-clause-read
read_during-returns-in-Err-clause-read t c =
    during-plain-fails _ _ _ c.in_default.ensures.token c.in-Err.ensures.read

pub read_during-returns-in_default-clause-read : goal.read_during-returns-in_default-clause-read
read_during-returns-in_default-clause-read t c =
    gives-as _ _ _ _ (during-tail _ _ _ _ c.in_default.ensures.token c.in-Ok.ensures.read)
    c.read_behind.ensures.read

pub read_during-returns-in-Err-read_late-clause-read : goal.read_during-returns-in-Err-read_late-clause-read
read_during-returns-in-Err-read_late-clause-read t c =
    during-late-fails _ _ _ _ _ c.in-Some.ensures.token c.in-Err-read_late.ensures.read

pub read_conjunct-returns-in-Err-clause-read : goal.read_conjunct-returns-in-Err-clause-read
read_conjunct-returns-in-Err-clause-read t c =
    conjunct-fail1 _ _ _ c.in-Err.ensures.read

pub read_conjunct-returns-clause-read : goal.read_conjunct-returns-clause-read
read_conjunct-returns-clause-read t c =
    gives-as _ _ _ _ (conjunct-tail _ _ _ _ c.in-Ok.ensures.read)
    c.read_intersection.ensures.read

pub read_side-returns-in-Err-clause-read : goal.read_side-returns-in-Err-clause-read
read_side-returns-in-Err-clause-read t c =
    side-fail1 _ _ _ c.in-Err.ensures.read

pub read_side-returns-clause-read : goal.read_side-returns-clause-read
read_side-returns-clause-read t c =
    gives-as _ _ _ _ (side-tail _ _ _ _ c.in-Ok.ensures.read)
    c.read_conjunction.ensures.read

pub read_sequence-returns-in-Err-clause-read : goal.read_sequence-returns-in-Err-clause-read
read_sequence-returns-in-Err-clause-read t c =
    whole-fails _ _ _ c.in-Err.ensures.read

pub read_sequence-returns-clause-read : goal.read_sequence-returns-clause-read
read_sequence-returns-clause-read t c =
    gives-as _ _ _ _ (whole-tail _ _ _ _ c.in-Ok.ensures.read)
    c.read_alternatives.ensures.read

pub read_during-returns-in-Err-late-clause-read : goal.read_during-returns-in-Err-late-clause-read
read_during-returns-in-Err-late-clause-read t c = failing _ _ _ (λ none. absurd cc) c.in-Err-late.ensures.read

pub read_during-returns-clause-read : goal.read_during-returns-clause-read
read_during-returns-clause-read t c =
    gives-as _ _ _ _
    (during-late-tail _ _ _ _ _ _ _ c.in-Some.ensures.token c.in-Ok-read_late.ensures.read
    ∙ ap (λ (p : SequenceForm × List Token). delayed_behind c.args.depth (sequences c.args.depth) p.0 p.1)
    (same_Some _ _ c.in-Ok-late.ensures.read))
    c.read_delayed.ensures.read
