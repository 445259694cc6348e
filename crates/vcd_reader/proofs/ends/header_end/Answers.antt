use Rattle.std.proofs.Common.{◌∙◌, ◌∷◌, [], Bool, List, subst, arith, refl, ap}
use Rattle.std.specs.Prelude.{slice_range}
use Rattle.vcd_reader.specs.Tokens.{DumpToken}
use Rattle.vcd_reader.specs.Header.{header}
use Rattle.vcd_reader.specs.Ends.{GoesOn}
use Rattle.vcd_reader.specs.Sections.{tokens_at}
use Rattle.vcd_reader.proofs.HeaderLaws.{opened, header-none}
use Rattle.vcd_reader.proofs.ResumedLaws.{resumed-err}
use Rattle.vcd_reader.proofs.ends.header_end.Goals as goal

pub sections-init : goal.sections-init
sections-init c = record { high = omega arith; same = ([], [], refl) }

pub returns-in_default-clause-end : goal.returns-in_default-clause-end
returns-in_default-clause-end c =
    c.sections.invariant.same.2 ∙ header-none _ _ _ c.in_default.ensures.tokens

pub returns-in_err-stop-clause-end : goal.returns-in_err-stop-clause-end
returns-in_err-stop-clause-end c =
    let old = c.sections.invariant.same in
    rw (resumed-err _ _ c.from_residual.ensures.1)
    (old.2 ∙ ap (λ (ts : List DumpToken). header old.0 old.1 ts) c.in-Some.ensures.tokens
    ∙ c.in_err-stop.ensures.section old.0 old.1)

pub returns-then-last-clause-end : goal.returns-then-last-clause-end
returns-then-last-clause-end c =
    let bytes = c.args.bytes.now in
    let old = c.sections.invariant.same in
    let word = opened (slice_range bytes c.in-Some.from c.in-Some.end) c.in-Some.from in
    let read = header old.0 old.1 (word ∷ tokens_at bytes c.in-Some.end) in
    record {
      declared = old.1;
      read = old.2 ∙ ap (λ (ts : List DumpToken). header old.0 old.1 ts) c.in-Some.ensures.tokens
          ∙ subst (λ (b : Bool). GoesOn b old.1 read (tokens_at bytes c.in_ok-stop.stop)) c.if-last.true
          (c.in_ok-stop.ensures.section old.0 old.1);
      behind = c.in_ok-stop.ensures.behind c.if-last.true;
    }

pub sections-preserved : goal.sections-preserved
sections-preserved c =
    let bytes = c.args.bytes.now in
    let old = c.sections.invariant.same in
    let word = opened (slice_range bytes c.in-Some.from c.in-Some.end) c.in-Some.from in
    let read = header old.0 old.1 (word ∷ tokens_at bytes c.in-Some.end) in
    let went =
    subst (λ (b : Bool). GoesOn b old.1 read (tokens_at bytes c.in_ok-stop.stop)) c.if-last.false
    (c.in_ok-stop.ensures.section old.0 old.1) in
    record {
      high = c.in_ok-stop.ensures.high.1;
      same = (
        went.0,
        went.1,
        old.2 ∙ ap (λ (ts : List DumpToken). header old.0 old.1 ts) c.in-Some.ensures.tokens ∙ went.2,
      );
    }
