use Rattle.std.proofs.Common.{◌≡◌, ℕ, List, Ok, refl, string_bytes, subst}
use Rattle.std.specs.Io.KnownBytes.{Appends}
use Rattle.vcd_reader.specs.Dump.{dump_of}
use Rattle.lint.specs.Tells.{WhyNoTextOver, WhyTextUnwritten, WhyNotLinted}
use Rattle.lint.proofs.LintedLaws.{err_is, untold, cut_short}
use Rattle.lint.proofs.lint.lint_one.Goals as goal

pub returns-in_err-bytes-clause-refused : goal.returns-in_err-bytes-clause-refused
returns-in_err-bytes-clause-refused g c =
    let text = c.args.text.now in
    let parts = c.args.origin.now.parts.now in
    let added = c.args.origin.now.added.now in
    let before = g.S.Source.state c.args.source.now in
    let after = g.S.Source.state c.bytes_of.new.source in
    let out = g.W.Sink.state c.args.out.now in
    let fault = c.in_err-bytes.field-0.0 in
    err_is c.from_residual.result fault (WhyNotLinted text parts added before after out out) c.from_residual.ensures.1
    (untold text parts added before after out out refl fault c.in_err-bytes.ensures.refused)

pub returns-in_err-rest-clause-refused : goal.returns-in_err-rest-clause-refused
returns-in_err-rest-clause-refused g c =
    let text = c.args.text.now in
    let parts = c.args.origin.now.parts.now in
    let added = c.args.origin.now.added.now in
    let before = g.S.Source.state c.args.source.now in
    let after = g.S.Source.state c.bytes_of.new.source in
    let out = g.W.Sink.state c.args.out.now in
    let fault = c.in_err-rest.field-0.0 in
    let none = subst (λ (bs : List ℕ). WhyNoTextOver bs fault) c.as_slice.ensures.value c.in_err-rest.ensures.refused in
    err_is c.from_residual-in_err-rest.result fault (WhyNotLinted text parts added before after out out)
    c.from_residual-in_err-rest.ensures.1
    (untold text parts added before after out out refl fault
    (none before after c.in_ok-bytes.ensures.gave c.in_ok-bytes.ensures.counted))

pub returns-in_err-write_told-clause-refused : goal.returns-in_err-write_told-clause-refused
returns-in_err-write_told-clause-refused g c =
    let text = c.args.text.now in
    let parts = c.args.origin.now.parts.now in
    let added = c.args.origin.now.added.now in
    let before = g.S.Source.state c.args.source.now in
    let after = g.S.Source.state c.bytes_of.new.source in
    let held = g.W.Sink.state c.args.out.now in
    let holds = g.W.Sink.state c.write_told.new.out in
    let told = c.in_ok-rest.ensures.told in
    let rest = c.in_ok-rest.rest in
    let fault = c.in_err-write_told.field-0.0 in
    err_is c.from_residual-in_err-write_told.result fault (WhyNotLinted text parts added before after held holds)
    c.from_residual-in_err-write_told.ensures.1
    (cut_short text parts added before after held holds told.0 told.2 rest.refused (string_bytes rest.told) rest.text (
      c.in_ok-bytes.bytes.items,
      c.in_ok-bytes.ensures.gave,
      subst (λ (bs : List ℕ). dump_of bs ≡ Ok told.0) c.as_slice.ensures.value told.1,
    )
    c.in_ok-bytes.ensures.counted told.3 fault
    (subst (λ (t : List ℕ). WhyTextUnwritten held holds t fault) c.as_str.ensures.value
    c.in_err-write_told.ensures.refused))

pub returns-clause-linted : goal.returns-clause-linted
returns-clause-linted g c =
    let told = c.in_ok-rest.ensures.told in
    let rest = c.in_ok-rest.rest in
    let before = g.W.Sink.state c.args.out.now in
    let after = g.W.Sink.state c.write_told.new.out in
    record {
      contents = told.0;
      gave = (
        c.in_ok-bytes.bytes.items,
        c.in_ok-bytes.ensures.gave,
        subst (λ (bs : List ℕ). dump_of bs ≡ Ok told.0) c.as_slice.ensures.value told.1,
      );
      told = string_bytes rest.told;
      rest = rest.text;
      notes = told.2;
      tells = told.3;
      written = subst (λ (t : List ℕ). Appends before.contents after.contents t) c.as_str.ensures.value
          c.in_ok-write_told.ensures.written;
      flushed = c.in_ok-write_told.ensures.flushed;
    }
