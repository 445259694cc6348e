use Rattle.std.proofs.Common.{ℕ, List, sym, take, ap, ◌∙◌}
use Rattle.types_names.specs.Asked.{widths_among}
use Rattle.types_names.specs.Views.{widths_of, columns_in}
use Rattle.types_signals.proofs.AskedLaws.{among-more, among-none, path-taken}
use Rattle.types_signals.proofs.asked.names_among.Goals as goal

pub loop-column-preserved-in_default : goal.loop-column-preserved-in_default
loop-column-preserved-in_default g c = λ q.
    among-none (g.W.PathWidths.widths c.args.widths.now) (take c.loop-column.column (columns_in c.args.asked.now))
    c.path-path.result.now (widths_of c.loop-column.names) (sym c.in_default.ensures) c.loop-column.invariant q
    ∙ sym (ap (λ (ps : List (List ℕ)). widths_among ps (g.W.PathWidths.widths c.args.widths.now) q)
    (path-taken (columns_in c.args.asked.now) c.loop-column.column c.path-path.result.now c.path-path.ensures))

pub loop-column-preserved : goal.loop-column-preserved
loop-column-preserved g c = λ q.
    among-more (g.W.PathWidths.widths c.args.widths.now) (take c.loop-column.column (columns_in c.args.asked.now))
    c.path-path.result.now (widths_of c.loop-column.names) (widths_of c.push.new.self) c.in-Some.width.bits
    (sym c.in-Some.ensures) c.in_ok-push.ensures.ok c.loop-column.invariant q
    ∙ sym (ap (λ (ps : List (List ℕ)). widths_among ps (g.W.PathWidths.widths c.args.widths.now) q)
    (path-taken (columns_in c.args.asked.now) c.loop-column.column c.path-path.result.now c.path-path.ensures))
