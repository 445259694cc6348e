use Rattle.std.proofs.Common.{◌∙◌, sym}
use Rattle.axi4_rules.specs.Drafts.{size_data}
use Rattle.axi4_rules.proofs.RangeLaws.{id_at_most}
use Rattle.axi4_rules.proofs.read.check.Goals as goal

pub are_ids-requires : goal.are_ids-requires
are_ids-requires c = id_at_most (size_data c.args.draft.now.sizes) (sym c.are_sizes.ensures ∙ c.if-not-are_sizes.false)
