use Rattle.std.proofs.Common.{◌∙◌, ap, List}
use Rattle.std.specs.Prelude.{unwrap_or, option_map, slice_get}
use Rattle.lint_notes.specs.declared.head.Head.{Head}
use Rattle.parser_grammar.specs.Views.{items_of}
use Rattle.lint_notes.specs.Idle.{heads}
use Rattle.lint_refusals.proofs.FrontLaws.{head-byte}
use Rattle.lint_refusals.proofs.front.head_byte.Goals as goal

pub returns : goal.returns
returns c =
    c.byte_of-at.ensures
    ∙ ap (λ (hs : List Head). unwrap_or (option_map (λ (h : Head). h.at) (slice_get hs c.args.place)) 0)
    c.as_slice.ensures.value
    ∙ head-byte c.in_ok-heads.heads.items (heads (items_of c.args.file.now)) c.args.place c.in_ok-heads.ensures
