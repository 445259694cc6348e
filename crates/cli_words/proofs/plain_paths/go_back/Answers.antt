use Rattle.std.proofs.Common.{◌≡◌, ◌-◌, ◌∙◌, ℕ, List, Bor, length, map, sym, ap, arith}
use Rattle.cli_words.specs.Paths.{ends_in_name}
use Rattle.cli_words.proofs.PathLaws.{bytes_of, over_last}
use Rattle.cli_words.proofs.plain_paths.go_back.Goals as goal

pub returns-then-ends_in_name : goal.returns-then-ends_in_name
returns-then-ends_in_name c =
    let parts : List (Bor (List ℕ)) = c.args.parts.now.items in
    let size : c.saturating_sub.result ≡ length parts - 1 = omega arith in
    ap (map bytes_of) c.truncate.ensures.items
    ∙ over_last c.args.rooted parts c.saturating_sub.result
    (ap (λ (l : List (Bor (List ℕ))). ends_in_name (map bytes_of l)) (sym c.as_slice.ensures.value)
    ∙ sym c.ends_in_name.ensures ∙ c.if-ends_in_name.true)
    size
