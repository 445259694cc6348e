use Rattle.std.proofs.Common.{ℕ, List, Bor, map, ap}
use Rattle.vcd_declarations.specs.Sections.{texts}
use Rattle.vcd_declarations.specs.Declarations.{declarations_in, declarations}
use Rattle.vcd_declarations.specs.Views.{left_in}
use Rattle.vcd_declarations.proofs.header.Header.new.Goals as goal

pub returns : goal.returns
unfolding left_in declarations
returns c =
    ap (λ (ss : List (Bor (List ℕ))). declarations_in (map (λ s. s.now) ss) (texts c.args.bytes.now))
    c.new.ensures.items
