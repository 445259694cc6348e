-- Implications.
use Rattle.parser_grammar.specs.declared.operator.Implication.{Implication}
use Rattle.parser_grammar.specs.declared.operator.Implication.TheVariants.{Overlapped}
use Rattle.parser_grammar.specs.declared.operator.Implication.TheVariants.{NonOverlapped}
use Rattle.types.specs.Drafts.{Draft, boolean, delay}

-- The antecedent of an implication as that of |->: R |=> S is (R ##1 1) |-> S (IEEE 1800-2017,
-- 16.12.7). true_one is the constant 1.
abbrev pub rewritten_antecedent : {B : Type 0} → B → Implication → Draft B → Draft B
rewritten_antecedent true_one Overlapped r = r
rewritten_antecedent true_one NonOverlapped r = delay r 1 0 (boolean true_one)
