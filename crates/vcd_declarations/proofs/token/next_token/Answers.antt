use Rattle.vcd_declarations.proofs.TextLaws.{texts-none, texts-first}
use Rattle.vcd_declarations.proofs.token.next_token.Goals as goal

pub returns-in_default-clause-texts : goal.returns-in_default-clause-texts
returns-in_default-clause-texts c = texts-none _ _ c.in_default.ensures.tokens

pub returns-clause-texts : goal.returns-clause-texts
returns-clause-texts c = texts-first _ _ _ _ _ _ c.in-Some.ensures.tokens
