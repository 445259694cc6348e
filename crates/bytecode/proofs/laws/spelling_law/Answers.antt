use Rattle.std.proofs.Common.{false, [], ◌++◌, ap}
use Rattle.bytecode.proofs.ProgramLaws.{one-program, program-more}
use Rattle.bytecode.proofs.laws.spelling_law.Goals as goal

pub returns-clause-prefix_free : goal.returns-clause-prefix_free
returns-clause-prefix_free c = one-program

pub returns-clause-one_program : goal.returns-clause-one_program
returns-clause-one_program c =
    λ first other x y p q e. (one-program first other x y [] [] p q (ap (λ t. t ++ []) e)).1

pub returns-clause-more : goal.returns-clause-more
returns-clause-more c = λ x fits. program-more false x fits
