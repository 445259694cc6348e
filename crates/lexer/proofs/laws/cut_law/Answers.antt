use Rattle.std.proofs.Common.{◌≡◌, ℕ, List, Result, Ok, Err, ap, refl}
use Rattle.lexer.specs.declared.fault.LexFault.{LexFault}
use Rattle.lexer.specs.Cutting.{Cut, tokens_of}
use Rattle.lexer.specs.Covering.{IsCut, IsFaulty}
use Rattle.lexer.proofs.CoveringLaws.{tokens_of-covered, tokens_of-first, tokens_of-memory}
use Rattle.lexer.proofs.OneCut.{cut_same, cut_faultless, fault_same}
use Rattle.lexer.proofs.laws.cut_law.Goals as goal

found : (text : List ℕ) (tokens : List Cut) → IsCut 0 text tokens → (r : Result (List Cut) LexFault)
    → tokens_of text ≡ r → r ≡ Ok tokens
found text tokens cut (Ok cs) e = ap (λ (xs : List Cut). Ok xs) (cut_same (tokens_of-covered text cs e) cut)
found text tokens cut (Err fault) e = absurd (cut_faultless cut fault (tokens_of-first text fault e))

refused : (text : List ℕ) (fault : LexFault) → IsFaulty 0 text fault → (r : Result (List Cut) LexFault)
    → tokens_of text ≡ r → r ≡ Err fault
refused text fault faulty (Ok cs) e = absurd (cut_faultless (tokens_of-covered text cs e) fault faulty)
refused text fault faulty (Err f) e = ap (λ (g : LexFault). Err g) (fault_same (tokens_of-first text f e) faulty)

pub returns-clause-tokens : goal.returns-clause-tokens
returns-clause-tokens c =
    λ text tokens. (tokens_of-covered text tokens, λ cut. found text tokens cut (tokens_of text) refl)

pub returns-clause-fault : goal.returns-clause-fault
returns-clause-fault c =
    λ text fault. (tokens_of-first text fault, λ faulty. refused text fault faulty (tokens_of text) refl)

pub returns-clause-memory : goal.returns-clause-memory
returns-clause-memory c = tokens_of-memory
