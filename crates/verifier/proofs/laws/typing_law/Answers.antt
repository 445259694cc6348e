use Rattle.verifier.specs.Rules.{sample_rules}
use Rattle.verifier.proofs.CodeLaws.{typed_code, faultless_code, typed_section, faultless_section}
use Rattle.verifier.proofs.laws.typing_law.Goals as goal

pub returns : goal.returns
returns c =
    record {
      sample = λ f code. (typed_code (sample_rules f) 0 code, λ t. faultless_code (sample_rules f) 0 code t.0 t.1 t.2);
      section = λ n atoms s. (typed_section n atoms s, faultless_section n atoms s);
    }
