use Rattle.std.proofs.Common.{◌≡◌, ◌+◌, ◌*◌, ◌-◌, ℕ, ap, ◌∙◌, map}
use Rattle.bytecode_programs.specs.Instructions.{sample_flow}
use Rattle.bytecode_programs.specs.Programs.{data_of}
use Rattle.verifier.specs.declared.least.LeastLimits.{LeastLimits}
use Rattle.verifier.specs.Limits.{farthest, longest_path, path_sum, start_life}
use Rattle.verifier.specs.Programs.{least_stack, least_attempts, least_obligations, least_budget}
use Rattle.verifier.proofs.limits.limits_of.Goals as goal

abbrev made : ℕ → ℕ → ℕ → ℕ → ℕ → LeastLimits
made history stack attempts obligations budget =
    record { history = history; stack = stack; attempts = attempts; obligations = obligations; budget = budget }

pub returns : goal.returns
returns c =
    let p = data_of c.args.program.now in
    let before = c.in_ok-before.before in
    let after = c.in_ok-after.after in
    let history : c.farthest.result ≡ farthest p.sample = c.farthest.ensures ∙ ap farthest c.deref.ensures.value in
    let attempts : before + after - 1 ≡ least_attempts p =
    ap (λ (n : ℕ). n + after - 1) c.in_ok-before.ensures.life
    ∙ ap (λ (n : ℕ). start_life p.antecedent + n - 1) c.in_ok-after.ensures.life in
    let obligations : after ≡ least_obligations p = c.in_ok-after.ensures.life in
    let budget : c.in_ok-budget.budget ≡ least_budget p =
    c.in_ok-budget.ensures
    ∙ ap (λ (n : ℕ). longest_path 0 (map sample_flow p.sample) + n * (2 + path_sum 0 p.antecedent.blocks) + after
    * (1 + path_sum 0 p.consequent.blocks)) attempts
    ∙ ap (λ (n : ℕ). longest_path 0 (map sample_flow p.sample) + least_attempts p * (2 + path_sum 0 p.antecedent.blocks)
    + n * (1 + path_sum 0 p.consequent.blocks)) obligations in
    ap (λ (n : ℕ). made n c.args.longest (before + after - 1) after c.in_ok-budget.budget) history
    ∙ ap (λ (n : ℕ). made (farthest p.sample) n (before + after - 1) after c.in_ok-budget.budget) c.requires.longest
    ∙ ap (λ (n : ℕ). made (farthest p.sample) (least_stack p) n after c.in_ok-budget.budget) attempts
    ∙ ap (λ (n : ℕ). made (farthest p.sample) (least_stack p) (least_attempts p) n c.in_ok-budget.budget) obligations
    ∙ ap (made (farthest p.sample) (least_stack p) (least_attempts p) (least_obligations p)) budget
