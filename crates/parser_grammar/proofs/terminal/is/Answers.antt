use Rattle.std.proofs.Common.{◌≡◌, ◌⊎◌, Bool, true, false, refl, sym, ap, ◌∙◌, inl, inr, rules}
use denote.Enum.Bare.{sameb, same_true, same_false}
use Rattle.parser_grammar.specs.contracts.terminal.Terminal.{the_type}
use Rattle.parser_grammar.specs.Terminals.{terminal}
use Rattle.parser_grammar.proofs.TerminalLaws.{true-is, false-is}
use Rattle.parser_grammar.proofs.terminal.is.Goals as goal

tells : (b : Bool) → (b ≡ true) ⊎ (b ≡ false)
tells true = inl refl
tells false = inr refl

pub returns : goal.returns
returns c =
    let e = ap (sameb the_type c.args.wanted) c.terminal_of.ensures in
    elim (tells (sameb the_type c.args.wanted (terminal c.args.token))) [
      | inl h ↦ c.eq.ensures ∙ e ∙ h
          ∙ sym (true-is c.args.wanted c.args.token (sym (same_true the_type (search rules) _ _ h)))
      | inr h ↦ c.eq.ensures ∙ e ∙ h
          ∙ sym (false-is c.args.wanted c.args.token (λ k. same_false the_type _ _ h (sym k)))
    ]
