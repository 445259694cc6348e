use Rattle.std.proofs.Common.{◌≡◌, ◌≤◌, ℕ, List, [], ◌∷◌, map, refl, sym, ap, ◌∙◌, subst}
use Rattle.bytecode_programs.specs.Values.{ProgramData}
use Rattle.machine.specs.Running.{Running}
use Rattle.answers_bytecode.proofs.run.Run.new.Goals as goal

map-twice : {A B : Type 0} (f : A → B) (g : B → ℕ) (xs : List A) → map g (map f xs) ≡ map (λ x. g (f x)) xs
map-twice f g [] = refl
map-twice f g (x ∷ xs) = ap (λ l. g (f x) ∷ l) (map-twice f g xs)

pub invariant_of-result : goal.invariant_of-result
invariant_of-result c =
    let whole = ap (λ (r : Running). r.program) c.in-Ok.ensures.machine in
    record {
      tied =
          c.in_ok-widths.ensures
          ∙ sym (map-twice _ (λ s. s.width) c.program.result.now.signals.items)
          ∙ ap (λ (p : ProgramData). map (λ s. s.width) p.signals) (c.program.ensures.same ∙ sym whole);
      few = subst (λ (p : ProgramData). p.header.limits.attempts ≤ 1024) (sym whole)
          c.program.ensures.accepted.room.attempts;
    }
