-- Faults of sequences and items, part by part.
use Rattle.std.proofs.Common.{◌≡◌, ℕ, List, Option, sym, ap, ◌∙◌}
use Rattle.parser_grammar.specs.declared.bound.Range.{Range}
use Rattle.parser_grammar.specs.declared.operator.Junction.{Junction}
use Rattle.parser_grammar.specs.Trees.{Tree, SequenceForm, delayed}
use Rattle.parser_grammar.specs.Trees.{throughout, joined, Steps, step, Others, other}
use Rattle.types_names.specs.declared.own.Sought.{Sought}
use Rattle.types_names.specs.Scopes.{Scope}
use Rattle.types_names.specs.Faults.{faults, sequence_faults, step_faults, other_faults, earlier, least}
use Rattle.types_names.proofs.FaultLaws.{earlier-assoc, least-append}
use Rattle.types_names.proofs.Lists.{Joins}

-- the least of one list and of another after it
pub least-joined : (xs ys total : List ℕ) (first last : Option ℕ) → Joins total xs ys → first ≡ least xs
    → last ≡ earlier first (least ys) → last ≡ least total
least-joined xs ys total first last is one two =
    two ∙ ap (λ o. earlier o (least ys)) one ∙ sym (least-append xs ys) ∙ ap least (sym is.is)

-- one more of a loop
pub least-step : (xs rest now : List ℕ) (f g next total : Option ℕ) → Joins now xs rest → g ≡ least xs
    → next ≡ earlier f g → earlier f (least now) ≡ total → earlier next (least rest) ≡ total
least-step xs rest now f g next total is one two h =
    ap (λ o. earlier o (least rest)) (two ∙ ap (earlier f) one) ∙ earlier-assoc f (least xs) (least rest)
    ∙ ap (earlier f) (sym (least-append xs rest)) ∙ ap (λ zs. earlier f (least zs)) (sym is.is) ∙ h

module _ (s : Scope) (k : Sought) where
  pub faults-delayed : (x q : SequenceForm) (steps : Steps) → x ≡ delayed q steps
      → Joins (sequence_faults s k x) (sequence_faults s k q) (step_faults s k steps)
  unfolding sequence_faults
  faults-delayed x q steps is = record { is = ap (sequence_faults s k) is }

  pub faults-throughout : (x : SequenceForm) (e : Tree) (q : SequenceForm) → x ≡ throughout e q
      → Joins (sequence_faults s k x) (faults s k e) (sequence_faults s k q)
  unfolding sequence_faults
  faults-throughout x e q is = record { is = ap (sequence_faults s k) is }

  pub faults-joined : (x : SequenceForm) (j : Junction) (q : SequenceForm) (others : Others) → x ≡ joined j q others
      → Joins (sequence_faults s k x) (sequence_faults s k q) (other_faults s k others)
  unfolding sequence_faults
  faults-joined x j q others is = record { is = ap (sequence_faults s k) is }

  pub faults-step : (now : Steps) (n : Range) (q : SequenceForm) (rest : Steps) → now ≡ step n q rest
      → Joins (step_faults s k now) (sequence_faults s k q) (step_faults s k rest)
  unfolding sequence_faults
  faults-step now n q rest is = record { is = ap (step_faults s k) is }

  pub faults-other : (now : Others) (q : SequenceForm) (rest : Others) → now ≡ other q rest
      → Joins (other_faults s k now) (sequence_faults s k q) (other_faults s k rest)
  unfolding sequence_faults
  faults-other now q rest is = record { is = ap (other_faults s k) is }
