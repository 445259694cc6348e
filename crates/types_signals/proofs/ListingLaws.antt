-- Signals of expressions, sequences and items, part by part.
use Rattle.std.proofs.Common.{◌≡◌, ℕ, List, ◌++◌, sym, ap, ◌∙◌}
use Rattle.lexer.specs.declared.token.Token.{Token}
use Rattle.parser_grammar.specs.declared.bound.Range.{Range}
use Rattle.parser_grammar.specs.declared.operator.Infix.{Infix}
use Rattle.parser_grammar.specs.declared.operator.Junction.{Junction}
use Rattle.parser_grammar.specs.Trees.{Tree, concatenation, chain, choice, Links, link, Parts, part, SequenceForm}
use Rattle.parser_grammar.specs.Trees.{delayed}
use Rattle.parser_grammar.specs.Trees.{throughout, joined, Steps, step, Others, other}
use Rattle.types_names.specs.Scopes.{Scope}
use Rattle.types_names.specs.Columns.{signals, link_signals, part_signals, sequence_signals, step_signals}
use Rattle.types_names.specs.Columns.{other_signals, with_paths}
use Rattle.types_names.proofs.ColumnLaws.{with_paths-append}
use Rattle.types_names.proofs.Lists.{Joins}

-- paths of one list and of another after it
pub listed-joined : (ps qs total : List (List ℕ)) (before between after : List (List ℕ)) → Joins total ps qs
    → between ≡ with_paths before ps → after ≡ with_paths between qs → after ≡ with_paths before total
listed-joined ps qs total before between after is one two =
    two ∙ ap (λ known. with_paths known qs) one ∙ sym (with_paths-append before ps qs)
    ∙ ap (with_paths before) (sym is.is)

pub listed-step : (ps rest now : List (List ℕ)) (before after whole : List (List ℕ)) → Joins now ps rest
    → after ≡ with_paths before ps → with_paths before now ≡ whole → with_paths after rest ≡ whole
listed-step ps rest now before after whole is one h =
    sym (sym h ∙ ap (with_paths before) is.is ∙ with_paths-append before ps rest
    ∙ ap (λ known. with_paths known rest) (sym one))

module _ (s : Scope) where
  pub signals-concatenation : (x : Tree) (t : Token) (e : Tree) (parts : Parts) → x ≡ concatenation t e parts
      → Joins (signals s x) (signals s e) (part_signals s parts)
  unfolding signals
  signals-concatenation x t e parts is = record { is = ap (signals s) is }

  pub signals-chain : (x e : Tree) (links : Links) → x ≡ chain e links
      → Joins (signals s x) (signals s e) (link_signals s links)
  unfolding signals
  signals-chain x e links is = record { is = ap (signals s) is }

  pub signals-choice : (x c a b : Tree) → x ≡ choice c a b
      → Joins (signals s x) (signals s c) ((signals s a ++ signals s b))
  unfolding signals
  signals-choice x c a b is = record { is = ap (signals s) is }

  pub signals-link : (now : Links) (op : Infix) (e : Tree) (rest : Links) → now ≡ link op e rest
      → Joins (link_signals s now) (signals s e) (link_signals s rest)
  unfolding signals
  signals-link now op e rest is = record { is = ap (link_signals s) is }

  pub signals-part : (now : Parts) (e : Tree) (rest : Parts) → now ≡ part e rest
      → Joins (part_signals s now) (signals s e) (part_signals s rest)
  unfolding signals
  signals-part now e rest is = record { is = ap (part_signals s) is }

  pub signals-delayed : (x q : SequenceForm) (steps : Steps) → x ≡ delayed q steps
      → Joins (sequence_signals s x) (sequence_signals s q) (step_signals s steps)
  unfolding sequence_signals
  signals-delayed x q steps is = record { is = ap (sequence_signals s) is }

  pub signals-throughout : (x : SequenceForm) (e : Tree) (q : SequenceForm) → x ≡ throughout e q
      → Joins (sequence_signals s x) (signals s e) (sequence_signals s q)
  unfolding sequence_signals
  signals-throughout x e q is = record { is = ap (sequence_signals s) is }

  pub signals-joined : (x : SequenceForm) (j : Junction) (q : SequenceForm) (others : Others) → x ≡ joined j q others
      → Joins (sequence_signals s x) (sequence_signals s q) (other_signals s others)
  unfolding sequence_signals
  signals-joined x j q others is = record { is = ap (sequence_signals s) is }

  pub signals-step : (now : Steps) (n : Range) (q : SequenceForm) (rest : Steps) → now ≡ step n q rest
      → Joins (step_signals s now) (sequence_signals s q) (step_signals s rest)
  unfolding sequence_signals
  signals-step now n q rest is = record { is = ap (step_signals s) is }

  pub signals-other : (now : Others) (q : SequenceForm) (rest : Others) → now ≡ other q rest
      → Joins (other_signals s now) (sequence_signals s q) (other_signals s rest)
  unfolding sequence_signals
  signals-other now q rest is = record { is = ap (other_signals s) is }
