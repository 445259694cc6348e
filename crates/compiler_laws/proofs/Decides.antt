-- The program of an assertion decides as the assertion means.
use Rattle.std.proofs.Common.{◌≡◌, ◌∙◌, ℕ, ◌<◌, Bool, true, false, List, length, map, Option, Some, None, slice_get}
use Rattle.std.proofs.Common.{refl, ap, sym, subst, inl, inr}
use Rattle.std.specs.Option.{option_map}
use Rattle.std.specs.Prelude.{unwrap_or, string_bytes}
use Rattle.std.proofs.Math.Path.{fun_ext}
use Rattle.std.proofs.lemmas.List.{length-map}
use Rattle.std.proofs.lemmas.Option.{slice_get-map, slice_get-get_or, get_or_from_slice_get}
use Rattle.signals.specs.declared.verdict.Verdict.{Verdict}
use Rattle.assertions.specs.declared.sequence.Boolean.{Boolean}
use Rattle.assertions.specs.declared.sequence.Boolean.TheVariants.{One, Listed}
use Rattle.assertions.specs.declared.assertion.Assertion.{Assertion}
use Rattle.assertions.specs.declared.suite.Suite.{Suite}
use Rattle.assertions.specs.Segments.{always, AdmitsEmpty}
use Rattle.assertions.specs.Attempts.{Antecedent, every, first_match}
use Rattle.assertions.specs.Written.{Written, boolean, delay, lead, repeat, or, and, intersect, throughout, kernel}
use Rattle.assertions.specs.Written.{IsOrdered}
use Rattle.assertions.specs.Shapes.{written_form, shape, value_in, off_in, is_true_at, expression_at}
use Rattle.assertions.specs.Verdicts.{antecedent_of}
use Rattle.assertions.proofs.EmptinessLaws.{empty-Matches, Matches-empty}
use Rattle.bytecode_programs.specs.Values.{ProgramData, SectionData}
use Rattle.verifier.specs.Programs.{IsAccepted}
use Rattle.machine_checked.specs.Clocks.{disabling}
use Rattle.report_lines.specs.Lines.{line_data_of}
use Rattle.machine_batches.specs.Lines.{IsLineOver}
use Rattle.machine_sections.specs.Automata.{AutomatonFollows}
use Rattle.machine_sections.specs.Effects.{automaton_of}
use Rattle.machine_sections.specs.Monitors.{program_monitor}
use Rattle.machine_sections.specs.History.{SamplesAs}
use Rattle.machine_sections.specs.Laws.{Watches, Fills}
use Rattle.compiler_laws.specs.LineLaws.{AreVerdicts}
use Rattle.compiler_laws.proofs.Lines.{by-meaning}
use Rattle.positions.specs.Laws.{Occurs, section_for, led_section}
use Rattle.positions.specs.Sections.{told_atom}
use Rattle.positions.proofs.Theorem.{law-section_follows}
use Rattle.positions.proofs.Firsts.{law-follows_first}
use Rattle.assertions.specs.Listed.{EachBoolean, IsListed, IsListedOption}
use Rattle.positions.specs.Sequences.{atom_of}
use Rattle.compiler.specs.Programs.{disabling_atom, IsProgramOf}
use Rattle.compiler_laws.specs.ProgramLaws.{AreSuiteRows, picked_row, AreVerdictsOver, ProgramsDecide}
use Rattle.compiler_laws.proofs.Samples as made

one-listed : (n : ℕ) (b : Boolean) → One ≡ b → IsListed n b
one-listed n b is = subst (IsListed n) is tt

same-listed : (n : ℕ) (b c : Boolean) → IsListed n c → c ≡ b → IsListed n b
same-listed n b c h is = subst (IsListed n) is h

-- a boolean that occurs is listed, where each boolean of the sequence is
occurs-listed : (n : ℕ) (w : Written Boolean) (b : Boolean) → EachBoolean (IsListed n) w → Occurs One b w → IsListed n b
occurs-listed n (boolean c) b h o = same-listed n b c h o
occurs-listed n (delay r least most s) b h o =
    elim o [
      | inl one ↦ one-listed n b one
      | inr more ↦ elim more [ inl x ↦ occurs-listed n r b h.0 x | inr y ↦ occurs-listed n s b h.1 y ]
    ]
occurs-listed n (lead least most s) b h o = elim o [ inl one ↦ one-listed n b one | inr y ↦ occurs-listed n s b h y ]
occurs-listed n (repeat r least most) b h o = occurs-listed n r b h o
occurs-listed n (or r s) b h o = elim o [ inl x ↦ occurs-listed n r b h.0 x | inr y ↦ occurs-listed n s b h.1 y ]
occurs-listed n (and r s) b h o = elim o [ inl x ↦ occurs-listed n r b h.0 x | inr y ↦ occurs-listed n s b h.1 y ]
occurs-listed n (intersect r s) b h o = elim o [ inl x ↦ occurs-listed n r b h.0 x | inr y ↦ occurs-listed n s b h.1 y ]
occurs-listed n (throughout c r) b h o = elim o [ inl x ↦ same-listed n b c h.0 x | inr y ↦ occurs-listed n r b h.1 y ]

module _ (suite : Suite) (a : Assertion) (p : ProgramData) (of : IsProgramOf suite a p) (rows : List (List ℕ))
    (fit : AreSuiteRows suite rows) where
  abbrev pub value : Boolean → ℕ → Bool
  value = value_in suite.booleans.items a.booleans.items (made.t suite a p of rows fit)

  abbrev pub off : ℕ → Bool
  off = off_in suite.booleans.items a.booleans.items (made.t suite a p of rows fit) a.disabling

  abbrev atoms : ℕ → List Bool
  atoms = made.atoms suite a p of rows fit

  -- the atom of a listed boolean
  atom-at : (k i : ℕ) → i < length a.booleans.items → slice_get (atoms k) i ≡ Some (value (Listed i) k)
  atom-at k i below =
      let found = slice_get-get_or a.booleans.items i 0 below in
      slice_get-map (λ place. is_true_at (made.t suite a p of rows fit) (slice_get suite.booleans.items place) k)
      a.booleans.items i
      ∙ ap (option_map (λ place. is_true_at (made.t suite a p of rows fit) (slice_get suite.booleans.items place) k))
      found
      ∙ ap (λ o. Some (is_true_at (made.t suite a p of rows fit) (expression_at suite.booleans.items o) k)) (sym found)

  told-at : (k : ℕ) (b : Boolean) → IsListed (length a.booleans.items) b → told_atom (atom_of b) (atoms k) ≡ value b k
  told-at k One h = refl
  told-at k (Listed i) h = get_or_from_slice_get (atoms k) i (value (Listed i) k) true (atom-at k i h)

  follows : (w : Written Boolean) (s : SectionData) → IsOrdered w → EachBoolean (IsListed (length a.booleans.items)) w →
      s ≡ section_for atom_of One w → AutomatonFollows value (every (kernel One w)) (automaton_of s atoms)
  follows w s ordered listed is =
      subst (λ x. AutomatonFollows value (every (kernel One w)) (automaton_of x atoms)) (sym is)
      (law-section_follows atom_of One atoms value w ordered
      (λ k b occurs. told-at k b (occurs-listed (length a.booleans.items) w b listed occurs)))

  -- no match is empty at a tick of a sequence that admits no empty match
  filled : (w : Written Boolean) → IsOrdered w → (AdmitsEmpty (kernel One w) → ⊥) → Fills value (kernel One w)
  filled w ordered none e m =
      none (empty-Matches Boolean always One w 0 ordered (Matches-empty Boolean value One w e ordered m))

  leads : (first : Bool) (w : Written Boolean) (s : SectionData) → IsOrdered w
      → EachBoolean (IsListed (length a.booleans.items)) w → (first ≡ true → AdmitsEmpty (kernel One w) → ⊥)
      → s ≡ led_section first atom_of One w
      → AutomatonFollows value (record { first = first; sequence = kernel One w }) (automaton_of s atoms)
  leads false w s ordered listed none is = follows w s ordered listed is
  leads true w s ordered listed none is =
      subst (λ x. AutomatonFollows value (first_match (kernel One w)) (automaton_of x atoms)) (sym is)
      (law-follows_first atom_of One atoms value w ordered
      (λ k b occurs. told-at k b (occurs-listed (length a.booleans.items) w b listed occurs))
      (filled w ordered (none refl)))

  pub watches : Watches p atoms value (antecedent_of a) (shape a.consequent)
  watches = record {
    antecedent =
        leads a.first (written_form a.antecedent) p.antecedent a.antecedent_ordered of.antecedent_listed of.led
        of.antecedent;
    consequent =
        follows (written_form a.consequent) p.consequent a.consequent_ordered of.consequent_listed of.consequent;
  }

  pub fills : Fills value (shape a.consequent)
  fills = filled (written_form a.consequent) a.consequent_ordered of.fills

  disabled-at : (d : Option Boolean) → IsListedOption (length a.booleans.items) d → (k : ℕ) →
      unwrap_or (disabling (disabling_atom d) (atoms k)) false ≡ off_in suite.booleans.items a.booleans.items
      (made.t suite a p of rows fit) d k
  disabled-at None h k = refl
  disabled-at (Some One) h k = absurd h
  disabled-at (Some (Listed i)) h k = ap (λ o. unwrap_or o false) (atom-at k i h)

  pub same-off : off ≡ (program_monitor p atoms).off
  same-off =
      fun_ext
      (λ k. sym (ap (λ d. unwrap_or (disabling d (atoms k)) false) of.disable
      ∙ disabled-at a.disabling of.disabling_listed k))

  decides : IsAccepted p → (verdicts : List Verdict) → AreVerdictsOver suite rows a verdicts →
      IsLineOver p (map (picked_row of.layout.signals) rows) (line_data_of (string_bytes a.name) verdicts)
  decides accepted verdicts judged =
      let long : length rows ≡ length (map (picked_row of.layout.signals) rows) =
      sym (length-map rows (picked_row of.layout.signals)) in
      subst (λ n. IsLineOver p (map (picked_row of.layout.signals) rows) (line_data_of n verdicts)) of.name
      (by-meaning p (map (picked_row of.layout.signals) rows) (made.counters suite a p of rows fit) atoms value
      (antecedent_of a) (shape a.consequent) verdicts accepted
      (subst (λ n. SamplesAs p (made.signals suite a p of rows fit) (made.counters suite a p of rows fit) atoms n) long
      (made.samples suite a p of rows fit accepted))
      watches fills
      (subst (λ n. AreVerdicts value (program_monitor p atoms).off (antecedent_of a)
      (shape a.consequent) n verdicts) long
      (subst (λ o. AreVerdicts value o (antecedent_of a) (shape a.consequent) (length rows) verdicts) same-off
      judged)))

pub programs-decide : ProgramsDecide
programs-decide suite a p accepted of rows fit verdicts judged = decides suite a p of rows fit accepted verdicts judged
