-- Counters that a text's are count the same.
use Rattle.std.proofs.Common.{◌≡◌, ℕ, zero, suc, ◌+◌, ◌-◌, ◌%◌, ◌^◌, min, max, nat_le, Bool, List, [], ◌∷◌, Option}
use Rattle.std.proofs.Common.{Some, None, slice_get, refl, sym, ap, ◌∙◌}
use Rattle.std.specs.Prelude.{if◌then◌else◌, unwrap_or}
use Rattle.std.proofs.Math.Path.{fun_ext}
use Rattle.parser_grammar.specs.Trees as trees
use Rattle.parser_grammar.specs.Trees.{Tree}
use Rattle.expressions.specs.declared.expr.Expr.{Expr}
use Rattle.expressions.specs.declared.rule.Rule.{Rule}
use Rattle.expressions.specs.declared.counter.Counter.{Counter}
use Rattle.expressions.specs.Terms.{Term, Samples, width_of, value_of, is_true}
use Rattle.expressions.specs.Expressions.{term_of}
use Rattle.expressions.specs.Counters.{holds, rule_value, next_count, next_of, counts_to}
use Rattle.types_names.specs.Scopes.{Scope}
use Rattle.types_names.specs.Meanings.{Means}
use Rattle.types_names.proofs.OneMeaning.{one-meaning}
use Rattle.types.specs.Suites.{IsCondition, IsRule, IsCounter, AreCounters}
use Rattle.laws_one_report.proofs.PairLaws.{one_truth}

-- the next count, from what its clauses say
abbrev next_by : Bool → Option ℕ → Option ℕ → Option ℕ → ℕ → ℕ → ℕ
next_by clears load add sub w now =
    if clears then 0 else unwrap_or load (min ((now + unwrap_or add 0) - unwrap_or sub 0) (2 ^ w - 1))

by_parts : (a b : Bool) (c d e f g h : Option ℕ) (v w now : ℕ) → a ≡ b → c ≡ d → e ≡ f → g ≡ h → v ≡ w
    → next_by a c e g v now ≡ next_by b d f h w now
by_parts a b c d e f g h v w now p q r s t =
    ap (λ (x : Bool). next_by x c e g v now) p
    ∙ ap (λ (x : Option ℕ). next_by b x e g v now) q
    ∙ ap (λ (x : Option ℕ). next_by b d x g v now) r
    ∙ ap (λ (x : Option ℕ). next_by b d f x v now) s
    ∙ ap (λ (x : ℕ). next_by b d f h x now) t

module _ (s : Scope) (cs : List (List ℕ)) where
  same_condition : (o : Option Tree) (a b : Option Expr) → IsCondition s cs o a → IsCondition s cs o b
      → (t : Samples) (k : ℕ) → holds t a k ≡ holds t b k
  same_condition None None None h g t k = refl
  same_condition None None (Some f) h g t k = elim g [ ]
  same_condition None (Some e) b h g t k = elim h [ ]
  same_condition (Some u) None b h g t k = elim h [ ]
  same_condition (Some u) (Some e) None h g t k = elim g [ ]
  same_condition (Some u) (Some e) (Some f) h g t k = one_truth s cs u (term_of e) (term_of f) h g t k

  same_number : (u : Tree) (e f : Term) → Means s cs u e → Means s cs u f → (t : Samples) (k w : ℕ)
      → value_of t e k (max w (width_of e)) ≡ value_of t f k (max w (width_of f))
  same_number u e f h g t k w =
      let same = one-meaning t s cs u e f h g in
      same.value k (max w (width_of e)) ∙ ap (λ (n : ℕ). value_of t f k (max w n)) same.width

  same_rule : (o : Option (Tree × Tree)) (a b : Option Rule) → IsRule s cs o a → IsRule s cs o b
      → (t : Samples) (w k : ℕ) → rule_value t w a k ≡ rule_value t w b k
  same_rule None None None h g t w k = refl
  same_rule None None (Some f) h g t w k = elim g [ ]
  same_rule None (Some e) b h g t w k = elim h [ ]
  same_rule (Some u) None b h g t w k = elim h [ ]
  same_rule (Some u) (Some e) None h g t w k = elim g [ ]
  same_rule (Some u) (Some e) (Some f) h g t w k =
      ap (λ (x : Bool). if x then Some (value_of t (term_of e.by) k (max w (width_of (term_of e.by))) % 2 ^ w) else
      None) (one_truth s cs u.0 (term_of e.when) (term_of f.when) h.0 g.0 t k)
      ∙ ap (λ (n : ℕ). if is_true t (term_of f.when) k then Some (n % 2 ^ w) else None)
      (same_number u.1 (term_of e.by) (term_of f.by) h.1 g.1 t k w)

  -- the next count, by its clauses
  next_same : (c : trees.CounterForm) (a b : Counter) → IsCounter s cs c a → IsCounter s cs c b
      → (t : Samples) (now k : ℕ) → next_count t a now k ≡ next_count t b now k
  next_same c a b h g t now k =
      let wide : a.width ≡ b.width = h.width ∙ sym g.width in
      let clear = same_condition c.clear a.clear b.clear h.clear g.clear t k in
      let load : rule_value t a.width a.load k ≡ rule_value t b.width b.load k =
      same_rule c.load a.load b.load h.load g.load t a.width k ∙ ap (λ (w : ℕ). rule_value t w b.load k) wide in
      let add : rule_value t a.width a.add k ≡ rule_value t b.width b.add k =
      same_rule c.add a.add b.add h.add g.add t a.width k ∙ ap (λ (w : ℕ). rule_value t w b.add k) wide in
      let sub : rule_value t a.width a.sub k ≡ rule_value t b.width b.sub k =
      same_rule c.sub a.sub b.sub h.sub g.sub t a.width k ∙ ap (λ (w : ℕ). rule_value t w b.sub k) wide in
      by_parts (holds t a.clear k) (holds t b.clear k) (rule_value t a.width a.load k) (rule_value t b.width b.load k)
      (rule_value t a.width a.add k) (rule_value t b.width b.add k) (rule_value t a.width a.sub k)
      (rule_value t b.width b.sub k) a.width b.width now
      clear load add sub wide

  -- counters by their numbers
  all_next_same : (us : List trees.CounterForm) (ms ns : List Counter) → AreCounters s cs us ms → AreCounters s cs us ns
      → (i : ℕ) (t : Samples) (now k : ℕ) → next_of t (slice_get ms i) now k ≡ next_of t (slice_get ns i) now k
  all_next_same [] [] [] h g i t now k = refl
  all_next_same [] [] (n ∷ ns) h g i t now k = elim g [ ]
  all_next_same [] (m ∷ ms) ns h g i t now k = elim h [ ]
  all_next_same (u ∷ us) [] ns h g i t now k = elim h [ ]
  all_next_same (u ∷ us) (m ∷ ms) [] h g i t now k = elim g [ ]
  all_next_same (u ∷ us) (m ∷ ms) (n ∷ ns) h g zero t now k = next_same u m n h.0 g.0 t now k
  all_next_same (u ∷ us) (m ∷ ms) (n ∷ ns) h g (suc i) t now k = all_next_same us ms ns h.1 g.1 i t now k

  -- So they count the same over any signals.
  pub same_counts : (us : List trees.CounterForm) (ms ns : List Counter) → AreCounters s cs us ms
      → AreCounters s cs us ns → (signal_at : ℕ → ℕ → ℕ) (k i j : ℕ) → counts_to signal_at ms k i j
      ≡ counts_to signal_at ns k i j
  same_counts us ms ns h g signal_at zero i j = refl
  same_counts us ms ns h g signal_at (suc k) i j =
      let before : counts_to signal_at ms k ≡ counts_to signal_at ns k =
      fun_ext (λ p. fun_ext (λ q. same_counts us ms ns h g signal_at k p q)) in
      ap (λ (f : ℕ → ℕ → ℕ). if nat_le j k then f i j else next_of (record { signal_at = signal_at; counter_at = f })
      (slice_get ms i) (f i k) k) before
      ∙ ap (λ (v : ℕ). if nat_le j k then counts_to signal_at ns k i j else v)
      (all_next_same us ms ns h g i (record { signal_at = signal_at; counter_at = counts_to signal_at ns k })
      (counts_to signal_at ns k i k) k)
