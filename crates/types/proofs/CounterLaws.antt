-- Counters of a text, one by one.
use Rattle.std.proofs.Common.{◌≡◌, ℕ, List, [], ◌∷◌, ◌++◌, Option, Some, sym, ap, ◌∙◌, subst, IsTrue}
use Rattle.std.proofs.lemmas.List.{append-nil, append_assoc}
use Rattle.parser_grammar.specs.Trees as trees
use Rattle.parser_grammar.specs.Trees.{Tree, ItemForm, counter}
use Rattle.expressions.specs.declared.counter.Counter.{Counter}
use Rattle.types_names.specs.declared.own.Sought.{Sought}
use Rattle.types_names.specs.Scopes.{Scope}
use Rattle.types_names.specs.Faults.{faults, optional_faults, clause_faults, counter_faults, item_faults}
use Rattle.types_names.specs.Faults.{file_faults}
use Rattle.types_names.specs.Columns.{signals, all_listed, optional_signals, clause_signals, counter_signals}
use Rattle.types_names.specs.Columns.{item_signals, file_signals}
use Rattle.types_names.proofs.FaultLaws.{no_faults-parts}
use Rattle.types_names.proofs.ColumnLaws.{listed-parts}
use Rattle.types_names.proofs.TypedLaws.{IsReady}
use Rattle.types.specs.Texts.{counters_of}
use Rattle.types.specs.Suites.{IsCounter, AreCounters}

module _ (s : Scope) (cs : List (List ℕ)) where
  -- no faults, and the columns, of the parts of what has none and has them
  pub record IsReadyClause (o : Option (Tree × Tree)) : Type 0 where
    pub sound : (k : Sought) → clause_faults s k o ≡ []
    pub listed : IsTrue (all_listed cs (clause_signals s o))

  pub record IsReadyOptional (o : Option Tree) : Type 0 where
    pub sound : (k : Sought) → optional_faults s k o ≡ []
    pub listed : IsTrue (all_listed cs (optional_signals s o))

  pub record IsReadyItem (x : ItemForm) : Type 0 where
    pub sound : (k : Sought) → item_faults s k x ≡ []
    pub listed : IsTrue (all_listed cs (item_signals s x))

  pub record AreReadyItems (items : List ItemForm) : Type 0 where
    pub sound : (k : Sought) → file_faults s k items ≡ []
    pub listed : IsTrue (all_listed cs (file_signals s items))

  pub ready-optional : (o : Option Tree) (t : Tree) → o ≡ Some t → IsReadyOptional o → IsReady s cs t
  ready-optional o t is r =
      record {
        sound = λ k. sym (ap (optional_faults s k) is) ∙ r.sound k;
        listed = subst (λ (y : Option Tree). IsTrue (all_listed cs (optional_signals s y))) is r.listed;
      }

  pub ready-clause : (o : Option (Tree × Tree)) (t u : Tree) → o ≡ Some (t, u) → IsReadyClause o → IsReady s cs t
      × IsReady s cs u
  ready-clause o t u is r =
      let parts =
      λ (k : Sought). no_faults-parts (faults s k t) (faults s k u) (sym (ap (clause_faults s k) is) ∙ r.sound k)
      in
      let columns =
      listed-parts cs (signals s t) (signals s u)
      (subst (λ (y : Option (Tree × Tree)). IsTrue (all_listed cs (clause_signals s y))) is r.listed) in
      (record { sound = λ k. (parts k).0; listed = columns.0 }, record { sound = λ k. (parts k).1; listed = columns.1 })

  pub ready-counter : (c : trees.CounterForm) → ((k : Sought) → counter_faults s k c ≡ [])
      → IsTrue (all_listed cs (counter_signals s c)) →
      IsReadyOptional c.clear × IsReadyClause c.load × IsReadyClause c.add × IsReadyClause c.sub
  ready-counter c sound listed =
      let f =
      λ (k : Sought). no_faults-parts (optional_faults s k c.clear)
      (clause_faults s k c.load ++ (clause_faults s k c.add ++ clause_faults s k c.sub)) (sound k) in
      let g =
      λ (k : Sought). no_faults-parts (clause_faults s k c.load)
      (clause_faults s k c.add ++ clause_faults s k c.sub) (f k).1 in
      let h = λ (k : Sought). no_faults-parts (clause_faults s k c.add) (clause_faults s k c.sub) (g k).1 in
      let x =
      listed-parts cs (optional_signals s c.clear)
      (clause_signals s c.load ++ (clause_signals s c.add ++ clause_signals s c.sub)) listed in
      let y = listed-parts cs (clause_signals s c.load) (clause_signals s c.add ++ clause_signals s c.sub) x.1 in
      let z = listed-parts cs (clause_signals s c.add) (clause_signals s c.sub) y.1 in (
        record { sound = λ k. (f k).0; listed = x.0 },
        record { sound = λ k. (g k).0; listed = y.0 },
        record { sound = λ k. (h k).0; listed = z.0 },
        record { sound = λ k. (h k).1; listed = z.1 },
      )

  pub ready-item : (items : List ItemForm) (x : ItemForm) (rest : List ItemForm) → items ≡ x ∷ rest
      → AreReadyItems items → IsReadyItem x × AreReadyItems rest
  ready-item items x rest is r =
      let parts =
      λ (k : Sought). no_faults-parts (item_faults s k x) (file_faults s k rest) (sym (ap (file_faults s k) is)
      ∙ r.sound k) in
      let columns =
      listed-parts cs (item_signals s x) (file_signals s rest)
      (subst (λ (y : List ItemForm). IsTrue (all_listed cs (file_signals s y))) is r.listed) in
      (record { sound = λ k. (parts k).0; listed = columns.0 }, record { sound = λ k. (parts k).1; listed = columns.1 })

  -- what is left of a loop over the items makes all of them
  pub record Completes (items left : List ItemForm) (made : List Counter) : Type 0 where
    pub with : (more : List Counter) → AreCounters s cs (counters_of left) more
        → AreCounters s cs (counters_of items) (made ++ more)

  pub completes_start : (items : List ItemForm) (made : List Counter) → made ≡ [] → Completes items items made
  completes_start items made none =
      record {
        with = λ more h. subst (λ (ms : List Counter). AreCounters s cs (counters_of items) (ms ++ more))
            (sym none) h;
      }

  pub completes_skip : (items now rest : List ItemForm) (x : ItemForm) (made : List Counter) → now ≡ x ∷ rest
      → counters_of (x ∷ rest) ≡ counters_of rest → Completes items now made → Completes items rest made
  completes_skip items now rest x made is none f =
      record {
        with = λ more h. f.with more
            (subst (λ (us : List trees.CounterForm). AreCounters s cs us more) (sym (ap counters_of is ∙ none)) h);
      }

  pub completes_more : (items now rest : List ItemForm) (c : trees.CounterForm) (m : Counter) (made next : List Counter)
      → now ≡ counter c ∷ rest → IsCounter s cs c m → next ≡ made ++ m ∷ [] →
      Completes items now made → Completes items rest next
  completes_more items now rest c m made next is one pushed f =
      record {
        with =
            λ more h. subst (λ (ms : List Counter). AreCounters s cs (counters_of items) ms)
            (sym (ap (λ (ns : List Counter). ns ++ more) pushed ∙ append_assoc made (m ∷ []) more))
            (f.with (m ∷ more)
            (subst (λ (us : List ItemForm). AreCounters s cs (counters_of us) (m ∷ more)) (sym is) (one, h)));
      }

  pub completes_all : (items left : List ItemForm) (made : List Counter) → left ≡ [] → Completes items left made
      → AreCounters s cs (counters_of items) made
  completes_all items left made none f =
      subst (λ (ms : List Counter). AreCounters s cs (counters_of items) ms) (append-nil made)
      (f.with [] (subst (λ (us : List ItemForm). AreCounters s cs (counters_of us) []) (sym none) tt))
