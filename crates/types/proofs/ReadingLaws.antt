-- What the sequences of a text say, node by node, over a list of expressions that grows.
use Rattle.std.proofs.Common.{◌≡◌, ℕ, zero, suc, List, [], ◌∷◌, ◌++◌, length, Option, Some, None, slice_get, refl, sym}
use Rattle.std.proofs.Common.{ap, ◌∙◌, subst, IsTrue, Result, Ok, Err, IfOk, OnOk}
use Rattle.std.proofs.lemmas.List.{append-nil, append_assoc}
use Rattle.parser_grammar.specs.declared.bound.Range.{Range}
use Rattle.parser_grammar.specs.declared.operator.Junction.{Junction}
use Rattle.parser_grammar.specs.Trees.{Tree, SequenceForm, boolean, repeated, late, delayed, throughout, joined, Steps}
use Rattle.parser_grammar.specs.Trees.{no_step, step, Others, no_other, other}
use Rattle.lexer.specs.declared.token.Token.{Token}
use Rattle.expressions.specs.declared.expr.Expr.{Expr}
use Rattle.expressions.specs.Expressions.{term_of}
use Rattle.assertions.specs.declared.sequence.Boolean.{Boolean}
use Rattle.assertions.specs.declared.sequence.Boolean.TheVariants.{Listed}
use Rattle.types.specs.Drafts as drafts
use Rattle.types.specs.Drafts.{Draft}
use Rattle.types_names.specs.declared.own.Sought.{Sought}
use Rattle.types_names.specs.Scopes.{Scope, sequence_named}
use Rattle.types_names.specs.Faults.{faults, boolean_faults, sequence_faults, step_faults, other_faults}
use Rattle.types_names.specs.Columns.{HasColumns, all_listed, signals, sequence_signals, step_signals}
use Rattle.types_names.specs.Columns.{other_signals}
use Rattle.types_names.specs.Meanings.{Means}
use Rattle.types_names.proofs.FaultLaws.{no_faults-parts}
use Rattle.types_names.proofs.ColumnLaws.{listed-parts}
use Rattle.types_names.proofs.TypedLaws.{IsReady}
use Rattle.types.specs.Placed.{ExtendsPlaces}
use Rattle.types.specs.Readings.{least_of, extra_of, IsBooleanOf, ReadsBoolean, joined_by, Reads, ReadsSteps}
use Rattle.types.specs.Readings.{ReadsOthers}

-- what stood in a list stands in a longer one
in_longer : {A : Type 0} (xs ys : List A) (p : ℕ) (x : A) → slice_get xs p ≡ Some x → slice_get (xs ++ ys) p ≡ Some x
in_longer [] ys p x h = absurd cc
in_longer (y ∷ xs) ys zero x h = h
in_longer (y ∷ xs) ys (suc p) x h = in_longer xs ys p x h

pub at_end : {A : Type 0} (xs : List A) (x : A) → slice_get (xs ++ x ∷ []) (length xs) ≡ Some x
at_end [] x = refl
at_end (y ∷ xs) x = at_end xs x

found_on : {A : Type 0} (xs ys : List A) (p : ℕ) (x : A) → ExtendsPlaces xs ys → slice_get xs p ≡ Some x
    → slice_get ys p ≡ Some x
found_on xs ys p x e h = ap (λ zs. slice_get zs p) e.is ∙ in_longer xs e.added p x h

module _ (s : Scope) (cs : List (List ℕ)) where
  pub new_atom : (before after : List Expr) (t : Tree) (e : Expr) (p : ℕ) → p ≡ length before → after ≡ before ++ e ∷ []
      → Means s cs t (term_of e) → IsBooleanOf s cs after t (Listed p)
  new_atom before after t e p at is m =
      record {
        place = p;
        expression = e;
        is = refl;
        found = ap (λ es. slice_get es p) is ∙ ap (slice_get (before ++ e ∷ [])) at ∙ at_end before e;
        means = m;
      }

  module _ (now next : List Expr) (more : ExtendsPlaces now next) where
    pub atom_grows : (t : Tree) (b : Boolean) → IsBooleanOf s cs now t b → IsBooleanOf s cs next t b
    atom_grows t b a =
        record {
          place = a.place;
          expression = a.expression;
          is = a.is;
          found = found_on now next a.place a.expression more a.found;
          means = a.means;
        }

    boolean_grows : (o : Option ℕ) (t : Tree) (d : Draft Boolean) → ReadsBoolean s cs now o t d
        → ReadsBoolean s cs next o t d
    boolean_grows (Some p) t d h = h
    boolean_grows None t d h = (h.0, atom_grows t h.0 h.1, h.2)

    -- What is read stays so.
    mutual
      unfolding Reads

      pub reads_grows : (q : SequenceForm) (d : Draft Boolean) → Reads s cs now q d → Reads s cs next q d
      reads_grows (boolean t) d h = boolean_grows (sequence_named s t) t d h
      reads_grows (repeated q r) d h = (h.0, reads_grows q h.0 h.1, h.2)
      reads_grows (late t r q) d h = (h.0, reads_grows q h.0 h.1, h.2)
      reads_grows (delayed q steps) d h = (h.0, reads_grows q h.0 h.1, steps_grow h.0 steps d h.2)
      reads_grows (throughout t q) d h = (h.0, h.1, atom_grows t h.0 h.2, reads_grows q h.1 h.3, h.4)
      reads_grows (joined j q others) d h = (h.0, reads_grows q h.0 h.1, others_grow j h.0 others d h.2)

      steps_grow : (a : Draft Boolean) (steps : Steps) (d : Draft Boolean) → ReadsSteps s cs now a steps d
          → ReadsSteps s cs next a steps d
      steps_grow a no_step d h = h
      steps_grow a (step r q steps) d h =
          (h.0, reads_grows q h.0 h.1, steps_grow (drafts.delay a (least_of r) (extra_of r) h.0) steps d h.2)

      others_grow : (j : Junction) (a : Draft Boolean) (others : Others) (d : Draft Boolean)
          → ReadsOthers s cs now j a others d → ReadsOthers s cs next j a others d
      others_grow j a no_other d h = h
      others_grow j a (other q others) d h =
          (h.0, reads_grows q h.0 h.1, others_grow j (joined_by j a h.0) others d h.2)

  -- no faults, and the columns, of the parts of what has none and has them
  pub record IsReadySequence (q : SequenceForm) : Type 0 where
    pub sound : (k : Sought) → sequence_faults s k q ≡ []
    pub listed : IsTrue (all_listed cs (sequence_signals s q))

  pub record AreReadySteps (steps : Steps) : Type 0 where
    pub sound : (k : Sought) → step_faults s k steps ≡ []
    pub listed : IsTrue (all_listed cs (step_signals s steps))

  pub record AreReadyOthers (others : Others) : Type 0 where
    pub sound : (k : Sought) → other_faults s k others ≡ []
    pub listed : IsTrue (all_listed cs (other_signals s others))

  pub record IsReadyBoolean (t : Tree) : Type 0 where
    pub sound : (k : Sought) → boolean_faults s k t ≡ []
    pub listed : HasColumns s cs t

  pub ready-boolean : (x : SequenceForm) (t : Tree) → x ≡ boolean t → IsReadySequence x → IsReadyBoolean t
  unfolding sequence_faults sequence_signals
  ready-boolean x t is r =
      record {
        sound = λ k. sym (ap (sequence_faults s k) is) ∙ r.sound k;
        listed = subst (λ (y : SequenceForm). IsTrue (all_listed cs (sequence_signals s y))) is r.listed;
      }

  pub ready-repeated : (x q : SequenceForm) (n : Range) → x ≡ repeated q n → IsReadySequence x → IsReadySequence q
  unfolding sequence_faults sequence_signals
  ready-repeated x q n is r =
      record {
        sound = λ k. sym (ap (sequence_faults s k) is) ∙ r.sound k;
        listed = subst (λ (y : SequenceForm). IsTrue (all_listed cs (sequence_signals s y))) is r.listed;
      }

  pub ready-late : (x : SequenceForm) (t : Token) (n : Range) (q : SequenceForm) → x ≡ late t n q → IsReadySequence x
      → IsReadySequence q
  unfolding sequence_faults sequence_signals
  ready-late x t n q is r =
      record {
        sound = λ k. sym (ap (sequence_faults s k) is) ∙ r.sound k;
        listed = subst (λ (y : SequenceForm). IsTrue (all_listed cs (sequence_signals s y))) is r.listed;
      }

  pub ready-delayed : (x q : SequenceForm) (steps : Steps) → x ≡ delayed q steps → IsReadySequence x → IsReadySequence q
      × AreReadySteps steps
  unfolding sequence_faults sequence_signals
  ready-delayed x q steps is r =
      let parts =
      λ (k : Sought). no_faults-parts (sequence_faults s k q) (step_faults s k steps)
      (sym (ap (sequence_faults s k) is) ∙ r.sound k) in
      let columns =
      listed-parts cs (sequence_signals s q) (step_signals s steps)
      (subst (λ (y : SequenceForm). IsTrue (all_listed cs (sequence_signals s y))) is r.listed) in
      (record { sound = λ k. (parts k).0; listed = columns.0 }, record { sound = λ k. (parts k).1; listed = columns.1 })

  pub ready-throughout : (x : SequenceForm) (t : Tree) (q : SequenceForm) → x ≡ throughout t q → IsReadySequence x
      → IsReady s cs t × IsReadySequence q
  unfolding sequence_faults sequence_signals
  ready-throughout x t q is r =
      let parts =
      λ (k : Sought). no_faults-parts (faults s k t) (sequence_faults s k q) (sym (ap (sequence_faults s k) is)
      ∙ r.sound k) in
      let columns =
      listed-parts cs (signals s t) (sequence_signals s q)
      (subst (λ (y : SequenceForm). IsTrue (all_listed cs (sequence_signals s y))) is r.listed) in
      (record { sound = λ k. (parts k).0; listed = columns.0 }, record { sound = λ k. (parts k).1; listed = columns.1 })

  pub ready-joined : (x : SequenceForm) (j : Junction) (q : SequenceForm) (others : Others) → x ≡ joined j q others
      → IsReadySequence x → IsReadySequence q × AreReadyOthers others
  unfolding sequence_faults sequence_signals
  ready-joined x j q others is r =
      let parts =
      λ (k : Sought). no_faults-parts (sequence_faults s k q) (other_faults s k others)
      (sym (ap (sequence_faults s k) is) ∙ r.sound k) in
      let columns =
      listed-parts cs (sequence_signals s q) (other_signals s others)
      (subst (λ (y : SequenceForm). IsTrue (all_listed cs (sequence_signals s y))) is r.listed) in
      (record { sound = λ k. (parts k).0; listed = columns.0 }, record { sound = λ k. (parts k).1; listed = columns.1 })

  pub ready-step : (now : Steps) (n : Range) (q : SequenceForm) (rest : Steps) → now ≡ step n q rest → AreReadySteps now
      → IsReadySequence q × AreReadySteps rest
  unfolding sequence_faults sequence_signals
  ready-step now n q rest is r =
      let parts =
      λ (k : Sought). no_faults-parts (sequence_faults s k q) (step_faults s k rest)
      (sym (ap (step_faults s k) is) ∙ r.sound k) in
      let columns =
      listed-parts cs (sequence_signals s q) (step_signals s rest)
      (subst (λ (y : Steps). IsTrue (all_listed cs (step_signals s y))) is r.listed) in
      (record { sound = λ k. (parts k).0; listed = columns.0 }, record { sound = λ k. (parts k).1; listed = columns.1 })

  pub ready-other : (now : Others) (q : SequenceForm) (rest : Others) → now ≡ other q rest → AreReadyOthers now
      → IsReadySequence q × AreReadyOthers rest
  unfolding sequence_faults sequence_signals
  ready-other now q rest is r =
      let parts =
      λ (k : Sought). no_faults-parts (sequence_faults s k q) (other_faults s k rest)
      (sym (ap (other_faults s k) is) ∙ r.sound k) in
      let columns =
      listed-parts cs (sequence_signals s q) (other_signals s rest)
      (subst (λ (y : Others). IsTrue (all_listed cs (other_signals s y))) is r.listed) in
      (record { sound = λ k. (parts k).0; listed = columns.0 }, record { sound = λ k. (parts k).1; listed = columns.1 })

  -- what each node says
  module _ (e : List Expr) where
    pub reads-boolean : (x : SequenceForm) (t : Tree) (d : Draft Boolean) → x ≡ boolean t
        → ReadsBoolean s cs e (sequence_named s t) t d → Reads s cs e x d
    unfolding Reads
    reads-boolean x t d is h = subst (λ (y : SequenceForm). Reads s cs e y d) (sym is) h

    pub reads-repeated : (x q : SequenceForm) (r : Range) (a d : Draft Boolean) → x ≡ repeated q r → Reads s cs e q a
        → d ≡ drafts.repeat a (least_of r) (extra_of r) → Reads s cs e x d
    unfolding Reads
    reads-repeated x q r a d is m made = subst (λ (y : SequenceForm). Reads s cs e y d) (sym is) (a, m, made)

    pub reads-late : (x : SequenceForm) (t : Token) (r : Range) (q : SequenceForm) (a d : Draft Boolean)
        → x ≡ late t r q → Reads s cs e q a → d ≡ drafts.lead (least_of r) (extra_of r) a → Reads s cs e x d
    unfolding Reads
    reads-late x t r q a d is m made = subst (λ (y : SequenceForm). Reads s cs e y d) (sym is) (a, m, made)

    pub reads-throughout : (x : SequenceForm) (t : Tree) (q : SequenceForm) (b : Boolean) (a d : Draft Boolean)
        → x ≡ throughout t q → IsBooleanOf s cs e t b → Reads s cs e q a → d ≡ drafts.throughout b a → Reads s cs e x d
    unfolding Reads
    reads-throughout x t q b a d is i m made =
        subst (λ (y : SequenceForm). Reads s cs e y d) (sym is) (b, a, i, m, made)

  -- after a first one that was read before
  module _ (now next : List Expr) (more : ExtendsPlaces now next) where
    pub reads-delayed : (x q : SequenceForm) (steps : Steps) (a d : Draft Boolean) → x ≡ delayed q steps
        → Reads s cs now q a → ReadsSteps s cs next a steps d → Reads s cs next x d
    unfolding Reads
    reads-delayed x q steps a d is m h =
        subst (λ (y : SequenceForm). Reads s cs next y d) (sym is) (a, reads_grows now next more q a m, h)

    pub reads-joined : (x : SequenceForm) (j : Junction) (q : SequenceForm) (others : Others) (a d : Draft Boolean)
        → x ≡ joined j q others → Reads s cs now q a → ReadsOthers s cs next j a others d → Reads s cs next x d
    unfolding Reads
    reads-joined x j q others a d is m h =
        subst (λ (y : SequenceForm). Reads s cs next y d) (sym is) (a, reads_grows now next more q a m, h)

    -- one more of a loop: what is left reads what the whole does
    pub steps-step : (left : Steps) (r : Range) (q : SequenceForm) (rest : Steps) (a b f d : Draft Boolean)
        → left ≡ step r q rest → Reads s cs now q b → f ≡ drafts.delay a (least_of r) (extra_of r) b →
        ReadsSteps s cs next f rest d → ReadsSteps s cs next a left d
    unfolding Reads
    steps-step left r q rest a b f d is m made h =
        subst (λ (y : Steps). ReadsSteps s cs next a y d) (sym is)
        (b, reads_grows now next more q b m, subst (λ (g : Draft Boolean). ReadsSteps s cs next g rest d) made h)

    pub others-step : (j : Junction) (left : Others) (q : SequenceForm) (rest : Others) (a b f d : Draft Boolean)
        → left ≡ other q rest → Reads s cs now q b → f ≡ joined_by j a b →
        ReadsOthers s cs next j f rest d → ReadsOthers s cs next j a left d
    unfolding Reads
    others-step j left q rest a b f d is m made h =
        subst (λ (y : Others). ReadsOthers s cs next j a y d) (sym is) (
          b,
          reads_grows now next more q b m,
          subst (λ (g : Draft Boolean). ReadsOthers s cs next j g rest d) made h,
        )

  pub steps-end : (e : List Expr) (left : Steps) (a : Draft Boolean) → left ≡ no_step → ReadsSteps s cs e a left a
  unfolding Reads
  steps-end e left a is = subst (λ (y : Steps). ReadsSteps s cs e a y a) (sym is) refl

  pub others-end : (e : List Expr) (j : Junction) (left : Others) (a : Draft Boolean) → left ≡ no_other
      → ReadsOthers s cs e j a left a
  unfolding Reads
  others-end e j left a is = subst (λ (y : Others). ReadsOthers s cs e j a y a) (sym is) refl

pub extends_same : {A : Type 0} (xs : List A) → ExtendsPlaces xs xs
extends_same xs = record { added = []; is = sym (append-nil xs) }

pub extends_on : {A : Type 0} (xs ys zs : List A) → ExtendsPlaces xs ys → ExtendsPlaces ys zs → ExtendsPlaces xs zs
extends_on {A = A} xs ys zs e f =
    record {
      added = e.added ++ f.added;
      is = f.is ∙ ap (λ (us : List A). us ++ f.added) e.is ∙ append_assoc xs e.added f.added;
    }

-- what holds of a result's value, from two things that do
pub when_both : {X E : Type 0} {G : Type 0} {P Q : X → Type 0} (r : Result X E) → ((x : X) → G → P x → Q x) → OnOk r G
    → IfOk r P → IfOk r Q
when_both (Ok x) f g h = f x g h
when_both (Err e) f g h = h
