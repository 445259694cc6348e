-- What a text's sequences say is over known expressions.
use Rattle.std.proofs.Common.{◌≡◌, ℕ, zero, suc, ◌+◌, List, [], ◌∷◌, map, Option, Some, None}
use Rattle.std.proofs.Common.{slice_get, sym, subst}
use Rattle.std.specs.Prelude.{option_map, option_and_then}
use Rattle.std.specs.List.{AllByRecursion}
use Rattle.parser_grammar.specs.declared.operator.Junction.{Junction}
use Rattle.parser_grammar.specs.declared.operator.Junction.TheVariants.{Intersect, And, Or}
use Rattle.parser_grammar.specs.Trees.{Tree, SequenceForm, boolean, repeated, late, delayed, throughout}
use Rattle.parser_grammar.specs.Trees.{joined, Steps, no_step, step, Others, no_other, other}
use Rattle.parser_grammar.specs.Trees.{PropertyForm, plain, implication, ItemForm, counter, declaration}
use Rattle.parser_grammar.specs.Trees.{assertion}
use Rattle.expressions.specs.declared.expr.Expr.{Expr}
use Rattle.assertions.specs.declared.sequence.Boolean.{Boolean}
use Rattle.assertions.specs.declared.sequence.Boolean.TheVariants.{One}
use Rattle.assertions.specs.Written as written
use Rattle.assertions.specs.Written.{Written}
use Rattle.assertions.specs.Listed.{EachBoolean}
use Rattle.parser_grammar.specs.declared.operator.Implication.{Implication}
use Rattle.parser_grammar.specs.declared.operator.Implication.TheVariants.{Overlapped}
use Rattle.parser_grammar.specs.declared.operator.Implication.TheVariants.{NonOverlapped}
use Rattle.types.specs.Drafts as drafts
use Rattle.types.specs.Drafts.{Draft, both_there, spelling_of, named_within, IsWrittenOut}
use Rattle.types_names.specs.Scopes.{Scope, sequence_named}
use Rattle.types.specs.Texts.{declarations_of}
use Rattle.types.specs.Readings.{least_of, extra_of, IsBooleanOf, ReadsBoolean, Reads, ReadsSteps}
use Rattle.types.specs.Readings.{joined_by, ReadsOthers, AllRead}
use Rattle.types.specs.Suites.{before_by, ReadsAntecedent, ReadsConsequent}
use Rattle.compiler_laws.specs.TextTrees.{OfSequence, OfSteps, OfOthers, OfProperty, EachTree}

-- P holds of each boolean of a draft.
abbrev pub EachDraft : (Boolean → Type 0) → Draft Boolean → Type 0
EachDraft P (drafts.boolean b) = P b
EachDraft P (drafts.name p) = Unit {0}
EachDraft P (drafts.delay r least extra s) = EachDraft P r × EachDraft P s
EachDraft P (drafts.lead least extra s) = EachDraft P s
EachDraft P (drafts.repeat r least extra) = EachDraft P r
EachDraft P (drafts.or r s) = EachDraft P r × EachDraft P s
EachDraft P (drafts.and r s) = EachDraft P r × EachDraft P s
EachDraft P (drafts.intersect r s) = EachDraft P r × EachDraft P s
EachDraft P (drafts.throughout b r) = P b × EachDraft P r

abbrev pub EachFound : (Boolean → Type 0) → Option (Written Boolean) → Type 0
EachFound P None = Unit {0}
EachFound P (Some w) = EachBoolean P w

module _ (P : Boolean → Type 0) where
  -- What drafts spell has their booleans.
  both_found : (join : Written Boolean → Written Boolean → Written Boolean)
      (a b : Option (Written Boolean)) →
      ((v w : Written Boolean) → EachBoolean P v → EachBoolean P w → EachBoolean P (join v w)) →
      EachFound P a → EachFound P b → EachFound P (both_there join a b)
  both_found join None b f g h = tt
  both_found join (Some v) None f g h = tt
  both_found join (Some v) (Some w) f g h = f v w g h

  one_found : (make : Written Boolean → Written Boolean) (a : Option (Written Boolean)) →
      ((v : Written Boolean) → EachBoolean P v → EachBoolean P (make v)) →
      EachFound P a → EachFound P (option_map make a)
  one_found make None f h = tt
  one_found make (Some v) f h = f v h

  spelling_each : (named : ℕ → Option (Written Boolean)) → ((p : ℕ) → EachFound P (named p)) →
      (d : Draft Boolean) → EachDraft P d → EachFound P (spelling_of named d)
  spelling_each named f (drafts.boolean b) h = h
  spelling_each named f (drafts.name p) h = f p
  spelling_each named f (drafts.delay r least extra s) h =
      both_found (λ v w. written.delay v least (least + extra) w) (spelling_of named r)
      (spelling_of named s) (λ v w x y. (x, y)) (spelling_each named f r h.0)
      (spelling_each named f s h.1)
  spelling_each named f (drafts.lead least extra s) h =
      one_found (written.lead least (least + extra)) (spelling_of named s) (λ v x. x)
      (spelling_each named f s h)
  spelling_each named f (drafts.repeat r least extra) h =
      one_found (λ v. written.repeat v least (least + extra)) (spelling_of named r) (λ v x. x)
      (spelling_each named f r h)
  spelling_each named f (drafts.or r s) h =
      both_found written.or (spelling_of named r) (spelling_of named s) (λ v w x y. (x, y))
      (spelling_each named f r h.0) (spelling_each named f s h.1)
  spelling_each named f (drafts.and r s) h =
      both_found written.and (spelling_of named r) (spelling_of named s) (λ v w x y. (x, y))
      (spelling_each named f r h.0) (spelling_each named f s h.1)
  spelling_each named f (drafts.intersect r s) h =
      both_found written.intersect (spelling_of named r) (spelling_of named s) (λ v w x y. (x, y))
      (spelling_each named f r h.0) (spelling_each named f s h.1)
  spelling_each named f (drafts.throughout b r) h =
      one_found (written.throughout b) (spelling_of named r) (λ v x. (h.0, x))
      (spelling_each named f r h.1)

  body_found : (named : ℕ → Option (Written Boolean)) → ((p : ℕ) → EachFound P (named p)) →
      (bodies : List (Draft Boolean)) → AllByRecursion (EachDraft P) bodies → (p : ℕ) →
      EachFound P (option_and_then (spelling_of named) (slice_get bodies p))
  body_found named f [] h p = tt
  body_found named f (d ∷ ds) h zero = spelling_each named f d h.0
  body_found named f (d ∷ ds) h (suc p) = body_found named f ds h.1 p

  named_each : (bodies : List (Draft Boolean)) → AllByRecursion (EachDraft P) bodies →
      (depth p : ℕ) → EachFound P (named_within bodies depth p)
  named_each bodies h zero p = tt
  named_each bodies h (suc depth) p =
      body_found (named_within bodies depth) (named_each bodies h depth) bodies h p

  pub spells_each : (bodies : List (Draft Boolean)) → AllByRecursion (EachDraft P) bodies →
      (d : Draft Boolean) (w : Written Boolean) → EachDraft P d → IsWrittenOut bodies d w →
      EachBoolean P w
  spells_each bodies h d w each s =
      subst (EachFound P) s.1
      (spelling_each (named_within bodies s.0) (named_each bodies h s.0) d each)

  -- What is read of a text's sequences has the booleans of its expressions.
  module _
      (s : Scope)
      (cs : List (List ℕ))
      (bs : List Expr)
      (Q : Tree → Type 0)
      (atom : (t : Tree) (b : Boolean) → Q t → IsBooleanOf s cs bs t b → P b) where
    moved : (a d : Draft Boolean) → d ≡ a → EachDraft P a → EachDraft P d
    moved a d is h = subst (EachDraft P) (sym is) h

    boolean_each : (o : Option ℕ) (t : Tree) (d : Draft Boolean) → Q t →
        ReadsBoolean s cs bs o t d → EachDraft P d
    boolean_each (Some p) t d q h = moved (drafts.name p) d h tt
    boolean_each None t d q h = moved (drafts.boolean h.0) d h.2 (atom t h.0 q h.1)

    joined_each : (j : Junction) (a b : Draft Boolean) → EachDraft P a → EachDraft P b →
        EachDraft P (joined_by j a b)
    joined_each Intersect a b g h = (g, h)
    joined_each And a b g h = (g, h)
    joined_each Or a b g h = (g, h)

    mutual
      unfolding Reads OfSequence

      pub reads_each : (x : SequenceForm) (d : Draft Boolean) → OfSequence Q x →
          Reads s cs bs x d → EachDraft P d
      reads_each (boolean t) d q h = boolean_each (sequence_named s t) t d q h
      reads_each (repeated x r) d q h =
          moved (drafts.repeat h.0 (least_of r) (extra_of r)) d h.2 (reads_each x h.0 q h.1)
      reads_each (late t r x) d q h =
          moved (drafts.lead (least_of r) (extra_of r) h.0) d h.2 (reads_each x h.0 q h.1)
      reads_each (delayed x steps) d q h =
          steps_each h.0 steps d q.1 (reads_each x h.0 q.0 h.1) h.2
      reads_each (throughout t x) d q h =
          moved (drafts.throughout h.0 h.1) d h.4 (atom t h.0 q.0 h.2, reads_each x h.1 q.1 h.3)
      reads_each (joined j x others) d q h =
          others_each j h.0 others d q.1 (reads_each x h.0 q.0 h.1) h.2

      steps_each : (a : Draft Boolean) (steps : Steps) (d : Draft Boolean) → OfSteps Q steps →
          EachDraft P a → ReadsSteps s cs bs a steps d → EachDraft P d
      steps_each a no_step d q g h = moved a d h g
      steps_each a (step r x steps) d q g h =
          steps_each (drafts.delay a (least_of r) (extra_of r) h.0) steps d q.1
          (g, reads_each x h.0 q.0 h.1) h.2

      others_each : (j : Junction) (a : Draft Boolean) (others : Others) (d : Draft Boolean) →
          OfOthers Q others → EachDraft P a → ReadsOthers s cs bs j a others d → EachDraft P d
      others_each j a no_other d q g h = moved a d h g
      others_each j a (other x others) d q g h =
          others_each j (joined_by j a h.0) others d q.1
          (joined_each j a h.0 g (reads_each x h.0 q.0 h.1)) h.2

    pub bodies_each : (items : List ItemForm) (bodies : List (Draft Boolean)) → EachTree Q items →
        AllRead s cs bs (map (λ d. d.body) (declarations_of items)) bodies →
        AllByRecursion (EachDraft P) bodies
    bodies_each [] [] q h = tt
    bodies_each [] (d ∷ ds) q h = elim h [ ]
    bodies_each (counter c ∷ items) ds q h = bodies_each items ds q.1 h
    bodies_each (declaration x ∷ items) [] q h = elim h [ ]
    bodies_each (declaration x ∷ items) (d ∷ ds) q h =
        (reads_each x.body d q.0 h.0, bodies_each items ds q.1 h.1)
    bodies_each (assertion a ∷ items) ds q h = bodies_each items ds q.1 h

    before_each : (k : Implication) (d : Draft Boolean) → P One → EachDraft P d →
        EachDraft P (before_by k d)
    before_each Overlapped d one h = h
    before_each NonOverlapped d one h = (h, one)

    pub antecedent_each : (x : PropertyForm) (d : Draft Boolean) → P One → OfProperty Q x →
        ReadsAntecedent s cs bs x d → EachDraft P d
    antecedent_each (plain y) d one q h = moved (drafts.boolean One) d h one
    antecedent_each (implication word a kind c) d one q h =
        moved (before_by kind h.0) d h.2 (before_each kind h.0 one (reads_each a h.0 q.0 h.1))

    pub consequent_each : (x : PropertyForm) (d : Draft Boolean) → OfProperty Q x →
        ReadsConsequent s cs bs x d → EachDraft P d
    consequent_each (plain y) d q h = reads_each y d q h
    consequent_each (implication word a t c) d q h = reads_each c d q.1 h
