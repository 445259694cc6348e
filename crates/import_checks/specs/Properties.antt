-- What the parts of an opening are as properties (IEEE 1800-2017, 16.12), by cases on how they were
-- written; each as one of the seven forms that others stand for (F.3.4).
use Rattle.std.specs.Prelude.{◌≡◌, ◌≤◌, ℕ, ◌+◌, ◌-◌, true, false, Option, Some, None, unwrap_or}
use Rattle.std.specs.Prelude.{slice_get}
use Rattle.assertions.specs.Segments.{Seq}
use Rattle.assertions.specs.Segments as seq
use Rattle.assertions.specs.Written.{Written, boolean, lead, kernel}
use Rattle.import_elaboration.specs.declared.opener.Parts.{Parts}
use Rattle.import_elaboration.specs.declared.part.Part.{Part}
use Rattle.import_elaboration.specs.declared.part.Part.TheVariants as part
use Rattle.import_elaboration.specs.declared.part.Choice.{Choice}
use Rattle.import_elaboration.specs.declared.part.ChoiceId.{ChoiceId}
use Rattle.import_elaboration.specs.declared.part.Count.{Count}
use Rattle.import_elaboration.specs.declared.part.PartId.{PartId}
use Rattle.import_elaboration.specs.declared.value.Value.TheVariants as values
use Rattle.import_elaboration.specs.declared.value.ValueId.{ValueId}
use Rattle.import_elaboration.specs.declared.value.ValueList.{ValueList}
use Rattle.import_trees.specs.declared.operator.Infix.TheVariants as infixes
use Rattle.import_properties.specs.declared.condition.Condition.{Condition}
use Rattle.import_properties.specs.declared.condition.Condition.TheVariants.{One, Leaf}
use Rattle.import_properties.specs.Properties.{Form, sequence, negated, either, both}
use Rattle.import_properties.specs.Properties.{implied, until}
use Rattle.import_properties.specs.Properties.{followed, then_tick, chosen, later, each_later}
use Rattle.import_properties.specs.Properties.{some_later, form_of}
use Rattle.import_checks.specs.declared.rest.Rest.{Rest}
use Rattle.import_checks.specs.declared.rest.Rest.TheVariants as rests
use Rattle.import_checks.specs.declared.pairs.Pair.{Pair}
use Rattle.import_checks.specs.declared.pairs.Pair.TheVariants.{And, Or, Implies, Iff, Until}
use Rattle.import_checks.specs.declared.pairs.Pair.TheVariants.{UntilWith}
use Rattle.import_checks.specs.Values.{IsPart, IsTruth, IsValue}
use Rattle.import_checks.specs.Booleans.{IsBoolean}
use Rattle.import_checks.specs.Counts.{IsCount}
use Rattle.import_checks.specs.Lengths.{fewest_ticks}
use Rattle.import_checks.specs.Sequences.{IsSequence}
use Rattle.import_checks.specs.Halves.{AreHalves}

-- the sequence of the kernel that is written so
abbrev pub said : Written Condition → Seq Condition
said = kernel One

-- Two properties that begin together: p and q, p or q (16.12.4, 16.12.5), p implies q, p iff q
-- (16.12.8), p until q, p until_with q, and the strong ones (16.12.12).
abbrev pub pair_of : Pair → Form Condition → Form Condition → Form Condition
pair_of And f g = both f g
pair_of Or f g = either f g
pair_of Implies f g = either (negated f) g
pair_of Iff f g = both (either (negated f) g) (either (negated g) f)
pair_of Until f g = until f g
pair_of UntilWith f g = until f (both f g)

-- how a part joins two properties
abbrev pub pair_part : Pair → PartId → PartId → Part
pair_part And p q = part.And p q
pair_part Or p q = part.Or p q
pair_part Implies p q = part.Implies p q
pair_part Iff p q = part.Iff p q
pair_part Until p q = part.Until p q
pair_part UntilWith p q = part.UntilWith p q

-- The two properties of a part are joined so.
abbrev pub IsPair : Parts → PartId → Pair → PartId → PartId → Type 0
IsPair o id pair p q = IsPart o id (pair_part pair p q)

-- from this tick on
abbrev pub endless : Count
endless = record { least = 0; most = None }

-- This item of a case stands at the place.
pub record IsChoice (o : Parts) (id : ChoiceId) (choice : Choice) : Type 0 where
  pub stands : slice_get o.choices.items id.0 ≡ Some choice

-- This value is listed at the place.
pub record IsListed (o : Parts) (place : ℕ) (m : ValueId) : Type 0 where
  pub stands : slice_get o.listed.items place ≡ Some m

-- The value t says v === m, where m is listed at the place.
pub record IsTest (o : Parts) (t v : ValueId) (place : ℕ) : Type 0 where
  pub member : ValueId
  pub listed : IsListed o place member
  pub says : IsValue o t (values.Infix infixes.CaseEqual v member)

-- The value w says that v is one of so many of a list, by v === m || v === n (16.12.16).
pub data IsOneOf (o : Parts) (v : ValueId) (first : ℕ) : ℕ → ValueId → Type 0 where
  one_test : {w : ValueId} → IsTest o w v first → IsOneOf o v first 1 w
  more_tests : {n : ℕ} {w x t : ValueId} → IsOneOf o v first n x → IsTest o t v (first + n)
      → IsValue o w (values.Infix infixes.Or x t) → IsOneOf o v first (n + 1) w

-- what a property asks, if something is left of it
abbrev pub rest_of : Rest → Option (Form Condition)
rest_of rests.Nothing = None
rest_of (rests.Asked p) = Some (form_of p.now)

-- p where b is true, and else what is asked otherwise, if anything is
abbrev pub chosen_or : Condition → Form Condition → Option (Form Condition) → Form Condition
chosen_or b f None = implied (seq.one b) f
chosen_or b f (Some g) = chosen b f g

mutual
  -- The part is this property.
  pub data IsProperty (o : Parts) (bound : Option ℕ) : PartId → Form Condition → Type 0 where
    -- a sequence, and strong(s) and weak(s), which differ only at the end of a trace (16.12.2)
    is_plain : {id : PartId} {s : Written Condition} → IsSequence o bound true id s
        → IsProperty o bound id (sequence (said s))
    is_strong : {id p : PartId} {f : Form Condition} → IsPart o id (part.Strength p)
        → IsProperty o bound p f → IsProperty o bound id f
    -- ##[m:n] s, as: m ticks later, ##[0:n-m] s (16.7)
    is_delayed : {id p : PartId} {count : Count} (least more : ℕ) (s : Written Condition)
        → IsPart o id (part.Lead count p) → IsCount bound count least (least + more)
        → IsSequence o bound true p s → 1 ≤ fewest_ticks s
        → IsProperty o bound id (implied (said (lead least least (boolean One)))
        (sequence (said (lead 0 more s))))
    -- not p (16.12.3)
    is_not : {id p : PartId} {f : Form Condition} → IsPart o id (part.Not p)
        → IsProperty o bound p f
        → IsProperty o bound id (negated f)
    -- if (b) p, if (b) p else q (16.12.6)
    is_if : {id p : PartId} {v : ValueId} {b : Condition} {f : Form Condition}
        → IsPart o id (part.If v p) → IsTruth o v b → IsProperty o bound p f
        → IsProperty o bound id (implied (seq.one b) f)
    is_if_else : {id p q : PartId} {v : ValueId} {b : Condition} {f g : Form Condition}
        → IsPart o id (part.IfElse v p q) → IsTruth o v b
        → IsProperty o bound p f → IsProperty o bound q g → IsProperty o bound id (chosen b f g)
    -- r |-> p, r |=> p (16.12.7)
    is_overlapped : {id p q : PartId} {r : Written Condition} {f : Form Condition}
        → IsPart o id (part.Implication p q)
        → IsSequence o bound false p r → IsProperty o bound q f
        → IsProperty o bound id (implied (said r) f)
    is_next_tick : {id p q : PartId} {r : Written Condition} {f : Form Condition}
        → IsPart o id (part.NextImplication p q)
        → IsSequence o bound false p r → IsProperty o bound q f
        → IsProperty o bound id (implied (then_tick (said r)) f)
    -- p and q, and the others that join two properties
    is_pair : {id p q : PartId} (pair : Pair) {f g : Form Condition} → IsPair o id pair p q
        → IsProperty o bound p f → IsProperty o bound q g
        → IsProperty o bound id (pair_of pair f g)
    -- p and q, and p and q that are asked at each of some ticks, which is both of them asked there
    is_both : {id p q : PartId} {f g : Form Condition} → AreHalves o id p q
        → IsProperty o bound p f → IsProperty o bound q g
        → IsProperty o bound id (both f g)
    -- b implies q (16.12.8) is b |-> q
    is_implies_after : {id p q : PartId} {b : Condition} {g : Form Condition}
        → IsPart o id (part.Implies p q) → IsBoolean o bound p b → IsProperty o bound q g
        → IsProperty o bound id (implied (seq.one b) g)
    -- r #-# p, r #=# p (16.12.9)
    is_followed_by : {id p q : PartId} {r : Written Condition} {f : Form Condition}
        → IsPart o id (part.FollowedBy p q)
        → IsSequence o bound false p r → IsProperty o bound q f
        → IsProperty o bound id (followed (said r) f)
    is_next_followed_by : {id p q : PartId} {r : Written Condition} {f : Form Condition}
        → IsPart o id (part.NextFollowedBy p q)
        → IsSequence o bound false p r → IsProperty o bound q f
        → IsProperty o bound id (followed (then_tick (said r)) f)
    -- nexttime[n] p, s_nexttime[n] p (16.12.10)
    is_nexttime : {id p : PartId} {n : ℕ} {f : Form Condition} → IsPart o id (part.Next n p)
        → IsProperty o bound p f → IsProperty o bound id (later n f)
    -- always [m:n] p, s_always [m:n] p (16.12.11); always p is always [0:$] p
    is_always : {id p : PartId} {range : Option Count} {least most : ℕ} {f : Form Condition}
        → IsPart o id (part.Always range p) → IsCount bound (unwrap_or range endless) least most
        → IsProperty o bound p f → IsProperty o bound id (each_later least (most - least) f)
    -- s_eventually [m:n] p, eventually [m:n] p (16.12.13); s_eventually p is s_eventually [0:$] p
    is_eventually : {id p : PartId} {range : Option Count} {least most : ℕ} {f : Form Condition}
        → IsPart o id (part.Eventually range p) → IsCount bound (unwrap_or range endless) least most
        → IsProperty o bound p f → IsProperty o bound id (some_later least (most - least) f)
    -- case (v) .. endcase: the first item that has the value, or the default (16.12.16)
    is_case : {id : PartId} {v : ValueId} {last : Option ChoiceId} {rest : Option (Form Condition)}
        {f : Form Condition} → IsPart o id (part.Case v last) → IsRest o bound last rest
        → IsCase o bound v last rest f → IsProperty o bound id f

  -- What is asked where no item has the value: the default among the items up to one, or nothing.
  pub data IsRest (o : Parts) (bound : Option ℕ) : Option ChoiceId → Option (Form Condition)
      → Type 0 where
    no_rest : IsRest o bound None None
    rest_default : {id : ChoiceId} {choice : Choice} {f : Form Condition} → IsChoice o id choice
        → choice.values ≡ None → IsProperty o bound choice.body f
        → IsRest o bound (Some id) (Some f)
    rest_before : {id : ChoiceId} {choice : Choice} {list : ValueList}
        {rest : Option (Form Condition)} → IsChoice o id choice → choice.values ≡ Some list
        → IsRest o bound choice.before rest → IsRest o bound (Some id) rest

  -- The items up to one ask f, where what comes after them asks rest.
  pub data IsCase (o : Parts) (bound : Option ℕ) :
      ValueId → Option ChoiceId → Option (Form Condition) → Form Condition → Type 0 where
    no_item : {v : ValueId} {f : Form Condition} → IsCase o bound v None (Some f) f
    item : {id : ChoiceId} {choice : Choice} {list : ValueList} {v w : ValueId}
        {rest : Option (Form Condition)} {f g : Form Condition} → IsChoice o id choice
        → choice.values ≡ Some list → IsOneOf o v list.first list.count w
        → IsProperty o bound choice.body f
        → IsCase o bound v choice.before (Some (chosen_or (Leaf w.0) f rest)) g
        → IsCase o bound v (Some id) rest g
    no_values : {id : ChoiceId} {choice : Choice} {v : ValueId} {rest : Option (Form Condition)}
        {f : Form Condition} → IsChoice o id choice → choice.values ≡ None
        → IsCase o bound v choice.before rest f → IsCase o bound v (Some id) rest f
