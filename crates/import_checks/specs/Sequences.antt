-- What the parts of an opening are as sequences (IEEE 1800-2017, 16.7 and 16.9), by cases on how
-- they were written. The bound stands for an end that is left open.
use Rattle.std.specs.Prelude.{◌≡◌, ◌≤◌, ℕ, ◌+◌, Bool, true, false, Option, Some}
use Rattle.assertions.specs.Written.{Written, boolean, delay, lead, repeat, or, and, intersect}
use Rattle.assertions.specs.Written.{throughout}
use Rattle.import_elaboration.specs.declared.opener.Parts.{Parts}
use Rattle.import_elaboration.specs.declared.part.Part.TheVariants as part
use Rattle.import_elaboration.specs.declared.part.Assignments.{Assignments}
use Rattle.import_elaboration.specs.declared.part.Count.{Count}
use Rattle.import_elaboration.specs.declared.part.PartId.{PartId}
use Rattle.import_elaboration.specs.declared.value.ValueId.{ValueId}
use Rattle.import_properties.specs.declared.condition.Condition.{Condition}
use Rattle.import_properties.specs.declared.condition.Condition.TheVariants.{One}
use Rattle.import_properties.specs.Conditions.{negation}
use Rattle.import_properties.specs.Derived.{goto_form, nonconsecutive_form}
use Rattle.import_checks.specs.Values.{IsPart, IsTruth}
use Rattle.import_checks.specs.Counts.{IsCount, BeginsAt}
use Rattle.import_checks.specs.Booleans.{IsBoolean}
use Rattle.import_checks.specs.Lengths.{fewest_ticks, most_ticks}

-- all matches are so long
abbrev pub HasLength : Written Condition → ℕ → Type 0
HasLength w n = (fewest_ticks w ≡ n) × (most_ticks w ≡ n)

-- All matches have one length, of a tick or more.
pub record HasOneLength (w : Written Condition) : Type 0 where
  pub length : ℕ
  pub some : 1 ≤ length
  pub is : HasLength w length

-- Each of the two has one length, and the first is so many ticks shorter.
pub record FitsInside (r : Written Condition) (more : ℕ) (s : Written Condition) : Type 0 where
  pub inner : ℕ
  pub some : 1 ≤ inner
  pub short : HasLength r inner
  pub long : HasLength s (inner + more)

-- Where the shortest delay after r is written so, what follows begins after at least so many ticks.
-- After no tick, ##0 never matches (16.9.2.1): there ##[0:n] is ##[1:n].
pub data IsAfter (r : Written Condition) : ℕ → ℕ → Type 0 where
  after_ticks : {least : ℕ} → HasOneLength r → IsAfter r least least
  after_none : {least : ℕ} → HasLength r 0 → 1 ≤ least → IsAfter r least least
  after_none_now : HasLength r 0 → IsAfter r 0 1

-- b after at most so many ticks at which it is false: the first match of ##[0:more] b
abbrev pub first_of : Condition → ℕ → Written Condition
first_of b more = delay (repeat (boolean (negation b)) 0 more) 1 1 (boolean b)

-- s anywhere in so many ticks: (1[*0:$] ##1 s ##1 1[*0:$])
abbrev pub anywhere : Written Condition → ℕ → Written Condition
anywhere s most =
    delay (repeat (boolean One) 0 most) 1 1 (delay s 1 1 (repeat (boolean One) 0 most))

-- A value is b, and a count is from least to most; no gap lasts longer than the bound.
pub record IsFound (o : Parts) (bound : Option ℕ) (v : ValueId) (count : Count) (b : Condition)
    (least most gap : ℕ) : Type 0 where
  pub counted : IsCount bound count least most
  pub bounded : bound ≡ Some gap
  pub true_at : IsTruth o v b

-- The part is this sequence. Where `only` is true, it is only asked whether it matches, and not
-- where it ends.
pub data IsSequence (o : Parts) (bound : Option ℕ) : Bool → PartId → Written Condition
    → Type 0 where
  -- a boolean, or several that are joined (16.7)
  is_one_tick : {only : Bool} {id : PartId} {b : Condition} → IsBoolean o bound id b
      → IsSequence o bound only id (boolean b)
  -- ##[m:n] s (16.7)
  is_lead : {only : Bool} {id p : PartId} {count : Count} {least most : ℕ} {s : Written Condition}
      → IsPart o id (part.Lead count p) → IsCount bound count least most
      → IsSequence o bound only p s → IsSequence o bound only id (lead least most s)
  -- r ##[m:n] s (16.7)
  is_delay : {only : Bool} {id p q : PartId} {count : Count} {least most : ℕ}
      {r s : Written Condition}
      → IsPart o id (part.Delay p count q) → IsCount bound count least most
      → IsSequence o bound false p r → IsSequence o bound only q s
      → IsSequence o bound only id (delay r least most s)
  -- r[*m:n] (16.9.2); r[*1] is r
  is_repeat : {only : Bool} {id p : PartId} {count : Count} {least most : ℕ} {r : Written Condition}
      → IsPart o id (part.Repeat p count) → IsCount bound count least most
      → IsSequence o bound false p r → IsSequence o bound only id (repeat r least most)
  is_once : {only : Bool} {id p : PartId} {count : Count} {r : Written Condition}
      → IsPart o id (part.Repeat p count) → IsCount bound count 1 1
      → IsSequence o bound false p r → IsSequence o bound only id r
  -- b[->m:n] and b[=m:n] (16.9.2), where no gap lasts longer than the bound
  is_goto : {only : Bool} {id : PartId} {v : ValueId} {count : Count} {b : Condition}
      {least most gap : ℕ}
      → IsPart o id (part.Goto v count) → IsFound o bound v count b least most gap
      → IsSequence o bound only id (goto_form b least most gap)
  is_nonconsecutive : {only : Bool} {id : PartId} {v : ValueId} {count : Count} {b : Condition}
      {least most gap : ℕ}
      → IsPart o id (part.Nonconsecutive v count)
      → IsFound o bound v count b least most gap
      → IsSequence o bound only id (nonconsecutive_form b least most gap)
  -- b[=m:n] matches from where b[->m:n] does, m > 0
  is_found : {id : PartId} {v : ValueId} {count : Count} {b : Condition} {least most gap : ℕ}
      → IsPart o id (part.Nonconsecutive v count)
      → IsFound o bound v count b least most gap → 1 ≤ least
      → IsSequence o bound true id (goto_form b least most gap)
  -- b throughout r (16.9.9)
  is_throughout : {only : Bool} {id p : PartId} {v : ValueId} {b : Condition} {r : Written
      Condition}
      → IsPart o id (part.Throughout v p) → IsTruth o v b → IsSequence o bound only p r
      → IsSequence o bound only id (throughout b r)
  -- r and s (16.9.5), r or s (16.9.7), r intersect s (16.9.6)
  is_and : {only : Bool} {id p q : PartId} {r s : Written Condition} → IsPart o id (part.And p q)
      → IsSequence o bound only p r → IsSequence o bound only q s
      → IsSequence o bound only id (and r s)
  is_or : {only : Bool} {id p q : PartId} {r s : Written Condition} → IsPart o id (part.Or p q)
      → IsSequence o bound only p r → IsSequence o bound only q s
      → IsSequence o bound only id (or r s)
  is_intersect : {only : Bool} {id p q : PartId} {r s : Written Condition}
      → IsPart o id (part.Intersect p q)
      → IsSequence o bound false p r → IsSequence o bound false q s
      → IsSequence o bound only id (intersect r s)
  -- r within s: r anywhere in a match of s (16.9.10)
  is_within : {only : Bool} {id p q : PartId} {r s : Written Condition} {most : ℕ}
      → IsPart o id (part.Within p q) → IsSequence o bound false p r → IsSequence o bound false q s
      → most_ticks s ≤ most → IsSequence o bound only id (intersect (anywhere r most) s)
  -- the same where each of the two has one length
  is_inside : {only : Bool} {id p q : PartId} {r s : Written Condition} {more : ℕ}
      → IsPart o id (part.Within p q)
      → IsSequence o bound false p r → IsSequence o bound false q s → FitsInside r more s
      → IsSequence o bound only id (and (lead 0 more r) s)
  -- first_match(r) (16.9.8): r has one length; or it is only asked whether it matches
  is_first : {only : Bool} {id p : PartId} {r : Written Condition}
      → IsPart o id (part.FirstMatch p) → IsSequence o bound false p r → HasOneLength r
      → IsSequence o bound only id r
  is_first_only : {id p : PartId} {r : Written Condition} → IsPart o id (part.FirstMatch p)
      → 1 ≤ fewest_ticks r → IsSequence o bound true p r → IsSequence o bound true id r
  -- first_match(##[m:n] b), first_match(r ##[m:n] b) for r of one length or none, and
  -- first_match(b[*m:n])
  is_first_lead : {only : Bool} {id p q : PartId} {count : Count} {b : Condition} {least more : ℕ}
      → IsPart o id (part.FirstMatch p) → IsPart o p (part.Lead count q)
      → IsCount bound count least (least + more) → IsBoolean o bound q b
      → IsSequence o bound only id (lead least least (first_of b more))
  is_first_delay : {only : Bool} {id p q u : PartId} {count : Count} {b : Condition}
      {r : Written Condition} {start least more : ℕ}
      → IsPart o id (part.FirstMatch p) → IsPart o p (part.Delay u count q)
      → IsCount bound count start (least + more) → IsAfter r start least
      → IsSequence o bound false u r → IsBoolean o bound q b
      → IsSequence o bound only id (delay r least least (first_of b more))
  is_first_repeat : {only : Bool} {id p q : PartId} {count : Count} {b : Condition}
      {least : ℕ}
      → IsPart o id (part.FirstMatch p) → IsPart o p (part.Repeat q count)
      → BeginsAt bound count least → 1 ≤ least → IsBoolean o bound q b
      → IsSequence o bound only id (repeat (boolean b) least least)
  -- first_match(b[->n]), which ends once
  is_first_goto : {only : Bool} {id p : PartId} {v : ValueId} {count : Count} {b : Condition}
      {n gap : ℕ}
      → IsPart o id (part.FirstMatch p) → IsPart o p (part.Goto v count)
      → IsFound o bound v count b n n gap → IsSequence o bound only id (goto_form b n n gap)
  -- (r, x = e) (16.10)
  is_assigned : {only : Bool} {id p : PartId} {list : Assignments} {r : Written Condition}
      → IsPart o id (part.Assigned p list) → IsSequence o bound only p r
      → IsSequence o bound only id r
