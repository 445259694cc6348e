-- The faults of the limits.
use Rattle.std.proofs.Common.{◌≡◌, ◌⊎◌, inl, inr, ℕ, ◌≤◌, true, false, cond, List, [], ◌∷◌, ◌++◌}
use Rattle.std.proofs.Common.{map, Option, Some, None, refl, sym, ap, ◌∙◌, subst, arith}
use Rattle.std.specs.Prelude.{nat_lt}
use Rattle.verifier.specs.declared.refusal.Refusal.{Refusal}
use Rattle.verifier.specs.declared.pool.Pool.TheVariants as pools
use Rattle.verifier.specs.declared.refusal.Refusal.TheVariants.{HistoryTooShort, StackTooShort}
use Rattle.verifier.specs.declared.refusal.Refusal.TheVariants.{PoolTooSmall, BudgetTooSmall}
use Rattle.verifier.specs.Inference.{Found, found}
use Rattle.verifier.specs.Order.{IsFirstRefusal, first_refusal}
use Rattle.verifier.specs.Limits.{farthest}
use Rattle.bytecode_programs.specs.Values.{ProgramData}
use Rattle.bytecode_programs.specs.declared.limits.Limits.{Limits}
use Rattle.verifier.specs.declared.least.LeastLimits.{LeastLimits}
use Rattle.verifier.specs.Programs.{below, least_stack, least_attempts, least_obligations}
use Rattle.verifier.specs.Programs.{least_budget, limit_refusals, least_limits, part_faults}
use Rattle.verifier.specs.Programs.{all_faults}
use Rattle.verifier.proofs.Acceptable.{IsWithinLimits, IsAcceptable}
use Rattle.verifier.proofs.ScanLaws.{head_of}
use Rattle.verifier.proofs.BlockLaws.{none_first}
use Rattle.verifier.proofs.TypingLaws.{nil_parts, nil_map}
use Rattle.verifier.proofs.ProgramLaws.{formed, faultless}
use Rattle.std.proofs.lemmas.Bool.{cases_Bool, ltb-false, le-ltb}
use Rattle.verifier.proofs.HeaderLaws.{Climbs, climbs_join, climbs_if, head_first, part_small}

-- fronts of the faults of the limits
abbrev pub short_1 : Limits → LeastLimits → List Refusal
short_1 d l = below d.history l.history (HistoryTooShort l.history)

abbrev pub short_2 : Limits → LeastLimits → List Refusal
short_2 d l = short_1 d l ++ below d.stack l.stack (StackTooShort l.stack)

abbrev pub short_3 : Limits → LeastLimits → List Refusal
short_3 d l = short_2 d l ++ below d.attempts l.attempts (PoolTooSmall pools.Attempts l.attempts)

abbrev pub short_4 : Limits → LeastLimits → List Refusal
short_4 d l = short_3 d l ++ below d.obligations l.obligations (PoolTooSmall pools.Obligations l.obligations)

abbrev limits_1 : ProgramData → List Refusal
limits_1 p = short_1 p.header.limits (least_limits p)

abbrev limits_2 : ProgramData → List Refusal
limits_2 p = short_2 p.header.limits (least_limits p)

abbrev limits_3 : ProgramData → List Refusal
limits_3 p = short_3 p.header.limits (least_limits p)

abbrev limits_4 : ProgramData → List Refusal
limits_4 p = short_4 p.header.limits (least_limits p)

limit_climbs : (p : ProgramData) → Climbs 0 224 (limit_refusals p.header.limits (least_limits p))
limit_climbs p =
    climbs_join 0 209 224 (limits_4 p) _
    (climbs_join 0 208 209 (limits_3 p) _
    (climbs_join 0 176 208 (limits_2 p) _
    (climbs_join 0 160 176 (limits_1 p) _
    (climbs_if (nat_lt p.header.limits.history (farthest p.sample)) (HistoryTooShort (farthest p.sample)) 0 160
    (omega arith) (omega arith))
    (climbs_if (nat_lt p.header.limits.stack (least_stack p)) (StackTooShort (least_stack p)) 160 176 (omega arith)
    (omega arith)))
    (climbs_if (nat_lt p.header.limits.attempts (least_attempts p)) (PoolTooSmall pools.Attempts (least_attempts p)) 176
    208 (omega arith) (omega arith)))
    (climbs_if (nat_lt p.header.limits.obligations (least_obligations p))
    (PoolTooSmall pools.Obligations (least_obligations p)) 208 209 (omega arith) (omega arith)))
    (climbs_if (nat_lt p.header.limits.budget (least_budget p)) (BudgetTooSmall (least_budget p)) 209 224 (omega arith)
    (omega arith))

pub refused_limit : (p : ProgramData) (r : Refusal) → part_faults p ≡ []
    → Some r ≡ first_refusal (limit_refusals p.header.limits (least_limits p)) → IsFirstRefusal r (all_faults p)
refused_limit p r none h =
    subst (λ (fs : List Found). IsFirstRefusal r
    (fs ++ map (found 4 0) (limit_refusals p.header.limits (least_limits p)))) (sym none)
    (record {
      fault = found 4 0 r;
      first =
          head_first 4 0 224 (limit_refusals p.header.limits (least_limits p)) r (limit_climbs p)
          (λ x i. part_small x) (head_of r (limit_refusals p.header.limits (least_limits p)) h);
      is = refl;
    })

pub no_fault : (p : ProgramData) → part_faults p ≡ []
    → None ≡ first_refusal (limit_refusals p.header.limits (least_limits p)) → all_faults p ≡ []
no_fault p none h =
    ap (λ fs. fs ++ map (found 4 0) (limit_refusals p.header.limits (least_limits p))) none
    ∙ ap (map (found 4 0)) (none_first (limit_refusals p.header.limits (least_limits p)) h)

below_none : (declared least : ℕ) (r : Refusal) → below declared least r ≡ [] → least ≤ declared
below_none declared least r h = by_test (cases_Bool (nat_lt declared least))
  where
    by_test : (nat_lt declared least ≡ true) ⊎ (nat_lt declared least ≡ false) → least ≤ declared
    by_test (inl hit) = (let some : r ∷ [] ≡ [] = sym (ap (λ b. cond b (r ∷ []) []) hit) ∙ h in cc)
    by_test (inr miss) = ltb-false declared least miss

below_some : (declared least : ℕ) (r : Refusal) → least ≤ declared → below declared least r ≡ []
below_some declared least r h = ap (λ b. cond b (r ∷ []) []) (le-ltb declared least h)

within : (p : ProgramData) → limit_refusals p.header.limits (least_limits p) ≡ [] → IsWithinLimits p
within p h =
    let budget =
    nil_parts (limits_4 p) (below p.header.limits.budget (least_budget p) (BudgetTooSmall (least_budget p))) h in
    let obligations =
    nil_parts (limits_3 p)
    (below p.header.limits.obligations (least_obligations p)
    (PoolTooSmall pools.Obligations (least_obligations p))) budget.0 in
    let attempts =
    nil_parts (limits_2 p)
    (below p.header.limits.attempts (least_attempts p) (PoolTooSmall pools.Attempts (least_attempts p)))
    obligations.0 in
    let stack =
    nil_parts (limits_1 p) (below p.header.limits.stack (least_stack p) (StackTooShort (least_stack p)))
    attempts.0 in
    record {
      history = below_none p.header.limits.history (farthest p.sample) _ stack.0;
      stack = below_none p.header.limits.stack (least_stack p) _ stack.1;
      attempts = below_none p.header.limits.attempts (least_attempts p) _ attempts.1;
      obligations = below_none p.header.limits.obligations (least_obligations p) _ obligations.1;
      budget = below_none p.header.limits.budget (least_budget p) _ budget.1;
    }

join_none : (xs ys : List Refusal) → xs ≡ [] → ys ≡ [] → xs ++ ys ≡ []
join_none xs ys a b = ap (λ zs. zs ++ ys) a ∙ b

without : (p : ProgramData) → IsWithinLimits p → limit_refusals p.header.limits (least_limits p) ≡ []
without p w =
    join_none (limits_4 p) _ (join_none (limits_3 p) _ (join_none (limits_2 p) _ (join_none (limits_1 p) _
    (below_some p.header.limits.history (farthest p.sample) (HistoryTooShort (farthest p.sample)) w.history)
    (below_some p.header.limits.stack (least_stack p) (StackTooShort (least_stack p)) w.stack))
    (below_some p.header.limits.attempts (least_attempts p) (PoolTooSmall pools.Attempts (least_attempts p))
    w.attempts))
    (below_some p.header.limits.obligations (least_obligations p) (PoolTooSmall pools.Obligations (least_obligations p))
    w.obligations))
    (below_some p.header.limits.budget (least_budget p) (BudgetTooSmall (least_budget p)) w.budget)

pub acceptable : (p : ProgramData) → all_faults p ≡ [] → IsAcceptable p
acceptable p h =
    let parts = nil_parts (part_faults p) (map (found 4 0) (limit_refusals p.header.limits (least_limits p))) h in
    let f = formed p parts.0 in
    record {
      formed = f.0;
      room = f.1;
      limits = within p (nil_map (found 4 0) (limit_refusals p.header.limits (least_limits p)) parts.1);
    }

pub acceptable_faultless : (p : ProgramData) → IsAcceptable p → all_faults p ≡ []
acceptable_faultless p a =
    ap (λ fs. fs ++ map (found 4 0) (limit_refusals p.header.limits (least_limits p))) (faultless p a.formed a.room)
    ∙ ap (map (found 4 0)) (without p a.limits)

-- as the code finds them
found_limits : (p : ProgramData) (least : LeastLimits) (first : Option Refusal) → least ≡ least_limits p
    → first ≡ first_refusal (limit_refusals p.header.limits least)
    → first ≡ first_refusal (limit_refusals p.header.limits (least_limits p))
found_limits p least first is h = h ∙ ap (λ (l : LeastLimits). first_refusal (limit_refusals p.header.limits l)) is

pub refused_by : (p : ProgramData) (least : LeastLimits) (r : Refusal) → part_faults p ≡ [] → least ≡ least_limits p
    → Some r ≡ first_refusal (limit_refusals p.header.limits least) → IsFirstRefusal r (all_faults p)
refused_by p least r none is h = refused_limit p r none (found_limits p least (Some r) is h)

pub acceptable_by : (p : ProgramData) (least : LeastLimits) → part_faults p ≡ [] → least ≡ least_limits p
    → None ≡ first_refusal (limit_refusals p.header.limits least) → IsAcceptable p
acceptable_by p least none is h = acceptable p (no_fault p none (found_limits p least None is h))
