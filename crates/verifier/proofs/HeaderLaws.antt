-- The header's faults, in their order.
use Rattle.std.proofs.Common.{◌≡◌, ◌⊎◌, inl, inr, ℕ, ◌+◌, ◌*◌, ◌<◌, ◌≤◌, Bool, true, false, cond}
use Rattle.std.proofs.Common.{List, [], ◌∷◌, ◌++◌, length, map, Option, Some, None, refl, sym, ap}
use Rattle.std.proofs.Common.{◌∙◌, subst, arith}
use Rattle.std.specs.Prelude.{nat_lt}
use Rattle.std.proofs.lemmas.Bool.{ltb-false, le-ltb, cases_eq, cases_Bool}
use Rattle.verifier.specs.declared.field.Field.{Field}
use Rattle.verifier.specs.declared.field.Field.TheVariants as fields
use Rattle.verifier.specs.declared.refusal.Refusal.{Refusal}
use Rattle.verifier.specs.declared.pool.Pool.TheVariants as pools
use Rattle.verifier.specs.declared.refusal.Refusal.TheVariants.{SlotRange, PoolTooSmall}
use Rattle.verifier.specs.declared.refusal.Refusal.TheVariants.{LimitTooLarge}
use Rattle.verifier.specs.Inference.{Found, found}
use Rattle.verifier.specs.Order.{number_of, fault_part, field_place, IsUpTo, found_place, IsIn, IsFirstFound}
use Rattle.verifier.specs.Scans.{IsHeadRefusal}
use Rattle.verifier.specs.Sections.{instructions_in}
use Rattle.bytecode_programs.specs.Instructions.{frame_of}
use Rattle.bytecode_programs.specs.Values.{ProgramData}
use Rattle.verifier.specs.Programs.{HasRoom, disable_faults, over, header_refusals}
use Rattle.verifier.proofs.TypingLaws.{nil_parts}

-- fronts of the header's faults
abbrev pub front_0 : ProgramData → List Refusal
front_0 p = disable_faults p.header.disable p.header.atoms

abbrev pub front_1 : ProgramData → List Refusal
front_1 p = front_0 p ++ over 4096 p.header.limits.history fields.History

abbrev pub front_2 : ProgramData → List Refusal
front_2 p = front_1 p ++ over 1024 p.header.limits.stack fields.Stack

abbrev pub front_3 : ProgramData → List Refusal
front_3 p = front_2 p ++ over 1024 p.header.limits.attempts fields.Attempts

abbrev pub front_4 : ProgramData → List Refusal
front_4 p = front_3 p ++ over 1024 p.header.limits.obligations fields.Obligations

abbrev pub front_5 : ProgramData → List Refusal
front_5 p = front_4 p ++ over 16777216 p.header.limits.budget fields.Budget

abbrev pub front_6 : ProgramData → List Refusal
front_6 p = front_5 p ++ over 127 p.header.atoms fields.Atoms

abbrev pub front_7 : ProgramData → List Refusal
front_7 p = front_6 p ++ over 256 (length (frame_of p).slots) fields.Slots

abbrev pub front_8 : ProgramData → List Refusal
front_8 p = front_7 p ++ over 4096 (length p.sample) fields.Sample

abbrev pub front_9 : ProgramData → List Refusal
front_9 p = front_8 p ++ over 127 (length p.antecedent.blocks) fields.AntecedentPositions

abbrev pub front_10 : ProgramData → List Refusal
front_10 p = front_9 p ++ over 4096 (instructions_in p.antecedent.blocks) fields.AntecedentCode

abbrev pub front_11 : ProgramData → List Refusal
front_11 p = front_10 p ++ over 127 (length p.consequent.blocks) fields.ConsequentPositions

abbrev pub front_12 : ProgramData → List Refusal
front_12 p = front_11 p ++ over 4096 (instructions_in p.consequent.blocks) fields.ConsequentCode

-- numbers and parts that rise
abbrev pub rank_of : Refusal → ℕ
rank_of r = 16 * number_of r + fault_part r

abbrev pub Climbs : ℕ → ℕ → List Refusal → Type 0
Climbs low high [] = low ≤ high
Climbs low high (r ∷ rs) = (low < rank_of r) × Climbs (rank_of r) high rs

climbs_weaker : (low middle high : ℕ) (ys : List Refusal) → low ≤ middle → Climbs middle high ys → Climbs low high ys
climbs_weaker low middle high [] a b = omega arith
climbs_weaker low middle high (y ∷ ys) a b = (omega (arith, b.0), b.1)

pub climbs_join : (low middle high : ℕ) (xs ys : List Refusal) → Climbs low middle xs → Climbs middle high ys
    → Climbs low high (xs ++ ys)
climbs_join low middle high [] ys a b = climbs_weaker low middle high ys a b
climbs_join low middle high (x ∷ xs) ys a b = (a.0, climbs_join (rank_of x) middle high xs ys a.1 b)

pub climbs_if : (b : Bool) (r : Refusal) (low high : ℕ) → low < rank_of r → rank_of r ≤ high
    → Climbs low high (cond b (r ∷ []) [])
climbs_if true r low high l h = (l, h)
climbs_if false r low high l h = omega arith

climbs_over : (b : Bool) (f : Field) (low high : ℕ) → low < 240 + field_place f → 240 + field_place f ≤ high
    → Climbs low high (cond b (LimitTooLarge f ∷ []) [])
climbs_over b f low high l h = climbs_if b (LimitTooLarge f) low high (omega (arith, l)) (omega (arith, h))

disable_climbs : (disable : Option ℕ) (atoms : ℕ) → Climbs 0 239 (disable_faults disable atoms)
disable_climbs None atoms = omega arith
disable_climbs (Some atom) atoms = by_test (nat_lt atom atoms)
  where
    by_test : (b : Bool) → Climbs 0 239 (cond b [] (SlotRange 0 ∷ []))
    by_test true = omega arith
    by_test false = (omega arith, omega arith)

pub header_climbs : (p : ProgramData) → Climbs 0 251 (header_refusals p)
header_climbs p = climbs_12
  where
    climbs_0 : Climbs 0 239 (front_0 p)
    climbs_0 = disable_climbs p.header.disable p.header.atoms

    climbs_1 : Climbs 0 240 (front_1 p)
    climbs_1 =
        climbs_join 0 239 240 (front_0 p) (over 4096 p.header.limits.history fields.History) climbs_0
        (climbs_over (nat_lt 4096 p.header.limits.history) fields.History 239 240 (omega arith) (omega arith))

    climbs_2 : Climbs 0 241 (front_2 p)
    climbs_2 =
        climbs_join 0 240 241 (front_1 p) (over 1024 p.header.limits.stack fields.Stack) climbs_1
        (climbs_over (nat_lt 1024 p.header.limits.stack) fields.Stack 240 241 (omega arith) (omega arith))

    climbs_3 : Climbs 0 242 (front_3 p)
    climbs_3 =
        climbs_join 0 241 242 (front_2 p) (over 1024 p.header.limits.attempts fields.Attempts) climbs_2
        (climbs_over (nat_lt 1024 p.header.limits.attempts) fields.Attempts 241 242 (omega arith) (omega arith))

    climbs_4 : Climbs 0 243 (front_4 p)
    climbs_4 =
        climbs_join 0 242 243 (front_3 p) (over 1024 p.header.limits.obligations fields.Obligations) climbs_3
        (climbs_over (nat_lt 1024 p.header.limits.obligations) fields.Obligations 242 243 (omega arith) (omega arith))

    climbs_5 : Climbs 0 244 (front_5 p)
    climbs_5 =
        climbs_join 0 243 244 (front_4 p) (over 16777216 p.header.limits.budget fields.Budget) climbs_4
        (climbs_over (nat_lt 16777216 p.header.limits.budget) fields.Budget 243 244 (omega arith) (omega arith))

    climbs_6 : Climbs 0 245 (front_6 p)
    climbs_6 =
        climbs_join 0 244 245 (front_5 p) (over 127 p.header.atoms fields.Atoms) climbs_5
        (climbs_over (nat_lt 127 p.header.atoms) fields.Atoms 244 245 (omega arith) (omega arith))

    climbs_7 : Climbs 0 246 (front_7 p)
    climbs_7 =
        climbs_join 0 245 246 (front_6 p) (over 256 (length (frame_of p).slots) fields.Slots) climbs_6
        (climbs_over (nat_lt 256 (length (frame_of p).slots)) fields.Slots 245 246 (omega arith) (omega arith))

    climbs_8 : Climbs 0 247 (front_8 p)
    climbs_8 =
        climbs_join 0 246 247 (front_7 p) (over 4096 (length p.sample) fields.Sample) climbs_7
        (climbs_over (nat_lt 4096 (length p.sample)) fields.Sample 246 247 (omega arith) (omega arith))

    climbs_9 : Climbs 0 248 (front_9 p)
    climbs_9 =
        climbs_join 0 247 248 (front_8 p) (over 127 (length p.antecedent.blocks) fields.AntecedentPositions) climbs_8
        (climbs_over (nat_lt 127 (length p.antecedent.blocks)) fields.AntecedentPositions 247 248 (omega arith)
        (omega arith))

    climbs_10 : Climbs 0 249 (front_10 p)
    climbs_10 =
        climbs_join 0 248 249 (front_9 p)
        (over 4096 (instructions_in p.antecedent.blocks) fields.AntecedentCode) climbs_9
        (climbs_over (nat_lt 4096 (instructions_in p.antecedent.blocks)) fields.AntecedentCode 248 249 (omega arith)
        (omega arith))

    climbs_11 : Climbs 0 250 (front_11 p)
    climbs_11 =
        climbs_join 0 249 250 (front_10 p) (over 127 (length p.consequent.blocks) fields.ConsequentPositions)
        climbs_10
        (climbs_over (nat_lt 127 (length p.consequent.blocks)) fields.ConsequentPositions 249 250 (omega arith)
        (omega arith))

    climbs_12 : Climbs 0 251 (front_12 p)
    climbs_12 =
        climbs_join 0 250 251 (front_11 p)
        (over 4096 (instructions_in p.consequent.blocks) fields.ConsequentCode) climbs_11
        (climbs_over (nat_lt 4096 (instructions_in p.consequent.blocks)) fields.ConsequentCode 250 251 (omega arith)
        (omega arith))

-- what rises begins with its first
above : (x : Refusal) (low high : ℕ) (rs : List Refusal) → Climbs low high rs → IsIn x rs → low < rank_of x
above x low high [] h i = absurd i
above x low high (r ∷ rs) h (inl e) = subst (λ (y : Refusal). low < rank_of y) (sym e) h.0
above x low high (r ∷ rs) h (inr i) = (let more = above x (rank_of r) high rs h.1 i in omega (arith, h.0, more))

field_small : (f : Field) → field_place f < 16
field_small fields.History = omega arith
field_small fields.Stack = omega arith
field_small fields.Attempts = omega arith
field_small fields.Obligations = omega arith
field_small fields.Budget = omega arith
field_small fields.Atoms = omega arith
field_small fields.Slots = omega arith
field_small fields.Sample = omega arith
field_small fields.AntecedentPositions = omega arith
field_small fields.AntecedentCode = omega arith
field_small fields.ConsequentPositions = omega arith
field_small fields.ConsequentCode = omega arith

by_rank : (section pc m n a b : ℕ) → a < 16 → b < 16 → 16 * m + a ≤ 16 * n + b
    → IsUpTo (section ∷ pc ∷ m ∷ a ∷ []) (section ∷ pc ∷ n ∷ b ∷ [])
by_rank section pc m n a b ha hb le =
    elim (cases_eq m n) [
      | inl same ↦
          elim (cases_eq a b) [
            | inl alike ↦ inr (refl, inr (refl, inr (same, inr (alike, tt))))
            | inr other ↦ inr (refl, inr (refl, inr (same, inl (omega (arith, le, same, other)))))
          ]
      | inr other ↦ inr (refl, inr (refl, inl (omega (arith, le, ha, hb, other))))
    ]

-- no part is larger
abbrev pub AreSmall : List Refusal → Type 0
AreSmall rs = (x : Refusal) → IsIn x rs → fault_part x < 16

pub head_first : (section low high : ℕ) (rs : List Refusal) (e : Refusal) → Climbs low high rs → AreSmall rs
    → IsHeadRefusal e rs → IsFirstFound (found section 0 e) (map (found section 0) rs)
head_first section low high rs e climbs small h =
    subst (λ (xs : List Refusal). IsFirstFound (found section 0 e) (map (found section 0) xs)) (sym h.1)
    (record { stands = inl refl; first = λ y i. by_part y i })
  where
    climbs_e : Climbs low high (e ∷ h.0)
    climbs_e = subst (Climbs low high) h.1 climbs

    small_e : AreSmall (e ∷ h.0)
    small_e = subst AreSmall h.1 small

    in_found : (y : Found) (xs : List Refusal) → IsIn y (map (found section 0) xs) → (x : Refusal) × IsIn x xs
        × (y ≡ found section 0 x)
    in_found y [] i = absurd i
    in_found y (r ∷ rs) (inl same) = (r, inl refl, same)
    in_found y (r ∷ rs) (inr i) = (let more = in_found y rs i in (more.0, inr more.1, more.2))

    at_least : (x : Refusal) → IsIn x (e ∷ h.0) → rank_of e ≤ rank_of x
    at_least x (inl same) = omega (arith, ap rank_of same)
    at_least x (inr i) = (let l = above x (rank_of e) high h.0 climbs_e.1 i in omega (arith, l))

    by_part : (y : Found) → IsIn y (map (found section 0) (e ∷ h.0))
        → IsUpTo (found_place (found section 0 e)) (found_place y)
    by_part y i =
        let x = in_found y (e ∷ h.0) i in
        subst (λ (f : Found). IsUpTo (found_place (found section 0 e)) (found_place f)) (sym x.2)
        (by_rank section 0 (number_of e) (number_of x.0) (fault_part e) (fault_part x.0) (small_e e (inl refl))
        (small_e x.0 x.1) (at_least x.0 x.1))

pub part_small : (r : Refusal) → fault_part r < 16
part_small (LimitTooLarge field) = field_small field
part_small (PoolTooSmall pools.Attempts least) = omega arith
part_small (PoolTooSmall pools.Obligations least) = omega arith
part_small r = omega arith

over_none : (most n : ℕ) (f : Field) → over most n f ≡ [] → n ≤ most
over_none most n f h = by_test (cases_Bool (nat_lt most n))
  where
    by_test : (nat_lt most n ≡ true) ⊎ (nat_lt most n ≡ false) → n ≤ most
    by_test (inl hit) =
        (let some : LimitTooLarge f ∷ [] ≡ [] = sym (ap (λ b. cond b (LimitTooLarge f ∷ []) []) hit) ∙ h in cc)
    by_test (inr miss) = ltb-false most n miss

pub header_clear : (p : ProgramData) → header_refusals p ≡ [] → HasRoom p
    × (disable_faults p.header.disable p.header.atoms ≡ [])
header_clear p h =
    let part_12 = nil_parts (front_11 p) (over 4096 (instructions_in p.consequent.blocks) fields.ConsequentCode) h in
    let part_11 = nil_parts (front_10 p) (over 127 (length p.consequent.blocks) fields.ConsequentPositions) part_12.0 in
    let part_10 = nil_parts (front_9 p)
    (over 4096 (instructions_in p.antecedent.blocks) fields.AntecedentCode) part_11.0 in
    let part_9 = nil_parts (front_8 p) (over 127 (length p.antecedent.blocks) fields.AntecedentPositions) part_10.0 in
    let part_8 = nil_parts (front_7 p) (over 4096 (length p.sample) fields.Sample) part_9.0 in
    let part_7 = nil_parts (front_6 p) (over 256 (length (frame_of p).slots) fields.Slots) part_8.0 in
    let part_6 = nil_parts (front_5 p) (over 127 p.header.atoms fields.Atoms) part_7.0 in
    let part_5 = nil_parts (front_4 p) (over 16777216 p.header.limits.budget fields.Budget) part_6.0 in
    let part_4 = nil_parts (front_3 p) (over 1024 p.header.limits.obligations fields.Obligations) part_5.0 in
    let part_3 = nil_parts (front_2 p) (over 1024 p.header.limits.attempts fields.Attempts) part_4.0 in
    let part_2 = nil_parts (front_1 p) (over 1024 p.header.limits.stack fields.Stack) part_3.0 in
    let part_1 = nil_parts (front_0 p) (over 4096 p.header.limits.history fields.History) part_2.0 in (
      record {
        history = over_none 4096 p.header.limits.history fields.History part_1.1;
        stack = over_none 1024 p.header.limits.stack fields.Stack part_2.1;
        attempts = over_none 1024 p.header.limits.attempts fields.Attempts part_3.1;
        obligations = over_none 1024 p.header.limits.obligations fields.Obligations part_4.1;
        budget = over_none 16777216 p.header.limits.budget fields.Budget part_5.1;
        atoms = over_none 127 p.header.atoms fields.Atoms part_6.1;
        slots = over_none 256 (length (frame_of p).slots) fields.Slots part_7.1;
        sample = over_none 4096 (length p.sample) fields.Sample part_8.1;
        antecedent_positions = over_none 127 (length p.antecedent.blocks) fields.AntecedentPositions part_9.1;
        antecedent_code = over_none 4096 (instructions_in p.antecedent.blocks) fields.AntecedentCode part_10.1;
        consequent_positions = over_none 127 (length p.consequent.blocks) fields.ConsequentPositions part_11.1;
        consequent_code = over_none 4096 (instructions_in p.consequent.blocks) fields.ConsequentCode part_12.1;
      },
      part_1.0,
    )

over_some : (most n : ℕ) (f : Field) → n ≤ most → over most n f ≡ []
over_some most n f h = ap (λ b. cond b (LimitTooLarge f ∷ []) []) (le-ltb most n h)

nil_join : (xs ys : List Refusal) → xs ≡ [] → ys ≡ [] → xs ++ ys ≡ []
nil_join xs ys a b = ap (λ zs. zs ++ ys) a ∙ b

pub header_none : (p : ProgramData) → HasRoom p → disable_faults p.header.disable p.header.atoms ≡ []
    → header_refusals p ≡ []
header_none p room none = none_12
  where
    none_0 : front_0 p ≡ []
    none_0 = none

    none_1 : front_1 p ≡ []
    none_1 =
        nil_join (front_0 p) (over 4096 p.header.limits.history fields.History) none_0
        (over_some 4096 p.header.limits.history fields.History room.history)

    none_2 : front_2 p ≡ []
    none_2 =
        nil_join (front_1 p) (over 1024 p.header.limits.stack fields.Stack) none_1
        (over_some 1024 p.header.limits.stack fields.Stack room.stack)

    none_3 : front_3 p ≡ []
    none_3 =
        nil_join (front_2 p) (over 1024 p.header.limits.attempts fields.Attempts) none_2
        (over_some 1024 p.header.limits.attempts fields.Attempts room.attempts)

    none_4 : front_4 p ≡ []
    none_4 =
        nil_join (front_3 p) (over 1024 p.header.limits.obligations fields.Obligations) none_3
        (over_some 1024 p.header.limits.obligations fields.Obligations room.obligations)

    none_5 : front_5 p ≡ []
    none_5 =
        nil_join (front_4 p) (over 16777216 p.header.limits.budget fields.Budget) none_4
        (over_some 16777216 p.header.limits.budget fields.Budget room.budget)

    none_6 : front_6 p ≡ []
    none_6 =
        nil_join (front_5 p) (over 127 p.header.atoms fields.Atoms) none_5
        (over_some 127 p.header.atoms fields.Atoms room.atoms)

    none_7 : front_7 p ≡ []
    none_7 =
        nil_join (front_6 p) (over 256 (length (frame_of p).slots) fields.Slots) none_6
        (over_some 256 (length (frame_of p).slots) fields.Slots room.slots)

    none_8 : front_8 p ≡ []
    none_8 =
        nil_join (front_7 p) (over 4096 (length p.sample) fields.Sample) none_7
        (over_some 4096 (length p.sample) fields.Sample room.sample)

    none_9 : front_9 p ≡ []
    none_9 =
        nil_join (front_8 p) (over 127 (length p.antecedent.blocks) fields.AntecedentPositions) none_8
        (over_some 127 (length p.antecedent.blocks) fields.AntecedentPositions room.antecedent_positions)

    none_10 : front_10 p ≡ []
    none_10 =
        nil_join (front_9 p) (over 4096 (instructions_in p.antecedent.blocks) fields.AntecedentCode) none_9
        (over_some 4096 (instructions_in p.antecedent.blocks) fields.AntecedentCode room.antecedent_code)

    none_11 : front_11 p ≡ []
    none_11 =
        nil_join (front_10 p) (over 127 (length p.consequent.blocks) fields.ConsequentPositions) none_10
        (over_some 127 (length p.consequent.blocks) fields.ConsequentPositions room.consequent_positions)

    none_12 : front_12 p ≡ []
    none_12 =
        nil_join (front_11 p) (over 4096 (instructions_in p.consequent.blocks) fields.ConsequentCode) none_11
        (over_some 4096 (instructions_in p.consequent.blocks) fields.ConsequentCode room.consequent_code)
