-- The exits of the verifier.
use Rattle.std.proofs.Common.{◌≡◌, ◌⊎◌, inl, inr, ℕ, ◌+◌, ◌≤◌, List, [], ◌++◌, map, Some, None}
use Rattle.std.proofs.Common.{refl, sym, ap, ◌∙◌, subst, arith}
use Rattle.verifier.specs.declared.refusal.Refusal.{Refusal}
use Rattle.verifier.specs.declared.refusal.Refusal.TheVariants.{Memory}
use Rattle.verifier.specs.Rules.{sample_rules}
use Rattle.verifier.specs.Inference.{Found, found, code_faults}
use Rattle.verifier.specs.Order.{IsIn, IsFirstFound, IsFirstRefusal, first_refusal}
use Rattle.verifier.specs.Scans.{IsFirstOf}
use Rattle.verifier.specs.Sections.{section_faults}
use Rattle.bytecode_programs.specs.Instructions.{frame_of}
use Rattle.bytecode_programs.specs.Values.{ProgramData}
use Rattle.verifier.specs.Programs.{header_refusals, limit_refusals, least_limits, part_faults}
use Rattle.verifier.specs.Programs.{all_faults, HasRoom}
use Rattle.verifier.proofs.OrderLaws.{in_append, in_left}
use Rattle.verifier.proofs.ScanLaws.{head_of}
use Rattle.verifier.proofs.BlockLaws.{none_first}
use Rattle.verifier.proofs.HeaderLaws.{header_climbs, header_clear, head_first, part_small}
use Rattle.verifier.proofs.CodeLaws.{AllIn, AllFrom, all_found, all_code, all_section, from_in}
use Rattle.verifier.proofs.CodeLaws.{from_weaker}

first_below : (x : Found) (xs ys : List Found) → AllFrom (x.section + 1) ys → IsFirstFound x xs
    → IsFirstFound x (xs ++ ys)
first_below x xs ys later f =
    record {
      stands = in_left x xs ys f.stands;
      first = λ y h. elim (in_append y xs ys h) [
        | inl i ↦ f.first y i
        | inr i ↦ inl (omega (arith, later y i))
      ];
    }

behind : (x : Found) (xs ys : List Found) → xs ≡ [] → IsFirstFound x ys → IsFirstFound x (xs ++ ys)
behind x xs ys none f = subst (λ (zs : List Found). IsFirstFound x (zs ++ ys)) (sym none) f

module _ (p : ProgramData) where
  abbrev header : List Found
  header = map (found 0 0) (header_refusals p)

  abbrev sample : List Found
  sample = code_faults (sample_rules (frame_of p)) 0 p.sample

  abbrev antecedent : List Found
  antecedent = section_faults 2 p.header.atoms p.antecedent

  abbrev consequent : List Found
  consequent = section_faults 3 p.header.atoms p.consequent

  later_than : (n section : ℕ) (fs : List Found) → AllIn section fs → n ≤ section → AllFrom n fs
  later_than n section fs all le = from_weaker n section fs le (from_in section fs all)

  -- a first fault of a part is the first of all
  of_header : (x : Found) → x.section ≡ 0 → IsFirstFound x header → IsFirstFound x (part_faults p)
  of_header x at f =
      first_below x (header ++ sample ++ antecedent) consequent
      (later_than (x.section + 1) 3 consequent (all_section 3 p.header.atoms p.consequent) (omega (arith, at)))
      (first_below x (header ++ sample) antecedent
      (later_than (x.section + 1) 2 antecedent (all_section 2 p.header.atoms p.antecedent) (omega (arith, at)))
      (first_below x header sample
      (later_than (x.section + 1) 1 sample (all_code (sample_rules (frame_of p)) 0 p.sample) (omega (arith, at)))
      f))

  of_sample : (x : Found) → x.section ≡ 1 → header ≡ [] → IsFirstFound x sample → IsFirstFound x (part_faults p)
  of_sample x at none f =
      first_below x (header ++ sample ++ antecedent) consequent
      (later_than (x.section + 1) 3 consequent (all_section 3 p.header.atoms p.consequent) (omega (arith, at)))
      (first_below x (header ++ sample) antecedent
      (later_than (x.section + 1) 2 antecedent (all_section 2 p.header.atoms p.antecedent) (omega (arith, at)))
      (behind x header sample none f))

  both_none : (xs ys : List Found) → xs ≡ [] → ys ≡ [] → xs ++ ys ≡ []
  both_none xs ys a b = ap (λ zs. zs ++ ys) a ∙ b

  of_antecedent : (x : Found) → x.section ≡ 2 → header ≡ [] → sample ≡ [] → IsFirstFound x antecedent
      → IsFirstFound x (part_faults p)
  of_antecedent x at none_h none_s f =
      first_below x (header ++ sample ++ antecedent) consequent
      (later_than (x.section + 1) 3 consequent (all_section 3 p.header.atoms p.consequent) (omega (arith, at)))
      (behind x (header ++ sample) antecedent (both_none header sample none_h none_s) f)

  of_consequent : (x : Found) → header ≡ [] → sample ≡ [] → antecedent ≡ [] → IsFirstFound x consequent
      → IsFirstFound x (part_faults p)
  of_consequent x none_h none_s none_a f =
      behind x (header ++ sample ++ antecedent) consequent
      (both_none (header ++ sample) antecedent (both_none header sample none_h none_s) none_a) f

  -- as the code finds them
  pub refused_header : (r : Refusal) → Some r ≡ first_refusal (header_refusals p) → IsFirstRefusal r (part_faults p)
  refused_header r h =
      record {
        fault = found 0 0 r;
        first =
            of_header (found 0 0 r) refl
            (head_first 0 0 251 (header_refusals p) r (header_climbs p) (λ x i. part_small x)
            (head_of r (header_refusals p) h));
        is = refl;
      }

  header_none : None ≡ first_refusal (header_refusals p) → header ≡ []
  header_none h = ap (map (found 0 0)) (none_first (header_refusals p) h)

  pub room : None ≡ first_refusal (header_refusals p) → HasRoom p
  room h = (header_clear p (none_first (header_refusals p) h)).0

  pub refused_sample : (r : Refusal) → None ≡ first_refusal (header_refusals p) → (r ≡ Memory) ⊎ IsFirstRefusal r sample
      → (r ≡ Memory) ⊎ IsFirstRefusal r (part_faults p)
  refused_sample r none (inl m) = inl m
  refused_sample r none (inr f) =
      inr (record {
        fault = f.fault;
        first =
            of_sample f.fault (all_code (sample_rules (frame_of p)) 0 p.sample f.fault f.first.stands)
            (header_none none) f.first;
        is = f.is;
      })

  pub refused_antecedent : (pc : ℕ) (r : Refusal) → None ≡ first_refusal (header_refusals p) → sample ≡ []
      → IsFirstOf antecedent (Some (found 2 pc r)) → IsFirstRefusal r (part_faults p)
  refused_antecedent pc r none none_s f =
      record {
        fault = found 2 pc r;
        first = of_antecedent (found 2 pc r) refl (header_none none) none_s f.0;
        is = refl;
      }

  pub refused_consequent : (pc : ℕ) (r : Refusal) → None ≡ first_refusal (header_refusals p) → sample ≡ [] → antecedent
      ≡ []
      → IsFirstOf consequent (Some (found 3 pc r)) → IsFirstRefusal r (part_faults p)
  refused_consequent pc r none none_s none_a f =
      record {
        fault = found 3 pc r;
        first = of_consequent (found 3 pc r) (header_none none) none_s none_a f.0;
        is = refl;
      }

  pub no_part : None ≡ first_refusal (header_refusals p) → sample ≡ [] → antecedent ≡ [] → consequent ≡ []
      → part_faults p ≡ []
  no_part none none_s none_a none_c =
      both_none (header ++ sample ++ antecedent) consequent
      (both_none (header ++ sample) antecedent (both_none header sample (header_none none) none_s) none_a) none_c

  -- a fault of the parts comes before those of the limits
  pub before_limits : (r : Refusal) → (r ≡ Memory) ⊎ IsFirstRefusal r (part_faults p) → (r ≡ Memory)
      ⊎ IsFirstRefusal r (all_faults p)
  before_limits r (inl m) = inl m
  before_limits r (inr f) =
      inr (record {
        fault = f.fault;
        first = first_below f.fault (part_faults p) (map (found 4 0) (limit_refusals p.header.limits (least_limits p)))
            (λ y i. omega (
              arith,
              all_found 4 0 (limit_refusals p.header.limits (least_limits p)) y i,
              low f.fault f.first.stands,
            )) f.first;
        is = f.is;
      })
    where
      low : (y : Found) → IsIn y (part_faults p) → y.section ≤ 3
      low y h =
          elim (in_append y (header ++ sample ++ antecedent) consequent h) [
            | inl i ↦
                elim (in_append y (header ++ sample) antecedent i) [
                  | inl j ↦
                      elim (in_append y header sample j) [
                        | inl k ↦ omega (arith, all_found 0 0 (header_refusals p) y k)
                        | inr k ↦ omega (arith, all_code (sample_rules (frame_of p)) 0 p.sample y k)
                      ]
                  | inr j ↦ omega (arith, all_section 2 p.header.atoms p.antecedent y j)
                ]
            | inr i ↦ omega (arith, all_section 3 p.header.atoms p.consequent y i)
          ]
