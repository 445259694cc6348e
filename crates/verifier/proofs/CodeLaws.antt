-- Code and sections: in which section faults stand, and that none stands exactly where a table types.
use Rattle.std.proofs.Common.{◌≡◌, ◌⊎◌, inl, inr, ℕ, ◌+◌, ◌^◌, ◌<◌, ◌≤◌, Bool, true, false, cond}
use Rattle.std.proofs.Common.{List, [], ◌∷◌, ◌++◌, length, map, refl, sym, ap, ◌∙◌, subst, arith}
use Rattle.std.specs.Prelude.{nat_lt}
use Rattle.std.proofs.lemmas.Bool.{lt-ltb, ltb-true, cases_Bool}
use Rattle.bytecode_programs.specs.declared.block_instr.BlockInstr.{BlockInstr}
use Rattle.verifier.specs.declared.refusal.Refusal.{Refusal}
use Rattle.verifier.specs.declared.refusal.Refusal.TheVariants.{SlotRange}
use Rattle.verifier.specs.Rules.{Rules}
use Rattle.bytecode_programs.specs.Instructions.{leaves}
use Rattle.verifier.specs.Rules.{block_rules}
use Rattle.verifier.specs.Inference.{Found, found, code_faults, entry}
use Rattle.verifier.specs.Order.{IsIn, IsFirstRefusal}
use Rattle.verifier.specs.Typing.{IsCodeTyped, AreShort}
use Rattle.bytecode_programs.specs.Values.{SectionData}
use Rattle.verifier.specs.Sections.{blocks_faults, start_faults, section_faults, AreTyped}
use Rattle.verifier.specs.Sections.{IsSection}
use Rattle.verifier.proofs.OrderLaws.{in_append, in_left, stands_from}
use Rattle.verifier.proofs.TypingLaws.{nil_parts, typed_by, table_of, no_faults}

-- faults that all stand in one section
abbrev pub AllIn : ℕ → List Found → Type 0
AllIn section fs = (y : Found) → IsIn y fs → y.section ≡ section

pub all_found : (section pc : ℕ) (rs : List Refusal) → AllIn section (map (found section pc) rs)
all_found section pc [] y h = absurd h
all_found section pc (r ∷ rs) y (inl e) = ap (λ f. f.section) e
all_found section pc (r ∷ rs) y (inr h) = all_found section pc rs y h

pub all_code : {I : Type 0} (r : Rules I) (base : ℕ) (code : List I) → AllIn r.section (code_faults r base code)
all_code r base [] y (inl e) = ap (λ f. f.section) e
all_code r base [] y (inr h) = absurd h
all_code r base (i ∷ is) y h = (stands_from r (base + length (i ∷ is)) base (i ∷ is) (entry base) y h).section_is

all_blocks : (section atoms positions p base : ℕ) (bs : List (List BlockInstr))
    → AllIn section (blocks_faults section atoms positions p base bs)
all_blocks section atoms positions p base [] y h = absurd h
all_blocks section atoms positions p base (b ∷ bs) y h =
    elim (in_append y (code_faults (block_rules section atoms positions p) base b)
    (blocks_faults section atoms positions (p + 1) (base + length b) bs) h) [
      | inl i ↦ all_code (block_rules section atoms positions p) base b y i
      | inr i ↦ all_blocks section atoms positions (p + 1) (base + length b) bs y i
    ]

all_start : (section : ℕ) (b : Bool) → AllIn section (cond b [] (found section 0 (SlotRange 0) ∷ []))
all_start section true y h = absurd h
all_start section false y (inl e) = ap (λ f. f.section) e
all_start section false y (inr h) = absurd h

pub all_section : (section atoms : ℕ) (s : SectionData) → AllIn section (section_faults section atoms s)
all_section section atoms s y h =
    elim (in_append y (start_faults section s) (blocks_faults section atoms (length s.blocks) 0 0 s.blocks) h) [
      | inl i ↦ all_start section (nat_lt s.start (2 ^ length s.blocks)) y i
      | inr i ↦ all_blocks section atoms (length s.blocks) 0 0 s.blocks y i
    ]

-- all stand in that section or in a later one
abbrev pub AllFrom : ℕ → List Found → Type 0
AllFrom section fs = (y : Found) → IsIn y fs → section ≤ y.section

pub from_in : (section : ℕ) (fs : List Found) → AllIn section fs → AllFrom section fs
from_in section fs h y i = omega (arith, h y i)

pub from_join : (section : ℕ) (xs ys : List Found) → AllFrom section xs → AllFrom section ys
    → AllFrom section (xs ++ ys)
from_join section xs ys a b y i =
    elim (in_append y xs ys i) [
      | inl j ↦ a y j
      | inr j ↦ b y j
    ]

pub from_weaker : (low section : ℕ) (fs : List Found) → low ≤ section → AllFrom section fs → AllFrom low fs
from_weaker low section fs le h y i = omega (arith, h y i, le)

-- the first fault, before those of later sections, and after none
pub first_before : (section : ℕ) (r : Refusal) (xs ys : List Found) → AllIn section xs → AllFrom (section + 1) ys
    → IsFirstRefusal r xs → IsFirstRefusal r (xs ++ ys)
first_before section r xs ys same later f =
    record {
      fault = f.fault;
      first = record {
        stands = in_left f.fault xs ys f.first.stands;
        first = λ y h. elim (in_append y xs ys h) [
          | inl i ↦ f.first.first y i
          | inr i ↦ inl (omega (arith, same f.fault f.first.stands, later y i))
        ];
      };
      is = f.is;
    }

pub first_behind : (r : Refusal) (xs ys : List Found) → xs ≡ [] → IsFirstRefusal r ys → IsFirstRefusal r (xs ++ ys)
first_behind r xs ys none f = subst (λ (zs : List Found). IsFirstRefusal r (zs ++ ys)) (sym none) f

-- code without a fault
pub typed_code : {I : Type 0} (r : Rules I) (base : ℕ) (code : List I) → code_faults r base code ≡ []
    → (table : ℕ → List ℕ) × IsCodeTyped r base code table × AreShort r base code table
typed_code r base [] h = cc
typed_code r base (i ∷ is) h =
    let typed = typed_by r base (i ∷ is) (omega arith) h in
    (table_of r base (i ∷ is) (omega arith) h, typed.0, typed.1)

pub faultless_code : {I : Type 0} (r : Rules I) (base : ℕ) (code : List I) (table : ℕ → List ℕ)
    → IsCodeTyped r base code table → AreShort r base code table → code_faults r base code ≡ []
faultless_code r base [] table typed short = absurd (omega (arith, typed.some))
faultless_code r base (i ∷ is) table typed short = no_faults r base (i ∷ is) table typed short

-- blocks have empty lists
module _ (section atoms positions p base : ℕ) (b : List BlockInstr) where
  emptied : (table : ℕ → List ℕ) → IsCodeTyped (block_rules section atoms positions p) base b table
      → IsCodeTyped (block_rules section atoms positions p) base b (λ pc. [])
  emptied table typed =
      record {
        some = typed.some;
        begins = refl;
        each = λ k i h. record {
          after = [];
          rule = refl;
          sends = λ to leads. refl;
          forward = (typed.each k i h).forward;
          names = (typed.each k i h).names;
        };
        ends = typed.ends;
        reached = typed.reached;
      }

  pub typed_block : code_faults (block_rules section atoms positions p) base b ≡ []
      → IsCodeTyped (block_rules section atoms positions p) base b (λ pc. [])
  typed_block h = (let t = typed_code (block_rules section atoms positions p) base b h in emptied t.0 t.1)

  pub faultless_block : IsCodeTyped (block_rules section atoms positions p) base b (λ pc. [])
      → code_faults (block_rules section atoms positions p) base b ≡ []
  faultless_block typed =
      faultless_code (block_rules section atoms positions p) base b (λ pc. []) typed
      (record { each = λ k i after h rule. short after rule })
    where
      short : (after : List ℕ) → leaves [] ≡ leaves after → length after ≤ 1024
      short after rule = (let is : [] ≡ after = cc in omega (arith, ap (length {A = ℕ}) is))

pub typed_blocks : (section atoms positions p base : ℕ) (bs : List (List BlockInstr))
    → blocks_faults section atoms positions p base bs ≡ [] → AreTyped section atoms positions p base bs
typed_blocks section atoms positions p base [] h = tt
typed_blocks section atoms positions p base (b ∷ bs) h =
    let parts =
    nil_parts (code_faults (block_rules section atoms positions p) base b)
    (blocks_faults section atoms positions (p + 1) (base + length b) bs) h in (
      typed_block section atoms positions p base b parts.0,
      typed_blocks section atoms positions (p + 1) (base + length b) bs parts.1,
    )

pub faultless_blocks : (section atoms positions p base : ℕ) (bs : List (List BlockInstr))
    → AreTyped section atoms positions p base bs → blocks_faults section atoms positions p base bs ≡ []
faultless_blocks section atoms positions p base [] h = refl
faultless_blocks section atoms positions p base (b ∷ bs) h =
    ap (λ fs. fs ++ blocks_faults section atoms positions (p + 1) (base + length b) bs)
    (faultless_block section atoms positions p base b h.0)
    ∙ faultless_blocks section atoms positions (p + 1) (base + length b) bs h.1

pub typed_section : (section atoms : ℕ) (s : SectionData) → section_faults section atoms s ≡ []
    → IsSection section atoms s
typed_section section atoms s h =
    let parts = nil_parts (start_faults section s) (blocks_faults section atoms (length s.blocks) 0 0 s.blocks) h in
    record {
      start = by_test (cases_Bool (nat_lt s.start (2 ^ length s.blocks))) parts.0;
      blocks = typed_blocks section atoms (length s.blocks) 0 0 s.blocks parts.1;
    }
  where
    by_test : (nat_lt s.start (2 ^ length s.blocks) ≡ true) ⊎ (nat_lt s.start (2 ^ length s.blocks) ≡ false)
        → start_faults section s ≡ [] → s.start < 2 ^ length s.blocks
    by_test (inl hit) none = ltb-true s.start (2 ^ length s.blocks) hit
    by_test (inr miss) none =
        (let some : found section 0 (SlotRange 0) ∷ []
        ≡ [] = sym (ap (λ b. cond b [] (found section 0 (SlotRange 0) ∷ [])) miss) ∙ none in cc)

pub faultless_section : (section atoms : ℕ) (s : SectionData) → IsSection section atoms s
    → section_faults section atoms s ≡ []
faultless_section section atoms s h =
    ap (λ b. cond b [] (found section 0 (SlotRange 0) ∷ []) ++ blocks_faults section atoms (length s.blocks) 0 0
    s.blocks) (lt-ltb s.start (2 ^ length s.blocks) h.start)
    ∙ faultless_blocks section atoms (length s.blocks) 0 0 s.blocks h.blocks
