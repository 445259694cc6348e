-- Faults are looked for by their kinds, in order.
use Rattle.std.proofs.Common.{◌≡◌, inl, inr, ℕ, ◌+◌, ◌≤◌, min, List, [], ◌∷◌, get_or, Option, Some, None, Result, Ok}
use Rattle.std.proofs.Common.{Err, IfErr, refl, sym, subst, ◌∙◌, arith}
use Rattle.std.specs.Result.{IsErrAnd}
use Rattle.std.proofs.lemmas.Option.{none-some}
use Rattle.std.proofs.lemmas.Bool.{cases_eq, cases_lt}
use Rattle.parser_grammar.specs.Trees.{ItemForm}
use Rattle.types.specs.Drafts.{IsNumberIn}
use Rattle.types_names.specs.declared.own.Sought.{Sought}
use Rattle.types_names.specs.declared.own.Sought.TheVariants.{Unknown, Wide, OutOfRange}
use Rattle.types_names.specs.Scopes.{Scope}
use Rattle.types_names.specs.Faults.{file_faults, earlier, least}
use Rattle.types.specs.declared.fault.TypeFault.{TypeFault}
use Rattle.types.specs.declared.fault.TypeFault.TheVariants.{UnknownName, Duplicate}
use Rattle.types.specs.declared.fault.TypeFault.TheVariants.{WiderThan128, SliceRange}
use Rattle.types.specs.declared.fault.TypeFault.TheVariants.{Degenerate, AdmitsEmpty as Empty, OtherClock}
use Rattle.types.specs.declared.fault.TypeFault.TheVariants.{CyclicSequence, TooWide, Memory}
use Rattle.types.specs.Texts.{assertions_of, duplicates, other_clocks}
use Rattle.types.specs.Faults.{FaultStands, rank, byte_of, IsFirst, IsTypeFault, ClearTo}

-- where a list has no least place it has no place, and each place is at least the least
least_of_more : (x : ℕ) (o : Option ℕ) → earlier (Some x) o ≡ None → ⊥
least_of_more x None e = none-some x (sym e)
least_of_more x (Some y) e = none-some (min x y) (sym e)

pub nowhere : (xs : List ℕ) → least xs ≡ None → (at : ℕ) → IsNumberIn at xs → ⊥
nowhere [] e at i = elim i [ ]
nowhere (x ∷ xs) e at i = least_of_more x (least xs) e

-- a least place stands in the list, and none is below it
pub record IsLeast (xs : List ℕ) (at : ℕ) : Type 0 where
  pub stands : IsNumberIn at xs
  pub lowest : (other : ℕ) → IsNumberIn other xs → at ≤ other

least_with : (x at : ℕ) (xs : List ℕ) (o : Option ℕ) → o ≡ least xs → ((b : ℕ) → o ≡ Some b → IsLeast xs b)
    → earlier (Some x) o ≡ Some at → IsLeast (x ∷ xs) at
least_with x at xs None is below e =
    let same : x ≡ at = cc in
    record {
      stands = inl (sym same);
      lowest = λ other i.
          elim i [
            | inl h ↦ omega (arith, h, same)
            | inr there ↦ absurd (nowhere xs (sym is) other there)
          ];
    }
least_with x at xs (Some y) is below e =
    let same : min x y ≡ at = cc in
    let rest = below y refl in
    record {
      stands =
          elim (cases_lt y x) [
            | inl lt ↦ inr
                (subst (λ (z : ℕ). IsNumberIn z xs) (let h : y ≡ at = omega (arith, same, lt) in h) rest.stands)
            | inr ge ↦ inl (omega (arith, same, ge))
          ];
      lowest = λ other i.
          elim i [
            | inl h ↦ omega (arith, h, same)
            | inr there ↦ omega (arith, same, rest.lowest other there)
          ];
    }

pub least_stands : (xs : List ℕ) (at : ℕ) → least xs ≡ Some at → IsLeast xs at
least_stands [] at e = absurd (none-some at e)
least_stands (x ∷ xs) at e = least_with x at xs (least xs) refl (λ b h. least_stands xs b h) e

pub clear_start : (s : Scope) (items : List ItemForm) → ClearTo s items 0
clear_start s items (UnknownName at) h = omega arith
clear_start s items (Duplicate at) h = omega arith
clear_start s items (WiderThan128 at) h = omega arith
clear_start s items (SliceRange at) h = omega arith
clear_start s items (Degenerate at) h = omega arith
clear_start s items (Empty at) h = omega arith
clear_start s items (OtherClock at) h = omega arith
clear_start s items (CyclicSequence at) h = omega arith
clear_start s items (TooWide at) h = omega arith
clear_start s items Memory h = elim h [ ]

-- the faults at a byte, each at the place of its rank
abbrev pub faults_at : ℕ → List TypeFault
faults_at at =
    Memory ∷ UnknownName at ∷ Duplicate at ∷ WiderThan128 at ∷ SliceRange at ∷ OtherClock at
    ∷ CyclicSequence at ∷ TooWide at ∷ Degenerate at ∷ Empty at ∷ []

abbrev pub ranked : ℕ → ℕ → TypeFault
ranked n at = get_or (faults_at at) n Memory

is_ranked : (fault : TypeFault) → ranked (rank fault) (byte_of fault) ≡ fault
is_ranked (UnknownName at) = refl
is_ranked (Duplicate at) = refl
is_ranked (WiderThan128 at) = refl
is_ranked (SliceRange at) = refl
is_ranked (OtherClock at) = refl
is_ranked (CyclicSequence at) = refl
is_ranked (TooWide at) = refl
is_ranked (Degenerate at) = refl
is_ranked (Empty at) = refl
is_ranked Memory = refl

-- a fault that stands is the one of its rank
pub of_rank : (s : Scope) (items : List ItemForm) (n : ℕ) (fault : TypeFault) → rank fault ≡ n
    → FaultStands s items fault → FaultStands s items (ranked n (byte_of fault))
of_rank s items n fault r h =
    subst (λ (m : ℕ). FaultStands s items (ranked m (byte_of fault))) r
    (subst (λ (f : TypeFault). FaultStands s items f) (sym (is_ranked fault)) h)

pub clear_next : (s : Scope) (items : List ItemForm) (n : ℕ) → ClearTo s items n
    → ((fault : TypeFault) → rank fault ≡ n + 1 → FaultStands s items fault → ⊥) → ClearTo s items (n + 1)
clear_next s items n clear none fault h =
    elim (cases_eq (rank fault) (n + 1)) [
      | inl e ↦ absurd (none fault e h)
      | inr d ↦ omega (arith, clear fault h, d)
    ]

pub first_at : (s : Scope) (items : List ItemForm) (n : ℕ) (fault : TypeFault) → ClearTo s items n → rank fault ≡ n + 1
    → FaultStands s items fault →
    ((other : TypeFault) → rank other ≡ n + 1 → FaultStands s items other → byte_of fault ≤ byte_of other)
    → IsFirst s items fault
first_at s items n fault clear r h low =
    record {
      stands = h;
      first = λ other k.
          elim (cases_eq (rank other) (n + 1)) [
            | inl e ↦ inr (r ∙ sym e, low other e k)
            | inr d ↦ inl (omega (arith, clear other k, d, r))
          ];
    }

-- Faults of one rank that stand at the places of a list: where it has no least place there is none,
-- and where it has one the fault there is the first.
abbrev pub IsListed : Scope → List ItemForm → ℕ → List ℕ → Type 0
IsListed s items n places =
    (fault : TypeFault) → rank fault ≡ n → FaultStands s items fault → IsNumberIn (byte_of fault) places

clear_by : (s : Scope) (items : List ItemForm) (n : ℕ) (places : List ℕ)
    → IsListed s items (n + 1) places → ClearTo s items n → least places ≡ None
    → ClearTo s items (n + 1)
clear_by s items n places listed clear e =
    clear_next s items n clear
    (λ fault r h. nowhere places e (byte_of fault) (listed fault r h))

first_by : (s : Scope) (items : List ItemForm) (n : ℕ) (places : List ℕ) (fault : TypeFault)
    → IsListed s items (n + 1) places → rank fault ≡ n + 1
    → (IsNumberIn (byte_of fault) places → FaultStands s items fault) → ClearTo s items n
    → least places ≡ Some (byte_of fault) → IsFirst s items fault
first_by s items n places fault listed r stands clear e =
    let l = least_stands places (byte_of fault) e in
    first_at s items n fault clear r (stands l.stands)
    (λ other k h. l.lowest (byte_of other) (listed other k h))

pub clear_1 : (s : Scope) (items : List ItemForm) → ClearTo s items 0
    → least (file_faults s Unknown items) ≡ None → ClearTo s items 1
clear_1 s items = clear_by s items 0 (file_faults s Unknown items) (of_rank s items 1)

pub first_1 : (s : Scope) (items : List ItemForm) (at : ℕ) → ClearTo s items 0
    → least (file_faults s Unknown items) ≡ Some at → IsFirst s items (UnknownName at)
first_1 s items at =
    first_by s items 0 (file_faults s Unknown items) (UnknownName at) (of_rank s items 1) (omega arith)
    (λ h. h)

pub clear_2 : (s : Scope) (items : List ItemForm) → ClearTo s items 1
    → least (duplicates items) ≡ None → ClearTo s items 2
clear_2 s items = clear_by s items 1 (duplicates items) (of_rank s items 2)

pub first_2 : (s : Scope) (items : List ItemForm) (at : ℕ) → ClearTo s items 1
    → least (duplicates items) ≡ Some at → IsFirst s items (Duplicate at)
first_2 s items at =
    first_by s items 1 (duplicates items) (Duplicate at) (of_rank s items 2) (omega arith)
    (λ h. h)

pub clear_3 : (s : Scope) (items : List ItemForm) → ClearTo s items 2
    → least (file_faults s Wide items) ≡ None → ClearTo s items 3
clear_3 s items = clear_by s items 2 (file_faults s Wide items) (of_rank s items 3)

pub first_3 : (s : Scope) (items : List ItemForm) (at : ℕ) → ClearTo s items 2
    → least (file_faults s Wide items) ≡ Some at → IsFirst s items (WiderThan128 at)
first_3 s items at =
    first_by s items 2 (file_faults s Wide items) (WiderThan128 at) (of_rank s items 3) (omega arith)
    (λ h. h)

pub clear_4 : (s : Scope) (items : List ItemForm) → ClearTo s items 3
    → least (file_faults s OutOfRange items) ≡ None → ClearTo s items 4
clear_4 s items = clear_by s items 3 (file_faults s OutOfRange items) (of_rank s items 4)

pub first_4 : (s : Scope) (items : List ItemForm) (at : ℕ) → ClearTo s items 3
    → least (file_faults s OutOfRange items) ≡ Some at → IsFirst s items (SliceRange at)
first_4 s items at =
    first_by s items 3 (file_faults s OutOfRange items) (SliceRange at) (of_rank s items 4) (omega arith)
    (λ h. h)

pub clear_5 : (s : Scope) (items : List ItemForm) → ClearTo s items 4
    → least (other_clocks (assertions_of items)) ≡ None → ClearTo s items 5
clear_5 s items = clear_by s items 4 (other_clocks (assertions_of items)) (of_rank s items 5)

pub first_5 : (s : Scope) (items : List ItemForm) (at : ℕ) → ClearTo s items 4
    → least (other_clocks (assertions_of items)) ≡ Some at → IsFirst s items (OtherClock at)
first_5 s items at =
    first_by s items 4 (other_clocks (assertions_of items)) (OtherClock at) (of_rank s items 5) (omega arith)
    (λ h. h)

pub ruleset for_stages =
    (clear_start, clear_1, clear_2, clear_3, clear_4, clear_5, first_1, first_2, first_3, first_4, first_5)

-- After the first five kinds, the expressions of a text have no fault.
nothing_in : (xs : List ℕ) → ((at : ℕ) → IsNumberIn at xs → ⊥) → xs ≡ []
nothing_in [] none = refl
nothing_in (x ∷ xs) none = absurd (none x (inl refl))

pub clear_sound : (s : Scope) (items : List ItemForm) → ClearTo s items 5 → (k : Sought) → file_faults s k items ≡ []
clear_sound s items clear Unknown =
    nothing_in (file_faults s Unknown items) (λ at i. omega (arith, clear (UnknownName at) i))
clear_sound s items clear Wide =
    nothing_in (file_faults s Wide items) (λ at i. omega (arith, clear (WiderThan128 at) i))
clear_sound s items clear OutOfRange =
    nothing_in (file_faults s OutOfRange items) (λ at i. omega (arith, clear (SliceRange at) i))

-- a refusal that `?` passes on
pub refused_memory : {X : Type 0} (s : Scope) (items : List ItemForm) (r : Result X TypeFault)
    → IsErrAnd r (λ e. e ≡ Memory) → IfErr r (IsTypeFault s items)
refused_memory s items (Ok x) h = elim h [ ]
refused_memory s items (Err e) h = rw h tt

pub refused_same : {X : Type 0} (s : Scope) (items : List ItemForm) (f : TypeFault) (r : Result X TypeFault)
    → IsErrAnd r (λ e. e ≡ f) → IsTypeFault s items f → IfErr r (IsTypeFault s items)
refused_same s items f (Ok x) h g = elim h [ ]
refused_same s items f (Err e) h g = rw h g
