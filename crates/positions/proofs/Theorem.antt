-- The section of a sequence follows it, is well formed, and is small.
use Rattle.std.proofs.Common.{◌≡◌, ◌∙◌, inl, inr, ℕ, zero, suc, ◌+◌, ◌-◌, ◌*◌, ◌≤◌, Bool, ◌||◌, ◌&&◌, true, false, refl}
use Rattle.std.proofs.Common.{sym, ap, arith}
use Rattle.std.specs.Prelude.{IsTrue, ◌↔◌, nat_le}
use Rattle.std.proofs.Math.Nat.{mul-le-mul_right, mul-le-mul_left}
use Rattle.assertions.specs.declared.sequence.Boolean.{Boolean}
use Rattle.assertions.specs.Segments.{Seq, one, Chain, Matches, sat}
use Rattle.assertions.specs.Attempts.{every}
use Rattle.assertions.specs.Written.{Written, boolean, delay, lead, repeat, or, and, intersect, throughout, one_of}
use Rattle.assertions.specs.Written.{ticks, after, later, kernel, weight, IsOrdered}
use Rattle.positions.specs.Plans.{Plan, tick, skip, any, all, pair, under, loop, link, plan_sequence, apart}
use Rattle.positions.specs.Plans.{moving}
use Rattle.positions.specs.Plans.{weighs, plan}
use Rattle.positions.specs.Living.{is_position_kept, sifted}
use Rattle.positions.proofs.Sifting.{sifted-rising, rank-few}
use Rattle.assertions.specs.Emptiness.{admits_empty}
use Rattle.positions.specs.Tables.{Table, plan_table}
use Rattle.positions.proofs.Rising.{rising}
use Rattle.positions.proofs.Spelling.{spelling}
use Rattle.machine_sections.specs.Automata.{Automaton, AutomatonFollows}
use Rattle.machine_sections.specs.Effects.{automaton_of}
use Rattle.positions.specs.Sections.{coded, told_atom}
use Rattle.positions.specs.Laws.{IsThere, Occurs, section_for, SectionFollows, SectionIsWellFormed}
use Rattle.positions.specs.Laws.{SectionIsSmall}
use Rattle.positions.proofs.Follows.{section-follows}
use Rattle.positions.proofs.Kernels.{plan-kernel}
use Rattle.positions.proofs.Wanted.{plan-wants, sifted-wants, sequence-of}
use Rattle.positions.proofs.Shapes.{is-section, blocks-length}

-- what follows a sequence follows one that matches the same
Follows-same : (B : Type 0) (value : B → ℕ → Bool) (r s : Seq B) (a : Automaton)
    → ((holds : B → ℕ → Bool) (i j : ℕ) → Matches holds r i j ↔ Matches holds s i j)
    → AutomatonFollows value (every s) a
    → AutomatonFollows value (every r) a
Follows-same B value r s a same follows = record {
  ends = λ c k. (
    λ h. (same value c (c + k + 1)).1 ((follows.ends c k).0 h),
    λ h. (follows.ends c k).1 ((same value c (c + k + 1)).0 h),
  );
  over = λ c k. (
    λ h j past m. (follows.over c k).0 h j past ((same (sat value (c + k)) c j).0 m),
    λ h. (follows.over c k).1 (λ j past m. h j past ((same (sat value (c + k)) c j).1 m)),
  );
}

-- what the kernel of a sequence says of the booleans that occur
module _ (B : Type 0) (true_one : B) (h g : B → ℕ → Bool) where
  abbrev Agrees : Written B → Type 0
  Agrees w = (b : B) → Occurs true_one b w → (k : ℕ) → IsTrue (h b k) → IsTrue (g b k)

  Chain-on : (P Q : ℕ → ℕ → Type 0) → ((i j : ℕ) → P i j → Q i j) → (n i j : ℕ) → Chain P n i j → Chain Q n i j
  Chain-on P Q each zero i j c = c
  Chain-on P Q each (suc n) i j c = (c.0, Chain-on P Q each n i c.0 c.1, each c.0 j c.2)

  ticks-on : ((k : ℕ) → IsTrue (h true_one k) → IsTrue (g true_one k)) → (n i j : ℕ) → Matches h (ticks true_one n) i j
      → Matches g (ticks true_one n) i j
  ticks-on one_on n i j m = (
    m.0,
    m.1,
    m.2,
    Chain-on (Matches h (one true_one)) (Matches g (one true_one)) (λ a b x. (x.0, one_on a x.1)) m.0 i j m.3,
  )

  after-on : ((k : ℕ) → IsTrue (h true_one k) → IsTrue (g true_one k)) → (r s : Seq B)
      → ((i j : ℕ) → Matches h r i j → Matches g r i j) → ((i j : ℕ) → Matches h s i j → Matches g s i j)
      → (n i j : ℕ) → Matches h (after true_one r s n) i j → Matches g (after true_one r s n) i j
  after-on one_on r s r_on s_on zero i j m = (m.0, m.1, m.2, r_on i (m.0 + 1) m.3, s_on m.0 j m.4)
  after-on one_on r s r_on s_on (suc zero) i j m = (m.0, r_on i m.0 m.1, s_on m.0 j m.2)
  after-on one_on r s r_on s_on (suc (suc n)) i j m =
      (m.0, (m.1.0, r_on i m.1.0 m.1.1, ticks-on one_on (n + 1) m.1.0 m.0 m.1.2), s_on m.0 j m.2)

  later-on : ((k : ℕ) → IsTrue (h true_one k) → IsTrue (g true_one k)) → (s : Seq B)
      → ((i j : ℕ) → Matches h s i j → Matches g s i j) → (n i j : ℕ) → Matches h (later true_one s n) i j
      → Matches g (later true_one s n) i j
  later-on one_on s s_on zero i j m = s_on i j m
  later-on one_on s s_on (suc n) i j m = (m.0, ticks-on one_on (suc n) i m.0 m.1, s_on m.0 j m.2)

  one_of-on : (form : ℕ → Seq B) → ((n i j : ℕ) → Matches h (form n) i j → Matches g (form n) i j)
      → (first more i j : ℕ) → Matches h (one_of first more form) i j → Matches g (one_of first more form) i j
  one_of-on form each first zero i j m = each first i j m
  one_of-on form each first (suc more) i j m =
      elim m [ inl x ↦ inl (each first i j x) | inr x ↦ inr (one_of-on form each (first + 1) more i j x) ]

  kernel-on : (w : Written B) → Agrees w → (i j : ℕ) → Matches h (kernel true_one w) i j
      → Matches g (kernel true_one w) i j
  kernel-on (boolean b) agrees i j m = (m.0, agrees b refl i m.1)
  kernel-on (delay r least most s) agrees i j m =
      one_of-on (after true_one (kernel true_one r) (kernel true_one s))
      (after-on (agrees true_one (inl refl)) (kernel true_one r) (kernel true_one s)
      (kernel-on r (λ b o. agrees b (inr (inl o)))) (kernel-on s (λ b o. agrees b (inr (inr o)))))
      least (most - least) i j m
  kernel-on (lead least most s) agrees i j m =
      one_of-on (later true_one (kernel true_one s))
      (later-on (agrees true_one (inl refl)) (kernel true_one s) (kernel-on s (λ b o. agrees b (inr o))))
      least (most - least) i j m
  kernel-on (repeat r least most) agrees i j m = (
    m.0,
    m.1,
    m.2,
    Chain-on (Matches h (kernel true_one r)) (Matches g (kernel true_one r)) (kernel-on r agrees) m.0 i j m.3,
  )
  kernel-on (or r s) agrees i j m =
      elim m [
        | inl x ↦ inl (kernel-on r (λ b o. agrees b (inl o)) i j x)
        | inr x ↦ inr (kernel-on s (λ b o. agrees b (inr o)) i j x)
      ]
  kernel-on (and r s) agrees i j m = (
    m.0,
    m.1,
    kernel-on r (λ b o. agrees b (inl o)) i m.0 m.2,
    kernel-on s (λ b o. agrees b (inr o)) i m.1 m.3,
    m.4,
  )
  kernel-on (intersect r s) agrees i j m =
      (kernel-on r (λ b o. agrees b (inl o)) i j m.0, kernel-on s (λ b o. agrees b (inr o)) i j m.1)
  kernel-on (throughout b r) agrees i j m =
      (kernel-on r (λ c o. agrees c (inr o)) i j m.0, λ k from below. agrees b (inl refl) k (m.1 k from below))

-- only the booleans that occur count
Follows-told : (B : Type 0) (true_one : B) (w : Written B) (v value : B → ℕ → Bool) (a : Automaton)
    → ((k : ℕ) (b : B) → Occurs true_one b w → v b k ≡ value b k) → AutomatonFollows v (every (kernel true_one w)) a
    → AutomatonFollows value (every (kernel true_one w)) a
Follows-told B true_one w v value a told_so follows =
    let forth : (b : B) → Occurs true_one b w → (k : ℕ) → IsTrue (v b k) → IsTrue (value b k) =
    λ b o k x. sym (told_so k b o) ∙ x in
    let back : (b : B) → Occurs true_one b w → (k : ℕ) → IsTrue (value b k) → IsTrue (v b k) =
    λ b o k x. told_so k b o ∙ x in
    let sat_forth : (n : ℕ) (b : B) → Occurs true_one b w → (k : ℕ) → IsTrue (sat v n b k) → IsTrue (sat value n b k) =
    λ n b o k x. ap (λ z. nat_le n k || z) (sym (told_so k b o)) ∙ x in
    let sat_back : (n : ℕ) (b : B) → Occurs true_one b w → (k : ℕ) → IsTrue (sat value n b k) → IsTrue (sat v n b k) =
    λ n b o k x. ap (λ z. nat_le n k || z) (told_so k b o) ∙ x in
    record {
      ends = λ c k. (
        λ x. kernel-on B true_one v value w forth c (c + k + 1) ((follows.ends c k).0 x),
        λ x. (follows.ends c k).1 (kernel-on B true_one value v w back c (c + k + 1) x),
      );
      over = λ c k. (
        λ x j past m. (follows.over c k).0 x j past
            (kernel-on B true_one (sat value (c + k)) (sat v (c + k)) w (sat_back (c + k)) c j m),
        λ x. (follows.over c k).1
            (λ j past m. x j past
            (kernel-on B true_one (sat v (c + k)) (sat value (c + k)) w (sat_forth (c + k)) c j m)),
      );
    }

pub law-section_follows : SectionFollows
law-section_follows atom true_one rows value w ordered tells =
    let r : Plan Boolean = plan true_one w in
    let t : Table Boolean = plan_table r in
    let spells = spelling Boolean r in
    let up = rising Boolean r t spells in
    let v : Boolean → ℕ → Bool = λ b k. told_atom (atom b) (rows k) in
    Follows-told Boolean true_one w v value (automaton_of (section_for atom true_one w) rows) tells
    (Follows-same Boolean v (kernel true_one w) (plan_sequence r) (automaton_of (section_for atom true_one w) rows)
    (λ holds. plan-kernel Boolean holds true_one w ordered)
    (section-follows Boolean t up atom rows r spells))

pub law-section_is_well_formed : SectionIsWellFormed
law-section_is_well_formed number atoms atom true_one w there =
    let r : Plan Boolean = plan true_one w in
    let t : Table Boolean = plan_table r in
    is-section Boolean (sifted t) (sifted-rising Boolean t (rising Boolean r t (spelling Boolean r))) number atoms atom
    (sifted-wants Boolean (λ b. IsThere atoms (atom b)) t
    (plan-wants Boolean (λ b. IsThere atoms (atom b)) r
    (sequence-of Boolean (λ b. IsThere atoms (atom b)) true_one w there)))

-- no more positions than the weight
moving-size : (t e : Bool) (p : Plan Boolean) (n : ℕ) → (plan_table p).size ≤ n → (plan_table (moving t e p)).size ≤ n
moving-size true e p n le = le
moving-size false true p n le = omega arith
moving-size false false p n le = omega arith

apart-size : (true_one : Boolean) (r s : Plan Boolean) (least most : ℕ) → least ≤ most
    → (plan_table (apart true_one r s least most)).size ≤ (plan_table r).size + (plan_table s).size + most
apart-size true_one r s zero zero le = omega arith
apart-size true_one r s zero (suc most) le = let one : most * 1 ≡ most = omega arith in omega (arith, one)
apart-size true_one r s (suc least) most le =
    let one : (most - 1) * 1 ≡ most - 1 = omega arith in omega (arith, one)

pub size-weight : (true_one : Boolean) (w : Written Boolean) → IsOrdered w
    → (plan_table (plan true_one w)).size ≤ weight w
size-weight true_one (boolean b) ordered = omega arith
size-weight true_one (delay r least most s) ordered =
    moving-size (weighs (delay r least most s)) (admits_empty (delay r least most s))
    (apart true_one (plan true_one r) (plan true_one s) least most)
    (weight (delay r least most s))
    (omega (
      arith,
      apart-size true_one (plan true_one r) (plan true_one s) least most ordered.0,
      size-weight true_one r ordered.1,
      size-weight true_one s ordered.2,
    ))
size-weight true_one (lead least most s) ordered =
    let one : most * 1 ≡ most = omega arith in
    moving-size (weighs (lead least most s)) (admits_empty (lead least most s))
    (link false true (loop (tick true_one) least most) skip (plan true_one s)) (weight (lead least most s))
    (omega (arith, one, size-weight true_one s ordered.1))
size-weight true_one (repeat r least most) ordered =
    moving-size (weighs (repeat r least most)) (admits_empty (repeat r least most))
    (loop (plan true_one r) least most) (weight (repeat r least most))
    (mul-le-mul_left most (size-weight true_one r ordered.1))
size-weight true_one (or r s) ordered =
    moving-size (weighs (or r s)) (admits_empty (or r s)) (any (plan true_one r) (plan true_one s))
    (weight (or r s))
    (omega (arith, size-weight true_one r ordered.0, size-weight true_one s ordered.1))
size-weight true_one (and r s) ordered =
    let a = size-weight true_one r ordered.0 in
    let b = size-weight true_one s ordered.1 in
    let x : (plan_table (plan true_one r)).size * (plan_table (plan true_one s)).size ≤ weight r
    * (plan_table (plan true_one s)).size = mul-le-mul_right (plan_table (plan true_one s)).size a in
    let y : weight r * (plan_table (plan true_one s)).size ≤ weight r * weight s = mul-le-mul_left (weight r) b in
    let product : (weight r + 1) * (weight s + 1) ≡ weight r * weight s + weight r + weight s + 1 = omega arith in
    moving-size (weighs (and r s)) (admits_empty (and r s)) (all (plan true_one r) (plan true_one s))
    (weight (and r s))
    (omega (arith, a, b, x, y, product))
size-weight true_one (intersect r s) ordered =
    let a = size-weight true_one r ordered.0 in
    let b = size-weight true_one s ordered.1 in
    let x : (plan_table (plan true_one r)).size * (plan_table (plan true_one s)).size ≤ weight r
    * (plan_table (plan true_one s)).size = mul-le-mul_right (plan_table (plan true_one s)).size a in
    let y : weight r * (plan_table (plan true_one s)).size ≤ weight r * weight s = mul-le-mul_left (weight r) b in
    moving-size (weighs (intersect r s)) (admits_empty (intersect r s)) (pair (plan true_one r) (plan true_one s))
    (weight (intersect r s))
    (omega (arith, x, y))
size-weight true_one (throughout b r) ordered =
    moving-size (weighs (throughout b r)) (admits_empty (throughout b r)) (under b (plan true_one r))
    (weight (throughout b r))
    (size-weight true_one r ordered)

pub law-section_is_small : SectionIsSmall
law-section_is_small atom true_one w ordered =
    let t : Table Boolean = plan_table (plan true_one w) in
    omega (
      arith,
      blocks-length (coded atom (sifted t)) 0 0 (sifted t).size,
      rank-few (is_position_kept t) t.size,
      size-weight true_one w ordered,
    )
