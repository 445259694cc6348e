-- Instructions in order, none of which jumps or stops, and what they make of the operands on top.
use Rattle.std.proofs.Common.{◌≡◌, ◌∙◌, ℕ, ◌+◌, ◌≤◌, max, Bool, true, false, List, [], ◌∷◌}
use Rattle.std.proofs.Common.{◌++◌, length, map, Option, Some, None, refl, ap, arith}
use Rattle.std.proofs.Common.{length-append}
use Rattle.std.specs.Prelude.{nat_le, if◌then◌else◌}
use Rattle.std.proofs.lemmas.Bool.{le-leb}
use Rattle.std.proofs.lemmas.List.{length-map}
use Rattle.std.proofs.lemmas.Option.{same_Some}
use Rattle.bytecode_programs.specs.declared.flow.Flow.{Flow}
use Rattle.bytecode_programs.specs.declared.flow.Flow.TheVariants.{GoesOn}
use Rattle.bytecode_programs.specs.declared.limits.Limits.{Limits}
use Rattle.bytecode_programs.specs.declared.sample_instr.SampleInstr.{SampleInstr}
use Rattle.bytecode_programs.specs.Instructions.{FrameData, Effect, leaves, too_few, misfit}
use Rattle.bytecode_programs.specs.Instructions.{sample_flow, sample_effect, is_there}
use Rattle.machine_checked.specs.Samples.{Operand, operand_width, results, Made, making, reaches}

-- between two instructions
pub record State : Type 0 where
  pub operands : List Operand
  pub made : Made

abbrev pub state : List Operand → Made → State
state xs made = record { operands = xs; made = made }

abbrev pub onward : {A B : Type 0} → Option A → (A → Option B) → Option B
onward None go = None
onward (Some a) go = go a

abbrev pub only_on : Flow → Option State → Option State
only_on GoesOn o = o
only_on flow o = None

-- an instruction that passes the three tests
abbrev pub tested : Bool → Bool → State → Option State
tested fits back s = if fits then (if back then Some s else None) else None

module _ (f : FrameData) (d : Limits) (sample : ℕ → ℕ → ℕ) where
  abbrev pub stepped : SampleInstr → State → Bool → Effect → Option State
  stepped i s false e = None
  stepped i s true too_few = None
  stepped i s true misfit = None
  stepped i s true (leaves ws) =
      tested (nat_le (length ws) d.stack) (reaches d i)
      (state (results f sample i s.operands) (making i s.operands s.made))

  abbrev pub step : SampleInstr → State → Option State
  step i s = stepped i s (is_there f i) (sample_effect f i (map operand_width s.operands))

  abbrev pub steps : List SampleInstr → State → Option State
  steps [] s = Some s
  steps (i ∷ code) s = onward (only_on (sample_flow i) (step i s)) (steps code)

  onward-append :
      (a b : List SampleInstr) (o : Option State) (s : State) →
      ((r : State) → steps a r ≡ Some s → steps (a ++ b) r ≡ steps b s) →
      onward o (steps a) ≡ Some s → onward o (steps (a ++ b)) ≡ steps b s
  onward-append a b None s more h = cc
  onward-append a b (Some r) s more h = more r h

  -- code after code
  pub steps-append :
      (a b : List SampleInstr) (r s : State) → steps a r ≡ Some s → steps (a ++ b) r ≡ steps b s
  steps-append [] b r s h = ap (steps b) (same_Some r s h)
  steps-append (i ∷ a) b r s h =
      onward-append a b (only_on (sample_flow i) (step i r)) s (λ r g. steps-append a b r s g) h

  -- The code turns the operands pre, on any others, into post.
  abbrev pub Moves : List SampleInstr → List Operand → List Operand → ℕ → Type 0
  Moves code pre post room =
      (xs : List Operand) (made : Made) → length xs + room ≤ d.stack →
      steps code (state (pre ++ xs) made) ≡ Some (state (post ++ xs) made)

  pub moves-room :
      (a : List SampleInstr) (pre post : List Operand) (m n : ℕ) → m ≤ n →
      Moves a pre post m → Moves a pre post n
  moves-room a pre post m n le h xs made fits = h xs made (omega (arith, le, fits))

  pub moves-then :
      (a b : List SampleInstr) (pre mid post : List Operand) (m n : ℕ) →
      Moves a pre mid m → Moves b mid post n → Moves (a ++ b) pre post (max m n)
  moves-then a b pre mid post m n g h xs made fits =
      steps-append a b (state (pre ++ xs) made) (state (mid ++ xs) made)
      (g xs made (omega (arith, fits)))
      ∙ h xs made (omega (arith, fits))

  pub moves-none : (pre : List Operand) (n : ℕ) → Moves [] pre pre n
  moves-none pre n xs made fits = refl

  -- One instruction, with what it names and reads, that changes neither atoms nor stores.
  pub record Acts (i : SampleInstr) (pre post : List Operand) : Type 0 where
    pub there : is_there f i ≡ true
    pub rule :
        (xs : List Operand) →
        sample_effect f i (map operand_width (pre ++ xs)) ≡ leaves (map operand_width (post ++ xs))
    pub back : reaches d i ≡ true
    pub on : sample_flow i ≡ GoesOn
    pub becomes : (xs : List Operand) → results f sample i (pre ++ xs) ≡ post ++ xs
    pub keeps : (xs : List Operand) (made : Made) → making i (pre ++ xs) made ≡ made

  pub step-some :
      (i : SampleInstr) (s : State) (ws : List ℕ) → is_there f i ≡ true →
      sample_effect f i (map operand_width s.operands) ≡ leaves ws → length ws ≤ d.stack →
      reaches d i ≡ true → sample_flow i ≡ GoesOn →
      steps (i ∷ []) s
      ≡ Some (state (results f sample i s.operands) (making i s.operands s.made))
  step-some i s ws there rule fits back on =
      rw (on, there, rule, le-leb (length ws) d.stack fits, back) refl

  pub acts-moves :
      (i : SampleInstr) (pre post : List Operand) → Acts i pre post →
      Moves (i ∷ []) pre post (length post)
  acts-moves i pre post h xs made fits =
      step-some i (state (pre ++ xs) made) (map operand_width (post ++ xs)) h.there (h.rule xs)
      (omega (arith, length-map (post ++ xs) operand_width, length-append post xs, fits)) h.back h.on
      ∙ (ap (λ ys. Some (state ys (making i (pre ++ xs) made))) (h.becomes xs)
      ∙ ap (λ m. Some (state (post ++ xs) m)) (h.keeps xs made))

  -- code that puts a value on any operands
  abbrev pub Puts : List SampleInstr → Operand → ℕ → Type 0
  Puts code x room = Moves code [] (x ∷ []) room

  pub puts-under :
      (a : List SampleInstr) (x y : Operand) (n : ℕ) → Puts a y n →
      Moves a (x ∷ []) (y ∷ x ∷ []) (1 + n)
  puts-under a x y n h xs made fits = h (x ∷ xs) made (omega (arith, fits))

  pub puts-below :
      (a : List SampleInstr) (x y z : Operand) (n : ℕ) → Puts a z n →
      Moves a (y ∷ x ∷ []) (z ∷ y ∷ x ∷ []) (2 + n)
  puts-below a x y z n h xs made fits = h (y ∷ x ∷ xs) made (omega (arith, fits))

  -- an end after the code of one operand, of two, of three
  pub puts-one :
      (a end : List SampleInstr) (x y : Operand) (m : ℕ) → 1 ≤ m → Puts a x m →
      Moves end (x ∷ []) (y ∷ []) 1 → Puts (a ++ end) y m
  puts-one a end x y m some g h =
      moves-room (a ++ end) [] (y ∷ []) (max m 1) m (omega (arith, some))
      (moves-then a end [] (x ∷ []) (y ∷ []) m 1 g h)

  pub puts-two :
      (a b end : List SampleInstr) (x y z : Operand) (m n room : ℕ) → Puts a x m → Puts b y n →
      Moves end (y ∷ x ∷ []) (z ∷ []) room → Puts (a ++ b ++ end) z (max (max m (1 + n)) room)
  puts-two a b end x y z m n room g h last =
      moves-then (a ++ b) end [] (y ∷ x ∷ []) (z ∷ []) (max m (1 + n)) room
      (moves-then a b [] (x ∷ []) (y ∷ x ∷ []) m (1 + n) g (puts-under b x y n h)) last

  pub puts-three :
      (a b c end : List SampleInstr) (x y z r : Operand) (m n o : ℕ) → Puts a x m → Puts b y n →
      Puts c z o → Moves end (z ∷ y ∷ x ∷ []) (r ∷ []) 2 →
      Puts (a ++ b ++ c ++ end) r (max m (max (1 + n) (2 + o)))
  puts-three a b c end x y z r m n o ga gb gc last =
      let two : Moves (a ++ b) [] (y ∷ x ∷ []) (max m (1 + n)) =
      moves-then a b [] (x ∷ []) (y ∷ x ∷ []) m (1 + n) ga (puts-under b x y n gb) in
      let three : Moves (a ++ b ++ c) [] (z ∷ y ∷ x ∷ []) (max (max m (1 + n)) (2 + o)) =
      moves-then (a ++ b) c [] (y ∷ x ∷ []) (z ∷ y ∷ x ∷ []) (max m (1 + n)) (2 + o) two
      (puts-below c x y z o gc) in
      moves-room (a ++ b ++ c ++ end) [] (r ∷ []) (max (max (max m (1 + n)) (2 + o)) 2)
      (max m (max (1 + n) (2 + o))) (omega arith)
      (moves-then (a ++ b ++ c) end [] (z ∷ y ∷ x ∷ []) (r ∷ [])
      (max (max m (1 + n)) (2 + o)) 2 three last)

  pub moves-above :
      (a : List SampleInstr) (x y z : Operand) (n : ℕ) → Moves a (y ∷ []) (z ∷ []) n →
      Moves a (y ∷ x ∷ []) (z ∷ x ∷ []) (1 + n)
  moves-above a x y z n h xs made fits = h (x ∷ xs) made (omega (arith, fits))

  -- with something between the second operand and the end
  pub puts-turned :
      (a b middle end : List SampleInstr) (x y y' z : Operand) (m n : ℕ) → 1 ≤ n → Puts a x m →
      Puts b y n → Moves middle (y ∷ []) (y' ∷ []) 1 → Moves end (y' ∷ x ∷ []) (z ∷ []) 1 →
      Puts (a ++ b ++ middle ++ end) z (max m (1 + n))
  puts-turned a b middle end x y y' z m n some g h turn last =
      let two : Moves (a ++ b) [] (y ∷ x ∷ []) (max m (1 + n)) =
      moves-then a b [] (x ∷ []) (y ∷ x ∷ []) m (1 + n) g (puts-under b x y n h) in
      let three : Moves (a ++ b ++ middle) [] (y' ∷ x ∷ []) (max (max m (1 + n)) 2) =
      moves-then (a ++ b) middle [] (y ∷ x ∷ []) (y' ∷ x ∷ []) (max m (1 + n)) 2 two
      (moves-above middle x y y' 1 turn) in
      moves-room (a ++ b ++ middle ++ end) [] (z ∷ []) (max (max (max m (1 + n)) 2) 1)
      (max m (1 + n)) (omega (arith, some))
      (moves-then (a ++ b ++ middle) end [] (y' ∷ x ∷ []) (z ∷ []) (max (max m (1 + n)) 2) 1 three
      last)
