-- Each instruction of sample code can be written to a file.
use Rattle.std.proofs.Common.{◌≡◌, ◌∙◌, ℕ, zero, suc, ◌+◌, ◌-◌, ◌^◌, ◌<◌, ◌≤◌, max, Bool, true}
use Rattle.std.proofs.Common.{false}
use Rattle.std.proofs.Common.{List, [], ◌∷◌, ◌++◌, length, Option, Some, None, refl, arith}
use Rattle.std.specs.Prelude.{slice_get, nat_le, ◌==◌, if◌then◌else◌}
use Rattle.std.specs.List.{AllByRecursion, list_all, flat_map}
use Rattle.std.proofs.lemmas.Bool.{le-leb, lt-ltb}
use Rattle.std.proofs.lemmas.List.Folds.{list_all-append}
use Rattle.std.proofs.lemmas.Option.{slice_get_within}
use Rattle.std.proofs.lemmas.Nat.{pow_pos}
use Rattle.signals.proofs.Widths.{fits_wider}
use Rattle.expressions.specs.declared.expr.Expr.{Expr}
use Rattle.expressions.specs.declared.rule.Rule.{Rule}
use Rattle.expressions.specs.declared.counter.Counter.{Counter}
use Rattle.expressions.specs.declared.operator.Arithmetic.{Arithmetic}
use Rattle.expressions.specs.declared.operator.Arithmetic.TheVariants as arithmetic
use Rattle.expressions.specs.declared.operator.Shift.{Shift as Shifting}
use Rattle.expressions.specs.declared.operator.Shift.TheVariants.{Left, Right}
use Rattle.expressions.specs.declared.operator.Comparison.{Comparison}
use Rattle.expressions.specs.declared.operator.Comparison.TheVariants.{Equal, Differs, Less}
use Rattle.expressions.specs.declared.operator.Comparison.TheVariants.{AtMost, Greater, AtLeast}
use Rattle.expressions.specs.declared.operator.Connective.{Connective}
use Rattle.expressions.specs.declared.operator.Connective.TheVariants.{Both, Either}
use Rattle.expressions.specs.declared.operator.Reduction.{Reduction}
use Rattle.expressions.specs.declared.operator.Reduction.TheVariants.{Zero, NonZero, AllOnes}
use Rattle.expressions.specs.declared.operator.Reduction.TheVariants.{NotAllOnes, Odd, Even}
use Rattle.expressions.specs.declared.operator.Reduction.TheVariants.{OneHot, OneHotOrZero}
use Rattle.expressions.specs.declared.operator.Change.{Change}
use Rattle.expressions.specs.declared.operator.Change.TheVariants.{Rose, Fell, Stable, Changed}
use Rattle.expressions.specs.Terms.{Term, constant, named, slice, group, concat, inverse, reduce}
use Rattle.expressions.specs.Terms.{combine, shift, compare, connect, choose, past, change}
use Rattle.expressions.specs.Terms.{width_of}
use Rattle.expressions.specs.Expressions.{term_of}
use Rattle.bytecode_programs.specs.declared.operator.JoinOperator.TheVariants.{AddSat, SubSat}
use Rattle.bytecode_programs.specs.declared.operator.ReduceOperator.TheVariants.{RedOr}
use Rattle.bytecode_programs.specs.declared.sample_instr.SampleInstr.{SampleInstr}
use Rattle.bytecode_programs.specs.declared.sample_instr.SampleInstr.TheVariants.{Push, Load, Join}
use Rattle.bytecode_programs.specs.declared.sample_instr.SampleInstr.TheVariants.{Reduce, Zext, Slice, Mux}
use Rattle.bytecode_programs.specs.declared.sample_instr.SampleInstr.TheVariants.{Not, Concat}
use Rattle.bytecode_programs.specs.declared.sample_instr.SampleInstr.TheVariants.{SetAtom, Store, Halt}
use Rattle.bytecode_programs.specs.Values.{is_width, fits_sample}
use Rattle.bytecode_programs.specs.Instructions.{FrameData}
use Rattle.compiler.specs.Codes.{Slots, slot_of, extension, bit_test, slot_read, reads_slot}
use Rattle.compiler.specs.Codes.{guarded, reduction_end, arithmetic_end, shift_end}
use Rattle.compiler.specs.Codes.{comparison_middle, comparison_end, connective_end}
use Rattle.compiler.specs.Codes.{change_middle, change_end, code_of, reach}
use Rattle.compiler.specs.Samples.{Held, held_slot, truth_code, cut, number_code}
use Rattle.compiler.specs.Samples.{amount_code, sum_code, loaded_code, cleared_code}
use Rattle.compiler.specs.Samples.{next_code, atoms_code, stores_code, largest}
use Rattle.compiler.specs.Samples.{rule_terms, clear_terms, counter_terms}
use Rattle.compiler.specs.Laws.{EachPart, IsInFrame, SamplesFit}
use Rattle.compiler.proofs.Lists.{all-front, all-back, all-flat}
use Rattle.compiler.proofs.ExpressionLaws.{width-some}
use Rattle.compiler.proofs.Programs.{largest-append, largest-flat}
use Rattle.compiler.proofs.NarrowLaws.{each-self, all-placed}

abbrev pub Fit : List SampleInstr → Type 0
Fit code = list_all fits_sample code ≡ true

join : (a b : List SampleInstr) → Fit a → Fit b → Fit (a ++ b)
join a b g h = list_all-append fits_sample a b ∙ rw (g, h) refl

width-fits : (w : ℕ) → 1 ≤ w → w ≤ 128 → is_width w ≡ true
width-fits w some most = rw (le-leb 1 w some, le-leb w 128 most) refl

push-fits : (w v : ℕ) → 1 ≤ w → w ≤ 128 → v < 2 ^ w → Fit (Push w v ∷ [])
push-fits w v some most fits = rw (width-fits w some most, lt-ltb v (2 ^ w) fits) refl

extension-fits : (from to : ℕ) → 1 ≤ to → to ≤ 128 → Fit (extension from to)
extension-fits from to some most = cases (from == to)
  where
    cases : (b : Bool) → Fit (if b then [] else Zext to ∷ [])
    cases true = refl
    cases false = rw (width-fits to some most) refl

test-fits : (w : ℕ) → Fit (bit_test w)
test-fits w = cases (w == 1)
  where
    cases : (b : Bool) → Fit (if b then [] else Reduce RedOr ∷ [])
    cases true = refl
    cases false = refl

read-fits : (slot n : ℕ) → slot < 65536 → n < 65536 → Fit (slot_read slot n)
read-fits slot zero g h = rw (lt-ltb slot 65536 g) refl
read-fits slot (suc n) g h =
    rw (lt-ltb slot 65536 g, le-leb 1 (suc n) (omega arith), lt-ltb (suc n) 65536 h) refl

slice-fits : (high low : ℕ) → high ≤ 127 → low ≤ high → Fit (Slice high low ∷ [])
slice-fits high low most order = rw (le-leb high 127 most, le-leb low high order) refl

guarded-fits :
    (b : Bool) (w n : ℕ) (code : List SampleInstr) → 1 ≤ w → w ≤ 128 → n < 65536 → Fit code →
    Fit (guarded b w n code)
guarded-fits true w n code some most near h = h
guarded-fits false w n code some most near h =
    join (slot_read 0 n ++ code) (Push w 0 ∷ Mux ∷ [])
    (join (slot_read 0 n) code (read-fits 0 n (omega arith) near) h)
    (join (Push w 0 ∷ []) (Mux ∷ []) (push-fits w 0 some most (pow_pos w)) refl)

reduction-fits : (op : Reduction) → Fit (reduction_end op)
reduction-fits Zero = refl
reduction-fits NonZero = refl
reduction-fits AllOnes = refl
reduction-fits NotAllOnes = refl
reduction-fits Odd = refl
reduction-fits Even = refl
reduction-fits OneHot = refl
reduction-fits OneHotOrZero = refl

arithmetic-fits : (op : Arithmetic) → Fit (arithmetic_end op)
arithmetic-fits arithmetic.Add = refl
arithmetic-fits arithmetic.Sub = refl
arithmetic-fits arithmetic.And = refl
arithmetic-fits arithmetic.Or = refl
arithmetic-fits arithmetic.Xor = refl
arithmetic-fits arithmetic.Xnor = refl

shift-fits : (op : Shifting) → Fit (shift_end op)
shift-fits Left = refl
shift-fits Right = refl

middle-fits : (op : Comparison) → Fit (comparison_middle op)
middle-fits Equal = refl
middle-fits Differs = refl
middle-fits Less = refl
middle-fits AtMost = refl
middle-fits Greater = refl
middle-fits AtLeast = refl

comparison-fits : (op : Comparison) → Fit (comparison_end op)
comparison-fits Equal = refl
comparison-fits Differs = refl
comparison-fits Less = refl
comparison-fits AtMost = refl
comparison-fits Greater = refl
comparison-fits AtLeast = refl

connective-fits : (op : Connective) → Fit (connective_end op)
connective-fits Both = refl
connective-fits Either = refl

change-middle-fits : (op : Change) → Fit (change_middle op)
change-middle-fits Rose = refl
change-middle-fits Fell = refl
change-middle-fits Stable = refl
change-middle-fits Changed = refl

change-fits : (op : Change) → Fit (change_end op)
change-fits Rose = refl
change-fits Fell = refl
change-fits Stable = refl
change-fits Changed = refl

module _ (f : FrameData) (at : Slots) (few : length f.slots ≤ 65536) where
  slot-fits : (slot w : ℕ) → slice_get f.slots slot ≡ Some w → slot < 65536
  slot-fits slot w h = omega (arith, few, slice_get_within f.slots slot w h)

  own : (e : Term) → EachPart (IsInFrame f at) e → width_of e ≤ 128
  own e h = (each-self (IsInFrame f at) e h).narrow

  pub code-fits :
      (e : Term) (w n : ℕ) → EachPart (IsInFrame f at) e → width_of e ≤ w → w ≤ 128 →
      n + reach e < 65536 → Fit (code_of at e w n)
  code-fits (constant bits) w n h le most near =
      push-fits w bits.value (omega (arith, le, bits.some_bits)) most
      (fits_wider bits.value bits.width w le bits.fits)
  code-fits (named name) w n h le most near =
      join (slot_read (slot_of at name) n) (extension name.width w)
      (read-fits (slot_of at name) n (slot-fits (slot_of at name) name.width h.slot)
      (omega (arith, near)))
      (extension-fits name.width w (omega (arith, le, name.some_bits)) most)
  code-fits (slice part) w n h le most near =
      let slot : ℕ = slot_of at part.name in
      let cut : List SampleInstr = Slice part.high part.low ∷ [] in
      join (slot_read slot n ++ cut) (extension (part.high - part.low + 1) w)
      (join (slot_read slot n) cut
      (read-fits slot n (slot-fits slot part.name.width h.slot) (omega (arith, near)))
      (slice-fits part.high part.low (omega (arith, part.inside, part.name.at_most_128))
      part.ordered))
      (extension-fits (part.high - part.low + 1) w (omega (arith, le)) most)
  code-fits (group e) w n h le most near =
      join (code_of at e (width_of e) n) (extension (width_of e) w)
      (code-fits e (width_of e) n h.1 (omega arith) (omega (arith, le, most)) near)
      (extension-fits (width_of e) w (omega (arith, le, width-some e)) most)
  code-fits (concat a b) w n h le most near =
      let ca : List SampleInstr = code_of at a (width_of a) n in
      let cb : List SampleInstr = code_of at b (width_of b) n in
      join (ca ++ cb ++ Concat ∷ []) (extension (width_of a + width_of b) w)
      (join (ca ++ cb) (Concat ∷ [])
      (join ca cb
      (code-fits a (width_of a) n h.1 (omega arith) (omega (arith, le, most)) (omega (arith, near)))
      (code-fits b (width_of b) n h.2 (omega arith) (omega (arith, le, most)) (omega (
        arith,
        near,
      ))))
      refl)
      (extension-fits (width_of a + width_of b) w (omega (arith, le, width-some a)) most)
  code-fits (inverse e) w n h le most near =
      join (code_of at e w n) (Not ∷ []) (code-fits e w n h.1 le most near) refl
  code-fits (reduce op e) w n h le most near =
      let c : List SampleInstr = code_of at e (width_of e) n in
      join (c ++ reduction_end op) (extension 1 w)
      (join c (reduction_end op)
      (code-fits e (width_of e) n h.1 (omega arith) (own e h.1) near)
      (reduction-fits op)) (extension-fits 1 w le most)
  code-fits (combine op a b) w n h le most near =
      join (code_of at a w n ++ code_of at b w n) (arithmetic_end op)
      (join (code_of at a w n) (code_of at b w n)
      (code-fits a w n h.1 (omega (arith, le)) most (omega (arith, near)))
      (code-fits b w n h.2 (omega (arith, le)) most (omega (arith, near)))) (arithmetic-fits op)
  code-fits (shift op a b) w n h le most near =
      let cb : List SampleInstr = code_of at b (width_of b) n in
      join (code_of at a w n ++ cb) (shift_end op)
      (join (code_of at a w n) cb (code-fits a w n h.1 le most (omega (arith, near)))
      (code-fits b (width_of b) n h.2 (omega arith) (own b h.2) (omega (arith, near))))
      (shift-fits op)
  code-fits (compare op a b) w n h le most near =
      let m : ℕ = max (width_of a) (width_of b) in
      let narrow : m ≤ 128 = omega (arith, own a h.1, own b h.2) in
      let ca : List SampleInstr = code_of at a m n in
      let cb : List SampleInstr = code_of at b m n in
      let turned : List SampleInstr = ca ++ comparison_middle op in
      join (turned ++ cb ++ comparison_end op) (extension 1 w)
      (join (turned ++ cb) (comparison_end op)
      (join turned cb
      (join ca (comparison_middle op)
      (code-fits a m n h.1 (omega arith) narrow (omega (arith, near))) (middle-fits op))
      (code-fits b m n h.2 (omega arith) narrow (omega (arith, near)))) (comparison-fits op))
      (extension-fits 1 w le most)
  code-fits (connect op a b) w n h le most near =
      let ca : List SampleInstr = code_of at a (width_of a) n ++ bit_test (width_of a) in
      let cb : List SampleInstr = code_of at b (width_of b) n in
      let two : List SampleInstr = ca ++ cb ++ bit_test (width_of b) in
      join (two ++ connective_end op) (extension 1 w)
      (join two (connective_end op)
      (join (ca ++ cb) (bit_test (width_of b))
      (join ca cb
      (join (code_of at a (width_of a) n) (bit_test (width_of a))
      (code-fits a (width_of a) n h.1 (omega arith) (own a h.1) (omega (arith, near)))
      (test-fits (width_of a)))
      (code-fits b (width_of b) n h.2 (omega arith) (own b h.2) (omega (arith, near))))
      (test-fits (width_of b))) (connective-fits op))
      (extension-fits 1 w le most)
  code-fits (choose c a b) w n h le most near =
      let cc : List SampleInstr = code_of at c (width_of c) n in
      let first : List SampleInstr = cc ++ bit_test (width_of c) in
      join (first ++ code_of at a w n ++ code_of at b w n) (Mux ∷ [])
      (join (first ++ code_of at a w n) (code_of at b w n)
      (join first (code_of at a w n)
      (join cc (bit_test (width_of c))
      (code-fits c (width_of c) n h.1 (omega arith) (own c h.1) (omega (arith, near)))
      (test-fits (width_of c)))
      (code-fits a w n h.2 (omega (arith, le)) most (omega (arith, near))))
      (code-fits b w n h.3 (omega (arith, le)) most (omega (arith, near)))) refl
  code-fits (past e ticks) w n h le most near =
      let u : ℕ = width_of e in
      let m : ℕ = n + ticks in
      join (guarded (reads_slot e) u m (code_of at e u m)) (extension u w)
      (guarded-fits (reads_slot e) u m (code_of at e u m) (width-some e) (own e h.1)
      (omega (arith, near))
      (code-fits e u m h.1 (omega arith) (own e h.1) (omega (arith, near))))
      (extension-fits u w (omega (arith, le, width-some e)) most)
  code-fits (change op e) w n h le most near =
      let u : ℕ = width_of e in
      let now : List SampleInstr = code_of at e u n ++ change_middle op in
      let past : List SampleInstr = guarded (reads_slot e) u (n + 1) (code_of at e u (n + 1)) in
      join (now ++ past ++ change_end op) (extension 1 w)
      (join (now ++ past) (change_end op)
      (join now past
      (join (code_of at e u n) (change_middle op)
      (code-fits e u n h.1 (omega arith) (own e h.1) (omega (arith, near))) (change-middle-fits op))
      (guarded-fits (reads_slot e) u (n + 1) (code_of at e u (n + 1)) (width-some e) (own e h.1)
      (omega (arith, near))
      (code-fits e u (n + 1) h.1 (omega arith) (own e h.1) (omega (arith, near)))))
      (change-fits op)) (extension-fits 1 w le most)

  abbrev Served : Term → Type 0
  Served e = EachPart (IsInFrame f at) e × (reach e < 65536)

  truth-fits : (e : Term) → Served e → Fit (truth_code at e)
  truth-fits e h =
      join (code_of at e (width_of e) 0) (bit_test (width_of e))
      (code-fits e (width_of e) 0 h.0 (omega arith) (own e h.0) (omega (arith, h.1)))
      (test-fits (width_of e))

  cut-fits : (from w : ℕ) → w ≤ 128 → Fit (cut from w)
  cut-fits from w most = cases (nat_le from w)
    where
      cases : (b : Bool) → Fit (if b then [] else Slice (w - 1) 0 ∷ [])
      cases true = refl
      cases false = slice-fits (w - 1) 0 (omega (arith, most)) (omega arith)

  number-fits : (e : Term) (w : ℕ) → w ≤ 128 → Served e → Fit (number_code at w e)
  number-fits e w most h =
      let m : ℕ = max w (width_of e) in
      join (code_of at e m 0) (cut (width_of e) w)
      (code-fits e m 0 h.0 (omega arith) (omega (arith, most, own e h.0)) (omega (arith, h.1)))
      (cut-fits (width_of e) w most)

  rule-fits :
      (r : Rule) (w : ℕ) → w ≤ 128 → AllByRecursion Served (rule_terms (Some r)) →
      Fit (truth_code at (term_of r.when) ++ number_code at w (term_of r.by))
  rule-fits r w most h =
      join (truth_code at (term_of r.when)) (number_code at w (term_of r.by))
      (truth-fits (term_of r.when) h.0) (number-fits (term_of r.by) w most h.1.0)

  amount-fits :
      (r : Rule) (w : ℕ) → 1 ≤ w → w ≤ 128 → AllByRecursion Served (rule_terms (Some r)) →
      Fit (amount_code at w r)
  amount-fits r w some most h =
      join (truth_code at (term_of r.when) ++ number_code at w (term_of r.by))
      (Push w 0 ∷ Mux ∷ []) (rule-fits r w most h)
      (join (Push w 0 ∷ []) (Mux ∷ []) (push-fits w 0 some most (pow_pos w)) refl)

  load-fits : (slot : ℕ) → slot < 65536 → Fit (Load slot ∷ [])
  load-fits slot lt = rw (lt-ltb slot 65536 lt) refl

  sum-fits :
      (add sub : Option Rule) (w slot : ℕ) → 1 ≤ w → w ≤ 128 → slot < 65536 →
      AllByRecursion Served (rule_terms add) → AllByRecursion Served (rule_terms sub) →
      Fit (sum_code at w slot add sub)
  sum-fits None None w slot some most lt g h = load-fits slot lt
  sum-fits (Some r) None w slot some most lt g h =
      join (Load slot ∷ [] ++ amount_code at w r) (Join AddSat ∷ [])
      (join (Load slot ∷ []) (amount_code at w r) (load-fits slot lt)
      (amount-fits r w some most g)) refl
  sum-fits None (Some r) w slot some most lt g h =
      join (Load slot ∷ [] ++ amount_code at w r) (Join SubSat ∷ [])
      (join (Load slot ∷ []) (amount_code at w r) (load-fits slot lt)
      (amount-fits r w some most h)) refl
  sum-fits (Some r) (Some q) w slot some most lt g h =
      let n : List SampleInstr = amount_code at w r in
      let m : List SampleInstr = amount_code at w q in
      let fn : Fit n = amount-fits r w some most g in
      let fm : Fit m = amount-fits q w some most h in
      let first : List SampleInstr = Load slot ∷ [] ++ n ++ m in
      let mid : List SampleInstr = first ++ Join SubSat ∷ Join AddSat ∷ [] in
      join (mid ++ m ++ n) (Join SubSat ∷ Join SubSat ∷ [])
      (join (mid ++ m) n
      (join mid m
      (join first (Join SubSat ∷ Join AddSat ∷ [])
      (join (Load slot ∷ [] ++ n) m (join (Load slot ∷ []) n (load-fits slot lt) fn) fm) refl) fm)
      fn) refl

  loaded-fits :
      (load : Option Rule) (w : ℕ) (code : List SampleInstr) → w ≤ 128 →
      AllByRecursion Served (rule_terms load) → Fit code → Fit (loaded_code at w load code)
  loaded-fits None w code most h g = g
  loaded-fits (Some r) w code most h g =
      let rule : List SampleInstr =
      truth_code at (term_of r.when) ++ number_code at w (term_of r.by) in
      join (rule ++ code) (Mux ∷ []) (join rule code (rule-fits r w most h) g) refl

  cleared-fits :
      (clear : Option Expr) (w : ℕ) (code : List SampleInstr) → 1 ≤ w → w ≤ 128 →
      AllByRecursion Served (clear_terms clear) → Fit code → Fit (cleared_code at w clear code)
  cleared-fits None w code some most h g = g
  cleared-fits (Some e) w code some most h g =
      let truth : List SampleInstr = truth_code at (term_of e) in
      join (truth ++ Push w 0 ∷ [] ++ code) (Mux ∷ [])
      (join (truth ++ Push w 0 ∷ []) code
      (join truth (Push w 0 ∷ []) (truth-fits (term_of e) h.0)
      (push-fits w 0 some most (pow_pos w))) g) refl

  next-fits :
      (h : Held) → held_slot at h < 65536 → AllByRecursion Served (counter_terms h.counter) →
      Fit (next_code at h)
  next-fits h lt all =
      let c : Counter = h.counter in
      let clear : List Term = clear_terms c.clear in
      let load : List Term = rule_terms c.load in
      let add : List Term = rule_terms c.add in
      let sub : List Term = rule_terms c.sub in
      let three : AllByRecursion Served (clear ++ load ++ add) =
      all-front Served (clear ++ load ++ add) sub all in
      let two : AllByRecursion Served (clear ++ load) =
      all-front Served (clear ++ load) add three in
      let w : ℕ = c.width in
      let sum : List SampleInstr = sum_code at w (held_slot at h) c.add c.sub in
      cleared-fits c.clear w (loaded_code at w c.load sum) c.some_bits c.at_most_128
      (all-front Served clear load two)
      (loaded-fits c.load w sum c.at_most_128 (all-back Served clear load two)
      (sum-fits c.add c.sub w (held_slot at h) c.some_bits c.at_most_128 lt
      (all-back Served (clear ++ load) add three)
      (all-back Served (clear ++ load ++ add) sub all)))

  atoms-fit :
      (es : List Term) (i : ℕ) → AllByRecursion Served es → i + length es ≤ 256 →
      Fit (atoms_code at i es)
  atoms-fit [] i h few = refl
  atoms-fit (e ∷ es) i h few =
      join (truth_code at e ++ SetAtom i ∷ []) (atoms_code at (i + 1) es)
      (join (truth_code at e) (SetAtom i ∷ []) (truth-fits e h.0)
      (rw (lt-ltb i 256 (omega (arith, few))) refl))
      (atoms-fit es (i + 1) h.1 (omega (arith, few)))

  stores-fit :
      (hs : List Held) (i : ℕ) →
      AllByRecursion (λ h. AllByRecursion Served (counter_terms h.counter)) hs →
      AllByRecursion (λ h. slice_get f.slots (held_slot at h) ≡ Some h.counter.width) hs →
      i + length hs ≤ 256 → Fit (stores_code at i hs)
  stores-fit [] i all held few = refl
  stores-fit (h ∷ hs) i all held few =
      join (next_code at h ++ Store i ∷ []) (stores_code at (i + 1) hs)
      (join (next_code at h) (Store i ∷ [])
      (next-fits h (slot-fits (held_slot at h) h.counter.width held.0) all.0)
      (rw (lt-ltb i 256 (omega (arith, few))) refl))
      (stores-fit hs (i + 1) all.1 held.1 (omega (arith, few)))

  serve :
      (es : List Term) → AllByRecursion (EachPart (IsInFrame f at)) es → largest reach es < 65536 →
      AllByRecursion Served es
  serve [] g near = tt
  serve (e ∷ es) g near = ((g.0, omega (arith, near)), serve es g.1 (omega (arith, near)))

pub samples-fit : SamplesFit
samples-fit f at es hs frame few atoms stores near =
    let P : Term → Type 0 = Served f at few in
    let others : List Term = flat_map (λ h. counter_terms h.counter) hs in
    let all : AllByRecursion P (es ++ others) =
    serve f at few (es ++ others) (all-placed f at (es ++ others) frame.slots frame.narrow)
    (omega (arith, near, largest-append reach es others, largest-flat reach hs)) in
    let body : List SampleInstr = atoms_code at 0 es ++ stores_code at 0 hs in
    join body (Halt ∷ [])
    (join (atoms_code at 0 es) (stores_code at 0 hs)
    (atoms-fit f at few es 0 (all-front P es others all) (omega (arith, atoms)))
    (stores-fit f at few hs 0
    (all-flat P (λ h. counter_terms h.counter) hs (all-back P es others all)) frame.held
    (omega (arith, stores)))) refl
