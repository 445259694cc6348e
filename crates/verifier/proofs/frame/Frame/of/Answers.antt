use Rattle.std.proofs.Common.{◌≡◌, ℕ, List, ◌∷◌, ◌++◌, map, take, ap, sym, ◌∙◌, arith}
use Rattle.std.proofs.lemmas.Simd.{map-map}
use Rattle.std.proofs.lemmas.List.{take_all}
use Rattle.bytecode_programs.specs.Instructions.{FrameData}
use Rattle.bytecode_programs.specs.Views.{slot_data}
use Rattle.verifier.proofs.frame.Frame.of.Goals as goal

pub returns : goal.returns
returns c =
    let p = c.args.program.now in
    let all : take c.loop-slot.slot-index p.signals.items ≡ p.signals.items =
    take_all c.loop-slot.slot-index p.signals.items (omega (arith, c.loop-slot-test.false)) in
    let widths : map (λ s. s.width) p.signals.items ≡ map (λ s. s.width) (map slot_data p.signals.items) =
    sym (map-map (λ s. s.width) slot_data p.signals.items) in
    let slots : c.extend_from_slice.new.self.items
    ≡ 1 ∷ (map (λ s. s.width) (map slot_data p.signals.items) ++ p.counters.items) =
    c.in_ok-extend_from_slice.ensures.items
    ∙ ap (λ (xs : List ℕ). c.loop-slot.slots.items ++ xs) c.as_slice.ensures.value
    ∙ ap (λ (xs : List ℕ). xs ++ p.counters.items) (c.loop-slot.invariant ∙ ap (λ ss. 1 ∷ map (λ s. s.width) ss) all
    ∙ ap (λ (xs : List ℕ). 1 ∷ xs) widths) in
    let counters : c.in_ok-counters.counters.items ≡ p.counters.items =
    c.in_ok-counters.ensures.items ∙ c.as_slice-2.ensures.value in
    let changed : List ℕ → List ℕ → FrameData = λ xs ys. record { slots = xs; counters = ys; atoms = p.atoms } in
    ap (λ xs. changed xs c.in_ok-counters.counters.items) slots
    ∙ ap (changed (1 ∷ (map (λ s. s.width) (map slot_data p.signals.items) ++ p.counters.items))) counters
