use Rattle.std.proofs.Common.{◌≡◌, false, ap, sym, ◌∙◌, reverse, List, ℕ}
use Rattle.std.specs.Str.{bytes_eq}
use Rattle.std.proofs.lemmas.Bool.{not-true}
use Rattle.verifier.specs.Arrivals.{arrived}
use Rattle.verifier.proofs.ArrivalLaws.{bytes_eq-reverse, merge_differs}
use Rattle.verifier.proofs.arrival.merge.Goals as goal

pub returns-then-ne : goal.returns-then-ne
returns-then-ne c =
    let differs : bytes_eq c.as_slice.result.now c.as_slice-in-Agreed.result.now ≡ false =
    not-true _ (sym c.ne.ensures ∙ c.if-ne.true) in
    let left : bytes_eq c.in-Agreed.other.items c.as_slice-in-Agreed.result.now ≡ false =
    ap (λ (xs : List ℕ). bytes_eq xs c.as_slice-in-Agreed.result.now) (sym c.as_slice.ensures.value) ∙ differs in
    let kept : bytes_eq c.in-Agreed.other.items c.args.list.items ≡ false =
    ap (λ (xs : List ℕ). bytes_eq c.in-Agreed.other.items xs) (sym c.as_slice-in-Agreed.ensures.value) ∙ left in
    merge_differs (reverse c.args.list.items) (reverse c.in-Agreed.other.items) (arrived c.args.arrival.now)
    (ap arrived c.in-Agreed.is) (bytes_eq-reverse c.args.list.items c.in-Agreed.other.items ∙ kept)
