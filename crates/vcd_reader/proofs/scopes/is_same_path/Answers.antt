use Rattle.std.proofs.Common.{◌≡◌, ◌∙◌, ◌-◌, ◌++◌, [], ℕ, List, length, take, sym, ap, inl, inr}
use Rattle.std.specs.Str.{bytes_eq}
use Rattle.vcd_reader.specs.Scopes.{front_of}
use Rattle.vcd_reader.proofs.ScopeLaws.{empty-is, empty-not, same-front, expand, no-left, no-right}
use Rattle.vcd_reader.proofs.scopes.is_same_path.Goals as goal

pub returns-then-first_of : goal.returns-then-first_of
returns-then-first_of c =
    let at_left = front_of c.args.scopes.now c.pieces.left_place in
    let at_right = front_of c.args.scopes.now c.pieces.right_place in
    c.eq.ensures
    ∙ sym (c.pieces.invariant ∙ same-front at_left at_right c.pieces.left.now c.pieces.right.now
    (sym c.first_of.ensures.same ∙ ap (front_of c.args.scopes.now) c.if-first_of.true
    ∙ c.first_of-in-pieces.ensures.same))

pub returns-in_default : goal.returns-in_default
returns-in_default c =
    let at_left = front_of c.args.scopes.now c.pieces.left_place in
    let at_right = front_of c.args.scopes.now c.pieces.right_place in
    sym (c.pieces.invariant ∙ c.in_default.ensures.same at_left at_right)

pub returns-in_default-scope_at : goal.returns-in_default-scope_at
returns-in_default-scope_at c =
    let ss = c.args.scopes.now in
    let left = take (length c.pieces.left.now - c.in-Some.size) c.pieces.left.now in
    let right = take (length c.pieces.right.now - c.in-Some.size) c.pieces.right.now in
    let none : left ≡ [] = empty-is left c.if-is_empty.ensures in
    let at_left = front_of ss c.pieces.left_place in
    let at_right = front_of ss c.pieces.right_place in
    sym (c.pieces.invariant ∙ c.in-Some.ensures.same at_left at_right
    ∙ no-left ss c.pieces.left_place c.pieces.right_place c.first_of.result c.first_of-in-pieces.result left right
    c.in_default-scope_at.ensures none c.first_of.ensures.top c.first_of-in-pieces.ensures.top
    c.if-first_of.false)

pub returns-in_default-scope_at-2 : goal.returns-in_default-scope_at-2
returns-in_default-scope_at-2 c =
    let ss = c.args.scopes.now in
    let left = take (length c.pieces.left.now - c.in-Some.size) c.pieces.left.now in
    let right = take (length c.pieces.right.now - c.in-Some.size) c.pieces.right.now in
    let none : right ≡ [] =
    elim c.in-Some.ensures.whole [ inl e ↦ absurd (empty-not left c.if-is_empty.ensures e) | inr e ↦ e ] in
    let at_left = front_of ss c.pieces.left_place in
    let at_right = front_of ss c.pieces.right_place in
    sym (c.pieces.invariant ∙ c.in-Some.ensures.same at_left at_right
    ∙ no-right ss c.pieces.left_place c.pieces.right_place c.first_of.result c.first_of-in-pieces.result left right
    c.in_default-scope_at-2.ensures none c.first_of.ensures.top c.first_of-in-pieces.ensures.top
    c.if-first_of.false)

pub pieces-preserved-then-is_empty : goal.pieces-preserved-then-is_empty
pieces-preserved-then-is_empty c =
    let ss = c.args.scopes.now in
    let s = c.in-Some-scope_at.scope.now in
    let left = take (length c.pieces.left.now - c.in-Some.size) c.pieces.left.now in
    let right = take (length c.pieces.right.now - c.in-Some.size) c.pieces.right.now in
    let none : left ≡ [] = empty-is left c.if-is_empty.ensures in
    let at_left = front_of ss c.pieces.left_place in
    let at_right = front_of ss c.pieces.right_place in
    c.pieces.invariant ∙ c.in-Some.ensures.same at_left at_right
    ∙ ap (λ (xs : List ℕ). bytes_eq xs (at_right ++ right))
    (expand ss c.pieces.left_place s left none s.dotted c.in-Some-scope_at.ensures.1
    ∙ ap (λ (xs : List ℕ). front_of ss s.parent ++ xs) (sym c.front_in-left.ensures))

pub pieces-preserved : goal.pieces-preserved
pieces-preserved c =
    let ss = c.args.scopes.now in
    let s = c.in-Some-scope_at-2.scope.now in
    let left = take (length c.pieces.left.now - c.in-Some.size) c.pieces.left.now in
    let right = take (length c.pieces.right.now - c.in-Some.size) c.pieces.right.now in
    let none : right ≡ [] =
    elim c.in-Some.ensures.whole [ inl e ↦ absurd (empty-not left c.if-is_empty.ensures e) | inr e ↦ e ] in
    let at_left = front_of ss c.pieces.left_place in
    let at_right = front_of ss c.pieces.right_place in
    c.pieces.invariant ∙ c.in-Some.ensures.same at_left at_right
    ∙ ap (λ (xs : List ℕ). bytes_eq (at_left ++ left) xs)
    (expand ss c.pieces.right_place s right none s.dotted c.in-Some-scope_at-2.ensures.1
    ∙ ap (λ (xs : List ℕ). front_of ss s.parent ++ xs) (sym c.front_in-right.ensures))
