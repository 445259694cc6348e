-- A text is cut in one way at most, and has no first fault then; nor has it two.
use Rattle.std.proofs.Common.{◌≡◌, ℕ, suc, ◌+◌, ◌≤◌, true, List, [], ◌∷◌, ◌++◌, length, take, drop, Some, None, refl}
use Rattle.std.proofs.Common.{sym, ap, ◌∙◌, subst, arith, inl, inr, append_assoc}
use Rattle.std.specs.List.{list_all}
use Rattle.std.proofs.lemmas.Bool.{and_parts}
use Rattle.std.proofs.lemmas.List.{take-append-drop, length-take-le, length-append}
use Rattle.lexer.specs.declared.piece.Shape.{Shape}
use Rattle.lexer.specs.declared.token.Kind.{Kind}
use Rattle.lexer.specs.declared.fault.LexFault.{LexFault}
use Rattle.lexer.specs.Cutting.{Cut, kind_of, is_space, stays_on_line}
use Rattle.lexer.specs.Covering.{EndsLine, BeginsWith, HasNoClose, HasFirstClose, IsGap, white, to_line_end, to_close}
use Rattle.lexer.specs.Covering.{shape_of_text, IsLongest, HasNoGap, IsCut, at_end, over_gap, over_token, IsFaulty}
use Rattle.lexer.specs.Covering.{behind_gap, behind_token, bad_character, bad_number, unclosed}
use Rattle.lexer.proofs.LongestLaws.{order}

-- the rest of a line ends at one place
line_ends : (a b x y : List ℕ) → list_all stays_on_line a ≡ true → EndsLine x → list_all stays_on_line b ≡ true
    → EndsLine y → a ++ x ≡ b ++ y → length a ≡ length b
line_ends [] [] x y h k l m e = refl
line_ends [] (c ∷ b) [] y h k l m e = absurd cc
line_ends [] (c ∷ b) (d ∷ x) y h k l m e =
    let same : c ≡ 10 = cc (e, k) in
    let off : list_all stays_on_line (10 ∷ b) ≡ true =
    subst (λ (z : ℕ). list_all stays_on_line (z ∷ b) ≡ true) same l in
    absurd cc
line_ends (c ∷ a) [] x [] h k l m e = absurd cc
line_ends (c ∷ a) [] x (d ∷ y) h k l m e =
    let same : c ≡ 10 = cc (e, m) in
    let off : list_all stays_on_line (10 ∷ a) ≡ true =
    subst (λ (z : ℕ). list_all stays_on_line (z ∷ a) ≡ true) same h in
    absurd cc
line_ends (c ∷ a) (d ∷ b) x y h k l m e =
    let rest : a ++ x ≡ b ++ y = cc (e) in
    ap suc
    (line_ends a b x y (and_parts (stays_on_line c) (list_all stays_on_line a) h).1 k
    (and_parts (stays_on_line d) (list_all stays_on_line b) l).1 m rest)

-- a comment at its first close
behind : (a x : List ℕ) → drop (length a) (a ++ x) ≡ x
behind [] x = refl
behind (c ∷ a) x = behind a x

close_begins : (a x : List ℕ) → BeginsWith 42 47 (drop (length a) (a ++ 42 ∷ 47 ∷ x))
close_begins a x = subst (BeginsWith 42 47) (sym (behind a (42 ∷ 47 ∷ x))) (refl, refl)

close_le : (a b x y : List ℕ) → HasFirstClose b y → a ++ 42 ∷ 47 ∷ x ≡ b ++ 42 ∷ 47 ∷ y → length b ≤ length a
close_le a b x y h e =
    elim (order (length b) (length a)) [
      | inl le ↦ le
      | inr lt ↦
          absurd (h (length a) lt (subst (λ (z : List ℕ). BeginsWith 42 47 (drop (length a) z)) e (close_begins a x)))
    ]

close_ends : (a b x y : List ℕ) → HasFirstClose a x → HasFirstClose b y → a ++ 42 ∷ 47 ∷ x ≡ b ++ 42 ∷ 47 ∷ y
    → length a ≡ length b
close_ends a b x y h k e = omega (arith, close_le a b x y k e, close_le b a y x h (sym e))

whole_close : (a x : List ℕ) → (a ++ 42 ∷ 47 ∷ []) ++ x ≡ a ++ 42 ∷ 47 ∷ x
whole_close a x = append_assoc a (42 ∷ 47 ∷ []) x

closed_ends : (a b x y : List ℕ) → HasFirstClose a x → HasFirstClose b y → (a ++ 42 ∷ 47 ∷ []) ++ x
    ≡ (b ++ 42 ∷ 47 ∷ []) ++ y → length (a ++ 42 ∷ 47 ∷ []) ≡ length (b ++ 42 ∷ 47 ∷ [])
closed_ends a b x y f g e =
    let same : length a ≡ length b = close_ends a b x y f g (sym (whole_close a x) ∙ e ∙ whole_close b y) in
    length-append a (42 ∷ 47 ∷ []) ∙ ap (λ (i : ℕ). i + length {A = ℕ} (42 ∷ 47 ∷ [])) same
    ∙ sym (length-append b (42 ∷ 47 ∷ []))

-- no white space is a slash
no_slash : (b : ℕ) → is_space b ≡ true → b ≡ 47 → ⊥
no_slash b h e = let k : is_space 47 ≡ true = subst (λ (c : ℕ). is_space c ≡ true) e h in absurd cc

first_byte : (a b : ℕ) (x y : List ℕ) → a ∷ x ≡ b ∷ y → a ≡ b
first_byte a b x y e = cc

behind_first : (a b : ℕ) (x y : List ℕ) → a ∷ x ≡ b ∷ y → x ≡ y
behind_first a b x y e = cc

behind_two : (a b c d : ℕ) (x y : List ℕ) → a ∷ b ∷ x ≡ c ∷ d ∷ y → x ≡ y
behind_two a b c d x y e = behind_first b d x y (behind_first a c (b ∷ x) (d ∷ y) e)

second_byte : (a b c d : ℕ) (x y : List ℕ) → a ∷ b ∷ x ≡ c ∷ d ∷ y → b ≡ d
second_byte a b c d x y e = first_byte b d x y (behind_first a c (b ∷ x) (d ∷ y) e)

-- So what stands in front of a token ends at one place.
gap_ends : {a b x y : List ℕ} → IsGap a x → IsGap b y → a ++ x ≡ b ++ y → length a ≡ length b
gap_ends (white h) (white k) e = refl
gap_ends {x = x} {y = y} (white {b = b} h) (to_line_end {line = line} k l) e =
    absurd (no_slash b h (first_byte b 47 x ((47 ∷ line) ++ y) e))
gap_ends {x = x} {y = y} (white {b = b} h) (to_close inside f) e =
    absurd (no_slash b h (first_byte b 47 x ((42 ∷ inside ++ 42 ∷ 47 ∷ []) ++ y) e))
gap_ends {x = x} {y = y} (to_line_end {line = line} k l) (white {b = b} h) e =
    absurd (no_slash b h (sym (first_byte 47 b ((47 ∷ line) ++ x) y e)))
gap_ends {x = x} {y = y} (to_line_end {line = a} k l) (to_line_end {line = b} m n) e =
    ap (λ (i : ℕ). suc (suc i)) (line_ends a b x y k l m n (behind_two 47 47 47 47 (a ++ x) (b ++ y) e))
gap_ends {x = x} {y = y} (to_line_end {line = line} k l) (to_close inside f) e =
    let same : 47 ≡ 42 = second_byte 47 47 47 42 (line ++ x) ((inside ++ 42 ∷ 47 ∷ []) ++ y) e in
    absurd (omega (arith, same))
gap_ends {x = x} {y = y} (to_close inside f) (white {b = b} h) e =
    absurd (no_slash b h (sym (first_byte 47 b ((42 ∷ inside ++ 42 ∷ 47 ∷ []) ++ x) y e)))
gap_ends {x = x} {y = y} (to_close inside f) (to_line_end {line = line} k l) e =
    let same : 42 ≡ 47 = second_byte 47 42 47 47 ((inside ++ 42 ∷ 47 ∷ []) ++ x) (line ++ y) e in
    absurd (omega (arith, same))
gap_ends {x = x} {y = y} (to_close a f) (to_close b g) e =
    ap (λ (i : ℕ). suc (suc i))
    (closed_ends a b x y f g (behind_two 47 42 47 42 ((a ++ 42 ∷ 47 ∷ []) ++ x) ((b ++ 42 ∷ 47 ∷ []) ++ y) e))

gap_same : (bytes : List ℕ) (m n : ℕ) → m ≤ length bytes → n ≤ length bytes → IsGap (take m bytes) (drop m bytes)
    → IsGap (take n bytes) (drop n bytes) → m ≡ n
gap_same bytes m n h k g l =
    sym (length-take-le m bytes h) ∙ gap_ends g l (take-append-drop m bytes ∙ sym (take-append-drop n bytes))
    ∙ length-take-le n bytes k

-- where a gap stands there is one
gap_none : {a x : List ℕ} (bytes : List ℕ) → IsGap a x → a ++ x ≡ bytes → HasNoGap bytes → ⊥
gap_none bytes (white {b = b} {rest = x} h) e n = let off = n.no_space b x (sym e) in absurd cc
gap_none bytes (to_line_end k l) e n = n.no_line (subst (BeginsWith 47 47) e (refl, refl))
gap_none bytes (to_close inside f) e n = n.no_comment (subst (BeginsWith 47 42) e (refl, refl))

first_of_two : (a b c : ℕ) (bs : List ℕ) → BeginsWith a b (c ∷ bs) → c ≡ a
first_of_two a b c [] w = absurd w
first_of_two a b c (d ∷ bs) w = w.0

second_of_two : (a b c d : ℕ) (bs : List ℕ) → BeginsWith a b (c ∷ d ∷ bs) → d ≡ b
second_of_two a b c d bs w = w.1

closed_is_open : (a x : List ℕ) → HasNoClose ((a ++ 42 ∷ 47 ∷ []) ++ x) → ⊥
closed_is_open a x h =
    let open_ended : HasNoClose (a ++ 42 ∷ 47 ∷ x) = subst HasNoClose (whole_close a x) h in
    open_ended (length a) (omega (arith, length-append a (42 ∷ 47 ∷ x))) (close_begins a x)

-- and a comment that is open to the end is none
gap_open : {a x : List ℕ} (bytes : List ℕ) → IsGap a x → bytes ≡ a ++ x → BeginsWith 47 42 bytes
    → HasNoClose (drop 2 bytes) → ⊥
gap_open {x = x} bytes (white {b = b} h) e w n = no_slash b h (first_of_two 47 42 b x (subst (BeginsWith 47 42) e w))
gap_open {x = x} bytes (to_line_end {line = a} k l) e w n =
    let same : 47 ≡ 42 = second_of_two 47 42 47 47 (a ++ x) (subst (BeginsWith 47 42) e w) in omega (arith, same)
gap_open {x = x} bytes (to_close a f) e w n = closed_is_open a x (subst (λ (bs : List ℕ). HasNoClose (drop 2 bs)) e n)

-- the longest token is one
longest_le : (bytes : List ℕ) (m n : ℕ) (s r : Shape) → IsLongest bytes m s → IsLongest bytes n r → n ≤ m
longest_le bytes m n s r h k =
    elim (order n m) [ inl le ↦ le | inr lt ↦ let none = h.longer n lt k.inside in let some = k.is in absurd cc ]

longest_same : (bytes : List ℕ) (m n : ℕ) (s r : Shape) → IsLongest bytes m s → IsLongest bytes n r → m ≡ n
longest_same bytes m n s r h k = omega (arith, longest_le bytes m n s r h k, longest_le bytes n m r s k h)

shape_same : (bytes : List ℕ) (m n : ℕ) (s r : Shape) → IsLongest bytes m s → IsLongest bytes n r → s ≡ r
shape_same bytes m n s r h k =
    let first : shape_of_text (take n bytes) ≡ Some s =
    subst (λ (i : ℕ). shape_of_text (take i bytes) ≡ Some s) (longest_same bytes m n s r h k) h.is in
    let second = k.is in
    cc

kind_same : (bytes : List ℕ) (m n : ℕ) (s r : Shape) (k : Kind) → IsLongest bytes m s → IsLongest bytes n r
    → kind_of s (take m bytes) ≡ Some k → kind_of r (take n bytes) ≡ None → ⊥
kind_same bytes m n s r k h l some none =
    let same : kind_of s (take m bytes) ≡ kind_of r (take n bytes) =
    ap (λ (i : ℕ). kind_of s (take i bytes)) (longest_same bytes m n s r h l)
    ∙ ap (λ (x : Shape). kind_of x (take n bytes)) (shape_same bytes m n s r h l) in
    absurd cc

-- a fault after so many bytes
carried : (at m n : ℕ) (bytes : List ℕ) (fault : LexFault) → m ≡ n → IsFaulty (at + m) (drop m bytes) fault
    → IsFaulty (at + n) (drop n bytes) fault
carried at m n bytes fault e h = subst (λ (i : ℕ). IsFaulty (at + i) (drop i bytes) fault) e h

pub cut_faultless : {at : ℕ} {bytes : List ℕ} {cs : List Cut} → IsCut at bytes cs → (fault : LexFault)
    → IsFaulty at bytes fault → ⊥
cut_faultless at_end fault (behind_gap some le g more) = absurd (omega arith)
cut_faultless at_end fault (behind_token apart l k more) = absurd (omega (arith, l.some, l.inside))
cut_faultless at_end fault (bad_character some apart none) = absurd (omega arith)
cut_faultless at_end fault (bad_number apart l k) = absurd (omega (arith, l.some, l.inside))
cut_faultless at_end fault (unclosed w open_ended) = w
cut_faultless (over_gap {at = at} {n = n} {bytes = bytes} some le g cs) fault
    (behind_gap {n = m} more_than least h more) = cut_faultless cs fault
    (carried at m n bytes fault (gap_same bytes m n least le h g) more)
cut_faultless (over_gap {n = n} {bytes = bytes} some le g cs) fault (behind_token apart l k more) =
    gap_none bytes g (take-append-drop n bytes) apart
cut_faultless (over_gap {n = n} {bytes = bytes} some le g cs) fault (bad_character least apart none) =
    gap_none bytes g (take-append-drop n bytes) apart
cut_faultless (over_gap {n = n} {bytes = bytes} some le g cs) fault (bad_number apart l k) =
    gap_none bytes g (take-append-drop n bytes) apart
cut_faultless (over_gap {n = n} {bytes = bytes} some le g cs) fault (unclosed w open_ended) =
    gap_open bytes g (sym (take-append-drop n bytes)) w open_ended
cut_faultless (over_token {bytes = bytes} apart l k cs) fault (behind_gap {n = m} some le g more) =
    gap_none bytes g (take-append-drop m bytes) apart
cut_faultless (over_token {at = at} {n = n} {shape = s} {bytes = bytes} apart l k cs) fault
    (behind_token {n = m} {shape = r} also h j more) =
    cut_faultless cs fault (carried at m n bytes fault (longest_same bytes m n r s h l) more)
cut_faultless (over_token {n = n} apart l k cs) fault (bad_character some also none) =
    let off = none n l.inside in let on = l.is in absurd cc
cut_faultless (over_token {n = n} {shape = s} {kind = kind} {bytes = bytes} apart l k cs) fault
    (bad_number {n = m} {shape = r} also h j) = kind_same bytes n m s r kind l h k j
cut_faultless (over_token apart l k cs) fault (unclosed w open_ended) = apart.no_comment w

-- what one token is, and those after it
token_same : (at m n : ℕ) (bytes : List ℕ) (s r : Shape) (j k : Kind) (cs ds : List Cut) → IsLongest bytes m s
    → IsLongest bytes n r → kind_of s (take m bytes) ≡ Some j → kind_of r (take n bytes) ≡ Some k → cs ≡ ds
    → record { kind = j; at = at; text = take m bytes } ∷ cs ≡ record { kind = k; at = at; text = take n bytes } ∷ ds
token_same at m n bytes s r j k cs ds h l first second e =
    let len : m ≡ n = longest_same bytes m n s r h l in
    let text : take m bytes ≡ take n bytes = ap (λ (i : ℕ). take i bytes) len in
    let shape : s ≡ r = shape_same bytes m n s r h l in
    let kind : kind_of s (take m bytes) ≡ kind_of r (take n bytes) =
    ap (λ (i : ℕ). kind_of s (take i bytes)) len ∙ ap (λ (x : Shape). kind_of x (take n bytes)) shape in
    let same : j ≡ k = cc in
    cc

cut_carried : (at m n : ℕ) (bytes : List ℕ) (cs : List Cut) → m ≡ n → IsCut (at + m) (drop m bytes) cs
    → IsCut (at + n) (drop n bytes) cs
cut_carried at m n bytes cs e h = subst (λ (i : ℕ). IsCut (at + i) (drop i bytes) cs) e h

pub cut_same : {at : ℕ} {bytes : List ℕ} {cs ds : List Cut} → IsCut at bytes cs → IsCut at bytes ds → cs ≡ ds
cut_same at_end at_end = refl
cut_same at_end (over_gap some le g more) = absurd (omega arith)
cut_same at_end (over_token apart l k more) = absurd (omega (arith, l.some, l.inside))
cut_same (over_gap some le g cs) at_end = absurd (omega arith)
cut_same (over_gap {at = at} {n = n} {bytes = bytes} some le g cs)
    (over_gap {n = m} {tokens = ds} least inside h more) =
    cut_same cs (cut_carried at m n bytes ds (gap_same bytes m n inside le h g) more)
cut_same (over_gap {n = n} {bytes = bytes} some le g cs) (over_token apart l k more) =
    absurd (gap_none bytes g (take-append-drop n bytes) apart)
cut_same (over_token apart l k cs) at_end = absurd (omega (arith, l.some, l.inside))
cut_same (over_token {bytes = bytes} apart l k cs) (over_gap {n = m} some le g more) =
    absurd (gap_none bytes g (take-append-drop m bytes) apart)
cut_same (over_token {at = at} {n = n} {shape = s} {kind = j} {bytes = bytes} {tokens = cs} apart l k more)
    (over_token {n = m} {shape = r} {kind = i} {tokens = ds} also h e rest) =
    token_same at n m bytes s r j i cs ds l h k e
    (cut_same more (cut_carried at m n bytes ds (longest_same bytes m n r s h l) rest))

-- a token at a place where there is none
no_token : (bytes : List ℕ) (n : ℕ) (s : Shape) → IsLongest bytes n s → shape_of_text (take n bytes) ≡ None → ⊥
no_token bytes n s l off = let on = l.is in cc

pub fault_same : {at : ℕ} {bytes : List ℕ} {f g : LexFault} → IsFaulty at bytes f → IsFaulty at bytes g → f ≡ g
fault_same (behind_gap {at = at} {n = n} {bytes = bytes} some le g more)
    (behind_gap {n = m} {fault = fault} least inside h rest) = fault_same more
    (carried at m n bytes fault (gap_same bytes m n inside le h g) rest)
fault_same (behind_gap {n = n} {bytes = bytes} some le g more) (behind_token apart l k rest) =
    absurd (gap_none bytes g (take-append-drop n bytes) apart)
fault_same (behind_gap {n = n} {bytes = bytes} some le g more) (bad_character least apart none) =
    absurd (gap_none bytes g (take-append-drop n bytes) apart)
fault_same (behind_gap {n = n} {bytes = bytes} some le g more) (bad_number apart l k) =
    absurd (gap_none bytes g (take-append-drop n bytes) apart)
fault_same (behind_gap {n = n} {bytes = bytes} some le g more) (unclosed w open_ended) =
    absurd (gap_open bytes g (sym (take-append-drop n bytes)) w open_ended)
fault_same (behind_token {bytes = bytes} apart l k more) (behind_gap {n = m} some le g rest) =
    absurd (gap_none bytes g (take-append-drop m bytes) apart)
fault_same (behind_token {at = at} {n = n} {shape = s} {bytes = bytes} apart l k more)
    (behind_token {n = m} {shape = r} {fault = fault} also h e rest) = fault_same more
    (carried at m n bytes fault (longest_same bytes m n r s h l) rest)
fault_same (behind_token {n = n} {shape = s} {bytes = bytes} apart l k more) (bad_character some also none) =
    absurd (no_token bytes n s l (none n l.inside))
fault_same (behind_token {n = n} {shape = s} {kind = kind} {bytes = bytes} apart l k more)
    (bad_number {n = m} {shape = r} also h e) = absurd (kind_same bytes n m s r kind l h k e)
fault_same (behind_token apart l k more) (unclosed w open_ended) = absurd (apart.no_comment w)
fault_same (bad_character {bytes = bytes} some apart none) (behind_gap {n = m} least le g rest) =
    absurd (gap_none bytes g (take-append-drop m bytes) apart)
fault_same (bad_character {bytes = bytes} some apart none) (behind_token {n = n} {shape = s} also l k rest) =
    absurd (no_token bytes n s l (none n l.inside))
fault_same (bad_character some apart none) (bad_character least also nor) = refl
fault_same (bad_character {bytes = bytes} some apart none) (bad_number {n = n} {shape = s} also l k) =
    absurd (no_token bytes n s l (none n l.inside))
fault_same (bad_character some apart none) (unclosed w open_ended) = absurd (apart.no_comment w)
fault_same (bad_number {bytes = bytes} apart l k) (behind_gap {n = m} some le g rest) =
    absurd (gap_none bytes g (take-append-drop m bytes) apart)
fault_same (bad_number {n = n} {shape = s} {bytes = bytes} apart l k)
    (behind_token {n = m} {shape = r} {kind = kind} also h e rest) = absurd (kind_same bytes m n r s kind h l e k)
fault_same (bad_number {n = n} {shape = s} {bytes = bytes} apart l k) (bad_character some also none) =
    absurd (no_token bytes n s l (none n l.inside))
fault_same (bad_number apart l k) (bad_number also h e) = refl
fault_same (bad_number apart l k) (unclosed w open_ended) = absurd (apart.no_comment w)
fault_same (unclosed {bytes = bytes} w open_ended) (behind_gap {n = m} some le g rest) =
    absurd (gap_open bytes g (sym (take-append-drop m bytes)) w open_ended)
fault_same (unclosed w open_ended) (behind_token apart l k rest) = absurd (apart.no_comment w)
fault_same (unclosed w open_ended) (bad_character some apart none) = absurd (apart.no_comment w)
fault_same (unclosed w open_ended) (bad_number apart l k) = absurd (apart.no_comment w)
fault_same (unclosed w open_ended) (unclosed v also) = refl
