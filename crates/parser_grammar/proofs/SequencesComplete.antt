-- What a sequence or a property spells is read as it.
use Rattle.std.proofs.Common.{◌≡◌, ℕ, zero, suc, ◌<◌, ◌≤◌, List, [], ◌∷◌, length, Option, Some, None, refl, sym, ap}
use Rattle.std.proofs.Common.{◌∙◌, arith}
use Rattle.std.proofs.lemmas.Bool.{ne_eqb}
use Rattle.lexer.specs.declared.token.Token.{Token}
use Rattle.parser_grammar.specs.declared.bound.Bound.{Bound}
use Rattle.parser_grammar.specs.declared.bound.Range.{Range}
use Rattle.parser_grammar.specs.declared.operator.Junction.TheVariants as junctions
use Rattle.lexer.specs.declared.token.Kind.{Kind}
use Rattle.lexer.specs.declared.token.Kind.TheVariants as kinds
use Rattle.parser_grammar.specs.declared.terminal.Terminal.TheVariants.{Number, OpenRound, CloseRound, OpenSquare}
use Rattle.parser_grammar.specs.declared.terminal.Terminal.TheVariants.{OpenRepeat}
use Rattle.parser_grammar.specs.declared.terminal.Terminal.TheVariants.{CloseSquare, Colon, Delay, Throughout}
use Rattle.parser_grammar.specs.declared.terminal.Terminal.TheVariants.{Intersect, And}
use Rattle.parser_grammar.specs.declared.terminal.Terminal.TheVariants.{Or}
use Rattle.parser_grammar.specs.Terminals.{terminal, kind_terminal, is}
use Rattle.parser_grammar.specs.Bounds.{bound_of_kind, bound_within}
use Rattle.parser_grammar.specs.Marks.{mark, precedence, next_precedence, has_precedence}
use Rattle.parser_grammar.specs.Trees.{Tree, SequenceForm, boolean, repeated, late, delayed, throughout, joined, Steps}
use Rattle.parser_grammar.specs.Trees.{no_step, step, Others, no_other, other}
use Rattle.parser_grammar.specs.Expressions.{Spells}
use Rattle.parser_grammar.specs.Sequences.{bound, IsTimes, times, times_to, IsDelay, after, between, IsBody, is_boolean}
use Rattle.parser_grammar.specs.Sequences.{in_brackets, IsRepetition, is_once, is_repeated, IsHead, is_prompt, is_late}
use Rattle.parser_grammar.specs.Sequences.{AreSteps, no_steps, one_step, IsDelayed, is_head, is_delayed, IsDuring}
use Rattle.parser_grammar.specs.Sequences.{is_cat}
use Rattle.parser_grammar.specs.Sequences.{is_throughout, AreMeets, no_meet, one_meet, IsIntersection, is_meet}
use Rattle.parser_grammar.specs.Sequences.{is_intersection, AreConjuncts, no_conjunct, one_conjunct, IsConjunction}
use Rattle.parser_grammar.specs.Sequences.{is_during}
use Rattle.parser_grammar.specs.Sequences.{is_all, AreAlternatives, no_alternative, one_alternative, IsSequence}
use Rattle.parser_grammar.specs.Sequences.{is_conjunction, is_either}
use Rattle.parser_grammar.specs.Readers.{◌>>=◌, Reader, lead, expect, pick, optional, many, each}
use Rattle.parser_grammar.specs.ReadExpressions as expressions
use Rattle.parser_grammar.specs.ReadExpressions.{prefixed_with, readers, behind, climb, choice_with, expression, finish}
use Rattle.parser_grammar.specs.ReadSequences as reading
use Rattle.parser_grammar.specs.ReadSequences.{Inner, delay, regroup, body_with, repeat_behind, repetition_with}
use Rattle.parser_grammar.specs.ReadSequences.{late_part}
use Rattle.parser_grammar.specs.ReadSequences.{steps_of, delayed_behind, cat_behind, during_behind, during_with}
use Rattle.parser_grammar.specs.ReadSequences.{others_of}
use Rattle.parser_grammar.specs.ReadSequences.{intersection_behind, intersection_with}
use Rattle.parser_grammar.specs.ReadSequences.{conjunction_behind, conjunction_with, alternatives_behind, sides_behind}
use Rattle.parser_grammar.specs.ReadSequences.{whole_with, sequences, sequence_behind, whole}
use Rattle.parser_grammar.proofs.TerminalLaws.{true-is}
use Rattle.parser_grammar.proofs.ReaderLaws.{bind-then, bind-assoc, lead-false, lead-nil, expect-some, expect-is}
use Rattle.parser_grammar.proofs.ReaderLaws.{expect-not}
use Rattle.parser_grammar.proofs.ReaderLaws.{expect-precedence, pick-is, optional-none, optional-is, many-none}
use Rattle.parser_grammar.proofs.ReaderLaws.{many-more}
use Rattle.parser_grammar.proofs.ReaderLaws.{each-none, precedence-Throughout, precedence-OpenRepeat, precedence-Delay}
use Rattle.parser_grammar.proofs.ReaderLaws.{precedence-Intersect, precedence-And, precedence-Or, precedence-CloseRound}
use Rattle.parser_grammar.proofs.Complete.{spells-read, spells-shorter, links-none}
use Rattle.parser_grammar.proofs.Sound.{is_sound, opening-mark}

abbrev pub body : ℕ → Reader SequenceForm
body d = body_with d (sequences d)

abbrev pub repetition : ℕ → Reader SequenceForm
repetition d = repetition_with d (sequences d)

abbrev pub during : ℕ → Reader SequenceForm
during d = during_with d (sequences d)

abbrev pub intersection : ℕ → Reader SequenceForm
intersection d = intersection_with d (sequences d)

abbrev pub conjunction : ℕ → Reader SequenceForm
conjunction d = conjunction_with d (sequences d)

abbrev pub seq : ℕ → Reader SequenceForm
seq d = whole_with d (sequences d)

-- where nothing follows that goes on
no_throughout : (ts : List Token) → (next_precedence ts ≡ 11 → ⊥) → expect Throughout ts ≡ None
no_throughout ts h = expect-precedence Throughout 11 precedence-Throughout ts h

repeat-none : (inner : Inner) (s : SequenceForm) (ts : List Token) → (next_precedence ts ≡ 12 → ⊥)
    → repeat_behind inner s ts ≡ Some (s, ts)
unfolding repeat_behind
repeat-none inner s ts h =
    rw (optional-none OpenRepeat inner.times ts (expect-precedence OpenRepeat 12 precedence-OpenRepeat ts h)) refl

delayed-none : (d : ℕ) (inner : Inner) (s : SequenceForm) (ts : List Token) → (next_precedence ts ≡ 13 → ⊥)
    → delayed_behind d inner s ts ≡ Some (s, ts)
unfolding delayed_behind expect
delayed-none d inner s ts h =
    rw (each-none (is Delay) (λ t. late_part d inner) ts (expect-precedence Delay 13 precedence-Delay ts h)) refl

cat-none : (d : ℕ) (inner : Inner) (s : SequenceForm) (ts : List Token) → 13 < next_precedence ts
    → cat_behind d inner s ts ≡ Some (s, ts)
unfolding cat_behind
cat-none d inner s ts h = rw (repeat-none inner s ts (λ e. omega arith)) (delayed-none d inner s ts (λ e. omega arith))

during-cat : (d : ℕ) (inner : Inner) (s : SequenceForm) (ts : List Token) → expect Throughout ts ≡ None
    → during_behind d inner s ts ≡ cat_behind d inner s ts
unfolding during_behind
during-cat d inner (boolean e) ts h = rw h refl
during-cat d inner (repeated s n) ts h = refl
during-cat d inner (late t n s) ts h = refl
during-cat d inner (delayed s more) ts h = refl
during-cat d inner (throughout e s) ts h = refl
during-cat d inner (joined j s more) ts h = refl

during-none : (d : ℕ) (inner : Inner) (s : SequenceForm) (ts : List Token) → 13 < next_precedence ts
    → during_behind d inner s ts ≡ Some (s, ts)
during-none d inner s ts h = during-cat d inner s ts (no_throughout ts (λ e. omega arith)) ∙ cat-none d inner s ts h

intersection-none : (d : ℕ) (inner : Inner) (s : SequenceForm) (ts : List Token) → (next_precedence ts ≡ 14 → ⊥)
    → intersection_behind d inner s ts ≡ Some (s, ts)
unfolding intersection_behind expect
intersection-none d inner s ts h =
    rw (each-none (is Intersect) (λ t. during_with d inner) ts
    (expect-precedence Intersect 14 precedence-Intersect ts h)) refl

conjunction-none : (d : ℕ) (inner : Inner) (s : SequenceForm) (ts : List Token) → (next_precedence ts ≡ 15 → ⊥)
    → conjunction_behind d inner s ts ≡ Some (s, ts)
unfolding conjunction_behind expect
conjunction-none d inner s ts h =
    rw (each-none (is And) (λ t. intersection_with d inner) ts (expect-precedence And 15 precedence-And ts h)) refl

alternatives-none : (d : ℕ) (inner : Inner) (s : SequenceForm) (ts : List Token) → (next_precedence ts ≡ 16 → ⊥)
    → alternatives_behind d inner s ts ≡ Some (s, ts)
unfolding alternatives_behind expect
alternatives-none d inner s ts h =
    rw (each-none (is Or) (λ t. conjunction_with d inner) ts (expect-precedence Or 16 precedence-Or ts h)) refl

sides-none : (d : ℕ) (inner : Inner) (s : SequenceForm) (ts : List Token) → 16 < next_precedence ts
    → sides_behind d inner s ts ≡ Some (s, ts)
unfolding sides_behind
sides-none d inner s ts h =
    rw (intersection-none d inner s ts (λ e. omega arith), conjunction-none d inner s ts (λ e. omega arith))
    (alternatives-none d inner s ts (λ e. omega arith))

pub sequence-none : (d : ℕ) (s : SequenceForm) (ts : List Token) → 16 < next_precedence ts → sequence_behind d s ts
    ≡ Some (s, ts)
unfolding sequence_behind
sequence-none d s ts h = rw (during-none d (sequences d) s ts (omega arith)) (sides-none d (sequences d) s ts h)

-- nothing goes on after an expression
climb-none : (b : Reader Tree) (l : ℕ) (e : Tree) (ts : List Token) → l < next_precedence ts
    → climb b l e ts ≡ Some (e, ts)
unfolding climb
climb-none b zero e ts h = refl
climb-none b (suc l) e ts h = rw (climb-none b l e ts (omega arith), links-none (behind b (climb b l)) l ts h) refl

finish-none : (d : ℕ) (e : Tree) (ts : List Token) → 10 < next_precedence ts → finish d e ts ≡ Some (e, ts)
unfolding finish choice_with has_precedence
finish-none d e ts h =
    rw (climb-none (prefixed_with (readers d)) 9 e ts (omega arith), no_choice ts (λ k. omega arith)) refl
  where
    no_choice : (us : List Token) → (next_precedence us ≡ 10 → ⊥) → lead (has_precedence 10) us ≡ None
    no_choice [] k = lead-nil (has_precedence 10)
    no_choice (u ∷ us) k = lead-false (has_precedence 10) u us (ne_eqb (precedence u) 10 k)

pub regroup-none : (d : ℕ) (s : SequenceForm) (ts : List Token) → 10 < next_precedence ts
    → regroup d s ts ≡ Some (s, ts)
unfolding regroup
regroup-none d (boolean e) ts h = rw (finish-none d e ts h) refl
regroup-none d (repeated s n) ts h = refl
regroup-none d (late t n s) ts h = refl
regroup-none d (delayed s more) ts h = refl
regroup-none d (throughout e s) ts h = refl
regroup-none d (joined j s more) ts h = refl

-- an expression in front is read as the same by both
pub expression-opening : (d : ℕ) (t : Token) (ts : List Token) → terminal t ≡ OpenRound → expression d (t ∷ ts)
    ≡ (expressions.bracket_reader (readers d) ts >>= λ p. finish d p.0 p.1)
unfolding expression prefixed_with finish
expression-opening d t ts o = rw (opening-mark t o) refl

expression-delay : (d : ℕ) (t : Token) (ts : List Token) → terminal t ≡ Delay → expression d (t ∷ ts) ≡ None
unfolding expression prefixed_with mark
expression-delay d t ts o = rw o refl

body-plain : (d : ℕ) (ts : List Token) (e : Tree) (rest : List Token) → expect OpenRound ts ≡ None
    → expression d ts ≡ Some (e, rest) → body d ts ≡ Some (boolean e, rest)
unfolding body_with
body-plain d ts e rest h k = rw (h, k) refl

body-brackets : (d : ℕ) (t c : Token) (ts vs : List Token) (s : SequenceForm) → terminal t ≡ OpenRound
    → terminal c ≡ CloseRound → (sequences d).whole ts ≡ Some (s, c ∷ vs) → body d (t ∷ ts) ≡ regroup d s vs
unfolding body_with
body-brackets d t c ts vs s o k h = rw (expect-is OpenRound t ts o, h, expect-is CloseRound c vs k) refl

-- a body begins with no delay
body-delay : (d : ℕ) (t : Token) (ts : List Token) → terminal t ≡ Delay → body d (t ∷ ts) ≡ None
unfolding body_with
body-delay d t ts o = rw (expect-not OpenRound t ts (λ e. absurd cc), expression-delay d t ts o) refl

pub starts : (d : ℕ) (ts : List Token) (p : SequenceForm × List Token) → body d ts ≡ Some p → expect Delay ts ≡ None
starts d ts p h = by_lead (expect Delay ts) refl
  where
    by_lead : (o : Option (Token × List Token)) → expect Delay ts ≡ o → expect Delay ts ≡ None
    by_lead None e = e
    by_lead (Some q) e =
        let x = expect-some Delay ts q e in
        let none : body d ts ≡ None = ap (body d) x.parts ∙ body-delay d q.0 q.1 x.marked in
        absurd cc

during-body : (d : ℕ) (ts : List Token) (s : SequenceForm) (us : List Token) → body d ts ≡ Some (s, us)
    → during d ts ≡ during_behind d (sequences d) s us
unfolding during_with
during-body d ts s us h = rw (starts d ts (s, us) h, h) refl

seq-none : (d : ℕ) (s : SequenceForm) (ts rest : List Token) → during d ts ≡ Some (s, rest) → 16 < next_precedence rest
    → seq d ts ≡ Some (s, rest)
unfolding whole_with
seq-none d s ts rest a h = rw a (sides-none d (sequences d) s rest h)

-- What is proved of expressions that are read as sequences, at a depth.
abbrev ReadsBodies : ℕ → Type 0
ReadsBodies d =
    (e : Tree) (ts rest : List Token) → Spells d e ts rest → 10 < next_precedence rest
    → body d ts ≡ Some (boolean e, rest)

seq-boolean : (d : ℕ) → ReadsBodies d → (e : Tree) (ts rest : List Token) → Spells d e ts rest
    → 16 < next_precedence rest → seq d ts ≡ Some (boolean e, rest)
seq-boolean d reads e ts rest s le =
    seq-none d (boolean e) ts rest (during-body d ts (boolean e) rest (reads e ts rest s (omega arith))
    ∙ during-none d (sequences d) (boolean e) rest (omega arith)) le

record Opened (d : ℕ) (e : Tree) (ts rest : List Token) : Type 0 where
  inside : Tree
  right : Token
  after : List Token
  marked : terminal right ≡ CloseRound
  read : (readers d).expr ts ≡ Some (inside, right ∷ after)
  goes_on : finish d inside after ≡ Some (e, rest)

opened : (d : ℕ) (t : Token) (ts : List Token) (e : Tree) (rest : List Token) → terminal t ≡ OpenRound
    → expression d (t ∷ ts) ≡ Some (e, rest) → Opened d e ts rest
unfolding expressions.bracket_reader
opened d t ts e rest m h =
    bind-then (expressions.bracket_reader (readers d) ts) (λ (p : Tree × List Token). finish d p.0 p.1) (e, rest)
    (sym (expression-opening d t ts m) ∙ h)
    (λ x x_is x_rest.
    bind-then ((readers d).expr ts) (λ (p : Tree × List Token). expect CloseRound p.1 >>= λ r. Some (p.0, r.1)) x x_is
    (λ a a_is a_rest.
    bind-then (expect CloseRound a.1) (λ (r : Token × List Token). Some (a.0, r.1)) x a_rest
    (λ b b_is b_rest.
    let k = expect-some CloseRound a.1 b b_is in
    let same : (a.0, b.1) ≡ x = cc (b_rest) in
    record {
      inside = a.0;
      right = b.0;
      after = b.1;
      marked = k.marked;
      read = a_is ∙ ap (λ (us : List Token). Some (a.0, us)) k.parts;
      goes_on = ap (λ (p : Tree × List Token). finish d p.0 p.1) same ∙ x_rest;
    })))

expression-read : {d : ℕ} {e : Tree} {ts rest : List Token} → Spells d e ts rest → 10 < next_precedence rest
    → expression d ts ≡ Some (e, rest)
unfolding expression
expression-read s le = spells-read s le

inner-zero : (ts : List Token) (p : Tree × List Token) → (readers zero).expr ts ≡ Some p → ⊥
unfolding readers
inner-zero ts p h = cc

inner-whole : (d : ℕ) (ts : List Token) → (sequences (suc d)).whole ts ≡ seq d ts
unfolding sequences
inner-whole d ts = refl

abbrev OpensBodies : ℕ → Type 0
OpensBodies d =
    (t : Token) (us : List Token) (e : Tree) (rest : List Token) → terminal t ≡ OpenRound → expression d (t ∷ us)
    ≡ Some (e, rest) → body d (t ∷ us) ≡ Some (boolean e, rest)

body-boolean_by : (d : ℕ) (ts : List Token) (e : Tree) (rest : List Token) → OpensBodies d
    → expression d ts ≡ Some (e, rest) → (o : Option (Token × List Token)) → expect OpenRound ts ≡ o
    → body d ts ≡ Some (boolean e, rest)
body-boolean_by d ts e rest opens h None k = body-plain d ts e rest k h
body-boolean_by d ts e rest opens h (Some q) k =
    let x = expect-some OpenRound ts q k in
    ap (body d) x.parts ∙ opens q.0 q.1 e rest x.marked (ap (expression d) (sym x.parts) ∙ h)

opens-zero : OpensBodies zero
opens-zero t us e rest m h =
    let o = opened zero t us e rest m h in absurd (inner-zero us (o.inside, o.right ∷ o.after) o.read)

opens-suc : (d : ℕ) → ReadsBodies d → OpensBodies (suc d)
unfolding regroup
opens-suc d reads t us e rest m h =
    let o = opened (suc d) t us e rest m h in
    let inner =
    seq-boolean d reads o.inside us (o.right ∷ o.after)
    ((is_sound (suc d)).0 us (o.inside, o.right ∷ o.after) o.read)
    (omega (arith, precedence-CloseRound o.right o.marked)) in
    body-brackets (suc d) t o.right us o.after (boolean o.inside) m o.marked (inner-whole d us ∙ inner)
    ∙ ap (λ (r : Option (Tree × List Token)). r >>= λ p. Some (boolean p.0, p.1)) o.goes_on

-- The brackets round an expression are those of a sequence that is that expression.
pub body-boolean : (d : ℕ) → ReadsBodies d
body-boolean zero e ts rest s le =
    body-boolean_by zero ts e rest opens-zero (expression-read s le) (expect OpenRound ts) refl
body-boolean (suc d) e ts rest s le =
    body-boolean_by (suc d) ts e rest (opens-suc d (body-boolean d)) (expression-read s le) (expect OpenRound ts) refl

-- counts
times-read : (d : ℕ) {n : Range} {ts rest : List Token} → IsTimes n ts rest
    → optional OpenRepeat (sequences (suc d)).times ts ≡ Some (Some n, rest)
unfolding sequences reading.times
times-read d (times {left = left} {n = n} {right = right} {low = low} {rest = rest} o h c) =
    optional-is OpenRepeat reading.times left (n ∷ right ∷ rest) _ rest o
    (rw (
      pick-is bound low n (right ∷ rest) h,
      optional-none Colon (pick (bound_within low.value 127)) (right ∷ rest)
          (expect-not Colon right rest (λ e. absurd cc)),
      expect-is CloseSquare right rest c,
    ) refl)
times-read d (times_to {left = left} {n = n} {colon = colon} {m = m} {right = right} {low = low} {high = high}
    {rest = rest} o h k l c) =
    optional-is OpenRepeat reading.times left (n ∷ colon ∷ m ∷ right ∷ rest) _ rest o
    (rw (
      pick-is bound low n (colon ∷ m ∷ right ∷ rest) h,
      optional-is Colon (pick (bound_within low.value 127)) colon (m ∷ right ∷ rest) high (right ∷ rest) k
          (pick-is (bound_within low.value 127) high m (right ∷ rest) l),
      expect-is CloseSquare right rest c,
    ) refl)

times-next : {n : Range} {ts rest : List Token} → IsTimes n ts rest → next_precedence ts ≡ 12
times-next (times {left = left} o h c) = precedence-OpenRepeat left o
times-next (times_to {left = left} o h k l c) = precedence-OpenRepeat left o

times-shorter : {n : Range} {ts rest : List Token} → IsTimes n ts rest → length rest ≤ length ts
times-shorter (times o h c) = omega arith
times-shorter (times_to o h k l c) = omega arith

bound-number_kind : (least most at : ℕ) (k : Kind) (text : List ℕ) (b : Bound) → bound_of_kind least most at k ≡ Some b
    → kind_terminal k text ≡ Number
bound-number_kind least most at (kinds.Number n) text b h = refl
bound-number_kind least most at _ text b h = absurd cc

pub bound-number : (least most : ℕ) (t : Token) (b : Bound) → bound_within least most t ≡ Some b → terminal t ≡ Number
unfolding bound_within
bound-number least most t b h = bound-number_kind least most t.at t.kind t.text.now b h

after-read : (d : ℕ) (n : Token) (low : Bound) (rest : List Token) → bound n ≡ Some low → delay (sequences d) (n ∷ rest)
    ≡ Some (record { low = low; high = None }, rest)
unfolding delay
after-read d n low rest h =
    let num = bound-number 0 127 n low h in
    rw (expect-not OpenSquare n rest (λ e. absurd cc), pick-is bound low n rest h) refl

between-read : (d : ℕ) (left n colon m right : Token) (low high : Bound) (rest : List Token)
    → terminal left ≡ OpenSquare → bound n ≡ Some low → terminal colon ≡ Colon → bound_within low.value 127 m
    ≡ Some high → terminal right ≡ CloseSquare
    → delay (sequences (suc d)) (left ∷ n ∷ colon ∷ m ∷ right ∷ rest)
    ≡ Some (record { low = low; high = Some high }, rest)
unfolding delay sequences reading.range_between
between-read d left n colon m right low high rest o h k l c =
    rw (
      expect-is OpenSquare left (n ∷ colon ∷ m ∷ right ∷ rest) o,
      pick-is bound low n (colon ∷ m ∷ right ∷ rest) h,
      expect-is Colon colon (m ∷ right ∷ rest) k,
      pick-is (bound_within low.value 127) high m (right ∷ rest) l,
      expect-is CloseSquare right rest c,
    ) refl

late-read : (d : ℕ) (ts us rest : List Token) (n : Range) (s : SequenceForm) → delay (sequences d) ts ≡ Some (n, us)
    → repetition d us ≡ Some (s, rest) → late_part d (sequences d) ts ≡ Some ((n, s), rest)
unfolding late_part
late-read d ts us rest n s h k = rw (h, k) refl

delay-shorter : {d : ℕ} {n : Range} {ts rest : List Token} → IsDelay d n ts rest → length rest < length ts
delay-shorter (after t h) = omega arith
delay-shorter (between t o h k l c) = omega arith

delay-next : {d : ℕ} {n : Range} {ts rest : List Token} → IsDelay d n ts rest → next_precedence ts ≡ 13
delay-next (after {t = t} k h) = precedence-Delay t k
delay-next (between {t = t} k o h l m c) = precedence-Delay t k

-- ghost lists as lists
pub list_of_steps : Steps → List (Range × SequenceForm)
list_of_steps no_step = []
list_of_steps (step n s more) = (n, s) ∷ list_of_steps more

steps_of-list : (more : Steps) → steps_of (list_of_steps more) ≡ more
unfolding list_of_steps
steps_of-list no_step = refl
steps_of-list (step n s more) = ap (step n s) (steps_of-list more)

pub list_of_others : Others → List SequenceForm
list_of_others no_other = []
list_of_others (other s more) = s ∷ list_of_others more

others_of-list : (more : Others) → others_of (list_of_others more) ≡ more
unfolding list_of_others
others_of-list no_other = refl
others_of-list (other s more) = ap (other s) (others_of-list more)

delayed-some : (d : ℕ) (s v : SequenceForm) (n : Range) (more : Steps) (us rest : List Token)
    → each (is Delay) (λ t. late_part d (sequences d)) us ≡ Some (list_of_steps (step n v more), rest)
    → delayed_behind d (sequences d) s us ≡ Some (delayed s (step n v more), rest)
unfolding delayed_behind list_of_steps
delayed-some d s v n more us rest h =
    rw h (ap (λ (l : Steps). Some (delayed s (step n v l), rest)) (steps_of-list more))

intersection-some : (d : ℕ) (s v : SequenceForm) (more : Others) (us rest : List Token)
    → each (is Intersect) (λ t. during d) us ≡ Some (list_of_others (other v more), rest)
    → intersection_behind d (sequences d) s us ≡ Some (joined junctions.Intersect s (other v more), rest)
unfolding intersection_behind list_of_others
intersection-some d s v more us rest h =
    rw h (ap (λ (l : Others). Some (joined junctions.Intersect s (other v l), rest)) (others_of-list more))

conjunction-some : (d : ℕ) (s v : SequenceForm) (more : Others) (us rest : List Token)
    → each (is And) (λ t. intersection d) us ≡ Some (list_of_others (other v more), rest)
    → conjunction_behind d (sequences d) s us ≡ Some (joined junctions.And s (other v more), rest)
unfolding conjunction_behind list_of_others
conjunction-some d s v more us rest h =
    rw h (ap (λ (l : Others). Some (joined junctions.And s (other v l), rest)) (others_of-list more))

alternatives-some : (d : ℕ) (s v : SequenceForm) (more : Others) (us rest : List Token)
    → each (is Or) (λ t. conjunction d) us ≡ Some (list_of_others (other v more), rest)
    → alternatives_behind d (sequences d) s us ≡ Some (joined junctions.Or s (other v more), rest)
unfolding alternatives_behind list_of_others
alternatives-some d s v more us rest h =
    rw h (ap (λ (l : Others). Some (joined junctions.Or s (other v l), rest)) (others_of-list more))

repeats-read : (d : ℕ) (s : SequenceForm) (n : Range) (us rest : List Token)
    → optional OpenRepeat (sequences (suc d)).times us ≡ Some (Some n, rest) → repeat_behind (sequences (suc d)) s us
    ≡ Some (repeated s n, rest)
unfolding repeat_behind
repeats-read d s n us rest h = rw h refl

-- lengths
mutual
  body-shorter : {d : ℕ} {s : SequenceForm} {ts rest : List Token} → IsBody d s ts rest → length rest < length ts
  body-shorter (is_boolean s) = spells-shorter s
  body-shorter (in_brackets o c g w) = omega (arith, sequence-shorter w)

  repetition-shorter : {d : ℕ} {s : SequenceForm} {ts rest : List Token} → IsRepetition d s ts rest
      → length rest < length ts
  repetition-shorter (is_once b) = body-shorter b
  repetition-shorter (is_repeated b t) = omega (arith, body-shorter b, times-shorter t)

  head-shorter : {d : ℕ} {s : SequenceForm} {ts rest : List Token} → IsHead d s ts rest → length rest < length ts
  head-shorter (is_prompt r) = repetition-shorter r
  head-shorter (is_late l r) = omega (arith, delay-shorter l, repetition-shorter r)

  steps-shorter : {d : ℕ} {more : Steps} {ts rest : List Token} → AreSteps d more ts rest → length rest ≤ length ts
  steps-shorter no_steps = omega arith
  steps-shorter (one_step l r f) = omega (arith, delay-shorter l, repetition-shorter r, steps-shorter f)

  delayed-shorter : {d : ℕ} {s : SequenceForm} {ts rest : List Token} → IsDelayed d s ts rest → length rest < length ts
  delayed-shorter (is_head h) = head-shorter h
  delayed-shorter (is_delayed h f) = omega (arith, head-shorter h, steps-shorter f)

  during-shorter : {d : ℕ} {s : SequenceForm} {ts rest : List Token} → IsDuring d s ts rest → length rest < length ts
  during-shorter (is_cat c) = delayed-shorter c
  during-shorter (is_throughout k e w) = omega (arith, spells-shorter e, during-shorter w)

  meets-shorter : {d : ℕ} {more : Others} {ts rest : List Token} → AreMeets d more ts rest
      → length rest ≤ length ts
  meets-shorter no_meet = omega arith
  meets-shorter (one_meet k w f) = omega (arith, during-shorter w, meets-shorter f)

  intersection-shorter : {d : ℕ} {s : SequenceForm} {ts rest : List Token} → IsIntersection d s ts rest
      → length rest < length ts
  intersection-shorter (is_during w) = during-shorter w
  intersection-shorter (is_meet w f) = omega (arith, during-shorter w, meets-shorter f)

  conjuncts-shorter : {d : ℕ} {more : Others} {ts rest : List Token} → AreConjuncts d more ts rest
      → length rest ≤ length ts
  conjuncts-shorter no_conjunct = omega arith
  conjuncts-shorter (one_conjunct k w f) = omega (arith, intersection-shorter w, conjuncts-shorter f)

  conjunction-shorter : {d : ℕ} {s : SequenceForm} {ts rest : List Token} → IsConjunction d s ts rest
      → length rest < length ts
  conjunction-shorter (is_intersection w) = intersection-shorter w
  conjunction-shorter (is_all w f) = omega (arith, intersection-shorter w, conjuncts-shorter f)

  alternatives-shorter : {d : ℕ} {more : Others} {ts rest : List Token} → AreAlternatives d more ts rest
      → length rest ≤ length ts
  alternatives-shorter no_alternative = omega arith
  alternatives-shorter (one_alternative k w f) = omega (arith, conjunction-shorter w, alternatives-shorter f)

  pub sequence-shorter : {d : ℕ} {s : SequenceForm} {ts rest : List Token} → IsSequence d s ts rest
      → length rest < length ts
  sequence-shorter (is_conjunction w) = conjunction-shorter w
  sequence-shorter (is_either w f) = omega (arith, conjunction-shorter w, alternatives-shorter f)

steps-loose : {d : ℕ} {n : Range} {s : SequenceForm} {more : Steps} {ts rest : List Token}
    → AreSteps d (step n s more) ts rest → next_precedence ts ≡ 13
steps-loose (one_step l r f) = delay-next l

meets-loose : {d : ℕ} {s : SequenceForm} {more : Others} {ts rest : List Token}
    → AreMeets d (other s more) ts rest → next_precedence ts ≡ 14
meets-loose (one_meet {t = t} k w f) = precedence-Intersect t k

conjuncts-loose : {d : ℕ} {s : SequenceForm} {more : Others} {ts rest : List Token}
    → AreConjuncts d (other s more) ts rest → next_precedence ts ≡ 15
conjuncts-loose (one_conjunct {t = t} k w f) = precedence-And t k

alternatives-loose : {d : ℕ} {s : SequenceForm} {more : Others} {ts rest : List Token}
    → AreAlternatives d (other s more) ts rest → next_precedence ts ≡ 16
alternatives-loose (one_alternative {t = t} k w f) = precedence-Or t k

steps-next : {d : ℕ} {more : Steps} {ts rest : List Token} → AreSteps d more ts rest → 13 < next_precedence rest
    → 12 < next_precedence ts
steps-next no_steps le = omega arith
steps-next (one_step l r f) le = omega (arith, delay-next l)

meets-next : {d : ℕ} {more : Others} {ts rest : List Token} → AreMeets d more ts rest
    → 14 < next_precedence rest → 13 < next_precedence ts
meets-next no_meet le = omega arith
meets-next (one_meet {t = t} k w f) le = omega (arith, precedence-Intersect t k)

conjuncts-next : {d : ℕ} {more : Others} {ts rest : List Token} → AreConjuncts d more ts rest
    → 15 < next_precedence rest → 14 < next_precedence ts
conjuncts-next no_conjunct le = omega arith
conjuncts-next (one_conjunct {t = t} k w f) le = omega (arith, precedence-And t k)

alternatives-next : {d : ℕ} {more : Others} {ts rest : List Token} → AreAlternatives d more ts rest
    → 16 < next_precedence rest → 15 < next_precedence ts
alternatives-next no_alternative le = omega arith
alternatives-next (one_alternative {t = t} k w f) le = omega (arith, precedence-Or t k)

-- a body, and its repetition
pub record Prompt (d : ℕ) (s : SequenceForm) (ts us : List Token) : Type 0 where
  first : SequenceForm
  middle : List Token
  read : body d ts ≡ Some (first, middle)
  no_word : expect Throughout middle ≡ None
  repeats : repeat_behind (sequences d) first middle ≡ Some (s, us)

repetition-prompt : (d : ℕ) (s : SequenceForm) (ts us : List Token) → Prompt d s ts us → repetition d ts ≡ Some (s, us)
unfolding repetition_with
repetition-prompt d s ts us p = rw p.read p.repeats

during-prompt : (d : ℕ) (s v : SequenceForm) (ts us rest : List Token) → Prompt d s ts us
    → delayed_behind d (sequences d) s us ≡ Some (v, rest) → during d ts ≡ Some (v, rest)
unfolding cat_behind
during-prompt d s v ts us rest p h =
    during-body d ts p.first p.middle p.read ∙ during-cat d (sequences d) p.first p.middle p.no_word
    ∙ ap (λ (o : Option (SequenceForm × List Token)). o >>= λ q. delayed_behind d (sequences d) q.0 q.1) p.repeats
    ∙ h

during-late : (d : ℕ) (t : Token) (n : Range) (s v : SequenceForm) (ts us rest : List Token) → terminal t ≡ Delay
    → late_part d (sequences d) ts ≡ Some ((n, s), us) → delayed_behind d (sequences d) (late t n s) us
    ≡ Some (v, rest) → during d (t ∷ ts) ≡ Some (v, rest)
unfolding during_with
during-late d t n s v ts us rest o h k = rw (expect-is Delay t ts o, h) k

during-throughout : (d : ℕ) (t : Token) (e : Tree) (s : SequenceForm) (ts us rest : List Token)
    → terminal t ≡ Throughout → body (suc d) ts ≡ Some (boolean e, t ∷ us) → during d us ≡ Some (s, rest)
    → during (suc d) ts ≡ Some (throughout e s, rest)
unfolding during_behind sequences
during-throughout d t e s ts us rest o h k =
    during-body (suc d) ts (boolean e) (t ∷ us) h ∙ rw (expect-is Throughout t us o, k) refl

intersection-on : (d : ℕ) (s v : SequenceForm) (ts us rest : List Token) → during d ts ≡ Some (s, us)
    → intersection_behind d (sequences d) s us ≡ Some (v, rest) → intersection d ts ≡ Some (v, rest)
unfolding intersection_with
intersection-on d s v ts us rest h k = rw h k

conjunction-on : (d : ℕ) (s v : SequenceForm) (ts us rest : List Token) → intersection d ts ≡ Some (s, us)
    → conjunction_behind d (sequences d) s us ≡ Some (v, rest) → conjunction d ts ≡ Some (v, rest)
unfolding conjunction_with
conjunction-on d s v ts us rest h k = rw h k

seq-is : (d : ℕ) (ts : List Token) → seq d ts ≡ (conjunction d ts >>= λ p. alternatives_behind d (sequences d) p.0 p.1)
unfolding whole_with sides_behind conjunction_with intersection_with
seq-is d ts =
    sym (bind-assoc (intersection d ts) (λ (p : SequenceForm × List Token). conjunction_behind d (sequences d) p.0 p.1)
    (λ (p : SequenceForm × List Token). alternatives_behind d (sequences d) p.0 p.1)
    ∙ bind-assoc (during d ts) (λ (p : SequenceForm × List Token). intersection_behind d (sequences d) p.0 p.1)
    (λ (p : SequenceForm × List Token). conjunction_behind d (sequences d) p.0 p.1
    >>= λ q. alternatives_behind d (sequences d) q.0 q.1))

seq-on : (d : ℕ) (s v : SequenceForm) (ts us rest : List Token) → conjunction d ts ≡ Some (s, us)
    → alternatives_behind d (sequences d) s us ≡ Some (v, rest) → seq d ts ≡ Some (v, rest)
seq-on d s v ts us rest h k = seq-is d ts ∙ rw h k

mutual
  unfolding expect each list_of_steps list_of_others

  pub body-read : {d : ℕ} {s : SequenceForm} {ts rest : List Token} → IsBody d s ts rest → 10 < next_precedence rest
      → body d ts ≡ Some (s, rest)
  body-read (is_boolean {d = d} {e = e} {ts = ts} {rest = rest} s) le = body-boolean d e ts rest s le
  body-read (in_brackets {d = d} {left = left} {right = right} {s = s} {ts = ts} {rest = rest} o c g w) le =
      body-brackets (suc d) left right ts rest s o c
      (inner-whole d ts ∙ sequence-read w (omega (arith, precedence-CloseRound right c)))
      ∙ regroup-none (suc d) s rest le

  prompt-read : {d : ℕ} {s : SequenceForm} {ts rest : List Token} → IsRepetition d s ts rest → 12 < next_precedence rest
      → Prompt d s ts rest
  prompt-read (is_once {d = d} {s = s} {ts = ts} {rest = rest} b) le =
      record {
        first = s;
        middle = rest;
        read = body-read b (omega arith);
        no_word = no_throughout rest (λ e. omega arith);
        repeats = repeat-none (sequences d) s rest
            (λ e. omega arith);
      }
  prompt-read (is_repeated {d = d} {n = n} {s = s} {ts = ts} {us = us} {rest = rest} b t) le =
      record {
        first = s;
        middle = us;
        read = body-read b (omega (arith, times-next t));
        no_word = no_throughout us (λ e. omega (arith, times-next t));
        repeats = repeats-read d s n us rest
            (times-read d t);
      }

  head-read : {d : ℕ} {s : SequenceForm} {ts us : List Token} → IsHead d s ts us → 12 < next_precedence us
      → (v : SequenceForm) (rest : List Token) → delayed_behind d (sequences d) s us ≡ Some (v, rest)
      → during d ts ≡ Some (v, rest)
  head-read (is_prompt {d = d} {s = s} {ts = ts} {rest = us} r) le v rest h =
      during-prompt d s v ts us rest (prompt-read r le) h
  head-read (is_late {d = d} {n = m} {s = s} {rest = vs} (after {t = t} {n = n} {low = low} {rest = us} k b) r) le v
      rest h =
      during-late d t m s v (n ∷ us) vs rest k
      (late-read d (n ∷ us) us vs m s (after-read d n low us b) (repetition-prompt d s us vs (prompt-read r le)))
      h
  head-read
      (is_late {n = q} {s = s} {rest = vs}
      (between {d = d} {t = t} {left = left} {n = n} {colon = colon} {m = m} {right = right} {low = low} {high = high}
      {rest = us} k o b l e c) r) le v rest h =
      during-late (suc d) t q s v (left ∷ n ∷ colon ∷ m ∷ right ∷ us) vs rest k
      (late-read (suc d) (left ∷ n ∷ colon ∷ m ∷ right ∷ us) us vs q s
      (between-read d left n colon m right low high us o b l e c)
      (repetition-prompt (suc d) s us vs (prompt-read r le))) h

  steps-many : {d : ℕ} {more : Steps} {ts rest : List Token} → AreSteps d more ts rest → (i : ℕ) → length ts ≤ i
      → 13 < next_precedence rest → many (is Delay) (λ t. late_part d (sequences d)) i ts
      ≡ Some (list_of_steps more, rest)
  steps-many (no_steps {d = d} {ts = ts}) i len le =
      many-none (is Delay) (λ t. late_part d (sequences d)) i ts
      (expect-precedence Delay 13 precedence-Delay ts (λ e. omega arith))
  steps-many (one_step l r f) zero len le = absurd (omega (arith, delay-shorter l))
  steps-many
      (one_step {d = d} {n = q} {s = s} {more = more} {vs = vs} {rest = rest}
      (after {t = t} {n = n} {low = low} {rest = us} k b) r f) (suc i) len le =
      many-more (is Delay) (λ t. late_part d (sequences d)) i t (n ∷ us) (q, s) vs (list_of_steps more) rest
      (true-is Delay t k)
      (late-read d (n ∷ us) us vs q s (after-read d n low us b)
      (repetition-prompt d s us vs (prompt-read r (steps-next f le))))
      (steps-many f i (omega (arith, repetition-shorter r)) le)
  steps-many
      (one_step {n = q} {s = s} {more = more} {vs = vs} {rest = rest}
      (between {d = d} {t = t} {left = left} {n = n} {colon = colon} {m = m} {right = right} {low = low} {high = high}
      {rest = us} k o b l e c) r f) (suc i) len le =
      many-more (is Delay) (λ t. late_part (suc d) (sequences (suc d))) i t (left ∷ n ∷ colon ∷ m ∷ right ∷ us) (q, s)
      vs (list_of_steps more) rest (true-is Delay t k)
      (late-read (suc d) (left ∷ n ∷ colon ∷ m ∷ right ∷ us) us vs q s
      (between-read d left n colon m right low high us o b l e c)
      (repetition-prompt (suc d) s us vs (prompt-read r (steps-next f le))))
      (steps-many f i (omega (arith, repetition-shorter r)) le)

  pub during-read : {d : ℕ} {s : SequenceForm} {ts rest : List Token} → IsDuring d s ts rest → 13 < next_precedence rest
      → during d ts ≡ Some (s, rest)
  during-read (is_cat (is_head {d = d} {s = s} {ts = ts} {rest = rest} h)) le =
      head-read h (omega arith) s rest (delayed-none d (sequences d) s rest (λ e. omega arith))
  during-read (is_cat (is_delayed {d = d} {n = n} {s = s} {v = v} {more = more} {ts = ts} {us = us} {rest = rest} h f))
      le =
      head-read h (omega (arith, steps-loose f)) (delayed s (step n v more)) rest
      (delayed-some d s v n more us rest (steps-many f (length us) (omega arith) le))
  during-read (is_throughout {d = d} {t = t} {e = e} {s = s} {ts = ts} {us = us} {rest = rest} k x w) le =
      during-throughout d t e s ts us rest k
      (body-boolean (suc d) e ts (t ∷ us) x (omega (arith, precedence-Throughout t k))) (during-read w le)

  meets-many : {d : ℕ} {more : Others} {ts rest : List Token} → AreMeets d more ts rest → (i : ℕ)
      → length ts ≤ i → 14 < next_precedence rest → many (is Intersect) (λ t. during d) i ts
      ≡ Some (list_of_others more, rest)
  meets-many (no_meet {d = d} {ts = ts}) i len le =
      many-none (is Intersect) (λ t. during d) i ts
      (expect-precedence Intersect 14 precedence-Intersect ts (λ e. omega arith))
  meets-many (one_meet k w f) zero len le = absurd (omega arith)
  meets-many (one_meet {d = d} {t = t} {s = s} {more = more} {ts = ts} {us = us} {rest = rest} k w f) (suc i)
      len le =
      many-more (is Intersect) (λ t. during d) i t ts s us (list_of_others more) rest (true-is Intersect t k)
      (during-read w (omega (arith, meets-next f le)))
      (meets-many f i (omega (arith, during-shorter w)) le)

  intersection-read : {d : ℕ} {s : SequenceForm} {ts rest : List Token} → IsIntersection d s ts rest
      → 14 < next_precedence rest → intersection d ts ≡ Some (s, rest)
  intersection-read (is_during {d = d} {s = s} {ts = ts} {rest = rest} w) le =
      intersection-on d s s ts rest rest (during-read w (omega arith))
      (intersection-none d (sequences d) s rest (λ e. omega arith))
  intersection-read (is_meet {d = d} {s = s} {v = v} {more = more} {ts = ts} {us = us} {rest = rest} w f) le =
      intersection-on d s (joined junctions.Intersect s (other v more)) ts us rest
      (during-read w (omega (arith, meets-loose f)))
      (intersection-some d s v more us rest (meets-many f (length us) (omega arith) le))

  conjuncts-many : {d : ℕ} {more : Others} {ts rest : List Token} → AreConjuncts d more ts rest → (i : ℕ)
      → length ts ≤ i → 15 < next_precedence rest → many (is And) (λ t. intersection d) i ts
      ≡ Some (list_of_others more, rest)
  conjuncts-many (no_conjunct {d = d} {ts = ts}) i len le =
      many-none (is And) (λ t. intersection d) i ts (expect-precedence And 15 precedence-And ts (λ e. omega arith))
  conjuncts-many (one_conjunct k w f) zero len le = absurd (omega arith)
  conjuncts-many (one_conjunct {d = d} {t = t} {s = s} {more = more} {ts = ts} {us = us} {rest = rest} k w f) (suc i)
      len le =
      many-more (is And) (λ t. intersection d) i t ts s us (list_of_others more) rest (true-is And t k)
      (intersection-read w (omega (arith, conjuncts-next f le)))
      (conjuncts-many f i (omega (arith, intersection-shorter w)) le)

  conjunction-read : {d : ℕ} {s : SequenceForm} {ts rest : List Token} → IsConjunction d s ts rest
      → 15 < next_precedence rest → conjunction d ts ≡ Some (s, rest)
  conjunction-read (is_intersection {d = d} {s = s} {ts = ts} {rest = rest} w) le =
      conjunction-on d s s ts rest rest (intersection-read w (omega arith))
      (conjunction-none d (sequences d) s rest (λ e. omega arith))
  conjunction-read (is_all {d = d} {s = s} {v = v} {more = more} {ts = ts} {us = us} {rest = rest} w f) le =
      conjunction-on d s (joined junctions.And s (other v more)) ts us rest
      (intersection-read w (omega (arith, conjuncts-loose f)))
      (conjunction-some d s v more us rest (conjuncts-many f (length us) (omega arith) le))

  alternatives-many : {d : ℕ} {more : Others} {ts rest : List Token} → AreAlternatives d more ts rest → (i : ℕ)
      → length ts ≤ i → 16 < next_precedence rest → many (is Or) (λ t. conjunction d) i ts
      ≡ Some (list_of_others more, rest)
  alternatives-many (no_alternative {d = d} {ts = ts}) i len le =
      many-none (is Or) (λ t. conjunction d) i ts (expect-precedence Or 16 precedence-Or ts (λ e. omega arith))
  alternatives-many (one_alternative k w f) zero len le = absurd (omega arith)
  alternatives-many (one_alternative {d = d} {t = t} {s = s} {more = more} {ts = ts} {us = us} {rest = rest} k w f)
      (suc i) len le =
      many-more (is Or) (λ t. conjunction d) i t ts s us (list_of_others more) rest (true-is Or t k)
      (conjunction-read w (omega (arith, alternatives-next f le)))
      (alternatives-many f i (omega (arith, conjunction-shorter w)) le)

  pub sequence-read : {d : ℕ} {s : SequenceForm} {ts rest : List Token} → IsSequence d s ts rest
      → 16 < next_precedence rest → seq d ts ≡ Some (s, rest)
  sequence-read (is_conjunction {d = d} {s = s} {ts = ts} {rest = rest} w) le =
      seq-on d s s ts rest rest (conjunction-read w (omega arith))
      (alternatives-none d (sequences d) s rest (λ e. omega arith))
  sequence-read (is_either {d = d} {s = s} {v = v} {more = more} {ts = ts} {us = us} {rest = rest} w f) le =
      seq-on d s (joined junctions.Or s (other v more)) ts us rest
      (conjunction-read w (omega (arith, alternatives-loose f)))
      (alternatives-some d s v more us rest (alternatives-many f (length us) (omega arith) le))
