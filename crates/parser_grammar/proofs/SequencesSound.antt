-- What is read as a sequence is spelled by it.
use Rattle.std.proofs.Common.{◌≡◌, ℕ, zero, suc, List, [], ◌∷◌, Option, Some, None, refl, sym, ◌∙◌, subst}
use Rattle.lexer.specs.declared.token.Token.{Token}
use Rattle.parser_grammar.specs.declared.bound.Bound.{Bound}
use Rattle.parser_grammar.specs.declared.bound.Range.{Range}
use Rattle.parser_grammar.specs.declared.operator.Junction.TheVariants as junctions
use Rattle.parser_grammar.specs.declared.terminal.Terminal.TheVariants.{OpenRound, CloseRound, OpenSquare, OpenRepeat}
use Rattle.parser_grammar.specs.declared.terminal.Terminal.TheVariants.{CloseSquare, Colon, Delay, Throughout}
use Rattle.parser_grammar.specs.declared.terminal.Terminal.TheVariants.{Intersect, And}
use Rattle.parser_grammar.specs.declared.terminal.Terminal.TheVariants.{Or}
use Rattle.parser_grammar.specs.Terminals.{terminal, is}
use Rattle.parser_grammar.specs.Bounds.{bound_within}
use Rattle.parser_grammar.specs.Trees.{Tree, SequenceForm, boolean, repeated, late, delayed, throughout, joined}
use Rattle.parser_grammar.specs.Trees.{no_step}
use Rattle.parser_grammar.specs.Trees.{no_other}
use Rattle.parser_grammar.specs.Expressions.{Spells}
use Rattle.parser_grammar.specs.Sequences.{bound, IsNoExpression, IsTimes, times, times_to, IsDelay, after, between}
use Rattle.parser_grammar.specs.Sequences.{IsBody}
use Rattle.parser_grammar.specs.Sequences.{is_boolean, in_brackets, IsRepetition, is_once, is_repeated, IsHead}
use Rattle.parser_grammar.specs.Sequences.{is_prompt}
use Rattle.parser_grammar.specs.Sequences.{is_late, AreSteps, no_steps, one_step, IsDelayed, is_head, is_delayed}
use Rattle.parser_grammar.specs.Sequences.{IsDuring}
use Rattle.parser_grammar.specs.Sequences.{is_cat, is_throughout, AreMeets, no_meet, one_meet, IsIntersection, is_meet}
use Rattle.parser_grammar.specs.Sequences.{is_intersection, AreConjuncts, no_conjunct, one_conjunct, IsConjunction}
use Rattle.parser_grammar.specs.Sequences.{is_during, is_all, AreAlternatives, no_alternative, one_alternative}
use Rattle.parser_grammar.specs.Sequences.{IsSequence}
use Rattle.parser_grammar.specs.Sequences.{is_conjunction, is_either}
use Rattle.parser_grammar.specs.Readers.{◌>>=◌, expect, pick, optional, each}
use Rattle.parser_grammar.specs.ReadExpressions as expressions
use Rattle.parser_grammar.specs.ReadExpressions.{readers, expression, finish, prefixed_with, expr_with}
use Rattle.parser_grammar.specs.ReadSequences as reading
use Rattle.parser_grammar.specs.ReadSequences.{delay_by, delay, regroup, body_by, body_with, with_times, repeat_behind}
use Rattle.parser_grammar.specs.ReadSequences.{repetition_with, late_part, steps_of, with_steps, delayed_behind}
use Rattle.parser_grammar.specs.ReadSequences.{cat_behind}
use Rattle.parser_grammar.specs.ReadSequences.{throughout_by, during_behind, during_by, during_with, others_of}
use Rattle.parser_grammar.specs.ReadSequences.{with_others}
use Rattle.parser_grammar.specs.ReadSequences.{intersection_behind, intersection_with}
use Rattle.parser_grammar.specs.ReadSequences.{conjunction_behind, conjunction_with, alternatives_behind, sides_behind}
use Rattle.parser_grammar.specs.ReadSequences.{whole_with, sequences}
use Rattle.parser_grammar.proofs.TerminalLaws.{is-true}
use Rattle.parser_grammar.proofs.ReaderLaws.{Reads, bind-some, bind-then, expect-is, expect-some, pick-some, IsOptional}
use Rattle.parser_grammar.proofs.ReaderLaws.{absent, present, optional-sound, each-sound, precedence-CloseRound}
use Rattle.parser_grammar.proofs.Complete.{spells-read}
use Rattle.parser_grammar.proofs.Sound.{is_sound, spells-sound}
use Rattle.std.proofs.Common.{arith}
use Rattle.parser_grammar.proofs.SequencesComplete.{body, repetition, during, intersection, conjunction, seq}
use Rattle.parser_grammar.proofs.SequencesComplete.{expression-opening}

abbrev pub IsSoundBelow : ℕ → Type 0
IsSoundBelow zero = Unit {0}
IsSoundBelow (suc d) =
    Reads (seq d) (λ s ts rest. IsSequence d s ts rest) × Reads (during d) (λ s ts rest. IsDuring d s ts rest)

-- a sequence that is an expression is spelled as one
body-is_boolean : {d : ℕ} {e : Tree} {ts rest : List Token} → IsBody d (boolean e) ts rest → Spells d e ts rest
body-is_boolean (is_boolean s) = s
body-is_boolean (in_brackets o c g w) = absurd g

repetition-is_boolean : {d : ℕ} {e : Tree} {ts rest : List Token} → IsRepetition d (boolean e) ts rest
    → Spells d e ts rest
repetition-is_boolean (is_once b) = body-is_boolean b

head-is_boolean : {d : ℕ} {e : Tree} {ts rest : List Token} → IsHead d (boolean e) ts rest → Spells d e ts rest
head-is_boolean (is_prompt r) = repetition-is_boolean r

delayed-is_boolean : {d : ℕ} {e : Tree} {ts rest : List Token} → IsDelayed d (boolean e) ts rest → Spells d e ts rest
delayed-is_boolean (is_head h) = head-is_boolean h

during-is_boolean : {d : ℕ} {e : Tree} {ts rest : List Token} → IsDuring d (boolean e) ts rest → Spells d e ts rest
during-is_boolean (is_cat c) = delayed-is_boolean c

intersection-is_boolean : {d : ℕ} {e : Tree} {ts rest : List Token} → IsIntersection d (boolean e) ts rest
    → Spells d e ts rest
intersection-is_boolean (is_during w) = during-is_boolean w

conjunction-is_boolean : {d : ℕ} {e : Tree} {ts rest : List Token} → IsConjunction d (boolean e) ts rest
    → Spells d e ts rest
conjunction-is_boolean (is_intersection w) = intersection-is_boolean w

pub sequence-is_boolean : {d : ℕ} {e : Tree} {ts rest : List Token} → IsSequence d (boolean e) ts rest
    → Spells d e ts rest
sequence-is_boolean (is_conjunction w) = conjunction-is_boolean w

pub expression-sound : (d : ℕ) (ts : List Token) (p : Tree × List Token) → expression d ts ≡ Some p
    → Spells d p.0 ts p.1
unfolding expression
expression-sound d ts p h = spells-sound d (is_sound d) ts p h

-- an expression in brackets, and what goes on after them
bracketed-boolean : (d : ℕ) (t c : Token) (e : Tree) (ts vs : List Token) → terminal t ≡ OpenRound
    → terminal c ≡ CloseRound → Spells d e ts (c ∷ vs) → expression (suc d) (t ∷ ts) ≡ finish (suc d) e vs
unfolding readers expressions.bracket_reader
bracketed-boolean d t c e ts vs o k s =
    let inner : expr_with (readers d) (prefixed_with (readers d)) ts ≡ Some (e, c ∷ vs) =
    spells-read s (omega (arith, precedence-CloseRound c k)) in
    expression-opening (suc d) t ts o ∙ rw (inner, expect-is CloseRound c vs k) refl

group-is : (d : ℕ) (t c : Token) (s : SequenceForm) (ts vs : List Token) (p : SequenceForm × List Token)
    → terminal t ≡ OpenRound → terminal c ≡ CloseRound → IsNoExpression s → IsSequence d s ts (c ∷ vs)
    → Some (s, vs) ≡ Some p → IsBody (suc d) p.0 (t ∷ ts) p.1
group-is d t c s ts vs p o k g w h =
    let same : (s, vs) ≡ p = cc (h) in subst (λ (r : SequenceForm × List Token). IsBody (suc d) r.0 (t ∷ ts) r.1) same
    (in_brackets o k g w)

pub regroup-sound : (d : ℕ) (t c : Token) (s : SequenceForm) (ts vs : List Token) (p : SequenceForm × List Token)
    → terminal t ≡ OpenRound → terminal c ≡ CloseRound → IsSequence d s ts (c ∷ vs) → regroup (suc d) s vs ≡ Some p
    → IsBody (suc d) p.0 (t ∷ ts) p.1
unfolding regroup
regroup-sound d t c (boolean e) ts vs p o k w h =
    let a = bind-some (finish (suc d) e vs) (λ (p : Tree × List Token). Some (boolean p.0, p.1)) p h in
    let same : (boolean a.0.0, a.0.1) ≡ p = cc (a.2) in
    subst (λ (r : SequenceForm × List Token). IsBody (suc d) r.0 (t ∷ ts) r.1) same
    (is_boolean
    (expression-sound (suc d) (t ∷ ts) a.0 (bracketed-boolean d t c e ts vs o k (sequence-is_boolean w) ∙ a.1)))
regroup-sound d t c (repeated s n) ts vs p o k w h = group-is d t c (repeated s n) ts vs p o k tt w h
regroup-sound d t c (late q n s) ts vs p o k w h = group-is d t c (late q n s) ts vs p o k tt w h
regroup-sound d t c (delayed s more) ts vs p o k w h = group-is d t c (delayed s more) ts vs p o k tt w h
regroup-sound d t c (throughout e s) ts vs p o k w h = group-is d t c (throughout e s) ts vs p o k tt w h
regroup-sound d t c (joined j s more) ts vs p o k w h = group-is d t c (joined j s more) ts vs p o k tt w h

group-sound : (d : ℕ) → IsSoundBelow d → (t : Token) (ts : List Token) (p : SequenceForm × List Token)
    → terminal t ≡ OpenRound → ((sequences d).whole ts >>= λ p. expect CloseRound p.1 >>= λ r. regroup d p.0 r.1)
    ≡ Some p → IsBody d p.0 (t ∷ ts) p.1
unfolding sequences
group-sound zero inner t ts p o h = absurd cc
group-sound (suc d) inner t ts p o h =
    let a =
    bind-some (seq d ts) (λ (p : SequenceForm × List Token). expect CloseRound p.1
    >>= λ r. regroup (suc d) p.0 r.1) p h in
    let b = bind-some (expect CloseRound a.0.1) (λ (r : Token × List Token). regroup (suc d) a.0.0 r.1) p a.2 in
    let k = expect-some CloseRound a.0.1 b.0 b.1 in
    regroup-sound d t b.0.0 a.0.0 ts b.0.1 p o k.marked
    (subst (λ (us : List Token). IsSequence d a.0.0 ts us) k.parts (inner.0 ts a.0 a.1)) b.2

body_by-sound : (d : ℕ) → IsSoundBelow d
    → (ts : List Token) (p : SequenceForm × List Token) (o : Option (Token × List Token)) → expect OpenRound ts ≡ o
    → body_by d (sequences d) o ts ≡ Some p → IsBody d p.0 ts p.1
body_by-sound d inner ts p None l h =
    let a = bind-some (expression d ts) (λ (p : Tree × List Token). Some (boolean p.0, p.1)) p h in
    let same : (boolean a.0.0, a.0.1) ≡ p = cc (a.2) in
    subst (λ (r : SequenceForm × List Token). IsBody d r.0 ts r.1) same (is_boolean (expression-sound d ts a.0 a.1))
body_by-sound d inner ts p (Some q) l h =
    let x = expect-some OpenRound ts q l in
    subst (λ (us : List Token). IsBody d p.0 us p.1) (sym x.parts) (group-sound d inner q.0 q.1 p x.marked h)

body-sound : (d : ℕ) → IsSoundBelow d → Reads (body d) (λ s ts rest. IsBody d s ts rest)
unfolding body_with
body-sound d inner ts p h = body_by-sound d inner ts p (expect OpenRound ts) refl h

-- counts
times_by-sound : (left n right : Token) (low : Bound) (high : Option Bound) (us vs ws rest : List Token)
    → terminal left ≡ OpenRepeat → us ≡ n ∷ vs → bound n ≡ Some low
    → IsOptional Colon (pick (bound_within low.value 127)) vs high ws → ws ≡ right ∷ rest
    → terminal right ≡ CloseSquare
    → IsTimes (record { low = low; high = high }) (left ∷ us) rest
times_by-sound left n right low high us vs ws rest o e k absent f c = rw (e, f) (times o k c)
times_by-sound left n right low high us vs ws rest o e k (present {t = t} {us = xs} {a = j} g l r) f c =
    let x = pick-some (bound_within low.value 127) xs (j, ws) r in
    times_at x.token us vs xs ws e k g l x.parts x.picked f
  where
    times_at : (m : Token) (us vs xs ws : List Token) → us ≡ n ∷ vs → bound n ≡ Some low → vs ≡ t ∷ xs
        → terminal t ≡ Colon → xs ≡ m ∷ ws → bound_within low.value 127 m ≡ Some j → ws ≡ right ∷ rest
        → IsTimes (record { low = low; high = Some j }) (left ∷ us) rest
    times_at m us vs xs ws e k g l a b f = rw (e, g, a, f) (times_to o k l b c)

times-sound : (left : Token) (us : List Token) (q : Range × List Token) → terminal left ≡ OpenRepeat
    → reading.times us ≡ Some q → IsTimes q.0 (left ∷ us) q.1
unfolding reading.times
times-sound left us q o h =
    bind-then (pick bound us) (λ (p : Bound × List Token). optional Colon (pick (bound_within p.0.value 127)) p.1
    >>= λ q. expect CloseSquare q.1 >>= λ r. Some (record { low = p.0; high = q.0 }, r.1)) q h
    (λ a a_is a_rest.
    bind-then (optional Colon (pick (bound_within a.0.value 127)) a.1)
    (λ (q : Option Bound × List Token). expect CloseSquare q.1 >>= λ r. Some (record { low = a.0; high = q.0 }, r.1)) q
    a_rest
    (λ b b_is b_rest.
    bind-then (expect CloseSquare b.1) (λ (r : Token × List Token). Some (record { low = a.0; high = b.0 }, r.1)) q
    b_rest
    (λ c c_is c_rest.
    let n : Range = record { low = a.0; high = b.0 } in
    let same : (n, c.1) ≡ q = cc (c_rest) in
    let x = pick-some bound us a a_is in
    let z = expect-some CloseSquare b.1 c c_is in
    subst (λ (r : Range × List Token). IsTimes r.0 (left ∷ us) r.1) same
    (times_by-sound left x.token c.0 a.0 b.0 us a.1 b.1 c.1 o x.parts x.picked
    (optional-sound Colon (pick (bound_within a.0.value 127)) a.1 b b_is) z.parts z.marked))))

between_at : (d : ℕ) (t left n colon m right : Token) (low high : Bound) (us vs ws xs rest : List Token)
    → terminal t ≡ Delay → terminal left ≡ OpenSquare → us ≡ n ∷ vs → bound n ≡ Some low → vs ≡ colon ∷ ws
    → terminal colon ≡ Colon → ws ≡ m ∷ xs
    → bound_within low.value 127 m ≡ Some high → xs ≡ right ∷ rest → terminal right ≡ CloseSquare
    → IsDelay (suc d) (record { low = low; high = Some high }) (t ∷ left ∷ us) rest
between_at d t left n colon m right low high us vs ws xs rest k o a b e l f g i c =
    rw (a, e, f, i) (between k o b l g c)

between-sound : (d : ℕ) (t left : Token) (us : List Token) (q : Range × List Token) → terminal t ≡ Delay
    → terminal left ≡ OpenSquare → reading.range_between us ≡ Some q → IsDelay (suc d) q.0 (t ∷ left ∷ us) q.1
unfolding reading.range_between
between-sound d t left us q k o h =
    bind-then (pick bound us) (λ (p : Bound × List Token). expect Colon p.1
    >>= λ o. pick (bound_within p.0.value 127) o.1 >>= λ q. expect CloseSquare q.1
    >>= λ r. Some (record { low = p.0; high = Some q.0 }, r.1)) q h
    (λ a a_is a_rest.
    bind-then (expect Colon a.1) (λ (o : Token × List Token). pick (bound_within a.0.value 127) o.1
    >>= λ q. expect CloseSquare q.1 >>= λ r. Some (record { low = a.0; high = Some q.0 }, r.1)) q a_rest
    (λ b b_is b_rest.
    bind-then (pick (bound_within a.0.value 127) b.1) (λ (q : Bound × List Token). expect CloseSquare q.1
    >>= λ r. Some (record { low = a.0; high = Some q.0 }, r.1)) q b_rest
    (λ c c_is c_rest.
    bind-then (expect CloseSquare c.1) (λ (r : Token × List Token). Some (record { low = a.0; high = Some c.0 }, r.1)) q
    c_rest
    (λ e e_is e_rest.
    let n : Range = record { low = a.0; high = Some c.0 } in
    let same : (n, e.1) ≡ q = cc (e_rest) in
    let x = pick-some bound us a a_is in
    let y = expect-some Colon a.1 b b_is in
    let z = pick-some (bound_within a.0.value 127) b.1 c c_is in
    let w = expect-some CloseSquare c.1 e e_is in
    subst (λ (r : Range × List Token). IsDelay (suc d) r.0 (t ∷ left ∷ us) r.1) same
    (between_at d t left x.token b.0 z.token e.0 a.0 c.0 us a.1 b.1 c.1 e.1 k o x.parts x.picked y.parts
    y.marked z.parts z.picked w.parts w.marked)))))

after_at : (d : ℕ) (t n : Token) (low : Bound) (us rest : List Token) → terminal t ≡ Delay → us ≡ n ∷ rest
    → bound n ≡ Some low → IsDelay d (record { low = low; high = None }) (t ∷ us) rest
after_at d t n low us rest k e h = rw e (after k h)

delay_by-sound : (d : ℕ) (t : Token) (ts : List Token) (p : Range × List Token) → terminal t ≡ Delay
    → (o : Option (Token × List Token)) → expect OpenSquare ts ≡ o → delay_by (sequences d) o ts ≡ Some p
    → IsDelay d p.0 (t ∷ ts) p.1
unfolding sequences
delay_by-sound d t ts p k None l h =
    let a = bind-some (pick bound ts) (λ (p : Bound × List Token). Some (record { low = p.0; high = None }, p.1)) p h in
    let n : Range = record { low = a.0.0; high = None } in
    let same : (n, a.0.1) ≡ p = cc (a.2) in
    let x = pick-some bound ts a.0 a.1 in
    subst (λ (r : Range × List Token). IsDelay d r.0 (t ∷ ts) r.1) same
    (after_at d t x.token a.0.0 ts a.0.1 k x.parts x.picked)
delay_by-sound zero t ts p k (Some q) l h = absurd cc
delay_by-sound (suc d) t ts p k (Some q) l h =
    let x = expect-some OpenSquare ts q l in
    subst (λ (us : List Token). IsDelay (suc d) p.0 (t ∷ us) p.1) (sym x.parts)
    (between-sound d t q.0 q.1 p k x.marked h)

-- repetitions
repeat_by-sound : (d : ℕ) (s : SequenceForm) (n : Option Range) (ts us rest : List Token) → IsBody d s ts us
    → IsOptional OpenRepeat (sequences d).times us n rest → IsRepetition d (with_times s n) ts rest
unfolding sequences
repeat_by-sound d s _ ts us _ b absent = is_once b
repeat_by-sound zero s _ ts us rest b (present e o r) = absurd cc
repeat_by-sound (suc d) s _ ts us rest b (present {t = t} {us = xs} {a = n} e o r) =
    is_repeated (subst (λ (vs : List Token). IsBody (suc d) s ts vs) e b) (times-sound t xs (n, rest) o r)

repeat-sound : (d : ℕ) (s : SequenceForm) (ts us : List Token) (p : SequenceForm × List Token) → IsBody d s ts us
    → repeat_behind (sequences d) s us ≡ Some p → IsRepetition d p.0 ts p.1
unfolding repeat_behind
repeat-sound d s ts us p b h =
    let a =
    bind-some (optional OpenRepeat (sequences d).times us)
    (λ (q : Option Range × List Token). Some (with_times s q.0, q.1)) p h in
    let same : (with_times s a.0.0, a.0.1) ≡ p = cc (a.2) in
    subst (λ (r : SequenceForm × List Token). IsRepetition d r.0 ts r.1) same
    (repeat_by-sound d s a.0.0 ts us a.0.1 b (optional-sound OpenRepeat (sequences d).times us a.0 a.1))

repetition-sound : (d : ℕ) → IsSoundBelow d → Reads (repetition d) (λ s ts rest. IsRepetition d s ts rest)
unfolding repetition_with
repetition-sound d inner ts p h =
    let a = bind-some (body d ts) (λ (p : SequenceForm × List Token). repeat_behind (sequences d) p.0 p.1) p h in
    repeat-sound d a.0.0 ts a.0.1 p (body-sound d inner ts a.0 a.1) a.2

-- a delay, and what it delays
record LatePart (d : ℕ) (n : Range) (s : SequenceForm) (ts rest : List Token) : Type 0 where
  middle : List Token
  delays : IsDelay d n ts middle
  repeats : IsRepetition d s middle rest

late-sound : (d : ℕ) → IsSoundBelow d → (t : Token) (ts : List Token) (p : (Range × SequenceForm) × List Token)
    → terminal t ≡ Delay → late_part d (sequences d) ts ≡ Some p → LatePart d p.0.0 p.0.1 (t ∷ ts) p.1
unfolding late_part delay
late-sound d inner t ts p k h =
    let a =
    bind-some (delay (sequences d) ts) (λ (p : Range × List Token). repetition d p.1
    >>= λ q. Some ((p.0, q.0), q.1)) p h in
    let b = bind-some (repetition d a.0.1) (λ (q : SequenceForm × List Token). Some ((a.0.0, q.0), q.1)) p a.2 in
    let same : ((a.0.0, b.0.0), b.0.1) ≡ p = cc (b.2) in
    subst (λ (r : (Range × SequenceForm) × List Token). LatePart d r.0.0 r.0.1 (t ∷ ts) r.1) same
    (record {
      middle = a.0.1;
      delays = delay_by-sound d t ts a.0 k (expect OpenSquare ts) refl a.1;
      repeats = repetition-sound d inner a.0.1 b.0 b.1;
    })

steps-sound : (d : ℕ) → IsSoundBelow d
    → Reads (each (is Delay) (λ t. late_part d (sequences d))) (λ xs ts rest. AreSteps d (steps_of xs) ts rest)
steps-sound d inner ts p h =
    each-sound (is Delay) (λ t. late_part d (sequences d)) (λ xs us vs. AreSteps d (steps_of xs) us vs) (λ us. no_steps)
    (λ t a xs us vs rest is_delay read more. let l =
    late-sound d inner t us (a, vs) (is-true Delay t is_delay) read in one_step l.delays l.repeats more) ts p h

steps-end : {d : ℕ} {ts rest : List Token} → AreSteps d no_step ts rest → ts ≡ rest
steps-end no_steps = refl

with_steps-sound : (d : ℕ) (s : SequenceForm) (xs : List (Range × SequenceForm)) (ts us rest : List Token)
    → IsHead d s ts us → AreSteps d (steps_of xs) us rest → IsDelayed d (with_steps s xs) ts rest
with_steps-sound d s [] ts us rest b f = subst (λ (vs : List Token). IsDelayed d s ts vs) (steps-end f) (is_head b)
with_steps-sound d s (x ∷ xs) ts us rest b f = is_delayed b f

delayed-sound : (d : ℕ) → IsSoundBelow d → (s : SequenceForm) (ts us : List Token) (p : SequenceForm × List Token)
    → IsHead d s ts us → delayed_behind d (sequences d) s us ≡ Some p → IsDuring d p.0 ts p.1
unfolding delayed_behind
delayed-sound d inner s ts us p b h =
    let a =
    bind-some (each (is Delay) (λ t. late_part d (sequences d)) us)
    (λ (q : List (Range × SequenceForm) × List Token). Some (with_steps s q.0, q.1)) p h in
    let same : (with_steps s a.0.0, a.0.1) ≡ p = cc (a.2) in
    subst (λ (r : SequenceForm × List Token). IsDuring d r.0 ts r.1) same
    (is_cat (with_steps-sound d s a.0.0 ts us a.0.1 b (steps-sound d inner us a.0 a.1)))

cat-sound : (d : ℕ) → IsSoundBelow d → (s : SequenceForm) (ts us : List Token) (p : SequenceForm × List Token)
    → IsBody d s ts us → cat_behind d (sequences d) s us ≡ Some p → IsDuring d p.0 ts p.1
unfolding cat_behind
cat-sound d inner s ts us p b h =
    let a =
    bind-some (repeat_behind (sequences d) s us)
    (λ (p : SequenceForm × List Token). delayed_behind d (sequences d) p.0 p.1) p h in
    delayed-sound d inner a.0.0 ts a.0.1 p (is_prompt (repeat-sound d s ts us a.0 b a.1)) a.2

throughout_by-sound : (d : ℕ) → IsSoundBelow d → (e : Tree) (ts us : List Token) (p : SequenceForm × List Token)
    → IsBody d (boolean e) ts us → (o : Option (Token × List Token)) → expect Throughout us ≡ o
    → throughout_by d (sequences d) e o us ≡ Some p → IsDuring d p.0 ts p.1
unfolding sequences
throughout_by-sound d inner e ts us p b None l h = cat-sound d inner (boolean e) ts us p b h
throughout_by-sound zero inner e ts us p b (Some q) l h = absurd cc
throughout_by-sound (suc d) inner e ts us p b (Some q) l h =
    let a = bind-some (during d q.1) (λ (q : SequenceForm × List Token). Some (throughout e q.0, q.1)) p h in
    let same : (throughout e a.0.0, a.0.1) ≡ p = cc (a.2) in
    let x = expect-some Throughout us q l in
    subst (λ (r : SequenceForm × List Token). IsDuring (suc d) r.0 ts r.1) same
    (is_throughout x.marked (subst (λ (vs : List Token). Spells (suc d) e ts vs) x.parts (body-is_boolean b))
    (inner.1 q.1 a.0 a.1))

pub behind-sound : (d : ℕ) → IsSoundBelow d → (s : SequenceForm) (ts us : List Token) (p : SequenceForm × List Token)
    → IsBody d s ts us → during_behind d (sequences d) s us ≡ Some p → IsDuring d p.0 ts p.1
unfolding during_behind
behind-sound d inner (boolean e) ts us p b h = throughout_by-sound d inner e ts us p b (expect Throughout us) refl h
behind-sound d inner (repeated s n) ts us p b h = cat-sound d inner (repeated s n) ts us p b h
behind-sound d inner (late t n s) ts us p b h = cat-sound d inner (late t n s) ts us p b h
behind-sound d inner (delayed s more) ts us p b h = cat-sound d inner (delayed s more) ts us p b h
behind-sound d inner (throughout e s) ts us p b h = cat-sound d inner (throughout e s) ts us p b h
behind-sound d inner (joined j s more) ts us p b h = cat-sound d inner (joined j s more) ts us p b h

during_by-sound : (d : ℕ) → IsSoundBelow d
    → (ts : List Token) (p : SequenceForm × List Token) (o : Option (Token × List Token)) → expect Delay ts ≡ o
    → during_by d (sequences d) o ts ≡ Some p → IsDuring d p.0 ts p.1
during_by-sound d inner ts p None l h =
    let a = bind-some (body d ts) (λ (p : SequenceForm × List Token). during_behind d (sequences d) p.0 p.1) p h in
    behind-sound d inner a.0.0 ts a.0.1 p (body-sound d inner ts a.0 a.1) a.2
during_by-sound d inner ts p (Some q) l h =
    let x = expect-some Delay ts q l in
    let a =
    bind-some (late_part d (sequences d) q.1)
    (λ (p : (Range × SequenceForm) × List Token). delayed_behind d (sequences d) (late q.0 p.0.0 p.0.1) p.1) p h
    in
    let w = late-sound d inner q.0 q.1 a.0 x.marked a.1 in
    subst (λ (us : List Token). IsDuring d p.0 us p.1) (sym x.parts)
    (delayed-sound d inner (late q.0 a.0.0.0 a.0.0.1) (q.0 ∷ q.1) a.0.1 p (is_late w.delays w.repeats) a.2)

during-sound : (d : ℕ) → IsSoundBelow d → Reads (during d) (λ s ts rest. IsDuring d s ts rest)
unfolding during_with
during-sound d inner ts p h = during_by-sound d inner ts p (expect Delay ts) refl h

-- sides
meets-sound : (d : ℕ) → IsSoundBelow d
    → Reads (each (is Intersect) (λ t. during d)) (λ xs ts rest. AreMeets d (others_of xs) ts rest)
meets-sound d inner ts p h =
    each-sound (is Intersect) (λ t. during d) (λ xs us vs. AreMeets d (others_of xs) us vs) (λ us. no_meet)
    (λ t a xs us vs rest is_it read more. one_meet (is-true Intersect t is_it) (during-sound d inner us (a, vs) read)
    more) ts p h

meets-end : {d : ℕ} {ts rest : List Token} → AreMeets d no_other ts rest → ts ≡ rest
meets-end no_meet = refl

with_meets-sound : (d : ℕ) (s : SequenceForm) (xs : List SequenceForm) (ts us rest : List Token)
    → IsDuring d s ts us → AreMeets d (others_of xs) us rest
    → IsIntersection d (with_others junctions.Intersect s xs) ts rest
with_meets-sound d s [] ts us rest w f =
    subst (λ (vs : List Token). IsIntersection d s ts vs) (meets-end f) (is_during w)
with_meets-sound d s (x ∷ xs) ts us rest w f = is_meet w f

intersection_behind-sound : (d : ℕ) → IsSoundBelow d
    → (s : SequenceForm) (ts us : List Token) (p : SequenceForm × List Token) → IsDuring d s ts us
    → intersection_behind d (sequences d) s us ≡ Some p → IsIntersection d p.0 ts p.1
unfolding intersection_behind
intersection_behind-sound d inner s ts us p w h =
    let a =
    bind-some (each (is Intersect) (λ t. during d) us)
    (λ (q : List SequenceForm × List Token). Some (with_others junctions.Intersect s q.0, q.1)) p h in
    let same : (with_others junctions.Intersect s a.0.0, a.0.1) ≡ p = cc (a.2) in
    subst (λ (r : SequenceForm × List Token). IsIntersection d r.0 ts r.1) same
    (with_meets-sound d s a.0.0 ts us a.0.1 w (meets-sound d inner us a.0 a.1))

intersection-sound : (d : ℕ) → IsSoundBelow d → Reads (intersection d) (λ s ts rest. IsIntersection d s ts rest)
unfolding intersection_with
intersection-sound d inner ts p h =
    let a =
    bind-some (during d ts) (λ (p : SequenceForm × List Token). intersection_behind d (sequences d) p.0 p.1) p h in
    intersection_behind-sound d inner a.0.0 ts a.0.1 p (during-sound d inner ts a.0 a.1) a.2

conjuncts-sound : (d : ℕ) → IsSoundBelow d
    → Reads (each (is And) (λ t. intersection d)) (λ xs ts rest. AreConjuncts d (others_of xs) ts rest)
conjuncts-sound d inner ts p h =
    each-sound (is And) (λ t. intersection d) (λ xs us vs. AreConjuncts d (others_of xs) us vs) (λ us. no_conjunct)
    (λ t a xs us vs rest is_and read more. one_conjunct (is-true And t is_and)
    (intersection-sound d inner us (a, vs) read)
    more) ts p h

conjuncts-end : {d : ℕ} {ts rest : List Token} → AreConjuncts d no_other ts rest → ts ≡ rest
conjuncts-end no_conjunct = refl

with_conjuncts-sound : (d : ℕ) (s : SequenceForm) (xs : List SequenceForm) (ts us rest : List Token)
    → IsIntersection d s ts us → AreConjuncts d (others_of xs) us rest
    → IsConjunction d (with_others junctions.And s xs) ts rest
with_conjuncts-sound d s [] ts us rest w f =
    subst (λ (vs : List Token). IsConjunction d s ts vs) (conjuncts-end f) (is_intersection w)
with_conjuncts-sound d s (x ∷ xs) ts us rest w f = is_all w f

conjunction_behind-sound : (d : ℕ) → IsSoundBelow d
    → (s : SequenceForm) (ts us : List Token) (p : SequenceForm × List Token) → IsIntersection d s ts us
    → conjunction_behind d (sequences d) s us ≡ Some p → IsConjunction d p.0 ts p.1
unfolding conjunction_behind
conjunction_behind-sound d inner s ts us p w h =
    let a =
    bind-some (each (is And) (λ t. intersection d) us)
    (λ (q : List SequenceForm × List Token). Some (with_others junctions.And s q.0, q.1)) p h in
    let same : (with_others junctions.And s a.0.0, a.0.1) ≡ p = cc (a.2) in
    subst (λ (r : SequenceForm × List Token). IsConjunction d r.0 ts r.1) same
    (with_conjuncts-sound d s a.0.0 ts us a.0.1 w (conjuncts-sound d inner us a.0 a.1))

conjunction-sound : (d : ℕ) → IsSoundBelow d → Reads (conjunction d) (λ s ts rest. IsConjunction d s ts rest)
unfolding conjunction_with
conjunction-sound d inner ts p h =
    let a =
    bind-some (intersection d ts) (λ (p : SequenceForm × List Token). conjunction_behind d (sequences d) p.0 p.1) p h in
    conjunction_behind-sound d inner a.0.0 ts a.0.1 p (intersection-sound d inner ts a.0 a.1) a.2

alternatives-sound : (d : ℕ) → IsSoundBelow d
    → Reads (each (is Or) (λ t. conjunction d)) (λ xs ts rest. AreAlternatives d (others_of xs) ts rest)
alternatives-sound d inner ts p h =
    each-sound (is Or) (λ t. conjunction d) (λ xs us vs. AreAlternatives d (others_of xs) us vs) (λ us. no_alternative)
    (λ t a xs us vs rest is_or read more. one_alternative (is-true Or t is_or)
    (conjunction-sound d inner us (a, vs) read) more) ts p h

alternatives-end : {d : ℕ} {ts rest : List Token} → AreAlternatives d no_other ts rest → ts ≡ rest
alternatives-end no_alternative = refl

with_alternatives-sound : (d : ℕ) (s : SequenceForm) (xs : List SequenceForm) (ts us rest : List Token)
    → IsConjunction d s ts us → AreAlternatives d (others_of xs) us rest
    → IsSequence d (with_others junctions.Or s xs) ts rest
with_alternatives-sound d s [] ts us rest w f =
    subst (λ (vs : List Token). IsSequence d s ts vs) (alternatives-end f) (is_conjunction w)
with_alternatives-sound d s (x ∷ xs) ts us rest w f = is_either w f

alternatives_behind-sound : (d : ℕ) → IsSoundBelow d
    → (s : SequenceForm) (ts us : List Token) (p : SequenceForm × List Token) → IsConjunction d s ts us
    → alternatives_behind d (sequences d) s us ≡ Some p → IsSequence d p.0 ts p.1
unfolding alternatives_behind
alternatives_behind-sound d inner s ts us p w h =
    let a =
    bind-some (each (is Or) (λ t. conjunction d) us)
    (λ (q : List SequenceForm × List Token). Some (with_others junctions.Or s q.0, q.1)) p h in
    let same : (with_others junctions.Or s a.0.0, a.0.1) ≡ p = cc (a.2) in
    subst (λ (r : SequenceForm × List Token). IsSequence d r.0 ts r.1) same
    (with_alternatives-sound d s a.0.0 ts us a.0.1 w (alternatives-sound d inner us a.0 a.1))

pub sides-sound : (d : ℕ) → IsSoundBelow d → (s : SequenceForm) (ts us : List Token) (p : SequenceForm × List Token)
    → IsDuring d s ts us → sides_behind d (sequences d) s us ≡ Some p → IsSequence d p.0 ts p.1
unfolding sides_behind
sides-sound d inner s ts us p w h =
    let b =
    bind-some (intersection_behind d (sequences d) s us)
    (λ (p : SequenceForm × List Token). conjunction_behind d (sequences d) p.0 p.1
    >>= λ q. alternatives_behind d (sequences d) q.0 q.1) p h in
    let a =
    bind-some (conjunction_behind d (sequences d) b.0.0 b.0.1)
    (λ (p : SequenceForm × List Token). alternatives_behind d (sequences d) p.0 p.1) p b.2 in
    alternatives_behind-sound d inner a.0.0 ts a.0.1 p
    (conjunction_behind-sound d inner b.0.0 ts b.0.1 a.0 (intersection_behind-sound d inner s ts us b.0 w b.1) a.1)
    a.2

seq-sound : (d : ℕ) → IsSoundBelow d → Reads (seq d) (λ s ts rest. IsSequence d s ts rest)
unfolding whole_with
seq-sound d inner ts p h =
    let a = bind-some (during d ts) (λ (p : SequenceForm × List Token). sides_behind d (sequences d) p.0 p.1) p h in
    sides-sound d inner a.0.0 ts a.0.1 p (during-sound d inner ts a.0 a.1) a.2

pub is_sound_below : (d : ℕ) → IsSoundBelow d
is_sound_below zero = tt
is_sound_below (suc d) = (seq-sound d (is_sound_below d), during-sound d (is_sound_below d))

pub sequence-sound : (d : ℕ) → Reads (seq d) (λ s ts rest. IsSequence d s ts rest)
sequence-sound d = seq-sound d (is_sound_below d)
