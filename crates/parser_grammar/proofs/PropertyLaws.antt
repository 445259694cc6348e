-- Properties are read as what spells them, both ways.
use Rattle.std.proofs.Common.{◌≡◌, ℕ, zero, suc, ◌<◌, true, List, [], ◌∷◌, Option, Some, None, refl, sym, ap, ◌∙◌}
use Rattle.std.proofs.Common.{subst, arith}
use Rattle.lexer.specs.declared.token.Token.{Token}
use Rattle.lexer.specs.declared.token.Kind.{Kind}
use Rattle.parser_grammar.specs.declared.operator.Implication.{Implication}
use Rattle.parser_grammar.specs.declared.terminal.Terminal.{Terminal}
use Rattle.parser_grammar.specs.declared.terminal.Terminal.TheVariants.{OpenRound, CloseRound, Delay, Overlapped}
use Rattle.parser_grammar.specs.declared.terminal.Terminal.TheVariants.{Following}
use Rattle.parser_grammar.specs.declared.terminal.Terminal.TheVariants.{ForeignWord}
use Rattle.parser_grammar.specs.Terminals.{terminal, is, is_first_match_word}
use Rattle.parser_grammar.specs.Marks.{mark, precedence_of_terminal, precedence, next_precedence}
use Rattle.parser_grammar.specs.Operators.{implication_of_terminal, implication_of}
use Rattle.parser_grammar.specs.Trees.{Tree, SequenceForm, boolean, repeated, late, delayed, throughout, joined}
use Rattle.parser_grammar.specs.Trees.{PropertyForm}
use Rattle.parser_grammar.specs.Trees.{plain, implication}
use Rattle.parser_grammar.specs.Sequences.{IsBody, is_boolean, in_brackets, is_once, is_prompt, is_head, is_cat}
use Rattle.parser_grammar.specs.Sequences.{is_intersection, is_during}
use Rattle.parser_grammar.specs.Sequences.{IsSequence, is_conjunction, IsProperty, is_plain, is_implication, is_first}
use Rattle.parser_grammar.specs.Sequences.{bracketed}
use Rattle.parser_grammar.specs.Expressions as expressions
use Rattle.parser_grammar.specs.Expressions.{is_operand, is_tighter}
use Rattle.parser_grammar.specs.Readers.{◌>>=◌, lead, expect, pick}
use Rattle.parser_grammar.specs.ReadExpressions.{prefixed_with, expression}
use Rattle.parser_grammar.specs.ReadSequences.{regroup, body_with, during_behind, during_with, sides_behind, whole_with}
use Rattle.parser_grammar.specs.ReadSequences.{sequences, sequence_behind, whole, implication_from, implication_behind}
use Rattle.parser_grammar.specs.ReadSequences.{regroup_property, property_by, property_from, property_with, properties}
use Rattle.parser_grammar.specs.ReadSequences.{property, first_behind}
use Rattle.parser_grammar.proofs.ReaderLaws.{Reads, bind-some, bind-then, pick-nil, pick-no, pick-is, pick-some}
use Rattle.parser_grammar.proofs.ReaderLaws.{expect-is}
use Rattle.parser_grammar.proofs.ReaderLaws.{expect-not, expect-some, lead-true, lead-false, lead-some}
use Rattle.parser_grammar.proofs.ReaderLaws.{precedence-CloseRound}
use Rattle.parser_grammar.proofs.TerminalLaws.{is-true}
use Rattle.std.proofs.lemmas.Bool.{and_parts, false_from_ne_true}
use Rattle.parser_grammar.proofs.Sound.{opening-mark}
use Rattle.parser_grammar.proofs.SequencesComplete.{body, during, sequence-none, regroup-none, sequence-read}
use Rattle.parser_grammar.proofs.SequencesSound.{sequence-is_boolean, regroup-sound, behind-sound, sides-sound}
use Rattle.parser_grammar.proofs.SequencesSound.{is_sound_below}
use Rattle.parser_grammar.proofs.SequencesSound.{sequence-sound}

-- implications
implication-level : (w : Terminal) (k : Kind) (i : Implication) → implication_of_terminal w ≡ Some i
    → precedence_of_terminal w k ≡ 17
implication-level Overlapped k i h = refl
implication-level Following k i h = refl
implication-level _ k i h = absurd cc

implication-precedence : (t : Token) (i : Implication) → implication_of t ≡ Some i → precedence t ≡ 17
unfolding implication_of precedence
implication-precedence t i h = implication-level (terminal t) t.kind i h

no_implication : (t : Token) (o : Option Implication) → implication_of t ≡ o → (precedence t ≡ 17 → ⊥) → o ≡ None
no_implication t None e h = refl
no_implication t (Some i) e h = absurd (h (implication-precedence t i e))

implication-none : (d : ℕ) (s : SequenceForm) (ts : List Token) → (next_precedence ts ≡ 17 → ⊥)
    → implication_behind d s ts ≡ Some (plain s, ts)
unfolding implication_behind
implication-none d s ts h = rw (no_sign ts h) refl
  where
    no_sign : (us : List Token) → (next_precedence us ≡ 17 → ⊥) → pick implication_of us ≡ None
    no_sign [] k = pick-nil implication_of
    no_sign (u ∷ us) k = pick-no implication_of u us (no_implication u (implication_of u) refl k)

implication-some : (d : ℕ) (i : Implication) (a c : SequenceForm) (t : Token) (us rest : List Token)
    → implication_of t ≡ Some i → whole d us ≡ Some (c, rest) → implication_behind d a (t ∷ us)
    ≡ Some (implication None a i c, rest)
unfolding implication_behind
implication-some d i a c t us rest h k = rw (pick-is implication_of i t us h, k) refl

-- Where a seq is read, a prop goes on with its implication.
record Grouped (d : ℕ) (s : SequenceForm) (ts rest : List Token) : Type 0 where
  inside : SequenceForm
  right : Token
  after : List Token
  first : SequenceForm
  middle : List Token
  marked : terminal right ≡ CloseRound
  read : (sequences d).whole ts ≡ Some (inside, right ∷ after)
  regroups : regroup d inside after ≡ Some (first, middle)
  goes_on : sequence_behind d first middle ≡ Some (s, rest)

during-opens : (d : ℕ) (t : Token) (ts : List Token) → terminal t ≡ OpenRound
    → during d (t ∷ ts) ≡ (body d (t ∷ ts) >>= λ p. during_behind d (sequences d) p.0 p.1)
unfolding during_with
during-opens d t ts o = rw (expect-not Delay t ts (λ e. absurd cc)) refl

body-opens : (d : ℕ) (t : Token) (ts : List Token) → terminal t ≡ OpenRound
    → body d (t ∷ ts) ≡ ((sequences d).whole ts >>= λ p. expect CloseRound p.1 >>= λ r. regroup d p.0 r.1)
unfolding body_with
body-opens d t ts o = rw (expect-is OpenRound t ts o) refl

grouped : (d : ℕ) (t : Token) (ts : List Token) (s : SequenceForm) (rest : List Token) → terminal t ≡ OpenRound
    → whole d (t ∷ ts) ≡ Some (s, rest) → Grouped d s ts rest
unfolding whole whole_with sequence_behind
grouped d t ts s rest o h =
    let first = (sequences d).whole ts in
    bind-then (during d (t ∷ ts)) (λ (p : SequenceForm × List Token). sides_behind d (sequences d) p.0 p.1) (s, rest) h
    (λ a a_is a_rest.
    let b : (body d (t ∷ ts) >>= λ p. during_behind d (sequences d) p.0 p.1) ≡ Some a =
    sym (during-opens d t ts o) ∙ a_is in
    bind-then (body d (t ∷ ts)) (λ (p : SequenceForm × List Token). during_behind d (sequences d) p.0 p.1) a b
    (λ c c_is c_rest.
    let e : (first >>= λ p. expect CloseRound p.1 >>= λ r. regroup d p.0 r.1) ≡ Some c =
    sym (body-opens d t ts o) ∙ c_is in
    bind-then first (λ (p : SequenceForm × List Token). expect CloseRound p.1 >>= λ r. regroup d p.0 r.1) c e
    (λ f f_is f_rest.
    bind-then (expect CloseRound f.1) (λ (r : Token × List Token). regroup d f.0 r.1) c f_rest
    (λ g g_is g_rest.
    let k = expect-some CloseRound f.1 g g_is in
    record {
      inside = f.0;
      right = g.0;
      after = g.1;
      first = c.0;
      middle = c.1;
      marked = k.marked;
      read = f_is ∙ ap (λ (us : List Token). Some (f.0, us)) k.parts;
      regroups = g_rest;
      goes_on =
          ap (λ (o : Option (SequenceForm × List Token)). o >>= λ p. sides_behind d (sequences d) p.0 p.1) c_rest
          ∙ a_rest;
    }))))

-- no sequence begins with the word of a first match
foreign : (t : Token) → is_first_match_word t ≡ true → terminal t ≡ ForeignWord
unfolding is_first_match_word
foreign t h = is-true ForeignWord t (and_parts (is ForeignWord t) _ h).0

foreign-none : (d : ℕ) (t : Token) (ts : List Token) → terminal t ≡ ForeignWord → whole d (t ∷ ts) ≡ None
unfolding whole whole_with during_with body_with expression prefixed_with mark
foreign-none d t ts h =
    rw (expect-not Delay t ts (λ e. absurd cc), expect-not OpenRound t ts (λ e. absurd cc), h) refl

unled_by : (d : ℕ) (ts : List Token) (p : SequenceForm × List Token) → whole d ts ≡ Some p
    → (o : Option (Token × List Token)) → lead is_first_match_word ts ≡ o → lead is_first_match_word ts ≡ None
unled_by d ts p h None e = e
unled_by d ts p h (Some q) e =
    let x = lead-some is_first_match_word ts q e in
    let none : whole d ts ≡ None = ap (whole d) x.parts ∙ foreign-none d q.0 q.1 (foreign q.0 x.passes) in
    absurd cc

unled : (d : ℕ) (ts : List Token) (p : SequenceForm × List Token) → whole d ts ≡ Some p
    → lead is_first_match_word ts ≡ None
unled d ts p h = unled_by d ts p h (lead is_first_match_word ts) refl

-- nor does anything else
pub unled-other : (t : Token) (ts : List Token) → (terminal t ≡ ForeignWord → ⊥)
    → lead is_first_match_word (t ∷ ts) ≡ None
unled-other t ts other = lead-false is_first_match_word t ts (false_from_ne_true _ (λ h. other (foreign t h)))

unled-open : (t : Token) (ts : List Token) → terminal t ≡ OpenRound → lead is_first_match_word (t ∷ ts) ≡ None
unled-open t ts o = unled-other t ts (λ e. absurd cc)

abbrev GoesOn : ℕ → Type 0
GoesOn d =
    (ts : List Token) (s : SequenceForm) (rest : List Token) → whole d ts ≡ Some (s, rest)
    → property d ts ≡ implication_behind d s rest

no_inside : (ts : List Token) (p : SequenceForm × List Token) → (sequences zero).whole ts ≡ Some p → ⊥
unfolding sequences
no_inside ts p h = cc

inner-whole : (d : ℕ) (ts : List Token) → (sequences (suc d)).whole ts ≡ whole d ts
unfolding sequences whole
inner-whole d ts = refl

inner-property : (d : ℕ) (ts : List Token) → properties (suc d) ts ≡ property d ts
unfolding properties property
inner-property d ts = refl

property-plain : (d : ℕ) (ts : List Token) (s : SequenceForm) (rest : List Token) → expect OpenRound ts ≡ None
    → whole d ts ≡ Some (s, rest) → property d ts ≡ implication_behind d s rest
unfolding property property_with
property-plain d ts s rest e h = rw (unled d ts (s, rest) h, e, h) refl

property-opens : (d : ℕ) (t c : Token) (ts vs : List Token) (p : PropertyForm) → terminal t ≡ OpenRound
    → properties d ts ≡ Some (p, c ∷ vs) → terminal c ≡ CloseRound → property d (t ∷ ts) ≡ regroup_property d p vs
unfolding property property_with
property-opens d t c ts vs p o h k =
    rw (unled-open t ts o, expect-is OpenRound t ts o, h, expect-is CloseRound c vs k) refl

regroup-plain : (d : ℕ) (x : SequenceForm) (vs : List Token) (y : SequenceForm) (ws : List Token) (z : SequenceForm)
    (us : List Token) → regroup d x vs ≡ Some (y, ws) → sequence_behind d y ws ≡ Some (z, us)
    → regroup_property d (plain x) vs ≡ implication_behind d z us
unfolding regroup_property
regroup-plain d x vs y ws z us a b = rw (a, b) refl

property-group : (d : ℕ) → GoesOn d → (t : Token) (ts : List Token) (s : SequenceForm) (rest : List Token)
    → terminal t ≡ OpenRound → Grouped (suc d) s ts rest → property (suc d) (t ∷ ts)
    ≡ implication_behind (suc d) s rest
property-group d inner t ts s rest o g =
    let h : whole d ts ≡ Some (g.inside, g.right ∷ g.after) = sym (inner-whole d ts) ∙ g.read in
    let p : property d ts ≡ Some (plain g.inside, g.right ∷ g.after) =
    inner ts g.inside (g.right ∷ g.after) h
    ∙ implication-none d g.inside (g.right ∷ g.after) (λ e. omega (arith, precedence-CloseRound g.right g.marked))
    in
    property-opens (suc d) t g.right ts g.after (plain g.inside) o (inner-property d ts ∙ p) g.marked
    ∙ regroup-plain (suc d) g.inside g.after g.first g.middle s rest g.regroups g.goes_on

goes_on_by : (d : ℕ) (ts : List Token) (s : SequenceForm) (rest : List Token) → whole d ts ≡ Some (s, rest)
    → ((t : Token) (us : List Token) → terminal t ≡ OpenRound → Grouped d s us rest → property d (t ∷ us)
    ≡ implication_behind d s rest) → (o : Option (Token × List Token)) → expect OpenRound ts ≡ o
    → property d ts ≡ implication_behind d s rest
goes_on_by d ts s rest h group None e = property-plain d ts s rest e h
goes_on_by d ts s rest h group (Some q) e =
    let x = expect-some OpenRound ts q e in
    ap (property d) x.parts
    ∙ group q.0 q.1 x.marked (grouped d q.0 q.1 s rest x.marked (ap (whole d) (sym x.parts) ∙ h))

pub goes_on : (d : ℕ) → GoesOn d
goes_on zero ts s rest h =
    goes_on_by zero ts s rest h (λ t us o g. absurd (no_inside us (g.inside, g.right ∷ g.after) g.read))
    (expect OpenRound ts) refl
goes_on (suc d) ts s rest h =
    goes_on_by (suc d) ts s rest h (λ t us o g. property-group d (goes_on d) t us s rest o g) (expect OpenRound ts)
    refl

pub whole-read : {d : ℕ} {s : SequenceForm} {ts rest : List Token} → IsSequence d s ts rest → 16 < next_precedence rest
    → whole d ts ≡ Some (s, rest)
unfolding whole
whole-read w le = sequence-read w le

regroup-stays : (d : ℕ) (p : PropertyForm) (ts : List Token) → 17 < next_precedence ts → regroup_property d p ts
    ≡ Some (p, ts)
unfolding regroup_property
regroup-stays d (plain s) ts h =
    rw (regroup-none d s ts (omega arith), sequence-none d s ts (omega arith))
    (implication-none d s ts (λ e. omega arith))
regroup-stays d (implication w a i c) ts h = refl

first-read : (d : ℕ) (word left right t : Token) (i : Implication) (a c : SequenceForm) (ts us rest : List Token)
    → is_first_match_word word ≡ true → terminal left ≡ OpenRound
    → (sequences (suc d)).whole ts ≡ Some (a, right ∷ t ∷ us) → terminal right ≡ CloseRound
    → implication_of t ≡ Some i → whole (suc d) us ≡ Some (c, rest)
    → property (suc d) (word ∷ left ∷ ts) ≡ Some (implication (Some word) a i c, rest)
unfolding property property_with first_behind
first-read d word left right t i a c ts us rest is o h r k w =
    rw (
      lead-true is_first_match_word word (left ∷ ts) is,
      expect-is OpenRound left ts o,
      h,
      expect-is CloseRound right (t ∷ us) r,
      pick-is implication_of i t us k,
      w,
    ) refl

pub property-read : {d : ℕ} {p : PropertyForm} {ts rest : List Token} → IsProperty d p ts rest
    → 17 < next_precedence rest → property d ts ≡ Some (p, rest)
property-read (is_plain {d = d} {s = s} {ts = ts} {rest = rest} w) le =
    goes_on d ts s rest (whole-read w (omega arith)) ∙ implication-none d s rest (λ e. omega arith)
property-read (is_implication {d = d} {t = t} {i = i} {a = a} {c = c} {ts = ts} {us = us} {rest = rest} k v w) le =
    goes_on d ts a (t ∷ us) (whole-read v (omega (arith, implication-precedence t i k)))
    ∙ implication-some d i a c t us rest k (whole-read w (omega arith))
property-read
    (is_first {d = d} {word = word} {left = left} {right = right} {t = t} {i = i} {a = a} {c = c} {ts = ts} {us = us}
    {rest = rest} is o v r k w) le =
    first-read d word left right t i a c ts us rest is o
    (inner-whole d ts ∙ whole-read v (omega (arith, precedence-CloseRound right r))) r k
    (whole-read w (omega arith))
property-read (bracketed {d = d} {left = left} {right = right} {p = p} {ts = ts} {rest = rest} o c w) le =
    property-opens (suc d) left right ts rest p o
    (inner-property d ts ∙ property-read w (omega (arith, precedence-CloseRound right c))) c
    ∙ regroup-stays (suc d) p rest le

-- the other way: a property that is a sequence is spelled as one
single : {d : ℕ} {s : SequenceForm} {ts rest : List Token} → IsBody d s ts rest → IsSequence d s ts rest
single b = is_conjunction (is_intersection (is_during (is_cat (is_head (is_prompt (is_once b))))))

operand-at : {d : ℕ} {e : Tree} {ts rest : List Token} → expressions.Operand d zero e ts rest
    → expressions.Operand d 9 e ts rest
operand-at o =
    is_tighter
    (is_tighter (is_tighter (is_tighter (is_tighter (is_tighter (is_tighter (is_tighter (is_tighter o))))))))

group-sequence : (d : ℕ) (left right : Token) (s : SequenceForm) (ts rest : List Token) → terminal left ≡ OpenRound
    → terminal right ≡ CloseRound → IsSequence d s ts (right ∷ rest) → IsSequence (suc d) s (left ∷ ts) rest
group-sequence d left right (boolean e) ts rest o c w =
    single
    (is_boolean
    (is_operand (operand-at {d = suc d} (expressions.in_brackets (opening-mark left o) (sequence-is_boolean w) c))))
group-sequence d left right (repeated s n) ts rest o c w = single (in_brackets o c tt w)
group-sequence d left right (late t n s) ts rest o c w = single (in_brackets o c tt w)
group-sequence d left right (delayed s more) ts rest o c w = single (in_brackets o c tt w)
group-sequence d left right (throughout e s) ts rest o c w = single (in_brackets o c tt w)
group-sequence d left right (joined j s more) ts rest o c w = single (in_brackets o c tt w)

property-is_plain : {d : ℕ} {s : SequenceForm} {ts rest : List Token} → IsProperty d (plain s) ts rest
    → IsSequence d s ts rest
property-is_plain (is_plain w) = w
property-is_plain (bracketed {d = d} {left = left} {right = right} {p = plain s} {ts = ts} {rest = rest} o c w) =
    group-sequence d left right s ts rest o c (property-is_plain w)

pub whole-sound : (d : ℕ) → Reads (whole d) (λ s ts rest. IsSequence d s ts rest)
unfolding whole
whole-sound d ts p h = sequence-sound d ts p h

implication_by-sound : (d : ℕ) (s : SequenceForm) (ts us : List Token) (p : PropertyForm × List Token)
    → IsSequence d s ts us → (o : Option (Implication × List Token)) → pick implication_of us ≡ o
    → implication_from d o s us ≡ Some p → IsProperty d p.0 ts p.1
implication_by-sound d s ts us p w None l h =
    let same : (plain s, us) ≡ p = cc (h) in subst (λ (r : PropertyForm × List Token). IsProperty d r.0 ts r.1) same
    (is_plain w)
implication_by-sound d s ts us p w (Some q) l h =
    let a = bind-some (whole d q.1) (λ (p : SequenceForm × List Token). Some (implication None s q.0 p.0, p.1)) p h in
    let same : (implication None s q.0 a.0.0, a.0.1) ≡ p = cc (a.2) in
    let x = pick-some implication_of us q l in
    subst (λ (r : PropertyForm × List Token). IsProperty d r.0 ts r.1) same
    (is_implication x.picked (subst (λ (vs : List Token). IsSequence d s ts vs) x.parts w)
    (whole-sound d q.1 a.0 a.1))

implication-sound : (d : ℕ) (s : SequenceForm) (ts us : List Token) (p : PropertyForm × List Token)
    → IsSequence d s ts us → implication_behind d s us ≡ Some p → IsProperty d p.0 ts p.1
unfolding implication_behind
implication-sound d s ts us p w h = implication_by-sound d s ts us p w (pick implication_of us) refl h

sequence_behind-sound : (d : ℕ) (s : SequenceForm) (ts us : List Token) (p : SequenceForm × List Token)
    → IsBody d s ts us → sequence_behind d s us ≡ Some p → IsSequence d p.0 ts p.1
unfolding sequence_behind
sequence_behind-sound d s ts us p b h =
    let a =
    bind-some (during_behind d (sequences d) s us)
    (λ (p : SequenceForm × List Token). sides_behind d (sequences d) p.0 p.1) p h in
    sides-sound d (is_sound_below d) a.0.0 ts a.0.1 p (behind-sound d (is_sound_below d) s ts us a.0 b a.1) a.2

regroup_property-sound : (d : ℕ) (left right : Token) (q : PropertyForm) (ts vs : List Token)
    (p : PropertyForm × List Token) → terminal left ≡ OpenRound → terminal right ≡ CloseRound
    → IsProperty d q ts (right ∷ vs) → regroup_property (suc d) q vs ≡ Some p → IsProperty (suc d) p.0 (left ∷ ts) p.1
unfolding regroup_property
regroup_property-sound d left right (plain s) ts vs p o c w h =
    let a =
    bind-some (regroup (suc d) s vs) (λ (p : SequenceForm × List Token). sequence_behind (suc d) p.0 p.1
    >>= λ q. implication_behind (suc d) q.0 q.1) p h in
    let b =
    bind-some (sequence_behind (suc d) a.0.0 a.0.1)
    (λ (q : SequenceForm × List Token). implication_behind (suc d) q.0 q.1) p a.2 in
    let body_is = regroup-sound d left right s ts vs a.0 o c (property-is_plain w) a.1 in
    implication-sound (suc d) b.0.0 (left ∷ ts) b.0.1 p
    (sequence_behind-sound (suc d) a.0.0 (left ∷ ts) a.0.1 b.0 body_is b.1) b.2
regroup_property-sound d left right (implication word a i c') ts vs p o c w h =
    let same : (implication word a i c', vs) ≡ p =
    cc (h) in subst (λ (r : PropertyForm × List Token). IsProperty (suc d) r.0 (left ∷ ts) r.1) same
    (bracketed o c w)

abbrev IsSoundInside : ℕ → Type 0
IsSoundInside d =
    Reads (properties d) (λ p ts rest. (left right : Token) (q : PropertyForm × List Token) (vs : List Token)
    → terminal left ≡ OpenRound → terminal right ≡ CloseRound → rest ≡ right ∷ vs → regroup_property d p vs ≡ Some q
    → IsProperty d q.0 (left ∷ ts) q.1)

property_by-sound : (d : ℕ) → IsSoundInside d
    → (ts : List Token) (p : PropertyForm × List Token) (o : Option (Token × List Token)) → expect OpenRound ts ≡ o
    → property_by d (properties d) o ts ≡ Some p → IsProperty d p.0 ts p.1
property_by-sound d inner ts p None l h =
    let a = bind-some (whole d ts) (λ (p : SequenceForm × List Token). implication_behind d p.0 p.1) p h in
    implication-sound d a.0.0 ts a.0.1 p (whole-sound d ts a.0 a.1) a.2
property_by-sound d inner ts p (Some q) l h =
    let x = expect-some OpenRound ts q l in
    let a =
    bind-some (properties d q.1) (λ (p : PropertyForm × List Token). expect CloseRound p.1
    >>= λ r. regroup_property d p.0 r.1) p h in
    let b = bind-some (expect CloseRound a.0.1) (λ (r : Token × List Token). regroup_property d a.0.0 r.1) p a.2 in
    let k = expect-some CloseRound a.0.1 b.0 b.1 in
    subst (λ (us : List Token). IsProperty d p.0 us p.1) (sym x.parts)
    (inner q.1 a.0 a.1 q.0 b.0.0 p b.0.1 x.marked k.marked k.parts b.2)

-- what stood after the word, step by step
first_at : (d : ℕ) (word left right t : Token) (i : Implication) (a c : SequenceForm) (ts rs vs us ws rest : List Token)
    → is_first_match_word word ≡ true → ts ≡ left ∷ rs → terminal left ≡ OpenRound
    → (sequences d).whole rs ≡ Some (a, vs) → vs ≡ right ∷ us → terminal right ≡ CloseRound → us ≡ t ∷ ws
    → implication_of t ≡ Some i → whole d ws ≡ Some (c, rest)
    → IsProperty d (implication (Some word) a i c) (word ∷ ts) rest
first_at zero word left right t i a c ts rs vs us ws rest is left_is o h right_is r t_is k w =
    absurd (no_inside rs (a, vs) h)
first_at (suc d) word left right t i a c ts rs vs us ws rest is left_is o h right_is r t_is k w =
    let inner : IsSequence d a rs vs = whole-sound d rs (a, vs) (sym (inner-whole d rs) ∙ h) in
    let parts : vs ≡ right ∷ t ∷ ws = right_is ∙ ap (λ (xs : List Token). right ∷ xs) t_is in
    subst (λ (xs : List Token). IsProperty (suc d) (implication (Some word) a i c) (word ∷ xs) rest) (sym left_is)
    (is_first is o (subst (λ (xs : List Token). IsSequence d a rs xs) parts inner) r k
    (whole-sound (suc d) ws (c, rest) w))

first-sound : (d : ℕ) (word : Token) (ts : List Token) (p : PropertyForm × List Token) → is_first_match_word word ≡ true
    → first_behind d word ts ≡ Some p → IsProperty d p.0 (word ∷ ts) p.1
unfolding first_behind
first-sound d word ts p is h =
    bind-then (expect OpenRound ts) _ p h
    (λ o o_is o_rest.
    bind-then ((sequences d).whole o.1) _ p o_rest
    (λ a a_is a_rest.
    bind-then (expect CloseRound a.1) _ p a_rest
    (λ r r_is r_rest.
    bind-then (pick implication_of r.1) _ p r_rest
    (λ i i_is i_rest.
    bind-then (whole d i.1) _ p i_rest
    (λ c c_is c_rest.
    let x = expect-some OpenRound ts o o_is in
    let y = expect-some CloseRound a.1 r r_is in
    let z = pick-some implication_of r.1 i i_is in
    let same : (implication (Some word) a.0 i.0 c.0, c.1) ≡ p = cc (c_rest) in
    subst (λ (q : PropertyForm × List Token). IsProperty d q.0 (word ∷ ts) q.1) same
    (first_at d word o.0 r.0 z.token i.0 a.0 c.0 ts o.1 a.1 r.1 i.1 c.1 is x.parts x.marked a_is y.parts y.marked
    z.parts z.picked c_is))))))

property_from-sound : (d : ℕ) → IsSoundInside d
    → (ts : List Token) (p : PropertyForm × List Token) (o : Option (Token × List Token))
    → lead is_first_match_word ts ≡ o
    → property_from d (properties d) o ts ≡ Some p → IsProperty d p.0 ts p.1
property_from-sound d inner ts p None l h = property_by-sound d inner ts p (expect OpenRound ts) refl h
property_from-sound d inner ts p (Some q) l h =
    let x = lead-some is_first_match_word ts q l in
    subst (λ (us : List Token). IsProperty d p.0 us p.1) (sym x.parts) (first-sound d q.0 q.1 p x.passes h)

property_with-sound : (d : ℕ) → IsSoundInside d → Reads (property d) (λ p ts rest. IsProperty d p ts rest)
unfolding property property_with
property_with-sound d inner ts p h = property_from-sound d inner ts p (lead is_first_match_word ts) refl h

inside-zero : IsSoundInside zero
unfolding properties
inside-zero ts p h = absurd cc

inside-suc : (d : ℕ) → Reads (property d) (λ p ts rest. IsProperty d p ts rest) → IsSoundInside (suc d)
inside-suc d ok ts p h left right q vs o c e k =
    let w = ok ts p (sym (inner-property d ts) ∙ h) in
    regroup_property-sound d left right p.0 ts vs q o c (subst (λ (us : List Token). IsProperty d p.0 ts us) e w) k

pub property-sound : (d : ℕ) → Reads (property d) (λ p ts rest. IsProperty d p ts rest)
property-sound zero = property_with-sound zero inside-zero
property-sound (suc d) = property_with-sound (suc d) (inside-suc d (property-sound d))
