-- Reading of sequences, in the steps of the code.
use Rattle.std.proofs.Common.{◌≡◌, ℕ, suc, ◌+◌, ◌-◌, List, Option, Some, None, refl, sym, ap, ◌∙◌, arith}
use Rattle.lexer.specs.declared.token.Token.{Token}
use Rattle.parser_grammar.specs.declared.bound.Bound.{Bound}
use Rattle.parser_grammar.specs.declared.bound.Range.{Range}
use Rattle.parser_grammar.specs.declared.operator.Junction.TheVariants as junctions
use Rattle.parser_grammar.specs.declared.terminal.Terminal.TheVariants.{OpenRound, CloseRound, OpenSquare, OpenRepeat}
use Rattle.parser_grammar.specs.declared.terminal.Terminal.TheVariants.{CloseSquare, Colon, Delay, Throughout}
use Rattle.parser_grammar.specs.declared.terminal.Terminal.TheVariants.{Intersect, And}
use Rattle.parser_grammar.specs.declared.terminal.Terminal.TheVariants.{Or}
use Rattle.parser_grammar.specs.Terminals.{is}
use Rattle.parser_grammar.specs.Bounds.{bound_within}
use Rattle.parser_grammar.specs.Trees.{Tree, SequenceForm, boolean, repeated, late, delayed, throughout, joined}
use Rattle.parser_grammar.specs.Readers.{◌>>=◌, refuse, expect, pick, optional, each}
use Rattle.parser_grammar.specs.ReadExpressions.{expression, finish}
use Rattle.parser_grammar.specs.ReadSequences.{times, range_between, delay, regroup, body_with, with_times}
use Rattle.parser_grammar.specs.ReadSequences.{repeat_behind}
use Rattle.parser_grammar.specs.ReadSequences.{repetition_with, late_part, with_steps, delayed_behind, cat_behind}
use Rattle.parser_grammar.specs.ReadSequences.{during_behind, during_with, with_others, conjunction_behind}
use Rattle.parser_grammar.specs.ReadSequences.{conjunction_with}
use Rattle.parser_grammar.specs.ReadSequences.{intersection_behind, intersection_with}
use Rattle.parser_grammar.specs.ReadSequences.{alternatives_behind, sides_behind, whole_with, sequences}
use Rattle.parser_grammar.specs.ReadSequences.{throughout_reader}
use Rattle.parser_grammar.specs.ReadSequences.{whole, sequence_behind}
use Rattle.parser.specs.declared.stop.Stop.{Stop}
use Rattle.parser.specs.Views.{Fails}
use Rattle.parser.specs.Bodies.{HasNoThroughout}
use Rattle.parser_grammar.specs.Sequences.{IsNoExpression}
use Rattle.parser.proofs.Steps.{failing, none-fails, below, optional-absent, optional-present}
use Rattle.parser.proofs.Steps.{optional-fails}

whole-at : (d k : ℕ) → d ≡ k + 1 → (sequences d).whole ≡ whole k
unfolding sequences whole
whole-at d k h = let e : d ≡ suc k = omega arith in rw e refl

whole-zero : (d : ℕ) → d ≡ 0 → (sequences d).whole ≡ refuse
unfolding sequences
whole-zero d h = rw h refl

during-at : (d k : ℕ) → d ≡ k + 1 → (sequences d).during ≡ throughout_reader k
unfolding sequences throughout_reader
during-at d k h = let e : d ≡ suc k = omega arith in rw e refl

during-zero : (d : ℕ) → d ≡ 0 → (sequences d).during ≡ refuse
unfolding sequences
during-zero d h = rw h refl

times-at : (d k : ℕ) → d ≡ k + 1 → (sequences d).times ≡ times
unfolding sequences
times-at d k h = let e : d ≡ suc k = omega arith in rw e refl

times-zero : (d : ℕ) → d ≡ 0 → (sequences d).times ≡ refuse
unfolding sequences
times-zero d h = rw h refl

between-at : (d k : ℕ) → d ≡ k + 1 → (sequences d).between ≡ range_between
unfolding sequences
between-at d k h = let e : d ≡ suc k = omega arith in rw e refl

between-zero : (d : ℕ) → d ≡ 0 → (sequences d).between ≡ refuse
unfolding sequences
between-zero d h = rw h refl

pub times-fail1 : (ts : List Token) (x : Stop) → Fails x (pick (bound_within 0 127) ts) → Fails x (times ts)
unfolding times
times-fail1 ts x f = failing x _ _ (λ none. rw (none) refl) f

pub times-fail2 : (ts : List Token) (i : Bound) (us : List Token) (x : Stop) → pick (bound_within 0 127) ts
    ≡ Some (i, us) → Fails x (optional Colon (pick (bound_within i.value 127)) us) → Fails x (times ts)
unfolding times
times-fail2 ts i us x h1 f = failing x _ _ (λ none. rw (h1, none) refl) f

pub times-fail3 : (ts : List Token) (i : Bound) (us : List Token) (j : Option Bound) (vs : List Token) (x : Stop)
    → pick (bound_within 0 127) ts ≡ Some (i, us) → optional Colon (pick (bound_within i.value 127)) us ≡ Some (j, vs)
    → Fails x (expect CloseSquare vs) → Fails x (times ts)
unfolding times
times-fail3 ts i us j vs x h1 h2 f = failing x _ _ (λ none. rw (h1, h2, none) refl) f

pub times-ok : (ts : List Token) (i : Bound) (us : List Token) (j : Option Bound) (vs : List Token) (c : Token)
    (ws : List Token) → pick (bound_within 0 127) ts ≡ Some (i, us)
    → optional Colon (pick (bound_within i.value 127)) us ≡ Some (j, vs) → expect CloseSquare vs ≡ Some (c, ws)
    → times ts ≡ Some (record { low = i; high = j }, ws)
unfolding times
times-ok ts i us j vs c ws h1 h2 h3 = rw (h1, h2, h3) refl

pub between-fail1 : (ts : List Token) (x : Stop) → Fails x (pick (bound_within 0 127) ts) → Fails x (range_between ts)
unfolding range_between
between-fail1 ts x f = failing x _ _ (λ none. rw (none) refl) f

pub between-fail2 : (ts : List Token) (i : Bound) (us : List Token) (x : Stop) → pick (bound_within 0 127) ts
    ≡ Some (i, us) → Fails x (expect Colon us) → Fails x (range_between ts)
unfolding range_between
between-fail2 ts i us x h1 f = failing x _ _ (λ none. rw (h1, none) refl) f

pub between-fail3 : (ts : List Token) (i : Bound) (us : List Token) (m : Token) (ms : List Token) (x : Stop)
    → pick (bound_within 0 127) ts ≡ Some (i, us) → expect Colon us ≡ Some (m, ms)
    → Fails x (pick (bound_within i.value 127) ms) → Fails x (range_between ts)
unfolding range_between
between-fail3 ts i us m ms x h1 h2 f = failing x _ _ (λ none. rw (h1, h2, none) refl) f

pub between-fail4 : (ts : List Token) (i : Bound) (us : List Token) (m : Token) (ms : List Token) (j : Bound)
    (vs : List Token) (x : Stop) → pick (bound_within 0 127) ts ≡ Some (i, us) → expect Colon us ≡ Some (m, ms)
    → pick (bound_within i.value 127) ms ≡ Some (j, vs) → Fails x (expect CloseSquare vs) → Fails x (range_between ts)
unfolding range_between
between-fail4 ts i us m ms j vs x h1 h2 h3 f = failing x _ _ (λ none. rw (h1, h2, h3, none) refl) f

pub between-ok : (ts : List Token) (i : Bound) (us : List Token) (m : Token) (ms : List Token) (j : Bound)
    (vs : List Token) (c : Token) (ws : List Token) → pick (bound_within 0 127) ts ≡ Some (i, us)
    → expect Colon us ≡ Some (m, ms) → pick (bound_within i.value 127) ms ≡ Some (j, vs) → expect CloseSquare vs
    ≡ Some (c, ws) → range_between ts ≡ Some (record { low = i; high = Some j }, ws)
unfolding range_between
between-ok ts i us m ms j vs c ws h1 h2 h3 h4 = rw (h1, h2, h3, h4) refl

pub delay-plain-fails : (d : ℕ) (ts : List Token) (x : Stop) → expect OpenSquare ts ≡ None
    → Fails x (pick (bound_within 0 127) ts) → Fails x (delay (sequences d) ts)
unfolding delay
delay-plain-fails d ts x h f = failing x _ _ (λ none. rw (h, none) refl) f

pub delay-plain-ok : (d : ℕ) (ts : List Token) (i : Bound) (us : List Token) → expect OpenSquare ts ≡ None
    → pick (bound_within 0 127) ts ≡ Some (i, us) → delay (sequences d) ts
    ≡ Some (record { low = i; high = None }, us)
unfolding delay
delay-plain-ok d ts i us h k = rw (h, k) refl

pub delay-deep : (d : ℕ) (ts : List Token) (t : Token) (us : List Token) → expect OpenSquare ts ≡ Some (t, us) → d ≡ 0
    → delay (sequences d) ts ≡ None
unfolding delay
delay-deep d ts t us h z = rw (h, between-zero d z) refl

pub delay-tail : (d : ℕ) (ts : List Token) (t : Token) (us : List Token) → expect OpenSquare ts ≡ Some (t, us)
    → (d ≡ 0 → ⊥) → delay (sequences d) ts ≡ range_between us
unfolding delay
delay-tail d ts t us h e = rw (h, between-at d (d - 1) (below d e)) refl

pub regroup-fails : (d : ℕ) (s : SequenceForm) (e : Tree) (ts : List Token) (x : Stop) → boolean e ≡ s
    → Fails x (finish d e ts) → Fails x (regroup d s ts)
unfolding regroup
regroup-fails d s e ts x same f = failing x _ _ (λ none. rw (← same, none) refl) f

pub regroup-ok : (d : ℕ) (s : SequenceForm) (e : Tree) (ts : List Token) (g : Tree) (us : List Token) → boolean e ≡ s
    → finish d e ts ≡ Some (g, us) → regroup d s ts ≡ Some (boolean g, us)
unfolding regroup
regroup-ok d s e ts g us same h = rw (← same, h) refl

regroup-proper : (d : ℕ) (s : SequenceForm) (ts : List Token) → IsNoExpression s → regroup d s ts ≡ Some (s, ts)
unfolding regroup
regroup-proper d (boolean e) ts w = absurd w
regroup-proper d (repeated s n) ts w = refl
regroup-proper d (late t n s) ts w = refl
regroup-proper d (delayed s more) ts w = refl
regroup-proper d (throughout e s) ts w = refl
regroup-proper d (joined j s more) ts w = refl

pub regroup-same : (d : ℕ) (s b : SequenceForm) (ts : List Token) → b ≡ s → IsNoExpression b
    → regroup d s ts ≡ Some (b, ts)
regroup-same d s b ts same w = ap (λ (r : SequenceForm). regroup d r ts) (sym same) ∙ regroup-proper d b ts w

pub counts-absent : (d : ℕ) (ts : List Token) → expect OpenRepeat ts ≡ None → optional OpenRepeat (sequences d).times ts
    ≡ Some (None, ts)
unfolding optional
counts-absent d ts h = rw (h) refl

pub counts-deep : (d : ℕ) (ts : List Token) (t : Token) (us : List Token) → expect OpenRepeat ts ≡ Some (t, us) → d ≡ 0
    → optional OpenRepeat (sequences d).times ts ≡ None
unfolding optional
counts-deep d ts t us h z = rw (h, times-zero d z) refl

pub counts-fails : (d : ℕ) (ts : List Token) (t : Token) (us : List Token) (x : Stop) → expect OpenRepeat ts
    ≡ Some (t, us) → (d ≡ 0 → ⊥) → Fails x (times us) → Fails x (optional OpenRepeat (sequences d).times ts)
unfolding optional
counts-fails d ts t us x h e f = failing x _ _ (λ none. rw (h, times-at d (d - 1) (below d e), none) refl) f

pub counts-ok : (d : ℕ) (ts : List Token) (t : Token) (us : List Token) (n : Range) (vs : List Token)
    → expect OpenRepeat ts ≡ Some (t, us) → (d ≡ 0 → ⊥) → times us ≡ Some (n, vs)
    → optional OpenRepeat (sequences d).times ts ≡ Some (Some n, vs)
unfolding optional
counts-ok d ts t us n vs h e k = rw (h, times-at d (d - 1) (below d e), k) refl

pub repeat-fails : (d : ℕ) (s : SequenceForm) (ts : List Token) (x : Stop)
    → Fails x (optional OpenRepeat (sequences d).times ts) → Fails x (repeat_behind (sequences d) s ts)
unfolding repeat_behind
repeat-fails d s ts x f = failing x _ _ (λ none. rw (none) refl) f

pub repeat-ok : (d : ℕ) (s : SequenceForm) (ts : List Token) (n : Option Range) (vs : List Token)
    → optional OpenRepeat (sequences d).times ts ≡ Some (n, vs) → repeat_behind (sequences d) s ts
    ≡ Some (with_times s n, vs)
unfolding repeat_behind
repeat-ok d s ts n vs h = rw (h) refl

pub body-plain-fails : (d : ℕ) (ts : List Token) (x : Stop) → expect OpenRound ts ≡ None → Fails x (expression d ts)
    → Fails x (body_with d (sequences d) ts)
unfolding body_with
body-plain-fails d ts x h f = failing x _ _ (λ none. rw (h, none) refl) f

pub body-plain-ok : (d : ℕ) (ts : List Token) (e : Tree) (us : List Token) → expect OpenRound ts ≡ None
    → expression d ts ≡ Some (e, us) → body_with d (sequences d) ts ≡ Some (boolean e, us)
unfolding body_with
body-plain-ok d ts e us h k = rw (h, k) refl

pub body-deep : (d : ℕ) (ts : List Token) (o : Token) (us : List Token) (x : Stop) → expect OpenRound ts ≡ Some (o, us)
    → d ≡ 0 → Fails x (body_with d (sequences d) ts)
unfolding body_with
body-deep d ts o us x h z = none-fails x _ (rw (h, whole-zero d z) refl)

pub body-fail1 : (d : ℕ) (ts : List Token) (o : Token) (us : List Token) (k : ℕ) (x : Stop) → expect OpenRound ts
    ≡ Some (o, us) → d ≡ k + 1 → Fails x (whole k us) → Fails x (body_with d (sequences d) ts)
unfolding body_with
body-fail1 d ts o us k x h depth f = failing x _ _ (λ none. rw (h, whole-at d k depth, none) refl) f

pub body-fail2 : (d : ℕ) (ts : List Token) (o : Token) (us : List Token) (k : ℕ) (s : SequenceForm) (vs : List Token)
    (x : Stop) → expect OpenRound ts ≡ Some (o, us) → d ≡ k + 1 → whole k us ≡ Some (s, vs)
    → Fails x (expect CloseRound vs) → Fails x (body_with d (sequences d) ts)
unfolding body_with
body-fail2 d ts o us k s vs x h depth h2 f = failing x _ _ (λ none. rw (h, whole-at d k depth, h2, none) refl) f

pub body-tail : (d : ℕ) (ts : List Token) (o : Token) (us : List Token) (k : ℕ) (s : SequenceForm) (vs : List Token)
    (c : Token) (ws : List Token) → expect OpenRound ts ≡ Some (o, us) → d ≡ k + 1 → whole k us ≡ Some (s, vs)
    → expect CloseRound vs ≡ Some (c, ws) → body_with d (sequences d) ts ≡ regroup d s ws
unfolding body_with
body-tail d ts o us k s vs c ws h depth h2 h3 = rw (h, whole-at d k depth, h2, h3) refl

pub late-part-fail1 : (d : ℕ) (ts : List Token) (x : Stop) → Fails x (delay (sequences d) ts)
    → Fails x (late_part d (sequences d) ts)
unfolding late_part repetition_with
late-part-fail1 d ts x f = failing x _ _ (λ none. rw (none) refl) f

pub late-part-fail2 : (d : ℕ) (ts : List Token) (n : Range) (us : List Token) (x : Stop) → delay (sequences d) ts
    ≡ Some (n, us) → Fails x (body_with d (sequences d) us) → Fails x (late_part d (sequences d) ts)
unfolding late_part repetition_with
late-part-fail2 d ts n us x h1 f = failing x _ _ (λ none. rw (h1, none) refl) f

pub late-part-fail3 : (d : ℕ) (ts : List Token) (n : Range) (us : List Token) (b : SequenceForm) (vs : List Token)
    (x : Stop) → delay (sequences d) ts ≡ Some (n, us) → body_with d (sequences d) us ≡ Some (b, vs)
    → Fails x (repeat_behind (sequences d) b vs) → Fails x (late_part d (sequences d) ts)
unfolding late_part repetition_with
late-part-fail3 d ts n us b vs x h1 h2 f = failing x _ _ (λ none. rw (h1, h2, none) refl) f

pub late-part-ok : (d : ℕ) (ts : List Token) (n : Range) (us : List Token) (b : SequenceForm) (vs : List Token)
    (s : SequenceForm) (ws : List Token) → delay (sequences d) ts ≡ Some (n, us) → body_with d (sequences d) us
    ≡ Some (b, vs) → repeat_behind (sequences d) b vs ≡ Some (s, ws) → late_part d (sequences d) ts
    ≡ Some ((n, s), ws)
unfolding late_part repetition_with
late-part-ok d ts n us b vs s ws h1 h2 h3 = rw (h1, h2, h3) refl

pub delayed-fails : (d : ℕ) (s : SequenceForm) (ts : List Token) (x : Stop)
    → Fails x (each (is Delay) (λ t. late_part d (sequences d)) ts) → Fails x (delayed_behind d (sequences d) s ts)
unfolding delayed_behind
delayed-fails d s ts x f = failing x _ _ (λ none. rw (none) refl) f

pub delayed-ok : (d : ℕ) (s : SequenceForm) (ts : List Token) (xs : List (Range × SequenceForm)) (us : List Token)
    → each (is Delay) (λ t. late_part d (sequences d)) ts ≡ Some (xs, us) → delayed_behind d (sequences d) s ts
    ≡ Some (with_steps s xs, us)
unfolding delayed_behind
delayed-ok d s ts xs us h = rw (h) refl

pub meet-fails : (d : ℕ) (s : SequenceForm) (ts : List Token) (x : Stop)
    → Fails x (each (is Intersect) (λ t. during_with d (sequences d)) ts)
    → Fails x (intersection_behind d (sequences d) s ts)
unfolding intersection_behind
meet-fails d s ts x f = failing x _ _ (λ none. rw (none) refl) f

pub meet-ok : (d : ℕ) (s : SequenceForm) (ts : List Token) (xs : List SequenceForm) (us : List Token)
    → each (is Intersect) (λ t. during_with d (sequences d)) ts ≡ Some (xs, us) → intersection_behind d
    (sequences d) s ts
    ≡ Some (with_others junctions.Intersect s xs, us)
unfolding intersection_behind
meet-ok d s ts xs us h = rw (h) refl

pub conjunction-fails : (d : ℕ) (s : SequenceForm) (ts : List Token) (x : Stop)
    → Fails x (each (is And) (λ t. intersection_with d (sequences d)) ts)
    → Fails x (conjunction_behind d (sequences d) s ts)
unfolding conjunction_behind
conjunction-fails d s ts x f = failing x _ _ (λ none. rw (none) refl) f

pub conjunction-ok : (d : ℕ) (s : SequenceForm) (ts : List Token) (xs : List SequenceForm) (us : List Token)
    → each (is And) (λ t. intersection_with d (sequences d)) ts ≡ Some (xs, us) → conjunction_behind d
    (sequences d) s ts
    ≡ Some (with_others junctions.And s xs, us)
unfolding conjunction_behind
conjunction-ok d s ts xs us h = rw (h) refl

pub with-during : (d : ℕ) (ts : List Token) (o : Option (SequenceForm × List Token)) → throughout_reader d ts ≡ o
    → during_with d (sequences d) ts ≡ o
unfolding throughout_reader
with-during d ts o h = h

pub with-fails : (d : ℕ) (ts : List Token) (x : Stop) → Fails x (throughout_reader d ts)
    → Fails x (during_with d (sequences d) ts)
unfolding throughout_reader
with-fails d ts x f = f

plain-behind : (d : ℕ) (s : SequenceForm) (ts : List Token) → HasNoThroughout s ts → during_behind d (sequences d) s ts
    ≡ cat_behind d (sequences d) s ts
unfolding during_behind
plain-behind d (boolean e) ts h = rw (h) refl
plain-behind d (repeated s n) ts h = refl
plain-behind d (late t n s) ts h = refl
plain-behind d (delayed s more) ts h = refl
plain-behind d (throughout e s) ts h = refl
plain-behind d (joined j s more) ts h = refl

cat-fails : (d : ℕ) (s : SequenceForm) (ts : List Token) (x : Stop) → Fails x (repeat_behind (sequences d) s ts)
    → Fails x (cat_behind d (sequences d) s ts)
unfolding cat_behind
cat-fails d s ts x f = failing x _ _ (λ none. rw (none) refl) f

cat-tail : (d : ℕ) (s : SequenceForm) (ts : List Token) (h : SequenceForm) (us : List Token)
    → repeat_behind (sequences d) s ts ≡ Some (h, us) → cat_behind d (sequences d) s ts
    ≡ delayed_behind d (sequences d) h us
unfolding cat_behind
cat-tail d s ts h us k = rw (k) refl

pub behind-fails : (d : ℕ) (s b : SequenceForm) (ts : List Token) (x : Stop) → b ≡ s → HasNoThroughout b ts
    → Fails x (repeat_behind (sequences d) b ts) → Fails x (during_behind d (sequences d) s ts)
behind-fails d s b ts x same h f =
    failing x _ _ (λ none. ap (λ (r : SequenceForm). during_behind d (sequences d) r ts) (sym same)
    ∙ plain-behind d b ts h ∙ none) (cat-fails d b ts x f)

pub behind-tail : (d : ℕ) (s b : SequenceForm) (ts : List Token) (g : SequenceForm) (us : List Token) → b ≡ s
    → HasNoThroughout b ts → repeat_behind (sequences d) b ts ≡ Some (g, us) → during_behind d (sequences d) s ts
    ≡ delayed_behind d (sequences d) g us
behind-tail d s b ts g us same h k =
    ap (λ (r : SequenceForm). during_behind d (sequences d) r ts) (sym same) ∙ plain-behind d b ts h
    ∙ cat-tail d b ts g us k

pub behind-deep : (d : ℕ) (s : SequenceForm) (e : Tree) (ts : List Token) (t : Token) (us : List Token) (x : Stop)
    → s ≡ boolean e → expect Throughout ts ≡ Some (t, us) → d ≡ 0 → Fails x (during_behind d (sequences d) s ts)
unfolding during_behind
behind-deep d s e ts t us x same h z = none-fails x _ (rw (same, h, during-zero d z) refl)

pub behind-fail2 : (d : ℕ) (s : SequenceForm) (e : Tree) (ts : List Token) (t : Token) (us : List Token) (k : ℕ)
    (x : Stop) → s ≡ boolean e → expect Throughout ts ≡ Some (t, us) → d ≡ k + 1 → Fails x (throughout_reader k us)
    → Fails x (during_behind d (sequences d) s ts)
unfolding during_behind
behind-fail2 d s e ts t us k x same h depth f = failing x _ _ (λ none. rw (same, h, during-at d k depth, none) refl) f

pub behind-ok : (d : ℕ) (s : SequenceForm) (e : Tree) (ts : List Token) (t : Token) (us : List Token) (k : ℕ)
    (q : SequenceForm) (vs : List Token) → s ≡ boolean e → expect Throughout ts ≡ Some (t, us) → d ≡ k + 1
    → throughout_reader k us ≡ Some (q, vs) → during_behind d (sequences d) s ts ≡ Some (throughout e q, vs)
unfolding during_behind
behind-ok d s e ts t us k q vs same h depth h2 = rw (same, h, during-at d k depth, h2) refl

pub during-plain-fails : (d : ℕ) (ts : List Token) (x : Stop) → expect Delay ts ≡ None
    → Fails x (body_with d (sequences d) ts) → Fails x (throughout_reader d ts)
unfolding throughout_reader during_with
during-plain-fails d ts x h f = failing x _ _ (λ none. rw (h, none) refl) f

pub during-tail : (d : ℕ) (ts : List Token) (b : SequenceForm) (us : List Token) → expect Delay ts ≡ None
    → body_with d (sequences d) ts ≡ Some (b, us) → throughout_reader d ts ≡ during_behind d (sequences d) b us
unfolding throughout_reader during_with
during-tail d ts b us h k = rw (h, k) refl

pub during-late-fails : (d : ℕ) (ts : List Token) (t : Token) (us : List Token) (x : Stop)
    → expect Delay ts ≡ Some (t, us) → Fails x (late_part d (sequences d) us) → Fails x (throughout_reader d ts)
unfolding throughout_reader during_with
during-late-fails d ts t us x h f = failing x _ _ (λ none. rw (h, none) refl) f

pub during-late-tail : (d : ℕ) (ts : List Token) (t : Token) (us : List Token) (n : Range) (s : SequenceForm)
    (vs : List Token) → expect Delay ts ≡ Some (t, us) → late_part d (sequences d) us ≡ Some ((n, s), vs)
    → throughout_reader d ts ≡ delayed_behind d (sequences d) (late t n s) vs
unfolding throughout_reader during_with
during-late-tail d ts t us n s vs h k = rw (h, k) refl

pub conjunct-fail1 : (d : ℕ) (ts : List Token) (x : Stop) → Fails x (throughout_reader d ts)
    → Fails x (intersection_with d (sequences d) ts)
unfolding intersection_with throughout_reader
conjunct-fail1 d ts x f = failing x _ _ (λ none. rw (none) refl) f

pub conjunct-tail : (d : ℕ) (ts : List Token) (s : SequenceForm) (us : List Token) → throughout_reader d ts ≡ Some
    (s, us)
    → intersection_with d (sequences d) ts ≡ intersection_behind d (sequences d) s us
unfolding intersection_with throughout_reader
conjunct-tail d ts s us h = rw (h) refl

pub side-fail1 : (d : ℕ) (ts : List Token) (x : Stop) → Fails x (intersection_with d (sequences d) ts)
    → Fails x (conjunction_with d (sequences d) ts)
unfolding conjunction_with
side-fail1 d ts x f = failing x _ _ (λ none. rw (none) refl) f

pub side-tail : (d : ℕ) (ts : List Token) (s : SequenceForm) (us : List Token) → intersection_with d
    (sequences d) ts ≡ Some (s, us)
    → conjunction_with d (sequences d) ts ≡ conjunction_behind d (sequences d) s us
unfolding conjunction_with
side-tail d ts s us h = rw (h) refl

pub alternatives-fails : (d : ℕ) (s : SequenceForm) (ts : List Token) (x : Stop)
    → Fails x (each (is Or) (λ t. conjunction_with d (sequences d)) ts)
    → Fails x (alternatives_behind d (sequences d) s ts)
unfolding alternatives_behind
alternatives-fails d s ts x f = failing x _ _ (λ none. rw (none) refl) f

pub alternatives-ok : (d : ℕ) (s : SequenceForm) (ts : List Token) (xs : List SequenceForm) (us : List Token)
    → each (is Or) (λ t. conjunction_with d (sequences d)) ts ≡ Some (xs, us)
    → alternatives_behind d (sequences d) s ts ≡ Some (with_others junctions.Or s xs, us)
unfolding alternatives_behind
alternatives-ok d s ts xs us h = rw (h) refl

-- the sides of a sequence, grouped as in its definition or with the first side and its conjuncts together
regrouped : (d : ℕ) (o : Option (SequenceForm × List Token))
    → (o >>= λ p. (conjunction_behind d (sequences d) p.0 p.1 >>= λ q. alternatives_behind d (sequences d) q.0 q.1))
    ≡ ((o >>= λ p. conjunction_behind d (sequences d) p.0 p.1) >>= λ q. alternatives_behind d (sequences d) q.0 q.1)
regrouped d None = refl
regrouped d (Some p) = refl

grouped : (d : ℕ) (o : Option (SequenceForm × List Token)) → (o >>= λ p. sides_behind d (sequences d) p.0 p.1)
    ≡ (((o >>= λ p. intersection_behind d (sequences d) p.0 p.1) >>= λ p. conjunction_behind d (sequences d) p.0 p.1)
    >>= λ q. alternatives_behind d (sequences d) q.0 q.1)
unfolding sides_behind
grouped d None = refl
grouped d (Some p) = regrouped d (intersection_behind d (sequences d) p.0 p.1)

whole-by : (d : ℕ) (ts : List Token)
    → whole d ts ≡ (conjunction_with d (sequences d) ts >>= λ q. alternatives_behind d (sequences d) q.0 q.1)
unfolding whole whole_with conjunction_with intersection_with
whole-by d ts = grouped d (during_with d (sequences d) ts)

pub whole-fails : (d : ℕ) (ts : List Token) (x : Stop) → Fails x (conjunction_with d (sequences d) ts)
    → Fails x (whole d ts)
whole-fails d ts x f = failing x _ _ (λ none. whole-by d ts ∙ rw (none) refl) f

pub whole-tail : (d : ℕ) (ts : List Token) (s : SequenceForm) (us : List Token) → conjunction_with d (sequences d) ts
    ≡ Some (s, us) → whole d ts ≡ alternatives_behind d (sequences d) s us
whole-tail d ts s us h = whole-by d ts ∙ rw (h) refl

pub finish-fail1 : (d : ℕ) (s : SequenceForm) (ts : List Token) (x : Stop)
    → Fails x (during_behind d (sequences d) s ts) → Fails x (sequence_behind d s ts)
unfolding sequence_behind
finish-fail1 d s ts x f = failing x _ _ (λ none. rw (none) refl) f

pub finish-fail2 : (d : ℕ) (s : SequenceForm) (ts : List Token) (p : SequenceForm) (us : List Token) (x : Stop)
    → during_behind d (sequences d) s ts ≡ Some (p, us) → Fails x (intersection_behind d (sequences d) p us)
    → Fails x (sequence_behind d s ts)
unfolding sequence_behind sides_behind
finish-fail2 d s ts p us x h f = failing x _ _ (λ none. rw (h, none) refl) f

pub finish-fail3 : (d : ℕ) (s : SequenceForm) (ts : List Token) (p : SequenceForm) (us : List Token) (q : SequenceForm)
    (vs : List Token) (x : Stop) → during_behind d (sequences d) s ts ≡ Some (p, us)
    → intersection_behind d (sequences d) p us ≡ Some (q, vs) → Fails x (conjunction_behind d (sequences d) q vs)
    → Fails x (sequence_behind d s ts)
unfolding sequence_behind sides_behind
finish-fail3 d s ts p us q vs x h k f = failing x _ _ (λ none. rw (h, k, none) refl) f

pub finish-tail : (d : ℕ) (s : SequenceForm) (ts : List Token) (p : SequenceForm) (us : List Token) (q : SequenceForm)
    (vs : List Token) (r : SequenceForm) (ws : List Token) → during_behind d (sequences d) s ts ≡ Some (p, us)
    → intersection_behind d (sequences d) p us ≡ Some (q, vs) → conjunction_behind d (sequences d) q vs ≡ Some (r, ws)
    → sequence_behind d s ts ≡ alternatives_behind d (sequences d) r ws
unfolding sequence_behind sides_behind
finish-tail d s ts p us q vs r ws h k l = rw (h, k, l) refl

pub ruleset for_optional = (optional-absent, optional-present, optional-fails)

pub ruleset for_delay = (delay-plain-fails, delay-plain-ok, delay-deep, delay-tail)

pub ruleset for_regroup = (regroup-fails, regroup-ok, regroup-same)

pub ruleset for_counts = (counts-absent, counts-deep, counts-fails, counts-ok)
