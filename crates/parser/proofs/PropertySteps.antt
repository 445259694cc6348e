-- Reading of properties, in the steps of the code.
use Rattle.std.proofs.Common.{◌≡◌, ℕ, suc, ◌+◌, List, [], ◌∷◌, Option, Some, None, option_map, refl, sym, ap, ◌∙◌}
use Rattle.std.proofs.Common.{arith}
use Rattle.lexer.specs.declared.token.Token.{Token}
use Rattle.parser_grammar.specs.declared.operator.Implication.{Implication}
use Rattle.parser_grammar.specs.declared.terminal.Terminal.TheVariants.{OpenRound, CloseRound}
use Rattle.parser_grammar.specs.Operators.{implication_of}
use Rattle.parser_grammar.specs.Trees.{SequenceForm, PropertyForm, plain, implication}
use Rattle.parser_grammar.specs.Terminals.{is_first_match_word}
use Rattle.parser_grammar.specs.Readers.{◌>>=◌, Reader, refuse, lead, expect, pick}
use Rattle.parser_grammar.specs.ReadSequences.{whole, regroup, sequence_behind, implication_behind, regroup_property}
use Rattle.parser_grammar.specs.ReadSequences.{property_with, properties, property, sequences, first_behind}
use Rattle.parser.specs.declared.stop.Stop.{Stop}
use Rattle.parser.specs.Views.{Fails}
use Rattle.parser.proofs.Steps.{failing, none-fails, lead-nil, lead-no, lead-yes}

inner-at : (d k : ℕ) → d ≡ k + 1 → properties d ≡ property k
unfolding properties property
inner-at d k h = let e : d ≡ suc k = omega arith in rw e refl

inner-zero : (d : ℕ) → d ≡ 0 → properties d ≡ refuse
unfolding properties
inner-zero d h = rw h refl

opened-by : (d : ℕ) (ts : List Token) (o : Token) (us : List Token) → lead is_first_match_word ts ≡ None
    → expect OpenRound ts ≡ Some (o, us)
    → property d ts ≡ (properties d us >>= λ p. expect CloseRound p.1 >>= λ r. regroup_property d p.0 r.1)
unfolding property property_with
opened-by d ts o us n h = rw (n, h) refl

-- what follows an opening bracket
abbrev closed : ℕ → Option (PropertyForm × List Token) → Option (PropertyForm × List Token)
closed d o = o >>= λ p. expect CloseRound p.1 >>= λ r. regroup_property d p.0 r.1

opened : (d : ℕ) (ts : List Token) (o : Token) (us : List Token) (k : ℕ) → lead is_first_match_word ts ≡ None
    → expect OpenRound ts ≡ Some (o, us)
    → d ≡ k + 1 → property d ts ≡ closed d (property k us)
opened d ts o us k n h depth =
    opened-by d ts o us n h ∙ ap (λ (r : Reader PropertyForm). closed d (r us)) (inner-at d k depth)

behind-none : (d : ℕ) (o : Option (PropertyForm × List Token)) → o ≡ None → closed d o ≡ None
behind-none d o h = rw (h) refl

behind-unclosed : (d : ℕ) (o : Option (PropertyForm × List Token)) (p : PropertyForm) (vs : List Token)
    → o ≡ Some (p, vs) → expect CloseRound vs ≡ None → closed d o ≡ None
behind-unclosed d o p vs h k = rw (h, k) refl

behind-closed : (d : ℕ) (o : Option (PropertyForm × List Token)) (p : PropertyForm) (vs : List Token) (c : Token)
    (ws : List Token) → o ≡ Some (p, vs) → expect CloseRound vs ≡ Some (c, ws) → closed d o ≡ regroup_property d p ws
behind-closed d o p vs c ws h k = rw (h, k) refl

pub sign-nil : (ts : List Token) → ts ≡ [] → pick implication_of ts ≡ None
unfolding pick
sign-nil ts e = rw e refl

pub sign-no : (ts : List Token) (t : Token) (us : List Token) → ts ≡ t ∷ us → None ≡ implication_of t
    → pick implication_of ts ≡ None
unfolding pick
sign-no ts t us e h = ap (pick implication_of) e ∙ ap (λ (o : Option Implication). option_map (λ i. (i, us)) o) (sym h)

pub sign-yes : (ts : List Token) (t : Token) (us : List Token) (i : Implication) → ts ≡ t ∷ us
    → Some i ≡ implication_of t → pick implication_of ts ≡ Some (i, us)
unfolding pick
sign-yes ts t us i e h =
    ap (pick implication_of) e ∙ ap (λ (o : Option Implication). option_map (λ i. (i, us)) o) (sym h)

pub implication-absent : (d : ℕ) (s : SequenceForm) (ts : List Token) → pick implication_of ts ≡ None
    → implication_behind d s ts ≡ Some (plain s, ts)
unfolding implication_behind
implication-absent d s ts h = rw (h) refl

pub implication-fails : (d : ℕ) (s : SequenceForm) (ts : List Token) (i : Implication) (us : List Token) (x : Stop)
    → pick implication_of ts ≡ Some (i, us) → Fails x (whole d us) → Fails x (implication_behind d s ts)
unfolding implication_behind
implication-fails d s ts i us x h f = failing x _ _ (λ none. rw (h, none) refl) f

pub implication-ok : (d : ℕ) (s : SequenceForm) (ts : List Token) (i : Implication) (us : List Token) (q : SequenceForm)
    (vs : List Token) → pick implication_of ts ≡ Some (i, us) → whole d us ≡ Some (q, vs) → implication_behind d s ts
    ≡ Some (implication None s i q, vs)
unfolding implication_behind
implication-ok d s ts i us q vs h k = rw (h, k) refl

pub regroup-fail1 : (d : ℕ) (s : SequenceForm) (ts : List Token) (x : Stop) → Fails x (regroup d s ts)
    → Fails x (regroup_property d (plain s) ts)
unfolding regroup_property
regroup-fail1 d s ts x f = failing x _ _ (λ none. rw (none) refl) f

pub regroup-fail2 : (d : ℕ) (s : SequenceForm) (ts : List Token) (b : SequenceForm) (us : List Token) (x : Stop)
    → regroup d s ts ≡ Some (b, us) → Fails x (sequence_behind d b us) → Fails x (regroup_property d (plain s) ts)
unfolding regroup_property
regroup-fail2 d s ts b us x h f = failing x _ _ (λ none. rw (h, none) refl) f

pub regroup-tail : (d : ℕ) (s : SequenceForm) (ts : List Token) (b : SequenceForm) (us : List Token) (q : SequenceForm)
    (vs : List Token) → regroup d s ts ≡ Some (b, us) → sequence_behind d b us ≡ Some (q, vs)
    → regroup_property d (plain s) ts ≡ implication_behind d q vs
unfolding regroup_property
regroup-tail d s ts b us q vs h k = rw (h, k) refl

pub regroup-implication : (d : ℕ) (w : Option Token) (a : SequenceForm) (i : Implication) (c : SequenceForm)
    (ts : List Token) → regroup_property d (implication w a i c) ts ≡ Some (implication w a i c, ts)
unfolding regroup_property
regroup-implication d w a i c ts = refl

pub property-plain-fails : (d : ℕ) (ts : List Token) (x : Stop) → lead is_first_match_word ts ≡ None
    → expect OpenRound ts ≡ None → Fails x (whole d ts)
    → Fails x (property d ts)
unfolding property property_with
property-plain-fails d ts x n h f = failing x _ _ (λ none. rw (n, h, none) refl) f

pub property-plain-tail : (d : ℕ) (ts : List Token) (s : SequenceForm) (us : List Token)
    → lead is_first_match_word ts ≡ None
    → expect OpenRound ts ≡ None → whole d ts ≡ Some (s, us) → property d ts ≡ implication_behind d s us
unfolding property property_with
property-plain-tail d ts s us n h k = rw (n, h, k) refl

pub property-deep : (d : ℕ) (ts : List Token) (o : Token) (us : List Token) (x : Stop)
    → lead is_first_match_word ts ≡ None
    → expect OpenRound ts ≡ Some (o, us) → d ≡ 0 → Fails x (property d ts)
unfolding property property_with
property-deep d ts o us x n h z = none-fails x _ (rw (n, h, inner-zero d z) refl)

pub property-fail1 : (d : ℕ) (ts : List Token) (o : Token) (us : List Token) (k : ℕ) (x : Stop)
    → lead is_first_match_word ts ≡ None → expect OpenRound ts ≡ Some (o, us) → d ≡ k + 1
    → Fails x (property k us) → Fails x (property d ts)
property-fail1 d ts o us k x n h depth f =
    failing x _ _ (λ none. opened d ts o us k n h depth ∙ behind-none d (property k us) none) f

pub property-fail2 : (d : ℕ) (ts : List Token) (o : Token) (us : List Token) (k : ℕ) (p : PropertyForm)
    (vs : List Token) (x : Stop) → lead is_first_match_word ts ≡ None → expect OpenRound ts ≡ Some (o, us) → d ≡ k + 1
    → property k us ≡ Some (p, vs)
    → Fails x (expect CloseRound vs) → Fails x (property d ts)
property-fail2 d ts o us k p vs x n h depth h2 f =
    failing x _ _ (λ none. opened d ts o us k n h depth ∙ behind-unclosed d (property k us) p vs h2 none) f

pub property-tail : (d : ℕ) (ts : List Token) (o : Token) (us : List Token) (k : ℕ) (p : PropertyForm) (vs : List Token)
    (c : Token) (ws : List Token) → lead is_first_match_word ts ≡ None → expect OpenRound ts ≡ Some (o, us) → d ≡ k + 1
    → property k us ≡ Some (p, vs)
    → expect CloseRound vs ≡ Some (c, ws) → property d ts ≡ regroup_property d p ws
property-tail d ts o us k p vs c ws n h depth h2 h3 =
    opened d ts o us k n h depth ∙ behind-closed d (property k us) p vs c ws h2 h3

-- after the word of a first match
pub property-led : (d : ℕ) (ts : List Token) (w : Token) (us : List Token) → lead is_first_match_word ts ≡ Some (w, us)
    → property d ts ≡ first_behind d w us
unfolding property property_with
property-led d ts w us h = rw (h) refl

sequence-at : (d k : ℕ) → d ≡ k + 1 → (sequences d).whole ≡ whole k
unfolding sequences whole
sequence-at d k h = let e : d ≡ suc k = omega arith in rw e refl

sequence-zero : (d : ℕ) → d ≡ 0 → (sequences d).whole ≡ refuse
unfolding sequences
sequence-zero d h = rw h refl

-- what follows the opening bracket
abbrev led : ℕ → Token → Option (SequenceForm × List Token) → Option (PropertyForm × List Token)
led d w o =
    o >>= λ p. expect CloseRound p.1 >>= λ r. pick implication_of r.1
    >>= λ i. whole d i.1 >>= λ q. Some (implication (Some w) p.0 i.0 q.0, q.1)

led-by : (d : ℕ) (w : Token) (ts : List Token) (o : Token) (us : List Token) → expect OpenRound ts ≡ Some (o, us)
    → first_behind d w ts ≡ led d w ((sequences d).whole us)
unfolding first_behind
led-by d w ts o us h = rw (h) refl

led-opened : (d : ℕ) (w : Token) (ts : List Token) (o : Token) (us : List Token) (k : ℕ)
    → expect OpenRound ts ≡ Some (o, us) → d ≡ k + 1 → first_behind d w ts ≡ led d w (whole k us)
led-opened d w ts o us k h depth =
    led-by d w ts o us h ∙ ap (λ (r : Reader SequenceForm). led d w (r us)) (sequence-at d k depth)

led-none : (d : ℕ) (w : Token) (q : Option (SequenceForm × List Token)) → q ≡ None → led d w q ≡ None
led-none d w q e = rw (e) refl

led-unclosed : (d : ℕ) (w : Token) (q : Option (SequenceForm × List Token)) (a : SequenceForm) (vs : List Token)
    → q ≡ Some (a, vs) → expect CloseRound vs ≡ None → led d w q ≡ None
led-unclosed d w q a vs e h = rw (e, h) refl

led-unsigned : (d : ℕ) (w : Token) (q : Option (SequenceForm × List Token)) (a : SequenceForm) (vs : List Token)
    (c : Token) (ws : List Token) → q ≡ Some (a, vs) → expect CloseRound vs ≡ Some (c, ws)
    → pick implication_of ws ≡ None → led d w q ≡ None
led-unsigned d w q a vs c ws e h k = rw (e, h, k) refl

led-alone : (d : ℕ) (w : Token) (q : Option (SequenceForm × List Token)) (a : SequenceForm) (vs : List Token)
    (c : Token) (ws : List Token) (i : Implication) (xs : List Token) → q ≡ Some (a, vs)
    → expect CloseRound vs ≡ Some (c, ws) → pick implication_of ws ≡ Some (i, xs) → whole d xs ≡ None
    → led d w q ≡ None
led-alone d w q a vs c ws i xs e h k m = rw (e, h, k, m) refl

led-all : (d : ℕ) (w : Token) (q : Option (SequenceForm × List Token)) (a : SequenceForm) (vs : List Token)
    (c : Token) (ws : List Token) (i : Implication) (xs : List Token) (b : SequenceForm) (ys : List Token)
    → q ≡ Some (a, vs) → expect CloseRound vs ≡ Some (c, ws) → pick implication_of ws ≡ Some (i, xs)
    → whole d xs ≡ Some (b, ys) → led d w q ≡ Some (implication (Some w) a i b, ys)
led-all d w q a vs c ws i xs b ys e h k m = rw (e, h, k, m) refl

pub first-fail1 : (d : ℕ) (w : Token) (ts : List Token) (x : Stop) → Fails x (expect OpenRound ts)
    → Fails x (first_behind d w ts)
unfolding first_behind
first-fail1 d w ts x f = failing x _ _ (λ none. rw (none) refl) f

pub first-deep : (d : ℕ) (w : Token) (ts : List Token) (o : Token) (us : List Token) (x : Stop)
    → expect OpenRound ts ≡ Some (o, us) → d ≡ 0 → Fails x (first_behind d w ts)
first-deep d w ts o us x h z =
    none-fails x _ (led-by d w ts o us h ∙ ap (λ (r : Reader SequenceForm). led d w (r us)) (sequence-zero d z))

pub first-fail2 : (d : ℕ) (w : Token) (ts : List Token) (o : Token) (us : List Token) (k : ℕ) (x : Stop)
    → expect OpenRound ts ≡ Some (o, us) → d ≡ k + 1 → Fails x (whole k us) → Fails x (first_behind d w ts)
first-fail2 d w ts o us k x h depth f =
    failing x _ _ (λ none. led-opened d w ts o us k h depth ∙ led-none d w (whole k us) none) f

pub first-fail3 : (d : ℕ) (w : Token) (ts : List Token) (o : Token) (us : List Token) (k : ℕ) (a : SequenceForm)
    (vs : List Token) (x : Stop) → expect OpenRound ts ≡ Some (o, us) → d ≡ k + 1 → whole k us ≡ Some (a, vs)
    → Fails x (expect CloseRound vs) → Fails x (first_behind d w ts)
first-fail3 d w ts o us k a vs x h depth e f =
    failing x _ _ (λ none. led-opened d w ts o us k h depth ∙ led-unclosed d w (whole k us) a vs e none) f

pub first-fail4 : (d : ℕ) (w : Token) (ts : List Token) (o : Token) (us : List Token) (k : ℕ) (a : SequenceForm)
    (vs : List Token) (c : Token) (ws : List Token) (x : Stop) → expect OpenRound ts ≡ Some (o, us) → d ≡ k + 1
    → whole k us ≡ Some (a, vs) → expect CloseRound vs ≡ Some (c, ws) → Fails x (pick implication_of ws)
    → Fails x (first_behind d w ts)
first-fail4 d w ts o us k a vs c ws x h depth e h2 f =
    failing x _ _ (λ none. led-opened d w ts o us k h depth ∙ led-unsigned d w (whole k us) a vs c ws e h2 none) f

pub first-fail5 : (d : ℕ) (w : Token) (ts : List Token) (o : Token) (us : List Token) (k : ℕ) (a : SequenceForm)
    (vs : List Token) (c : Token) (ws : List Token) (i : Implication) (xs : List Token) (x : Stop)
    → expect OpenRound ts ≡ Some (o, us) → d ≡ k + 1 → whole k us ≡ Some (a, vs)
    → expect CloseRound vs ≡ Some (c, ws) → pick implication_of ws ≡ Some (i, xs) → Fails x (whole d xs)
    → Fails x (first_behind d w ts)
first-fail5 d w ts o us k a vs c ws i xs x h depth e h2 h3 f =
    failing x _ _
    (λ none. led-opened d w ts o us k h depth ∙ led-alone d w (whole k us) a vs c ws i xs e h2 h3 none) f

pub first-ok : (d : ℕ) (w : Token) (ts : List Token) (o : Token) (us : List Token) (k : ℕ) (a : SequenceForm)
    (vs : List Token) (c : Token) (ws : List Token) (i : Implication) (xs : List Token) (b : SequenceForm)
    (ys : List Token) → expect OpenRound ts ≡ Some (o, us) → d ≡ k + 1 → whole k us ≡ Some (a, vs)
    → expect CloseRound vs ≡ Some (c, ws) → pick implication_of ws ≡ Some (i, xs) → whole d xs ≡ Some (b, ys)
    → first_behind d w ts ≡ Some (implication (Some w) a i b, ys)
first-ok d w ts o us k a vs c ws i xs b ys h depth e h2 h3 m =
    led-opened d w ts o us k h depth ∙ led-all d w (whole k us) a vs c ws i xs b ys e h2 h3 m

pub ruleset for_first_word = (lead-nil, lead-no, lead-yes)

pub ruleset for_first =
    (first-fail1, first-deep, first-fail2, first-fail3, first-fail4, first-fail5, first-ok)

pub ruleset for_accept = (sign-nil, sign-no, sign-yes)

pub ruleset for_implication = (implication-absent, implication-fails, implication-ok)

pub ruleset for_regroup = (regroup-fail1, regroup-fail2, regroup-tail, regroup-implication)

pub ruleset for_property = (
  property-led,
  property-plain-fails,
  property-plain-tail,
  property-deep,
  property-fail1,
  property-fail2,
  property-tail,
)
