-- The grammar of sequences and properties as functions.
use Rattle.std.specs.Prelude.{ℕ, zero, suc, List, [], ◌∷◌, Option, Some, None}
use Rattle.lexer.specs.declared.token.Token.{Token}
use Rattle.parser_grammar.specs.declared.bound.Range.{Range}
use Rattle.parser_grammar.specs.declared.operator.Implication.{Implication}
use Rattle.parser_grammar.specs.declared.operator.Junction.{Junction}
use Rattle.parser_grammar.specs.declared.operator.Junction.TheVariants as junctions
use Rattle.parser_grammar.specs.declared.terminal.Terminal.TheVariants.{OpenRound, CloseRound}
use Rattle.parser_grammar.specs.declared.terminal.Terminal.TheVariants.{OpenSquare}
use Rattle.parser_grammar.specs.declared.terminal.Terminal.TheVariants.{OpenRepeat, CloseSquare}
use Rattle.parser_grammar.specs.declared.terminal.Terminal.TheVariants.{Colon}
use Rattle.parser_grammar.specs.declared.terminal.Terminal.TheVariants.{Delay, Throughout}
use Rattle.parser_grammar.specs.declared.terminal.Terminal.TheVariants.{Intersect, And}
use Rattle.parser_grammar.specs.declared.terminal.Terminal.TheVariants.{Or}
use Rattle.parser_grammar.specs.Terminals.{is, is_first_match_word}
use Rattle.parser_grammar.specs.Bounds.{bound_within}
use Rattle.parser_grammar.specs.Operators.{implication_of}
use Rattle.parser_grammar.specs.Trees.{Tree, SequenceForm, boolean, repeated, late, delayed}
use Rattle.parser_grammar.specs.Trees.{throughout}
use Rattle.parser_grammar.specs.Trees.{joined, Steps, no_step, step, Others, no_other, other}
use Rattle.parser_grammar.specs.Trees.{PropertyForm, plain, implication}
use Rattle.parser_grammar.specs.Sequences.{bound}
use Rattle.parser_grammar.specs.Readers.{◌>>=◌, Reader, refuse, lead, expect, pick, optional, each}
use Rattle.parser_grammar.specs.ReadExpressions.{expression, finish}

-- after "[*": NUM [":" NUM] "]"
unfoldable pub times : Reader Range
times ts =
    pick bound ts >>= λ p. optional Colon (pick (bound_within p.0.value 127)) p.1
    >>= λ q. expect CloseSquare q.1 >>= λ r. Some (record { low = p.0; high = q.0 }, r.1)

-- after "##" "[": NUM ":" NUM "]"
unfoldable pub range_between : Reader Range
range_between ts =
    pick bound ts >>= λ p. expect Colon p.1 >>= λ o. pick (bound_within p.0.value 127) o.1
    >>= λ q. expect CloseSquare q.1 >>= λ r. Some (record { low = p.0; high = Some q.0 }, r.1)

-- what may stand inside, one deeper
pub record Inner : Type 0 where
  pub whole : Reader SequenceForm
  pub during : Reader SequenceForm
  pub times : Reader Range
  pub between : Reader Range

abbrev pub delay_by : Inner → Option (Token × List Token) → Reader Range
delay_by inner None ts = pick bound ts >>= λ p. Some (record { low = p.0; high = None }, p.1)
delay_by inner (Some p) ts = inner.between p.1

-- after "##"
unfoldable pub delay : Inner → Reader Range
delay inner ts = delay_by inner (expect OpenSquare ts) ts

-- What stood in brackets: an expression may go on after them.
unfoldable pub regroup : ℕ → SequenceForm → Reader SequenceForm
regroup d (boolean e) ts = finish d e ts >>= λ p. Some (boolean p.0, p.1)
regroup d (repeated s n) ts = Some (repeated s n, ts)
regroup d (late t n s) ts = Some (late t n s, ts)
regroup d (delayed s more) ts = Some (delayed s more, ts)
regroup d (throughout e s) ts = Some (throughout e s, ts)
regroup d (joined j s more) ts = Some (joined j s more, ts)

abbrev pub body_by : ℕ → Inner → Option (Token × List Token) → Reader SequenceForm
body_by d inner None ts = expression d ts >>= λ p. Some (boolean p.0, p.1)
body_by d inner (Some o) ts =
    inner.whole o.1 >>= λ p. expect CloseRound p.1 >>= λ r. regroup d p.0 r.1

-- expr | "(" seq ")"
unfoldable pub body_with : ℕ → Inner → Reader SequenceForm
body_with d inner ts = body_by d inner (expect OpenRound ts) ts

abbrev pub with_times : SequenceForm → Option Range → SequenceForm
with_times s None = s
with_times s (Some n) = repeated s n

-- after a body: ["[*" .. "]"]
unfoldable pub repeat_behind : Inner → SequenceForm → Reader SequenceForm
repeat_behind inner s ts = optional OpenRepeat inner.times ts >>= λ q. Some (with_times s q.0, q.1)

unfoldable pub repetition_with : ℕ → Inner → Reader SequenceForm
repetition_with d inner ts = body_with d inner ts >>= λ p. repeat_behind inner p.0 p.1

-- after "##": its count, and what it delays
unfoldable pub late_part : ℕ → Inner → Reader (Range × SequenceForm)
late_part d inner ts =
    delay inner ts >>= λ p. repetition_with d inner p.1 >>= λ q. Some ((p.0, q.0), q.1)

abbrev pub steps_of : List (Range × SequenceForm) → Steps
steps_of [] = no_step
steps_of (x ∷ xs) = step x.0 x.1 (steps_of xs)

abbrev pub with_steps : SequenceForm → List (Range × SequenceForm) → SequenceForm
with_steps s [] = s
with_steps s (x ∷ xs) = delayed s (steps_of (x ∷ xs))

-- after a head: (delay rep)*
unfoldable pub delayed_behind : ℕ → Inner → SequenceForm → Reader SequenceForm
delayed_behind d inner s ts =
    each (is Delay) (λ t. late_part d inner) ts >>= λ q. Some (with_steps s q.0, q.1)

-- after the body of a cat
unfoldable pub cat_behind : ℕ → Inner → SequenceForm → Reader SequenceForm
cat_behind d inner s ts = repeat_behind inner s ts >>= λ p. delayed_behind d inner p.0 p.1

abbrev pub throughout_by : ℕ → Inner → Tree → Option (Token × List Token) → Reader SequenceForm
throughout_by d inner e None ts = cat_behind d inner (boolean e) ts
throughout_by d inner e (Some t) ts = inner.during t.1 >>= λ q. Some (throughout e q.0, q.1)

-- after the first body of a thr
unfoldable pub during_behind : ℕ → Inner → SequenceForm → Reader SequenceForm
during_behind d inner (boolean e) ts = throughout_by d inner e (expect Throughout ts) ts
during_behind d inner (repeated s n) ts = cat_behind d inner (repeated s n) ts
during_behind d inner (late t n s) ts = cat_behind d inner (late t n s) ts
during_behind d inner (delayed s more) ts = cat_behind d inner (delayed s more) ts
during_behind d inner (throughout e s) ts = cat_behind d inner (throughout e s) ts
during_behind d inner (joined j s more) ts = cat_behind d inner (joined j s more) ts

abbrev pub during_by : ℕ → Inner → Option (Token × List Token) → Reader SequenceForm
during_by d inner None ts = body_with d inner ts >>= λ p. during_behind d inner p.0 p.1
during_by d inner (Some t) ts =
    late_part d inner t.1 >>= λ p. delayed_behind d inner (late t.0 p.0.0 p.0.1) p.1

-- thr
unfoldable pub during_with : ℕ → Inner → Reader SequenceForm
during_with d inner ts = during_by d inner (expect Delay ts) ts

abbrev pub others_of : List SequenceForm → Others
others_of [] = no_other
others_of (x ∷ xs) = other x (others_of xs)

abbrev pub with_others : Junction → SequenceForm → List SequenceForm → SequenceForm
with_others j s [] = s
with_others j s (x ∷ xs) = joined j s (others_of (x ∷ xs))

-- after a thr: ("intersect" thr)*
unfoldable pub intersection_behind : ℕ → Inner → SequenceForm → Reader SequenceForm
intersection_behind d inner s ts =
    each (is Intersect) (λ t. during_with d inner) ts
    >>= λ q. Some (with_others junctions.Intersect s q.0, q.1)

unfoldable pub intersection_with : ℕ → Inner → Reader SequenceForm
intersection_with d inner ts = during_with d inner ts >>= λ p. intersection_behind d inner p.0 p.1

-- after an int: ("and" int)*
unfoldable pub conjunction_behind : ℕ → Inner → SequenceForm → Reader SequenceForm
conjunction_behind d inner s ts =
    each (is And) (λ t. intersection_with d inner) ts
    >>= λ q. Some (with_others junctions.And s q.0, q.1)

unfoldable pub conjunction_with : ℕ → Inner → Reader SequenceForm
conjunction_with d inner ts =
    intersection_with d inner ts >>= λ p. conjunction_behind d inner p.0 p.1

-- after an and_seq: ("or" and_seq)*
unfoldable pub alternatives_behind : ℕ → Inner → SequenceForm → Reader SequenceForm
alternatives_behind d inner s ts =
    each (is Or) (λ t. conjunction_with d inner) ts
    >>= λ q. Some (with_others junctions.Or s q.0, q.1)

-- after a thr: all that goes on with a seq
unfoldable pub sides_behind : ℕ → Inner → SequenceForm → Reader SequenceForm
sides_behind d inner s ts =
    intersection_behind d inner s ts
    >>= λ p. (conjunction_behind d inner p.0 p.1 >>= λ q. alternatives_behind d inner q.0 q.1)

-- seq
unfoldable pub whole_with : ℕ → Inner → Reader SequenceForm
whole_with d inner ts = during_with d inner ts >>= λ p. sides_behind d inner p.0 p.1

-- what may stand where so many more brackets and operators may open
unfoldable pub sequences : ℕ → Inner
sequences zero = record { whole = refuse; during = refuse; times = refuse; between = refuse }
sequences (suc d) =
    record {
      whole = whole_with d (sequences d);
      during = during_with d (sequences d);
      times = times;
      between = range_between;
    }

unfoldable pub throughout_reader : ℕ → Reader SequenceForm
throughout_reader d ts = during_with d (sequences d) ts

unfoldable pub whole : ℕ → Reader SequenceForm
whole d ts = whole_with d (sequences d) ts

-- a seq after its first body
unfoldable pub sequence_behind : ℕ → SequenceForm → Reader SequenceForm
sequence_behind d s ts =
    during_behind d (sequences d) s ts >>= λ p. sides_behind d (sequences d) p.0 p.1

abbrev pub implication_from : ℕ → Option (Implication × List Token) → SequenceForm
    → Reader PropertyForm
implication_from d None s ts = Some (plain s, ts)
implication_from d (Some i) s ts = whole d i.1 >>= λ p. Some (implication None s i.0 p.0, p.1)

-- after a seq: an implication and its right side, if one stands there
unfoldable pub implication_behind : ℕ → SequenceForm → Reader PropertyForm
implication_behind d s ts = implication_from d (pick implication_of ts) s ts

-- What stood in brackets: a seq may go on after them.
unfoldable pub regroup_property : ℕ → PropertyForm → Reader PropertyForm
regroup_property d (plain s) ts =
    regroup d s ts >>= λ p. sequence_behind d p.0 p.1 >>= λ q. implication_behind d q.0 q.1
regroup_property d (implication w a i c) ts = Some (implication w a i c, ts)

abbrev pub property_by : ℕ → Reader PropertyForm → Option (Token × List Token) → Reader PropertyForm
property_by d inner None ts = whole d ts >>= λ p. implication_behind d p.0 p.1
property_by d inner (Some o) ts =
    inner o.1 >>= λ p. expect CloseRound p.1 >>= λ r. regroup_property d p.0 r.1

-- after "first_match": "(" seq ")", an implication and its right side
unfoldable pub first_behind : ℕ → Token → Reader PropertyForm
first_behind d word ts =
    expect OpenRound ts >>= λ o. (sequences d).whole o.1 >>= λ p. expect CloseRound p.1
    >>= λ r. pick implication_of r.1
    >>= λ i. whole d i.1 >>= λ q. Some (implication (Some word) p.0 i.0 q.0, q.1)

abbrev pub property_from : ℕ → Reader PropertyForm → Option (Token × List Token)
    → Reader PropertyForm
property_from d inner None ts = property_by d inner (expect OpenRound ts) ts
property_from d inner (Some w) ts = first_behind d w.0 w.1

-- prop, where the property in brackets is read by the reader
unfoldable pub property_with : ℕ → Reader PropertyForm → Reader PropertyForm
property_with d inner ts = property_from d inner (lead is_first_match_word ts) ts

-- prop, where so many brackets may open
unfoldable pub properties : ℕ → Reader PropertyForm
properties zero = refuse
properties (suc d) = property_with d (properties d)

unfoldable pub property : ℕ → Reader PropertyForm
property d ts = property_with d (properties d) ts
