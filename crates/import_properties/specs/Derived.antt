-- Repetitions that stand for others, with their open bounds closed (IEEE 1800-2017, 16.9.2).
use Rattle.std.specs.Prelude.{ℕ}
use Rattle.import_properties.specs.declared.condition.Condition.{Condition}
use Rattle.import_properties.specs.Conditions.{negation}
use Rattle.assertions.specs.Written.{Written, boolean, delay, repeat}

-- b[->least:most] is (!b[*0:$] ##1 b)[*least:most], where $ is as many ticks as a gap may last
abbrev pub goto_form : Condition → ℕ → ℕ → ℕ → Written Condition
goto_form b least most gap =
    repeat (delay (repeat (boolean (negation b)) 0 gap) 1 1 (boolean b)) least most

-- b[=least:most] is b[->least:most] ##1 !b[*0:$]
abbrev pub nonconsecutive_form : Condition → ℕ → ℕ → ℕ → Written Condition
nonconsecutive_form b least most gap =
    delay (goto_form b least most gap) 1 1 (repeat (boolean (negation b)) 0 gap)
