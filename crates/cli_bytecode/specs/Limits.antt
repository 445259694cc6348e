-- The line of limits.
use Rattle.std.specs.Prelude.{ℕ, List, ◌++◌, codes}
use Rattle.bytecode_programs.specs.declared.limits.Limits.{Limits}
use Rattle.report_lines.specs.Texts.{field_text}

-- history H stack S attempts A obligations O budget B, and a line feed
unfoldable pub limits_text : Limits → List ℕ
limits_text l =
    field_text (codes "history ") l.history
    ++ field_text (codes " stack ") l.stack
    ++ field_text (codes " attempts ") l.attempts
    ++ field_text (codes " obligations ") l.obligations
    ++ field_text (codes " budget ") l.budget
    ++ codes "\n"
