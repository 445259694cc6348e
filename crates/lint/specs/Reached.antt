-- The line of a file up to which its text was looked through.
use Rattle.std.specs.Prelude.{List, slice_get}
use Rattle.source_files.specs.declared.part.Part.{Part}
use Rattle.diagnostics.specs.Places.{IsLineOf}
use Rattle.lint.specs.declared.refusals.Reached.{Reached}
use Rattle.lint.specs.Tells.{text_of}

abbrev pub IsReached : List Part → Reached → Type 0
IsReached parts r = IsLineOf (text_of (slice_get parts r.part)) r.line.reached r.line
