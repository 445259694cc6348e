-- What an assertion came to.
use Rattle.std.specs.Prelude.{Bool, ◌==◌, ◌&&◌, nat_lt}
use Rattle.report_lines.specs.Lines.{LineData}

-- some attempt failed
abbrev pub has_failed : LineData → Bool
has_failed l = nat_lt 0 l.counts.fails

-- no attempt held, failed or is open: it was never tried
abbrev pub is_untried : LineData → Bool
is_untried l = (l.counts.holds == 0) && (l.counts.fails == 0) && (l.counts.still_open == 0)
