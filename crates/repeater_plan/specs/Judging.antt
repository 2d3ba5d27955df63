-- What the contracts of the judging functions cite.
use Rattle.std.specs.Prelude.{ℕ, ltb}
use Rattle.basics.specs.Tests.{either}
use Rattle.job_sheet.specs.Sheet.{max_sinks}

-- so many as are there
unfoldable pub shorter : ℕ → ℕ → ℕ
shorter a b = either (ltb a b) a b

-- how many of sixteen places a count takes, which may be too high
abbrev pub held : ℕ → ℕ
held count = shorter count max_sinks
