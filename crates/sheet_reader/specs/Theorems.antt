-- What the definitions of Reader.antt come to. That the reader answers as the plain reading does is job_sheet's `coincide`: `read_sheet` of this crate and of
-- job_sheet both promise `Read`, without a condition, and `Read` determines the answer.
use Rattle.std.specs.Prelude.{List, ℕ, ◌+◌, ◌<◌, length}
use Rattle.std.proofs.Common.{arith}
use Rattle.sheet_reader.specs.Reader.{onward}
use Rattle.sheet_reader.specs.ReaderLaws.{onward-off}

-- a reader that has too few bytes is not at the end, however it goes on
pub too_short : (sheet : List ℕ) (place n : ℕ) → length sheet < place + n → length sheet < onward sheet place n
too_short sheet place n h = rw (onward-off sheet place n h) (omega arith)

pub stays-off : (sheet : List ℕ) (place n : ℕ) → length sheet < place → length sheet < onward sheet place n
stays-off sheet place n h = too_short sheet place n (omega arith)
