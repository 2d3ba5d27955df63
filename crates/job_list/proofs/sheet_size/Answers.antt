-- `sheet_size` meets its contract: the length that the sheet tells, where there are so many bytes.
use native.Mathlib.Omega.{arith}
use Rattle.job_list.specs.SplitLaws.{long-short, long-told}
use Rattle.job_list.proofs.sheet_size.Goals as goal

pub returns-then-bytes-told : goal.returns-then-bytes-told
returns-then-bytes-told c = long-short _ (omega (arith, c.if-bytes-told.true, c.four_bytes.ensures))

pub returns-else-bytes-told : goal.returns-else-bytes-told
returns-else-bytes-told c = omega (arith, c.four_bytes.ensures, long-told c.args.bytes.now (omega (arith, c.if-bytes-told.false, c.four_bytes.ensures)))
