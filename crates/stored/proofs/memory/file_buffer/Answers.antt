-- `file_buffer` has the length that it says.
use mathlib.Core.Path.{sym}
use Prim.Native.Nat.{ℕ}
use lib.ListN.{length-replicate}
use Rattle.stored.specs.Memory.{file_length}
use Rattle.stored.proofs.memory.file_buffer.Goals as goal

pub returns : goal.returns
returns c = sym (length-replicate {0} {A = ℕ} file_length 0)
