-- `stair_conflict` meets its contract: what the stairs from here on give is what all of them give.
use mathlib.Core.Path.{◌≡◌, refl, sym, ◌∙◌}
use Prim.Native.Nat.{ℕ, ◌+◌}
use native.Mathlib.Omega.{arith}
use lib.ListN.{length}
use borrow.Author.Rules.{rules}
use Rattle.geometry.specs.Geometry.{stair_conflict}
use Rattle.geometry.specs.Along.{conducts_by}
use Rattle.geometry.specs.StairLaws.{stairs_from, stair_at, stairs-next, stairs-found, stairs-end}
use Rattle.geometry.proofs.stair_conflict.Given as goal

abbrev pub invariant-loop-i : goal.invariant-loop-i
invariant-loop-i l = (k : ℕ) → k + 1 ≡ l.i → stairs_from l.room l.kinds (conducts_by l.bytes) l.path k ≡ stair_conflict l.room l.kinds (conducts_by l.bytes) l.path
