-- `begin` empties the lists, and adds the entry to these.
use borrow.Author.Rules.{rules}
use Prim.Native.Nat.{◌<◌}
use native.Mathlib.Omega.{arith}
use lib.ListN.{length}
use Rattle.keyed_lists.specs.BeginLaws.{unused-keyed, unused_open, unused_begun}
use Rattle.keyed_lists.proofs.begin.Goals as goal

pub add-requires : goal.add-requires
add-requires c =
    let long : 66 < length c.clear_ends.new.queue = search rules in
    rw (c.put-2.ensures, c.put.ensures) (record { keyed = unused-keyed _ _ long c.clear_ends.ensures; fact = unused_open _ _ long c.clear_ends.ensures; key_bound = (c.requires.key_bound.0, omega arith, c.requires.key_bound.1) })

pub returns : goal.returns
returns c =
    let long : 66 < length c.clear_ends.new.queue = search rules in
    unused_begun _ _ long c.clear_ends.ensures _ _ (rw (c.put-2.ensures, c.put.ensures) at c.add.ensures)
