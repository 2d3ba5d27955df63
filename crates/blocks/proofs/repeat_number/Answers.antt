-- `repeat_number` meets its contract: the higher node's block is the repeat.
use Rattle.std.proofs.Common.{sym}
use Rattle.blocks.proofs.LayingLaws.{no_repeat_number, new_repeats, old_repeats}
use Rattle.blocks.proofs.repeat_number.Goals as goal
use Rattle.blocks.proofs.repeat_number.Goals.{then-known-node, else-known-node}

pub returns-then-known-eq0 : goal.returns-then-known-eq0
returns-then-known-eq0 c = sym (no_repeat_number _ _ _ c.if-known-eq0.true)

pub returns : goal.returns
returns c =
    let some = c.if-known-eq0.false in
    elim c.if-known-node.branch [
      | then-known-node w ↦ rw w.higher-is (sym (new_repeats _ _ _ some w.if-known-node.true))
      | else-known-node w ↦ rw w.higher-is (sym (old_repeats _ _ _ some w.if-known-node.false))
    ]
