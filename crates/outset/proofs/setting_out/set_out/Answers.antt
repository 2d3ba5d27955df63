-- `set_out` meets its contract: cleared memory, the blocks, the ends and, where no number is due, what is blocked.
use Rattle.std.specs.Prelude.{◌≡◌, refl, Err}
use borrow.Author.Rules.{rules}
use Rattle.outset.specs.SetOut.{told_at_end}
use Rattle.outset.specs.SetOutLaws.{good-room, block-list, source-within, sinks-within, outset-ready, set-out-ready, set-out-blocks, set-out-end}
use Rattle.ends.specs.EndLaws.{ends-told, fault-told}
use Rattle.basics.specs.Zeros.{cleared-to}
use Rattle.outset.proofs.setting_out.set_out.Goals as goal

pub place_blocks-placement-requires-clause-good : goal.place_blocks-placement-requires-clause-good
place_blocks-placement-requires-clause-good c =
    let pre = c.requires in good-room pre.accepted

pub place_blocks-placement-requires-clause-block_list : goal.place_blocks-placement-requires-clause-block_list
place_blocks-placement-requires-clause-block_list c =
    let pre = c.requires in block-list pre.accepted

pub place_blocks-placement-requires-clause-kinds_value : goal.place_blocks-placement-requires-clause-kinds_value
place_blocks-placement-requires-clause-kinds_value c =
    let pre = c.requires in cleared-to pre.kinds-long c.clear.ensures

pub place_blocks-placement-requires-clause-nodes_value : goal.place_blocks-placement-requires-clause-nodes_value
place_blocks-placement-requires-clause-nodes_value c =
    let pre = c.requires in cleared-to pre.nodes-long c.clear-2.ensures

pub realize_ends-realized-requires-clause-good : goal.realize_ends-realized-requires-clause-good
realize_ends-realized-requires-clause-good c =
    let accepted = c.requires.accepted in good-room accepted

pub realize_ends-realized-requires-clause-within : goal.realize_ends-realized-requires-clause-within
realize_ends-realized-requires-clause-within c =
    let accepted = c.requires.accepted in source-within accepted

pub realize_ends-realized-requires-clause-sink_list : goal.realize_ends-realized-requires-clause-sink_list
realize_ends-realized-requires-clause-sink_list c =
    let accepted = c.requires.accepted in sinks-within accepted

pub returns-in-Err : goal.returns-in-Err
returns-in-Err c =
    let pre = c.requires in
    set-out-blocks pre.accepted c.place_blocks-placement.ensures c.in-Err.is c.realize_ends-realized.ensures c.told_at_overlap.ensures (cleared-to pre.blocked-long c.clear-3.ensures)

pub returns-in_err-ends : goal.returns-in_err-ends
returns-in_err-ends c =
    let pre = c.requires in
    let e : c.from_residual.result ≡ Err (told_at_end c.in_err-ends.field-0.0) = search rules in
    rw e (set-out-end pre.accepted c.place_blocks-placement.ensures c.in_default.is (fault-told _ _ _ c.realize_ends-realized.ensures c.in_err-ends.was) refl (cleared-to pre.blocked-long c.clear-3.ensures))

pub block_outset-requires : goal.block_outset-requires
block_outset-requires c =
    let pre = c.requires in
    let t = ends-told _ _ _ c.realize_ends-realized.ensures c.in_ok-ends.was in
    outset-ready pre.accepted c.place_blocks-placement.ensures c.in_default.is t.0 t.1 (cleared-to pre.blocked-long c.clear-3.ensures)

pub returns : goal.returns
returns c =
    let pre = c.requires in
    let t = ends-told _ _ _ c.realize_ends-realized.ensures c.in_ok-ends.was in
    set-out-ready pre.accepted c.place_blocks-placement.ensures c.in_default.is t.0 t.1 c.block_outset.ensures
