-- `World::seen_kind` meets its contract: its tests are the definition's.
use Rattle.std.proofs.Common.{sym, ◌∙◌}
use Rattle.blocked_world.specs.SeenLaws.{seen-kept, seen-free, seen_end, seen_wall}
use Rattle.blocked_world.proofs.World.seen_kind.Goals as goal
use Rattle.blocked_world.proofs.World.seen_kind.Goals.{then-kind-ne-AIR-via-then-kind-ne-AIR, then-kind-ne-AIR-via-else-kind-ne-AIR+then-self-cell-ne-MARKED}

pub returns-then-kind-ne-AIR : goal.returns-then-kind-ne-AIR
returns-then-kind-ne-AIR c =
    let W = c.args.self.now in
    elim c.then-kind-ne-AIR.branch [
      | then-kind-ne-AIR-via-then-kind-ne-AIR w ↦ seen-kept W.ground.mode W.kinds.now W.blocked.now W.start W.goal c.args.cell w.if-kind-ne-AIR.true
      | then-kind-ne-AIR-via-else-kind-ne-AIR+then-self-cell-ne-MARKED w ↦ seen-free W.ground.mode W.kinds.now W.blocked.now W.start W.goal c.args.cell w.if-self-cell-ne-MARKED.true
    ]

pub returns-then-an_end : goal.returns-then-an_end
returns-then-an_end c =
    let W = c.args.self.now in
    seen_end W.ground.mode W.kinds.now W.blocked.now W.start W.goal c.args.cell c.if-kind-ne-AIR.false c.if-self-cell-ne-MARKED.false (sym c.an_end.ensures ∙ c.if-an_end.true)

pub returns-else-an_end : goal.returns-else-an_end
returns-else-an_end c =
    let W = c.args.self.now in
    c.wall_of.ensures ∙ seen_wall W.ground.mode W.kinds.now W.blocked.now W.start W.goal c.args.cell c.if-kind-ne-AIR.false c.if-self-cell-ne-MARKED.false (sym c.an_end.ensures ∙ c.if-an_end.false)
