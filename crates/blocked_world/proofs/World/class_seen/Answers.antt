-- `World::class_seen` meets its contract: the class of the kinds that are seen.
use Rattle.blocked_world.specs.SeenLaws.{class_by}
use Rattle.blocked_world.proofs.World.class_seen.Goals as goal

pub returns : goal.returns
returns c =
    let W = c.args.self.now in
    class_by W.ground.mode W.ground.room W.kinds.now W.blocked.now W.start W.goal W.fits.kinds-long c.args.cell c.requires _ _ _ _
    c.an_end.ensures c.seen_kind-kind.ensures c.seen_beneath-below.ensures c.class_for.ensures
