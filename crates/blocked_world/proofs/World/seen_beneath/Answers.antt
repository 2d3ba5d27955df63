-- `World::seen_beneath` meets its contract: inside it is the kind seen there, outside it is Solid.
use Rattle.std.proofs.Common.{sym, ◌∙◌}
use Rattle.blocked_world.specs.SeenLaws.{seen_at}
use Rattle.room.specs.RoomLaws.{beneath_in}
use Rattle.blocked_world.proofs.World.seen_beneath.Goals as goal

pub seen_kind-requires : goal.seen_kind-requires
seen_kind-requires c = beneath_in _ _ _ c.requires (sym c.beneath.ensures ∙ c.in-Some.is)

pub returns-in-Some : goal.returns-in-Some
returns-in-Some c =
    let W = c.args.self.now in let place = sym c.beneath.ensures ∙ c.in-Some.is in
    rw place (c.seen_kind.ensures ∙ sym (seen_at W.ground.mode W.kinds.now W.blocked.now W.start W.goal _ (rw W.fits.kinds-long (beneath_in _ _ _ c.requires place))))
