-- `lay_repeater` meets its contract: the facing is the direction.
use mathlib.Core.Path.{ap, ◌∙◌}
use Rattle.room.specs.Units.{repeater}
use Rattle.laying.specs.Laying.{laid_room, placed}
use Rattle.laying.proofs.directions.lay_repeater.Goals as goal

pub returns : goal.returns
returns c = c.place.ensures ∙ ap (λ x. placed repeater x c.args.cell (laid_room c.args.kinds.now c.args.facings.now)) c.direction-towards.ensures
