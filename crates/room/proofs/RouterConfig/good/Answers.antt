-- `RouterConfig::good` is safe: where the single ranges hold, the dearest step is small.
use Rattle.std.proofs.Common.{rules}
use Rattle.room.specs.UnitLaws.{good-ranges}
use Rattle.room.proofs.RouterConfig.good.Goals as goal

pub dearest-requires : goal.dearest-requires
dearest-requires c = good-ranges _ (search rules)
