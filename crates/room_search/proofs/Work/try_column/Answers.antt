-- `Work::try_column` meets its contract: the column is outside, or its level cell is in the room.
use Rattle.room_search.specs.AlongLaws.{column-out}
use Rattle.room_search.proofs.Work.try_column.Goals as goal

pub returns-in-None-clause-came : goal.returns-in-None-clause-came
returns-in-None-clause-came c = column-out _ _ _ c.args.m c.requires.able.ready c.in-None.ensures
