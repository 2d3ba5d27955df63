-- `guess_lawful` meets its contract: the cell is asked of a place in the room.
use Rattle.std.proofs.Common.{arith}
use Rattle.std.proofs.lemmas.Grind.{common_steps}
use Rattle.room.specs.RoomLaws.{within-is}
use Rattle.function_file.proofs.reading.guess_lawful.Goals as goal

pub cell-requires-clause-within : goal.cell-requires-clause-within
cell-requires-clause-within c = grind (arith, common_steps, within-is)
