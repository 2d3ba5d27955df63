-- `room_from` meets its contract: the sides are written as a position is.
use Rattle.job_sheet.proofs.places.room_from.Goals as goal

pub returns : goal.returns
returns c = let e = c.position_from-sides.ensures in λ i. record { wide = (e i).x; high = (e i).y; deep = (e i).z }
