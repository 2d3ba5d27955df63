-- `is_no_goal` meets its contract: by the number that is due.
use Rattle.sink_why.proofs.growth.is_no_goal.Goals as goal

pub returns-in-QueueFull : goal.returns-in-QueueFull
returns-in-QueueFull c = rw c.in-QueueFull.is

pub returns-in-NoGoal : goal.returns-in-NoGoal
returns-in-NoGoal c = rw c.in-NoGoal.is

pub returns-in-BufferFull : goal.returns-in-BufferFull
returns-in-BufferFull c = rw c.in-BufferFull.is
