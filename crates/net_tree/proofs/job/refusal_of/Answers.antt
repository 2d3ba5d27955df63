-- `refusal_of` meets its contract, number by number.
use Rattle.net_tree.proofs.job.refusal_of.Goals as goal

pub returns-in-QueueFull : goal.returns-in-QueueFull
returns-in-QueueFull c = rw c.in-QueueFull.is

pub returns-in-NoGoal : goal.returns-in-NoGoal
returns-in-NoGoal c = rw c.in-NoGoal.is

pub returns-in-BufferFull : goal.returns-in-BufferFull
returns-in-BufferFull c = rw c.in-BufferFull.is
