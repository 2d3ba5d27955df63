-- `distance_label` meets its contract.
use native.Mathlib.Omega.{arith}
use Rattle.goals.specs.Labelled.{bound_at}
use Rattle.goals.proofs.left.distance_label.Goals as goal

pub returns : goal.returns
unfolding bound_at
returns c = rw (← c.least_to.ensures) (omega arith)
