-- `pass_labels` meets its contract. The loop's invariant: goals without a label are passed, and the next has the lowest. The measure is the sum of the labels.
use lib.ListN.{get_or}
use Rattle.basics.specs.Sums.{sum_below}
use Rattle.room.specs.Room.{volume}
use Rattle.goals.specs.Trials.{site_of}
use Rattle.goals.proofs.LabelledLaws.{LabelsPassed}
use Rattle.goals.proofs.labelled.pass_labels.Given as goal

abbrev pub invariant-loop-next : goal.invariant-loop-next
invariant-loop-next l =
    LabelsPassed (site_of l.turn.ground l.turn.kinds.now l.initial.joinable l.initial.queue) l.turn.start l.kept l.initial.joinable l.joinable l.initial.blocked l.blocked l.initial.classes l.classes l.initial.known l.known l.initial.previous l.previous l.initial.path l.path l.initial.labels l.labels l.initial.queue l.queue

abbrev pub decreases-loop-next : goal.decreases-loop-next
decreases-loop-next l =
    sum_below (volume l.turn.ground.room) (λ v. get_or l.labels v 0)
