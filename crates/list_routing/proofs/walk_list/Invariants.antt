-- `walk_list` meets its contract: the nets up to the stand are walked.
use Rattle.list_routing.specs.StepLaws.{WalkedSoFar}
use Rattle.list_routing.specs.ListLent.{list_lent}
use lib.ListN.{length}
use Prim.Native.Nat.{◌-◌}
use Rattle.list_routing.proofs.walk_list.Given as goal

abbrev pub invariant-loop-stand : goal.invariant-loop-stand
invariant-loop-stand l =
    WalkedSoFar l.mode l.list (list_lent l.initial.branches l.initial.lengths l.initial.owners l.initial.repeaters l.initial.kinds l.initial.facings l.initial.occupied l.initial.planned l.initial.before l.initial.unlaid l.initial.blocked l.initial.classes l.initial.joinable l.initial.known l.initial.previous l.initial.path l.initial.best l.initial.queue) l.stand (list_lent l.branches l.lengths l.owners l.repeaters l.kinds l.facings l.occupied l.planned l.before l.unlaid l.blocked l.classes l.joinable l.known l.previous l.path l.best l.queue)

abbrev pub decreases-loop-stand : goal.decreases-loop-stand
decreases-loop-stand l =
    length l.list - l.stand.place
