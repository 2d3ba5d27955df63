-- `answer_of` meets its contract: each outcome is the definition's answer.
use mathlib.Core.Path.{refl}
use Rattle.routing.specs.Answers.{task_in}
use Rattle.routing.specs.EntryLaws.{shown-route, shown-bare}
use Rattle.routing.proofs.astar.answer_of.Goals as goal

pub show_route-requires-clause-shown : goal.show_route-requires-clause-shown
show_route-requires-clause-shown c = let w = rw c.in-Arrived.is at c.requires.showable in c.requires.shown

pub show_route-requires-clause-previous_inside : goal.show_route-requires-clause-previous_inside
show_route-requires-clause-previous_inside c = let w = rw c.in-Arrived.is at c.requires.showable in w.0

pub show_route-requires-clause-nonzero : goal.show_route-requires-clause-nonzero
show_route-requires-clause-nonzero c = let w = rw c.in-Arrived.is at c.requires.showable in w.1

pub returns-in-Arrived : goal.returns-in-Arrived
returns-in-Arrived c = record { shows = λ start places F. shown-route c.requires.shown start places c.requires.path_value (rw c.in-Arrived.is at F) c.show_route.ensures }

pub returns-in-NoRoute : goal.returns-in-NoRoute
returns-in-NoRoute c = let a = c.args in record { shows = λ start places F. shown-bare (task_in a.room a.config a.kinds.now start a.goal places) c.requires.path_value (rw c.in-NoRoute.is at F).told refl }

pub returns-in-LimitPassed : goal.returns-in-LimitPassed
returns-in-LimitPassed c = let a = c.args in record { shows = λ start places F. shown-bare (task_in a.room a.config a.kinds.now start a.goal places) c.requires.path_value (rw c.in-LimitPassed.is at F).told refl }

pub returns-in-QueueFull : goal.returns-in-QueueFull
returns-in-QueueFull c = let a = c.args in record { shows = λ start places F. shown-bare (task_in a.room a.config a.kinds.now start a.goal places) c.requires.path_value (rw c.in-QueueFull.is at F).told refl }
