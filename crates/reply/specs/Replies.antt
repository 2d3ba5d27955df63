-- The route of a search's answer; its number and detail are defined beside the answer, in routing.
use Rattle.std.specs.Prelude.{Ok, Err}
use Rattle.routing.specs.Answers.{Answer}
use Rattle.routing.specs.declared.Unrouted.TheVariants.{Refused, NotRouteable, NoRoute, LimitPassed, QueueFull}
use Rattle.routing.specs.declared.Route.{Route}

-- all zero where there is none
abbrev pub no_route : Route
no_route = record { length = 0; cost = record { 0 = 0 }; expanded = record { 0 = 0 }; steps = record { 0 = 0 }; supports = record { 0 = 0 }; laid = 0 }

abbrev pub route_of : Answer → Route
route_of (Ok r) = r
route_of (Err e) = no_route
