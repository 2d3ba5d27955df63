-- `climbs` meets its contract. The loop's invariant: the cells that the bits left lead to come to the same as all.
use Rattle.laying.specs.Bearing.{off_level}
use Rattle.laying.specs.BearingLaws.{LinksAsked}
use Rattle.laying.proofs.bearing.climbs.Given as goal

abbrev pub invariant-loop-k : goal.invariant-loop-k
invariant-loop-k l = LinksAsked l.room l.p (off_level l.room l.p.y) l.mask l.rest l.k
