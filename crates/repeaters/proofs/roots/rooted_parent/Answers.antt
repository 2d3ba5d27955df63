-- `rooted_parent` meets its contract: the search spreads from the source, which then has no parent.
use Rattle.std.proofs.Common.{arith}
use Rattle.basics.specs.Zeros.{zeros-long}
use Rattle.room.specs.Room.{volume}
use Rattle.repeaters.specs.RootLaws.{held-none}
use Rattle.repeaters.proofs.roots.rooted_parent.Goals as goal

pub invariant_of-search : goal.invariant_of-search
invariant_of-search c = record {
  held = rw c.requires.parents_value (held-none (volume c.args.room) c.args.line.now c.requires.line_len);
  few = omega (arith, zeros-long {n = volume c.args.room} c.requires.parents_value, c.requires.good.few);
}

pub offset_bounds-parents-source : goal.offset_bounds-parents-source
offset_bounds-parents-source c = record { fits = omega (arith, c.requires.good.few, c.requires.source_bound) }
