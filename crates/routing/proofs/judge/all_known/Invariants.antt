-- `all_known` meets its contract. The loop's invariant: all are known just where those before were and those from here on are known.
use mathlib.Core.Path.{◌≡◌}
use mathlib.Core.Bool.{◌&&◌}
use lib.ListN.{drop}
use Rattle.basics.specs.Lists.{every}
use Rattle.room.specs.Units.{kind_known}
use Rattle.routing.proofs.judge.all_known.Given as goal

abbrev pub invariant-loop-kind : goal.invariant-loop-kind
invariant-loop-kind l = l.known && every kind_known (drop l.kind-index l.kinds) ≡ every kind_known l.kinds
