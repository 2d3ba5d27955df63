-- `grow_tree` meets its contract: one turn after another, until a number is due or every sink has had its turn.
use mathlib.Core.Path.{◌≡◌}
use Rattle.multinet.specs.SinkTurns.{plot_of, Lasting, Turning}
use Rattle.multinet.proofs.growing.grow_tree.Given as goal

abbrev pub invariant-loop-turn : goal.invariant-loop-turn
invariant-loop-turn l = (l.count ≡ l.taps.count) × (Lasting l.initial.joinable l.joinable l.initial.blocked l.blocked l.initial.classes l.classes l.initial.known l.known l.initial.previous l.previous l.initial.path l.path l.initial.best l.best l.initial.queue l.queue l.initial.branches l.branches × Turning (plot_of l.ground l.kinds l.initial.queue l.initial.branches l.source l.taps) l.initial.blocked l.initial.branches l.turn l.lengths l.joinable l.blocked l.branches)
