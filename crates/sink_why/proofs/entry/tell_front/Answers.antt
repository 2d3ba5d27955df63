-- `tell_front` meets its contract: the front of each buffer is lent on, the branch buffer and the queue whole.
use mathlib.Core.Path.{sym}
use native.Mathlib.Omega.{arith}
use lib.Seq.{length-take-le}
use Rattle.outset.specs.SetOutLaws.{good-room}
use Rattle.sink_why.specs.WhyLaws.{regrowable_front}
use Rattle.sink_why.proofs.entry.tell_front.Goals as goal

pub volume-cells-requires : goal.volume-cells-requires
volume-cells-requires c = good-room c.requires.accepted

pub slice_bounds-tell_growth-end : goal.slice_bounds-tell_growth-end
slice_bounds-tell_growth-end c = omega (arith, c.volume-cells.ensures, c.requires.enough.kinds-enough)

pub slice_bounds-tell_growth-end-2 : goal.slice_bounds-tell_growth-end-2
slice_bounds-tell_growth-end-2 c = sym (length-take-le _ _ (omega (arith, c.volume-cells.ensures, c.requires.enough.kinds-enough)))

pub slice_bounds-tell_growth-end-3 : goal.slice_bounds-tell_growth-end-3
slice_bounds-tell_growth-end-3 c = omega (arith, c.volume-cells.ensures, c.requires.enough.blocked-enough)

pub slice_bounds-tell_growth-end-4 : goal.slice_bounds-tell_growth-end-4
slice_bounds-tell_growth-end-4 c = sym (length-take-le _ _ (omega (arith, c.volume-cells.ensures, c.requires.enough.blocked-enough)))

pub slice_bounds-tell_growth-end-5 : goal.slice_bounds-tell_growth-end-5
slice_bounds-tell_growth-end-5 c = omega (arith, c.volume-cells.ensures, c.requires.enough.classes-enough)

pub slice_bounds-tell_growth-end-6 : goal.slice_bounds-tell_growth-end-6
slice_bounds-tell_growth-end-6 c = sym (length-take-le _ _ (omega (arith, c.volume-cells.ensures, c.requires.enough.classes-enough)))

pub slice_bounds-tell_growth-end-7 : goal.slice_bounds-tell_growth-end-7
slice_bounds-tell_growth-end-7 c = omega (arith, c.volume-cells.ensures, c.requires.enough.joinable-enough)

pub slice_bounds-tell_growth-end-8 : goal.slice_bounds-tell_growth-end-8
slice_bounds-tell_growth-end-8 c = sym (length-take-le _ _ (omega (arith, c.volume-cells.ensures, c.requires.enough.joinable-enough)))

pub slice_bounds-tell_growth-end-9 : goal.slice_bounds-tell_growth-end-9
slice_bounds-tell_growth-end-9 c = omega (arith, c.volume-cells.ensures, c.requires.enough.known-enough)

pub slice_bounds-tell_growth-end-10 : goal.slice_bounds-tell_growth-end-10
slice_bounds-tell_growth-end-10 c = sym (length-take-le _ _ (omega (arith, c.volume-cells.ensures, c.requires.enough.known-enough)))

pub slice_bounds-tell_growth-end-11 : goal.slice_bounds-tell_growth-end-11
slice_bounds-tell_growth-end-11 c = omega (arith, c.volume-cells.ensures, c.requires.enough.previous-enough)

pub slice_bounds-tell_growth-end-12 : goal.slice_bounds-tell_growth-end-12
slice_bounds-tell_growth-end-12 c = sym (length-take-le _ _ (omega (arith, c.volume-cells.ensures, c.requires.enough.previous-enough)))

pub slice_bounds-tell_growth-end-13 : goal.slice_bounds-tell_growth-end-13
slice_bounds-tell_growth-end-13 c = omega (arith, c.volume-cells.ensures, c.requires.enough.path-enough)

pub slice_bounds-tell_growth-end-14 : goal.slice_bounds-tell_growth-end-14
slice_bounds-tell_growth-end-14 c = sym (length-take-le _ _ (omega (arith, c.volume-cells.ensures, c.requires.enough.path-enough)))

pub slice_bounds-tell_growth-end-15 : goal.slice_bounds-tell_growth-end-15
slice_bounds-tell_growth-end-15 c = omega (arith, c.volume-cells.ensures, c.requires.enough.best-enough)

pub slice_bounds-tell_growth-end-16 : goal.slice_bounds-tell_growth-end-16
slice_bounds-tell_growth-end-16 c = sym (length-take-le _ _ (omega (arith, c.volume-cells.ensures, c.requires.enough.best-enough)))

pub tell_growth-requires-clause-regrowable : goal.tell_growth-requires-clause-regrowable
tell_growth-requires-clause-regrowable c = regrowable_front c.requires c.volume-cells.ensures

pub tell_growth-requires-clause-sink_asks : goal.tell_growth-requires-clause-sink_asks
tell_growth-requires-clause-sink_asks c = c.requires.asks

pub returns-clause-sink_reasoned : goal.returns-clause-sink_reasoned
returns-clause-sink_reasoned c = c.tell_growth.ensures
