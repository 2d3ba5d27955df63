-- `place_front` meets its contract: the front of each slice is lent on.
use mathlib.Core.Path.{sym}
use native.Mathlib.Omega.{arith}
use lib.Seq.{length-take-le, length_front}
use Rattle.repeater_plan.specs.EntryLaws.{front-placeable, front-placed}
use Rattle.repeater_plan.proofs.entry.place_front.Goals as goal

pub volume-cells-requires : goal.volume-cells-requires
volume-cells-requires c = c.requires.lendable.good

pub slice_bounds-place_repeaters-end : goal.slice_bounds-place_repeaters-end
slice_bounds-place_repeaters-end c = omega (arith, c.volume-cells.ensures, c.requires.lendable.enough.repeaters-enough)

pub slice_bounds-place_repeaters-end-2 : goal.slice_bounds-place_repeaters-end-2
slice_bounds-place_repeaters-end-2 c = sym (length-take-le _ _ (omega (arith, c.volume-cells.ensures, c.requires.lendable.enough.repeaters-enough)))

pub slice_bounds-place_repeaters-end-3 : goal.slice_bounds-place_repeaters-end-3
slice_bounds-place_repeaters-end-3 c = omega (arith, c.volume-cells.ensures, c.requires.lendable.enough.forbidden-enough)

pub slice_bounds-place_repeaters-end-4 : goal.slice_bounds-place_repeaters-end-4
slice_bounds-place_repeaters-end-4 c = sym (length-take-le _ _ (omega (arith, c.volume-cells.ensures, c.requires.lendable.enough.forbidden-enough)))

pub slice_bounds-place_repeaters-end-5 : goal.slice_bounds-place_repeaters-end-5
slice_bounds-place_repeaters-end-5 c = omega (arith, c.volume-cells.ensures, c.requires.lendable.enough.links-enough)

pub slice_bounds-place_repeaters-end-6 : goal.slice_bounds-place_repeaters-end-6
slice_bounds-place_repeaters-end-6 c = sym (length-take-le _ _ (omega (arith, c.volume-cells.ensures, c.requires.lendable.enough.links-enough)))

pub slice_bounds-place_repeaters-end-7 : goal.slice_bounds-place_repeaters-end-7
slice_bounds-place_repeaters-end-7 c = omega (arith, c.volume-cells.ensures, c.requires.lendable.enough.parents-enough)

pub slice_bounds-place_repeaters-end-8 : goal.slice_bounds-place_repeaters-end-8
slice_bounds-place_repeaters-end-8 c = sym (length-take-le _ _ (omega (arith, c.volume-cells.ensures, c.requires.lendable.enough.parents-enough)))

pub slice_bounds-place_repeaters-end-9 : goal.slice_bounds-place_repeaters-end-9
slice_bounds-place_repeaters-end-9 c = omega (arith, c.volume-cells.ensures, c.requires.lendable.enough.line-enough)

pub slice_bounds-place_repeaters-end-10 : goal.slice_bounds-place_repeaters-end-10
slice_bounds-place_repeaters-end-10 c = sym (length-take-le _ _ (omega (arith, c.volume-cells.ensures, c.requires.lendable.enough.line-enough)))

pub place_repeaters-requires : goal.place_repeaters-requires
place_repeaters-requires c = front-placeable c.requires c.volume-cells.ensures

pub slice_bounds-count_marks-end : goal.slice_bounds-count_marks-end
slice_bounds-count_marks-end c = omega (arith, length_front c.args.repeaters.now c.place_repeaters.new.repeaters c.volume-cells.result c.place_repeaters.auto.repeaters, c.volume-cells.ensures, c.requires.lendable.enough.repeaters-enough)

pub slice_bounds-count_marks-end-2 : goal.slice_bounds-count_marks-end-2
slice_bounds-count_marks-end-2 c = sym (length-take-le _ _ (omega (arith, length_front c.args.repeaters.now c.place_repeaters.new.repeaters c.volume-cells.result c.place_repeaters.auto.repeaters, c.volume-cells.ensures, c.requires.lendable.enough.repeaters-enough)))

pub returns : goal.returns
returns c = front-placed c.requires c.volume-cells.ensures c.place_repeaters.ensures c.place_repeaters.auto.repeaters c.count_marks.ensures
