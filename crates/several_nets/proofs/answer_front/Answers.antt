-- `answer_front` meets its contract: the front of each buffer is lent on; the branch buffer, the lengths and the queue whole.
use Rattle.several_nets.specs.LentLaws.{front-good, front-asked, front-answered}
use lib.Seq.{length-take-le}
use mathlib.Core.Path.{refl, sym}
use native.Mathlib.Omega.{arith}
use Rattle.several_nets.proofs.answer_front.Goals as goal

pub first_cells-cells-requires : goal.first_cells-cells-requires
first_cells-cells-requires c = front-good c.requires.asked

pub slice_bounds-answer_list-end : goal.slice_bounds-answer_list-end
slice_bounds-answer_list-end c = omega (arith, c.first_cells-cells.ensures, c.requires.asked.enough.owners)

pub slice_bounds-answer_list-end-2 : goal.slice_bounds-answer_list-end-2
slice_bounds-answer_list-end-2 c = sym (length-take-le _ _ (omega (arith, c.first_cells-cells.ensures, c.requires.asked.enough.owners)))

pub slice_bounds-answer_list-end-3 : goal.slice_bounds-answer_list-end-3
slice_bounds-answer_list-end-3 c = omega (arith, c.first_cells-cells.ensures, c.requires.asked.enough.repeaters)

pub slice_bounds-answer_list-end-4 : goal.slice_bounds-answer_list-end-4
slice_bounds-answer_list-end-4 c = sym (length-take-le _ _ (omega (arith, c.first_cells-cells.ensures, c.requires.asked.enough.repeaters)))

pub slice_bounds-answer_list-end-5 : goal.slice_bounds-answer_list-end-5
slice_bounds-answer_list-end-5 c = omega (arith, c.first_cells-cells.ensures, c.requires.asked.enough.kinds)

pub slice_bounds-answer_list-end-6 : goal.slice_bounds-answer_list-end-6
slice_bounds-answer_list-end-6 c = sym (length-take-le _ _ (omega (arith, c.first_cells-cells.ensures, c.requires.asked.enough.kinds)))

pub slice_bounds-answer_list-end-7 : goal.slice_bounds-answer_list-end-7
slice_bounds-answer_list-end-7 c = omega (arith, c.first_cells-cells.ensures, c.requires.asked.enough.facings)

pub slice_bounds-answer_list-end-8 : goal.slice_bounds-answer_list-end-8
slice_bounds-answer_list-end-8 c = sym (length-take-le _ _ (omega (arith, c.first_cells-cells.ensures, c.requires.asked.enough.facings)))

pub slice_bounds-answer_list-end-9 : goal.slice_bounds-answer_list-end-9
slice_bounds-answer_list-end-9 c = omega (arith, c.first_cells-cells.ensures, c.requires.asked.enough.occupied)

pub slice_bounds-answer_list-end-10 : goal.slice_bounds-answer_list-end-10
slice_bounds-answer_list-end-10 c = sym (length-take-le _ _ (omega (arith, c.first_cells-cells.ensures, c.requires.asked.enough.occupied)))

pub slice_bounds-answer_list-end-11 : goal.slice_bounds-answer_list-end-11
slice_bounds-answer_list-end-11 c = omega (arith, c.first_cells-cells.ensures, c.requires.asked.enough.planned)

pub slice_bounds-answer_list-end-12 : goal.slice_bounds-answer_list-end-12
slice_bounds-answer_list-end-12 c = sym (length-take-le _ _ (omega (arith, c.first_cells-cells.ensures, c.requires.asked.enough.planned)))

pub slice_bounds-answer_list-end-13 : goal.slice_bounds-answer_list-end-13
slice_bounds-answer_list-end-13 c = omega (arith, c.first_cells-cells.ensures, c.requires.asked.enough.before)

pub slice_bounds-answer_list-end-14 : goal.slice_bounds-answer_list-end-14
slice_bounds-answer_list-end-14 c = sym (length-take-le _ _ (omega (arith, c.first_cells-cells.ensures, c.requires.asked.enough.before)))

pub slice_bounds-answer_list-end-15 : goal.slice_bounds-answer_list-end-15
slice_bounds-answer_list-end-15 c = omega (arith, c.first_cells-cells.ensures, c.requires.asked.enough.room)

pub slice_bounds-answer_list-end-16 : goal.slice_bounds-answer_list-end-16
slice_bounds-answer_list-end-16 c = sym (length-take-le _ _ (omega (arith, c.first_cells-cells.ensures, c.requires.asked.enough.room)))

pub slice_bounds-answer_list-end-17 : goal.slice_bounds-answer_list-end-17
slice_bounds-answer_list-end-17 c = omega (arith, c.first_cells-cells.ensures, c.requires.asked.enough.blocked)

pub slice_bounds-answer_list-end-18 : goal.slice_bounds-answer_list-end-18
slice_bounds-answer_list-end-18 c = sym (length-take-le _ _ (omega (arith, c.first_cells-cells.ensures, c.requires.asked.enough.blocked)))

pub slice_bounds-answer_list-end-19 : goal.slice_bounds-answer_list-end-19
slice_bounds-answer_list-end-19 c = omega (arith, c.first_cells-cells.ensures, c.requires.asked.enough.classes)

pub slice_bounds-answer_list-end-20 : goal.slice_bounds-answer_list-end-20
slice_bounds-answer_list-end-20 c = sym (length-take-le _ _ (omega (arith, c.first_cells-cells.ensures, c.requires.asked.enough.classes)))

pub slice_bounds-answer_list-end-21 : goal.slice_bounds-answer_list-end-21
slice_bounds-answer_list-end-21 c = omega (arith, c.first_cells-cells.ensures, c.requires.asked.enough.joinable)

pub slice_bounds-answer_list-end-22 : goal.slice_bounds-answer_list-end-22
slice_bounds-answer_list-end-22 c = sym (length-take-le _ _ (omega (arith, c.first_cells-cells.ensures, c.requires.asked.enough.joinable)))

pub slice_bounds-answer_list-end-23 : goal.slice_bounds-answer_list-end-23
slice_bounds-answer_list-end-23 c = omega (arith, c.first_cells-cells.ensures, c.requires.asked.enough.known)

pub slice_bounds-answer_list-end-24 : goal.slice_bounds-answer_list-end-24
slice_bounds-answer_list-end-24 c = sym (length-take-le _ _ (omega (arith, c.first_cells-cells.ensures, c.requires.asked.enough.known)))

pub slice_bounds-answer_list-end-25 : goal.slice_bounds-answer_list-end-25
slice_bounds-answer_list-end-25 c = omega (arith, c.first_cells-cells.ensures, c.requires.asked.enough.previous)

pub slice_bounds-answer_list-end-26 : goal.slice_bounds-answer_list-end-26
slice_bounds-answer_list-end-26 c = sym (length-take-le _ _ (omega (arith, c.first_cells-cells.ensures, c.requires.asked.enough.previous)))

pub slice_bounds-answer_list-end-27 : goal.slice_bounds-answer_list-end-27
slice_bounds-answer_list-end-27 c = omega (arith, c.first_cells-cells.ensures, c.requires.asked.enough.path)

pub slice_bounds-answer_list-end-28 : goal.slice_bounds-answer_list-end-28
slice_bounds-answer_list-end-28 c = sym (length-take-le _ _ (omega (arith, c.first_cells-cells.ensures, c.requires.asked.enough.path)))

pub slice_bounds-answer_list-end-29 : goal.slice_bounds-answer_list-end-29
slice_bounds-answer_list-end-29 c = omega (arith, c.first_cells-cells.ensures, c.requires.asked.enough.best)

pub slice_bounds-answer_list-end-30 : goal.slice_bounds-answer_list-end-30
slice_bounds-answer_list-end-30 c = sym (length-take-le _ _ (omega (arith, c.first_cells-cells.ensures, c.requires.asked.enough.best)))

pub answer_list-requires-clause-asked : goal.answer_list-requires-clause-asked
answer_list-requires-clause-asked c = front-asked c.requires.asked c.first_cells-cells.ensures

pub returns : goal.returns
returns c =
    front-answered c.requires.asked c.first_cells-cells.ensures c.answer_list.ensures
    refl refl refl refl refl refl
