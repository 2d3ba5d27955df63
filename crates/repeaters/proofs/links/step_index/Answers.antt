-- `step_index` meets its contract: a step changes each part by at most 1.
use native.Mathlib.Omega.{arith}
use Rattle.repeaters.specs.MaskLaws.{StepParts, step-parts}
use Rattle.repeaters.proofs.links.step_index.Goals as goal
use Rattle.repeaters.proofs.links.step_index.Goals.{After-pos-q}

-- the parts of the two cells, as the step changes them
parts : (c : After-pos-q) → StepParts c.pos-p.result c.pos-q.result
parts c = step-parts c.requires.step c.requires.good _ _ c.pos-p.ensures c.pos-q.ensures

pub overflow_add-q : goal.overflow_add-q
overflow_add-q c = record { fits = omega (arith, (parts (goal.at.overflow_add-q c).After-pos-q).x_few) }

pub overflow_sub-q : goal.overflow_sub-q
overflow_sub-q c = (parts (goal.at.overflow_sub-q c).After-pos-q).x_back

pub overflow_add-q-2 : goal.overflow_add-q-2
overflow_add-q-2 c = record { fits = omega (arith, (parts (goal.at.overflow_add-q-2 c).After-pos-q).y_few) }

pub overflow_sub-q-2 : goal.overflow_sub-q-2
overflow_sub-q-2 c = (parts (goal.at.overflow_sub-q-2 c).After-pos-q).y_back

pub overflow_add-q-3 : goal.overflow_add-q-3
overflow_add-q-3 c = record { fits = omega (arith, (parts (goal.at.overflow_add-q-3 c).After-pos-q).z_few) }

pub overflow_sub-q-3 : goal.overflow_sub-q-3
overflow_sub-q-3 c = (parts (goal.at.overflow_sub-q-3 c).After-pos-q).z_back

pub move_index-requires : goal.move_index-requires
move_index-requires c = let p = parts (goal.at.move_index-requires c).After-pos-q in (p.y_small, p.z_small)

pub returns : goal.returns
returns c = rw (c.pos-p.ensures, c.pos-q.ensures) at c.move_index.ensures
