-- `Path::reinforce_path` meets its contract: each way through it is a case of the definition.
use Rattle.std.proofs.Common.{◌<◌, length, arith, ⊎_elim, sym, ◌∙◌}
use Rattle.repeaters.specs.TailLaws.{last_in, reinforced-near, reinforced-none, reinforced-put, earliest_in}
use Rattle.repeaters.proofs.Path.reinforce_path.Goals as goal
use Rattle.repeaters.proofs.Path.reinforce_path.Goals.{In-Some}

-- the place found is one of the path
place-on : (c : In-Some) → c.in-Some.place < length c.args.self.now.cells.now
place-on c = omega (arith, earliest_in _ _ _ _ (sym c.in-Some.is ∙ c.tail_place-place.ensures), c.if-end-last.false)

pub overflow_add-last : goal.overflow_add-last
overflow_add-last c = record { fits = ⊎_elim (λ z. omega (arith, z)) (λ h. omega (arith, h)) (last_in c.args.self.now.cells.now c.args.repeaters.now _ c.last_reset-last.ensures) }

pub returns-then-self-last : goal.returns-then-self-last
returns-then-self-last c = reinforced-near _ _ _ _ _ c.last_reset-last.ensures (omega (arith, c.if-self-last.true))

pub returns-then-end-last : goal.returns-then-end-last
returns-then-end-last c = reinforced-near _ _ _ _ _ c.last_reset-last.ensures (omega (arith, c.if-end-last.true))

pub offset_bounds-self-place : goal.offset_bounds-self-place
offset_bounds-self-place c = record { fits = omega (arith, place-on (goal.at.offset_bounds-self-place c).In-Some) }

pub bounds-self-place : goal.bounds-self-place
bounds-self-place c = place-on (goal.at.bounds-self-place c).In-Some

pub returns-in-Some : goal.returns-in-Some
returns-in-Some c = rw c.as_index.ensures.0 (reinforced-put _ _ _ _ _ c.last_reset-last.ensures c.if-end-last.false _ c.tail_place-place.ensures _ c.in-Some.is)

pub returns-in_default : goal.returns-in_default
returns-in_default c = reinforced-none _ _ _ _ _ c.last_reset-last.ensures c.if-end-last.false _ c.tail_place-place.ensures c.in_default.is
