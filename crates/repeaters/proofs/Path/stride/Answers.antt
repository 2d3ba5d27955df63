-- `Path::stride` meets its contract: each of its answers is one case of a stride.
use Rattle.std.proofs.Common.{◌<◌, length, ◌∙◌, arith, sym}
use Rattle.repeaters.specs.StrideLaws.{this-or-before, strode_met, strode_on, strode_put, chosen-after}
use Rattle.repeaters.proofs.Path.stride.Goals as goal
use Rattle.repeaters.proofs.Path.stride.Goals.{Then-limit-place, in_default-via-in-Some+else-limit-place, in_default-via-in_default}

-- the place chosen is one of the path
chosen-on : (c : Then-limit-place) → c.in-Some.chosen < length c.args.self.now.cells.now
chosen-on c = omega (arith, (chosen-after c.requires.walking _ (this-or-before _ _ _ _ _ _ c.then_some.ensures c.or-latest.ensures c.may_stand-passes.ensures) _ c.in-Some.is).1, c.requires.place_in_bounds)

pub at_reset-requires : goal.at_reset-requires
at_reset-requires c = omega (arith, c.requires.place_in_bounds)

pub returns-then-repeaters-cell-eq-MARKED : goal.returns-then-repeaters-cell-eq-MARKED
returns-then-repeaters-cell-eq-MARKED c =
    rw c.at_reset.ensures (strode_met _ _ _ _ _ c.requires.walking c.requires.place_in_bounds (rw c.as_index-cell.ensures.0 at c.if-repeaters-cell-eq-MARKED.true))

pub offset_bounds-self-chosen : goal.offset_bounds-self-chosen
offset_bounds-self-chosen c = record { fits = omega (arith, chosen-on (goal.at.offset_bounds-self-chosen c).Then-limit-place) }

pub bounds-self-chosen : goal.bounds-self-chosen
bounds-self-chosen c = chosen-on (goal.at.bounds-self-chosen c).Then-limit-place

pub at_reset-requires-in-Some : goal.at_reset-requires-in-Some
at_reset-requires-in-Some c = omega (arith, chosen-on (goal.at.at_reset-requires-in-Some c).Then-limit-place)

pub returns-in-Some : goal.returns-in-Some
returns-in-Some c =
    rw (c.at_reset-in-Some.ensures, c.as_index.ensures.0) (strode_put _ _ _ _ _ c.requires.walking c.requires.place_in_bounds (rw c.as_index-cell.ensures.0 at c.if-repeaters-cell-eq-MARKED.false) _ (this-or-before _ _ _ _ _ _ c.then_some.ensures c.or-latest.ensures c.may_stand-passes.ensures) c.if-limit-place.true _ c.in-Some.is)

pub returns-in_default : goal.returns-in_default
returns-in_default c =
    let free = rw c.as_index-cell.ensures.0 at c.if-repeaters-cell-eq-MARKED.false in
    let on = strode_on _ _ _ _ _ c.requires.walking c.requires.place_in_bounds free _ (this-or-before _ _ _ _ _ _ c.then_some.ensures c.or-latest.ensures c.may_stand-passes.ensures) in
    elim c.in_default.branch [ in_default-via-in-Some+else-limit-place w ↦ rw (w.latest-is ∙ sym w.in-Some.is) (on (λ h. absurd (omega (arith, h, w.if-limit-place.false)))) | in_default-via-in_default w ↦ rw w.latest-is (on (λ h. w.in_default.is)) ]
