-- `set_blocked` meets its contract: the classes are refreshed at the cell whose mark changed.
use Rattle.goals.proofs.AttemptLaws.{set_says}
use Rattle.room.specs.RoomLaws.{same-cell}
use Rattle.goals.proofs.attempts.set_blocked.Goals as goal

pub put_mark-requires : goal.put_mark-requires
put_mark-requires c =
    λ v e. rw (← same-cell _ v e, c.requires.world_fits.blocked-long) c.requires.cell_bound

pub returns-clause-blocked_after : goal.returns-clause-blocked_after
returns-clause-blocked_after c =
    let put-mark = c.put_mark in
    let args = c.args in
    put-mark.ensures

pub returns-clause-says_2 : goal.returns-clause-says_2
returns-clause-says_2 c =
    let put-mark = c.put_mark in
    let args = c.args in
    set_says args.mark c.requires.world_fits c.requires.says c.requires.cell_bound put-mark.ensures c.refresh.ensures
