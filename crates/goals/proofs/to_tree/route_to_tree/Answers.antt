-- `route_to_tree` meets its contract, whichever of the two ways it goes.
use mathlib.Core.Path.{sym, ◌∙◌}
use Rattle.goals.proofs.FullLaws.{tested-never}
use Rattle.goals.proofs.to_tree.route_to_tree.Goals as goal

pub by_bids-requires-clause-attemptable : goal.by_bids-requires-clause-attemptable
by_bids-requires-clause-attemptable c =
    c.requires.attemptable

pub by_bids-requires-clause-best_len : goal.by_bids-requires-clause-best_len
by_bids-requires-clause-best_len c =
    c.requires.best_len

pub by_bids-requires-clause-never_full : goal.by_bids-requires-clause-never_full
by_bids-requires-clause-never_full c =
    tested-never c.requires.attemptable (sym c.never_full.ensures ∙ c.if-never_full.true)
