-- `tell_causes` meets its contract: what others keep free, the net's own cells taken out, then its own clearances.
use mathlib.Core.Path.{◌∙◌}
use Rattle.causes.specs.CauseLaws.{own-free, causes-told}
use Rattle.causes.proofs.telling.tell_causes.Goals as goal

pub add_own-requires-clause-good : goal.add_own-requires-clause-good
add_own-requires-clause-good c = let p = c.requires in p.foreign.sized.good

pub add_own-requires-clause-own_branches : goal.add_own-requires-clause-own_branches
add_own-requires-clause-own_branches c = let p = c.requires in p.own

pub add_own-requires-clause-marks_len : goal.add_own-requires-clause-marks_len
add_own-requires-clause-marks_len c = let p = c.requires in c.tell_foreign.auto.marks ∙ p.foreign.sized.long

pub add_own-requires-clause-bit_free : goal.add_own-requires-clause-bit_free
add_own-requires-clause-bit_free c = let p = c.requires in own-free p c.tell_foreign.ensures c.take_out_ends.ensures

pub returns : goal.returns
returns c = causes-told c.requires c.tell_foreign.ensures c.take_out_ends.ensures c.add_own.ensures
