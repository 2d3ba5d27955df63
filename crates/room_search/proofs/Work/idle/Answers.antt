-- `Work::idle` meets its contract: it says so of a move that leads nowhere, and of one to a cell that is known no dearer.
use Rattle.std.proofs.Common.{arith}
use borrow.Author.Tests.{leb-true}
use Rattle.room_search.specs.IdleMoves.{no_step, kept}
use Rattle.room_search.specs.TryLaws.{step-most}
use Rattle.room_search.proofs.Work.idle.Goals as goal

pub overflow_add-result : goal.overflow_add-result
overflow_add-result c = record { fits = omega (arith, step-most c.in-Some.ensures, c.requires.scannable.cost-most) }

pub returns-then-old-ne0 : goal.returns-then-old-ne0
returns-then-old-ne0 c = record { told = λ t. kept _ c.in-Some.ensures c.if-old-ne0.true (leb-true _ _ t) }

pub returns-in-None : goal.returns-in-None
returns-in-None c = record { told = λ _. no_step c.in-None.ensures }
