-- `never_full` meets its contract: each test is one of the definition's.
use native.Mathlib.Omega.{arith}
use lib.ListN.{length}
use borrow.Author.Tests.{le-leb, lt-leb}
use Rattle.goals.specs.NeverFull.{never_full}
use Rattle.goals.specs.EnterLaws.{enterable-most}
use Rattle.std.proofs.lemmas.Bool.Decides.{nat_tests}
use Rattle.goals.proofs.to_tree.never_full.Goals as goal

pub overflow_add-result : goal.overflow_add-result
overflow_add-result c =
    let args = c.args in
    record { fits = omega (arith, c.count_enterable.ensures, enterable-most (length args.classes.now) args.classes.now, c.requires) }

pub overflow_mul-result : goal.overflow_mul-result
overflow_mul-result c =
    let args = c.args in
    record { fits = omega (arith, c.count_enterable.ensures, enterable-most (length args.classes.now) args.classes.now, c.requires) }

pub returns-then-classes-longs : goal.returns-then-classes-longs
unfolding never_full
returns-then-classes-longs c = rw (le-leb _ _ c.if-config-ge20.true.0, le-leb _ _ c.if-config-ge20.true.1, le-leb _ _ c.if-classes-longs.true)

pub returns-else-classes-longs : goal.returns-else-classes-longs
unfolding never_full
returns-else-classes-longs c = rw (le-leb _ _ c.if-config-ge20.true.0, le-leb _ _ c.if-config-ge20.true.1, lt-leb _ _ c.if-classes-longs.false, ← c.count_enterable.ensures)

pub returns-else-config-ge20 : goal.returns-else-config-ge20
unfolding never_full
returns-else-config-ge20 c = grind (arith, nat_tests)
