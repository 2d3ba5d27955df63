-- `read_lines` meets its contract: what is left of the text comes to what the whole comes to.
use mathlib.Core.Path.{sym, ◌∙◌}
use native.Mathlib.Omega.{arith}
use lib.ListN.{drop, length-drop}
use Rattle.function_file.specs.ReadLaws.{reading_begun, reading-on, reading-whole, reading-bad, accepted}
use Rattle.function_file.proofs.reading.read_lines.Goals as goal

pub loop-at-init : goal.loop-at-init
loop-at-init c = reading_begun

pub accepted_size-requires-clause-good : goal.accepted_size-requires-clause-good
accepted_size-requires-clause-good c = c.requires.good

pub accepted_size-requires-clause-at_in_bounds : goal.accepted_size-requires-clause-at_in_bounds
accepted_size-requires-clause-at_in_bounds c = omega arith

pub returns-in_default : goal.returns-in_default
returns-in_default c = reading-bad c.loop-at.invariant c.requires.good c.loop-at-test.true (rw (← c.guess_line-g.ensures) (sym c.in_default.is ∙ c.accepted_size.ensures))

pub cell-cell-requires-clause-good : goal.cell-cell-requires-clause-good
cell-cell-requires-clause-good c = let K = accepted c.args.room c.requires.good c.loop-at.next c.guess_line-g.result (drop c.loop-at.at c.args.text.now) c.in-Some.ensures in c.requires.good

pub cell-cell-requires-clause-within : goal.cell-cell-requires-clause-within
cell-cell-requires-clause-within c = let K = accepted c.args.room c.requires.good c.loop-at.next c.guess_line-g.result (drop c.loop-at.at c.args.text.now) c.in-Some.ensures in K.place_in

pub bounds-kinds-cell : goal.bounds-kinds-cell
bounds-kinds-cell c = let K = accepted c.args.room c.requires.good c.loop-at.next c.guess_line-g.result (drop c.loop-at.at c.args.text.now) c.in-Some.ensures in omega (arith, K.lawful.inside, c.cell-cell.ensures, c.requires.room_in_bounds.0, c.loop-at.invariant.kinds_kept)

pub bounds-facings-cell : goal.bounds-facings-cell
bounds-facings-cell c = let K = accepted c.args.room c.requires.good c.loop-at.next c.guess_line-g.result (drop c.loop-at.at c.args.text.now) c.in-Some.ensures in omega (arith, K.lawful.inside, c.cell-cell.ensures, c.requires.room_in_bounds.1, c.loop-at.invariant.facings-kept)

pub overflow_add-at : goal.overflow_add-at
overflow_add-at c = let K = accepted c.args.room c.requires.good c.loop-at.next c.guess_line-g.result (drop c.loop-at.at c.args.text.now) c.in-Some.ensures in omega (arith, K.size, length-drop c.loop-at.at c.args.text.now, c.loop-at.invariant.within)

pub overflow_add-next : goal.overflow_add-next
overflow_add-next c = let K = accepted c.args.room c.requires.good c.loop-at.next c.guess_line-g.result (drop c.loop-at.at c.args.text.now) c.in-Some.ensures in omega (arith, K.lawful.inside, c.cell-cell.ensures, c.requires.good.few)

pub loop-at-smaller : goal.loop-at-smaller
loop-at-smaller c = let K = accepted c.args.room c.requires.good c.loop-at.next c.guess_line-g.result (drop c.loop-at.at c.args.text.now) c.in-Some.ensures in omega (arith, K.some, K.size, length-drop c.loop-at.at c.args.text.now, c.loop-at-test.true)

pub loop-at-preserved : goal.loop-at-preserved
loop-at-preserved c = let K = accepted c.args.room c.requires.good c.loop-at.next c.guess_line-g.result (drop c.loop-at.at c.args.text.now) c.in-Some.ensures in reading-on c.loop-at.invariant c.guess_line-g.result K c.cell-cell.ensures

pub returns : goal.returns
returns c = reading-whole c.loop-at.invariant c.loop-at-test.false
