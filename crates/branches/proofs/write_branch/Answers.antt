-- `write_branch` meets its contract: behind the path, reversed, the terminal where it differs from the approach.
use native.Mathlib.Omega.{arith}
use Rattle.branches.specs.WriteLaws.{path-fits, terminal_fits, written_same, written-more}
use Rattle.branches.proofs.write_branch.Goals as goal

pub write_reversed-requires : goal.write_reversed-requires
write_reversed-requires c = path-fits c.args.tap _ _ c.requires.path_in_bounds

pub bounds-out-end : goal.bounds-out-end
bounds-out-end c =
    let args = c.args in
    omega (arith, terminal_fits args.tap args.path.now _ c.requires.path_in_bounds c.if-tap.true, c.write_reversed.auto.out)

pub returns-then-tap : goal.returns-then-tap
returns-then-tap c =
    let tap = c.args.tap in
    let differs = c.if-tap.true in
    written-more tap _ _ _ c.write_reversed.ensures differs (terminal_fits tap _ _ c.requires.path_in_bounds differs)

pub returns-else-tap : goal.returns-else-tap
returns-else-tap c = written_same c.args.tap _ _ _ c.write_reversed.ensures c.if-tap.false
