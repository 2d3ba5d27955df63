-- `put_block` meets its contract: a line, or nothing.
use native.Mathlib.Omega.{arith}
use Rattle.function_file.specs.WriteLaws.{air-none, some-line, place-small, kind-low, facing-low}
use Rattle.function_file.proofs.writing.put_block.Goals as goal

pub returns-then-kind-eq-AIR : goal.returns-then-kind-eq-AIR
returns-then-kind-eq-AIR c = air-none c.args.room c.args.cell c.args.kind c.args.facing c.if-kind-eq-AIR.true

pub put_line-requires : goal.put_line-requires
put_line-requires c = let s = place-small c.requires.good c.requires.at_bound.1 in rw c.pos.ensures (omega arith, s.0, s.1, s.2, kind-low c.args.kind c.args.facing c.requires.at_bound.2, facing-low c.args.kind c.args.facing c.requires.at_bound.2)

pub returns-else-kind-eq-AIR : goal.returns-else-kind-eq-AIR
returns-else-kind-eq-AIR c = rw (some-line c.args.room c.args.cell c.args.kind c.args.facing c.if-kind-eq-AIR.false, ← c.pos.ensures) c.put_line.ensures
