-- `terminal_for_endpoint` meets its contract: its tests are those of the definition.
use Rattle.std.specs.Prelude.{ℕ, Option, ok_or}
use Rattle.std.proofs.Common.{ap, ◌∙◌, rules}
use borrow.Author.Tests.{eq-eqb, ne_eqb}
use Rattle.basics.specs.Tests.{test_fails, test-passes}
use Rattle.room.specs.RoomLaws.{cell_in}
use Rattle.port_realization.specs.declared.EndFault.{EndFault}
use Rattle.port_realization.specs.Ports.{terminal_of}
use Rattle.port_realization.proofs.terminal_for_endpoint.Goals as goal

pub returns-then-port-eq-WIRE : goal.returns-then-port-eq-WIRE
unfolding terminal_of
returns-then-port-eq-WIRE c = rw (eq-eqb _ _ c.if-port-eq-WIRE.true, c.cell-cell.ensures)

pub returns-then-not-facing_horizontal : goal.returns-then-not-facing_horizontal
unfolding terminal_of
returns-then-not-facing_horizontal c = rw (ne_eqb _ _ c.if-port-eq-WIRE.false, test_fails c.facing_horizontal.ensures c.if-not-facing_horizontal.true-raw)

pub ahead-requires-clause-cell_bound : goal.ahead-requires-clause-cell_bound
ahead-requires-clause-cell_bound c = rw c.cell-cell.ensures (cell_in _ _ c.requires.within)

pub returns : goal.returns
unfolding terminal_of
returns c =
    rw (ne_eqb _ _ c.if-port-eq-WIRE.false, test-passes c.facing_horizontal.ensures c.if-not-facing_horizontal.false-raw, ← c.cell-cell.ensures, ← c.ahead.ensures)
    (c.ok_or.ensures.value ∙ ap (λ (faced : Option ℕ). ok_or faced EndFault.Outside) (search rules))
