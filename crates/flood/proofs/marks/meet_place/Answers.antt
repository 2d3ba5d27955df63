-- `meet_place` meets its contract: it meets the cell at the place, if there is one and nothing stands against it.
use Rattle.flood.specs.FloodLaws.{place_none, place-shut, place-met}
use borrow.Author.Rules.{rules}
use Rattle.flood.proofs.marks.meet_place.Goals as goal

pub returns-in_default : goal.returns-in_default
returns-in_default c = place_none c.requires.held c.in_default.is

pub bounds-obstacles-cell : goal.bounds-obstacles-cell
bounds-obstacles-cell c = rw c.requires.obstacles_len (c.requires.by_index _ c.in-Some.is)

pub returns-then-obstacles-cell-ne0 : goal.returns-then-obstacles-cell-ne0
returns-then-obstacles-cell-ne0 c = place-shut c.requires.held _ c.in-Some.is c.if-obstacles-cell-ne0.true

pub meet-requires-clause-held : goal.meet-requires-clause-held
meet-requires-clause-held c = c.requires.held

pub meet-requires-clause-reached_len_bound : goal.meet-requires-clause-reached_len_bound
meet-requires-clause-reached_len_bound c = c.requires.reached_len_bound

pub meet-requires-clause-cell_in_bounds : goal.meet-requires-clause-cell_in_bounds
meet-requires-clause-cell_in_bounds c = c.requires.by_index _ c.in-Some.is

pub returns : goal.returns
returns c = place-met _ c.in-Some.is c.if-obstacles-cell-ne0.false c.meet.ensures
