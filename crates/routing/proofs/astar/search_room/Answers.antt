-- `search_room` meets its contract: classes are filled in, and the search runs over the task's own graph.
use Rattle.routing.specs.EntryLaws.{classed-searchable, classed-found}
use Rattle.routing.proofs.astar.search_room.Goals as goal

pub search_classes-requires : goal.search_classes-requires
search_classes-requires c =
    let pre = c.requires in
    rw (c.make_end-2.ensures, c.make_end.ensures) (classed-searchable pre c.fill_classes.ensures)

pub returns : goal.returns
returns c =
    let pre = c.requires in
    classed-found pre c.fill_classes.ensures (rw (c.make_end-2.ensures, c.make_end.ensures) at c.search_classes.ensures)
