-- `make_end` meets its contract: one class is written.
use Rattle.room_search.proofs.classes.make_end.Goals as goal

pub returns : goal.returns
returns c = rw (c.class_for.ensures, c.kind_beneath.ensures)
