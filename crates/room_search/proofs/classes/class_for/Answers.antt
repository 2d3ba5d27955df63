-- `class_for` meets its contract: the definition, by cases of its test.
use mathlib.Core.Path.{sym, ◌∙◌}
use Rattle.room_search.specs.Routing.{class_for}
use Rattle.room_search.proofs.classes.class_for.Goals as goal

pub returns-then-routeable_kind : goal.returns-then-routeable_kind
unfolding class_for
returns-then-routeable_kind c = rw (sym c.routeable_kind.ensures ∙ c.if-routeable_kind.true) c.bearing_of.ensures

pub returns-else-routeable_kind : goal.returns-else-routeable_kind
unfolding class_for
returns-else-routeable_kind c = rw (sym c.routeable_kind.ensures ∙ c.if-routeable_kind.false)
