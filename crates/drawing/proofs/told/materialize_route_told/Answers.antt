-- `materialize_route_told` keeps its promise: too few values, or the answer of `materialize_route`, told.
use Rattle.drawing.specs.RouteToldLaws.{route-short, route-told, handed_on}
use Rattle.drawing.proofs.told.materialize_route_told.Goals as goal

pub returns-then-values-lt-ROUTE_VALUES : goal.returns-then-values-lt-ROUTE_VALUES
returns-then-values-lt-ROUTE_VALUES c = route-short _ _ _ _ _ c.if-values-lt-ROUTE_VALUES.true c.short_number.ensures

pub returns : goal.returns
returns c = route-told _ _ _ _ _ c.if-values-lt-ROUTE_VALUES.false (handed_on _ _ _ _ c.kind_handed_on-kind.ensures c.materialize_route-drawn.ensures) c.tell_drawn.ensures.value c.tell_drawn.ensures.values_after
