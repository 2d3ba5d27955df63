-- `obstacle_for` meets its contract: its tests are the definition's.
use Rattle.basics.specs.Tests.{test_fails, test-passes}
use Rattle.why_tree.proofs.TellingLaws.{kind-taken, kind_unborne, kind-free}
use Rattle.why_tree.proofs.obstacles.obstacle_for.Goals as goal

pub returns-then-not-routeable_kind : goal.returns-then-not-routeable_kind
returns-then-not-routeable_kind c = kind-taken _ _ _ (test_fails c.routeable_kind.ensures c.if-not-routeable_kind.true-raw)

pub returns-then-class_for-eq0 : goal.returns-then-class_for-eq0
returns-then-class_for-eq0 c = kind_unborne _ _ _ (test-passes c.routeable_kind.ensures c.if-not-routeable_kind.false-raw) c.class_for.ensures c.if-class_for-eq0.true

pub returns-else-class_for-eq0 : goal.returns-else-class_for-eq0
returns-else-class_for-eq0 c = kind-free _ _ _ (test-passes c.routeable_kind.ensures c.if-not-routeable_kind.false-raw) c.class_for.ensures c.if-class_for-eq0.false
