-- `fill_obstacles` meets its contract: the classes with both ends made, turned.
use mathlib.Core.Path.{◌∙◌}
use Rattle.why.specs.ObstacleLaws.{obstacles_turned}
use borrow.Author.Rules.{rules}
use Rattle.why.proofs.obstacles.fill_obstacles.Goals as goal

pub returns : goal.returns
returns c = c.turn_to_obstacles.ensures ∙ rw (c.make_end-2.ensures, c.make_end.ensures) (obstacles_turned c.args.room c.args.kinds.now c.args.start c.args.goal c.fill_classes.ensures c.requires.start_bound c.requires.goal_bound c.requires.kinds_len)
