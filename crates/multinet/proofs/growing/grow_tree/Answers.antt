-- `grow_tree` meets its contract: one turn after another, until a number is due or every sink has had its turn.
use mathlib.Core.Path.{refl, ◌∙◌}
use Rattle.multinet.specs.SinkTurns.{Lasting}
use Rattle.multinet.specs.TreeLaws.{first-turn, turnable, turn_recordable, turn-ends, turn-goes-on, all_grown}
use Rattle.multinet.proofs.growing.grow_tree.Goals as goal
use Rattle.multinet.proofs.growing.grow_tree.Goals.{After-grow_sink-turned}

-- after the turn of a sink each buffer is as long as at the start
lasting : (c : After-grow_sink-turned)
    → Lasting c.args.joinable.now c.grow_sink-turned.new.joinable c.args.blocked.now c.grow_sink-turned.new.blocked c.args.classes.now c.grow_sink-turned.new.classes c.args.known.now c.grow_sink-turned.new.known c.args.previous.now c.grow_sink-turned.new.previous c.args.path.now c.grow_sink-turned.new.path c.args.best.now c.grow_sink-turned.new.best c.args.queue.now c.grow_sink-turned.new.queue c.args.branches.now c.grow_sink-turned.new.branches
lasting c =
    let l = c.loop-turn.invariant.1.0 in
    let k = c.grow_sink-turned.auto in record {
      joinable-long = k.joinable ∙ l.joinable-long;
      blocked-long = k.blocked ∙ l.blocked-long;
      classes-long = k.classes ∙ l.classes-long;
      known-long = k.known ∙ l.known-long;
      previous-long = k.previous ∙ l.previous-long;
      path-long = k.path ∙ l.path-long;
      best-long = k.best ∙ l.best-long;
      queue_long = k.queue ∙ l.queue_long;
      branches-long = k.branches ∙ l.branches-long;
    }

pub loop-turn-init : goal.loop-turn-init
loop-turn-init c = (refl, (record { joinable-long = refl; blocked-long = refl; classes-long = refl; known-long = refl; previous-long = refl; path-long = refl; best-long = refl; queue_long = refl; branches-long = refl }, rw c.no_lengths-lengths.ensures (first-turn c.requires _ refl)))

pub grow_sink-turned-requires : goal.grow_sink-turned-requires
grow_sink-turned-requires c = rw (c.loop-turn.invariant.1.0.queue_long, c.loop-turn.invariant.1.0.branches-long) (turnable c.loop-turn.invariant.1.1 c.requires.sound (rw c.loop-turn.invariant.0 at c.loop-turn-test.true) (record { known-long = c.loop-turn.invariant.1.0.known-long ∙ c.requires.memory.known-long; previous-long = c.loop-turn.invariant.1.0.previous-long ∙ c.requires.memory.previous-long; path-long = c.loop-turn.invariant.1.0.path-long ∙ c.requires.memory.path-long }) (c.loop-turn.invariant.1.0.classes-long ∙ c.requires.classes-long) (c.loop-turn.invariant.1.0.best-long ∙ c.requires.best-long))

pub with_length-lengths-requires : goal.with_length-lengths-requires
with_length-lengths-requires c = turn_recordable c.loop-turn.invariant.1.1 (rw (c.loop-turn.invariant.1.0.queue_long, c.loop-turn.invariant.1.0.branches-long) at c.grow_sink-turned.ensures) c.in-Ok.is

pub returns-in-Err : goal.returns-in-Err
returns-in-Err c = turn-ends c.loop-turn.invariant.1.1 (rw (c.loop-turn.invariant.1.0.queue_long, c.loop-turn.invariant.1.0.branches-long) at c.grow_sink-turned.ensures) c.in-Err.is

pub loop-turn-preserved : goal.loop-turn-preserved
loop-turn-preserved c = (c.loop-turn.invariant.0, (lasting (goal.at.loop-turn-preserved c).After-grow_sink-turned, turn-goes-on c.loop-turn.invariant.1.1 (rw (c.loop-turn.invariant.1.0.queue_long, c.loop-turn.invariant.1.0.branches-long) at c.grow_sink-turned.ensures) (rw c.loop-turn.invariant.0 at c.loop-turn-test.true) c.in-Ok.is c.with_length-lengths.ensures))

pub returns : goal.returns
returns c = all_grown c.loop-turn.invariant.1.1 (rw c.loop-turn.invariant.0 at c.loop-turn-test.false)
