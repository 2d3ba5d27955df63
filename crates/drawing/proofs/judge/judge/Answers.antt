-- `judge` meets its contract: its tests are the definition's, in its order.
use mathlib.Core.Path.{sym, ◌∙◌}
use Rattle.room.specs.RoomLaws.{good}
use Rattle.drawing.specs.Answers.{judged}
use Rattle.drawing.proofs.judge.judge.Goals as goal

pub returns-then-not-good : goal.returns-then-not-good
unfolding judged
returns-then-not-good c = rw (sym c.good.ensures ∙ c.if-not-good.true)

pub buffers_good-requires : goal.buffers_good-requires
buffers_good-requires c = good c.args.room (sym c.good.ensures ∙ c.if-not-good.false)

pub returns-then-not-buffers_good : goal.returns-then-not-buffers_good
unfolding judged
returns-then-not-buffers_good c = rw (sym c.good.ensures ∙ c.if-not-good.false, sym c.buffers_good.ensures ∙ c.if-not-buffers_good.true)

pub returns-then-not-codes_good : goal.returns-then-not-codes_good
unfolding judged
returns-then-not-codes_good c = rw (sym c.good.ensures ∙ c.if-not-good.false, sym c.buffers_good.ensures ∙ c.if-not-buffers_good.false, sym c.codes_good.ensures ∙ c.if-not-codes_good.true)

pub path_inside-requires : goal.path_inside-requires
path_inside-requires c = good c.args.room (sym c.good.ensures ∙ c.if-not-good.false)

pub returns-then-not-path_inside : goal.returns-then-not-path_inside
unfolding judged
returns-then-not-path_inside c = rw (sym c.good.ensures ∙ c.if-not-good.false, sym c.buffers_good.ensures ∙ c.if-not-buffers_good.false, sym c.codes_good.ensures ∙ c.if-not-codes_good.false, sym c.path_inside.ensures ∙ c.if-not-path_inside.true)

pub returns : goal.returns
unfolding judged
returns c = rw (sym c.good.ensures ∙ c.if-not-good.false, sym c.buffers_good.ensures ∙ c.if-not-buffers_good.false, sym c.codes_good.ensures ∙ c.if-not-codes_good.false, sym c.path_inside.ensures ∙ c.if-not-path_inside.false)
