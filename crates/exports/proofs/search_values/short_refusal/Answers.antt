-- `short_refusal` meets its contract: 2 and 3 are judged before 6.
use mathlib.Core.Path.{sym, ◌∙◌}
use Rattle.room.specs.RoomLaws.{good}
use borrow.Author.Rules.{rules}
use Rattle.exports.proofs.search_values.short_refusal.Goals as goal

pub returns-then-not-good : goal.returns-then-not-good
returns-then-not-good c = rw (sym c.good.ensures ∙ c.if-not-good.true)

pub good-requires-2 : goal.good-requires-2
good-requires-2 c = good _ (sym c.good.ensures ∙ c.if-not-good.false)

pub returns-then-not-good-2 : goal.returns-then-not-good-2
returns-then-not-good-2 c = rw (sym c.good.ensures ∙ c.if-not-good.false, sym c.good-2.ensures ∙ c.if-not-good-2.true)

pub returns : goal.returns
returns c = rw (sym c.good.ensures ∙ c.if-not-good.false, sym c.good-2.ensures ∙ c.if-not-good-2.false)
