-- `route_net_tree` keeps its promise: refused by its reading, by number 6, or routed.
use mathlib.Core.Path.{refl, ◌∙◌, sym}
use borrow.Author.Rules.{rules}
use Rattle.outset.specs.SetOutLaws.{good-room}
use Rattle.job_sheet.proofs.Theorems.{accepted-by}
use Rattle.net_tree.specs.LentLaws.{promise_unread, promise_unlent, promise-held}
use Rattle.net_tree.proofs.entry.route_net_tree.Goals as goal

pub returns-then-not-is_good : goal.returns-then-not-is_good
returns-then-not-is_good c = promise_unread c.read_sheet-reading.ensures (sym c.is_good.ensures ∙ c.if-not-is_good.true) (rw c.number-number.ensures refl)

pub lent_enough-requires : goal.lent_enough-requires
lent_enough-requires c = good-room (accepted-by c.read_sheet-reading.ensures (sym c.is_good.ensures ∙ c.if-not-is_good.false))

pub returns-then-not-lent_enough : goal.returns-then-not-lent_enough
returns-then-not-lent_enough c = promise_unlent (accepted-by c.read_sheet-reading.ensures (sym c.is_good.ensures ∙ c.if-not-is_good.false)) (sym c.lent_enough.ensures ∙ c.if-not-lent_enough.true) refl

pub route_lent-requires : goal.route_lent-requires
route_lent-requires c = record { accepted = accepted-by c.read_sheet-reading.ensures (sym c.is_good.ensures ∙ c.if-not-is_good.false); buffers = sym c.lent_enough.ensures ∙ c.if-not-lent_enough.false }

pub returns : goal.returns
returns c = promise-held c.route_lent.new.memory c.route_lent.ensures.promise (search rules) (search rules) (search rules) (search rules) (search rules) (search rules) (search rules) (search rules) (search rules)
