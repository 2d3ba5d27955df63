-- `Path::tail_place` meets its contract. The loop's invariant: the earliest of the places left is the earliest of all.
use Rattle.std.proofs.Common.{sym, ◌∙◌}
use Rattle.repeaters.specs.Links.{linked_cells}
use Rattle.repeaters.specs.StrideLaws.{place-found}
use Rattle.repeaters.specs.TailLaws.{tail-later, seeking_found, seeking_next, seeking_all}
use Rattle.repeaters.proofs.Path.tail_place.Goals as goal

pub returns-then-may_reinforce : goal.returns-then-may_reinforce
returns-then-may_reinforce c =
    let t = sym c.may_reinforce.ensures ∙ c.if-may_reinforce.true in place-found _ _ (seeking_found c.loop-i.invariant c.loop-i-test.true t) (tail-later c.args.self.now.room (linked_cells c.args.self.now.room c.args.self.now.links.now) c.args.self.now.forbidden.now c.args.self.now.cells.now c.args.repeaters.now _ t)

pub loop-i-preserved : goal.loop-i-preserved
loop-i-preserved c = seeking_next c.loop-i.invariant c.loop-i-test.true (sym c.may_reinforce.ensures ∙ c.if-may_reinforce.false)

pub returns : goal.returns
returns c = rw (sym (seeking_all c.loop-i.invariant c.loop-i-test.false))
