-- `Work::offer` meets its contract: each of its three returns is one outcome of an offer.
use Rattle.std.proofs.Common.{inl, inr, refl}
use Rattle.room_search.specs.OfferLaws.{offer-kept, offered-full, offer-pushed}
use Rattle.room_search.proofs.Work.offer.Goals as goal
use Rattle.room_search.proofs.Work.offer.Goals.{else-old-ne0-via-then-old-ne0+else-old-to, else-old-ne0-via-else-old-ne0}

pub returns-then-old-to-clause-offered : goal.returns-then-old-to-clause-offered
returns-then-old-to-clause-offered c = offer-kept _ _ _ _ c.requires.offerable.ready c.if-old-ne0.true c.if-old-to.true

pub returns-then-self-waiting-clause-offered : goal.returns-then-self-waiting-clause-offered
returns-then-self-waiting-clause-offered c =
    offered-full _ _ _ _ c.requires.offerable.ready
    (elim c.else-old-ne0.branch [
      | else-old-ne0-via-then-old-ne0+else-old-to w ↦ inr w.if-old-to.false
      | else-old-ne0-via-else-old-ne0 w ↦ inl w.if-old-ne0.false
    ])
    c.if-self-waiting.true

pub returns-clause-offered : goal.returns-clause-offered
returns-clause-offered c =
    offer-pushed _ _ _ _ c.requires.offerable.ready
    (elim c.else-old-ne0.branch [
      | else-old-ne0-via-then-old-ne0+else-old-to w ↦ inr w.if-old-to.false
      | else-old-ne0-via-else-old-ne0 w ↦ inl w.if-old-ne0.false
    ])
    _ c.if-self-waiting.false c.join.auto.queue (rw (c.as_long.ensures, c.estimate.ensures) at c.join.ensures) refl refl refl
