-- `lower_bid` meets its contract, by cases of the bid.
use mathlib.Core.Logic.{inl, inr}
use native.Mathlib.Omega.{arith}
use Rattle.goals.proofs.PassingLaws.{lower-out, lower-first, lower_third, lower-second}
use Rattle.goals.proofs.passing.Viewpoint.lower_bid.Goals as goal

pub returns-then-bid-low : goal.returns-then-bid-low
returns-then-bid-low c = lower-out _ _ _ _ _ c.bid_of-bid.ensures (λ l. elim c.then-bid-low.either [ inl h ↦ absurd (omega arith) | inr h ↦ h.1 ])

pub returns-then-bid-lowest : goal.returns-then-bid-lowest
returns-then-bid-lowest c = rw c.in-Some.is (lower-first _ _ _ _ _ c.bid_of-bid.ensures c.if-bid-low.false _ c.if-bid-lowest.true)

pub returns-then-lowest-bid : goal.returns-then-lowest-bid
returns-then-lowest-bid c = rw c.in-Some.is (lower_third _ _ _ _ _ c.bid_of-bid.ensures c.if-bid-low.false _ c.if-bid-lowest.false c.if-lowest-bid.true)

pub returns : goal.returns
returns c =
    rw c.in-Some.is (lower-second _ _ _ _ _ c.bid_of-bid.ensures c.if-bid-low.false _ c.args.self.good c.requires c.if-bid-lowest.false c.if-lowest-bid.false)
