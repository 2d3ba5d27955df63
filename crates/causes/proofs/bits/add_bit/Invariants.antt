-- `add_bit` meets its contract. The loop's invariant: the cells below v have the bit where they are marked, the others are as they were.
use Prim.Native.Nat.{ℕ, ◌+◌}
use Rattle.routing_resources.specs.Marks.{is_marked}
use Rattle.why.specs.ObstacleLaws.{Turning}
use Rattle.causes.specs.Causes.{bit_for}
use Rattle.causes.proofs.bits.add_bit.Given as goal

abbrev pub invariant-loop-v : goal.invariant-loop-v
invariant-loop-v l = Turning (λ (k byte : ℕ). byte + bit_for l.bit (is_marked l.marks k)) l.initial.causes l.causes l.v
