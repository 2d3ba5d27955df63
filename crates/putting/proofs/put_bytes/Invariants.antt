-- `put_bytes` meets its contract: each round puts one byte more.
use lib.ListN.{length}
use Rattle.basics.specs.Copies.{Copied}
use Rattle.putting.proofs.put_bytes.Given as goal

abbrev pub invariant-loop-i : goal.invariant-loop-i
invariant-loop-i l = Copied l.bytes l.initial.out l.at (length l.bytes) l.i l.out
