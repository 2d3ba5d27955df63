-- `read_full` ends: each read brings a byte at least, or is the last. What was read is what the input has given.
use Rattle.std.proofs.Common.{◌≡◌, ◌-◌, ◌^◌, ◌≤◌, ◌<◌, length, take}
use Rattle.std.specs.Io.KnownBytes.{Consumes}
use Rattle.input_bytes.proofs.read_full.Given as goal

abbrev pub invariant-loop-done : goal.invariant-loop-done
invariant-loop-done g l =
    (length l.buffer ≡ length l.initial.buffer) × (l.done ≤ length l.buffer) × (length l.buffer < 2 ^ 64)
    × Consumes (g.I.Read.remaining l.initial.input) (g.I.Read.remaining l.input) (take l.done l.buffer)

abbrev pub decreases-loop-done : goal.decreases-loop-done
decreases-loop-done g l = length l.buffer - l.done
