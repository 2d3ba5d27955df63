-- What a call leaves in lent memory: numbers 1 to 6 touch nothing; those above leave every lent writable buffer zero; a success writes the answer, zeros behind it,
-- and zeroes work memory. Definitions alone.
use Rattle.std.specs.Prelude.{◌≡◌, Bool, true, List, ◌++◌, ℕ, ◌-◌, eqb, ltb, length, replicate}
use Rattle.numbers.specs.Refusals.{done_number, buffer_number}
use Rattle.basics.specs.Tests.{either}

-- "Numbers 1 to 6 touch nothing": a buffer's is the last of these; a success touches
abbrev pub touches : ℕ → Bool
touches number = either (eqb number done_number) true (ltb buffer_number number)

-- all zero, to its very end
abbrev pub Cleared : List ℕ → List ℕ → Type 0
Cleared before after = after ≡ replicate (length before) 0

-- the answer, and zeros behind it
abbrev pub filled : List ℕ → List ℕ → List ℕ
filled cells buffer = cells ++ replicate (length buffer - length cells) 0

-- an output buffer after a call that gave this number, and these cells
abbrev pub output_after : ℕ → List ℕ → List ℕ → List ℕ
output_after number cells buffer = either (touches number) (filled cells buffer) buffer

-- a buffer of work memory afterwards
abbrev pub work_after : ℕ → List ℕ → List ℕ
work_after number buffer = either (touches number) (replicate (length buffer) 0) buffer
