-- What is asked of predecessors before a path is written by them.
use Rattle.std.specs.Prelude.{ℕ, ◌≤◌, List, length, get_or}

-- every cell's predecessor, if it has one, is a cell
abbrev pub PreviousInside : List ℕ → Type 0
PreviousInside previous = (v : ℕ) → get_or previous v 0 ≤ length previous
