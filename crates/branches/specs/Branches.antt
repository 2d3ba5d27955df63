-- A sink's branch, as docs/RULES.md, The tree of one net, has it. Definitions alone; their laws are in the files named Laws. A tree's branches
-- are a list in sheet order, with [] for a sink that has no branch yet; `joined` of the sheet's crate puts them one after another.
use Rattle.std.specs.Prelude.{◌≡◌, ℕ, ◌+◌, ◌-◌, ◌≤◌, ◌<◌, eqb, length, get_or, take, drop, replicate}
use mathlib.Core.List.{List, [], ◌∷◌, ◌++◌, map, reverse, drop_last}
use Rattle.basics.specs.Tests.{either}
use Rattle.basics.specs.Counts.{times}
use Rattle.basics.specs.Lists.{joined}
use Rattle.room.specs.Room.{max_volume}
use Rattle.job_sheet.specs.Sheet.{max_sinks}
use Rattle.ends.specs.declared.Tap.{Tap}
use Rattle.branches.specs.declared.BranchLengths.{BranchLengths}

-- "the terminal added if it differs from the approach"
abbrev pub terminal_added : Tap → List ℕ
terminal_added t = either (eqb t.terminal t.approach) [] (t.terminal ∷ [])

-- "The first strictly cheapest route is kept, reversed, and the terminal added if it differs from the approach"
unfoldable pub branch_of : Tap → List ℕ → List ℕ
branch_of t path = reverse path ++ terminal_added t

-- how long a branch is whose path has so many cells
abbrev pub branch_length : Tap → ℕ → ℕ
branch_length t count = count + length (terminal_added t)

-- "All but the last cell become joinable"
unfoldable pub all_but_last : List ℕ → List ℕ
all_but_last cells = drop_last cells

-- a branch put in at `at` of a buffer whose first `used` cells are in use: those from `at` on move behind it
abbrev pub inserted : ℕ → ℕ → List ℕ → List ℕ → List ℕ
inserted at used branch buffer = take at buffer ++ (branch ++ (take (used - at) (drop at buffer) ++ drop (used + length branch) buffer))

-- "in sheet order": the first `used` cells of the buffer are the branches, one after another
pub record SheetOrder (branches : List (List ℕ)) (used : ℕ) (buffer : List ℕ) : Type 0 where
  pub within : used ≤ length buffer
  pub in_order : take used buffer ≡ joined branches

-- these are the branches' lengths; of numbers behind them nothing is said
pub record LengthsOf (branches : List (List ℕ)) (each : List ℕ) : Type 0 where
  pub all : length branches ≤ length each
  pub each-is : (i : ℕ) → i < length branches → get_or each i 0 ≡ length (get_or branches i [])

-- how many cells are marked
unfoldable pub marked_count : List ℕ → ℕ
marked_count marks = times (λ m. eqb m 1) marks

-- these numbers added up
unfoldable pub sum : List ℕ → ℕ
sum [] = 0
sum (n ∷ ns) = n + sum ns

-- a path has at most the cells of a room, and a branch one more
abbrev pub longest_branch : ℕ
longest_branch = max_volume + 1

-- the branches' lengths in sheet order, then places that hold nothing
abbrev pub branch_lengths : List (List ℕ) → BranchLengths
branch_lengths bs = record { count = length bs; each = map length bs ++ replicate (max_sinks - length bs) 0 }

-- so many sinks, none of which has a branch
abbrev pub no_lengths : ℕ → BranchLengths
no_lengths count = record { count = count; each = replicate max_sinks 0 }

-- the lengths of the branches, as many as there are
abbrev pub lengths_in : BranchLengths → List ℕ
lengths_in L = take L.count L.each

-- branches that stand one behind the other in one list of cells, by their lengths
unfoldable pub cut_into : List ℕ → List ℕ → List (List ℕ)
cut_into [] cells = []
cut_into (n ∷ ns) cells = take n cells ∷ cut_into ns (drop n cells)

abbrev pub branches_of : BranchLengths → List ℕ → List (List ℕ)
branches_of L cells = cut_into (lengths_in L) cells

-- so many branches, of these lengths, stand in the buffer
pub record Branched (L : BranchLengths) (cells : List ℕ) : Type 0 where
  pub whole : length L.each ≡ max_sinks
  pub few : L.count ≤ max_sinks
  pub within : sum (lengths_in L) ≤ length cells

-- each of the lengths can be that of a branch
pub record Short (lengths : BranchLengths) : Type 0 where
  pub whole : length lengths.each ≡ max_sinks
  pub short : (i : ℕ) → i < max_sinks → get_or lengths.each i 0 ≤ longest_branch
