-- What `route` prints, byte for byte: docs/RULES.md, Program route.
use Rattle.net_tree.specs.Answers.{Answer}
use Rattle.std.specs.Prelude.{Ok, Err, List, [], ◌∷◌, ◌++◌, map, ℕ, zero, suc, ◌+◌, ◌/◌, ◌%◌, ltb}
use Rattle.basics.specs.Tests.{either}
use Rattle.basics.specs.Lists.{joined}
use Rattle.branches.specs.Branches.{branches_of}
use Rattle.branches.specs.declared.BranchLengths.{BranchLengths}
use Rattle.route.specs.Marked.{marked}

-- ---- numbers

-- the ASCII code of a digit
abbrev pub digit : ℕ → ℕ
digit d = 48 + d

-- a number in decimal, of at most so many digits, without zeros in front
unfoldable pub decimal_within : ℕ → ℕ → List ℕ
decimal_within zero n = []
decimal_within (suc most) n = either (ltb n 10) (digit n ∷ []) (decimal_within most (n / 10) ++ (digit (n % 10) ∷ []))

-- a number of 64 bits has at most 20 digits
abbrev pub decimal : ℕ → List ℕ
decimal n = decimal_within 20 n

-- a number after a space
abbrev pub spaced : ℕ → List ℕ
spaced n = 32 ∷ decimal n

unfoldable pub spaced_all : List ℕ → List ℕ
spaced_all [] = []
spaced_all (n ∷ ns) = spaced n ++ spaced_all ns

-- ---- lines

-- a word, numbers, and the line's end
abbrev pub line : List ℕ → List ℕ → List ℕ
line word ns = word ++ (spaced_all ns ++ (10 ∷ []))

-- `net`, `branch`, `repeaters` and `refused` in ASCII
abbrev pub net_word : List ℕ
net_word = 110 ∷ 101 ∷ 116 ∷ []

abbrev pub branch_word : List ℕ
branch_word = 98 ∷ 114 ∷ 97 ∷ 110 ∷ 99 ∷ 104 ∷ []

abbrev pub repeaters_word : List ℕ
repeaters_word = 114 ∷ 101 ∷ 112 ∷ 101 ∷ 97 ∷ 116 ∷ 101 ∷ 114 ∷ 115 ∷ []

abbrev pub refused_word : List ℕ
refused_word = 114 ∷ 101 ∷ 102 ∷ 117 ∷ 115 ∷ 101 ∷ 100 ∷ []

-- "a line `net` with branch count and occupied count"
abbrev pub net_line : ℕ → ℕ → List ℕ
net_line branches occupied = line net_word (branches ∷ occupied ∷ [])

-- "a line `branch` with its cells"
abbrev pub branch_line : List ℕ → List ℕ
branch_line cells = line branch_word cells

-- "for each sink in sheet order"
abbrev pub branch_lines : List (List ℕ) → List ℕ
branch_lines branches = joined (map branch_line branches)

-- "a line `repeaters` with their cells ascending, the bare word if there are none"
abbrev pub repeaters_line : List ℕ → List ℕ
repeaters_line cells = line repeaters_word cells

-- "A refusal prints `refused`, number, detail"
abbrev pub refused_line : ℕ → ℕ → List ℕ
refused_line number detail = line refused_word (number ∷ detail ∷ [])

-- ---- the lines of an answer, with the branch buffer and the repeaters' marks that come with it

abbrev pub tree_text : BranchLengths → ℕ → List ℕ → List ℕ → List ℕ
tree_text lengths occupied cells repeaters = net_line lengths.count occupied ++ (branch_lines (branches_of lengths cells) ++ repeaters_line (marked repeaters))

abbrev pub answer_text : Answer → List ℕ → List ℕ → List ℕ
answer_text (Ok tree) cells repeaters = tree_text tree.lengths tree.occupied cells repeaters
answer_text (Err refused) cells repeaters = refused_line refused.number refused.detail
