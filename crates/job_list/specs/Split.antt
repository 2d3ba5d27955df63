-- A job list is whole job sheets one behind the other, as `cat a.sheet b.sheet` makes them: where each of them ends. Definitions alone; their laws are in
-- SplitLaws.
use Rattle.std.specs.Prelude.{List, [], ◌∷◌, ℕ, zero, suc, ◌+◌, ltb, length, take, drop}
use Rattle.basics.specs.Tests.{either}
use Rattle.job_sheet.specs.Version.{sides_place}
use Rattle.job_sheet.specs.Places.{four_in}

-- the length that a sheet tells of itself: its version's byte, the four of its length, and the rest
abbrev pub told_long : List ℕ → ℕ
told_long l = sides_place + four_in (drop 1 l) 0

-- "A sheet ends where its own length says, or where the list ends"
unfoldable pub sheet_long : List ℕ → ℕ
sheet_long l = either (ltb (length l) (told_long l)) (length l) (told_long l)

-- the sheet that these bytes begin with, and the bytes behind it
abbrev pub first_sheet : List ℕ → List ℕ
first_sheet l = take (sheet_long l) l

abbrev pub behind_first : List ℕ → List ℕ
behind_first l = drop (sheet_long l) l

-- at most n sheets, one behind the other, as long as there are bytes
unfoldable pub sheets_within : ℕ → List ℕ → List (List ℕ)
sheets_within zero l = []
sheets_within (suc n) l = either (ltb 0 (length l)) (first_sheet l ∷ sheets_within n (behind_first l)) []

-- all sheets of these bytes: each takes one byte at least
abbrev pub sheets_in : List ℕ → List (List ℕ)
sheets_in l = sheets_within (length l) l

-- the sheets of a list, net 0's first. "No bytes at all: net 0, number 1": they are one sheet of no bytes
unfoldable pub sheets_of : List ℕ → List (List ℕ)
sheets_of list = first_sheet list ∷ sheets_in (behind_first list)
