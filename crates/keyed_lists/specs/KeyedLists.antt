-- What the contracts of lists by key cite: definitions only. A slice of numbers holds, in this order:
-- words 0 to 63, the two ends of list j, which has the waiting entries whose key is j modulo 64: its first place, then its last in 32 bits, or
-- 0 where the list is empty; word 64, the least key that may still come; word 65, how many places are used; then the places, counted from 1.
-- A place's word is the next place of its list, or 0 at the list's end, then its key + 1 in 24 bits, then its cell in 16; or 0 once its entry
-- has left. Its serial is one less than its place.
use Rattle.std.specs.Prelude.{◌≡◌, ◌≢◌, List, [], ◌∷◌, ℕ, zero, suc, ◌+◌, ◌-◌, ◌/◌, ◌%◌, ◌^◌, ◌≤◌, ◌<◌, length, get_or, eqb}
use Rattle.basics.specs.Tests.{either}
use Rattle.best_first.specs.Search.{Entry}
use Rattle.best_first.proofs.Entries.{TakenOut}

abbrev pub floor_of : List ℕ → ℕ
floor_of q = get_or q 64 0

abbrev pub used_of : List ℕ → ℕ
used_of q = get_or q 65 0

-- the two ends of list j as one number, and each of them
abbrev pub ends_of : List ℕ → ℕ → ℕ
ends_of q j = get_or q j 0

unfoldable pub first_of : List ℕ → ℕ → ℕ
first_of q j = ends_of q j / 2 ^ 32

unfoldable pub last_of : List ℕ → ℕ → ℕ
last_of q j = ends_of q j % 2 ^ 32

-- the word of place p, and what it holds: the next place, one more than the key, the key, the cell
abbrev pub word_of : List ℕ → ℕ → ℕ
word_of q p = get_or q (65 + p) 0

unfoldable pub next_of : List ℕ → ℕ → ℕ
next_of q p = word_of q p / 2 ^ 40

unfoldable pub mark_of : List ℕ → ℕ → ℕ
mark_of q p = word_of q p / 2 ^ 16 % 2 ^ 24

abbrev pub key_of : List ℕ → ℕ → ℕ
key_of q p = mark_of q p - 1

unfoldable pub cell_of : List ℕ → ℕ → ℕ
cell_of q p = word_of q p % 2 ^ 16

abbrev pub entry_of : List ℕ → ℕ → Entry
entry_of q p = record { key = key_of q p; serial = p - 1; cell = cell_of q p }

-- the waiting entries of the first p places, the newest first
unfoldable pub entries_up_to : List ℕ → ℕ → List Entry
entries_up_to q zero = []
entries_up_to q (suc p) = either (eqb (mark_of q (suc p)) 0) (entries_up_to q p) (entry_of q (suc p) ∷ entries_up_to q p)

unfoldable pub keyed_entries : List ℕ → List Entry
keyed_entries q = entries_up_to q (used_of q)

-- an entry waits at place p
pub record Waits (q : List ℕ) (p : ℕ) : Type 0 where
  pub counted : 1 ≤ p
  pub used : p ≤ used_of q
  pub marked : 0 < mark_of q p

-- and it is in list j
pub record InList (q : List ℕ) (j p : ℕ) : Type 0 where
  pub waits : Waits q p
  pub list : key_of q p % 64 ≡ j

-- the next place of place p's list is the least of those after p
pub record Linked (q : List ℕ) (p : ℕ) : Type 0 where
  pub in_list : InList q (key_of q p % 64) (next_of q p)
  pub later : p < next_of q p
  pub least : (r : ℕ) → InList q (key_of q p % 64) r → p < r → next_of q p ≤ r

-- list j is not empty, and its ends are the least and the greatest of its places
pub record Ended (q : List ℕ) (j : ℕ) : Type 0 where
  pub first_in : InList q j (first_of q j)
  pub last_in : InList q j (last_of q j)
  pub least : (p : ℕ) → InList q j p → first_of q j ≤ p
  pub greatest : (p : ℕ) → InList q j p → p ≤ last_of q j

-- the slice holds lists by key: the places used have room; all waiting keys lie within 64 of the least that may come; each list has all its
-- places, in their order
pub record Keyed (q : List ℕ) : Type 0 where
  pub long : 65 + used_of q < length q
  pub few : used_of q < 2 ^ 24
  pub low : (p : ℕ) → Waits q p → floor_of q ≤ key_of q p
  pub high : (p : ℕ) → Waits q p → key_of q p < floor_of q + 64
  pub empty : (j : ℕ) → j < 64 → ends_of q j ≡ 0 → (p : ℕ) → InList q j p → ⊥
  pub ended : (j : ℕ) → j < 64 → ends_of q j ≢ 0 → Ended q j
  pub last : (p : ℕ) → Waits q p → next_of q p ≡ 0 → (r : ℕ) → InList q (key_of q p % 64) r → r ≤ p
  pub linked : (p : ℕ) → Waits q p → next_of q p ≢ 0 → Linked q p

-- begin: one entry waits, of serial 0
pub record Begun (key cell : ℕ) (q' : List ℕ) : Type 0 where
  pub entries : keyed_entries q' ≡ record { key = key; serial = 0; cell = cell } ∷ []
  pub keyed : Keyed q'

-- join: one more entry waits
pub record KeyedJoined (q : List ℕ) (key serial cell : ℕ) (q' : List ℕ) : Type 0 where
  pub entries : keyed_entries q' ≡ record { key = key; serial = serial; cell = cell } ∷ keyed_entries q
  pub keyed : Keyed q'

-- leave: the entry that comes first is taken out
pub record KeyedLeft (q : List ℕ) (cell : ℕ) (q' : List ℕ) : Type 0 where
  pub key : ℕ
  pub serial : ℕ
  pub out : TakenOut (keyed_entries q) (record { key = key; serial = serial; cell = cell }) (keyed_entries q')
  pub keyed : Keyed q'
