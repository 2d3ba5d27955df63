-- What the contracts of the steps cite: definitions only.
use Rattle.std.specs.Prelude.{◌≡◌, ◌≢◌, List, ℕ, ◌+◌, ◌-◌, ◌*◌, ◌/◌, ◌%◌, ◌^◌, ◌≤◌, ◌<◌, length, set}
use Rattle.keyed_lists.specs.KeyedLists.{floor_of, used_of, ends_of, word_of, key_of, Waits}

-- the lists are empty
pub record EndsCleared (q : List ℕ) : Type 0 where
  pub none : (j : ℕ) → j < 64 → ends_of q j ≡ 0

-- an entry of this key and serial has its place, the next one, and its key may come
pub record Open (q : List ℕ) (key serial : ℕ) : Type 0 where
  pub next : used_of q ≡ serial
  pub long : 66 + serial < length q
  pub low : floor_of q ≤ key
  pub high : key < floor_of q + 64

-- a place can be hung behind the last of a list
pub record Hangable (q : List ℕ) (list place : ℕ) : Type 0 where
  pub list_in : list < 64
  pub long : 65 < length q
  pub few : place < 2 ^ 24
  pub last_in : ends_of q list ≢ 0 → 65 + ends_of q list % 2 ^ 32 < length q
  pub last-free : ends_of q list ≢ 0 → word_of q (ends_of q list % 2 ^ 32) < 2 ^ 40

-- hang: the place begins its list, or the last of it tells it as the next
pub record Hung (q : List ℕ) (list place : ℕ) (q' : List ℕ) : Type 0 where
  pub alone : ends_of q list ≡ 0 → q' ≡ set q list (place * 2 ^ 32 + place)
  pub behind : ends_of q list ≢ 0 → q' ≡ set (set q (65 + ends_of q list % 2 ^ 32) (word_of q (ends_of q list % 2 ^ 32) + place * 2 ^ 40)) list (ends_of q list - ends_of q list % 2 ^ 32 + place)

-- least_key: no entry of a lesser key waits, and the list of this one is not empty
pub record LeastKey (q : List ℕ) (key : ℕ) : Type 0 where
  pub from : floor_of q ≤ key
  pub low : (p : ℕ) → Waits q p → key ≤ key_of q p
  pub some : ends_of q (key % 64) ≢ 0

-- the least key that may come is raised, and the first place of its list is emptied
abbrev pub first_emptied : List ℕ → ℕ → List ℕ
first_emptied q key = set (set q 64 key) (65 + ends_of q (key % 64) / 2 ^ 32) 0

-- take_first: the first place of the key's list is emptied, and the list goes on at the next
pub record FirstGone (q : List ℕ) (key cell : ℕ) (q' : List ℕ) : Type 0 where
  pub cell-is : cell ≡ word_of q (ends_of q (key % 64) / 2 ^ 32) % 2 ^ 16
  pub none : word_of q (ends_of q (key % 64) / 2 ^ 32) / 2 ^ 40 ≡ 0 → q' ≡ set (first_emptied q key) (key % 64) 0
  pub on : word_of q (ends_of q (key % 64) / 2 ^ 32) / 2 ^ 40 ≢ 0 → q' ≡ set (first_emptied q key) (key % 64) (word_of q (ends_of q (key % 64) / 2 ^ 32) / 2 ^ 40 * 2 ^ 32 + ends_of q (key % 64) % 2 ^ 32)
