-- What lent memory holds, place by place: the rubbish that it was filled with, or what is expected and zeros behind that. Definitions alone;
-- their laws are in MemoryLaws.
use Rattle.std.specs.Prelude.{◌≡◌, Bool, true, ◌&&◌, List, [], ◌∷◌, ℕ, suc, ◌+◌, ◌%◌, ◌<◌, length, get_or}
use Rattle.basics.specs.Tests.{either}

-- how many numbers the programs' own buffers have
abbrev pub own_length : ℕ
own_length = 16600

-- how many bytes their buffer for a stored file has
abbrev pub file_length : ℕ
file_length = 1000000

-- the rubbish at a place: never 0 nor a mark
abbrev pub rubbish : ℕ → ℕ
rubbish i = i % 251 + 2

-- ---- of numbers of any width: `of` makes one of a small number, `eq` tells whether two are the same

-- full of rubbish
abbrev pub Rubbish : {A : Type 0} → (ℕ → A) → List A → Type 0
Rubbish of s = (i : ℕ) → i < length s → get_or s i (of 0) ≡ of (rubbish i)

-- the test passes at each place, counted from i
abbrev pub all_from : {A : Type 0} → (ℕ → A → Bool) → ℕ → List A → Bool
all_from p i [] = true
all_from p i (x ∷ xs) = p i x && all_from p (suc i) xs

-- what is due at a place: the rubbish, where it is to be kept; else what is expected there, and 0 behind that
abbrev pub due_at : {A : Type 0} → (ℕ → A) → Bool → List A → ℕ → A
due_at of kept expected i = either kept (of (rubbish i)) (get_or expected i (of 0))

-- each place holds what is due
abbrev pub is_due : {A : Type 0} → (A → A → Bool) → (ℕ → A) → Bool → List A → ℕ → A → Bool
is_due eq of kept expected i x = eq x (due_at of kept expected i)

abbrev pub holds : {A : Type 0} → (A → A → Bool) → (ℕ → A) → Bool → List A → List A → Bool
holds eq of kept expected s = all_from (is_due eq of kept expected) 0 s
