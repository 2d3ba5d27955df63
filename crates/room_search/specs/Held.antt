-- The search's state as lent slices hold it. A waiting entry is one number of the queue or two. In two they count as one: its key, then its
-- serial in 32 bits, then its cell in 64. In one: its key, then its serial in 24 bits, then its cell in 16.
use Rattle.std.specs.Prelude.{◌≡◌, List, ◌∷◌, map, ℕ, suc, ◌+◌, ◌-◌, ◌*◌, ◌/◌, ◌%◌, ◌^◌, ◌<◌}
use Rattle.best_first.specs.Search.{Entry, State}
use Rattle.best_first.proofs.Entries.{Same, TakenOut}
use Rattle.queue.specs.Queue.{as_one, bag, entry, Heap}
use Rattle.packed_queue.specs.PackedQueue.{one}
use Rattle.room_search.specs.declared.Width.{Width}
use Rattle.room_search.specs.declared.Width.TheVariants.{One, Two}
use Rattle.room_search.specs.declared.Work.{Work}

abbrev pub packed : ℕ → ℕ → ℕ → ℕ
packed key serial cell = as_one (key * 2 ^ 32 + serial) cell

unfoldable pub unpacked : ℕ → Entry
unpacked e = record { key = e / 2 ^ 96; serial = e / 2 ^ 64 % 2 ^ 32; cell = e % 2 ^ 64 }

abbrev pub in_one : ℕ → ℕ → ℕ → ℕ
in_one key serial cell = key * 2 ^ 40 + serial * 2 ^ 16 + cell

unfoldable pub out_of_one : ℕ → Entry
out_of_one e = record { key = e / 2 ^ 40; serial = e / 2 ^ 16 % 2 ^ 24; cell = e % 2 ^ 16 }

-- the entries in the queue's first places, of so many numbers each
unfoldable pub entries_in : Width → List ℕ → ℕ → List Entry
entries_in One queue n = map out_of_one (bag (one queue) n)
entries_in Two queue n = map unpacked (bag (entry queue) n)

-- they are a heap
pub record HeapIn (width : Width) (queue : List ℕ) (n : ℕ) : Type 0 where
  pub of_one : width ≡ One → Heap (one queue) n
  pub of_two : width ≡ Two → Heap (entry queue) n

-- an entry that can be held so
pub record Holdable (width : Width) (key serial cell : ℕ) : Type 0 where
  pub key-most : key < 2 ^ 32
  pub key_in_one : width ≡ One → key < 2 ^ 24
  pub serial-most : serial < 2 ^ 24
  pub cell-most : cell < 2 ^ 16

-- join: one more entry waits
pub record Joined (width : Width) (h : List ℕ) (n key serial cell : ℕ) (h' : List ℕ) : Type 0 where
  pub same : Same (record { key = key; serial = serial; cell = cell } ∷ entries_in width h n) (entries_in width h' (suc n))
  pub order : HeapIn width h' (suc n)

-- leave: the entry that comes first is taken out, and was for `cell`
pub record Left (width : Width) (h : List ℕ) (n cell : ℕ) (h' : List ℕ) : Type 0 where
  pub key : ℕ
  pub serial : ℕ
  pub out : TakenOut (entries_in width h n) (record { key = key; serial = serial; cell = cell }) (entries_in width h' (n - 1))
  pub order : HeapIn width h' (n - 1)

unfoldable pub held : Work → ℕ → State
held s expanded = record {
  known = s.known.now;
  previous = s.previous.now;
  waiting = entries_in s.line.width s.queue.now s.line.waiting;
  serial = s.line.serial;
  expanded = expanded;
}
