-- What the contracts of a queue of single numbers cite: definitions only, over those of the crate `queue`.
use Rattle.std.specs.Prelude.{◌≡◌, List, ◌∷◌, ℕ, suc, ◌-◌, get_or, set}
use Rattle.queue.specs.Queue.{insert, bag, Heap}
use Rattle.packed_queue.specs.declared.Packed.{Packed}

-- the number at place i
abbrev pub one : List ℕ → ℕ → ℕ
one h i = get_or h i 0

-- an entry as it is handed over: as one number, the one at a place, and put to a place; each takes one of the slice's numbers
abbrev pub packed_number : Packed → ℕ
packed_number e = e.number

abbrev pub packed_at : List ℕ → ℕ → Packed
packed_at h i = record { number = get_or h i 0 }

abbrev pub packed_put : ℕ → Packed → List ℕ → List ℕ
packed_put i e h = set h i e.number

abbrev pub one_each : ℕ → ℕ
one_each n = n

-- push: the number e is added to the first n places
pub record NumberPushed (h : List ℕ) (n e : ℕ) (h' : List ℕ) : Type 0 where
  pub holds : bag (one h') (suc n) ≡ insert e (bag (one h) n)
  pub order : Heap (one h') (suc n)

-- take: the least of the first n places is taken out
pub record NumberTaken (h : List ℕ) (n e : ℕ) (h' : List ℕ) : Type 0 where
  pub holds : bag (one h) n ≡ e ∷ bag (one h') (n - 1)
  pub order : Heap (one h') (n - 1)
