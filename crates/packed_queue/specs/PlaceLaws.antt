-- One number a place makes the places of a heap.
use Rattle.std.specs.Prelude.{◌≡◌, refl, List, ℕ, ◌<◌, length, set}
use Rattle.std.proofs.Common.{arith, length-set, get_or-set_same, get_or-set_other}
use Rattle.queue.specs.Places.{Places}
use Rattle.packed_queue.specs.declared.Packed.{Packed}
use Rattle.packed_queue.specs.PackedQueue.{one, packed_number, packed_at, packed_put, one_each}

module _ (h : List ℕ) (i e : ℕ) where
  pub put_same : i < length h → one (set h i e) i ≡ e
  put_same p = simp get_or-set_same

  pub put_other : (k : ℕ) → (k ≡ i → ⊥) → one (set h i e) k ≡ one h k
  put_other k d = simp get_or-set_other

pub packed : Places Packed packed_number packed_at one packed_put one_each
packed = record {
  counts = λ h i. refl;
  keeps = λ i e h. length-set h i e.number;
  same = λ i e h l. put_same h i e.number (omega arith);
  other = λ i e h k d. put_other h i e.number k d;
  rest = λ i e h k l. put_other h i e.number k (omega arith);
  ascends = λ a b l. l;
  short = λ n. omega arith;
}
