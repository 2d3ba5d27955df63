-- What a push and a taking of either heap are to the waiting entries.
use Rattle.std.specs.Prelude.{◌≡◌, refl, length, get_or}
use Rattle.std.proofs.Common.{◌∙◌, inl, inr}
use mathlib.Core.List.{List, [], ◌∷◌, map}
use Prim.Native.Nat.{ℕ, zero, suc, ◌-◌, ◌/◌, ◌%◌, ◌^◌, ◌≤◌, ◌<◌}
use native.Mathlib.Omega.{arith}
use Rattle.std.proofs.lemmas.List.{length-map}
use Rattle.basics.specs.Tests.{ask_less}
use Rattle.basics.specs.Lists.{In}
use Rattle.best_first.specs.Search.{Entry}
use Rattle.best_first.proofs.Entries.{Late, by_key, by-serial, Same, same_refl, same_trans, same-cons, same-swap, TakenOut}
use Rattle.queue.specs.Queue.{as_one, insert, bag, entry, EntryPushed, EntryTaken}
use Rattle.queue.specs.BagLaws.{insert_nil, insert_le, insert_gt, bag_zero, bag_suc, length_bag}
use Rattle.queue.specs.HeapLaws.{heap-empty}
use Rattle.packed_queue.specs.PackedQueue.{one, NumberPushed, NumberTaken}
use Rattle.room_search.specs.declared.Width.{Width}
use Rattle.room_search.specs.declared.Width.TheVariants.{One, Two}
use Rattle.room_search.specs.Held.{packed, unpacked, in_one, out_of_one, entries_in, HeapIn, Holdable, Joined, Left}

-- ---- by how many numbers hold an entry

entries-of-one : (width : Width) (h : List ℕ) (n : ℕ) → width ≡ One → entries_in width h n ≡ map out_of_one (bag (one h) n)
unfolding entries_in
entries-of-one width h n e = rw e

entries-of-two : (width : Width) (h : List ℕ) (n : ℕ) → width ≡ Two → entries_in width h n ≡ map unpacked (bag (entry h) n)
unfolding entries_in
entries-of-two width h n e = rw e

pub entries_none : (width : Width) (h : List ℕ) → entries_in width h 0 ≡ []
entries_none One h = entries-of-one One h 0 refl ∙ rw bag_zero
entries_none Two h = entries-of-two Two h 0 refl ∙ rw bag_zero

pub heap_in_empty : (width : Width) (h : List ℕ) → HeapIn width h 0
heap_in_empty width h = record { of_one = λ e. heap-empty (one h); of_two = λ e. heap-empty (entry h) }

pub length_entries : (width : Width) (h : List ℕ) (n : ℕ) → length (entries_in width h n) ≡ n
length_entries One h n = rw (entries-of-one One h n refl) (length-map (bag (one h) n) out_of_one ∙ length_bag (one h) n)
length_entries Two h n = rw (entries-of-two Two h n refl) (length-map (bag (entry h) n) unpacked ∙ length_bag (entry h) n)

-- ---- packing

module _ (key serial cell : ℕ) (s : serial < 2 ^ 32) (c : cell < 2 ^ 64) where
  unpacked-packed : unpacked (packed key serial cell) ≡ record { key = key; serial = serial; cell = cell }
  unfolding unpacked
  unpacked-packed = λ i. record { key = k i; serial = r i; cell = l i }
    where
      k : packed key serial cell / 2 ^ 96 ≡ key
      k = omega arith

      r : packed key serial cell / 2 ^ 64 % 2 ^ 32 ≡ serial
      r = omega arith

      l : packed key serial cell % 2 ^ 64 ≡ cell
      l = omega arith

module _ (key serial cell : ℕ) (s : serial < 2 ^ 24) (c : cell < 2 ^ 16) where
  out_in_one : out_of_one (in_one key serial cell) ≡ record { key = key; serial = serial; cell = cell }
  unfolding out_of_one
  out_in_one = λ i. record { key = k i; serial = r i; cell = l i }
    where
      k : in_one key serial cell / 2 ^ 40 ≡ key
      k = omega arith

      r : in_one key serial cell / 2 ^ 16 % 2 ^ 24 ≡ serial
      r = omega arith

      l : in_one key serial cell % 2 ^ 16 ≡ cell
      l = omega arith

late-unpacked : (a b : ℕ) → a ≤ b → Late (unpacked b) (unpacked a)
unfolding unpacked
late-unpacked a b h = ask_less (a / 2 ^ 96) (b / 2 ^ 96) by_key (λ k. by-serial (omega arith) (omega arith))

late-out-of-one : (a b : ℕ) → a ≤ b → Late (out_of_one b) (out_of_one a)
unfolding out_of_one
late-out-of-one a b h = ask_less (a / 2 ^ 40) (b / 2 ^ 40) by_key (λ k. by-serial (omega arith) (omega arith))

-- ---- numbers of which a lesser one stands for an entry that is no later

-- each number of w is at least a
AtLeast : ℕ → List ℕ → Type 0
AtLeast a [] = Unit {0}
AtLeast a (x ∷ w) = (a ≤ x) × AtLeast a w

Ascending : List ℕ → Type 0
Ascending [] = Unit {0}
Ascending (x ∷ w) = AtLeast x w × Ascending w

at-least-insert : (a e : ℕ) (w : List ℕ) → a ≤ e → AtLeast a w → AtLeast a (insert e w)
unfolding AtLeast
at-least-insert a e [] h k = rw insert_nil (h, tt)
at-least-insert a e (x ∷ w) h k =
    ask_less x e (λ l. rw (insert_gt e x w l) (k.0, at-least-insert a e w h k.1)) (λ l. rw (insert_le e x w l) (h, k))

at_least_trans : (a b : ℕ) (w : List ℕ) → a ≤ b → AtLeast b w → AtLeast a w
unfolding AtLeast
at_least_trans a b [] h k = tt
at_least_trans a b (x ∷ w) h k = (omega (arith, k.0), at_least_trans a b w h k.1)

ascending_insert : (e : ℕ) (w : List ℕ) → Ascending w → Ascending (insert e w)
unfolding AtLeast Ascending
ascending_insert e [] k = rw insert_nil (tt, tt)
ascending_insert e (x ∷ w) k =
    ask_less x e
    (λ l. rw (insert_gt e x w l) (at-least-insert x e w (omega arith) k.0, ascending_insert e w k.1))
    (λ l. rw (insert_le e x w l) ((l, at_least_trans e x w l k.0), k))

ascending_bag : (f : ℕ → ℕ) (n : ℕ) → Ascending (bag f n)
unfolding Ascending
ascending_bag f zero = rw bag_zero tt
ascending_bag f (suc n) = rw bag_suc (ascending_insert (f n) (bag f n) (ascending_bag f n))

module _ (meant : ℕ → Entry) (late : (a b : ℕ) → a ≤ b → Late (meant b) (meant a)) where
  same-insert : (e : ℕ) (w : List ℕ) → Same (meant e ∷ map meant w) (map meant (insert e w))
  same-insert e [] = rw insert_nil (same_refl _)
  same-insert e (x ∷ w) =
      ask_less x e
      (λ h. rw (insert_gt e x w h) (same_trans (same-swap (meant e) (meant x) (map meant w)) (same-cons (meant x) (same-insert e w))))
      (λ h. rw (insert_le e x w h) (same_refl _))

  low-entries : (a : ℕ) (w : List ℕ) → AtLeast a w → (y : Entry) → In y (map meant w) → Late y (meant a)
  unfolding AtLeast
  low-entries a [] k y i = absurd i
  low-entries a (x ∷ w) k y (inl e) = rw e (late a x k.0)
  low-entries a (x ∷ w) k y (inr i) = low-entries a w k.1 y i

  -- the first of a bag is taken out
  first_out : (f g : ℕ → ℕ) (n m first : ℕ) → bag f n ≡ first ∷ bag g m → TakenOut (map meant (bag f n)) (meant first) (map meant (bag g m))
  unfolding Ascending AtLeast
  first_out f g n m first e =
      let asc : Ascending (first ∷ bag g m) = rw e at (ascending_bag f n) in
      rw e (record { low = low-entries first (first ∷ bag g m) (omega arith, asc.0); same = same_refl _ })

-- ---- a push

one_or_two : {width : Width} → width ≡ One → width ≡ Two → ⊥
one_or_two e f = cc

module _ (width : Width) (h : List ℕ) (n key serial cell : ℕ) (h' : List ℕ) (F : Holdable width key serial cell) where
  pub joined-one : width ≡ One → NumberPushed h n (in_one key serial cell) h' → Joined width h n key serial cell h'
  joined-one e P = record {
    same = rw (entries-of-one width h n e, entries-of-one width h' (suc n) e, P.holds, ← out_in_one key serial cell F.serial-most F.cell-most)
        (same-insert out_of_one late-out-of-one (in_one key serial cell) (bag (one h) n));
    order = record { of_one = λ _. P.order; of_two = λ d. absurd (one_or_two e d) };
  }

  pub joined-two : width ≡ Two → EntryPushed h n (packed key serial cell) h' → Joined width h n key serial cell h'
  joined-two d P = record {
    same = rw (
      entries-of-two width h n d,
      entries-of-two width h' (suc n) d,
      P.holds,
      ← unpacked-packed key serial cell (omega (arith, F.serial-most)) (omega (arith, F.cell-most)),
    )
        (same-insert unpacked late-unpacked (packed key serial cell) (bag (entry h) n));
    order = record { of_one = λ e. absurd (one_or_two e d); of_two = λ _. P.order };
  }

-- ---- a taking

module _ (width : Width) (h : List ℕ) (n : ℕ) (h' : List ℕ) where
  pub left_one : (e : ℕ) → width ≡ One → NumberTaken h n e h' → Left width h n (e % 2 ^ 16) h'
  unfolding out_of_one
  left_one e w T = record {
    key = e / 2 ^ 40;
    serial = e / 2 ^ 16 % 2 ^ 24;
    out = rw (entries-of-one width h n w, entries-of-one width h' (n - 1) w) (first_out out_of_one late-out-of-one (one h) (one h') n (n - 1) e T.holds);
    order = record { of_one = λ _. T.order; of_two = λ d. absurd (one_or_two w d) };
  }

  pub left-two : (cell : ℕ) → cell < 2 ^ 64 → width ≡ Two → EntryTaken h n cell h' → Left width h n cell h'
  unfolding unpacked
  left-two cell c d T =
      let first : ℕ = as_one (get_or h 0 0) cell in
      let e : first % 2 ^ 64 ≡ cell = omega arith in
      let top : unpacked first ≡ record { key = first / 2 ^ 96; serial = first / 2 ^ 64 % 2 ^ 32; cell = cell } =
      λ i. record { key = first / 2 ^ 96; serial = first / 2 ^ 64 % 2 ^ 32; cell = e i } in
      record {
        key = first / 2 ^ 96;
        serial = first / 2 ^ 64 % 2 ^ 32;
        out = rw (entries-of-two width h n d, entries-of-two width h' (n - 1) d, ← top)
            (first_out unpacked late-unpacked (entry h) (entry h') n (n - 1) first T.holds);
        order = record { of_one = λ w. absurd (one_or_two w d); of_two = λ _. T.order };
      }
