-- A place greater than all others is hung behind the last of its list, and the lists are lists by key again.
use Rattle.std.specs.Prelude.{◌≡◌, refl, ◌≢◌, List, ◌∷◌, length}
use Rattle.std.proofs.Math.Path.{sym}
use Rattle.std.proofs.Common.{ap, ◌∙◌}
use Prim.Native.Nat.{ℕ, suc, ◌+◌, ◌-◌, ◌%◌, ◌^◌, ◌≤◌, ◌<◌}
use Rattle.std.proofs.Math.Numerals.{add-one}
use native.Mathlib.Omega.{arith}
use Rattle.basics.specs.Tests.{ask_same}
use Rattle.keyed_lists.specs.KeyedLists.{used_of, floor_of, ends_of, first_of, last_of, next_of, mark_of, cell_of, key_of, entry_of, entries_up_to, keyed_entries, Waits, InList, Linked, Ended, Keyed, KeyedJoined}
use Rattle.keyed_lists.specs.ListLaws.{in_place, first-kept, last-kept}
use Rattle.keyed_lists.specs.EntryLaws.{entries-marked, entries-alike}

-- what is new where the entry of a key stands at a new place of its list, j
pub record Added (q : List ℕ) (key cell place j : ℕ) (q' : List ℕ) : Type 0 where
  pub list : key % 64 ≡ j
  pub used : used_of q' ≡ place
  pub floor : floor_of q' ≡ floor_of q
  pub mark-new : mark_of q' place ≡ key + 1
  pub cell-new : cell_of q' place ≡ cell
  pub next-new : next_of q' place ≡ 0
  pub mark-old : (p : ℕ) → 1 ≤ p → p < place → mark_of q' p ≡ mark_of q p
  pub cell-old : (p : ℕ) → 1 ≤ p → p < place → cell_of q' p ≡ cell_of q p
  pub next-old : (p : ℕ) → 1 ≤ p → p < place → (ends_of q j ≢ 0 → p ≢ last_of q j) → next_of q' p ≡ next_of q p
  pub next_last : ends_of q j ≢ 0 → next_of q' (last_of q j) ≡ place
  pub ends-other : (i : ℕ) → i < 64 → i ≢ j → ends_of q' i ≡ ends_of q i
  pub ends-own : ends_of q' j ≢ 0
  pub last-own : last_of q' j ≡ place
  pub first_alone : ends_of q j ≡ 0 → first_of q' j ≡ place
  pub first-behind : ends_of q j ≢ 0 → first_of q' j ≡ first_of q j

-- the new place can be counted, and its key may come
pub record Fitting (q : List ℕ) (key place : ℕ) (q' : List ℕ) : Type 0 where
  pub next : used_of q + 1 ≡ place
  pub low : floor_of q ≤ key
  pub high : key < floor_of q + 64
  pub long : 65 + place < length q'
  pub few : place < 2 ^ 24

module _ (q : List ℕ) (key cell place j : ℕ) (q' : List ℕ) (K : Keyed q) (A : Added q key cell place j q') (F : Fitting q key place q') where
  j_small : j < 64
  j_small = omega (arith, A.list)

  -- a place that waits now and is not the new one waited before, and the other way round
  old-waits : (p : ℕ) → Waits q' p → p ≢ place → Waits q p
  old-waits p W d = record {
    counted = W.counted;
    used = omega (arith, d, W.used, A.used, F.next);
    marked = omega (arith, W.marked, A.mark-old p W.counted (omega (arith, d, W.used, A.used)));
  }

  old-key : (p : ℕ) → Waits q p → key_of q' p ≡ key_of q p
  old-key p W = omega (arith, A.mark-old p W.counted (omega (arith, W.used, F.next)))

  still-waits : (p : ℕ) → Waits q p → Waits q' p
  still-waits p W = record {
    counted = W.counted;
    used = omega (arith, W.used, A.used, F.next);
    marked = omega (arith, W.marked, A.mark-old p W.counted (omega (arith, W.used, F.next)));
  }

  old_in : (i k p : ℕ) → i ≡ k → InList q' i p → p ≢ place → InList q k p
  old_in i k p e I d =
      let W = old-waits p I.waits d in
      record { waits = W; list = omega (arith, I.list, old-key p W) }

  still_in : (i k p : ℕ) → i ≡ k → InList q i p → InList q' k p
  still_in i k p e I = record { waits = still-waits p I.waits; list = omega (arith, I.list, old-key p I.waits) }

  new-waits : Waits q' place
  new-waits = record { counted = omega (arith, F.next); used = omega (arith, A.used); marked = omega (arith, A.mark-new) }

  new-key : key_of q' place ≡ key
  new-key = omega (arith, A.mark-new)

  new_in : InList q' j place
  new_in = record { waits = new-waits; list = omega (arith, new-key, A.list) }

  -- the new place is in no other list
  not_new : (i p : ℕ) → i ≢ j → InList q' i p → p ≢ place
  not_new i p d I e = d (omega (arith, (rw e at I).list, new-key, A.list))

  -- p was the last of the new place's list, or not
  ask_last : {X : Type 0} (p : ℕ) → (ends_of q j ≢ 0 → p ≡ last_of q j → X) → ((ends_of q j ≢ 0 → p ≢ last_of q j) → X) → X
  ask_last p f g = ask_same (ends_of q j) 0 (λ z. g (λ d. absurd (d z))) (λ d. ask_same p (last_of q j) (f d) (λ e. g (λ _. e)))

  low' : (p : ℕ) → Waits q' p → floor_of q' ≤ key_of q' p
  low' p W =
      ask_same p place
      (λ e. rw e (omega (arith, new-key, A.floor, F.low)))
      (λ d. let O = old-waits p W d in omega (arith, K.low p O, old-key p O, A.floor))

  high' : (p : ℕ) → Waits q' p → key_of q' p < floor_of q' + 64
  high' p W =
      ask_same p place
      (λ e. rw e (omega (arith, new-key, A.floor, F.high)))
      (λ d. let O = old-waits p W d in omega (arith, K.high p O, old-key p O, A.floor))

  empty' : (i : ℕ) → i < 64 → ends_of q' i ≡ 0 → (p : ℕ) → InList q' i p → ⊥
  empty' i h z p I =
      ask_same i j
      (λ e. A.ends-own (rw e at z))
      (λ d. K.empty i h (sym (A.ends-other i h d) ∙ z) p (old_in i i p refl I (not_new i p d I)))

  -- the new place's own list
  own_first : InList q' j (first_of q' j)
  own_first =
      ask_same (ends_of q j) 0
      (λ z. in_place (sym (A.first_alone z)) new_in)
      (λ d. in_place (sym (A.first-behind d)) (still_in j j (first_of q j) refl (K.ended j j_small d).first_in))

  own-least : (p : ℕ) → InList q' j p → first_of q' j ≤ p
  own-least p I =
      ask_same (ends_of q j) 0
      (λ z. ask_same p place
      (λ e. omega (arith, e, A.first_alone z))
      (λ d. absurd (K.empty j j_small z p (old_in j j p refl I d))))
      (λ n. let E = K.ended j j_small n in
      ask_same p place
      (λ e. omega (arith, e, A.first-behind n, E.first_in.waits.used, F.next))
      (λ d. omega (arith, A.first-behind n, E.least p (old_in j j p refl I d))))

  own-ended : Ended q' j
  own-ended = record {
    first_in = own_first;
    last_in = in_place (sym A.last-own) new_in;
    least = own-least;
    greatest = λ p I. omega (arith, I.waits.used, A.used, A.last-own);
  }

  other-ended : (i : ℕ) → i < 64 → i ≢ j → Ended q i → Ended q' i
  other-ended i h d E =
      let f = first-kept q q' i (A.ends-other i h d) in
      let l = last-kept q q' i (A.ends-other i h d) in
      record {
        first_in = in_place (sym f) (still_in i i (first_of q i) refl E.first_in);
        last_in = in_place (sym l) (still_in i i (last_of q i) refl E.last_in);
        least = λ p I. omega (arith, f, E.least p (old_in i i p refl I (not_new i p d I)));
        greatest = λ p I. omega (arith, l, E.greatest p (old_in i i p refl I (not_new i p d I)));
      }

  ended' : (i : ℕ) → i < 64 → ends_of q' i ≢ 0 → Ended q' i
  ended' i h n =
      ask_same i j (λ e. rw e own-ended) (λ d. other-ended i h d (K.ended i h (λ z. n (A.ends-other i h d ∙ z))))

  -- a place with no next one was the last of the new place's list, if it is in it
  was-last : (p : ℕ) → InList q j p → next_of q p ≡ 0 → (ends_of q j ≢ 0 → p ≢ last_of q j) → ⊥
  was-last p I z g =
      ask_same (ends_of q j) 0
      (λ e. K.empty j j_small e p I)
      (λ n. let E = K.ended j j_small n in
      g n (omega (arith, E.greatest p I, K.last p I.waits z (last_of q j) (rw I.list E.last_in))))

  old-last : (p : ℕ) → Waits q p → next_of q' p ≡ 0 → (ends_of q j ≢ 0 → p ≢ last_of q j) → (r : ℕ) → InList q' (key_of q' p % 64) r → r ≤ p
  old-last p W z g r I =
      let n : next_of q p ≡ 0 = sym (A.next-old p W.counted (omega (arith, W.used, F.next)) g) ∙ z in
      let k = old-key p W in
      ask_same r place
      (λ e. absurd (was-last p (record { waits = W; list = omega (arith, (rw e at I).list, new-key, A.list, k) }) n g))
      (λ d. K.last p W n r (old_in (key_of q' p % 64) (key_of q p % 64) r (omega arith) I d))

  last' : (p : ℕ) → Waits q' p → next_of q' p ≡ 0 → (r : ℕ) → InList q' (key_of q' p % 64) r → r ≤ p
  last' p W z r I =
      ask_same p place
      (λ e. omega (arith, e, I.waits.used, A.used))
      (λ d. ask_last p
      (λ n e. absurd (omega (arith, sym (A.next_last n) ∙ ap (next_of q') (sym e) ∙ z, F.next)))
      (λ g. old-last p (old-waits p W d) z g r I))

  -- the one that was the last goes on at the new place
  last-linked : (p : ℕ) → ends_of q j ≢ 0 → p ≡ last_of q j → Linked q' p
  last-linked p n e =
      let E = K.ended j j_small n in
      let m : next_of q' p ≡ place = ap (next_of q') e ∙ A.next_last n in
      let L : InList q j p = in_place (sym e) E.last_in in
      let k : key_of q' p % 64 ≡ j = (still_in j j p refl L).list in
      record {
        in_list = rw (k, m) new_in;
        later = omega (arith, m, L.waits.used, F.next);
        least = λ r I b. ask_same r place
            (λ s. omega (arith, s, m))
            (λ d. absurd (omega (arith, e, b, E.greatest r (old_in (key_of q' p % 64) j r k I d))));
      }

  old-linked : (p : ℕ) → Waits q p → next_of q' p ≡ next_of q p → Linked q p → Linked q' p
  old-linked p W m L =
      let k : key_of q p % 64 ≡ key_of q' p % 64 = omega (arith, old-key p W) in
      record {
        in_list = rw m (still_in (key_of q p % 64) (key_of q' p % 64) (next_of q p) k L.in_list);
        later = omega (arith, m, L.later);
        least = λ r I b. ask_same r place
            (λ s. omega (arith, s, m, L.in_list.waits.used, F.next))
            (λ d. omega (arith, m, L.least r (old_in (key_of q' p % 64) (key_of q p % 64) r (sym k) I d) b));
      }

  linked' : (p : ℕ) → Waits q' p → next_of q' p ≢ 0 → Linked q' p
  linked' p W n =
      ask_same p place
      (λ e. absurd (n (ap (next_of q') e ∙ A.next-new)))
      (λ d. let O = old-waits p W d in
      ask_last p
      (last-linked p)
      (λ g. let m = A.next-old p O.counted (omega (arith, O.used, F.next)) g in
      old-linked p O m (K.linked p O (λ z. n (m ∙ z)))))

  keyed' : Keyed q'
  keyed' = record {
    long = omega (arith, A.used, F.long);
    few = omega (arith, A.used, F.few);
    low = low';
    high = high';
    empty = empty';
    ended = ended';
    last = last';
    linked = linked';
  }

  entries' : keyed_entries q' ≡ record { key = key; serial = used_of q; cell = cell } ∷ keyed_entries q
  unfolding keyed_entries
  entries' =
      let s : place ≡ suc (used_of q) = sym F.next ∙ add-one (used_of q) in
      let marked : mark_of q' (suc (used_of q)) ≡ key + 1 = rw (← s) A.mark-new in
      let k : key_of q' (suc (used_of q)) ≡ key = omega (arith, marked) in
      let n : suc (used_of q) - 1 ≡ used_of q = omega arith in
      let c : cell_of q' (suc (used_of q)) ≡ cell = rw (← s) A.cell-new in
      let new : entry_of q' (suc (used_of q)) ≡ record { key = key; serial = used_of q; cell = cell } = λ i. record { key = k i; serial = n i; cell = c i } in
      let rest : entries_up_to q' (used_of q) ≡ entries_up_to q (used_of q) = entries-alike q q' (used_of q) (λ p a b. record { mark = A.mark-old p a (omega (arith, F.next)); cell = A.cell-old p a (omega (arith, F.next)) }) in
      cc (ap (entries_up_to q') (A.used ∙ s), entries-marked q' (used_of q) (omega (arith, marked)), new, rest)

  pub added-joined : KeyedJoined q key (used_of q) cell q'
  added-joined = record { entries = entries'; keyed = keyed' }
