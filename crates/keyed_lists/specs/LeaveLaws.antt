-- The first place of the list of the least key is emptied: the lists are lists by key again, and its entry comes before all others.
use Rattle.std.specs.Prelude.{◌≡◌, refl, ◌≢◌, List, ◌∷◌, ℕ, ◌+◌, ◌-◌, ◌%◌, ◌≤◌, ◌<◌, length}
use Rattle.std.proofs.Common.{sym, ap, ◌∙◌, arith}
use Rattle.basics.specs.Tests.{ask_same, ask_less}
use Rattle.basics.specs.Lists.{In}
use Rattle.best_first.specs.Search.{Entry}
use Rattle.best_first.proofs.Entries.{Late, by_key, by-serial, Same}
use Rattle.keyed_lists.specs.KeyedLists.{used_of, floor_of, ends_of, first_of, last_of, next_of, mark_of, cell_of, key_of, entry_of, keyed_entries, Waits, InList, Linked, Ended, Keyed, KeyedLeft}
use Rattle.keyed_lists.specs.Steps.{LeastKey}
use Rattle.keyed_lists.specs.ListLaws.{in_place, first-kept, last-kept}
use Rattle.keyed_lists.specs.EntryLaws.{Placed, entry-placed, entries-emptied}

-- what is new where the first place of list j has left, and keys below this one come no more
pub record Removed (q : List ℕ) (key j : ℕ) (q' : List ℕ) : Type 0 where
  pub long : length q' ≡ length q
  pub used : used_of q' ≡ used_of q
  pub floor : floor_of q' ≡ key
  pub mark-gone : mark_of q' (first_of q j) ≡ 0
  pub mark-other : (p : ℕ) → 1 ≤ p → p ≢ first_of q j → mark_of q' p ≡ mark_of q p
  pub cell_other : (p : ℕ) → 1 ≤ p → p ≢ first_of q j → cell_of q' p ≡ cell_of q p
  pub next-other : (p : ℕ) → 1 ≤ p → p ≢ first_of q j → next_of q' p ≡ next_of q p
  pub ends-other : (i : ℕ) → i < 64 → i ≢ j → ends_of q' i ≡ ends_of q i
  pub ends-none : next_of q (first_of q j) ≡ 0 → ends_of q' j ≡ 0
  pub ends_on : next_of q (first_of q j) ≢ 0 → ends_of q' j ≢ 0
  pub first_on : next_of q (first_of q j) ≢ 0 → first_of q' j ≡ next_of q (first_of q j)
  pub last_on : next_of q (first_of q j) ≢ 0 → last_of q' j ≡ last_of q j

module _ (q : List ℕ) (key j : ℕ) (q' : List ℕ) (K : Keyed q) (own : key % 64 ≡ j) (L : LeastKey q key) (R : Removed q key j q') where
  j_small : j < 64
  j_small = omega (arith, own)

  own-ended : Ended q j
  own-ended = K.ended j j_small (rw own at L.some)

  first_in : InList q j (first_of q j)
  first_in = own-ended.first_in

  -- the first of the list has the key itself
  first_key : key_of q (first_of q j) ≡ key
  first_key =
      omega (
        arith,
        own,
        first_in.list,
        L.from,
        L.low (first_of q j) first_in.waits,
        K.high (first_of q j) first_in.waits,
      )

  not_gone : (p : ℕ) → Waits q' p → p ≢ first_of q j
  not_gone p W e = omega (arith, W.marked, ap (mark_of q') e ∙ R.mark-gone)

  old-waits : (p : ℕ) → Waits q' p → Waits q p
  old-waits p W = record {
    counted = W.counted;
    used = omega (arith, W.used, R.used);
    marked = omega (arith, W.marked, R.mark-other p W.counted (not_gone p W));
  }

  still-waits : (p : ℕ) → p ≢ first_of q j → Waits q p → Waits q' p
  still-waits p d W = record {
    counted = W.counted;
    used = omega (arith, W.used, R.used);
    marked = omega (arith, W.marked, R.mark-other p W.counted d);
  }

  same_key : (p : ℕ) → Waits q p → p ≢ first_of q j → key_of q' p ≡ key_of q p
  same_key p W d = omega (arith, R.mark-other p W.counted d)

  old_in : (i k p : ℕ) → i ≡ k → InList q' i p → InList q k p
  old_in i k p e I =
      let W = old-waits p I.waits in
      record { waits = W; list = omega (arith, I.list, same_key p W (not_gone p I.waits)) }

  still_in : (i k p : ℕ) → i ≡ k → p ≢ first_of q j → InList q i p → InList q' k p
  still_in i k p e d I = record { waits = still-waits p d I.waits; list = omega (arith, I.list, same_key p I.waits d) }

  low' : (p : ℕ) → Waits q' p → floor_of q' ≤ key_of q' p
  low' p W = let O = old-waits p W in omega (arith, L.low p O, same_key p O (not_gone p W), R.floor)

  high' : (p : ℕ) → Waits q' p → key_of q' p < floor_of q' + 64
  high' p W = let O = old-waits p W in omega (arith, K.high p O, same_key p O (not_gone p W), R.floor, L.from)

  -- the places of its list that still wait are later
  rest-later : (p : ℕ) → InList q' j p → first_of q j < p
  rest-later p I = omega (arith, own-ended.least p (old_in j j p refl I), not_gone p I.waits)

  -- where the first had no next one, none is left
  none_left : next_of q (first_of q j) ≡ 0 → (p : ℕ) → InList q' j p → ⊥
  none_left z p I =
      let B : InList q (key_of q (first_of q j) % 64) p = old_in j (key_of q (first_of q j) % 64) p (sym first_in.list) I in
      omega (arith, rest-later p I, K.last (first_of q j) first_in.waits z p B)

  empty' : (i : ℕ) → i < 64 → ends_of q' i ≡ 0 → (p : ℕ) → InList q' i p → ⊥
  empty' i h z p I =
      ask_same i j
      (λ e. ask_same (next_of q (first_of q j)) 0
      (λ n. none_left n p (rw e at I))
      (λ n. R.ends_on n (rw e at z)))
      (λ d. K.empty i h (sym (R.ends-other i h d) ∙ z) p (old_in i i p refl I))

  -- its list goes on at the next place
  own-next : next_of q (first_of q j) ≢ 0 → Ended q' j
  own-next n =
      let N = K.linked (first_of q j) first_in.waits n in
      let B : InList q j (next_of q (first_of q j)) = rw first_in.list at N.in_list in
      record {
        first_in = in_place (sym (R.first_on n)) (still_in j j (next_of q (first_of q j)) refl (omega (arith, N.later)) B);
        last_in = in_place (sym (R.last_on n)) (still_in j j (last_of q j) refl (omega (arith, N.later, own-ended.greatest (next_of q (first_of q j)) B)) own-ended.last_in);
        least = λ p I. omega (arith, R.first_on n, N.least p (old_in j (key_of q (first_of q j) % 64) p (sym first_in.list) I) (rest-later p I));
        greatest = λ p I. omega (arith, R.last_on n, own-ended.greatest p (old_in j j p refl I));
      }

  -- the first of its list is in no other
  in_other : (i p : ℕ) → i ≢ j → InList q i p → p ≢ first_of q j
  in_other i p d I e = d (sym I.list ∙ ap (λ r. key_of q r % 64) e ∙ first_in.list)

  other-ended : (i : ℕ) → i < 64 → i ≢ j → Ended q i → Ended q' i
  other-ended i h d E =
      let f = first-kept q q' i (R.ends-other i h d) in
      let l = last-kept q q' i (R.ends-other i h d) in
      record {
        first_in = in_place (sym f) (still_in i i (first_of q i) refl (in_other i (first_of q i) d E.first_in) E.first_in);
        last_in = in_place (sym l) (still_in i i (last_of q i) refl (in_other i (last_of q i) d E.last_in) E.last_in);
        least = λ p I. omega (arith, f, E.least p (old_in i i p refl I));
        greatest = λ p I. omega (arith, l, E.greatest p (old_in i i p refl I));
      }

  ended' : (i : ℕ) → i < 64 → ends_of q' i ≢ 0 → Ended q' i
  ended' i h n =
      ask_same i j
      (λ e. rw e (own-next (λ z. n (ap (ends_of q') e ∙ R.ends-none z))))
      (λ d. other-ended i h d (K.ended i h (λ z. n (R.ends-other i h d ∙ z))))

  last' : (p : ℕ) → Waits q' p → next_of q' p ≡ 0 → (r : ℕ) → InList q' (key_of q' p % 64) r → r ≤ p
  last' p W z r I =
      let d = not_gone p W in
      let O = old-waits p W in
      K.last p O (sym (R.next-other p W.counted d) ∙ z) r (old_in (key_of q' p % 64) (key_of q p % 64) r (omega (arith, same_key p O d)) I)

  -- no place has the first of a list as its next one
  next-stays : (p : ℕ) → Waits q p → Linked q p → next_of q p ≢ first_of q j
  next-stays p O N e =
      let l : key_of q p % 64 ≡ j = sym N.in_list.list ∙ ap (λ r. key_of q r % 64) e ∙ first_in.list in
      omega (arith, e, N.later, own-ended.least p (record { waits = O; list = l }))

  linked' : (p : ℕ) → Waits q' p → next_of q' p ≢ 0 → Linked q' p
  linked' p W n =
      let d = not_gone p W in
      let O = old-waits p W in
      let m = R.next-other p W.counted d in
      let N = K.linked p O (λ z. n (m ∙ z)) in
      let k : key_of q p % 64 ≡ key_of q' p % 64 = omega (arith, same_key p O d) in
      record {
        in_list = rw m (still_in (key_of q p % 64) (key_of q' p % 64) (next_of q p) k (next-stays p O N) N.in_list);
        later = omega (arith, m, N.later);
        least = λ r I b. omega (arith, m, N.least r (old_in (key_of q' p % 64) (key_of q p % 64) r (sym k) I) b);
      }

  keyed' : Keyed q'
  keyed' = record {
    long = omega (arith, R.used, R.long, K.long);
    few = omega (arith, R.used, K.few);
    low = low';
    high = high';
    empty = empty';
    ended = ended';
    last = last';
    linked = linked';
  }

  -- no entry comes before the one that left
  late : (p : ℕ) → Waits q p → Late (entry_of q p) (entry_of q (first_of q j))
  late p W =
      ask_less key (key_of q p)
      (λ h. by_key (omega (arith, first_key)))
      (λ h. let e : key_of q p ≡ key = omega (arith, L.low p W) in
      by-serial (e ∙ sym first_key) (omega (arith, own-ended.least p (record { waits = W; list = omega (arith, own) }))))

  waits-placed : (y : Entry) → Placed q (used_of q) y → Late y (entry_of q (first_of q j))
  waits-placed y P = rw P.is (late P.place (record { counted = P.counted; used = P.used; marked = P.marked }))

  low-out : (y : Entry) → In y (keyed_entries q) → Late y (entry_of q (first_of q j))
  unfolding keyed_entries
  low-out y i = waits-placed y (entry-placed q (used_of q) y i)

  same_out : Same (keyed_entries q) (entry_of q (first_of q j) ∷ keyed_entries q')
  unfolding keyed_entries
  same_out =
      rw R.used
      (entries-emptied q q' (first_of q j) (used_of q) first_in.waits.counted first_in.waits.used (omega (arith, first_in.waits.marked)) R.mark-gone
      (λ p a d. record { mark = R.mark-other p a d; cell = R.cell_other p a d }))

  pub removed_left : KeyedLeft q (cell_of q (first_of q j)) q'
  removed_left = record {
    key = key_of q (first_of q j);
    serial = first_of q j - 1;
    out = record { low = low-out; same = same_out };
    keyed = keyed';
  }
