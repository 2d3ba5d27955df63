-- The waiting entries of the first places: of slices that agree there, of one more place, and of one that is emptied.
use Rattle.std.specs.Prelude.{◌≡◌, refl, ◌≢◌, List, [], ◌∷◌, ℕ, zero, suc, ◌-◌, ◌≤◌, ◌<◌, length}
use Rattle.std.proofs.Common.{sym, ◌∙◌, inl, inr, arith, eq-eqb, ne_eqb}
use Rattle.basics.specs.Tests.{ask_same}
use Rattle.basics.specs.Lists.{In}
use Rattle.best_first.specs.Search.{Entry}
use Rattle.best_first.proofs.Entries.{Same, same_refl, same_trans, same-cons, same-swap}
use Rattle.keyed_lists.specs.KeyedLists.{mark_of, cell_of, entry_of, entries_up_to}

-- the entry of one place is one more, or none
pub entries-marked : (q : List ℕ) (p : ℕ) → mark_of q (suc p) ≢ 0 → entries_up_to q (suc p) ≡ entry_of q (suc p) ∷ entries_up_to q p
unfolding entries_up_to
entries-marked q p m = rw (ne_eqb (mark_of q (suc p)) 0 m)

pub entries-unmarked : (q : List ℕ) (p : ℕ) → mark_of q (suc p) ≡ 0 → entries_up_to q (suc p) ≡ entries_up_to q p
unfolding entries_up_to
entries-unmarked q p m = rw (eq-eqb (mark_of q (suc p)) 0 m)

pub entries_none : (q : List ℕ) → entries_up_to q 0 ≡ []
unfolding entries_up_to
entries_none q = refl

-- place p of the two slices has the same entry
pub record Alike (q q' : List ℕ) (p : ℕ) : Type 0 where
  pub mark : mark_of q' p ≡ mark_of q p
  pub cell : cell_of q' p ≡ cell_of q p

entry-alike : (q q' : List ℕ) (p : ℕ) → Alike q q' p → entry_of q' p ≡ entry_of q p
entry-alike q q' p A = λ i. record { key = A.mark i - 1; serial = p - 1; cell = A.cell i }

pub entries-alike : (q q' : List ℕ) (n : ℕ) → ((p : ℕ) → 1 ≤ p → p ≤ n → Alike q q' p) → entries_up_to q' n ≡ entries_up_to q n
entries-alike q q' zero A = rw (entries_none q, entries_none q')
entries-alike q q' (suc n) A =
    let here = A (suc n) (omega arith) (omega arith) in
    let rest = entries-alike q q' n (λ p a b. A p a (omega arith)) in
    ask_same (mark_of q (suc n)) 0
    (λ e. entries-unmarked q' n (here.mark ∙ e) ∙ rest ∙ sym (entries-unmarked q n e))
    (λ d. cc (entries-marked q' n (λ e. d (sym here.mark ∙ e)), rest, entry-alike q q' (suc n) here, entries-marked q n d))

-- one of the places is emptied: its entry is taken out of the others
pub entries-emptied : (q q' : List ℕ) (f n : ℕ) → 1 ≤ f → f ≤ n → mark_of q f ≢ 0 → mark_of q' f ≡ 0 → ((p : ℕ) → 1 ≤ p → p ≢ f → Alike q q' p) → Same (entries_up_to q n) (entry_of q f ∷ entries_up_to q' n)
entries-emptied q q' f zero a b m z A = absurd (omega arith)
entries-emptied q q' f (suc n) a b m z A =
    let here : suc n ≢ f → Alike q q' (suc n) = A (suc n) (omega arith) in
    let rest : f ≢ suc n → Same (entries_up_to q n) (entry_of q f ∷ entries_up_to q' n) = λ d. entries-emptied q q' f n a (omega (arith, d)) m z A in
    ask_same f (suc n)
    (λ e. rw (e, entries-marked q n (rw e at m), entries-unmarked q' n (rw e at z), entries-alike q q' n (λ p k l. A p k (omega arith))) (same_refl _))
    (λ d. let same = here (λ e. d (sym e)) in
    ask_same (mark_of q (suc n)) 0
    (λ e. rw (entries-unmarked q n e, entries-unmarked q' n (same.mark ∙ e)) (rest d))
    (λ k. rw (entries-marked q n k, entries-marked q' n (λ e. k (sym same.mark ∙ e)), entry-alike q q' (suc n) same)
    (same_trans (same-cons (entry_of q (suc n)) (rest d)) (same-swap (entry_of q (suc n)) (entry_of q f) (entries_up_to q' n)))))

-- a place among the first n whose entry waits
pub record Placed (q : List ℕ) (n : ℕ) (y : Entry) : Type 0 where
  pub place : ℕ
  pub counted : 1 ≤ place
  pub used : place ≤ n
  pub marked : 0 < mark_of q place
  pub is : y ≡ entry_of q place

further : (q : List ℕ) (n : ℕ) (y : Entry) → Placed q n y → Placed q (suc n) y
further q n y P = record { place = P.place; counted = P.counted; used = omega arith; marked = P.marked; is = P.is }

one_placed : (q : List ℕ) (n : ℕ) (y : Entry) → (In y (entries_up_to q n) → Placed q n y) → mark_of q (suc n) ≢ 0 → In y (entry_of q (suc n) ∷ entries_up_to q n) → Placed q (suc n) y
one_placed q n y f d (inl e) = record { place = suc n; counted = omega arith; used = omega arith; marked = omega (arith, d); is = e }
one_placed q n y f d (inr k) = further q n y (f k)

pub entry-placed : (q : List ℕ) (n : ℕ) (y : Entry) → In y (entries_up_to q n) → Placed q n y
entry-placed q zero y i = absurd (rw (entries_none q) at i)
entry-placed q (suc n) y i =
    ask_same (mark_of q (suc n)) 0
    (λ e. further q n y (entry-placed q n y (rw (entries-unmarked q n e) at i)))
    (λ d. one_placed q n y (entry-placed q n y) d (rw (entries-marked q n d) at i))

-- where an entry waits, there is one
pub record SomePlaced (q : List ℕ) (n : ℕ) : Type 0 where
  pub entry : Entry
  pub placed : Placed q n entry

pub some-placed : (q : List ℕ) (n : ℕ) (l : List Entry) → l ≡ entries_up_to q n → 0 < length l → SomePlaced q n
some-placed q n [] e h = absurd (omega arith)
some-placed q n (y ∷ l) e h = record { entry = y; placed = entry-placed q n y (rw (← e) (inl refl)) }
