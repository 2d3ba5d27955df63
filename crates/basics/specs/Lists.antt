-- Membership in a list, tests over a list, lists one after another, a rule that one computed test shows of every member, a list from one of its
-- members on, and a list written from its front.
use Rattle.std.specs.Prelude.{◌≡◌, refl, ◌⊎◌, Bool, true, false, ◌&&◌, ◌||◌, List, [], ◌∷◌, ◌++◌, map, ℕ, zero, suc, ◌+◌, ◌≤◌, ◌<◌, length, get_or, set, drop}
use Rattle.std.proofs.Common.{sym, ap, ◌∙◌, inl, inr, add-one, le_of_suc-le-suc, not-suc-le-zero, arith, drop_of_length-le, drop-cons, get_or-set_same, get_or-set_other}
use Rattle.std.proofs.Math.Bool.{and_assoc}
use Rattle.basics.specs.Tests.{ask_same, and_left, and_right, and_both}

-- x stands in the list
abbrev pub In : {X : Type 0} → X → List X → Type 0
In x [] = ⊥
In x (y ∷ ys) = (x ≡ y) ⊎ In x ys

-- the test passes at each member
abbrev pub every : {X : Type 0} → (X → Bool) → List X → Bool
every p [] = true
every p (x ∷ xs) = p x && every p xs

-- the test passes at one of the members
abbrev pub any : {X : Type 0} → (X → Bool) → List X → Bool
any p [] = false
any p (x ∷ xs) = p x || any p xs

-- lists one after another
abbrev pub joined : {X : Type 0} → List (List X) → List X
joined [] = []
joined (l ∷ ls) = l ++ joined ls

-- one computed test shows a rule of every member
pub every_in : {X : Type 0} (p : X → Bool) (xs : List X) → every p xs ≡ true → (x : X) → In x xs → p x ≡ true
every_in p [] e x i = absurd i
every_in p (y ∷ ys) e x (inl q) = rw q (and_left (p y) (every p ys) e)
every_in p (y ∷ ys) e x (inr i) = every_in p ys (and_right (p y) (every p ys) e) x i

-- one computed test shows a rule of every number below n
unfoldable pub all_below : (ℕ → Bool) → ℕ → Bool
all_below p zero = true
all_below p (suc n) = p n && all_below p n

pub below_all : (p : ℕ → Bool) (n : ℕ) → all_below p n ≡ true → (k : ℕ) → k < n → p k ≡ true
unfolding all_below
below_all p zero e k h = absurd (not-suc-le-zero h)
below_all p (suc n) e k h =
    ask_same k n (λ q. rw q (and_left (p n) (all_below p n) e)) (λ d. below_all p n (and_right (p n) (all_below p n) e) k (omega (arith, d)))

pub every-all : {X : Type 0} (p : X → Bool) → ((x : X) → p x ≡ true) → (xs : List X) → every p xs ≡ true
every-all p f [] = refl
every-all p f (x ∷ xs) = and_both (f x) (every-all p f xs)

pub every_append : {X : Type 0} (p : X → Bool) (xs ys : List X) → every p (xs ++ ys) ≡ every p xs && every p ys
every_append p [] ys = refl
every_append p (x ∷ xs) ys = rw (every_append p xs ys) (sym (and_assoc (p x) (every p xs) (every p ys)))

pub every_map : {X Y : Type 0} (p : Y → Bool) (f : X → Y) (xs : List X) → every p (map f xs) ≡ every (λ x. p (f x)) xs
every_map p f [] = refl
every_map p f (x ∷ xs) = rw (every_map p f xs)

pub every-joined : {X : Type 0} (p : X → Bool) (ls : List (List X)) → every p (joined ls) ≡ every (every p) ls
every-joined p [] = refl
every-joined p (l ∷ ls) = rw (every_append p l (joined ls), every-joined p ls)

-- a list from the i-th member on
pub drop_next : {X : Type 0} (l : List X) (i : ℕ) (d : X) → i < length l → drop i l ≡ get_or l i d ∷ drop (i + 1) l
drop_next l i d h = rw add-one (drop-cons l i d h)

-- the members of a list of numbers tested one by one, from the i-th on
module _ (p : ℕ → Bool) (l : List ℕ) (i : ℕ) where
  every-from : i < length l → every p (drop i l) ≡ (p (get_or l i 0) && every p (drop (i + 1) l))
  every-from h = ap (every p) (drop_next l i 0 h)

  pub every-passed : i < length l → p (get_or l i 0) ≡ true → every p (drop (i + 1) l) ≡ every p (drop i l)
  every-passed h e = rw (every-from h, e)

  pub every-failed : i < length l → p (get_or l i 0) ≡ false → false ≡ every p (drop i l)
  every-failed h e = rw (every-from h, e)

  pub every-end : length l ≤ i → true ≡ every p (drop i l)
  every-end h = rw (drop_of_length-le l h)

-- what stands at a place of the list stands in it
pub in_at : {X : Type 0} (xs : List X) (k : ℕ) (d : X) → k < length xs → In (get_or xs k d) xs
in_at [] k d h = absurd (not-suc-le-zero h)
in_at (x ∷ xs) zero d h = inl refl
in_at (x ∷ xs) (suc k) d h = inr (in_at xs k d (le_of_suc-le-suc h))

-- the loop that writes a list of numbers from its front: its first i numbers are those of f, and so is the next one
module _ (f : ℕ → ℕ) (l : List ℕ) {i x : ℕ} (h : i < length l) (e : x ≡ f i) where
  pub front-written : ((k : ℕ) → k < i → get_or l k 0 ≡ f k) → (k : ℕ) → k < i + 1 → get_or (set l i x) k 0 ≡ f k
  front-written front k m = ask_same k i (λ q. rw q (get_or-set_same l i x 0 h ∙ e)) (λ d. get_or-set_other l i k x 0 d ∙ front k (omega (arith, d)))
