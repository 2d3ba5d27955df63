-- The order of entries, and waiting lists that hold the same entries in another order: the entry taken is the same one.
use Rattle.std.specs.Prelude.{◌≡◌, refl, Bool, true, false, ◌&&◌, List, [], ◌∷◌, suc, ◌≤◌, ◌<◌, length, ltb, eqb}
use Rattle.std.proofs.Common.{sym, ap, ◌∙◌, inl, inr, arith, ltb-true, ltb-false, eqb-true, eq-eqb}
use Rattle.std.proofs.lemmas.Bool.{eqb-false}
use Rattle.basics.specs.Tests.{ask, passed, never}
use Rattle.basics.specs.Lists.{In}
use Rattle.basics.specs.Counts.{bit, times}
use Rattle.best_first.specs.Search.{Entry, least, sooner}
use Rattle.best_first.specs.Statements.{Taking}

-- a is not taken before b
pub data Late (a b : Entry) : Type 0 where
  by_key : b.key < a.key → Late a b
  by-serial : a.key ≡ b.key → b.serial ≤ a.serial → Late a b

late-key : (a b : Entry) → Late a b → b.key ≤ a.key
late-key a b (by_key h) = omega arith
late-key a b (by-serial e h) = omega arith

not_sooner_late : (a b : Entry) → sooner a b ≡ false → Late a b
unfolding sooner
not_sooner_late a b h =
    ask (ltb a.key b.key) (λ t. never (cc))
    (λ f. ask (eqb a.key b.key) (λ t. by-serial (eqb-true _ _ t) (ltb-false a.serial b.serial (rw (f, t) at h)))
    (λ g. by_key (omega (arith, ltb-false a.key b.key f, eqb-false a.key b.key g))))

sooner-late : (x e : Entry) → sooner x e ≡ true → Late e x
unfolding sooner
sooner-late x e h =
    ask (ltb x.key e.key) (λ t. by_key (ltb-true _ _ t))
    (λ f. ask (eqb x.key e.key) (λ t. by-serial (sym (eqb-true _ _ t)) (omega (arith, ltb-true x.serial e.serial (rw (f, t) at h))))
    (λ g. never (cc)))

late_trans : (a b c : Entry) → Late a b → Late b c → Late a c
late_trans a b c (by_key h) (by_key k) = by_key (omega arith)
late_trans a b c (by_key h) (by-serial e k) = by_key (omega arith)
late_trans a b c (by-serial e h) (by_key k) = by_key (omega arith)
late_trans a b c (by-serial e h) (by-serial f k) = by-serial (e ∙ f) (omega arith)

-- none is taken before the one taken
least-late : (e : Entry) (xs : List Entry) (y : Entry) → In y (e ∷ xs) → Late y (least e xs).next
unfolding least
least-late e [] y (inl p) = rw p (by-serial refl (omega arith))
least-late e [] y (inr i) = absurd i
least-late e (x ∷ xs) y i =
    ask (sooner x e) (λ t. rw t (won x e (least-late x xs) (sooner-late x e t) (flip i))) (λ f. rw f (won e x (least-late e xs) (not_sooner_late x e f) i))
  where
    won : (w l : Entry) → ((y : Entry) → In y (w ∷ xs) → Late y (least w xs).next) → Late l w → In y (w ∷ l ∷ xs) → Late y (least w xs).next
    won w l ih h (inl p) = ih y (inl p)
    won w l ih h (inr (inl p)) = rw p (late_trans l w _ h (ih w (inl refl)))
    won w l ih h (inr (inr j)) = ih y (inr j)

    flip : In y (e ∷ x ∷ xs) → In y (x ∷ e ∷ xs)
    flip (inl p) = inr (inl p)
    flip (inr (inl p)) = inl p
    flip (inr (inr j)) = inr (inr j)

-- ---- how often an entry stands in a list

unfoldable pub equal : Entry → Entry → Bool
equal a b = eqb a.key b.key && (eqb a.serial b.serial && eqb a.cell b.cell)

count-least : (a e : Entry) (xs : List Entry) → times (equal a) (e ∷ xs) ≡ times (equal a) ((least e xs).next ∷ (least e xs).left)
unfolding least times
count-least a e [] = refl
count-least a e (x ∷ xs) =
    ask (sooner x e) (λ t. rw t (omega (arith, count-least a x xs))) (λ f. rw f (omega (arith, count-least a e xs)))

length_least : (e : Entry) (xs : List Entry) → length (e ∷ xs) ≡ suc (length (least e xs).left)
unfolding least
length_least e [] = refl
length_least e (x ∷ xs) = ask (sooner x e) (λ t. rw t (ap suc (length_least x xs))) (λ f. rw f (ap suc (length_least e xs)))

equal_eq : (a b : Entry) → equal a b ≡ true → a ≡ b
unfolding equal
equal_eq a b h =
    let k : a.key ≡ b.key = search passed in
    let s : a.serial ≡ b.serial = search passed in
    let c : a.cell ≡ b.cell = search passed in
    λ i. record { key = k i; serial = s i; cell = c i }

equal_refl : (a : Entry) → equal a a ≡ true
unfolding equal
equal_refl a = rw (eq-eqb a.key a.key refl, eq-eqb a.serial a.serial refl, eq-eqb a.cell a.cell refl)

in_count : (a : Entry) (l : List Entry) → In a l → 0 < times (equal a) l
unfolding times
in_count a [] i = absurd i
in_count a (x ∷ l) (inl e) = omega (arith, ap bit (ap (equal a) (sym e) ∙ equal_refl a))
in_count a (x ∷ l) (inr i) = omega (arith, in_count a l i)

count_in : (a : Entry) (l : List Entry) → 0 < times (equal a) l → In a l
unfolding times
count_in a [] h = absurd (omega arith)
count_in a (x ∷ l) h = ask (equal a x) (λ t. inl (equal_eq a x t)) (λ f. inr (count_in a l (omega (arith, ap bit f))))

-- ---- the same entries, in whatever order

pub record Same (p q : List Entry) : Type 0 where
  pub many : length p ≡ length q
  pub each : (a : Entry) → times (equal a) p ≡ times (equal a) q

pub same_refl : (p : List Entry) → Same p p
same_refl p = record { many = refl; each = λ a. refl }

pub same_sym : {p q : List Entry} → Same p q → Same q p
same_sym S = record { many = sym S.many; each = λ a. sym (S.each a) }

pub same_trans : {p q r : List Entry} → Same p q → Same q r → Same p r
same_trans S R = record { many = S.many ∙ R.many; each = λ a. S.each a ∙ R.each a }

pub same_in : {p q : List Entry} → Same p q → (a : Entry) → In a p → In a q
same_in {p} {q} S a i = count_in a q (omega (arith, S.each a, in_count a p i))

pub same-cons : {p q : List Entry} (e : Entry) → Same p q → Same (e ∷ p) (e ∷ q)
unfolding times
same-cons e S = record { many = ap suc S.many; each = λ a. omega (arith, S.each a) }

pub same-swap : (a b : Entry) (p : List Entry) → Same (a ∷ b ∷ p) (b ∷ a ∷ p)
unfolding times
same-swap a b p = record { many = refl; each = λ x. omega arith }

same_rest : {p q : List Entry} (e : Entry) → Same (e ∷ p) (e ∷ q) → Same p q
unfolding times
same_rest e S = record { many = omega (arith, S.many); each = λ a. omega (arith, S.each a) }

same-least : (e : Entry) (xs : List Entry) → Same (e ∷ xs) ((least e xs).next ∷ (least e xs).left)
same-least e xs = record { many = length_least e xs; each = λ a. count-least a e xs }

-- ---- r was taken out of p, and q is left: what a heap does

pub record TakenOut (p : List Entry) (r : Entry) (q : List Entry) : Type 0 where
  pub low : (y : Entry) → In y p → Late y r
  pub same : Same p (r ∷ q)

pub taken-out-same : {p p' : List Entry} {r : Entry} {q : List Entry} → Same p' p → TakenOut p r q → TakenOut p' r q
taken-out-same S P = record { low = λ y i. P.low y (same_in S y i); same = same_trans S P.same }

pub taken-out-taking : {p : List Entry} {r : Entry} {q : List Entry} → TakenOut p r q → Taking p (record { next = r; left = q })
taken-out-taking {p} {r} {q} P = record {
  from = same_in (same_sym P.same) r (inl refl);
  low = λ y i. late-key y r (P.low y i);
  left_in = λ y i. same_in (same_sym P.same) y (inr i);
  rest = λ y i. same_in P.same y i;
  len = P.same.many;
}

-- the entry taken is taken out of any list of the same entries
pub least-taken-out : (e : Entry) (xs p : List Entry) → Same p (e ∷ xs) → TakenOut p (least e xs).next (least e xs).left
least-taken-out e xs p S = record { low = λ y i. least-late e xs y (same_in S y i); same = same_trans S (same-least e xs) }

pub taking : (e : Entry) (xs : List Entry) → Taking (e ∷ xs) (least e xs)
taking e xs = taken-out-taking (least-taken-out e xs (e ∷ xs) (same_refl (e ∷ xs)))

-- no two entries of one serial
abbrev pub Distinct : List Entry → Type 0
Distinct p = (a b : Entry) → In a p → In b p → a.serial ≡ b.serial → a ≡ b

-- of two entries neither of which is before the other
same-serial : (a b : Entry) → Late a b → Late b a → a.serial ≡ b.serial
same-serial a b (by_key h) (by_key k) = omega arith
same-serial a b (by_key h) (by-serial e k) = omega arith
same-serial a b (by-serial e h) (by_key k) = omega arith
same-serial a b (by-serial e h) (by-serial f k) = omega arith

-- what is taken out is what is taken, and the same are left
pub taken-out-next : (e : Entry) (xs : List Entry) (r : Entry) (q : List Entry) → Distinct (e ∷ xs) → TakenOut (e ∷ xs) r q → (least e xs).next ≡ r
taken-out-next e xs r q apart P =
    let n = (least e xs).next in
    let n-in : In n (e ∷ xs) = (taking e xs).from in
    let r-in : In r (e ∷ xs) = (taken-out-taking P).from in
    apart n r n-in r-in (same-serial n r (P.low n n-in) (least-late e xs r r-in))

pub taken-out-left : (e : Entry) (xs : List Entry) (r : Entry) (q : List Entry) → Distinct (e ∷ xs) → TakenOut (e ∷ xs) r q → Same (least e xs).left q
taken-out-left e xs r q apart P =
    same_rest r (same_trans (same_sym (rw (taken-out-next e xs r q apart P) at (same-least e xs))) P.same)
