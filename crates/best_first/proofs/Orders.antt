-- The order in which the waiting list stands changes no answer, so long as no two entries have one serial: a heap may hold them.
use Rattle.std.specs.Prelude.{◌≡◌, refl, ◌≢◌, List, [], ◌∷◌, ℕ, zero, suc, ◌+◌, ◌≤◌, pred, length, get_or}
use Rattle.std.proofs.Common.{sym, ap, ◌∙◌, inl, inr, arith}
use Rattle.basics.specs.Tests.{ask, ask_same, ask_less}
use Rattle.basics.specs.Lists.{In}
use Rattle.best_first.specs.Search.{Graph, Move, Entry, State, Pushed, full, on, offer, expand, push, cheaper, least, Answer, no_route, limit-passed, queue-full, ends, expands, arrived, one_more_expanded, take_one, take_all, first_state}
use Rattle.best_first.specs.Statements.{known_at, cost_of, outcome}
use Rattle.best_first.specs.ListsAfterSet.{length_zero}
use Rattle.best_first.proofs.Entries.{Same, same_refl, same_sym, same_trans, same_in, same-cons, TakenOut, taken-out-taking, Distinct, taken-out-next, taken-out-left, least-taken-out}
use Rattle.best_first.proofs.Equations.{offer_skip, offer-push, offer-full, expand-on, expand-stop, take_none, take_goal, take_on, take_all_ends, take_all_limit, take_all_full, take_all_on}

-- no two entries have one serial, and none one above the last given
pub record Apart (s : State) : Type 0 where
  pub old : (a : Entry) → In a s.waiting → a.serial ≤ s.serial
  pub distinct : Distinct s.waiting

-- the same but for the order of the waiting list
pub record Alike (s t : State) : Type 0 where
  pub known : s.known ≡ t.known
  pub previous : s.previous ≡ t.previous
  pub waiting : Same s.waiting t.waiting
  pub serial : s.serial ≡ t.serial
  pub expanded : s.expanded ≡ t.expanded

pub alike_refl : (s : State) → Alike s s
alike_refl s = record { known = refl; previous = refl; waiting = same_refl _; serial = refl; expanded = refl }

pub alike_sym : {s t : State} → Alike s t → Alike t s
alike_sym L = record {
  known = sym L.known;
  previous = sym L.previous;
  waiting = same_sym L.waiting;
  serial = sym L.serial;
  expanded = sym L.expanded;
}

pub alike_trans : {r s t : State} → Alike r s → Alike s t → Alike r t
alike_trans K L = record {
  known = K.known ∙ L.known;
  previous = K.previous ∙ L.previous;
  waiting = same_trans K.waiting L.waiting;
  serial = K.serial ∙ L.serial;
  expanded = K.expanded ∙ L.expanded;
}

pub alike-apart : {s t : State} → Alike s t → Apart s → Apart t
alike-apart L A = record {
  old = λ a i. omega (arith, L.serial, A.old a (same_in (same_sym L.waiting) a i));
  distinct = λ a b i j. A.distinct a b (same_in (same_sym L.waiting) a i) (same_in (same_sym L.waiting) b j);
}

pub first-apart : (G : Graph) → Apart (first_state G)
unfolding first_state
first-apart G = record {
  old = λ a. elim [ inl e ↦ omega (arith, ap (λ (x : Entry). x.serial) e) | inr i ↦ absurd i ];
  distinct = λ a b. elim [ inl e ↦ elim [ inl f ↦ λ q. e ∙ sym f | inr j ↦ absurd j ] | inr i ↦ absurd i ];
}

-- ---- one move

pub push-apart : (G : Graph) (u v c : ℕ) (s : State) → Apart s → Apart (push G u v c s)
unfolding push
push-apart G u v c s A = record {
  old = λ a. elim [ inl e ↦ omega (arith, ap (λ (x : Entry). x.serial) e) | inr i ↦ omega (arith, A.old a i) ];
  distinct = λ a b. elim [
    | inl e ↦ elim [ inl f ↦ λ q. e ∙ sym f | inr j ↦ λ q. absurd (omega (arith, ap (λ (x : Entry). x.serial) e, A.old b j)) ]
    | inr i ↦ elim [ inl f ↦ λ q. absurd (omega (arith, ap (λ (x : Entry). x.serial) f, A.old a i)) | inr j ↦ A.distinct a b i j ]
  ];
}

push-alike : (G : Graph) (u v c : ℕ) (s t : State) → Alike s t → Alike (push G u v c s) (push G u v c t)
unfolding push
push-alike G u v c s t L = record {
  known = rw L.known;
  previous = rw L.previous;
  waiting = rw L.serial (same-cons _ L.waiting);
  serial = rw L.serial;
  expanded = L.expanded;
}

-- two outcomes alike
abbrev pub Both : Pushed → Pushed → Type 0
Both full full = Unit {0}
Both full (on t) = ⊥
Both (on s) full = ⊥
Both (on s) (on t) = Apart s × Alike s t

offer-both : (G : Graph) (u v c : ℕ) (s t : State) → Apart s → Alike s t → Both (offer G u v c s) (offer G u v c t)
offer-both G u v c s t A L =
    ask (cheaper c (known_at s v))
    (λ y. ask_less (length s.waiting) G.places
    (λ l. rw (offer-push G u v c s y l, offer-push G u v c t (rw L.known at y) (rw L.waiting.many at l)) (push-apart G u v c s A, push-alike G u v c s t L))
    (λ l. rw (offer-full G u v c s y l, offer-full G u v c t (rw L.known at y) (rw L.waiting.many at l)) tt))
    (λ n. rw (offer_skip G u v c s n, offer_skip G u v c t (rw L.known at n)) (A, L))

pub expand-both : (G : Graph) (u d : ℕ) (ms : List Move) (s t : State) → Apart s → Alike s t → Both (expand G u d ms s) (expand G u d ms t)
unfolding expand
expand-both G u d [] s t A L = (A, L)
expand-both G u d (m ∷ ms) s t A L = go _ _ refl refl (offer-both G u m.to (d + m.cost) s t A L) (λ s' t' A' L'. expand-both G u d ms s' t' A' L')
  where
    go : (x y : Pushed) → offer G u m.to (d + m.cost) s ≡ x → offer G u m.to (d + m.cost) t ≡ y → Both x y
        → ((s' t' : State) → Apart s' → Alike s' t' → Both (expand G u d ms s') (expand G u d ms t'))
        → Both (expand G u d (m ∷ ms) s) (expand G u d (m ∷ ms) t)
    go full full e f b ih = rw (expand-stop G u d m ms s e, expand-stop G u d m ms t f) tt
    go full (on t') e f b ih = absurd b
    go (on s') full e f b ih = absurd b
    go (on s') (on t') e f b ih = rw (expand-on G u d m ms s s' e, expand-on G u d m ms t t' f) (ih s' t' b.0 b.1)

-- ---- one taking

expanded-alike : (s t : State) (p q : List Entry) → Alike s t → Same p q → Alike (one_more_expanded s p) (one_more_expanded t q)
expanded-alike s t p q L S = record { known = L.known; previous = L.previous; waiting = S; serial = L.serial; expanded = ap suc L.expanded }

pub expanded-apart : (s : State) (r : Entry) (q : List Entry) → Apart s → TakenOut s.waiting r q → Apart (one_more_expanded s q)
expanded-apart s r q A P = record {
  old = λ a i. A.old a ((taken-out-taking P).left_in a i);
  distinct = λ a b i j. A.distinct a b ((taken-out-taking P).left_in a i) ((taken-out-taking P).left_in b j);
}

-- the entry taken out is the one that the definition takes, and the same are left
module _ (G : Graph) (s : State) (r : Entry) (q : List Entry) (A : Apart s) (P : TakenOut s.waiting r q) where
  taking-goal-out : r.cell ≡ G.goal → take_one G s ≡ ends (arrived G s)
  taking-goal-out e = go s.waiting refl
    where
      go : (w : List Entry) → s.waiting ≡ w → take_one G s ≡ ends (arrived G s)
      go [] f = absurd (omega (arith, P.same.many, ap length f))
      go (x ∷ xs) f = take_goal G s x xs f (ap (λ (y : Entry). y.cell) (taken-out-next x xs r q (rw f at A.distinct) (rw f at P)) ∙ e)

  record LeftWaiting : Type 0 where
    left : List Entry
    goes : take_one G s ≡ expands r.cell (one_more_expanded s left)
    same : Same left q

  taking-on-out : r.cell ≢ G.goal → LeftWaiting
  taking-on-out n = go s.waiting refl
    where
      go : (w : List Entry) → s.waiting ≡ w → LeftWaiting
      go [] f = absurd (omega (arith, P.same.many, ap length f))
      go (x ∷ xs) f =
          let e : (least x xs).next ≡ r = taken-out-next x xs r q (rw f at A.distinct) (rw f at P) in
          record {
            left = (least x xs).left;
            goes = rw e at (take_on G s x xs f (λ g. n (sym (ap (λ (y : Entry). y.cell) e) ∙ g)));
            same = taken-out-left x xs r q (rw f at A.distinct) (rw f at P);
          }

data TakingBoth (G : Graph) (s t : State) : Type 0 where
  both_end : (a : Answer) → take_one G s ≡ ends a → take_one G t ≡ ends a → TakingBoth G s t
  both_go : (u : ℕ) (s' t' : State) → take_one G s ≡ expands u s' → take_one G t ≡ expands u t' → Apart s' → Alike s' t' → TakingBoth G s t

taking-both : (G : Graph) (s t : State) → Apart s → Alike s t → TakingBoth G s t
taking-both G s t A L = go t.waiting refl
  where
    go : (w : List Entry) → t.waiting ≡ w → TakingBoth G s t
    go [] f = both_end _ (take_none G s (length_zero s.waiting (L.waiting.many ∙ ap length f))) (take_none G t f ∙ ap (λ (x : ℕ). ends (no_route x)) (sym L.expanded))
    go (x ∷ xs) f =
        ask_same (least x xs).next.cell G.goal
        (λ y. both_end _ (taking-goal-out G s _ _ A P y) (take_goal G t x xs f y ∙ ap ends (sym same_answer)))
        (λ n. let k = taking-on-out G s _ _ A P n in
        both_go _ _ _ k.goes (take_on G t x xs f n) (left-apart k) (expanded-alike s t _ _ L k.same))
      where
        P : TakenOut s.waiting (least x xs).next (least x xs).left
        P = least-taken-out x xs s.waiting (rw f at L.waiting)

        same_answer : arrived G s ≡ arrived G t
        same_answer = cc (L.previous, L.known, L.expanded)

        left-apart : (k : LeftWaiting G s (least x xs).next (least x xs).left A P) → Apart (one_more_expanded s k.left)
        left-apart k =
            alike-apart (expanded-alike s s _ _ (alike_refl s) (same_sym k.same)) (expanded-apart s _ _ A P)

-- ---- the run

pub take_all_both : (G : Graph) (b : ℕ) (s t : State) → Apart s → Alike s t → take_all G b s ≡ take_all G b t
take_all_both G zero s t A L = go (taking-both G s t A L)
  where
    go : TakingBoth G s t → take_all G zero s ≡ take_all G zero t
    go (both_end a p q) = take_all_ends G s zero a p ∙ sym (take_all_ends G t zero a q)
    go (both_go u s' t' p q A' L') = take_all_limit G s u s' p ∙ ap limit-passed L'.expanded ∙ sym (take_all_limit G t u t' q)
take_all_both G (suc b) s t A L = go (taking-both G s t A L) (λ x y X Y. take_all_both G b x y X Y)
  where
    go : TakingBoth G s t → ((x y : State) → Apart x → Alike x y → take_all G b x ≡ take_all G b y) → take_all G (suc b) s ≡ take_all G (suc b) t
    go (both_end a p q) ih = take_all_ends G s (suc b) a p ∙ sym (take_all_ends G t (suc b) a q)
    go (both_go u s' t' p q A' L') ih = on_both _ _ refl refl (expand-both G u (cost_of s' u) (G.moves u) s' t' A' L')
      where
        own : (y : Pushed) → expand G u (cost_of s' u) (G.moves u) t' ≡ y → expand G u (cost_of t' u) (G.moves u) t' ≡ y
        own y f = ap (λ (g : List ℕ). expand G u (pred (get_or g u 0)) (G.moves u) t') (sym L'.known) ∙ f

        on_both : (x y : Pushed) → expand G u (cost_of s' u) (G.moves u) s' ≡ x → expand G u (cost_of s' u) (G.moves u) t' ≡ y
            → Both x y → take_all G (suc b) s ≡ take_all G (suc b) t
        on_both full full e f z = take_all_full G s u s' p b e ∙ ap queue-full L'.expanded ∙ sym (take_all_full G t u t' q b (own full f))
        on_both full (on t'') e f z = absurd z
        on_both (on s'') full e f z = absurd z
        on_both (on s'') (on t'') e f z = take_all_on G s u s' p b s'' e ∙ ih s'' t'' z.0 z.1 ∙ sym (take_all_on G t u t' q b t'' (own (on t'') f))

-- ---- what all takings come to, by the entry taken out

module _ (G : Graph) (s : State) (r : Entry) (q : List Entry) (A : Apart s) (P : TakenOut s.waiting r q) where
  pub out-goal : (b : ℕ) → r.cell ≡ G.goal → take_all G b s ≡ arrived G s
  out-goal b e = take_all_ends G s b _ (taking-goal-out G s r q A P e)

  module _ (away : r.cell ≢ G.goal) where
    K : LeftWaiting G s r q A P
    K = taking-on-out G s r q A P away

    pub out-limit : take_all G zero s ≡ limit-passed (suc s.expanded)
    out-limit = take_all_limit G s _ _ K.goes

    both : Both (outcome G s r q)
        (outcome G s r K.left)
    both = expand-both G r.cell _ (G.moves r.cell) _ _ (expanded-apart s r q A P) (expanded-alike s s _ _ (alike_refl s) (same_sym K.same))

    module _ (b : ℕ) where
      pub out-full : outcome G s r q ≡ full → take_all G (suc b) s ≡ queue-full (suc s.expanded)
      out-full e = go _ refl (rw e at both)
        where
          go : (x : Pushed) → outcome G s r K.left ≡ x
              → Both full x → take_all G (suc b) s ≡ queue-full (suc s.expanded)
          go full f z = take_all_full G s _ _ K.goes b f
          go (on t) f z = absurd z

      pub out-on : (t : State) → outcome G s r q ≡ on t → take_all G (suc b) s ≡ take_all G b t
      out-on t e = go _ refl (rw e at both)
        where
          go : (x : Pushed) → outcome G s r K.left ≡ x
              → Both (on t) x → take_all G (suc b) s ≡ take_all G b t
          go full f z = absurd z
          go (on t') f z = take_all_on G s _ _ K.goes b t' f ∙ sym (take_all_both G b t t' z.0 z.1)
