-- The classes that a search has, turned into obstacles, are the obstacles defined; and what is told by them.
use Rattle.std.specs.Prelude.{◌≡◌, refl, Bool, true, List, ◌++◌, ℕ, ◌+◌, ◌≤◌, ◌<◌, eqb, length, get_or, set, take, drop, replicate}
use Rattle.std.proofs.Common.{sym, ap, ◌∙◌, arith, length-set, get_or-set_same, get_or-set_other, length-take-le, ne_eqb}
use Rattle.basics.specs.Tests.{ask, ask_same}
use Rattle.basics.specs.Lists.{front-written}
use Rattle.room.specs.declared.Room.{Room}
use Rattle.room.specs.Room.{volume, beneath}
use Rattle.room.specs.Units.{air}
use Rattle.room_search.specs.Routing.{kind_at, routeable_kind, an_end, bearing, class_for, class_at}
use Rattle.room_search.specs.Classes.{Plain, with_end}
use Rattle.room_search.specs.SearchEndLaws.{start-is-end, goal-is-end}
use Rattle.routing.specs.EntryLaws.{again, cleared-whole}
use Rattle.flood.specs.Walls.{tabled, byte_of, WallsTold}
use Rattle.flood.specs.TableLaws.{tabled-at, tabled-same, is-tabled}
use Rattle.flood.specs.WallLaws.{marks-same, walls-same}
use Rattle.why.specs.Why.{obstacle_for, obstacle_in}
use Rattle.why.specs.Telling.{obstacle_by, obstacles_by, obstacles_in, Tellable, WhyTold}

-- a cell's obstacle by its class
by_class : (isEnd : Bool) (kind below : ℕ) → obstacle_by isEnd kind (class_for isEnd kind below) ≡ obstacle_for isEnd kind below
unfolding obstacle_by obstacle_for class_for
by_class isEnd kind below =
    ask (routeable_kind isEnd kind)
    (λ t. ask (eqb (bearing below) 0) (λ z. rw (t, z)) (λ n. rw (t, n)))
    (λ f. rw f)

-- ---- the loop that turns them, in place

module _ (f : ℕ → ℕ → ℕ) (before : List ℕ) where
  -- the first k are turned, the others are as they were
  pub record Turning (l : List ℕ) (k : ℕ) : Type 0 where
    pub long : length l ≡ length before
    pub within : k ≤ length before
    pub front : (i : ℕ) → i < k → get_or l i 0 ≡ f i (get_or before i 0)
    pub behind : (i : ℕ) → k ≤ i → get_or l i 0 ≡ get_or before i 0

  pub turning_none : Turning before 0
  turning_none = record { long = refl; within = omega arith; front = λ i h. absurd (omega arith); behind = λ i h. refl }

  pub turning_next : {l : List ℕ} {k : ℕ} → Turning l k → k < length before → (x : ℕ) → x ≡ f k (get_or l k 0) → Turning (set l k x) (k + 1)
  turning_next {l} {k} T h x e = record {
    long = length-set l k x ∙ T.long;
    within = omega arith;
    front = front-written (λ i. f i (get_or before i 0)) l (omega (arith, T.long)) (e ∙ ap (f k) (T.behind k (omega arith))) T.front;
    behind = λ i q. get_or-set_other l k i x 0 (λ d. omega (arith, d)) ∙ T.behind i (omega arith);
  }

  pub turning_all : {l : List ℕ} {k n : ℕ} → Turning l k → n ≡ length before → n ≤ k → l ≡ tabled n (λ v. f v (get_or before v 0))
  turning_all {l} {k} {n} T e h = is-tabled n (λ v. f v (get_or before v 0)) l (T.long ∙ sym e) (λ i q. T.front i (omega arith))

-- ---- the classes with both ends made

module _ (R : Room) (kinds : List ℕ) (start goal : ℕ) {classes : List ℕ} (P : Plain R kinds classes) (s : start < volume R) (g : goal < volume R) where
  abbrev with_ends : List ℕ
  with_ends = with_end R kinds goal (with_end R kinds start classes)

  class_is : (v : ℕ) → v < volume R → get_or with_ends v 0 ≡ class_at (an_end start goal v) R kinds v
  class_is v h =
      ask_same v goal
      (λ e. rw e (get_or-set_same (with_end R kinds start classes) goal (class_at true R kinds goal) 0 (rw length-set (omega (arith, P.long))) ∙ rw (goal-is-end start goal)))
      (λ n. get_or-set_other (with_end R kinds start classes) goal v _ 0 n
      ∙ ask_same v start
      (λ e. rw e (get_or-set_same classes start (class_at true R kinds start) 0 (omega (arith, P.long)) ∙ rw (start-is-end start goal)))
      (λ k. get_or-set_other classes start v _ 0 k ∙ P.each v h ∙ rw (ne_eqb v start k, ne_eqb v goal n)))

  pub obstacles_turned : length kinds ≡ volume R → obstacles_by kinds start goal with_ends ≡ obstacles_in R kinds start goal
  obstacles_turned k =
      rw k
      (tabled-same (volume R) _ _
      (λ v h. ap (obstacle_by (an_end start goal v) (get_or kinds v air)) (class_is v h) ∙ by_class (an_end start goal v) (get_or kinds v air) (kind_at kinds (beneath R v))))

-- ---- what is told over them

module _ {R : Room} {kinds : List ℕ} {start goal : ℕ} {path classes reached walls : List ℕ} (P : Tellable R kinds start goal path classes reached walls) {v : ℕ} (e : v ≡ volume R) where
  pub path-long : length (take v path) ≡ volume R
  path-long = rw e (length-take-le (volume R) path P.path-enough)

  pub classes-long : length (take v classes) ≡ volume R
  classes-long = rw e (length-take-le (volume R) classes P.classes-enough)

  module _ {bytes : List ℕ} (O : bytes ≡ obstacles_in R kinds start goal) (b : length bytes ≡ length (take v classes)) where
    -- the bytes that are lent on
    pub lent_again : take v (bytes ++ drop v classes) ≡ bytes
    lent_again = again bytes classes v b (rw e P.classes-enough)

    pub lent-long : length (take v (bytes ++ drop v classes)) ≡ volume R
    lent-long = ap length lent_again ∙ b ∙ classes-long

    byte-is : (x : ℕ) → x < volume R → byte_of (take v (bytes ++ drop v classes)) x ≡ obstacle_in R kinds start goal x
    byte-is x h = rw (lent_again, O) (tabled-at (volume R) (obstacle_in R kinds start goal) x h)

    pub why-told : (line : List ℕ) → length line ≡ length (take v path) → {reached' walls' path' classes' : List ℕ}
        → WallsTold R (byte_of (take v (bytes ++ drop v classes))) start reached walls reached' walls'
        → path' ≡ replicate (length (line ++ drop v path)) 0 → classes' ≡ replicate (length (bytes ++ drop v classes)) 0
        → WhyTold R kinds start goal path classes reached walls path' classes' reached' walls'
    why-told line l {reached'} {walls'} {path'} {classes'} W p c = record {
      path-kept = cleared-whole line path v l path' p ∙ sym P.path_zero;
      classes-kept = cleared-whole bytes classes v b classes' c ∙ sym P.classes_zero;
      reached-is = rw (← marks-same R (byte_of (take v (bytes ++ drop v classes))) (obstacle_in R kinds start goal) byte-is start) W.reached-is;
      walls-is = rw (← walls-same R (byte_of (take v (bytes ++ drop v classes))) (obstacle_in R kinds start goal) byte-is start) W.walls-is;
    }
