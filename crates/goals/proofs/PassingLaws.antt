-- Laws of passing: a goal whose route can't come before what is kept is passed without a search, and once every goal is passed what is kept is the first
-- strictly cheapest route, in whatever order they were passed.
use Rattle.std.specs.Prelude.{◌≡◌, ◌≢◌, true, false, List, ◌++◌, ℕ, ◌+◌, ◌-◌, ◌*◌, ◌≤◌, ◌<◌, eqb, ltb, length, get_or, take, drop, Option, Some, None, Result, Ok, Err}
use Rattle.std.proofs.Math.Path.{refl}
use Rattle.std.proofs.Common.{sym, ap, ◌∙◌, length-append, take_at, length-take-le, eqb-true, ltb-true, ltb-false}
use native.Mathlib.Omega.{arith}
use Rattle.std.proofs.lemmas.Bool.{eqb-false}
use borrow.Author.Tests.{eq-eqb, ne_eqb}
use Rattle.basics.specs.Tests.{ask, ask_same, ask_less, never}
use Rattle.room.specs.declared.Room.{Room}
use Rattle.room.specs.declared.RouterConfig.{RouterConfig}
use Rattle.room.specs.declared.Pos.{Pos}
use Rattle.room.specs.Room.{Good, max_volume, volume, pos_of}
use Rattle.room.specs.RoomLaws.{small_pos}
use Rattle.room.specs.Units.{GoodRanges}
use Rattle.ground.specs.declared.Ground.{Ground}
use Rattle.routing_resources.specs.Marks.{is_marked}
use Rattle.goals.specs.declared.Found.{Found}
use Rattle.goals.specs.declared.QueueFull.{QueueFull}
use Rattle.goals.specs.declared.Kept.{Kept}
use Rattle.goals.specs.declared.Bid.{Bid}
use Rattle.goals.specs.Goals.{Site, Trial, found, failed, full, max_attempts, attempts, tried_goal, best_below, route_to_tree}
use Rattle.goals.specs.Trials.{Tells, site_of}
use Rattle.goals.specs.NeverFull.{NeverFull}
use Rattle.goals.proofs.RouteLaws.{same-path, below-failed, KeptBelow, below-kept}
use Rattle.goals.proofs.LeastLaws.{bid_few, tried-least}
use Rattle.goals.proofs.FullLaws.{best_not_full}
use Rattle.goals.proofs.GoalLaws.{SameMemory, memory-first, memory-site, memory-next}
use Rattle.goals.specs.Passing.{least_at, least_cost, precedes, route_of, bid_of, no_bid, bid_to_beat, SmallKept, HoldsRoute, Holds, NotBefore, Yields, Passes, PassesOn, KeepsFirst, Passable, NextMarked, LowestBid, LowerBid, NextBid}

-- ---- the order

-- what does not precede comes at the same place or later
pub not_before : (K : Option Kept) (cost goal : ℕ) → precedes cost goal K ≡ false → NotBefore K cost goal
not_before (Some k) cost goal e =
    ask (eqb cost k.found.cost.0)
    (λ t. let f = ltb-false goal k.goal (rw t at e) in let s = eqb-true cost k.found.cost.0 t in (omega arith, λ h. omega arith))
    (λ t. let f = ltb-false cost k.found.cost.0 (rw t at e) in let d = eqb-false cost k.found.cost.0 t in (omega (arith, d), λ h. omega (arith, d)))
not_before None cost goal e = never (cc)

-- so does what is dearer
dearer-after : (K : Option Kept) (cost cost' goal : ℕ) → cost ≤ cost' → NotBefore K cost goal → NotBefore K cost' goal
dearer-after (Some k) cost cost' goal h N = (omega (arith, N.0), λ l. omega (arith, N.1 l))
dearer-after None cost cost' goal h N = N

-- what comes after what is kept comes after a route that precedes that
after_first : (K : Option Kept) (cost goal cost' other : ℕ) → precedes cost goal K ≡ true → NotBefore K cost' other
    → (cost ≤ cost') × (other < goal → cost < cost')
after_first (Some k) cost goal cost' other e N =
    ask (eqb cost k.found.cost.0)
    (λ t. let l = ltb-true goal k.goal (rw t at e) in let s = eqb-true cost k.found.cost.0 t in (omega (arith, N.0), λ h. omega (arith, N.1 (omega arith))))
    (λ t. let l = ltb-true cost k.found.cost.0 (rw t at e) in (omega (arith, N.0), λ h. omega (arith, N.0)))
after_first None cost goal cost' other e N = absurd N

-- ---- a goal passed

module _ (S : Site) (start : ℕ) (blocked : List ℕ) where
  -- a goal without a route
  failed-yields : (goal : ℕ) (K : Option Kept) → tried_goal S start blocked goal ≡ failed → Yields S start blocked goal K
  failed-yields goal K e = record { yields = λ path cost r. never (cc (sym e ∙ r)) }

  pub kept_small : Good S.room → {K : Option Kept} {best : List ℕ} → Holds S start blocked best K → SmallKept K
  kept_small G {K = Some k} H = omega (arith, H.holds.0, G.few)
  kept_small G {K = None} H = tt

  module _ (K : Option Kept) (goal : ℕ) {best : List ℕ} (H : Holds S start blocked best K) where
    pub stays-kept : Yields S start blocked goal K → Passes S start blocked goal K K best
    stays-kept Y = record { held = H; yields = Y; still = λ other y. y }

  -- a goal whose bid does not beat what is kept
  module _ (R-good : Good S.room) (C-good : GoodRanges S.config) (start_in : start < volume S.room) where
    abbrev its : ℕ → ℕ
    its goal = bid_of S.config S.room (pos_of S.room start) goal

    its-few : (goal : ℕ) → goal < volume S.room → its goal < no_bid
    its-few = bid_few C-good R-good (pos_of S.room start) (small_pos S.room R-good start start_in (pos_of S.room start) refl)

    not_lower : (K : Option Kept) (best : List ℕ) → HoldsRoute S start blocked best K → (goal : ℕ) → goal < volume S.room → bid_to_beat K ≤ its goal
        → NotBefore K (least_cost S.room S.config start goal) goal
    unfolding bid_of least_cost
    not_lower (Some kept) best H goal h e =
        let k : kept.goal < max_volume = omega (arith, H.0, R-good.few) in
        let g : goal < max_volume = omega (arith, h, R-good.few) in (by-cost e k g, λ l. by_number e k g l)
      where
        by-cost : {a b x y : ℕ} → a * max_volume + x ≤ b * max_volume + y → x < max_volume → y < max_volume → a ≤ b
        by-cost e h k = omega arith

        by_number : {a b x y : ℕ} → a * max_volume + x ≤ b * max_volume + y → x < max_volume → y < max_volume → y < x → a < b
        by_number e h k l = omega arith
    not_lower None best H goal h e = absurd (omega (arith, its-few goal h))

    pub beaten-yields : (K : Option Kept) (best : List ℕ) → Holds S start blocked best K → (goal : ℕ) → goal < volume S.room → bid_to_beat K ≤ its goal
        → Yields S start blocked goal K
    beaten-yields K best H goal h e = record {
      yields = λ path cost r.
          dearer-after K _ cost goal (tried-least S start goal blocked start_in h path cost r)
          (not_lower K best H.holds goal h e);
    }

  -- a cell that is not joinable
  pub unmarked-yields : (goal : ℕ) (K : Option Kept) → is_marked S.joinable goal ≡ false → Yields S start blocked goal K
  unfolding tried_goal
  unmarked-yields goal K f = failed-yields goal K (rw f)

-- ---- what is kept of a goal that was tried

module _ (K : Option Kept) (goal : ℕ) {path best : List ℕ} where
  pub first-failed : KeepsFirst K goal (Ok None) path best K best
  first-failed = record { keeps = λ S start blocked h H t full-not. stays-kept S start blocked K goal H (failed-yields S start blocked goal K (sym t.is)) }

  module _ (new : Found) where
    pub first-old : precedes new.cost.0 goal K ≡ false → KeepsFirst K goal (Ok (Some new)) path best K best
    first-old e = record {
      keeps = λ S start blocked h H t full-not. stays-kept S start blocked K goal H (record {
        yields = λ path' cost' r.
            let same : new.cost.0 ≡ cost' = (same-path _ _ _ _ (t.is ∙ r)).1 in
            dearer-after K new.cost.0 cost' goal (omega arith) (not_before K new.cost.0 goal e);
      });
    }

    pub first-new : precedes new.cost.0 goal K ≡ true → new.length ≤ length path → {best' : List ℕ} → best' ≡ take new.length path ++ drop new.length best
        → {K' : Option Kept} → K' ≡ Some (record { found = new; goal = goal }) → KeepsFirst K goal (Ok (Some new)) path best K' best'
    first-new e fits {best'} b k = rw k (record {
      keeps = λ S start blocked h H t full-not. record {
        held = record { holds = (h, sym t.is ∙ rw front, long-enough) };
        yields = record {
          yields = λ path' cost' r. let same : new.cost.0 ≡ cost' = (same-path _ _ _ _ (t.is ∙ r)).1 in (omega arith, λ l. omega arith);
        };
        still = λ other Y. record { yields = λ path' cost' r. after_first K new.cost.0 goal cost' other e (Y.yields path' cost' r) };
      };
    })
      where
        front : take new.length best' ≡ take new.length path
        front = rw b (take_at (take new.length path) (drop new.length best) new.length (length-take-le new.length path fits))

        long-enough : new.length ≤ length best'
        long-enough = rw (b, length-append (take new.length path) (drop new.length best), length-take-le new.length path fits) (omega arith)

-- ---- one goal

module _ {S : Site} {start : ℕ} {blocked best : List ℕ} {goal : ℕ} {K : Option Kept} (P : Passable S start blocked best goal K) where
  pub tried-passes : {tried : Option Found} {path : List ℕ} → Tells (attempts max_attempts S start goal blocked) (Ok tried) path
      → {K' : Option Kept} {best' : List ℕ} → KeepsFirst K goal (Ok tried) path best K' best' → PassesOn S start blocked goal K (Ok K') best'
  unfolding tried_goal
  tried-passes t {K'} keep = record {
    kept = K';
    is = refl;
    passes = keep.keeps S start blocked P.goal_in P.held (rw P.marked t) (P.never-full.never goal P.goal_in);
  }

  -- no queue is full
  pub tried-never : {x : QueueFull} {path : List ℕ} → Tells (attempts max_attempts S start goal blocked) (Err x) path → ⊥
  unfolding tried_goal
  tried-never {x} t = P.never-full.never goal P.goal_in x.0.0 (rw P.marked (sym t.is))

module _ {S : Site} {start : ℕ} {blocked : List ℕ} {goal : ℕ} {K : Option Kept} {r : Result (Option Kept) QueueFull} {best' : List ℕ} (P : PassesOn S start blocked goal K r best') where
  pub passes-on : {K' : Option Kept} → r ≡ Ok K' → Passes S start blocked goal K K' best'
  passes-on {K'} e = let same : P.kept ≡ K' = cc (sym P.is ∙ e) in rw same at P.passes

  pub passes-never : {x : QueueFull} → r ≡ Err x → ⊥
  passes-never {x} e = never (cc (sym P.is ∙ e))

-- ---- every goal passed

module _ (S : Site) (start : ℕ) (blocked best : List ℕ) (F : NeverFull S start blocked) where
  all-passed : (K : Option Kept) → HoldsRoute S start blocked best K
      → ((other : ℕ) → other < volume S.room → (path : List ℕ) (cost : ℕ) → tried_goal S start blocked other ≡ found path cost → NotBefore K cost other)
      → (best_of : Trial) → best_below (volume S.room) S start blocked ≡ best_of → Tells best_of (Ok (route_of K)) best
  all-passed K H N (full x) e = absurd (best_not_full S start blocked F (volume S.room) (omega arith) x e)
  all-passed None H N failed e = record { is = refl; fits = omega arith }
  all-passed None H N (found p c) e =
      let B = below-kept S start blocked (volume S.room) p c e in absurd (N B.goal B.goal-below p c B.its-route)
  all-passed (Some k) H N failed e = never (cc (sym H.1 ∙ below-failed S start blocked (volume S.room) e k.goal H.0))
  all-passed (Some k) H N (found p c) e = go (below-kept S start blocked (volume S.room) p c e)
    where
      go : KeptBelow S start blocked (volume S.room) p c → Tells (found p c) (Ok (Some k.found)) best
      go B =
          let ours = N B.goal B.goal-below p c B.its-route in
          let theirs = B.least k.goal H.0 (take k.found.length best) k.found.cost.0 H.1 in
          ask_same B.goal k.goal
          (λ q. record { is = sym H.1 ∙ rw q at B.its-route; fits = H.2 })
          (λ d. ask (ltb k.goal B.goal)
          (λ l. absurd (omega (arith, ours.0, B.first k.goal (ltb-true k.goal B.goal l) (take k.found.length best) k.found.cost.0 H.1)))
          (λ l. absurd (omega (arith, theirs, ours.1 (omega (arith, d, ltb-false k.goal B.goal l))))))

  pub kept-is : (K : Option Kept) → Holds S start blocked best K → ((other : ℕ) → other < volume S.room → Yields S start blocked other K)
      → Tells (route_to_tree S start blocked) (Ok (route_of K)) best
  unfolding route_to_tree
  kept-is K H Y = all-passed K H.holds (λ other h. (Y other h).yields) _ refl

-- ---- the next marked cell

-- all from here on and before this cell are unmarked
pub record Unmarked (marks : List ℕ) (from cell : ℕ) : Type 0 where
  pub unmarked : (other : ℕ) → from ≤ other → other < cell → is_marked marks other ≡ false

pub unmarked-first : (marks : List ℕ) (from cell : ℕ) → cell ≤ from → Unmarked marks from cell
unmarked-first marks from cell h = record { unmarked = λ other l m. absurd (omega arith) }

module _ {marks : List ℕ} {from cell : ℕ} (U : Unmarked marks from cell) where
  pub unmarked-next : get_or marks cell 0 ≢ 1 → Unmarked marks from (cell + 1)
  unmarked-next d = record {
    unmarked = λ other l m. ask_same other cell (λ s. rw s (ne_eqb _ _ d)) (λ n. U.unmarked other l (omega (arith, n, m)));
  }

  pub marked-here : from ≤ cell → cell < length marks → get_or marks cell 0 ≡ 1 → NextMarked marks from (Some cell)
  marked-here h k m = record {
    marked = λ c q. let s : cell ≡ c = cc in let here : (from ≤ cell) × (cell < length marks) × (is_marked marks cell ≡ true) = (h, k, eq-eqb _ _ m) in rw s at here;
    first = λ c q. let s : cell ≡ c = cc in rw s at U.unmarked;
    none = λ q. never (cc);
  }

  pub none-marked : length marks ≤ cell → NextMarked marks from None
  none-marked h = record {
    marked = λ c q. never (cc);
    first = λ c q. never (cc);
    none = λ q other l m. U.unmarked other l (omega (arith, m, h));
  }

-- ---- whose bid is next

-- no two goals bid the same
bids_differ : (C : RouterConfig) (R : Room) (from : Pos) → Good R → (a b : ℕ) → a < volume R → b < volume R → a ≢ b → bid_of C R from a ≢ bid_of C R from b
unfolding bid_of
bids_differ C R from G a b h k d e =
    go (least_at C from (pos_of R a)) (least_at C from (pos_of R b)) a b e (omega (arith, h, G.few)) (omega (arith, k, G.few)) d
  where
    go : (m n x y : ℕ) → m * max_volume + x ≡ n * max_volume + y → x < max_volume → y < max_volume → x ≢ y → ⊥
    go m n x y e h k d = omega (arith, d)

module _ {C : RouterConfig} {R : Room} {joinable : List ℕ} {from : Pos} {low end n : ℕ} where
  pub next-some : {t : Bid} → LowestBid C R joinable from low end n t → NextBid C R joinable from low end n (Some t)
  next-some {t} L = record { lowest = λ b q. let s : t ≡ b = cc in rw s at L; ended = λ q. never (cc) }

  -- cells that are not joinable do not bid
  pub next-skip : {t : Option Bid} → NextBid C R joinable from low end n t → (m : ℕ) → n ≤ m
      → ((other : ℕ) → n ≤ other → other < m → is_marked joinable other ≡ false) → NextBid C R joinable from low end m t
  next-skip {t} N m h none = record {
    lowest = λ b q. let S = N.lowest b q in record {
      least = λ other i k l. S.least other (lower other i k) k l;
      others = λ other i k l o. S.others other (lower other i k) k l o;
      its_bid = S.its_bid;
      below = (omega (arith, S.below.0, h), S.below.1);
      within = S.within;
    };
    ended = λ q other i k l. N.ended q other (lower other i k) k l;
  }
    where
      lower : (other : ℕ) → other < m → is_marked joinable other ≡ true → other < n
      lower other i k = ask_less other n (λ l. l) (λ o. let f = none other o i in never (cc))

-- one goal more
module _ (C : RouterConfig) (R : Room) (from : Pos) (low end : ℕ) {n : ℕ} {bid : ℕ} (e : bid ≡ bid_of C R from n) where
  -- it is neither the lowest nor the second
  pub lower-out : {t : Option Bid} → (low ≤ bid → end ≤ bid) → LowerBid C R from low end n t t
  lower-out f = record {
    lowers = λ joinable marked N. record {
      lowest = λ b q. let S = N.lowest b q in record {
        least = λ other h m l. ask_same other n (λ s. rw s (omega (arith, e, S.below.1, S.within, f (omega (arith, e, ap (bid_of C R from) s, l))))) (λ d. S.least other (omega (arith, d, h)) m l);
        others = λ other h m l o. ask_same other n (λ s. rw s (omega (arith, e, S.within, f (omega (arith, e, ap (bid_of C R from) s, l))))) (λ d. S.others other (omega (arith, d, h)) m l o);
        its_bid = S.its_bid;
        below = (omega (arith, S.below.0), S.below.1);
        within = S.within;
      };
      ended = λ q other h m l. ask_same other n (λ s. rw s (omega (arith, e, f (omega (arith, e, ap (bid_of C R from) s, l))))) (λ d. N.ended q other (omega (arith, d, h)) m l);
    };
  }

  module _ (low-enough : low ≤ bid) where
    -- it is the first
    pub lower-none : bid < end → LowerBid C R from low end n None (Some (record { bid = bid; goal = n; second = end }))
    lower-none k = record {
      lowers = λ joinable marked N. next-some (record {
        least = λ other h m l. ask_same other n (λ s. rw s (omega (arith, e))) (λ d. omega (arith, k, N.ended refl other (omega (arith, d, h)) m l));
        others = λ other h m l o. N.ended refl other (omega (arith, o, h)) m l;
        its_bid = (e, marked, low-enough);
        below = (omega arith, k);
        within = omega arith;
      });
    }

    module _ (t : Bid) where
      -- it is the lowest
      pub lower-first : bid < t.bid → LowerBid C R from low end n (Some t) (Some (record { bid = bid; goal = n; second = t.bid }))
      lower-first k = record {
        lowers = λ joinable marked N. let S = N.lowest t refl in next-some (record {
          least = λ other h m l. ask_same other n (λ s. rw s (omega (arith, e))) (λ d. omega (arith, k, S.least other (omega (arith, d, h)) m l));
          others = λ other h m l o. S.least other (omega (arith, o, h)) m l;
          its_bid = (e, marked, low-enough);
          below = (omega arith, k);
          within = omega (arith, S.below.1, S.within);
        });
      }

      -- it is neither
      pub lower_third : t.bid ≤ bid → t.second ≤ bid → LowerBid C R from low end n (Some t) (Some t)
      lower_third h k = record {
        lowers = λ joinable marked N. let S = N.lowest t refl in next-some (record {
          least = λ other i m l. ask_same other n (λ s. rw s (omega (arith, e, h))) (λ d. S.least other (omega (arith, d, i)) m l);
          others = λ other i m l o. ask_same other n (λ s. rw s (omega (arith, e, k))) (λ d. S.others other (omega (arith, d, i)) m l o);
          its_bid = S.its_bid;
          below = (omega (arith, S.below.0), S.below.1);
          within = S.within;
        });
      }

      -- it is the second
      pub lower-second : Good R → n < volume R → t.bid ≤ bid → bid < t.second → LowerBid C R from low end n (Some t) (Some (record { bid = t.bid; goal = t.goal; second = bid }))
      lower-second G n-in h k = record {
        lowers = λ joinable marked N. let S = N.lowest t refl in next-some (record {
          least = λ other i m l. ask_same other n (λ s. rw s (omega (arith, e, h))) (λ d. S.least other (omega (arith, d, i)) m l);
          others = λ other i m l o. ask_same other n (λ s. rw s (omega (arith, e))) (λ d. omega (arith, k, S.others other (omega (arith, d, i)) m l o));
          its_bid = S.its_bid;
          below = (omega (arith, S.below.0), rises (bids_differ C R from G t.goal n (omega (arith, S.below.0, n-in)) n-in (λ s. omega (arith, s, S.below.0))) S.its_bid.0);
          within = omega (arith, k, S.within);
        });
      }
        where
          rises : bid_of C R from t.goal ≢ bid_of C R from n → t.bid ≡ bid_of C R from t.goal → t.bid < bid
          rises d s = let other : t.bid ≢ bid = λ q. d (sym s ∙ q ∙ e) in omega (arith, h, other)

module _ (C : RouterConfig) (R : Room) (joinable : List ℕ) (from : Pos) (low end : ℕ) where
  pub next-none : NextBid C R joinable from low end 0 None
  next-none = record { lowest = λ b q. never (cc); ended = λ q other l. absurd (omega arith) }

  -- where no bid from `low` on is before `end`, none is looked for
  pub next-over : end ≤ low → (n : ℕ) → NextBid C R joinable from low end n None
  next-over h n = record { lowest = λ b q. never (cc); ended = λ q other o m l. omega (arith, l) }

-- ---- the loop over all goals

-- the goal that is next, and what all others of no lower bids bid at least
pub record NextOf (S : Site) (start : ℕ) (t : Bid) : Type 0 where
  pub inside : t.goal < volume S.room
  pub its_bid : (t.bid ≡ bid_of S.config S.room (pos_of S.room start) t.goal) × (is_marked S.joinable t.goal ≡ true)
  pub rises : t.bid < t.second
  pub others : (other : ℕ) → other < volume S.room → is_marked S.joinable other ≡ true → other ≢ t.goal
      → t.bid ≤ bid_of S.config S.room (pos_of S.room start) other → t.second ≤ bid_of S.config S.room (pos_of S.room start) other

-- the bid that is next; where none is, all that there are, are lower
abbrev pub bid_from : Option Bid → ℕ
bid_from (Some t) = t.bid
bid_from None = no_bid

-- those of lower bids than the next one are passed
pub record GoalsPassed (S : Site) (start : ℕ) (t : Option Bid) (K : Option Kept) (joinable₀ joinable blocked₀ blocked classes₀ classes known₀ known previous₀ previous path₀ path best₀ best queue₀ queue : List ℕ) : Type 0 where
  pub held : Holds S start blocked₀ best K
  pub lower : (other : ℕ) → other < volume S.room → is_marked S.joinable other ≡ true → bid_of S.config S.room (pos_of S.room start) other < bid_from t
      → Yields S start blocked₀ other K
  pub lowest : (b : Bid) → t ≡ Some b → NextOf S start b
  pub same : SameMemory joinable₀ joinable blocked₀ blocked classes₀ classes known₀ known previous₀ previous path₀ path best₀ best queue₀ queue

module _ (ground : Ground) (kinds : List ℕ) (start : ℕ) (R-good : Good ground.room) (C-good : GoodRanges ground.config) (start_in : start < volume ground.room) where
  abbrev R : Room
  R = ground.room

  abbrev C : RouterConfig
  C = ground.config

  few : (goal : ℕ) → goal < volume R → bid_of C R (pos_of R start) goal < no_bid
  few = bid_few C-good R-good (pos_of R start) (small_pos R R-good start start_in (pos_of R start) refl)

  next_of : {joinable : List ℕ} (queue : List ℕ) {low end : ℕ} {t : Bid} → LowestBid C R joinable (pos_of R start) low end (volume R) t
      → NextOf (site_of ground kinds joinable queue) start t
  next_of queue L = record {
    inside = L.below.0;
    its_bid = (L.its_bid.0, L.its_bid.1);
    rises = L.below.1;
    others = λ other i m d l. L.others other i m (omega (arith, l, L.its_bid.2)) d;
  }

  -- what a viewpoint's bids say is said of the turn's
  pub view-next : {room : Room} {config : RouterConfig} {from : Pos} → (room ≡ R) × (config ≡ C) × (from ≡ pos_of R start)
      → {joinable : List ℕ} {low end : ℕ} {t : Option Bid} → NextBid config room joinable from low end (volume room) t
      → NextBid C R joinable (pos_of R start) low end (volume R) t
  view-next v N = rw (v.0, v.1, v.2) at N

  pub passed_first : {t : Option Bid} (joinable blocked classes known previous path best queue : List ℕ) → NextBid C R joinable (pos_of R start) 0 no_bid (volume R) t
      → GoalsPassed (site_of ground kinds joinable queue) start t None joinable joinable blocked blocked classes classes known known previous previous path path best best queue queue
  passed_first {t} joinable blocked classes known previous path best queue N = record {
    held = record { holds = tt };
    lower = λ other h m l. never-lower t N other h m l;
    lowest = λ b q. next_of queue (N.lowest b q);
    same = memory-first joinable blocked classes known previous path best queue;
  }
    where
      never-lower : (u : Option Bid) → NextBid C R joinable (pos_of R start) 0 no_bid (volume R) u → (other : ℕ) → other < volume R → is_marked joinable other ≡ true
          → bid_of C R (pos_of R start) other < bid_from u → Yields (site_of ground kinds joinable queue) start blocked other None
      never-lower (Some b) M other h m l = absurd (omega (arith, l, (M.lowest b refl).least other h m (omega arith)))
      never-lower None M other h m l = absurd (omega (arith, l, M.ended refl other h m (omega arith)))

  module _ {t : Option Bid} {K : Option Kept}
      {joinable₀ joinable blocked₀ blocked classes₀ classes known₀ known previous₀ previous path₀ path best₀ best queue₀ queue : List ℕ}
      (G : GoalsPassed (site_of ground kinds joinable₀ queue₀) start t K joinable₀ joinable blocked₀ blocked classes₀ classes known₀ known previous₀ previous path₀ path best₀ best queue₀ queue) where
    module _ {b : Bid} (q : t ≡ Some b) where
      pub passed-able : length best₀ ≡ volume R → NeverFull (site_of ground kinds joinable₀ queue₀) start blocked₀
          → Passable (site_of ground kinds joinable queue) start blocked best b.goal K
      passed-able long F = rw (memory-site ground kinds G.same, G.same.blocked-is) (record {
        goal_in = (G.lowest b q).inside;
        marked = (G.lowest b q).its_bid.1;
        best-long = G.same.best-long ∙ long;
        never-full = F;
        held = G.held;
      })

      -- the next bid is higher, and it stays below the one above all bids
      pub bid_rises : {joinable' : List ℕ} {end : ℕ} {t' : Option Bid} → NextBid C R joinable' (pos_of R start) b.second end (volume R) t' → no_bid - bid_from t' < no_bid - bid_from t
      bid_rises {joinable'} {end} {t'} N = rw q (go t' N)
        where
          small : b.bid < no_bid
          small = omega (arith, (G.lowest b q).its_bid.0, few b.goal (G.lowest b q).inside)

          go : (u : Option Bid) → NextBid C R joinable' (pos_of R start) b.second end (volume R) u → no_bid - bid_from u < no_bid - b.bid
          go (Some b') M = omega (arith, small, (G.lowest b q).rises, (M.lowest b' refl).its_bid.2)
          go None M = omega (arith, small)

      pub passed-next : {K' : Option Kept} {joinable' blocked' classes' known' previous' path' best' queue' : List ℕ}
          → Passes (site_of ground kinds joinable queue) start blocked b.goal K K' best'
          → (joinable' ≡ joinable) × (blocked' ≡ blocked) × (classes' ≡ classes)
          → length known' ≡ length known → length previous' ≡ length previous → length path' ≡ length path → length best' ≡ length best → length queue' ≡ length queue
          → {t' : Option Bid} → NextBid C R joinable' (pos_of R start) b.second (bid_to_beat K') (volume R) t'
          → GoalsPassed (site_of ground kinds joinable₀ queue₀) start t' K' joinable₀ joinable' blocked₀ blocked' classes₀ classes' known₀ known' previous₀ previous' path₀ path' best₀ best' queue₀ queue'
      passed-next {K'} {joinable'} {best' = best'} passes kept k p r b' u {t'} N₀ = record {
        held = now-passes.held;
        lower = λ other i m l. ask_less (bid_of C R (pos_of R start) other) b.bid
            (λ before. now-passes.still other (G.lower other i m (rw q before)))
            (λ from-here. ask_same other b.goal (λ s. rw s now-passes.yields) (λ d. later t' N other i m l ((G.lowest b q).others other i m d from-here)));
        lowest = λ c s. next_of queue₀ (N.lowest c s);
        same = memory-next G.same kept k p r b' u;
      }
        where
          now-passes : Passes (site_of ground kinds joinable₀ queue₀) start blocked₀ b.goal K K' best'
          now-passes = rw (memory-site ground kinds G.same, G.same.blocked-is) at passes

          N : NextBid C R joinable₀ (pos_of R start) b.second (bid_to_beat K') (volume R) t'
          N = rw (kept.0 ∙ G.same.joinable-is) at N₀

          -- what bids the second lowest or higher, and yet lower than the next, can't win
          later : (u : Option Bid) → NextBid C R joinable₀ (pos_of R start) b.second (bid_to_beat K') (volume R) u
              → (other : ℕ) → other < volume R → is_marked joinable₀ other ≡ true → bid_of C R (pos_of R start) other < bid_from u → b.second ≤ bid_of C R (pos_of R start) other
              → Yields (site_of ground kinds joinable₀ queue₀) start blocked₀ other K'
          later (Some c) M other i m l s = absurd (omega (arith, l, (M.lowest c refl).least other i m s))
          later None M other i m l s =
              beaten-yields (site_of ground kinds joinable₀ queue₀) start blocked₀ R-good C-good start_in K' best' now-passes.held other i (M.ended refl other i m s)

    pub passed-all : t ≡ None → NeverFull (site_of ground kinds joinable₀ queue₀) start blocked₀
        → Tells (route_to_tree (site_of ground kinds joinable₀ queue₀) start blocked₀) (Ok (route_of K)) best
    passed-all q F =
        kept-is (site_of ground kinds joinable₀ queue₀) start blocked₀ best F K G.held
        (λ other i. ask (is_marked joinable₀ other)
        (λ m. G.lower other i m (rw q (few other i)))
        (λ n. unmarked-yields (site_of ground kinds joinable₀ queue₀) start blocked₀ other K n))
