-- Laws of goals: how the class bytes get a goal and lose it again, which of two trials is kept, and that a full queue ends it all.
use Rattle.std.specs.Prelude.{◌≡◌, refl, ◌≢◌, true, false, List, [], ◌++◌, ℕ, zero, suc, ◌+◌, ◌≤◌, ◌<◌, length, get_or, drop, Option, Some, None, Ok, Err}
use Rattle.std.proofs.Common.{◌∙◌, add-one, length-append, take_at, length-take-le}
use native.Mathlib.Omega.{arith}
use Rattle.std.proofs.Math.ListN.{take}
use borrow.Author.Tests.{eq-eqb, ne_eqb}
use Rattle.basics.specs.Tests.{ask_same, never}
use Rattle.room.specs.Room.{volume}
use Rattle.ground.specs.declared.Ground.{Ground}
use Rattle.blocked_world.specs.BlockedWorld.{Says, refreshed}
use Rattle.blocked_world.specs.SeenLaws.{says-one}
use Rattle.blocked_world.specs.RefreshLaws.{same_back, goal-left, refreshed-says}
use Rattle.goals.specs.declared.Found.{Found}
use Rattle.goals.specs.declared.QueueFull.{QueueFull}
use Rattle.goals.specs.Goals.{Site, Trial, full, max_attempts, attempts, beats, cheaper_route, tried_goal, best_below, route_to_tree}
use Rattle.goals.specs.Trials.{Tried, told, Tells, site_of, Attemptable, KeepsCheaper}
use Rattle.goals.proofs.AttemptLaws.{site-same, able-kept}
use Rattle.goals.specs.SearchForLaws.{tells-failed}

-- ---- a goal's class bytes

module _ {S : Site} {blocked classes known previous path : List ℕ} {start : ℕ} (A : Attemptable S blocked classes known previous path start start) (goal : ℕ) (h : goal < volume S.room) where
  -- the goal becomes an end
  pub able-towards : {classes' : List ℕ} → classes' ≡ refreshed S.mode S.room S.kinds blocked start goal goal classes
      → Attemptable S blocked classes' known previous path start goal
  able-towards e = record {
    grounds = A.grounds;
    memory = A.memory;
    goal_in = h;
    says = rw e
        (refreshed-says S.mode S.room A.grounds.good goal S.kinds blocked start start blocked start goal (same_back (goal-left S.kinds blocked start goal))
        A.grounds.kinds-long classes A.says h);
  }

  -- and is none any more
  pub classes-left : {classes' : List ℕ} → Says S.mode S.room S.kinds blocked start goal classes' → refreshed S.mode S.room S.kinds blocked start start goal classes' ≡ classes
  classes-left {classes'} says =
      says-one S.mode S.room S.kinds blocked start start _ classes
      (refreshed-says S.mode S.room A.grounds.good goal S.kinds blocked start goal blocked start start (goal-left S.kinds blocked start goal) A.grounds.kinds-long classes' says h)
      A.says

-- ---- the cheaper one

module _ {path best : List ℕ} where
  -- the later goal came to nothing
  pub keeps-kept : (kept : Option Found) → KeepsCheaper kept None path best kept best
  unfolding cheaper_route
  keeps-kept (Some f) = record { keeps = λ earlier later E L. rw (← E.is, ← L.is) (record { is = refl; fits = E.fits }) }
  keeps-kept None = record { keeps = λ earlier later E L. rw (← E.is, ← L.is) (record { is = refl; fits = E.fits }) }

  module _ (new : Found) where
    -- its route is not cheaper
    pub keeps-old : (kept : Option Found) → beats new.cost.0 (told (Ok kept) []) ≡ false → KeepsCheaper kept (Some new) path best kept best
    unfolding cheaper_route
    keeps-old (Some f) b = record { keeps = λ earlier later E L. rw (← E.is, ← L.is, b) (record { is = refl; fits = E.fits }) }
    keeps-old None b = never (cc)

    -- its route is cheaper, and is copied
    pub keeps-new : (kept : Option Found) → beats new.cost.0 (told (Ok kept) []) ≡ true → new.length ≤ length path → {best' : List ℕ} → best' ≡ take new.length path ++ drop new.length best
        → KeepsCheaper kept (Some new) path best (Some new) best'
    unfolding cheaper_route
    keeps-new kept b h {best'} e = go kept b
      where
        front : take new.length best' ≡ take new.length path
        front = rw e (take_at (take new.length path) (drop new.length best) new.length (length-take-le new.length path h))

        long-enough : new.length ≤ length best'
        long-enough = rw (e, length-append (take new.length path) (drop new.length best), length-take-le new.length path h) (omega arith)

        go : (kept : Option Found) → beats new.cost.0 (told (Ok kept) []) ≡ true → KeepsCheaper kept (Some new) path best (Some new) best'
        go (Some f) b = record { keeps = λ earlier later E L. rw (← E.is, ← L.is, b) (record { is = rw front; fits = long-enough }) }
        go None b = record { keeps = λ earlier later E L. rw (← E.is, ← L.is) (record { is = rw front; fits = long-enough }) }

-- ---- one goal after another

best_none : (S : Site) (start : ℕ) (blocked best : List ℕ) → Tells (best_below 0 S start blocked) (Ok None) best
unfolding best_below
best_none S start blocked best = tells-failed best

module _ (S : Site) (start goal : ℕ) (blocked : List ℕ) {best : List ℕ} {kept : Option Found} (E : Tells (best_below goal S start blocked) (Ok kept) best) where
  -- the cell is not joinable
  pub best-kept : get_or S.joinable goal 0 ≢ 1 → Tells (best_below (goal + 1) S start blocked) (Ok kept) best
  unfolding best_below tried_goal
  best-kept n = rw (add-one, ne_eqb (get_or S.joinable goal 0) 1 n) ((keeps-kept {path = []} kept).keeps _ _ E (tells-failed []))

  pub best-next : get_or S.joinable goal 0 ≡ 1 → {tried r : Option Found} {path best' : List ℕ} → Tells (attempts max_attempts S start goal blocked) (Ok tried) path
      → KeepsCheaper kept tried path best r best' → Tells (best_below (goal + 1) S start blocked) (Ok r) best'
  unfolding best_below tried_goal
  best-next m L keep = rw (add-one, eq-eqb (get_or S.joinable goal 0) 1 m) (keep.keeps _ _ E L)

  -- its searches found the queue full
  pub best-full : get_or S.joinable goal 0 ≡ 1 → {x : QueueFull} {path best' : List ℕ} → Tells (attempts max_attempts S start goal blocked) (Err x) path
      → Tells (best_below (goal + 1) S start blocked) (Err x) best'
  unfolding best_below tried_goal cheaper_route
  best-full m {x} {best' = best'} L = rw (add-one, eq-eqb (get_or S.joinable goal 0) 1 m, ← L.is) (go kept E)
    where
      go : (kept : Option Found) → {earlier : Trial} → Tells earlier (Ok kept) best → Tells (cheaper_route earlier (full x.0.0)) (Err x) best'
      go (Some f) B = rw (← B.is) (record { is = refl; fits = omega arith })
      go None B = rw (← B.is) (record { is = refl; fits = omega arith })

-- a full queue ends it all
full-stays : (S : Site) (start : ℕ) (blocked : List ℕ) (x n m : ℕ) → n ≤ m → full x ≡ best_below n S start blocked → full x ≡ best_below m S start blocked
unfolding best_below cheaper_route
full-stays S start blocked x n zero h e = let z : n ≡ 0 = omega arith in rw z at e
full-stays S start blocked x n (suc m) h e = ask_same n (suc m) (λ q. rw q at e) (λ d. rw (← full-stays S start blocked x n m (omega (arith, d)) e))

module _ (S : Site) (start n : ℕ) (blocked : List ℕ) {best : List ℕ} where
  pub tree-full : {x : QueueFull} → Tells (best_below n S start blocked) (Err x) best → n ≤ volume S.room → Tells (route_to_tree S start blocked) (Err x) best
  unfolding route_to_tree
  tree-full {x} E h = record { is = full-stays S start blocked x.0.0 n (volume S.room) h E.is; fits = omega arith }

  pub tree_all : {r : Tried} → Tells (best_below n S start blocked) r best → n ≤ volume S.room → volume S.room ≤ n → Tells (route_to_tree S start blocked) r best
  unfolding route_to_tree
  tree_all E h k = let e : n ≡ volume S.room = omega arith in rw e at E

-- ---- between goals

-- marks and class bytes are as at the start, and all memory is as long
pub record SameMemory (joinable₀ joinable blocked₀ blocked classes₀ classes known₀ known previous₀ previous path₀ path best₀ best queue₀ queue : List ℕ) : Type 0 where
  pub joinable-is : joinable ≡ joinable₀
  pub blocked-is : blocked ≡ blocked₀
  pub classes-is : classes ≡ classes₀
  pub known-long : length known ≡ length known₀
  pub previous-long : length previous ≡ length previous₀
  pub path-long : length path ≡ length path₀
  pub best-long : length best ≡ length best₀
  pub queue_long : length queue ≡ length queue₀

pub memory-first : (joinable blocked classes known previous path best queue : List ℕ)
    → SameMemory joinable joinable blocked blocked classes classes known known previous previous path path best best queue queue
memory-first joinable blocked classes known previous path best queue = record {
  joinable-is = refl;
  blocked-is = refl;
  classes-is = refl;
  known-long = refl;
  previous-long = refl;
  path-long = refl;
  best-long = refl;
  queue_long = refl;
}

module _ (ground : Ground) (kinds : List ℕ) {joinable₀ joinable blocked₀ blocked classes₀ classes known₀ known previous₀ previous path₀ path best₀ best queue₀ queue : List ℕ}
    (M : SameMemory joinable₀ joinable blocked₀ blocked classes₀ classes known₀ known previous₀ previous path₀ path best₀ best queue₀ queue) where
  pub memory-site : site_of ground kinds joinable queue ≡ site_of ground kinds joinable₀ queue₀
  memory-site = site-same ground kinds joinable₀ joinable queue₀ queue M.joinable-is M.queue_long

  pub memory-able : {start : ℕ} → Attemptable (site_of ground kinds joinable₀ queue₀) blocked₀ classes₀ known₀ previous₀ path₀ start start
      → Attemptable (site_of ground kinds joinable queue) blocked classes known previous path start start
  memory-able A = rw (M.blocked-is, M.classes-is) (able-kept A memory-site M.known-long M.previous-long M.path-long)

pub memory-next : {joinable₀ joinable blocked₀ blocked classes₀ classes known₀ known previous₀ previous path₀ path best₀ best queue₀ queue : List ℕ}
    → SameMemory joinable₀ joinable blocked₀ blocked classes₀ classes known₀ known previous₀ previous path₀ path best₀ best queue₀ queue
    → {joinable' blocked' classes' known' previous' path' best' queue' : List ℕ} → (joinable' ≡ joinable) × (blocked' ≡ blocked) × (classes' ≡ classes)
    → length known' ≡ length known → length previous' ≡ length previous → length path' ≡ length path → length best' ≡ length best → length queue' ≡ length queue
    → SameMemory joinable₀ joinable' blocked₀ blocked' classes₀ classes' known₀ known' previous₀ previous' path₀ path' best₀ best' queue₀ queue'
memory-next M kept k p q b u = record {
  joinable-is = kept.0 ∙ M.joinable-is;
  blocked-is = kept.1 ∙ M.blocked-is;
  classes-is = kept.2 ∙ M.classes-is;
  known-long = k ∙ M.known-long;
  previous-long = p ∙ M.previous-long;
  path-long = q ∙ M.path-long;
  best-long = b ∙ M.best-long;
  queue_long = u ∙ M.queue_long;
}

-- ---- the loop over all goals

-- those below `goal` are done
pub record GoalsTried (S : Site) (start goal : ℕ) (kept : Option Found) (joinable₀ joinable blocked₀ blocked classes₀ classes known₀ known previous₀ previous path₀ path best₀ best queue₀ queue : List ℕ) : Type 0 where
  pub within : goal ≤ volume S.room
  pub tells : Tells (best_below goal S start blocked₀) (Ok kept) best
  pub same : SameMemory joinable₀ joinable blocked₀ blocked classes₀ classes known₀ known previous₀ previous path₀ path best₀ best queue₀ queue

pub goals-first : (S : Site) (start : ℕ) (joinable blocked classes known previous path best queue : List ℕ)
    → GoalsTried S start 0 None joinable joinable blocked blocked classes classes known known previous previous path path best best queue queue
goals-first S start joinable blocked classes known previous path best queue = record {
  within = omega arith;
  tells = best_none S start blocked best;
  same = memory-first joinable blocked classes known previous path best queue;
}

module _ (ground : Ground) (kinds : List ℕ) {start goal : ℕ} {kept : Option Found}
    {joinable₀ joinable blocked₀ blocked classes₀ classes known₀ known previous₀ previous path₀ path best₀ best queue₀ queue : List ℕ}
    (G : GoalsTried (site_of ground kinds joinable₀ queue₀) start goal kept joinable₀ joinable blocked₀ blocked classes₀ classes known₀ known previous₀ previous path₀ path best₀ best queue₀ queue) where
  pub goals-tells : Tells (best_below goal (site_of ground kinds joinable queue) start blocked) (Ok kept) best
  goals-tells = rw (memory-site ground kinds G.same, G.same.blocked-is) G.tells

  -- what is said of the marks as they are is said of them as they were
  pub goals-told : (n : ℕ) {r : Tried} {best' : List ℕ} → Tells (best_below n (site_of ground kinds joinable queue) start blocked) r best'
      → Tells (best_below n (site_of ground kinds joinable₀ queue₀) start blocked₀) r best'
  goals-told n t = rw (memory-site ground kinds G.same, G.same.blocked-is) at t

  pub goals-next : goal < volume ground.room → {kept' : Option Found} {joinable' blocked' classes' known' previous' path' best' queue' : List ℕ}
      → Tells (best_below (goal + 1) (site_of ground kinds joinable queue) start blocked) (Ok kept') best'
      → (joinable' ≡ joinable) × (blocked' ≡ blocked) × (classes' ≡ classes)
      → length known' ≡ length known → length previous' ≡ length previous → length path' ≡ length path → length best' ≡ length best → length queue' ≡ length queue
      → GoalsTried (site_of ground kinds joinable₀ queue₀) start (goal + 1) kept' joinable₀ joinable' blocked₀ blocked' classes₀ classes' known₀ known' previous₀ previous' path₀ path' best₀ best' queue₀ queue'
  goals-next h t kept k p q b u = record {
    within = omega arith;
    tells = goals-told (goal + 1) t;
    same = memory-next G.same kept k p q b u;
  }
