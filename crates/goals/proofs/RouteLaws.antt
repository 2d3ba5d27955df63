-- A route to the tree is what Routes says: the route of the last attempt for the first goal with a cheapest one. Then its cells, one by one.
use Rattle.std.specs.Prelude.{◌≡◌, eqb, get_or, Option, Some, None}
use Rattle.std.proofs.Math.Path.{refl, ap}
use Rattle.std.proofs.Common.{sym, ◌∙◌, add-one, arith}
use Rattle.std.proofs.Math.Bool.{true, false}
use mathlib.Core.List.{List, [], ◌∷◌}
use Prim.Native.Nat.{ℕ, zero, suc, ◌+◌, ◌≤◌, ◌<◌}
use Rattle.std.proofs.Math.Dec.{ltb}
use Rattle.std.proofs.Math.ListN.{length}
use borrow.Author.Tests.{ltb-true, ltb-false}
use Rattle.basics.specs.Tests.{ask, ask_same, never}
use Rattle.room.specs.Room.{volume, Step}
use Rattle.best_first.specs.Search.{Graph}
use Rattle.best_first.specs.Ways as Ways
use Rattle.best_first.specs.Ways.{Way}
use Rattle.best_first.specs.Statements.{Lawful}
use Rattle.room_search.specs.Routing.{Task, graph_of, graph}
use Rattle.room_search.specs.GraphLaws.{step_by}
use Rattle.routing_resources.specs.Marks.{is_marked, marked_by, AllCells}
use Rattle.geometry.specs.Geometry.{conflict_of}
use Rattle.goals.specs.Goals.{Site, Trial, found, failed, full, searched_for, at_conflict, after_search, max_attempts, attempts, cheaper_route, tried_goal, best_below, route_to_tree, site_task, ends_goal}
use Rattle.goals.specs.Routes.{as_blocked, one_more, Reaches, RouteJoins}
use Rattle.goals.specs.PathLaws.{FoundBy, found-by, found-lawful, found-cells, found-short}

pub same-path : (p q : List ℕ) (c d : ℕ) → found p c ≡ found q d → (p ≡ q) × (c ≡ d)
same-path p q c d e = (cc, cc)

-- ---- one goal

module _ (S : Site) (start goal : ℕ) where
  pub attempts_reach : (n : ℕ) (blocked path : List ℕ) (cost : ℕ) → attempts n S start goal blocked ≡ found path cost → Reaches S n blocked start goal path cost
  unfolding attempts after_search at_conflict
  attempts_reach zero blocked path cost e = never (cc)
  attempts_reach (suc n) blocked path cost e = after (searched_for (site_task S blocked start goal)) refl e (attempts_reach n)
    where
      at : (p : List ℕ) (c : ℕ) → searched_for (site_task S blocked start goal) ≡ found p c
          → (place : Option ℕ) → conflict_of S.room S.kinds S.joinable p ≡ place
          → at_conflict blocked start goal (attempts n S start goal) (found p c) place ≡ found path cost
          → ((blocked' path' : List ℕ) (cost' : ℕ) → attempts n S start goal blocked' ≡ found path' cost' → Reaches S n blocked' start goal path' cost')
          → Reaches S (suc n) blocked start goal path cost
      at p c w None f q later =
          let same = same-path p path c cost q in
          record { conflicts = 0; few = omega arith; blocked-last = blocked; after = as_blocked; found-so = rw (← same.0, ← same.1) w; free = rw (← same.0) f }
      at p c w (Some v) f q later =
          ask (ends_goal blocked start goal v)
          (λ t. never (cc (rw t at q)))
          (λ goes_on. one-before goes_on (later (marked_by (eqb v) blocked) path cost (rw goes_on at q)))
        where
          -- what the later attempts reach from one more blocked cell
          one-before : ends_goal blocked start goal v ≡ false → Reaches S n (marked_by (eqb v) blocked) start goal path cost → Reaches S (suc n) blocked start goal path cost
          one-before goes_on r = record {
            conflicts = suc r.conflicts;
            few = omega (arith, r.few);
            blocked-last = r.blocked-last;
            after = one_more w f goes_on r.after;
            found-so = r.found-so;
            free = r.free;
          }

      after : (trial : Trial) → searched_for (site_task S blocked start goal) ≡ trial
          → after_search S blocked start goal (attempts n S start goal) trial ≡ found path cost
          → ((blocked' path' : List ℕ) (cost' : ℕ) → attempts n S start goal blocked' ≡ found path' cost' → Reaches S n blocked' start goal path' cost')
          → Reaches S (suc n) blocked start goal path cost
      after (found p c) w q later = at p c w (conflict_of S.room S.kinds S.joinable p) refl q later
      after failed w q later = never (cc)
      after (full x) w q later = never (cc)

-- ---- the cheapest goal

both-failed : (a b : Trial) → cheaper_route a b ≡ failed → (a ≡ failed) × (b ≡ failed)
unfolding cheaper_route
both-failed (full x) b e = never (cc)
both-failed failed b e = (refl, e)
both-failed (found p c) (found q d) e = ask (ltb d c) (λ t. other (rw t at e)) (λ f. other (rw f at e))
  where
    other : {p' : List ℕ} {c' : ℕ} → found p' c' ≡ failed → (found p c ≡ failed) × (found q d ≡ failed)
    other z = never (cc)
both-failed (found p c) failed e = never (cc)
both-failed (found p c) (full x) e = never (cc)

module _ (S : Site) (start : ℕ) (blocked : List ℕ) where
  -- where no goal's route is kept, none has one
  pub below-failed : (n : ℕ) → best_below n S start blocked ≡ failed → (goal : ℕ) → goal < n → tried_goal S start blocked goal ≡ failed
  unfolding best_below
  below-failed zero e goal h = absurd (omega arith)
  below-failed (suc n) e goal h =
      let both = both-failed (best_below n S start blocked) (tried_goal S start blocked n) e in
      ask_same goal n (λ q. rw q both.1) (λ d. below-failed n both.0 goal (omega (arith, h, d)))

  -- of the goals below n, this one's route is kept
  pub record KeptBelow (n : ℕ) (path : List ℕ) (cost : ℕ) : Type 0 where
    pub goal : ℕ
    pub goal-below : goal < n
    pub its-route : tried_goal S start blocked goal ≡ found path cost
    pub least : (other : ℕ) → other < n → (path' : List ℕ) (cost' : ℕ) → tried_goal S start blocked other ≡ found path' cost' → cost ≤ cost'
    pub first : (other : ℕ) → other < goal → (path' : List ℕ) (cost' : ℕ) → tried_goal S start blocked other ≡ found path' cost' → cost < cost'

  module _ (n : ℕ) where
    -- the last goal's route, where none before it has one as cheap
    last-kept : (path : List ℕ) (cost : ℕ) → tried_goal S start blocked n ≡ found path cost
        → ((other : ℕ) → other < n → (path' : List ℕ) (cost' : ℕ) → tried_goal S start blocked other ≡ found path' cost' → cost < cost') → KeptBelow (suc n) path cost
    last-kept path cost t above = record { goal = n; goal-below = omega arith; its-route = t; least = least; first = above }
      where
        least : (other : ℕ) → other < suc n → (path' : List ℕ) (cost' : ℕ) → tried_goal S start blocked other ≡ found path' cost' → cost ≤ cost'
        least other h path' cost' r =
            ask_same other n
            (λ q. omega (arith, (same-path path path' cost cost' (sym t ∙ rw q at r)).1))
            (λ d. omega (arith, above other (omega (arith, h, d)) path' cost' r))

    -- the route kept before, where the last goal has none that is cheaper
    still_kept : {path : List ℕ} {cost : ℕ} → KeptBelow n path cost
        → ((path' : List ℕ) (cost' : ℕ) → tried_goal S start blocked n ≡ found path' cost' → cost ≤ cost') → KeptBelow (suc n) path cost
    still_kept {path} {cost} K none = record { goal = K.goal; goal-below = omega (arith, K.goal-below); its-route = K.its-route; least = least; first = K.first }
      where
        least : (other : ℕ) → other < suc n → (path' : List ℕ) (cost' : ℕ) → tried_goal S start blocked other ≡ found path' cost' → cost ≤ cost'
        least other h path' cost' r =
            ask_same other n (λ q. none path' cost' (rw q at r)) (λ d. K.least other (omega (arith, h, d)) path' cost' r)

  pub below-kept : (n : ℕ) (path : List ℕ) (cost : ℕ) → best_below n S start blocked ≡ found path cost → KeptBelow n path cost
  unfolding best_below cheaper_route
  below-kept zero path cost e = never (cc)
  below-kept (suc n) path cost e = go (best_below n S start blocked) refl (tried_goal S start blocked n) refl e (below-kept n)
    where
      go : (a : Trial) → best_below n S start blocked ≡ a → (b : Trial) → tried_goal S start blocked n ≡ b → cheaper_route a b ≡ found path cost
          → ((path' : List ℕ) (cost' : ℕ) → best_below n S start blocked ≡ found path' cost' → KeptBelow n path' cost') → KeptBelow (suc n) path cost
      go (full x) u b t q earlier = never (cc)
      go failed u b t q earlier = last-kept n path cost (t ∙ q) (λ other h path' cost' r. never (cc (sym r ∙ below-failed n u other h)))
      go (found p c) u (found p' c') t q earlier = ask (ltb c' c) (λ y. later-one y (same-path p' path c' cost (rw y at q))) (λ f. earlier-one f (same-path p path c cost (rw f at q)))
        where
          later-one : ltb c' c ≡ true → (p' ≡ path) × (c' ≡ cost) → KeptBelow (suc n) path cost
          later-one y s = last-kept n path cost (rw (← s.0, ← s.1) t) (λ other h l d r. omega (arith, s.1, ltb-true c' c y, (earlier p c u).least other h l d r))

          earlier-one : ltb c' c ≡ false → (p ≡ path) × (c ≡ cost) → KeptBelow (suc n) path cost
          earlier-one f s = still_kept n (earlier path cost (rw (← s.0, ← s.1) u)) (λ l d r. omega (arith, s.1, ltb-false c' c f, (same-path p' l c' d (sym t ∙ r)).1))
      go (found p c) u failed t q earlier = still_kept n (earlier path cost (u ∙ q)) (λ l d r. never (cc (sym t ∙ r)))
      go (found p c) u (full x) t q earlier = never (cc)

  pub tree-joins : (path : List ℕ) (cost : ℕ) → route_to_tree S start blocked ≡ found path cost → RouteJoins S blocked start path cost
  unfolding route_to_tree tried_goal
  tree-joins path cost e = go (below-kept (volume S.room) path cost e)
    where
      go : KeptBelow (volume S.room) path cost → RouteJoins S blocked start path cost
      go K =
          ask (is_marked S.joinable K.goal)
          (λ t. record {
            goal = K.goal;
            goal_in = K.goal-below;
            joinable = t;
            reaches = attempts_reach S start K.goal max_attempts blocked path cost (rw t at K.its-route);
            cheapest-goal = K.least;
            first_such = K.first;
          })
          (λ f. never (cc (rw f at K.its-route)))

-- so the path begins with the start, is a way of the search's moves to the goal, has at most V cells, and these are cells of the room
module _ {S : Site} {blocked : List ℕ} {start : ℕ} {path : List ℕ} {cost : ℕ} (start_in : start < volume S.room) (J : RouteJoins S blocked start path cost) where
  abbrev T : Task
  T = site_task S J.reaches.blocked-last start J.goal

  by_search : FoundBy T path cost
  by_search = found-by T path cost J.reaches.found-so

  pub joins-lawful : Lawful (graph T) path cost
  joins-lawful = found-lawful start_in J.goal_in by_search

  pub joins-cells : AllCells S.room path
  joins-cells = found-cells start_in J.goal_in by_search

  pub joins-short : length path ≤ volume S.room
  joins-short = found-short by_search

-- ---- its cells one by one

-- the i-th step
way_step : (G : Graph) (l : List ℕ) (u t d : ℕ) → Way G u l t d → (i : ℕ) → i < length l → (c : ℕ) × Ways.GraphStep G (get_or (u ∷ l) i 0) (get_or l i 0) c
way_step G [] u t d w i h = absurd (omega arith)
way_step G (v ∷ l) u t d w zero h = (w.0, w.2)
way_step G (v ∷ l) u t d w (suc i) h = way_step G l v t w.1 w.3 i (omega arith)

step-made : (T : Task) (u v c : ℕ) → u < volume T.room → Ways.GraphStep (graph T) u v c → Step T.room u v
step-made T u v c h s = let m = step_by T u v c s in record { from_in = h; move = m.by; listed = m.listed; leads = m.leads_in }

module _ {S : Site} {blocked : List ℕ} {start : ℕ} {path : List ℕ} {cost : ℕ} (start_in : start < volume S.room) (J : RouteJoins S blocked start path cost) where
  abbrev rest : List ℕ
  rest = (joins-lawful start_in J).rest

  begins : path ≡ start ∷ rest
  unfolding graph_of
  begins = (joins-lawful start_in J).begins

  -- from each cell to the next leads one of the twelve moves
  pub joins-steps : (i : ℕ) → i + 1 < length path → Step S.room (get_or path i 0) (get_or path (i + 1) 0)
  unfolding graph_of
  joins-steps i h =
      let l : i < length rest = omega (arith, ap length begins) in
      let s = way_step _ rest start J.goal cost (joins-lawful start_in J).way i l in
      rw (begins, add-one) (step-made (T start_in J) _ _ s.0 (rw begins at ((joins-cells start_in J).below i (omega arith))) s.1)
