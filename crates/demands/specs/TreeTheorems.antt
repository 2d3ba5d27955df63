-- THE THIRD DEMAND IN A TREE: what TreeStatements claims of each search made there, of a sink's route, of every branch, of a tree that stops growing, and
-- of what the public tree gives out: its branches and marks, or a number from 13 on.
use Rattle.std.specs.Prelude.{◌≡◌, Ok, Err, ◌≢◌, false, eqb, ltb, length, Option, Some, None}
use Rattle.std.proofs.Math.Path.{refl, ap}
use Rattle.std.proofs.Common.{sym, ◌∙◌, add-one, ltb-true, ltb-false, leb-false, get_or-set_other}
use Rattle.std.proofs.Math.Bool.{true}
use mathlib.Core.List.{List, []}
use Prim.Native.Nat.{ℕ, zero, suc, ◌+◌, ◌-◌, ◌*◌, ◌≤◌, ◌<◌}
use native.Mathlib.Omega.{arith}
use Rattle.std.proofs.Math.Seq.{get_or-set_same}
use Rattle.numbers.specs.Refusals.{queue_full_number}
use Rattle.basics.specs.Tests.{ask, ask_same, never}
use Rattle.room.specs.Room.{Good, volume}
use Rattle.best_first.specs.Search.{Answer, route, no_route, limit-passed, queue-full}
use Rattle.best_first.specs.Statements.{Decided}
use Rattle.room_search.specs.Routing.{Task, places_in, routeable, searched}
use Rattle.ground.specs.declared.Mode.{Mode}
use Rattle.job_sheet.specs.Sheet.{Contents, Means}
use Rattle.job_sheet.proofs.Theorems.{one-meaning}
use Rattle.routing_resources.specs.Marks.{is_marked, marked_by}
use Rattle.geometry.specs.Geometry.{conflict_of}
use Rattle.goals.specs.Goals.{Site, Trial, found, failed, full, trial_of, searched_for, at_conflict, after_search, max_attempts, attempts, tried_goal, route_to_tree, site_task, ends_goal}
use Rattle.goals.specs.PathLaws.{found-by}
use Rattle.goals.specs.Routes.{as_blocked, one_more}
use Rattle.goals.proofs.FullLaws.{search_not_full, cells-never, route_not_full}
use Rattle.goals.proofs.RouteLaws.{tree-joins, below-failed}
use Rattle.ends.specs.Ends.{ends_of}
use Rattle.turns.specs.Turns.{far}
use Rattle.turns.specs.TurnLaws.{turn_in_lem}
use Rattle.branches.specs.Branches.{branch_of}
use Rattle.multinet.specs.Tree.{Plot, Tree, Growth, grown, stopped, tap_at, site_at, sink_now, planted, with_branch, fits_in, after_sink, grow_sink, grow_on, grow_from, growth_of}
use Rattle.multinet.specs.Growing.{SoundPlot, turn_in, branch_in}
use Rattle.multinet.specs.GrowthLaws.{same-tree, turn_more, turns_count, growth-count}
use Rattle.multinet.proofs.GrowingLaws.{sink-now, other-turn}
use Rattle.net_tree.specs.declared.Lengths.{Lengths}
use Rattle.net_tree.specs.declared.Tree as trees
use Rattle.net_tree.specs.Answers as trees_told
use Rattle.net_tree.specs.EntryLaws.{one-refusal}
use Rattle.net_tree.specs.Answers.{Lent, lengths_of, plot_for, TreeOutcome, routed, no_tree, Comes, answer_of, lent_after, Promise}
use Rattle.net_tree.specs.SheetTrees.{TreeOf, StopOf}
use Rattle.net_tree.specs.SheetTreeLaws.{tree_of, stop-of}
use Rattle.demands.specs.Statements.{Posed, Priced, Enough, NoLawfulWay}
use Rattle.demands.specs.Theorems.{route-lawful, route-cheapest, no_route_true, settled}
use Rattle.demands.specs.QueueLaws.{posed, wide_enough}
use Rattle.demands.specs.LimitLaws.{limit-never}
use Rattle.demands.specs.TreeStatements.{SearchMeans, RouteMeans, GoalEnds, no_way, conflict_stays, attempts-over, BranchMeans, SinkEnds, queue-fills, no_goal_left, buffer-fills, StopsAt, TreeMeans, AnswerMeans, StopMeans}

-- ---- one search

module _ (T : Task) (G : Good T.room) (start_in : T.start < volume T.room) (goal_in : T.goal < volume T.room) where
  found-posed : (path : List ℕ) (cost : ℕ) → searched_for T ≡ found path cost → Posed T
  found-posed path cost e = let F = found-by T path cost e in posed T G start_in goal_in F.start-free F.goal-free

  -- an end that is not routeable leaves no lawful way
  no_start : routeable T T.start ≡ false → NoLawfulWay T
  no_start f after w = let z : false ≡ true = sym f ∙ w.start-free in never (cc)

  no_end : routeable T T.goal ≡ false → NoLawfulWay T
  no_end f after w = let z : false ≡ true = sym f ∙ w.goal-free in never (cc)

  module _ (D : Priced T.config) (A : Enough T.room T.config T.places) where
    failed_search : searched_for T ≡ failed → NoLawfulWay T
    unfolding searched_for
    failed_search e =
        ask (routeable T T.start)
        (λ s. ask (routeable T T.goal) (λ g. go s g (searched T) refl (rw (s, g) at e) (settled (posed T G start_in goal_in s g) D A)) no_end)
        no_start
      where
        go : routeable T T.start ≡ true → routeable T T.goal ≡ true → (a : Answer) → searched T ≡ a → trial_of a ≡ failed → Decided a → NoLawfulWay T
        go s g (route path cost x) w q d = never (cc)
        go s g (no_route x) w q d = no_route_true (posed T G start_in goal_in s g) w
        go s g (limit-passed x) w q d = elim d [ ]
        go s g (queue-full x) w q d = elim d [ ]

  -- what is proved of one search is proved of each search that a goal is tried by
  pub search_means : SearchMeans T
  search_means = record {
    found-lawful = λ path cost e. let F = found-by T path cost e in route-lawful (found-posed path cost e) F.is;
    found-cheapest = λ D path cost e. let F = found-by T path cost e in route-cheapest (found-posed path cost e) D F.is;
    failed_true = λ D A e. failed_search D A e;
    never-full = λ D h x e. search_not_full T start_in goal_in (wide_enough D h) x e;
  }

-- ---- a sink's route

module _ (S : Site) (G : Good S.room) (start : ℕ) (start_in : start < volume S.room) where
  pub route-means : (blocked path : List ℕ) (cost : ℕ) → route_to_tree S start blocked ≡ found path cost → RouteMeans S start blocked path cost
  route-means blocked path cost e =
      let J = tree-joins S start blocked path cost e in
      let M = search_means (site_task S J.reaches.blocked-last start J.goal) G start_in J.goal_in in
      record { joins = J; lawful = M.found-lawful path cost J.reaches.found-so; cheapest = λ D. M.found-cheapest D path cost J.reaches.found-so }

  -- ---- number 14

  -- with a node limit and a queue that are enough, at costs of 10 and 20 or more
  module _ (D : Priced S.config) (E : Enough S.room S.config S.places) where
    means : (blocked : List ℕ) (goal : ℕ) → goal < volume S.room → SearchMeans (site_task S blocked start goal)
    means blocked goal h = search_means (site_task S blocked start goal) G start_in h

    prepend : {goal n : ℕ} {blocked path : List ℕ} {cost v : ℕ} → searched_for (site_task S blocked start goal) ≡ found path cost
        → conflict_of S.room S.kinds S.joinable path ≡ Some v → ends_goal blocked start goal v ≡ false
        → GoalEnds S start goal n (marked_by (eqb v) blocked) → GoalEnds S start goal (suc n) blocked
    prepend {n = n} w f g (no_way m later few r q) = no_way {attempts = suc n} (suc m) later (omega arith) (one_more w f g r) q
    prepend {n = n} w f g (conflict_stays m later path cost v few r s c e) = conflict_stays {attempts = suc n} (suc m) later path cost v (omega arith) (one_more w f g r) s c e
    prepend w f g (attempts-over later r) = attempts-over later (one_more w f g r)

    module _ (goal : ℕ) (goal_in : goal < volume S.room) where
      goal-ends : (n : ℕ) (blocked : List ℕ) → attempts n S start goal blocked ≡ failed → GoalEnds S start goal n blocked
      unfolding attempts after_search at_conflict
      goal-ends zero blocked e = attempts-over blocked as_blocked
      goal-ends (suc n) blocked e = after (searched_for (site_task S blocked start goal)) refl e (goal-ends n)
        where
          at : (p : List ℕ) (c : ℕ) → searched_for (site_task S blocked start goal) ≡ found p c
              → (place : Option ℕ) → conflict_of S.room S.kinds S.joinable p ≡ place
              → at_conflict blocked start goal (attempts n S start goal) (found p c) place ≡ failed
              → ((blocked' : List ℕ) → attempts n S start goal blocked' ≡ failed → GoalEnds S start goal n blocked')
              → GoalEnds S start goal (suc n) blocked
          at p c w None f q later = never (cc)
          at p c w (Some v) f q later =
              ask (ends_goal blocked start goal v)
              (λ t. conflict_stays {attempts = suc n} 0 blocked p c v (omega arith) as_blocked w f t)
              (λ g. prepend w f g (later (marked_by (eqb v) blocked) (rw g at q)))

          after : (trial : Trial) → searched_for (site_task S blocked start goal) ≡ trial
              → after_search S blocked start goal (attempts n S start goal) trial ≡ failed
              → ((blocked' : List ℕ) → attempts n S start goal blocked' ≡ failed → GoalEnds S start goal n blocked')
              → GoalEnds S start goal (suc n) blocked
          after (found p c) w q later = at p c w (conflict_of S.room S.kinds S.joinable p) refl q later
          after failed w q later = no_way {attempts = suc n} 0 blocked (omega arith) as_blocked ((means blocked goal goal_in).failed_true D E w)
          after (full x) w q later = absurd ((means blocked goal goal_in).never-full D E.queue-enough x w)

    -- number 14: every joinable cell was tried, and each has its reason
    pub no_goal_means : (blocked : List ℕ) → route_to_tree S start blocked ≡ failed → (goal : ℕ) → goal < volume S.room → is_marked S.joinable goal ≡ true
        → GoalEnds S start goal max_attempts blocked
    unfolding route_to_tree tried_goal
    no_goal_means blocked e goal h j = goal-ends goal h max_attempts blocked (rw j at (below-failed S start blocked (volume S.room) e goal h))

-- ---- every branch of a grown tree

module _ (P : Plot) (S : SoundPlot P) (blocked : List ℕ) where
  -- the tree after these turns, and the branches of the sinks whose turns they were
  record Meant (turn : ℕ) (T : Tree) : Type 0 where
    so_far : grow_from turn P 0 (planted P blocked) ≡ grown T
    each : (k : ℕ) → k < P.taps.count → turn_in P k < turn → BranchMeans P blocked k (branch_in T k)

  module _ {turn : ℕ} (b : turn < P.taps.count) {T T' : Tree} (M : Meant turn T) (e : grow_sink P (sink_now P turn) T ≡ grown T') where
    abbrev sink : ℕ
    sink = sink_now P turn

    now : (sink < P.taps.count) × (turn_in P sink ≡ turn)
    now = sink-now P turn sink refl b

    next-so-far : grow_from (turn + 1) P 0 (planted P blocked) ≡ grown T'
    next-so-far = let z : 0 + turn ≡ turn = omega arith in rw add-one (turn_more P turn 0 (planted P blocked) T M.so_far ∙ rw z e)

    with_meant : (branch : List ℕ) → BranchMeans P blocked sink branch → T' ≡ with_branch P.room sink branch T → Meant (turn + 1) T'
    unfolding with_branch
    with_meant branch B w = record {
      so_far = next-so-far;
      each = λ k h g. rw w (ask_same k sink
          (λ q. rw (q, get_or-set_same T.branches sink branch [] (omega (arith, now.0, turns_count P turn blocked T M.so_far))) B)
          (λ d. rw (get_or-set_other T.branches sink k branch [] d) (M.each k h (earlier k h g d))));
    }
      where
        earlier : (k : ℕ) → k < P.taps.count → turn_in P k < turn + 1 → k ≢ sink → turn_in P k < turn
        earlier k h g d = let o = other-turn P turn sink refl k h d in omega (arith, g, o)

    routed-meant : (trial : Trial) → route_to_tree (site_at P T.joinable) (tap_at P sink).approach T.blocked ≡ trial
        → after_sink P sink T trial ≡ grown T' → Meant (turn + 1) T'
    unfolding after_sink
    routed-meant (found path cost) w q =
        ask (fits_in P T (branch_of (tap_at P sink) path))
        (λ t. with_meant (branch_of (tap_at P sink) path) meant (sym (same-tree (rw t at q))))
        (λ f. never (cc (rw f at q)))
      where
        meant : BranchMeans P blocked sink (branch_of (tap_at P sink) path)
        meant = record {
          before = T;
          at_turn = rw now.1 M.so_far;
          path = path;
          cost = cost;
          branch-is = refl;
          means = route-means (site_at P T.joinable) S.good (tap_at P sink).approach (S.net.taps_in_lem.approach_in sink now.0) T.blocked path cost w;
        }
    routed-meant failed w q = never (cc)
    routed-meant (full x) w q = never (cc)

    turn-meant : Meant (turn + 1) T'
    unfolding grow_sink
    turn-meant = routed-meant (route_to_tree (site_at P T.joinable) (tap_at P sink).approach T.blocked) refl e

  all-meant : (n turn : ℕ) → turn + n ≤ P.taps.count → (T T' : Tree) → Meant turn T → grow_from n P turn T ≡ grown T' → Meant (turn + n) T'
  unfolding grow_from
  all-meant zero turn h T T' M q = let z : turn + 0 ≡ turn = omega arith in rw (z, ← same-tree q) M
  all-meant (suc n) turn h T T' M q = go (grow_sink P (sink_now P turn) T) refl q (all-meant n (turn + 1) (omega arith))
    where
      go : (g : Growth) → grow_sink P (sink_now P turn) T ≡ g → grow_on (grow_from n P (turn + 1)) g ≡ grown T'
          → ((T₁ T₂ : Tree) → Meant (turn + 1) T₁ → grow_from n P (turn + 1) T₁ ≡ grown T₂ → Meant (turn + 1 + n) T₂) → Meant (turn + suc n) T'
      go (grown T₁) e z later = let s : turn + suc n ≡ turn + 1 + n = omega arith in rw s (later T₁ T' (turn-meant (omega arith) M e) z)
      go (stopped number detail) e z later = never (cc)

  at-outset : Meant 0 (planted P blocked)
  unfolding grow_from
  at-outset = record { so_far = refl; each = λ k h g. absurd (omega arith) }

  -- every sink's branch is its route to the tree as it was at that sink's turn, and demand 3 speaks of that route
  pub tree-means : (T : Tree) → growth_of P blocked ≡ grown T → (k : ℕ) → k < P.taps.count → BranchMeans P blocked k (branch_in T k)
  unfolding growth_of
  tree-means T e k h =
      (all-meant P.taps.count 0 (omega arith) (planted P blocked) T at-outset e).each k h (omega (arith, turn_in_lem (far P.room P.source P.taps.taps) P.taps.count k h))

-- ---- a tree that stops growing

module _ (P : Plot) (S : SoundPlot P) (blocked : List ℕ) where
  -- the sink at whose turn it stops, and the tree before that turn
  record Halt (number detail : ℕ) : Type 0 where
    sink : ℕ
    sink_in : sink < P.taps.count
    before : Tree
    at_turn : grow_from (turn_in P sink) P 0 (planted P blocked) ≡ grown before
    halts : grow_sink P sink before ≡ stopped number detail

  halts-from : (n turn : ℕ) → turn + n ≤ P.taps.count → (T : Tree) → grow_from turn P 0 (planted P blocked) ≡ grown T → (number detail : ℕ)
      → grow_from n P turn T ≡ stopped number detail → Halt number detail
  unfolding grow_from
  halts-from zero turn h T so number detail q = never (cc)
  halts-from (suc n) turn h T so number detail q = go (grow_sink P (sink_now P turn) T) refl q (halts-from n (turn + 1) (omega arith))
    where
      now : (sink_now P turn < P.taps.count) × (turn_in P (sink_now P turn) ≡ turn)
      now = sink-now P turn (sink_now P turn) refl (omega arith)

      next : grow_from (turn + 1) P 0 (planted P blocked) ≡ grow_sink P (sink_now P turn) T
      next = let z : 0 + turn ≡ turn = omega arith in rw add-one (turn_more P turn 0 (planted P blocked) T so ∙ rw z refl)

      go : (g : Growth) → grow_sink P (sink_now P turn) T ≡ g → grow_on (grow_from n P (turn + 1)) g ≡ stopped number detail
          → ((T' : Tree) → grow_from (turn + 1) P 0 (planted P blocked) ≡ grown T' → (m x : ℕ) → grow_from n P (turn + 1) T' ≡ stopped m x → Halt m x)
          → Halt number detail
      go (grown T') e z later = later T' (next ∙ e) number detail z
      go (stopped m x) e z later = record { sink = sink_now P turn; sink_in = now.0; before = T; at_turn = rw now.1 so; halts = e ∙ z }

  halt : (number detail : ℕ) → growth_of P blocked ≡ stopped number detail → Halt number detail
  unfolding growth_of grow_from
  halt number detail e = halts-from P.taps.count 0 (omega arith) (planted P blocked) refl number detail e

  -- what a sink that stops it comes to
  module _ (k : ℕ) (h : k < P.taps.count) (T : Tree) where
    same : {m x number detail : ℕ} → stopped m x ≡ stopped number detail → SinkEnds P k T m x → SinkEnds P k T number detail
    same {m} {x} {number} {detail} q s = let a : m ≡ number = cc in let b : x ≡ detail = cc in rw (← a, ← b) s

    abbrev site : Site
    site = site_at P T.joinable

    abbrev start : ℕ
    start = (tap_at P k).approach

    start-inside : start < volume P.room
    start-inside = S.net.taps_in_lem.approach_in k h

    too_few : (x : ℕ) → route_to_tree site start T.blocked ≡ full x → Priced P.config → P.places < 5 * (volume P.room - 1)
    too_few x w D =
        ask (ltb P.places (5 * (volume P.room - 1)))
        (λ t. ltb-true _ _ t)
        (λ f. absurd (route_not_full site start T.blocked (cells-never site start T.blocked start-inside (wide_enough D (ltb-false _ _ f))) x w))

    below-limit : (x : ℕ) → route_to_tree site start T.blocked ≡ full x → P.places ≤ 11 * P.config.limit.0
    below-limit x w =
        ask (ltb (11 * P.config.limit.0) P.places)
        (λ t. absurd (route_not_full site start T.blocked (limit-never site start start-inside (ltb-true _ _ t) T.blocked) x w))
        (λ f. ltb-false _ _ f)

    sink_ends : (number detail : ℕ) (trial : Trial) → route_to_tree site start T.blocked ≡ trial → after_sink P k T trial ≡ stopped number detail → SinkEnds P k T number detail
    unfolding after_sink
    sink_ends number detail (found path cost) w q =
        ask (fits_in P T (branch_of (tap_at P k) path))
        (λ t. never (cc (rw t at q)))
        (λ f. same (rw f at q) (buffer-fills path cost (route-means site S.good start start-inside T.blocked path cost w) (leb-false _ _ f)))
    sink_ends number detail failed w q = same q (no_goal_left (λ D E goal i j. no_goal_means site S.good start start-inside D E T.blocked w goal i j))
    sink_ends number detail (full x) w q = same q (queue-fills x (below-limit x w) (too_few x w))

  -- a tree that stops growing does so at a sink's turn, for one of these reasons
  pub tree-stops : (number detail : ℕ) → growth_of P blocked ≡ stopped number detail → StopsAt P blocked number detail
  unfolding grow_sink
  tree-stops number detail e =
      let h = halt number detail e in
      record {
        sink = h.sink;
        sink_in = h.sink_in;
        before = h.before;
        at_turn = h.at_turn;
        why = sink_ends h.sink h.sink_in h.before number detail _ refl h.halts;
      }

-- ---- the public tree

module _ {mode : Mode} {sheet : List ℕ} {L : Lengths} {branches : List (List ℕ)} {occupied repeaters : List ℕ} (T : TreeOf mode sheet L branches occupied repeaters) where
  abbrev P : Plot
  P = plot_for mode T.contents L T.outset T.kinds

  taps-count : length branches ≡ P.taps.count
  taps-count = ap length T.branches-are ∙ growth-count P T.blocked T.tree T.grows

  sinks-count : P.taps.count ≡ length T.contents.sinks
  unfolding ends_of
  sinks-count = ap (λ e. e.taps.count) T.unrefused.is_set.ends-are

  tree-branches : TreeMeans mode sheet L branches occupied repeaters
  tree-branches = record {
    tree_of = T;
    count-is = taps-count ∙ sinks-count;
    each = λ k h. rw T.branches-are (tree-means P T.sound T.blocked T.tree T.grows k (omega (arith, h, taps-count)));
  }

-- where `route_net_tree` promises a tree, every branch that it gives out has its meaning
pub answer-means : {mode : Mode} {sheet : List ℕ} {B : Lent} {r : trees_told.Answer} {B' : Lent} → Promise mode sheet B r B' → {tree : trees.Tree} → r ≡ Ok tree → AnswerMeans mode sheet B r B'
answer-means {mode} {sheet} {B} {r} {B'} K {tree} e = go K.outcome K.comes K.answer K.lent_is
  where
    go : (o : TreeOutcome) → Comes mode sheet (lengths_of B) o → r ≡ answer_of o → B' ≡ lent_after o B → AnswerMeans mode sheet B r B'
    go (routed branches occupied repeaters) c a l = record {
      branches = branches;
      occupied = occupied;
      repeaters = repeaters;
      answer = a;
      lent_is = l;
      means = tree-branches (tree_of c);
    }
    go (no_tree number detail) c a l = let z : answer_of (no_tree number detail) ≡ Ok tree = sym a ∙ e in never (cc)

stop-means : {mode : Mode} {sheet : List ℕ} {L : Lengths} {number detail : ℕ} → StopOf mode sheet L number detail → StopMeans mode sheet L number detail
stop-means {mode = mode} {L = L} {number} {detail} K = record {
  stop-of = K;
  stops_at = tree-stops (plot_for mode K.contents L K.outset K.kinds) K.sound K.blocked number detail K.stops;
}

-- where it promises a number from 10 on, a tree had grown so far, and the number has its reason
pub stopped-means : {mode : Mode} {sheet : List ℕ} {B : Lent} {r : trees_told.Answer} {B' : Lent} → Promise mode sheet B r B' → {number detail : ℕ} → r ≡ Err (record { number = number; detail = detail })
    → 9 < number → StopMeans mode sheet (lengths_of B) number detail
stopped-means {mode} {sheet} {B} {r} K {number} {detail} e h = go K.outcome K.comes K.answer
  where
    go : (o : TreeOutcome) → Comes mode sheet (lengths_of B) o → r ≡ answer_of o → StopMeans mode sheet (lengths_of B) number detail
    go (routed branches occupied repeaters) c a = let z : answer_of (routed branches occupied repeaters) ≡ Err (record { number = number; detail = detail }) = sym a ∙ e in never (cc)
    go (no_tree m x) c a =
        let z = one-refusal a e in
        let p : m ≡ number = ap (λ y. y.number) z in
        let q : x ≡ detail = ap (λ y. y.detail) z in
        stop-means (stop-of (rw (p, q) at c) h)

full-few : {P : Plot} {k : ℕ} {T : Tree} {number detail : ℕ} → SinkEnds P k T number detail → number ≡ queue_full_number
    → (P.places ≤ 11 * P.config.limit.0) × (Priced P.config → P.places < 5 * (volume P.room - 1))
full-few (queue-fills x below few) e = (below, few)
full-few (no_goal_left each) e = absurd (omega arith)
full-few (buffer-fills path cost means long) e = absurd (omega arith)

module _ {mode : Mode} {sheet : List ℕ} {B : Lent} {r : trees_told.Answer} {B' : Lent} (K : Promise mode sheet B r B') (J : Contents) (m : Means sheet J) (detail : ℕ)
    (e : r ≡ Err (record { number = queue_full_number; detail = detail })) where
  full-stop : StopMeans mode sheet (lengths_of B) queue_full_number detail
  full-stop = stopped-means K e (omega arith)

  same-contents : J ≡ full-stop.stop-of.contents
  same-contents = one-meaning sheet J full-stop.stop-of.contents m full-stop.stop-of.unrefused.means

  -- 5 places for each cell but the start never give 13, at those costs
  pub answer_not_full : Priced J.config → 5 * (volume J.room - 1) ≤ places_in (length B.queue) → ⊥
  answer_not_full D wide = omega (arith, wide, (full-few full-stop.stops_at.why refl).1 (rw same-contents at D), ap (λ (c : Contents). volume c.room) same-contents)

  -- nor do, at any costs, 11 for each node of the limit and one more
  pub answer-below-limit : 11 * J.config.limit.0 < places_in (length B.queue) → ⊥
  answer-below-limit wide = omega (arith, wide, (full-few full-stop.stops_at.why refl).0, ap (λ (c : Contents). c.config.limit.0) same-contents)
