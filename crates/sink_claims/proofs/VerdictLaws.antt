-- What each verdict says of a sink at its turn, over a sound plot.
use Rattle.std.specs.Prelude.{◌≡◌, ◌≢◌, Bool, true, false, not, ◌&&◌, List, [], ◌∷◌, ℕ, zero, suc, ◌+◌, ◌-◌, ◌*◌, ◌≤◌, ◌<◌, leb, eqb, get_or}
use Rattle.std.proofs.Math.Path.{refl}
use Rattle.std.proofs.Common.{arith}
use borrow.Author.Tests.{eqb-true, eqb-false, ne_eqb, leb-true, le-leb}
use Rattle.numbers.specs.Refusals.{queue_full_number, no_goal_number, branches_full_number}
use Rattle.basics.specs.Tests.{ask, never, and_left, and_right, and_both}
use Rattle.basics.specs.Lists.{all_below, below_all}
use Rattle.room.specs.declared.RouterConfig.{RouterConfig}
use Rattle.room.specs.Room.{volume}
use Rattle.room.specs.Units.{air, redstone_wire}
use Rattle.room_search.specs.Routing.{Task, routeable_kind, routeable}
use Rattle.routing.specs.Answers.{fit_answer}
use Rattle.routing_resources.specs.Marks.{is_marked, marked_by, with_byte}
use Rattle.goals.specs.Goals.{Site, Trial, found, failed, full, route_to_tree, site_task}
use Rattle.goals.specs.Routes.{Conflicts, as_blocked, one_more, Reaches}
use Rattle.goals.proofs.RouteLaws.{attempts_reach, tree-joins}
use Rattle.flood.specs.FloodLaws.{reached-free}
use Rattle.why.specs.Why.{obstacle_of, is_reached_of}
use Rattle.multinet.specs.Tree.{Plot, Tree, stopped, site_at, after_sink, grow_sink, fits_in, tap_at}
use Rattle.multinet.specs.Growing.{SoundPlot}
use Rattle.branches.specs.Branches.{branch_of}
use Rattle.why_tree.specs.WhyTree.{approach_taken, is_shut_in, only_conflicts, cut_short, reaches_none, ample, reached_from, verdict_for, sink_approach, ground_of, verdict_of}
use Rattle.why_tree.proofs.ShutInLaws.{goal-unreached, start-shut}
use Rattle.demands.specs.Statements.{Priced, NoLawfulWay}
use Rattle.demands.specs.TreeTheorems.{search_means}
use Rattle.why_demands.specs.StepLaws.{reached-chained}
use Rattle.sink_claims.specs.Statements.{site_with, BlocksMore, ShutIn, ApproachTaken, OnlyConflicts, VerdictMeans, WireGetsTo, VerdictExactly, SomeWay, JoinableUnblocked}
use Rattle.sink_claims.specs.TreeWallLaws.{gets_to}
use Rattle.sink_claims.specs.SomeWayLaws.{some-way}
use Rattle.sink_claims.specs.ConflictLaws.{each-goal-ends}

-- ---- what is blocked stays so

mark-stays : (p : ℕ → Bool) (ms : List ℕ) (v : ℕ) → is_marked ms v ≡ true → is_marked (marked_by p ms) v ≡ true
unfolding with_byte
mark-stays p [] v e = e
mark-stays p (m ∷ ms) zero e = ask (p 0) (λ t. rw t) (λ f. rw f e)
mark-stays p (m ∷ ms) (suc v) e = mark-stays (λ u. p (suc u)) ms v e

conflicts-block : {S : Site} {start goal n : ℕ} {blocked later : List ℕ} → Conflicts S start goal n blocked later → BlocksMore blocked later
conflicts-block as_blocked = record { still = λ v e. e }
conflicts-block {blocked = blocked} (one_more {v = w} a b c rest) = record { still = λ v e. (conflicts-block rest).still v (mark-stays (eqb w) blocked v e) }

-- ---- a test that does not pass at each cell

not_all : (p : ℕ → Bool) (n : ℕ) → all_below p n ≡ false → (v : ℕ) × (v < n) × (p v ≡ false)
unfolding all_below
not_all p zero e = never (cc)
not_all p (suc n) e =
    ask (p n)
    (λ t. let r = not_all p n (rw t at e) in (r.0, omega (arith, r.1), r.2))
    (λ f. (n, omega arith, f))

not_both : (a b : Bool) → not (a && b) ≡ false → (a ≡ true) × (b ≡ true)
not_both true true e = (refl, refl)
not_both true false e = never (cc)
not_both false b e = never (cc)

-- ---- the three verdicts

module _ (P : Plot) (S : SoundPlot P) (T : Tree) (k : ℕ) (k_in : k < P.taps.count) where
  abbrev a : ℕ
  a = sink_approach P k

  a_in : a < volume P.room
  a_in = S.net.taps_in_lem.approach_in k k_in

  module _ (none : reaches_none P.room (reached_from (ground_of P) P.kinds T.blocked T.joinable a) T.joinable ≡ true) where
    no_way_there : (goal : ℕ) → goal < volume P.room → is_marked T.joinable goal ≡ true → (C : RouterConfig) (places : ℕ) (later : List ℕ) → BlocksMore T.blocked later
        → NoLawfulWay (site_task (site_with P T C places) later a goal)
    no_way_there goal h j C places later B after W =
        let K : Task = site_task (site_with P T C places) later a goal in
        let t : is_reached_of K goal ≡ true =
        (reached-free P.room (obstacle_of K) a a_in goal).1 (reached-chained K S.good goal (record { cells = after; steps = W.leads })) in
        let f : is_reached_of K goal ≡ false =
        goal-unreached P.mode P.room P.kinds T.blocked later T.joinable a goal S.kinds-long j B.still a_in h none C places in
        never (cc)

    no_found : (goal : ℕ) → goal < volume P.room → is_marked T.joinable goal ≡ true → (C : RouterConfig) (places n : ℕ) (path : List ℕ) (cost : ℕ)
        → Reaches (site_with P T C places) n T.blocked a goal path cost → ⊥
    no_found goal h j C places n path cost R =
        let L = (search_means (site_task (site_with P T C places) R.blocked-last a goal) S.good a_in h).found-lawful path cost R.found-so in
        no_way_there goal h j C places R.blocked-last (conflicts-block R.after) L.after L.lawful

    pub shut_in : ShutIn P T k
    shut_in = record {
      no_way = no_way_there;
      no_attempt = λ goal h j C places n path cost e. no_found goal h j C places n path cost (attempts_reach (site_with P T C places) a goal n T.blocked path cost e);
      no_route = λ C places path cost e.
          let J = tree-joins (site_with P T C places) a T.blocked path cost e in
          no_found J.goal J.goal_in J.joinable C places _ path cost J.reaches;
    }

  module _ (taken : routeable_kind true (get_or P.kinds a air) ≡ false) where
    never-starts : (goal : ℕ) (C : RouterConfig) (places : ℕ) (blocked : List ℕ) → routeable (site_task (site_with P T C places) blocked a goal) a ≡ false
    never-starts goal C places blocked = start-shut P.mode P.room P.kinds blocked a goal S.kinds-long a_in taken C places

    kind_not : (kind : ℕ) → routeable_kind true kind ≡ false → (kind ≢ air) × (kind ≢ redstone_wire)
    unfolding routeable_kind
    kind_not kind f = ((λ e. never (cc (rw e at f))), (λ e. never (cc (rw e at f))))

    pub approach_taken_lem : ApproachTaken P k
    unfolding fit_answer
    approach_taken_lem = record {
      no_air = (kind_not (get_or P.kinds a air) taken).0;
      no_wire = (kind_not (get_or P.kinds a air) taken).1;
      number_10 = λ goal C blocked L. rw (never-starts goal C _ blocked);
      no_way = λ U goal C places blocked after W. let f = never-starts goal C places blocked in let t = W.start-free in never (cc);
    }

  module _ (enough : ample P.room P.config ≡ true) where
    ample-means : Priced P.config × (5 * (volume P.room - 1) + 1 ≤ P.config.limit.0)
    unfolding ample
    ample-means =
        let rest = and_right (leb 10 P.config.horizontal.0) _ enough in (
          record {
            flat-least = leb-true 10 P.config.horizontal.0 (and_left _ _ enough);
            stair_least = leb-true 20 P.config.stair.0 (and_left _ _ rest);
          },
          leb-true _ _ (and_right (leb 20 P.config.stair.0) _ rest),
        )

    pub only-conflicts : route_to_tree (site_at P T.joinable) a T.blocked ≡ failed → OnlyConflicts P T k
    only-conflicts fails = record {
      priced = ample-means.0;
      limit-enough = ample-means.1;
      each = each-goal-ends (site_at P T.joinable) S.good a a_in ample-means.0 ample-means.1 T.blocked fails;
    }

  -- ---- which verdict it is

  abbrev given : ℕ → ℕ
  given number = verdict_of P T k number

  -- the approach may hold wire; no joinable cell is reached from it
  abbrev fit : Bool
  fit = routeable_kind true (get_or P.kinds a air)

  abbrev shut : Bool
  shut = reaches_none P.room (reached_from (ground_of P) P.kinds T.blocked T.joinable a) T.joinable

  -- of number 14, by the approach, by what is reached, and by costs and limit; and of any other
  data Case (number : ℕ) : Type 0 where
    case-taken : number ≡ no_goal_number → fit ≡ false → given number ≡ approach_taken → Case number
    case-shut : number ≡ no_goal_number → fit ≡ true → shut ≡ true → given number ≡ is_shut_in → Case number
    case-conflicts : number ≡ no_goal_number → fit ≡ true → shut ≡ false → ample P.room P.config ≡ true → given number ≡ only_conflicts → Case number
    case-cut : number ≡ no_goal_number → fit ≡ true → shut ≡ false → ample P.room P.config ≡ false → given number ≡ cut_short → Case number
    case-other : number ≢ no_goal_number → given number ≡ cut_short → Case number

  which : (number : ℕ) → Case number
  unfolding verdict_for
  which number =
      ask (eqb number no_goal_number)
      (λ n. let is-14 = eqb-true number no_goal_number n in ask fit
      (λ t. ask shut
      (λ s. case-shut is-14 t s (rw (n, t, s)))
      (λ s. ask (ample P.room P.config) (λ e. case-conflicts is-14 t s e (rw (n, t, s, e))) (λ e. case-cut is-14 t s e (rw (n, t, s, e)))))
      (λ t. case-taken is-14 t (rw (n, t))))
      (λ n. case-other (eqb-false number no_goal_number n) (rw n))

  -- number 14 comes where no goal has a route
  fails_by : (number detail : ℕ) → number ≡ no_goal_number → (trial : Trial) → after_sink P k T trial ≡ stopped number detail → trial ≡ failed
  unfolding after_sink
  fails_by number detail n (found path cost) e =
      ask (fits_in P T (branch_of (tap_at P k) path))
      (λ t. never (cc (rw t at e)))
      (λ f. let q : branches_full_number ≡ number = cc (rw f at e) in absurd (omega (arith, n, q)))
  fails_by number detail n failed e = refl
  fails_by number detail n (full x) e = let q : queue_full_number ≡ number = cc in absurd (omega (arith, n, q))

  -- THE VERDICT IS TRUE of a sink at whose turn the growth stops
  pub verdict_true : (number detail : ℕ) → grow_sink P k T ≡ stopped number detail → VerdictMeans P T k number (given number)
  unfolding grow_sink
  verdict_true number detail e = go (which number)
    where
      cut : given number ≡ cut_short → VerdictMeans P T k number (given number)
      cut q = rw q (record {
        as_approach_taken = λ z. absurd (omega arith);
        as_shut_in = λ z. absurd (omega arith);
        as_conflicts = λ z. absurd (omega arith);
        as_queue_full = λ z. refl;
        some = omega arith;
        no_other = omega arith;
      })

      go : Case number → VerdictMeans P T k number (given number)
      go (case-taken n t q) = rw q (record {
        as_approach_taken = λ z. (n, approach_taken_lem t);
        as_shut_in = λ z. absurd (omega arith);
        as_conflicts = λ z. absurd (omega arith);
        as_queue_full = λ z. absurd (omega (arith, n, z));
        some = omega arith;
        no_other = omega arith;
      })
      go (case-shut n t s q) = rw q (record {
        as_approach_taken = λ z. absurd (omega arith);
        as_shut_in = λ z. (n, shut_in s);
        as_conflicts = λ z. absurd (omega arith);
        as_queue_full = λ z. absurd (omega (arith, n, z));
        some = omega arith;
        no_other = omega arith;
      })
      go (case-conflicts n t s e' q) = rw q (record {
        as_approach_taken = λ z. absurd (omega arith);
        as_shut_in = λ z. absurd (omega arith);
        as_conflicts = λ z. (n, only-conflicts e' (fails_by number detail n _ e));
        as_queue_full = λ z. absurd (omega (arith, n, z));
        some = omega arith;
        no_other = omega arith;
      })
      go (case-cut n t s e' q) = cut q
      go (case-other n q) = cut q

  -- of one that is shut in, no joinable cell is reached
  pub none-reached : (number : ℕ) → given number ≡ is_shut_in → shut ≡ true
  none-reached number e = go (which number)
    where
      go : Case number → shut ≡ true
      go (case-taken n t q) = absurd (omega (arith, e, q))
      go (case-shut n t s q) = s
      go (case-conflicts n t s x q) = absurd (omega (arith, e, q))
      go (case-cut n t s x q) = absurd (omega (arith, e, q))
      go (case-other n q) = absurd (omega (arith, e, q))

  -- ---- each is given exactly where it holds

  kind-fit : (kind : ℕ) → kind ≢ air → kind ≢ redstone_wire → routeable_kind true kind ≡ false
  unfolding routeable_kind
  kind-fit kind m n = rw (ne_eqb kind air m, ne_eqb kind redstone_wire n)

  not_taken : fit ≡ true → (get_or P.kinds a air ≢ air) × (get_or P.kinds a air ≢ redstone_wire) → ⊥
  not_taken t q = let f = kind-fit (get_or P.kinds a air) q.0 q.1 in never (cc)

  abbrev NoneGot : Type 0
  NoneGot = (goal : ℕ) → goal < volume P.room → is_marked T.joinable goal ≡ true → WireGetsTo P T a goal → ⊥

  none_got : shut ≡ true → NoneGot
  unfolding reaches_none
  none_got s goal h j W =
      let t = (gets_to P T a S.good a_in goal).1 W in
      let n = below_all _ (volume P.room) s goal h in
      never (cc (rw (t, j) at n))

  some_got : shut ≡ false → (goal : ℕ) × (goal < volume P.room) × (is_marked T.joinable goal ≡ true) × WireGetsTo P T a goal
  unfolding reaches_none
  some_got f =
      let r = not_all _ (volume P.room) f in
      let both = not_both _ _ r.2 in
      (r.0, r.1, both.1, (gets_to P T a S.good a_in r.0).0 both.0)

  not_none : shut ≡ false → NoneGot → ⊥
  not_none f none = let g = some_got f in none g.0 g.1 g.2 g.3

  is-ample : Priced P.config → 5 * (volume P.room - 1) + 1 ≤ P.config.limit.0 → ample P.room P.config ≡ true
  unfolding ample
  is-ample D h = and_both (le-leb _ _ D.flat-least) (and_both (le-leb _ _ D.stair_least) (le-leb _ _ h))

  pub verdict-exact : (number : ℕ) → number ≡ no_goal_number → VerdictExactly P T k (given number)
  verdict-exact number is-14 = go (which number)
    where
      go : Case number → VerdictExactly P T k (given number)
      go (case-taken n t q) = rw q (record {
        taken-exactly = ((λ z. kind_not t (get_or P.kinds a air) t), (λ z. refl));
        shut_in_exactly = ((λ z. absurd (omega arith)), (λ z. absurd (z.0 refl)));
        conflicts-exactly = ((λ z. absurd (omega arith)), (λ z. absurd (z.0 refl)));
      })
      go (case-shut n t s q) = rw q (record {
        taken-exactly = ((λ z. absurd (omega arith)), (λ z. absurd (not_taken t z)));
        shut_in_exactly = ((λ z. ((λ y. omega arith), none_got s)), (λ z. refl));
        conflicts-exactly = ((λ z. absurd (omega arith)), (λ z. absurd (z.1 refl)));
      })
      go (case-conflicts n t s e q) = rw q (record {
        taken-exactly = ((λ z. absurd (omega arith)), (λ z. absurd (not_taken t z)));
        shut_in_exactly = ((λ z. absurd (omega arith)), (λ z. absurd (not_none s z.1)));
        conflicts-exactly = ((λ z. ((λ y. omega arith), (λ y. omega arith), (ample-means e).0, (ample-means e).1)), (λ z. refl));
      })
      go (case-cut n t s e q) = rw q (record {
        taken-exactly = ((λ z. absurd (omega arith)), (λ z. absurd (not_taken t z)));
        shut_in_exactly = ((λ z. absurd (omega arith)), (λ z. absurd (not_none s z.1)));
        conflicts-exactly = ((λ z. absurd (omega arith)), (λ z. let y = is-ample z.2 z.3 in never (cc)));
      })
      go (case-other n q) = absurd (n is-14)

  -- one that is not shut in, and whose approach is free, has a way in some first search
  pub else_way : (number : ℕ) → number ≡ no_goal_number → given number ≢ approach_taken → given number ≢ is_shut_in → JoinableUnblocked P T → SomeWay P T k
  else_way number is-14 m n free = go (which number)
    where
      from : fit ≡ true → shut ≡ false → SomeWay P T k
      from t s = let g = some_got s in some-way P S T k k_in free t g.0 g.2 g.3

      go : Case number → SomeWay P T k
      go (case-taken x t q) = absurd (m q)
      go (case-shut x t s q) = absurd (n q)
      go (case-conflicts x t s e q) = from t s
      go (case-cut x t s e q) = from t s
      go (case-other x q) = absurd (x is-14)
