-- A sink that is not shut in has a lawful way to some joinable cell in its first search: open steps up to the first joinable cell are lawful steps of the search
-- for that cell.
use Rattle.std.specs.Prelude.{◌≡◌, Bool, ◌&&◌, ◌||◌, List, [], ◌∷◌, ℕ, ◌<◌, eqb, get_or, Option, Some, None}
use Rattle.std.proofs.Math.Path.{refl}
use Rattle.std.proofs.Common.{sym, ◌∙◌, arith, eq-eqb, ne_eqb}
use Rattle.std.proofs.Math.Bool.{true, false, not, and-false}
use Rattle.std.proofs.lemmas.Bool.{eqb-false}
use Rattle.basics.specs.Tests.{ask, never}
use Rattle.room.specs.declared.RouterConfig.{RouterConfig}
use Rattle.room.specs.Room.{volume, beneath, holds_at}
use Rattle.room.specs.Units.{air}
use Rattle.ground.specs.declared.Mode.{Mode}
use Rattle.ground.specs.declared.Mode.TheVariants.{Published, Strict}
use Rattle.room_search.specs.Routing.{Task, kind_at, routeable_kind, routeable, bearing}
use Rattle.room_search.specs.SearchEndLaws.{start-is-end}
use Rattle.routing_resources.specs.Marks.{is_marked}
use Rattle.blocked_world.specs.BlockedWorld.{blocked_air}
use Rattle.blocked_world.specs.SeenLaws.{end_open, seen_open}
use Rattle.goals.specs.Goals.{site_task}
use Rattle.multinet.specs.Tree.{Plot, Tree}
use Rattle.multinet.specs.Growing.{SoundPlot}
use Rattle.why_tree.specs.WhyTree.{exempt, kept_free, strictly, sink_approach}
use Rattle.demands.specs.Lawful.{LawfulStep, LawfulSteps, LawfulWay}
use Rattle.demands.specs.ModeStatements.{open_task, blocked_in}
use Rattle.demands.specs.ModeTheorems.{steps_mean}
use Rattle.sink_claims.specs.Statements.{site_with, OpenStep, OpenSteps, WireGetsTo, SomeWay, JoinableUnblocked}

-- open steps of which none but the last leads to a joinable cell
abbrev UpTo : Plot → Tree → ℕ → ℕ → ℕ → List ℕ → Type 0
UpTo P T a goal u [] = u ≡ goal
UpTo P T a goal u (v ∷ l) = OpenStep P T a u v × (is_marked T.joinable v ≡ true → v ≡ goal) × UpTo P T a goal v l

-- a way that joins the net does so for the first time somewhere
first-joinable : (P : Plot) (T : Tree) (a : ℕ) (l : List ℕ) (u t : ℕ) → OpenSteps P T a u l t → is_marked T.joinable t ≡ true → is_marked T.joinable u ≡ false
    → (goal : ℕ) × (after : List ℕ) × (is_marked T.joinable goal ≡ true) × UpTo P T a goal u after
first-joinable P T a [] u t s j n = let m : is_marked T.joinable t ≡ false = rw s at n in never (cc)
first-joinable P T a (v ∷ l) u t s j n =
    ask (is_marked T.joinable v)
    (λ y. (v, v ∷ [], y, (s.0, (λ e. refl), refl)))
    (λ y.
    let r = first-joinable P T a l v t s.1 j y in
    (r.0, v ∷ r.1, r.2, (s.0, (λ e. never (cc)), r.3)))

module _ (P : Plot) (S : SoundPlot P) (T : Tree) (k : ℕ) (free : JoinableUnblocked P T) (C : RouterConfig) (places : ℕ) where
  abbrev a : ℕ
  a = sink_approach P k

  abbrev task : ℕ → Task
  task goal = site_task (site_with P T C places) T.blocked a goal

  -- for the search the goal alone is exempt, so a cell of the way that is joinable must be the goal
  module _ (goal v : ℕ) (joins : is_marked T.joinable goal ≡ true) (only : is_marked T.joinable v ≡ true → v ≡ goal) where
    the_goal : eqb v goal ≡ is_marked T.joinable v
    the_goal =
        ask (is_marked T.joinable v)
        (λ t. eq-eqb v goal (only t) ∙ sym t)
        (λ f. ne_eqb v goal (λ e. let j : is_marked T.joinable goal ≡ false = rw e at f in never (cc)) ∙ sym f)

    -- open to the search as it is to the flood
    not_entered : kept_free P.kinds T.blocked T.joinable a v ≡ false → blocked_air P.kinds T.blocked a goal v ≡ false
    unfolding blocked_air kept_free
    not_entered f = rw the_goal f

    entered : routeable_kind (exempt T.joinable a v) (get_or P.kinds v air) ≡ true → routeable (open_task (site_with P T C places) a goal) v ≡ true
    unfolding routeable
    entered e = rw the_goal e

  -- what bears a cell of the way
  not_rested : (goal : ℕ) → P.mode ≡ Strict → (place : Option ℕ) → holds_at (kept_free P.kinds T.blocked T.joinable a) place ≡ false
      → blocked_in P.kinds T.blocked a goal place ≡ false
  unfolding blocked_air kept_free
  not_rested goal strict None f = refl
  not_rested goal strict (Some u) f =
      ask (is_marked T.blocked u)
      (λ b. ask (is_marked T.joinable u)
      (λ j. let n = free strict u j in never (cc))
      (λ j. rw b (less (eqb (get_or P.kinds u air) air) (eqb u a) (eqb u goal) (rw (b, j) at f))))
      (λ n. rw (n, and-false (eqb (get_or P.kinds u air) air)))
    where
      less : (x y z : Bool) → x && not (y || false) ≡ false → x && not (y || z) ≡ false
      less true true z e = refl
      less true false z e = never (cc)
      less false y z e = refl

  strictly-so : (mode : Mode) (b : Bool) → mode ≡ Strict → strictly mode b ≡ false → b ≡ false
  strictly-so Published b s f = never (cc)
  strictly-so Strict b s f = f

  step-lawful : (goal u v : ℕ) → is_marked T.joinable goal ≡ true → (is_marked T.joinable v ≡ true → v ≡ goal) → OpenStep P T a u v → LawfulStep (task goal) u v
  step-lawful goal u v joins only O =
      ((steps_mean (site_with P T C places) S.kinds-long T.blocked a goal).exactly u v).1
      (record {
        unblocked = record {
          to_in = O.to_in;
          aside = O.aside;
          rise = O.rise;
          enters = entered goal v joins only O.enters.holds;
          stands = bears (bearing (kind_at P.kinds (beneath P.room v))) O.enters.bears;
        };
        not_entered = not_entered goal v joins only O.enters.not_kept;
        not_rested_on = λ strict. not_rested goal strict (beneath P.room v) (strictly-so P.mode _ strict O.enters.not_on_kept);
      })
    where
      bears : (n : ℕ) → eqb n 0 ≡ false → 0 < n
      bears n f = let d = eqb-false n 0 f in omega (arith, d)

  up-to-lawful : (goal : ℕ) → is_marked T.joinable goal ≡ true → (l : List ℕ) (u : ℕ) → UpTo P T a goal u l → LawfulSteps (task goal) u l goal
  up-to-lawful goal j [] u s = s
  up-to-lawful goal j (v ∷ l) u s = (step-lawful goal u v j s.1 s.0, up-to-lawful goal j l v s.2)

  last-enters : (goal : ℕ) (l : List ℕ) (u t : ℕ) → LawfulSteps (task goal) u l t → routeable (task goal) u ≡ true → routeable (task goal) t ≡ true
  last-enters goal [] u t s e = rw s at e
  last-enters goal (v ∷ l) u t s e = last-enters goal l v t s.1 s.0.enters

  module _ (a_in : a < volume P.room) (fit : routeable_kind true (get_or P.kinds a air) ≡ true) where
    start-free : (goal : ℕ) → routeable (task goal) a ≡ true
    unfolding routeable
    start-free goal =
        let an-end = start-is-end a goal in
        rw (an-end, seen_open P.kinds T.blocked a goal a P.mode (rw S.kinds-long a_in) (end_open P.kinds T.blocked a goal a an-end)) fit

    way-there : (goal : ℕ) → is_marked T.joinable goal ≡ true → (after : List ℕ) → UpTo P T a goal a after → LawfulWay (task goal) after
    way-there goal j after s =
        let steps = up-to-lawful goal j after a s in
        record { start_in = a_in; start-free = start-free goal; goal-free = last-enters goal after a goal steps (start-free goal); leads = steps }

goal-inside : (P : Plot) (T : Tree) (a goal : ℕ) (l : List ℕ) (u : ℕ) → u < volume P.room → UpTo P T a goal u l → goal < volume P.room
goal-inside P T a goal [] u h s = rw s at h
goal-inside P T a goal (v ∷ l) u h s = goal-inside P T a goal l v s.0.to_in s.2

module _ (P : Plot) (S : SoundPlot P) (T : Tree) (k : ℕ) (k_in : k < P.taps.count) (free : JoinableUnblocked P T)
    (fit : routeable_kind true (get_or P.kinds (sink_approach P k) air) ≡ true) where
  by_first : (goal : ℕ) (after : List ℕ) → is_marked T.joinable goal ≡ true → UpTo P T (sink_approach P k) goal (sink_approach P k) after → SomeWay P T k
  by_first goal after j s =
      let a_in = S.net.taps_in_lem.approach_in k k_in in
      record {
        goal = goal;
        goal_in = goal-inside P T (sink_approach P k) goal after (sink_approach P k) a_in s;
        joins = j;
        after = after;
        way = λ C places. way-there P S T k free C places a_in fit goal j after s;
      }

  pub some-way : (t : ℕ) → is_marked T.joinable t ≡ true → WireGetsTo P T (sink_approach P k) t → SomeWay P T k
  some-way t j W =
      ask (is_marked T.joinable (sink_approach P k))
      (λ y. by_first (sink_approach P k) [] y refl)
      (λ n. let r = first-joinable P T (sink_approach P k) W.cells (sink_approach P k) t W.steps j n in by_first r.0 r.1 r.2 r.3)
