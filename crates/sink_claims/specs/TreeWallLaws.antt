-- Laws of what `reached` and `walls` say: a move against which nothing stands is an open step, and an open step is such a move.
use Rattle.std.specs.Prelude.{◌≡◌, ◌↔◌, Bool, List, [], ◌∷◌, ◌++◌, ℕ, ◌+◌, ◌*◌, ◌≤◌, ◌<◌, get_or, Option, Some, None}
use Rattle.std.proofs.Math.Path.{refl, ap}
use Rattle.std.proofs.Common.{sym, ◌∙◌}
use Rattle.std.proofs.Math.Bool.{true, false}
use native.Mathlib.Omega.{arith}
use Rattle.std.proofs.Math.ListN.{get_or-append}
use Rattle.basics.specs.Tests.{either, ask, never}
use Rattle.basics.specs.Lists.{In, below_all}
use Rattle.basics.specs.Counts.{bit, bit-small}
use Rattle.room.specs.Room.{Good, volume, beneath, move_at, neighbour, apart}
use Rattle.room.specs.MoveLaws.{move-small, leads, apart_by}
use Rattle.room_search.specs.Routing.{Task, kind_at, routeable_kind, routeable, bearing}
use Rattle.routing.specs.Answers.{task_in}
use Rattle.routing_resources.specs.Marks.{is_marked}
use Rattle.walk.specs.Chains.{Chain}
use Rattle.walk.specs.ChainLaws.{chained-on, chained-step}
use Rattle.flood.specs.Walls.{allowed, reason_at, reason_by, free_by, reached_by, marks_by, wall_at, walls_by}
use Rattle.flood.specs.TableLaws.{tabled-long, tabled-at}
use Rattle.flood.specs.FloodLaws.{free-by, by-free, reached-free}
use Rattle.flood.specs.WallLaws.{walls-at}
use Rattle.multinet.specs.Tree.{Plot, Tree}
use Rattle.why.specs.Why.{taken, bad_support, obstacle_for, obstacle_of}
use Rattle.why_tree.specs.WhyTree.{is_kept_free, support_kept_free, tree_obstacle, reaches_none}
use Rattle.demands.specs.Lawful.{LawfulStep}
use Rattle.why_demands.specs.StepLaws.{lawful-free}
use Rattle.sink_claims.specs.Statements.{may_hold, bears_none, kept_in, rests_on_kept, OpenCell, OpenStep, OpenSteps, WireGetsTo, SaysOf, SaysAt, WallsSay}

-- a test passes and does not
clash : {b : Bool} {X : Type 0} → b ≡ true → b ≡ false → X
clash t f = never (cc)

module _ (P : Plot) (T : Tree) (a : ℕ) where
  abbrev against : ℕ → ℕ
  against = tree_obstacle P.mode P.room P.kinds T.blocked T.joinable a

  -- ---- what stands against a cell

  module _ (v : ℕ) where
    when_taken : may_hold P T a v ≡ false → against v ≡ taken
    unfolding tree_obstacle obstacle_for
    when_taken t = rw t

    when_bad : may_hold P T a v ≡ true → bears_none P v ≡ true → against v ≡ bad_support
    unfolding tree_obstacle obstacle_for
    when_bad t z = rw (t, z)

    when_kept : may_hold P T a v ≡ true → bears_none P v ≡ false → kept_in P T a v ≡ true → against v ≡ is_kept_free
    unfolding tree_obstacle obstacle_for
    when_kept t z f = rw (t, z, f)

    when_on_kept : may_hold P T a v ≡ true → bears_none P v ≡ false → kept_in P T a v ≡ false → rests_on_kept P T a v ≡ true → against v ≡ support_kept_free
    unfolding tree_obstacle obstacle_for
    when_on_kept t z f s = rw (t, z, f, s)

    when_open : OpenCell P T a v → against v ≡ allowed
    unfolding tree_obstacle obstacle_for
    when_open O = rw (O.holds, O.bears, O.not_kept, O.not_on_kept)

    as_taken : may_hold P T a v ≡ false → SaysOf P T a v (against v)
    as_taken t = rw (when_taken t) (record {
      as_allowed = ((λ z. absurd (omega arith)), (λ O. clash O.holds t));
      as_taken = ((λ z. t), (λ q. refl));
      as_bad_support = ((λ z. absurd (omega arith)), (λ q. clash q.0 t));
      as_kept_free = ((λ z. absurd (omega arith)), (λ q. clash q.0 t));
      as_on_kept_free = ((λ z. absurd (omega arith)), (λ q. clash q.0 t));
      not_outside = λ z. omega arith;
      no_other = omega arith;
    })

    module _ (t : may_hold P T a v ≡ true) where
      as_bad : bears_none P v ≡ true → SaysOf P T a v (against v)
      as_bad z = rw (when_bad t z) (record {
        as_allowed = ((λ q. absurd (omega arith)), (λ O. clash z O.bears));
        as_taken = ((λ q. absurd (omega arith)), (λ q. clash t q));
        as_bad_support = ((λ q. (t, z)), (λ q. refl));
        as_kept_free = ((λ q. absurd (omega arith)), (λ q. clash z q.1));
        as_on_kept_free = ((λ q. absurd (omega arith)), (λ q. clash z q.1));
        not_outside = λ q. omega arith;
        no_other = omega arith;
      })

      module _ (z : bears_none P v ≡ false) where
        as_kept : kept_in P T a v ≡ true → SaysOf P T a v (against v)
        as_kept f = rw (when_kept t z f) (record {
          as_allowed = ((λ q. absurd (omega arith)), (λ O. clash f O.not_kept));
          as_taken = ((λ q. absurd (omega arith)), (λ q. clash t q));
          as_bad_support = ((λ q. absurd (omega arith)), (λ q. clash q.1 z));
          as_kept_free = ((λ q. (t, z, f)), (λ q. refl));
          as_on_kept_free = ((λ q. absurd (omega arith)), (λ q. clash f q.2));
          not_outside = λ q. omega arith;
          no_other = omega arith;
        })

        as_on_kept : kept_in P T a v ≡ false → rests_on_kept P T a v ≡ true → SaysOf P T a v (against v)
        as_on_kept f s = rw (when_on_kept t z f s) (record {
          as_allowed = ((λ q. absurd (omega arith)), (λ O. clash s O.not_on_kept));
          as_taken = ((λ q. absurd (omega arith)), (λ q. clash t q));
          as_bad_support = ((λ q. absurd (omega arith)), (λ q. clash q.1 z));
          as_kept_free = ((λ q. absurd (omega arith)), (λ q. clash q.2 f));
          as_on_kept_free = ((λ q. (t, z, f, s)), (λ q. refl));
          not_outside = λ q. omega arith;
          no_other = omega arith;
        })

        as_open : kept_in P T a v ≡ false → rests_on_kept P T a v ≡ false → SaysOf P T a v (against v)
        as_open f s =
            let O : OpenCell P T a v = record { holds = t; bears = z; not_kept = f; not_on_kept = s } in
            rw (when_open O) (record {
              as_allowed = ((λ q. O), (λ q. refl));
              as_taken = ((λ q. absurd (omega arith)), (λ q. clash t q));
              as_bad_support = ((λ q. absurd (omega arith)), (λ q. clash q.1 z));
              as_kept_free = ((λ q. absurd (omega arith)), (λ q. clash q.2 f));
              as_on_kept_free = ((λ q. absurd (omega arith)), (λ q. clash q.3 s));
              not_outside = λ q. omega arith;
              no_other = omega arith;
            })

    cell-says : SaysOf P T a v (against v)
    cell-says =
        ask (may_hold P T a v)
        (λ t. ask (bears_none P v) (as_bad t)
        (λ z. ask (kept_in P T a v) (as_kept t z) (λ f. ask (rests_on_kept P T a v) (as_on_kept t z f) (as_open t z f))))
        as_taken

  move-says : (u i : ℕ) → SaysAt P T a (neighbour P.room u (move_at i)) (reason_by P.room against u i)
  move-says u i = go (neighbour P.room u (move_at i))
    where
      go : (place : Option ℕ) → SaysAt P T a place (reason_at against place)
      go (Some v) = cell-says v
      go None = refl

  -- ---- moves and steps

  free_open : (u v : ℕ) → In v (free_by P.room against u) → OpenStep P T a u v
  free_open u v i =
      let O = free-by P.room against u v i in
      let l = leads P.room u (move_at O.by) v O.there.is in
      let s = move-small O.by O.below in
      record {
        to_in = l.inside;
        aside = rw (apart_by _ _ _ l.moved.x_by, apart_by _ _ _ l.moved.z_by) s.aside;
        rise = rw (apart_by _ _ _ l.moved.y_by) (at_most_one (move_at O.by).y s.y_small);
        enters = (cell-says v).as_allowed.0 O.there.free;
      }
    where
      at_most_one : (o : ℕ) → o ≤ 2 → apart o 1 ≤ 1
      at_most_one o h = omega arith

  open_chain : (l : List ℕ) (u v : ℕ) → Chain (free_by P.room against) u l v → OpenSteps P T a u l v
  open_chain [] u v s = s
  open_chain (w ∷ l) u v s = (free_open u w s.0, open_chain l w v s.1)

  -- in a room of Air every such step is lawful, so a move leads there
  abbrev empty : ℕ → ℕ → Task
  empty u v = task_in P.room P.config [] u v 0

  air-bears : (place : Option ℕ) → 0 < bearing (kind_at [] place)
  unfolding bearing
  air-bears (Some v) = omega arith
  air-bears None = omega arith

  air-entered : (u v w : ℕ) → routeable (empty u v) w ≡ true
  unfolding routeable routeable_kind
  air-entered u v w = refl

  module _ (good : Good P.room) where
    open_free : (u v : ℕ) → OpenStep P T a u v → In v (free_by P.room against u)
    open_free u v O =
        let step : LawfulStep (empty u v) u v = record { to_in = O.to_in; aside = O.aside; rise = O.rise; enters = air-entered u v v; stands = air-bears (beneath P.room v) } in
        let M = free-by P.room (obstacle_of (empty u v)) u v (lawful-free (empty u v) good u v step) in
        by-free P.room against u v (record { by = M.by; below = M.below; there = record { is = M.there.is; free = when_open v O.enters } })

    chain_open : (l : List ℕ) (u v : ℕ) → OpenSteps P T a u l v → Chain (free_by P.room against) u l v
    chain_open [] u v s = s
    chain_open (w ∷ l) u v s = (open_free u w s.0, chain_open l w v s.1)

    module _ (a_in : a < volume P.room) where
      -- reached are exactly the cells that wire gets to
      pub gets_to : (v : ℕ) → (reached_by P.room against a v ≡ true) ↔ WireGetsTo P T a v
      gets_to v =
          let R = reached-free P.room against a a_in v in (
            (λ t. let C = R.0 t in record { cells = C.cells; steps = open_chain C.cells a v C.chain }),
            (λ W. R.1 (record { cells = W.cells; chain = chain_open W.cells a v W.steps })),
          )

      step-on : (u v : ℕ) → OpenStep P T a u v → reached_by P.room against a u ≡ true → reached_by P.room against a v ≡ true
      step-on u v O t =
          let F = free_by P.room against in
          let C = (reached-free P.room against a a_in u).0 t in
          (reached-free P.room against a a_in v).1 (chained-on F a u v C (chained-step F u v (open_free u v O)))

-- ---- the two outputs, whatever stands behind them

bit_true : (b : Bool) → bit b ≡ 1 → b ≡ true
bit_true true e = refl
bit_true false e = absurd (omega arith)

bit_false : (b : Bool) → bit b ≡ 0 → b ≡ false
bit_false true e = absurd (omega arith)
bit_false false e = refl

module _ (P : Plot) (T : Tree) (a : ℕ) (good : Good P.room) (a_in : a < volume P.room) (after-reached after-walls : List ℕ) where
  abbrev is-reached : ℕ → Bool
  is-reached = reached_by P.room (against P T a) a

  abbrev reached : List ℕ
  reached = marks_by P.room (against P T a) a ++ after-reached

  abbrev walls : List ℕ
  walls = walls_by P.room (against P T a) a ++ after-walls

  abbrev cells : ℕ
  cells = volume P.room

  mark-at : (v : ℕ) → v < cells → get_or reached v 0 ≡ bit (is-reached v)
  mark-at v h =
      get_or-append (marks_by P.room (against P T a) a) after-reached 0 v (rw (tabled-long cells (λ x. bit (is-reached x))) h)
      ∙ tabled-at cells (λ x. bit (is-reached x)) v h

  byte_at : (u i : ℕ) → u < cells → i < 12 → get_or walls (12 * u + i) 0 ≡ either (is-reached u) (reason_by P.room (against P T a) u i) 0
  byte_at u i h l =
      get_or-append (walls_by P.room (against P T a) a) after-walls 0 (12 * u + i)
      (rw (tabled-long (12 * cells) (wall_at P.room (against P T a) is-reached)) (omega arith))
      ∙ walls-at P.room (against P T a) is-reached u i h l

  is-marked : (v : ℕ) → v < cells → get_or reached v 0 ≡ 1 → is-reached v ≡ true
  is-marked v h e = bit_true (is-reached v) (sym (mark-at v h) ∙ e)

  marked-is : (v : ℕ) → v < cells → is-reached v ≡ true → get_or reached v 0 ≡ 1
  marked-is v h t = mark-at v h ∙ ap bit t

  pub walls_say : reaches_none P.room is-reached T.joinable ≡ true → WallsSay P T a reached walls
  unfolding reaches_none
  walls_say none = record {
    marked = λ v h. ((λ e. (gets_to P T a good a_in v).0 (is-marked v h e)), (λ W. marked-is v h ((gets_to P T a good a_in v).1 W)));
    marks-small = λ v h. rw (mark-at v h) (bit-small (is-reached v));
    says-why = λ u i h l e. rw (byte_at u i h l, is-marked u h e) (move-says P T a u i);
    unreached = λ u i h l e. byte_at u i h l ∙ rw (bit_false (is-reached u) (sym (mark-at u h) ∙ e));
    approach_in = marked-is a a_in ((gets_to P T a good a_in a).1 (record { cells = []; steps = refl }));
    joinable-out = λ goal h j. mark-at goal h ∙ ap bit (out goal h j);
    none-leaves = λ u v h e O. marked-is v O.to_in (step-on P T a good a_in u v O (is-marked u h e));
  }
    where
      out : (goal : ℕ) → goal < cells → is_marked T.joinable goal ≡ true → is-reached goal ≡ false
      out goal h j =
          ask (is-reached goal)
          (λ t. let n = below_all _ cells none goal h in never (cc (rw (t, j) at n)))
          (λ f. f)
