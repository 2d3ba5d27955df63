-- A move against which nothing stands is a lawful step, and a lawful step is such a move.
use Rattle.std.specs.Prelude.{◌≡◌, true, false, List, [], ◌∷◌, ℕ, suc, ◌≤◌, ◌<◌, eqb, length, get_or, Option, Some, None}
use Rattle.std.proofs.Math.Path.{refl}
use Rattle.std.proofs.Common.{sym, inl, inr, arith}
use borrow.Author.Tests.{eqb-true, eqb-false, eq-eqb, ne_eqb}
use Rattle.basics.specs.Tests.{ask, never}
use Rattle.basics.specs.Lists.{In}
use Rattle.room.specs.declared.Move.{Move}
use Rattle.room.specs.declared.RouterConfig.{RouterConfig}
use Rattle.room.specs.Room.{Good, pos_of, by, moves, move_at, neighbour, move_between, apart}
use Rattle.room.specs.MoveLaws.{move-small, leads, leads-cell, apart_by, between-moved, between-listed}
use Rattle.room_search.specs.Routing.{Task, routeable, bearing}
use Rattle.routing.specs.Answers.{task_in}
use Rattle.demands.specs.Lawful.{support_of, LawfulStep, LawfulSteps}
use Rattle.walk.specs.Chains.{Chain, Chained}
use Rattle.flood.specs.Walls.{allowed, reason_at, free_by}
use Rattle.flood.specs.Flooding.{OpenBy}
use Rattle.flood.specs.FloodLaws.{free-by, by-free}
use Rattle.why.specs.Why.{taken, bad_support, obstacle_for, obstacle_of, reason_of}
use Rattle.why_demands.specs.Statements.{LawfullyReached, SaysWhy}

-- ---- what stands against a cell

module _ (T : Task) (v : ℕ) where
  obstacle-taken : routeable T v ≡ false → obstacle_of T v ≡ taken
  unfolding obstacle_for routeable
  obstacle-taken f = rw f

  obstacle-bad : routeable T v ≡ true → bearing (support_of T v) ≡ 0 → obstacle_of T v ≡ bad_support
  unfolding obstacle_for routeable
  obstacle-bad t z = rw (t, eq-eqb (bearing (support_of T v)) 0 z)

  obstacle-none : routeable T v ≡ true → (bearing (support_of T v) ≡ 0 → ⊥) → obstacle_of T v ≡ allowed
  unfolding obstacle_for routeable
  obstacle-none t n = rw (t, ne_eqb (bearing (support_of T v)) 0 n)

  data Case : Type 0 where
    case-taken : routeable T v ≡ false → obstacle_of T v ≡ taken → Case
    case-bad : routeable T v ≡ true → bearing (support_of T v) ≡ 0 → obstacle_of T v ≡ bad_support → Case
    case-free : routeable T v ≡ true → (bearing (support_of T v) ≡ 0 → ⊥) → obstacle_of T v ≡ allowed → Case

  case : Case
  case =
      ask (routeable T v)
      (λ t. ask (eqb (bearing (support_of T v)) 0)
      (λ z. case-bad t (eqb-true _ 0 z) (obstacle-bad t (eqb-true _ 0 z)))
      (λ n. case-free t (eqb-false _ 0 n) (obstacle-none t (eqb-false _ 0 n))))
      (λ f. case-taken f (obstacle-taken f))

-- ---- moves and steps

in_place : (m : Move) (ms : List Move) → In m ms → (k : ℕ) × (k < length ms) × (get_or ms k (by 0 0 0) ≡ m)
in_place m [] i = absurd i
in_place m (n ∷ ms) (inl e) = (0, omega arith, sym e)
in_place m (n ∷ ms) (inr i) = let r = in_place m ms i in (suc r.0, omega (arith, r.1), r.2)

move-place : (m : Move) → In m moves → (k : ℕ) × (k < 12) × (move_at k ≡ m)
unfolding moves
move-place m i = in_place m moves i

at_most_one : (o : ℕ) → o ≤ 2 → apart o 1 ≤ 1
at_most_one o h = omega arith

module _ (T : Task) where
  move_step : (u i : ℕ) → i < 12 → (v : ℕ) → neighbour T.room u (move_at i) ≡ Some v → routeable T v ≡ true → (bearing (support_of T v) ≡ 0 → ⊥) → LawfulStep T u v
  move_step u i h v e t n =
      let l = leads T.room u (move_at i) v e in
      let s = move-small i h in
      record {
        to_in = l.inside;
        aside = rw (apart_by _ _ _ l.moved.x_by, apart_by _ _ _ l.moved.z_by) s.aside;
        rise = rw (apart_by _ _ _ l.moved.y_by) (at_most_one (move_at i).y s.y_small);
        enters = t;
        stands = omega (arith, n);
      }

  -- what is said of a move by its byte
  pub reason-says : (u i : ℕ) → i < 12 → SaysWhy T u i (reason_of T u i)
  reason-says u i h = go (neighbour T.room u (move_at i)) refl
    where
      one : {v w : ℕ} → neighbour T.room u (move_at i) ≡ Some v → neighbour T.room u (move_at i) ≡ Some w → w ≡ v
      one p q = cc

      inside : (v : ℕ) → neighbour T.room u (move_at i) ≡ Some v → Case T v → SaysWhy T u i (obstacle_of T v)
      inside v e (case-taken f q) = rw q (record {
        as_allowed = ((λ z. never (cc)), (λ L. let k = one e L.there in let t : routeable T v ≡ true = rw k at L.step.enters in never (cc)));
        as_outside = ((λ z. absurd (omega arith)), (λ o. never (cc (o, e))));
        as_taken = ((λ z. record { cell = v; there = e; is-taken = f }), (λ K. refl));
        as_bad_support = ((λ z. absurd (omega arith)), (λ K. absurd (K.1 (record { cell = v; there = e; is-taken = f }))));
        no_other = omega arith;
      })
      inside v e (case-bad t b q) = rw q (record {
        as_allowed = ((λ z. absurd (omega arith)), (λ L. let k = one e L.there in let s : 0 < bearing (support_of T v) = rw k at L.step.stands in absurd (omega (arith, b, s))));
        as_outside = ((λ z. absurd (omega arith)), (λ o. never (cc (o, e))));
        as_taken = ((λ z. absurd (omega arith)), (λ K. let k = one e K.there in let f : routeable T v ≡ false = rw k at K.is-taken in never (cc)));
        as_bad_support = (
          (λ z. (record { cell = v; there = e; bears-none = b }, (λ K. let k = one e K.there in let f : routeable T v ≡ false = rw k at K.is-taken in never (cc)))),
          (λ K. refl),
        );
        no_other = omega arith;
      })
      inside v e (case-free t n q) = rw q (record {
        as_allowed = ((λ z. record { cell = v; there = e; step = move_step u i h v e t n }), (λ L. refl));
        as_outside = ((λ z. absurd (omega arith)), (λ o. never (cc (o, e))));
        as_taken = ((λ z. absurd (omega arith)), (λ K. let k = one e K.there in let f : routeable T v ≡ false = rw k at K.is-taken in never (cc)));
        as_bad_support = ((λ z. absurd (omega arith)), (λ K. let k = one e K.0.there in absurd (n (rw k at K.0.bears-none))));
        no_other = omega arith;
      })

      go : (place : Option ℕ) → neighbour T.room u (move_at i) ≡ place → SaysWhy T u i (reason_at (obstacle_of T) place)
      go (Some v) e = inside v e (case T v)
      go None e = record {
        as_allowed = ((λ z. absurd (omega arith)), (λ L. never (cc (e, L.there))));
        as_outside = ((λ z. e), (λ o. refl));
        as_taken = ((λ z. absurd (omega arith)), (λ K. never (cc (e, K.there))));
        as_bad_support = ((λ z. absurd (omega arith)), (λ K. never (cc (e, K.0.there))));
        no_other = omega arith;
      }

  -- the free cells of u are those that one lawful step leads to
  pub free-lawful : (u v : ℕ) → In v (free_by T.room (obstacle_of T) u) → LawfulStep T u v
  free-lawful u v i =
      let O = free-by T.room (obstacle_of T) u v i in
      go O (case T v)
    where
      go : (O : OpenBy T.room (obstacle_of T) u 12 v) → Case T v → LawfulStep T u v
      go O (case-taken f q) = absurd (omega (arith, q, O.there.free))
      go O (case-bad t b q) = absurd (omega (arith, q, O.there.free))
      go O (case-free t n q) = move_step u O.by O.below v O.there.is t n

  module _ (good : Good T.room) where
    pub lawful-free : (u v : ℕ) → LawfulStep T u v → In v (free_by T.room (obstacle_of T) u)
    lawful-free u v L =
        let p = pos_of T.room u in
        let q = pos_of T.room v in
        let e = leads-cell T.room good u (move_between p q) v L.to_in (between-moved p q L.aside L.rise) in
        let k = move-place (move_between p q) (between-listed p q L.aside L.rise) in
        by-free T.room (obstacle_of T) u v
        (record { by = k.0; below = k.1; there = record { is = rw k.2 e; free = obstacle-none T v L.enters (λ z. omega (arith, z, L.stands)) } })

    pub steps-chain : (l : List ℕ) (u v : ℕ) → LawfulSteps T u l v → Chain (free_by T.room (obstacle_of T)) u l v
    steps-chain [] u v s = s
    steps-chain (w ∷ l) u v s = (lawful-free u w s.0, steps-chain l w v s.1)

    pub reached-chained : (v : ℕ) → LawfullyReached T v → Chained (free_by T.room (obstacle_of T)) T.start v
    reached-chained v L = record { cells = L.cells; chain = steps-chain L.cells T.start v L.steps }

  pub chain_steps : (l : List ℕ) (u v : ℕ) → Chain (free_by T.room (obstacle_of T)) u l v → LawfulSteps T u l v
  chain_steps [] u v s = s
  chain_steps (w ∷ l) u v s = (free-lawful u w s.0, chain_steps l w v s.1)

  pub chained-reached : (v : ℕ) → Chained (free_by T.room (obstacle_of T)) T.start v → LawfullyReached T v
  chained-reached v C = record { cells = C.cells; steps = chain_steps C.cells T.start v C.chain }

  -- ---- costs and places don't count

  abbrev other : RouterConfig → ℕ → Task
  other C places = task_in T.room C T.kinds T.start T.goal places

  module _ (C : RouterConfig) (places : ℕ) where
    pub routeable-same : (v : ℕ) → routeable (other C places) v ≡ routeable T v
    unfolding routeable
    routeable-same v = refl

    step_same : (u v : ℕ) → LawfulStep (other C places) u v → LawfulStep T u v
    step_same u v L = record { to_in = L.to_in; aside = L.aside; rise = L.rise; enters = rw (routeable-same v) at L.enters; stands = L.stands }

    pub steps-same : (l : List ℕ) (u v : ℕ) → LawfulSteps (other C places) u l v → LawfulSteps T u l v
    steps-same [] u v s = s
    steps-same (w ∷ l) u v s = (step_same u w s.0, steps-same l w v s.1)
