-- The moves of a room lead only into cells that can be entered. Where a flat step costs at least 10 and a stair at least 20, the slacks of the moves into a cell are among five values: a flat step brings a cell one
-- nearer to the goal or one farther from it, a stair two nearer, none or two farther.
use Rattle.std.specs.Prelude.{◌≡◌, true, List, [], ◌∷◌, ℕ, ◌+◌, ◌-◌, ◌*◌, ◌≤◌, eqb}
use Rattle.std.proofs.Common.{inl, inr, arith}
use borrow.Author.Tests.{ne_eqb, eqb-true, eqb-false}
use Rattle.basics.specs.Tests.{either, ask, ask_less}
use Rattle.basics.specs.Lists.{In}
use Rattle.room.specs.declared.Room.{Room}
use Rattle.room.specs.declared.Pos.{Pos}
use Rattle.room.specs.declared.Move.{Move}
use Rattle.room.specs.declared.RouterConfig.{RouterConfig}
use Rattle.room.specs.Room.{pos_of, moves, apart, distance, flat}
use Rattle.room.specs.MoveLaws.{Moved, Small, small, leads}
use Rattle.best_first.specs.Search
use Rattle.best_first.specs.Statements.{slack, Slacks, OnlyInto}
use Rattle.room_search.specs.Routing.{can_enter, price_of, total, graph_of}
use Rattle.room_search.specs.GraphLaws.{Made, made}

-- ---- the change of a distance

data Beside (a b : ℕ) : Type 0 where
  more : b ≡ a + 1 → Beside a b
  less : b + 1 ≡ a → Beside a b

-- from c to d it is as far as from a to b
as_far : {a b c d : ℕ} → b + c ≡ d + a → Beside a b → Beside c d
as_far e (more h) = more (omega arith)
as_far e (less h) = less (omega arith)

-- in one direction
beside : (a o g t : ℕ) → t + 1 ≡ a + o → apart o 1 ≡ 1 → Beside (apart a g) (apart t g)
beside a o g t e h = ask_less (apart a g) (apart t g) (λ k. more (omega arith)) (λ k. less (omega arith))

unmoved : (a o g t : ℕ) → t + 1 ≡ a + o → apart o 1 ≡ 0 → apart t g ≡ apart a g
unmoved a o g t e h = let k : t ≡ a = omega arith in rw k

module _ (p : Pos) (m : Move) (q g : Pos) (s : Small m) (v : Moved p m q) where
  sideways : Beside (apart p.x g.x + apart p.z g.z) (apart q.x g.x + apart q.z g.z)
  sideways =
      ask_less 0 (apart m.x 1)
      (λ h.
      let same = unmoved p.z m.z g.z q.z v.z_by (omega (arith, s.aside)) in
      as_far (omega (arith, same)) (beside p.x m.x g.x q.x v.x_by (omega (arith, s.aside))))
      (λ h.
      let same = unmoved p.x m.x g.x q.x v.x_by (omega (arith, s.aside)) in
      as_far (omega (arith, same)) (beside p.z m.z g.z q.z v.z_by (omega (arith, s.aside))))

  up_or_down : (m.y ≡ 1 → ⊥) → Beside (apart p.y g.y) (apart q.y g.y)
  up_or_down n = beside p.y m.y g.y q.y v.y_by (omega (arith, s.y_small))

-- ---- the five values, by what the support of the cell adds

abbrev five : RouterConfig → ℕ → List ℕ
five C lay =
    (C.horizontal.0 - 10 + lay) ∷ (C.horizontal.0 + 10 + lay) ∷ (C.stair.0 - 20 + lay) ∷ (C.stair.0 + lay) ∷ (C.stair.0 + 20 + lay) ∷ []

module _ (C : RouterConfig) (lay near far : ℕ) where
  flat-slack : 10 ≤ C.horizontal.0 → Beside near far → In (C.horizontal.0 + lay + 10 * far - 10 * near) (five C lay)
  flat-slack h (less e) = inl (omega arith)
  flat-slack h (more e) = inr (inl (omega arith))

  stair_slack : {a b c d : ℕ} → 20 ≤ C.stair.0 → Beside a b → Beside c d → near ≡ a + c → far ≡ b + d
      → In (C.stair.0 + lay + 10 * far - 10 * near) (five C lay)
  stair_slack h (less e) (less k) p q = inr (inr (inl (omega arith)))
  stair_slack h (less e) (more k) p q = inr (inr (inr (inl (omega arith))))
  stair_slack h (more e) (less k) p q = inr (inr (inr (inl (omega arith))))
  stair_slack h (more e) (more k) p q = inr (inr (inr (inr (inl (omega arith)))))

pub into-enterable : (R : Room) (C : RouterConfig) (class : ℕ → ℕ) (start goal places : ℕ) → OnlyInto (graph_of R C class start goal places) (λ v. can_enter (class v))
unfolding graph_of
into-enterable R C class start goal places = record { passes = λ u m i _. passes u m (made R C class u moves m i) }
  where
    passes : (u : ℕ) (m : Search.Move) → Made R C class u moves m → can_enter (class m.to) ≡ true
    passes u m a = rw (a.is, ne_eqb (class a.into) 0 a.entered)

module _ (R : Room) (C : RouterConfig) (class : ℕ → ℕ) (start goal places : ℕ) (flat-least : 10 ≤ C.horizontal.0) (stair_least : 20 ≤ C.stair.0) where
  abbrev laid : ℕ → ℕ
  laid v = either (eqb (class v) 2) C.support.0 0

  move-slack : (u v : ℕ) (m : Move) → Small m → Moved (pos_of R u) m (pos_of R v)
      → In (total (price_of C m (class v)) + 10 * distance R v goal - 10 * distance R u goal) (five C (laid v))
  unfolding price_of distance
  move-slack u v m s k =
      let p = pos_of R u in
      let q = pos_of R v in
      let g = pos_of R goal in
      let aside = sideways p m q g s k in
      ask (flat m)
      (λ t. rw t (flat-slack C (laid v) (distance R u goal) (distance R v goal) flat-least
      (as_far (omega (arith, unmoved p.y m.y g.y q.y k.y_by (omega (arith, eqb-true m.y 1 t)))) aside)))
      (λ f. rw f (stair_slack C (laid v) (distance R u goal) (distance R v goal) stair_least aside
      (up_or_down p m q g s k (eqb-false _ _ f)) (omega arith) (omega arith)))

  pub slacks : Slacks (graph_of R C class start goal places) 5
  unfolding graph_of slack
  slacks = record { values = λ v. five C (laid v); few = λ v. omega arith; among = λ u g i. among u g (made R C class u moves g i) }
    where
      among : (u : ℕ) (g : Search.Move) → Made R C class u moves g → In (g.cost + 10 * distance R g.to goal - 10 * distance R u goal) (five C (laid g.to))
      among u g a = rw a.is (move-slack u a.into a.by (small a.by a.listed) (leads R u a.by a.into a.leads_in).moved)
