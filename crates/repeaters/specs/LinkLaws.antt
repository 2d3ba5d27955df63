-- Laws of the masks: what each move is, and how a loop over the bits goes.
use Rattle.std.specs.Prelude.{◌≡◌, Bool, true, false, is_some, List, [], ℕ, ◌+◌, ◌/◌, ◌%◌, ◌≤◌, ◌<◌, eqb, length, drop, Option, Some, None}
use Rattle.std.proofs.Common.{sym, ap, ◌∙◌}
use native.Mathlib.Omega.{arith}
use mir.Val.{bool_byte}
use Rattle.basics.specs.Tests.{ask, never}
use Rattle.basics.specs.Lists.{drop_next}
use Rattle.room.specs.declared.Room.{Room}
use Rattle.room.specs.declared.Pos.{Pos}
use Rattle.room.specs.Room.{volume, pos_of, by, moves, neighbour_at, neighbour}
use Rattle.room.specs.MoveLaws.{leads, small}
use Rattle.repeaters.specs.Links.{ordered_moves, ordered_move, linked_place, cons_place, inside_count, cells_by}
use Rattle.repeaters.specs.MaskLaws.{ordered_in}

pub ordered-small : (k : ℕ) → k < 12 → ((ordered_move k).x ≤ 2) × ((ordered_move k).y ≤ 2) × ((ordered_move k).z ≤ 2)
ordered-small k h = let s = small (ordered_move k) (ordered_in k h) in (s.x_small, s.y_small, s.z_small)

-- the cells that the bits from the k-th on lead to
abbrev pub cells_left : Room → Pos → ℕ → ℕ → List ℕ
cells_left R p rest k = cells_by R p rest (drop k ordered_moves)

module _ (R : Room) (p : Pos) (rest k : ℕ) where
  pub cells-more : k < 12 → cells_left R p rest k ≡ cons_place (linked_place R p rest (ordered_move k)) (cells_left R p (rest / 2) (k + 1))
  unfolding cells_by ordered_moves moves
  cells-more h = rw (drop_next ordered_moves k (by 0 0 0) h)

  pub cells-none : k ≤ 12 → 12 ≤ k → cells_left R p rest k ≡ []
  unfolding cells_by ordered_moves moves
  cells-none h l = let e : k ≡ 12 = omega arith in rw e

cons_length : (place : Option ℕ) (vs : List ℕ) → length (cons_place place vs) ≡ inside_count place + length vs
cons_length (Some v) vs = omega arith
cons_length None vs = omega arith

-- one more where there is a cell
pub counted : (place : Option ℕ) (s : Bool) (n : ℕ) → s ≡ is_some place → n ≡ bool_byte s → n ≡ inside_count place
counted (Some v) s n e f = f ∙ ap bool_byte e
counted None s n e f = f ∙ ap bool_byte e

pub inside_one : (place : Option ℕ) → inside_count place ≤ 1
inside_one (Some v) = omega arith
inside_one None = omega arith

-- the loop that counts: those that are left and those counted make all
pub record LinksCounted (R : Room) (p : Pos) (mask rest count k : ℕ) : Type 0 where
  pub within : k ≤ 12
  pub few : count ≤ k
  pub same : count + length (cells_left R p rest k) ≡ length (cells_by R p mask ordered_moves)

module _ {R : Room} {p : Pos} {mask : ℕ} where
  pub links-none : LinksCounted R p mask mask 0 0
  links-none = record { within = omega arith; few = omega arith; same = omega arith }

  module _ {rest count k : ℕ} (I : LinksCounted R p mask rest count k) where
    pub links-next : k < 12 → (n : ℕ) → n ≡ inside_count (linked_place R p rest (ordered_move k)) → LinksCounted R p mask (rest / 2) (count + n) (k + 1)
    links-next h n e = record {
      within = omega arith;
      few = omega (arith, I.few, e, inside_one (linked_place R p rest (ordered_move k)));
      same = omega (arith, I.same, e, ap length (cells-more R p rest k h), cons_length (linked_place R p rest (ordered_move k)) (cells_left R p (rest / 2) (k + 1)));
    }

    pub links-all : 12 ≤ k → count ≡ length (cells_by R p mask ordered_moves)
    links-all h = omega (arith, I.same, ap length (cells-none R p rest k I.within h))

-- a linked place is a cell of the room
pub linked_in : (R : Room) (n : ℕ) (p : Pos) (mask k : ℕ) → p ≡ pos_of R n → (place : Option ℕ) → place ≡ linked_place R p mask (ordered_move k)
    → (v : ℕ) → place ≡ Some v → v < volume R
unfolding neighbour
linked_in R n p mask k f place e v g =
    ask (eqb (mask % 2) 1)
    (λ t. (leads R n (ordered_move k) v (sym (led t) ∙ g)).inside)
    (λ n. never (out n))
  where
    led : eqb (mask % 2) 1 ≡ true → place ≡ neighbour_at R (pos_of R n) (ordered_move k)
    led t = rw (t, f) at e

    out : eqb (mask % 2) 1 ≡ false → ◌≡◌ {A = ℕ} 0 1
    out n = let q : place ≡ None = rw n at e in cc
