-- Laws of supports: how the loops over a mask's cells and over the sinks go, and the tests of a support's kind in turn.
use Rattle.std.specs.Prelude.{◌≡◌, refl, ◌≢◌, Bool, true, false, ◌||◌, List, ℕ, ◌+◌, ◌/◌, ◌≤◌, ◌<◌, length, get_or, drop, Option, Some, None}
use Rattle.std.proofs.Common.{sym, ap, ◌∙◌, arith, drop_of_length-le, length-take-le, eq-eqb, ne_eqb}
use Rattle.basics.specs.Lists.{any, drop_next}
use Rattle.room.specs.declared.Room.{Room}
use Rattle.room.specs.declared.Pos.{Pos}
use Rattle.room.specs.Room.{holds_at}
use Rattle.room.specs.Units.{solid, transparent}
use Rattle.ends.specs.declared.Tap.{Tap}
use Rattle.ends.specs.declared.Taps.{Taps}
use Rattle.ends.specs.Ends.{taps_in}
use Rattle.repeaters.specs.Links.{ordered_moves, ordered_move, linked_place, cons_place, cells_by}
use Rattle.repeaters.specs.LinkLaws.{cells_left, cells-more, cells-none}
use Rattle.laying.specs.Laying.{stair_end, powered_at, support_kind}
use Rattle.laying.specs.Layable.{TapsHeld}

-- ---- one member after another is asked

pub record Asked {X : Type 0} (p : X → Bool) (l : List X) (i : ℕ) : Type 0 where
  pub within : i ≤ length l
  pub left : any p (drop i l) ≡ any p l

module _ {X : Type 0} (p : X → Bool) (l : List X) where
  pub asked-first : Asked p l 0
  asked-first = record { within = omega arith; left = refl }

  module _ {i : ℕ} (I : Asked p l i) where
    asked_here : (d : X) → i < length l → p (get_or l i d) || any p (drop (i + 1) l) ≡ any p l
    asked_here d h = sym (ap (any p) (drop_next l i d h)) ∙ I.left

    pub asked_yes : (d : X) → i < length l → p (get_or l i d) ≡ true → true ≡ any p l
    asked_yes d h t = rw t at (asked_here d h)

    pub asked_no : (d : X) → i < length l → p (get_or l i d) ≡ false → Asked p l (i + 1)
    asked_no d h f = record { within = omega arith; left = rw f at (asked_here d h) }

    pub asked-none : length l ≤ i → false ≡ any p l
    asked-none h = sym (ap (any p) (drop_of_length-le l h)) ∙ I.left

-- the taps in use are as many as are counted
pub taps-there : {T : Taps} → TapsHeld T → length (taps_in T) ≡ T.count
taps-there {T} H = length-take-le T.count T.taps (omega (arith, H.few, H.whole))

-- ---- one bit of a mask after another

any_place : (test : ℕ → Bool) (place : Option ℕ) (vs : List ℕ) → any test (cons_place place vs) ≡ holds_at test place || any test vs
any_place test (Some v) vs = refl
any_place test None vs = refl

pub record LinksAsked (R : Room) (p : Pos) (test : ℕ → Bool) (mask rest k : ℕ) : Type 0 where
  pub within : k ≤ 12
  pub left : any test (cells_left R p rest k) ≡ any test (cells_by R p mask ordered_moves)

module _ (R : Room) (p : Pos) (test : ℕ → Bool) (mask : ℕ) where
  pub links-first : LinksAsked R p test mask mask 0
  links-first = record { within = omega arith; left = refl }

  module _ {rest k : ℕ} (I : LinksAsked R p test mask rest k) where
    link_here : k < 12 → holds_at test (linked_place R p rest (ordered_move k)) || any test (cells_left R p (rest / 2) (k + 1)) ≡ any test (cells_by R p mask ordered_moves)
    link_here h = sym (ap (any test) (cells-more R p rest k h) ∙ any_place test (linked_place R p rest (ordered_move k)) (cells_left R p (rest / 2) (k + 1))) ∙ I.left

    pub link_yes : k < 12 → holds_at test (linked_place R p rest (ordered_move k)) ≡ true → true ≡ any test (cells_by R p mask ordered_moves)
    link_yes h t = rw t at (link_here h)

    pub link_no : k < 12 → holds_at test (linked_place R p rest (ordered_move k)) ≡ false → LinksAsked R p test mask (rest / 2) (k + 1)
    link_no h f = record { within = omega arith; left = rw f at (link_here h) }

    pub link-none : 12 ≤ k → false ≡ any test (cells_by R p mask ordered_moves)
    link-none h = sym (ap (any test) (cells-none R p rest k I.within h)) ∙ I.left

-- ---- the kind of a support

module _ (R : Room) (next : ℕ → List ℕ) (taps : List Tap) (repeaters : List ℕ) (v : ℕ) where
  pub support_planned : get_or repeaters v 0 ≡ 1 → solid ≡ support_kind R next taps repeaters v
  unfolding support_kind
  support_planned e = rw (eq-eqb _ 1 e)

  module _ (n : get_or repeaters v 0 ≢ 1) where
    pub support_powered : powered_at taps v ≡ true → solid ≡ support_kind R next taps repeaters v
    unfolding support_kind
    support_powered t = rw (ne_eqb _ 1 n, t)

    module _ (m : powered_at taps v ≡ false) where
      pub support_stair : stair_end R next v ≡ true → solid ≡ support_kind R next taps repeaters v
      unfolding support_kind
      support_stair t = rw (ne_eqb _ 1 n, m, t)

      pub support_plain : stair_end R next v ≡ false → transparent ≡ support_kind R next taps repeaters v
      unfolding support_kind
      support_plain f = rw (ne_eqb _ 1 n, m, f)
