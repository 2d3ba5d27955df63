-- Laws of the tails: the loops for the last repeater and the earliest place, and the cases of what is put there.
use Rattle.std.specs.Prelude.{◌≡◌, ◌⊎◌, Bool, true, false, List, eqb, length, get_or, set, Option, Some, None}
use Rattle.std.proofs.Math.Path.{refl}
use Rattle.std.proofs.Common.{sym, ap, ◌∙◌, ⊎_elim}
use Rattle.std.proofs.Math.Logic.{inl, inr}
use Prim.Native.Nat.{ℕ, zero, suc, ◌+◌, ◌-◌, ◌≤◌, ◌<◌}
use native.Mathlib.Omega.{arith}
use borrow.Author.Tests.{lt-ltb, le-ltb, eq-eqb, ne_eqb}
use Rattle.basics.specs.Tests.{either, ask, and_left, passed}
use Rattle.room.specs.declared.Room.{Room}
use Rattle.repeaters.specs.Repeaters.{path_cell, fits, latest, earliest, repeater_at, with_repeater, end, last_reset, tail_fit, tail_place, reinforced}
use Rattle.repeaters.specs.StrideLaws.{latest-is, latest-next, place-some, place-none}
use Rattle.repeaters.specs.Strides.{place_of}

-- a place that fits has a cell before it and one behind it
module _ (R : Room) (next : ℕ → List ℕ) (forbidden path : List ℕ) (i : ℕ) (e : fits R next forbidden path i ≡ true) where
  pub fit-later : 0 < i
  unfolding fits
  fit-later = search passed

  pub fit-more : i + 1 < length path
  unfolding fits
  fit-more = search passed

-- and so has one where the tail's repeater may stand
pub tail-later : (R : Room) (next : ℕ → List ℕ) (forbidden path marks : List ℕ) (i : ℕ) → tail_fit (fits R next forbidden path) path marks i ≡ true → 0 < i
tail-later R next forbidden path marks i e = fit-later R next forbidden path i (and_left (fits R next forbidden path i) _ e)

-- ---- the loops

pub record Last (path marks : List ℕ) (last i : ℕ) : Type 0 where
  pub within : i ≤ length path
  pub is : last ≡ latest (repeater_at path marks) i

module _ {path marks : List ℕ} where
  pub last_none : Last path marks 0 0
  unfolding latest
  last_none = record { within = omega arith; is = refl }

  module _ {last i : ℕ} (I : Last path marks last i) where
    pub last-next : i < length path → (cell : ℕ) → cell ≡ path_cell path i → (r : ℕ) → r ≡ either (eqb (get_or marks cell 0) 1) i last → Last path marks r (i + 1)
    last-next h cell f r e = record {
      within = omega arith;
      is = e ∙ rw (f, I.is) (sym (latest-next (repeater_at path marks) i));
    }

    pub last-all : length path ≤ i → last ≡ last_reset path marks
    last-all h = let e : i ≡ length path = omega (arith, I.within) in rw (← e) I.is

pub last_in : (path marks : List ℕ) (last : ℕ) → last ≡ last_reset path marks → (last ≡ 0) ⊎ (last < length path)
last_in path marks last e =
    ⊎_elim {C = (last ≡ 0) ⊎ (last < length path)} (λ z. inl (e ∙ z)) (λ h. inr (rw e h.0)) (latest-is (repeater_at path marks) (length path))

module _ (p : ℕ → Bool) where
  earliest-is : (n from : ℕ) → (earliest p n from ≡ 0) ⊎ (earliest p n from < from + n)
  unfolding earliest
  earliest-is zero from = inl refl
  earliest-is (suc n) from =
      ask (p from) (λ t. rw t (inr (omega arith)))
      (λ f. rw f (⊎_elim {C = (earliest p n (from + 1) ≡ 0) ⊎ (earliest p n (from + 1) < from + suc n)} (λ e. inl e) (λ h. inr (omega arith)) (earliest-is n (from + 1))))

  pub earliest_in : (n from place : ℕ) → Some place ≡ place_of (earliest p n from) → place < from + n
  earliest_in n from place e =
      let k = place-some (earliest p n from) place e in ⊎_elim {C = place < from + n} (λ z. absurd (k.1 (k.0 ∙ z))) (λ h. rw k.0 h) (earliest-is n from)

-- the earliest of the places left is the earliest of all
pub record Seeking (p : ℕ → Bool) (start end i : ℕ) : Type 0 where
  pub within : i ≤ end
  pub same : earliest p (end - i) i ≡ earliest p (end - start) start

module _ {p : ℕ → Bool} {start end : ℕ} where
  pub seeking_none : start ≤ end → Seeking p start end start
  seeking_none h = record { within = h; same = refl }

  module _ {i : ℕ} (I : Seeking p start end i) where
    module _ (h : i < end) where
      left : end - i ≡ suc (end - (i + 1))
      left = omega arith

      pub seeking_found : p i ≡ true → i ≡ earliest p (end - start) start
      unfolding earliest
      seeking_found t = let q : earliest p (suc (end - (i + 1))) i ≡ earliest p (end - start) start = rw left at I.same in rw t at q

      pub seeking_next : p i ≡ false → Seeking p start end (i + 1)
      unfolding earliest
      seeking_next f =
          let q : earliest p (suc (end - (i + 1))) i ≡ earliest p (end - start) start = rw left at I.same in
          record { within = omega arith; same = rw f at q }

    pub seeking_all : end ≤ i → 0 ≡ earliest p (end - start) start
    unfolding earliest
    seeking_all h = let z : end - i ≡ 0 = omega arith in rw z at I.same

-- ---- one path

module _ (limit : ℕ) (fit : ℕ → Bool) (path marks : List ℕ) (last : ℕ) (l : last ≡ last_reset path marks) where
  pub reinforced-near : end path ≤ last + limit → marks ≡ reinforced limit fit path marks
  unfolding reinforced
  reinforced-near h = rw (← l, le-ltb (last + limit) (end path) h)

  module _ (far : limit < end path - last) (place : Option ℕ)
      (e : place ≡ place_of (earliest (tail_fit fit path marks) (end path - (end path - limit)) (end path - limit))) where
    is_tail : place ≡ place_of (tail_place limit fit path marks)
    is_tail = let n : end path - (end path - limit) ≡ limit = omega arith in e ∙ ap (λ m. place_of (earliest (tail_fit fit path marks) m (end path - limit))) n

    pub reinforced-none : place ≡ None → marks ≡ reinforced limit fit path marks
    unfolding reinforced with_repeater
    reinforced-none z =
        rw (← l, lt-ltb (last + limit) (end path) (omega arith), eq-eqb (tail_place limit fit path marks) 0 (place-none (tail_place limit fit path marks) (sym z ∙ is_tail)))

    pub reinforced-put : (i : ℕ) → place ≡ Some i → set marks (path_cell path i) 1 ≡ reinforced limit fit path marks
    unfolding reinforced with_repeater
    reinforced-put i n =
        let k = place-some (tail_place limit fit path marks) i (sym n ∙ is_tail) in rw (← l, lt-ltb (last + limit) (end path) (omega arith), ← k.0, ne_eqb i 0 k.1)
