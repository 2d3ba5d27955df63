-- Laws of what stands at last: the lists keep their lengths, a cell that is marked has its turn, and a repeater that stands stays one.
use Rattle.std.specs.Prelude.{◌≡◌, Bool, eqb, length, get_or, Option, Some, None}
use Rattle.std.proofs.Common.{◌∙◌, inl, inr, arith, length-set, get_or-set_same}
use Rattle.std.proofs.Math.Bool.{true}
use mathlib.Core.List.{List, [], ◌∷◌}
use Prim.Native.Nat.{ℕ, zero, suc, ◌+◌, ◌≤◌, ◌<◌}
use Rattle.basics.specs.Tests.{ask, ask_same}
use Rattle.basics.specs.Lists.{In}
use Rattle.basics.specs.Folds.{along}
use Rattle.room.specs.declared.Room.{Room}
use Rattle.room.specs.Room.{beneath}
use Rattle.room.specs.Units.{air, redstone_wire, repeater, no_facing}
use Rattle.ends.specs.declared.Tap.{Tap}
use Rattle.repeaters.specs.Repeaters.{cells_passing, facing_of}
use Rattle.laying.specs.Laying.{Laid, placed, laid_on, laid_at, cell_laid, laid_sink}
use Rattle.laying.specs.Statements.{Keeps, Stands}
use Rattle.laying.specs.KeepLaws.{passing_keeps, list-keeps, placed-keeps}

-- ---- lengths

pub record Long (n : ℕ) (L : Laid) : Type 0 where
  pub kinds-long : length L.kinds ≡ n
  pub facings-long : length L.facings ≡ n

pub placed-long : {n : ℕ} (kind facing cell : ℕ) (L : Laid) → Long n L → Long n (placed kind facing cell L)
placed-long kind facing cell L H = record { kinds-long = length-set L.kinds cell kind ∙ H.kinds-long; facings-long = length-set L.facings cell facing ∙ H.facings-long }

laid-long : {n : ℕ} (kind cell : ℕ) (L : Laid) → Long n L → Long n (laid_on kind cell L)
unfolding laid_on
laid-long kind cell L H = ask (eqb (get_or L.kinds cell air) air) (λ t. rw t (placed-long kind no_facing cell L H)) (λ f. rw f H)

at_long : {n : ℕ} (kind : ℕ) (place : Option ℕ) (L : Laid) → Long n L → Long n (laid_at kind place L)
at_long kind (Some cell) L H = laid-long kind cell L H
at_long kind None L H = H

pub cell-long : {n : ℕ} (R : Room) (support : ℕ) (planned : Bool) (cell : ℕ) (L : Laid) → Long n L → Long n (cell_laid R support planned cell L)
unfolding cell_laid
cell-long R support planned cell L H =
    let low = at_long support (beneath R cell) L H in
    ask planned (λ t. rw t low) (λ f. rw f (laid-long redstone_wire cell (laid_at support (beneath R cell) L) low))

-- ---- a block that was put

pub placed-stands : {n : ℕ} (kind facing cell : ℕ) (L : Laid) → Long n L → cell < n → Stands (placed kind facing cell L) cell kind facing
placed-stands kind facing cell L H h = record {
  kind-is = get_or-set_same L.kinds cell kind 0 (rw H.kinds-long h);
  facing-is = get_or-set_same L.facings cell facing 0 (rw H.facings-long h);
}

pub stands_on : {L M : Laid} {v kind facing : ℕ} → Stands L v kind facing → Keeps L M v → Stands M v kind facing
stands_on S K = record { kind-is = K.kind ∙ S.kind-is; facing-is = K.facing ∙ S.facing-is }

-- ---- a marked cell has its turn: P holds from then on

module _ {X : Type 0} (step : ℕ → X → X) (p : ℕ → Bool) (P Q : X → Type 0) (v : ℕ) (turn : (x : X) → Q x → P (step v x))
    (P-kept : (u : ℕ) (x : X) → p u ≡ true → P x → P (step u x)) (Q-kept : (u : ℕ) (x : X) → p u ≡ true → Q x → Q (step u x)) where
  pub has_turn : (n from : ℕ) → from ≤ v → v < from + n → p v ≡ true → (x : X) → Q x → P (along step (cells_passing p n from) x)
  unfolding along cells_passing
  has_turn zero from l h t x q = absurd (omega arith)
  has_turn (suc n) from l h t x q =
      ask_same from v
      (λ e.
      let t' : p from ≡ true = rw e t in
      let s : P (step from x) = rw e (turn x q) in
      rw t' (passing_keeps P step p P-kept n (suc from) (step from x) s))
      (λ d.
      ask (p from)
      (λ m. rw m (has_turn n (suc from) (omega (arith, d)) (omega arith) t (step from x) (Q-kept from x m q)))
      (λ f. rw f (has_turn n (suc from) (omega (arith, d)) (omega arith) t x q)))

-- ---- a member of a list has its turn

module _ {A X : Type 0} (step : A → X → X) (P Q : X → Type 0) (a : A) (turn : (x : X) → Q x → P (step a x))
    (P-kept : (b : A) (x : X) → P x → P (step b x)) (Q-kept : (b : A) (x : X) → Q x → Q (step b x)) where
  pub member_turn : (l : List A) → In a l → (x : X) → Q x → P (along step l x)
  unfolding along
  member_turn [] i x q = absurd i
  member_turn (b ∷ l) (inl e) x q = list-keeps P step l (λ c y j. P-kept c y) (step b x) (rw e at (turn x q))
  member_turn (b ∷ l) (inr i) x q = member_turn l i (step b x) (Q-kept b x q)

-- ---- the sinks

module _ (R : Room) where
  pub sink-long : {n : ℕ} (tap : Tap) (L : Laid) → Long n L → Long n (laid_sink R tap L)
  unfolding laid_sink
  sink-long tap L H = ask tap.wire (λ t. rw t H) (λ f. rw f (placed-long repeater (facing_of R tap.approach tap.terminal) tap.terminal L H))

  -- what is a Repeater stays one
  pub sink-repeater : {n v : ℕ} → v < n → (tap : Tap) (L : Laid) → Long n L → get_or L.kinds v 0 ≡ repeater → get_or (laid_sink R tap L).kinds v 0 ≡ repeater
  unfolding laid_sink
  sink-repeater {n} {v} h tap L H e =
      ask tap.wire (λ t. rw t e)
      (λ f.
      rw f
      (ask_same v tap.terminal
      (λ q. rw (← q) (get_or-set_same L.kinds v repeater 0 (rw H.kinds-long h)))
      (λ d. (placed-keeps repeater (facing_of R tap.approach tap.terminal) tap.terminal L v d).kind ∙ e)))
