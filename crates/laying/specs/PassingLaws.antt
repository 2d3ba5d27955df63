-- A loop over the cells that pass a test, in number order: what is left from the cell of now makes of the value of now what all make of the value at the start.
use Rattle.std.specs.Prelude.{◌≡◌, Bool, true, false, ℕ, suc, ◌+◌, ◌-◌, ◌≤◌, ◌<◌, List, length, get_or}
use Rattle.std.proofs.Math.Path.{refl}
use Rattle.std.proofs.Common.{sym, ap, ◌∙◌, arith}
use Rattle.std.proofs.Math.Numerals.{add-one}
use Rattle.basics.specs.Folds.{along, Folding, fold_first, fold_next, fold_last}
use Rattle.room.specs.declared.Room.{Room}
use Rattle.room.specs.Room.{volume}
use Rattle.ends.specs.declared.Tap.{Tap}
use Rattle.ends.specs.declared.Taps.{Taps}
use Rattle.ends.specs.Ends.{no_tap, taps_in, TapsInside}
use Rattle.ends.specs.EndLaws.{taps-long, tap-is}
use Rattle.repeaters.specs.Repeaters.{cells_passing}
use Rattle.laying.specs.Laying.{Laid, laid_room, laid_sink}
use Rattle.laying.specs.Layable.{RoomHeld}

pub record Passing {X : Type 0} (step : ℕ → X → X) (p : ℕ → Bool) (n : ℕ) (start x : X) (v : ℕ) : Type 0 where
  pub within : v ≤ n
  pub left : along step (cells_passing p (n - v) v) x ≡ along step (cells_passing p n 0) start

module _ {X : Type 0} (step : ℕ → X → X) (p : ℕ → Bool) where
  met : (m v : ℕ) (x : X) → p v ≡ true → along step (cells_passing p (suc m) v) x ≡ along step (cells_passing p m (v + 1)) (step v x)
  unfolding along cells_passing
  met m v x t = rw (t, add-one v)

  missed : (m v : ℕ) (x : X) → p v ≡ false → along step (cells_passing p (suc m) v) x ≡ along step (cells_passing p m (v + 1)) x
  unfolding cells_passing
  missed m v x f = rw (f, add-one v)

  none : (v : ℕ) (x : X) → along step (cells_passing p 0 v) x ≡ x
  unfolding along cells_passing
  none v x = refl

  pub pass_first : (n : ℕ) (start : X) → Passing step p n start start 0
  pass_first n start = record { within = omega arith; left = let e : n - 0 ≡ n = omega arith in rw e refl }

  module _ {n : ℕ} {start x : X} {v : ℕ} (walk : Passing step p n start x v) where
    here : v < n → n - v ≡ suc (n - (v + 1))
    here h = omega arith

    pub pass_met : v < n → p v ≡ true → (y : X) → y ≡ step v x → Passing step p n start y (v + 1)
    pass_met h t y e = record {
      within = omega arith;
      left = ap (along step (cells_passing p (n - (v + 1)) (v + 1))) e ∙ sym (met (n - (v + 1)) v x t) ∙ (rw (here h) at walk.left);
    }

    pub pass_missed : v < n → p v ≡ false → Passing step p n start x (v + 1)
    pass_missed h f = record { within = omega arith; left = sym (missed (n - (v + 1)) v x f) ∙ (rw (here h) at walk.left) }

    pub pass_last : n ≤ v → x ≡ along step (cells_passing p n 0) start
    pass_last h = let e : n - v ≡ 0 = omega arith in sym (none v x) ∙ (rw e at walk.left)

-- ---- the room so far

pub record LaidSoFar (step : ℕ → Laid → Laid) (p : ℕ → Bool) (n : ℕ) (kinds₀ facings₀ kinds facings : List ℕ) (v : ℕ) : Type 0 where
  pub walk : Passing step p n (laid_room kinds₀ facings₀) (laid_room kinds facings) v
  pub kinds-same : length kinds ≡ length kinds₀
  pub facings-same : length facings ≡ length facings₀

module _ (step : ℕ → Laid → Laid) (p : ℕ → Bool) (n : ℕ) where
  pub so-first : (kinds facings : List ℕ) → LaidSoFar step p n kinds facings kinds facings 0
  so-first kinds facings = record { walk = pass_first step p n (laid_room kinds facings); kinds-same = refl; facings-same = refl }

module _ {step : ℕ → Laid → Laid} {p : ℕ → Bool} {n : ℕ} {kinds₀ facings₀ kinds facings : List ℕ} {v : ℕ} (I : LaidSoFar step p n kinds₀ facings₀ kinds facings v) where
  pub so-met : v < n → p v ≡ true → {kinds' facings' : List ℕ} → length kinds' ≡ length kinds → length facings' ≡ length facings
      → laid_room kinds' facings' ≡ step v (laid_room kinds facings) → LaidSoFar step p n kinds₀ facings₀ kinds' facings' (v + 1)
  so-met h t k f e = record { walk = pass_met step p I.walk h t _ e; kinds-same = k ∙ I.kinds-same; facings-same = f ∙ I.facings-same }

  pub so-missed : v < n → p v ≡ false → LaidSoFar step p n kinds₀ facings₀ kinds facings (v + 1)
  so-missed h f = record { walk = pass_missed step p I.walk h f; kinds-same = I.kinds-same; facings-same = I.facings-same }

  pub so-held : {R : Room} → RoomHeld R kinds₀ facings₀ → RoomHeld R kinds facings
  so-held H = record { good = H.good; kinds-long = I.kinds-same ∙ H.kinds-long; facings-long = I.facings-same ∙ H.facings-long }

  pub so-last : n ≤ v → laid_room kinds facings ≡ along step (cells_passing p n 0) (laid_room kinds₀ facings₀)
  so-last h = pass_last step p I.walk h

-- ---- the sinks so far

-- each sink in use has its ends in the room
pub ends-inside : {R : Room} {T : Taps} → TapsInside R T → (i : ℕ) → i < length (taps_in T)
    → ((get_or (taps_in T) i no_tap).terminal < volume R) × ((get_or (taps_in T) i no_tap).approach < volume R)
ends-inside {T = T} f i h =
    let k : i < T.count = rw (taps-long f) at h in (rw (← tap-is T i k) (f.terminal_in_lem i k), rw (← tap-is T i k) (f.approach_in i k))

pub record SunkSoFar (R : Room) (T : Taps) (kinds₀ facings₀ kinds facings : List ℕ) (k : ℕ) : Type 0 where
  pub walk : Folding (laid_sink R) (taps_in T) (laid_room kinds₀ facings₀) (laid_room kinds facings) k
  pub kinds-same : length kinds ≡ length kinds₀
  pub facings-same : length facings ≡ length facings₀

module _ (R : Room) (T : Taps) where
  pub sunk_first : (kinds facings : List ℕ) → SunkSoFar R T kinds facings kinds facings 0
  sunk_first kinds facings = record { walk = fold_first (laid_sink R) (taps_in T) (laid_room kinds facings); kinds-same = refl; facings-same = refl }

module _ {R : Room} {T : Taps} {kinds₀ facings₀ kinds facings : List ℕ} {k : ℕ} (I : SunkSoFar R T kinds₀ facings₀ kinds facings k) where
  pub sunk_next : k < length (taps_in T) → (tap : Tap) → tap ≡ get_or (taps_in T) k no_tap → {kinds' facings' : List ℕ} → length kinds' ≡ length kinds → length facings' ≡ length facings
      → laid_room kinds' facings' ≡ laid_sink R tap (laid_room kinds facings) → SunkSoFar R T kinds₀ facings₀ kinds' facings' (k + 1)
  sunk_next h tap t a b e = record {
    walk = fold_next (laid_sink R) (taps_in T) I.walk no_tap h _ (e ∙ ap (λ (x : Tap). laid_sink R x (laid_room kinds facings)) t);
    kinds-same = a ∙ I.kinds-same;
    facings-same = b ∙ I.facings-same;
  }

  pub sunk_held : RoomHeld R kinds₀ facings₀ → RoomHeld R kinds facings
  sunk_held H = record { good = H.good; kinds-long = I.kinds-same ∙ H.kinds-long; facings-long = I.facings-same ∙ H.facings-long }

  pub sunk_last : length (taps_in T) ≤ k → laid_room kinds facings ≡ along (laid_sink R) (taps_in T) (laid_room kinds₀ facings₀)
  sunk_last h = fold_last (laid_sink R) (taps_in T) I.walk h
