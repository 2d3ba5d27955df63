-- Laws of what stays: a fold that keeps a rule, and which cells a block, a cell's laying, a repeater and a sink leave as they were.
use Rattle.std.specs.Prelude.{◌≡◌, refl, ◌≢◌, Bool, true, false, not, ◌&&◌, ◌||◌, eqb, get_or, Option, Some, None}
use Rattle.std.proofs.Common.{sym, ◌∙◌, inl, inr, get_or-set_other, eq-eqb, ne_eqb}
use mathlib.Core.List.{List, [], ◌∷◌}
use Prim.Native.Nat.{ℕ, zero, suc}
use Rattle.basics.specs.Tests.{ask, ask_same, never}
use Rattle.basics.specs.Lists.{In, any}
use Rattle.basics.specs.Folds.{along}
use Rattle.room.specs.declared.Room.{Room}
use Rattle.room.specs.Room.{beneath}
use Rattle.room.specs.Units.{air, redstone_wire, repeater}
use Rattle.ends.specs.declared.Tap.{Tap}
use Rattle.repeaters.specs.Repeaters.{cells_passing, facing_of}
use Rattle.laying.specs.Laying.{Laid, placed, laid_on, laid_at, cell_laid, powered_at, laid_sink}
use Rattle.laying.specs.Statements.{Keeps}

-- ---- folds

module _ {X : Type 0} (P : X → Type 0) where
  pub passing_keeps : (step : ℕ → X → X) (p : ℕ → Bool) → ((u : ℕ) (x : X) → p u ≡ true → P x → P (step u x)) → (n v : ℕ) (x : X) → P x → P (along step (cells_passing p n v) x)
  unfolding along cells_passing
  passing_keeps step p k zero v x h = h
  passing_keeps step p k (suc n) v x h =
      ask (p v)
      (λ t. rw t (passing_keeps step p k n (suc v) (step v x) (k v x t h)))
      (λ f. rw f (passing_keeps step p k n (suc v) x h))

  pub list-keeps : {A : Type 0} (step : A → X → X) (l : List A) → ((a : A) (x : X) → In a l → P x → P (step a x)) → (x : X) → P x → P (along step l x)
  unfolding along
  list-keeps step [] k x h = h
  list-keeps step (a ∷ l) k x h = list-keeps step l (λ b y i. k b y (inr i)) (step a x) (k a x (inl refl) h)

-- ---- blocks

pub keeps-all : (L : Laid) (v : ℕ) → Keeps L L v
keeps-all L v = record { kind = refl; facing = refl }

pub keeps_on : {L M N : Laid} {v : ℕ} → Keeps L M v → Keeps M N v → Keeps L N v
keeps_on a b = record { kind = b.kind ∙ a.kind; facing = b.facing ∙ a.facing }

pub placed-keeps : (kind facing cell : ℕ) (L : Laid) (v : ℕ) → v ≢ cell → Keeps L (placed kind facing cell L) v
placed-keeps kind facing cell L v n = record { kind = get_or-set_other L.kinds cell v kind 0 n; facing = get_or-set_other L.facings cell v facing 0 n }

pub laid-keeps : (kind cell : ℕ) (L : Laid) (v : ℕ) → v ≢ cell → Keeps L (laid_on kind cell L) v
unfolding laid_on
laid-keeps kind cell L v n =
    ask (eqb (get_or L.kinds cell air) air) (λ t. rw t (placed-keeps kind 0 cell L v n)) (λ f. rw f (keeps-all L v))

-- what is not Air stays
pub full-keeps : (kind cell : ℕ) (L : Laid) (v : ℕ) → get_or L.kinds v 0 ≢ air → Keeps L (laid_on kind cell L) v
unfolding laid_on
full-keeps kind cell L v n =
    ask_same v cell
    (λ e. let m : get_or L.kinds cell 0 ≢ air = rw e at n in rw (ne_eqb (get_or L.kinds cell air) air m) (keeps-all L v))
    (laid-keeps kind cell L v)

at-keeps : (kind : ℕ) (place : Option ℕ) (L : Laid) (v : ℕ) → place ≢ Some v → Keeps L (laid_at kind place L) v
at-keeps kind (Some cell) L v n = laid-keeps kind cell L v (λ e. n (rw e refl))
at-keeps kind None L v n = keeps-all L v

at-full : (kind : ℕ) (place : Option ℕ) (L : Laid) (v : ℕ) → get_or L.kinds v 0 ≢ air → Keeps L (laid_at kind place L) v
at-full kind (Some cell) L v n = full-keeps kind cell L v n
at-full kind None L v n = keeps-all L v

-- ---- one occupied cell

module _ (R : Room) (support : ℕ) (planned : Bool) (cell : ℕ) (L : Laid) (v : ℕ) where
  abbrev borne : Laid
  borne = laid_at support (beneath R cell) L

  pub cell-keeps : v ≢ cell → beneath R cell ≢ Some v → Keeps L (cell_laid R support planned cell L) v
  unfolding cell_laid
  cell-keeps n b =
      let low = at-keeps support (beneath R cell) L v b in
      ask planned (λ t. rw t low) (λ f. rw f (keeps_on low (laid-keeps redstone_wire cell borne v n)))

  pub cell_full : get_or L.kinds v 0 ≢ air → Keeps L (cell_laid R support planned cell L) v
  unfolding cell_laid
  cell_full n =
      let low = at-full support (beneath R cell) L v n in
      ask planned (λ t. rw t low) (λ f. rw f (keeps_on low (full-keeps redstone_wire cell borne v (λ z. n (sym low.kind ∙ z)))))

-- ---- one sink

unpowered : (taps : List Tap) (v : ℕ) → powered_at taps v ≡ false → (tap : Tap) → In tap taps → tap.wire ≡ false → tap.terminal ≢ v
unfolding powered_at
unpowered [] v f tap i w = absurd i
unpowered (t ∷ ts) v f tap (inl e) w = λ q. never (cc (rw (w, eq-eqb tap.terminal v q) at (rw (← e) at f)))
unpowered (t ∷ ts) v f tap (inr i) w = unpowered ts v (later (not t.wire && eqb t.terminal v) f) tap i w
  where
    later : (b : Bool) → b || any (λ s. not s.wire && eqb s.terminal v) ts ≡ false → any (λ s. not s.wire && eqb s.terminal v) ts ≡ false
    later true e = never (cc)
    later false e = e

pub sink-keeps : (R : Room) (taps : List Tap) (v : ℕ) → powered_at taps v ≡ false → (tap : Tap) → In tap taps → (L : Laid) → Keeps L (laid_sink R tap L) v
unfolding laid_sink
sink-keeps R taps v f tap i L =
    ask tap.wire (λ t. rw t (keeps-all L v))
    (λ w. rw w (placed-keeps repeater (facing_of R tap.approach tap.terminal) tap.terminal L v (λ q. unpowered taps v f tap i w (sym q))))
