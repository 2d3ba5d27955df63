-- Laws of the ends: terminals and approaches are cells of the room.
use Rattle.std.specs.Prelude.{◌≡◌, refl, ℕ, ◌<◌, eqb, Option, Some, None, Result, Ok, Err}
use Rattle.std.proofs.Math.Path.{ap}
use Rattle.basics.specs.Tests.{ask, never}
use Rattle.room.specs.declared.Room.{Room}
use Rattle.room.specs.declared.Pos.{Pos}
use Rattle.room.specs.Room.{Within, volume, cell_of}
use Rattle.room.specs.RoomLaws.{cell_in}
use Rattle.room.specs.Units.{wire, facing_horizontal, ahead}
use Rattle.room.specs.MoveLaws.{ahead_in}
use Rattle.port_realization.specs.declared.EndFault.{EndFault}
use Rattle.port_realization.specs.declared.Realized.{Realized}
use Rattle.port_realization.specs.Ports.{terminal_at, terminal_of, approach_of, approached, realized_as, realized_of}

pub terminal_in_lem : (R : Room) (p : Pos) → Within R p → (port facing cell : ℕ) → terminal_of R p port facing ≡ Ok cell → cell < volume R
unfolding terminal_of
terminal_in_lem R p w port facing cell e =
    ask (eqb port wire) (λ t. own (rw t at e)) (λ f. ask (facing_horizontal facing) (λ h. next _ refl (rw (f, h) at e)) (λ n. none (rw (f, n) at e)))
  where
    own : ◌≡◌ {A = Result ℕ EndFault} (Ok (cell_of R p)) (Ok cell) → cell < volume R
    own q = let s : cell_of R p ≡ cell = cc in rw s at (cell_in R p w)

    none : ◌≡◌ {A = Result ℕ EndFault} (Err EndFault.NoFacing) (Ok cell) → cell < volume R
    none q = never (cc)

    next : (n : Option ℕ) → ahead R (cell_of R p) facing ≡ n → terminal_at n ≡ Ok cell → cell < volume R
    next (Some v) a q = let s : v ≡ cell = cc in rw s at (ahead_in R (cell_of R p) facing v a)
    next None a q = never (cc)

approach_in : (R : Room) (terminal facing approach : ℕ) → terminal < volume R → approach_of R terminal facing ≡ Some approach → approach < volume R
unfolding approach_of
approach_in R terminal facing approach h e =
    ask (facing_horizontal facing) (λ t. ahead_in R terminal facing approach (rw t at e)) (λ f. own (rw f at e))
  where
    own : Some terminal ≡ Some approach → approach < volume R
    own q = let s : terminal ≡ approach = cc in rw s at h

-- what is known of a sink that is realized
pub record SinkInside (R : Room) (facing terminal approach : ℕ) : Type 0 where
  pub approach_is : approach_of R terminal facing ≡ Some approach
  pub terminal_below : terminal < volume R
  pub approach_below : approach < volume R

pub sink-inside : (R : Room) (p : Pos) → Within R p → (port facing terminal approach : ℕ)
    → realized_of R p port facing ≡ Ok (record { terminal = terminal; approach = approach })
    → SinkInside R facing terminal approach
unfolding realized_of
sink-inside R p w port facing terminal approach e = go _ refl e
  where
    met : (t : ℕ) → terminal_of R p port facing ≡ Ok t → (n : Option ℕ) → approach_of R t facing ≡ n → approached t n ≡ Ok (record { terminal = terminal; approach = approach }) → SinkInside R facing terminal approach
    met t o (Some a) n q =
        let same : ◌≡◌ {A = Realized} (record { terminal = t; approach = a }) (record { terminal = terminal; approach = approach }) = cc in
        let s : t ≡ terminal = ap (λ r. r.terminal) same in
        let u : a ≡ approach = ap (λ r. r.approach) same in
        let b : terminal_of R p port facing ≡ Ok terminal = cc in
        let c : approach_of R terminal facing ≡ Some approach = cc in
        let h = terminal_in_lem R p w port facing terminal b in
        record { approach_is = c; terminal_below = h; approach_below = approach_in R terminal facing approach h c }
    met t o None n q = never (cc)

    go : (t : Result ℕ EndFault) → terminal_of R p port facing ≡ t → realized_as R facing t ≡ Ok (record { terminal = terminal; approach = approach }) → SinkInside R facing terminal approach
    go (Ok t) o q = met t o _ refl q
    go (Err fault) o q = never (cc)
