-- Laws of blocks laid as the code lays them: one cell with its support and wire, one repeater with its direction, one sink.
use Rattle.std.specs.Prelude.{◌≡◌, ◌≢◌, Bool, true, false, List, ℕ, ◌-◌, get_or}
use Rattle.std.proofs.Math.Path.{ap}
use Rattle.std.proofs.Common.{◌∙◌, eq-eqb, ne_eqb}
use Rattle.room.specs.declared.Room.{Room}
use Rattle.room.specs.Room.{volume, beneath}
use Rattle.room.specs.Units.{air, redstone_wire, repeater, no_facing}
use Rattle.ends.specs.declared.Tap.{Tap}
use Rattle.walk.specs.Walks.{parents_from}
use Rattle.repeaters.specs.Repeaters.{facing_of, tree_neighbours}
use Rattle.repeaters.specs.Links.{linked_cells}
use Rattle.repeaters.specs.Roots.{Rooted}
use Rattle.laying.specs.Laying.{Laid, placed, laid_on, laid_at, cell_laid, direction_of, laid_sink}
use Rattle.laying.specs.Layable.{TreeRooted}

-- a block laid, or not
module _ (kind cell : ℕ) (L : Laid) where
  pub laid-air : get_or L.kinds cell air ≡ air → {M : Laid} → M ≡ placed kind no_facing cell L → M ≡ laid_on kind cell L
  unfolding laid_on
  laid-air z e = e ∙ rw (eq-eqb _ air z)

  pub laid-full : get_or L.kinds cell air ≢ air → L ≡ laid_on kind cell L
  unfolding laid_on
  laid-full n = rw (ne_eqb _ air n)

module _ (R : Room) (support : ℕ) {planned : Bool} (v : ℕ) (L : Laid) {borne : Laid} (e : borne ≡ laid_at support (beneath R v) L) where
  pub cell-planned : planned ≡ true → borne ≡ cell_laid R support planned v L
  unfolding cell_laid
  cell-planned t = e ∙ rw t

  pub cell-wired : planned ≡ false → {M : Laid} → M ≡ laid_on redstone_wire v borne → M ≡ cell_laid R support planned v L
  unfolding cell_laid
  cell-wired f q = q ∙ ap (laid_on redstone_wire v) e ∙ rw f

-- the direction of a repeater
module _ (R : Room) (parents : List ℕ) (v : ℕ) where
  pub undirected : get_or parents v 0 ≡ 0 → no_facing ≡ direction_of R parents v
  unfolding direction_of
  undirected z = rw (eq-eqb _ 0 z)

  pub directed : get_or parents v 0 ≢ 0 → facing_of R (get_or parents v 0 - 1) v ≡ direction_of R parents v
  unfolding direction_of
  directed n = rw (ne_eqb _ 0 n)

-- a sink
module _ (R : Room) (tap : Tap) (L : Laid) where
  pub sink-wire : tap.wire ≡ true → L ≡ laid_sink R tap L
  unfolding laid_sink
  sink-wire t = rw t

  pub sink-power : tap.wire ≡ false → {facing : ℕ} → facing ≡ facing_of R tap.approach tap.terminal → {M : Laid}
      → M ≡ placed repeater facing tap.terminal L → M ≡ laid_sink R tap L
  unfolding laid_sink
  sink-power f e q = q ∙ ap (λ (x : ℕ). placed repeater x tap.terminal L) e ∙ rw f

-- the tree in work memory
pub tree-rooted : {R : Room} {source : ℕ} {branches : List (List ℕ)} {links parents : List ℕ} → linked_cells R links ≡ tree_neighbours branches (volume R)
    → Rooted R source links parents → TreeRooted R source branches links parents
tree-rooted {R} {source} near r = record {
  near = near;
  rooted = r.is ∙ ap (λ (next : ℕ → List ℕ). parents_from next (volume R) source) near;
  held = record { long = r.long; inside = r.parents-inside };
}
