-- Number 17 can't occur: each planned repeater has a parent with a flat facing to it, whatever the branches are; so, laid, it has a direction.
use Rattle.std.specs.Prelude.{◌≡◌, ◌≢◌, true, false, List, ℕ, ◌<◌, get_or}
use Rattle.room.specs.declared.Room.{Room}
use Rattle.room.specs.Room.{volume}
use Rattle.room.specs.Units.{no_facing}
use Rattle.routing_resources.specs.Marks.{is_marked}
use Rattle.repeaters.specs.Repeaters.{repeater_marks}
use Rattle.repeater_claims.specs.StandingLaws.{repeater-directed}
use Rattle.laying.specs.Laying.{Net, Laid, direction_of, parents_on, powered_at, laid_net}
use Rattle.laying.specs.StandLaws.{Long}
use Rattle.laying.specs.Theorems.{direction_is, planned-stands}

-- a net whose repeaters are those planned over its branches: at any limit, and whatever cells are marked as forbidden
module _ (R : Room) (N : Net) (limit : ℕ) (forbidden : List ℕ) (planned : N.repeaters ≡ repeater_marks R limit N.source N.taps N.branches forbidden) where
  pub always_directed : (v : ℕ) → is_marked N.repeaters v ≡ true → direction_of R (parents_on R N) v ≢ no_facing
  always_directed v t z =
      let D = repeater-directed R limit N.source N.taps N.branches forbidden v (rw planned at t) in
      D.flat (rw (direction_is R (parents_on R N) v D.parent D.parent_is) at z)

  -- so each, but where a sink's stands, is laid with a direction
  pub laid-directed : (L : Laid) → Long (volume R) L → (v : ℕ) → v < volume R → is_marked N.repeaters v ≡ true → powered_at N.taps v ≡ false
      → get_or (laid_net R N L).facings v 0 ≢ no_facing
  laid-directed L H v h t f z = always_directed v t (rw (planned-stands R N L H v h t f).facing-is at z)
