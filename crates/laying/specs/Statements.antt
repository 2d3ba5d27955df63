-- What the theorems say of a laid net.
use Rattle.std.specs.Prelude.{◌≡◌, ◌≢◌, true, false, ℕ, ◌+◌, ◌-◌, leb, get_or, Some}
use Rattle.basics.specs.Tests.{either}
use Rattle.room.specs.declared.Room.{Room}
use Rattle.room.specs.Room.{beneath}
use Rattle.routing_resources.specs.Marks.{is_marked}
use Rattle.laying.specs.Laying.{Net, Laid, powered_at}

-- the cell holds what it held before
pub record Keeps (before after : Laid) (v : ℕ) : Type 0 where
  pub kind : get_or after.kinds v 0 ≡ get_or before.kinds v 0
  pub facing : get_or after.facings v 0 ≡ get_or before.facings v 0

-- the net puts no repeater there
pub record NoRepeater (N : Net) (v : ℕ) : Type 0 where
  pub none-planned : is_marked N.repeaters v ≡ false
  pub no_power : powered_at N.taps v ≡ false

-- the net does not name the cell: it is none of its occupied cells, not right beneath one, and no repeater is put there
pub record Unnamed (R : Room) (N : Net) (v : ℕ) : Type 0 where
  pub free : is_marked N.occupied v ≡ false
  pub bears-none : (u : ℕ) → is_marked N.occupied u ≡ true → beneath R u ≢ Some v
  pub no_repeater : NoRepeater N v

-- a block of this kind stands there, facing so
pub record Stands (room : Laid) (v kind facing : ℕ) : Type 0 where
  pub kind-is : get_or room.kinds v 0 ≡ kind
  pub facing-is : get_or room.facings v 0 ≡ facing

-- North and South are opposite, and so are East and West
unfoldable pub opposite_facing : ℕ → ℕ
opposite_facing facing = either (leb facing 2) (facing + 2) (facing - 2)
