-- Where no repeater of a net may stand, and what marking it asks. Definitions alone; their laws are in NetEndLaws.
use Rattle.std.specs.Prelude.{◌≡◌, Bool, ◌||◌, List, ℕ, eqb, length}
use Rattle.basics.specs.Lists.{any}
use Rattle.room.specs.declared.Room.{Room}
use Rattle.room.specs.Room.{volume}
use Rattle.routing_resources.specs.Marks.{marked_by, no_marks}
use Rattle.ends.specs.declared.Tap.{Tap}
use Rattle.ends.specs.declared.Taps.{Taps}
use Rattle.ends.specs.Ends.{taps_in, NetInside}
use Rattle.repeaters.specs.Repeaters.{repeater_marks}

-- no repeater stands on "a terminal or approach of this net"
abbrev pub tap_holds : ℕ → Tap → Bool
tap_holds v t = eqb t.terminal v || eqb t.approach v

-- the source's terminal, for a source has no approach, and each sink's terminal and approach
unfoldable pub is_net_end : ℕ → Taps → ℕ → Bool
is_net_end source taps v = eqb source v || any (tap_holds v) (taps_in taps)

-- their marks
abbrev pub net_end_marks : Room → ℕ → Taps → List ℕ
net_end_marks R source taps = marked_by (is_net_end source taps) (no_marks (volume R))

-- the repeaters of a net with these ends and branches, at this run limit: one byte a cell, 1 where one stands
abbrev pub net_repeaters : Room → ℕ → ℕ → Taps → List (List ℕ) → List ℕ
net_repeaters R limit source taps branches = repeater_marks R limit source (taps_in taps) branches (net_end_marks R source taps)

-- the net's ends are in a room that has these marks, one a cell
pub record EndsIn (source : ℕ) (taps : Taps) (marks : List ℕ) : Type 0 where
  pub room : Room
  pub net : NetInside room source taps
  pub long : length marks ≡ volume room
