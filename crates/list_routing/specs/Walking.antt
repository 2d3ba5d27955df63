-- What the contracts of the walk along a list cite: how far it has come, and what one net more comes to.
use Rattle.std.specs.Prelude.{◌≡◌, List, ℕ, ◌-◌, ◌*◌, ◌≤◌, ◌<◌, length, drop, None, Result, Ok, Err}
use Rattle.numbers.specs.Refusals.{buffer_number}
use Rattle.lent.specs.Lent.{filled}
use Rattle.room.specs.declared.Room.{Room}
use Rattle.room.specs.Room.{volume}
use Rattle.ground.specs.declared.Mode.{Mode}
use Rattle.routing_resources.specs.Marks.{marked_by, no_marks}
use Rattle.job_sheet.specs.Sheet.{max_sinks}
use Rattle.laying.specs.Laying.{Net, laid_room}
use Rattle.job_list.specs.declared.Memory.{Memory}
use Rattle.job_list.specs.Split.{first_sheet, sheets_in}
use Rattle.job_list.specs.Judged.{contents_at}
use Rattle.job_list.specs.GoodNets.{GoodFrom}
use Rattle.other_nets.specs.OtherLaws.{ListReady}
use Rattle.nets.specs.Nets.{taken_by, all-kept, refused-by, route_from, routed_list}
use Rattle.laid_nets.specs.LaidNets.{room_at, LaidNets, laid_so_far, unlaid, laid_nets}
use Rattle.laid_nets.specs.CountLaws.{Counted}
use Rattle.list_routing.specs.declared.Stand.{Stand}
use Rattle.list_routing.specs.declared.NetRefused.{NetRefused}
use Rattle.list_routing.specs.ListLent.{ListLent, Desk}
use Rattle.list_routing.specs.Walk.{cells_of, lengths_of, planned_by}

-- the room that all nets of a list share
abbrev pub room_of : List ℕ → Room
room_of list = (contents_at (first_sheet list)).room

-- before the first net
abbrev pub at_first : Stand
at_first = record { place = 0; net = 0; used = 0; met = None }

-- the nets laid so far
abbrev pub so_far : Stand → ListLent → LaidNets
so_far stand B = laid_so_far (laid_room B.kinds B.facings) B.owners stand.met

-- the nets up to here are routed, kept and laid; those left, routed behind them, come to what the whole list comes to
pub record Walking (mode : Mode) (list : List ℕ) (stand : Stand) (B : ListLent) : Type 0 where
  pub nets : List Net
  pub count-is : stand.net ≡ length nets
  pub within : stand.place ≤ length list
  pub few : stand.net ≤ stand.place
  pub memory : Memory
  pub memory-lengths : memory.lengths ≡ length B.lengths
  pub ready : ListReady (room_of list) list B.blocked
  pub good : GoodFrom memory (contents_at (first_sheet list)) stand.net (sheets_in (drop stand.place list))
  pub left : route_from mode list (length B.queue) stand.net nets (length B.branches - stand.used) (sheets_in (drop stand.place list))
      ≡ routed_list mode list (length B.branches) (length B.queue)
  pub used-is : stand.used ≡ length (cells_of nets)
  pub used-most : stand.used ≤ length B.branches
  pub branches-are : B.branches ≡ filled (cells_of nets) B.branches
  pub lengths-count : length (lengths_of nets) ≡ max_sinks * stand.net
  pub lengths-are : B.lengths ≡ filled (lengths_of nets) B.lengths
  pub repeaters-are : B.repeaters ≡ marked_by (planned_by nets) (no_marks (volume (room_of list)))
  pub before-are : B.before ≡ marked_by (taken_by (room_of list) nets) (no_marks (volume (room_of list)))
  pub laid-are : so_far stand B ≡ laid_nets (room_of list) 0 nets (unlaid (room_of list) (room_at (first_sheet list)))
  pub counted : Counted (room_of list) stand.net (so_far stand B)
  pub desk : Desk (room_of list) B

-- a net is left
pub record WalkingOn (mode : Mode) (list : List ℕ) (stand : Stand) (B : ListLent) : Type 0 where
  pub walking : Walking mode list stand B
  pub some_left : stand.place < length list

-- the list ends with this net, which refuses
abbrev pub EndsWith : Mode → List ℕ → ListLent → (net number detail : ℕ) → Type 0
EndsWith mode list B net number detail = (routed_list mode list (length B.branches) (length B.queue) ≡ refused-by net number detail) × (buffer_number < number)

-- one net more, or the list ends with it
abbrev pub SteppedTo : Result Stand NetRefused → Mode → List ℕ → Stand → ListLent → ListLent → Type 0
SteppedTo (Ok next) mode list stand B B' = Walking mode list next B' × (stand.place < next.place)
SteppedTo (Err refused) mode list stand B B' = EndsWith mode list B refused.net refused.number refused.detail

pub record Stepped (mode : Mode) (list : List ℕ) (stand : Stand) (B : ListLent) (r : Result Stand NetRefused) (B' : ListLent) : Type 0 where
  pub to : SteppedTo r mode list stand B B'

-- all nets are kept and laid
pub record AllWalked (mode : Mode) (list : List ℕ) (stand : Stand) (B B' : ListLent) : Type 0 where
  pub nets : List Net
  pub routing : routed_list mode list (length B.branches) (length B.queue) ≡ all-kept nets
  pub count-is : stand.net ≡ length nets
  pub branches-are : B'.branches ≡ filled (cells_of nets) B.branches
  pub lengths-are : B'.lengths ≡ filled (lengths_of nets) B.lengths
  pub repeaters-are : B'.repeaters ≡ marked_by (planned_by nets) (no_marks (volume (room_of list)))
  pub laid-are : so_far stand B' ≡ laid_nets (room_of list) 0 nets (unlaid (room_of list) (room_at (first_sheet list)))

abbrev pub WalkedTo : Result Stand NetRefused → Mode → List ℕ → ListLent → ListLent → Type 0
WalkedTo (Ok stand) mode list B B' = AllWalked mode list stand B B'
WalkedTo (Err refused) mode list B B' = EndsWith mode list B refused.net refused.number refused.detail

pub record Walked (mode : Mode) (list : List ℕ) (B : ListLent) (r : Result Stand NetRefused) (B' : ListLent) : Type 0 where
  pub to : WalkedTo r mode list B B'
