-- What the theorems say of several nets: how each is routed behind those before it, where two of them meet, whose the cells are, and how the room is laid.
use Rattle.std.specs.Prelude.{◌≡◌, ◌≢◌, ◌↔◌, Bool, true, false, ◌||◌, List, [], ◌++◌, map, ℕ, ◌+◌, ◌-◌, ◌≤◌, ◌<◌, length, get_or, take, Option, Some, None}
use Rattle.numbers.specs.Refusals.{done_number}
use Rattle.basics.specs.Lists.{In}
use Rattle.room.specs.declared.Room.{Room}
use Rattle.room.specs.declared.Pos.{Pos}
use Rattle.room.specs.Room.{volume, pos_of}
use Rattle.room.specs.Units.{repeater, no_facing}
use Rattle.ground.specs.declared.Mode.{Mode}
use Rattle.routing_resources.specs.Marks.{is_marked}
use Rattle.job_sheet.specs.Sheet.{Contents}
use Rattle.ends.specs.declared.Tap.{Tap}
use Rattle.outset.specs.Outset.{blocked_at_outset}
use Rattle.repeaters.specs.Repeaters.{cells_passing, facing_of}
use Rattle.net_tree.specs.Answers.{TreeOutcome, routed, no_tree, job_outcome}
use Rattle.job_list.specs.Split.{sheets_of}
use Rattle.job_list.specs.declared.Memory.{Memory}
use Rattle.job_list.specs.Judged.{contents_at, judged_list}
use Rattle.other_nets.specs.Others.{ends_at, protected_from}
use Rattle.laying.specs.Laying.{Net, Laid, direction_of, parents_on, powered_at}
use Rattle.nets.specs.Nets.{kinds_at, nodes_at, outset_at, lent_for, net_outcome, taken_by, all-kept, net_at, routed_list}
use Rattle.nets.specs.Theorems.{WithResources}
use Rattle.laid_nets.specs.declared.Meeting.{Meeting}
use Rattle.laid_nets.specs.LaidNets.{meeting_at}
use Rattle.list_routing.specs.Walk.{cells_of}

-- net k of these, and the k-th sheet of a list, both from 0; behind the last there is an empty one
abbrev pub no_net : Net
no_net = record { source = 0; taps = []; branches = []; occupied = []; repeaters = [] }

abbrev pub net_in : List Net → ℕ → Net
net_in nets k = get_or nets k no_net

abbrev pub sheet_in : List ℕ → ℕ → List ℕ
sheet_in list k = get_or (sheets_of list) k []

-- a list for which none of numbers 1 to 9 is due, and which keeps these nets
pub record Routed (mode : Mode) (list : List ℕ) (buffer queue : ℕ) (nets : List Net) : Type 0 where
  pub memory : Memory
  pub none-due : (judged_list memory list).number ≡ done_number
  pub kept : routed_list mode list buffer queue ≡ all-kept nets

-- ---- each net is a single job's

-- what the k-th sheet comes to behind these nets: it sees what they keep others off, and has what their cells leave of the branch buffer
abbrev pub outcome_behind : Mode → List ℕ → ℕ → ℕ → List Net → ℕ → TreeOutcome
outcome_behind mode list buffer queue before k =
    net_outcome mode list queue k (taken_by (contents_at (sheet_in list k)).room before) (buffer - length (cells_of before)) (sheet_in list k)

-- K is a single job like the k-th sheet's, but that its lists block, besides, what the nets before and the other jobs' ends keep others off
abbrev pub LikeNet : List ℕ → List Net → ℕ → Contents → Type 0
LikeNet list before k K =
    let sheet = sheet_in list k in
    let R = (contents_at sheet).room in
    WithResources (contents_at sheet) K (kinds_at sheet) (nodes_at sheet) (λ v. taken_by R before v || protected_from R k 0 (sheets_of list) v)

-- such a job is the sheet's own, with those cells reserved
abbrev pub cells_reserved : Room → (ℕ → Bool) → List Pos
cells_reserved R others = map (pos_of R) (cells_passing others (volume R) 0)

abbrev pub with_reserved : Contents → (ℕ → Bool) → Contents
with_reserved J others = record {
  room = J.room;
  config = J.config;
  run = J.run;
  blocks = J.blocks;
  conductors = J.conductors;
  clearances = J.clearances;
  terminals = J.terminals;
  reserved = J.reserved ++ cells_reserved J.room others;
  source = J.source;
  sinks = J.sinks;
}

abbrev pub reserved_for : List ℕ → List Net → ℕ → Contents
reserved_for list before k =
    let J = contents_at (sheet_in list k) in with_reserved J (λ v. taken_by J.room before v || protected_from J.room k 0 (sheets_of list) v)

-- what that job comes to by itself, with what the nets before leave of the branch buffer
abbrev pub single_outcome : Mode → List ℕ → ℕ → ℕ → List Net → ℕ → Contents → TreeOutcome
single_outcome mode list buffer queue before k K =
    let sheet = sheet_in list k in
    job_outcome mode K (lent_for K.room (buffer - length (cells_of before)) queue) (outset_at sheet) (kinds_at sheet)
    (blocked_at_outset (kinds_at sheet) (nodes_at sheet) K (ends_at sheet).source (ends_at sheet).taps)

-- net k of these nets is what its sheet comes to behind those before it, and so what such a single job comes to
pub record KeptNet (mode : Mode) (list : List ℕ) (buffer queue : ℕ) (nets : List Net) (k : ℕ) : Type 0 where
  pub branches : List (List ℕ)
  pub occupied : List ℕ
  pub repeaters : List ℕ
  pub net-is : net_in nets k ≡ net_at (sheet_in list k) branches occupied repeaters
  pub outcome : outcome_behind mode list buffer queue (take k nets) k ≡ routed branches occupied repeaters
  pub single : (K : Contents) → LikeNet list (take k nets) k K → single_outcome mode list buffer queue (take k nets) k K ≡ routed branches occupied repeaters

-- there are as many nets as sheets, and each is such
pub record AllKept (mode : Mode) (list : List ℕ) (buffer queue : ℕ) (nets : List Net) : Type 0 where
  pub count : length nets ≡ length (sheets_of list)
  pub each : (k : ℕ) → k < length nets → KeptNet mode list buffer queue nets k

-- the nets before net k are such, and its own sheet, behind them, has this number and detail; so has such a single job
pub record RefusedNet (mode : Mode) (list : List ℕ) (buffer queue k number detail : ℕ) : Type 0 where
  pub before : List Net
  pub count : length before ≡ k
  pub below : k < length (sheets_of list)
  pub each : (j : ℕ) → j < k → KeptNet mode list buffer queue before j
  pub outcome : outcome_behind mode list buffer queue before k ≡ no_tree number detail
  pub single : (K : Contents) → LikeNet list before k K → single_outcome mode list buffer queue before k K ≡ no_tree number detail

-- ---- number 17 can't occur

-- each planned repeater of the net has a direction, and so has each that stands at a BlockPower sink's terminal
pub record AllDirected (R : Room) (N : Net) : Type 0 where
  pub planned : (v : ℕ) → is_marked N.repeaters v ≡ true → direction_of R (parents_on R N) v ≢ no_facing
  pub power : (tap : Tap) → In tap N.taps → tap.wire ≡ false → facing_of R tap.approach tap.terminal ≢ no_facing

-- the net puts a repeater there
abbrev pub PutsRepeater : Net → ℕ → Type 0
PutsRepeater N v = is_marked N.repeaters v || powered_at N.taps v ≡ true

-- a repeater stands there, with a direction
pub record StandsDirected (room : Laid) (v : ℕ) : Type 0 where
  pub kind-is : get_or room.kinds v 0 ≡ repeater
  pub directed : get_or room.facings v 0 ≢ no_facing

-- ---- where two nets meet

-- net k occupies the cell
abbrev pub Occupies : List Net → ℕ → ℕ → Type 0
Occupies nets k v = is_marked (net_in nets k).occupied v ≡ true

-- and so does a net before it
pub record Meets (nets : List Net) (k v : ℕ) : Type 0 where
  pub own : Occupies nets k v
  pub lower : ℕ
  pub before : lower < k
  pub too : Occupies nets lower v

-- none of the first n nets shares a cell with a net before it
pub record Apart (nets : List Net) (n : ℕ) : Type 0 where
  pub none : (k v : ℕ) → k < n → Meets nets k v → ⊥

-- "first net to meet a lower one, its least such cell"
pub record FirstMeeting (nets : List Net) (k v : ℕ) : Type 0 where
  pub net : k < length nets
  pub meets : Meets nets k v
  pub least : (u : ℕ) → u < v → Meets nets k u → ⊥
  pub first : Apart nets k

-- each net has a mark for each cell of the room
pub record OneRoom (R : Room) (nets : List Net) : Type 0 where
  pub long : (k : ℕ) → k < length nets → length (net_in nets k).occupied ≡ volume R

-- a meeting is told exactly where it is the first, and none exactly where no net shares a cell with another
pub record MeetingTold (nets : List Net) (met : Option Meeting) : Type 0 where
  pub meeting : (k v : ℕ) → (met ≡ Some (meeting_at k v)) ↔ FirstMeeting nets k v
  pub nowhere : (met ≡ None) ↔ Apart nets (length nets)

-- ---- whose the cells are

-- "0 or net + 1": one more than k exactly where net k occupies the cell, 0 exactly where none does
pub record OwnersTold (R : Room) (nets : List Net) (owners : List ℕ) : Type 0 where
  pub long : length owners ≡ volume R
  pub owned : (k v : ℕ) → k < length nets → (get_or owners v 0 ≡ k + 1) ↔ Occupies nets k v
  pub nobody's : (v : ℕ) → (get_or owners v 0 ≡ 0) ↔ ((k : ℕ) → k < length nets → is_marked (net_in nets k).occupied v ≡ false)
  pub no_other : (v : ℕ) → get_or owners v 0 ≤ length nets
