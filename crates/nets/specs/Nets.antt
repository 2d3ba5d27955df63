-- A job list routed "in the order given", net by net: "each net seeing the conductors and clearances of those before it [..] and the other jobs' protected
-- terminals". "The first net that refuses ends the list." Definitions alone; their laws are in the files named Laws.
use Rattle.std.specs.Prelude.{Bool, ◌||◌, List, [], ◌∷◌, ◌++◌, ℕ, ◌+◌, ◌-◌, length}
use Rattle.basics.specs.Lists.{any, joined}
use Rattle.room.specs.declared.Room.{Room}
use Rattle.room.specs.Room.{volume}
use Rattle.ground.specs.declared.Mode.{Mode}
use Rattle.job_sheet.specs.Sheet.{Contents}
use Rattle.blocks.specs.Blocks.{Placed, kinds_of, nodes_of}
use Rattle.ends.specs.Ends.{taps_in, fault_of}
use Rattle.outset.specs.SetOut.{Outset}
use Rattle.laying.specs.Laying.{Net}
use Rattle.net_tree.specs.declared.Lengths.{Lengths}
use Rattle.net_tree.specs.Answers.{TreeOutcome, routed, no_tree, job_outcome}
use Rattle.job_list.specs.Split.{sheets_of}
use Rattle.job_list.specs.Judged.{contents_at}
use Rattle.other_nets.specs.Others.{net_clear, ends_at, protected_from, blocked_in_list}

-- ---- one net

-- the room of a sheet's blocks, cell by cell
abbrev pub kinds_at : List ℕ → List ℕ
kinds_at sheet = let J = contents_at sheet in kinds_of J.room J.blocks

abbrev pub nodes_at : List ℕ → List ℕ
nodes_at sheet = let J = contents_at sheet in nodes_of J.room J.blocks

-- the job of a sheet set out, where no number is due
abbrev pub outset_at : List ℕ → Outset
outset_at sheet = let J = contents_at sheet in record { placement = Placed; fault = fault_of J.room J.source J.sinks; ends = ends_at sheet }

-- what is blocked for net k, where the nets before keep others off these cells
abbrev pub blocked_at : List ℕ → ℕ → (ℕ → Bool) → List ℕ → List ℕ
blocked_at list k taken sheet =
    let J = contents_at sheet in
    blocked_in_list (kinds_at sheet) (nodes_at sheet) J (ends_at sheet).source (ends_at sheet).taps (λ v. taken v || protected_from J.room k 0 (sheets_of list) v)

-- what is lent for one net: so many cells of the branch buffer, a queue of this length, and V numbers in each other buffer
abbrev pub lent_for : Room → ℕ → ℕ → Lengths
lent_for R left queue =
    let n = volume R in
    record { branches = left; occupied = n; repeaters = n; kinds = n; blocked = n; classes = n; joinable = n; known = n; previous = n; path = n; best = n; queue = queue }

-- what net k comes to: what a single job comes to, over what is blocked in the list
unfoldable pub net_outcome : Mode → List ℕ → ℕ → ℕ → (ℕ → Bool) → ℕ → List ℕ → TreeOutcome
net_outcome mode list queue k taken left sheet =
    let J = contents_at sheet in
    job_outcome mode J (lent_for J.room left queue) (outset_at sheet) (kinds_at sheet) (blocked_at list k taken sheet)

-- ---- all nets

-- the cells that the nets before keep others off
unfoldable pub taken_by : Room → List Net → ℕ → Bool
taken_by R nets v = any (λ N. net_clear R N.source N.branches v) nets

-- what routing a list comes to: its nets in list order, or the net that refuses, its number and the detail
pub data Routing : Type 0 where
  all-kept : List Net → Routing
  refused-by : (net number detail : ℕ) → Routing

-- the net of a sheet, with these branches, marks of what it occupies and of its repeaters
abbrev pub net_at : List ℕ → List (List ℕ) → List ℕ → List ℕ → Net
net_at sheet branches occupied repeaters =
    record { source = (ends_at sheet).source; taps = taps_in (ends_at sheet).taps; branches = branches; occupied = occupied; repeaters = repeaters }

-- the nets behind are routed only if this one is
abbrev pub keep_on : (Net → Routing) → ℕ → List ℕ → TreeOutcome → Routing
keep_on rest k sheet (routed branches occupied repeaters) = rest (net_at sheet branches occupied repeaters)
keep_on rest k sheet (no_tree number detail) = refused-by k number detail

-- the nets from the k-th on, behind these nets, with so many cells of the branch buffer left: "each net has what is left, 15 with its index"
unfoldable pub route_from : Mode → List ℕ → ℕ → ℕ → List Net → ℕ → List (List ℕ) → Routing
route_from mode list queue k nets left [] = all-kept nets
route_from mode list queue k nets left (sheet ∷ sheets) =
    keep_on (λ N. route_from mode list queue (k + 1) (nets ++ (N ∷ [])) (left - length (joined N.branches)) sheets) k sheet
    (net_outcome mode list queue k (taken_by (contents_at sheet).room nets) left sheet)

-- a list for which none of numbers 1 to 9 is due
unfoldable pub routed_list : Mode → List ℕ → ℕ → ℕ → Routing
routed_list mode list buffer queue = route_from mode list queue 0 [] buffer (sheets_of list)
