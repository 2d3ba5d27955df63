-- What the contracts of laying one net of a list, and of laying out its room, cite.
use Rattle.std.specs.Prelude.{◌≡◌, List, ℕ, ◌+◌, ◌<◌, ◌^◌, length, replicate, Option, None}
use Rattle.room.specs.declared.Room.{Room}
use Rattle.room.specs.Room.{Good, volume}
use Rattle.job_sheet.specs.declared.Job.{Job}
use Rattle.job_sheet.specs.Sheet.{Contents}
use Rattle.job_sheet.specs.Accepted.{Accepted}
use Rattle.blocks.specs.Blocks.{Placement, Placed}
use Rattle.blocks.specs.Blocks.{Placing}
use Rattle.ends.specs.declared.Taps.{Taps}
use Rattle.branches.specs.declared.BranchLengths.{BranchLengths}
use Rattle.repeaters.specs.Masks.{BranchesReady}
use Rattle.job_list.specs.declared.Memory.{Memory}
use Rattle.job_list.specs.Judged.{contents_at}
use Rattle.job_list.specs.GoodNets.{GoodNet}
use Rattle.other_nets.specs.Others.{ends_at}
use Rattle.laying.specs.Laying.{laid_room, overlap_of}
use Rattle.laying.specs.Layable.{net_of, Layable}
use Rattle.laid_nets.specs.declared.Meeting.{Meeting}
use Rattle.laid_nets.specs.LaidNets.{room_at, laid_so_far, met_after, with_net}

-- ---- the room

-- an accepted sheet, and cleared memory of exactly V cells
pub record RoomAsked (sheet : List ℕ) (job : Job) (kinds facings nodes : List ℕ) : Type 0 where
  pub accepted : Accepted sheet job
  pub kinds-clear : kinds ≡ replicate (volume job.room) 0
  pub facings-clear : facings ≡ replicate (volume job.room) 0
  pub nodes-clear : nodes ≡ replicate (volume job.room) 0

-- its blocks are laid out with their facings, or number 7 is due
pub record RoomSet (sheet : List ℕ) (r : Placement) (kinds facings : List ℕ) : Type 0 where
  pub placing : Placing (contents_at sheet).room (contents_at sheet).blocks (length (contents_at sheet).blocks) r
  pub laid : r ≡ Placed → laid_room kinds facings ≡ room_at sheet

-- ---- a net

-- net k may be told as one of 32 bits, unless it meets a lower one
abbrev pub Numbered : ℕ → Option Meeting → List ℕ → List ℕ → Type 0
Numbered k met occupied owners = met_after met k (overlap_of occupied owners) ≡ None → k + 1 < 2 ^ 32

-- its cells can become its own
pub record Owning (met : Option Meeting) (k : ℕ) (occupied owners : List ℕ) : Type 0 where
  pub numbered : met ≡ None → k + 1 < 2 ^ 32
  pub long : length owners ≡ length occupied

pub record NetLayable (R : Room) (source : ℕ) (T : Taps) (k : ℕ) (met : Option Meeting) (L : BranchLengths) (cells occupied planned owners kinds facings links parents line : List ℕ) : Type 0 where
  pub layable : Layable R source T L cells occupied planned kinds facings links parents line
  pub owners-long : length owners ≡ volume R
  pub numbered : Numbered k met occupied owners

pub record NetLaid (R : Room) (source : ℕ) (T : Taps) (k : ℕ) (met : Option Meeting) (L : BranchLengths) (cells occupied planned owners kinds facings : List ℕ)
    (r : Option Meeting) (owners' kinds' facings' : List ℕ) : Type 0 where
  pub is : laid_so_far (laid_room kinds' facings') owners' r ≡ with_net R k (net_of source T L cells occupied planned) (laid_so_far (laid_room kinds facings) owners met)

-- ---- the net of a sheet

-- a sheet of a list for which no number is due, the branches of its net, and memory of exactly V cells
pub record SheetLayable (sheet : List ℕ) (k : ℕ) (met : Option Meeting) (L : BranchLengths) (cells occupied planned owners kinds facings links parents line : List ℕ) : Type 0 where
  pub memory : Memory
  pub first : Contents
  pub place : ℕ
  pub net : GoodNet memory first place sheet
  pub good : Good (contents_at sheet).room
  pub ready : BranchesReady (contents_at sheet).room L cells
  pub occupied-long : length occupied ≡ volume (contents_at sheet).room
  pub planned-long : length planned ≡ volume (contents_at sheet).room
  pub owners-long : length owners ≡ volume (contents_at sheet).room
  pub kinds-long : length kinds ≡ volume (contents_at sheet).room
  pub facings-long : length facings ≡ volume (contents_at sheet).room
  pub links-long : length links ≡ volume (contents_at sheet).room
  pub parents-long : length parents ≡ volume (contents_at sheet).room
  pub line-long : length line ≡ volume (contents_at sheet).room
  pub numbered : Numbered k met occupied owners

abbrev pub SheetLaid : (sheet : List ℕ) (k : ℕ) (met : Option Meeting) (L : BranchLengths) (cells occupied planned owners kinds facings : List ℕ) (r : Option Meeting) (owners' kinds' facings' : List ℕ) → Type 0
SheetLaid sheet = NetLaid (contents_at sheet).room (ends_at sheet).source (ends_at sheet).taps
