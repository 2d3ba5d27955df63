-- All nets of a list laid into one room, "net by net in list order, over the room of blocks with their facings"; whose each cell is; and where two nets
-- overlap: "first net to meet a lower one, its least such cell". Definitions alone; their laws are in the files named Laws.
use Rattle.std.specs.Prelude.{List, [], ◌∷◌, ℕ, ◌+◌, Option, Some, None}
use Rattle.room.specs.declared.Room.{Room}
use Rattle.room.specs.Room.{volume}
use Rattle.room.specs.Units.{no_facing}
use Rattle.routing_resources.specs.Marks.{no_marks}
use Rattle.job_sheet.specs.declared.Block.{Block}
use Rattle.blocks.specs.Blocks.{of_block, tabulated, kinds_of}
use Rattle.job_list.specs.Judged.{contents_at}
use Rattle.laying.specs.Laying.{Net, Laid, laid_room, laid_net, owned_by, overlap_of}
use Rattle.laid_nets.specs.declared.Meeting.{Meeting}

-- ---- the room of blocks with their facings

abbrev pub facings_of : Room → List Block → List ℕ
facings_of R bs = tabulated (volume R) (of_block (λ b. b.facing) no_facing R bs)

abbrev pub room_at : List ℕ → Laid
room_at sheet = let J = contents_at sheet in laid_room (kinds_of J.room J.blocks) (facings_of J.room J.blocks)

-- ---- the nets

-- what the nets so far have come to: the room as they leave it, whose its cells are, and where two of them overlap
pub record LaidNets : Type 0 where
  pub room : Laid
  pub owners : List ℕ
  pub met : Option Meeting

abbrev pub laid_so_far : Laid → List ℕ → Option Meeting → LaidNets
laid_so_far room owners met = record { room = room; owners = owners; met = met }

-- before any net
abbrev pub unlaid : Room → Laid → LaidNets
unlaid R room = laid_so_far room (no_marks (volume R)) None

-- net k meets a lower one at this cell
abbrev pub meeting_at : ℕ → ℕ → Meeting
meeting_at k cell = record { net = k; cell = cell }

-- the first net to meet a lower one is told
abbrev pub met_after : Option Meeting → ℕ → Option ℕ → Option Meeting
met_after (Some earlier) k overlap = Some earlier
met_after None k (Some cell) = Some (meeting_at k cell)
met_after None k None = None

-- a net's cells become its own; where two nets have met nobody asks any more
abbrev pub owners_after : Option Meeting → ℕ → List ℕ → List ℕ → List ℕ
owners_after None k occupied owners = owned_by k occupied owners
owners_after (Some earlier) k occupied owners = owners

-- net k laid behind those so far
unfoldable pub with_net : Room → ℕ → Net → LaidNets → LaidNets
with_net R k N S =
    let met : Option Meeting = met_after S.met k (overlap_of N.occupied S.owners) in
    laid_so_far (laid_net R N S.room) (owners_after met k N.occupied S.owners) met

-- the nets from the k-th on
unfoldable pub laid_nets : Room → ℕ → List Net → LaidNets → LaidNets
laid_nets R k [] S = S
laid_nets R k (N ∷ nets) S = laid_nets R (k + 1) nets (with_net R k N S)
