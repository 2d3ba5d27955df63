-- What whoever uses an accepted sheet may count on: the job is that of the sheet's contents, the room and the config are in range, and each record's
-- position is inside. Definitions alone; that they hold is in Theorems.
use Rattle.std.specs.Prelude.{◌≡◌, List, ℕ, ◌≤◌, ◌<◌, length, get_or}
use Rattle.room.specs.declared.Room.{Room}
use Rattle.room.specs.declared.Pos.{Pos}
use Rattle.room.specs.Room.{Within, Good as GoodRoom}
use Rattle.room.specs.Units.{GoodConfig}
use Rattle.job_sheet.specs.declared.Block.{Block}
use Rattle.job_sheet.specs.declared.Part.{Part}
use Rattle.job_sheet.specs.declared.Sinks.{Sinks}
use Rattle.job_sheet.specs.declared.Job.{Job}
use Rattle.job_sheet.specs.declared.Judgement.TheVariants.{Good}
use Rattle.job_sheet.specs.Version.{version_in}
use Rattle.job_sheet.specs.Sheet.{Contents, Means, judged, max_sinks, behind, no_sink, job_of}
use Rattle.job_sheet.specs.Places.{no_block, no_position, blocks_in, positions_in}

-- the sheet is accepted as this job
pub record Accepted (sheet : List ℕ) (job : Job) : Type 0 where
  pub contents : Contents
  pub means : Means sheet contents
  pub good : judged (version_in sheet) contents ≡ Good
  pub is : job ≡ job_of (version_in sheet) contents

-- ---- the lists: where they stand, what they are, and that each record's position is in the room

pub record BlockList (sheet : List ℕ) (R : Room) (p : Part) (bs : List Block) : Type 0 where
  pub inside : behind p ≤ length sheet
  pub are : blocks_in sheet p ≡ bs
  pub within : (i : ℕ) → i < p.count → Within R (get_or (blocks_in sheet p) i no_block).at

pub record PositionList (sheet : List ℕ) (R : Room) (p : Part) (ps : List Pos) : Type 0 where
  pub inside : behind p ≤ length sheet
  pub are : positions_in sheet p ≡ ps
  pub within : (i : ℕ) → i < p.count → Within R (get_or (positions_in sheet p) i no_position)

pub record SinkList (R : Room) (k : Sinks) : Type 0 where
  pub few : k.count ≤ max_sinks
  pub whole : length k.ends ≡ max_sinks
  pub within : (i : ℕ) → i < k.count → Within R (get_or k.ends i no_sink).end.at

pub record Usable (sheet : List ℕ) (job : Job) (J : Contents) : Type 0 where
  pub room-is : job.room ≡ J.room
  pub room-good : GoodRoom job.room
  pub config-is : job.config ≡ J.config
  pub config-good : GoodConfig job.room job.config
  pub run_is : job.run ≡ J.run
  pub blocks : BlockList sheet job.room job.blocks J.blocks
  pub conductors : PositionList sheet job.room job.conductors J.conductors
  pub clearances : PositionList sheet job.room job.clearances J.clearances
  pub terminals : PositionList sheet job.room job.terminals J.terminals
  pub reserved : PositionList sheet job.room job.reserved J.reserved
  pub source_is : job.source ≡ J.source
  pub source : Within job.room job.source.at
  pub sinks : SinkList job.room job.sinks
