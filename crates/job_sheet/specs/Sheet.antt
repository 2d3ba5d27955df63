-- docs/RULES.md, The job sheet, and numbers 1 to 5 over it: what a sheet says, the bytes that say it, which sheets mean something, and what
-- the reading answers. Definitions alone; their laws are in the files named Laws, what they come to in Theorems.
use Rattle.std.specs.Prelude.{◌≡◌, Bool, true, false, not, ◌&&◌, ◌||◌, List, [], ◌∷◌, ◌++◌, map, ℕ, ◌+◌, ◌-◌, ◌*◌, ◌/◌, ◌%◌, ◌≤◌, eqb, length, replicate}
use Rattle.numbers.specs.Refusals.{done_number, sheet_number, sides_number, config_number, position_number, code_number}
use Rattle.basics.specs.Tests.{either}
use Rattle.basics.specs.Lists.{every, joined}
use Rattle.room.specs.declared.Room.{Room}
use Rattle.room.specs.declared.Pos.{Pos}
use Rattle.room.specs.declared.RouterConfig.{RouterConfig}
use Rattle.room.specs.Room.{at, within}
use Rattle.room.specs.Units.{air, kind_known, facing_known, port_known}
use Rattle.job_sheet.specs.declared.Block.{Block}
use Rattle.job_sheet.specs.declared.Endpoint.{Endpoint}
use Rattle.job_sheet.specs.declared.Part.{Part}
use Rattle.job_sheet.specs.declared.places.Layout.{Layout}
use Rattle.job_sheet.specs.declared.Ranges.{Ranges}
use Rattle.job_sheet.specs.declared.Sink.{Sink}
use Rattle.job_sheet.specs.declared.Sinks.{Sinks}
use Rattle.job_sheet.specs.declared.Version.{Version}
use Rattle.job_sheet.specs.declared.Job.{Job}
use Rattle.job_sheet.specs.declared.Reading.{Reading}
use Rattle.job_sheet.specs.declared.Judgement.{Judgement}
use Rattle.job_sheet.specs.declared.Judgement.TheVariants.{Good, Sheet, Sides, Config, Position, Code}
use Rattle.job_sheet.specs.UsualLimits.{usual_run, usual_tail}
use Rattle.job_sheet.specs.Version.{version_one, version_in, position_size, block_size, endpoint_size, sink_size, lists_place, sides_within, config_within, limit_within}

-- ---- the limits of a sheet, in every version

-- "At most 60,000 bytes in all", "0 to 16" sinks
abbrev pub max_bytes : ℕ
max_bytes = 60000

abbrev pub max_sinks : ℕ
max_sinks = 16

-- ---- what a sheet says

pub record Contents : Type 0 where
  pub room : Room
  pub config : RouterConfig
  pub run : ℕ
  pub blocks : List Block
  pub conductors : List Pos
  pub clearances : List Pos
  pub terminals : List Pos
  pub reserved : List Pos
  pub source : Endpoint
  pub sinks : List Sink

-- ---- the bytes that say it

-- "Big-endian". Of a number that is too large for its bytes the first comes out as 256 or more, so that no sheet has it
abbrev pub two : ℕ → List ℕ
two n = n / 256 ∷ n % 256 ∷ []

abbrev pub four : ℕ → List ℕ
four n = two (n / 65536) ++ two (n % 65536)

-- a side or a coordinate, of two bytes where it is long
abbrev pub coordinate : Bool → ℕ → List ℕ
coordinate false n = n ∷ []
coordinate true n = two n

-- "X, Y, Z"
abbrev pub sides : Bool → Room → List ℕ
sides long R = joined (coordinate long R.wide ∷ coordinate long R.high ∷ coordinate long R.deep ∷ [])

-- "node limit, horizontal, stair, support cost (four bytes each)"
abbrev pub costs : RouterConfig → List ℕ
costs C = joined (four C.limit.0 ∷ four C.horizontal.0 ∷ four C.stair.0 ∷ four C.support.0 ∷ [])

-- "x, y, z"
abbrev pub position : Bool → Pos → List ℕ
position long p = joined (coordinate long p.x ∷ coordinate long p.y ∷ coordinate long p.z ∷ [])

-- "node two bytes, x, y, z, kind, facing"
abbrev pub block : Bool → Block → List ℕ
block long b = joined (two b.node ∷ position long b.at ∷ (b.kind ∷ b.facing ∷ []) ∷ [])

-- "x, y, z, port kind, facing"
abbrev pub endpoint : Bool → Endpoint → List ℕ
endpoint long e = position long e.at ++ (e.port ∷ e.facing ∷ [])

-- a limit: "one byte each", where limits are carried
abbrev pub limit : Bool → ℕ → List ℕ
limit false n = []
limit true n = n ∷ []

-- "sinks as the source", "the tail limit follows the sink's facing"
abbrev pub sink : Version → Sink → List ℕ
sink v k = endpoint v.long k.end ++ limit v.limits k.tail

-- "lists with two-byte counts"
abbrev pub counted : {X : Type 0} → (X → List ℕ) → List X → List ℕ
counted bytes xs = two (length xs) ++ joined (map bytes xs)

-- "one-byte sink count", then the sinks
abbrev pub sink_bytes : Version → List Sink → List ℕ
sink_bytes v ks = length ks ∷ joined (map (sink v) ks)

-- "then X, Y, Z; node limit, ..": all that stands behind the length
unfoldable pub rest : Version → Contents → List ℕ
rest v J =
    let long = v.long in
    joined (
    sides long J.room
    ∷ costs J.config
    ∷ limit v.limits J.run
    ∷ counted (block long) J.blocks
    ∷ counted (position long) J.conductors
    ∷ counted (position long) J.clearances
    ∷ counted (position long) J.terminals
    ∷ counted (position long) J.reserved
    ∷ endpoint long J.source
    ∷ sink_bytes v J.sinks
    ∷ []
    )

-- "version byte, four-byte length of the rest"
unfoldable pub bytes_by : Version → Contents → List ℕ
bytes_by v J = v.number ∷ (four (length (rest v J)) ++ rest v J)

-- those of version 1
abbrev pub bytes_of : Contents → List ℕ
bytes_of J = bytes_by version_one J

-- "12 and 8 throughout"
unfoldable pub usual : Contents → Bool
usual J = eqb J.run usual_run && every (λ k. eqb k.tail usual_tail) J.sinks

-- a version tells J's limits: it carries them, or they are the usual ones
abbrev pub tells_limits : Version → Contents → Bool
tells_limits v J = v.limits || usual J

-- the sheet means J in a version
pub record MeansBy (v : Version) (sheet : List ℕ) (J : Contents) : Type 0 where
  pub bytes : bytes_by v J ≡ sheet
  pub limits : tells_limits v J ≡ true
  pub short : length sheet ≤ max_bytes
  pub few-sinks : length J.sinks ≤ max_sinks

-- and in that of its first byte. Where it means nothing, number 1 is due: "sheet length, version, count past the end, bytes left over, over 16 sinks"
abbrev pub Means : List ℕ → Contents → Type 0
Means sheet J = MeansBy (version_in sheet) sheet J

-- ---- how it is judged: numbers 2 and 3, "then record by record 4 before 5". The first fault decides

-- no number is due
abbrev pub is_good : Judgement → Bool
is_good Good = true
is_good Sheet = false
is_good Sides = false
is_good Config = false
is_good Position = false
is_good Code = false

-- the first of these numbers that is due
unfoldable pub first_fault : List Judgement → Judgement
first_fault [] = Good
first_fault (v ∷ vs) = either (is_good v) (first_fault vs) v

-- at the ranges of the sheet's version
abbrev pub sides_fault : Ranges → Room → Judgement
sides_fault g R = either (sides_within g R) Good Sides

abbrev pub config_fault : Ranges → Room → RouterConfig → Judgement
config_fault g R C = either (config_within g R C) Good Config

-- "3 for a limit outside 1 to 15"
abbrev pub limit_fault : ℕ → Judgement
limit_fault n = either (limit_within n) Good Config

-- "a position outside the room"
abbrev pub position_fault : Room → Pos → Judgement
position_fault R p = either (within R p) Good Position

-- "unknown code"
abbrev pub code_fault : Bool → Judgement
code_fault known = either known Good Code

-- "or Air in a block record"
unfoldable pub block_fault : Room → Block → Judgement
block_fault R b =
    first_fault (position_fault R b.at ∷ code_fault (kind_known b.kind) ∷ code_fault (not (eqb b.kind air)) ∷ code_fault (facing_known b.facing) ∷ [])

-- "4 before 5" in the source and in each sink
unfoldable pub endpoint_fault : Room → Endpoint → Judgement
endpoint_fault R e = first_fault (position_fault R e.at ∷ code_fault (port_known e.port) ∷ code_fault (facing_known e.facing) ∷ [])

-- "the tail limit is judged with its record, after 4 and 5"
unfoldable pub sink_fault : Room → Sink → Judgement
sink_fault R k = first_fault (endpoint_fault R k.end ∷ limit_fault k.tail ∷ [])

-- what is judged, in its order: 2, 3 ("run limit first" of the limits), then the records as the sheet has them
abbrev pub faults_of : Version → Contents → List (List Judgement)
faults_of v J =
    let R = J.room in
    (sides_fault v.ranges R ∷ config_fault v.ranges R J.config ∷ limit_fault J.run ∷ [])
    ∷ map (block_fault R) J.blocks
    ∷ map (position_fault R) J.conductors
    ∷ map (position_fault R) J.clearances
    ∷ map (position_fault R) J.terminals
    ∷ map (position_fault R) J.reserved
    ∷ (endpoint_fault R J.source ∷ [])
    ∷ map (sink_fault R) J.sinks
    ∷ []

unfoldable pub judged : Version → Contents → Judgement
judged v J = first_fault (joined (faults_of v J))

-- the numbers that come back
abbrev pub number_of : Judgement → ℕ
number_of Good = done_number
number_of Sheet = sheet_number
number_of Sides = sides_number
number_of Config = config_number
number_of Position = position_number
number_of Code = code_number

-- ---- what the reading answers

abbrev pub no_endpoint : Endpoint
no_endpoint = record { at = at 0 0 0; port = 0; facing = 0 }

-- what stands in a place of `Sinks` that no sink takes
abbrev pub no_sink : Sink
no_sink = record { end = no_endpoint; tail = 0 }

-- "The sixteen sinks with their count travel as one value": those of the sheet, then places that hold nothing
abbrev pub sinks_of : List Sink → Sinks
sinks_of ks = record { count = length ks; ends = ks ++ replicate (max_sinks - length ks) no_sink }

-- Where the parts of a sheet stand. A list's records begin at `from`, behind its count, which stands right behind the part before it
abbrev pub listed : Bool → ℕ → ℕ → ℕ → Part
listed long size place n = record { from = place + 2; count = n; size = size; long = long }

-- the source is one record
abbrev pub source_at : Version → ℕ → Part
source_at v place = record { from = place; count = 1; size = endpoint_size v.long; long = v.long }

-- the sinks' records begin behind their count of one byte
abbrev pub sinks_listed : Version → ℕ → ℕ → Part
sinks_listed v place n = record { from = place + 1; count = n; size = sink_size v; long = v.long }

-- the place right behind a part
abbrev pub behind : Part → ℕ
behind p = p.from + p.size * p.count

-- the parts in the sheet's order, from the first list on
unfoldable pub layout_of : Version → Contents → Layout
layout_of v J =
    let long = v.long in
    let b = listed long (block_size long) (lists_place v) (length J.blocks) in
    let c = listed long (position_size long) (behind b) (length J.conductors) in
    let l = listed long (position_size long) (behind c) (length J.clearances) in
    let t = listed long (position_size long) (behind l) (length J.terminals) in
    let r = listed long (position_size long) (behind t) (length J.reserved) in
    let e = source_at v (behind r) in
    record {
      blocks = b;
      conductors = c;
      clearances = l;
      terminals = t;
      reserved = r;
      source = e;
      sinks = sinks_listed v (behind e) (length J.sinks);
    }

-- the lists stay in the sheet's bytes
unfoldable pub job_of : Version → Contents → Job
job_of v J =
    let L = layout_of v J in
    record {
      room = J.room;
      config = J.config;
      run = J.run;
      blocks = L.blocks;
      conductors = L.conductors;
      clearances = L.clearances;
      terminals = L.terminals;
      reserved = L.reserved;
      source = J.source;
      sinks = sinks_of J.sinks;
    }

-- on a refusal
abbrev pub no_part : Part
no_part = record { from = 0; count = 0; size = 0; long = false }

unfoldable pub no_job : Job
no_job = record {
  room = record { wide = 0; high = 0; deep = 0 };
  config = record { limit = record { 0 = 0 }; horizontal = record { 0 = 0 }; stair = record { 0 = 0 }; support = record { 0 = 0 } };
  run = 0;
  blocks = no_part;
  conductors = no_part;
  clearances = no_part;
  terminals = no_part;
  reserved = no_part;
  source = no_endpoint;
  sinks = sinks_of [];
}

abbrev pub accepted : Version → Contents → Reading
accepted v J = record { judgement = Good; job = job_of v J }

abbrev pub refused : Judgement → Reading
refused f = record { judgement = f; job = no_job }

-- the job where no number is due, else that number
abbrev pub answer : Version → Contents → Reading
answer v J = either (is_good (judged v J)) (accepted v J) (refused (judged v J))

-- r is right for the sheet: it answers what the sheet means, or number 1 where it means nothing
pub data Read (sheet : List ℕ) (r : Reading) : Type 0 where
  meaning : (J : Contents) → Means sheet J → r ≡ answer (version_in sheet) J → Read sheet r
  means-nothing : ((J : Contents) → Means sheet J → ⊥) → r ≡ refused Sheet → Read sheet r
