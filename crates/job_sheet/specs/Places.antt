-- What stands at a place of a sheet, and where its parts stand: the encoding of Sheet.antt read backwards, as the code does it. Past the end every
-- byte is taken for 0, so that each of these is defined; whether a sheet means anything is asked of the whole.
use Rattle.std.specs.Prelude.{◌≡◌, Bool, true, false, ◌&&◌, List, [], ◌∷◌, ℕ, suc, zero, ◌+◌, ◌*◌, ◌^◌, ◌≤◌, ◌<◌, leb, eqb, length, get_or, drop}
use Rattle.room.specs.declared.Room.{Room}
use Rattle.room.specs.declared.Pos.{Pos}
use Rattle.room.specs.declared.RouterConfig.{RouterConfig}
use Rattle.room.specs.Room.{at}
use Rattle.job_sheet.specs.declared.Block.{Block}
use Rattle.job_sheet.specs.declared.Endpoint.{Endpoint}
use Rattle.job_sheet.specs.declared.Part.{Part}
use Rattle.job_sheet.specs.declared.Ranges.{Ranges}
use Rattle.job_sheet.specs.declared.Sink.{Sink}
use Rattle.job_sheet.specs.declared.Version.{Version}
use Rattle.job_sheet.specs.declared.places.Layout.{Layout}
use Rattle.job_sheet.specs.declared.faults.Records.{Records}
use Rattle.job_sheet.specs.declared.faults.Records.TheVariants.{Blocks, Positions, Endpoints, Sinks}
use Rattle.job_sheet.specs.declared.Judgement.{Judgement}
use Rattle.job_sheet.specs.UsualLimits.{usual_run, usual_tail}
use Rattle.job_sheet.specs.Version.{width, position_size, block_size, endpoint_size, most_size, sides_place, config_place, run_place, lists_place}
use Rattle.job_sheet.specs.Sheet.{Contents, max_bytes, max_sinks, listed, source_at, sinks_listed, behind, first_fault, sides_fault, config_fault, limit_fault, position_fault, block_fault, endpoint_fault, sink_fault}

-- ---- at byte k of what begins at a place

abbrev pub two_in : List ℕ → ℕ → ℕ
two_in l k = get_or l k 0 * 256 + get_or l (k + 1) 0

abbrev pub four_in : List ℕ → ℕ → ℕ
four_in l k = two_in l k * 65536 + two_in l (k + 2)

-- of two bytes where it is long
abbrev pub coordinate_in : Bool → List ℕ → ℕ → ℕ
coordinate_in false l k = get_or l k 0
coordinate_in true l k = two_in l k

abbrev pub position_in : Bool → List ℕ → ℕ → Pos
position_in long l k = at (coordinate_in long l k) (coordinate_in long l (k + width long)) (coordinate_in long l (k + width long + width long))

abbrev pub room_in : Bool → List ℕ → Room
room_in long l = let p = position_in long l 0 in record { wide = p.x; high = p.y; deep = p.z }

abbrev pub config_in : List ℕ → RouterConfig
config_in l = record {
  limit = record { 0 = four_in l 0 };
  horizontal = record { 0 = four_in l 4 };
  stair = record { 0 = four_in l 8 };
  support = record { 0 = four_in l 12 };
}

-- a limit where limits are carried, else the usual one
abbrev pub limit_in : Bool → ℕ → List ℕ → ℕ → ℕ
limit_in false usual l k = usual
limit_in true usual l k = get_or l k 0

-- ---- records

abbrev pub block_in : Bool → List ℕ → Block
block_in long l = record {
  node = two_in l 0;
  at = position_in long l 2;
  kind = get_or l (2 + position_size long) 0;
  facing = get_or l (3 + position_size long) 0;
}

abbrev pub endpoint_in : Bool → List ℕ → Endpoint
endpoint_in long l = record { at = position_in long l 0; port = get_or l (position_size long) 0; facing = get_or l (position_size long + 1) 0 }

abbrev pub sink_in : Version → List ℕ → Sink
sink_in v l = record { end = endpoint_in v.long l; tail = limit_in v.limits usual_tail l (endpoint_size v.long) }

-- n records, each of the same size, from the front
abbrev pub many : {X : Type 0} → (List ℕ → X) → ℕ → ℕ → List ℕ → List X
many value size zero l = []
many value size (suc n) l = value l ∷ many value size n (drop size l)

abbrev pub no_position : Pos
no_position = at 0 0 0

abbrev pub no_block : Block
no_block = record { node = 0; at = no_position; kind = 0; facing = 0 }

-- the records of a part of the sheet
unfoldable pub blocks_in : List ℕ → Part → List Block
blocks_in s p = many (block_in p.long) p.size p.count (drop p.from s)

unfoldable pub positions_in : List ℕ → Part → List Pos
positions_in s p = many (λ l. position_in p.long l 0) p.size p.count (drop p.from s)

unfoldable pub sinks_in : Version → List ℕ → Part → List Sink
sinks_in v s p = many (sink_in v) p.size p.count (drop p.from s)

-- what is wrong with the record at the front, and with each record of a part
abbrev pub fault_in : Version → Room → Records → List ℕ → Judgement
fault_in v R Blocks l = block_fault R (block_in v.long l)
fault_in v R Positions l = position_fault R (position_in v.long l 0)
fault_in v R Endpoints l = endpoint_fault R (endpoint_in v.long l)
fault_in v R Sinks l = sink_fault R (sink_in v l)

abbrev pub faults_in : Version → Room → Records → List ℕ → Part → List Judgement
faults_in v R k s p = many (fault_in v R k) p.size p.count (drop p.from s)

-- numbers 2 and 3
abbrev pub head_fault : Ranges → Room → RouterConfig → ℕ → Judgement
head_fault g R C run = first_fault (sides_fault g R ∷ config_fault g R C ∷ limit_fault run ∷ [])

-- ---- the whole sheet

-- the list whose count stands at a place, of records of a size, with long coordinates or not
unfoldable pub list_at : List ℕ → Bool → ℕ → ℕ → Part
list_at s long size place = listed long size place (two_in (drop place s) 0)

-- "one-byte sink count": the sinks whose count stands at a place
unfoldable pub sinks_at : Version → List ℕ → ℕ → Part
sinks_at v s place = sinks_listed v place (get_or (drop place s) 0 0)

unfoldable pub layout_in : Version → List ℕ → Layout
layout_in v s =
    let long = v.long in
    let b = list_at s long (block_size long) (lists_place v) in
    let c = list_at s long (position_size long) (behind b) in
    let l = list_at s long (position_size long) (behind c) in
    let t = list_at s long (position_size long) (behind l) in
    let r = list_at s long (position_size long) (behind t) in
    let e = source_at v (behind r) in
    record {
      blocks = b;
      conductors = c;
      clearances = l;
      terminals = t;
      reserved = r;
      source = e;
      sinks = sinks_at v s (behind e);
    }

unfoldable pub contents_in : Version → List ℕ → Contents
contents_in v s =
    let L = layout_in v s in
    record {
      room = room_in v.long (drop sides_place s);
      config = config_in (drop (config_place v) s);
      run = limit_in v.limits usual_run (drop (run_place v) s) 0;
      blocks = blocks_in s L.blocks;
      conductors = positions_in s L.conductors;
      clearances = positions_in s L.clearances;
      terminals = positions_in s L.terminals;
      reserved = positions_in s L.reserved;
      source = endpoint_in v.long (drop L.source.from s);
      sinks = sinks_in v s L.sinks;
    }

-- none of the reasons for number 1: of how many bytes a sheet has, its first byte, the number of the version that it is read in, its "length of the
-- rest", its sink count, and whether its parts end where it does
unfoldable pub shape_holds : ℕ → ℕ → ℕ → ℕ → ℕ → Bool → Bool
shape_holds bytes first number rest sinks whole =
    leb bytes max_bytes && (eqb first number && (eqb (rest + sides_place) bytes && (leb sinks max_sinks && whole)))

unfoldable pub shaped : Version → List ℕ → Bool
shaped v s =
    let sinks = (layout_in v s).sinks in
    shape_holds (length s) (get_or s 0 0) v.number (four_in (drop 1 s) 0) sinks.count (eqb (behind sinks) (length s))

-- none of the reasons for number 1, one by one
pub record Shaped (v : Version) (s : List ℕ) : Type 0 where
  pub short : length s ≤ max_bytes
  pub of_version : get_or s 0 0 ≡ v.number
  pub rest-long : four_in (drop 1 s) 0 + sides_place ≡ length s
  pub few-sinks : (layout_in v s).sinks.count ≤ max_sinks
  pub whole : behind (layout_in v s).sinks ≡ length s

-- the place behind a part; it is small enough for the sums behind it
pub record Behind (p : Part) (place : ℕ) : Type 0 where
  pub is : place ≡ behind p
  pub near : place ≤ p.from + most_size * 65536

-- the layout of a sheet; its sinks' place, count and size are small enough for the sums behind them
pub record LaidOut (v : Version) (s : List ℕ) (L : Layout) : Type 0 where
  pub is : L ≡ layout_in v s
  pub sinks-near : L.sinks.from < 2 ^ 32
  pub sinks-most : L.sinks.count < 256
  pub size-most : L.sinks.size ≤ most_size

-- the list whose count stands at a place, and what that count can be
pub record Listed (s : List ℕ) (long : Bool) (size place : ℕ) (r : Part) : Type 0 where
  pub is : r ≡ list_at s long size place
  pub from_is : r.from ≡ place + 2
  pub size_is : r.size ≡ size
  pub count_most : r.count < 2 ^ 16

-- the source, which is one record
pub record SourceListed (v : Version) (place : ℕ) (r : Part) : Type 0 where
  pub is : r ≡ source_at v place
  pub from_is : r.from ≡ place
  pub size-most : r.size ≤ most_size
  pub count-is : r.count ≡ 1

-- the sinks whose count stands at a place, and what that count can be
pub record SinksListed (v : Version) (s : List ℕ) (place : ℕ) (r : Part) : Type 0 where
  pub is : r ≡ sinks_at v s place
  pub from_is : r.from ≡ place + 1
  pub size-most : r.size ≤ most_size
  pub count_most : r.count < 256
