-- A reader that holds a sheet's bytes and its place: where it stands after it moved, and what it finds there. What stands at a place is said by
-- job_sheet's definitions; the promise of `read_sheet` is job_sheet's `Read`. Definitions alone; their laws are in ReaderLaws, what they come to in Theorems.
use Rattle.std.specs.Prelude.{◌≡◌, Bool, true, ◌&&◌, List, ℕ, ◌+◌, ◌≤◌, leb, eqb, length, get_or, drop}
use Rattle.basics.specs.Tests.{either}
use Rattle.room.specs.declared.Pos.{Pos}
use Rattle.room.specs.declared.RouterConfig.{RouterConfig}
use Rattle.job_sheet.specs.declared.Job.{Job}
use Rattle.job_sheet.specs.declared.Part.{Part}
use Rattle.job_sheet.specs.declared.Endpoint.{Endpoint}
use Rattle.job_sheet.specs.declared.places.Layout.{Layout}
use Rattle.job_sheet.specs.declared.Sinks.{Sinks}
use Rattle.job_sheet.specs.declared.Version.{Version}
use Rattle.job_sheet.specs.UsualLimits.{usual_run}
use Rattle.job_sheet.specs.Version.{version_in, position_size, limit_size, most_size, sides_place, config_place, config_size, run_place}
use Rattle.job_sheet.specs.Sheet.{max_sinks, behind, no_part, sinks_of}
use Rattle.job_sheet.specs.Places.{four_in, room_in, config_in, limit_in, endpoint_in, sinks_in, sinks_at, layout_in}
use Rattle.sheet_reader.specs.declared.Head.{Head}
use Rattle.sheet_reader.specs.declared.Body.{Body}
use Rattle.sheet_reader.specs.declared.Found.{Found}

-- Where a reader can stand: on the sheet, at its end, or just off it.
abbrev pub Stands : List ℕ → ℕ → Type 0
Stands s place = place ≤ length s + 1

-- Behind n more bytes or, where the sheet has too few, off it; from there no place on the sheet is reached again.
unfoldable pub onward : List ℕ → ℕ → ℕ → ℕ
onward s place n = either (leb (place + n) (length s)) (place + n) (length s + 1)

-- the bytes of a list's count, and of the sinks'
abbrev pub list_count_size : ℕ
list_count_size = 2

abbrev pub sinks_count_size : ℕ
sinks_count_size = 1

-- the sides, the config and the source have no count
abbrev pub no_count_size : ℕ
no_count_size = 0

-- the sides are one record, as long as a position
abbrev pub sides_at : Version → ℕ → Part
sides_at v place = record { from = place; count = 1; size = position_size v.long; long = v.long }

pub record SidesListed (v : Version) (place : ℕ) (r : Part) : Type 0 where
  pub is : r ≡ sides_at v place
  pub size-most : r.size ≤ most_size
  pub count-is : r.count ≡ 1

-- the config and the run limit behind it are one record
abbrev pub config_at : Version → ℕ → Part
config_at v place = record { from = place; count = 1; size = config_size + limit_size v.limits; long = v.long }

-- at most sixteen sinks that the sheet has whole, or none
unfoldable pub whole_sinks : List ℕ → Part → Part
whole_sinks s p = either (leb p.count max_sinks && leb (behind p) (length s)) p no_part

abbrev pub sinks_found : List ℕ → ℕ → Sinks
sinks_found s place = let v = version_in s in sinks_of (sinks_in v s (whole_sinks s (sinks_at v s place)))

-- ---- what a reader finds from the front of a sheet to its end

abbrev pub head_of : ℕ → ℕ → Pos → RouterConfig → ℕ → Head
head_of version rest sides config run = record {
  version = version;
  rest = rest;
  room = record { wide = sides.x; high = sides.y; deep = sides.z };
  config = config;
  run = run;
}

abbrev pub head_in : List ℕ → Head
head_in s =
    let v = version_in s in
    record {
      version = get_or s 0 0;
      rest = four_in (drop 1 s) 0;
      room = room_in v.long (drop sides_place s);
      config = config_in (drop (config_place v) s);
      run = limit_in v.limits usual_run (drop (run_place v) s) 0;
    }

abbrev pub layout_found : Part → Part → Part → Part → Part → Part → Part → Layout
layout_found blocks conductors clearances terminals reserved source sinks = record {
  blocks = blocks;
  conductors = conductors;
  clearances = clearances;
  terminals = terminals;
  reserved = reserved;
  source = source;
  sinks = sinks;
}

abbrev pub body_of : Layout → Endpoint → Sinks → Bool → Body
body_of layout source sinks whole = record { layout = layout; source = source; sinks = sinks; whole = whole }

-- where the parts of the sheet stand, in its version
abbrev pub layout_at : List ℕ → Layout
layout_at s = layout_in (version_in s) s

-- It is at the end exactly where the sheet's parts end there, and then it found them where they stand.
pub record PartsFound (s : List ℕ) (b : Body) : Type 0 where
  pub whole_is : b.whole ≡ eqb (behind (layout_at s).sinks) (length s)
  pub count-is : b.layout.sinks.count ≡ (layout_at s).sinks.count
  pub layout_is : b.whole ≡ true → b.layout ≡ layout_at s
  pub source_is : b.whole ≡ true → b.source ≡ endpoint_in (version_in s).long (drop (layout_at s).source.from s)
  pub sinks-are : b.whole ≡ true → (layout_at s).sinks.count ≤ max_sinks → b.sinks ≡ sinks_of (sinks_in (version_in s) s (layout_at s).sinks)

-- all of it: what stands before the lists, and the parts
abbrev pub found_of : Head → Body → Found
found_of head body = record { head = head; body = body }

pub record AllFound (s : List ℕ) (f : Found) : Type 0 where
  pub head-is : f.head ≡ head_in s
  pub parts : PartsFound s f.body

-- the job that was found
abbrev pub job_found : Found → Job
job_found f = record {
  room = f.head.room;
  config = f.head.config;
  run = f.head.run;
  blocks = f.body.layout.blocks;
  conductors = f.body.layout.conductors;
  clearances = f.body.layout.clearances;
  terminals = f.body.layout.terminals;
  reserved = f.body.layout.reserved;
  source = f.body.source;
  sinks = f.body.sinks;
}
