-- The bytes that are put, piece by piece, in a version: of each number its low byte. Definitions alone.
use Rattle.std.specs.Prelude.{◌≡◌, Bool, List, [], ◌∷◌, ◌++◌, map, ℕ, ◌-◌, ◌/◌, ◌≤◌, length, take}
use Rattle.basics.specs.Lists.{joined}
use Rattle.room.specs.declared.Room.{Room}
use Rattle.room.specs.declared.RouterConfig.{RouterConfig}
use Rattle.job_sheet.specs.declared.Sink.{Sink}
use Rattle.job_sheet.specs.declared.Sinks.{Sinks}
use Rattle.job_sheet.specs.declared.Version.{Version}
use Rattle.job_sheet.specs.Version.{sides_place}
use Rattle.job_sheet.specs.Sheet.{two, four, sides, costs, position, block, endpoint, limit, sink}
use Rattle.job_sheet.specs.Places.{many}
use Rattle.sheet_writer.specs.declared.Records.{Records}
use Rattle.sheet_writer.specs.declared.Records.TheVariants.{Blocks, Positions}
use Rattle.sheet_writer.specs.Writer.{Parts, numbers_for, block_from, position_from, low}

-- the record at the front of a list of numbers, and all of them
abbrev pub bytes_from : Bool → Records → List ℕ → List ℕ
bytes_from long Blocks l = low (block long (block_from l))
bytes_from long Positions l = low (position long (position_from l 0))

unfoldable pub records_text : Bool → Records → List ℕ → List ℕ
records_text long k l = joined (many (bytes_from long k) (numbers_for k) (length l / numbers_for k) l)

-- with their count before them
unfoldable pub list_text : Bool → Records → List ℕ → List ℕ
list_text long k l = low (two (length l / numbers_for k)) ++ records_text long k l

unfoldable pub lists_text : Bool → List ℕ → List ℕ → List ℕ → List ℕ → List ℕ → List ℕ
lists_text long b c l t r =
    list_text long Blocks b ++ (list_text long Positions c ++ (list_text long Positions l ++ (list_text long Positions t ++ list_text long Positions r)))

unfoldable pub ends_text : Version → List Sink → List ℕ
ends_text v ks = joined (map (λ k. low (sink v k)) ks)

unfoldable pub sinks_text : Version → Sinks → List ℕ
sinks_text v k = low (k.count ∷ []) ++ ends_text v (take k.count k.ends)

unfoldable pub head_text : Version → ℕ → Room → RouterConfig → ℕ → List ℕ
head_text v rest R C run = low (v.number ∷ []) ++ (low (four rest) ++ (low (sides v.long R) ++ (low (costs C) ++ low (limit v.limits run))))

unfoldable pub sheet_text : Version → ℕ → Parts → List ℕ
sheet_text v rest P =
    head_text v rest P.room P.config P.run
    ++ (lists_text v.long P.blocks P.conductors P.clearances P.terminals P.reserved
    ++ (low (endpoint v.long P.source) ++ sinks_text v P.sinks))

-- the sheet's text has so many bytes, and there is place for them
pub record Filling (v : Version) (bytes : ℕ) (P : Parts) (out : List ℕ) : Type 0 where
  pub long : length (sheet_text v (bytes - sides_place) P) ≡ bytes
  pub some : sides_place ≤ bytes
  pub place : bytes ≤ length out
