-- Numbers 1 to 9 of a job list: "judged for all jobs in list order before any is routed", all of them of net 0, then of net 1. Definitions alone; their laws
-- are in the files named Laws.
use Rattle.std.specs.Prelude.{Bool, true, false, ◌&&◌, ◌||◌, List, [], ◌∷◌, ℕ, ◌+◌, ◌*◌, eqb, leb, Result, Ok, Err}
use Rattle.numbers.specs.Refusals.{done_number, buffer_number}
use Rattle.basics.specs.Tests.{either}
use Rattle.basics.specs.Lists.{any}
use Rattle.room.specs.declared.Room.{Room}
use Rattle.room.specs.declared.Pos.{Pos}
use Rattle.room.specs.Room.{volume}
use Rattle.job_sheet.specs.declared.Block.{Block}
use Rattle.job_sheet.specs.declared.Judgement.{Judgement}
use Rattle.job_sheet.specs.declared.Judgement.TheVariants.{Sheet}
use Rattle.job_sheet.specs.Version.{version_in}
use Rattle.job_sheet.specs.Sheet.{Contents, max_sinks, is_good, judged, number_of}
use Rattle.job_sheet.specs.Places.{contents_in, shaped}
use Rattle.blocks.specs.Blocks.{Placement, Placed, RepeatAt, block_cell}
use Rattle.ends.specs.declared.Ends.{Ends}
use Rattle.ends.specs.Ends.{fault_of, ends_of}
use Rattle.outset.specs.declared.Refusal.{Refusal}
use Rattle.outset.specs.declared.NotSetOut.{NotSetOut}
use Rattle.outset.specs.SetOut.{number_by, detail_by, told_by}
use Rattle.job_list.specs.declared.Memory.{Memory}
use Rattle.job_list.specs.declared.Due.{Due}
use Rattle.job_list.specs.declared.Verdict.{Verdict}
use Rattle.job_list.specs.Split.{first_sheet, sheets_of}

-- ---- number 1 of a list: "Each must have the first one's sides and the same blocks in the same order, by value"

unfoldable pub same_sides : Room → Room → Bool
same_sides R Q = eqb R.wide Q.wide && (eqb R.high Q.high && eqb R.deep Q.deep)

unfoldable pub same_place : Pos → Pos → Bool
same_place p q = eqb p.x q.x && (eqb p.y q.y && eqb p.z q.z)

unfoldable pub same_block : Block → Block → Bool
same_block a b = eqb a.node b.node && (same_place a.at b.at && (eqb a.kind b.kind && eqb a.facing b.facing))

unfoldable pub same_blocks : List Block → List Block → Bool
same_blocks [] [] = true
same_blocks [] (b ∷ bs) = false
same_blocks (a ∷ rest) [] = false
same_blocks (a ∷ rest) (b ∷ bs) = same_block a b && same_blocks rest bs

-- "over one room and its blocks"
unfoldable pub same_ground : Contents → Contents → Bool
same_ground F J = same_sides F.room J.room && same_blocks F.blocks J.blocks

-- what a sheet holds, in the version of its first byte; where it means something this is its meaning
abbrev pub contents_at : List ℕ → Contents
contents_at sheet = contents_in (version_in sheet) sheet

-- numbers 1 to 5 of a net: another room is "1 for that net, with its other 1s"
unfoldable pub net_judgement : Contents → List ℕ → Judgement
net_judgement F sheet =
    either (shaped (version_in sheet) sheet) (either (same_ground F (contents_at sheet)) (judged (version_in sheet) (contents_at sheet)) Sheet) Sheet

-- ---- number 6: V cells in each buffer but for branches and queue, one place in the queue, and "`lengths` under 16(k + 1) with net k"

unfoldable pub memory_good : Memory → Room → ℕ → Bool
memory_good M R k = leb (volume R) M.cells && (leb 1 M.places && leb (max_sinks * (k + 1)) M.lengths)

-- ---- number 7: two blocks take one cell

unfoldable pub repeats_in : Room → List Block → Bool
repeats_in R [] = false
repeats_in R (b ∷ bs) = any (λ c. eqb (block_cell R c) (block_cell R b)) bs || repeats_in R bs

-- what is known of the blocks before lent memory is touched: the cell of the repeat is told later, see `cellOfRepeat`
abbrev pub placed_or_not : Bool → Placement
placed_or_not true = RepeatAt 0
placed_or_not false = Placed

-- ---- a net

abbrev pub due : ℕ → ℕ → Due
due number detail = record { number = number; detail = detail }

-- it is due, unless its number is 0
abbrev pub told_due : Due → Result Unit Due
told_due d = either (eqb d.number done_number) (Ok tt) (Err d)

-- the refusal alone, of what is told where no tree is set out
abbrev pub refusal_alone : Result Ends NotSetOut → Result Ends Refusal
refusal_alone (Ok ends) = Ok ends
refusal_alone (Err told) = Err told.refusal

-- "7, all of 8, all of 9": the ends of a net, or the first of these
unfoldable pub ends_told : Contents → Result Ends Refusal
ends_told J = refusal_alone (told_by (placed_or_not (repeats_in J.room J.blocks)) (fault_of J.room J.source J.sinks) (ends_of J.room J.source J.sinks))

-- that number and its detail
unfoldable pub ends_due : Contents → Due
ends_due J =
    let p = placed_or_not (repeats_in J.room J.blocks) in
    let f = fault_of J.room J.source J.sinks in
    due (number_by p f) (detail_by p f)

-- the first of numbers 1 to 9 that is due for net k, whose sheet this is, in a list whose first sheet holds F; 0 where none is
unfoldable pub net_due : Memory → Contents → ℕ → List ℕ → Due
net_due M F k sheet =
    either (is_good (net_judgement F sheet))
    (either (memory_good M (contents_at sheet).room k) (ends_due (contents_at sheet)) (due buffer_number 0))
    (due (number_of (net_judgement F sheet)) 0)

-- ---- the list

abbrev pub all_good : Verdict
all_good = record { number = done_number; net = 0; detail = 0 }

abbrev pub refused_at : ℕ → Due → Verdict
refused_at k d = record { number = d.number; net = k; detail = d.detail }

-- the nets from the k-th on, in list order: the first number that is due decides
unfoldable pub judged_from : Memory → Contents → ℕ → List (List ℕ) → Verdict
judged_from M F k [] = all_good
judged_from M F k (sheet ∷ sheets) =
    either (eqb (net_due M F k sheet).number done_number) (judged_from M F (k + 1) sheets) (refused_at k (net_due M F k sheet))

unfoldable pub judged_list : Memory → List ℕ → Verdict
judged_list M list = judged_from M (contents_at (first_sheet list)) 0 (sheets_of list)
