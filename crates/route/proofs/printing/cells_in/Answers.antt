-- `cells_in` meets its contract: a product of three sides of two bytes fits.
use lib.ListN.{drop}
use borrow.Author.Rules.{rules}
use Rattle.job_sheet.specs.Version.{sides_place}
use Rattle.job_sheet.specs.RecordLaws.{bytes_drop}
use Rattle.route.specs.PrintedLaws.{cells_fit}
use Rattle.route.proofs.printing.cells_in.Goals as goal

pub overflow_mul-result : goal.overflow_mul-result
overflow_mul-result c =
    let sheet = c.args.sheet.now in
    record { fits = (cells_fit _ c.version_in.result.long (drop sides_place sheet) (bytes_drop sides_place sheet (λ i. search rules)) c.room_from-room.ensures).0 }

pub overflow_mul-result-2 : goal.overflow_mul-result-2
overflow_mul-result-2 c =
    let sheet = c.args.sheet.now in
    record { fits = (cells_fit _ c.version_in.result.long (drop sides_place sheet) (bytes_drop sides_place sheet (λ i. search rules)) c.room_from-room.ensures).1 }

pub returns : goal.returns
returns c = rw (c.room_from-room.ensures, c.version_in.ensures)
