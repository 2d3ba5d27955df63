-- `config_at` meets its contract: each part is four bytes.
use Rattle.job_sheet.proofs.places.config_at.Goals as goal

pub returns : goal.returns
returns c = λ i. record {
  limit = record { 0 = c.four_bytes.ensures i };
  horizontal = record { 0 = c.four_bytes-2.ensures i };
  stair = record { 0 = c.four_bytes-3.ensures i };
  support = record { 0 = c.four_bytes-4.ensures i };
}
