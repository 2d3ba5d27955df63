-- A reader that moved on: what the moves of a `Reader` come to, one after the other.
use Rattle.std.specs.Prelude.{◌≡◌, List, ℕ, ◌+◌, ◌*◌}
use Rattle.std.proofs.Common.{Bor}
use Rattle.job_sheet.specs.declared.Part.{Part}
use Rattle.sheet_reader.specs.Reader.{Stands, onward}
use Rattle.sheet_reader.specs.ReaderLaws.{onward-stands}
use Rattle.sheet_reader.specs.declared.Reader.{Reader}

-- the reader at the front of a sheet, and what `new` promises
abbrev pub front-at : Bor (List ℕ) → Reader
front-at s = record { sheet = s; place = 0 }

pub fronted : (s : Bor (List ℕ)) (r : Reader) → (r.sheet ≡ s) × (r.place ≡ 0) → r ≡ front-at s
fronted s r e = λ i. record { sheet = e.0 i; place = e.1 i }

-- the reader behind `n` more bytes
abbrev pub past-at : Reader → ℕ → Reader
past-at h n = record { sheet = h.sheet; place = onward h.sheet.now h.place n }

-- the reader behind a part's count, of `width` bytes, and its records
abbrev pub behind-at : Reader → ℕ → Part → Reader
behind-at h width x = past-at h (width + x.size * x.count)

-- what `past` and `behind` promise
pub moved : (h r : Reader) (n : ℕ) → (r.sheet ≡ h.sheet) × (r.place ≡ onward h.sheet.now h.place n) → r ≡ past-at h n
moved h r n e = λ i. record { sheet = e.0 i; place = e.1 i }

pub moved-stands : (h r : Reader) (n : ℕ) → (r.sheet ≡ h.sheet) × (r.place ≡ onward h.sheet.now h.place n) → Stands r.sheet.now r.place
moved-stands h r n e = rw (moved h r n e) (onward-stands _ _ _)
