-- The records of a sheet copied out as numbers, and the promise of taking a sheet apart by its cases.
use Rattle.std.specs.Prelude.{◌≡◌, refl, Bool, true, not, List, [], ◌∷◌, ℕ, zero, suc, ◌+◌, ◌*◌, ◌%◌, ◌≤◌, length, get_or, drop}
use Rattle.std.proofs.Common.{sym, ◌∙◌, mod-eq_of_lt, mul-zero, mul-suc, mul-le-mul_right, le_trans, add_comm, arith, length-append}
use Rattle.std.proofs.Math.Bool.{false}
use Rattle.numbers.specs.Refusals.{done_number, buffer_number}
use Rattle.basics.specs.Tests.{test_fails, test-passes, passed}
use Rattle.basics.specs.Lists.{joined}
use Rattle.lent.specs.Lent.{filled}
use Rattle.putting.specs.PutLaws.{putting_begun}
use Rattle.room.specs.declared.Pos.{Pos}
use Rattle.job_sheet.specs.declared.Block.{Block}
use Rattle.job_sheet.specs.declared.Part.{Part}
use Rattle.job_sheet.specs.declared.Job.{Job}
use Rattle.job_sheet.specs.declared.Reading.{Reading}
use Rattle.job_sheet.specs.declared.Version.{Version}
use Rattle.job_sheet.specs.Version.{version_in, width, position_size}
use Rattle.job_sheet.specs.Sheet.{Contents, behind, layout_of, job_of, is_good, number_of, Read}
use Rattle.job_sheet.specs.Places.{many, coordinate_in, block_in, position_in}
use Rattle.job_sheet.specs.RecordLaws.{Bytes, coordinate-small}
use Rattle.job_sheet.specs.Accepted.{Accepted}
use Rattle.job_sheet.proofs.Theorems.{accepted-by, usable}
use Rattle.sheet_writer.specs.declared.Records.{Records}
use Rattle.sheet_writer.specs.declared.Records.TheVariants.{Blocks, Positions}
use Rattle.sheet_writer.specs.Writer.{block_numbers, position_numbers, numbers_for, numbers_of_block, numbers_of_position}
use Rattle.sheet_writer.specs.TextLaws.{Recording}
use Rattle.sheet_writer.specs.PromiseLaws.{fault_kept}
use Rattle.sheet_writer.specs.Apart.{numbers_in, list_in, Lists, lists, lengths_lent, Inside, lists_fit, taken_number, TakesApart}

-- ---- one record: what a byte holds, sixteen bits hold

held : (l : List ℕ) → Bytes l → (i : ℕ) → get_or l i 0 % 65536 ≡ get_or l i 0
held l b i = mod-eq_of_lt (omega (arith, b i))

module _ (long : Bool) (l : List ℕ) (b : Bytes l) where
  -- and so of a coordinate of two bytes
  side_held : (k : ℕ) → coordinate_in long l k % 65536 ≡ coordinate_in long l k
  side_held k = mod-eq_of_lt (coordinate-small long l b k)

  pub block_numbers_are : {r : Block} → r ≡ block_in long l → {x y z k f : ℕ} → x ≡ r.at.x % 65536 → y ≡ r.at.y % 65536 → z ≡ r.at.z % 65536 → k ≡ r.kind % 65536 → f ≡ r.facing % 65536
      → ◌≡◌ {A = List ℕ} (r.node ∷ x ∷ y ∷ z ∷ k ∷ f ∷ []) (numbers_of_block (block_in long l))
  block_numbers_are e p q s t u =
      rw (p, q, s, t, u, e) (λ i. (block_in long l).node ∷ side_held 2 i ∷ side_held (2 + width long) i ∷ side_held (2 + width long + width long) i ∷ held l b (2 + position_size long) i ∷ held l b (3 + position_size long) i ∷ [])

  pub position_numbers_are : {r : Pos} → r ≡ position_in long l 0 → {x y z : ℕ} → x ≡ r.x % 65536 → y ≡ r.y % 65536 → z ≡ r.z % 65536
      → ◌≡◌ {A = List ℕ} (x ∷ y ∷ z ∷ []) (numbers_of_position (position_in long l 0))
  position_numbers_are e p q s = rw (p, q, s, e) (λ i. side_held 0 i ∷ side_held (0 + width long) i ∷ side_held (0 + width long + width long) i ∷ [])

-- ---- the records of a part

pub copying_begun : (k : Records) (s : List ℕ) (p : Part) {out : List ℕ} → behind p ≤ length s
    → Recording (numbers_in p.long k) p.size s out 0 (list_in k s p) p.from p.count out 0
unfolding list_in
copying_begun k s p h = record { going = putting_begun; inside = h }

-- ---- what is known of a job that was read

-- each part stands in the sheet, and has few records
pub record PartsRead (sheet : List ℕ) (job : Job) : Type 0 where
  pub blocks : behind job.blocks ≤ length sheet
  pub conductors : behind job.conductors ≤ length sheet
  pub clearances : behind job.clearances ≤ length sheet
  pub terminals : behind job.terminals ≤ length sheet
  pub reserved : behind job.reserved ≤ length sheet
  pub inside : Inside job

-- a part that ends within so many bytes has no more records, as each takes one at least
few-by-size : (p : Part) (n : ℕ) → 1 ≤ p.size → behind p ≤ n → p.count ≤ n
few-by-size p n some h = omega (arith, mul-le-mul_right p.count some, h)

position_some : (long : Bool) → 1 ≤ position_size long
position_some false = omega arith
position_some true = omega arith

-- the records of a job that was read take some bytes
record Sized (job : Job) : Type 0 where
  pub blocks : 1 ≤ job.blocks.size
  pub conductors : 1 ≤ job.conductors.size
  pub clearances : 1 ≤ job.clearances.size
  pub terminals : 1 ≤ job.terminals.size
  pub reserved : 1 ≤ job.reserved.size

sized : (v : Version) (J : Contents) → Sized (job_of v J)
unfolding job_of layout_of
sized v J = record {
  blocks = omega arith;
  conductors = position_some v.long;
  clearances = position_some v.long;
  terminals = position_some v.long;
  reserved = position_some v.long;
}

parts-accepted : (sheet : List ℕ) (job : Job) → Accepted sheet job → PartsRead sheet job
parts-accepted sheet job A =
    let U = usable sheet job A in
    let short = A.means.short in
    let S : Sized job = rw A.is (sized (version_in sheet) A.contents) in
    record {
      blocks = U.blocks.inside;
      conductors = U.conductors.inside;
      clearances = U.clearances.inside;
      terminals = U.terminals.inside;
      reserved = U.reserved.inside;
      inside = record {
        blocks = le_trans (few-by-size job.blocks (length sheet) S.blocks U.blocks.inside) short;
        conductors = le_trans (few-by-size job.conductors (length sheet) S.conductors U.conductors.inside) short;
        clearances = le_trans (few-by-size job.clearances (length sheet) S.clearances U.clearances.inside) short;
        terminals = le_trans (few-by-size job.terminals (length sheet) S.terminals U.terminals.inside) short;
        reserved = le_trans (few-by-size job.reserved (length sheet) S.reserved U.reserved.inside) short;
      };
    }

module _ {sheet : List ℕ} {q : Reading} (read : Read sheet q) {t : Bool} (e : t ≡ is_good q.judgement) where
  pub parts-read : not t ≡ false → PartsRead sheet q.job
  parts-read h = parts-accepted sheet q.job (accepted-by read (test-passes e h))

  -- the reader's number: nothing is touched
  pub apart-unread : (B : Lists) → not t ≡ true → {n : ℕ} → n ≡ number_of q.judgement → TakesApart sheet B (record { number = n; job = q.job }) B
  unfolding taken_number
  apart-unread B h {n} is =
      let f : is_good q.judgement ≡ false = test_fails e h in
      record {
        reading = q;
        read = read;
        number_is = rw f is;
        job_is = refl;
        blocks-are = rw is (fault_kept q.judgement f (list_in Blocks sheet q.job.blocks) B.blocks);
        conductors-are = rw is (fault_kept q.judgement f (list_in Positions sheet q.job.conductors) B.conductors);
        clearances-are = rw is (fault_kept q.judgement f (list_in Positions sheet q.job.clearances) B.clearances);
        terminals-are = rw is (fault_kept q.judgement f (list_in Positions sheet q.job.terminals) B.terminals);
        reserved-are = rw is (fault_kept q.judgement f (list_in Positions sheet q.job.reserved) B.reserved);
      }

  module _ (h : not t ≡ false) (B : Lists) {s : Bool} (fit : s ≡ lists_fit q.job (lengths_lent B)) where
    pub apart-short : not s ≡ true → TakesApart sheet B (record { number = buffer_number; job = q.job }) B
    unfolding taken_number
    apart-short g =
        record {
          reading = q;
          read = read;
          number_is = rw (test-passes e h, test_fails fit g) refl;
          job_is = refl;
          blocks-are = refl;
          conductors-are = refl;
          clearances-are = refl;
          terminals-are = refl;
          reserved-are = refl;
        }

    module _ (g : not s ≡ false) where
      fits : lists_fit q.job (lengths_lent B) ≡ true
      fits = test-passes fit g

      pub blocks-fit : block_numbers * q.job.blocks.count ≤ length B.blocks
      unfolding lists_fit
      blocks-fit = let all = fits in search passed

      pub conductors-fit : position_numbers * q.job.conductors.count ≤ length B.conductors
      unfolding lists_fit
      conductors-fit = let all = fits in search passed

      pub clearances-fit : position_numbers * q.job.clearances.count ≤ length B.clearances
      unfolding lists_fit
      clearances-fit = let all = fits in search passed

      pub terminals-fit : position_numbers * q.job.terminals.count ≤ length B.terminals
      unfolding lists_fit
      terminals-fit = let all = fits in search passed

      pub reserved-fit : position_numbers * q.job.reserved.count ≤ length B.reserved
      unfolding lists_fit
      reserved-fit = let all = fits in search passed

      pub apart-done : {b c l u r : List ℕ}
          → b ≡ filled (list_in Blocks sheet q.job.blocks) B.blocks
          → c ≡ filled (list_in Positions sheet q.job.conductors) B.conductors
          → l ≡ filled (list_in Positions sheet q.job.clearances) B.clearances
          → u ≡ filled (list_in Positions sheet q.job.terminals) B.terminals
          → r ≡ filled (list_in Positions sheet q.job.reserved) B.reserved
          → TakesApart sheet B (record { number = done_number; job = q.job }) (lists b c l u r)
      unfolding taken_number
      apart-done bs cs ls us rs = record {
        reading = q;
        read = read;
        number_is = rw (test-passes e h, fits) refl;
        job_is = refl;
        blocks-are = bs;
        conductors-are = cs;
        clearances-are = ls;
        terminals-are = us;
        reserved-are = rs;
      }

-- a list is as long as its count says
pub list-long : (k : Records) (s : List ℕ) (p : Part) → length (list_in k s p) ≡ numbers_for k * p.count
unfolding list_in
list-long k s p = many-size (numbers_in p.long k) (numbers_for k) p.size (each k) p.count (drop p.from s)
  where
    each : (k : Records) (l : List ℕ) → length (numbers_in p.long k l) ≡ numbers_for k
    each Blocks l = refl
    each Positions l = refl

    many-size : (text : List ℕ → List ℕ) (n size : ℕ) → ((l : List ℕ) → length (text l) ≡ n) → (count : ℕ) (l : List ℕ) → length (joined (many text size count l)) ≡ n * count
    many-size text n size f zero l = sym (mul-zero n)
    many-size text n size f (suc count) l = length-append (text l) (joined (many text size count (drop size l))) ∙ rw (f l, many-size text n size f count (drop size l), mul-suc) (add_comm n (n * count))
