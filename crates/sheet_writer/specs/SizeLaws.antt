-- The bytes of a sheet are as many as the lengths say, so number 1 can be judged by the lengths alone.
use Rattle.std.specs.Prelude.{◌≡◌, Bool, true, false, List, map, ℕ, ◌+◌, ◌*◌, ◌/◌, ◌≤◌, leb, length}
use Rattle.std.proofs.Common.{sym, ◌∙◌, add-zero, mul-le-mul_right, arith, leb-true, le-leb}
use Rattle.std.proofs.Math.Nat.{mul-one}
use Rattle.std.proofs.lemmas.List.{length-map}
use Rattle.std.proofs.Math.Seq.{length-take-le}
use Rattle.basics.specs.Tests.{ask, passed, and_both, never}
use Rattle.job_sheet.specs.declared.Sink.{Sink}
use Rattle.job_sheet.specs.declared.Sinks.{Sinks}
use Rattle.job_sheet.specs.declared.Version.{Version}
use Rattle.job_sheet.specs.Version.{width, position_size, block_size, endpoint_size, sink_size, lists_place}
use Rattle.job_sheet.specs.Sheet.{Contents, bytes_by, max_bytes, max_sinks, behind, layout_of}
use Rattle.job_sheet.specs.RecordLaws.{many-long}
use Rattle.job_sheet.specs.LayoutLaws.{at-end}
use Rattle.sheet_writer.specs.declared.Lengths.{Lengths}
use Rattle.sheet_writer.specs.Writer.{Parts, block_numbers, position_numbers, block_from, position_from, blocks_of, positions_of, contents_of, version_for, written, lengths_in, formed}
use Rattle.sheet_writer.specs.Sizes.{sheet_length, few_records, Few, lengths_good}

pub blocks-count : (l : List ℕ) → length (blocks_of l) ≡ length l / block_numbers
unfolding blocks_of
blocks-count l = many-long block_from block_numbers (length l / block_numbers) l

pub positions-count : (l : List ℕ) → length (positions_of l) ≡ length l / position_numbers
unfolding positions_of
positions-count l = many-long (λ m. position_from m 0) position_numbers (length l / position_numbers) l

-- a sheet ends where its sinks do
pub bytes-end : (v : Version) (J : Contents) → length (bytes_by v J) ≡ behind (layout_of v J).sinks
bytes-end v J = sym (at-end v J).ends ∙ add-zero _

-- so many bytes take no fewer records than that, as each takes one at least
pub width_some : (long : Bool) → 1 ≤ width long
width_some false = omega arith
width_some true = omega arith

module _ (P : Parts) (h : P.sinks.count ≤ length P.sinks.ends) where
  pub sinks-count : length (contents_of P).sinks ≡ P.sinks.count
  unfolding contents_of
  sinks-count = length-take-le P.sinks.count P.sinks.ends h

  pub sheet-long : (v : Version) → length (bytes_by v (contents_of P)) ≡ sheet_length v (lengths_in P)
  unfolding contents_of layout_of sheet_length
  sheet-long v =
      bytes-end v (contents_of P)
      ∙ rw (
        mul-one (endpoint_size v.long),
        blocks-count P.blocks,
        positions-count P.conductors,
        positions-count P.clearances,
        positions-count P.terminals,
        positions-count P.reserved,
        length-take-le P.sinks.count P.sinks.ends h,
      )

pub formed-by : (P : Parts) → length P.sinks.ends ≡ max_sinks → formed P ≡ lengths_good (version_for (contents_of P)) (lengths_in P)
unfolding formed lengths_good
formed-by P e =
    ask (leb P.sinks.count max_sinks) (λ t. rw (t, sheet-long P (omega (arith, leb-true P.sinks.count max_sinks t, e)) (version_for (contents_of P)))) (λ f. rw f)

-- list by list, as the code counts
pub counted_length : (v : Version) (n : Lengths) {m b p₁ p₂ p₃ p₄ p₅ p₆ e k r : ℕ}
    → m ≡ position_size v.long
    → b ≡ block_size v.long
    → p₁ ≡ lists_place v
    → p₂ ≡ p₁ + 2 + b * (n.blocks / block_numbers)
    → p₃ ≡ p₂ + 2 + m * (n.conductors / position_numbers)
    → p₄ ≡ p₃ + 2 + m * (n.clearances / position_numbers)
    → p₅ ≡ p₄ + 2 + m * (n.terminals / position_numbers)
    → p₆ ≡ p₅ + 2 + m * (n.reserved / position_numbers)
    → e ≡ endpoint_size v.long
    → k ≡ sink_size v
    → r ≡ p₆ + e + 1 + k * n.sinks
    → r ≡ sheet_length v n
unfolding sheet_length
counted_length v n em eb e₁ e₂ e₃ e₄ e₅ e₆ ee ek er = rw (er, ek, ee, e₆, e₅, e₄, e₃, e₂, e₁, eb, em)

-- ---- the lengths, tested before they are multiplied

pub few-by : (n : Lengths) → few_records n ≡ true → n.sinks ≤ max_sinks → Few n
unfolding few_records
few-by n t h = record {
  blocks = search passed;
  conductors = search passed;
  clearances = search passed;
  terminals = search passed;
  reserved = search passed;
  sinks = h;
}

-- a sheet has more bytes than each of its lists has records
few-of : (v : Version) (n : Lengths) → n.sinks ≤ max_sinks → sheet_length v n ≤ max_bytes → Few n
unfolding sheet_length
few-of v n h s =
    let some = width_some v.long in
    let b = mul-le-mul_right (n.blocks / block_numbers) (some_block v.long) in
    let c = mul-le-mul_right (n.conductors / position_numbers) (some-position v.long) in
    let l = mul-le-mul_right (n.clearances / position_numbers) (some-position v.long) in
    let t = mul-le-mul_right (n.terminals / position_numbers) (some-position v.long) in
    let r = mul-le-mul_right (n.reserved / position_numbers) (some-position v.long) in
    record {
      blocks = omega (arith, b, s);
      conductors = omega (arith, c, s);
      clearances = omega (arith, l, s);
      terminals = omega (arith, t, s);
      reserved = omega (arith, r, s);
      sinks = h;
    }
  where
    some-position : (long : Bool) → 1 ≤ position_size long
    some-position long = omega (arith, width_some long)

    some_block : (long : Bool) → 1 ≤ block_size long
    some_block long = omega arith

few-passes : (n : Lengths) → Few n → few_records n ≡ true
unfolding few_records
few-passes n F =
    and_both (le-leb _ _ F.blocks)
    (and_both (le-leb _ _ F.conductors) (and_both (le-leb _ _ F.clearances) (and_both (le-leb _ _ F.terminals) (le-leb _ _ F.reserved))))

pub too_many : (v : Version) (n : Lengths) → n.sinks ≤ max_sinks → few_records n ≡ false → leb (sheet_length v n) max_bytes ≡ false
too_many v n h f =
    ask (leb (sheet_length v n) max_bytes) (λ t. let p = few-passes n (few-of v n h (leb-true (sheet_length v n) max_bytes t)) in never (cc)) (λ e. e)

-- where number 1 is not due
pub formed-few : (P : Parts) → length P.sinks.ends ≡ max_sinks → formed P ≡ true → Few (lengths_in P)
unfolding lengths_good
formed-few P e t =
    let q : lengths_good (version_for (contents_of P)) (lengths_in P) ≡ true = sym (formed-by P e) ∙ t in
    few-of (version_for (contents_of P)) (lengths_in P) (search passed) (search passed)

pub formed-sinks : (P : Parts) → formed P ≡ true → P.sinks.count ≤ max_sinks
unfolding formed
formed-sinks P t = search passed

pub formed-short : (P : Parts) → formed P ≡ true → length (written (contents_of P)) ≤ max_bytes
unfolding formed
formed-short P t = search passed

-- an array of sinks has sixteen places: that is known of whoever owns it
pub ends-whole : {B : Type 0} (f : Sink → B) (k : Sinks) → length (map f k.ends) ≡ max_sinks → length k.ends ≡ max_sinks
ends-whole f k e = sym (length-map k.ends f) ∙ e
