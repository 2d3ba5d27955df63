-- The two loops: the first fault of a part's records, and the sinks gathered one by one.
use Rattle.std.specs.Prelude.{◌≡◌, refl, true, false, List, [], ◌∷◌, ◌++◌, ℕ, suc, ◌+◌, ◌-◌, ◌*◌, ◌≤◌, ◌<◌, length, drop, set, replicate}
use Rattle.std.proofs.Common.{sym, ap, ◌∙◌, le_of_lt, mul-le-mul_left, mul-suc, mul-zero, add-one, arith, drop-drop}
use Rattle.basics.specs.Padding.{padded_next}
use Rattle.room.specs.declared.Room.{Room}
use Rattle.job_sheet.specs.declared.Part.{Part}
use Rattle.job_sheet.specs.declared.Sink.{Sink}
use Rattle.job_sheet.specs.declared.Sinks.{Sinks}
use Rattle.job_sheet.specs.declared.Version.{Version}
use Rattle.job_sheet.specs.declared.faults.Records.{Records}
use Rattle.job_sheet.specs.declared.Judgement.{Judgement}
use Rattle.job_sheet.specs.Sheet.{max_sinks, is_good, first_fault, no_sink, sinks_of, behind}
use Rattle.job_sheet.specs.Places.{many, sink_in, sinks_in, fault_in}
use Rattle.job_sheet.specs.RecordLaws.{many-long, many_snoc}
use Rattle.job_sheet.proofs.FaultLaws.{fault_first, good-first, only-first}

-- ---- the first fault

-- the fault so far and the records that are left come to what was asked for
pub record Scanned (v : Version) (s : List ℕ) (R : Room) (k : Records) (size : ℕ) (found : Judgement) (from count : ℕ) (fault : Judgement) (place left : ℕ) : Type 0 where
  pub same : first_fault (fault ∷ many (fault_in v R k) size left (drop place s)) ≡ first_fault (found ∷ many (fault_in v R k) size count (drop from s))
  pub inside : place + size * left ≤ length s

module _ {v : Version} {s : List ℕ} {R : Room} {k : Records} {size : ℕ} {found : Judgement} {from count : ℕ} {fault : Judgement} {place left : ℕ}
    (I : Scanned v s R k size found from count fault place left) where
  pub scan_stop : is_good fault ≡ false → fault ≡ first_fault (found ∷ many (fault_in v R k) size count (drop from s))
  scan_stop e = sym (fault_first fault _ e) ∙ I.same

  pub scan_done : left ≤ 0 → fault ≡ first_fault (found ∷ many (fault_in v R k) size count (drop from s))
  scan_done h =
      let z : left ≡ 0 = omega arith in
      sym (only-first fault) ∙ rw z at I.same

  next_in : 0 < left → place + size + size * (left - 1) ≤ length s
  next_in h =
      let e : left ≡ suc (left - 1) = omega arith in
      let m : size * left ≡ size * (left - 1) + size = ap (λ x. size * x) e ∙ mul-suc size (left - 1) in
      omega (arith, I.inside, m)

  -- the next record ends within the sheet
  pub scan_near : 0 < left → place + size ≤ length s
  scan_near h = omega (arith, next_in h)

  pub scan_on : is_good fault ≡ true → 0 < left → (next : Judgement) → next ≡ fault_in v R k (drop place s)
      → Scanned v s R k size found from count next (place + size) (left - 1)
  scan_on g h next n =
      let e : left ≡ suc (left - 1) = omega arith in
      record {
        same = rw (n, ← drop-drop size place s) (sym (good-first fault _ g) ∙ rw e at I.same);
        inside = next_in h;
      }

-- at the first record
pub scan_begins : (v : Version) (s : List ℕ) (R : Room) (k : Records) (found : Judgement) (p : Part) → behind p ≤ length s
    → Scanned v s R k p.size found p.from p.count found (p.from + p.size * 0) (p.count - 0)
scan_begins v s R k found p h =
    let a : p.from + p.size * 0 ≡ p.from = omega (arith, mul-zero p.size) in
    let b : p.count - 0 ≡ p.count = omega arith in
    rw (a, b) record { same = refl; inside = h }

-- at the record behind record i
pub scan_next : {v : Version} {s : List ℕ} {R : Room} {k : Records} {size : ℕ} {found : Judgement} {from count : ℕ} {fault : Judgement} (i : ℕ)
    → Scanned v s R k size found from count fault (from + size * i + size) (count - i - 1) → Scanned v s R k size found from count fault (from + size * (i + 1)) (count - (i + 1))
scan_next {size = size} {from = from} {count = count} i I =
    let a : from + size * (i + 1) ≡ from + size * i + size = omega (arith, ap (λ n. size * n) (add-one i) ∙ mul-suc size i) in
    let b : count - (i + 1) ≡ count - i - 1 = omega arith in
    rw (a, b) I

-- ---- the sinks

pub record SinksGathered (v : Version) (s : List ℕ) (from count size : ℕ) (ends : List Sink) (k : ℕ) : Type 0 where
  pub same : ends ≡ many (sink_in v) size k (drop from s) ++ replicate (max_sinks - k) no_sink
  pub so_far : k ≤ count

module _ {v : Version} {s : List ℕ} {from count size : ℕ} {ends : List Sink} {k : ℕ} (I : SinksGathered v s from count size ends k) where
  pub gather_on : k < count → count ≤ max_sinks → (x : Sink) → x ≡ sink_in v (drop (from + size * k) s) → SinksGathered v s from count size (set ends k x) (k + 1)
  gather_on h few x n =
      let l = drop from s in
      let p = many (sink_in v) size k l in
      let r : List Sink = replicate (max_sinks - (k + 1)) no_sink in
      record {
        same =
            ap (λ y. set y k x) I.same
            ∙ padded_next p max_sinks k no_sink (many-long (sink_in v) size k l) (omega arith) x
            ∙ ap (λ y. (p ++ (y ∷ [])) ++ r) (n ∙ ap (sink_in v) (sym (drop-drop (size * k) from s)))
            ∙ ap (λ y. y ++ r) (sym (many_snoc (sink_in v) size k l))
            ∙ ap (λ y. many (sink_in v) size y l ++ r) (sym (add-one k));
        so_far = omega arith;
      }

  -- the next sink begins within the sheet
  pub gather_near : k < count → from + size * count ≤ length s → from + size * k ≤ length s
  gather_near h inside = omega (arith, inside, mul-le-mul_left size (le_of_lt h))

pub gather_done : (v : Version) (s : List ℕ) (p : Part) (ends : List Sink) (k : ℕ) → SinksGathered v s p.from p.count p.size ends k → p.count ≤ k
    → ◌≡◌ {A = Sinks} (record { count = p.count; ends = ends }) (sinks_of (sinks_in v s p))
unfolding sinks_in
gather_done v s p ends k I h =
    let l = drop p.from s in
    let all : List Sink = many (sink_in v) p.size p.count l in
    let n : length all ≡ p.count = many-long (sink_in v) p.size p.count l in
    let e : k ≡ p.count = omega (arith, I.so_far) in
    let f : ends ≡ all ++ replicate (max_sinks - length all) no_sink = rw n (rw e at I.same) in
    let n' = sym n in
    λ i. record { count = n' i; ends = f i }
