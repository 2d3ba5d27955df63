-- Laws of the causes: a bit added where its marks are, bits added one after another, and the branches that stand one behind the other.
use Rattle.std.specs.Prelude.{◌≡◌, refl, Bool, true, false, List, [], ◌∷◌, ℕ, zero, suc, ◌+◌, ◌-◌, ◌≤◌, ◌<◌, length, get_or, take, drop, replicate}
use Rattle.std.proofs.Common.{sym, ap, ◌∙◌, le_of_suc-le-suc, not-suc-le-zero, arith, get_or-take, drop-drop}
use Rattle.std.proofs.Math.Bool.{or-false}
use Rattle.std.proofs.lemmas.List.{length-replicate}
use Rattle.basics.specs.Lists.{any}
use Rattle.basics.specs.Tests.{either}
use Rattle.basics.specs.Zeros.{zeros, zeros-long}
use Rattle.room.specs.declared.Room.{Room}
use Rattle.room.specs.declared.Pos.{Pos}
use Rattle.room.specs.Room.{Good, volume}
use Rattle.routing_resources.specs.Marks.{marked_by, unmarked_by, no_marks, is_marked, AllCells}
use Rattle.routing_resources.specs.MarkLaws.{with_length_lem, with_at, marked-after, MarkedSoFar, marking-none, rest_of, marking-on, marking-all}
use Rattle.routing_resources.specs.Resources.{is_clearance}
use Rattle.job_sheet.specs.declared.Block.{Block}
use Rattle.job_sheet.specs.declared.Job.{Job}
use Rattle.job_sheet.specs.declared.Part.{Part}
use Rattle.job_sheet.specs.Sheet.{Contents}
use Rattle.job_sheet.specs.Accepted.{PositionList, Usable}
use Rattle.job_sheet.specs.Places.{positions_in, blocks_in}
use Rattle.ends.specs.declared.Taps.{Taps}
use Rattle.outset.specs.Outset.{stands_at, block_keepout, own_cell, PositionsListed}
use Rattle.branches.specs.declared.BranchLengths.{BranchLengths}
use Rattle.branches.specs.Branches.{sum, lengths_in, cut_into, branches_of}
use Rattle.branches.specs.BranchLaws.{lengths-count}
use Rattle.branches.specs.LoopLaws.{Summed, summed_none, summed_next}
use Rattle.flood.specs.TableLaws.{is-tabled}
use Rattle.why.specs.ObstacleLaws.{Turning}
use Rattle.causes.specs.Causes.{bit_for, beside_conductor, foreign_cause, cleared_by, cause_of, own_bit, BitFree, BitAdded, OwnBranches, ForeignAsked, ForeignTold, CausesAsked, CausesTold}

-- ---- one bit

pub bit-most : (weight : ℕ) (b : Bool) → bit_for weight b ≤ weight
bit-most weight true = omega arith
bit-most weight false = omega arith

-- what the loop over the cells leaves
pub bits-added : {n weight : ℕ} {reason : ℕ → Bool} {causes causes' : List ℕ} {v : ℕ} → BitFree n weight causes
    → Turning (λ (k byte : ℕ). byte + bit_for weight (reason k)) causes causes' v → n ≤ v → BitAdded n weight reason causes causes'
bits-added F T h = record { long = T.long ∙ F.long; each = λ i q. T.front i (omega arith) }

-- no byte has a bit yet
pub none_free : {n : ℕ} (causes : List ℕ) {causes' : List ℕ} → length causes ≡ n → causes' ≡ replicate (length causes) 0 → BitFree n 1 causes'
none_free {n} causes l z = record { long = zeros-long z ∙ l; small = λ v h. rw (z, zeros (length causes) v) (omega arith) }

-- with one bit more, none has the next
pub next-free : {n weight : ℕ} {reason : ℕ → Bool} {causes causes' : List ℕ} → BitFree n weight causes → BitAdded n weight reason causes causes'
    → (twice : ℕ) → twice ≡ weight + weight → BitFree n twice causes'
next-free {n} {weight} {reason} F A twice e = record {
  long = A.long;
  small = λ v h. omega (arith, F.small v h, A.each v h, bit-most weight (reason v), e);
}

-- marks made afresh are where the reason holds
pub fresh-marks : (n : ℕ) (reason : ℕ → Bool) (v : ℕ) → v < n → is_marked (marked_by reason (no_marks n)) v ≡ reason v
fresh-marks n reason v h =
    marked-after reason (no_marks n) v (rw (length-replicate {A = ℕ} n 0) h) ∙ rw (zeros n v) (or-false (reason v))

module _ {n : ℕ} (reason : ℕ → Bool) (marks₀ : List ℕ) {marks₁ marks₂ : List ℕ} (long : length marks₀ ≡ n) (clear : marks₁ ≡ replicate (length marks₀) 0)
    (marked : marks₂ ≡ marked_by reason marks₁) where
  marks-are : marks₂ ≡ marked_by reason (no_marks n)
  marks-are = marked ∙ ap (marked_by reason) (clear ∙ ap (λ (k : ℕ). replicate k 0) long)

  marks-long : length marks₂ ≡ n
  marks-long = ap length marks-are ∙ with_length_lem 1 reason (no_marks n) ∙ length-replicate {A = ℕ} n 0

  pub free-here : {weight : ℕ} {causes : List ℕ} → BitFree n weight causes → BitFree (length marks₂) weight causes
  free-here F = rw marks-long F

  pub added-here : {weight : ℕ} {causes causes' : List ℕ} → BitAdded (length marks₂) weight (is_marked marks₂) causes causes' → BitAdded n weight reason causes causes'
  added-here {weight} {causes} A = record {
    long = A.long ∙ marks-long;
    each = λ v h. A.each v (rw marks-long h) ∙ ap (λ (b : Bool). get_or causes v 0 + bit_for weight b) (ap (λ (l : List ℕ). is_marked l v) marks-are ∙ fresh-marks n reason v h);
  }

-- ---- six of them

-- a list of positions, in the words of the function that marks it
pub listed : {sheet : List ℕ} {R : Room} {p : Part} {ps : List Pos} {marks : List ℕ} → Good R → PositionList sheet R p ps → length marks ≡ volume R
    → PositionsListed sheet R p marks
listed G L e = record { good = G; list = record { inside = L.inside; are = refl; within = L.within }; long = e }

six-bits : (causes : List ℕ) {n : ℕ} {p₁ p₂ p₃ p₄ p₅ p₆ : ℕ → Bool} {c₀ c₁ c₂ c₃ c₄ c₅ c₆ : List ℕ} → c₀ ≡ replicate (length causes) 0
    → BitAdded n 1 p₁ c₀ c₁
    → BitAdded n 2 p₂ c₁ c₂
    → BitAdded n 4 p₃ c₂ c₃
    → BitAdded n 8 p₄ c₃ c₄
    → BitAdded n 16 p₅ c₄ c₅
    → BitAdded n 32 p₆ c₅ c₆
    → (v : ℕ) → v < n
    → get_or c₆ v 0 ≡ bit_for 1 (p₁ v) + bit_for 2 (p₂ v) + bit_for 4 (p₃ v) + bit_for 8 (p₄ v) + bit_for 16 (p₅ v) + bit_for 32 (p₆ v)
six-bits causes {c₀ = c₀} z a b c d e f v h =
    let none : get_or c₀ v 0 ≡ 0 = rw z (zeros (length causes) v) in
    omega (arith, none, a.each v h, b.each v h, c.each v h, d.each v h, e.each v h, f.each v h)

-- what is said of a sheet's contents, by its parts
said-by : (kinds nodes : List ℕ) (J : Contents) (R : Room) (cs ls ts rs : List Pos) (bs : List Block)
    → R ≡ J.room → cs ≡ J.conductors → ls ≡ J.clearances → ts ≡ J.terminals → rs ≡ J.reserved → bs ≡ J.blocks → (v : ℕ)
    → bit_for 1 (any (stands_at R v) cs) + bit_for 2 (any (beside_conductor R v) cs) + bit_for 4 (any (stands_at R v) ls) + bit_for 8 (any (stands_at R v) ts)
    + bit_for 16 (any (stands_at R v) rs) + bit_for 32 (any (block_keepout R kinds nodes v) bs)
    ≡ foreign_cause kinds nodes J v
unfolding foreign_cause
said-by kinds nodes J R cs ls ts rs bs r c l t s b v = rw (r, c, l, t, s, b) refl

module _ {sheet : List ℕ} {job : Job} {kinds nodes marks causes : List ℕ} (F : ForeignAsked sheet job kinds nodes marks causes) where
  abbrev n : ℕ
  n = volume job.room

  abbrev on_list : List Pos → ℕ → Bool
  on_list ps v = any (stands_at job.room v) ps

  pub foreign-told : {c₀ c₁ c₂ c₃ c₄ c₅ c₆ : List ℕ} → c₀ ≡ replicate (length causes) 0
      → BitAdded n 1 (on_list (positions_in sheet job.conductors)) c₀ c₁
      → BitAdded n 2 (λ v. any (beside_conductor job.room v) (positions_in sheet job.conductors)) c₁ c₂
      → BitAdded n 4 (on_list (positions_in sheet job.clearances)) c₂ c₃
      → BitAdded n 8 (on_list (positions_in sheet job.terminals)) c₃ c₄
      → BitAdded n 16 (on_list (positions_in sheet job.reserved)) c₄ c₅
      → BitAdded n 32 (λ v. any (block_keepout job.room kinds nodes v) (blocks_in sheet job.blocks)) c₅ c₆
      → ForeignTold sheet job kinds nodes c₆
  foreign-told z a b c d e f = record {
    long = f.long;
    each = λ J U v h. six-bits causes z a b c d e f v h
        ∙ said-by kinds nodes J _ _ _ _ _ _ U.room-is U.conductors.are U.clearances.are U.terminals.are U.reserved.are U.blocks.are v;
  }

pub foreign-small : (kinds nodes : List ℕ) (J : Contents) (v : ℕ) → foreign_cause kinds nodes J v < own_bit
unfolding foreign_cause
foreign-small kinds nodes J v =
    let R = J.room in
    omega (
      arith,
      bit-most 1 (any (stands_at R v) J.conductors),
      bit-most 2 (any (beside_conductor R v) J.conductors),
      bit-most 4 (any (stands_at R v) J.clearances),
      bit-most 8 (any (stands_at R v) J.terminals),
      bit-most 16 (any (stands_at R v) J.reserved),
      bit-most 32 (any (block_keepout R kinds nodes v) J.blocks),
    )

-- ---- the branches, one behind the other

cut_at : (ns cells : List ℕ) (k : ℕ) → k < length ns → get_or (cut_into ns cells) k [] ≡ take (get_or ns k 0) (drop (sum (take k ns)) cells)
unfolding cut_into sum
cut_at [] cells k h = absurd (not-suc-le-zero h)
cut_at (n ∷ ns) cells zero h = refl
cut_at (n ∷ ns) cells (suc k) h = cut_at ns (drop n cells) k (le_of_suc-le-suc h) ∙ ap (take (get_or ns k 0)) (drop-drop (sum (take k ns)) n cells)

cut-long : (ns cells : List ℕ) → length (cut_into ns cells) ≡ length ns
unfolding cut_into
cut-long [] cells = refl
cut-long (n ∷ ns) cells = ap suc (cut-long ns (drop n cells))

sum-part : (ns : List ℕ) (k : ℕ) → k < length ns → sum (take k ns) + get_or ns k 0 ≤ sum ns
unfolding sum
sum-part [] k h = absurd (not-suc-le-zero h)
sum-part (n ∷ ns) zero h = omega arith
sum-part (n ∷ ns) (suc k) h = omega (arith, sum-part ns k (le_of_suc-le-suc h))

-- the first k branches' clearances are marked
pub record OwnMarked (R : Room) (L : BranchLengths) (cells start marks : List ℕ) (from k : ℕ) : Type 0 where
  pub place : Summed (lengths_in L) from k
  pub fits : from ≤ length cells
  pub marking : MarkedSoFar 1 (rest_of (cleared_by R) (branches_of L cells)) start marks k

module _ {R : Room} {L : BranchLengths} {cells : List ℕ} (B : OwnBranches R L cells) where
  all-lengths : length (lengths_in L) ≡ L.count
  all-lengths = lengths-count L (omega (arith, B.branched.whole, B.branched.few))

  pub own-none : {marks : List ℕ} → OwnMarked R L cells marks marks 0 0
  own-none = record { place = summed_none _; fits = omega arith; marking = marking-none _ _ _ }

  module _ {start marks : List ℕ} {from k : ℕ} (O : OwnMarked R L cells start marks from k) where
    module _ (h : k < L.count) (to : ℕ) (e : to ≡ from + get_or L.each k 0) where
      length_at : get_or (lengths_in L) k 0 ≡ get_or L.each k 0
      length_at = get_or-take L.count L.each k 0 h

      pub own-within : to ≤ length cells
      own-within = let p = sum-part (lengths_in L) k (omega (arith, all-lengths)) in omega (arith, e, O.place.is, p, length_at, B.branched.within)

      here : take (to - from) (drop from cells) ≡ get_or (branches_of L cells) k []
      here =
          let n : to - from ≡ get_or (lengths_in L) k 0 = omega (arith, e, length_at) in
          ap (λ (m : ℕ). take m (drop from cells)) n
          ∙ ap (λ (f : ℕ). take (get_or (lengths_in L) k 0) (drop f cells)) O.place.is
          ∙ sym (cut_at (lengths_in L) cells k (omega (arith, all-lengths)))

      pub own_in : AllCells R (take (to - from) (drop from cells))
      own_in = rw here (B.cells_in k h)

      pub own-next : {marks' : List ℕ} → marks' ≡ marked_by (is_clearance R (take (to - from) (drop from cells))) marks → OwnMarked R L cells start marks' to (k + 1)
      own-next m = record {
        place = rw (e, ← length_at) (summed_next O.place (omega (arith, all-lengths)));
        fits = own-within;
        marking = marking-on (cleared_by R) (branches_of L cells) O.marking [] (take (to - from) (drop from cells)) here
            (omega (arith, h, cut-long (lengths_in L) cells, all-lengths)) m;
      }

    pub own-all : L.count ≤ k → marks ≡ marked_by (λ v. any (cleared_by R v) (branches_of L cells)) start
    own-all h = marking-all (cleared_by R) (branches_of L cells) O.marking (omega (arith, h, cut-long (lengths_in L) cells, all-lengths))

-- ---- all of it

-- what is said of a sheet's contents, by its room
with_room : (kinds nodes : List ℕ) (J : Contents) (source : ℕ) (taps : Taps) (branches : List (List ℕ)) (R : Room) → R ≡ J.room → (v : ℕ)
    → either (own_cell R source taps v) 0 (foreign_cause kinds nodes J v) + bit_for own_bit (any (cleared_by R v) branches)
    ≡ cause_of kinds nodes J source taps branches v
unfolding cause_of
with_room kinds nodes J source taps branches R e v = rw e refl

module _ {sheet : List ℕ} {job : Job} {source : ℕ} {taps : Taps} {kinds nodes : List ℕ} {L : BranchLengths} {branches marks causes : List ℕ}
    (A : CausesAsked sheet job source taps kinds nodes L branches marks causes) {c₁ : List ℕ} (T : ForeignTold sheet job kinds nodes c₁)
    {c₂ : List ℕ} (out : c₂ ≡ unmarked_by (own_cell job.room source taps) c₁) where
  out_at : (v : ℕ) → v < volume job.room → get_or c₂ v 0 ≡ either (own_cell job.room source taps v) 0 (get_or c₁ v 0)
  out_at v h = rw out (with_at 0 (own_cell job.room source taps) c₁ v (rw T.long h))

  out-long : length c₂ ≡ volume job.room
  out-long = rw out (with_length_lem 0 (own_cell job.room source taps) c₁) ∙ T.long

  pub own-free : BitFree (volume job.room) own_bit c₂
  own-free = record { long = out-long; small = λ v h. rw (out_at v h) (small v h (own_cell job.room source taps v)) }
    where
      small : (v : ℕ) → v < volume job.room → (b : Bool) → either b 0 (get_or c₁ v 0) < own_bit
      small v h true = omega arith
      small v h false = rw (T.each A.foreign.contents A.foreign.usable v h) (foreign-small kinds nodes A.foreign.contents v)

  pub causes-told : {c₃ : List ℕ} → BitAdded (volume job.room) own_bit (λ v. any (cleared_by job.room v) (branches_of L branches)) c₂ c₃
      → CausesTold sheet job source taps kinds nodes (branches_of L branches) c₃
  causes-told {c₃} C = record { are = λ J U. is-tabled _ _ c₃ (C.long ∙ ap volume U.room-is) (λ v h. each J U v (rw U.room-is h)) }
    where
      each : (J : Contents) → Usable sheet job J → (v : ℕ) → v < volume job.room → get_or c₃ v 0 ≡ cause_of kinds nodes J source taps (branches_of L branches) v
      each J U v h = C.each v h ∙ rw (out_at v h, T.each J U v h) (with_room kinds nodes J source taps (branches_of L branches) job.room U.room-is v)
