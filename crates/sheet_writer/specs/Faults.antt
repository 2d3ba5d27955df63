-- What is wrong with the records of a list of numbers, and the first of these that the code finds.
use Rattle.std.specs.Prelude.{◌≡◌, true, false, ℕ, suc, ◌+◌, ◌-◌, ◌*◌, ◌/◌, ◌≤◌, ◌<◌, length, get_or, drop, take}
use Rattle.std.proofs.Math.Path.{refl, sym}
use Rattle.std.proofs.Common.{ap, ◌∙◌, mul-suc, mul_comm, div-mul-le_self, arith, drop_of_length-le, drop-drop}
use mathlib.Core.List.{List, [], ◌∷◌, map}
use Rattle.basics.specs.Lists.{joined, drop_next}
use Rattle.room.specs.declared.Room.{Room}
use Rattle.job_sheet.specs.declared.Sink.{Sink}
use Rattle.job_sheet.specs.declared.Judgement.{Judgement}
use Rattle.job_sheet.specs.declared.Version.{Version}
use Rattle.job_sheet.specs.Sheet.{is_good, first_fault, sides_fault, config_fault, limit_fault, position_fault, block_fault, endpoint_fault, sink_fault, judged, no_sink}
use Rattle.job_sheet.specs.Places.{many, head_fault}
use Rattle.job_sheet.proofs.FaultLaws.{fault_first, good-first, only-first, first_on, many_map, carried, carried-is}
use Rattle.sheet_writer.specs.declared.Records.{Records}
use Rattle.sheet_writer.specs.declared.Records.TheVariants.{Blocks, Positions}
use Rattle.sheet_writer.specs.Writer.{Parts, numbers_for, block_numbers, position_numbers, block_from, position_from, blocks_of, positions_of, contents_of}

-- what is wrong with the record at the front, and with each record of a list
abbrev pub fault_from : Room → Records → List ℕ → Judgement
fault_from R Blocks l = block_fault R (block_from l)
fault_from R Positions l = position_fault R (position_from l 0)

unfoldable pub faults_from : Room → Records → List ℕ → List Judgement
faults_from R k l = many (fault_from R k) (numbers_for k) (length l / numbers_for k) l

module _ (R : Room) (l : List ℕ) where
  blocks_faults : faults_from R Blocks l ≡ map (block_fault R) (blocks_of l)
  unfolding faults_from blocks_of
  blocks_faults = many_map (block_fault R) block_from block_numbers (length l / block_numbers) l

  positions_faults : faults_from R Positions l ≡ map (position_fault R) (positions_of l)
  unfolding faults_from positions_of
  positions_faults = many_map (position_fault R) (λ m. position_from m 0) position_numbers (length l / position_numbers) l

-- ---- the loop over a list

-- the fault so far and the records that are left come to what was asked for
pub record Scanned (fault : List ℕ → Judgement) (size : ℕ) (l : List ℕ) (whole found : Judgement) (place left : ℕ) : Type 0 where
  pub same : first_fault (found ∷ many fault size left (drop place l)) ≡ whole
  pub inside : place + size * left ≤ length l

module _ {fault : List ℕ → Judgement} {size : ℕ} {l : List ℕ} {whole found : Judgement} {place left : ℕ} (I : Scanned fault size l whole found place left) where
  pub scan_stop : is_good found ≡ false → found ≡ whole
  scan_stop e = sym (fault_first found _ e) ∙ I.same

  pub scan_done : left ≤ 0 → found ≡ whole
  scan_done h =
      let z : left ≡ 0 = omega arith in
      sym (only-first found) ∙ rw z at I.same

  left-next : 0 < left → size * left ≡ size * (left - 1) + size
  left-next h = let e : left ≡ suc (left - 1) = omega arith in ap (λ x. size * x) e ∙ mul-suc size (left - 1)

  -- there is a whole record at the place
  pub record_inside : 0 < left → place + size ≤ length l
  record_inside h = omega (arith, I.inside, left-next h)

  pub scan_on : is_good found ≡ true → 0 < left → (next : Judgement) → next ≡ fault (drop place l) → Scanned fault size l whole next (place + size) (left - 1)
  scan_on g h next n =
      let e : left ≡ suc (left - 1) = omega arith in
      record {
        same = rw (n, ← drop-drop size place l) (sym (good-first found _ g) ∙ rw e at I.same);
        inside = omega (arith, I.inside, left-next h);
      }

pub numbers_some : (k : Records) (size : ℕ) → size ≡ numbers_for k → 0 < size
numbers_some Blocks size e = omega arith
numbers_some Positions size e = omega arith

pub scan_first : (R : Room) (k : Records) (l : List ℕ) (found : Judgement) {size : ℕ} → size ≡ numbers_for k
    → Scanned (fault_from R k) size l (first_fault (found ∷ faults_from R k l)) found 0 (length l / size)
unfolding faults_from
scan_first R k l found {size} e = record { same = rw e; inside = omega (arith, div-mul-le_self (length l) size, mul_comm size (length l / size)) }

-- ---- the loop over the sinks

module _ (fault : Sink → Judgement) (l : List Sink) (found : Judgement) where
  -- the fault so far and the ends that are left come to that of all
  pub record SinksScanned (now : Judgement) (k : ℕ) : Type 0 where
    pub same : first_fault (now ∷ map fault (drop k l)) ≡ first_fault (found ∷ map fault l)

  module _ {now : Judgement} {k : ℕ} (I : SinksScanned now k) where
    pub sinks_on : k < length l → (next : Judgement) → next ≡ first_fault (now ∷ fault (get_or l k no_sink) ∷ []) → SinksScanned next (k + 1)
    sinks_on h next n = record {
      same =
          rw n (sym (first_on (now ∷ fault (get_or l k no_sink) ∷ []) (map fault (drop (k + 1) l)))
          ∙ ap (λ r. first_fault (now ∷ map fault r)) (sym (drop_next l k no_sink h)) ∙ I.same);
    }

    pub sinks-done : length l ≤ k → now ≡ first_fault (found ∷ map fault l)
    sinks-done h = sym (only-first now) ∙ rw (drop_of_length-le l h) at I.same

-- ---- all of it

module _ (v : Version) (P : Parts) where
  -- what the code carries from list to list is the judgement
  pub judged-steps : (v₀ v₁ v₂ v₃ v₄ v₅ v₆ v₇ : Judgement)
      → v₀ ≡ head_fault v.ranges P.room P.config P.run
      → v₁ ≡ first_fault (v₀ ∷ faults_from P.room Blocks P.blocks)
      → v₂ ≡ first_fault (v₁ ∷ faults_from P.room Positions P.conductors)
      → v₃ ≡ first_fault (v₂ ∷ faults_from P.room Positions P.clearances)
      → v₄ ≡ first_fault (v₃ ∷ faults_from P.room Positions P.terminals)
      → v₅ ≡ first_fault (v₄ ∷ faults_from P.room Positions P.reserved)
      → v₆ ≡ first_fault (v₅ ∷ endpoint_fault P.room P.source ∷ [])
      → v₇ ≡ first_fault (v₆ ∷ map (sink_fault P.room) (take P.sinks.count P.sinks.ends))
      → v₇ ≡ judged v (contents_of P)
  unfolding carried judged contents_of
  judged-steps v₀ v₁ v₂ v₃ v₄ v₅ v₆ v₇ e₀ e₁ e₂ e₃ e₄ e₅ e₆ e₇ =
      let R = P.room in
      let head : List Judgement = sides_fault v.ranges R ∷ config_fault v.ranges R P.config ∷ limit_fault P.run ∷ [] in
      let sinks : List Judgement = map (sink_fault R) (take P.sinks.count P.sinks.ends) in
      let lists : List (List Judgement) =
      faults_from R Blocks P.blocks
      ∷ faults_from R Positions P.conductors
      ∷ faults_from R Positions P.clearances
      ∷ faults_from R Positions P.terminals
      ∷ faults_from R Positions P.reserved
      ∷ (endpoint_fault R P.source ∷ [])
      ∷ sinks
      ∷ []
      in
      let steps : v₇ ≡ carried (first_fault head) lists = rw (e₇, e₆, e₅, e₄, e₃, e₂, e₁, e₀) refl in
      steps
      ∙ carried-is (first_fault head) lists
      ∙ sym (first_on head (joined lists))
      ∙ λ i. first_fault (
      joined (
      head
      ∷ blocks_faults R P.blocks i
      ∷ positions_faults R P.conductors i
      ∷ positions_faults R P.clearances i
      ∷ positions_faults R P.terminals i
      ∷ positions_faults R P.reserved i
      ∷ (endpoint_fault R P.source ∷ [])
      ∷ sinks
      ∷ []
      )
      )
