-- Laws of the facings of a room's blocks: the last block is written first, so that of two in one cell the first counts.
use Rattle.std.specs.Prelude.{◌≡◌, get_or, set, drop, replicate}
use Rattle.std.proofs.Math.Path.{refl, sym}
use Rattle.std.proofs.Common.{ap, ◌∙◌, arith, length-set, drop_of_length-le}
use mathlib.Core.List.{List, [], ◌∷◌}
use Prim.Native.Nat.{ℕ, ◌+◌, ◌≤◌, ◌<◌}
use Rattle.std.proofs.Math.ListN.{length, get_or-replicate}
use Rattle.std.proofs.lemmas.List.{length-replicate}
use Rattle.std.proofs.Math.Seq.{get_or-set_same, get_or-set_other}
use borrow.Author.Tests.{eq-eqb, ne_eqb}
use Rattle.basics.specs.Tests.{ask_same}
use Rattle.basics.specs.Lists.{drop_next}
use Rattle.room.specs.declared.Room.{Room}
use Rattle.room.specs.Room.{volume}
use Rattle.room.specs.Units.{no_facing}
use Rattle.job_sheet.specs.declared.Block.{Block}
use Rattle.job_sheet.specs.Places.{no_block}
use Rattle.blocks.specs.Blocks.{block_cell, of_block}
use Rattle.blocks.proofs.BlockLaws.{tabulated-long, tabulated-at, tabulated-is}
use Rattle.laid_nets.specs.LaidNets.{facings_of}

module _ (R : Room) where
  pub facings-none : facings_of R [] ≡ replicate (volume R) 0
  unfolding of_block
  facings-none = sym (tabulated-is (volume R) _ (replicate (volume R) 0) (length-replicate {A = ℕ} (volume R) 0) (λ v h. get_or-replicate {A = ℕ} (volume R) v 0 0 h))

  -- one block more, in front
  pub facing-more : (b : Block) (bs : List Block) → block_cell R b < volume R → set (facings_of R bs) (block_cell R b) b.facing ≡ facings_of R (b ∷ bs)
  unfolding of_block
  facing-more b bs h =
      let n = volume R in
      let at : ℕ = block_cell R b in
      let old : List ℕ = facings_of R bs in
      let long : length old ≡ n = tabulated-long n _ in
      tabulated-is n _ (set old at b.facing) (length-set old at b.facing ∙ long)
      (λ v l. ask_same at v
      (λ e. rw (← e, eq-eqb at at refl, get_or-set_same old at b.facing 0 (omega arith)))
      (λ d. rw (ne_eqb at v d, get_or-set_other old at v b.facing 0 (λ e. d (sym e)), tabulated-at n (of_block (λ x. x.facing) no_facing R bs) v l)))

-- the blocks from the i-th on have their facings in their cells
pub record FacingsFrom (R : Room) (bs : List Block) (i : ℕ) (facings : List ℕ) : Type 0 where
  pub within : i ≤ length bs
  pub are : facings ≡ facings_of R (drop i bs)

module _ (R : Room) (bs : List Block) where
  pub facings-first : {facings : List ℕ} → facings ≡ replicate (volume R) 0 → {i : ℕ} → i ≡ length bs → FacingsFrom R bs i facings
  facings-first e {i} h = record { within = omega arith; are = let all : length bs ≤ i = omega arith in e ∙ sym (facings-none R) ∙ ap (facings_of R) (sym (drop_of_length-le bs all)) }

  pub facings-long : {i : ℕ} {facings : List ℕ} → FacingsFrom R bs i facings → length facings ≡ volume R
  facings-long F = ap length F.are ∙ tabulated-long (volume R) _

  pub facings-next : {i j : ℕ} {facings : List ℕ} → FacingsFrom R bs i facings → i ≡ j + 1 → (b : Block) → b ≡ get_or bs j no_block → block_cell R b < volume R
      → FacingsFrom R bs j (set facings (block_cell R b) b.facing)
  facings-next {i} {j} {facings} F e b is h = record {
    within = omega (arith, F.within);
    are =
        let same : drop j bs ≡ b ∷ drop i bs = drop_next bs j no_block (omega (arith, F.within)) ∙ (λ k. sym is k ∷ drop (sym e k) bs) in
        ap (λ l. set l (block_cell R b) b.facing) F.are ∙ facing-more R b (drop i bs) h ∙ ap (facings_of R) (sym same);
  }

  pub facings-all : {i : ℕ} {facings : List ℕ} → FacingsFrom R bs i facings → i ≡ 0 → facings ≡ facings_of R bs
  facings-all F e = F.are ∙ ap (λ n. facings_of R (drop n bs)) e
