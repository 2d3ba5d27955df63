-- Laws of the outset: how the loops over the sheet's lists and the net's ends mark, and what the functions ask of their parameters.
use Rattle.std.specs.Prelude.{◌≡◌, refl, Bool, true, false, not, ◌&&◌, ◌||◌, List, ℕ, ◌<◌, eqb, length, get_or, Option, Some, None}
use Rattle.std.proofs.Math.Path.{sym}
use Rattle.std.proofs.Common.{ap, ◌∙◌}
use Rattle.basics.specs.Lists.{any}
use Rattle.room.specs.declared.Room.{Room}
use Rattle.room.specs.declared.Pos.{Pos}
use Rattle.room.specs.Room.{Within, volume, cell_of, beneath}
use Rattle.room.specs.RoomLaws.{cell_in}
use Rattle.room.specs.Units.{repeater, ahead}
use Rattle.routing_resources.specs.Marks.{with_byte, marked_by, unmarked_by, no_marks, is_cell}
use Rattle.routing_resources.specs.MarkLaws.{with_none, with_same, with_or, taken_out}
use Rattle.routing_resources.specs.Resources.{in_keepout}
use Rattle.job_sheet.specs.declared.Block.{Block}
use Rattle.job_sheet.specs.declared.Job.{Job}
use Rattle.job_sheet.specs.declared.Part.{Part}
use Rattle.job_sheet.specs.Sheet.{Contents}
use Rattle.job_sheet.specs.Places.{no_position, positions_in, blocks_in}
use Rattle.ends.specs.declared.Tap.{Tap}
use Rattle.ends.specs.declared.Taps.{Taps}
use Rattle.ends.specs.Ends.{taps_in}
use Rattle.outset.specs.Outset.{stands_at, near_conductor, blocked_by, powers, solid_of, output_keepout, block_keepout, at_or_beneath, tap_cell, own_cell, blocked_at_outset, PositionsListed, Sized, OutsetReady, OutsetMarked}

-- ---- what the functions ask of their parameters

-- other marks, as long
pub sized-still : {R : Room} {kinds nodes marks marks' : List ℕ} → Sized R kinds nodes marks → length marks' ≡ length marks → Sized R kinds nodes marks'
sized-still S e = record { good = S.good; kinds-long = S.kinds-long; nodes-long = S.nodes-long; long = e ∙ S.long }

-- a list's position is within the room, and its cell is in the room
module _ {sheet : List ℕ} {R : Room} {p : Part} {marks : List ℕ} (L : PositionsListed sheet R p marks) (i : ℕ) (h : i < p.count) (q : Pos) (e : q ≡ get_or (positions_in sheet p) i no_position) where
  pub listed-within : Within R q
  listed-within = rw e (L.list.within i h)

  pub listed_in : (cell : ℕ) → cell ≡ cell_of R q → cell < volume R
  listed_in cell f = rw f (cell_in R q listed-within)

-- ---- the keepout that a block asks for

module _ (R : Room) (kinds nodes marks : List ℕ) where
  module _ (node : ℕ) {output : Option ℕ} where
    pub output_solid : {cell : ℕ} {marks' : List ℕ} → output ≡ Some cell → solid_of kinds nodes node cell ≡ true → marks' ≡ marked_by (in_keepout R cell) marks
        → marks' ≡ marked_by (output_keepout R kinds nodes node output) marks
    output_solid e s m = m ∙ with_same 1 _ _ marks (λ v h. rw (e, s) refl)

    pub output_other : {cell : ℕ} → output ≡ Some cell → solid_of kinds nodes node cell ≡ false
        → marks ≡ marked_by (output_keepout R kinds nodes node output) marks
    output_other e s = sym (with_none 1 _ marks (λ v h. rw (e, s) refl))

    pub output_none : output ≡ None → marks ≡ marked_by (output_keepout R kinds nodes node output) marks
    output_none e = sym (with_none 1 _ marks (λ v h. rw e refl))

  module _ (b : Block) where
    pub block-powers : {cell : ℕ} {marks' : List ℕ} → cell ≡ cell_of R b.at → powers b.kind ≡ true → marks' ≡ marked_by (in_keepout R cell) marks
        → marks' ≡ marked_by (λ v. block_keepout R kinds nodes v b) marks
    unfolding block_keepout
    block-powers e p m = m ∙ with_same 1 _ _ marks (λ v h. rw (e, p) refl)

    module _ (n : powers b.kind ≡ false) where
      pub block_output : {cell : ℕ} {marks' : List ℕ} → cell ≡ cell_of R b.at → eqb b.kind repeater ≡ true → {output : Option ℕ} → output ≡ ahead R cell b.facing
          → marks' ≡ marked_by (output_keepout R kinds nodes b.node output) marks
          → marks' ≡ marked_by (λ v. block_keepout R kinds nodes v b) marks
      unfolding block_keepout
      block_output e r o m = m ∙ with_same 1 _ _ marks (λ v h. rw (o, e, n, r) refl)

      pub block_none : eqb b.kind repeater ≡ false → marks ≡ marked_by (λ v. block_keepout R kinds nodes v b) marks
      unfolding block_keepout
      block_none r = sym (with_none 1 _ marks (λ v h. rw (n, r) refl))

-- ---- what is taken out

module _ (R : Room) (marks : List ℕ) {marks' marks'' : List ℕ} where
  pub out-cell : (cell : ℕ) {under : Option ℕ} → under ≡ beneath R cell → marks' ≡ unmarked_by (eqb cell) marks → marks'' ≡ with_byte 0 (is_cell under) marks'
      → marks'' ≡ unmarked_by (λ v. at_or_beneath R v cell) marks
  unfolding at_or_beneath
  out-cell cell e m n = n ∙ rw (e, m) (with_or 0 (eqb cell) (is_cell (beneath R cell)) marks)

  pub out-tap : (t : Tap) → marks' ≡ unmarked_by (λ v. at_or_beneath R v t.terminal) marks → marks'' ≡ unmarked_by (λ v. at_or_beneath R v t.approach) marks'
      → marks'' ≡ unmarked_by (λ v. tap_cell R v t) marks
  out-tap t m n = n ∙ rw m (with_or 0 (λ v. at_or_beneath R v t.terminal) (λ v. at_or_beneath R v t.approach) marks)

  pub out-ends : (source : ℕ) (k : Taps) → marks' ≡ unmarked_by (λ v. at_or_beneath R v source) marks → marks'' ≡ unmarked_by (λ v. any (tap_cell R v) (taps_in k)) marks'
      → marks'' ≡ unmarked_by (own_cell R source k) marks
  unfolding own_cell
  out-ends source k m n = n ∙ rw m (with_or 0 (λ v. at_or_beneath R v source) (λ v. any (tap_cell R v) (taps_in k)) marks)

-- what is said of a sheet's contents, by its parts
said-by : (kinds nodes : List ℕ) (source : ℕ) (k : Taps) (J : Contents) (R : Room) (cs ls ts rs : List Pos) (bs : List Block)
    → R ≡ J.room → cs ≡ J.conductors → ls ≡ J.clearances → ts ≡ J.terminals → rs ≡ J.reserved → bs ≡ J.blocks
    → marked_by (λ v. (any (near_conductor R v) cs || (any (stands_at R v) ls || (any (stands_at R v) ts || (any (stands_at R v) rs || any (block_keepout R kinds nodes v) bs))))
    && not (own_cell R source k v)) (no_marks (volume R))
    ≡ blocked_at_outset kinds nodes J source k
unfolding blocked_at_outset blocked_by
said-by kinds nodes source k J R cs ls ts rs bs r c l t s b = rw (r, c, l, t, s, b) refl

-- ---- all of it

-- marked five times, then taken out
five-marked : (p₁ p₂ p₃ p₄ p₅ q : ℕ → Bool) (n : ℕ) {m₀ m₁ m₂ m₃ m₄ m₅ m₆ : List ℕ} → m₀ ≡ no_marks n
    → m₁ ≡ marked_by p₁ m₀
    → m₂ ≡ marked_by p₂ m₁
    → m₃ ≡ marked_by p₃ m₂
    → m₄ ≡ marked_by p₄ m₃
    → m₅ ≡ marked_by p₅ m₄
    → m₆ ≡ unmarked_by q m₅
    → m₆ ≡ marked_by (λ v. (p₁ v || (p₂ v || (p₃ v || (p₄ v || p₅ v)))) && not (q v)) (no_marks n)
five-marked p₁ p₂ p₃ p₄ p₅ q n {m₀ = m₀} {m₁ = m₁} {m₂ = m₂} {m₃ = m₃} e₀ e₁ e₂ e₃ e₄ e₅ e₆ =
    let all : _ ≡ marked_by (λ v. p₁ v || (p₂ v || (p₃ v || (p₄ v || p₅ v)))) (no_marks n) =
    e₅
    ∙ ap (marked_by p₅) e₄
    ∙ with_or 1 p₄ p₅ m₃
    ∙ ap (marked_by (λ v. p₄ v || p₅ v)) e₃
    ∙ with_or 1 p₃ (λ v. p₄ v || p₅ v) m₂
    ∙ ap (marked_by (λ v. p₃ v || (p₄ v || p₅ v))) e₂
    ∙ with_or 1 p₂ (λ v. p₃ v || (p₄ v || p₅ v)) m₁
    ∙ ap (marked_by (λ v. p₂ v || (p₃ v || (p₄ v || p₅ v)))) e₁
    ∙ with_or 1 p₁ (λ v. p₂ v || (p₃ v || (p₄ v || p₅ v))) m₀
    ∙ ap (marked_by (λ v. p₁ v || (p₂ v || (p₃ v || (p₄ v || p₅ v))))) e₀ in
    e₆ ∙ ap (unmarked_by q) all ∙ taken_out _ q n

module _ {sheet : List ℕ} {job : Job} {source : ℕ} {k : Taps} {kinds nodes m₀ : List ℕ} (O : OutsetReady sheet job source k kinds nodes m₀) where
  pub outset-marked : {m₁ m₂ m₃ m₄ m₅ m₆ : List ℕ}
      → m₁ ≡ marked_by (λ v. any (near_conductor job.room v) (positions_in sheet job.conductors)) m₀
      → m₂ ≡ marked_by (λ v. any (stands_at job.room v) (positions_in sheet job.clearances)) m₁
      → m₃ ≡ marked_by (λ v. any (stands_at job.room v) (positions_in sheet job.terminals)) m₂
      → m₄ ≡ marked_by (λ v. any (stands_at job.room v) (positions_in sheet job.reserved)) m₃
      → m₅ ≡ marked_by (λ v. any (block_keepout job.room kinds nodes v) (blocks_in sheet job.blocks)) m₄
      → m₆ ≡ unmarked_by (own_cell job.room source k) m₅
      → OutsetMarked sheet job source k kinds nodes m₆
  outset-marked e₁ e₂ e₃ e₄ e₅ e₆ = record {
    is = λ J U. five-marked _ _ _ _ _ _ (volume job.room) O.clear e₁ e₂ e₃ e₄ e₅ e₆
        ∙ said-by kinds nodes source k J _ _ _ _ _ _ U.room-is U.conductors.are U.clearances.are U.terminals.are U.reserved.are U.blocks.are;
  }
