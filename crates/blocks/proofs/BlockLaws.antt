-- Laws of blocks laid out: a table's entries, what stands in a cell, that where nothing repeats each block's cell tells of that block, and that what
-- laying out comes to is determined.
use Rattle.std.specs.Prelude.{◌≡◌, ◌⊎◌, eqb, get_or}
use Rattle.std.proofs.Math.Path.{refl}
use Rattle.std.proofs.Common.{sym, ap, ◌∙◌, inl, inr, le_of_suc-le-suc, not-suc-le-zero, arith, ext_get_or, eqb-true}
use mathlib.Core.List.{List, [], ◌∷◌}
use Prim.Native.Nat.{ℕ, zero, suc, ◌≤◌, ◌<◌}
use Rattle.std.proofs.Math.ListN.{length}
use Rattle.std.proofs.lemmas.Bool.{eqb-false}
use Rattle.basics.specs.Tests.{ask, ask_less}
use Rattle.basics.specs.Promises.{Determines}
use Rattle.room.specs.declared.Room.{Room}
use Rattle.room.specs.Room.{Within, volume}
use Rattle.room.specs.RoomLaws.{cell_in}
use Rattle.job_sheet.specs.declared.Block.{Block}
use Rattle.job_sheet.specs.declared.Part.{Part}
use Rattle.job_sheet.specs.Accepted.{BlockList}
use Rattle.job_sheet.specs.Places.{no_block, blocks_in}
use Rattle.job_sheet.specs.RecordLaws.{blocks-long}
use Rattle.blocks.specs.Blocks.{Placement}
use Rattle.blocks.specs.Blocks.{RepeatAt}
use Rattle.blocks.specs.Blocks.{block_cell, of_block, tabulated, record_cell, record_node, Repeat, NotAfter, Placing, each-its-own, one-repeated, BlocksLaid}

-- ---- a table has one entry for each number

pub tabulated-long : (n : ℕ) (f : ℕ → ℕ) → length (tabulated n f) ≡ n
unfolding tabulated
tabulated-long zero f = refl
tabulated-long (suc n) f = ap suc (tabulated-long n (λ v. f (suc v)))

pub tabulated-at : (n : ℕ) (f : ℕ → ℕ) (v : ℕ) → v < n → get_or (tabulated n f) v 0 ≡ f v
unfolding tabulated
tabulated-at zero f v h = absurd (not-suc-le-zero h)
tabulated-at (suc n) f zero h = refl
tabulated-at (suc n) f (suc v) h = tabulated-at n (λ v. f (suc v)) v (le_of_suc-le-suc h)

-- a list of these entries is no other
pub tabulated-is : (n : ℕ) (f : ℕ → ℕ) (l : List ℕ) → length l ≡ n → ((v : ℕ) → v < n → get_or l v 0 ≡ f v) → l ≡ tabulated n f
tabulated-is n f l e same =
    ext_get_or 0 l (tabulated n f) (e ∙ sym (tabulated-long n f)) (λ v h. let k : v < n = rw e at h in same v k ∙ sym (tabulated-at n f v k))

-- ---- what stands in a cell

-- what f says of the block in a cell is what it says of a record of that cell, or there is no such record
pub data OfCell {X : Type 0} (f : Block → X) (none : X) (R : Room) (bs : List Block) (v : ℕ) (x : X) : Type 0 where
  of_record : (i : ℕ) → i < length bs → record_cell R bs i ≡ v → x ≡ f (get_or bs i no_block) → OfCell f none R bs v x
  of_none : ((i : ℕ) → i < length bs → record_cell R bs i ≡ v → ⊥) → x ≡ none → OfCell f none R bs v x

module _ {X : Type 0} (f : Block → X) (none : X) (R : Room) where
  pub of-cell : (bs : List Block) (v : ℕ) → OfCell f none R bs v (of_block f none R bs v)
  unfolding of_block
  of-cell [] v = of_none (λ i h e. absurd (not-suc-le-zero h)) refl
  of-cell (b ∷ bs) v =
      ask (eqb (block_cell R b) v)
      (λ t. of_record 0 (omega arith) (eqb-true (block_cell R b) v t) (rw t))
      (λ t. later (eqb-false (block_cell R b) v t) (rw t refl) (of-cell bs v))
    where
      later : (block_cell R b ≡ v → ⊥) → of_block f none R (b ∷ bs) v ≡ of_block f none R bs v → OfCell f none R bs v (of_block f none R bs v)
          → OfCell f none R (b ∷ bs) v (of_block f none R (b ∷ bs) v)
      later other e (of_record i h c x) = of_record (suc i) (omega arith) c (e ∙ x)
      later other e (of_none n x) = of_none nowhere (e ∙ x)
        where
          nowhere : (i : ℕ) → i < length (b ∷ bs) → record_cell R (b ∷ bs) i ≡ v → ⊥
          nowhere zero h c = other c
          nowhere (suc i) h c = n i (le_of_suc-le-suc h) c

-- ---- where nothing repeats

-- a number that is not more than another is less, or it is the same and what decides between equals is told
pub less_or_same : {X : Type 0} {a b : ℕ} → a ≤ b → X → (a < b) ⊎ ((a ≡ b) × X)
less_or_same {a = a} {b = b} h x = ask_less a b inl (λ k. inr (omega arith, x))

-- of two records of one cell one is a repeat
module _ (R : Room) (bs : List Block) (n : ℕ) where
  earlier_repeats : (i j : ℕ) → i < j → j < n → record_cell R bs i ≡ record_cell R bs j → ((k : ℕ) → Repeat R bs n k → ⊥) → ⊥
  earlier_repeats i j h k c free =
      ask_less (record_node bs j) (record_node bs i)
      (λ l. free i record { repeat_in = omega arith; holder = j; holder_in = k; same-cell = sym c; held = inl l })
      (λ l. free j record { repeat_in = k; holder = i; holder_in = omega arith; same-cell = c; held = less_or_same l h })

  module _ (free : (k : ℕ) → Repeat R bs n k → ⊥) where
    cell_once : (i j : ℕ) → i < n → j < n → record_cell R bs i ≡ record_cell R bs j → i ≡ j
    cell_once i j h k c =
        ask_less i j
        (λ l. absurd (earlier_repeats i j l k c free))
        (λ l. ask_less j i (λ m. absurd (earlier_repeats j i m h (sym c) free)) (λ m. omega (arith, l, m)))

module _ {X : Type 0} (f : Block → X) (none : X) (R : Room) (bs : List Block) (free : (k : ℕ) → Repeat R bs (length bs) k → ⊥) where
  pub of-its-cell : (i : ℕ) → i < length bs → of_block f none R bs (record_cell R bs i) ≡ f (get_or bs i no_block)
  of-its-cell i h = go (of-cell f none R bs (record_cell R bs i))
    where
      go : OfCell f none R bs (record_cell R bs i) (of_block f none R bs (record_cell R bs i)) → of_block f none R bs (record_cell R bs i) ≡ f (get_or bs i no_block)
      go (of_record j k c x) = x ∙ ap (λ n. f (get_or bs n no_block)) (cell_once R bs (length bs) free j i k h c)
      go (of_none n x) = absurd (n i h refl)

-- ---- blocks whose positions are in the room

module _ (R : Room) (bs : List Block) (within : (i : ℕ) → i < length bs → Within R (get_or bs i no_block).at) where
  pub record_cells_in : (i : ℕ) → i < length bs → record_cell R bs i < volume R
  record_cells_in i h = cell_in R (get_or bs i no_block).at (within i h)

module _ {sheet : List ℕ} {R : Room} {p : Part} {bs : List Block} (L : BlockList sheet R p bs) where
  -- the list as the contract of `place_blocks` asks for it, and what that contract says of the list
  pub own-list : BlockList sheet R p (blocks_in sheet p)
  own-list = record { inside = L.inside; are = refl; within = L.within }

  pub blocks_laid_for : {kinds nodes : List ℕ} {r : Placement} → BlocksLaid R (blocks_in sheet p) kinds nodes r → BlocksLaid R bs kinds nodes r
  blocks_laid_for O = rw L.are at O

  pub list-within : (i : ℕ) → i < length bs → Within R (get_or bs i no_block).at
  list-within i h = rw L.are at (L.within i (rw (← blocks-long sheet p, L.are) h))

-- ---- what laying out comes to is determined

same_place_lem : (R : Room) (bs : List Block) (i j : ℕ) → NotAfter R bs i j → NotAfter R bs j i → record_cell R bs i ≡ record_cell R bs j
same_place_lem R bs i j (inl h) (inl k) = absurd (omega arith)
same_place_lem R bs i j (inl h) (inr k) = absurd (omega (arith, k.0))
same_place_lem R bs i j (inr h) (inl k) = absurd (omega (arith, h.0))
same_place_lem R bs i j (inr h) (inr k) = omega (arith, h.1, k.1)

module _ {R : Room} {bs : List Block} where
  placing-one : {n : ℕ} {r s : Placement} → Placing R bs n r → Placing R bs n s → r ≡ s
  placing-one (each-its-own free e) (each-its-own free' e') = cc
  placing-one (each-its-own free e) (one-repeated i at least e') = absurd (free i at)
  placing-one (one-repeated i at least e) (each-its-own free e') = absurd (free i at)
  placing-one (one-repeated i at least e) (one-repeated j at' least' e') = e ∙ ap RepeatAt (same_place_lem R bs i j (least j at') (least' i at)) ∙ sym e'

-- two results of `place_blocks` coincide: the answer, and the final bytes of both buffers
pub record Result : Type 0 where
  pub kinds : List ℕ
  pub nodes : List ℕ
  pub placement : Placement

module _ (R : Room) (bs : List Block) where
  abbrev pub Keeps : Result → Type 0
  Keeps L = BlocksLaid R bs L.kinds L.nodes L.placement

  pub coincide : Determines Keeps
  coincide x y L M =
      let e = placing-one L.placing M.placing in
      let k : x.kinds ≡ y.kinds = L.kinds-are ∙ rw e (sym M.kinds-are) in
      let n : x.nodes ≡ y.nodes = L.nodes-are ∙ rw e (sym M.nodes-are) in
      λ i. record { kinds = k i; nodes = n i; placement = e i }
