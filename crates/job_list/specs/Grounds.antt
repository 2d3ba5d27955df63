-- Rooms and blocks compared by value, and blocks that take one cell: how the loops go, and what the comparisons come to.
use Rattle.std.specs.Prelude.{◌≡◌, refl, Bool, true, false, not, ◌&&◌, ◌||◌, List, [], ◌∷◌, ℕ, suc, ◌+◌, ◌*◌, ◌^◌, ◌≤◌, ◌<◌, eqb, get_or, drop, set, replicate}
use Rattle.std.proofs.Math.Path.{sym, ap}
use Rattle.std.proofs.Common.{◌∙◌, mul-le-mul_left, mul-le-mul_right, arith, get_or-set_same, get_or-set_other, eqb-true, eq-eqb, ne_eqb}
use Rattle.std.proofs.Math.Bool.{or_assoc}
use Rattle.std.proofs.Math.ListN.{length, drop_of_length-le, get_or-eq_default}
use Rattle.std.proofs.lemmas.List.{length-replicate, get_or-replicate}
use Rattle.basics.specs.Tests.{ask, ask_same, ask_less, and_left, and_right, never}
use Rattle.basics.specs.Lists.{any, drop_next}
use Rattle.room.specs.declared.Room.{Room}
use Rattle.room.specs.declared.Pos.{Pos}
use Rattle.room.specs.Room.{Within, volume, cell_of}
use Rattle.room.specs.RoomLaws.{cell_in}
use Rattle.job_sheet.specs.declared.Block.{Block}
use Rattle.job_sheet.specs.declared.Part.{Part}
use Rattle.job_sheet.specs.declared.Version.{Version}
use Rattle.job_sheet.specs.Version.{version_in, most_size, block_size, lists_place}
use Rattle.job_sheet.specs.Accepted.{BlockList}
use Rattle.job_sheet.specs.Places.{no_block, blocks_in, contents_in, layout_in, list_at, Listed}
use Rattle.job_sheet.specs.RecordLaws.{blocks-long}
use Rattle.blocks.specs.Blocks.{block_cell}
use Rattle.job_list.specs.Judged.{same_sides, same_place, same_block, same_blocks, contents_at, repeats_in}

-- the blocks of a sheet, where its other parts stand and whatever they are; they are near enough for the sums that read them
pub record BlocksListed (sheet : List ℕ) (p : Part) : Type 0 where
  pub is : p ≡ (layout_in (version_in sheet) sheet).blocks
  pub near : p.from < 2 ^ 16
  pub few : p.count < 2 ^ 16
  pub small : p.size ≤ most_size

pub listed-blocks : {sheet : List ℕ} {p : Part} → BlocksListed sheet p → blocks_in sheet p ≡ (contents_at sheet).blocks
unfolding contents_in
listed-blocks {sheet} L = ap (blocks_in sheet) L.is

pub blocks-listed : {sheet : List ℕ} {v : Version} {size place : ℕ} {p : Part} → v ≡ version_in sheet → (size ≡ block_size v.long) × (size ≤ 10) → (place ≡ lists_place v) × (place ≤ 28)
    → Listed sheet v.long size place p → BlocksListed sheet p
unfolding layout_in
blocks-listed {sheet} {v} e s l L = record {
  is = L.is ∙ (λ i. list_at sheet v.long (s.0 i) (l.0 i)) ∙ ap (λ w. list_at sheet w.long (block_size w.long) (lists_place w)) e;
  near = omega (arith, L.from_is, l.1);
  few = L.count_most;
  small = omega (arith, L.size_is, s.1);
}

-- where record i stands is near enough
pub block-place : {sheet : List ℕ} {p : Part} → BlocksListed sheet p → (i : ℕ) → i < p.count → p.size * i ≤ most_size * 65536
block-place {p = p} L i h =
    let a : p.size * i ≤ p.size * 65536 = mul-le-mul_left p.size (omega (arith, L.few)) in
    let b : p.size * 65536 ≤ most_size * 65536 = mul-le-mul_right 65536 L.small in
    omega arith

-- ---- two lists of blocks compared from their fronts

-- the first i are the same
pub record SameSoFar (xs bs : List Block) (i : ℕ) : Type 0 where
  pub left : same_blocks (drop i xs) (drop i bs) ≡ same_blocks xs bs

pub same_none : (xs bs : List Block) → SameSoFar xs bs 0
same_none xs bs = record { left = refl }

-- lists of different lengths differ
counts-differ : (xs bs : List Block) → (length xs ≡ length bs → ⊥) → false ≡ same_blocks xs bs
unfolding same_blocks
counts-differ [] [] d = absurd (d refl)
counts-differ [] (b ∷ bs) d = refl
counts-differ (a ∷ xs) [] d = refl
counts-differ (a ∷ xs) (b ∷ bs) d =
    ask (same_block a b) (λ t. rw t (counts-differ xs bs (λ e. d (ap suc e)))) (λ f. rw f)

module _ {first sheet : List ℕ} {a b : Part} (A : BlocksListed first a) (B : BlocksListed sheet b) where
  abbrev xs : List Block
  xs = blocks_in first a

  abbrev ys : List Block
  ys = blocks_in sheet b

  all_same : same_blocks xs ys ≡ same_blocks (contents_at first).blocks (contents_at sheet).blocks
  all_same = λ i. same_blocks (listed-blocks A i) (listed-blocks B i)

  pub differ-by-count : (a.count ≡ b.count → ⊥) → false ≡ same_blocks (contents_at first).blocks (contents_at sheet).blocks
  differ-by-count d = counts-differ xs ys (λ e. d (sym (blocks-long first a) ∙ e ∙ blocks-long sheet b)) ∙ all_same

  module _ (same_count : a.count ≡ b.count) {i : ℕ} (S : SameSoFar xs ys i) where
    module _ (h : i < a.count) {x y : Block} (p : x ≡ get_or xs i no_block) (q : y ≡ get_or ys i no_block) where
      next : same_blocks xs ys ≡ same_block x y && same_blocks (drop (i + 1) xs) (drop (i + 1) ys)
      unfolding same_blocks
      next =
          let k : i < length xs = omega (arith, blocks-long first a) in
          let l : i < length ys = omega (arith, blocks-long sheet b) in
          sym S.left ∙ rw (drop_next xs i no_block k, drop_next ys i no_block l, p, q)

      pub same_next : same_block x y ≡ true → SameSoFar xs ys (i + 1)
      same_next e = record { left = sym (next ∙ rw e) }

      pub same_not : same_block x y ≡ false → false ≡ same_blocks (contents_at first).blocks (contents_at sheet).blocks
      same_not e = sym (next ∙ rw e) ∙ all_same

    pub same_end : a.count ≤ i → true ≡ same_blocks (contents_at first).blocks (contents_at sheet).blocks
    unfolding same_blocks
    same_end h =
        let k : length xs ≤ i = omega (arith, blocks-long first a) in
        let l : length ys ≤ i = omega (arith, blocks-long sheet b) in
        rw (drop_of_length-le xs k, drop_of_length-le ys l) at S.left ∙ all_same

-- what is compared as the same is the same
pub sides-same : (R Q : Room) → same_sides R Q ≡ true → R ≡ Q
unfolding same_sides
sides-same R Q e =
    let a = eqb-true R.wide Q.wide (and_left _ _ e) in
    let r = and_right (eqb R.wide Q.wide) _ e in
    let b = eqb-true R.high Q.high (and_left _ _ r) in
    let c = eqb-true R.deep Q.deep (and_right (eqb R.high Q.high) _ r) in
    λ i. record { wide = a i; high = b i; deep = c i }

places_same : (p q : Pos) → same_place p q ≡ true → p ≡ q
unfolding same_place
places_same p q e =
    let a = eqb-true p.x q.x (and_left _ _ e) in
    let r = and_right (eqb p.x q.x) _ e in
    let b = eqb-true p.y q.y (and_left _ _ r) in
    let c = eqb-true p.z q.z (and_right (eqb p.y q.y) _ r) in
    λ i. record { x = a i; y = b i; z = c i }

block_same : (a b : Block) → same_block a b ≡ true → a ≡ b
unfolding same_block
block_same a b e =
    let n = eqb-true a.node b.node (and_left _ _ e) in
    let r = and_right (eqb a.node b.node) _ e in
    let p = places_same a.at b.at (and_left _ _ r) in
    let s = and_right (same_place a.at b.at) _ r in
    let k = eqb-true a.kind b.kind (and_left _ _ s) in
    let f = eqb-true a.facing b.facing (and_right (eqb a.kind b.kind) _ s) in
    λ i. record { node = n i; at = p i; kind = k i; facing = f i }

pub blocks-same : (xs bs : List Block) → same_blocks xs bs ≡ true → xs ≡ bs
unfolding same_blocks
blocks-same [] [] e = refl
blocks-same [] (b ∷ bs) e = never (cc)
blocks-same (a ∷ xs) [] e = never (cc)
blocks-same (a ∷ xs) (b ∷ bs) e =
    let h = block_same a b (and_left _ _ e) in
    let t = blocks-same xs bs (and_right (same_block a b) _ e) in
    λ i. h i ∷ t i

-- ---- cells marked one after another

-- a byte that is not 0 is a mark
abbrev pub marked : List ℕ → ℕ → Bool
marked seen v = not (eqb (get_or seen v 0) 0)

-- one of these blocks takes a cell that is marked
abbrev pub takes_marked : Room → List ℕ → List Block → Bool
takes_marked R seen bs = any (λ b. marked seen (block_cell R b)) bs

any-either : {X : Type 0} (p q : X → Bool) (xs : List X) → any (λ x. p x || q x) xs ≡ any p xs || any q xs
any-either p q [] = refl
any-either p q (x ∷ xs) = rw (any-either p q xs) (four (p x) (q x) (any p xs) (any q xs))
  where
    four : (a b c d : Bool) → ((a || b) || (c || d)) ≡ ((a || c) || (b || d))
    four true b c d = refl
    four false true true d = refl
    four false true false d = refl
    four false false c d = refl

any_same : {X : Type 0} (p q : X → Bool) (xs : List X) → ((x : X) → p x ≡ q x) → any p xs ≡ any q xs
any_same p q [] s = refl
any_same p q (x ∷ xs) s = rw (s x, any_same p q xs s)

any_none : {X : Type 0} (p : X → Bool) (xs : List X) → ((x : X) → p x ≡ false) → any p xs ≡ false
any_none p [] n = refl
any_none p (x ∷ xs) n = rw (n x) (any_none p xs n)

marked-one-more : (seen : List ℕ) (cell : ℕ) → cell < length seen → (v : ℕ) → marked (set seen cell 1) v ≡ marked seen v || eqb v cell
marked-one-more seen cell h v =
    ask_same v cell
    (λ e. rw (e, get_or-set_same seen cell 1 0 h, eq-eqb cell cell refl) (sym (or_true (marked seen cell))))
    (λ d. rw (get_or-set_other seen cell v 1 0 d, ne_eqb v cell d) (sym (or_false (marked seen v))))
  where
    or_true : (b : Bool) → b || true ≡ true
    or_true true = refl
    or_true false = refl

    or_false : (b : Bool) → b || false ≡ b
    or_false true = refl
    or_false false = refl

-- the cells of the first i blocks are marked, no cell twice: what is left decides
pub record MarkedApart (R : Room) (bs : List Block) (seen : List ℕ) (i : ℕ) : Type 0 where
  pub left : takes_marked R seen (drop i bs) || repeats_in R (drop i bs) ≡ repeats_in R bs

pub apart-start : (R : Room) (bs : List Block) {seen : List ℕ} (n : ℕ) → seen ≡ replicate n 0 → MarkedApart R bs seen 0
apart-start R bs {seen} n e = record { left = rw (any_none (λ b. marked seen (block_cell R b)) bs (λ b. none (block_cell R b))) }
  where
    none : (v : ℕ) → marked seen v ≡ false
    none v = rw e (ask_less v n (λ h. rw (get_or-replicate {A = ℕ} n v 0 0 h)) (λ h. rw (get_or-eq_default {A = ℕ} (replicate n 0) 0 {n = v} (rw (length-replicate {A = ℕ} n 0) h))))

-- the next block's cell
module _ {sheet : List ℕ} {R : Room} {p : Part} (B : BlockList sheet R p (blocks_in sheet p)) {i : ℕ} (h : i < p.count) {b : Block} (e : b ≡ get_or (blocks_in sheet p) i no_block) where
  pub block_within : Within R b.at
  block_within = rw e (B.within i h)

  pub block_cell_in : {cell : ℕ} → cell ≡ cell_of R b.at → cell < volume R
  block_cell_in f = rw f (cell_in R b.at block_within)

module _ (sheet : List ℕ) (p : Part) {R : Room} {seen : List ℕ} {i : ℕ} (M : MarkedApart R (blocks_in sheet p) seen i) where
  abbrev bs : List Block
  bs = blocks_in sheet p

  module _ (h : i < p.count) {b : Block} (e : b ≡ get_or bs i no_block) {here : ℕ} (f : here ≡ cell_of R b.at) where
    abbrev rest : List Block
    rest = drop (i + 1) bs

    now-is : (marked seen here || takes_marked R seen rest) || (any (λ c. eqb (block_cell R c) here) rest || repeats_in R rest) ≡ repeats_in R bs
    unfolding repeats_in
    now-is =
        let k : i < length bs = omega (arith, blocks-long sheet p) in
        let g : here ≡ block_cell R (get_or bs i no_block) = f ∙ ap (block_cell R) e in
        rw g (rw (drop_next bs i no_block k) at M.left)

    pub apart-twice : (get_or seen here 0 ≡ 0 → ⊥) → true ≡ repeats_in R bs
    apart-twice d = rw (ne_eqb _ _ d) at now-is

    pub apart_next : here < length seen → get_or seen here 0 ≡ 0 → MarkedApart R bs (set seen here 1) (i + 1)
    apart_next k z = record {
      left =
          ap (λ x. x || repeats_in R rest) (any_same _ _ rest (λ c. marked-one-more seen here k (block_cell R c)) ∙ any-either (λ c. marked seen (block_cell R c)) (λ c. eqb (block_cell R c) here) rest)
          ∙ or_assoc (takes_marked R seen rest) (any (λ c. eqb (block_cell R c) here) rest) (repeats_in R rest)
          ∙ rw (eq-eqb _ _ z) at now-is;
    }

  pub apart-end : p.count ≤ i → false ≡ repeats_in R bs
  unfolding repeats_in
  apart-end h = let k : length bs ≤ i = omega (arith, blocks-long sheet p) in rw (drop_of_length-le bs k) at M.left
