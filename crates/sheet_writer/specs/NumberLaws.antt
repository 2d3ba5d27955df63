-- Records as numbers: a list of them is read back as it was, and written as it was read.
use Rattle.std.specs.Prelude.{◌≡◌, refl, true, List, [], ◌++◌, map, ℕ, suc, zero, ◌+◌, ◌*◌, ◌/◌, ◌%◌, ◌≤◌, ◌<◌, length, drop, take}
use Rattle.std.proofs.Common.{sym, ap, ◌∙◌, append_assoc, append-nil, mul-zero, mul_comm, div-add-mod', arith, length-drop, take_at, eq-eqb, eqb-true}
use Rattle.std.proofs.Math.Nat.{mul-div_right, mul-mod_right}
use Rattle.std.proofs.Math.Seq.{drop-length}
use Rattle.basics.specs.Lists.{every-all, joined}
use Rattle.room.specs.declared.Pos.{Pos}
use Rattle.job_sheet.specs.declared.Block.{Block}
use Rattle.job_sheet.specs.Sheet.{Contents, sinks_of}
use Rattle.job_sheet.specs.Places.{many}
use Rattle.job_sheet.specs.RecordLaws.{Coding, span_drop, joined-long, many-back, next-size, next_drop}
use Rattle.sheet_writer.specs.Writer.{block_numbers, position_numbers, block_from, position_from, blocks_of, positions_of, contents_of, whole, wholes, lengths_in, numbers_of_block, numbers_of_position, block_list, position_list, parts_of}

block_numbers_lem : Coding numbers_of_block block_from block_numbers
block_numbers_lem = record { sized = λ x. refl; back = λ x t l. refl; forth = λ l b h. span_drop 6 0 l h }

position_numbers_lem : Coding numbers_of_position (λ l. position_from l 0) position_numbers
position_numbers_lem = record { sized = λ x. refl; back = λ x t l. refl; forth = λ l b h. span_drop 3 0 l h }

-- ---- records, their numbers, and the records again

module _ {X : Type 0} {numbers : X → List ℕ} {value : List ℕ → X} {size : ℕ} (K : Coding numbers value size) (some : 0 < size) (xs : List X) where
  list-long : length (joined (map numbers xs)) / size ≡ length xs
  list-long = ap (λ n. n / size) (joined-long K xs) ∙ mul-div_right (length xs) some

  list-whole : whole size (length (joined (map numbers xs))) ≡ true
  list-whole = eq-eqb (length (joined (map numbers xs)) % size) 0 (ap (λ n. n % size) (joined-long K xs) ∙ mul-mod_right size (length xs))

  list_back : many value size (length (joined (map numbers xs)) / size) (joined (map numbers xs)) ≡ xs
  list_back = rw list-long (ap (λ l. many value size (length xs) l) (sym (append-nil (joined (map numbers xs)))) ∙ many-back K xs (every-all (λ _. true) (λ _. refl) xs) [])

pub blocks-back : (bs : List Block) → blocks_of (block_list bs) ≡ bs
unfolding blocks_of block_list
blocks-back bs = list_back block_numbers_lem (omega arith) bs

pub positions-back : (ps : List Pos) → positions_of (position_list ps) ≡ ps
unfolding positions_of position_list
positions-back ps = list_back position_numbers_lem (omega arith) ps

sinks-back : (J : Contents) → take (length J.sinks) (sinks_of J.sinks).ends ≡ J.sinks
sinks-back J = take_at J.sinks _ (length J.sinks) refl

-- the parts of a sheet's contents say these contents
pub contents-again : (J : Contents) → contents_of (parts_of J) ≡ J
unfolding contents_of parts_of
contents-again J i = record {
  room = J.room;
  config = J.config;
  run = J.run;
  blocks = blocks-back J.blocks i;
  conductors = positions-back J.conductors i;
  clearances = positions-back J.clearances i;
  terminals = positions-back J.terminals i;
  reserved = positions-back J.reserved i;
  source = J.source;
  sinks = sinks-back J i;
}

pub parts_whole : (J : Contents) → wholes (lengths_in (parts_of J)) ≡ true
unfolding parts_of block_list position_list
parts_whole J =
    rw (
      list-whole block_numbers_lem (omega arith) J.blocks,
      list-whole position_numbers_lem (omega arith) J.conductors,
      list-whole position_numbers_lem (omega arith) J.clearances,
      list-whole position_numbers_lem (omega arith) J.terminals,
      list-whole position_numbers_lem (omega arith) J.reserved,
    )

pub parts-sinks : (J : Contents) → (parts_of J).sinks.count ≡ length J.sinks
unfolding parts_of
parts-sinks J = refl

-- ---- numbers, their records, and the numbers again

module _ {X : Type 0} (numbers : X → List ℕ) (value : List ℕ → X) (size : ℕ) (forth : (l : List ℕ) → size ≤ length l → numbers (value l) ++ drop size l ≡ l) where
  numbers_forth : (n : ℕ) (l : List ℕ) → size * n ≤ length l → joined (map numbers (many value size n l)) ++ drop (size * n) l ≡ l
  numbers_forth zero l h = rw mul-zero
  numbers_forth (suc n) l h =
      let e : size * suc n ≡ size + size * n = next-size size n in
      let ih = numbers_forth n (drop size l) (simp length-drop (omega (arith, e))) in
      rw (append_assoc, next_drop size n l, ih) (forth l (omega (arith, e)))

  list-again : (l : List ℕ) → whole size (length l) ≡ true → joined (map numbers (many value size (length l / size) l)) ≡ l
  list-again l w =
      let n : ℕ = length l / size in
      let z : length l % size ≡ 0 = eqb-true (length l % size) 0 w in
      let long : size * n ≡ length l = omega (arith, div-add-mod' (length l) size, mul_comm size n) in
      let none : drop (size * n) l ≡ [] = ap (λ k. drop k l) long ∙ drop-length l in
      sym (append-nil (joined (map numbers (many value size n l)))) ∙ ap (λ r. joined (map numbers (many value size n l)) ++ r) (sym none) ∙ numbers_forth n l (omega (arith, long))

pub blocks-again : (l : List ℕ) → whole block_numbers (length l) ≡ true → block_list (blocks_of l) ≡ l
unfolding blocks_of block_list
blocks-again l w = list-again numbers_of_block block_from block_numbers (λ m h. span_drop 6 0 m h) l w

pub positions-again : (l : List ℕ) → whole position_numbers (length l) ≡ true → position_list (positions_of l) ≡ l
unfolding positions_of position_list
positions-again l w = list-again numbers_of_position (λ m. position_from m 0) position_numbers (λ m h. span_drop 3 0 m h) l w
