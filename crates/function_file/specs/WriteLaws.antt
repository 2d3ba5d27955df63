-- Laws of writing: the loop over the cells, each answer, and that the promise determines all of it.
use Rattle.std.specs.Prelude.{◌≡◌, Result, Ok, Err, refl, Bool, true, false, ◌&&◌, List, [], ◌++◌, ℕ, ◌+◌, ◌*◌, ◌≤◌, ◌<◌, eqb, length, get_or, drop, replicate}
use Rattle.std.proofs.Common.{sym, ◌∙◌, arith, zero-add, length-append, drop_of_length-le}
use Rattle.std.proofs.Math.Path.{ap}
use Rattle.std.proofs.Math.Nat.{sub-zero}
use Rattle.std.proofs.Math.Dec.{leb}
use Rattle.std.proofs.lemmas.List.{length-replicate}
use Rattle.std.proofs.lemmas.List.Edits.{sets, sets-eq}
use Rattle.std.proofs.Math.Seq.{length-sets}
use borrow.Author.Tests.{eq-eqb, ne_eqb, eqb-true, le-leb, lt-leb, leb-true}
use Rattle.basics.specs.Tests.{either, and_left, and_right}
use Rattle.basics.specs.Promises.{Determines}
use Rattle.basics.specs.Lists.{drop_next}
use Rattle.basics.specs.Zeros.{drop_zeros}
use Rattle.lent.specs.Lent.{filled}
use Rattle.room.specs.declared.Room.{Room}
use Rattle.room.specs.Room.{Good, volume, pos_of, sides_good}
use Rattle.room.specs.RoomLaws.{pos_in}
use Rattle.function_file.specs.declared.WriteFault.{WriteFault}
use Rattle.function_file.specs.declared.WriteFault.TheVariants.{Sides, Buffer, Code, Short}
use Rattle.function_file.specs.Words.{block_known, least_facing, most_facing}
use Rattle.function_file.specs.Text.{line_of, block_text, text_from, text_of}
use Rattle.function_file.specs.Putting.{Put, sets_append}
use Rattle.function_file.specs.Written.{exactly, known_from, written, Writes}

-- ---- a block that is known

most-at-most : (kind : ℕ) → most_facing kind ≤ 6
unfolding most_facing
most-at-most kind = by_tests (eqb kind 12) (leb kind 3) (leb kind 8)
  where
    by_tests : (a b d : Bool) → either {X = ℕ} a 6 (either b 0 (either d 4 0)) ≤ 6
    by_tests true b d = omega arith
    by_tests false true d = omega arith
    by_tests false false true = omega arith
    by_tests false false false = omega arith

module _ (kind facing : ℕ) (k : block_known kind facing ≡ true) where
  pub kind-low : kind ≤ 12
  unfolding block_known
  kind-low = leb-true kind 12 (and_left (leb kind 12) (leb (least_facing kind) facing && leb facing (most_facing kind)) k)

  pub facing-low : facing ≤ 6
  unfolding block_known
  facing-low =
      let m : facing ≤ most_facing kind = leb-true facing (most_facing kind) (and_right (leb (least_facing kind) facing) (leb facing (most_facing kind)) (and_right (leb kind 12) (leb (least_facing kind) facing && leb facing (most_facing kind)) k)) in
      omega (arith, m, most-at-most kind)

-- ---- the cells one by one

module _ (kinds facings : List ℕ) (cell : ℕ) (h : cell < length kinds) where
  known_next : known_from cell (drop cell kinds) facings ≡ (block_known (get_or kinds cell 0) (get_or facings cell 0) && known_from (cell + 1) (drop (cell + 1) kinds) facings)
  unfolding known_from
  known_next = ap (λ l. known_from cell l facings) (drop_next kinds cell 0 h)

  pub known-here : known_from cell (drop cell kinds) facings ≡ true → block_known (get_or kinds cell 0) (get_or facings cell 0) ≡ true
  known-here e = and_left (block_known (get_or kinds cell 0) (get_or facings cell 0)) (known_from (cell + 1) (drop (cell + 1) kinds) facings) (sym known_next ∙ e)

  pub known_on : known_from cell (drop cell kinds) facings ≡ true → known_from (cell + 1) (drop (cell + 1) kinds) facings ≡ true
  known_on e = and_right (block_known (get_or kinds cell 0) (get_or facings cell 0)) (known_from (cell + 1) (drop (cell + 1) kinds) facings) (sym known_next ∙ e)

  pub known-passed : block_known (get_or kinds cell 0) (get_or facings cell 0) ≡ true → known_from (cell + 1) (drop (cell + 1) kinds) facings ≡ known_from cell (drop cell kinds) facings
  known-passed e = rw (known_next, e)

  pub known-failed : block_known (get_or kinds cell 0) (get_or facings cell 0) ≡ false → false ≡ known_from cell (drop cell kinds) facings
  known-failed e = rw (known_next, e)

  pub text-next : (R : Room) → text_from R cell (drop cell kinds) facings ≡ block_text R cell (get_or kinds cell 0) (get_or facings cell 0) ++ text_from R (cell + 1) (drop (cell + 1) kinds) facings
  unfolding text_from
  text-next R = ap (λ l. text_from R cell l facings) (drop_next kinds cell 0 h)

pub known-end : (kinds facings : List ℕ) (cell : ℕ) → length kinds ≤ cell → true ≡ known_from cell (drop cell kinds) facings
unfolding known_from
known-end kinds facings cell h = rw (drop_of_length-le kinds h)

text-end : (R : Room) (kinds facings : List ℕ) (cell : ℕ) → length kinds ≤ cell → text_from R cell (drop cell kinds) facings ≡ []
unfolding text_from
text-end R kinds facings cell h = rw (drop_of_length-le kinds h)

-- ---- the loop: what is written, and what is left to write, are the whole

pub record PutCells (R : Room) (kinds facings zeros : List ℕ) (out : List ℕ) (end cell : ℕ) : Type 0 where
  pub is : sets out end (text_from R cell (drop cell kinds) facings) ≡ sets zeros 0 (text_of R kinds facings)
  pub ends : end + length (text_from R cell (drop cell kinds) facings) ≡ length (text_of R kinds facings)
  pub near : end ≤ 380 * cell
  pub known : known_from cell (drop cell kinds) facings ≡ true
  pub within : cell ≤ length kinds
  pub kept : length out ≡ length zeros

module _ {R : Room} {kinds facings zeros : List ℕ} where
  pub cells_begun : known_from 0 kinds facings ≡ true → PutCells R kinds facings zeros zeros 0 0
  cells_begun k = record { is = refl; ends = zero-add (length (text_of R kinds facings)); near = omega arith; known = k; within = omega arith; kept = refl }

  module _ {out : List ℕ} {end cell : ℕ} (P : PutCells R kinds facings zeros out end cell) where
    pub cells-on : cell < length kinds → {out' : List ℕ} {end' : ℕ} → Put 380 out end (block_text R cell (get_or kinds cell 0) (get_or facings cell 0)) out' end' → PutCells R kinds facings zeros out' end' (cell + 1)
    cells-on h {out'} {end'} q =
        let here = block_text R cell (get_or kinds cell 0) (get_or facings cell 0) in
        let rest = text_from R (cell + 1) (drop (cell + 1) kinds) facings in
        let next : text_from R cell (drop cell kinds) facings ≡ here ++ rest = text-next kinds facings cell h R in
        let long : length (text_from R cell (drop cell kinds) facings) ≡ length here + length rest = ap length next ∙ length-append here rest in
        record {
          is = ap (λ l. sets l end' rest) q.is ∙ ap (λ k. sets (sets out end here) k rest) q.ends ∙ sets_append here rest out end ∙ ap (sets out end) (sym next) ∙ P.is;
          ends = omega (arith, q.ends, P.ends, long);
          near = omega (arith, q.near, P.near);
          known = known_on kinds facings cell h P.known;
          within = omega arith;
          kept = ap length q.is ∙ length-sets out end here ∙ P.kept;
        }

    pub cells-done : length kinds ≤ cell → Put (380 * length kinds) zeros 0 (text_of R kinds facings) out end
    cells-done h =
        let e : text_from R cell (drop cell kinds) facings ≡ [] = text-end R kinds facings cell h in
        let n : length (text_from R cell (drop cell kinds) facings) ≡ 0 = ap length e in
        let c : cell ≡ length kinds = omega (arith, P.within) in
        record {
          ends = omega (arith, P.ends, n);
          is = ap (sets out end) (sym e) ∙ P.is;
          near = omega (arith, rw c at P.near);
        }

-- ---- the whole text, where it fits

pub text-filled : (text buffer : List ℕ) → length text ≤ length buffer → sets (replicate (length buffer) 0) 0 text ≡ filled text buffer
text-filled text buffer h =
    sets-eq text (replicate (length buffer) 0) 0 (omega (arith, length-replicate {A = ℕ} (length buffer) 0)) ∙ ap (λ l. text ++ l) (rw (zero-add (length text)) (drop_zeros (length text) (length buffer)))

-- ---- a block's line, and the cell's numbers

pub air-none : (R : Room) (cell kind facing : ℕ) {out : List ℕ} {at : ℕ} → kind ≡ 0 → Put 380 out at (block_text R cell kind facing) out at
unfolding block_text
air-none R cell kind facing e = rw (eq-eqb kind 0 e) (record { ends = omega arith; is = refl; near = omega arith })

pub some-line : (R : Room) (cell kind facing : ℕ) → (kind ≡ 0 → ⊥) → block_text R cell kind facing ≡ line_of R cell kind facing
unfolding block_text
some-line R cell kind facing n = rw (ne_eqb kind 0 n)

pub place-small : {R : Room} → Good R → {cell : ℕ} → cell < volume R → ((pos_of R cell).x < 1000) × ((pos_of R cell).y < 1000) × ((pos_of R cell).z < 1000)
place-small {R} g {cell} h =
    let w = pos_in R g cell h in
    (omega (arith, w.x_in, g.x_most), omega (arith, w.y_in, g.y_most), omega (arith, w.z_in, g.z_most))

-- ---- each answer

module _ (R : Room) (kinds facings text : List ℕ) where
  pub write_sides : sides_good R ≡ false → Writes R kinds facings text (Err Sides) text
  unfolding written
  write_sides s = record { answer = rw s; text-is = rw s }

  module _ (s : sides_good R ≡ true) where
    pub write_buffer : exactly R (length kinds) (length facings) ≡ false → Writes R kinds facings text (Err Buffer) text
    unfolding written
    write_buffer b = record { answer = rw (s, b); text-is = rw (s, b) }

    module _ (b : exactly R (length kinds) (length facings) ≡ true) where
      pub write_code : known_from 0 kinds facings ≡ false → Writes R kinds facings text (Err Code) text
      unfolding written
      write_code k = record { answer = rw (s, b, k); text-is = rw (s, b, k) }

      module _ (k : known_from 0 kinds facings ≡ true) where
        pub write_short : length text < length (text_of R kinds facings) → {text' : List ℕ} → text' ≡ replicate (length text) 0 → Writes R kinds facings text (Err Short) text'
        unfolding written
        write_short l e = record { answer = rw (s, b, k, lt-leb (length (text_of R kinds facings)) (length text) l); text-is = rw (s, b, k, lt-leb (length (text_of R kinds facings)) (length text) l, sub-zero) e }

        pub write_text : length (text_of R kinds facings) ≤ length text → {n : ℕ} {text' : List ℕ} → n ≡ length (text_of R kinds facings) → text' ≡ filled (text_of R kinds facings) text → Writes R kinds facings text (Ok n) text'
        unfolding written
        write_text l q e = record { answer = rw (s, b, k, le-leb (length (text_of R kinds facings)) (length text) l) (ap Ok q); text-is = rw (s, b, k, le-leb (length (text_of R kinds facings)) (length text) l) e }

-- what number 6 leaves
pub exact : (R : Room) (kinds facings : ℕ) → exactly R kinds facings ≡ true → (kinds ≡ volume R) × (facings ≡ volume R)
unfolding exactly
exact R kinds facings e =
    (eqb-true kinds (volume R) (and_left (eqb kinds (volume R)) (eqb facings (volume R)) e), eqb-true facings (volume R) (and_right (eqb kinds (volume R)) (eqb facings (volume R)) e))

-- ---- the end: all lines are put over zeros
module _ (R : Room) (kinds facings text : List ℕ) (s : sides_good R ≡ true) (b : exactly R (length kinds) (length facings) ≡ true) (k : known_from 0 kinds facings ≡ true)
    {m : ℕ} {cleared out : List ℕ} {n : ℕ} (z : cleared ≡ replicate (length text) 0) (p : Put m cleared 0 (text_of R kinds facings) out n) where
  out-long : length out ≡ length text
  out-long = ap length p.is ∙ length-sets cleared 0 (text_of R kinds facings) ∙ ap length z ∙ length-replicate {A = ℕ} (length text) 0

  pub ends-short : length out < n → {out' : List ℕ} → out' ≡ replicate (length out) 0 → Writes R kinds facings text (Err Short) out'
  ends-short l e = write_short R kinds facings text s b k (omega (arith, out-long, p.ends)) (e ∙ ap (λ j. replicate j 0) out-long)

  pub ends-whole : n ≤ length out → Writes R kinds facings text (Ok n) out
  ends-whole l =
      let fits : length (text_of R kinds facings) ≤ length text = omega (arith, out-long, p.ends) in
      write_text R kinds facings text s b k fits (omega (arith, p.ends)) (p.is ∙ ap (λ l. sets l 0 (text_of R kinds facings)) z ∙ text-filled (text_of R kinds facings) text fits)

-- ---- the promise of `write_function` determines its answer and every lent byte

pub record WriteEnd : Type 0 where
  pub answer : Result ℕ WriteFault
  pub text : List ℕ

pub coincide : (R : Room) (kinds facings text : List ℕ) → Determines {X = WriteEnd} (λ x. Writes R kinds facings text x.answer x.text)
coincide R kinds facings text x y p q =
    let a : x.answer ≡ y.answer = p.answer ∙ sym q.answer in
    let t : x.text ≡ y.text = p.text-is ∙ sym q.text-is in
    write_end x.answer y.answer x.text y.text a t
  where
    write_end : (r r' : Result ℕ WriteFault) (t t' : List ℕ) → r ≡ r' → t ≡ t' → ◌≡◌ {A = WriteEnd} (record { answer = r; text = t }) (record { answer = r'; text = t' })
    write_end r r' t t' a b = rw (a, b)
