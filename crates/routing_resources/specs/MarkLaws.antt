-- Laws of marks: what each byte is, that marking is determined and composes, how a loop marks, one record after another, and what unmarking leaves.
use Rattle.std.specs.Prelude.{◌≡◌, Bool, true, false, not, ◌&&◌, ◌||◌, eqb, length, get_or, drop, set}
use Rattle.std.proofs.Math.Path.{refl, ap}
use Rattle.std.proofs.Common.{sym, ◌∙◌, le_of_suc-le-suc, not-suc-le-zero, arith, length-set, drop_of_length-le, get_or-set_same, get_or-set_other, ext_get_or, eqb-true}
use mathlib.Core.List.{List, [], ◌∷◌}
use Prim.Native.Nat.{ℕ, zero, suc, ◌+◌, ◌≤◌, ◌<◌}
use Rattle.std.proofs.lemmas.List.{length-replicate, get_or-replicate}
use Rattle.std.proofs.lemmas.Bool.{eqb-false}
use Rattle.basics.specs.Tests.{either, ask}
use Rattle.basics.specs.Lists.{any, drop_next}
use Rattle.routing_resources.specs.Marks.{with_byte, marked_by, unmarked_by, is_marked, no_marks, Marks, CellsBelow}

both_bytes : (byte m : ℕ) (p q : Bool) → either q byte (either p byte m) ≡ either (p || q) byte m
both_bytes byte m true true = refl
both_bytes byte m true false = refl
both_bytes byte m false true = refl
both_bytes byte m false false = refl

left-bytes : (p q : Bool) → either q 0 (either p 1 0) ≡ either {X = ℕ} (p && not q) 1 0
left-bytes true true = refl
left-bytes true false = refl
left-bytes false true = refl
left-bytes false false = refl

module _ (byte : ℕ) where
  pub with_length_lem : (p : ℕ → Bool) (ms : List ℕ) → length (with_byte byte p ms) ≡ length ms
  unfolding with_byte
  with_length_lem p [] = refl
  with_length_lem p (m ∷ ms) = ap suc (with_length_lem (λ v. p (suc v)) ms)

  pub with_at : (p : ℕ → Bool) (ms : List ℕ) (v : ℕ) → v < length ms → get_or (with_byte byte p ms) v 0 ≡ either (p v) byte (get_or ms v 0)
  unfolding with_byte
  with_at p [] v h = absurd (not-suc-le-zero h)
  with_at p (m ∷ ms) zero h = refl
  with_at p (m ∷ ms) (suc v) h = with_at (λ v. p (suc v)) ms v (le_of_suc-le-suc h)

  -- a list of these bytes is no other
  with_is : (p : ℕ → Bool) (ms ls : List ℕ) → length ls ≡ length ms
      → ((v : ℕ) → v < length ms → get_or ls v 0 ≡ either (p v) byte (get_or ms v 0))
      → ls ≡ with_byte byte p ms
  with_is p ms ls e f =
      ext_get_or 0 ls (with_byte byte p ms) (e ∙ sym (with_length_lem p ms)) (λ v h. f v (omega arith) ∙ sym (with_at p ms v (omega arith)))

  -- to write one byte is to write it where the test is for that cell
  pub with_set : (ms : List ℕ) (cell : ℕ) → set ms cell byte ≡ with_byte byte (eqb cell) ms
  with_set ms cell = with_is (eqb cell) ms (set ms cell byte) (length-set ms cell byte) one
    where
      one : (v : ℕ) → v < length ms → get_or (set ms cell byte) v 0 ≡ either (eqb cell v) byte (get_or ms v 0)
      one v h =
          ask (eqb cell v)
          (λ t. let e : cell ≡ v = eqb-true cell v t in rw (t, e) (get_or-set_same ms v byte 0 h))
          (λ f. rw f (get_or-set_other ms cell v byte 0 (λ e. eqb-false cell v f (sym e))))

  pub with_none : (p : ℕ → Bool) (ms : List ℕ) → ((v : ℕ) → v < length ms → p v ≡ false) → with_byte byte p ms ≡ ms
  with_none p ms n = sym (with_is p ms ms refl (λ v h. rw (n v h)))

  pub with_same : (p q : ℕ → Bool) (ms : List ℕ) → ((v : ℕ) → v < length ms → p v ≡ q v) → with_byte byte p ms ≡ with_byte byte q ms
  with_same p q ms s = with_is q ms _ (with_length_lem p ms) (λ v h. with_at p ms v h ∙ rw (s v h))

  -- one test after another is both at once
  pub with_or : (p q : ℕ → Bool) (ms : List ℕ) → with_byte byte q (with_byte byte p ms) ≡ with_byte byte (λ v. p v || q v) ms
  with_or p q ms = with_is _ ms _ (with_length_lem q (with_byte byte p ms) ∙ with_length_lem p ms) (λ v h. both v h)
    where
      both : (v : ℕ) → v < length ms → get_or (with_byte byte q (with_byte byte p ms)) v 0 ≡ either (p v || q v) byte (get_or ms v 0)
      both v h =
          with_at q (with_byte byte p ms) v (rw (with_length_lem p ms) h)
          ∙ rw (with_at p ms v h) (both_bytes byte (get_or ms v 0) (p v) (q v))

-- Writing one record after another: `rest k` tests for the cells that the records from the k-th on write, `rest 0` for all of them. Those that are left, written to the
-- marks of now, make what all make of the marks at the start
pub record MarkedSoFar (byte : ℕ) (rest : ℕ → ℕ → Bool) (start marks : List ℕ) (k : ℕ) : Type 0 where
  pub long : length marks ≡ length start
  pub left : with_byte byte (rest k) marks ≡ with_byte byte (rest 0) start

pub marking-none : (byte : ℕ) (rest : ℕ → ℕ → Bool) (start : List ℕ) → MarkedSoFar byte rest start start 0
marking-none byte rest start = record { long = refl; left = refl }

module _ {byte : ℕ} {rest : ℕ → ℕ → Bool} {start marks : List ℕ} {k : ℕ} (so_far : MarkedSoFar byte rest start marks k) where
  pub marking-next : (p : ℕ → Bool) {marks' : List ℕ} → marks' ≡ with_byte byte p marks → ((v : ℕ) → rest k v ≡ p v || rest (k + 1) v)
      → MarkedSoFar byte rest start marks' (k + 1)
  marking-next p e s = record {
    long = ap length e ∙ with_length_lem byte p marks ∙ so_far.long;
    left =
        ap (with_byte byte (rest (k + 1))) e
        ∙ with_or byte p (rest (k + 1)) marks
        ∙ with_same byte _ _ marks (λ v h. sym (s v))
        ∙ so_far.left;
  }

  pub marking-last : ((v : ℕ) → rest k v ≡ false) → marks ≡ with_byte byte (rest 0) start
  marking-last n = sym (with_none byte (rest k) marks (λ v h. n v)) ∙ so_far.left

-- a loop that marks, one record after another, each cell for which a test of the record passes: the cells of the records from the k-th on
abbrev pub rest_of : {X : Type 0} → (ℕ → X → Bool) → List X → ℕ → ℕ → Bool
rest_of test xs k v = any (test v) (drop k xs)

module _ {X : Type 0} (test : ℕ → X → Bool) (xs : List X) where
  from-here : (k : ℕ) (d : X) → k < length xs → (v : ℕ) → rest_of test xs k v ≡ test v (get_or xs k d) || rest_of test xs (k + 1) v
  from-here k d h v = ap (any (test v)) (drop_next xs k d h)

  module _ {byte : ℕ} {start marks : List ℕ} {k : ℕ} (so_far : MarkedSoFar byte (rest_of test xs) start marks k) where
    pub marking-on : (d x : X) → x ≡ get_or xs k d → k < length xs → {marks' : List ℕ} → marks' ≡ with_byte byte (λ v. test v x) marks
        → MarkedSoFar byte (rest_of test xs) start marks' (k + 1)
    marking-on d x s h e = marking-next so_far (λ v. test v x) e (λ v. from-here k d h v ∙ ap (λ y. test v y || rest_of test xs (k + 1) v) (sym s))

    pub marking-all : length xs ≤ k → marks ≡ with_byte byte (λ v. any (test v) xs) start
    marking-all h = marking-last so_far (λ v. ap (any (test v)) (drop_of_length-le xs h))

-- what is marked afterwards
module _ (p : ℕ → Bool) (ms : List ℕ) (v : ℕ) (h : v < length ms) where
  pub marked-after : is_marked (marked_by p ms) v ≡ p v || is_marked ms v
  marked-after = ask (p v) (λ t. rw (with_at 1 p ms v h, t)) (λ f. rw (with_at 1 p ms v h, f))

-- cells marked and then taken out again, from no mark on
pub taken_out : (p q : ℕ → Bool) (n : ℕ) → unmarked_by q (marked_by p (no_marks n)) ≡ marked_by (λ v. p v && not (q v)) (no_marks n)
taken_out p q n = with_is 1 _ (no_marks n) _ (with_length_lem 0 q (marked_by p (no_marks n)) ∙ with_length_lem 1 p (no_marks n)) one
  where
    one : (v : ℕ) → v < length (no_marks n) → get_or (unmarked_by q (marked_by p (no_marks n))) v 0 ≡ either (p v && not (q v)) 1 (get_or (no_marks n) v 0)
    one v h =
        let b : v < n = rw (length-replicate {A = ℕ} n 0) at h in
        with_at 0 q (marked_by p (no_marks n)) v (rw (with_length_lem 1 p (no_marks n)) h)
        ∙ rw (with_at 1 p (no_marks n) v h, get_or-replicate {A = ℕ} n v 0 0 b) (left-bytes (p v) (q v))

-- a cell read from a list of cells
pub read_below : {n : ℕ} {cells : List ℕ} → CellsBelow n cells → (i : ℕ) → i < length cells → (v : ℕ) → v ≡ get_or cells i 0 → v < n
read_below all i h v e = rw e (all.below i h)

-- each byte stays a mark or none
pub marks-none : (n : ℕ) → Marks (no_marks n)
marks-none n = record { small = λ v h. rw (get_or-replicate {A = ℕ} n v 0 0 (rw (length-replicate {A = ℕ} n 0) at h)) (omega arith) }

pub marks_with : (byte : ℕ) → byte ≤ 1 → (test : ℕ → Bool) (bytes : List ℕ) → Marks bytes → Marks (with_byte byte test bytes)
marks_with byte few test bytes marks = record { small = λ v h. go v (rw (with_length_lem byte test bytes) at h) }
  where
    go : (v : ℕ) → v < length bytes → get_or (with_byte byte test bytes) v 0 ≤ 1
    go v h = rw (with_at byte test bytes v h) (ask (test v) (λ t. rw t few) (λ f. rw f (marks.small v h)))
