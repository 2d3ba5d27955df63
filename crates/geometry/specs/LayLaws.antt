-- Laws of the bytes: the path's cells laid among the joinable ones make the conductors, and taken up again leave the bytes as they were.
use Rattle.std.specs.Prelude.{◌≡◌, ◌⊎◌, Bool, true, false, not, ◌&&◌, ◌||◌, ℕ, zero, suc, ◌≤◌, ◌<◌, eqb, get_or, set, drop, Some}
use Rattle.std.proofs.Math.Path.{refl, ap, fun_ext}
use Rattle.std.proofs.Common.{sym, ◌∙◌, inl, inr, arith, length-set, get_or-set_same, get_or-set_other, ext_get_or, eqb-true, eq-eqb, ne_eqb}
use Rattle.std.proofs.Math.Bool.{and-false, or-true}
use mathlib.Core.List.{List, [], ◌∷◌}
use Rattle.std.proofs.Math.ListN.{length, get_or-eq_default}
use Rattle.std.proofs.lemmas.Bool.{eqb-false}
use Rattle.basics.specs.Tests.{either, either_same, ask, ask_less, or_left, never}
use Rattle.basics.specs.Lists.{In}
use Rattle.room.specs.declared.Room.{Room}
use Rattle.room.specs.Room.{volume, beneath}
use Rattle.routing_resources.specs.Marks.{is_marked, Marks, CellsBelow, AllCells}
use Rattle.routing_resources.specs.MarkLaws.{read_below}
use Rattle.geometry.specs.Geometry.{stands_in, conductor, upper_of_pair, NoPair}
use Rattle.geometry.specs.Along.{replaced_at, replaced, conducts_by, OnPath}
use Rattle.basics.specs.Folds.{along, Folding}

-- ---- the path's cells

pub stands_in_lem : (path : List ℕ) (v : ℕ) → stands_in path v ≡ true → In v path
unfolding stands_in
stands_in_lem [] v e = never (cc)
stands_in_lem (c ∷ cs) v e = ask (eqb c v) (λ t. inl (sym (eqb-true c v t))) (λ f. inr (stands_in_lem cs v (rw f at e)))

pub in_stands : (path : List ℕ) (v : ℕ) → In v path → stands_in path v ≡ true
unfolding stands_in
in_stands [] v i = absurd i
in_stands (c ∷ cs) v (inl e) = rw (eq-eqb c v (sym e))
in_stands (c ∷ cs) v (inr i) = rw (in_stands cs v i, or-true)

pub cells_in : (R : Room) (path : List ℕ) → AllCells R path → (v : ℕ) → In v path → v < volume R
cells_in R [] all v i = absurd i
cells_in R (c ∷ cs) all v (inl e) = rw e (all.below 0 (omega arith))
cells_in R (c ∷ cs) all v (inr i) = cells_in R cs (record { below = λ k h. all.below (suc k) (omega arith) }) v i

-- ---- bytes replaced along the path

module _ (old new : ℕ) where
  -- one byte replaced, or kept
  module _ (cell c : ℕ) (bytes : List ℕ) (e : c ≡ cell) where
    pub one-put : get_or bytes c 0 ≡ old → set bytes c new ≡ replaced_at old new cell bytes
    one-put o = rw (← e, eq-eqb (get_or bytes c 0) old o)

    pub one_kept : (get_or bytes c 0 ≡ old → ⊥) → bytes ≡ replaced_at old new cell bytes
    one_kept o = rw (← e, ne_eqb (get_or bytes c 0) old o)

  one_length : (cell : ℕ) (bytes : List ℕ) → length (replaced_at old new cell bytes) ≡ length bytes
  one_length cell bytes = ask (eqb (get_or bytes cell 0) old) (λ t. rw t (length-set bytes cell new)) (λ f. rw f)

  replaced_length : (path bytes : List ℕ) → length (replaced old new path bytes) ≡ length bytes
  unfolding along
  replaced_length [] bytes = refl
  replaced_length (c ∷ cs) bytes = replaced_length cs (replaced_at old new c bytes) ∙ one_length c bytes

  -- the byte that is left, by whether the cell is one of those passed
  abbrev byte_of : Bool → ℕ → ℕ
  byte_of passed byte = either (passed && eqb byte old) new byte

  one_at : (cell : ℕ) (bytes : List ℕ) (v : ℕ) → v < length bytes → get_or (replaced_at old new cell bytes) v 0 ≡ byte_of (eqb cell v) (get_or bytes v 0)
  one_at cell bytes v h = ask (eqb cell v) (λ t. here (eqb-true cell v t) t) (λ f. rw f (there f))
    where
      here : cell ≡ v → eqb cell v ≡ true → get_or (replaced_at old new cell bytes) v 0 ≡ byte_of (eqb cell v) (get_or bytes v 0)
      here e t =
          rw (t, e) (ask (eqb (get_or bytes v 0) old) (λ o. rw o (get_or-set_same bytes v new 0 h)) (λ o. rw o))

      there : eqb cell v ≡ false → get_or (replaced_at old new cell bytes) v 0 ≡ get_or bytes v 0
      there f =
          ask (eqb (get_or bytes cell 0) old) (λ o. rw o (get_or-set_other bytes cell v new 0 (λ e. eqb-false cell v f (sym e)))) (λ o. rw o)

  twice : (a b : Bool) (byte : ℕ) → byte_of b (byte_of a byte) ≡ byte_of (a || b) byte
  twice false b byte = refl
  twice true b byte = ask (eqb byte old) (λ o. rw o (either_same (b && eqb new old) new)) (λ o. rw (o, o, and-false b))

  replaced-at : (path bytes : List ℕ) (v : ℕ) → v < length bytes → get_or (replaced old new path bytes) v 0 ≡ byte_of (stands_in path v) (get_or bytes v 0)
  unfolding along stands_in
  replaced-at [] bytes v h = refl
  replaced-at (c ∷ cs) bytes v h =
      replaced-at cs (replaced_at old new c bytes) v (rw (one_length c bytes) h)
      ∙ ap (byte_of (stands_in cs v)) (one_at c bytes v h)
      ∙ twice (eqb c v) (stands_in cs v) (get_or bytes v 0)

  -- in the midst of a walk
  module _ {path start bytes : List ℕ} {i : ℕ} (walk : Folding (replaced_at old new) path start bytes i) where
    pub walk_length : length bytes ≡ length start
    walk_length = sym (replaced_length (drop i path) bytes) ∙ ap length walk.left ∙ replaced_length path start

    pub walk_in : CellsBelow (length start) path → i < length path → (cell : ℕ) → cell ≡ get_or path i 0 → cell < length bytes
    walk_in cells h cell e = rw walk_length (read_below cells i h cell e)

-- ---- 2 for 0 and 0 for 2, where all bytes are 0 or 1

mark_cases : (P : ℕ → Type 0) → P 0 → P 1 → (n : ℕ) → n ≤ 1 → P n
mark_cases P p q zero h = p
mark_cases P p q (suc zero) h = q
mark_cases P p q (suc (suc n)) h = absurd (omega arith)

put-back-byte : (passed : Bool) (byte : ℕ) → byte ≤ 1 → byte_of 2 0 passed (byte_of 0 2 passed byte) ≡ byte
put-back-byte true byte h = mark_cases (λ n. byte_of 2 0 true (byte_of 0 2 true n) ≡ n) refl refl byte h
put-back-byte false byte h = refl

laid-byte : (passed : Bool) (byte : ℕ) → byte ≤ 1 → not (eqb (byte_of 0 2 passed byte) 0) ≡ eqb byte 1 || passed
laid-byte true byte h = mark_cases (λ n. not (eqb (byte_of 0 2 true n) 0) ≡ eqb n 1 || true) refl refl byte h
laid-byte false byte h = mark_cases (λ n. not (eqb (byte_of 0 2 false n) 0) ≡ eqb n 1 || false) refl refl byte h

module _ (joinable path : List ℕ) (marks : Marks joinable) where
  -- taken up again, the path leaves the bytes as they were
  put_back : replaced 2 0 path (replaced 0 2 path joinable) ≡ joinable
  put_back = ext_get_or 0 _ _ (replaced_length 2 0 path (replaced 0 2 path joinable) ∙ replaced_length 0 2 path joinable) (λ v h. one v (long v h))
    where
      long : (v : ℕ) → v < length (replaced 2 0 path (replaced 0 2 path joinable)) → v < length joinable
      long v h = omega (arith, replaced_length 2 0 path (replaced 0 2 path joinable), replaced_length 0 2 path joinable)

      one : (v : ℕ) → v < length joinable → get_or (replaced 2 0 path (replaced 0 2 path joinable)) v 0 ≡ get_or joinable v 0
      one v h =
          replaced-at 2 0 path (replaced 0 2 path joinable) v (rw (replaced_length 0 2 path joinable) h)
          ∙ ap (byte_of 2 0 (stands_in path v)) (replaced-at 0 2 path joinable v h)
          ∙ put-back-byte (stands_in path v) (get_or joinable v 0) (marks.small v h)

  -- the bytes with the path laid say which cells are conductors
  laid-conductors : (R : Room) → length joinable ≡ volume R → AllCells R path → conducts_by (replaced 0 2 path joinable) ≡ conductor joinable path
  unfolding conductor
  laid-conductors R long all = fun_ext (λ v. ask_less v (length joinable) (within v) (beyond v))
    where
      within : (v : ℕ) → v < length joinable → conducts_by (replaced 0 2 path joinable) v ≡ is_marked joinable v || stands_in path v
      within v h = rw (replaced-at 0 2 path joinable v h) (laid-byte (stands_in path v) (get_or joinable v 0) (marks.small v h))

      off : (v : ℕ) → length joinable ≤ v → stands_in path v ≡ false
      off v h = ask (stands_in path v) (λ t. absurd (omega (arith, cells_in R path all v (stands_in_lem path v t), long))) (λ f. f)

      beyond : (v : ℕ) → length joinable ≤ v → conducts_by (replaced 0 2 path joinable) v ≡ is_marked joinable v || stands_in path v
      beyond v h =
          let a = get_or-eq_default (replaced 0 2 path joinable) 0 {n = v} (rw (replaced_length 0 2 path joinable) h) in
          let b = get_or-eq_default joinable 0 {n = v} h in
          rw (a, b, off v h)

-- where no two joinable cells make a pair, each pair of conductors has a cell of the path
on-path : (R : Room) (joinable path : List ℕ) → NoPair R (is_marked joinable) → OnPath R (conductor joinable path) path
unfolding conductor upper_of_pair
on-path R joinable path alone = record { conducting = λ v i. rw (in_stands path v i) (or-true (is_marked joinable v)); touched = met }
  where
    pair : (v u : ℕ) → v < volume R → beneath R v ≡ Some u → is_marked joinable v ≡ true → is_marked joinable u ≡ true → ⊥
    pair v u h b p q = let n : true ≡ false = rw (p, b, q) at (alone.none v h) in never (cc)

    met : (v u : ℕ) → v < volume R → beneath R v ≡ Some u → is_marked joinable v || stands_in path v ≡ true → is_marked joinable u || stands_in path u ≡ true → In v path ⊎ In u path
    met v u h b p q =
        ask (stands_in path v) (λ t. inl (stands_in_lem path v t))
        (λ f. ask (stands_in path u) (λ t. inr (stands_in_lem path u t)) (λ g. absurd (pair v u h b (or_left (is_marked joinable v) (stands_in path v) p f) (or_left (is_marked joinable u) (stands_in path u) q g))))

-- the bytes while the path is laid
module _ (R : Room) (joinable path bytes : List ℕ) (long : length joinable ≡ volume R) (all : AllCells R path) (marks : Marks joinable) (e : bytes ≡ replaced 0 2 path joinable) where
  pub laid_length : length bytes ≡ volume R
  laid_length = ap length e ∙ replaced_length 0 2 path joinable ∙ long

  pub laid-is : conducts_by bytes ≡ conductor joinable path
  laid-is = ap conducts_by e ∙ laid-conductors joinable path marks R long all

  pub laid-on-path : NoPair R (is_marked joinable) → OnPath R (conducts_by bytes) path
  laid-on-path alone = rw laid-is (on-path R joinable path alone)

  pub taken-up : (after : List ℕ) → after ≡ replaced 2 0 path bytes → after ≡ joinable
  taken-up after q = q ∙ ap (replaced 2 0 path) e ∙ put_back joinable path marks
