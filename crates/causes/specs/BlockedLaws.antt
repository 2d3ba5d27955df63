-- A cell is blocked exactly where it has a cause: at the outset, and turn by turn.
use Rattle.std.specs.Prelude.{◌≡◌, Bool, true, false, not, ◌&&◌, ◌||◌, eqb, length, get_or, set, replicate}
use Rattle.std.proofs.Math.Path.{refl, sym, ap}
use Rattle.std.proofs.Common.{◌∙◌, le_of_suc-le-suc, not-suc-le-zero, ne_eqb}
use Rattle.std.proofs.Math.Bool.{or_assoc, or_comm, or-false, and-false}
use mathlib.Core.List.{List, [], ◌∷◌}
use Prim.Native.Nat.{ℕ, zero, suc, ◌+◌, ◌≤◌, ◌<◌}
use native.Mathlib.Omega.{arith}
use Rattle.std.proofs.Math.ListN.{length-set, length-replicate, get_or-replicate}
use Rattle.std.proofs.Math.Seq.{get_or-set_other}
use Rattle.basics.specs.Tests.{either, ask, never}
use Rattle.basics.specs.Lists.{any}
use Rattle.room.specs.declared.Room.{Room}
use Rattle.room.specs.declared.Pos.{Pos}
use Rattle.room.specs.Room.{volume}
use Rattle.routing_resources.specs.Marks.{marked_by, no_marks, is_marked}
use Rattle.routing_resources.specs.MarkLaws.{with_length_lem, with_none, with_or, with_same, marked-after}
use Rattle.routing_resources.specs.Resources.{is_clearance}
use Rattle.job_sheet.specs.Sheet.{Contents}
use Rattle.ends.specs.declared.Taps.{Taps}
use Rattle.outset.specs.Outset.{stands_at, near_conductor, block_keepout, blocked_by, own_cell, blocked_at_outset}
use Rattle.goals.specs.Goals.{Trial, found, failed, full}
use Rattle.branches.specs.Branches.{branch_of}
use Rattle.multinet.specs.Tree.{Plot, Tree, Growth, grown, stopped, tap_at, sink_now, planted, with_branch, fits_in, after_sink, grow_sink, grow_on, grow_from}
use Rattle.multinet.specs.Growing.{turn_in, branch_in}
use Rattle.multinet.specs.GrowthLaws.{same-tree}
use Rattle.multinet.proofs.GrowingLaws.{sink-now}
use Rattle.causes.specs.Causes.{bit_for, beside_conductor, foreign_cause, cleared_by, cause_of, own_bit}
use Rattle.causes.specs.CauseLaws.{fresh-marks}

-- a byte with some bit
abbrev pub has_cause : ℕ → Bool
has_cause x = not (eqb x 0)

-- ---- bits and tests

bit_or : (x weight : ℕ) (b : Bool) → 0 < weight → has_cause (x + bit_for weight b) ≡ has_cause x || b
bit_or x weight true h = rw (ne_eqb (x + weight) 0 (λ e. omega (arith, e)), or_comm (has_cause x) true)
bit_or x weight false h = let z : x + 0 ≡ x = omega arith in rw (z, or-false (has_cause x))

first_bit : (a : Bool) → has_cause (bit_for 1 a) ≡ a
first_bit true = refl
first_bit false = refl

six : (a b c d e f : Bool) → has_cause (bit_for 1 a + bit_for 2 b + bit_for 4 c + bit_for 8 d + bit_for 16 e + bit_for 32 f) ≡ (a || b) || (c || (d || (e || f)))
six a b c d e f =
    bit_or (bit_for 1 a + bit_for 2 b + bit_for 4 c + bit_for 8 d + bit_for 16 e) 32 f (omega arith)
    ∙ ap (λ (x : Bool). x || f) (five ∙ refl)
    ∙ or_assoc (((a || b) || c) || d) e f
    ∙ or_assoc ((a || b) || c) d (e || f)
    ∙ or_assoc (a || b) c (d || (e || f))
  where
    two : has_cause (bit_for 1 a + bit_for 2 b) ≡ a || b
    two = bit_or (bit_for 1 a) 2 b (omega arith) ∙ ap (λ (x : Bool). x || b) (first_bit a)

    three : has_cause (bit_for 1 a + bit_for 2 b + bit_for 4 c) ≡ (a || b) || c
    three = bit_or (bit_for 1 a + bit_for 2 b) 4 c (omega arith) ∙ ap (λ (x : Bool). x || c) two

    four : has_cause (bit_for 1 a + bit_for 2 b + bit_for 4 c + bit_for 8 d) ≡ ((a || b) || c) || d
    four = bit_or (bit_for 1 a + bit_for 2 b + bit_for 4 c) 8 d (omega arith) ∙ ap (λ (x : Bool). x || d) three

    five : has_cause (bit_for 1 a + bit_for 2 b + bit_for 4 c + bit_for 8 d + bit_for 16 e) ≡ (((a || b) || c) || d) || e
    five = bit_or (bit_for 1 a + bit_for 2 b + bit_for 4 c + bit_for 8 d) 16 e (omega arith) ∙ ap (λ (x : Bool). x || e) four

-- ---- at the outset

near_or : (R : Room) (v : ℕ) (cs : List Pos) → any (near_conductor R v) cs ≡ any (stands_at R v) cs || any (beside_conductor R v) cs
near_or R v [] = refl
near_or R v (p ∷ cs) = rw (near_or R v cs) (swap (stands_at R v p) (beside_conductor R v p) (any (stands_at R v) cs) (any (beside_conductor R v) cs))
  where
    swap : (a b c d : Bool) → (a || b) || (c || d) ≡ (a || c) || (b || d)
    swap true b c d = refl
    swap false true true d = refl
    swap false true false d = refl
    swap false false c d = refl

foreign-blocked : (kinds nodes : List ℕ) (J : Contents) (v : ℕ) → has_cause (foreign_cause kinds nodes J v) ≡ blocked_by kinds nodes J v
unfolding foreign_cause blocked_by
foreign-blocked kinds nodes J v =
    let R = J.room in
    rw (near_or J.room v J.conductors)
    (six (any (stands_at R v) J.conductors) (any (beside_conductor R v) J.conductors) (any (stands_at R v) J.clearances) (any (stands_at R v) J.terminals)
    (any (stands_at R v) J.reserved) (any (block_keepout R kinds nodes v) J.blocks))

out_or : (own q : Bool) (x : ℕ) → has_cause (either own 0 x + bit_for own_bit q) ≡ (has_cause x && not own) || q
out_or own q x = bit_or (either own 0 x) own_bit q (omega arith) ∙ ap (λ (b : Bool). b || q) (left own)
  where
    left : (own : Bool) → has_cause (either own 0 x) ≡ has_cause x && not own
    left true = sym (and-false (has_cause x))
    left false = sym (and_true (has_cause x))
      where
        and_true : (a : Bool) → a && true ≡ a
        and_true true = refl
        and_true false = refl

-- ---- turn by turn

any-set : (p : List ℕ → Bool) (bs : List (List ℕ)) (k : ℕ) (b : List ℕ) → k < length bs → p (get_or bs k []) ≡ false → any p (set bs k b) ≡ any p bs || p b
any-set p [] k b h e = absurd (not-suc-le-zero h)
any-set p (x ∷ xs) zero b h e = rw e (or_comm (p b) (any p xs))
any-set p (x ∷ xs) (suc k) b h e = rw (any-set p xs k b (le_of_suc-le-suc h) e) (sym (or_assoc (p x) (any p xs) (p b)))

-- what is blocked after so many turns: the outset, and the clearances of the branches so far
pub record KeptFree (P : Plot) (outset : List ℕ) (turn : ℕ) (T : Tree) : Type 0 where
  pub count-is : length T.branches ≡ P.taps.count
  pub none_yet : (k : ℕ) → k < P.taps.count → turn ≤ turn_in P k → branch_in T k ≡ []
  pub blocked-is : T.blocked ≡ marked_by (λ v. any (cleared_by P.room v) T.branches) outset

none-cleared : (R : Room) (v n : ℕ) → any (cleared_by R v) (replicate {A = List ℕ} n []) ≡ false
unfolding is_clearance
none-cleared R v zero = refl
none-cleared R v (suc n) = none-cleared R v n

module _ (P : Plot) (outset : List ℕ) where
  first-kept : KeptFree P outset 0 (planted P outset)
  unfolding planted
  first-kept = record {
    count-is = length-replicate {A = List ℕ} P.taps.count [];
    none_yet = λ k h g. get_or-replicate {A = List ℕ} P.taps.count k [] [] h;
    blocked-is = sym (with_none 1 _ outset (λ v h. none-cleared P.room v P.taps.count));
  }

  module _ {turn : ℕ} {T : Tree} (K : KeptFree P outset turn T) (h : turn < P.taps.count) (branch : List ℕ) where
    abbrev k : ℕ
    k = sink_now P turn

    here : k < P.taps.count
    here = (sink-now P turn k refl h).0

    next-kept : KeptFree P outset (turn + 1) (with_branch P.room k branch T)
    unfolding with_branch is_clearance
    next-kept = record {
      count-is = length-set T.branches k branch ∙ K.count-is;
      none_yet = λ j i g. get_or-set_other T.branches k j branch [] (λ e. same_turn j e g) ∙ K.none_yet j i (omega arith);
      blocked-is =
          ap (marked_by (is_clearance P.room branch)) K.blocked-is
          ∙ with_or 1 _ _ outset
          ∙ with_same 1 _ _ outset (λ v i. sym (any-set (cleared_by P.room v) T.branches k branch (omega (arith, here, K.count-is)) (rw (K.none_yet k here (omega (arith, (sink-now P turn k refl h).1))) refl)));
    }
      where
        same_turn : (j : ℕ) → j ≡ k → turn + 1 ≤ turn_in P j → ⊥
        same_turn j e g = let s : turn_in P j ≡ turn = ap (turn_in P) e ∙ (sink-now P turn k refl h).1 in omega (arith, g, s)

    after_kept : (U : Tree) (t : Trial) → after_sink P k T t ≡ grown U → (branch' : List ℕ) × (U ≡ with_branch P.room k branch' T)
    unfolding after_sink
    after_kept U (found path cost) e = ask (fits_in P T (branch_of (tap_at P k) path)) (λ t. (branch_of (tap_at P k) path, sym (same-tree (rw t at e)))) (λ f. never (cc (rw f at e)))
    after_kept U failed e = never (cc)
    after_kept U (full x) e = never (cc)

  sink-kept : {turn : ℕ} {T : Tree} → KeptFree P outset turn T → turn < P.taps.count → (U : Tree) → grow_sink P (sink_now P turn) T ≡ grown U → KeptFree P outset (turn + 1) U
  unfolding grow_sink
  sink-kept {turn} {T} K h U e = let r = after_kept K h [] U _ e in rw r.1 (next-kept K h r.0)

  turns_kept : (n turn : ℕ) → turn + n ≤ P.taps.count → (T U : Tree) → KeptFree P outset turn T → grow_from n P turn T ≡ grown U → KeptFree P outset (turn + n) U
  unfolding grow_from
  turns_kept zero turn h T U K e = let z : turn + 0 ≡ turn = omega arith in rw (z, ← same-tree e) K
  turns_kept (suc n) turn h T U K e = on _ refl (λ W k f. turns_kept n (turn + 1) (omega arith) W U k f) e
    where
      on : (g : Growth) → grow_sink P (sink_now P turn) T ≡ g → ((W : Tree) → KeptFree P outset (turn + 1) W → grow_from n P (turn + 1) W ≡ grown U → KeptFree P outset (turn + 1 + n) U)
          → grow_on (grow_from n P (turn + 1)) g ≡ grown U → KeptFree P outset (turn + suc n) U
      on (grown W) d rest f = let s : turn + suc n ≡ turn + 1 + n = omega arith in rw s (rest W (sink-kept K (omega (arith, h)) W d) f)
      on (stopped number detail) d rest f = never (cc)

  pub kept_free_lem : (turn : ℕ) → turn ≤ P.taps.count → (T : Tree) → grow_from turn P 0 (planted P outset) ≡ grown T → KeptFree P outset turn T
  kept_free_lem turn h T e = let z : 0 + turn ≡ turn = omega arith in rw z at (turns_kept turn 0 (omega arith) (planted P outset) T first-kept e)

-- at a sink's turn a cell is blocked exactly where it has a cause
module _ (kinds nodes : List ℕ) (J : Contents) (P : Plot) (room-is : P.room ≡ J.room) (source : ℕ) (taps : Taps) where
  outset-marked : (v : ℕ) → v < volume J.room → is_marked (blocked_at_outset kinds nodes J source taps) v ≡ blocked_by kinds nodes J v && not (own_cell J.room source taps v)
  unfolding blocked_at_outset
  outset-marked v h = fresh-marks (volume J.room) _ v h

  outset-long : length (blocked_at_outset kinds nodes J source taps) ≡ volume J.room
  unfolding blocked_at_outset
  outset-long = with_length_lem 1 _ (no_marks (volume J.room)) ∙ length-replicate {A = ℕ} (volume J.room) 0

  pub blocked_has_cause : (turn : ℕ) → turn ≤ P.taps.count → (T : Tree) → grow_from turn P 0 (planted P (blocked_at_outset kinds nodes J source taps)) ≡ grown T
      → (v : ℕ) → v < volume J.room → is_marked T.blocked v ≡ has_cause (cause_of kinds nodes J source taps T.branches v)
  unfolding cause_of
  blocked_has_cause turn h T e v i =
      let K = kept_free_lem P (blocked_at_outset kinds nodes J source taps) turn h T e in
      let m : is_marked T.blocked v ≡ any (cleared_by P.room v) T.branches || is_marked (blocked_at_outset kinds nodes J source taps) v =
      ap (λ (l : List ℕ). is_marked l v) K.blocked-is ∙ marked-after _ (blocked_at_outset kinds nodes J source taps) v (omega (arith, i, outset-long)) in
      m
      ∙ rw (room-is, outset-marked v i, ← foreign-blocked kinds nodes J v) (or_comm (any (cleared_by J.room v) T.branches) _)
      ∙ sym (out_or (own_cell J.room source taps v) (any (cleared_by J.room v) T.branches) (foreign_cause kinds nodes J v))
