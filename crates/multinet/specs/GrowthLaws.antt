-- Laws of the growth as it is defined: one turn more, and the number of its branches.
use Rattle.std.specs.Prelude.{◌≡◌, refl, List, [], ℕ, zero, suc, ◌+◌, length}
use Rattle.std.proofs.Common.{sym, ap, ◌∙◌, arith, length-set}
use Rattle.std.proofs.lemmas.List.{length-replicate}
use Rattle.basics.specs.Tests.{ask, never}
use Rattle.goals.specs.Goals.{Trial, found, failed, full}
use Rattle.branches.specs.Branches.{branch_of}
use Rattle.multinet.specs.Tree.{Plot, Tree, Growth, grown, stopped, planted, with_branch, tap_at, fits_in, after_sink, grow_sink, grow_on, grow_from, growth_of, sink_now}

pub same-tree : {T U : Tree} → grown T ≡ grown U → T ≡ U
same-tree e = cc

-- one turn more
pub turn_more : (P : Plot) (n turn : ℕ) (T T' : Tree) → grow_from n P turn T ≡ grown T' → grow_from (suc n) P turn T ≡ grow_sink P (sink_now P (turn + n)) T'
unfolding grow_from
turn_more P zero turn T T' e = let z : turn + 0 ≡ turn = omega arith in rw (z, ← same-tree e) (one (grow_sink P (sink_now P turn) T))
  where
    one : (g : Growth) → grow_on (grow_from 0 P (turn + 1)) g ≡ g
    one (grown U) = refl
    one (stopped number detail) = refl
turn_more P (suc n) turn T T' e = go (grow_sink P (sink_now P turn) T) e (turn_more P n (turn + 1))
  where
    go : (g : Growth) → grow_on (grow_from n P (turn + 1)) g ≡ grown T'
        → ((U U' : Tree) → grow_from n P (turn + 1) U ≡ grown U' → grow_from (suc n) P (turn + 1) U ≡ grow_sink P (sink_now P (turn + 1 + n)) U')
        → grow_on (grow_from (suc n) P (turn + 1)) g ≡ grow_sink P (sink_now P (turn + suc n)) T'
    go (grown U) f later = let s : turn + suc n ≡ turn + 1 + n = omega arith in rw s (later U T' f)
    go (stopped number detail) f later = never (cc)

-- ---- a branch for each sink

same_count : {T U : Tree} → grown T ≡ grown U → length U.branches ≡ length T.branches
same_count e = ap (λ x. length x.branches) (sym (same-tree e))

-- a sink's turn keeps the number of branches
after-count : (P : Plot) (k : ℕ) (T U : Tree) (t : Trial) → after_sink P k T t ≡ grown U → length U.branches ≡ length T.branches
unfolding after_sink with_branch
after-count P k T U (found path cost) e =
    ask (fits_in P T (branch_of (tap_at P k) path)) (λ t. same_count (rw t at e) ∙ length-set T.branches k (branch_of (tap_at P k) path))
    (λ f. never (cc (rw f at e)))
after-count P k T U failed e = never (cc)
after-count P k T U (full x) e = never (cc)

sink-count : (P : Plot) (k : ℕ) (T U : Tree) → grow_sink P k T ≡ grown U → length U.branches ≡ length T.branches
unfolding grow_sink
sink-count P k T U e = after-count P k T U _ e

grow_count : (n : ℕ) (P : Plot) (turn : ℕ) (T U : Tree) → grow_from n P turn T ≡ grown U → length U.branches ≡ length T.branches
unfolding grow_from
grow_count zero P turn T U e = same_count e
grow_count (suc n) P turn T U e = on _ refl (λ S f. grow_count n P (turn + 1) S U f) e
  where
    on : (g : Growth) → grow_sink P (sink_now P turn) T ≡ g → ((S : Tree) → grow_from n P (turn + 1) S ≡ grown U → length U.branches ≡ length S.branches)
        → grow_on (grow_from n P (turn + 1)) g ≡ grown U → length U.branches ≡ length T.branches
    on (grown S) d rest f = rest S f ∙ sink-count P _ T S d
    on (stopped number detail) d rest f = never (cc)

-- after so many turns there is a place for each sink's branch
pub turns_count : (P : Plot) (n : ℕ) (blocked : List ℕ) (T : Tree) → grow_from n P 0 (planted P blocked) ≡ grown T → length T.branches ≡ P.taps.count
unfolding planted
turns_count P n blocked T e = grow_count n P 0 (planted P blocked) T e ∙ length-replicate P.taps.count []

pub growth-count : (P : Plot) (blocked : List ℕ) (T : Tree) → growth_of P blocked ≡ grown T → length T.branches ≡ P.taps.count
unfolding growth_of
growth-count P blocked T e = turns_count P P.taps.count blocked T e
