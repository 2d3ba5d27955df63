-- The growth stops at one turn alone, and what is told of the sheet's own plot is that of the job's.
use Rattle.std.specs.Prelude.{◌≡◌, List, ℕ, zero, suc, ◌+◌, ◌-◌, ◌<◌}
use Rattle.std.proofs.Common.{sym, ap, ◌∙◌, arith}
use Rattle.basics.specs.Tests.{never, ask_less}
use Rattle.multinet.specs.Tree.{Plot, Tree, Growth, grown, stopped, planted, sink_now, grow_sink, grow_on, grow_from, growth_of}
use Rattle.multinet.specs.GrowthLaws.{same-tree}
use Rattle.why_tree.specs.WhyTree.{StopsThere}

-- some turns, then the others
turns_on : (P : Plot) (a b turn : ℕ) (T U : Tree) → grow_from a P turn T ≡ grown U → grow_from (a + b) P turn T ≡ grow_from b P (turn + a) U
unfolding grow_from
turns_on P zero b turn T U e = let z : 0 + b ≡ b = omega arith in let y : turn + 0 ≡ turn = omega arith in rw (z, y, ← same-tree e)
turns_on P (suc a) b turn T U e = let z : suc a + b ≡ suc (a + b) = omega arith in rw z (on (grow_sink P (sink_now P turn) T) e (λ W f. turns_on P a b (turn + 1) W U f))
  where
    on : (g : Growth) → grow_on (grow_from a P (turn + 1)) g ≡ grown U
        → ((W : Tree) → grow_from a P (turn + 1) W ≡ grown U → grow_from (a + b) P (turn + 1) W ≡ grow_from b P (turn + 1 + a) U)
        → grow_on (grow_from (a + b) P (turn + 1)) g ≡ grow_from b P (turn + suc a) U
    on (grown W) f rest = let s : turn + suc a ≡ turn + 1 + a = omega arith in rw s (rest W f)
    on (stopped number detail) f rest = never (cc)

-- where a turn stops, so do that turn and those behind it
stops-on : (P : Plot) (m turn : ℕ) (T : Tree) {number detail : ℕ} → grow_sink P (sink_now P turn) T ≡ stopped number detail → grow_from (suc m) P turn T ≡ stopped number detail
unfolding grow_from
stops-on P m turn T e = ap (grow_on (grow_from m P (turn + 1))) e

module _ {P : Plot} {outset : List ℕ} where
  stops-from : {turn : ℕ} {T : Tree} {number detail : ℕ} → StopsThere P outset turn T number detail → (n : ℕ) → turn < n → grow_from n P 0 (planted P outset) ≡ stopped number detail
  stops-from {turn} {T} S n h =
      let m : n ≡ turn + suc (n - turn - 1) = omega arith in
      let z : 0 + turn ≡ turn = omega arith in
      rw m (turns_on P turn (suc (n - turn - 1)) 0 (planted P outset) T S.so_far ∙ rw z (stops-on P (n - turn - 1) turn T S.stops))

  pub growth-stops : {turn : ℕ} {T : Tree} {number detail : ℕ} → StopsThere P outset turn T number detail → growth_of P outset ≡ stopped number detail
  unfolding growth_of
  growth-stops S = stops-from S P.taps.count S.turn_in_lem

  pub same_number : {turn : ℕ} {T : Tree} {number detail n d : ℕ} → StopsThere P outset turn T number detail → growth_of P outset ≡ stopped n d → (number ≡ n) × (detail ≡ d)
  same_number {number = number} {detail = detail} {n = n} {d = d} S e =
      let q : stopped number detail ≡ stopped n d = sym (growth-stops S) ∙ e in (cc, cc)

  module _ {turn turn' : ℕ} {T T' : Tree} {number detail : ℕ} (S : StopsThere P outset turn T number detail) (S' : StopsThere P outset turn' T' number detail) where
    -- the lower turn stops the growth, so the higher isn't come to
    pub one-turn : turn ≡ turn'
    one-turn =
        ask_less turn turn'
        (λ h. never (cc (stops-from S turn' h, S'.so_far)))
        (λ h. ask_less turn' turn (λ k. never (cc (stops-from S' turn k, S.so_far))) (λ k. omega arith))

    pub one-tree : T ≡ T'
    one-tree = same-tree (sym S.so_far ∙ rw one-turn S'.so_far)
