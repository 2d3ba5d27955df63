-- Each cell's byte of `causes` is so: each bit exactly where its reason holds, and some bit exactly where the cell is blocked.
use Rattle.std.specs.Prelude.{◌≡◌, refl, ◌≢◌, Bool, true, not, ◌&&◌, List, ◌++◌, ℕ, ◌+◌, ◌≤◌, ◌<◌, eqb, get_or}
use Rattle.std.proofs.Math.Path.{ap}
use Rattle.std.proofs.Common.{◌∙◌}
use Rattle.std.proofs.Math.ListN.{get_or-append}
use Rattle.basics.specs.Tests.{never, and_left, and_right}
use Rattle.basics.specs.Lists.{any}
use Rattle.room.specs.declared.Room.{Room}
use Rattle.room.specs.Room.{volume}
use Rattle.room.specs.Units.{air}
use Rattle.routing_resources.specs.Marks.{is_marked}
use Rattle.job_sheet.specs.Sheet.{Contents}
use Rattle.std.specs.Prelude.{Option, Ok, Err}
use Rattle.blocks.specs.Blocks.{Placement}
use Rattle.blocks.specs.Blocks.{left_by, kinds_of, nodes_of}
use Rattle.ends.specs.declared.Fault.{Fault}
use Rattle.outset.specs.SetOut.{Outset}
use Rattle.outset.specs.Outset.{stands_at, block_keepout, own_cell, blocked_at_outset}
use Rattle.outset.specs.SetOut.{ready_by, ready, OutsetOf}
use Rattle.multinet.specs.Tree.{Plot, Tree, grown, planted, grow_from}
use Rattle.flood.specs.Walls.{tabled}
use Rattle.flood.specs.TableLaws.{tabled-long, tabled-at}
use Rattle.causes.specs.Causes.{bit_for, own_bit, beside_conductor, foreign_cause, cleared_by, cause_of}
use Rattle.causes.specs.BlockedLaws.{blocked_has_cause}
use Rattle.why_tree.specs.WhyTree.{kept_free}
use Rattle.sink_claims.specs.Statements.{kept_in, CauseTrue, CausesSay}
use Rattle.sink_claims.specs.BitLaws.{seven_bits, bit_1, bit_2, bit_4, bit_8, bit_16, bit_32, bit_64, seven_small, six-out}

-- a job that is ready has the blocks' kinds and nodes
module _ {J : Contents} {O : Outset} {kinds nodes blocked : List ℕ} (S : OutsetOf J O kinds nodes blocked) (t : ready O ≡ true) where
  all_left : (p : Placement) (f : Option Fault) → ready_by p f ≡ true → (R : Room) (l : List ℕ) → left_by p R l ≡ l
  all_left (Err overlap) f e R l = never (cc)
  all_left (Ok placed) f e R l = refl

  -- and what is blocked at the outset is said by these
  pub outset-is : blocked ≡ blocked_at_outset kinds nodes J O.ends.source O.ends.taps
  outset-is =
      let k : kinds ≡ kinds_of J.room J.blocks = S.laid.kinds-are ∙ all_left O.placement O.fault t J.room (kinds_of J.room J.blocks) in
      let n : nodes ≡ nodes_of J.room J.blocks = S.laid.nodes-are ∙ all_left O.placement O.fault t J.room (nodes_of J.room J.blocks) in
      rw (k, n) (rw t at S.blocked-are)

module _ (kinds nodes : List ℕ) (J : Contents) (P : Plot) (room-is : P.room ≡ J.room) (turn : ℕ) (before : turn ≤ P.taps.count) (T : Tree)
    (so_far : grow_from turn P 0 (planted P (blocked_at_outset kinds nodes J P.source P.taps)) ≡ grown T) where
  module _ (v : ℕ) (h : v < volume J.room) where
    abbrev out : Bool
    out = own_cell J.room P.source P.taps v

    -- the seven tests
    abbrev a : Bool
    a = not out && any (stands_at J.room v) J.conductors

    abbrev b : Bool
    b = not out && any (beside_conductor J.room v) J.conductors

    abbrev c : Bool
    c = not out && any (stands_at J.room v) J.clearances

    abbrev d : Bool
    d = not out && any (stands_at J.room v) J.terminals

    abbrev e : Bool
    e = not out && any (stands_at J.room v) J.reserved

    abbrev f : Bool
    f = not out && any (block_keepout J.room kinds nodes v) J.blocks

    abbrev g : Bool
    g = any (cleared_by J.room v) T.branches

    is_seven : cause_of kinds nodes J P.source P.taps T.branches v ≡ seven_bits a b c d e f g
    unfolding cause_of foreign_cause
    is_seven =
        ap (λ (n : ℕ). n + bit_for own_bit g)
        (six-out out (any (stands_at J.room v) J.conductors) (any (beside_conductor J.room v) J.conductors) (any (stands_at J.room v) J.clearances)
        (any (stands_at J.room v) J.terminals) (any (stands_at J.room v) J.reserved) (any (block_keepout J.room kinds nodes v) J.blocks))

    pub cause_true : CauseTrue kinds nodes J P T v (cause_of kinds nodes J P.source P.taps T.branches v)
    cause_true = record {
      as_conductor = rw is_seven (bit_1 a b c d e f g);
      as_keepout = rw is_seven (bit_2 a b c d e f g);
      as_clearance = rw is_seven (bit_4 a b c d e f g);
      as_terminal = rw is_seven (bit_8 a b c d e f g);
      as_reserved = rw is_seven (bit_16 a b c d e f g);
      as_block = rw is_seven (bit_32 a b c d e f g);
      as_own = rw is_seven (bit_64 a b c d e f g);
      no_other = rw is_seven (seven_small a b c d e f g);
      blocked-exactly = blocked_has_cause kinds nodes J P room-is P.source P.taps turn before T so_far v h;
    }

  -- a byte a cell, whatever stands behind them
  pub causes_say : (after : List ℕ) → CausesSay kinds nodes J P T (tabled (volume P.room) (cause_of kinds nodes J P.source P.taps T.branches) ++ after)
  causes_say after = record { each = λ v h. rw (byte_at v (rw room-is h)) (cause_true v h) }
    where
      cause : ℕ → ℕ
      cause = cause_of kinds nodes J P.source P.taps T.branches

      byte_at : (v : ℕ) → v < volume P.room → get_or (tabled (volume P.room) cause ++ after) v 0 ≡ cause v
      byte_at v h = get_or-append (tabled (volume P.room) cause) after 0 v (rw (tabled-long (volume P.room) cause) h) ∙ tabled-at (volume P.room) cause v h

-- a cell that is kept free is blocked, so it has a cause
pub kept_caused : {kinds nodes : List ℕ} {J : Contents} {P : Plot} {T : Tree} {causes : List ℕ} → CausesSay kinds nodes J P T causes → (a v : ℕ) → v < volume J.room
    → kept_in P T a v ≡ true → get_or causes v 0 ≢ 0
unfolding kept_free
kept_caused {P = P} {T} {causes} K a v h e z =
    let b = and_left (is_marked T.blocked v) _ (and_right (eqb (get_or P.kinds v air) air) _ e) in
    let c = (K.each v h).blocked-exactly in
    never (cc (rw (b, z) at c))
