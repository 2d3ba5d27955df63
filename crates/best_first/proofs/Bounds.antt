-- At any costs and any estimate: every list keeps its length, every number stays in range, and no known cost is above the cells less one times the
-- dearest move. The reason: a cell first known adds one move to a cell known before, and a cell known already only gets cheaper.
use Rattle.std.specs.Prelude.{◌≡◌, refl, ◌⊎◌, List, [], ◌∷◌, ltb, length, set, replicate}
use Rattle.std.proofs.Common.{sym, ◌∙◌, arith, mul-suc, mul_comm, mul-le-mul_left, eq-zero-or-pos, get_or-set_same}
use Rattle.std.proofs.Math.Path.{ap}
use Rattle.std.proofs.Math.Logic.{inl, inr}
use Prim.Native.Nat.{ℕ, suc, ◌+◌, ◌-◌, ◌*◌, ◌≤◌, ◌<◌, zero-le}
use Rattle.std.proofs.Math.Nat.{suc-pred-eq_of_pos}
use Rattle.std.proofs.Math.ListN.{get_or, length-set}
use Rattle.basics.specs.Lists.{In}
use Rattle.basics.specs.Counts.{times-most}
use Rattle.basics.specs.Zeros.{zeros}
use Rattle.best_first.specs.Search.{Graph, Move, Entry, State, Taken, push, one_more_expanded, first_state}
use Rattle.best_first.specs.Ways.{Sound}
use Rattle.best_first.specs.Statements.{Taking, known_at, cost_of, Reached, at_first, then, Bounded}
use Rattle.best_first.specs.ListsAfterSet.{AfterStore, hit, miss, after, in_reach, nonzeros, nonzeros-none, nonzeros-new, nonzeros-old}
use Rattle.best_first.proofs.Entries.{same_sym, same_in}
use Rattle.best_first.proofs.Equations.{offered, Gain, no_gain}
use Rattle.best_first.proofs.Reached.{through}
use Rattle.best_first.proofs.Orders.{Alike}
use Rattle.best_first.proofs.Predecessors.{lowered, start-placed, start-alone, first-linked}

-- an entry's cell is known, and its key is in range: a move of the dearest for each known cell but one
record EntryFits (G : Graph) (dearest : ℕ) (known : List ℕ) (e : Entry) : Type 0 where
  cell_in : e.cell < G.size
  is_known : 0 < get_or known e.cell 0
  low : e.key + dearest ≤ dearest * nonzeros known + G.estimate e.cell

-- as `Bounded` of Statements, but with the cells counted that are known yet, and with the moves `due` still to be tried
pub record Sane (G : Graph) (degree dearest : ℕ) (due : List Move) (s : State) : Type 0 where
  pub known-long : length s.known ≡ G.size
  pub previous-long : length s.previous ≡ G.size
  low : (v : ℕ) → 0 < known_at s v → known_at s v + dearest ≤ suc (dearest * nonzeros s.known)
  pub previous_in : (v : ℕ) → get_or s.previous v 0 ≤ G.size
  fits : (e : Entry) → In e s.waiting → EntryFits G dearest s.known e
  pub balance : s.expanded + length s.waiting ≡ suc s.serial
  pub serial : s.serial + length due ≤ degree * s.expanded

pub alike-sane : {G : Graph} {degree dearest : ℕ} {due : List Move} {s t : State} → Alike s t → Sane G degree dearest due s → Sane G degree dearest due t
alike-sane {G} {degree} {dearest} L A = record {
  known-long = rw L.known at A.known-long;
  previous-long = rw L.previous at A.previous-long;
  low = rw L.known at A.low;
  previous_in = rw L.previous at A.previous_in;
  fits = λ e i. rw L.known at (A.fits e (same_in (same_sym L.waiting) e i));
  balance = omega (arith, A.balance, L.expanded, L.serial, L.waiting.many);
  serial = rw (L.expanded, L.serial) at A.serial;
}

-- the moves `due` of u, whose cost is d, are still to be tried
pub record Still (G : Graph) (degree dearest u d : ℕ) (due : List Move) (s : State) : Type 0 where
  pub sane : Sane G degree dearest due s
  pub now : known_at s u ≡ suc d
  pub lawful : (m : Move) → In m due → In m (G.moves u)

pub alike-still : {G : Graph} {degree dearest u d : ℕ} {due : List Move} {s t : State} → Alike s t → Still G degree dearest u d due s → Still G degree dearest u d due t
alike-still L A = record { sane = alike-sane L A.sane; now = rw L.known at A.now; lawful = A.lawful }

module _ {G : Graph} {degree dearest : ℕ} (S : Sound G degree dearest) where
  pub bounded : {due : List Move} {s : State} → Sane G degree dearest due s → Bounded G degree dearest s
  bounded {due} {s} A = record {
    known-long = A.known-long;
    previous-long = A.previous-long;
    cost = λ v. cost v (eq-zero-or-pos (known_at s v));
    previous_in = A.previous_in;
    cell_in = λ e i. (A.fits e i).cell_in;
    cell-known = λ e i. (A.fits e i).is_known;
    key = λ e i. omega (arith, (A.fits e i).low, most);
    balance = A.balance;
    serial = omega (arith, A.serial);
  }
    where
      most : dearest * nonzeros s.known ≤ (G.size - 1) * dearest + dearest
      most =
          let k : nonzeros s.known ≤ suc (G.size - 1) = omega (arith, times-most (ltb 0) s.known, A.known-long) in
          omega (arith, mul-le-mul_left dearest k, mul-suc dearest (G.size - 1), mul_comm dearest (G.size - 1))

      cost : (v : ℕ) → (known_at s v ≡ 0) ⊎ (0 < known_at s v) → known_at s v ≤ (G.size - 1) * dearest + 1
      cost v (inl e) = omega arith
      cost v (inr p) = omega (arith, A.low v p, most)

  -- ---- a move that is no cheaper, and one that is

  module _ {u d : ℕ} {m : Move} {ms : List Move} {s : State} (A : Still G degree dearest u d (m ∷ ms) s) where
    pub skip_still : Still G degree dearest u d ms s
    skip_still = record {
      sane = record {
        known-long = A.sane.known-long;
        previous-long = A.sane.previous-long;
        low = A.sane.low;
        previous_in = A.sane.previous_in;
        fits = A.sane.fits;
        balance = A.sane.balance;
        serial = omega (arith, A.sane.serial);
      };
      now = A.now;
      lawful = λ n i. A.lawful n (inr i);
    }

    module _ (gain : Gain (suc (d + m.cost)) (known_at s m.to)) where
      lawful : In m (G.moves u)
      lawful = A.lawful m (inl refl)

      to_in : m.to < G.size
      to_in = S.inside u m lawful

      to-placed : m.to < length s.known
      to-placed = omega (arith, to_in, A.sane.known-long)

      at : (v : ℕ) → AfterStore s.known m.to (suc (d + m.cost)) v
      at v = after s.known m.to (suc (d + m.cost)) v to-placed

      -- a first known cell adds one to the count, and its cost is one move above that of u
      more : (nonzeros s.known ≤ nonzeros (offered s d m))
          × (suc (d + m.cost) + dearest ≤ suc (dearest * nonzeros (offered s d m)))
      more = go gain
        where
          u-low : known_at s u + dearest ≤ suc (dearest * nonzeros s.known)
          u-low = A.sane.low u (omega (arith, A.now))

          go : Gain (suc (d + m.cost)) (known_at s m.to)
              → (nonzeros s.known ≤ nonzeros (offered s d m))
              × (suc (d + m.cost) + dearest ≤ suc (dearest * nonzeros (offered s d m)))
          go (inl e) = rw (nonzeros-new s.known m.to (d + m.cost) to-placed e, mul-suc)
              (omega (arith, u-low, A.now, S.dear u m lawful))
          go (inr l) = rw (nonzeros-old s.known m.to (d + m.cost) (omega arith)) (omega (arith, A.sane.low m.to (omega arith)))

      rises : dearest * nonzeros s.known ≤ dearest * nonzeros (offered s d m)
      rises = mul-le-mul_left dearest more.0

      pub push-still : Still G degree dearest u d ms (push G u m.to (d + m.cost) s)
      unfolding push
      push-still = record {
        sane = record {
          known-long = simp length-set A.sane.known-long;
          previous-long = simp length-set A.sane.previous-long;
          low = λ v p. low v p (at v);
          previous_in = λ v. previous v (after s.previous m.to (suc u) v (omega (arith, to_in, A.sane.previous-long)));
          fits = fits;
          balance = omega (arith, A.sane.balance);
          serial = omega (arith, A.sane.serial);
        };
        now = now (at u);
        lawful = λ n i. A.lawful n (inr i);
      }
        where
          low : (v : ℕ) → 0 < get_or (offered s d m) v 0 → AfterStore s.known m.to (suc (d + m.cost)) v
              → get_or (offered s d m) v 0 + dearest ≤ suc (dearest * nonzeros (offered s d m))
          low v p (hit e q) = omega (arith, more)
          low v p (miss n q) = omega (arith, A.sane.low v (omega arith), rises)

          previous : (v : ℕ) → AfterStore s.previous m.to (suc u) v → get_or (set s.previous m.to (suc u)) v 0 ≤ G.size
          previous v (hit e q) = omega (arith, in_reach s.known u (omega (arith, A.now)), A.sane.known-long)
          previous v (miss n q) = omega (arith, A.sane.previous_in v)

          fits : (e : Entry) → In e (push G u m.to (d + m.cost) s).waiting → EntryFits G dearest (offered s d m) e
          fits e (inl p) = rw p (record { cell_in = to_in; is_known = omega (arith, get_or-set_same s.known m.to (suc (d + m.cost)) 0 to-placed); low = omega (arith, more) })
          fits e (inr i) =
              let o = A.sane.fits e i in
              record {
                cell_in = o.cell_in;
                is_known = (lowered s.known m.to (suc (d + m.cost)) e.cell to-placed (omega arith) gain o.is_known).0;
                low = omega (arith, o.low, rises);
              }

          -- its own moves never make u cheaper
          now : AfterStore s.known m.to (suc (d + m.cost)) u → get_or (offered s d m) u 0 ≡ suc d
          now (hit e q) = absurd (no_gain gain (omega (arith, A.now, ap (known_at s) e)) (omega (arith, A.now, ap (known_at s) e)))
          now (miss n q) = q ∙ A.now

  -- ---- a taking

  pub take_still : {s : State} {t : Taken} → Sane G degree dearest [] s → Taking s.waiting t
      → Still G degree dearest t.next.cell (cost_of s t.next.cell) (G.moves t.next.cell) (one_more_expanded s t.left)
  take_still {s} {t} A k = record {
    sane = record {
      known-long = A.known-long;
      previous-long = A.previous-long;
      low = A.low;
      previous_in = A.previous_in;
      fits = λ e i. A.fits e (k.left_in e i);
      balance = omega (arith, A.balance, k.len);
      serial = rw mul-suc (omega (arith, A.serial, S.few t.next.cell));
    };
    now = sym (suc-pred-eq_of_pos (A.fits t.next k.from).is_known);
    lawful = λ m i. i;
  }

  first-sane : Sane G degree dearest [] (first_state G)
  unfolding first_state
  first-sane = record {
    known-long = (first-linked S).known-long;
    previous-long = (first-linked S).previous-long;
    low = λ v p. rw (one, mul-suc) (omega (arith, start-alone S v p));
    previous_in = λ v. omega (arith, zeros G.size v);
    fits = λ e. elim [ inl p ↦ rw p (record { cell_in = S.start_in; is_known = omega (arith, (first-linked S).start-known); low = rw (one, mul-suc) (omega arith) }) | inr i ↦ absurd i ];
    balance = refl;
    serial = zero-le;
  }
    where
      one : nonzeros (set (replicate G.size 0) G.start 1) ≡ 1
      one = nonzeros-new (replicate G.size 0) G.start 0 (start-placed S) (zeros G.size G.start) ∙ ap suc (nonzeros-none G.size)

  pub sane : {l : List ℕ} {s : State} → Reached G l s → Sane G degree dearest [] s
  sane at_first = first-sane
  sane (then {s = s} t R k g e) =
      (rw e at (through G t.next.cell (cost_of s t.next.cell) (λ ms l r. Still G degree dearest t.next.cell (cost_of s t.next.cell) ms r) (λ l. Unit {0})
      (λ m ms l r A f. skip_still A) (λ m ms l r A f p. push-still A f) (λ m ms l r A f p. tt) (G.moves t.next.cell) [] (one_more_expanded s t.left) (take_still (sane R) k))).sane
