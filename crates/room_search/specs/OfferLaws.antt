-- The three outcomes of one offer, as the code meets them: not cheaper, no place left, pushed.
use Rattle.std.specs.Prelude.{◌≡◌, refl, ◌⊎◌, ◌≢◌, true, List, ℕ, ◌+◌, ◌≤◌, ◌<◌, length, get_or, set, Ok, Err}
use Rattle.std.proofs.Math.Path.{sym, ap}
use Rattle.std.proofs.Common.{inl, inr}
use Rattle.std.proofs.Math.Numerals.{add-one}
use native.Mathlib.Omega.{arith}
use Rattle.best_first.specs.Search.{cheaper, push}
use Rattle.best_first.proofs.Equations.{is-cheaper, no_cheaper}
use Rattle.best_first.proofs.Loops.{trying_skip, trying_push, trying_full}
use Rattle.room_search.specs.declared.Reached.{Reached}
use Rattle.room_search.specs.declared.Work.{Work}
use Rattle.room_search.specs.declared.QueueFull.{QueueFull}
use Rattle.room_search.specs.Held.{Joined, held}
use Rattle.room_search.specs.HeldLaws.{length_entries}
use Rattle.room_search.specs.Routing.{places_in}
use Rattle.room_search.specs.TriedMoves.{places_of, HeapReady, Offered}

module _ (u : ℕ) (to : Reached) (estimate : ℕ) (s : Work) (R : HeapReady s) where
  abbrev v : ℕ
  v = to.spot.cell

  abbrev c : ℕ
  c = to.cost.0

  abbrev known : List ℕ
  known = s.known.now

  -- its known cost is no higher
  pub offer-kept : {x : Unit {0}} → get_or known v 0 ≢ 0 → get_or known v 0 ≤ c + 1 → Offered u to estimate s (Ok x) s
  unfolding held
  offer-kept h k = record {
    readied = (R, omega arith, refl);
    goes = λ A m ms e f g q p T. trying_skip A.sound T (rw (f, g) (no_cheaper c (get_or known v 0) (omega arith) (omega arith)));
  }

  module _ (lower : (get_or known v 0 ≡ 0) ⊎ (c + 1 < get_or known v 0)) where
    is-lower : cheaper c (get_or known v 0) ≡ true
    is-lower = is-cheaper c (get_or known v 0) (elim lower [ inl e ↦ inl e | inr h ↦ inr (omega arith) ])

    -- a push is due and the waiting entries fill the queue
    pub offered-full : {e : QueueFull} → places_of s.queue.now ≤ s.line.waiting → Offered u to estimate s (Err e) s
    unfolding held
    offered-full h = record {
      readied = tt;
      goes = λ A m ms e f g q p T. trying_full A.sound T (rw (f, g) is-lower) (omega (arith, p, length_entries s.line.width s.queue.now s.line.waiting));
    }

    -- the push
    pub offer-pushed : {x : Unit {0}} (t : Work) → s.line.waiting < places_of s.queue.now → length t.queue.now ≡ length s.queue.now
        → Joined s.line.width s.queue.now s.line.waiting (c + estimate) (s.line.serial + 1) v t.queue.now
        → t.known.now ≡ set known v (c + 1) → t.previous.now ≡ set s.previous.now v (u + 1)
        → t.line ≡ record { waiting = s.line.waiting + 1; serial = s.line.serial + 1; width = s.line.width }
        → Offered u to estimate s (Ok x) t
    unfolding held push
    offer-pushed t r l P k b w = record {
      readied = (record { heap = rw (w, add-one s.line.waiting) P.order; fits = rw w (omega (arith, ap places_in l)) }, rw w (omega arith), rw w);
      goes = λ A m ms e f g q p T.
          trying_push A.sound T (rw (f, g) is-lower) (omega (arith, p, length_entries s.line.width s.queue.now s.line.waiting)) _ (record {
            known = rw (k, f, g, add-one);
            previous = rw (b, f, e, add-one);
            waiting = rw (w, f, g, q, add-one, ← add-one s.line.serial) P.same;
            serial = rw w (sym (add-one s.line.serial));
            expanded = refl;
          });
    }
