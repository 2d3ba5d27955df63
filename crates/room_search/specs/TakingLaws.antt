-- One taking, as the code meets it: the goal, the node limit passed, the queue full, or the search goes on.
use Rattle.std.specs.Prelude.{◌≡◌, ◌≢◌, ℕ, suc, ◌+◌, ◌-◌, ◌≤◌, ◌<◌, length}
use Rattle.std.proofs.Math.Path.{sym, ap}
use Rattle.std.proofs.Common.{◌∙◌, sub-one, arith}
use mathlib.Core.List.{List, [], ◌++◌, append-nil}
use Rattle.std.proofs.Math.Numerals.{add-one}
use Rattle.std.proofs.Math.ListN.{get_or}
use Rattle.room.specs.Room.{volume, moves}
use Rattle.best_first.specs.Search.{Graph, Answer, Entry, State, one_more_expanded}
use Rattle.best_first.specs.Search as search
use Rattle.best_first.proofs.Entries.{TakenOut, taken-out-taking}
use Rattle.best_first.specs.Statements.{cost_of}
use Rattle.best_first.proofs.Loops.{Going, going-bounded, going-goal, going-limit, going-full, going_try, going_on}
use Rattle.std.specs.Prelude.{Ok, Err}
use Rattle.std.specs.declared.ops.ControlFlow.TheVariants.{Continue, Break}
use Rattle.room_search.specs.declared.Reached.{Reached}
use Rattle.room_search.specs.declared.Field.{Field}
use Rattle.room_search.specs.declared.Work.{Work}
use Rattle.room_search.specs.declared.QueueFull.{QueueFull as FullQueue}
use Rattle.room_search.specs.declared.Outcome.TheVariants.{Arrived, LimitPassed, QueueFull}
use Rattle.room_search.specs.Routing.{places_in, moves_by, graph_of}
use Rattle.room_search.specs.Held.{Left, entries_in, held}
use Rattle.room.specs.Units.{dearest}
use Rattle.room_search.specs.GraphLaws.{sound}
use Rattle.room_search.specs.Fields.{Placed}
use Rattle.room_search.specs.TriedMoves.{places_of, Able, Expansion, Stage, Fitting, MovesCame, setting}
use Rattle.room_search.specs.Takings.{graph_over, Takeable, TakingCame}

-- the entry that comes first is taken out, and was for `cell`
pub record Taken (s : Work) (cell : ℕ) (t : Work) : Type 0 where
  pub left : Left s.line.width s.queue.now s.line.waiting cell t.queue.now
  pub known_same : t.known.now ≡ s.known.now
  pub previous-same : t.previous.now ≡ s.previous.now
  pub queue-long : length t.queue.now ≡ length s.queue.now
  pub line : t.line ≡ record { waiting = s.line.waiting - 1; serial = s.line.serial; width = s.line.width }

pub taken : {s : Work} {cell : ℕ} {t : Work} → Left s.line.width s.queue.now s.line.waiting cell t.queue.now → t.known.now ≡ s.known.now → t.previous.now ≡ s.previous.now
    → length t.queue.now ≡ length s.queue.now → t.line ≡ record { waiting = s.line.waiting - 1; serial = s.line.serial; width = s.line.width } → Taken s cell t
taken L k p q l = record { left = L; known_same = k; previous-same = p; queue-long = q; line = l }

-- the cell of an entry that is taken out is known
module _ {F : Field} {s : Work} (T : Takeable F s) {cell : ℕ} {queue' : List ℕ} (L : Left s.line.width s.queue.now s.line.waiting cell queue') where
  left_in : (cell < volume F.room) × (0 < get_or s.known.now cell 0)
  left_in = T.cells (record { key = L.key; serial = L.serial; cell = cell }) (taken-out-taking L.out).from

  pub left-inside : cell < volume F.room
  left-inside = left_in.0

  pub left-known : 1 ≤ get_or s.known.now cell 0
  left-known = left_in.1

module _ {F : Field} {s : Work} (expanded : ℕ) (T : Takeable F s) {cell : ℕ} {t : Work} (K : Taken s cell t) where
  abbrev taken_entry : Entry
  taken_entry = record { key = K.left.key; serial = K.left.serial; cell = cell }

  abbrev rest : List Entry
  rest = entries_in s.line.width t.queue.now (s.line.waiting - 1)

  was-taken-out : TakenOut (entries_in s.line.width s.queue.now s.line.waiting) taken_entry rest
  was-taken-out = K.left.out

  pub cell-known : 1 ≤ get_or t.known.now cell 0
  cell-known = rw K.known_same (left-known T K.left)

  -- the cell's moves can be tried
  pub able : (from : Reached) → from.cost.0 ≡ get_or t.known.now cell 0 - 1 → Placed F.room from.spot → Able 12 F from t
  able from e P = record {
    known-long = rw K.known_same T.known-long;
    previous-long = rw K.previous-same T.previous-long;
    from-placed = P;
    cost-most = rw (e, K.known_same) (omega (arith, T.costs cell));
    serial-most = rw K.line T.serial-most;
    key_in_one = rw (K.line, e, K.known_same) (λ w. omega (arith, T.keys_in_one w cell, left-known T K.left));
    ready = record { heap = rw K.line K.left.order; fits = rw K.line (omega (arith, T.ready.fits, ap places_in K.queue-long)) };
  }

  pub taking-goal : cell ≡ F.goal.cell → TakingCame F s expanded (Break (Arrived (record { 0 = expanded }))) t
  unfolding held graph_of
  taking-goal e = record {
    goes = λ start answer i I. record {
      is = rw (K.known_same, K.previous-same) (going-goal I was-taken-out e);
      previous-inside = rw K.previous-same
          (going-bounded (sound F.room F.config (λ v. get_or F.classes.now v 0) start F.goal.cell (places_of s.queue.now) i F.fits.goal-placed.inside) I).previous_in;
      reached = rw (← e) cell-known;
    };
  }

  module _ (away : cell ≢ F.goal.cell) where
    pub taking-limit : F.config.limit.0 ≤ expanded → TakingCame F s expanded (Break (LimitPassed (record { 0 = expanded + 1 }))) t
    unfolding held graph_of
    taking-limit h = record { goes = λ start answer i I. going-limit I was-taken-out away h ∙ ap search.limit-passed (sym (add-one expanded)) }

    module _ (more : expanded < F.config.limit.0) (from : Reached) (here : from.spot.cell ≡ cell) (paid : from.cost.0 ≡ get_or t.known.now cell 0 - 1) where
      -- the search that tries the moves of the cell taken
      module _ (start : ℕ) (answer : Answer) (i : start < volume F.room)
          (I : Going (graph_over F start s.queue.now) F.config.limit.0 answer (held s expanded)) where
        abbrev G : Graph
        G = graph_over F start s.queue.now

        abbrev now : State
        now = held s expanded

        expansion : Expansion
        expansion = record {
          graph = G;
          degree = 12;
          dearest = dearest F.config;
          sound = sound F.room F.config (λ v. get_or F.classes.now v 0) start F.goal.cell (places_of s.queue.now) i F.fits.goal-placed.inside;
          cell = cell;
          cost = cost_of now cell;
          outcome = search.expand G cell (cost_of now cell) (G.moves cell) (one_more_expanded now rest);
          expanded = suc expanded;
        }

        fitting : Fitting (setting F t from) expansion
        unfolding expansion held
        fitting = record {
          start = start;
          graph_is = ap (λ (p : ℕ). graph_of F.room F.config (λ v. get_or F.classes.now v 0) start F.goal.cell p) (ap places_in (sym K.queue-long));
          cell-is = sym here;
          cost-is = rw (paid, K.known_same) (sym (sub-one (get_or s.known.now cell 0)));
        }

        stage : Stage expansion (moves_by F.room F.config (λ v. get_or F.classes.now v 0) from.spot.cell (moves ++ [])) t
        unfolding expansion held graph_of
        stage = rw (append-nil, here, K.line, K.known_same, K.previous-same) (going_try I was-taken-out away more expansion.sound)

      module _ {u : Work} where
        pub taking-full : {e : FullQueue} → MovesCame (setting F t from) moves t (Err e) u → TakingCame F s expanded (Break (QueueFull (record { 0 = expanded + 1 }))) u
        unfolding expansion held graph_of
        taking-full U = record {
          goes = λ start answer i I.
              going-full I was-taken-out away more (U.goes (expansion start answer i I) (fitting start answer i I) [] (stage start answer i I))
              ∙ ap search.queue-full (sym (add-one expanded));
        }

        pub taking-on : {x y : Unit {0}} → MovesCame (setting F t from) moves t (Ok x) u → TakingCame F s expanded (Continue y) u
        unfolding expansion held graph_of moves_by
        taking-on U = record {
          goes = λ start answer i I. (
            rw add-one (going_on I was-taken-out away more (expansion start answer i I).sound
                (U.goes (expansion start answer i I) (fitting start answer i I) [] (stage start answer i I))),
            U.readied.0,
            rw K.line at U.readied.2,
          );
        }
