-- Moves tried one after another: the invariant of the loops over a column's moves and over the columns.
use Rattle.std.specs.Prelude.{◌≡◌, refl, false, List, [], ◌∷◌, ◌++◌, ℕ, zero, suc, ◌+◌, ◌-◌, ◌*◌, ◌≤◌, ◌<◌, length, take, drop, None, Ok, Err}
use Rattle.std.proofs.Common.{sym, ap, ◌∙◌, sub-add_cancel, arith, length-take, take-append-drop}
use Rattle.std.proofs.Math.Bool.{and-false}
use Rattle.room.specs.declared.Room.{Room}
use Rattle.room.specs.declared.Move.{Move}
use Rattle.room.specs.Room.{Good, Within, at, by, moves, cell_of, pos_of, between, stays, neighbour, move_at}
use Rattle.room.specs.RoomLaws.{cell_in, pos_cell, pos_in}
use Rattle.room.specs.MoveLaws.{not_stays, one_less_in, move-small}
use Rattle.room_search.specs.declared.Spot.{Spot}
use Rattle.room_search.specs.declared.Reached.{Reached}
use Rattle.room_search.specs.declared.Field.{Field}
use Rattle.room_search.specs.declared.Work.{Work}
use Rattle.room_search.specs.declared.QueueFull.{QueueFull}
use Rattle.room_search.specs.Fields.{Placed}
use Rattle.room_search.specs.TriedMoves.{HeapReady, Kept, Able, Aside, out, MovesCame, setting, column}
use Rattle.room_search.specs.TryLaws.{tried-no-step, tried-none, tried_then, tried-full}

-- ---- the same memory

pub kept-same : {s : Work} → Kept s s
kept-same = record { known-is = refl; previous-is = refl; queue-is = refl; known-long = refl; previous-long = refl; queue-long = refl }

pub kept_then : {s t u : Work} → Kept s t → Kept t u → Kept s u
kept_then K L = record {
  known-is = L.known-is ∙ K.known-is;
  previous-is = L.previous-is ∙ K.previous-is;
  queue-is = L.queue-is ∙ K.queue-is;
  known-long = L.known-long ∙ K.known-long;
  previous-long = L.previous-long ∙ K.previous-long;
  queue-long = L.queue-long ∙ K.queue-long;
}

module _ (F : Field) (from : Reached) (s₀ : Work) where
  -- the moves `done` are tried, and the search goes on
  pub record TriedAlong (done : List Move) (s : Work) : Type 0 where
    pub tried : MovesCame (setting F s₀ from) done s₀ (Ok tt) s
    pub kept : Kept s₀ s

  pub along-start : HeapReady s₀ → TriedAlong [] s₀
  along-start r = record { tried = tried-none r; kept = kept-same }

  module _ {done : List Move} {s : Work} (I : TriedAlong done s) (more : List Move) {t : Work} where
    pub along-next : {x : Unit {0}} → Kept s t → MovesCame (setting F s from) more s (Ok x) t → TriedAlong (done ++ more) t
    along-next K T = record { tried = tried_then more I.tried (rw I.kept.queue-long at T); kept = kept_then I.kept K }

    pub along-stop : (rest : List Move) {e d : QueueFull} → MovesCame (setting F s from) more s (Err e) t
        → MovesCame (setting F s₀ from) ((done ++ more) ++ rest) s₀ (Err d) t
    along-stop rest T = tried-full rest (tried_then more I.tried (rw I.kept.queue-long at T))

  -- what is asked to try more moves
  pub able-along : {n : ℕ} (k : ℕ) {done : List Move} {s : Work} → Able n F from s₀ → TriedAlong done s → length done + k ≤ n → Able k F from s
  able-along k A I h = record {
    known-long = I.kept.known-long ∙ A.known-long;
    previous-long = I.kept.previous-long ∙ A.previous-long;
    from-placed = A.from-placed;
    cost-most = A.cost-most;
    serial-most = omega (arith, A.serial-most, I.tried.readied.1);
    key_in_one = λ e. A.key_in_one (sym I.tried.readied.2 ∙ e);
    ready = I.tried.readied.0;
  }

-- ---- a column's moves, in their order

pub aside-rising : (R : Room) (from beside : Spot) (m : Move) (y : ℕ) → Aside R from beside m → Aside R from beside (by m.x y m.z)
aside-rising R from beside m y A = record { there = A.there; x_by = A.x_by; level = A.level; z_by = A.z_by }

pub column-next : (m : Move) (y : ℕ) → y < 3 → take y (column m) ++ (by m.x y m.z ∷ []) ≡ take (y + 1) (column m)
column-next m zero h = refl
column-next m (suc zero) h = refl
column-next m (suc (suc zero)) h = refl
column-next m (suc (suc (suc y))) h = absurd (omega arith)

pub column-split : (m : Move) (y : ℕ) → y < 3 → (take y (column m) ++ (by m.x y m.z ∷ [])) ++ drop (y + 1) (column m) ≡ column m
column-split m y h = rw (column-next m y h) (take-append-drop (y + 1) (column m))

pub column-few : (m : Move) (y : ℕ) → y < 3 → length (take y (column m)) + 1 ≤ 3
column-few m y h = omega (arith, length-take y (column m))

pub column-all : (m : Move) (y : ℕ) → y ≡ 3 → take y (column m) ≡ column m
column-all m y e = rw e

-- ---- a column's level cell, if it is in the room

pub column-out : (F : Field) (from : Reached) (s : Work) (m : Move) → HeapReady s → ((y : ℕ) → neighbour F.room from.spot.cell (by m.x y m.z) ≡ None)
    → {x : Unit {0}} → MovesCame (setting F s from) (column m) s (Ok x) s
column-out F from s m ready none = tried_then (by m.x 1 m.z ∷ by m.x 2 m.z ∷ []) (one 0) (tried_then (by m.x 2 m.z ∷ []) (one 1) (one 2))
  where
    one : (y : ℕ) {x : Unit {0}} → MovesCame (setting F s from) (by m.x y m.z ∷ []) s (Ok x) s
    one y = tried-no-step F from s (by m.x y m.z) ready (out (none y))

module _ (R : Room) (from : Spot) (m : Move) (P : Placed R from) where
  pub column_out_x : between 1 (from.at.x + m.x) R.wide ≡ false → (y : ℕ) → neighbour R from.cell (by m.x y m.z) ≡ None
  unfolding stays
  column_out_x e y = not_stays R from.cell (by m.x y m.z) (rw (← P.is, e))

  pub column_out_z : between 1 (from.at.z + m.z) R.deep ≡ false → (y : ℕ) → neighbour R from.cell (by m.x y m.z) ≡ None
  unfolding stays
  column_out_z e y = not_stays R from.cell (by m.x y m.z) (rw (← P.is, e, and-false (between 1 (from.at.y + y) R.high))
      (and-false (between 1 (from.at.x + m.x) R.wide)))

-- the level cell of a column that is in the room
module _ (R : Room) (G : Good R) (from : Spot) (P : Placed R from) (m : Move) (x-low : 1 ≤ from.at.x + m.x) (x-high : from.at.x + m.x ≤ R.wide)
    (z-low : 1 ≤ from.at.z + m.z) (z-high : from.at.z + m.z ≤ R.deep) where
  pub beside-within : Within R (at (from.at.x + m.x - 1) from.at.y (from.at.z + m.z - 1))
  beside-within =
      let w : Within R from.at = rw P.is (pos_in R G from.cell P.inside) in
      record { x_in = one_less_in x-low x-high; y_in = w.y_in; z_in = one_less_in z-low z-high }

  pub beside-aside : (cell : ℕ) → cell ≡ cell_of R (at (from.at.x + m.x - 1) from.at.y (from.at.z + m.z - 1))
      → Aside R from (record { cell = cell; at = at (from.at.x + m.x - 1) from.at.y (from.at.z + m.z - 1) }) m
  beside-aside cell e = record {
    there = record { inside = rw e (cell_in R _ beside-within); is = sym (ap (pos_of R) e ∙ pos_cell R _ beside-within) };
    x_by = sub-add_cancel x-low;
    level = refl;
    z_by = sub-add_cancel z-low;
  }

-- ---- the four columns are the twelve moves

pub columns_next : (k : ℕ) → k < 4 → take (k * 3) moves ++ column (move_at (k * 3)) ≡ take ((k + 1) * 3) moves
unfolding moves
columns_next zero h = refl
columns_next (suc zero) h = refl
columns_next (suc (suc zero)) h = refl
columns_next (suc (suc (suc zero))) h = refl
columns_next (suc (suc (suc (suc k)))) h = absurd (omega arith)

pub columns_split : (k : ℕ) → k < 4 → (take (k * 3) moves ++ column (move_at (k * 3))) ++ drop ((k + 1) * 3) moves ≡ moves
columns_split k h = rw (columns_next k h) (take-append-drop ((k + 1) * 3) moves)

pub columns_few : (k : ℕ) → k < 4 → length (take (k * 3) moves) + 3 ≤ 12
columns_few k h = omega (arith, length-take (k * 3) moves)

pub columns_small : (k : ℕ) → k < 4 → ((move_at (k * 3)).x ≤ 2) × ((move_at (k * 3)).z ≤ 2)
unfolding moves
columns_small k h = let s = move-small (k * 3) (omega arith) in (s.x_small, s.z_small)

pub columns_all : (k : ℕ) → k ≡ 4 → take (k * 3) moves ≡ moves
unfolding moves
columns_all k e = rw e
