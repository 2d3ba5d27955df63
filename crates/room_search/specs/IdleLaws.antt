-- A move of which nothing comes, tried; and all those that are passed over.
use Rattle.std.specs.Prelude.{◌≡◌, List, [], ◌∷◌, ◌++◌, ℕ, Ok}
use Rattle.std.proofs.Common.{arith}
use Rattle.room.specs.declared.Move.{Move}
use Rattle.room.specs.Room.{by, neighbour}
use Rattle.std.specs.Prelude.{None}
use Rattle.room_search.specs.declared.Reached.{Reached}
use Rattle.room_search.specs.declared.Field.{Field}
use Rattle.room_search.specs.declared.Work.{Work}
use Rattle.room_search.specs.TriedMoves.{HeapReady, Able, MovesCame, setting, column, out}
use Rattle.room_search.specs.OfferLaws.{offer-kept}
use Rattle.room_search.specs.TryLaws.{tried-no-step, tried-offered, tried_then}
use Rattle.room_search.specs.AlongLaws.{TriedAlong, kept-same, along-next}
use Rattle.room_search.specs.IdleMoves.{Idle, no_step, kept, IdleColumn, Scannable}

pub able_scannable : {n : ℕ} {F : Field} {from : Reached} {s : Work} → Able n F from s → Scannable F s.known.now from
able_scannable A = record { known-long = A.known-long; from-placed = A.from-placed; cost-most = A.cost-most }

module _ (F : Field) (from : Reached) (s : Work) (ready : HeapReady s) where
  idle_tried : {x : Unit {0}} (m : Move) → Idle F s.known.now from m → MovesCame (setting F s from) (m ∷ []) s (Ok x) s
  idle_tried m (no_step n) = tried-no-step F from s m ready n
  idle_tried m (kept to T k h) = tried-offered F from s m T (offer-kept from.spot.cell to _ s ready k h)

  idle_column : {x : Unit {0}} (m : Move) → IdleColumn F s.known.now from m → MovesCame (setting F s from) (column m) s (Ok x) s
  idle_column m I =
      tried_then (by m.x 1 m.z ∷ by m.x 2 m.z ∷ []) (idle_tried _ (I 0 (omega arith)))
      (tried_then (by m.x 2 m.z ∷ []) (idle_tried _ (I 1 (omega arith))) (idle_tried _ (I 2 (omega arith))))

-- a side passed over
pub side-passed : {F : Field} {from : Reached} {s₀ s : Work} {done : List Move} (m : Move) → IdleColumn F s.known.now from m → TriedAlong F from s₀ done s
    → TriedAlong F from s₀ (done ++ column m) s
side-passed {F} {from} {s₀} {s} m I T = along-next F from s₀ T (column m) kept-same (idle_column F from s T.tried.readied.0 m I)

-- a column outside the room
pub idle-outside : {F : Field} {known : List ℕ} {from : Reached} (m : Move) → ((y : ℕ) → neighbour F.room from.spot.cell (by m.x y m.z) ≡ None) → IdleColumn F known from m
idle-outside m none y h = no_step (out (none y))
