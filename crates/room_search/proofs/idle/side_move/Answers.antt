-- `side_move` meets its contract: the four columns in the order of the twelve moves.
use Rattle.std.proofs.Common.{ℕ, zero, suc, ◌≡◌, ◌*◌, ◌<◌, [], ◌∷◌, refl, get_or, arith}
use Rattle.room.specs.Room.{moves, move_at, by}
use Rattle.room_search.proofs.idle.side_move.Goals as goal

first_of : (k : ℕ) → k < 4 → get_or (by 2 0 1 ∷ by 0 0 1 ∷ by 1 0 2 ∷ by 1 0 0 ∷ []) k (by 0 0 0) ≡ move_at (k * 3)
unfolding moves
first_of zero h = refl
first_of (suc zero) h = refl
first_of (suc (suc zero)) h = refl
first_of (suc (suc (suc zero))) h = refl
first_of (suc (suc (suc (suc k)))) h = absurd (omega arith)

pub returns : goal.returns
returns c = first_of c.args.side c.requires
