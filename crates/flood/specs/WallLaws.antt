-- Laws of the walls: the twelve moves of a cell, the bytes that are written, and that obstacles count on the cells of the room alone.
use Rattle.std.specs.Prelude.{◌≡◌, refl, Bool, true, false, List, [], ◌∷◌, ◌++◌, map, ℕ, ◌+◌, ◌*◌, ◌/◌, ◌%◌, ◌≤◌, ◌<◌, ltb, length, get_or, set, take, drop, replicate, Option, Some, None}
use Rattle.std.proofs.Common.{sym, ap, ◌∙◌, mul_comm, arith}
use Rattle.std.proofs.Math.Path.{fun_ext}
use Rattle.std.proofs.Math.Arith.{digits_div, digits_mod}
use Rattle.basics.specs.Lists.{joined}
use Rattle.basics.specs.Counts.{bit}
use Rattle.basics.specs.Zeros.{zeros-long, take_zeros, drop_zeros}
use Rattle.room.specs.declared.Room.{Room}
use Rattle.room.specs.declared.Pos.{Pos}
use Rattle.room.specs.declared.Move.{Move}
use Rattle.room.specs.Room.{volume, pos_of, moves, move_at, neighbour_at, neighbour}
use Rattle.room.specs.MoveLaws.{leads}
use Rattle.flood.specs.Walls.{reason_at, reason_by, free_at, free_by, reached_by, marks_by, wall_byte, wall_at, walls_over, walls_by, marked_in, WallsWritten, WallsTold}
use Rattle.flood.specs.Flooding.{Written}
use Rattle.flood.specs.TableLaws.{tabled-long, tabled-at, tabled-same, written_next, written_skip}

-- ---- where a move leads, from the cell's position

module _ (R : Room) (u : ℕ) {at : Pos} (here : at ≡ pos_of R u) (i : ℕ) {place : Option ℕ} (e : place ≡ neighbour_at R at (move_at i)) where
  pub place_is : place ≡ neighbour R u (move_at i)
  unfolding neighbour
  place_is = rw here at e

  pub place_in : (v : ℕ) → place ≡ Some v → v < volume R
  place_in v g = (leads R u (move_at i) v (sym place_is ∙ g)).inside

-- ---- the bytes of a cell, one after another

module _ (R : Room) (obstacle : ℕ → ℕ) (reached : ℕ → Bool) where
  wall_at_lem : (u i : ℕ) → i < 12 → wall_at R obstacle reached (12 * u + i) ≡ wall_byte R obstacle reached u i
  wall_at_lem u i h =
      let d : (12 * u + i) / 12 ≡ u = rw (mul_comm 12 u) (digits_div u h) in
      let m : (12 * u + i) % 12 ≡ i = rw (mul_comm 12 u) (digits_mod u h) in
      rw (d, m)

  -- byte 12u + i of the walls
  pub walls-at : (u i : ℕ) → u < volume R → i < 12 → get_or (walls_over R obstacle reached) (12 * u + i) 0 ≡ wall_byte R obstacle reached u i
  walls-at u i h k = tabled-at (12 * volume R) (wall_at R obstacle reached) (12 * u + i) (omega arith) ∙ wall_at_lem u i k

  module _ {walls : List ℕ} {u : ℕ} (h : u < volume R) where
    -- of a cell that is reached
    pub wall_next : {i : ℕ} → Written (wall_at R obstacle reached) (12 * volume R) walls (12 * u + i) → i < 12 → reached u ≡ true → (x : ℕ)
        → x ≡ reason_by R obstacle u i → Written (wall_at R obstacle reached) (12 * volume R) (set walls (12 * u + i) x) (12 * u + (i + 1))
    wall_next {i} W k t x e =
        let n : 12 * u + i + 1 ≡ 12 * u + (i + 1) = omega arith in
        rw n at (written_next (wall_at R obstacle reached) W (omega arith) x (e ∙ sym (wall_at_lem u i k ∙ rw t)))

    -- of another
    pub wall_skip : Written (wall_at R obstacle reached) (12 * volume R) walls (12 * u) → reached u ≡ false
        → Written (wall_at R obstacle reached) (12 * volume R) walls (12 * (u + 1))
    wall_skip W f =
        written_skip (wall_at R obstacle reached) W (12 * (u + 1)) (omega arith) (omega arith)
        (λ k a b. let e : k / 12 ≡ u = omega arith in rw (e, f))

pub wall_first : {f : ℕ → ℕ} {n : ℕ} {walls : List ℕ} (u : ℕ) → Written f n walls (12 * u) → Written f n walls (12 * u + 0)
wall_first u W = let e : 12 * u ≡ 12 * u + 0 = omega arith in rw e at W

-- ---- obstacles count on the cells of the room alone

module _ (R : Room) (f g : ℕ → ℕ) (same : (v : ℕ) → v < volume R → f v ≡ g v) where
  module _ (u : ℕ) where
    free-same : (m : Move) (place : Option ℕ) → neighbour R u m ≡ place → free_at f place ≡ free_at g place
    free-same m None e = refl
    free-same m (Some v) e = rw (same v (leads R u m v e).inside)

    joined_same : (ms : List Move) → joined (map (λ (m : Move). free_at f (neighbour R u m)) ms) ≡ joined (map (λ (m : Move). free_at g (neighbour R u m)) ms)
    joined_same [] = refl
    joined_same (m ∷ ms) = λ i. free-same m (neighbour R u m) refl i ++ joined_same ms i

    free-by-same : free_by R f u ≡ free_by R g u
    unfolding free_by
    free-by-same = joined_same moves

    reason-same : (i : ℕ) → reason_by R f u i ≡ reason_by R g u i
    reason-same i = go (neighbour R u (move_at i)) refl
      where
        go : (place : Option ℕ) → neighbour R u (move_at i) ≡ place → reason_at f place ≡ reason_at g place
        go None e = refl
        go (Some v) e = same v (leads R u (move_at i) v e).inside

  all-free : free_by R f ≡ free_by R g
  all-free = fun_ext (λ u. free-by-same u)

  reached-same : (start v : ℕ) → reached_by R f start v ≡ reached_by R g start v
  unfolding reached_by
  reached-same start v = rw all-free

  pub marks-same : (start : ℕ) → marks_by R f start ≡ marks_by R g start
  marks-same start = tabled-same (volume R) _ _ (λ v h. ap bit (reached-same start v))

  pub walls-same : (start : ℕ) → walls_by R f start ≡ walls_by R g start
  walls-same start = tabled-same (12 * volume R) _ _ (λ k h. rw (reached-same start (k / 12), reason-same (k / 12) (k % 12)))

-- ---- the walls of the cells that are marked are those of the cells reached

marked-bit : (b : Bool) → ltb 0 (bit b) ≡ b
marked-bit true = refl
marked-bit false = refl

module _ (R : Room) (obstacle : ℕ → ℕ) (start : ℕ) where
  marked-reached : (v : ℕ) → v < volume R → marked_in (marks_by R obstacle start) v ≡ reached_by R obstacle start v
  marked-reached v h = rw (tabled-at (volume R) (λ x. bit (reached_by R obstacle start x)) v h) (marked-bit (reached_by R obstacle start v))

  walls-marked : walls_over R obstacle (marked_in (marks_by R obstacle start)) ≡ walls_by R obstacle start
  walls-marked = tabled-same (12 * volume R) _ _ (λ k h. rw (marked-reached (k / 12) (cell_below k h)))
    where
      cell_below : (k : ℕ) → k < 12 * volume R → k / 12 < volume R
      cell_below k h = omega arith

  pub marks-long : {marks : List ℕ} → marks ≡ marks_by R obstacle start → length marks ≡ volume R
  marks-long e = ap length e ∙ tabled-long (volume R) (λ v. bit (reached_by R obstacle start v))

  -- what the two loops leave
  pub walls-written : {marks walls : List ℕ} → marks ≡ marks_by R obstacle start → walls ≡ walls_over R obstacle (marked_in marks) → WallsWritten R obstacle start marks walls
  walls-written m w = record { marks-are = m; walls-are = rw m at w ∙ walls-marked }

-- ---- the first cells of both outputs, which are cleared, are lent on

module _ (R : Room) (reached walls : List ℕ) {v : ℕ} (e : v ≡ volume R) {cleared-reached cleared-walls : List ℕ} (r : cleared-reached ≡ replicate (length reached) 0)
    (w : cleared-walls ≡ replicate (length walls) 0) (r-enough : volume R ≤ length reached) (w-enough : 12 * volume R ≤ length walls) where
  pub reached_zero : take v cleared-reached ≡ replicate (volume R) 0
  reached_zero = rw (e, r) (take_zeros (volume R) (length reached) r-enough)

  pub reached-long : v ≡ length (take v cleared-reached)
  reached-long = e ∙ sym (zeros-long reached_zero)

  pub walls_zero : take (12 * v) cleared-walls ≡ replicate (12 * volume R) 0
  walls_zero = rw (e, w) (take_zeros (12 * volume R) (length walls) w-enough)

  pub walls-long : 12 * v ≡ length (take (12 * v) cleared-walls)
  walls-long = ap (λ (n : ℕ). 12 * n) e ∙ sym (zeros-long walls_zero)

  pub walls-told : (obstacle : ℕ → ℕ) (start : ℕ) {marks bricks : List ℕ} → WallsWritten R obstacle start marks bricks
      → WallsTold R obstacle start reached walls (marks ++ drop v cleared-reached) (bricks ++ drop (12 * v) cleared-walls)
  walls-told obstacle start W = record {
    reached-is = rw (W.marks-are, e, r, drop_zeros (volume R) (length reached), tabled-long (volume R) (λ x. bit (reached_by R obstacle start x)));
    walls-is = rw (W.walls-are, e, w, drop_zeros (12 * volume R) (length walls), tabled-long (12 * volume R) (wall_at R obstacle (reached_by R obstacle start)));
  }
