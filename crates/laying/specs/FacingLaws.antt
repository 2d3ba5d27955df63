-- The facing of a BlockPower sink's repeater: from the approach to the terminal is opposite to the sink's facing.
use Rattle.std.specs.Prelude.{◌≡◌, refl, ◌≢◌, true, false, ℕ, ◌+◌, ◌≤◌, eqb, Option, Some, None, Result, Ok, Err}
use Rattle.std.proofs.Common.{sym, ap, ◌∙◌, arith}
use borrow.Author.Tests.{eq-eqb, ne_eqb, le-leb, lt-leb}
use Rattle.basics.specs.Tests.{either, ask, ask_same, never, passed}
use Rattle.room.specs.declared.Room.{Room}
use Rattle.room.specs.declared.Pos.{Pos}
use Rattle.room.specs.Room.{Within, pos_of, between, by}
use Rattle.room.specs.Units.{repeater, north, east, south, west, wire, facing_horizontal, facing_move, ahead}
use Rattle.room.specs.MoveLaws.{Moved, leads}
use Rattle.port_realization.specs.declared.EndFault.{EndFault}
use Rattle.port_realization.specs.declared.Realized.{Realized}
use Rattle.port_realization.specs.Ports.{terminal_of, approach_of, realized_of}
use Rattle.port_realization.specs.PortLaws.{sink-inside}
use Rattle.job_sheet.specs.declared.Sink.{Sink}
use Rattle.ends.specs.Ends.{sink_end, tap_of}
use Rattle.repeaters.specs.Repeaters.{facing_by, facing_of}
use Rattle.laying.specs.Laying.{Laid, placed, laid_sink}
use Rattle.laying.specs.Statements.{opposite_facing}

-- ---- the facing of a step by what changes

module _ (p q : Pos) (level : p.y ≡ q.y) where
  faces_east : p.x + 1 ≡ q.x → p.z ≡ q.z → facing_by p q ≡ east
  unfolding facing_by
  faces_east a b = rw (eq-eqb p.y q.y level, eq-eqb (p.x + 1) q.x a, eq-eqb p.z q.z b)

  faces_west : q.x + 1 ≡ p.x → p.z ≡ q.z → facing_by p q ≡ west
  unfolding facing_by
  faces_west a b = rw (eq-eqb p.y q.y level, ne_eqb (p.x + 1) q.x (λ e. omega (arith, e)), eq-eqb (q.x + 1) p.x a, eq-eqb p.z q.z b)

  faces_south : p.z + 1 ≡ q.z → p.x ≡ q.x → facing_by p q ≡ south
  unfolding facing_by
  faces_south a b =
      rw (
        eq-eqb p.y q.y level,
        ne_eqb (p.x + 1) q.x (λ e. omega (arith, e)),
        ne_eqb (q.x + 1) p.x (λ e. omega (arith, e)),
        eq-eqb (p.z + 1) q.z a,
        eq-eqb p.x q.x b,
      )

  faces_north : q.z + 1 ≡ p.z → p.x ≡ q.x → facing_by p q ≡ north
  unfolding facing_by
  faces_north a b =
      rw (
        eq-eqb p.y q.y level,
        ne_eqb (p.x + 1) q.x (λ e. omega (arith, e)),
        ne_eqb (q.x + 1) p.x (λ e. omega (arith, e)),
        ne_eqb (p.z + 1) q.z (λ e. omega (arith, e)),
        eq-eqb (q.z + 1) p.z a,
        eq-eqb p.x q.x b,
      )

-- ---- back from the cell ahead

moved_back : (p q : Pos) (facing : ℕ) → facing_horizontal facing ≡ true → Moved p (facing_move facing) q → facing_by q p ≡ opposite_facing facing
unfolding facing_move opposite_facing between
moved_back p q facing t m =
    let l : 1 ≤ facing = search passed in
    let h : facing ≤ 4 = search passed in
    ask_same facing 1 (λ e. to-south (rw e at m) e)
    (λ a. ask_same facing 2 (λ e. to-west (rw e at m) e)
    (λ b. ask_same facing 3 (λ e. to-north (rw e at m) e)
    (λ c. let e : facing ≡ 4 = omega (arith, l, h, a, b, c) in to-east (rw e at m) e)))
  where
    to-south : Moved p (by 1 1 0) q → facing ≡ 1 → facing_by q p ≡ opposite_facing facing
    to-south v e = rw e (faces_south q p (omega (arith, v.y_by)) (omega (arith, v.z_by)) (omega (arith, v.x_by)))

    to-west : Moved p (by 2 1 1) q → facing ≡ 2 → facing_by q p ≡ opposite_facing facing
    to-west v e = rw e (faces_west q p (omega (arith, v.y_by)) (omega (arith, v.x_by)) (omega (arith, v.z_by)))

    to-north : Moved p (by 1 1 2) q → facing ≡ 3 → facing_by q p ≡ opposite_facing facing
    to-north v e = rw e (faces_north q p (omega (arith, v.y_by)) (omega (arith, v.z_by)) (omega (arith, v.x_by)))

    to-east : Moved p (by 0 1 1) q → facing ≡ 4 → facing_by q p ≡ opposite_facing facing
    to-east v e = rw e (faces_east q p (omega (arith, v.y_by)) (omega (arith, v.x_by)) (omega (arith, v.z_by)))

ahead-back : (R : Room) (n facing v : ℕ) → facing_horizontal facing ≡ true → ahead R n facing ≡ Some v → facing_of R v n ≡ opposite_facing facing
unfolding ahead
ahead-back R n facing v t e = moved_back (pos_of R n) (pos_of R v) facing t (leads R n (facing_move facing) v (rw t at e)).moved

-- ---- a BlockPower sink that no number refuses

module _ (R : Room) (k : Sink) (inside : Within R k.end.at) (power : k.end.port ≢ wire) (terminal approach : ℕ) (end : sink_end R k ≡ Ok (record { terminal = terminal; approach = approach })) where
  horizontal : facing_horizontal k.end.facing ≡ true
  unfolding sink_end realized_of terminal_of
  horizontal = ask (facing_horizontal k.end.facing) (λ t. t) (λ f. never (cc (rw (ne_eqb k.end.port wire power, f) at end)))

  pub power_faces : facing_of R approach terminal ≡ opposite_facing k.end.facing
  unfolding sink_end approach_of
  power_faces =
      let S = sink-inside R k.end.at inside k.end.port k.end.facing terminal approach end in
      ahead-back R terminal k.end.facing approach horizontal (rw horizontal at S.approach_is)

  -- so its terminal becomes a Repeater "facing opposite to the sink's facing"
  pub power-laid : (L : Laid) → laid_sink R (tap_of R k) L ≡ placed repeater (opposite_facing k.end.facing) terminal L
  unfolding laid_sink tap_of
  power-laid L = rw (end, ne_eqb k.end.port wire power) (ap (λ (x : ℕ). placed repeater x terminal L) power_faces)
