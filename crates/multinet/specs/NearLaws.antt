-- A sink's terminal is its approach, or one step from it.
use Rattle.std.specs.Prelude.{◌≡◌, Bool, ℕ, ◌<◌, eqb, get_or, Some, Result, Ok, Err}
use Rattle.std.proofs.Math.Path.{refl}
use Rattle.std.proofs.Math.Logic.{inl, inr}
use Rattle.basics.specs.Tests.{ask}
use Rattle.room.specs.declared.Room.{Room}
use Rattle.room.specs.Room.{Good, Within, volume}
use Rattle.room.specs.Units.{wire, facing_horizontal, facing_move, ahead}
use Rattle.room.specs.MoveLaws.{facing_in}
use Rattle.port_realization.specs.declared.EndFault.{EndFault}
use Rattle.port_realization.specs.declared.Realized.{Realized}
use Rattle.port_realization.specs.Ports.{approach_of}
use Rattle.port_realization.specs.PortLaws.{sink-inside}
use Rattle.job_sheet.specs.declared.Endpoint.{Endpoint}
use Rattle.job_sheet.specs.declared.Sink.{Sink}
use Rattle.job_sheet.specs.declared.Sinks.{Sinks}
use Rattle.job_sheet.specs.Accepted.{SinkList}
use Rattle.ends.specs.Ends.{sinks_in, sink_end, no_tap, tap_from, tap_of, taps_of}
use Rattle.ends.specs.EndLaws.{tap-at}
use Rattle.multinet.specs.Growing.{Near}
use Rattle.repeaters.specs.MaskLaws.{step_back}
use Rattle.room.specs.RoomLaws.{same-cell}

module _ {R : Room} (G : Good R) where
  -- "Approach: terminal plus a horizontal facing, else the terminal itself."
  faced : (facing t a : ℕ) (w : Bool) (limit : ℕ) → t < volume R → approach_of R t facing ≡ Some a → Near R (record { terminal = t; approach = a; wire = w; tail = limit })
  unfolding approach_of ahead
  faced facing t a w limit h e =
      ask (facing_horizontal facing)
      (λ f. inr (step_back (record { from_in = h; move = facing_move facing; listed = facing_in facing; leads = rw f at e }) G))
      (λ n. inl (same-cell t a (rw n at e)))

  tap-near : (k : Sink) → Within R k.end.at → Near R (tap_of R k)
  unfolding tap_of sink_end
  tap-near k w = go (sink_end R k) refl
    where
      e : Endpoint
      e = k.end

      go : (r : Result Realized EndFault) → sink_end R k ≡ r → Near R (tap_from (eqb e.port wire) k.tail r)
      go (Ok r) q = let E = sink-inside R e.at w e.port e.facing r.terminal r.approach q in faced e.facing r.terminal r.approach (eqb e.port wire) k.tail E.terminal_below E.approach_is
      go (Err fault) q = inl refl

  pub taps-near : {k : Sinks} → SinkList R k → (i : ℕ) → i < k.count → Near R (get_or (taps_of R (sinks_in k)).taps i no_tap)
  taps-near S i h = rw (tap-at S i h) (tap-near _ (S.within i h))
