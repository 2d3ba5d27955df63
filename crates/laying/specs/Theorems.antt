-- What is known of a laid net: what it doesn't name it leaves as it was, blocks stay but where it puts repeaters, and these stand as planned.
use Rattle.std.specs.Prelude.{◌≡◌, ◌≢◌, true, false, List, ℕ, suc, ◌-◌, ◌<◌}
use Rattle.std.proofs.Common.{sym, ap, ◌∙◌, arith}
use Rattle.std.proofs.Math.ListN.{get_or}
use Rattle.basics.specs.Tests.{ask_same, never}
use Rattle.basics.specs.Lists.{In}
use Rattle.basics.specs.Folds.{along}
use Rattle.room.specs.declared.Room.{Room}
use Rattle.room.specs.Room.{volume}
use Rattle.room.specs.Units.{air, repeater}
use Rattle.routing_resources.specs.Marks.{is_marked}
use Rattle.ends.specs.declared.Tap.{Tap}
use Rattle.repeaters.specs.Repeaters.{facing_of}
use Rattle.laying.specs.Laying.{Net, Laid, support_kind, laid_cell, laid_repeater, laid_sink, direction_of, marked_cells, next_on, parents_on, powered_at, laid_net}
use Rattle.laying.specs.Statements.{Keeps, NoRepeater, Unnamed, Stands}
use Rattle.laying.specs.PlacingLaws.{directed}
use Rattle.laying.specs.StandLaws.{Long, placed-long, cell-long, placed-stands, stands_on, has_turn, member_turn, sink-long, sink-repeater}
use Rattle.laying.specs.KeepLaws.{passing_keeps, list-keeps, keeps-all, keeps_on, placed-keeps, cell-keeps, cell_full, sink-keeps}

-- a marked cell is not this one, which isn't marked
apart : (marks : List ℕ) (u v : ℕ) → is_marked marks u ≡ true → is_marked marks v ≡ false → v ≢ u
apart marks u v t f e = never (cc (sym t ∙ (rw e at f)))

module _ (R : Room) (N : Net) (L : Laid) (v : ℕ) where
  abbrev Kept : Laid → Type 0
  Kept M = Keeps L M v

  -- neither the planned repeaters nor those of the sinks
  ends-keep : NoRepeater N v → (M : Laid) → Kept M
      → Kept (along (laid_sink R) N.taps (along (laid_repeater R (parents_on R N)) (marked_cells R N.repeaters) M))
  ends-keep Z M h =
      list-keeps Kept (laid_sink R) N.taps (λ tap x i k. keeps_on k (sink-keeps R N.taps v Z.no_power tap i x)) _
      (passing_keeps Kept (laid_repeater R (parents_on R N)) (is_marked N.repeaters)
      (λ u x t k. keeps_on k (placed-keeps repeater (direction_of R (parents_on R N) u) u x v (apart N.repeaters u v t Z.none-planned))) (volume R) 0 M h)

  -- "cells that no net names keep kind and facing"
  pub others_keep : Unnamed R N v → Keeps L (laid_net R N L) v
  unfolding laid_net
  others_keep U =
      ends-keep U.no_repeater _
      (passing_keeps Kept (laid_cell R (next_on R N) N.taps N.repeaters) (is_marked N.occupied)
      (λ u x t k. keeps_on k (cell-keeps R (support_kind R (next_on R N) N.taps N.repeaters u) (is_marked N.repeaters u) u x v (apart N.occupied u v t U.free) (U.bears-none u t)))
      (volume R) 0 L (keeps-all L v))

  -- what is not Air stays, but where a repeater is put
  pub blocks-keep : NoRepeater N v → get_or L.kinds v 0 ≢ air → Keeps L (laid_net R N L) v
  unfolding laid_net
  blocks-keep Z n =
      ends-keep Z _
      (passing_keeps Kept (laid_cell R (next_on R N) N.taps N.repeaters) (is_marked N.occupied)
      (λ u x t k. keeps_on k (cell_full R (support_kind R (next_on R N) N.taps N.repeaters u) (is_marked N.repeaters u) u x v (λ z. n (sym k.kind ∙ z))))
      (volume R) 0 L (keeps-all L v))

-- a repeater whose parent has a facing to it has that direction
pub direction_is : (R : Room) (parents : List ℕ) (v parent : ℕ) → get_or parents v 0 ≡ suc parent → direction_of R parents v ≡ facing_of R parent v
direction_is R parents v parent e =
    sym (directed R parents v (λ z. let q : suc parent ≡ 0 = sym e ∙ z in absurd (omega arith)))
    ∙ ap (λ (u : ℕ). facing_of R u v) (let q : get_or parents v 0 - 1 ≡ parent = omega (arith, e) in q)

-- ---- what stands

module _ (R : Room) (N : Net) (L : Laid) (H : Long (volume R) L) where
  abbrev wired : Laid
  wired = along (laid_cell R (next_on R N) N.taps N.repeaters) (marked_cells R N.occupied) L

  abbrev turned : Laid
  turned = along (laid_repeater R (parents_on R N)) (marked_cells R N.repeaters) wired

  wired-long : Long (volume R) wired
  wired-long =
      passing_keeps (Long (volume R)) (laid_cell R (next_on R N) N.taps N.repeaters) (is_marked N.occupied)
      (λ u x t. cell-long R (support_kind R (next_on R N) N.taps N.repeaters u) (is_marked N.repeaters u) u x) (volume R) 0 L H

  turned-long : Long (volume R) turned
  turned-long =
      passing_keeps (Long (volume R)) (laid_repeater R (parents_on R N)) (is_marked N.repeaters)
      (λ u x t. placed-long repeater (direction_of R (parents_on R N) u) u x) (volume R) 0 wired wired-long

  -- each planned repeater stands, facing from its parent, but where a sink's stands
  pub planned-stands : (v : ℕ) → v < volume R → is_marked N.repeaters v ≡ true → powered_at N.taps v ≡ false
      → Stands (laid_net R N L) v repeater (direction_of R (parents_on R N) v)
  unfolding laid_net
  planned-stands v h t f =
      list-keeps There (laid_sink R) N.taps (λ tap x i s. stands_on s (sink-keeps R N.taps v f tap i x)) turned
      (has_turn (laid_repeater R (parents_on R N)) (is_marked N.repeaters) (λ x. There x × Long (volume R) x) (Long (volume R)) v
      (λ x q. (placed-stands repeater (direction_of R (parents_on R N) v) v x q h, placed-long repeater (direction_of R (parents_on R N) v) v x q))
      (λ u x m s. (again u x s.0 s.1, placed-long repeater (direction_of R (parents_on R N) u) u x s.1))
      (λ u x m. placed-long repeater (direction_of R (parents_on R N) u) u x) (volume R) 0 (omega arith) (omega arith) t wired wired-long).0
    where
      There : Laid → Type 0
      There x = Stands x v repeater (direction_of R (parents_on R N) v)

      again : (u : ℕ) (x : Laid) → There x → Long (volume R) x → There (laid_repeater R (parents_on R N) u x)
      again u x s l =
          ask_same v u
          (λ e. rw (← e) (placed-stands repeater (direction_of R (parents_on R N) v) v x l h))
          (λ d. stands_on s (placed-keeps repeater (direction_of R (parents_on R N) u) u x v d))

  -- "each BlockPower sink's terminal becomes a Repeater, whatever stands there"
  pub power-stands : (tap : Tap) → In tap N.taps → tap.wire ≡ false → tap.terminal < volume R → get_or (laid_net R N L).kinds tap.terminal 0 ≡ repeater
  unfolding laid_net laid_sink
  power-stands tap i w h =
      (member_turn (laid_sink R) (λ x. (get_or x.kinds tap.terminal 0 ≡ repeater) × Long (volume R) x) (Long (volume R)) tap
      (λ x l. (put x l, sink-long R tap x l))
      (λ b x s. (sink-repeater R h b x s.1 s.0, sink-long R b x s.1))
      (λ b x. sink-long R b x) N.taps i turned turned-long).0
    where
      put : (x : Laid) → Long (volume R) x → get_or (laid_sink R tap x).kinds tap.terminal 0 ≡ repeater
      put x l = rw w (placed-stands repeater (facing_of R tap.approach tap.terminal) tap.terminal x l h).kind-is
