-- Laws of a whole net laid: what its functions hand on to one another, and that together they lay the net.
use Rattle.std.specs.Prelude.{◌≡◌, List, ℕ, length}
use Rattle.std.proofs.Common.{ap, ◌∙◌}
use Rattle.basics.specs.Folds.{along}
use Rattle.room.specs.declared.Room.{Room}
use Rattle.ends.specs.declared.Taps.{Taps}
use Rattle.branches.specs.declared.BranchLengths.{BranchLengths}
use Rattle.repeaters.specs.Links.{linked_cells}
use Rattle.laying.specs.Laying.{Net, Laid, laid_cell, laid_repeater, laid_sink, marked_cells, parents_on, laid_net}
use Rattle.laying.specs.Layable.{RoomHeld, TapsHeld, MarksHeld, Rootable, TreeRooted, Layable}

pub held_on : {R : Room} {kinds facings : List ℕ} → RoomHeld R kinds facings → {kinds' facings' : List ℕ} → length kinds' ≡ length kinds → length facings' ≡ length facings
    → RoomHeld R kinds' facings'
held_on H k f = record { good = H.good; kinds-long = k ∙ H.kinds-long; facings-long = f ∙ H.facings-long }

module _ {R : Room} {source : ℕ} {T : Taps} {L : BranchLengths} {cells occupied repeaters kinds facings links parents line : List ℕ}
    (P : Layable R source T L cells occupied repeaters kinds facings links parents line) where
  pub net_rootable : Rootable R source L cells links parents line
  net_rootable = record { good = P.good; source_in = P.net.source_in; ready = P.ready; links-long = P.links-long; parents-long = P.parents-long; line-long = P.line-long }

  pub net-held : RoomHeld R kinds facings
  net-held = record { good = P.good; kinds-long = P.kinds-long; facings-long = P.facings-long }

  pub net-taps : TapsHeld T
  net-taps = record { few = P.net.taps_in_lem.few; whole = P.net.taps_in_lem.whole }

  pub net-marks : {links' : List ℕ} → length links' ≡ length links → MarksHeld R occupied repeaters links'
  net-marks e = record { occupied-long = P.occupied-long; repeaters-long = P.repeaters-long; links-long = e ∙ P.links-long }

pub net-laid : (R : Room) (N : Net) (links parents : List ℕ) → TreeRooted R N.source N.branches links parents → (room wired directed done : Laid)
    → wired ≡ along (laid_cell R (linked_cells R links) N.taps N.repeaters) (marked_cells R N.occupied) room
    → directed ≡ along (laid_repeater R parents) (marked_cells R N.repeaters) wired
    → done ≡ along (laid_sink R) N.taps directed → done ≡ laid_net R N room
unfolding laid_net
net-laid R N links parents T room wired directed done a b c =
    c
    ∙ ap (along (laid_sink R) N.taps)
    (b
    ∙ ap (along (laid_repeater R parents) (marked_cells R N.repeaters)) a
    ∙ ap (λ (ps : List ℕ). along (laid_repeater R ps) (marked_cells R N.repeaters) (along (laid_cell R (linked_cells R links) N.taps N.repeaters) (marked_cells R N.occupied) room)) T.rooted
    ∙ ap (λ (next : ℕ → List ℕ). along (laid_repeater R (parents_on R N)) (marked_cells R N.repeaters) (along (laid_cell R next N.taps N.repeaters) (marked_cells R N.occupied) room)) T.near)
