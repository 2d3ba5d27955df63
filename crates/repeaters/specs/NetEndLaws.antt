-- Laws of a net's ends: marked one after another; and that the repeaters are placed off them.
use Rattle.std.specs.Prelude.{◌≡◌, List, ℕ, ◌<◌, eqb, length, get_or}
use Rattle.std.proofs.Common.{ap, ◌∙◌}
use Rattle.basics.specs.Lists.{any}
use Rattle.basics.specs.Zeros.{zeros-long}
use Rattle.room.specs.declared.Room.{Room}
use Rattle.routing_resources.specs.Marks.{marked_by}
use Rattle.routing_resources.specs.MarkLaws.{with_length_lem, with_or}
use Rattle.ends.specs.declared.Tap.{Tap}
use Rattle.ends.specs.declared.Taps.{Taps}
use Rattle.ends.specs.Ends.{no_tap, taps_in}
use Rattle.branches.specs.declared.BranchLengths.{BranchLengths}
use Rattle.branches.specs.Branches.{branches_of}
use Rattle.repeaters.specs.Repeaters.{repeater_marks}
use Rattle.repeaters.specs.NetEnds.{tap_holds, is_net_end, net_repeaters, EndsIn}
use Rattle.repeaters.specs.Sinks.{Plannable, Placeable}

pub end_marked : {marks marks' marks'' : List ℕ} (m : List ℕ) (t : Tap) → marks ≡ m → marks' ≡ marked_by (eqb t.terminal) marks → marks'' ≡ marked_by (eqb t.approach) marks'
    → marks'' ≡ marked_by (λ v. tap_holds v t) m
end_marked m t e a b = b ∙ rw (a, e) (with_or 1 (eqb t.terminal) (eqb t.approach) m)

module _ {source : ℕ} {taps : Taps} {marks : List ℕ} (E : EndsIn source taps marks) where
  pub source-there : source < length marks
  source-there = rw E.long E.net.source_in

  pub tap-there : (i : ℕ) → i < taps.count → ((get_or taps.taps i no_tap).terminal < length marks) × ((get_or taps.taps i no_tap).approach < length marks)
  tap-there i h = (rw E.long (E.net.taps_in_lem.terminal_in_lem i h), rw E.long (E.net.taps_in_lem.approach_in i h))

  pub ends-marked : {marks' marks'' : List ℕ} → marks' ≡ marked_by (eqb source) marks → marks'' ≡ marked_by (λ v. any (tap_holds v) (taps_in taps)) marks'
      → marks'' ≡ marked_by (is_net_end source taps) marks
  unfolding is_net_end
  ends-marked a b = b ∙ rw a (with_or 1 (eqb source) (λ v. any (tap_holds v) (taps_in taps)) marks)

-- ---- with the ends marked, the repeaters can be planned

module _ {R : Room} {source : ℕ} {taps : Taps} {L : BranchLengths} {cells repeaters forbidden links parents line : List ℕ}
    (P : Placeable R source taps L cells repeaters forbidden links parents line) where
  pub ends_in : EndsIn source taps forbidden
  ends_in = record { room = R; net = P.net; long = zeros-long P.forbidden-clear }

  pub plannable : {forbidden' : List ℕ} → forbidden' ≡ marked_by (is_net_end source taps) forbidden → Plannable R source taps L cells forbidden' repeaters links parents line
  plannable f = record {
    good = P.good;
    source_in = P.net.source_in;
    taps_in_lem = P.net.taps_in_lem;
    laid = P.laid;
    forbidden-long = rw f (with_length_lem 1 (is_net_end source taps) forbidden ∙ zeros-long P.forbidden-clear);
    unmarked = P.repeaters-clear;
    links-long = P.links-long;
    parents-long = P.parents-long;
    line-long = P.line-long;
  }

  pub net-placed : (limit : ℕ) {forbidden' repeaters' : List ℕ} → forbidden' ≡ marked_by (is_net_end source taps) forbidden
      → repeaters' ≡ repeater_marks R limit source (taps_in taps) (branches_of L cells) forbidden'
      → repeaters' ≡ net_repeaters R limit source taps (branches_of L cells)
  net-placed limit f r = r ∙ ap (repeater_marks R limit source (taps_in taps) (branches_of L cells)) (f ∙ ap (marked_by (is_net_end source taps)) P.forbidden-clear)
