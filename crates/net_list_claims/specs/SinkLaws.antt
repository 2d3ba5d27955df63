-- Laws of a good sheet's BlockPower sinks: each has a facing, so a repeater from its approach to its terminal has a direction.
use Rattle.std.specs.Prelude.{◌≡◌, refl, ◌≢◌, false, List, [], ◌∷◌, map, ℕ, zero, suc, ◌+◌, ◌-◌, ◌<◌, eqb, leb, replicate, Some, None, Option, Result, Ok, Err}
use Rattle.std.proofs.Common.{sym, ap, ◌∙◌, inl, arith, leb-false}
use Rattle.std.proofs.Math.Logic.{inr}
use Rattle.std.proofs.Math.ListN.{length}
use Rattle.std.proofs.lemmas.List.{length-map}
use Rattle.std.proofs.Math.Seq.{take_at}
use Rattle.std.proofs.lemmas.Bool.{eqb-false}
use Rattle.basics.specs.Tests.{ask, never}
use Rattle.basics.specs.Lists.{In, every_in, every_map}
use Rattle.room.specs.declared.Room.{Room}
use Rattle.room.specs.Room.{Within}
use Rattle.room.specs.Units.{no_facing, wire}
use Rattle.port_realization.specs.declared.EndFault.{EndFault}
use Rattle.port_realization.specs.declared.Realized.{Realized}
use Rattle.job_sheet.specs.declared.Sink.{Sink}
use Rattle.job_sheet.specs.declared.Judgement.TheVariants as judgement
use Rattle.job_sheet.specs.Version.{version_in}
use Rattle.job_sheet.specs.Sheet.{Contents, max_sinks, is_good, judged, sink_fault}
use Rattle.job_sheet.specs.Places.{shaped}
use Rattle.job_sheet.proofs.AcceptedLaws.{no_fault, sink-within}
use Rattle.ends.specs.declared.Tap.{Tap}
use Rattle.ends.specs.Ends.{sink_end, due_for, is_due, first_due, no_tap, tap_from, tap_of, taps_in, fault_by, fault_of, ends_of}
use Rattle.ends.specs.EndLaws.{other-due, by-good, NoneFor, none_for}
use Rattle.ends.specs.Ends as endings
use Rattle.repeaters.specs.Repeaters.{facing_of}
use Rattle.job_list.specs.declared.Memory.{Memory}
use Rattle.job_list.specs.Judged.{same_ground, contents_at, net_judgement}
use Rattle.job_list.specs.GoodNets.{GoodNet}
use Rattle.other_nets.specs.Others.{ends_at}
use Rattle.laying.specs.Statements.{opposite_facing}
use Rattle.laying.specs.FacingLaws.{power_faces}

-- the opposite of a facing is one
opposite-some : (facing : ℕ) → opposite_facing facing ≢ no_facing
unfolding opposite_facing
opposite-some facing e =
    ask (leb facing 2)
    (λ t. let z : facing + 2 ≡ 0 = rw t at e in omega arith)
    (λ f. let z : facing - 2 ≡ 0 = rw f at e in let h : 2 < facing = leb-false facing 2 f in omega arith)

-- ---- no number is due for any end

none-due : (due : EndFault) (place : ℕ) (rs : List (Result Realized EndFault)) → first_due due place rs ≡ None → (r : Result Realized EndFault) → In r rs → due_for r ≢ Some due
unfolding first_due
none-due due place [] e r i = absurd i
none-due due place (q ∷ rs) e r i =
    ask (is_due due (due_for q))
    (λ t. never (cc (rw t at e)))
    (λ f. on f (none-due due (suc place) rs (rw f at e) r) i)
  where
    on : is_due due (due_for q) ≡ false → (In r rs → due_for r ≢ Some due) → In r (q ∷ rs) → due_for r ≢ Some due
    on f rest (inl s) = rw s (other-due _ _ f)
    on f rest (inr j) = rest j

in_map : {X Y : Type 0} (f : X → Y) (xs : List X) (x : X) → In x xs → In (f x) (map f xs)
in_map f [] x i = absurd i
in_map f (y ∷ ys) x (inl e) = inl (ap f e)
in_map f (y ∷ ys) x (inr i) = inr (in_map f ys x i)

-- where a member of the mapped list comes from
record From {X Y : Type 0} (f : X → Y) (xs : List X) (y : Y) : Type 0 where
  pub it : X
  pub there : In it xs
  pub is : y ≡ f it

from_map : {X Y : Type 0} (f : X → Y) (xs : List X) (y : Y) → In y (map f xs) → From f xs y
from_map f [] y i = absurd i
from_map f (x ∷ xs) y (inl e) = record { it = x; there = inl refl; is = e }
from_map f (x ∷ xs) y (inr i) = let F = from_map f xs y i in record { it = F.it; there = inr F.there; is = F.is }

-- ---- one sink

tap-directed : (R : Room) (k : Sink) → Within R k.end.at → NoneFor (sink_end R k)
    → (tap_of R k).wire ≡ false → facing_of R (tap_of R k).approach (tap_of R k).terminal ≢ no_facing
unfolding tap_of
tap-directed R k w n = go (sink_end R k) refl n
  where
    go : (r : Result Realized EndFault) → sink_end R k ≡ r → NoneFor r → (tap_from (eqb k.end.port wire) k.tail r).wire ≡ false
        → facing_of R (tap_from (eqb k.end.port wire) k.tail r).approach (tap_from (eqb k.end.port wire) k.tail r).terminal ≢ no_facing
    go (Ok r) q x f = λ e. opposite-some k.end.facing (sym (power_faces R k w (eqb-false _ _ f) r.terminal r.approach q) ∙ e)
    go (Err fault) q x f = absurd (x fault refl)

-- ---- all sinks of a good sheet

module _ {M : Memory} {F : Contents} {k : ℕ} {sheet : List ℕ} (G : GoodNet M F k sheet) where
  abbrev J : Contents
  J = contents_at sheet

  good-judged : judged (version_in sheet) J ≡ judgement.Good
  unfolding net_judgement
  good-judged =
      ask (shaped (version_in sheet) sheet)
      (λ t. ask (same_ground F J) (λ s. rw (t, s) at G.judgement) (λ n. let z : judgement.Sheet ≡ judgement.Good = rw (t, n) at G.judgement in never (cc)))
      (λ f. let z : judgement.Sheet ≡ judgement.Good = rw f at G.judgement in never (cc))

  within-room : (s : Sink) → In s J.sinks → Within J.room s.end.at
  within-room s i = sink-within J.room s (every_in (λ x. is_good (sink_fault J.room x)) J.sinks (rw every_map at (no_fault (version_in sheet) J good-judged).sinks) s i)

  taps-are : taps_in (ends_at sheet).taps ≡ map (tap_of J.room) J.sinks
  unfolding ends_of
  taps-are = take_at (map (tap_of J.room) J.sinks) (replicate (max_sinks - length J.sinks) no_tap) (length J.sinks) (length-map J.sinks (tap_of J.room))

  pub sinks-directed : (tap : Tap) → In tap (taps_in (ends_at sheet).taps) → tap.wire ≡ false → facing_of J.room tap.approach tap.terminal ≢ no_facing
  unfolding fault_of
  sinks-directed tap i =
      let T = from_map (tap_of J.room) J.sinks tap (rw taps-are at i) in
      let z = by-good _ _ G.ends in
      let here : In (sink_end J.room T.it) (endings.ends_at J.room J.source J.sinks) = inr (in_map (sink_end J.room) J.sinks T.it T.there) in
      rw T.is
      (tap-directed J.room T.it (within-room T.it T.there) (none_for _ (none-due EndFault.NoFacing 0 _ z.0 _ here) (none-due EndFault.Outside 0 _ z.1 _ here)))
