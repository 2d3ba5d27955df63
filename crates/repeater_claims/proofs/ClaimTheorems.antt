-- ONE CALL FOR REPEATERS: what Claims claims, of each answer of `plan_net`.
use Rattle.std.specs.Prelude.{Result, Ok, Err, ◌≡◌, ◌≢◌, Bool, true, false, ◌&&◌, List, [], ◌++◌, ℕ, ◌+◌, ◌-◌, ◌<◌, eqb, length, get_or, take, replicate}
use Rattle.std.proofs.Math.Path.{refl}
use Rattle.std.proofs.Common.{sym, ap, ◌∙◌, arith, take_at, get_or-append-add, eqb-true}
use Rattle.std.proofs.lemmas.List.{length-replicate}
use Rattle.std.proofs.Math.ListN.{get_or-append}
use Rattle.numbers.specs.Refusals.{buffer_number}
use Rattle.basics.specs.Tests.{ask, ask_less, and_left, never}
use Rattle.basics.specs.Zeros.{zeros}
use Rattle.lent.specs.Lent.{filled}
use Rattle.room.specs.declared.Room.{Room}
use Rattle.room.specs.Room.{volume}
use Rattle.routing_resources.specs.Marks.{is_marked, no_marks}
use Rattle.routing_resources.specs.MarkLaws.{marked-after}
use Rattle.job_sheet.specs.Sheet.{is_good, number_of}
use Rattle.ends.specs.declared.Fault.{Fault}
use Rattle.std.specs.Prelude.{Option, Some, None}
use Rattle.ends.specs.Ends.{sinks_in, fault_of, taps_in}
use Rattle.ends.specs.EndLaws.{source_in_room}
use Rattle.branches.specs.Branches.{marked_count}
use Rattle.repeaters.specs.Repeaters.{planned, repeater_marks}
use Rattle.repeaters.specs.NetEnds.{is_net_end}
use Rattle.repeater_plan.specs.declared.Refused.{Refused}
use Rattle.repeater_plan.specs.Plan.{Net, branches_in, judged, Lent, lengths_of, counts_good, lent_good, Outcome, planned as marked, unplanned, planned_marks, outcome_by, outcome_of, answer_of, lent_after, Promise}
use Rattle.repeater_plan.specs.EntryLaws.{no_fault}
use Rattle.repeater_claims.specs.Between.{StandsBetween}
use Rattle.repeater_claims.specs.LengthLaws.{marks-long}
use Rattle.repeater_claims.specs.BetweenLaws.{path-loose, run-passes, tail_passes, repeater-stands-between}
use Rattle.repeater_claims.specs.Claims.{source_of, taps_for, neighbours_of, parents_of, forbidden_of, run_to, tail_to, runs_of, tails_of, PlanHolds}

-- ---- an answer of repeaters comes of a net that no number refuses

pub record Accepted (N : Net) (count : ℕ) (B B' : Lent) : Type 0 where
  pub good : is_good (judged N) ≡ true
  pub counts : counts_good N ≡ true
  pub ends-good : fault_of N.room N.source (sinks_in N.sinks) ≡ None
  pub counted : count ≡ marked_count (planned_marks N)
  pub marks-are : B'.repeaters ≡ filled (planned_marks N) B.repeaters

module _ (N : Net) (B B' : Lent) (count : ℕ) where
  by_fault : (f : Option Fault) → fault_of N.room N.source (sinks_in N.sinks) ≡ f → is_good (judged N) ≡ true → counts_good N ≡ true
      → Ok count ≡ answer_of (outcome_by (planned_marks N) f) → B' ≡ lent_after (outcome_by (planned_marks N) f) B → Accepted N count B B'
  by_fault None e g c a l = record {
    good = g;
    counts = c;
    ends-good = e;
    counted = ap (λ r. repeaters-of r) a;
    marks-are = ap (λ x. x.repeaters) l;
  }
    where
      repeaters-of : Result ℕ Refused → ℕ
      repeaters-of (Ok n) = n
      repeaters-of (Err why) = 0
  by_fault (Some fault) e g c a l = never (cc)

  pub accepted : Promise N B (Ok count) B' → Accepted N count B B'
  unfolding outcome_of
  accepted P =
      ask (is_good (judged N))
      (λ g. ask (counts_good N && lent_good N.room (lengths_of B))
      (λ t. by_fault (fault_of N.room N.source (sinks_in N.sinks)) refl g (and_left (counts_good N) (lent_good N.room (lengths_of B)) t) (rw (g, t) at P.answer) (rw (g, t) at P.lent_is))
      (λ f. let z : Ok count ≡ Err (record { number = buffer_number; detail = 0 }) = rw (g, f) at P.answer in never (cc)))
      (λ f. let z : Ok count ≡ Err (record { number = number_of (judged N); detail = 0 }) = rw f at P.answer in never (cc))

-- ---- marks with zeros behind them

module _ (marks buffer : List ℕ) {n : ℕ} (long : length marks ≡ n) where
  front-marks : take n (filled marks buffer) ≡ marks
  front-marks = take_at marks (replicate (length buffer - length marks) 0) n long

  marked-front : (v : ℕ) → is_marked (filled marks buffer) v ≡ true → (v < n) × (is_marked marks v ≡ true)
  marked-front v e =
      ask_less v n
      (λ h. (h, ap (λ x. eqb x 1) (sym (get_or-append marks (replicate (length buffer - length marks) 0) 0 v (omega (arith, h, long)))) ∙ e))
      (λ h.
      let q : length marks + (v - n) ≡ v = omega (arith, h, long) in
      let z : get_or (filled marks buffer) v 0 ≡ 0 =
      ap (λ i. get_or (filled marks buffer) i 0) (sym q) ∙ get_or-append-add marks (replicate (length buffer - length marks) 0) (v - n) 0 ∙ zeros (length buffer - length marks) (v - n) in
      let b : eqb 0 1 ≡ true = ap (λ x. eqb x 1) (sym z) ∙ e in never (cc))

-- ---- the claim

module _ {N : Net} {B B' : Lent} {count : ℕ} (A : Accepted N count B B') where
  in_room : source_of N < volume N.room
  in_room = source_in_room N.source (no_fault N A.good).source-within (sinks_in N.sinks) A.ends-good

  long : length (planned_marks N) ≡ volume N.room
  unfolding planned_marks
  long = marks-long N.room N.run (source_of N) (taps_in (taps_for N)) (branches_in N) (forbidden_of N)

  two_in_turn : planned_marks N ≡ tails_of N (runs_of N (no_marks (volume N.room)))
  unfolding planned_marks repeater_marks planned
  two_in_turn = refl

  module _ (v : ℕ) (e : is_marked B'.repeaters v ≡ true) where
    here : (v < volume N.room) × (is_marked (planned_marks N) v ≡ true)
    here = marked-front (planned_marks N) B.repeaters long v (ap (λ l. is_marked l v) (sym A.marks-are) ∙ e)

    stands : StandsBetween N.room (neighbours_of N) (parents_of N) v × (get_or (forbidden_of N) v 0 ≢ 1)
    unfolding planned_marks
    stands = repeater-stands-between N.room N.run in_room (branches_in N) (forbidden_of N) (taps_in (taps_for N)) v here.1

    no_end : is_net_end (source_of N) (taps_for N) v ≡ false
    no_end =
        ask (is_net_end (source_of N) (taps_for N) v)
        (λ t. absurd (stands.1 (eqb-true _ 1 (marked-after (is_net_end (source_of N) (taps_for N)) (no_marks (volume N.room)) v inside ∙ rw t))))
        (λ f. f)
      where
        inside : v < length (no_marks (volume N.room))
        inside = omega (arith, here.0, length-replicate {A = ℕ} (volume N.room) 0)

  plan_holds : PlanHolds N count B'
  plan_holds = record {
    in_turn = ap (take (volume N.room)) A.marks-are ∙ front-marks (planned_marks N) B.repeaters long ∙ two_in_turn;
    counted = A.counted ∙ ap marked_count two_in_turn;
    run-passes = λ tap loose marks. run-passes N.room (neighbours_of N) (parents_of N) (forbidden_of N) tap (path-loose (branches_in N) in_room tap.terminal loose) N.run marks;
    tail_passes = λ tap loose marks. tail_passes N.room (neighbours_of N) (parents_of N) (forbidden_of N) tap (path-loose (branches_in N) in_room tap.terminal loose) marks;
    inside = λ v e. (here v e).0;
    between = λ v e. (stands v e).0;
    no_end = no_end;
  }

-- from the promise alone: each answer of repeaters is so
pub plan_claim : {N : Net} {B B' : Lent} {r : Result ℕ Refused} → Promise N B r B' → {count : ℕ} → r ≡ Ok count → PlanHolds N count B'
plan_claim {N} {B} {B'} P {count} e = plan_holds (accepted N B B' count (rw e at P))
