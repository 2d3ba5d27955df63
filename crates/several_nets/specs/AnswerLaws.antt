-- Laws of a judged list answered over memory of exactly V cells.
use Rattle.std.specs.Prelude.{◌≡◌, refl, ◌≢◌, true, false, ℕ, ◌-◌, ◌<◌, Option, Some, None, Result, Ok, Err}
use Rattle.std.proofs.Math.Path.{sym, ap}
use Rattle.std.proofs.Common.{◌∙◌, eq-eqb, ne_eqb, ltb-true}
use mathlib.Core.List.{List, []}
use native.Mathlib.Omega.{arith}
use Rattle.std.proofs.Math.ListN.{length, replicate}
use Rattle.numbers.specs.Refusals.{done_number, buffer_number, overlap_number}
use Rattle.basics.specs.Tests.{ask_same, never}
use Rattle.basics.specs.Zeros.{cleared-to}
use Rattle.lent.specs.Lent.{touches, filled}
use Rattle.room.specs.declared.Room.{Room}
use Rattle.room.specs.Room.{volume}
use Rattle.ground.specs.declared.Mode.{Mode}
use Rattle.routing_resources.specs.Marks.{marked_by, no_marks}
use Rattle.routing_resources.specs.MarkLaws.{with_none}
use Rattle.blocks.specs.Blocks.{Placement}
use Rattle.blocks.specs.Blocks.{Placed}
use Rattle.std.specs.Prelude.{Ok, Err}
use Rattle.laying.specs.Laying.{Net, Laid, laid_room}
use Rattle.job_list.specs.declared.Verdict.{Verdict}
use Rattle.job_list.specs.Told.{told_list, verdict_of, told-some}
use Rattle.job_list.specs.Split.{first_sheet, sheets_in, sheets_of}
use Rattle.job_list.specs.SplitLaws.{sheets_some}
use Rattle.job_list.specs.Judged.{contents_at, repeats_in}
use Rattle.job_list.specs.Theorems.{is_repeat, repeats_placing}
use Rattle.job_list.specs.GoodNets.{GoodFrom, good-list}
use Rattle.other_nets.specs.OtherLaws.{ListReady, list-some}
use Rattle.nets.specs.Nets.{taken_by, route_from, routed_list}
use Rattle.laid_nets.specs.declared.Meeting.{Meeting}
use Rattle.laid_nets.specs.LaidNets.{room_at, LaidNets, laid_so_far, unlaid, laid_nets}
use Rattle.laid_nets.specs.CountLaws.{counted_none}
use Rattle.list_routing.specs.declared.Stand.{Stand}
use Rattle.list_routing.specs.declared.NetRefused.{NetRefused}
use Rattle.list_routing.specs.Walk.{cells_of, lengths_of, planned_by}
use Rattle.list_routing.specs.ListLent.{ListLent, SameSizes}
use Rattle.list_routing.specs.Walking.{room_of, at_first, Walking, WalkedTo, Walked}
use Rattle.list_routing.specs.StepLaws.{desk-still}
use Rattle.several_nets.specs.Answers.{ListAnswer, no_list, laid_outcome, routed_outcome, repeat_cell, due, repeated, walked, answer_of}
use Rattle.several_nets.specs.Entry.{detail_for, met_answer, answer_for, FirstGood, FirstAsked, FirstSet, AnswerAsked, Holds, Answered}
use Rattle.several_nets.specs.FirstLaws.{past_first}

-- a number that touches and is no success
pub number-high : (n : ℕ) → touches n ≡ true → n ≢ done_number → buffer_number < n
number-high n t d = ltb-true buffer_number n (rw (ne_eqb n done_number d) at t)

placed-is : (p : Placement) → is_repeat p ≡ false → p ≡ Placed
placed-is (Ok placed) e = refl
placed-is (Err overlap) e = never (cc)

-- what comes of all nets laid
met-answer : (R : Room) (m : Option Meeting) (k : ℕ) (nets : List Net) → k ≡ length nets → (S : LaidNets) → met_answer m k ≡ answer_of (laid_outcome m R nets S)
met-answer R None k nets e S = ap Ok e
met-answer R (Some meeting) k nets e S = refl

met_holds : (R : Room) (m : Option Meeting) (nets : List Net) (S : LaidNets) (B B' : ListLent) → B'.branches ≡ filled (cells_of nets) B.branches
    → B'.lengths ≡ filled (lengths_of nets) B.lengths → B'.repeaters ≡ marked_by (planned_by nets) (no_marks (volume R)) → laid_room B'.kinds B'.facings ≡ S.room
    → B'.owners ≡ S.owners → Holds (laid_outcome m R nets S) B B'
met_holds R None nets S B B' b l p r o = (b, l, o, p, ap (λ (x : Laid). x.kinds) r, ap (λ (x : Laid). x.facings) r)
met_holds R (Some meeting) nets S B B' b l p r o = omega arith

module _ {list : List ℕ} {verdict : Verdict} {B : ListLent} (A : AnswerAsked list verdict B) where
  abbrev R : Room
  R = room_of list

  pub first_good : FirstGood list
  first_good = (past_first A.judged.memory list (rw A.judged.verdict-is at A.judged.past)).0

  pub first-asked : FirstAsked list B.kinds B.facings B.known
  first-asked = record {
    good = first_good;
    kinds-clear = cleared-to A.desk.kinds A.clear.kinds;
    facings-clear = cleared-to A.desk.facings A.clear.facings;
    known-clear = cleared-to A.desk.known A.clear.known;
  }

  module _ {p : Placement} {kinds facings : List ℕ} (F : FirstSet list p kinds facings) (mode : Mode) where
    -- ---- a number that is due before any net is routed

    pub answered-due : verdict.number ≢ done_number → {d : ℕ} → d ≡ detail_for verdict p → {r : ListAnswer} → r ≡ answer_of (no_list verdict.number verdict.net d) → {B' : ListLent}
        → Answered mode list verdict B r B'
    answered-due n {d} e {r} a = record {
      outcome = no_list verdict.number verdict.net d;
      comes =
          ask_same verdict.number overlap_number
          (λ s. let is : detail_for verdict p ≡ repeat_cell p = rw (eq-eqb verdict.number overlap_number s) in
          repeated s p F.set.placing (λ i. no_list (s i) verdict.net ((e ∙ is) i)))
          (λ o. let is : detail_for verdict p ≡ verdict.detail = rw (ne_eqb verdict.number overlap_number o) in due n o (ap (no_list verdict.number verdict.net) (e ∙ is)));
      answer = a;
      holds = number-high verdict.number A.judged.past n;
    }

    module _ (done : verdict.number ≡ done_number) where
      good : GoodFrom A.judged.memory (contents_at (first_sheet list)) 0 (sheets_of list)
      good = good-list A.judged.memory list (ap (λ (v : Verdict). v.number) (sym A.judged.verdict-is) ∙ done)

      apart : repeats_in R (contents_at (first_sheet list)).blocks ≡ false
      unfolding sheets_of
      apart = good.0.apart

      placed : p ≡ Placed
      placed = placed-is p (sym (repeats_placing R (contents_at (first_sheet list)).blocks F.set.placing) ∙ apart)

      ready : ListReady R list B.blocked
      ready = record { memory = A.judged.memory; nets = good; room-is = refl; good = F.good; long = A.desk.blocked }

      all_sheets : sheets_of list ≡ sheets_in list
      unfolding sheets_of
      all_sheets = sym (sheets_some list (list-some ready))

      -- ---- the walk begins

      module _ (known : List ℕ) (kinds-long : length kinds ≡ length B.kinds) (facings-long : length facings ≡ length B.facings) (known-long : length known ≡ length B.known) where
        abbrev pub set_out : ListLent
        set_out = record {
          branches = B.branches;
          lengths = B.lengths;
          owners = B.owners;
          repeaters = B.repeaters;
          kinds = kinds;
          facings = facings;
          occupied = B.occupied;
          planned = B.planned;
          before = B.before;
          room = B.room;
          blocked = B.blocked;
          classes = B.classes;
          joinable = B.joinable;
          known = known;
          previous = B.previous;
          path = B.path;
          best = B.best;
          queue = B.queue;
        }

        same : SameSizes B set_out
        same = record {
          branches = refl;
          lengths = refl;
          owners = refl;
          repeaters = refl;
          kinds = kinds-long;
          facings = facings-long;
          occupied = refl;
          planned = refl;
          before = refl;
          room = refl;
          blocked = refl;
          classes = refl;
          joinable = refl;
          known = known-long;
          previous = refl;
          path = refl;
          best = refl;
          queue = refl;
        }

        pub walking-first : Walking mode list at_first set_out
        unfolding routed_list cells_of lengths_of planned_by taken_by laid_nets
        walking-first = record {
          nets = [];
          count-is = refl;
          within = omega arith;
          few = omega arith;
          memory = A.judged.memory;
          memory-lengths = A.judged.memory-lengths;
          ready = ready;
          good = rw all_sheets at good;
          left =
              let n : length B.branches - 0 ≡ length B.branches = omega arith in
              λ i. route_from mode list (length B.queue) 0 [] (n i) (sym all_sheets i);
          used-is = refl;
          used-most = omega arith;
          branches-are = let n : length B.branches ≡ length B.branches - 0 = omega arith in A.clear.branches ∙ ap (λ k. replicate k 0) n;
          lengths-count = refl;
          lengths-are = let n : length B.lengths ≡ length B.lengths - 0 = omega arith in A.clear.lengths ∙ ap (λ k. replicate k 0) n;
          repeaters-are = cleared-to A.desk.repeaters A.clear.repeaters ∙ sym (with_none 1 _ (no_marks (volume R)) (λ v h. refl));
          before-are = cleared-to A.desk.before A.clear.before ∙ sym (with_none 1 _ (no_marks (volume R)) (λ v h. refl));
          laid-are = λ i. laid_so_far (F.set.laid placed i) (cleared-to A.desk.owners A.clear.owners i) None;
          counted = counted_none R (cleared-to A.desk.owners A.clear.owners);
          desk = desk-still A.desk same;
        }

        -- ---- and has come to its end

        pub answered-walk : {s : Result Stand NetRefused} {B' : ListLent} → Walked mode list set_out s B' → {r : ListAnswer} → r ≡ answer_for s → Answered mode list verdict B r B'
        answered-walk {s} {B'} W a = go s a W.to
          where
            go : (s : Result Stand NetRefused) {r : ListAnswer} → r ≡ answer_for s → WalkedTo s mode list set_out B' → Answered mode list verdict B r B'
            go (Ok stand) a T =
                let S = laid_nets R 0 T.nets (unlaid R (room_at (first_sheet list))) in
                let met-is : stand.met ≡ S.met = ap (λ (x : LaidNets). x.met) T.laid-are in
                record {
                  outcome = laid_outcome S.met R T.nets S;
                  comes = walked done (sym (ap (routed_outcome R (room_at (first_sheet list))) T.routing));
                  answer = a ∙ ap (λ m. met_answer m stand.net) met-is ∙ met-answer R S.met stand.net T.nets T.count-is S;
                  holds =
                      met_holds R S.met T.nets S B B' T.branches-are T.lengths-are T.repeaters-are (ap (λ (x : LaidNets). x.room) T.laid-are)
                      (ap (λ (x : LaidNets). x.owners) T.laid-are);
                }
            go (Err why) a T = record {
              outcome = no_list why.number why.net why.detail;
              comes = walked done (sym (ap (routed_outcome R (room_at (first_sheet list))) T.0));
              answer = a;
              holds = T.1;
            }

-- a number that was told, before any net is routed
pub answered-told : {list : List ℕ} {judged : Result Unit Verdict} {B : ListLent} → AnswerAsked list (verdict_of judged) B → judged ≡ told_list (verdict_of judged)
    → {p : Placement} {kinds facings : List ℕ} → FirstSet list p kinds facings → (mode : Mode) → {v : Verdict} → judged ≡ Err v → {d : ℕ} → d ≡ detail_for v p → {B' : ListLent}
    → Answered mode list (verdict_of judged) B (Err (record { net = v.net; number = v.number; detail = d })) B'
answered-told {list} {judged} A t {p} F mode {v} is {d} e =
    let same : verdict_of judged ≡ v = ap verdict_of is in
    answered-due A F mode
    (λ z. told-some (verdict_of judged) (sym is ∙ t) (sym (ap (λ (x : Verdict). x.number) same) ∙ z))
    (e ∙ ap (λ (x : Verdict). detail_for x p) (sym same))
    (ap (λ (x : Verdict). answer_of (no_list x.number x.net d)) (sym same))
