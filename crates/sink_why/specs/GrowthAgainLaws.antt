-- Laws of the growth again: what it asks, that it stops, and what is told of the sink that has that turn.
use Rattle.std.specs.Prelude.{◌≡◌, Result, Ok, Err, true, List, [], ◌++◌, map, ℕ, ◌+◌, ◌-◌, ◌*◌, ◌≤◌, ◌<◌, eqb, leb, length, get_or, drop}
use Rattle.std.proofs.Common.{sym, ap, subst, ◌∙◌, arith, take-append-drop, ext_get_or, get_or-take}
use Rattle.std.proofs.Math.Numerals.{add-one}
use Rattle.std.proofs.lemmas.List.{length-map}
use Rattle.std.proofs.Math.ListN.{get_or-map}
use borrow.Author.Tests.{leb-true}
use Rattle.basics.specs.Tests.{never, and_left, and_right}
use Rattle.basics.specs.Lists.{joined}
use Rattle.lent.specs.Lent.{filled}
use Rattle.room.specs.Room.{volume}
use Rattle.routing_resources.specs.Marks.{marked_by, no_marks}
use Rattle.ground.specs.declared.Ground.{Ground}
use Rattle.ground.specs.declared.Mode.{Mode}
use Rattle.job_sheet.specs.declared.Job.{Job}
use Rattle.job_sheet.specs.Sheet.{max_sinks}
use Rattle.job_sheet.specs.Accepted.{Accepted}
use Rattle.ends.specs.Ends.{no_tap}
use Rattle.outset.specs.SetOut.{Outset}
use Rattle.outset.specs.SetOut.{ready, OutsetAsked, SetOut}
use Rattle.outset.specs.SetOutLaws.{use_of}
use Rattle.branches.specs.declared.BranchLengths.{BranchLengths}
use Rattle.branches.specs.Branches.{lengths_in, cut_into, branches_of, LengthsOf, SheetOrder}
use Rattle.branches.specs.BranchLaws.{lengths-count, lengths-sum, cut-joined}
use Rattle.multinet.specs.declared.Early.{Early}
use Rattle.multinet.specs.Tree.{Plot, Tree, grown, grow_from, growth_of}
use Rattle.multinet.specs.Growing.{SoundPlot, Growing}
use Rattle.multinet.proofs.GrowingLaws.{sink-now}
use Rattle.multinet.specs.SinkTurns.{stop_number, stop_detail, Plantable, EndTold, GrowthTold}
use Rattle.flood.specs.Walls.{tabled}
use Rattle.causes.specs.Causes.{cause_of, OwnBranches}
use Rattle.why_tree.specs.WhyTree.{sink_approach, verdict_of}
use Rattle.net_tree.specs.Answers.{Lent}
use Rattle.net_tree.specs.JobLaws.{asked, growable}
use Rattle.net_tree.specs.GrowJobLaws.{plantable}
use Rattle.sink_why.specs.declared.Stopping.{Stopping}
use Rattle.sink_why.specs.SinkWhy.{Reason, for_shut_in, outputs_good, reason_at}
use Rattle.sink_why.specs.Telling.{ReasonAsked, ReasonTold, stopping_at, job_plot, Regrowable, Regrown, SinkAsks, SinkReasoned}

-- ---- setting out, planting and growing

module _ {mode : Mode} {sheet : List ℕ} {job : Job} {B : Lent} (A : Regrowable mode sheet job B) where
  pub set-asked : OutsetAsked sheet job B.kinds B.known B.blocked
  set-asked = asked A.routable

  module _ {O : Outset} {kinds nodes blocked : List ℕ} (S : SetOut sheet O kinds nodes blocked) where
    pub set-ready : ready O ≡ true
    set-ready = A.is-ready O kinds nodes blocked S

    abbrev plot : Plot
    plot = job_plot mode job O kinds B.queue B.branches

    sound-here : SoundPlot plot
    sound-here = (growable A.routable mode S set-ready).sound

    pub source-there : O.ends.source < length B.joinable
    source-there = rw A.routable.joinable-long sound-here.net.source_in

    pub plantable-again : {joinable : List ℕ} → joinable ≡ marked_by (eqb O.ends.source) (no_marks (length B.joinable))
        → Plantable plot joinable blocked B.classes nodes B.previous B.path B.best
    plantable-again e = plantable (growable A.routable mode S set-ready) e

    module _ {g : Result BranchLengths Early} {joinable' blocked' branches' : List ℕ} (T : GrowthTold plot blocked B.branches g joinable' blocked' branches') where
      told_as : {end : Result BranchLengths Early} → g ≡ end → EndTold plot blocked B.branches joinable' blocked' branches' end
      told_as e = rw (← e) T.told

      whole-grown : (each : List ℕ) (G : Growing plot blocked B.branches plot.taps.count joinable' blocked' branches' each) → growth_of plot blocked ≡ grown G.tree
      unfolding grow_from
      whole-grown each G = let z : plot.taps.count - plot.taps.count ≡ 0 = omega arith in sym (rw z at G.same)

      -- the growth is not whole
      pub not_whole : {L : BranchLengths} → g ≡ Ok L → ⊥
      not_whole {L} e = let d = A.due O kinds nodes blocked S in never (cc (whole-grown L.each (told_as e).1, d.stops))

      pub regrown : {end : Early} → g ≡ Err end → {r : Stopping} → r ≡ stopping_at O.ends.source O.ends.taps end
          → Regrown mode sheet job B.queue B.branches r kinds joinable' blocked' branches'
      regrown {end} e s = record {
        outset = O;
        nodes = nodes;
        blocked-first = blocked;
        is_set = S;
        is-ready = set-ready;
        sound = sound-here;
        end = end;
        early = told_as e;
        is = s;
      }

-- ---- the branches in the buffer

module _ {L : BranchLengths} {cells : List ℕ} {bs : List (List ℕ)} (order : SheetOrder bs (length (joined bs)) cells) (lengths-are : LengthsOf bs L.each) (count-is : length bs ≡ L.count) where
  lengths-list : lengths_in L ≡ map length bs
  lengths-list =
      let n = lengths-count L (omega (arith, count-is, lengths-are.all)) in
      let m = length-map bs length in
      ext_get_or 0 (lengths_in L) (map length bs) (n ∙ sym count-is ∙ sym m)
      (λ i h. get_or-take L.count L.each i 0 (omega (arith, n)) ∙ lengths-are.each-is i (omega (arith, n, count-is)) ∙ sym (get_or-map length bs i []))

  branches-back : branches_of L cells ≡ bs
  branches-back =
      let whole : cells ≡ joined bs ++ drop (length (joined bs)) cells = sym (take-append-drop (length (joined bs)) cells) ∙ ap (λ l. l ++ drop (length (joined bs)) cells) order.in_order in
      rw lengths-list (ap (cut_into (map length bs)) whole ∙ cut-joined bs (drop (length (joined bs)) cells))

-- ---- the sink that has the turn

module _ {mode : Mode} {sheet : List ℕ} {job : Job} {queue branches : List ℕ} (A : Accepted sheet job) {r : Stopping} {kinds joinable blocked branches' : List ℕ}
    (R : Regrown mode sheet job queue branches r kinds joinable blocked branches') where
  abbrev here : Plot
  here = job_plot mode job R.outset kinds queue branches

  abbrev growing : Growing here R.blocked-first branches R.early.turn joinable blocked branches' R.end.lengths.each
  growing = R.early.growing

  abbrev tree : Tree
  tree = growing.tree

  abbrev counted : BranchLengths
  counted = record { count = here.taps.count; each = R.end.lengths.each }

  abbrev ground : Ground
  ground = record { room = job.room; config = job.config; mode = mode; run = job.run }

  sink-here : R.end.sink < here.taps.count
  sink-here = (sink-now here R.early.turn R.end.sink R.early.sink-is R.early.turn_in_lem).0

  pub sink-small : r.sink < max_sinks
  sink-small = rw R.is (omega (arith, sink-here, R.sound.net.taps_in_lem.few))

  back : branches_of counted branches' ≡ tree.branches
  back = branches-back growing.in_order growing.lengths-are growing.sprouted.count-is

  joinable-long : length joinable ≡ volume job.room
  joinable-long = ap length growing.joinable-is ∙ growing.sprouted.joinable-long

  blocked-long : length blocked ≡ volume job.room
  blocked-long = ap length growing.blocked-is ∙ growing.sprouted.blocked-long

  own : OwnBranches job.room counted branches'
  own = record {
    branched = record {
      whole = growing.each_long;
      few = R.sound.net.taps_in_lem.few;
      within = rw (lengths-sum tree.branches counted growing.lengths-are growing.sprouted.count-is) growing.in_order.within;
    };
    cells_in = λ k h. rw back (growing.sprouted.cells_in k h);
  }

  module _ {reached walls causes : List ℕ} (U : SinkAsks job reached walls causes) where
    fit-reached : volume job.room ≤ length reached
    unfolding outputs_good
    fit-reached = leb-true _ _ (and_left _ _ U.outputs)

    fit-walls : 12 * volume job.room ≤ length walls
    unfolding outputs_good
    fit-walls = leb-true _ _ (and_left _ _ (and_right (leb (volume job.room) (length reached)) _ U.outputs))

    fit-causes : volume job.room ≤ length causes
    unfolding outputs_good
    fit-causes = leb-true _ _ (and_right (leb (12 * volume job.room) (length walls)) _ (and_right (leb (volume job.room) (length reached)) _ U.outputs))

    pub reason-asked : {classes known path : List ℕ} → length classes ≡ volume job.room → length known ≡ volume job.room → length path ≡ volume job.room
        → ReasonAsked ground sheet job r (get_or r.taps.taps r.sink no_tap).approach branches' kinds blocked classes joinable known path reached walls causes
    reason-asked cl kn pa = rw R.is (record {
      sink = record {
        fits = record { good = R.sound.good; kinds-long = R.sound.kinds-long; blocked-long = blocked-long; joinable-long = joinable-long };
        approach_in = R.sound.net.taps_in_lem.approach_in R.end.sink sink-here;
        obstacles_long = cl;
        line-long = pa;
        reached-enough = fit-reached;
        walls-enough = fit-walls;
      };
      blocking = record {
        set = record { accepted = A; kinds-long = R.sound.kinds-long; nodes-long = kn; blocked-long = blocked-long };
        marks-long = joinable-long;
        causes-enough = fit-causes;
        net = R.sound.net;
        own = own;
      };
    })

    module _ {verdict : ℕ} {reached' walls' causes' : List ℕ}
        (T : ReasonTold ground sheet r (get_or r.taps.taps r.sink no_tap).approach branches' kinds blocked joinable reached walls causes verdict reached' walls' causes') where
      abbrev stopping : Stopping
      stopping = stopping_at R.outset.ends.source R.outset.ends.taps R.end

      -- the same, of the tree
      of_tree : ReasonTold ground sheet stopping (sink_approach here R.end.sink) branches' kinds tree.blocked tree.joinable reached walls causes verdict reached' walls' causes'
      of_tree =
          subst (λ x. ReasonTold ground sheet stopping (sink_approach here R.end.sink) branches' kinds tree.blocked x reached walls causes verdict reached' walls' causes') growing.joinable-is
          (subst (λ x. ReasonTold ground sheet stopping (sink_approach here R.end.sink) branches' kinds x joinable reached walls causes verdict reached' walls' causes') growing.blocked-is
          (subst (λ S. ReasonTold ground sheet S (get_or S.taps.taps S.sink no_tap).approach branches' kinds blocked joinable reached walls causes verdict reached' walls' causes') R.is T))

      abbrev reason : Reason
      reason = reason_at A.contents here R.nodes tree R.end.sink (verdict_of here tree R.end.sink (stop_number R.end.stop))

      told-place : R.end.sink + 1 ≡ reason.place
      unfolding reason_at
      told-place = add-one R.end.sink

      verdict-here : verdict ≡ verdict_of here tree R.end.sink (stop_number R.end.stop)
      verdict-here = of_tree.verdict-is

      told-verdict : verdict ≡ reason.verdict
      unfolding reason_at
      told-verdict = verdict-here

      told-reached : reached' ≡ filled reason.reached reached
      unfolding reason_at
      told-reached = rw (← verdict-here) of_tree.reached-is

      told-walls : walls' ≡ filled reason.walls walls
      unfolding reason_at
      told-walls = rw (← verdict-here) of_tree.walls-is

      told-causes : causes' ≡ filled reason.causes causes
      unfolding reason_at
      told-causes =
          of_tree.causes-is A.contents A.means R.outset kinds R.nodes R.blocked-first (R.is_set.is A.contents A.means)
          ∙ (λ i. filled (for_shut_in (verdict-here i) (tabled (volume (sym (use_of A).room-is i)) (cause_of kinds R.nodes A.contents here.source here.taps (back i)))) causes)

      pub reasoned : SinkReasoned mode sheet job queue branches reached walls causes (record { place = r.sink + 1; verdict = verdict }) reached' walls' causes'
      reasoned = record {
        contents = A.contents;
        means = A.means;
        outset = R.outset;
        kinds = kinds;
        nodes = R.nodes;
        blocked = R.blocked-first;
        is_set = R.is_set;
        is-ready = R.is-ready;
        tells = record {
          turn = R.early.turn;
          tree = tree;
          number = stop_number R.end.stop;
          detail = stop_detail R.end.stop;
          there = record { turn_in_lem = R.early.turn_in_lem; so_far = growing.so_far; stops = rw (← R.early.sink-is) R.early.stops };
          tells = rw (← R.early.sink-is) (record {
            place_is = ap (λ S. S.sink + 1) R.is ∙ told-place;
            verdict-is = told-verdict;
            reached-is = told-reached;
            walls-is = told-walls;
            causes-is = told-causes;
          });
        };
      }
