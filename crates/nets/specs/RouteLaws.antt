-- Laws of one net's routing: what setting out and growing ask, and that they make up what the definition has.
use Rattle.std.specs.Prelude.{◌≡◌, refl, Bool, false, ◌||◌, List, ℕ, ◌≤◌, ◌<◌, None, Ok, Err}
use Rattle.std.proofs.Math.Path.{sym, ap}
use Rattle.std.proofs.Common.{subst, ◌∙◌, arith}
use Rattle.std.proofs.Math.Bool.{true}
use Rattle.std.proofs.Math.Dec.{leb}
use Rattle.std.proofs.Math.ListN.{length, length-replicate}
use borrow.Author.Tests.{le-leb}
use Rattle.basics.specs.Tests.{either, and_both, never}
use Rattle.room.specs.declared.Room.{Room}
use Rattle.room.specs.Room.{volume}
use Rattle.room_search.specs.TriedMoves.{places_of}
use Rattle.room_search.specs.Routing.{places_in}
use Rattle.routing_resources.specs.Marks.{no_marks, is_marked, Marks}
use Rattle.routing_resources.specs.MarkLaws.{with_length_lem, marks-none, marks_with}
use Rattle.ground.specs.declared.Mode.{Mode}
use Rattle.job_sheet.specs.declared.Job.{Job}
use Rattle.job_sheet.specs.declared.Judgement.TheVariants.{Good}
use Rattle.job_sheet.specs.Version.{version_in}
use Rattle.job_sheet.specs.Sheet.{Contents, Means, judged}
use Rattle.job_sheet.specs.Accepted.{Accepted}
use Rattle.blocks.specs.Blocks.{Placement}
use Rattle.blocks.specs.Blocks.{Placed}
use Rattle.blocks.specs.Blocks.{kinds_of, nodes_of, BlocksLaid}
use Rattle.blocks.proofs.BlockLaws.{tabulated-long}
use Rattle.ends.specs.declared.Ends.{Ends}
use Rattle.ends.specs.Ends.{sinks_in, ends_of}
use Rattle.outset.specs.SetOut.{Outset}
use Rattle.outset.specs.Outset.{blocked_at_outset}
use Rattle.outset.specs.SetOut.{ready_by, ready, OutsetAsked, OutsetOf, SetOut}
use Rattle.outset.specs.SetOutLaws.{same_ends, use_of, sinks_in_lem}
use Rattle.multinet.specs.Tree.{Plot, growth_of}
use Rattle.multinet.specs.Growing.{SoundPlot}
use Rattle.multinet.specs.SinkTurns.{plot_of}
use Rattle.net_tree.specs.declared.Lengths.{Lengths}
use Rattle.net_tree.specs.Answers.{Answer, Lent, lent, buffers_good, plot_for, outcome_of, job_outcome, answer_of}
use Rattle.net_tree.specs.Entry.{Growable, TreeGrown, OutputsHold}
use Rattle.net_tree.specs.JobLaws.{plot-sound}
use Rattle.job_list.specs.Judged.{contents_at, repeats_in}
use Rattle.job_list.specs.JudgeLaws.{accepted-contents, accepted-room}
use Rattle.job_list.specs.Theorems.{is_repeat, repeats_placing}
use Rattle.job_list.specs.GoodNets.{good-room-is}
use Rattle.other_nets.specs.Others.{ends_at, blocked_in_list}
use Rattle.other_nets.specs.OtherLaws.{SheetReady, ListReady, OthersReady, OthersBlocked, list-still, blocked_in_list_lem, ends-inside}
use Rattle.nets.specs.Nets.{kinds_at, nodes_at, outset_at, blocked_at, lent_for, net_outcome}
use Rattle.nets.specs.Routes.{PrepareAsked, Prepared, NetAsked, NetRouted}

placed-is : (p : Placement) → is_repeat p ≡ false → p ≡ Placed
placed-is (Ok placed) e = refl
placed-is (Err overlap) e = never (cc)

-- ---- set out

module _ {list sheet : List ℕ} {job : Job} {before kinds₀ nodes₀ blocked₀ : List ℕ} (A : PrepareAsked list sheet job before kinds₀ nodes₀ blocked₀) where
  abbrev J : Contents
  J = contents_at sheet

  pub set-asked : OutsetAsked sheet job kinds₀ nodes₀ blocked₀
  set-asked = record { accepted = A.accepted; kinds-long = A.kinds-long; nodes-long = A.nodes-long; blocked-long = A.ready.long }

  module _ {O : Outset} {kinds nodes blocked : List ℕ} (S : SetOut sheet O kinds nodes blocked) where
    set_here : OutsetOf J O kinds nodes blocked
    set_here = rw (accepted-contents A.accepted) at (S.is A.accepted.contents A.accepted.means)

    placement-is : O.placement ≡ Placed
    placement-is = placed-is O.placement (sym (repeats_placing J.room J.blocks set_here.laid.placing) ∙ A.net.apart)

    outset-is : O ≡ outset_at sheet
    outset-is = λ i. record { placement = placement-is i; fault = set_here.fault-is i; ends = set_here.ends-are i }

    now-set : OutsetOf J (outset_at sheet) kinds nodes blocked
    now-set = rw outset-is at set_here

    ready-now : ready (outset_at sheet) ≡ true
    ready-now = ap (ready_by Placed) A.net.ends

    pub ready-set : ready O ≡ true
    ready-set = rw outset-is ready-now

    blocked-alone : blocked ≡ blocked_at_outset (kinds_at sheet) (nodes_at sheet) J (ends_at sheet).source (ends_at sheet).taps
    blocked-alone = rw ready-now at now-set.blocked-are

    room-same : J.room ≡ job.room
    room-same = sym (accepted-room A.accepted)

    sheet-ready : SheetReady job.room sheet before
    sheet-ready = record {
      memory = A.memory;
      first = A.first;
      place = A.place;
      net = A.net;
      room-is = sym (good-room-is A.net) ∙ room-same;
      good = A.ready.good;
      long = A.before-long;
    }

    ends-job : O.ends ≡ ends_of job.room job.source (sinks_in job.sinks)
    ends-job =
        let U = use_of A.accepted in
        set_here.ends-are
        ∙ sym (same_ends U.room-is U.source_is (sinks_in_lem A.accepted) ∙ ap (λ K. ends_of K.room K.source K.sinks) (accepted-contents A.accepted))

    pub others-ready : length blocked ≡ length blocked₀ → OthersReady job.room list O.ends.source O.ends.taps before blocked
    others-ready e = record {
      ready = list-still A.ready (e ∙ A.ready.long);
      net = ends-inside sheet-ready A.accepted ends-job;
      before-long = A.before-long;
    }

    pub net_prepared : {k : ℕ} {blocked' : List ℕ} → OthersBlocked job.room list k O.ends.source O.ends.taps before blocked blocked'
        → Prepared list sheet k before O.ends kinds nodes blocked'
    net_prepared {k} {blocked'} B =
        let C : OthersBlocked job.room list k (ends_at sheet).source (ends_at sheet).taps before blocked blocked' =
        subst (λ x. OthersBlocked job.room list k x.source x.taps before blocked blocked') set_here.ends-are B in
        record {
          ends-are = set_here.ends-are;
          kinds-are = now-set.laid.kinds-are;
          alone = blocked;
          outset = now-set;
          blocked-are = blocked_in_list_lem C (kinds_at sheet) (nodes_at sheet) J room-same blocked-alone;
        }

-- ---- grown

module _ {list sheet : List ℕ} {job : Job} {before : List ℕ} {B : Lent} (A : NetAsked list sheet job before B) {k : ℕ} {ends : Ends} {kinds nodes blocked : List ℕ}
    (P : Prepared list sheet k before ends kinds nodes blocked) where
  abbrev C : Contents
  C = contents_at sheet

  abbrev L : Lengths
  L = lent_for C.room (length B.branches) (length B.queue)

  contents-same : A.asked.accepted.contents ≡ C
  contents-same = accepted-contents A.asked.accepted

  room-is : C.room ≡ job.room
  room-is = sym (accepted-room A.asked.accepted)

  config-is : C.config ≡ job.config
  config-is = sym ((use_of A.asked.accepted).config-is ∙ ap (λ K. K.config) contents-same)

  run_is : C.run ≡ job.run
  run_is = sym ((use_of A.asked.accepted).run_is ∙ ap (λ K. K.run) contents-same)

  buffers-good : buffers_good C.room L ≡ true
  unfolding buffers_good
  buffers-good =
      let n : leb (volume C.room) (volume C.room) ≡ true = le-leb (volume C.room) (volume C.room) (omega arith) in
      let q : leb 1 (places_in (length B.queue)) ≡ true = le-leb 1 (places_in (length B.queue)) A.places-some in
      rw (n, q)

  ready-here : ready (outset_at sheet) ≡ true
  ready-here = ap (ready_by Placed) A.asked.net.ends

  module _ (mode : Mode) where
    -- the plot, as it is handed on
    abbrev pub net_plot : Plot
    net_plot = plot_of (record { room = job.room; config = job.config; mode = mode; run = job.run }) kinds B.queue B.branches ends.source ends.taps

    same-plot : (kinds₀ : List ℕ) → kinds₀ ≡ kinds → plot_for mode C L (outset_at sheet) kinds₀ ≡ net_plot
    same-plot kinds₀ e = λ i. record {
      room = room-is i;
      config = config-is i;
      mode = mode;
      run = run_is i;
      kinds = e i;
      places = places_in (length B.queue);
      buffer = length B.branches;
      source = (sym P.ends-are i).source;
      taps = (sym P.ends-are i).taps;
    }

    net-sound : SoundPlot net_plot
    net-sound =
        let m : Means sheet C = rw contents-same at A.asked.accepted.means in
        let g : judged (version_in sheet) C ≡ Good = rw contents-same at A.asked.accepted.good in
        subst SoundPlot (same-plot kinds refl) (plot-sound mode C m g L buffers-good P.outset ready-here)

    -- the memory as it is lent on: the nodes stand where the known costs will
    abbrev pub laid_out : Lent
    laid_out = lent B.branches B.occupied B.repeaters kinds blocked B.classes B.joinable nodes B.previous B.path B.best B.queue

    blocked-long : length blocked ≡ volume job.room
    unfolding blocked_in_list
    blocked-long = ap length P.blocked-are ∙ with_length_lem 1 _ (no_marks (volume C.room)) ∙ length-replicate {A = ℕ} (volume C.room) 0 ∙ ap volume room-is

    blocked-marks : Marks blocked
    unfolding blocked_in_list
    blocked-marks = rw P.blocked-are (marks_with 1 (omega arith) _ _ (marks-none (volume C.room)))

    nodes-long : length nodes ≡ volume job.room
    nodes-long = ap length P.outset.laid.nodes-are ∙ tabulated-long _ _ ∙ ap volume room-is

    pub net-growable : Growable net_plot laid_out
    net-growable = record {
      sound = net-sound;
      branches-clear = A.branches-clear;
      occupied-clear = A.occupied-clear;
      repeaters-clear = A.repeaters-clear;
      blocked-long = blocked-long;
      blocked-marks = blocked-marks;
      classes-long = A.classes-long;
      joinable-long = A.joinable-long;
      memory = record { known-long = nodes-long; previous-long = A.previous-long; path-long = A.path-long };
      best-long = A.best-long;
    }

    outcome-is : net_outcome mode list (length B.queue) k (is_marked before) (length B.branches) sheet ≡ outcome_of net_plot (growth_of net_plot blocked)
    unfolding net_outcome job_outcome
    outcome-is =
        let plots : plot_for mode C L (outset_at sheet) (kinds_at sheet) ≡ net_plot = same-plot (kinds_at sheet) (sym P.kinds-are) in
        let marks : blocked_at list k (is_marked before) sheet ≡ blocked = sym P.blocked-are in
        rw ready-here (λ i. outcome_of (plots i) (growth_of (plots i) (marks i)))

    pub net-routed : {r : Answer} {branches occupied repeaters : List ℕ} → TreeGrown net_plot laid_out r branches occupied repeaters
        → NetRouted mode list sheet k before B r branches occupied repeaters
    net-routed {branches = branches} {occupied = occupied} {repeaters = repeaters} T = record {
      answer = T.answer ∙ ap answer_of (sym outcome-is);
      outputs = subst (λ o. OutputsHold o B.branches branches occupied repeaters) (sym outcome-is) T.outputs;
      plot = net_plot;
      marks = blocked;
      sound = net-sound;
      grows = outcome-is;
      room-is = sym room-is;
      source_is = ap (λ e. e.source) P.ends-are;
      taps-are = ap (λ e. e.taps) P.ends-are;
    }
