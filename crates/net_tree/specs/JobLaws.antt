-- Laws of a job: what setting out and growing ask, and that they make up what the definition has.
use Rattle.std.specs.Prelude.{◌≡◌, refl, true, false, List, ℕ, ◌<◌, get_or, Option, Some, None, Ok, Err}
use Rattle.std.proofs.Common.{sym, subst, ◌∙◌, arith}
use Rattle.std.proofs.Math.Path.{ap}
use Rattle.std.proofs.Math.ListN.{length, length-replicate}
use Rattle.numbers.specs.Refusals.{buffer_number}
use Rattle.basics.specs.Tests.{never}
use Rattle.room.specs.Room.{volume}
use Rattle.routing_resources.specs.Marks.{no_marks, Marks}
use Rattle.routing_resources.specs.MarkLaws.{with_length_lem, marks-none, marks_with}
use Rattle.ground.specs.declared.Mode.{Mode}
use Rattle.job_sheet.specs.declared.Job.{Job}
use Rattle.job_sheet.specs.declared.Judgement.TheVariants.{Good}
use Rattle.job_sheet.specs.Version.{version_in}
use Rattle.job_sheet.specs.Sheet.{Contents, Means, judged, job_of}
use Rattle.job_sheet.specs.Accepted.{Accepted}
use Rattle.job_sheet.proofs.Theorems.{one-meaning}
use Rattle.blocks.specs.Blocks.{Placement, Placed}
use Rattle.blocks.specs.Blocks.{kinds_of, nodes_of, BlocksLaid}
use Rattle.blocks.proofs.BlockLaws.{tabulated-long}
use Rattle.ends.specs.declared.Fault.{Fault}
use Rattle.ends.specs.Ends.{no_tap, sinks_in, fault_of, ends_of}
use Rattle.ends.specs.EndLaws.{fault-late, sinks-long}
use Rattle.outset.specs.SetOut.{Outset}
use Rattle.outset.specs.Outset.{blocked_at_outset}
use Rattle.outset.specs.SetOut.{ready_by, ready, number_by, detail_by, OutsetAsked, OutsetOf, SetOut}
use Rattle.outset.specs.SetOutLaws.{ready-placed, same_faults, same_ends, contents-of, use_of, sinks_in_lem, good-room, sinks-within, good-ends}
use Rattle.room_search.specs.Routing.{places_in}
use Rattle.multinet.specs.Tree.{Plot, growth_of}
use Rattle.multinet.specs.Growing.{Near, SoundPlot}
use Rattle.multinet.specs.NearLaws.{taps-near}
use Rattle.multinet.specs.SinkTurns.{plot_of}
use Rattle.net_tree.specs.declared.Lengths.{Lengths}
use Rattle.net_tree.specs.Answers.{Answer, Lent, lent, lengths_of, buffers_good, no_tree, plot_for, outcome_of, job_outcome, answer_of}
use Rattle.net_tree.specs.Entry.{Growable, TreeGrown, Routable, JobRouted}
use Rattle.net_tree.specs.EntryLaws.{long-enough}

-- a number from setting out is above 6
pub late : (p : Placement) (f : Option Fault) → ready_by p f ≡ false → buffer_number < number_by p f
late (Err overlap) f e = omega arith
late (Ok placed) None e = never (cc)
late (Ok placed) (Some fault) e = (fault-late fault.due).0

-- ---- an accepted job that is set out, where no number from 7 to 9 is due

module _ {sheet : List ℕ} {job : Job} (A : Accepted sheet job) {O : Outset} {kinds nodes blocked : List ℕ} (S : OutsetOf A.contents O kinds nodes blocked)
    (r : ready O ≡ true) where
  placed : BlocksLaid (contents-of A).room (contents-of A).blocks kinds nodes Placed
  placed = rw (ready-placed O.placement O.fault r) at S.laid

  kinds-long : length kinds ≡ volume job.room
  kinds-long = ap length placed.kinds-are ∙ tabulated-long _ _ ∙ ap volume (sym (use_of A).room-is)

  nodes-long : length nodes ≡ volume job.room
  nodes-long = ap length placed.nodes-are ∙ tabulated-long _ _ ∙ ap volume (sym (use_of A).room-is)

  ends-are : O.ends ≡ ends_of job.room job.source (sinks_in job.sinks)
  ends-are = S.ends-are ∙ same_ends (sym (use_of A).room-is) (sym (use_of A).source_is) (sym (sinks_in_lem A))

  fault-is : O.fault ≡ fault_of job.room job.source (sinks_in job.sinks)
  fault-is = S.fault-is ∙ same_faults (sym (use_of A).room-is) (sym (use_of A).source_is) (sym (sinks_in_lem A))

  sinks-count : O.ends.taps.count ≡ job.sinks.count
  unfolding ends_of
  sinks-count = ap (λ x. x.taps.count) ends-are ∙ sinks-long (sinks-within A)

  near : (k : ℕ) → k < O.ends.taps.count → Near job.room (get_or O.ends.taps.taps k no_tap)
  unfolding ends_of
  near k h =
      let n : k < job.sinks.count = omega (arith, h, sinks-count) in
      rw ends-are (taps-near (good-room A) (sinks-within A) k n)

  blocked-are : blocked ≡ blocked_at_outset (kinds_of (contents-of A).room (contents-of A).blocks) (nodes_of (contents-of A).room (contents-of A).blocks) (contents-of A) O.ends.source O.ends.taps
  blocked-are = rw r at S.blocked-are

  blocked-long : length blocked ≡ volume job.room
  unfolding blocked_at_outset
  blocked-long = ap length blocked-are ∙ with_length_lem 1 _ (no_marks (volume (contents-of A).room)) ∙ length-replicate {A = ℕ} (volume (contents-of A).room) 0 ∙ ap volume (sym (use_of A).room-is)

  blocked-marks : Marks blocked
  unfolding blocked_at_outset
  blocked-marks = rw blocked-are (marks_with 1 (omega arith) _ _ (marks-none (volume (contents-of A).room)))

  module _ (mode : Mode) (L : Lengths) where
    -- the plot, as the job has it
    abbrev job_plot : Plot
    job_plot = record {
      room = job.room;
      config = job.config;
      mode = mode;
      run = job.run;
      kinds = kinds;
      places = places_in L.queue;
      buffer = L.branches;
      source = O.ends.source;
      taps = O.ends.taps;
    }

    same-plot : plot_for mode (contents-of A) L O kinds ≡ job_plot
    same-plot = λ i. record {
      room = sym (use_of A).room-is i;
      config = sym (use_of A).config-is i;
      mode = mode;
      run = sym (use_of A).run_is i;
      kinds = kinds;
      places = places_in L.queue;
      buffer = L.branches;
      source = O.ends.source;
      taps = O.ends.taps;
    }

    job-sound : 0 < places_in L.queue → SoundPlot job_plot
    job-sound h = record { good = good-room A; config-good = (use_of A).config-good; kinds-long = kinds-long; places-some = h; net = good-ends A O.placement fault-is ends-are r; near = near }

    contents-outcome : job_outcome mode (contents-of A) L O kinds blocked ≡ outcome_of job_plot (growth_of job_plot blocked)
    unfolding job_outcome
    contents-outcome = rw r (ap (λ Q. outcome_of Q (growth_of Q blocked)) same-plot)

-- a plot over which a tree grows is sound
pub plot-sound : (mode : Mode) {sheet : List ℕ} (J : Contents) → Means sheet J → judged (version_in sheet) J ≡ Good → (L : Lengths) → buffers_good J.room L ≡ true
    → {O : Outset} {kinds nodes blocked : List ℕ} → OutsetOf J O kinds nodes blocked → ready O ≡ true → SoundPlot (plot_for mode J L O kinds)
plot-sound mode {sheet} J m g L b S r =
    let A : Accepted sheet (job_of (version_in sheet) J) = record { contents = J; means = m; good = g; is = refl } in
    subst SoundPlot (sym (same-plot A S r mode L)) (job-sound A S r mode L (long-enough J.room L b).places-some)

-- ---- the same, over work memory of exactly V cells

module _ {sheet : List ℕ} {job : Job} {B : Lent} (A : Routable sheet job B) where
  pub asked : OutsetAsked sheet job B.kinds B.known B.blocked
  asked = record { accepted = A.accepted; kinds-long = A.kinds-long; nodes-long = A.known-long; blocked-long = A.blocked-long }

  module _ (mode : Mode) {O : Outset} {kinds nodes blocked : List ℕ} (S : SetOut sheet O kinds nodes blocked) where
    set_for : OutsetOf A.accepted.contents O kinds nodes blocked
    set_for = S.is A.accepted.contents A.accepted.means

    -- number 7, 8 or 9
    pub job-refused : ready_by O.placement O.fault ≡ false → {r : Answer} → r ≡ answer_of (no_tree (number_by O.placement O.fault) (detail_by O.placement O.fault))
        → {branches occupied repeaters : List ℕ} → JobRouted mode sheet B r branches occupied repeaters
    unfolding job_outcome
    job-refused f a = record {
      outset = O;
      kinds = kinds;
      nodes = nodes;
      blocked = blocked;
      outcome = no_tree (number_by O.placement O.fault) (detail_by O.placement O.fault);
      is_set = S.is;
      comes = λ J m. rw f;
      answer = a;
      outputs = late O.placement O.fault f;
    }

    module _ (r : ready_by O.placement O.fault ≡ true) where
      abbrev P : Plot
      P = plot_of (record { room = job.room; config = job.config; mode = mode; run = job.run }) kinds B.queue B.branches O.ends.source O.ends.taps

      -- the memory as it is lent on: kinds and what is blocked are set out, and the nodes stand where the known costs will
      abbrev laid_out : Lent
      laid_out = lent B.branches B.occupied B.repeaters kinds blocked B.classes B.joinable nodes B.previous B.path B.best B.queue

      pub growable : Growable P laid_out
      growable = record {
        sound = job-sound A.accepted set_for r mode (lengths_of B) A.places-some;
        branches-clear = A.branches-clear;
        occupied-clear = A.occupied-clear;
        repeaters-clear = A.repeaters-clear;
        blocked-long = blocked-long A.accepted set_for r;
        blocked-marks = blocked-marks A.accepted set_for r;
        classes-long = A.classes-long;
        joinable-long = A.joinable-long;
        memory = record { known-long = nodes-long A.accepted set_for r; previous-long = A.previous-long; path-long = A.path-long };
        best-long = A.best-long;
      }

      pub job-grown : {answer : Answer} {branches occupied repeaters : List ℕ} → TreeGrown P laid_out answer branches occupied repeaters
          → JobRouted mode sheet B answer branches occupied repeaters
      job-grown T = record {
        outset = O;
        kinds = kinds;
        nodes = nodes;
        blocked = blocked;
        outcome = outcome_of P (growth_of P blocked);
        is_set = S.is;
        comes = λ J m. sym (ap (λ K. job_outcome mode K (lengths_of B) O kinds blocked) (one-meaning sheet J A.accepted.contents m A.accepted.means)
            ∙ contents-outcome A.accepted set_for r mode (lengths_of B));
        answer = T.answer;
        outputs = T.outputs;
      }
