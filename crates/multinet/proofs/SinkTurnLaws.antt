-- Laws of a sink's turn: what its functions ask, and what they come to.
use Rattle.std.specs.Prelude.{◌≡◌, refl, Result, List, ℕ, ◌+◌, ◌*◌, ◌≤◌, ◌<◌, length, take, Some, None, Ok, Err}
use Rattle.std.proofs.Common.{sym, ◌∙◌, arith}
use Rattle.basics.specs.Lists.{joined}
use Rattle.room_search.specs.Routing.{graph_of}
use Rattle.job_sheet.specs.Sheet.{max_sinks}
use Rattle.goals.specs.declared.Found.{Found}
use Rattle.goals.specs.declared.QueueFull as full-queue
use Rattle.goals.specs.Goals.{Trial, found, route_to_tree}
use Rattle.goals.specs.Trials.{Tried, Tells, told, Grounds}
use Rattle.goals.proofs.RouteLaws.{tree-joins, joins-lawful, joins-cells, joins-short, joins-steps}
use Rattle.branches.specs.declared.BranchLengths.{BranchLengths}
use Rattle.branches.specs.Branches.{Short, longest_branch}
use Rattle.branches.specs.BranchLaws.{joined-place, place-within, lengths-sum}
use Rattle.branches.specs.LoopLaws.{sum-most}
use Rattle.multinet.specs.declared.Grown.{Grown}
use Rattle.multinet.specs.declared.Stopped.{Stopped}
use Rattle.multinet.specs.declared.Stop.{Stop}
use Rattle.multinet.specs.declared.Stop.TheVariants.{QueueFull, NoGoal, BufferFull}
use Rattle.multinet.specs.Adding.{before_sink, used_by, BranchPlaceable, BranchPlaced, buffer-full, is-placed}
use Rattle.multinet.specs.Tree.{Plot, tap_at, site_at, grow_sink, growth_of, sink_now}
use Rattle.multinet.specs.StepLaws.{steps-by-place}
use Rattle.multinet.specs.Growing.{SoundPlot, RouteKnown, Growing}
use Rattle.multinet.proofs.GrowingLaws.{route-some, sink-now, sink_in_tree, sink-empty, turn-stops, sink_fails, sink-full, sink-buffer-full, sink-grows}
use Rattle.multinet.specs.SinkTurns.{Findable, Turnable, TurnCame, stopped_by, StoppedEarly}

-- a tree held in slices, at the turn of sink k
module _ {P : Plot} {turn : ℕ} {L : BranchLengths} {outset start-buffer joinable blocked branches : List ℕ} (S : SoundPlot P)
    (G : Growing P outset start-buffer turn joinable blocked branches L.each) (count : L.count ≡ P.taps.count) (k : ℕ) (e : k ≡ sink_now P turn) (h : turn < P.taps.count) where
  pub sink_in : k < P.taps.count
  sink_in = (sink-now P turn k e h).0

  -- what a route's search asks of the marks
  grounds : Grounds (site_at P joinable) blocked (tap_at P k).approach
  grounds = record {
    good = S.good;
    config-good = S.config-good;
    kinds-long = S.kinds-long;
    joinable-long = rw G.joinable-is G.sprouted.joinable-long;
    joinable-marks = rw G.joinable-is G.sprouted.joinable-marks;
    no_pair = rw G.joinable-is G.sprouted.no_pair;
    blocked-long = rw G.blocked-is G.sprouted.blocked-long;
    blocked-marks = rw G.blocked-is G.sprouted.blocked-marks;
    start_in = S.net.taps_in_lem.approach_in k sink_in;
    places-some = S.places-some;
  }

  -- the branches' lengths tell where they stand
  used-is : used_by L ≡ length (joined G.tree.branches)
  used-is = lengths-sum G.tree.branches L G.lengths-are (G.sprouted.count-is ∙ sym count)

  before-is : before_sink L k ≡ length (joined (take k G.tree.branches))
  before-is = joined-place G.tree.branches L.each G.lengths-are k (omega (arith, sink_in, G.sprouted.count-is))

  at-within : before_sink L k ≤ used_by L
  at-within = rw (before-is, used-is) (place-within G.tree.branches k (sink_in_tree G.sprouted k e h) (sink-empty G.sprouted k e h) G.in_order)

  used-short : used_by L ≤ max_sinks * longest_branch
  used-short = let t = sum-most longest_branch L.each L.count (λ i g. G.each-short i (omega (arith, count, S.net.taps_in_lem.few))) in omega (arith, t, count, S.net.taps_in_lem.few)

  lengths_short : Short L
  lengths_short = record { whole = G.each_long; short = G.each-short }

  -- what the search came to is what the definition's does
  module _ {r : Tried} {best : List ℕ}
      (T : Tells (route_to_tree (site_at P joinable) (tap_at P k).approach blocked) r best) where
    trial : told r best ≡ route_to_tree (site_at P G.tree.joinable) (tap_at P k).approach G.tree.blocked
    trial = T.is ∙ rw (G.joinable-is, G.blocked-is)

    route-known : (path : List ℕ) (cost : ℕ) → told r best ≡ found path cost → RouteKnown (site_at P G.tree.joinable) (tap_at P k).approach path
    unfolding graph_of
    route-known path cost f =
        let J = tree-joins (site_at P G.tree.joinable) (tap_at P k).approach G.tree.blocked path cost (sym trial ∙ f) in
        let i = S.net.taps_in_lem.approach_in k sink_in in
        let w = joins-lawful i J in
        record {
          rest = w.rest;
          begins = w.begins;
          steps = steps-by-place P.room path (joins-steps i J);
          short = joins-short i J;
          cells_in = joins-cells i J;
          free = J.reaches.free;
        }

-- a route's path stands in its buffer
pub found-fits : {trial : Trial} {r : Tried} {cells : List ℕ} → Tells trial r cells → (f : Found) → r ≡ Ok (Some f) → f.length ≤ length cells
found-fits T f q = rw q at T.fits

-- ---- what the turn comes to

-- a number that is due for a sink is due for the whole
pub early-growth : {P : Plot} {outset start-buffer each joinable blocked branches : List ℕ} {stop : Stop} {sink : ℕ}
    → StoppedEarly P outset start-buffer each joinable blocked branches stop sink → growth_of P outset ≡ stopped_by stop
early-growth {P = P} {outset = outset} E = turn-stops P outset E.turn_in_lem E.growing.tree E.growing.same _ _ (rw E.sink-is at E.stops)

-- the slices hold the tree still
unmoved : {P : Plot} {outset start-buffer each : List ℕ} {turn k : ℕ} {joinable blocked branches : List ℕ} → turn < P.taps.count → k ≡ sink_now P turn
    → (G : Growing P outset start-buffer turn joinable blocked branches each) → {stop : Stop} → grow_sink P k G.tree ≡ stopped_by stop
    → {joinable' blocked' branches' : List ℕ} → joinable' ≡ joinable → blocked' ≡ blocked → branches' ≡ branches
    → StoppedEarly P outset start-buffer each joinable' blocked' branches' stop k
unmoved {turn = turn} h e G s j b u = rw (j, b, u) (record { turn = turn; turn_in_lem = h; sink-is = e; growing = G; stops = s })

module _ {P : Plot} {turn : ℕ} {L : BranchLengths} {joinable blocked classes known previous path best branches : List ℕ}
    (A : Turnable P turn L joinable blocked classes known previous path best branches) (k : ℕ) (e : k ≡ sink_now P turn) where
  pub findable : Findable (site_at P joinable) blocked classes known previous path best (tap_at P k).approach
  findable = record { grounds = grounds A.sound A.growing A.count-is k e A.turn_in_lem; memory = A.memory; classes-long = A.classes-long; best-long = A.best-long }

  module _ {r : Tried} {best' : List ℕ}
      (T : Tells (route_to_tree (site_at P joinable) (tap_at P k).approach blocked) r best')
    where
      pub came-full : (x : full-queue.QueueFull) → r ≡ Err x → {joinable' blocked' : List ℕ} → joinable' ≡ joinable → blocked' ≡ blocked
          → TurnCame P turn L joinable blocked branches (Err (record { stop = QueueFull x.0; sink = k })) joinable' blocked' branches
      came-full x q j b = record {
        came = λ o s G. unmoved A.turn_in_lem e G {stop = QueueFull x.0} (sink-full A.sound G A.turn_in_lem k e (trial A.sound G A.count-is k e A.turn_in_lem T) x.0.0 (rw q)) j b refl;
      }

      pub came-failed : r ≡ Ok None → {joinable' blocked' : List ℕ} → joinable' ≡ joinable → blocked' ≡ blocked
          → TurnCame P turn L joinable blocked branches (Err (record { stop = NoGoal (tap_at P k).approach; sink = k })) joinable' blocked' branches
      came-failed q j b = record {
        came = λ o s G. unmoved A.turn_in_lem e G {stop = NoGoal (tap_at P k).approach} (sink_fails A.sound G A.turn_in_lem k e (trial A.sound G A.count-is k e A.turn_in_lem T) (rw q)) j b refl;
      }

      module _ (f : Found) (q : r ≡ Ok (Some f)) where
        is_found : told r best' ≡ found (take f.length best') f.cost.0
        is_found = rw q

        pub branch-placeable : {joinable'' blocked'' : List ℕ} → joinable'' ≡ joinable → blocked'' ≡ blocked
            → BranchPlaceable P.room k L (tap_at P k) (take f.length best') joinable'' blocked''
        branch-placeable j b =
            let G = A.growing in
            let w = route-known A.sound G A.count-is k e A.turn_in_lem T (take f.length best') f.cost.0 is_found in
            record {
              good = A.sound.good;
              few = omega (arith, A.count-is, A.sound.net.taps_in_lem.few);
              sink_in = omega (arith, sink_in A.sound G A.count-is k e A.turn_in_lem, A.count-is);
              lengths_short = lengths_short A.sound G A.count-is k e A.turn_in_lem;
              at-within = at-within A.sound G A.count-is k e A.turn_in_lem;
              used-short = used-short A.sound G A.count-is k e A.turn_in_lem;
              some = route-some w;
              short = omega (arith, w.short, A.sound.good.few);
              path_in = w.cells_in;
              terminal_in_lem = A.sound.net.taps_in_lem.terminal_in_lem k (sink_in A.sound G A.count-is k e A.turn_in_lem);
              joinable-long = rw (j, G.joinable-is) G.sprouted.joinable-long;
              blocked-long = rw (b, G.blocked-is) G.sprouted.blocked-long;
            }

        pub came-placed : P.buffer ≡ length branches → {joinable' blocked' branches' joinable'' blocked'' : List ℕ} → joinable'' ≡ joinable → blocked'' ≡ blocked → {t : Result Grown Stopped}
            → BranchPlaced P.room k L (tap_at P k) (take f.length best') branches joinable'' blocked'' t branches' joinable' blocked'
            → TurnCame P turn L joinable blocked branches t joinable' blocked' branches'
        came-placed m j b (buffer-full over is same) = record {
          came = λ o s G. rw is (unmoved A.turn_in_lem e G {stop = BufferFull (k + 1)} (sink-buffer-full A.sound G A.turn_in_lem k e (trial A.sound G A.count-is k e A.turn_in_lem T) (take f.length best') f.cost.0 is_found
              (omega (arith, m, over, used-is A.sound G A.count-is k e A.turn_in_lem))) (same.1 ∙ j) (same.2 ∙ b) same.0);
        }
        came-placed m j b (is-placed fits is D) = record {
          came = λ o s G.
              let w = route-known A.sound G A.count-is k e A.turn_in_lem T (take f.length best') f.cost.0 is_found in
              let u = used-is A.sound G A.count-is k e A.turn_in_lem in
              rw is (
                omega (arith, sink_in A.sound G A.count-is k e A.turn_in_lem, A.sound.net.taps_in_lem.few),
                sink-grows A.sound G A.turn_in_lem k e (trial A.sound G A.count-is k e A.turn_in_lem T) (take f.length best') f.cost.0 is_found w (omega (arith, m, fits, u))
                    (rw j at D.joinable-are) (rw b at D.blocked-are) (rw (before-is A.sound G A.count-is k e A.turn_in_lem, u) at D.branches-are) refl,
              );
        }
