-- "WHY COULDN'T THIS SINK BE REACHED?" What `why_no_goal` tells is so, in both modes, from its promise alone: for 13 and 14 the sink's place and what its verdict
-- means, of a sink that is shut in every byte of the three outputs; for any other number nothing is told.
use Rattle.std.specs.Prelude.{◌≡◌, ◌≢◌, true, false, List, [], ℕ, suc, ◌≤◌, ◌<◌, eqb, replicate}
use Rattle.std.proofs.Math.Path.{refl, ap}
use Rattle.std.proofs.Common.{sym, ◌∙◌, arith, eqb-true, ne_eqb}
use Rattle.std.proofs.Math.Nat.{sub-zero}
use Rattle.std.proofs.Math.ListN.{length}
use Rattle.numbers.specs.Refusals.{buffer_number, queue_full_number, no_goal_number}
use Rattle.basics.specs.Tests.{ask, never}
use Rattle.lent.specs.Lent.{touches, filled, output_after}
use Rattle.room.specs.Room.{volume}
use Rattle.ground.specs.declared.Mode.{Mode}
use Rattle.ends.specs.Ends.{ends_of}
use Rattle.flood.specs.Walls.{tabled, marks_by, walls_by}
use Rattle.causes.specs.Causes.{cause_of}
use Rattle.multinet.specs.Tree.{Plot}
use Rattle.multinet.specs.Growing.{SoundPlot}
use Rattle.multinet.proofs.GrowingLaws.{sink-now}
use Rattle.why_tree.specs.WhyTree.{tree_obstacle, is_shut_in, verdict_of}
use Rattle.net_tree.specs.declared.Lengths.{Lengths}
use Rattle.net_tree.specs.Answers as trees
use Rattle.net_tree.specs.Answers.{Lent, lengths_of, TreeOutcome, routed, no_tree, answer_of, number_for}
use Rattle.net_tree.specs.JobLaws.{plot-sound}
use Rattle.exports.specs.TreeExport.{number_told}
use Rattle.sink_why.specs.PromiseLaws.{answer-is, place-is, verdict-is as told-verdict}
use Rattle.sink_why.specs.SinkWhy.{Why, answer_in, place_in, verdict_in, StoppedAt, no_reason, reason_at, reason_of, asks_why, TellsWhy, unasked, asked, WhyComes, outputs-short, as_tree, Outputs, Promise}
use Rattle.sink_claims.specs.Statements.{WallsSay, CausesSay}
use Rattle.sink_claims.specs.AnswerStatements.{plot_there, sink_there, approach_there, AllZero, Told, Untold, WhyMeans}
use Rattle.sink_claims.specs.TreeWallLaws.{walls_say}
use Rattle.sink_claims.proofs.VerdictLaws.{verdict_true, none-reached, verdict-exact, else_way}
use Rattle.sink_claims.proofs.CauseTrueLaws.{outset-is, causes_say, kept_caused}

-- ---- where the growth stopped

module _ {mode : Mode} {sheet : List ℕ} {L : Lengths} {number detail : ℕ} (S : StoppedAt mode sheet L number detail) where
  abbrev P : Plot
  P = plot_there S

  abbrev k : ℕ
  k = sink_there S

  abbrev verdict : ℕ
  verdict = verdict_of P S.tree k number

  abbrev obstacle : ℕ → ℕ
  obstacle = tree_obstacle P.mode P.room P.kinds S.tree.blocked S.tree.joinable (approach_there S)

  sound : SoundPlot P
  sound = let U = S.unrefused in plot-sound mode S.contents U.means U.contents-good L U.lengths-good U.is_set U.is-ready

  k_in : k < P.taps.count
  k_in = (sink-now P S.turn k refl S.there.turn_in_lem).0

  sink_in : k < length S.contents.sinks
  unfolding ends_of
  sink_in = let e : P.taps.count ≡ length S.contents.sinks = ap (λ x. x.taps.count) S.unrefused.is_set.ends-are in omega (arith, k_in, e)

  -- what is told, by its parts
  place_of : (reason_of S).place ≡ suc k
  unfolding reason_at
  place_of = refl

  verdict-of : (reason_of S).verdict ≡ verdict
  unfolding reason_at
  verdict-of = refl

  module _ (e : verdict ≡ is_shut_in) where
    reached-of : (reason_of S).reached ≡ marks_by P.room obstacle (approach_there S)
    unfolding reason_at
    reached-of = rw e

    walls-of : (reason_of S).walls ≡ walls_by P.room obstacle (approach_there S)
    unfolding reason_at
    walls-of = rw e

    causes-of : (reason_of S).causes ≡ tabled (volume P.room) (cause_of P.kinds S.nodes S.contents P.source P.taps S.tree.branches)
    unfolding reason_at
    causes-of = rw e

  module _ (n : verdict ≢ is_shut_in) where
    no_reached : (reason_of S).reached ≡ []
    unfolding reason_at
    no_reached = rw (ne_eqb verdict is_shut_in n)

    no_walls : (reason_of S).walls ≡ []
    unfolding reason_at
    no_walls = rw (ne_eqb verdict is_shut_in n)

    no_causes : (reason_of S).causes ≡ []
    unfolding reason_at
    no_causes = rw (ne_eqb verdict is_shut_in n)

-- ---- of the promise

-- 13 and 14 touch the outputs
asked-touches : (number : ℕ) → asks_why number ≡ true → touches number ≡ true
asked-touches number e =
    ask (eqb number queue_full_number)
    (λ t. rw (eqb-true number queue_full_number t))
    (λ f. rw (eqb-true number no_goal_number (rw f at e)))

told-number : (o : TreeOutcome) → number_told (answer_of o) ≡ number_for o
told-number (routed branches occupied repeaters) = refl
told-number (no_tree number detail) = refl

-- what an output holds where it is touched, and where nothing is written to it
module _ (number : ℕ) (cells buffer : List ℕ) {after : List ℕ} (t : touches number ≡ true) (e : after ≡ output_after number cells buffer) where
  written : after ≡ filled cells buffer
  written = rw t at e

  blank : cells ≡ [] → after ≡ replicate (length buffer) 0
  blank z = rw (t, z, sub-zero) at e

same-outputs : {U U' : Outputs} → U'.reached ≡ U.reached → U'.walls ≡ U.walls → U'.causes ≡ U.causes → U' ≡ U
same-outputs r w c = λ i. record { reached = r i; walls = w i; causes = c i }

module _ {mode : Mode} {sheet : List ℕ} {B : Lent} {U : Outputs} {r : Why} {B' : Lent} {U' : Outputs} (K : Promise mode sheet B U r B' U') where
  number_is : number_told (answer_in r) ≡ number_for K.outcome
  number_is = ap number_told (answer-is K) ∙ told-number K.outcome

  module _ (number detail : ℕ) (o : K.outcome ≡ no_tree number detail) (a : asks_why number ≡ true) (S : StoppedAt mode sheet (lengths_of B) number detail)
      (w : K.reason ≡ reason_of S) where
    verdict-is : (verdict_in r) ≡ verdict S
    verdict-is = told-verdict K ∙ ap (λ x. x.verdict) w ∙ verdict-of S

    touched : touches (number_for K.outcome) ≡ true
    touched = rw o (asked-touches number a)

    walls-there : (verdict_in r) ≡ is_shut_in → WallsSay (plot_there S) S.tree (approach_there S) U'.reached U'.walls
    walls-there z =
        let e : verdict S ≡ is_shut_in = sym verdict-is ∙ z in
        let q = written (number_for K.outcome) K.reason.reached U.reached touched K.reached-is ∙ ap (λ l. filled l U.reached) (ap (λ x. x.reached) w ∙ reached-of S e) in
        let p = written (number_for K.outcome) K.reason.walls U.walls touched K.walls-is ∙ ap (λ l. filled l U.walls) (ap (λ x. x.walls) w ∙ walls-of S e) in
        rw (q, p)
        (walls_say (plot_there S) S.tree (approach_there S) (sound S).good ((sound S).net.taps_in_lem.approach_in (k S) (k_in S)) _ _
        (none-reached (plot_there S) (sound S) S.tree (k S) (k_in S) number e))

    causes-there : (verdict_in r) ≡ is_shut_in → CausesSay S.kinds S.nodes S.contents (plot_there S) S.tree U'.causes
    causes-there z =
        let e : verdict S ≡ is_shut_in = sym verdict-is ∙ z in
        let q = written (number_for K.outcome) K.reason.causes U.causes touched K.causes-is ∙ ap (λ l. filled l U.causes) (ap (λ x. x.causes) w ∙ causes-of S e) in
        let before : S.turn ≤ (plot_there S).taps.count = omega (arith, S.there.turn_in_lem) in
        rw q
        (causes_say S.kinds S.nodes S.contents (plot_there S) refl S.turn before S.tree
        (rw (outset-is S.unrefused.is_set S.unrefused.is-ready) at S.there.so_far) _)

    else_there : (verdict_in r) ≢ is_shut_in → AllZero U U'
    else_there n =
        let m : verdict S ≢ is_shut_in = λ e. n (verdict-is ∙ e) in
        record {
          reached_zero = blank (number_for K.outcome) K.reason.reached U.reached touched K.reached-is (ap (λ x. x.reached) w ∙ no_reached S m);
          walls_zero = blank (number_for K.outcome) K.reason.walls U.walls touched K.walls-is (ap (λ x. x.walls) w ∙ no_walls S m);
          causes_zero = blank (number_for K.outcome) K.reason.causes U.causes touched K.causes-is (ap (λ x. x.causes) w ∙ no_causes S m);
        }

    told-there : Told mode sheet (lengths_of B) U r U'
    told-there = record {
      number = number;
      detail = detail;
      ended_so = answer-is K ∙ ap answer_of o;
      stopped-at = S;
      sink_in = sink_in S;
      place_is = place-is K ∙ ap (λ x. x.place) w ∙ place_of S;
      verdict-means = rw verdict-is (verdict_true (plot_there S) (sound S) S.tree (k S) (k_in S) number detail S.there.stops);
      verdict-exactly = λ n. rw verdict-is (verdict-exact (plot_there S) (sound S) S.tree (k S) (k_in S) number n);
      else_way = λ n x y free.
          else_way (plot_there S) (sound S) S.tree (k S) (k_in S) number n (λ e. x (verdict-is ∙ e)) (λ e. y (verdict-is ∙ e)) free;
      walls_say = walls-there;
      causes_say = causes-there;
      kept_caused = λ z v h e. kept_caused (causes-there z) (approach_there S) v h e;
      else_zero = else_there;
    }

  module _ (f : asks_why (number_for K.outcome) ≡ false) (w : K.reason ≡ no_reason) where
    untold-there : Untold U r U'
    untold-there = record {
      no_place = place-is K ∙ ap (λ x. x.place) w;
      no_verdict = told-verdict K ∙ ap (λ x. x.verdict) w;
      zero_so = λ t.
          let touched = rw number_is at t in
          record {
            reached_zero = blank (number_for K.outcome) K.reason.reached U.reached touched K.reached-is (ap (λ x. x.reached) w);
            walls_zero = blank (number_for K.outcome) K.reason.walls U.walls touched K.walls-is (ap (λ x. x.walls) w);
            causes_zero = blank (number_for K.outcome) K.reason.causes U.causes touched K.causes-is (ap (λ x. x.causes) w);
          };
      kept-so = λ t.
          let kept : touches (number_for K.outcome) ≡ false = rw number_is at t in
          same-outputs (rw kept at K.reached-is) (rw kept at K.walls-is) (rw kept at K.causes-is);
    }

  told-so : asks_why (number_told (answer_in r)) ≡ true → Told mode sheet (lengths_of B) U r U'
  told-so t = go K.tells
    where
      go : TellsWhy mode sheet (lengths_of B) K.outcome K.reason → Told mode sheet (lengths_of B) U r U'
      go (unasked f w) = let t' = rw number_is at t in never (cc)
      go (asked number detail o a S w) = told-there number detail o a S w

  untold-so : asks_why (number_told (answer_in r)) ≡ false → Untold U r U'
  untold-so f = go K.tells
    where
      go : TellsWhy mode sheet (lengths_of B) K.outcome K.reason → Untold U r U'
      go (unasked g w) = untold-there g w
      go (asked number detail o a S w) = let f' = rw (number_is, o) at f in never (cc)

  as_the_tree : number_told (answer_in r) ≢ buffer_number → trees.Promise mode sheet B (answer_in r) B'
  as_the_tree n = go K.comes
    where
      go : WhyComes mode sheet (lengths_of B) (length U.reached) (length U.walls) (length U.causes) K.outcome → trees.Promise mode sheet B (answer_in r) B'
      go (outputs-short J m g s o) = absurd (n (number_is ∙ ap number_for o))
      go (as_tree g c) = record { outcome = K.outcome; comes = c; answer = answer-is K; lent_is = K.lent_is }

  -- WHAT IS TOLD IS TRUE
  pub why-means : WhyMeans mode sheet B U r B' U'
  why-means = record {
    verdict-exactly = (
      (λ n. ask (asks_why (number_told (answer_in r))) (λ t. t) (λ f. absurd (n (untold-so f).no_verdict))),
      (λ t z. omega (arith, (told-so t).verdict-means.some, z)),
    );
    told = told-so;
    untold = untold-so;
    stands_in_lem = as_the_tree;
  }
