-- The promise of `why_no_goal` determines everything.
use Rattle.std.specs.Prelude.{◌≡◌, refl, Ok, Err, true, List, ℕ}
use Rattle.std.proofs.Common.{sym, ap, subst, ◌∙◌}
use Rattle.basics.specs.Tests.{never}
use Rattle.basics.specs.Promises.{Determines}
use Rattle.lent.specs.Lent.{output_after}
use Rattle.ground.specs.declared.Mode.{Mode}
use Rattle.job_sheet.proofs.Theorems.{one-meaning}
use Rattle.outset.specs.SetOut.{OutsetOf}
use Rattle.outset.specs.SetOutLaws.{outset-one}
use Rattle.multinet.specs.Tree.{Plot, sink_now}
use Rattle.why_tree.specs.WhyTree.{verdict_of, StopsThere}
use Rattle.net_tree.specs.declared.Lengths.{Lengths}
use Rattle.net_tree.specs.Answers.{Answer, routed, Lent, lengths_of, TreeOutcome, no_tree, plot_for, answer_of, number_for, lent_after}
use Rattle.net_tree.specs.PromiseLaws.{comes-one}
use Rattle.sink_why.specs.SinkWhy.{Why, why_with, told_of, answer_in, place_in, verdict_in, StoppedAt, Reason, reason_at, reason_of, asks_why, TellsWhy, unasked, asked, WhyComes, outputs-short, as_tree, Outputs, Promise}
use Rattle.sink_why.specs.TurnLaws.{one-turn, one-tree}

-- one outcome comes of a sheet
module _ {mode : Mode} {sheet : List ℕ} {L : Lengths} {reached walls causes : ℕ} where
  pub why-comes-one : {o q : TreeOutcome} → WhyComes mode sheet L reached walls causes o → WhyComes mode sheet L reached walls causes q → o ≡ q
  why-comes-one (outputs-short J m g f e) (outputs-short K n h d k) = e ∙ sym k
  why-comes-one (outputs-short J m g f e) (as_tree good C) = never (cc (sym f ∙ good J m g))
  why-comes-one (as_tree good C) (outputs-short J m g f e) = never (cc (sym f ∙ good J m g))
  why-comes-one (as_tree good C) (as_tree also D) = comes-one C D

-- one turn stops its growth, so one reason is told
module _ {mode : Mode} {sheet : List ℕ} {L : Lengths} {number detail : ℕ} (S S' : StoppedAt mode sheet L number detail) where
  same-contents : S.contents ≡ S'.contents
  same-contents = one-meaning sheet S.contents S'.contents S.unrefused.means S'.unrefused.means

  same_set : (S.outset ≡ S'.outset) × (S.kinds ≡ S'.kinds) × (S.nodes ≡ S'.nodes) × (S.blocked ≡ S'.blocked)
  same_set = outset-one (subst (λ J. OutsetOf J S.outset S.kinds S.nodes S.blocked) same-contents S.unrefused.is_set) S'.unrefused.is_set

  abbrev plot : Plot
  plot = plot_for mode S.contents L S.outset S.kinds

  abbrev plot' : Plot
  plot' = plot_for mode S'.contents L S'.outset S'.kinds

  same-plot : plot ≡ plot'
  same-plot = λ i. plot_for mode (same-contents i) L (same_set.0 i) (same_set.1 i)

  there : StopsThere plot' S'.blocked S.turn S.tree number detail
  there =
      subst (λ b. StopsThere plot' b S.turn S.tree number detail) same_set.3
      (subst (λ P. StopsThere P S.blocked S.turn S.tree number detail) same-plot S.there)

  same_turn : S.turn ≡ S'.turn
  same_turn = one-turn there S'.there

  same-tree : S.tree ≡ S'.tree
  same-tree = one-tree there S'.there

  pub reason-one : reason_of S ≡ reason_of S'
  reason-one = λ i. reason_at (same-contents i) (same-plot i) (same_set.2 i) (same-tree i) (sink_now (same-plot i) (same_turn i)) (verdict_of (same-plot i) (same-tree i) (sink_now (same-plot i) (same_turn i)) number)

module _ {mode : Mode} {sheet : List ℕ} {L : Lengths} {o : TreeOutcome} where
  same-reason : {n d n' d' : ℕ} → o ≡ no_tree n d → o ≡ no_tree n' d' → (S : StoppedAt mode sheet L n d) (S' : StoppedAt mode sheet L n' d') → reason_of S ≡ reason_of S'
  same-reason {n} {d} {n'} {d'} p q S S' =
      let a : n ≡ n' = ap number_for (sym p ∙ q) in
      let b : d ≡ d' = cc in
      go a b S S'
    where
      go : {n d n' d' : ℕ} → n ≡ n' → d ≡ d' → (S : StoppedAt mode sheet L n d) (S' : StoppedAt mode sheet L n' d') → reason_of S ≡ reason_of S'
      go {n} {d} {n'} {d'} a b =
          subst (λ (m : ℕ). (S : StoppedAt mode sheet L n d) (S' : StoppedAt mode sheet L m d') → reason_of S ≡ reason_of S') a
          (subst (λ (x : ℕ). (S : StoppedAt mode sheet L n d) (S' : StoppedAt mode sheet L n x) → reason_of S ≡ reason_of S') b (λ S S'. reason-one S S'))

  pub tells-one : {w v : Reason} → TellsWhy mode sheet L o w → TellsWhy mode sheet L o v → w ≡ v
  tells-one (unasked f e) (unasked g d) = e ∙ sym d
  tells-one (unasked f e) (asked n d q a S s) = never (cc (sym f ∙ ap (λ x. asks_why (number_for x)) q ∙ a))
  tells-one (asked n d q a S s) (unasked f e) = never (cc (sym f ∙ ap (λ x. asks_why (number_for x)) q ∙ a))
  tells-one (asked n d q a S s) (asked n' d' q' a' S' s') = s ∙ same-reason q q' S S' ∙ sym s'

-- ---- what an answer holds

answer-with : (a : Answer) (o : _) → answer_in (why_with a o) ≡ a
answer-with (Ok tree) o = refl
answer-with (Err refused) o = refl

module _ {mode : Mode} {sheet : List ℕ} {L : Lengths} where
  place-with : (o : TreeOutcome) {w : Reason} → TellsWhy mode sheet L o w → place_in (why_with (answer_of o) (told_of (number_for o) w)) ≡ w.place
  place-with (routed bs x y) (unasked f e) = sym (ap (λ r. r.place) e)
  place-with (routed bs x y) (asked n d q a S s) = never (cc)
  place-with (no_tree m x) (unasked f e) = rw f (sym (ap (λ r. r.place) e))
  place-with (no_tree m x) (asked n d q a S s) = let t : asks_why m ≡ true = ap (λ o. asks_why (number_for o)) q ∙ a in rw t refl

  verdict-with : (o : TreeOutcome) {w : Reason} → TellsWhy mode sheet L o w → verdict_in (why_with (answer_of o) (told_of (number_for o) w)) ≡ w.verdict
  verdict-with (routed bs x y) (unasked f e) = sym (ap (λ r. r.verdict) e)
  verdict-with (routed bs x y) (asked n d q a S s) = never (cc)
  verdict-with (no_tree m x) (unasked f e) = rw f (sym (ap (λ r. r.verdict) e))
  verdict-with (no_tree m x) (asked n d q a S s) = let t : asks_why m ≡ true = ap (λ o. asks_why (number_for o)) q ∙ a in rw t refl

module _ {mode : Mode} {sheet : List ℕ} {B : Lent} {U : Outputs} {r : Why} {B' : Lent} {U' : Outputs} (K : Promise mode sheet B U r B' U') where
  pub answer-is : answer_in r ≡ answer_of K.outcome
  answer-is = ap answer_in K.why-is ∙ answer-with (answer_of K.outcome) _

  pub place-is : place_in r ≡ K.reason.place
  place-is = ap place_in K.why-is ∙ place-with K.outcome K.tells

  pub verdict-is : verdict_in r ≡ K.reason.verdict
  verdict-is = ap verdict_in K.why-is ∙ verdict-with K.outcome K.tells

-- ---- two results that keep the promise coincide: the answer, and every byte of lent memory

pub record Result : Type 0 where
  pub why : Why
  pub lent : Lent
  pub outputs : Outputs

module _ (mode : Mode) (sheet : List ℕ) (B : Lent) (U : Outputs) where
  abbrev pub Keeps : Result → Type 0
  Keeps R = Promise mode sheet B U R.why R.lent R.outputs

  pub coincide : Determines Keeps
  coincide x y p q =
      let e = why-comes-one p.comes q.comes in
      let w = tells-one (subst (λ o. TellsWhy mode sheet (lengths_of B) o p.reason) e p.tells) q.tells in
      let a = p.why-is ∙ (λ i. why_with (answer_of (e i)) (told_of (number_for (e i)) (w i))) ∙ sym q.why-is in
      let b = p.lent_is ∙ ap (λ o. lent_after o B) e ∙ sym q.lent_is in
      let r = p.reached-is ∙ (λ i. output_after (number_for (e i)) (w i).reached U.reached) ∙ sym q.reached-is in
      let l = p.walls-is ∙ (λ i. output_after (number_for (e i)) (w i).walls U.walls) ∙ sym q.walls-is in
      let c = p.causes-is ∙ (λ i. output_after (number_for (e i)) (w i).causes U.causes) ∙ sym q.causes-is in
      λ i. record { why = a i; lent = b i; outputs = record { reached = r i; walls = l i; causes = c i } }
