-- The promise of the exported question, by its cases; and that it determines everything.
use Rattle.std.specs.Prelude.{◌≡◌, refl, true, false, List, ℕ, ◌≤◌, ◌<◌, eqb, length, set}
use Rattle.std.proofs.Common.{sym, ap, subst, ◌∙◌, arith, eqb-true}
use Rattle.numbers.specs.Refusals.{queue_full_number, no_goal_number}
use Rattle.basics.specs.Tests.{ask, never}
use Rattle.basics.specs.Promises.{Determines}
use Rattle.lent.specs.Lent.{touches, filled, output_after}
use Rattle.ground.specs.declared.Mode.{Mode}
use Rattle.net_tree.specs.declared.Lengths.{Lengths}
use Rattle.net_tree.specs.Answers.{Answer, Lent, lengths_of, TreeOutcome, no_tree, answer_of, number_for, lent_after}
use Rattle.exports.specs.TreeExport.{number_told, tree_values, values_after, ShortNumber}
use Rattle.exports.specs.TreeExportLaws.{short-small, short-one}
use Rattle.sink_why.specs.SinkWhy.{Why, answer_in, place_in, verdict_in, no_reason, asks_why, TellsWhy, unasked, Outputs, Promise}
use Rattle.sink_why.specs.PromiseLaws.{answer-is, place-is, verdict-is, why-comes-one, tells-one}
use Rattle.sink_reply.specs.SinkReply.{place_at, verdict_at, why_count, why_values_after, WhyTreeComes, too-few-values, enough-values, WhyTreeExported}

-- ---- two values behind the tree's

pub written_behind : (a : Answer) (number place verdict : ℕ) → number ≡ number_told a → (values : List ℕ) {twenty : List ℕ} → twenty ≡ values_after a values → touches number ≡ true
    → set (set twenty place_at place) verdict_at verdict ≡ why_values_after a place verdict values
written_behind a number place verdict n values {twenty} e t =
    let told : touches (number_told a) ≡ true = ap touches (sym n) ∙ t in
    let w : twenty ≡ filled (tree_values a) values = rw told at e in
    rw (told, w) refl

pub kept-untouched : (a : Answer) (number place verdict : ℕ) → number ≡ number_told a → (values : List ℕ) {twenty : List ℕ} → twenty ≡ values_after a values → touches number ≡ false
    → twenty ≡ why_values_after a place verdict values
kept-untouched a number place verdict n values e f =
    let told : touches (number_told a) ≡ false = ap touches (sym n) ∙ f in
    rw told (rw told at e)

-- ---- the promise by its cases

-- nothing is told of a number that touches nothing
unasked-small : (number : ℕ) → touches number ≡ false → asks_why number ≡ false
unasked-small number f =
    ask (eqb number queue_full_number)
    (λ t. let n = eqb-true number queue_full_number t in never (cc (sym f ∙ ap touches n)))
    (λ q. ask (eqb number no_goal_number)
    (λ t. let n = eqb-true number no_goal_number t in never (cc (sym f ∙ ap touches n)))
    (λ s. rw (q, s)))

module _ {mode : Mode} {sheet : List ℕ} {B : Lent} {U : Outputs} {values : List ℕ} where
  -- too few values: nothing is touched
  pub why-short : {r : ℕ} → length values < why_count → ShortNumber sheet r → WhyTreeExported mode sheet B U values r B U values
  why-short {r = r} h n =
      let e = short-small n.reading.judgement r n.number_is in
      record {
        outcome = no_tree r 0;
        comes = too-few-values h r n refl;
        reason = no_reason;
        tells = unasked (unasked-small r e) refl;
        number = refl;
        lent_is = rw e refl;
        reached-is = rw e refl;
        walls-is = rw e refl;
        causes-is = rw e refl;
        values-is = rw e refl;
      }

  -- the answer, told
  pub why-told : {w : Why} {r : ℕ} {B' : Lent} {U' : Outputs} {values' : List ℕ} → why_count ≤ length values → Promise mode sheet B U w B' U'
      → r ≡ number_told (answer_in w) → values' ≡ why_values_after (answer_in w) (place_in w) (verdict_in w) values → WhyTreeExported mode sheet B U values r B' U' values'
  why-told h P n v = record {
    outcome = P.outcome;
    comes = enough-values h P.comes;
    reason = P.reason;
    tells = P.tells;
    number = n ∙ ap number_told (answer-is P);
    lent_is = P.lent_is;
    reached-is = P.reached-is;
    walls-is = P.walls-is;
    causes-is = P.causes-is;
    values-is = v ∙ (λ i. why_values_after (answer-is P i) (place-is P i) (verdict-is P i) values);
  }

-- ---- two results that keep the promise coincide: the number, the values, and every byte of lent memory

comes-one : {mode : Mode} {sheet : List ℕ} {L : Lengths} {reached walls causes values : ℕ} {o q : TreeOutcome}
    → WhyTreeComes mode sheet L reached walls causes values o → WhyTreeComes mode sheet L reached walls causes values q → o ≡ q
comes-one (too-few-values h m s e) (too-few-values k n t d) = e ∙ ap (λ x. no_tree x 0) (short-one s t) ∙ sym d
comes-one (too-few-values h m s e) (enough-values k c) = absurd (omega arith)
comes-one (enough-values h c) (too-few-values k n t d) = absurd (omega arith)
comes-one (enough-values h c) (enough-values k d) = why-comes-one c d

pub record Result : Type 0 where
  pub number : ℕ
  pub lent : Lent
  pub outputs : Outputs
  pub values : List ℕ

module _ (mode : Mode) (sheet : List ℕ) (B : Lent) (U : Outputs) (values : List ℕ) where
  abbrev pub Keeps : Result → Type 0
  Keeps R = WhyTreeExported mode sheet B U values R.number R.lent R.outputs R.values

  pub coincide : Determines Keeps
  coincide x y p q =
      let e = comes-one p.comes q.comes in
      let w = tells-one (subst (λ o. TellsWhy mode sheet (lengths_of B) o p.reason) e p.tells) q.tells in
      let n = p.number ∙ ap (λ o. number_told (answer_of o)) e ∙ sym q.number in
      let b = p.lent_is ∙ ap (λ o. lent_after o B) e ∙ sym q.lent_is in
      let r = p.reached-is ∙ (λ i. output_after (number_for (e i)) (w i).reached U.reached) ∙ sym q.reached-is in
      let l = p.walls-is ∙ (λ i. output_after (number_for (e i)) (w i).walls U.walls) ∙ sym q.walls-is in
      let c = p.causes-is ∙ (λ i. output_after (number_for (e i)) (w i).causes U.causes) ∙ sym q.causes-is in
      let v = p.values-is ∙ (λ i. why_values_after (answer_of (e i)) (w i).place (w i).verdict values) ∙ sym q.values-is in
      λ i. record { number = n i; lent = b i; outputs = record { reached = r i; walls = l i; causes = c i }; values = v i }
