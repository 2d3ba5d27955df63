-- The same of `dustroute_tree_why`, from its promise alone. Fewer than 22 values are refused, and nothing is said then.
use Rattle.std.specs.Prelude.{◌≡◌, refl, List, ℕ, ◌≤◌, length}
use Rattle.std.proofs.Common.{sym, ap, ◌∙◌, arith}
use Rattle.ground.specs.declared.Mode.{Mode}
use Rattle.net_tree.specs.Answers.{Lent, lengths_of, answer_of, number_for}
use Rattle.exports.specs.TreeExport.{number_told}
use Rattle.sink_why.specs.PromiseLaws.{answer-is, place-is, verdict-is}
use Rattle.sink_why.specs.SinkWhy.{why_with, told_of, Why, answer_in, place_in, verdict_in, Outputs, WhyComes, Promise}
use Rattle.sink_reply.specs.SinkReply.{why_count, why_values_after, WhyTreeComes, too-few-values, enough-values, WhyTreeExported}
use Rattle.sink_claims.specs.AnswerStatements.{WhyMeans}
use Rattle.sink_claims.proofs.Theorems.{why-means}

-- the number and the values tell of a reason, and that reason is true of what the lent memory then holds
pub record WhyTreeExportMeans (mode : Mode) (sheet : List ℕ) (B : Lent) (U : Outputs) (values : List ℕ) (r : ℕ) (B' : Lent) (U' : Outputs) (values' : List ℕ) : Type 0 where
  pub why : Why
  pub number_is : r ≡ number_told (answer_in why)
  pub values-are : values' ≡ why_values_after (answer_in why) (place_in why) (verdict_in why) values
  pub means : WhyMeans mode sheet B U why B' U'

module _ {mode : Mode} {sheet : List ℕ} {B : Lent} {U : Outputs} {values : List ℕ} {r : ℕ} {B' : Lent} {U' : Outputs} {values' : List ℕ}
    (K : WhyTreeExported mode sheet B U values r B' U' values') where
  pub export_why_means : why_count ≤ length values → WhyTreeExportMeans mode sheet B U values r B' U' values'
  export_why_means h = go K.comes
    where
      go : WhyTreeComes mode sheet (lengths_of B) (length U.reached) (length U.walls) (length U.causes) (length values) K.outcome
          → WhyTreeExportMeans mode sheet B U values r B' U' values'
      go (too-few-values few n s o) = absurd (omega (arith, few, h))
      go (enough-values e c) =
          let w : Why = why_with (answer_of K.outcome) (told_of (number_for K.outcome) K.reason) in
          let P : Promise mode sheet B U w B' U' =
          record {
            outcome = K.outcome;
            comes = c;
            reason = K.reason;
            tells = K.tells;
            why-is = refl;
            lent_is = K.lent_is;
            reached-is = K.reached-is;
            walls-is = K.walls-is;
            causes-is = K.causes-is;
          } in
          record {
            why = w;
            number_is = K.number ∙ ap number_told (sym (answer-is P));
            values-are = K.values-is ∙ (λ i. why_values_after (sym (answer-is P) i) (sym (place-is P) i) (sym (verdict-is P) i) values);
            means = why-means P;
          }
