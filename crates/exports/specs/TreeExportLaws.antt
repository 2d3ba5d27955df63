-- The promise of the exported tree, by its cases; and that it determines everything.
use Rattle.std.specs.Prelude.{◌≡◌, refl, false, List, [], ◌∷◌, ◌++◌, ℕ, suc, ◌-◌, ◌≤◌, ◌<◌, length, drop, replicate}
use Rattle.std.proofs.Common.{sym, ap, ◌∙◌, append-nil, arith, drop_of_length-le}
use borrow.Rule.Slice.PartMut.{put_mid, mid_of}
use Rattle.std.proofs.Math.Seq.{take-length}
use Rattle.numbers.specs.Refusals.{buffer_number}
use Rattle.basics.specs.Tests.{either, ask}
use Rattle.basics.specs.Zeros.{drop_zeros}
use Rattle.basics.specs.Promises.{Determines}
use Rattle.lent.specs.Lent.{touches}
use Rattle.ground.specs.declared.Mode.{Mode}
use Rattle.job_sheet.specs.declared.Judgement.{Judgement}
use Rattle.job_sheet.specs.Sheet.{is_good, number_of}
use Rattle.job_sheet.proofs.Theorems.{coincide as one-reading}
use Rattle.net_tree.specs.declared.Lengths.{Lengths}
use Rattle.net_tree.specs.Answers.{Answer, Lent, TreeOutcome, no_tree, answer_of, lent_after, Promise}
use Rattle.net_tree.specs.PromiseLaws.{comes-one}
use Rattle.net_tree.specs.LentLaws.{unread-touches-none}
use Rattle.exports.specs.TreeExport.{value_count, number_told, values_after, ShortNumber, TreeComes, too-few-values, enough-values, TreeExported}

-- ---- four values over a cleared buffer, and the lengths written to the part behind them

pub lengths-behind : (a b c d n : ℕ) (each : List ℕ) {four part : List ℕ} → four ≡ (a ∷ b ∷ c ∷ d ∷ []) ++ replicate (n - 4) 0
    → part ≡ each ++ drop (length each) (mid_of 4 (length four - 4) four)
    → put_mid 4 (length four - 4) four part ≡ a ∷ b ∷ c ∷ d ∷ (each ++ replicate (n - suc (suc (suc (suc (length each))))) 0)
lengths-behind a b c d n each e f =
    let zeros : List ℕ = replicate (n - 4) 0 in
    let at_most : length zeros ≤ length zeros = omega arith in
    let k : suc (suc (suc (suc (length zeros)))) - 4 ≡ length zeros = omega arith in
    let m : n - 4 - length each ≡ n - suc (suc (suc (suc (length each)))) = omega arith in
    rw (f, e, k, take-length, drop_of_length-le zeros at_most, append-nil, drop_zeros, m)

-- ---- the promise by its cases

pub short-small : (v : Judgement) (number : ℕ) → number ≡ either (is_good v) buffer_number (number_of v) → touches number ≡ false
short-small v number e = ask (is_good v) (λ t. rw (e, t)) (λ f. rw (e, f) (unread-touches-none v f))

module _ {mode : Mode} {sheet : List ℕ} {B : Lent} {values : List ℕ} where
  -- too few values: nothing is touched
  pub tree-short : {r : ℕ} → length values < value_count → ShortNumber sheet r → TreeExported mode sheet B values r B values
  tree-short {r = r} h n =
      let e = short-small n.reading.judgement r n.number_is in
      record {
        outcome = no_tree r 0;
        comes = too-few-values h r n refl;
        number = refl;
        lent_is = rw e refl;
        values-is = rw e refl;
      }

  -- the tree's answer, told
  pub tree-told : {a : Answer} {r : ℕ} {B' : Lent} {values' : List ℕ} → value_count ≤ length values
      → Promise mode sheet B a B' → r ≡ number_told a → values' ≡ values_after a values → TreeExported mode sheet B values r B' values'
  tree-told h P n v = record {
    outcome = P.outcome;
    comes = enough-values h P.comes;
    number = n ∙ ap number_told P.answer;
    lent_is = P.lent_is;
    values-is = v ∙ ap (λ a. values_after a values) P.answer;
  }

-- ---- two results that keep the promise coincide: the number, the values, and every byte of lent memory

pub short-one : {sheet : List ℕ} {m n : ℕ} → ShortNumber sheet m → ShortNumber sheet n → m ≡ n
short-one {sheet = sheet} p q = p.number_is ∙ rw (one-reading sheet p.reading q.reading p.read q.read) (sym q.number_is)

tree-comes-one : {mode : Mode} {sheet : List ℕ} {L : Lengths} {values : ℕ} {o q : TreeOutcome} → TreeComes mode sheet L values o → TreeComes mode sheet L values q → o ≡ q
tree-comes-one (too-few-values h m s e) (too-few-values k n t d) = e ∙ ap (λ x. no_tree x 0) (short-one s t) ∙ sym d
tree-comes-one (too-few-values h m s e) (enough-values k c) = absurd (omega arith)
tree-comes-one (enough-values h c) (too-few-values k n t d) = absurd (omega arith)
tree-comes-one (enough-values h c) (enough-values k d) = comes-one c d

pub record Result : Type 0 where
  pub number : ℕ
  pub lent : Lent
  pub values : List ℕ

module _ (mode : Mode) (sheet : List ℕ) (B : Lent) (values : List ℕ) where
  abbrev pub Keeps : Result → Type 0
  Keeps R = TreeExported mode sheet B values R.number R.lent R.values

  pub coincide : Determines Keeps
  coincide x y P Q =
      let e = tree-comes-one P.comes Q.comes in
      let n = P.number ∙ ap (λ o. number_told (answer_of o)) e ∙ sym Q.number in
      let b = P.lent_is ∙ ap (λ o. lent_after o B) e ∙ sym Q.lent_is in
      let v = P.values-is ∙ ap (λ o. values_after (answer_of o) values) e ∙ sym Q.values-is in
      λ i. record { number = n i; lent = b i; values = v i }
