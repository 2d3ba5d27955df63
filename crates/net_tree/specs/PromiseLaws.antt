-- The promise of `route_net_tree` determines everything.
use Rattle.std.specs.Prelude.{◌≡◌, refl, true, List, ℕ}
use Rattle.std.proofs.Common.{sym, ap, ◌∙◌}
use Rattle.basics.specs.Tests.{never}
use Rattle.basics.specs.Promises.{Determines}
use Rattle.ground.specs.declared.Mode.{Mode}
use Rattle.job_sheet.specs.declared.Reading.{Reading}
use Rattle.job_sheet.specs.declared.Judgement.TheVariants as judgement
use Rattle.job_sheet.specs.Version.{version_in}
use Rattle.job_sheet.specs.Sheet.{Contents, Means, Read, judged, is_good}
use Rattle.job_sheet.proofs.Theorems.{one-meaning, coincide as one-reading, answers-meaning}
use Rattle.outset.specs.SetOut.{Outset}
use Rattle.outset.specs.SetOut.{OutsetOf}
use Rattle.outset.specs.SetOutLaws.{outset-one}
use Rattle.net_tree.specs.declared.Lengths.{Lengths}
use Rattle.net_tree.specs.Answers.{Answer, Lent, TreeOutcome, job_outcome, Comes, unread, unlent, set_out, answer_of, lent_after, Promise}

-- a sheet that is accepted is not refused by its reading
pub read-good : {sheet : List ℕ} {r : Reading} {J : Contents} → Read sheet r → Means sheet J → judged (version_in sheet) J ≡ judgement.Good → is_good r.judgement ≡ true
read-good {sheet = sheet} {r = r} {J = J} p m g = rw (answers-meaning sheet J r m p, g)

module _ (mode : Mode) {sheet : List ℕ} (L : Lengths) where
  same-job : {J K : Contents} → Means sheet J → Means sheet K → {O Q : Outset} {kinds nodes blocked kinds' nodes' blocked' : List ℕ}
      → OutsetOf J O kinds nodes blocked → OutsetOf K Q kinds' nodes' blocked' → job_outcome mode J L O kinds blocked ≡ job_outcome mode K L Q kinds' blocked'
  same-job {J = J} {K = K} m n O Q =
      let e = one-meaning sheet J K m n in
      let one = outset-one (rw e at O) Q in
      rw (e, one.0, one.1, one.3) refl

-- one outcome comes of a sheet
module _ {mode : Mode} {sheet : List ℕ} {L : Lengths} where
  pub comes-one : {o q : TreeOutcome} → Comes mode sheet L o → Comes mode sheet L q → o ≡ q
  comes-one (unread r p f e) (unread s q g d) = e ∙ rw (one-reading sheet r s p q) (sym d)
  comes-one (unread r p f e) (unlent J m g b d) = never (cc (sym f ∙ read-good p m g))
  comes-one (unread r p f e) (set_out J m g b O kinds nodes blocked s d) = never (cc (sym f ∙ read-good p m g))
  comes-one (unlent J m g b e) (unread r p f d) = never (cc (sym f ∙ read-good p m g))
  comes-one (unlent J m g b e) (unlent K n h c d) = e ∙ sym d
  comes-one (unlent J m g b e) (set_out K n h c O kinds nodes blocked s d) = never (cc (sym (rw (one-meaning sheet J K m n) at b) ∙ c))
  comes-one (set_out J m g b O kinds nodes blocked s e) (unread r p f d) = never (cc (sym f ∙ read-good p m g))
  comes-one (set_out J m g b O kinds nodes blocked s e) (unlent K n h c d) = never (cc (sym c ∙ (rw (one-meaning sheet J K m n) at b)))
  comes-one (set_out J m g b O kinds nodes blocked s e) (set_out K n h c Q kinds' nodes' blocked' t d) = e ∙ same-job mode L m n s t ∙ sym d

-- ---- two results that keep the promise coincide: the answer, and every byte of lent memory

pub record Result : Type 0 where
  pub answer : Answer
  pub lent : Lent

module _ (mode : Mode) (sheet : List ℕ) (B : Lent) where
  abbrev pub Keeps : Result → Type 0
  Keeps R = Promise mode sheet B R.answer R.lent

  pub coincide : Determines Keeps
  coincide x y p q =
      let e = comes-one p.comes q.comes in
      let a = p.answer ∙ ap answer_of e ∙ sym q.answer in
      let b = p.lent_is ∙ ap (λ o. lent_after o B) e ∙ sym q.lent_is in
      λ i. record { answer = a i; lent = b i }
