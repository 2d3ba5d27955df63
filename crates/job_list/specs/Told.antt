-- What is told of a list: the number that is due with its net and detail, or nothing where none is due; and what that tells of the verdict.
use Rattle.std.specs.Prelude.{◌≡◌, refl, ◌≢◌, eqb, List, [], ◌∷◌, ℕ, ◌+◌, Result, Ok, Err}
use Rattle.std.proofs.Common.{sym, ap, ◌∙◌, ne_eqb}
use Rattle.std.proofs.lemmas.Bool.{eqb-false}
use Rattle.numbers.specs.Refusals.{done_number}
use Rattle.basics.specs.Tests.{either, ask, never}
use Rattle.job_sheet.specs.Sheet.{Contents}
use Rattle.job_list.specs.declared.Memory.{Memory}
use Rattle.job_list.specs.declared.Verdict.{Verdict}
use Rattle.job_list.specs.Judged.{all_good, refused_at, net_due, judged_from, judged_list}

-- it is due, unless its number is 0
abbrev pub told_list : Verdict → Result Unit Verdict
told_list v = either (eqb v.number done_number) (Ok tt) (Err v)

-- the verdict that was told
abbrev pub verdict_of : Result Unit Verdict → Verdict
verdict_of (Ok good) = all_good
verdict_of (Err verdict) = verdict

pub list-told : {v V : Verdict} → v ≡ V → v.number ≢ done_number → Err v ≡ told_list V
list-told e n = rw (← e, ne_eqb _ _ n)

pub told-some : (V : Verdict) {v : Verdict} → Err v ≡ told_list V → v.number ≢ done_number
told-some V {v} q =
    ask (eqb V.number done_number)
    (λ t. never (cc (rw t at q)))
    (λ f. let same : v ≡ V = cc (rw f at q) in rw same (eqb-false _ _ f))

told-from : (M : Memory) (F : Contents) (k : ℕ) (sheets : List (List ℕ)) → verdict_of (told_list (judged_from M F k sheets)) ≡ judged_from M F k sheets
unfolding judged_from
told-from M F k [] = refl
told-from M F k (sheet ∷ sheets) =
    ask (eqb (net_due M F k sheet).number done_number) (λ t. rw t (told-from M F (k + 1) sheets)) (λ f. rw f (rw f refl))

module _ (M : Memory) (list : List ℕ) {judged : Result Unit Verdict} (is : judged ≡ told_list (judged_list M list)) where
  -- the verdict of a list is what is told of it
  pub verdict-told : verdict_of judged ≡ judged_list M list
  unfolding judged_list
  verdict-told = ap verdict_of is ∙ told-from M _ 0 _

  pub told-itself : judged ≡ told_list (verdict_of judged)
  told-itself = is ∙ ap told_list (sym verdict-told)
