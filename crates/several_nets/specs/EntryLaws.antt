-- Laws of the entry: the verdict is that of what is lent, and the promise by its cases.
use Rattle.std.specs.Prelude.{◌≡◌, refl, ◌≢◌, true, false, List, ℕ, length, Result, Ok, Err}
use Rattle.std.proofs.Common.{sym, ap, subst, ◌∙◌}
use Rattle.numbers.specs.Refusals.{done_number, overlap_number}
use Rattle.basics.specs.Tests.{ask, never}
use Rattle.lent.specs.Lent.{touches}
use Rattle.ground.specs.declared.Mode.{Mode}
use Rattle.job_list.specs.declared.Verdict.{Verdict}
use Rattle.job_list.specs.Told.{told_list, verdict_of, verdict-told}
use Rattle.list_routing.specs.declared.NetRefused.{NetRefused}
use Rattle.job_list.specs.Judged.{judged_list}
use Rattle.list_routing.specs.ListLent.{ListLent}
use Rattle.several_nets.specs.Answers.{ListAnswer, memory_of, no_list, ListComes, due, answer_of, Promise}
use Rattle.several_nets.specs.Entry.{refused_untouched, LentAnswered}

pub judged-by : (list : List ℕ) (B : ListLent) {cells : ℕ} → cells ≡ (memory_of B).cells → {judged : Result Unit Verdict}
    → judged ≡ told_list (judged_list (record { cells = cells; places = (memory_of B).places; lengths = (memory_of B).lengths }) list) → judged ≡ told_list (judged_list (memory_of B) list)
judged-by list B e v = v ∙ ap (λ n. told_list (judged_list (record { cells = n; places = (memory_of B).places; lengths = (memory_of B).lengths }) list)) e

-- past 1 to 6
pub past-untouched : (judged : Result Unit Verdict) → Ok tt ≡ refused_untouched judged → touches (verdict_of judged).number ≡ true
past-untouched (Ok good) e = refl
past-untouched (Err verdict) e = ask (touches verdict.number) (λ t. t) (λ f. never (cc (rw f at e)))

module _ (mode : Mode) (list : List ℕ) (B : ListLent) {verdict : Verdict} (is : verdict ≡ judged_list (memory_of B) list) where
  -- "1 to 6 touch nothing"
  pub untouched_promise : touches verdict.number ≡ false → {r : ListAnswer} → r ≡ answer_of (no_list verdict.number verdict.net verdict.detail) → Promise mode list B r B
  untouched_promise t a = record {
    outcome = no_list verdict.number verdict.net verdict.detail;
    comes = subst (λ v. ListComes mode list v (length B.branches) (length B.queue) (no_list verdict.number verdict.net verdict.detail)) is (due not_done not_overlap refl);
    answer = a;
    lent_is = rw t;
  }
    where
      not_done : verdict.number ≢ done_number
      not_done e = let z : touches done_number ≡ false = ap touches (sym e) ∙ t in never (cc)

      not_overlap : verdict.number ≢ overlap_number
      not_overlap e = let z : touches overlap_number ≡ false = ap touches (sym e) ∙ t in never (cc)

  pub lent_promise : {r : ListAnswer} {B' : ListLent} → LentAnswered mode list verdict B r B' → Promise mode list B r B'
  lent_promise L = record { outcome = L.outcome; comes = subst (λ v. ListComes mode list v (length B.branches) (length B.queue) L.outcome) is L.comes; answer = L.answer; lent_is = L.lent_is }

pub untouched-told : (mode : Mode) (list : List ℕ) (B : ListLent) (judged : Result Unit Verdict) → judged ≡ told_list (judged_list (memory_of B) list) → {why : NetRefused}
    → Err why ≡ refused_untouched judged → Promise mode list B (Err why) B
untouched-told mode list B (Ok good) is e = never (cc)
untouched-told mode list B (Err verdict) is {why} e =
    ask (touches verdict.number)
    (λ t. never (cc (rw t at e)))
    (λ f. let same : why ≡ record { net = verdict.net; number = verdict.number; detail = verdict.detail } = cc (rw f at e) in untouched_promise mode list B {verdict = verdict} (verdict-told (memory_of B) list is) f (ap Err same))
