-- The promise of `plan_net` determines everything.
use Rattle.std.specs.Prelude as prelude
use Rattle.std.specs.Prelude.{ℕ}
use Rattle.std.proofs.Common.{sym, ◌∙◌}
use Rattle.basics.specs.Promises.{Determines}
use Rattle.repeater_plan.specs.declared.Refused.{Refused}
use Rattle.repeater_plan.specs.Plan.{Net, Lent, Promise}

-- two results that keep the promise coincide: the answer, and every byte of lent memory
pub record Result : Type 0 where
  pub answer : prelude.Result ℕ Refused
  pub lent : Lent

module _ (N : Net) (B : Lent) where
  abbrev pub Keeps : Result → Type 0
  Keeps R = Promise N B R.answer R.lent

  pub coincide : Determines Keeps
  coincide x y p q =
      let a = p.answer ∙ sym q.answer in
      let b = p.lent_is ∙ sym q.lent_is in
      λ i. record { answer = a i; lent = b i }
