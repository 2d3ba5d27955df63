-- The promise of `plan_and_tell`, which is that of `dustroute_place_repeaters`, determines everything.
use Rattle.std.specs.Prelude.{Bool, List, ℕ}
use Rattle.std.proofs.Common.{sym, ◌∙◌}
use Rattle.basics.specs.Promises.{Determines}
use Rattle.repeater_plan.specs.Plan.{Net, Lent}
use Rattle.repeater_reply.specs.Reply.{PlanTold}

-- two results that keep the promise coincide: the number, the values, and every byte of lent memory
pub record Result : Type 0 where
  pub number : ℕ
  pub lent : Lent
  pub values : List ℕ

module _ (N : Net) (well : Bool) (B : Lent) (values : List ℕ) where
  abbrev pub Keeps : Result → Type 0
  Keeps R = PlanTold N well B values R.number R.lent R.values

  pub coincide : Determines Keeps
  coincide x y p q =
      let a = p.number ∙ sym q.number in
      let b = p.lent_is ∙ sym q.lent_is in
      let c = p.values-are ∙ sym q.values-are in
      λ i. record { number = a i; lent = b i; values = c i }
