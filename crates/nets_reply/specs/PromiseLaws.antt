-- The promise of `route_and_tell`, which is that of `dustroute_nets`, determines everything.
use Rattle.std.specs.Prelude.{List, ℕ}
use Rattle.std.proofs.Common.{sym, ap, ◌∙◌}
use Rattle.basics.specs.Promises.{Determines}
use Rattle.ground.specs.declared.Mode.{Mode}
use Rattle.list_routing.specs.ListLent.{ListLent}
use Rattle.several_nets.specs.Answers.{answer_of, number_told, lent_after}
use Rattle.several_nets.specs.PromiseLaws.{comes-same}
use Rattle.nets_reply.specs.Reply.{well_told, values_after, NetsTold}

-- two results that keep the promise coincide: the number, the values, and every byte of lent memory
pub record Result : Type 0 where
  pub number : ℕ
  pub lent : ListLent
  pub values : List ℕ

module _ (mode : Mode) (list : List ℕ) (B : ListLent) (values : List ℕ) where
  abbrev pub Keeps : Result → Type 0
  Keeps R = NetsTold mode list B values R.number R.lent R.values

  pub coincide : Determines Keeps
  coincide x y p q =
      let o = comes-same p.comes q.comes in
      let a = p.number ∙ ap (λ z. number_told (answer_of z)) o ∙ sym q.number in
      let b = p.lent_is ∙ ap (λ z. lent_after z B) o ∙ sym q.lent_is in
      let c = p.values-are ∙ ap (λ z. values_after (well_told values) (answer_of z) values) o ∙ sym q.values-are in
      λ i. record { number = a i; lent = b i; values = c i }
