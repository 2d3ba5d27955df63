-- The promise of `route_nets` determines everything: two results that keep it coincide.
use Rattle.std.specs.Prelude.{◌≡◌, refl, List, ℕ, length}
use Rattle.std.proofs.Common.{sym, ap, ◌∙◌, arith}
use Rattle.numbers.specs.Refusals.{done_number, overlap_number}
use Rattle.basics.specs.Promises.{Determines}
use Rattle.ground.specs.declared.Mode.{Mode}
use Rattle.room.specs.declared.Room.{Room}
use Rattle.job_sheet.specs.declared.Block.{Block}
use Rattle.blocks.specs.Blocks.{Placement}
use Rattle.blocks.specs.Blocks.{Placing, left_by, kinds_of, nodes_of}
use Rattle.blocks.proofs.BlockLaws as blocks
use Rattle.job_list.specs.declared.Verdict.{Verdict}
use Rattle.list_routing.specs.ListLent.{ListLent}
use Rattle.several_nets.specs.Answers.{ListAnswer, ListOutcome, no_list, repeat_cell, ListComes, due, repeated, walked, answer_of, lent_after, Promise}

-- what laying blocks out comes to is determined
placing-same : (R : Room) (bs : List Block) {p q : Placement} → Placing R bs (length bs) p → Placing R bs (length bs) q → p ≡ q
placing-same R bs {p} {q} a b =
    ap (λ (x : blocks.Result). x.placement)
    (blocks.coincide R bs (record { kinds = left_by p R (kinds_of R bs); nodes = left_by p R (nodes_of R bs); placement = p })
    (record { kinds = left_by q R (kinds_of R bs); nodes = left_by q R (nodes_of R bs); placement = q })
    (record { placing = a; kinds-are = refl; nodes-are = refl }) (record { placing = b; kinds-are = refl; nodes-are = refl }))

module _ {mode : Mode} {list : List ℕ} {verdict : Verdict} {buffer queue : ℕ} where
  pub comes-same : {o p : ListOutcome} → ListComes mode list verdict buffer queue o → ListComes mode list verdict buffer queue p → o ≡ p
  comes-same (due a b e) (due c d f) = e ∙ sym f
  comes-same (due a b e) (repeated c p d f) = absurd (b c)
  comes-same (due a b e) (walked c f) = absurd (a c)
  comes-same (repeated a p b e) (due c d f) = absurd (d a)
  comes-same (repeated a p b e) (repeated c q d f) = e ∙ ap (λ x. no_list overlap_number verdict.net (repeat_cell x)) (placing-same _ _ b d) ∙ sym f
  comes-same (repeated a p b e) (walked c f) = let z : overlap_number ≡ done_number = sym a ∙ c in absurd (omega arith)
  comes-same (walked a e) (due c d f) = absurd (c a)
  comes-same (walked a e) (repeated c p d f) = let z : overlap_number ≡ done_number = sym c ∙ a in absurd (omega arith)
  comes-same (walked a e) (walked c f) = e ∙ sym f

-- a result: the answer, and every lent byte
pub record Result : Type 0 where
  pub answer : ListAnswer
  pub lent : ListLent

module _ (mode : Mode) (list : List ℕ) (B : ListLent) where
  abbrev pub Keeps : Result → Type 0
  Keeps R = Promise mode list B R.answer R.lent

  pub coincide : Determines Keeps
  coincide x y p q =
      let o = comes-same p.comes q.comes in
      let a = p.answer ∙ ap answer_of o ∙ sym q.answer in
      let l = p.lent_is ∙ ap (λ z. lent_after z B) o ∙ sym q.lent_is in
      λ i. record { answer = a i; lent = l i }
