-- `joined_length` meets its contract: each round adds one length.
use borrow.Author.Rules.{rules}
use mathlib.Core.List.{List}
use Prim.Native.Nat.{ℕ, ◌≤◌, ◌<◌}
use native.Mathlib.Omega.{arith}
use lib.ListN.{length, get_or, take}
use lib.Seq.{take-length}
use mathlib.Core.Path.{◌≡◌, ◌∙◌}
use Rattle.std.proofs.lemmas.List.{get_or-take}
use Rattle.branches.specs.Branches.{longest_branch}
use Rattle.branches.specs.LoopLaws.{summed_none, summed_next, summed_most}
use Rattle.branches.proofs.joined_length.Goals as goal

-- none of the first k is above the most
first-most : (each : List ℕ) (most n k : ℕ) → ((i : ℕ) → i < n → get_or each i 0 ≤ most) → k ≤ n → (i : ℕ) → i < k → get_or (take k each) i 0 ≤ most
first-most each most n k small h i l = rw (get_or-take k each i 0 l) (small i (omega arith))

pub loop-length-init : goal.loop-length-init
loop-length-init c = summed_none _

pub overflow_add-sum : goal.overflow_add-sum
overflow_add-sum c =
    let small = first-most c.args.lengths.each longest_branch _ c.args.k c.requires.short.short c.requires.k_le_max_sinks in
    let i = c.loop-length.length-index in
    let few : i < c.args.k = search rules in
    omega (arith, summed_most c.loop-length.invariant longest_branch (λ j h. small j (omega arith)), small i few)

pub loop-length-preserved : goal.loop-length-preserved
loop-length-preserved c = summed_next c.loop-length.invariant c.loop-length-test.true

pub returns : goal.returns
returns c =
    let all = take c.args.k c.args.lengths.each in
    let end : c.loop-length.length-index ≡ length all = omega arith in
    c.loop-length.invariant.is ∙ rw (end, take-length all)
