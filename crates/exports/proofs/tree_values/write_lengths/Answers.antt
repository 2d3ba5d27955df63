-- `write_lengths` meets its contract: each round copies one length.
use mathlib.Core.Path.{◌≡◌, ◌∙◌, ap}
use mathlib.Core.List.{List, ◌++◌}
use Prim.Native.Nat.{ℕ, ◌-◌, ◌≤◌}
use native.Mathlib.Omega.{arith}
use lib.ListN.{length, drop}
use lib.Seq.{take-length}
use Rattle.basics.specs.Copies.{Copied, copied_none, front-next, front-all}
use borrow.Author.Rules.{rules}
use Rattle.job_sheet.specs.Sheet.{max_sinks}
use Rattle.exports.proofs.tree_values.write_lengths.Goals as goal

-- all sixteen are copied
each_copied : {each out₀ out : List ℕ} {i : ℕ} → length each ≡ max_sinks → max_sinks ≤ length out₀ → Copied each out₀ 0 max_sinks i out → max_sinks ≤ i → out ≡ each ++ drop (length each) out₀
each_copied {each} {out₀} e h C l = front-all each out₀ max_sinks (omega (arith, e)) h C l ∙ rw e (ap (λ s. s ++ drop max_sinks out₀) (rw e at (take-length each)))

pub loop-sink-preserved : goal.loop-sink-preserved
loop-sink-preserved c = front-next _ _ _ (omega (arith, c.well_formed)) c.requires c.loop-sink.invariant c.loop-sink-test.true

pub returns : goal.returns
returns c = each_copied (omega (arith, c.well_formed)) c.requires c.loop-sink.invariant c.loop-sink-test.false
