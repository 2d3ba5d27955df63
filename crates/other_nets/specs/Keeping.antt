-- What the contract of keeping a routed net cites.
use Rattle.std.specs.Prelude.{◌≡◌, List, ◌++◌, ℕ, ◌≤◌, length, drop}
use Rattle.std.proofs.Common.{ap, ◌∙◌, arith}
use Rattle.std.proofs.Math.Seq.{take-length}
use Rattle.basics.specs.Copies.{Copied, front-all}
use Rattle.room.specs.declared.Room.{Room}
use Rattle.routing_resources.specs.Marks.{marked_by, is_marked}
use Rattle.job_sheet.specs.Sheet.{max_sinks}
use Rattle.branches.specs.declared.BranchLengths.{BranchLengths}
use Rattle.branches.specs.Branches.{branches_of, Short}
use Rattle.other_nets.specs.Others.{net_clear}
use Rattle.other_nets.specs.OtherLaws.{NetReady}

-- a net's branches in a buffer, marks of its repeaters, and of the list: marks of the nets before and of their repeaters, and place for sixteen lengths
pub record Keepable (R : Room) (source : ℕ) (L : BranchLengths) (cells planned before repeaters out : List ℕ) : Type 0 where
  pub ready : NetReady R source L cells before
  pub short : Short L
  pub planned-long : length planned ≡ length repeaters
  pub out-long : max_sinks ≤ length out

-- the net is among those before, its repeaters are marked, and its lengths stand in front
pub record Kept (R : Room) (source : ℕ) (L : BranchLengths) (cells planned before repeaters out before' repeaters' out' : List ℕ) : Type 0 where
  pub before-are : before' ≡ marked_by (net_clear R source (branches_of L cells)) before
  pub repeaters-are : repeaters' ≡ marked_by (is_marked planned) repeaters
  pub lengths-are : out' ≡ L.each ++ drop (length L.each) out

-- all sixteen are copied
pub each_copied : {each out₀ out : List ℕ} {i : ℕ} → length each ≡ max_sinks → max_sinks ≤ length out₀ → Copied each out₀ 0 max_sinks i out → max_sinks ≤ i → out ≡ each ++ drop (length each) out₀
each_copied {each} {out₀} e h C l = front-all each out₀ max_sinks (omega (arith, e)) h C l ∙ rw e (ap (λ s. s ++ drop max_sinks out₀) (rw e at (take-length each)))
