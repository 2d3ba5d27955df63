-- What comes of a sheet that no number from 1 to 9 refuses grew over a sound plot of its contents: the tree that is given out, or the number.
use Rattle.std.specs.Prelude.{◌≡◌, refl, true, List, ℕ, ◌≤◌, ◌<◌, Option, Some, None, Ok, Err}
use Rattle.std.proofs.Common.{ap, arith}
use Rattle.basics.specs.Tests.{ask, never}
use Rattle.ground.specs.declared.Mode.{Mode}
use Rattle.job_sheet.specs.declared.Judgement.{Judgement}
use Rattle.job_sheet.specs.declared.Judgement.TheVariants as judgement
use Rattle.job_sheet.specs.Sheet.{number_of}
use Rattle.blocks.specs.Blocks.{Placement}
use Rattle.ends.specs.declared.Fault.{Fault}
use Rattle.outset.specs.SetOut.{ready, number_by}
use Rattle.ends.specs.EndLaws.{fault-late}
use Rattle.multinet.specs.Tree.{Growth, grown, stopped, growth_of}
use Rattle.net_tree.specs.declared.Lengths.{Lengths}
use Rattle.net_tree.specs.Answers.{routed, no_tree, number_for, plot_for, outcome_of, job_outcome, Comes, unread, unlent, set_out}
use Rattle.net_tree.specs.JobLaws.{plot-sound}
use Rattle.net_tree.specs.SheetTrees.{TreeOf, StopOf}

pub tree_of : {mode : Mode} {sheet : List ℕ} {L : Lengths} {branches : List (List ℕ)} {occupied repeaters : List ℕ} → Comes mode sheet L (routed branches occupied repeaters)
    → TreeOf mode sheet L branches occupied repeaters
unfolding job_outcome
tree_of (unread r p f e) = never (cc)
tree_of (unlent J m g b e) = never (cc)
tree_of {mode} {sheet} {L} {branches} {occupied} {repeaters} (set_out J m g b O kinds nodes blocked s e) =
    ask (ready O) (λ t. go t (growth_of (plot_for mode J L O kinds) blocked) refl (rw t at e)) (λ f. never (cc (rw f at e)))
  where
    go : ready O ≡ true → (growth : Growth) → growth_of (plot_for mode J L O kinds) blocked ≡ growth
        → routed branches occupied repeaters ≡ outcome_of (plot_for mode J L O kinds) growth → TreeOf mode sheet L branches occupied repeaters
    go t (grown T) d q = record {
      contents = J;
      outset = O;
      kinds = kinds;
      nodes = nodes;
      blocked = blocked;
      unrefused = record { means = m; contents-good = g; lengths-good = b; is_set = s; is-ready = t };
      sound = plot-sound mode J m g L b s t;
      tree = T;
      grows = d;
      branches-are = cc;
      occupied-are = cc;
      repeaters-are = cc;
    }
    go t (stopped number detail) d q = never (cc)

-- ---- a number from 10 on is one at which the growth stopped

read_small : (v : Judgement) → number_of v ≤ 5
read_small judgement.Good = omega arith
read_small judgement.Sheet = omega arith
read_small judgement.Sides = omega arith
read_small judgement.Config = omega arith
read_small judgement.Position = omega arith
read_small judgement.Code = omega arith

set-small : (p : Placement) (f : Option Fault) → number_by p f ≤ 9
set-small (Err overlap) f = omega arith
set-small (Ok placed) None = omega arith
set-small (Ok placed) (Some fault) = (fault-late fault.due).1

pub stop-of : {mode : Mode} {sheet : List ℕ} {L : Lengths} {number detail : ℕ} → Comes mode sheet L (no_tree number detail) → 9 < number → StopOf mode sheet L number detail
unfolding job_outcome
stop-of (unread r p f e) h = absurd (omega (arith, h, ap number_for e, read_small r.judgement))
stop-of (unlent J m g b e) h = absurd (omega (arith, h, ap number_for e))
stop-of {mode} {sheet} {L} {number} {detail} (set_out J m g b O kinds nodes blocked s e) h =
    ask (ready O)
    (λ t. go t (growth_of (plot_for mode J L O kinds) blocked) refl (rw t at e))
    (λ f. let q : number ≡ number_by O.placement O.fault = ap number_for (rw f at e) in absurd (omega (arith, h, q, set-small O.placement O.fault)))
  where
    go : ready O ≡ true → (growth : Growth) → growth_of (plot_for mode J L O kinds) blocked ≡ growth
        → no_tree number detail ≡ outcome_of (plot_for mode J L O kinds) growth → StopOf mode sheet L number detail
    go t (grown T) d q = never (cc)
    go t (stopped n x) d q = record {
      contents = J;
      outset = O;
      kinds = kinds;
      nodes = nodes;
      blocked = blocked;
      unrefused = record { means = m; contents-good = g; lengths-good = b; is_set = s; is-ready = t };
      sound = plot-sound mode J m g L b s t;
      stops = let a : number ≡ n = ap number_for q in let c : detail ≡ x = cc in rw (a, c) d;
    }
