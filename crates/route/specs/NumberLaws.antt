-- Number 6 can't come in this program: its own memory suffices for every room that it takes.
use Rattle.std.specs.Prelude.{◌≡◌, Bool, true, false, List, ℕ, zero, suc, ◌+◌, ◌≤◌}
use Rattle.std.proofs.Common.{sym, ap, ◌∙◌, arith, le-leb}
use Rattle.numbers.specs.Refusals.{sides_number, buffer_number, queue_full_number, branches_full_number}
use Rattle.basics.specs.Tests.{either, ask, never}
use Rattle.net_tree.specs.declared.Lengths.{Lengths}
use Rattle.outset.specs.SetOut.{Outset}
use Rattle.branches.specs.Branches.{branch_of}
use Rattle.room.specs.declared.Room.{Room}
use Rattle.room.specs.Room.{volume}
use Rattle.ground.specs.declared.Mode.{Mode}
use Rattle.ground.specs.declared.Mode.TheVariants.{Published}
use Rattle.job_sheet.specs.declared.Judgement.{Judgement}
use Rattle.job_sheet.specs.declared.Judgement.TheVariants.{Good, Sheet, Sides, Config, Position, Code}
use Rattle.job_sheet.specs.Sheet.{number_of, Contents}
use Rattle.outset.specs.SetOut.{number_by, ready}
use Rattle.goals.specs.Goals.{Trial, found, failed, full, route_to_tree}
use Rattle.multinet.specs.Tree.{Plot, Tree, Growth, grown, stopped, fits_in, after_sink, grow_sink, sink_now, grow_on, grow_from, growth_of, tap_at, site_at, with_branch, planted}
use Rattle.net_tree.specs.Answers.{buffers_good, TreeOutcome, number_for, outcome_of, job_outcome, unread, unlent, set_out, plot_for}
use Rattle.net_tree.specs.JobLaws.{late}
use Rattle.route.specs.Printed.{max_cells, program_lengths, ComesHere, over-limit, within-limit}

-- ---- a sheet that is refused has one of 1 to 5

refused-low : (v : Judgement) → number_of v ≡ buffer_number → ⊥
refused-low Good e = omega arith
refused-low Sheet e = omega arith
refused-low Sides e = omega arith
refused-low Config e = omega arith
refused-low Position e = omega arith
refused-low Code e = omega arith

-- ---- this program's memory suffices

lent-enough : (R : Room) → volume R ≤ max_cells → buffers_good R program_lengths ≡ true
unfolding buffers_good
lent-enough R h = rw (le-leb (volume R) max_cells h)

-- ---- a job that is set out has one of 7 to 9, or of 13 to 15

-- a growth that stops has a number from 13 on
abbrev StopsHigh : Growth → Type 0
StopsHigh (grown T) = Unit {0}
StopsHigh (stopped number detail) = queue_full_number ≤ number

after-high : (P : Plot) (k : ℕ) (T : Tree) (t : Trial) → StopsHigh (after_sink P k T t)
unfolding after_sink
after-high P k T (found path cost) = by-fit (fits_in P T (branch_of (tap_at P k) path))
  where
    by-fit : (b : Bool) → StopsHigh (either b (grown (with_branch P.room k (branch_of (tap_at P k) path) T)) (stopped branches_full_number (k + 1)))
    by-fit true = tt
    by-fit false = omega arith
after-high P k T failed = omega arith
after-high P k T (full x) = omega arith

sink-high : (P : Plot) (k : ℕ) (T : Tree) → StopsHigh (grow_sink P k T)
unfolding grow_sink
sink-high P k T = after-high P k T (route_to_tree (site_at P T.joinable) (tap_at P k).approach T.blocked)

on-high : (rest : Tree → Growth) → ((T : Tree) → StopsHigh (rest T)) → (g : Growth) → StopsHigh g → StopsHigh (grow_on rest g)
on-high rest h (grown T) s = h T
on-high rest h (stopped number detail) s = s

growth-high : (n : ℕ) (P : Plot) (turn : ℕ) (T : Tree) → StopsHigh (grow_from n P turn T)
unfolding grow_from
growth-high zero P turn T = tt
growth-high (suc n) P turn T =
    let k = sink_now P turn in
    on-high (grow_from n P (turn + 1)) (growth-high n P (turn + 1)) (grow_sink P k T) (sink-high P k T)

outcome-high : (P : Plot) (g : Growth) → StopsHigh g → number_for (outcome_of P g) ≡ buffer_number → ⊥
outcome-high P (grown T) s e = omega arith
outcome-high P (stopped number detail) s e = omega arith

job-high : (mode : Mode) (J : Contents) (L : Lengths) (O : Outset) (kinds blocked : List ℕ) → number_for (job_outcome mode J L O kinds blocked) ≡ buffer_number → ⊥
unfolding job_outcome growth_of
job-high mode J L O kinds blocked e =
    let P = plot_for mode J L O kinds in
    ask (ready O)
    (λ t. outcome-high P (growth_of P blocked) (growth-high P.taps.count P 0 (planted P blocked)) (rw t at e))
    (λ f. let six : number_by O.placement O.fault ≡ buffer_number = rw f at e in omega (arith, late O.placement O.fault f, six))

-- ---- so it never says 6

pub no_six : {sheet : List ℕ} {o : TreeOutcome} → ComesHere sheet o → number_for o ≡ buffer_number → ⊥
no_six (over-limit J m h e) n = let k : ◌≡◌ {A = ℕ} sides_number buffer_number = sym (ap number_for e) ∙ n in omega (arith, k)
no_six (within-limit small (unread r p f e)) n = refused-low r.judgement (sym (ap number_for e) ∙ n)
no_six (within-limit small (unlent J m g b e)) n = never (cc (sym b ∙ lent-enough J.room (small J m)))
no_six (within-limit small (set_out J m g b O kinds nodes blocked s e)) n = job-high Published J program_lengths O kinds blocked (sym (ap number_for e) ∙ n)
