-- `route_front` meets its contract: the front of each buffer is lent on, the branch buffer and the queue whole.
use mathlib.Core.Path.{refl, sym}
use native.Mathlib.Omega.{arith}
use lib.Seq.{length-take-le}
use Rattle.net_tree.specs.EntryLaws.{enough, routable, lent-on}
use Rattle.outset.specs.SetOutLaws.{good-room}
use Rattle.net_tree.proofs.entry.route_front.Goals as goal

pub volume-cells-requires : goal.volume-cells-requires
volume-cells-requires c = good-room c.requires.lendable.accepted

pub slice_bounds-route_job-end : goal.slice_bounds-route_job-end
slice_bounds-route_job-end c = omega (arith, c.volume-cells.ensures, (enough c.requires.lendable).occupied-enough)

pub slice_bounds-route_job-end-2 : goal.slice_bounds-route_job-end-2
slice_bounds-route_job-end-2 c = sym (length-take-le _ _ (omega (arith, c.volume-cells.ensures, (enough c.requires.lendable).occupied-enough)))

pub slice_bounds-route_job-end-3 : goal.slice_bounds-route_job-end-3
slice_bounds-route_job-end-3 c = omega (arith, c.volume-cells.ensures, (enough c.requires.lendable).repeaters-enough)

pub slice_bounds-route_job-end-4 : goal.slice_bounds-route_job-end-4
slice_bounds-route_job-end-4 c = sym (length-take-le _ _ (omega (arith, c.volume-cells.ensures, (enough c.requires.lendable).repeaters-enough)))

pub slice_bounds-route_job-end-5 : goal.slice_bounds-route_job-end-5
slice_bounds-route_job-end-5 c = omega (arith, c.volume-cells.ensures, (enough c.requires.lendable).kinds-enough)

pub slice_bounds-route_job-end-6 : goal.slice_bounds-route_job-end-6
slice_bounds-route_job-end-6 c = sym (length-take-le _ _ (omega (arith, c.volume-cells.ensures, (enough c.requires.lendable).kinds-enough)))

pub slice_bounds-route_job-end-7 : goal.slice_bounds-route_job-end-7
slice_bounds-route_job-end-7 c = omega (arith, c.volume-cells.ensures, (enough c.requires.lendable).blocked-enough)

pub slice_bounds-route_job-end-8 : goal.slice_bounds-route_job-end-8
slice_bounds-route_job-end-8 c = sym (length-take-le _ _ (omega (arith, c.volume-cells.ensures, (enough c.requires.lendable).blocked-enough)))

pub slice_bounds-route_job-end-9 : goal.slice_bounds-route_job-end-9
slice_bounds-route_job-end-9 c = omega (arith, c.volume-cells.ensures, (enough c.requires.lendable).classes-enough)

pub slice_bounds-route_job-end-10 : goal.slice_bounds-route_job-end-10
slice_bounds-route_job-end-10 c = sym (length-take-le _ _ (omega (arith, c.volume-cells.ensures, (enough c.requires.lendable).classes-enough)))

pub slice_bounds-route_job-end-11 : goal.slice_bounds-route_job-end-11
slice_bounds-route_job-end-11 c = omega (arith, c.volume-cells.ensures, (enough c.requires.lendable).joinable-enough)

pub slice_bounds-route_job-end-12 : goal.slice_bounds-route_job-end-12
slice_bounds-route_job-end-12 c = sym (length-take-le _ _ (omega (arith, c.volume-cells.ensures, (enough c.requires.lendable).joinable-enough)))

pub slice_bounds-route_job-end-13 : goal.slice_bounds-route_job-end-13
slice_bounds-route_job-end-13 c = omega (arith, c.volume-cells.ensures, (enough c.requires.lendable).known-enough)

pub slice_bounds-route_job-end-14 : goal.slice_bounds-route_job-end-14
slice_bounds-route_job-end-14 c = sym (length-take-le _ _ (omega (arith, c.volume-cells.ensures, (enough c.requires.lendable).known-enough)))

pub slice_bounds-route_job-end-15 : goal.slice_bounds-route_job-end-15
slice_bounds-route_job-end-15 c = omega (arith, c.volume-cells.ensures, (enough c.requires.lendable).previous-enough)

pub slice_bounds-route_job-end-16 : goal.slice_bounds-route_job-end-16
slice_bounds-route_job-end-16 c = sym (length-take-le _ _ (omega (arith, c.volume-cells.ensures, (enough c.requires.lendable).previous-enough)))

pub slice_bounds-route_job-end-17 : goal.slice_bounds-route_job-end-17
slice_bounds-route_job-end-17 c = omega (arith, c.volume-cells.ensures, (enough c.requires.lendable).path-enough)

pub slice_bounds-route_job-end-18 : goal.slice_bounds-route_job-end-18
slice_bounds-route_job-end-18 c = sym (length-take-le _ _ (omega (arith, c.volume-cells.ensures, (enough c.requires.lendable).path-enough)))

pub slice_bounds-route_job-end-19 : goal.slice_bounds-route_job-end-19
slice_bounds-route_job-end-19 c = omega (arith, c.volume-cells.ensures, (enough c.requires.lendable).best-enough)

pub slice_bounds-route_job-end-20 : goal.slice_bounds-route_job-end-20
slice_bounds-route_job-end-20 c = sym (length-take-le _ _ (omega (arith, c.volume-cells.ensures, (enough c.requires.lendable).best-enough)))

pub route_job-requires : goal.route_job-requires
route_job-requires c = routable c.requires.lendable c.requires.outputs_clear c.volume-cells.ensures

pub returns-clause-routed : goal.returns-clause-routed
returns-clause-routed c = record { occupied-front = _; repeaters-front = _; is-routed = lent-on refl refl c.route_job.ensures; occupied-is = rw c.volume-cells.ensures refl; repeaters-is = rw c.volume-cells.ensures refl }
