-- `Tree::root_path` meets its contract: the path by parents has at most as many cells as the room.
use native.Mathlib.Omega.{arith}
use mathlib.Core.List.{[]}
use lib.ListN.{length}
use Rattle.trace.specs.TraceLaws.{trace-short}
use Rattle.repeaters.specs.RootLaws.{traced}
use Rattle.repeaters.specs.SinkLaws.{path_traceable}
use Rattle.repeaters.proofs.Tree.root_path.Goals as goal

pub path_to-requires : goal.path_to-requires
path_to-requires c =
    let p = path_traceable c.args.self.now.ready c.requires.cell_bound c.args.line.now c.requires.line_len in
    record { to_in_bounds = p.0; previous_inside = p.1.0; previous_len_bound = omega (arith, p.1.1.0); previous_in_bounds = omega (arith, p.1.1.1) }

pub returns : goal.returns
returns c =
    let call = c.path_to in let args = c.args in let parents = args.self.now.parents.now in
    traced _ args.line.now _ call.ensures.value
    (omega (arith, call.ensures.value, trace-short (length parents) parents args.cell [], args.self.now.ready.parents-long, c.requires.line_len)) call.auto.path call.ensures.path_after
