-- `JobParts::put_head` meets its contract, piece by piece.
use Rattle.putting.specs.PutLaws.{both, first_fits, then-fits}
use Rattle.sheet_writer.specs.Texts.{head_text}
use Rattle.sheet_writer.proofs.JobParts.put_head.Goals as goal

pub put_one-versioned-requires : goal.put_one-versioned-requires
unfolding head_text
put_one-versioned-requires c = first_fits _ c.requires

pub put_four-long-requires : goal.put_four-long-requires
unfolding head_text
put_four-long-requires c = first_fits _ (then-fits c.put_one-versioned.ensures c.requires)

pub put_position-sided-requires : goal.put_position-sided-requires
unfolding head_text
put_position-sided-requires c = first_fits _ (then-fits c.put_four-long.ensures (then-fits c.put_one-versioned.ensures c.requires))

pub put_costs-costed-requires : goal.put_costs-costed-requires
unfolding head_text
put_costs-costed-requires c = first_fits _ (then-fits c.put_position-sided.ensures (then-fits c.put_four-long.ensures (then-fits c.put_one-versioned.ensures c.requires)))

pub put_limit-requires : goal.put_limit-requires
unfolding head_text
put_limit-requires c = then-fits c.put_costs-costed.ensures (then-fits c.put_position-sided.ensures (then-fits c.put_four-long.ensures (then-fits c.put_one-versioned.ensures c.requires)))

pub returns : goal.returns
unfolding head_text
returns c = both c.put_one-versioned.ensures (both c.put_four-long.ensures (both c.put_position-sided.ensures (both c.put_costs-costed.ensures c.put_limit.ensures)))
