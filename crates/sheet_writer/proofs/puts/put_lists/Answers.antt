-- `put_lists` meets its contract, list by list.
use Rattle.putting.specs.PutLaws.{both, first_fits, then-fits}
use Rattle.sheet_writer.specs.Texts.{lists_text}
use Rattle.sheet_writer.proofs.puts.put_lists.Goals as goal

pub put_list-first-requires : goal.put_list-first-requires
unfolding lists_text
put_list-first-requires c = first_fits _ c.requires

pub put_list-second-requires : goal.put_list-second-requires
unfolding lists_text
put_list-second-requires c = first_fits _ (then-fits c.put_list-first.ensures c.requires)

pub put_list-third-requires : goal.put_list-third-requires
unfolding lists_text
put_list-third-requires c = first_fits _ (then-fits c.put_list-second.ensures (then-fits c.put_list-first.ensures c.requires))

pub put_list-fourth-requires : goal.put_list-fourth-requires
unfolding lists_text
put_list-fourth-requires c = first_fits _ (then-fits c.put_list-third.ensures (then-fits c.put_list-second.ensures (then-fits c.put_list-first.ensures c.requires)))

pub put_list-requires : goal.put_list-requires
unfolding lists_text
put_list-requires c = then-fits c.put_list-fourth.ensures (then-fits c.put_list-third.ensures (then-fits c.put_list-second.ensures (then-fits c.put_list-first.ensures c.requires)))

pub returns : goal.returns
unfolding lists_text
returns c = both c.put_list-first.ensures (both c.put_list-second.ensures (both c.put_list-third.ensures (both c.put_list-fourth.ensures c.put_list.ensures)))
