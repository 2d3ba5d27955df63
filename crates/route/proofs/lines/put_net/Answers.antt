-- `put_net` meets its contract, piece by piece.
use Rattle.route.specs.Lines.{net_word}
use Rattle.route.specs.LineLaws.{pair-first-fits, pair-second-fits, pair-end-fits, pair_put}
use Rattle.route.proofs.lines.put_net.Goals as goal

pub put_number-first-requires : goal.put_number-first-requires
put_number-first-requires c = pair-first-fits net_word c.args.branches c.args.occupied c.put_bytes-named.ensures c.requires

pub put_number-second-requires : goal.put_number-second-requires
put_number-second-requires c = pair-second-fits net_word c.args.branches c.args.occupied c.put_bytes-named.ensures c.put_number-first.ensures c.requires

pub put_bytes-requires : goal.put_bytes-requires
put_bytes-requires c = pair-end-fits net_word c.args.branches c.args.occupied c.put_bytes-named.ensures c.put_number-first.ensures c.put_number-second.ensures c.requires

pub returns : goal.returns
returns c = pair_put net_word c.args.branches c.args.occupied c.put_bytes-named.ensures c.put_number-first.ensures c.put_number-second.ensures c.put_bytes.ensures
