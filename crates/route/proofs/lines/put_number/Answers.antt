-- `put_number` meets its contract: a space, then the digits that `io::decimal` writes.
use Rattle.std.proofs.Common.{rules}
use Rattle.route.specs.LineLaws.{written-decimal, digits_fit, spaced-put}
use Rattle.route.proofs.lines.put_number.Goals as goal

pub put_bytes-requires : goal.put_bytes-requires
put_bytes-requires c = digits_fit c.args.n c.put_bytes-spaced.ensures (written-decimal _ _ _ (search rules) c.decimal-count.ensures.len c.decimal-count.ensures.digits) c.requires

pub returns : goal.returns
returns c = spaced-put c.args.n c.put_bytes-spaced.ensures (written-decimal _ _ _ (search rules) c.decimal-count.ensures.len c.decimal-count.ensures.digits) c.put_bytes.ensures
