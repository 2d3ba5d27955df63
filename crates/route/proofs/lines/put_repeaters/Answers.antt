-- `put_repeaters` meets its contract, piece by piece.
use Rattle.route.specs.Lines.{repeaters_word}
use Rattle.route.specs.Marked.{marked}
use Rattle.route.specs.LineLaws.{listed-fit, line-end-fits, line-put}
use Rattle.route.proofs.lines.put_repeaters.Goals as goal

pub put_marked-listed-requires : goal.put_marked-listed-requires
put_marked-listed-requires c = listed-fit repeaters_word (marked c.args.marks.now) c.put_bytes-named.ensures c.requires

pub put_bytes-requires : goal.put_bytes-requires
put_bytes-requires c = line-end-fits repeaters_word (marked c.args.marks.now) c.put_bytes-named.ensures c.requires c.put_marked-listed.ensures

pub returns : goal.returns
returns c = line-put repeaters_word (marked c.args.marks.now) c.put_bytes-named.ensures c.put_marked-listed.ensures c.put_bytes.ensures
