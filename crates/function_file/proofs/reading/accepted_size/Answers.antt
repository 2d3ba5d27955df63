-- `accepted_size` meets its contract: the line of the guess is put, and compared.
use native.Mathlib.Omega.{arith}
use Rattle.basics.specs.Tests.{test_fails, test-passes}
use Rattle.function_file.specs.WriteLaws.{kind-low, facing-low}
use Rattle.function_file.specs.ReadLaws.{lawful-within, lawful-known, line-size, size_unlawful, size-good, size-bad}
use Rattle.function_file.proofs.reading.accepted_size.Goals as goal

pub returns-then-not-guess_lawful : goal.returns-then-not-guess_lawful
returns-then-not-guess_lawful c = size_unlawful _ _ _ _ (test_fails c.guess_lawful.ensures c.if-not-guess_lawful.true-raw)

pub put_line-size-requires : goal.put_line-size-requires
put_line-size-requires c = let t = test-passes c.guess_lawful.ensures c.if-not-guess_lawful.false-raw in let w = lawful-within c.args.room c.args.next c.args.g t in let k = lawful-known c.args.room c.args.next c.args.g t in let G = c.requires.good in (omega arith, omega (arith, w.x_in, G.x_most), omega (arith, w.y_in, G.y_most), omega (arith, w.z_in, G.z_most), kind-low c.args.g.kind c.args.g.facing k, facing-low c.args.g.kind c.args.g.facing k)

pub slice_bounds-starts_with-end : goal.slice_bounds-starts_with-end
slice_bounds-starts_with-end c = line-size c.put_line-size.ensures

pub starts_with-requires : goal.starts_with-requires
starts_with-requires c = (c.requires.at_in_bounds, omega (arith, line-size c.put_line-size.ensures, c.put_line-size.ensures.near))

pub returns-then-starts_with : goal.returns-then-starts_with
returns-then-starts_with c = size-good _ _ _ _ (test-passes c.guess_lawful.ensures c.if-not-guess_lawful.false-raw) c.put_line-size.ensures c.starts_with.ensures c.if-starts_with.true

pub returns-else-starts_with : goal.returns-else-starts_with
returns-else-starts_with c = size-bad _ _ _ _ (test-passes c.guess_lawful.ensures c.if-not-guess_lawful.false-raw) c.put_line-size.ensures c.starts_with.ensures c.if-starts_with.false
