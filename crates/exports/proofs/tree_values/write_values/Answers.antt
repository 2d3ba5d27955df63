-- `write_values` meets its contract: four values over a cleared buffer, and sixteen lengths behind them.
use Rattle.std.specs.Prelude.{length, ◌∷◌, []}
use Rattle.std.proofs.Common.{take_all, arith}
use Rattle.exports.specs.TreeExportLaws.{lengths-behind}
use borrow.Author.Rules.{rules}
use Rattle.exports.proofs.tree_values.write_values.Goals as goal

pub returns : goal.returns
returns c = let args = c.args in lengths-behind _ _ _ _ (length args.values.now) args.lengths.each (rw (take_all (length args.values.now) (args.detail ∷ args.lengths.count ∷ args.occupied ∷ args.repeaters ∷ []) (omega (arith, c.requires))) at c.write_front.ensures) c.write_lengths.ensures
