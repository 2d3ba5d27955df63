-- `put_word` meets its contract: what is put so far is the front of the word.
use Rattle.std.proofs.Common.{◌∙◌}
use Rattle.function_file.specs.Putting.{letters-on, letters-done}
use Rattle.function_file.proofs.words.put_word.Goals as goal

pub loop-i-preserved : goal.loop-i-preserved
loop-i-preserved c = c.put_letter.ensures ∙ letters-on c.args.out.now c.args.at c.word-letters.result.now c.loop-i-test.true c.loop-i.invariant

pub returns : goal.returns
returns c = letters-done c.args.out.now c.args.at c.word-letters.result.now c.args.w c.word-letters.ensures c.loop-i-test.false c.loop-i.invariant
