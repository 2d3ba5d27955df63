-- `buffers_good` meets its contract: each test is one of the definition's.
use Rattle.std.proofs.Common.{arith}
use Rattle.std.proofs.lemmas.Bool.Decides.{nat_tests}
use Rattle.routing.specs.Answers.{buffers_good}
use Rattle.routing.proofs.judge.buffers_good.Goals as goal

pub returns-then-v-lengths-4 : goal.returns-then-v-lengths-4
unfolding buffers_good
returns-then-v-lengths-4 c = grind (arith, nat_tests)

pub returns-else-v-lengths-4 : goal.returns-else-v-lengths-4
unfolding buffers_good
returns-else-v-lengths-4 c = grind (arith, nat_tests)
