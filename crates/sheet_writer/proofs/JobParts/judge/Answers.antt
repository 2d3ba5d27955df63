-- `JobParts::judge` meets its contract: number 1 is told by the lengths.
use Rattle.sheet_writer.specs.JobParts.{parts_in}
use Rattle.sheet_writer.specs.ChoiceLaws.{searchable_for}
use Rattle.sheet_writer.specs.JudgeLaws.{judged_ill, judged-few, judged-well}
use Rattle.sheet_writer.proofs.JobParts.judge.Goals as goal

pub returns-then-not-formed : goal.returns-then-not-formed
returns-then-not-formed c = judged_ill (parts_in c.args.self.now) c.args.self.now.whole c.requires c.lengths_of.ensures c.formed.ensures c.if-not-formed.true-raw

pub judge_records-requires : goal.judge_records-requires
judge_records-requires c = (judged-few (parts_in c.args.self.now) c.args.self.now.whole c.requires c.lengths_of.ensures c.formed.ensures c.if-not-formed.false-raw, searchable_for _ c.requires)

pub returns : goal.returns
returns c = judged-well (parts_in c.args.self.now) c.args.self.now.whole c.requires c.lengths_of.ensures c.formed.ensures c.if-not-formed.false-raw c.judge_records.ensures
