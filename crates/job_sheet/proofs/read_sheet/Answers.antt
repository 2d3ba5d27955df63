-- `read_sheet` meets its contract: a sheet that is not shaped means nothing; any other means what its places hold.
use Rattle.basics.specs.Tests.{test_fails, test-passes}
use native.Mathlib.Omega.{arith}
use Rattle.job_sheet.proofs.ReadLaws.{shaped-is, read-nothing, read-refused, read-accepted}
use Rattle.job_sheet.specs.VersionLaws.{searchable}
use Rattle.job_sheet.proofs.read_sheet.Goals as goal

pub returns-then-not-shaped : goal.returns-then-not-shaped
returns-then-not-shaped c = read-nothing _ _ c.version_in-version.ensures (test_fails c.shaped.ensures c.if-not-shaped.true-raw) _ c.refusal.ensures

pub judge-judgement-requires-clause-layout_value : goal.judge-judgement-requires-clause-layout_value
judge-judgement-requires-clause-layout_value c = (c.layout_from-layout.ensures.is, shaped-is _ _ (test-passes c.shaped.ensures c.if-not-shaped.false-raw))

pub judge-judgement-requires-clause-searchable : goal.judge-judgement-requires-clause-searchable
judge-judgement-requires-clause-searchable c = rw c.version_in-version.ensures (searchable _)

pub returns-then-not-is_good : goal.returns-then-not-is_good
returns-then-not-is_good c =
    let S = shaped-is _ _ (test-passes c.shaped.ensures c.if-not-shaped.false-raw) in
    read-refused _ _ (λ i. omega (arith, c.shared_slice_known-1.given i)) S c.version_in-version.ensures _ c.judge-judgement.ensures (test_fails c.is_good.ensures c.if-not-is_good.true-raw) _ c.refusal-then-not-is_good.ensures

pub job_from-requires : goal.job_from-requires
job_from-requires c = (c.layout_from-layout.ensures.is, shaped-is _ _ (test-passes c.shaped.ensures c.if-not-shaped.false-raw))

pub returns : goal.returns
returns c =
    let S = shaped-is _ _ (test-passes c.shaped.ensures c.if-not-shaped.false-raw) in
    read-accepted _ _ (λ i. omega (arith, c.shared_slice_known-1.given i)) S c.version_in-version.ensures _ c.judge-judgement.ensures (test-passes c.is_good.ensures c.if-not-is_good.false-raw) _ c.job_from.ensures
