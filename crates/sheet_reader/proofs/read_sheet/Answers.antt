-- `read_sheet` meets its contract: a sheet that is not shaped means nothing; of any other the reader found what its places hold.
use Rattle.std.proofs.Common.{sym, ◌∙◌}
use native.Mathlib.Omega.{arith}
use Rattle.job_sheet.specs.VersionLaws.{searchable}
use Rattle.job_sheet.specs.RecordLaws.{Bytes}
use Rattle.job_sheet.proofs.ReadLaws.{shaped-is, read-nothing, read-refused, read-accepted}
use Rattle.sheet_reader.specs.ReaderLaws.{found_layout, found-job}
use Rattle.sheet_reader.proofs.read_sheet.Goals as goal

pub shaped-requires : goal.shaped-requires
shaped-requires c = (c.version_in-version.ensures, c.read_through-found.ensures)

pub returns-then-not-shaped : goal.returns-then-not-shaped
returns-then-not-shaped c = read-nothing _ _ c.version_in-version.ensures (sym c.shaped.ensures ∙ c.if-not-shaped.true) _ c.refusal.ensures

pub judge-judgement-requires-clause-layout_value : goal.judge-judgement-requires-clause-layout_value
judge-judgement-requires-clause-layout_value c =
    let S = shaped-is _ _ (sym c.shaped.ensures ∙ c.if-not-shaped.false) in (found_layout _ _ c.version_in-version.ensures _ c.read_through-found.ensures S, S)

pub judge-judgement-requires-clause-searchable : goal.judge-judgement-requires-clause-searchable
judge-judgement-requires-clause-searchable c =
    let S = shaped-is _ _ (sym c.shaped.ensures ∙ c.if-not-shaped.false) in rw c.version_in-version.ensures (searchable _)

pub returns-then-not-is_good : goal.returns-then-not-is_good
returns-then-not-is_good c =
    let S = shaped-is _ _ (sym c.shaped.ensures ∙ c.if-not-shaped.false) in
    read-refused _ _ (λ i. omega (arith, c.type_inv.sheet i)) S c.version_in-version.ensures _ c.judge-judgement.ensures (sym c.is_good.ensures ∙ c.if-not-is_good.true) _ c.refusal-then-not-is_good.ensures

pub returns : goal.returns
returns c =
    let S = shaped-is _ _ (sym c.shaped.ensures ∙ c.if-not-shaped.false) in
    let bytes : Bytes c.args.sheet.now = λ i. omega (arith, c.type_inv.sheet i) in
    read-accepted _ _ bytes S c.version_in-version.ensures _ c.judge-judgement.ensures (sym c.is_good.ensures ∙ c.if-not-is_good.false) _
    (c.job_found.ensures ∙ found-job _ _ c.version_in-version.ensures _ c.read_through-found.ensures S bytes)
