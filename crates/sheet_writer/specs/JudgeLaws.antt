-- Number 1 by the lengths, and then the records: what `judge` finds is the judgement of the parts.
use Rattle.std.specs.Prelude.{◌≡◌, Bool, true, false, not, ◌≤◌, length}
use Rattle.std.proofs.Common.{sym, ◌∙◌}
use Rattle.std.proofs.Math.Path.{ap}
use Rattle.basics.specs.Tests.{test_fails, test-passes}
use Rattle.job_sheet.specs.declared.Judgement.{Judgement}
use Rattle.job_sheet.specs.declared.Judgement.TheVariants.{Sheet}
use Rattle.job_sheet.specs.declared.Version.{Version}
use Rattle.job_sheet.specs.Sheet.{max_sinks, judged}
use Rattle.sheet_writer.specs.declared.Lengths.{Lengths}
use Rattle.sheet_writer.specs.Writer.{Parts, lengths_in, contents_of, version_for, formed, judged_parts}
use Rattle.sheet_writer.specs.Sizes.{lengths_good}
use Rattle.sheet_writer.specs.SizeLaws.{formed-by, formed-sinks}

module _ (P : Parts) (whole : length P.sinks.ends ≡ max_sinks) {w : Version} (in-version : w ≡ version_for (contents_of P)) {n : Lengths} (of : n ≡ lengths_in P) {t : Bool} (e : t ≡ lengths_good w n) where
  is-formed : t ≡ formed P
  is-formed = e ∙ (λ i. lengths_good (in-version i) (of i)) ∙ sym (formed-by P whole)

  pub judged_ill : not t ≡ true → Sheet ≡ judged_parts P
  unfolding judged_parts
  judged_ill h = rw (test_fails is-formed h)

  pub judged-few : not t ≡ false → P.sinks.count ≤ max_sinks
  judged-few h = formed-sinks P (test-passes is-formed h)

  pub judged-well : not t ≡ false → {v : Judgement} → v ≡ judged w (contents_of P) → v ≡ judged_parts P
  unfolding judged_parts
  judged-well h {v} j = rw (test-passes is-formed h) (j ∙ ap (λ x. judged x (contents_of P)) in-version)
