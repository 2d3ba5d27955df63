-- `read_body` meets its contract: each reader stands on the sheet, at its end or just off it, and the lists that the readers found one after the other are the sheet's.
use Rattle.std.specs.Prelude.{◌≡◌, eqb, length, drop}
use Rattle.std.proofs.Common.{◌∙◌}
use Rattle.std.proofs.Math.Path.{ap}
use Rattle.job_sheet.specs.declared.Part.{Part}
use Rattle.job_sheet.specs.Version.{version_in, position_size}
use Rattle.job_sheet.specs.Sheet.{source_at}
use Rattle.job_sheet.specs.Places.{endpoint_in, list_at, sinks_at}
use Rattle.sheet_reader.specs.Reader.{list_count_size, sinks_count_size, no_count_size, sinks_found, body_of}
use Rattle.sheet_reader.specs.ReaderLaws.{onward-stands, body-read, found_as}
use Rattle.sheet_reader.specs.declared.Reader.{Reader}
use Rattle.sheet_reader.proofs.Moved.{behind-at, moved, moved-stands}
use Rattle.sheet_reader.proofs.read_body.Goals as goal

pub block_list-blocks-requires : goal.block_list-blocks-requires
block_list-blocks-requires c = rw c.requires (onward-stands _ _ _)

pub position_list-conductors-requires : goal.position_list-conductors-requires
position_list-conductors-requires c = moved-stands _ _ _ c.behind-reader.ensures

pub position_list-clearances-requires : goal.position_list-clearances-requires
position_list-clearances-requires c = moved-stands _ _ _ c.behind-reader-2.ensures

pub position_list-terminals-requires : goal.position_list-terminals-requires
position_list-terminals-requires c = moved-stands _ _ _ c.behind-reader-3.ensures

pub position_list-reserved-requires : goal.position_list-reserved-requires
position_list-reserved-requires c = moved-stands _ _ _ c.behind-reader-4.ensures

pub endpoint-source-requires : goal.endpoint-source-requires
endpoint-source-requires c = moved-stands _ _ _ c.behind-reader-5.ensures

pub sinks_list-listed-requires : goal.sinks_list-listed-requires
sinks_list-listed-requires c = moved-stands _ _ _ c.behind-reader-6.ensures

pub sinks-sinks-requires : goal.sinks-sinks-requires
sinks-sinks-requires c = moved-stands _ _ _ c.behind-reader-6.ensures

pub returns : goal.returns
returns c =
    let h₁ : Reader = c.args.reader in
    let b : Part = c.block_list-blocks.result in
    let k : Part = c.position_list-conductors.result in
    let l : Part = c.position_list-clearances.result in
    let t : Part = c.position_list-terminals.result in
    let r : Part = c.position_list-reserved.result in
    let o : Part = c.source_list-stands.result in
    let n : Part = c.sinks_list-listed.result in
    let h₂ : Reader = behind-at h₁ list_count_size b in
    let h₃ : Reader = behind-at h₂ list_count_size k in
    let h₄ : Reader = behind-at h₃ list_count_size l in
    let h₅ : Reader = behind-at h₄ list_count_size t in
    let h₆ : Reader = behind-at h₅ list_count_size r in
    let h₇ : Reader = behind-at h₆ no_count_size o in
    let h₈ : Reader = behind-at h₇ sinks_count_size n in
    let e₂ : c.behind-reader.result ≡ h₂ = moved _ _ _ c.behind-reader.ensures in
    let e₃ : c.behind-reader-2.result ≡ h₃ = moved _ _ _ c.behind-reader-2.ensures ∙ ap (λ h. behind-at h list_count_size k) e₂ in
    let e₄ : c.behind-reader-3.result ≡ h₄ = moved _ _ _ c.behind-reader-3.ensures ∙ ap (λ h. behind-at h list_count_size l) e₃ in
    let e₅ : c.behind-reader-4.result ≡ h₅ = moved _ _ _ c.behind-reader-4.ensures ∙ ap (λ h. behind-at h list_count_size t) e₄ in
    let e₆ : c.behind-reader-5.result ≡ h₆ = moved _ _ _ c.behind-reader-5.ensures ∙ ap (λ h. behind-at h list_count_size r) e₅ in
    let e₇ : c.behind-reader-6.result ≡ h₇ = moved _ _ _ c.behind-reader-6.ensures ∙ ap (λ h. behind-at h no_count_size o) e₆ in
    let e₈ : c.behind-reader-7.result ≡ h₈ = moved _ _ _ c.behind-reader-7.ensures ∙ ap (λ h. behind-at h sinks_count_size n) e₇ in
    found_as h₁.sheet.now _ _ (c.body_of.ensures ∙ ap (λ x. body_of x c.endpoint-source.result c.sinks-sinks.result c.at_end-whole.result) c.layout_found-layout.ensures)
    (body-read h₁.sheet.now h₁.place b k l t r o n c.endpoint-source.result c.sinks-sinks.result c.at_end-whole.result c.requires c.block_list-blocks.ensures.is
    (c.position_list-conductors.ensures.is ∙ ap positions-at e₂) (c.position_list-clearances.ensures.is ∙ ap positions-at e₃)
    (c.position_list-terminals.ensures.is ∙ ap positions-at e₄) (c.position_list-reserved.ensures.is ∙ ap positions-at e₅)
    (c.source_list-stands.ensures.is ∙ ap (λ h. source_at (version_in h.sheet.now) h.place) e₆)
    (c.endpoint-source.ensures ∙ ap (λ h. endpoint_in (version_in h.sheet.now).long (drop h.place h.sheet.now)) e₆)
    (c.sinks_list-listed.ensures.is ∙ ap (λ h. sinks_at (version_in h.sheet.now) h.sheet.now h.place) e₇)
    (c.sinks-sinks.ensures ∙ ap (λ h. sinks_found h.sheet.now h.place) e₇)
    (c.at_end-whole.ensures ∙ ap (λ h. eqb h.place (length h.sheet.now)) e₈))
  where
    positions-at : Reader → Part
    positions-at h = let g = (version_in h.sheet.now).long in list_at h.sheet.now g (position_size g) h.place
