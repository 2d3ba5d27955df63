-- `read_through` meets its contract: what the readers found one after the other is the sheet's head, and the last of them stands at the lists.
use Rattle.std.specs.Prelude.{◌≡◌, List, ℕ, get_or, drop}
use Rattle.std.proofs.Common.{◌∙◌, subst}
use Rattle.std.proofs.Math.Path.{ap}
use Rattle.job_sheet.specs.declared.Part.{Part}
use Rattle.job_sheet.specs.UsualLimits.{usual_run}
use Rattle.job_sheet.specs.Version.{version_in, config_size}
use Rattle.job_sheet.specs.Places.{four_in, position_in, config_in, limit_in}
use Rattle.sheet_reader.specs.Reader.{no_count_size, sides_at, config_at, PartsFound}
use Rattle.sheet_reader.specs.ReaderLaws.{lists-reached, head_read, all_read}
use Rattle.sheet_reader.specs.declared.Reader.{Reader}
use Rattle.sheet_reader.proofs.Moved.{front-at, fronted, past-at, behind-at, moved, moved-stands}
use Rattle.sheet_reader.proofs.read_through.Goals as goal

pub four-rest-requires : goal.four-rest-requires
four-rest-requires c = moved-stands _ _ _ c.past-reader.ensures

pub position-sides-requires : goal.position-sides-requires
position-sides-requires c = moved-stands _ _ _ c.past-reader-2.ensures

pub config-config-requires : goal.config-config-requires
config-config-requires c = moved-stands _ _ _ c.behind-reader.ensures

pub run-run-requires : goal.run-run-requires
run-run-requires c = moved-stands _ _ _ c.behind-reader.ensures

pub read_body-body-requires : goal.read_body-body-requires
read_body-body-requires c =
    let s : List ℕ = c.args.sheet.now in
    let h₀ : Reader = front-at c.args.sheet in
    let h₁ : Reader = past-at h₀ 1 in
    let h₂ : Reader = past-at h₁ 4 in
    let d : Part = c.sides_list-stands.result in
    let f : Part = c.config_list-settings.result in
    let h₃ : Reader = behind-at h₂ no_count_size d in
    let h₄ : Reader = behind-at h₃ no_count_size f in
    let e₀ : c.new-reader.result ≡ h₀ = fronted _ _ c.new-reader.ensures in
    let e₁ : c.past-reader.result ≡ h₁ = moved _ _ _ c.past-reader.ensures ∙ ap (λ h. past-at h 1) e₀ in
    let e₂ : c.past-reader-2.result ≡ h₂ = moved _ _ _ c.past-reader-2.ensures ∙ ap (λ h. past-at h 4) e₁ in
    let e₃ : c.behind-reader.result ≡ h₃ = moved _ _ _ c.behind-reader.ensures ∙ ap (λ h. behind-at h no_count_size d) e₂ in
    let e₄ : c.behind-reader-2.result ≡ h₄ = moved _ _ _ c.behind-reader-2.ensures ∙ ap (λ h. behind-at h no_count_size f) e₃ in
    rw e₄ (lists-reached s d f (c.sides_list-stands.ensures.is ∙ ap (λ h. sides_at (version_in h.sheet.now) h.place) e₂)
    (c.config_list-settings.ensures ∙ ap (λ h. config_at (version_in h.sheet.now) h.place) e₃))

pub returns : goal.returns
returns c =
    let s : List ℕ = c.args.sheet.now in
    let h₀ : Reader = front-at c.args.sheet in
    let h₁ : Reader = past-at h₀ 1 in
    let h₂ : Reader = past-at h₁ 4 in
    let d : Part = c.sides_list-stands.result in
    let h₃ : Reader = behind-at h₂ no_count_size d in
    let h₄ : Reader = behind-at h₃ no_count_size c.config_list-settings.result in
    let e₀ : c.new-reader.result ≡ h₀ = fronted _ _ c.new-reader.ensures in
    let e₁ : c.past-reader.result ≡ h₁ = moved _ _ _ c.past-reader.ensures ∙ ap (λ h. past-at h 1) e₀ in
    let e₂ : c.past-reader-2.result ≡ h₂ = moved _ _ _ c.past-reader-2.ensures ∙ ap (λ h. past-at h 4) e₁ in
    let e₃ : c.behind-reader.result ≡ h₃ = moved _ _ _ c.behind-reader.ensures ∙ ap (λ h. behind-at h no_count_size d) e₂ in
    let e₄ : c.behind-reader-2.result ≡ h₄ = moved _ _ _ c.behind-reader-2.ensures ∙ ap (λ h. behind-at h no_count_size c.config_list-settings.result) e₃ in
    all_read s _ _ _ c.found_of.ensures
    (c.head_of-head.ensures
    ∙ head_read s c.byte-version.result c.four-rest.result c.position-sides.result d c.config-config.result c.run-run.result
    (c.byte-version.ensures ∙ ap (λ h. get_or (drop h.place h.sheet.now) 0 0) e₀)
    (c.four-rest.ensures ∙ ap (λ h. four_in (drop h.place h.sheet.now) 0) e₁)
    (c.position-sides.ensures ∙ ap (λ h. position_in (version_in h.sheet.now).long (drop h.place h.sheet.now) 0) e₂)
    (c.sides_list-stands.ensures.is ∙ ap (λ h. sides_at (version_in h.sheet.now) h.place) e₂)
    (c.config-config.ensures ∙ ap (λ h. config_in (drop h.place h.sheet.now)) e₃)
    (c.run-run.ensures ∙ ap (λ h. limit_in (version_in h.sheet.now).limits usual_run (drop h.place h.sheet.now) config_size) e₃))
    (subst (λ h. PartsFound h.sheet.now c.read_body-body.result) e₄ c.read_body-body.ensures)
