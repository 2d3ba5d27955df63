-- `JobParts::version_for` meets its contract: its tests are the definition's, in the same order.
use mathlib.Core.Path.{◌≡◌, sym, ap, ◌∙◌}
use mathlib.Core.Bool.{Bool}
use Rattle.room.specs.declared.Room.{Room}
use Rattle.room.specs.declared.RouterConfig.{RouterConfig}
use Rattle.job_sheet.specs.declared.Ranges.{Ranges}
use Rattle.job_sheet.specs.Version.{first_ranges, fits_ranges}
use Rattle.job_sheet.specs.VersionLaws.{first-searchable}
use Rattle.sheet_writer.specs.Choice.{version_by}
use Rattle.sheet_writer.proofs.JobParts.version_for.Goals as goal

first-held : (R : Room) (C : RouterConfig) {g : Ranges} {r : Bool} → g ≡ first_ranges → r ≡ fits_ranges g R C → r ≡ fits_ranges first_ranges R C
first-held R C e h = h ∙ ap (λ g. fits_ranges g R C) e

pub hold-requires : goal.hold-requires
hold-requires c = rw c.first_ranges.ensures first-searchable

pub returns-else-hold : goal.returns-else-hold
unfolding version_by
returns-else-hold c = rw (sym (first-held c.args.self.now.room c.args.self.now.config c.first_ranges.ensures c.hold.ensures) ∙ c.if-hold.false) c.version_three.ensures

pub returns-then-hold : goal.returns-then-hold
unfolding version_by
returns-then-hold c = rw (sym (first-held c.args.self.now.room c.args.self.now.config c.first_ranges.ensures c.hold.ensures) ∙ c.if-hold.true) c.version_by_limits.ensures
