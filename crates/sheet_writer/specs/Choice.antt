-- The version that is written, by what decides it. Definitions alone.
use Rattle.std.specs.Prelude.{Bool, ◌&&◌, List, ℕ, eqb, take}
use Rattle.basics.specs.Tests.{either}
use Rattle.basics.specs.Lists.{every}
use Rattle.room.specs.declared.Room.{Room}
use Rattle.room.specs.declared.RouterConfig.{RouterConfig}
use Rattle.job_sheet.specs.declared.Sink.{Sink}
use Rattle.job_sheet.specs.declared.Sinks.{Sinks}
use Rattle.job_sheet.specs.declared.Version.{Version}
use Rattle.job_sheet.specs.UsualLimits.{usual_run, usual_tail}
use Rattle.job_sheet.specs.Version.{first_ranges, version_one, version_two, version_three, fits_ranges}

unfoldable pub usual_tails : List Sink → Bool
usual_tails ks = every (λ k. eqb k.tail usual_tail) ks

unfoldable pub version_by_limits : ℕ → Sinks → Version
version_by_limits run s = either (eqb run usual_run && usual_tails (take s.count s.ends)) version_one version_two

unfoldable pub version_by : Room → RouterConfig → ℕ → Sinks → Version
version_by R C run s = either (fits_ranges first_ranges R C) (version_by_limits run s) version_three
