-- The version that is written: its number stands for it, a room within its ranges can be searched, its coordinates hold its sides, and it tells the job's limits.
-- No lower version holds the job.
use Rattle.std.specs.Prelude.{◌≡◌, refl, Bool, true, false, List, ℕ, ◌≤◌, ◌<◌, eqb, length, get_or}
use Rattle.std.proofs.Math.Path.{sym}
use Rattle.std.proofs.Common.{ap, ◌∙◌, arith}
use Rattle.basics.specs.Tests.{ask, and_both, and_left, and_right}
use Rattle.room.specs.Units.{config_good}
use Rattle.job_sheet.specs.declared.Version.{Version}
use Rattle.job_sheet.specs.Version.{first_ranges, hall_ranges, version_one, version_two, version_three, version_of, version_in, sides_within, costs_within, config_within, Searchable}
use Rattle.job_sheet.specs.VersionLaws.{one_known, two-known, three-known, first-searchable, hall_searchable}
use Rattle.job_sheet.specs.declared.Judgement.TheVariants.{Good}
use Rattle.job_sheet.specs.Sheet.{Contents, bytes_by, usual, tells_limits, layout_of, judged}
use Rattle.job_sheet.proofs.AcceptedLaws.{no_fault}
use Rattle.sheet_writer.specs.Writer.{Parts, contents_of, holds_first, version_for, written}
use Rattle.sheet_writer.specs.Choice.{usual_tails, version_by_limits, version_by}
use Rattle.sheet_writer.specs.SizeLaws.{bytes-end}

-- what the bytes of a coordinate hold
abbrev pub side_end : Bool → ℕ
side_end false = 256
side_end true = 65536

-- a version that can be written
pub record Writable (v : Version) : Type 0 where
  pub known : version_of v.number ≡ v
  pub numbered : v.number < 256
  pub searchable : Searchable v.ranges
  pub held : v.ranges.side < side_end v.long

one-writable : Writable version_one
one-writable = record { known = one_known; numbered = omega arith; searchable = first-searchable; held = omega arith }

two-writable : Writable version_two
two-writable = record { known = two-known; numbered = omega arith; searchable = first-searchable; held = omega arith }

three-writable : Writable version_three
three-writable = record { known = three-known; numbered = omega arith; searchable = hall_searchable; held = omega arith }

-- ---- which version it is

pub for_usual : (J : Contents) → holds_first J ≡ true → usual J ≡ true → version_for J ≡ version_one
unfolding version_for
for_usual J h t = rw (h, t)

pub for_others : (J : Contents) → holds_first J ≡ true → usual J ≡ false → version_for J ≡ version_two
unfolding version_for
for_others J h f = rw (h, f)

pub for_halls : (J : Contents) → holds_first J ≡ false → version_for J ≡ version_three
unfolding version_for
for_halls J n = rw n

ask_written : {X : Type 0} (J : Contents) → (holds_first J ≡ true → usual J ≡ true → X) → (holds_first J ≡ true → usual J ≡ false → X) → (holds_first J ≡ false → X) → X
ask_written J one two three = ask (holds_first J) (λ h. ask (usual J) (one h) (two h)) three

pub writable : (J : Contents) → Writable (version_for J)
writable J =
    ask_written J (λ h t. rw (for_usual J h t) one-writable) (λ h f. rw (for_others J h f) two-writable) (λ n. rw (for_halls J n) three-writable)

-- so with any value that is that version
pub searchable_for : (J : Contents) {v : Version} → v ≡ version_for J → Searchable v.ranges
searchable_for J e = rw e (writable J).searchable

-- it tells the job's limits
pub limits-told : (J : Contents) → tells_limits (version_for J) J ≡ true
limits-told J = ask_written J (λ h t. rw (for_usual J h t, t)) (λ h f. rw (for_others J h f)) (λ n. rw (for_halls J n))

-- what has its bytes is read in it
pub written_version : (sheet : List ℕ) (J : Contents) → written J ≡ sheet → version_in sheet ≡ version_for J
unfolding bytes_by
written_version sheet J e =
    let first : get_or sheet 0 0 ≡ (version_for J).number = ap (λ l. get_or l 0 0) (sym e) in
    ap version_of first ∙ (writable J).known

-- ---- the versions that a sheet can be of, beside the one that is written

pub ask_version : {X : Type 0} (first : ℕ) → (version_of first ≡ version_one → X) → (version_of first ≡ version_two → X) → (version_of first ≡ version_three → X) → X
unfolding version_of
ask_version first one two three = ask (eqb first 3) (λ t. three (rw t)) (λ f. ask (eqb first 2) (λ t. two (rw (f, t))) (λ n. one (rw (f, n))))

-- a job that a version tells, and judges good, is judged good in the version that is written; that has no higher number, and no more bytes
pub record Lowest (v : Version) (J : Contents) : Type 0 where
  pub number-most : (version_for J).number ≤ v.number
  pub bytes_most : length (written J) ≤ length (bytes_by v J)
  pub still-good : judged v J ≡ Good → judged (version_for J) J ≡ Good

lowest_self : (v : Version) (J : Contents) → version_for J ≡ v → Lowest v J
lowest_self v J e = record { number-most = rw e (omega arith); bytes_most = rw e (omega arith); still-good = λ g. rw e g }

-- a limit in each sink, and one of the run, are what version 2 has more; version 3 has a byte more a coordinate
one-shorter : (J : Contents) → length (bytes_by version_one J) ≤ length (bytes_by version_two J)
unfolding layout_of
one-shorter J = rw (bytes-end version_one J, bytes-end version_two J) (omega arith)

two-shorter : (J : Contents) → length (bytes_by version_two J) ≤ length (bytes_by version_three J)
unfolding layout_of
two-shorter J = rw (bytes-end version_two J, bytes-end version_three J) (omega arith)

-- what is judged differently in another version is its head
judged-too : (v w : Version) (J : Contents) → sides_within w.ranges J.room ≡ true → config_within w.ranges J.room J.config ≡ true → judged v J ≡ Good → judged w J ≡ Good
unfolding judged
judged-too v w J s c g = let N = no_fault v J g in rw (s, c) (rw (N.sides, N.config) at g)

-- a job that is judged good at the ranges of version 1 and 2 is held by them
pub held_first : (v : Version) (J : Contents) → v.ranges ≡ first_ranges → judged v J ≡ Good → holds_first J ≡ true
unfolding holds_first config_within
held_first v J e g =
    let N = no_fault v J g in
    and_both (rw e at N.sides) (and_left (costs_within first_ranges J.config) (config_good J.room J.config) (rw e at N.config))

-- and one that is judged good at the search's, and held by them, is judged good there
module _ (J : Contents) (h : holds_first J ≡ true) (g : judged version_three J ≡ Good) where
  first-sides : sides_within first_ranges J.room ≡ true
  unfolding holds_first
  first-sides = and_left (sides_within first_ranges J.room) (costs_within first_ranges J.config) h

  first-config : config_within first_ranges J.room J.config ≡ true
  unfolding holds_first config_within
  first-config =
      and_both (and_right (sides_within first_ranges J.room) (costs_within first_ranges J.config) h)
      (and_right (costs_within hall_ranges J.config) (config_good J.room J.config) (no_fault version_three J g).config)

  first-good-too : (v : Version) → v.ranges ≡ first_ranges → judged v J ≡ Good
  first-good-too v e = judged-too version_three v J (rw e first-sides) (rw e first-config) g

-- of each version that a sheet can be of
lowest-one : (J : Contents) → usual J ≡ true → judged version_one J ≡ Good → Lowest version_one J
lowest-one J t g = lowest_self version_one J (for_usual J (held_first version_one J refl g) t)

lowest-two : (J : Contents) → judged version_two J ≡ Good → Lowest version_two J
unfolding judged
lowest-two J g =
    let h = held_first version_two J refl g in
    ask (usual J)
    (λ t. let e = for_usual J h t in record { number-most = rw e (omega arith); bytes_most = rw e (one-shorter J); still-good = λ z. rw e z })
    (λ f. lowest_self version_two J (for_others J h f))

lowest-three : (J : Contents) → judged version_three J ≡ Good → Lowest version_three J
lowest-three J g =
    ask_written J
    (λ h t. let e = for_usual J h t in
    record { number-most = rw e (omega arith); bytes_most = rw e (omega (arith, one-shorter J, two-shorter J)); still-good = λ z. rw e (first-good-too J h z version_one refl) })
    (λ h f. let e = for_others J h f in
    record { number-most = rw e (omega arith); bytes_most = rw e (two-shorter J); still-good = λ z. rw e (first-good-too J h z version_two refl) })
    (λ n. lowest_self version_three J (for_halls J n))

pub lowest : (first : ℕ) (J : Contents) → tells_limits (version_of first) J ≡ true → judged (version_of first) J ≡ Good → Lowest (version_of first) J
lowest first J t g =
    ask_version first
    (λ one. rw one (lowest-one J (rw one at t) (rw one at g)))
    (λ two. rw two (lowest-two J (rw two at g)))
    (λ three. rw three (lowest-three J (rw three at g)))

-- ---- what the code finds

pub by_parts : (P : Parts) → version_for (contents_of P) ≡ version_by P.room P.config P.run P.sinks
unfolding version_for holds_first usual contents_of version_by version_by_limits usual_tails
by_parts P = refl
