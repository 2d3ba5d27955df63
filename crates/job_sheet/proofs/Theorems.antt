-- What the definitions of Sheet.antt come to. `Read sheet r` is what `read_sheet` promises of its answer r.
use Rattle.std.specs.Prelude.{◌≡◌, true, false, ◌↔◌, List, ℕ, get_or, drop}
use Rattle.std.proofs.Common.{sym, ap, ◌∙◌}
use Rattle.basics.specs.Tests.{ask, never}
use Rattle.basics.specs.Promises.{Determines}
use Rattle.job_sheet.specs.declared.Job.{Job}
use Rattle.job_sheet.specs.declared.Reading.{Reading}
use Rattle.job_sheet.specs.declared.Judgement.TheVariants.{Good, Sheet}
use Rattle.job_sheet.specs.declared.Version.{Version}
use Rattle.job_sheet.specs.Version.{version_of, version_in, sides_place, Searchable}
use Rattle.job_sheet.specs.VersionLaws.{searchable}
use Rattle.job_sheet.specs.Sheet.{Contents, bytes_by, tells_limits, MeansBy, Means, is_good, judged, layout_of, job_of, accepted, refused, answer, Read, meaning, means-nothing}
use Rattle.job_sheet.specs.Accepted.{Accepted, Usable}
use Rattle.job_sheet.specs.Places.{room_in, Shaped}
use Rattle.job_sheet.specs.LayoutLaws.{layout_back, room_back, contents-back, shaped-back, parts_in}
use Rattle.job_sheet.proofs.FaultLaws.{good-is, judged_not}
use Rattle.job_sheet.proofs.AcceptedLaws.{no_fault, usable-job}

-- ---- the encoding

-- in each version bytes say one thing only, limits included where the version tells them
pub injective : (v : Version) (J K : Contents) → tells_limits v J ≡ true → tells_limits v K ≡ true → bytes_by v J ≡ bytes_by v K → J ≡ K
injective v J K s t e = sym (contents-back v J s) ∙ rw e (contents-back v K t)

-- so a sheet means one thing at most
pub one-meaning : (sheet : List ℕ) (J K : Contents) → Means sheet J → Means sheet K → J ≡ K
one-meaning sheet J K m n = injective (version_in sheet) J K m.limits n.limits (m.bytes ∙ sym n.bytes)

-- and the room of what it means stands right behind the length of the rest
pub room-stands : (sheet : List ℕ) (J : Contents) → Means sheet J → room_in (version_in sheet).long (drop sides_place sheet) ≡ J.room
room-stands sheet J m = room_by (version_in sheet) m.bytes
  where
    room_by : (v : Version) → bytes_by v J ≡ sheet → room_in v.long (drop sides_place sheet) ≡ J.room
    room_by v e = rw (← e) (room_back v J)

-- what the bytes of a known version mean is read in that version
pub means-by : (v : Version) → version_of v.number ≡ v → {sheet : List ℕ} {J : Contents} → MeansBy v sheet J → Means sheet J
unfolding bytes_by
means-by v known {sheet} {J} m =
    let first : get_or sheet 0 0 ≡ v.number = ap (λ l. get_or l 0 0) (sym m.bytes) in
    let e : version_in sheet ≡ v = ap version_of first ∙ known in
    rw e m

-- ---- the reading

-- where the sheet means J, the answer is J's: what is accepted means this job, a refusal is the one that J's judgement gives, and what the judgement
-- accepts is not refused
pub answers-meaning : (sheet : List ℕ) (J : Contents) (r : Reading) → Means sheet J → Read sheet r → r ≡ answer (version_in sheet) J
answers-meaning sheet J r m (meaning K n e) = e ∙ ap (answer (version_in sheet)) (one-meaning sheet K J n m)
answers-meaning sheet J r m (means-nothing no-meaning e) = absurd (no-meaning J m)

-- every sheet has one answer only
pub coincide : (sheet : List ℕ) → Determines (Read sheet)
coincide sheet r q (meaning J m e) b = e ∙ sym (answers-meaning sheet J q m b)
coincide sheet r q (means-nothing no-meaning e) (meaning J m f) = absurd (no-meaning J m)
coincide sheet r q (means-nothing no-meaning e) (means-nothing no-meaning' f) = e ∙ sym f

-- what is accepted is a job that the sheet means and that has no fault
pub accepted-by : {sheet : List ℕ} {r : Reading} → Read sheet r → is_good r.judgement ≡ true → Accepted sheet r.job
accepted-by {sheet = sheet} {r = r} (meaning J m e) g =
    ask (is_good (judged v J)) (λ t. yes_job t (rw t at e)) (λ f. no_job f (rw f at e))
  where
    v : Version
    v = version_in sheet

    yes_job : is_good (judged v J) ≡ true → r ≡ accepted v J → Accepted sheet r.job
    yes_job t q = record { contents = J; means = m; good = good-is (judged v J) t; is = ap (λ x. x.job) q }

    no_job : is_good (judged v J) ≡ false → r ≡ refused (judged v J) → Accepted sheet r.job
    no_job f q = let z : is_good (judged v J) ≡ true = ap (λ x. is_good x.judgement) (sym q) ∙ g in never (cc)
accepted-by {r = r} (means-nothing no-meaning e) g = let z : is_good Sheet ≡ true = ap (λ x. is_good x.judgement) (sym e) ∙ g in never (cc)

judgement-is : (v : Version) (J : Contents) → (answer v J).judgement ≡ judged v J
judgement-is v J = ask (is_good (judged v J)) (λ t. rw t (sym (good-is (judged v J) t))) (λ f. rw f)

-- number 1 comes exactly where the sheet means nothing
pub number-one : (sheet : List ℕ) (r : Reading) → Read sheet r → (r.judgement ≡ Sheet) ↔ ((J : Contents) → Means sheet J → ⊥)
number-one sheet r (meaning J m e) =
    let v = version_in sheet in
    ((λ s. absurd (judged_not v J (sym (judgement-is v J) ∙ sym (ap (λ x. x.judgement) e) ∙ s))), (λ no-meaning. absurd (no-meaning J m)))
number-one sheet r (means-nothing no-meaning e) = ((λ s. no-meaning), (λ n. ap (λ x. x.judgement) e))

usable-by : (v : Version) → Searchable v.ranges → (sheet : List ℕ) (J : Contents) → MeansBy v sheet J → judged v J ≡ Good → Usable sheet (job_of v J) J
usable-by v g sheet J m good =
    let S : Shaped v (bytes_by v J) = shaped-back v J (rw m.bytes m.short) m.few-sinks in
    let I = parts_in v (bytes_by v J) S (layout_of v J) (sym (layout_back v J)) in
    rw (← m.bytes) (usable-job v J (no_fault v J good) I g m.few-sinks)

-- an accepted job can be used
pub usable : (sheet : List ℕ) (job : Job) → (A : Accepted sheet job) → Usable sheet job A.contents
usable sheet job A = rw A.is (usable-by (version_in sheet) (searchable _) sheet A.contents A.means A.good)
