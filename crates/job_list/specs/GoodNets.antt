-- What is known of a list for which no number is due: each of its sheets is accepted, has the first one's room, blocks with cells of their own, and good ends.
use Rattle.std.proofs.Math.Path.{◌≡◌, refl, sym, ap}
use Rattle.std.proofs.Common.{◌∙◌, arith}
use Rattle.std.specs.Prelude.{Bool, false, ℕ, ◌+◌, ◌*◌, ◌≤◌, leb, Option, Some, None, Result, Ok}
use Rattle.std.proofs.Math.Bool.{true}
use mathlib.Core.List.{List, [], ◌∷◌}
use Rattle.std.proofs.Math.Dec.{eqb}
use borrow.Author.Tests.{eqb-true, leb-true}
use Rattle.numbers.specs.Refusals.{done_number}
use Rattle.basics.specs.Tests.{ask, never, and_left, and_right}
use Rattle.room.specs.Room.{volume}
use Rattle.job_sheet.specs.declared.Judgement.{Judgement}
use Rattle.job_sheet.specs.declared.Judgement.TheVariants.{Good, Sheet, Sides, Config, Position, Code}
use Rattle.job_sheet.specs.declared.Reading.{Reading}
use Rattle.job_sheet.specs.Version.{version_in}
use Rattle.job_sheet.specs.Sheet.{Contents, max_sinks, is_good, number_of, Read}
use Rattle.job_sheet.specs.Places.{shaped}
use Rattle.job_sheet.specs.Accepted.{Accepted}
use Rattle.job_sheet.specs.RecordLaws.{Bytes}
use Rattle.job_sheet.proofs.Theorems.{accepted-by}
use Rattle.ends.specs.declared.Fault.{Fault}
use Rattle.ends.specs.declared.Unrealized.{Unrealized}
use Rattle.ends.specs.Ends.{sinks_in, fault_of, ends_of, realized_ends}
use Rattle.outset.specs.SetOut.{number_by}
use Rattle.ends.specs.declared.Ends.{Ends}
use Rattle.ends.specs.EndLaws.{fault-late, ends_realized, ends-told}
use Rattle.job_sheet.specs.declared.Job.{Job}
use Rattle.job_list.specs.declared.Memory.{Memory}
use Rattle.job_list.specs.Split.{first_sheet, sheets_of}
use Rattle.job_list.specs.Judged.{same_sides, same_ground, contents_at, net_judgement, memory_good, repeats_in, placed_or_not, ends_due, net_due, judged_from, judged_list}
use Rattle.job_list.specs.Grounds.{sides-same, blocks-same}
use Rattle.job_list.specs.JudgeLaws.{accepted-fault, judgement-is}

-- net k, for which no number is due
pub record GoodNet (M : Memory) (F : Contents) (k : ℕ) (sheet : List ℕ) : Type 0 where
  pub judgement : net_judgement F sheet ≡ Good
  pub memory : memory_good M (contents_at sheet).room k ≡ true
  pub apart : repeats_in (contents_at sheet).room (contents_at sheet).blocks ≡ false
  pub ends : fault_of (contents_at sheet).room (contents_at sheet).source (contents_at sheet).sinks ≡ None

-- the nets from the k-th on
abbrev pub GoodFrom : Memory → Contents → ℕ → List (List ℕ) → Type 0
GoodFrom M F k [] = Unit
GoodFrom M F k (sheet ∷ sheets) = GoodNet M F k sheet × GoodFrom M F (k + 1) sheets

number-good : (j : Judgement) → number_of j ≡ done_number → j ≡ Good
number-good Good e = refl
number-good Sheet e = absurd (omega arith)
number-good Sides e = absurd (omega arith)
number-good Config e = absurd (omega arith)
number-good Position e = absurd (omega arith)
number-good Code e = absurd (omega arith)

ends-good : (repeats : Bool) (f : Option Fault) → number_by (placed_or_not repeats) f ≡ done_number → (repeats ≡ false) × (f ≡ None)
ends-good true f e = absurd (omega arith)
ends-good false None e = (refl, refl)
ends-good false (Some fault) e = absurd (omega (arith, (fault-late fault.due).0, e))

module _ (M : Memory) (F : Contents) where
  pub good-net : (k : ℕ) (sheet : List ℕ) → (net_due M F k sheet).number ≡ done_number → GoodNet M F k sheet
  unfolding net_due ends_due
  good-net k sheet e =
      ask (is_good (net_judgement F sheet))
      (λ t. ask (memory_good M (contents_at sheet).room k)
      (λ m. let g = ends-good (repeats_in (contents_at sheet).room (contents_at sheet).blocks) (fault_of (contents_at sheet).room (contents_at sheet).source (contents_at sheet).sinks) (rw (t, m) at e) in
      record { judgement = is-good (net_judgement F sheet) t; memory = m; apart = g.0; ends = g.1 })
      (λ n. let z : ◌≡◌ {A = ℕ} 6 0 = rw (t, n) at e in absurd (omega arith)))
      (λ f. let z : number_of (net_judgement F sheet) ≡ done_number = rw f at e in let g : is_good (net_judgement F sheet) ≡ true = ap is_good (number-good (net_judgement F sheet) z) in never (cc))
    where
      is-good : (j : Judgement) → is_good j ≡ true → j ≡ Good
      is-good Good t = refl
      is-good Sheet t = never (cc)
      is-good Sides t = never (cc)
      is-good Config t = never (cc)
      is-good Position t = never (cc)
      is-good Code t = never (cc)

  pub good-from : (k : ℕ) (sheets : List (List ℕ)) → (judged_from M F k sheets).number ≡ done_number → GoodFrom M F k sheets
  unfolding judged_from
  good-from k [] e = tt
  good-from k (sheet ∷ sheets) e =
      ask (eqb (net_due M F k sheet).number done_number)
      (λ t. (good-net k sheet (eqb-true _ _ t), good-from (k + 1) sheets (rw t at e)))
      (λ f. let z : (net_due M F k sheet).number ≡ done_number = rw f at e in let t : eqb (net_due M F k sheet).number done_number ≡ true = ap (λ n. eqb n done_number) z in never (cc))

-- a list for which no number is due: all of its nets are good
pub good-list : (M : Memory) (list : List ℕ) → (judged_list M list).number ≡ done_number → GoodFrom M (contents_at (first_sheet list)) 0 (sheets_of list)
unfolding judged_list
good-list M list e = good-from M (contents_at (first_sheet list)) 0 (sheets_of list) e

-- what is known of one of them
module _ {M : Memory} {F : Contents} {k : ℕ} {sheet : List ℕ} (G : GoodNet M F k sheet) where
  same-ground : same_ground F (contents_at sheet) ≡ true
  unfolding net_judgement
  same-ground =
      ask (shaped (version_in sheet) sheet)
      (λ t. ask (same_ground F (contents_at sheet)) (λ s. s) (λ n. let z : Sheet ≡ Good = rw (t, n) at G.judgement in never (cc)))
      (λ f. let z : Sheet ≡ Good = rw f at G.judgement in never (cc))

  pub good-room-is : (contents_at sheet).room ≡ F.room
  unfolding same_ground
  good-room-is = sym (sides-same F.room (contents_at sheet).room (and_left _ _ same-ground))

  pub good-blocks-are : (contents_at sheet).blocks ≡ F.blocks
  unfolding same_ground
  good-blocks-are = sym (blocks-same F.blocks (contents_at sheet).blocks (and_right (same_sides F.room (contents_at sheet).room) _ same-ground))

  pub good-reading : Bytes sheet → {r : Reading} → Read sheet r → Accepted sheet r.job
  good-reading b R = accepted-by R (ap is_good (judgement-is sheet b F same-ground R ∙ G.judgement))

  pub memory-cells : volume (contents_at sheet).room ≤ M.cells
  unfolding memory_good
  memory-cells = leb-true _ _ (and_left _ _ G.memory)

  pub memory-places : 1 ≤ M.places
  unfolding memory_good
  memory-places = leb-true _ _ (and_left _ _ (and_right (leb (volume (contents_at sheet).room) M.cells) _ G.memory))

  pub memory-lengths-enough : max_sinks * (k + 1) ≤ M.lengths
  unfolding memory_good
  memory-lengths-enough = leb-true _ _ (and_right (leb 1 M.places) _ (and_right (leb (volume (contents_at sheet).room) M.cells) _ G.memory))

  -- the ends of its job are good, so they are what `realize_ends` gives
  module _ {job : Job} (A : Accepted sheet job) where
    pub good-fault : fault_of job.room job.source (sinks_in job.sinks) ≡ None
    good-fault = accepted-fault A ∙ G.ends

    pub good-ends-told : {r : Result Ends Unrealized} → r ≡ realized_ends job.room job.source (sinks_in job.sinks) → r ≡ Ok (ends_of job.room job.source (sinks_in job.sinks))
    good-ends-told is = ends_realized job.room job.source (sinks_in job.sinks) good-fault is

    pub good-ends-are : {r : Result Ends Unrealized} → r ≡ realized_ends job.room job.source (sinks_in job.sinks) → {e : Ends} → r ≡ Ok e → e ≡ ends_of job.room job.source (sinks_in job.sinks)
    good-ends-are is q = (ends-told job.room job.source (sinks_in job.sinks) is q).1
