-- Laws of the judging: what a reading comes to, a net's number test by test, and the walk along the list.
use Rattle.std.specs.Prelude.{◌≡◌, ◌≢◌, refl, Bool, false, List, ◌∷◌, ℕ, ◌+◌, ◌-◌, ◌*◌, ◌/◌, ◌≤◌, ◌<◌, eqb, ltb, length, drop, take, Option, Some, None, Result, Ok, Err}
use Rattle.std.proofs.Math.Path.{sym, ap}
use Rattle.std.proofs.Common.{◌∙◌, arith, length-drop, drop-drop, take_all, length-take-le}
use Rattle.std.proofs.Math.Bool.{true}
use borrow.Author.Tests.{eqb-true, eqb-false, le-leb, lt-leb, lt-ltb, le-ltb, eq-eqb, ne_eqb}
use Rattle.basics.specs.Tests.{either, either_same, ask, ask_less, never}
use Rattle.room.specs.declared.Room.{Room}
use Rattle.room.specs.Room.{volume}
use Rattle.numbers.specs.Refusals.{done_number, sheet_number, buffer_number}
use Rattle.job_sheet.specs.declared.Version.{Version}
use Rattle.job_sheet.specs.declared.Job.{Job}
use Rattle.job_sheet.specs.declared.Reading.{Reading}
use Rattle.job_sheet.specs.declared.Judgement.TheVariants.{Sheet}
use Rattle.job_sheet.specs.Version.{version_in}
use Rattle.job_sheet.specs.Sheet.{Contents, is_good, number_of, judged, job_of, refused, answer, Read}
use Rattle.job_sheet.specs.Places.{contents_in, shaped, blocks_in}
use Rattle.job_sheet.specs.Accepted.{Accepted}
use Rattle.job_sheet.specs.RecordLaws.{Bytes}
use Rattle.job_sheet.specs.LayoutLaws.{contents-back}
use Rattle.job_sheet.proofs.FaultLaws.{good-is}
use Rattle.job_sheet.proofs.ReadLaws.{shaped-is, read-refused, read-accepted, read-nothing}
use Rattle.job_sheet.proofs.Theorems.{coincide}
use Rattle.blocks.specs.Blocks.{Placement}
use Rattle.ends.specs.declared.Ends.{Ends}
use Rattle.ends.specs.declared.Fault.{Fault}
use Rattle.ends.specs.declared.Unrealized.{Unrealized}
use Rattle.ends.specs.Ends.{sinks_in, fault_of, ends_of, realized_ends}
use Rattle.job_sheet.specs.declared.Judgement.{Judgement}
use Rattle.job_sheet.specs.declared.Judgement.TheVariants as judgement
use Rattle.ends.specs.EndLaws.{fault-late, ends-told, fault-told}
use Rattle.outset.specs.declared.Refusal.{Refusal}
use Rattle.outset.specs.declared.NotSetOut.{NotSetOut}
use Rattle.outset.specs.SetOut.{number_by, detail_by, refusal_number, refusal_detail, told_by}
use Rattle.outset.specs.SetOutLaws.{told-refused, use_of, sinks_in_lem}
use Rattle.job_list.specs.declared.Memory.{Memory}
use Rattle.job_list.specs.declared.Due.{Due}
use Rattle.job_list.specs.declared.Verdict.{Verdict}
use Rattle.job_list.specs.Split.{sheet_long, first_sheet, behind_first, sheets_in, sheets_of}
use Rattle.job_list.specs.SplitLaws.{long-most, long-some, sheets_some, sheets_none}
use Rattle.job_list.specs.Judged.{same_ground, contents_at, net_judgement, memory_good, repeats_in, placed_or_not, due, told_due, refusal_alone, ends_told, ends_due, net_due, all_good, refused_at, judged_from, judged_list}

-- ---- number 6

module _ (M : Memory) (R : Room) (k : ℕ) {cells : ℕ} (e : cells ≡ volume R) where
  pub memory-few : M.cells < cells → false ≡ memory_good M R k
  unfolding memory_good
  memory-few h = rw (lt-leb (volume R) M.cells (omega arith))

  module _ (h : cells ≤ M.cells) where
    pub memory_unplaced : M.places < 1 → false ≡ memory_good M R k
    unfolding memory_good
    memory_unplaced l = rw (le-leb (volume R) M.cells (omega arith), lt-leb 1 M.places l)

    pub memory-lengths : 1 ≤ M.places → ltb k (M.lengths / 16) ≡ memory_good M R k
    unfolding memory_good
    memory-lengths l =
        ask_less k (M.lengths / 16)
        (λ t. rw (le-leb (volume R) M.cells (omega arith), le-leb 1 M.places l, lt-ltb k (M.lengths / 16) t, le-leb (16 * (k + 1)) M.lengths (omega arith)))
        (λ t. rw (le-leb (volume R) M.cells (omega arith), le-leb 1 M.places l, le-ltb k (M.lengths / 16) t, lt-leb (16 * (k + 1)) M.lengths (omega arith)))

-- ---- what a reading comes to, and that these definitions say it in the sheet's words

pub answer-judgement : (v : Version) (J : Contents) → (answer v J).judgement ≡ judged v J
answer-judgement v J = ask (is_good (judged v J)) (λ t. rw t (sym (good-is (judged v J) t))) (λ f. rw f)

module _ (s : List ℕ) (b : Bytes s) where
  pub shaped-read : shaped (version_in s) s ≡ true → Read s (answer (version_in s) (contents_at s))
  shaped-read e =
      let v = version_in s in
      let j = judged v (contents_at s) in
      ask (is_good j)
      (λ t. rw (t, ← good-is j t) (read-accepted v s b (shaped-is v s e) refl j refl t (job_of v (contents_at s)) refl))
      (λ f. rw f (read-refused v s b (shaped-is v s e) refl j refl f (refused j) refl))

  -- the answer of any reading, as a function
  pub reading-is : {r : Reading} → Read s r → r ≡ either (shaped (version_in s) s) (answer (version_in s) (contents_at s)) (refused Sheet)
  reading-is {r} R =
      ask (shaped (version_in s) s)
      (λ t. rw t (coincide s r _ R (shaped-read t)))
      (λ f. rw f (coincide s r _ R (read-nothing (version_in s) s refl f (refused Sheet) refl)))

  module _ (F : Contents) (same : same_ground F (contents_at s) ≡ true) {r : Reading} (R : Read s r) where
    pub judgement-is : r.judgement ≡ net_judgement F s
    unfolding net_judgement
    judgement-is =
        ap (λ x. x.judgement) (reading-is R)
        ∙ ask (shaped (version_in s) s)
        (λ t. rw (t, same) (answer-judgement (version_in s) (contents_at s)))
        (λ f. rw f)

-- what an accepted sheet holds is what it means
pub accepted-contents : {s : List ℕ} {job : Job} (A : Accepted s job) → A.contents ≡ contents_at s
accepted-contents {s} A = sym (contents-back (version_in s) A.contents A.means.limits) ∙ ap (contents_in (version_in s)) A.means.bytes

pub accepted-room : {s : List ℕ} {job : Job} → Accepted s job → job.room ≡ (contents_at s).room
accepted-room A = (use_of A).room-is ∙ ap (λ J. J.room) (accepted-contents A)

-- ---- a net

-- what is told of a number
pub told-of : {d D : Due} → d ≡ D → d.number ≢ done_number → Err d ≡ told_due D
told-of e n = rw (← e, ne_eqb _ _ n)

pub told-by : (d : Due) {x : Due} → Err x ≡ told_due d → (x ≡ d) × (x.number ≢ done_number)
told-by d {x} q =
    ask (eqb d.number done_number)
    (λ t. never (cc (rw t at q)))
    (λ f. let same : x ≡ d = cc (rw f at q) in (same, rw same (eqb-false _ _ f)))

told-none : (d : Due) → Ok tt ≡ told_due d → d.number ≡ done_number
told-none d q = ask (eqb d.number done_number) (λ t. eqb-true _ _ t) (λ f. never (cc (rw f at q)))

number-some : (j : Judgement) → is_good j ≡ false → number_of j ≢ done_number
number-some judgement.Good f e = never (cc)
number-some judgement.Sheet f e = absurd (omega arith)
number-some judgement.Sides f e = absurd (omega arith)
number-some judgement.Config f e = absurd (omega arith)
number-some judgement.Position f e = absurd (omega arith)
number-some judgement.Code f e = absurd (omega arith)

module _ (M : Memory) (F : Contents) (k : ℕ) (s : List ℕ) where
  pub net-elsewhere : same_ground F (contents_at s) ≡ false → {d : Due} → d ≡ due sheet_number 0 → Err d ≡ told_due (net_due M F k s)
  unfolding net_due net_judgement
  net-elsewhere e {d} q = told-of (q ∙ here) (λ z. omega (arith, z, ap (λ x. x.number) q))
    where
      here : due sheet_number 0 ≡ net_due M F k s
      here = rw (e, either_same (shaped (version_in s) s) Sheet)

  module _ (b : Bytes s) (same : same_ground F (contents_at s) ≡ true) {r : Reading} (R : Read s r) where
    pub net-refused : is_good r.judgement ≡ false → (n : ℕ) → n ≡ number_of r.judgement → {d : Due} → d ≡ due n 0 → Err d ≡ told_due (net_due M F k s)
    unfolding net_due
    net-refused g n e {d} q = told-of (q ∙ here) (λ z. number-some r.judgement g (sym e ∙ sym (ap (λ x. x.number) q) ∙ z))
      where
        here : due n 0 ≡ net_due M F k s
        here = let j = judgement-is s b F same R in rw (← j, g, e)

    module _ (g : is_good r.judgement ≡ true) (A : Accepted s r.job) where
      pub net-unlent : memory_good M r.job.room k ≡ false → {d : Due} → d ≡ due buffer_number 0 → Err d ≡ told_due (net_due M F k s)
      unfolding net_due
      net-unlent m {d} q = told-of (q ∙ here) (λ z. omega (arith, z, ap (λ x. x.number) q))
        where
          here : due buffer_number 0 ≡ net_due M F k s
          here = let j = judgement-is s b F same R in rw (← j, g, ← accepted-room A, m)

      pub net-ends : memory_good M r.job.room k ≡ true → {d : Result Unit Due} → d ≡ told_due (ends_due (contents_at s)) → d ≡ told_due (net_due M F k s)
      unfolding net_due
      net-ends m {d} e =
          let j = judgement-is s b F same R in
          let n : memory_good M (contents_at s).room k ≡ true = ap (λ Q. memory_good M Q k) (sym (accepted-room A)) ∙ m in
          rw (← j, g, n) e

-- the ends, as they are told, tell the number
due-none : (J : Contents) {e : Ends} → ends_told J ≡ Ok e → due done_number 0 ≡ ends_due J
unfolding ends_told ends_due
due-none K q = go (repeats_in K.room K.blocks) (fault_of K.room K.source K.sinks) (ends_of K.room K.source K.sinks) q
  where
    go : (repeats : Bool) (f : Option Fault) (E : Ends) {e : Ends} → refusal_alone (told_by (placed_or_not repeats) f E) ≡ Ok e → due done_number 0 ≡ due (number_by (placed_or_not repeats) f) (detail_by (placed_or_not repeats) f)
    go true f E q = never (cc)
    go false None E q = refl
    go false (Some fault) E q = never (cc)

pub due-good : (J : Contents) {e : Ends} → ends_told J ≡ Ok e → Ok tt ≡ told_due (ends_due J)
due-good J q = ap told_due (due-none J q)

refusal-some : (x : Refusal) → refusal_number x ≢ done_number
refusal-some (Refusal.Blocks overlap) e = absurd (omega arith)
refusal-some (Refusal.End fault) e = absurd (omega (arith, (fault-late fault.due).0, e))

-- a refusal alone tells the number that is due, and its detail
alone-refused : (p : Placement) (f : Option Fault) (e : Ends) {x : Refusal} → refusal_alone (told_by p f e) ≡ Err x
    → (refusal_number x ≡ number_by p f) × (refusal_detail x ≡ detail_by p f)
alone-refused p f e {x} q = go (told_by p f e) refl q
  where
    go : (t : Result Ends NotSetOut) → told_by p f e ≡ t → refusal_alone t ≡ Err x → (refusal_number x ≡ number_by p f) × (refusal_detail x ≡ detail_by p f)
    go (Ok ends) r q = never (cc)
    go (Err told) r q =
        let t = told-refused p f e (sym r) in
        let same : x ≡ told.refusal = cc in
        (ap refusal_number same ∙ t.number-is, ap refusal_detail same ∙ t.detail-is)

pub due-refused : (J : Contents) {x : Refusal} → ends_told J ≡ Err x → {n d : ℕ} → n ≡ refusal_number x → d ≡ refusal_detail x → Err (due n d) ≡ told_due (ends_due J)
unfolding ends_told ends_due
due-refused J {x} q {n} {d} a b = told-of here (λ z. refusal-some x (sym a ∙ z))
  where
    here : due n d ≡ ends_due J
    here = let t = alone-refused _ _ _ q in rw (a, b, t.0, t.1)

module _ {s : List ℕ} {job : Job} (A : Accepted s job) where
  here : A.contents ≡ contents_at s
  here = accepted-contents A

  same_repeats : {repeats : Bool} → repeats ≡ repeats_in job.room (blocks_in s job.blocks) → repeats ≡ repeats_in (contents_at s).room (contents_at s).blocks
  same_repeats a = a ∙ (λ i. repeats_in ((use_of A).room-is i) ((use_of A).blocks.are i)) ∙ ap (λ K. repeats_in K.room K.blocks) here

  same_realized : realized_ends job.room job.source (sinks_in job.sinks) ≡ realized_ends (contents_at s).room (contents_at s).source (contents_at s).sinks
  same_realized = (λ i. realized_ends ((use_of A).room-is i) ((use_of A).source_is i) (sinks_in_lem A i)) ∙ ap (λ K. realized_ends K.room K.source K.sinks) here

  pub accepted-fault : fault_of job.room job.source (sinks_in job.sinks) ≡ fault_of (contents_at s).room (contents_at s).source (contents_at s).sinks
  accepted-fault = (λ i. fault_of ((use_of A).room-is i) ((use_of A).source_is i) (sinks_in_lem A i)) ∙ ap (λ K. fault_of K.room K.source K.sinks) here

  pub told-repeats : {repeats : Bool} → repeats ≡ repeats_in job.room (blocks_in s job.blocks) → repeats ≡ true → Err (Refusal.Blocks (record { cell = 0 })) ≡ ends_told (contents_at s)
  unfolding ends_told
  told-repeats a t = let r : repeats_in (contents_at s).room (contents_at s).blocks ≡ true = sym (same_repeats a) ∙ t in rw r

  module _ {repeats : Bool} (a : repeats ≡ repeats_in job.room (blocks_in s job.blocks)) (t : repeats ≡ false)
      {r : Result Ends Unrealized} (is : r ≡ realized_ends job.room job.source (sinks_in job.sinks)) where
    apart_here : repeats_in (contents_at s).room (contents_at s).blocks ≡ false
    apart_here = sym (same_repeats a) ∙ t

    pub told-good : {e : Ends} → r ≡ Ok e → Ok e ≡ ends_told (contents_at s)
    unfolding ends_told
    told-good q = let z = ends-told _ _ _ (is ∙ same_realized) q in rw (apart_here, z.0, z.1)

    pub told-end : {x : Unrealized} → r ≡ Err x → Err (Refusal.End x.fault) ≡ ends_told (contents_at s)
    unfolding ends_told
    told-end q = rw (apart_here, (fault-told _ _ _ (is ∙ same_realized) q).0)

-- ---- the walk along the list

-- the nets so far are good: what is left from here is judged as all behind the first are
pub record JudgedSoFar (M : Memory) (list : List ℕ) (net place : ℕ) : Type 0 where
  pub within : place ≤ length list
  pub few : 0 < length list → net ≤ place
  pub left : judged_from M (contents_at (first_sheet list)) net (sheets_in (drop place list)) ≡ judged_from M (contents_at (first_sheet list)) 1 (sheets_in (behind_first list))

-- the first sheet, as it is handed on
pub first-whole : (list : List ℕ) {first : ℕ} → first ≡ sheet_long list → first ≡ length (take first list)
first-whole list {first} e = sym (length-take-le first list (omega (arith, long-most list)))

-- all that is left, as it is handed on
pub ends_at : (list : List ℕ) (place : ℕ) → place ≤ length list → {size : ℕ} → size ≡ sheet_long (take (length list - place) (drop place list)) → place + size ≡ place + sheet_long (drop place list)
ends_at list place h e =
    let few : length (drop place list) ≤ length list - place = omega (arith, length-drop place list) in
    ap (λ n. place + n) (e ∙ ap sheet_long (take_all (length list - place) (drop place list) few))

module _ (M : Memory) (list : List ℕ) where
  pub judging_first : (first : ℕ) → first ≡ sheet_long list → JudgedSoFar M list 1 first
  judging_first first e = record {
    within = omega (arith, long-most list);
    few = λ h. omega (arith, long-some list h);
    left = rw e;
  }

  module _ {net place : ℕ} (S : JudgedSoFar M list net place) where
    pub judging_end : length list ≤ place → all_good ≡ judged_from M (contents_at (first_sheet list)) 1 (sheets_in (behind_first list))
    unfolding judged_from
    judging_end h = sym (ap (judged_from M (contents_at (first_sheet list)) net) (sheets_none (drop place list) (rw (length-drop place list) (omega arith)))) ∙ S.left

    module _ (h : place < length list) {end : ℕ} (e : end ≡ place + sheet_long (drop place list)) where
      left-some : 0 < length (drop place list)
      left-some = rw (length-drop place list) (omega arith)

      size_is : end - place ≡ sheet_long (drop place list)
      size_is = omega arith

      pub end-within : end ≤ length list
      end-within = omega (arith, long-most (drop place list), length-drop place list)

      pub end-behind : place < end
      end-behind = omega (arith, long-some (drop place list) left-some)

      -- the sheet here, as it is handed on
      pub sheet-here : take (end - place) (drop place list) ≡ first_sheet (drop place list)
      sheet-here = ap (λ n. take n (drop place list)) size_is

      behind-here : behind_first (drop place list) ≡ drop end list
      behind-here = drop-drop (sheet_long (drop place list)) place list ∙ ap (λ n. drop n list) (sym e)

      module _ {first : ℕ} (f : first ≡ sheet_long list) {a : Result Unit Due}
          (is : a ≡ told_due (net_due M (contents_at (take first list)) net (take (end - place) (drop place list)))) where
        abbrev due_here : Due
        due_here = net_due M (contents_at (take first list)) net (take (end - place) (drop place list))

        step : judged_from M (contents_at (first_sheet list)) net (sheets_in (drop place list))
            ≡ either (eqb due_here.number done_number) (judged_from M (contents_at (first_sheet list)) (net + 1) (sheets_in (drop end list))) (refused_at net due_here)
        unfolding judged_from
        step =
            let g : due_here ≡ net_due M (contents_at (first_sheet list)) net (first_sheet (drop place list)) = λ i. net_due M (contents_at (take (f i) list)) net (sheet-here i) in
            ap (judged_from M (contents_at (first_sheet list)) net) (sheets_some (drop place list) left-some ∙ ap (λ l. first_sheet (drop place list) ∷ sheets_in l) behind-here)
            ∙ rw (← g)

        pub judging_refused : {d : Due} → a ≡ Err d → {r : Verdict} → r ≡ refused_at net d → r ≡ judged_from M (contents_at (first_sheet list)) 1 (sheets_in (behind_first list))
        judging_refused {d} p q =
            let t = told-by due_here (sym p ∙ is) in
            let n : due_here.number ≢ done_number = λ z. t.1 (ap (λ x. x.number) t.0 ∙ z) in
            q ∙ ap (refused_at net) t.0 ∙ sym (step ∙ rw (ne_eqb _ _ n)) ∙ S.left

        pub judging_next : a ≡ Ok tt → JudgedSoFar M list (net + 1) end
        judging_next p = record {
          within = end-within;
          few = λ some. omega (arith, S.few some, end-behind);
          left = let n = told-none due_here (sym p ∙ is) in sym (step ∙ rw (eq-eqb _ _ n)) ∙ S.left;
        }

  module _ {first : ℕ} (f : first ≡ sheet_long list) {a : Result Unit Due} (is : a ≡ told_due (net_due M (contents_at (take first list)) 0 (take first list))) where
    abbrev first_due : Due
    first_due = net_due M (contents_at (take first list)) 0 (take first list)

    first_step : judged_list M list ≡ either (eqb first_due.number done_number) (judged_from M (contents_at (first_sheet list)) 1 (sheets_in (behind_first list))) (refused_at 0 first_due)
    unfolding judged_list judged_from sheets_of
    first_step =
        let g : first_due ≡ net_due M (contents_at (first_sheet list)) 0 (first_sheet list) = λ i. net_due M (contents_at (take (f i) list)) 0 (take (f i) list) in
        rw (← g)

    pub first-refused : {d : Due} → a ≡ Err d → {r : Verdict} → r ≡ refused_at 0 d → r ≡ judged_list M list
    first-refused {d} p q =
        let t = told-by first_due (sym p ∙ is) in
        let n : first_due.number ≢ done_number = λ z. t.1 (ap (λ x. x.number) t.0 ∙ z) in
        q ∙ ap (refused_at 0) t.0 ∙ sym (first_step ∙ rw (ne_eqb _ _ n))

    pub first-passed : a ≡ Ok tt → {r : Verdict} → r ≡ judged_from M (contents_at (first_sheet list)) 1 (sheets_in (behind_first list)) → r ≡ judged_list M list
    first-passed p q = let n = told-none first_due (sym p ∙ is) in q ∙ sym (first_step ∙ rw (eq-eqb _ _ n))
