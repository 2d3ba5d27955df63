-- Laws of what a net of a list keeps off: how the loops mark it, and that the marks come to `blocked_in_list`.
use Rattle.std.specs.Prelude.{None, ◌≡◌, refl, Bool, true, false, not, ◌&&◌, ◌||◌, ℕ, zero, suc, ◌+◌, ◌-◌, ◌≤◌, ◌<◌, eqb, leb, get_or, take, set}
use Rattle.std.proofs.Math.Path.{sym, ap, subst}
use Rattle.std.proofs.Common.{◌∙◌, length-drop, length-set, drop_of_length-le, length-take-le, get_or-set_same, get_or-set_other, ext_get_or, le-leb, eq-eqb, ne_eqb}
use mathlib.Core.List.{List, [], ◌∷◌}
use native.Mathlib.Omega.{arith}
use Rattle.std.proofs.Math.ListN.{length, drop, get_or-eq_default}
use Rattle.std.proofs.Math.Seq.{drop-drop}
use Rattle.std.proofs.lemmas.Bool.{lt-leb}
use Rattle.basics.specs.Tests.{either, ask, ask_same, ask_less, never}
use Rattle.basics.specs.Lists.{any, drop_next}
use Rattle.room.specs.declared.Room.{Room}
use Rattle.room.specs.Room.{Good, volume}
use Rattle.routing_resources.specs.Marks.{with_byte, marked_by, unmarked_by, is_marked, no_marks, AllCells}
use Rattle.routing_resources.specs.MarkLaws.{with_length_lem, with_at, with_none, with_same, with_or, taken_out, MarkedSoFar, marking-next, marking-last}
use Rattle.routing_resources.specs.Resources.{in_keepout, is_clearance}
use Rattle.job_sheet.specs.declared.Job.{Job}
use Rattle.job_sheet.specs.declared.Judgement.TheVariants.{Good as GoodSheet, Sheet}
use Rattle.job_sheet.specs.declared.Reading.{Reading}
use Rattle.job_sheet.specs.Version.{version_in}
use Rattle.job_sheet.specs.Sheet.{Contents, Read}
use Rattle.job_sheet.specs.Places.{shaped}
use Rattle.job_sheet.proofs.ReadLaws.{shaped-is}
use Rattle.job_sheet.specs.RecordLaws.{Bytes}
use Rattle.job_sheet.specs.Accepted.{Accepted}
use Rattle.ends.specs.declared.Tap.{Tap}
use Rattle.ends.specs.declared.Taps.{Taps}
use Rattle.ends.specs.declared.Ends.{Ends}
use Rattle.ends.specs.Ends.{taps_in, sinks_in, ends_of, fault_of, NetInside}
use Rattle.ends.specs.EndLaws.{net_in}
use Rattle.branches.specs.declared.BranchLengths.{BranchLengths}
use Rattle.branches.specs.Branches.{sum, lengths_in, cut_into, branches_of, Branched}
use Rattle.outset.specs.Outset.{blocked_by, own_cell, blocked_at_outset}
use Rattle.outset.specs.SetOutLaws.{same_ends, use_of, sinks_in_lem, source-within, sinks-within}
use Rattle.job_list.specs.declared.Memory.{Memory}
use Rattle.job_list.specs.Split.{sheet_long, first_sheet, sheets_in, sheets_of}
use Rattle.job_list.specs.SplitLaws.{long-most, long-some, sheets_some, sheets_none}
use Rattle.job_list.specs.Judged.{contents_at, net_judgement}
use Rattle.job_list.specs.JudgeLaws.{accepted-contents}
use Rattle.job_list.specs.GoodNets.{good-fault, GoodNet, GoodFrom, good-room-is, good-reading}
use Rattle.other_nets.specs.Others.{near_cell, branch_clear, net_clear, tap_protects, protects, ends_at, sheet_protects, protected_from, blocked_in_list}

-- ---- one cell, one branch, one tap

module _ (R : Room) (marks : List ℕ) {marks' marks'' : List ℕ} where
  pub near-marked : (cell : ℕ) → marks' ≡ marked_by (eqb cell) marks → marks'' ≡ marked_by (in_keepout R cell) marks' → marks'' ≡ marked_by (λ v. near_cell R v cell) marks
  unfolding near_cell
  near-marked cell m n = n ∙ rw m (with_or 1 (eqb cell) (in_keepout R cell) marks)

  pub branch-marked : (branch : List ℕ) → marks' ≡ marked_by (λ v. any (near_cell R v) branch) marks → marks'' ≡ marked_by (is_clearance R branch) marks'
      → marks'' ≡ marked_by (λ v. branch_clear R v branch) marks
  branch-marked branch m n = n ∙ rw m (with_or 1 (λ v. any (near_cell R v) branch) (is_clearance R branch) marks)

  pub tap-marked : (t : Tap) → marks' ≡ marked_by (λ v. near_cell R v t.terminal) marks → marks'' ≡ marked_by (λ v. near_cell R v t.approach) marks'
      → marks'' ≡ marked_by (λ v. tap_protects R v t) marks
  tap-marked t m n = n ∙ rw m (with_or 1 (λ v. near_cell R v t.terminal) (λ v. near_cell R v t.approach) marks)

  pub ends-marked : (source : ℕ) (taps : Taps) → marks' ≡ marked_by (λ v. near_cell R v source) marks → marks'' ≡ marked_by (λ v. any (tap_protects R v) (taps_in taps)) marks'
      → marks'' ≡ marked_by (protects R source taps) marks
  unfolding protects
  ends-marked source taps m n = n ∙ rw m (with_or 1 (λ v. near_cell R v source) (λ v. any (tap_protects R v) (taps_in taps)) marks)

-- ---- the branches of a net

-- each cell of each of these branches is in the room
abbrev pub AllIn : Room → List (List ℕ) → Type 0
AllIn R [] = Unit
AllIn R (b ∷ bs) = AllCells R b × AllIn R bs

-- a net's branches in a buffer, and marks of the room's cells
pub record NetReady (R : Room) (source : ℕ) (L : BranchLengths) (cells marks : List ℕ) : Type 0 where
  pub good : Good R
  pub source_in : source < volume R
  pub branched : Branched L cells
  pub cells_in : AllIn R (branches_of L cells)
  pub long : length marks ≡ volume R

-- those of the first k branches are marked: with those of the others they make all
pub record MarkingNet (R : Room) (L : BranchLengths) (cells start marks : List ℕ) (from k : ℕ) : Type 0 where
  pub within : k ≤ L.count
  pub fits : from + sum (drop k (lengths_in L)) ≤ length cells
  pub cells_left : AllIn R (cut_into (drop k (lengths_in L)) (drop from cells))
  pub long : length marks ≡ length start
  pub left : marked_by (λ v. any (branch_clear R v) (cut_into (drop k (lengths_in L)) (drop from cells))) marks ≡ marked_by (λ v. any (branch_clear R v) (branches_of L cells)) start

module _ {R : Room} {source : ℕ} {L : BranchLengths} {cells marks₀ : List ℕ} (N : NetReady R source L cells marks₀) where
  pub net-none : (start : List ℕ) → MarkingNet R L cells start start 0 0
  net-none start = record { within = omega arith; fits = omega (arith, N.branched.within); cells_left = N.cells_in; long = refl; left = refl }

  module _ {start marks : List ℕ} {from k : ℕ} (I : MarkingNet R L cells start marks from k) where
    module _ (h : k < length (lengths_in L)) (to : ℕ) (e : to ≡ from + get_or (lengths_in L) k 0) where
      first : drop k (lengths_in L) ≡ (to - from) ∷ drop (k + 1) (lengths_in L)
      first = let size_is : to - from ≡ get_or (lengths_in L) k 0 = omega arith in rw size_is (drop_next (lengths_in L) k 0 h)

      cut : cut_into (drop k (lengths_in L)) (drop from cells) ≡ take (to - from) (drop from cells) ∷ cut_into (drop (k + 1) (lengths_in L)) (drop to cells)
      unfolding cut_into
      cut = let ends : from + (to - from) ≡ to = omega arith in rw (first, drop-drop (to - from) from cells, ends)

      more : sum (drop k (lengths_in L)) ≡ to - from + sum (drop (k + 1) (lengths_in L))
      unfolding sum
      more = rw first

      cells-now : AllIn R (take (to - from) (drop from cells) ∷ cut_into (drop (k + 1) (lengths_in L)) (drop to cells))
      cells-now = rw cut at I.cells_left

      pub branch-ends : to ≤ length cells
      branch-ends = omega (arith, I.fits, more)

      pub branch_in : AllCells R (take (to - from) (drop from cells))
      branch_in = cells-now.0

      pub net-next : {marks' : List ℕ} → marks' ≡ marked_by (λ v. branch_clear R v (take (to - from) (drop from cells))) marks → MarkingNet R L cells start marks' to (k + 1)
      net-next {marks'} m = record {
        within = omega (arith, length-take-le L.count L.each (omega (arith, N.branched.few, N.branched.whole)));
        fits = omega (arith, I.fits, more);
        cells_left = cells-now.1;
        long = ap length m ∙ with_length_lem 1 _ marks ∙ I.long;
        left =
            ap (marked_by _) m
            ∙ with_or 1 (λ v. branch_clear R v (take (to - from) (drop from cells))) (λ v. any (branch_clear R v) (cut_into (drop (k + 1) (lengths_in L)) (drop to cells))) marks
            ∙ with_same 1 _ _ marks (λ v h. ap (any (branch_clear R v)) (sym cut))
            ∙ I.left;
      }

    pub net-all : length (lengths_in L) ≤ k → marks ≡ marked_by (λ v. any (branch_clear R v) (branches_of L cells)) start
    unfolding cut_into
    net-all h =
        sym (with_none 1 _ marks (λ v q. ap (λ l. any (branch_clear R v) (cut_into l (drop from cells))) (drop_of_length-le (lengths_in L) h))) ∙ I.left

  pub net-marked : {marks' marks'' : List ℕ} → marks' ≡ marked_by (λ v. near_cell R v source) marks₀ → marks'' ≡ marked_by (λ v. any (branch_clear R v) (branches_of L cells)) marks'
      → marks'' ≡ marked_by (net_clear R source (branches_of L cells)) marks₀
  unfolding net_clear
  net-marked m n = n ∙ rw m (with_or 1 (λ v. near_cell R v source) (λ v. any (branch_clear R v) (branches_of L cells)) marks₀)

-- ---- the other jobs

-- a sheet of a list for which no number is due, and marks of the room's cells
pub record SheetReady (R : Room) (sheet marks : List ℕ) : Type 0 where
  pub memory : Memory
  pub first : Contents
  pub place : ℕ
  pub net : GoodNet memory first place sheet
  pub room-is : first.room ≡ R
  pub good : Good R
  pub long : length marks ≡ volume R

module _ {R : Room} {sheet marks : List ℕ} (S : SheetReady R sheet marks) where
  pub sheet-accepted : Bytes sheet → {r : Reading} → Read sheet r → Accepted sheet r.job
  sheet-accepted b Q = good-reading S.net b Q

  module _ {job : Job} (A : Accepted sheet job) {e : Ends} (is : e ≡ ends_of job.room job.source (sinks_in job.sinks)) where
    ends-here : e ≡ ends_at sheet
    ends-here =
        is ∙ same_ends (use_of A).room-is (use_of A).source_is (sinks_in_lem A) ∙ ap (λ J. ends_of J.room J.source J.sinks) (accepted-contents A)

    room-here : job.room ≡ R
    room-here = (use_of A).room-is ∙ ap (λ J. J.room) (accepted-contents A) ∙ good-room-is S.net ∙ S.room-is

    fault_here : fault_of job.room job.source (sinks_in job.sinks) ≡ None
    fault_here = good-fault S.net A

    pub ends-inside : NetInside R e.source e.taps
    unfolding ends_of
    ends-inside =
        let N : NetInside job.room e.source e.taps = rw is (net_in job.source (source-within A) (sinks-within A) fault_here) in
        subst (λ Q. NetInside Q e.source e.taps) room-here N

    pub sheet-marked : {own : Bool} → own ≡ false → {marks' : List ℕ} → marks' ≡ marked_by (protects R e.source e.taps) marks → marks' ≡ marked_by (sheet_protects R own sheet) marks
    sheet-marked o m = m ∙ rw (ends-here, o) refl

pub own-unmarked : (R : Room) (sheet marks : List ℕ) {own : Bool} → own ≡ true → marks ≡ marked_by (sheet_protects R own sheet) marks
own-unmarked R sheet marks o = sym (with_none 1 _ marks (λ v h. rw o refl))

-- a list for which no number is due, and marks of the cells of its room
pub record ListReady (R : Room) (list marks : List ℕ) : Type 0 where
  pub memory : Memory
  pub nets : GoodFrom memory (contents_at (first_sheet list)) 0 (sheets_of list)
  pub room-is : (contents_at (first_sheet list)).room ≡ R
  pub good : Good R
  pub long : length marks ≡ volume R

-- other marks, as long
pub list-still : {R : Room} {list marks : List ℕ} → ListReady R list marks → {marks' : List ℕ} → length marks' ≡ volume R → ListReady R list marks'
list-still L e = record { memory = L.memory; nets = L.nets; room-is = L.room-is; good = L.good; long = e }

-- such a list has bytes
pub list-some : {R : Room} {list marks : List ℕ} → ListReady R list marks → 0 < length list
unfolding sheets_of net_judgement
list-some {list = list} L =
    ask_less 0 (length list) (λ h. h)
    (λ h. let S = shaped-is (version_in (first_sheet list)) (first_sheet list) (shaped-here L.nets.0.judgement) in
    absurd (omega (arith, S.rest-long, long-most list, length_take_least (sheet_long list) list)))
  where
    shaped-here : net_judgement (contents_at (first_sheet list)) (first_sheet list) ≡ GoodSheet → shaped (version_in (first_sheet list)) (first_sheet list) ≡ true
    shaped-here g = ask (shaped (version_in (first_sheet list)) (first_sheet list)) (λ t. t) (λ f. let z : Sheet ≡ GoodSheet = rw f at g in never (cc))

    length_take_least : (n : ℕ) (l : List ℕ) → length (take n l) ≤ length l
    length_take_least zero l = omega arith
    length_take_least (suc n) [] = omega arith
    length_take_least (suc n) (x ∷ l) = let h = length_take_least n l in omega arith

-- those of the first k jobs are marked: with those of the others they make all
pub record MarkingJobs (R : Room) (list : List ℕ) (net : ℕ) (start marks : List ℕ) (place k : ℕ) : Type 0 where
  pub memory : Memory
  pub within : place ≤ length list
  pub few : k ≤ place
  pub nets : GoodFrom memory (contents_at (first_sheet list)) k (sheets_in (drop place list))
  pub long : length marks ≡ length start
  pub left : marked_by (protected_from R net k (sheets_in (drop place list))) marks ≡ marked_by (protected_from R net 0 (sheets_of list)) start

module _ {R : Room} {list start : List ℕ} (net : ℕ) (L : ListReady R list start) where
  all_sheets : sheets_of list ≡ sheets_in list
  unfolding sheets_of
  all_sheets = sym (sheets_some list (list-some L))

  pub jobs_none : MarkingJobs R list net start start 0 0
  jobs_none = record {
    memory = L.memory;
    within = omega arith;
    few = omega arith;
    nets = rw all_sheets at L.nets;
    long = refl;
    left = ap (λ l. marked_by (protected_from R net 0 l) start) (sym all_sheets);
  }

  module _ {marks : List ℕ} {place k : ℕ} (I : MarkingJobs R list net start marks place k) where
    pub jobs_all : length list ≤ place → marks ≡ marked_by (protected_from R net 0 (sheets_of list)) start
    unfolding protected_from
    jobs_all h =
        let none : sheets_in (drop place list) ≡ [] = sheets_none (drop place list) (rw (length-drop place list) (omega arith)) in
        sym (with_none 1 _ marks (λ v q. ap (λ l. protected_from R net k l v) none)) ∙ I.left

    module _ (h : place < length list) {end : ℕ} (e : end ≡ place + sheet_long (drop place list)) where
      left-some : 0 < length (drop place list)
      left-some = rw (length-drop place list) (omega arith)

      abbrev here : List ℕ
      here = take (end - place) (drop place list)

      here-is : first_sheet (drop place list) ≡ here
      here-is = let size_is : sheet_long (drop place list) ≡ end - place = omega arith in ap (λ n. take n (drop place list)) size_is

      sheets_are : sheets_in (drop place list) ≡ here ∷ sheets_in (drop end list)
      sheets_are =
          sheets_some (drop place list) left-some
          ∙ (λ i. here-is i ∷ sheets_in (drop-drop (sheet_long (drop place list)) place list i))
          ∙ ap (λ n. here ∷ sheets_in (drop n list)) (sym e)

      nets-now : GoodFrom I.memory (contents_at (first_sheet list)) k (here ∷ sheets_in (drop end list))
      nets-now = rw sheets_are at I.nets

      pub job-ready : SheetReady R here marks
      job-ready = record {
        memory = I.memory;
        first = contents_at (first_sheet list);
        place = k;
        net = nets-now.0;
        room-is = L.room-is;
        good = L.good;
        long = I.long ∙ L.long;
      }

      pub job-end : end ≤ length list
      job-end = omega (arith, long-most (drop place list), length-drop place list)

      pub job-some : place < end
      job-some = omega (arith, long-some (drop place list) left-some)

      pub jobs_next : {marks' : List ℕ} → marks' ≡ marked_by (sheet_protects R (eqb k net) here) marks → MarkingJobs R list net start marks' end (k + 1)
      unfolding protected_from
      jobs_next m = record {
        memory = I.memory;
        within = job-end;
        few = omega (arith, I.few, job-some);
        nets = nets-now.1;
        long = ap length m ∙ with_length_lem 1 _ marks ∙ I.long;
        left =
            ap (marked_by _) m
            ∙ with_or 1 (sheet_protects R (eqb k net) here) (protected_from R net (k + 1) (sheets_in (drop end list))) marks
            ∙ with_same 1 _ _ marks (λ v q. ap (λ l. protected_from R net k l v) (sym sheets_are))
            ∙ I.left;
      }

-- ---- marks added to others

-- the marks from the i-th cell on
abbrev pub marked_from : List ℕ → ℕ → ℕ → Bool
marked_from more i v = leb i v && is_marked more v

module _ (more : List ℕ) {start marks : List ℕ} {i : ℕ} (S : MarkedSoFar 1 (marked_from more) start marks i) where
  entry-by-entry : (p : ℕ → Bool) (l : List ℕ) → length l ≡ length marks → ((v : ℕ) → v < length marks → get_or l v 0 ≡ either (p v) 1 (get_or marks v 0)) → l ≡ with_byte 1 p marks
  entry-by-entry p l e f =
      ext_get_or 0 l (with_byte 1 p marks) (e ∙ sym (with_length_lem 1 p marks)) (λ v h. f v (omega arith) ∙ sym (with_at 1 p marks v (omega arith)))

  one_byte : i < length marks → set marks i (either (is_marked more i) 1 (get_or marks i 0)) ≡ with_byte 1 (λ v. eqb i v && is_marked more v) marks
  one_byte h =
      entry-by-entry (λ v. eqb i v && is_marked more v) (set marks i (either (is_marked more i) 1 (get_or marks i 0))) (length-set marks i _)
      (λ v q. ask_same i v
      (λ e. rw (← e, eq-eqb i i refl, get_or-set_same marks i _ 0 h))
      (λ d. rw (ne_eqb i v d, get_or-set_other marks i v _ 0 (λ e. d (sym e)))))

  split : (v : ℕ) → marked_from more i v ≡ (eqb i v && is_marked more v) || marked_from more (i + 1) v
  split v =
      ask_same i v
      (λ e. rw (← e, eq-eqb i i refl, le-leb i i (omega arith), lt-leb (i + 1) i (omega arith)) (sym (or_false (is_marked more i))))
      (λ d. ask_less i v
      (λ l. rw (ne_eqb i v d, le-leb i v (omega arith), le-leb (i + 1) v (omega arith)))
      (λ l. rw (ne_eqb i v d, lt-leb i v (omega (arith, d)), lt-leb (i + 1) v (omega (arith, d)))))
    where
      or_false : (b : Bool) → b || false ≡ b
      or_false true = refl
      or_false false = refl

  pub adding-one : i < length marks → {byte : ℕ} → byte ≡ either (eqb (get_or more i 0) 1) 1 (get_or marks i 0) → MarkedSoFar 1 (marked_from more) start (set marks i byte) (i + 1)
  adding-one h e = marking-next S (λ v. eqb i v && is_marked more v) (rw e (one_byte h)) split

  pub adding-end : length more ≤ i → marks ≡ marked_by (is_marked more) start
  adding-end h =
      marking-last S none ∙ with_same 1 _ _ start (λ v q. rw (le-leb 0 v (omega arith)))
    where
      none : (v : ℕ) → marked_from more i v ≡ false
      none v =
          ask_less v i
          (λ l. rw (lt-leb i v l))
          (λ l. let z : get_or more v 0 ≡ 0 = get_or-eq_default more 0 {n = v} (omega arith) in rw (z, le-leb i v l))

-- ---- all of it

-- a list for which no number is due, a net of it, and marks of the nets before
pub record OthersReady (R : Room) (list : List ℕ) (source : ℕ) (taps : Taps) (before blocked : List ℕ) : Type 0 where
  pub ready : ListReady R list blocked
  pub net : NetInside R source taps
  pub before-long : length before ≡ volume R

-- added, and the net's own ends taken out
pub record OthersBlocked (R : Room) (list : List ℕ) (net source : ℕ) (taps : Taps) (before blocked blocked' : List ℕ) : Type 0 where
  pub is : blocked' ≡ unmarked_by (own_cell R source taps) (marked_by (protected_from R net 0 (sheets_of list)) (marked_by (is_marked before) blocked))

pub others-blocked : {R : Room} {list : List ℕ} {net source : ℕ} {taps : Taps} {before m₀ m₁ m₂ m₃ : List ℕ} → m₁ ≡ marked_by (is_marked before) m₀
    → m₂ ≡ marked_by (protected_from R net 0 (sheets_of list)) m₁ → m₃ ≡ unmarked_by (own_cell R source taps) m₂ → OthersBlocked R list net source taps before m₀ m₃
others-blocked e f g = record { is = rw (← e, ← f) g }

own_once : (b t o own : Bool) → (((b && not own) || t) || o) && not own ≡ (b || (t || o)) && not own
own_once true true o true = refl
own_once true true o false = refl
own_once true false true true = refl
own_once true false true false = refl
own_once true false false true = refl
own_once true false false false = refl
own_once false true o own = refl
own_once false false o own = refl

-- these are the marks of what is blocked for the net, where the nets before have these cells marked
pub blocked_in_list_lem : {R : Room} {list : List ℕ} {net source : ℕ} {taps : Taps} {before blocked blocked' : List ℕ} → OthersBlocked R list net source taps before blocked blocked'
    → (kinds nodes : List ℕ) (J : Contents) → J.room ≡ R → blocked ≡ blocked_at_outset kinds nodes J source taps
    → blocked' ≡ blocked_in_list kinds nodes J source taps (λ v. is_marked before v || protected_from J.room net 0 (sheets_of list) v)
unfolding blocked_at_outset blocked_in_list
blocked_in_list_lem {R} {list} {net} {source} {taps} {before} {blocked} {blocked'} B kinds nodes J e f =
    let n = volume J.room in
    let own = own_cell J.room source taps in
    let o = protected_from J.room net 0 (sheets_of list) in
    let p : ℕ → Bool = λ v. blocked_by kinds nodes J v && not (own v) in
    let is : blocked' ≡ unmarked_by own (marked_by o (marked_by (is_marked before) blocked)) = rw (← e) at B.is in
    is
    ∙ ap (λ m. unmarked_by own (marked_by o (marked_by (is_marked before) m))) f
    ∙ ap (λ m. unmarked_by own (marked_by o m)) (with_or 1 p (is_marked before) (no_marks n))
    ∙ ap (unmarked_by own) (with_or 1 (λ v. p v || is_marked before v) o (no_marks n))
    ∙ taken_out (λ v. (p v || is_marked before v) || o v) own n
    ∙ with_same 1 _ _ (no_marks n) (λ v h. own_once (blocked_by kinds nodes J v) (is_marked before v) (o v) (own v))
