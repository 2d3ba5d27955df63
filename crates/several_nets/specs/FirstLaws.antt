-- Laws of a list whose verdict touches lent memory: its first sheet is good, and what is lent suffices; and of the least of some numbers.
use Rattle.std.specs.Prelude.{◌≡◌, refl, List, [], ◌∷◌, ℕ, zero, suc, ◌+◌, ◌≤◌, ◌<◌, eqb, ltb, leb, length, get_or, take, drop, min}
use Rattle.std.proofs.Common.{sym, ap, subst, ◌∙◌, arith, get_or-take, add-one, eqb-true, ltb-true, ltb-false, lt-ltb, le-ltb, leb-true}
use Rattle.std.proofs.Math.Bool.{true, false}
use Rattle.std.proofs.Math.Nat.{min-eq_left, min-eq_right}
use Rattle.std.proofs.Math.ListN.{get_or-eq_default}
use Rattle.numbers.specs.Refusals.{done_number}
use Rattle.basics.specs.Tests.{ask, ask_less, never, and_left, and_right}
use Rattle.basics.specs.Zeros.{cleared-to}
use Rattle.lent.specs.Lent.{touches}
use Rattle.room.specs.Room.{Good, volume}
use Rattle.job_sheet.specs.declared.Job.{Job}
use Rattle.job_sheet.specs.declared.Judgement.{Judgement}
use Rattle.job_sheet.specs.declared.Judgement.TheVariants as judgement
use Rattle.job_sheet.specs.declared.Reading.{Reading}
use Rattle.job_sheet.specs.Version.{version_in}
use Rattle.job_sheet.specs.Sheet.{Contents, is_good, number_of, Read}
use Rattle.job_sheet.specs.Places.{shaped}
use Rattle.job_sheet.specs.Accepted.{Accepted}
use Rattle.job_sheet.specs.RecordLaws.{Bytes}
use Rattle.job_sheet.proofs.Theorems.{accepted-by}
use Rattle.job_list.specs.declared.Memory.{Memory}
use Rattle.job_list.specs.declared.Verdict.{Verdict}
use Rattle.job_list.specs.Split.{first_sheet, sheets_of}
use Rattle.job_list.specs.Judged.{same_ground, contents_at, net_judgement, memory_good, net_due, judged_from, judged_list}
use Rattle.blocks.specs.Blocks.{Placement}
use Rattle.outset.specs.SetOutLaws.{good-room}
use Rattle.job_list.specs.JudgeLaws.{judgement-is, accepted-room}
use Rattle.job_list.specs.GoodNets.{good-net}
use Rattle.laid_nets.specs.Layings.{RoomAsked, RoomSet}
use Rattle.list_routing.specs.ListLent.{ListLent}
use Rattle.list_routing.specs.Walking.{room_of}
use Rattle.several_nets.specs.Answers.{lesser, least_of, memory_of}
use Rattle.several_nets.specs.Entry.{FirstGood, FirstAsked, FirstSet, LentAsked}

-- ---- the first sheet

untouched : (j : Judgement) → is_good j ≡ false → touches (number_of j) ≡ false
untouched judgement.Good e = never (cc)
untouched judgement.Sheet e = refl
untouched judgement.Sides e = refl
untouched judgement.Config e = refl
untouched judgement.Position e = refl
untouched judgement.Code e = refl

is-good : (j : Judgement) → is_good j ≡ true → j ≡ judgement.Good
is-good judgement.Good e = refl
is-good judgement.Sheet e = never (cc)
is-good judgement.Sides e = never (cc)
is-good judgement.Config e = never (cc)
is-good judgement.Position e = never (cc)
is-good judgement.Code e = never (cc)

module _ (M : Memory) (F : Contents) (k : ℕ) (sheet : List ℕ) where
  past-net : touches (net_due M F k sheet).number ≡ true → (net_judgement F sheet ≡ judgement.Good) × (memory_good M (contents_at sheet).room k ≡ true)
  unfolding net_due
  past-net e =
      ask (is_good (net_judgement F sheet))
      (λ t. ask (memory_good M (contents_at sheet).room k)
      (λ m. (is-good (net_judgement F sheet) t, m))
      (λ n. let z : false ≡ true = rw (t, n) at e in never (cc)))
      (λ f. let z : touches (number_of (net_judgement F sheet)) ≡ true = rw f at e in let w = untouched (net_judgement F sheet) f in never (cc))

-- a verdict that touches lent memory: none of 1 to 6 is due for the first net
pub past_first : (M : Memory) (list : List ℕ) → touches (judged_list M list).number ≡ true → FirstGood list × (memory_good M (room_of list) 0 ≡ true)
unfolding judged_list judged_from sheets_of
past_first M list e =
    let F = contents_at (first_sheet list) in
    let d = net_due M F 0 (first_sheet list) in
    ask (eqb d.number done_number)
    (λ t. let G = good-net M F 0 (first_sheet list) (eqb-true _ _ t) in (G.judgement, G.memory))
    (λ f. past-net M F 0 (first_sheet list) (rw f at e))

same-ground : (s : List ℕ) → net_judgement (contents_at s) s ≡ judgement.Good → same_ground (contents_at s) (contents_at s) ≡ true
unfolding net_judgement
same-ground s h =
    ask (shaped (version_in s) s)
    (λ t. ask (same_ground (contents_at s) (contents_at s)) (λ y. y) (λ n. let z : judgement.Sheet ≡ judgement.Good = rw (t, n) at h in never (cc)))
    (λ f. let z : judgement.Sheet ≡ judgement.Good = rw f at h in never (cc))

take_short : (n : ℕ) (l : List ℕ) → length (take n l) ≤ n
take_short zero l = omega arith
take_short (suc n) [] = omega arith
take_short (suc n) (x ∷ l) = let h = take_short n l in omega arith

pub bytes_take : (n : ℕ) (l : List ℕ) → Bytes l → Bytes (take n l)
bytes_take n l b i =
    ask_less i n (λ h. rw (get_or-take n l i 0 h) (b i))
    (λ h. let z : get_or (take n l) i 0 ≡ 0 = get_or-eq_default (take n l) 0 {n = i} (omega (arith, take_short n l)) in omega arith)

-- what is read of it is accepted
pub first-accepted : (list : List ℕ) {sheet : List ℕ} → FirstGood list → sheet ≡ first_sheet list → Bytes sheet → {r : Reading} → Read sheet r → Accepted sheet r.job
first-accepted list {sheet} g is b R =
    let here : net_judgement (contents_at sheet) sheet ≡ judgement.Good = (λ i. net_judgement (contents_at (is i)) (is i)) ∙ g in
    accepted-by R (ap is_good (judgement-is sheet b (contents_at sheet) (same-ground sheet here) R ∙ here))

-- its room, and the blocks laid out
pub first-room : (list : List ℕ) {sheet : List ℕ} → sheet ≡ first_sheet list → {job : Job} → Accepted sheet job → volume job.room ≡ volume (room_of list)
first-room list is A = ap volume (accepted-room A ∙ ap (λ s. (contents_at s).room) is)

pub room-asked : {list kinds facings known : List ℕ} → FirstAsked list kinds facings known → {sheet : List ℕ} → sheet ≡ first_sheet list → {job : Job} → Accepted sheet job
    → RoomAsked sheet job kinds facings known
room-asked {list} F is {job} A =
    let n : volume (room_of list) ≡ volume job.room = sym (first-room list is A) in
    record { accepted = A; kinds-clear = cleared-to n F.kinds-clear; facings-clear = cleared-to n F.facings-clear; nodes-clear = cleared-to n F.known-clear }

pub first-set : (list : List ℕ) {sheet : List ℕ} → sheet ≡ first_sheet list → {job : Job} → Accepted sheet job → {r : Placement} {kinds facings : List ℕ} → RoomSet sheet r kinds facings
    → FirstSet list r kinds facings
first-set list is A {r} {kinds} {facings} S = record {
  set = subst (λ s. RoomSet s r kinds facings) is S;
  good = subst Good (accepted-room A ∙ ap (λ s. (contents_at s).room) is) (good-room A);
}

-- ---- the least of some numbers

pub lesser-first : (a b : ℕ) → a < b → a ≡ lesser a b
unfolding lesser
lesser-first a b h = rw (lt-ltb a b h)

pub lesser-second : (a b : ℕ) → b ≤ a → b ≡ lesser a b
unfolding lesser
lesser-second a b h = rw (le-ltb a b h)

pub min_lesser : (a b : ℕ) → min a b ≡ lesser a b
min_lesser a b =
    ask_less a b
    (λ h. min-eq_left (omega arith) ∙ lesser-first a b h)
    (λ h. min-eq_right h ∙ lesser-second a b h)

below_both : (n a b : ℕ) → n ≤ lesser a b → (n ≤ a) × (n ≤ b)
unfolding lesser
below_both n a b h =
    ask (ltb a b)
    (λ t. let m : n ≤ a = rw t at h in (m, omega (arith, ltb-true a b t)))
    (λ f. let m : n ≤ b = rw f at h in (omega (arith, ltb-false a b f), m))

-- the least of those from i on
pub least-last : (l : List ℕ) (i : ℕ) → i + 1 ≡ length l → get_or l i 0 ≡ least_of (drop i l)
unfolding least_of
least-last [] i e = absurd (omega arith)
least-last (a ∷ []) zero e = refl
least-last (a ∷ []) (suc i) e = absurd (omega arith)
least-last (a ∷ (b ∷ rest)) zero e = absurd (omega arith)
least-last (a ∷ (b ∷ rest)) (suc i) e = least-last (b ∷ rest) i (omega arith)

least_suc : (l : List ℕ) (i : ℕ) → suc i < length l → lesser (get_or l i 0) (least_of (drop (suc i) l)) ≡ least_of (drop i l)
unfolding least_of
least_suc [] i h = absurd (omega arith)
least_suc (a ∷ []) i h = absurd (omega arith)
least_suc (a ∷ (b ∷ rest)) zero h = refl
least_suc (a ∷ (b ∷ rest)) (suc i) h = least_suc (b ∷ rest) i (omega arith)

pub least-next : (l : List ℕ) (i : ℕ) → i + 1 < length l → lesser (get_or l i 0) (least_of (drop (i + 1) l)) ≡ least_of (drop i l)
least-next l i h = rw (add-one i) (least_suc l i (omega arith))

least-front : (n a b : ℕ) (rest : List ℕ) → n ≤ least_of (a ∷ (b ∷ rest)) → (n ≤ a) × (n ≤ least_of (b ∷ rest))
unfolding least_of
least-front n a b rest h = below_both n a (least_of (b ∷ rest)) h

least-one : (n a : ℕ) → n ≤ least_of (a ∷ []) → n ≤ a
unfolding least_of
least-one n a h = h

pub lent-asked : (list : List ℕ) (B : ListLent) {verdict : Verdict} → verdict ≡ judged_list (memory_of B) list → touches verdict.number ≡ true → LentAsked list verdict B
unfolding memory_good
lent-asked list B {verdict} is past =
    let P = past_first (memory_of B) list (rw is at past) in
    let n = volume (room_of list) in
    let M = memory_of B in
    let h : n ≤ M.cells = leb-true n M.cells (and_left (leb n M.cells) _ P.1) in
    let h0 = least-front n _ _ _ h in
    let h1 = least-front n _ _ _ h0.1 in
    let h2 = least-front n _ _ _ h1.1 in
    let h3 = least-front n _ _ _ h2.1 in
    let h4 = least-front n _ _ _ h3.1 in
    let h5 = least-front n _ _ _ h4.1 in
    let h6 = least-front n _ _ _ h5.1 in
    let h7 = least-front n _ _ _ h6.1 in
    let h8 = least-front n _ _ _ h7.1 in
    let h9 = least-front n _ _ _ h8.1 in
    let h10 = least-front n _ _ _ h9.1 in
    let h11 = least-front n _ _ _ h10.1 in
    let h12 = least-front n _ _ _ h11.1 in
    let h13 = least-front n _ _ _ h12.1 in
    record {
      judged = record { memory = M; memory-lengths = refl; verdict-is = is; past = past };
      enough = record {
        owners = h0.0;
        repeaters = h1.0;
        kinds = h2.0;
        facings = h3.0;
        occupied = h4.0;
        planned = h5.0;
        before = h6.0;
        room = h7.0;
        blocked = h8.0;
        classes = h9.0;
        joinable = h10.0;
        known = h11.0;
        previous = h12.0;
        path = h13.0;
        best = least-one n _ h13.1;
        queue = leb-true 1 M.places (and_left _ _ (and_right (leb n M.cells) _ P.1));
      };
    }
