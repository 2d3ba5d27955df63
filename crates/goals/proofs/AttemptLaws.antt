-- Laws of attempts: what one comes to by cases, and that a conflict blocked for those after it, and not blocked any more behind them, leaves
-- marks and class bytes as they were.
use Rattle.std.specs.Prelude.{◌≡◌, refl, ◌≢◌, Bool, ◌||◌, List, eqb, length, get_or, take, Option, Some, None, Ok, Err}
use Rattle.std.proofs.Common.{sym, ◌∙◌, ext_get_or, eqb-true}
use Rattle.std.proofs.Math.Path.{ap}
use Rattle.std.proofs.Math.Bool.{true, false}
use Prim.Native.Nat.{ℕ, suc, ◌-◌, ◌<◌}
use native.Mathlib.Omega.{arith}
use Rattle.std.proofs.lemmas.Bool.{eqb-false}
use Rattle.basics.specs.Tests.{ask, never}
use Rattle.room.specs.declared.Room.{Room}
use Rattle.room.specs.Room.{Good, volume}
use Rattle.room_search.specs.Routing.{an_end}
use Rattle.room_search.specs.TriedMoves.{places_of}
use Rattle.routing_resources.specs.Marks.{is_marked, with_byte, marked_by, unmarked_by, AllCells, Marks}
use Rattle.routing_resources.specs.MarkLaws.{with_length_lem, with_at, marks_with}
use Rattle.geometry.specs.Geometry.{conflict_of}
use Rattle.ground.specs.declared.Mode.{Mode}
use Rattle.ground.specs.declared.Ground.{Ground}
use Rattle.blocked_world.specs.BlockedWorld.{Says, WorldFits, refreshed}
use Rattle.blocked_world.specs.SeenLaws.{says-one}
use Rattle.blocked_world.specs.RefreshLaws.{mark-put, refreshed-says}
use Rattle.goals.specs.declared.Found.{Found}
use Rattle.goals.specs.declared.QueueFull.{QueueFull}
use Rattle.goals.specs.declared.Unended.TheVariants.{Conflict, Full}
use Rattle.goals.specs.Goals.{Site, Trial, found, searched_for, at_conflict, after_search, attempt_then, attempts, ends_goal, site_task}
use Rattle.goals.specs.Trials.{Tried, Tells, site_of, Attemptable, Repeats, Attempted}
use Rattle.goals.specs.PathLaws.{found-by, found-cells, conflict_in}
use Rattle.room_search.specs.Takings.{Searchable}
use Rattle.goals.specs.SearchForLaws.{tells-failed}

-- ---- what an attempt asks

module _ {S : Site} {blocked classes known previous path : List ℕ} {start goal : ℕ} (A : Attemptable S blocked classes known previous path start goal) where
  pub able-fits : WorldFits S.room S.kinds blocked
  able-fits = record { good = A.grounds.good; kinds-long = A.grounds.kinds-long; blocked-long = A.grounds.blocked-long }

-- ---- what one attempt comes to

module _ (S : Site) (blocked : List ℕ) (start goal : ℕ) where
  abbrev search_now : Trial
  search_now = searched_for (site_task S blocked start goal)

  -- there is no route
  pub ended_search : {cells : List ℕ} → Tells search_now (Ok None) cells → Attempted S blocked start goal cells (Ok None)
  unfolding after_search
  ended_search {cells} t = record { comes = λ again. rw (← t.is) (tells-failed cells) }

  -- the queue was full
  pub ended_full : {cells : List ℕ} (x : QueueFull) → Tells search_now (Err x) cells → Attempted S blocked start goal cells (Err (Full x))
  unfolding after_search
  ended_full x t = record { comes = λ again. rw (← t.is) (record { is = refl; fits = omega arith }) }

  module _ {f : Found} {cells : List ℕ} (t : Tells search_now (Ok (Some f)) cells) (conflict : Option ℕ)
      (e : conflict ≡ conflict_of S.room S.kinds S.joinable (take f.length cells)) where
    at_conflict_lem : (again : List ℕ → Trial) → attempt_then S blocked start goal again ≡ at_conflict blocked start goal again (found (take f.length cells) f.cost.0) conflict
    unfolding after_search
    at_conflict_lem again = rw (← t.is, e)

    pub ended-kept : conflict ≡ None → Attempted S blocked start goal cells (Ok (Some f))
    unfolding at_conflict
    ended-kept o = record { comes = λ again. rw (at_conflict_lem again, o) (record { is = refl; fits = t.fits }) }

    module _ (v : ℕ) (i : conflict ≡ Some v) where
      pub ended-blocked : ends_goal blocked start goal v ≡ true → Attempted S blocked start goal cells (Ok None)
      unfolding at_conflict
      ended-blocked b = record { comes = λ again. rw (at_conflict_lem again, i, b) (tells-failed cells) }

      pub repeated : v < volume S.room → ends_goal blocked start goal v ≡ false → Attempted S blocked start goal cells (Err (Conflict v))
      unfolding at_conflict
      repeated h b = record { comes = record { inside = h; free = free (an_end start goal v) (is_marked blocked v) b; is = λ again. rw (at_conflict_lem again, i, b) } }
        where
          free : (x y : Bool) → x || y ≡ false → y ≡ false
          free true y q = never (cc)
          free false y q = q

  -- the path's cells, and its conflict, are in the room
  module _ (start_in : start < volume S.room) (goal_in : goal < volume S.room) {f : Found} {cells : List ℕ} (t : Tells search_now (Ok (Some f)) cells) where
    pub path_in : AllCells S.room (take f.length cells)
    path_in = found-cells start_in goal_in (found-by _ (take f.length cells) f.cost.0 (sym t.is))

    pub conflict_inside : Good S.room → (v : ℕ) → conflict_of S.room S.kinds S.joinable (take f.length cells) ≡ Some v → v < volume S.room
    conflict_inside good v e = conflict_in S.room good S.kinds S.joinable (take f.length cells) path_in v e

-- ---- blocked marks

-- a mark where there was none, taken away
put_back : (marks : List ℕ) (v : ℕ) → Marks marks → is_marked marks v ≡ false → unmarked_by (eqb v) (marked_by (eqb v) marks) ≡ marks
put_back marks v small free = ext_get_or 0 _ marks (with_length_lem 0 (eqb v) (marked_by (eqb v) marks) ∙ with_length_lem 1 (eqb v) marks) same
  where
    same : (u : ℕ) → u < length (unmarked_by (eqb v) (marked_by (eqb v) marks)) → get_or (unmarked_by (eqb v) (marked_by (eqb v) marks)) u 0 ≡ get_or marks u 0
    same u h =
        let l : u < length marks = rw (with_length_lem 0 (eqb v) (marked_by (eqb v) marks), with_length_lem 1 (eqb v) marks) at h in
        rw (with_at 0 (eqb v) (marked_by (eqb v) marks) u (rw (with_length_lem 1 (eqb v) marks) l), with_at 1 (eqb v) marks u l)
        (ask (eqb v u) (λ t. rw t (here (eqb-true v u t) l)) (λ f. rw f))
      where
        here : v ≡ u → u < length marks → 0 ≡ get_or marks u 0
        here e l = rw (← e) (omega (arith, small.small v (rw e l), eqb-false (get_or marks v 0) 1 free))

pub set_says : {mode : Mode} {R : Room} {kinds blocked classes : List ℕ} {start goal cell : ℕ} (byte : ℕ) → WorldFits R kinds blocked → Says mode R kinds blocked start goal classes → cell < volume R
    → {blocked' classes' : List ℕ} → blocked' ≡ with_byte byte (eqb cell) blocked → classes' ≡ refreshed mode R kinds blocked' start goal cell classes
    → Says mode R kinds blocked' start goal classes'
set_says {mode} {R} {kinds} {blocked} {classes} {start} {goal} {cell} byte fit says h e f =
    rw (f, e) (refreshed-says mode R fit.good cell kinds blocked start goal (with_byte byte (eqb cell) blocked) start goal (mark-put byte cell kinds blocked start goal) fit.kinds-long classes says h)

-- ---- the attempts after it

pub site-same : (ground : Ground) (kinds joinable joinable' queue queue' : List ℕ) → joinable' ≡ joinable → length queue' ≡ length queue
    → site_of ground kinds joinable' queue' ≡ site_of ground kinds joinable queue
site-same ground kinds joinable joinable' queue queue' j q = rw (j, q)

pub attempts-none : (S : Site) (start goal : ℕ) (blocked cells : List ℕ) (left : ℕ) → left ≡ 0 → Tells (attempts left S start goal blocked) (Ok None) cells
unfolding attempts
attempts-none S start goal blocked cells left e = rw e (tells-failed cells)

module _ (S : Site) (blocked : List ℕ) (start goal left : ℕ) (some : left ≢ 0) where
  attempts-one : attempts left S start goal blocked ≡ attempt_then S blocked start goal (attempts (left - 1) S start goal)
  unfolding attempts
  attempts-one = let s : left ≡ suc (left - 1) = omega arith in ap (λ (n : ℕ). attempts n S start goal blocked) s

  pub attempts-ended : {cells : List ℕ} {r : Option Found} → Attempted S blocked start goal cells (Ok r) → Tells (attempts left S start goal blocked) (Ok r) cells
  attempts-ended once = rw attempts-one (once.comes (attempts (left - 1) S start goal))

  pub attempts-full : {cells : List ℕ} {x : QueueFull} → Attempted S blocked start goal cells (Err (Full x)) → Tells (attempts left S start goal blocked) (Err x) cells
  attempts-full once = rw attempts-one (once.comes (attempts (left - 1) S start goal))

  pub attempts-repeat : {v : ℕ} {cells : List ℕ} {r : Tried} {S' : Site} → Repeats S blocked start goal v → S' ≡ S
      → Tells (attempts (left - 1) S' start goal (marked_by (eqb v) blocked)) r cells → Tells (attempts left S start goal blocked) r cells
  attempts-repeat once s t = rw (attempts-one, once.is (attempts (left - 1) S start goal), ← s) t

-- the same room and marks, and memory as long as it was
pub able-kept : {S S' : Site} {blocked classes known known' previous previous' path path' : List ℕ} {start goal : ℕ} → Attemptable S blocked classes known previous path start goal → S' ≡ S
    → length known' ≡ length known → length previous' ≡ length previous → length path' ≡ length path → Attemptable S' blocked classes known' previous' path' start goal
able-kept A s k p q = rw s (record {
  grounds = A.grounds;
  memory = record { known-long = k ∙ A.memory.known-long; previous-long = p ∙ A.memory.previous-long; path-long = q ∙ A.memory.path-long };
  goal_in = A.goal_in;
  says = A.says;
})

-- a cell v
module _ {S : Site} {blocked classes known previous path : List ℕ} {start goal : ℕ} (A : Attemptable S blocked classes known previous path start goal) (v : ℕ) {blocked' : List ℕ} where
  -- once it is blocked, marks and room still fit together, and the next attempt can be made
  module _ (b : blocked' ≡ marked_by (eqb v) blocked) where
    pub able-marked : WorldFits S.room S.kinds blocked'
    able-marked = record {
      good = A.grounds.good;
      kinds-long = A.grounds.kinds-long;
      blocked-long = ap length b ∙ with_length_lem 1 (eqb v) blocked ∙ A.grounds.blocked-long;
    }

    pub able-next : {classes' : List ℕ} → Says S.mode S.room S.kinds blocked' start goal classes' → Attemptable S blocked' classes' known previous path start goal
    able-next says = record {
      grounds = record {
        good = A.grounds.good;
        config-good = A.grounds.config-good;
        kinds-long = A.grounds.kinds-long;
        joinable-long = A.grounds.joinable-long;
        joinable-marks = A.grounds.joinable-marks;
        no_pair = A.grounds.no_pair;
        blocked-long = able-marked.blocked-long;
        blocked-marks = rw b (marks_with 1 (omega arith) (eqb v) blocked A.grounds.blocked-marks);
        start_in = A.grounds.start_in;
        places-some = A.grounds.places-some;
      };
      memory = A.memory;
      goal_in = A.goal_in;
      says = says;
    }

  -- where it was not blocked: once it is not blocked any more, marks and classes are as they were
  module _ (free : is_marked blocked v ≡ false) (b : blocked' ≡ unmarked_by (eqb v) (marked_by (eqb v) blocked)) where
    pub blocked-back : blocked' ≡ blocked
    blocked-back = b ∙ put_back blocked v A.grounds.blocked-marks free

    pub classes-back : {classes' : List ℕ} → Says S.mode S.room S.kinds blocked' start goal classes' → classes' ≡ classes
    classes-back {classes'} says = says-one S.mode S.room S.kinds blocked start goal classes' classes (rw blocked-back at says) A.says
