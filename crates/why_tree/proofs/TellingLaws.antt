-- Laws of what is told of a sink: obstacles by cases of their tests, a search of the marks, and what the verdict comes from.
use Rattle.std.specs.Prelude.{◌≡◌, ◌≢◌, Bool, true, false, ◌&&◌, List, eqb, ltb, get_or}
use Rattle.std.proofs.Math.Path.{refl, ap}
use Rattle.std.proofs.Common.{sym, ◌∙◌, not-suc-le-zero, arith}
use Rattle.std.proofs.Math.Bool.{not, and-false}
use Prim.Native.Nat.{ℕ, zero, suc, ◌+◌, ◌-◌, ◌*◌, ◌≤◌, ◌<◌}
use Rattle.std.proofs.Math.Numerals.{add-one}
use Rattle.std.proofs.Math.ListN.{get_or-append}
use borrow.Author.Tests.{eq-eqb, ne_eqb, le-leb, lt-leb}
use Rattle.basics.specs.Tests.{ask_same}
use Rattle.basics.specs.Lists.{all_below}
use Rattle.basics.specs.Counts.{bit}
use Rattle.lent.specs.Lent.{filled}
use Rattle.room.specs.declared.Room.{Room}
use Rattle.room.specs.declared.RouterConfig.{RouterConfig}
use Rattle.room.specs.Room.{Good, volume, beneath, holds_at}
use Rattle.room.specs.RoomLaws.{cell_in}
use Rattle.room.specs.Units.{air}
use Rattle.ground.specs.declared.Ground.{Ground}
use Rattle.ground.specs.declared.Mode.{Mode}
use Rattle.ground.specs.declared.Mode.TheVariants.{Published, Strict}
use Rattle.room_search.specs.Routing.{kind_at, routeable_kind, bearing, class_for}
use Rattle.routing_resources.specs.Marks.{is_marked}
use Rattle.flood.specs.Walls.{tabled, byte_of, reached_by, marks_by, walls_by, WallsTold}
use Rattle.flood.specs.TableLaws.{tabled-at, tabled-long}
use Rattle.flood.specs.WallLaws.{marks-same, walls-same}
use Rattle.why.specs.Why.{taken, bad_support, obstacle_for}
use Rattle.why_tree.specs.WhyTree.{exempt, kept_free, blocking_for, tree_obstacle, approach_taken, is_shut_in, reaches_none, ample, reached_from, open_verdict, verdict_for}
use Rattle.why_tree.specs.Telling.{none_joined, SinkAsked, SinkTold}

-- ---- kept free, by cases, as the code asks

module _ (kinds blocked joinable : List ℕ) (approach v : ℕ) where
  pub kept-other : get_or kinds v 0 ≢ air → false ≡ kept_free kinds blocked joinable approach v
  unfolding kept_free
  kept-other n = rw (ne_eqb (get_or kinds v 0) 0 n)

  pub kept-unblocked : get_or blocked v 0 ≢ 1 → false ≡ kept_free kinds blocked joinable approach v
  unfolding kept_free
  kept-unblocked n = rw (ne_eqb (get_or blocked v 0) 1 n, and-false (eqb (get_or kinds v 0) 0))

  pub kept-blocked : get_or kinds v 0 ≡ air → get_or blocked v 0 ≡ 1 → {b : Bool} → b ≡ exempt joinable approach v → not b ≡ kept_free kinds blocked joinable approach v
  unfolding kept_free
  kept-blocked k b e = rw (eq-eqb (get_or kinds v 0) 0 k, eq-eqb (get_or blocked v 0) 1 b, e)

-- ---- what blocking has against a cell, by cases

pub blocking-none : (mode : Mode) {free below : Bool} → free ≡ false → below ≡ false → 0 ≡ blocking_for mode free below
blocking-none Published f b = rw f
blocking-none Strict f b = rw (f, b)

-- ---- what its kind and what is beneath it have against a cell

module _ (end : Bool) (kind below : ℕ) where
  pub kind-taken : routeable_kind end kind ≡ false → taken ≡ obstacle_for end kind below
  unfolding obstacle_for
  kind-taken f = rw f

  module _ (t : routeable_kind end kind ≡ true) {class : ℕ} (c : class ≡ class_for end kind below) where
    bears : class ≡ bearing below
    unfolding class_for
    bears = c ∙ rw t

    pub kind_unborne : class ≡ 0 → bad_support ≡ obstacle_for end kind below
    unfolding obstacle_for
    kind_unborne z = rw (t, eq-eqb (bearing below) 0 (sym bears ∙ z))

    pub kind-free : class ≢ 0 → 0 ≡ obstacle_for end kind below
    unfolding obstacle_for
    kind-free n = rw (t, ne_eqb (bearing below) 0 (λ e. n (bears ∙ e)))

-- ---- of both the least

module _ (mode : Mode) (R : Room) (kinds blocked joinable : List ℕ) (approach v : ℕ) {first : ℕ} {end : Bool} {below : ℕ}
    (e : end ≡ exempt joinable approach v) (b : below ≡ kind_at kinds (beneath R v)) (f : first ≡ obstacle_for end (get_or kinds v air) below) where
  first-is : first ≡ obstacle_for (exempt joinable approach v) (get_or kinds v air) (kind_at kinds (beneath R v))
  first-is = rw (e, b) at f

  pub least_first : first ≢ 0 → first ≡ tree_obstacle mode R kinds blocked joinable approach v
  unfolding tree_obstacle
  least_first n = rw (← first-is, ne_eqb first 0 n)

  pub least-second : first ≡ 0 → {free under : Bool} {second : ℕ} → free ≡ kept_free kinds blocked joinable approach v
      → under ≡ holds_at (kept_free kinds blocked joinable approach) (beneath R v) → second ≡ blocking_for mode free under
      → second ≡ tree_obstacle mode R kinds blocked joinable approach v
  unfolding tree_obstacle
  least-second z k u s = rw (← first-is, eq-eqb first 0 z) (rw (k, u) at s)

-- ---- tests one after another

module _ (p : ℕ → Bool) where
  pub below_next : (n : ℕ) → all_below p n ≡ true → p n ≡ true → all_below p (n + 1) ≡ true
  unfolding all_below
  below_next n a e = rw (add-one n, e) a

  pub below_fails : (n k : ℕ) → k < n → p k ≡ false → false ≡ all_below p n
  unfolding all_below
  below_fails zero k h e = absurd (not-suc-le-zero h)
  below_fails (suc n) k h e =
      ask_same k n
      (λ q. rw (ap p (sym q) ∙ e))
      (λ d. let r = below_fails n k (omega (arith, d)) e in rw (← r) (sym (and-false (p n))))

  pub below-same : (q : ℕ → Bool) (n : ℕ) → ((k : ℕ) → k < n → p k ≡ q k) → all_below p n ≡ all_below q n
  unfolding all_below
  below-same q zero s = refl
  below-same q (suc n) s = rw (s n (omega arith), below-same q n (λ k h. s k (omega arith)))

-- the first k passed
pub record PassedSoFar (p : ℕ → Bool) (n k : ℕ) : Type 0 where
  pub within : k ≤ n
  pub all : all_below p k ≡ true

pub passed_none : (p : ℕ → Bool) (n : ℕ) → PassedSoFar p n 0
unfolding all_below
passed_none p n = record { within = omega arith; all = refl }

pub passed-next : {p : ℕ → Bool} {n k : ℕ} → PassedSoFar p n k → k < n → p k ≡ true → PassedSoFar p n (k + 1)
passed-next {p} {n} {k} I h e = record { within = omega arith; all = below_next p k I.all e }

pub passed-all : {p : ℕ → Bool} {n k : ℕ} → PassedSoFar p n k → n ≤ k → true ≡ all_below p n
passed-all {p} {n} {k} I h = let e : k ≡ n = omega (arith, I.within) in sym (rw e at I.all)

-- ---- costs and a node limit

pub some-cell : (R : Room) → Good R → 1 ≤ volume R
some-cell R G = omega (arith, cell_in R (record { x = 0; y = 0; z = 0 }) (record { x_in = G.x_some; y_in = G.y_some; z_in = G.z_some }))

module _ (R : Room) (C : RouterConfig) where
  pub ample-flat : C.horizontal.0 < 10 → false ≡ ample R C
  unfolding ample
  ample-flat h = rw (lt-leb 10 C.horizontal.0 h)

  pub ample_stair : 10 ≤ C.horizontal.0 → C.stair.0 < 20 → false ≡ ample R C
  unfolding ample
  ample_stair a h = rw (le-leb 10 C.horizontal.0 a, lt-leb 20 C.stair.0 h)

  pub ample-limit : 10 ≤ C.horizontal.0 → 20 ≤ C.stair.0 → ltb (5 * (volume R - 1)) C.limit.0 ≡ ample R C
  unfolding ample
  ample-limit a b = rw (le-leb 10 C.horizontal.0 a, le-leb 20 C.stair.0 b, add-one (5 * (volume R - 1)))

-- ---- what is told

module _ {G : Ground} {kinds blocked joinable : List ℕ} {approach : ℕ} {obstacles line reached walls : List ℕ}
    (A : SinkAsked G kinds blocked joinable approach obstacles line reached walls)
    {bytes reached' walls' : List ℕ} (O : bytes ≡ tabled (volume G.room) (tree_obstacle G.mode G.room kinds blocked joinable approach))
    (W : WallsTold G.room (byte_of bytes) approach reached walls reached' walls') where
  abbrev obstacle : ℕ → ℕ
  obstacle = tree_obstacle G.mode G.room kinds blocked joinable approach

  byte-is : (v : ℕ) → v < volume G.room → byte_of bytes v ≡ obstacle v
  byte-is v h = rw O (tabled-at (volume G.room) obstacle v h)

  reached-is : reached' ≡ filled (marks_by G.room obstacle approach) reached
  reached-is = rw (← marks-same G.room (byte_of bytes) obstacle byte-is approach) W.reached-is

  walls-is : walls' ≡ filled (walls_by G.room obstacle approach) walls
  walls-is = rw (← walls-same G.room (byte_of bytes) obstacle byte-is approach) W.walls-is

  told-by : {verdict : ℕ} → verdict ≡ verdict_for G kinds blocked joinable approach → SinkTold G kinds blocked joinable approach reached walls verdict reached' walls'
  told-by e = record { verdict-is = e; reached-is = reached-is; walls-is = walls-is }

  marked-is : (v : ℕ) → v < volume G.room → get_or reached' v 0 ≡ bit (reached_by G.room obstacle approach v)
  marked-is v h =
      let m : ℕ → ℕ = λ (x : ℕ). bit (reached_by G.room obstacle approach x) in
      ap (λ (l : List ℕ). get_or l v 0) reached-is
      ∙ get_or-append (tabled (volume G.room) m) _ 0 v (rw (tabled-long (volume G.room) m) h)
      ∙ tabled-at (volume G.room) m v h

  bit_positive : (b : Bool) → ltb 0 (bit b) ≡ b
  bit_positive true = refl
  bit_positive false = refl

  none_is : none_joined reached' joinable ≡ reaches_none G.room (reached_from G kinds blocked joinable approach) joinable
  unfolding reaches_none
  none_is =
      rw A.fits.joinable-long
      (below-same _ _ (volume G.room)
      (λ v h. ap (λ (b : Bool). not (b && is_marked joinable v)) (ap (ltb 0) (marked-is v h) ∙ bit_positive (reached_by G.room obstacle approach v))))

  pub told-taken : routeable_kind true (get_or kinds approach air) ≡ false → SinkTold G kinds blocked joinable approach reached walls approach_taken reached' walls'
  unfolding verdict_for
  told-taken f = told-by (rw f)

  module _ (t : routeable_kind true (get_or kinds approach air) ≡ true) where
    pub told-shut : none_joined reached' joinable ≡ true → SinkTold G kinds blocked joinable approach reached walls is_shut_in reached' walls'
    unfolding verdict_for
    told-shut n = told-by (rw (t, ← none_is, n))

    pub told_open : none_joined reached' joinable ≡ false → {verdict : ℕ} → verdict ≡ open_verdict G.room G.config
        → SinkTold G kinds blocked joinable approach reached walls verdict reached' walls'
    unfolding verdict_for
    told_open n v = told-by (rw (t, ← none_is, n) v)
