-- Laws of what is seen: the kind at a cell and beneath it, the loop that fills in all classes, and the graph that they make.
use Rattle.std.specs.Prelude.{◌≡◌, refl, ◌≢◌, Bool, true, false, List, ℕ, ◌+◌, ◌≤◌, ◌<◌, eqb, length}
use Rattle.std.proofs.Math.Path.{sym}
use Rattle.std.proofs.Common.{ap, ◌∙◌, arith, length-set, get_or-set_same, get_or-set_other, ext_get_or}
use Rattle.std.proofs.Math.Bool.{and-false}
use Rattle.std.proofs.Math.ListN.{get_or}
use borrow.Author.Tests.{eq-eqb, ne_eqb, eqb-true}
use Rattle.basics.specs.Tests.{ask_same, never, and_left}
use Rattle.basics.specs.Lists.{front-written}
use Rattle.room.specs.declared.Room.{Room}
use Rattle.room.specs.declared.RouterConfig.{RouterConfig}
use Rattle.room.specs.Room.{volume, beneath}
use Rattle.room.specs.Units.{air}
use Rattle.ground.specs.declared.Mode.{Mode}
use Rattle.ground.specs.declared.Mode.TheVariants.{Published, Strict}
use Rattle.routing_resources.specs.Marks.{is_marked}
use Rattle.routing_resources.specs.MarkLaws.{with_at}
use Rattle.room_search.specs.Routing.{kind_at, routeable_kind, class_for, graph_of, graph, entering, an_end}
use Rattle.room_search.specs.SameGraphLaws.{same_graph}
use Rattle.blocked_world.specs.BlockedWorld.{blocked_air, wall_of, seen_kind, seen_kinds, seen_task, class_seen, Says, renewed}

module _ (mode : Mode) (kinds blocked : List ℕ) (start goal : ℕ) where
  pub seen_at : (v : ℕ) → v < length kinds → get_or (seen_kinds mode kinds blocked start goal) v 0 ≡ seen_kind mode kinds blocked start goal v
  unfolding seen_kinds seen_kind
  seen_at v h = with_at (wall_of mode) (blocked_air kinds blocked start goal) kinds v h

  -- by cases, as the code asks
  module _ (v : ℕ) where
    pub seen-kept : get_or kinds v 0 ≢ air → get_or kinds v 0 ≡ seen_kind mode kinds blocked start goal v
    unfolding seen_kind blocked_air
    seen-kept n = rw (ne_eqb (get_or kinds v 0) 0 n)

    pub seen-free : get_or blocked v 0 ≢ 1 → get_or kinds v 0 ≡ seen_kind mode kinds blocked start goal v
    unfolding seen_kind blocked_air
    seen-free n = rw (ne_eqb (get_or blocked v 0) 1 n, and-false (eqb (get_or kinds v 0) 0))

    pub seen_end : get_or kinds v 0 ≡ air → get_or blocked v 0 ≡ 1 → an_end start goal v ≡ true → get_or kinds v 0 ≡ seen_kind mode kinds blocked start goal v
    unfolding seen_kind blocked_air
    seen_end k b e = rw (eq-eqb (get_or kinds v 0) 0 k, eq-eqb (get_or blocked v 0) 1 b, e)

    pub seen_wall : get_or kinds v 0 ≡ air → get_or blocked v 0 ≡ 1 → an_end start goal v ≡ false → wall_of mode ≡ seen_kind mode kinds blocked start goal v
    unfolding seen_kind blocked_air
    seen_wall k b e = rw (eq-eqb (get_or kinds v 0) 0 k, eq-eqb (get_or blocked v 0) 1 b, e)

-- blocked Air is not entered, in either mode
pub wall_closed : (mode : Mode) (isEnd : Bool) → routeable_kind isEnd (wall_of mode) ≡ true → ⊥
unfolding routeable_kind
wall_closed Published true e = never (cc)
wall_closed Published false e = never (cc)
wall_closed Strict true e = never (cc)
wall_closed Strict false e = never (cc)

-- what is blocked Air, and how it is seen
module _ (kinds blocked : List ℕ) (start goal v : ℕ) where
  pub blocked-is-air : blocked_air kinds blocked start goal v ≡ true → get_or kinds v air ≡ air
  unfolding blocked_air
  blocked-is-air t = eqb-true (get_or kinds v air) air (and_left (eqb (get_or kinds v air) air) _ t)

  pub end_open : an_end start goal v ≡ true → blocked_air kinds blocked start goal v ≡ false
  unfolding blocked_air
  end_open e = rw (e, and-false (is_marked blocked v), and-false (eqb (get_or kinds v air) air))

  module _ (mode : Mode) (h : v < length kinds) where
    pub seen_open : blocked_air kinds blocked start goal v ≡ false → get_or (seen_kinds mode kinds blocked start goal) v 0 ≡ get_or kinds v 0
    unfolding seen_kind
    seen_open f = seen_at mode kinds blocked start goal v h ∙ rw f

    pub seen-blocked : blocked_air kinds blocked start goal v ≡ true → get_or (seen_kinds mode kinds blocked start goal) v 0 ≡ wall_of mode
    unfolding seen_kind
    seen-blocked t = seen_at mode kinds blocked start goal v h ∙ rw t

module _ (mode : Mode) (R : Room) (kinds blocked : List ℕ) (start goal : ℕ) where
  -- the class from the kinds seen at the cell and beneath it
  pub class_by : length kinds ≡ volume R → (v : ℕ) → v < volume R → (end : Bool) (kind below class : ℕ)
      → end ≡ an_end start goal v → kind ≡ seen_kind mode kinds blocked start goal v → below ≡ kind_at (seen_kinds mode kinds blocked start goal) (beneath R v) → class ≡ class_for end kind below
      → class ≡ class_seen mode R kinds blocked start goal v
  unfolding class_seen
  class_by long v h end kind below class e k b c =
      let at : kind ≡ get_or (seen_kinds mode kinds blocked start goal) v 0 = k ∙ sym (seen_at mode kinds blocked start goal v (rw long h)) in
      c ∙ rw (e, at, b)

  -- ---- one class written anew

  -- a class that was right stays right
  pub renewed_right : (u : ℕ) (classes : List ℕ) (v : ℕ) → v < length classes → get_or classes v 0 ≡ class_seen mode R kinds blocked start goal v
      → get_or (renewed mode R kinds blocked start goal u classes) v 0 ≡ class_seen mode R kinds blocked start goal v
  renewed_right u classes v h e =
      ask_same v u
      (λ q. rw q (get_or-set_same classes u (class_seen mode R kinds blocked start goal u) 0 (omega arith)))
      (λ n. get_or-set_other classes u v (class_seen mode R kinds blocked start goal u) 0 n ∙ e)

  -- ---- all of them

  -- the first v cells have their class
  pub record Filled (v : ℕ) (classes : List ℕ) : Type 0 where
    pub long : length classes ≡ volume R
    pub each : (k : ℕ) → k < v → get_or classes k 0 ≡ class_seen mode R kinds blocked start goal k

  pub filled_none : (classes : List ℕ) → length classes ≡ volume R → Filled 0 classes
  filled_none classes l = record { long = l; each = λ k h. absurd (omega arith) }

  module _ {v : ℕ} {classes : List ℕ} (I : Filled v classes) where
    pub filled_next : v < volume R → (classes' : List ℕ) → classes' ≡ renewed mode R kinds blocked start goal v classes → Filled (v + 1) classes'
    filled_next h classes' e = record {
      long = ap length e ∙ length-set classes v (class_seen mode R kinds blocked start goal v) ∙ I.long;
      each = rw e (front-written (class_seen mode R kinds blocked start goal) classes (omega (arith, I.long)) refl I.each);
    }

    pub filled-all : volume R ≤ v → Says mode R kinds blocked start goal classes
    filled-all h = record { long = I.long; each = λ k l. I.each k (omega arith) }

  -- no other class bytes say the same
  pub says-one : (a b : List ℕ) → Says mode R kinds blocked start goal a → Says mode R kinds blocked start goal b → a ≡ b
  says-one a b sa sb = ext_get_or 0 a b (sa.long ∙ sym sb.long) (λ v h. let l : v < volume R = rw sa.long at h in sa.each v l ∙ sym (sb.each v l))

  -- class bytes that say what is seen make the graph of the search over it
  pub says-graph : {classes : List ℕ} → Says mode R kinds blocked start goal classes → (C : RouterConfig) (places : ℕ)
      → graph_of R C (λ v. get_or classes v 0) start goal places ≡ graph (seen_task mode R C kinds blocked start goal places)
  unfolding class_seen
  says-graph {classes} says C places =
      same_graph R C (λ v. get_or classes v 0) (entering (seen_task mode R C kinds blocked start goal places)) says.each start goal places
