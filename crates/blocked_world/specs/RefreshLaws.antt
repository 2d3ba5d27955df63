-- Laws of refreshing: class bytes that say one setting, refreshed at the one cell at which another differs, say the other.
use Rattle.std.specs.Prelude.{◌≡◌, ◌≢◌, List, ℕ, ◌<◌, eqb, get_or, Option, Some, None}
use Rattle.std.proofs.Math.Path.{refl, sym, ap}
use Rattle.std.proofs.Common.{◌∙◌, arith, get_or-set_same, get_or-set_other, ne_eqb}
use Rattle.std.proofs.Math.Bool.{or-false, or_self}
use Rattle.std.proofs.Math.ListN.{length, length-set}
use Rattle.basics.specs.Tests.{ask_same, never}
use Rattle.room.specs.declared.Room.{Room}
use Rattle.room.specs.Room.{Good, volume, beneath, above}
use Rattle.routing_resources.specs.Marks.{is_marked, with_byte}
use Rattle.routing_resources.specs.MarkLaws.{with_set}
use Rattle.room.specs.AboveLaws.{beneath-above}
use Rattle.ground.specs.declared.Mode.{Mode}
use Rattle.room_search.specs.Routing.{kind_at, an_end}
use Rattle.blocked_world.specs.BlockedWorld.{blocked_air, seen_kind, seen_kinds, class_seen, Says, renewed, renewed_at, refreshed}
use Rattle.blocked_world.specs.SeenLaws.{seen_at, renewed_right}
use Rattle.room.specs.RoomLaws.{beneath_in}

-- ---- settings that differ at one cell

-- two settings, each of blocked marks, start and goal, that have the same blocked Air but for one cell, and the same ends but for that one
pub record SameBut (cell : ℕ) (kinds blocked : List ℕ) (start goal : ℕ) (blocked' : List ℕ) (start' goal' : ℕ) : Type 0 where
  walls : (v : ℕ) → v ≢ cell → blocked_air kinds blocked start goal v ≡ blocked_air kinds blocked' start' goal' v
  ends : (v : ℕ) → v ≢ cell → an_end start goal v ≡ an_end start' goal' v

-- marks and ends that are the same but for one cell
same_but : (cell : ℕ) (kinds blocked : List ℕ) (start goal : ℕ) (blocked' : List ℕ) (start' goal' : ℕ)
    → ((v : ℕ) → v ≢ cell → is_marked blocked v ≡ is_marked blocked' v)
    → ((v : ℕ) → v ≢ cell → an_end start goal v ≡ an_end start' goal' v)
    → SameBut cell kinds blocked start goal blocked' start' goal'
unfolding blocked_air
same_but cell kinds blocked start goal blocked' start' goal' marks same = record { walls = λ v n. rw (marks v n, same v n); ends = same }

pub same_back : {cell : ℕ} {kinds blocked : List ℕ} {start goal : ℕ} {blocked' : List ℕ} {start' goal' : ℕ}
    → SameBut cell kinds blocked start goal blocked' start' goal' → SameBut cell kinds blocked' start' goal' blocked start goal
same_back same = record { walls = λ v n. sym (same.walls v n); ends = λ v n. sym (same.ends v n) }

-- a byte is put at the cell, as a mark is made or taken away
pub mark-put : (byte cell : ℕ) (kinds blocked : List ℕ) (start goal : ℕ) → SameBut cell kinds blocked start goal (with_byte byte (eqb cell) blocked) start goal
mark-put byte cell kinds blocked start goal =
    same_but cell kinds blocked start goal (with_byte byte (eqb cell) blocked) start goal
    (λ v n. rw (← with_set byte blocked cell, get_or-set_other blocked cell v byte 0 n)) (λ v n. refl)

-- one end leaves its cell for the other end's. An end that moves from one cell to another leaves the first, and then, the other way round, comes
-- to the second, with a refresh at each
module _ (kinds blocked : List ℕ) (start goal : ℕ) where
  no_goal : (v : ℕ) → v ≢ goal → an_end start goal v ≡ an_end start start v
  no_goal v n = rw (ne_eqb v goal n, or-false (eqb v start), or_self (eqb v start))

  pub goal-left : SameBut goal kinds blocked start goal blocked start start
  goal-left = same_but goal kinds blocked start goal blocked start start (λ v n. refl) no_goal

-- ---- the law

module _ (mode : Mode) (R : Room) (G : Good R) (cell : ℕ) (kinds blocked : List ℕ) (start goal : ℕ) (blocked' : List ℕ) (start' goal' : ℕ)
    (same : SameBut cell kinds blocked start goal blocked' start' goal') (long : length kinds ≡ volume R) where
  seen_same : (v : ℕ) → v ≢ cell → v < volume R → get_or (seen_kinds mode kinds blocked start goal) v 0 ≡ get_or (seen_kinds mode kinds blocked' start' goal') v 0
  unfolding seen_kind
  seen_same v n h =
      let l : v < length kinds = rw long h in
      let seen : seen_kind mode kinds blocked start goal v ≡ seen_kind mode kinds blocked' start' goal' v = rw (same.walls v n) in
      seen_at mode kinds blocked start goal v l ∙ seen ∙ sym (seen_at mode kinds blocked' start' goal' v l)

  -- a cell other than that one, which it does not bear either, has the class that it had
  class_same : (v : ℕ) → v ≢ cell → (beneath R v ≡ Some cell → ⊥) → v < volume R
      → class_seen mode R kinds blocked start goal v ≡ class_seen mode R kinds blocked' start' goal' v
  unfolding class_seen
  class_same v n o h = rw (same.ends v n, seen_same v n h, below (beneath R v) refl)
    where
      below : (place : Option ℕ) → beneath R v ≡ place → kind_at (seen_kinds mode kinds blocked start goal) place ≡ kind_at (seen_kinds mode kinds blocked' start' goal') place
      below (Some u) e = seen_same u (λ q. o (e ∙ ap Some q)) (beneath_in R v u h e)
      below None e = refl

  module _ (classes : List ℕ) (says : Says mode R kinds blocked start goal classes) (cell_in : cell < volume R) where
    abbrev first : List ℕ
    first = renewed mode R kinds blocked' start' goal' cell classes

    first_length : length first ≡ volume R
    first_length = length-set classes cell (class_seen mode R kinds blocked' start' goal' cell) ∙ says.long

    first-each : (v : ℕ) → v < volume R → (beneath R v ≡ Some cell → ⊥) → get_or first v 0 ≡ class_seen mode R kinds blocked' start' goal' v
    first-each v h o =
        ask_same v cell
        (λ q. rw q (get_or-set_same classes cell (class_seen mode R kinds blocked' start' goal' cell) 0 (omega (arith, says.long))))
        (λ n. get_or-set_other classes cell v (class_seen mode R kinds blocked' start' goal' cell) 0 n ∙ says.each v h ∙ class_same v n o h)

    pub refreshed-says : Says mode R kinds blocked' start' goal' (refreshed mode R kinds blocked' start' goal' cell classes)
    unfolding refreshed
    refreshed-says = go (above R cell) refl
      where
        go : (place : Option ℕ) → above R cell ≡ place → Says mode R kinds blocked' start' goal' (renewed_at mode R kinds blocked' start' goal' place first)
        go None e = record {
          long = first_length;
          each = λ v h. first-each v h (λ b. clash v (beneath-above R G v cell h b));
        }
          where
            clash : (v : ℕ) → above R cell ≡ Some v → ⊥
            clash v q = never (cc)
        go (Some u) e = record {
          long = length-set first u (class_seen mode R kinds blocked' start' goal' u) ∙ first_length;
          each = λ v h.
              ask_same v u
              (λ q. rw q (get_or-set_same first u (class_seen mode R kinds blocked' start' goal' u) 0 (omega (arith, first_length))))
              (λ n. renewed_right mode R kinds blocked' start' goal' u first v (omega (arith, first_length)) (first-each v h (other v h n)));
        }
          where
            other : (v : ℕ) → v < volume R → v ≢ u → beneath R v ≡ Some cell → ⊥
            other v h n b = let q = beneath-above R G v cell h b in let z : u ≡ v = cc in n (sym z)
