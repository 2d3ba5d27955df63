-- Laws of opening: one cell after another is opened, with the cell above it.
use Rattle.std.specs.Prelude.{◌≡◌, refl, ◌≢◌, true, List, ℕ, ◌+◌, ◌≤◌, ◌<◌, get_or, set, Option, Some, None}
use Rattle.std.proofs.Common.{sym, ap, ◌∙◌, arith, length-set, get_or-set_same, get_or-set_other, eqb-true}
use Rattle.std.proofs.Math.ListN.{length}
use Rattle.basics.specs.Tests.{ask_same, never}
use Rattle.room.specs.declared.Room.{Room}
use Rattle.room.specs.Room.{Good, volume, above}
use Rattle.room.specs.RoomLaws.{above_in, same-cell}
use Rattle.ground.specs.declared.Mode.{Mode}
use Rattle.blocked_world.specs.BlockedWorld.{class_seen, Says, renewed, renewed_at, refreshed}
use Rattle.routing_resources.specs.Marks.{is_marked}
use Rattle.relaxed.specs.Labels.{Apart, OpenedBelow, Opened, OpensBoth, ShutBelow}

-- a cell is opened: every cell that was open still is
module _ (bytes : List ℕ) (cell : ℕ) (h : cell < length bytes) where
  opened-here : get_or (set bytes cell 1) cell 0 ≢ 0
  opened-here e = let one : get_or (set bytes cell 1) cell 0 ≡ 1 = simp (get_or-set_same) in omega (arith, e, one)

  opened-others : (v : ℕ) → get_or bytes v 0 ≢ 0 → get_or (set bytes cell 1) v 0 ≢ 0
  opened-others v n = ask_same v cell (λ s. rw s opened-here) (λ d. rw (get_or-set_other bytes cell v 1 0 (λ s. d s)) n)

module _ (R : Room) (cell : ℕ) (classes : List ℕ) (h : cell < length classes) where
  pub opens-alone : above R cell ≡ None → OpensBoth R cell classes (set classes cell 1)
  opens-alone e = record {
    long = length-set classes cell 1;
    as_before = opened-others classes cell h;
    here = opened-here classes cell h;
    over = λ v q. never (cc);
    others = λ v a. get_or-set_other classes cell v 1 0 (λ s. a.0 s);
  }

  pub opens-both : (over : ℕ) → above R cell ≡ Some over → over < length classes → OpensBoth R cell classes (set (set classes cell 1) over 1)
  opens-both over e k =
      let l : over < length (set classes cell 1) = rw (length-set classes cell 1) k in
      record {
        long = rw (length-set (set classes cell 1) over 1) (length-set classes cell 1);
        as_before = λ v n. opened-others (set classes cell 1) over l v (opened-others classes cell h v n);
        here = opened-others (set classes cell 1) over l cell (opened-here classes cell h);
        over = λ v q. let same : over ≡ v = cc in rw (← same) (opened-here (set classes cell 1) over l);
        others = λ v a. rw (get_or-set_other (set classes cell 1) over v 1 0 (λ s. a.1 (e ∙ ap Some (sym s)))) (get_or-set_other classes cell v 1 0 (λ s. a.0 s));
      }

pub opened-none : (R : Room) (joinable classes : List ℕ) → OpenedBelow R joinable classes classes 0
opened-none R joinable classes = record {
  long = refl;
  as_before = λ v n. n;
  goals = λ g h. absurd (omega arith);
  over-goals = λ g v h. absurd (omega arith);
  others = λ v a. refl;
}

module _ {R : Room} {joinable classes bytes : List ℕ} {n : ℕ} (O : OpenedBelow R joinable classes bytes n) where
  -- the next cell is joinable, and is opened
  pub opened-next : is_marked joinable n ≡ true → {bytes' : List ℕ} → OpensBoth R n bytes bytes' → OpenedBelow R joinable classes bytes' (n + 1)
  opened-next marked B = record {
    long = rw B.long O.long;
    as_before = λ v k. B.as_before v (O.as_before v k);
    goals = λ g h m. ask_same g n (λ s. rw s B.here) (λ d. B.as_before g (O.goals g (omega (arith, d, h)) m));
    over-goals = λ g v h m a. ask_same g n (λ s. B.over v (rw s at a)) (λ d. B.as_before v (O.over-goals g v (omega (arith, d, h)) m a));
    others = λ v a. rw (B.others v (a n (omega arith) marked)) (O.others v (λ g h m. a g (omega arith) m));
  }

  -- it is not
  pub opened-same : get_or joinable n 0 ≢ 1 → OpenedBelow R joinable classes bytes (n + 1)
  opened-same u = record {
    long = O.long;
    as_before = O.as_before;
    goals = λ g h m. O.goals g (below g h m) m;
    over-goals = λ g v h m a. O.over-goals g v (below g h m) m a;
    others = λ v a. O.others v (λ g h m. a g (omega arith) m);
  }
    where
      below : (g : ℕ) → g < n + 1 → is_marked joinable g ≡ true → g < n
      below g h m = ask_same g n (λ s. absurd (u (rw s at (eqb-true (get_or joinable g 0) 1 m)))) (λ d. omega (arith, d, h))

  pub opened-all : {m : ℕ} → m ≤ n → n ≤ m → OpenedBelow R joinable classes bytes m
  opened-all {m} h k = let e : n ≡ m = omega arith in rw e at O

-- ---- and shut again

module _ (mode : Mode) (R : Room) (G : Good R) (kinds joinable blocked : List ℕ) (start : ℕ) where
  abbrev seen : ℕ → ℕ
  seen = class_seen mode R kinds blocked start start

  pub shut_none : {classes bytes : List ℕ} → Opened R joinable classes bytes → Says mode R kinds blocked start start classes → ShutBelow mode R kinds joinable blocked start 0 bytes
  shut_none O says = record {
    long = O.long ∙ says.long;
    each = λ v h a. O.others v (λ g i m. a g (omega arith) i m) ∙ says.each v h;
  }

  module _ {n : ℕ} {bytes : List ℕ} (B : ShutBelow mode R kinds joinable blocked start n bytes) where
    -- the next cell is joinable, and the bytes of it and of the cell above are written anew
    pub shut-next : n < volume R → {bytes' : List ℕ} → bytes' ≡ refreshed mode R kinds blocked start start n bytes → ShutBelow mode R kinds joinable blocked start (n + 1) bytes'
    unfolding refreshed
    shut-next h {bytes'} e = rw e (go (above R n) refl)
      where
        here : n < length bytes
        here = rw B.long h

        -- at one cell or another the byte is right
        at : (v : ℕ) → v < volume R → ((g : ℕ) → n + 1 ≤ g → g < volume R → is_marked joinable g ≡ true → Apart R g v) → above R n ≢ Some v → get_or (set bytes n (seen n)) v 0 ≡ seen v
        at v i a o =
            ask_same v n
            (λ s. rw s (get_or-set_same bytes n (seen n) 0 here))
            (λ d. rw (get_or-set_other bytes n v (seen n) 0 (λ s. d s)) (B.each v i (λ g l k m. ask_same g n (λ s. rw s (d, o)) (λ q. a g (omega (arith, l, q)) k m))))

        go : (place : Option ℕ) → above R n ≡ place → ShutBelow mode R kinds joinable blocked start (n + 1) (renewed_at mode R kinds blocked start start place (renewed mode R kinds blocked start start n bytes))
        go None p = record { long = rw (length-set bytes n (seen n)) B.long; each = λ v i a. at v i a (λ q. never (cc)) }
        go (Some u) p =
            let u-in : u < length (set bytes n (seen n)) = rw (length-set bytes n (seen n), B.long) (above_in R G n u h p) in
            record {
              long = rw (length-set (set bytes n (seen n)) u (seen u), length-set bytes n (seen n)) B.long;
              each = λ v i a. ask_same v u
                  (λ s. rw s (get_or-set_same (set bytes n (seen n)) u (seen u) 0 u-in))
                  (λ d. rw (get_or-set_other (set bytes n (seen n)) u v (seen u) 0 (λ s. d s)) (at v i a (λ q. d (sym (same-cell u v (sym p ∙ q))))));
            }

    -- it is not
    pub shut-same : get_or joinable n 0 ≢ 1 → ShutBelow mode R kinds joinable blocked start (n + 1) bytes
    shut-same u = record {
      long = B.long;
      each = λ v h a. B.each v h (λ g l k m. ask_same g n (λ s. absurd (u (rw s at (eqb-true (get_or joinable g 0) 1 m)))) (λ d. a g (omega (arith, l, d)) k m));
    }

    pub shut-all : volume R ≤ n → Says mode R kinds blocked start start bytes
    shut-all h = record { long = B.long; each = λ v i. B.each v i (λ g l k m. absurd (omega arith)) }
