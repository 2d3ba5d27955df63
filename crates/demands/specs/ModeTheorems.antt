-- THE STEPS OF EACH MODE: what ModeStatements claims. A search's steps, which are those of the room as it is seen, are said by the room's own kinds and the
-- blocked marks, once over both modes; and strict ways are ways of the published mode at the same price.
use Rattle.std.specs.Prelude.{◌≡◌, refl, true, false, List, [], ◌∷◌, ℕ, ◌+◌, ◌<◌, eqb, length, Option, Some, None}
use Rattle.std.proofs.Common.{sym, ◌∙◌}
use native.Mathlib.Omega.{arith}
use Rattle.basics.specs.Tests.{ask, never}
use Rattle.room.specs.Room.{Good, volume, beneath}
use Rattle.room.specs.RoomLaws.{beneath_in}
use Rattle.room.specs.Units.{air}
use Rattle.ground.specs.declared.Mode.{Mode}
use Rattle.ground.specs.declared.Mode.TheVariants.{Published, Strict}
use Rattle.room_search.specs.Routing.{Task, kind_at, an_end, routeable, bearing}
use Rattle.room_search.specs.SearchEndLaws.{start-is-end, goal-is-end}
use Rattle.blocked_world.specs.BlockedWorld.{blocked_air, wall_of, seen_kinds}
use Rattle.blocked_world.specs.SeenLaws.{wall_closed, blocked-is-air, end_open, seen_open, seen-blocked}
use Rattle.goals.specs.Goals.{Site, site_task}
use Rattle.demands.specs.Lawful.{support_of, LawfulStep, step_cost, LawfulSteps, cost_from, LawfulWay, way_cost}
use Rattle.demands.specs.TreeTheorems.{search_means}
use Rattle.demands.specs.ModeStatements.{open_task, blocked_in, rests_on_blocked, ModeStep, StepsMean, in_mode, StrictWays}

-- ---- what blocked Air is seen as

wall_no_air : (mode : Mode) → eqb (wall_of mode) air ≡ false
wall_no_air Published = refl
wall_no_air Strict = refl

-- it bears in the published mode, and there alone
wall_bears : (mode : Mode) → (mode ≡ Strict → ⊥) → 0 < bearing (wall_of mode)
unfolding bearing
wall_bears Published n = omega arith
wall_bears Strict n = absurd (n refl)

strict_bears_not : 0 < bearing (wall_of Strict) → ⊥
unfolding bearing
strict_bears_not h = omega arith

air-bears : 0 < bearing air
unfolding bearing
air-bears = omega arith

-- ---- one step

module _ (S : Site) (long : length S.kinds ≡ volume S.room) (blocked : List ℕ) (start goal : ℕ) where
  abbrev seen : Task
  seen = site_task S blocked start goal

  abbrev plain : Task
  plain = open_task S start goal

  -- what is not blocked Air is entered alike in both rooms, and blocked Air is not
  open_routeable : (v : ℕ) → v < volume S.room → blocked_air S.kinds blocked start goal v ≡ false → routeable seen v ≡ routeable plain v
  unfolding routeable
  open_routeable v h f = rw (seen_open S.kinds blocked start goal v S.mode (rw long h) f)

  end-routeable : (v : ℕ) → v < volume S.room → an_end start goal v ≡ true → routeable seen v ≡ routeable plain v
  end-routeable v h e = open_routeable v h (end_open S.kinds blocked start goal v e)

  not_entered : (v : ℕ) → v < volume S.room → routeable seen v ≡ true → blocked_air S.kinds blocked start goal v ≡ false
  unfolding routeable
  not_entered v h e =
      ask (blocked_air S.kinds blocked start goal v)
      (λ t. absurd (wall_closed S.mode (an_end start goal v) (rw (seen-blocked S.kinds blocked start goal v S.mode (rw long h) t) at e)))
      (λ f. f)

  -- what is beneath
  support_open : (v : ℕ) → v < volume S.room → rests_on_blocked S blocked start goal v ≡ false → support_of seen v ≡ support_of plain v
  support_open v h = go (beneath S.room v) refl
    where
      go : (place : Option ℕ) → beneath S.room v ≡ place → blocked_in S.kinds blocked start goal place ≡ false
          → kind_at (seen_kinds S.mode S.kinds blocked start goal) place ≡ kind_at S.kinds place
      go (Some u) e f = seen_open S.kinds blocked start goal u S.mode (rw long (beneath_in S.room v u h e)) f
      go None e f = refl

  support_blocked : (v : ℕ) → v < volume S.room → rests_on_blocked S blocked start goal v ≡ true → (support_of seen v ≡ wall_of S.mode) × (support_of plain v ≡ air)
  support_blocked v h = go (beneath S.room v) refl
    where
      go : (place : Option ℕ) → beneath S.room v ≡ place → blocked_in S.kinds blocked start goal place ≡ true
          → (kind_at (seen_kinds S.mode S.kinds blocked start goal) place ≡ wall_of S.mode) × (kind_at S.kinds place ≡ air)
      go (Some u) e t = (seen-blocked S.kinds blocked start goal u S.mode (rw long (beneath_in S.room v u h e)) t, blocked-is-air S.kinds blocked start goal u t)
      go None e t = never (cc)

  mode-step : (u v : ℕ) → LawfulStep seen u v → ModeStep S blocked start goal u v
  mode-step u v s =
      let free = not_entered v s.to_in s.enters in
      record {
        unblocked = record {
          to_in = s.to_in;
          aside = s.aside;
          rise = s.rise;
          enters = sym (open_routeable v s.to_in free) ∙ s.enters;
          stands = ask (rests_on_blocked S blocked start goal v)
              (λ t. rw (support_blocked v s.to_in t).1 air-bears)
              (λ f. rw (support_open v s.to_in f) at s.stands);
        };
        not_entered = free;
        not_rested_on = λ strict. ask (rests_on_blocked S blocked start goal v)
            (λ t. absurd (strict_bears_not (rw ((support_blocked v s.to_in t).0, strict) at s.stands)))
            (λ f. f);
      }

  lawful-step : (u v : ℕ) → ModeStep S blocked start goal u v → LawfulStep seen u v
  lawful-step u v m =
      let h = m.unblocked.to_in in
      record {
        to_in = h;
        aside = m.unblocked.aside;
        rise = m.unblocked.rise;
        enters = open_routeable v h m.not_entered ∙ m.unblocked.enters;
        stands = ask (rests_on_blocked S blocked start goal v)
            (λ t. rw (support_blocked v h t).0 (wall_bears S.mode (λ strict. never (cc (sym t ∙ m.not_rested_on strict)))))
            (λ f. rw (support_open v h f) m.unblocked.stands);
      }

  same-price : (u v : ℕ) → v < volume S.room → rests_on_blocked S blocked start goal v ≡ false → step_cost seen u v ≡ step_cost plain u v
  unfolding step_cost
  same-price u v h f = rw (support_open v h f)

  spared : (u v : ℕ) → v < volume S.room → rests_on_blocked S blocked start goal v ≡ true → step_cost seen u v + S.config.support.0 ≡ step_cost plain u v
  unfolding step_cost
  spared u v h t = rw ((support_blocked v h t).0, (support_blocked v h t).1, wall_no_air S.mode) (no_more _ _)
    where
      no_more : (a b : ℕ) → a + 0 + b ≡ a + b
      no_more a b = omega arith

  -- the steps of a search, once over both modes
  pub steps_mean : StepsMean S blocked start goal
  steps_mean = record {
    exactly = λ u v. (mode-step u v, lawful-step u v);
    price = λ u v m f. same-price u v m.unblocked.to_in f;
    free_support = λ u v m t. spared u v m.unblocked.to_in t;
  }

-- ---- strict ways

module _ (S : Site) (long : length S.kinds ≡ volume S.room) (blocked : List ℕ) (start goal : ℕ)
    (start_in : start < volume S.room) (goal_in : goal < volume S.room) where
  abbrev strict : Task
  strict = site_task (in_mode Strict S) blocked start goal

  -- steps of one task that are steps of another at the same price make ways that are
  module _ (other : Task) (step_so : (u v : ℕ) → LawfulStep strict u v → LawfulStep other u v × (step_cost other u v ≡ step_cost strict u v)) where
    steps-so : (l : List ℕ) (u t : ℕ) → LawfulSteps strict u l t → LawfulSteps other u l t × (cost_from other u l ≡ cost_from strict u l)
    steps-so [] u t w = (w, refl)
    steps-so (v ∷ l) u t w =
        let one = step_so u v w.0 in
        let later = steps-so l v t w.1 in
        ((one.0, later.0), rw (one.1, later.1))

  step_open : (u v : ℕ) → LawfulStep strict u v → LawfulStep (open_task S start goal) u v × (step_cost (open_task S start goal) u v ≡ step_cost strict u v)
  step_open u v s =
      let m = mode-step (in_mode Strict S) long blocked start goal u v s in
      (m.unblocked, sym (same-price (in_mode Strict S) long blocked start goal u v s.to_in (m.not_rested_on refl)))

  step-published : (u v : ℕ) → LawfulStep strict u v
      → LawfulStep (site_task (in_mode Published S) blocked start goal) u v × (step_cost (site_task (in_mode Published S) blocked start goal) u v ≡ step_cost strict u v)
  step-published u v s =
      let m = mode-step (in_mode Strict S) long blocked start goal u v s in (
        lawful-step (in_mode Published S) long blocked start goal u v (record { unblocked = m.unblocked; not_entered = m.not_entered; not_rested_on = λ e. never (cc) }),
        same-price (in_mode Published S) long blocked start goal u v s.to_in (m.not_rested_on refl) ∙ (step_open u v s).1,
      )

  -- an end is routeable in one room exactly if it is in the others
  start-same : (mode : Mode) → routeable (site_task (in_mode mode S) blocked start goal) start ≡ routeable (open_task S start goal) start
  start-same mode = end-routeable (in_mode mode S) long blocked start goal start start_in (start-is-end start goal)

  goal-same : (mode : Mode) → routeable (site_task (in_mode mode S) blocked start goal) goal ≡ routeable (open_task S start goal) goal
  goal-same mode = end-routeable (in_mode mode S) long blocked start goal goal goal_in (goal-is-end start goal)

  way_open : (after : List ℕ) → LawfulWay strict after → LawfulWay (open_task S start goal) after × (way_cost (open_task S start goal) after ≡ way_cost strict after)
  way_open after w =
      let on = steps-so (open_task S start goal) step_open after start goal w.leads in (
        record { start_in = start_in; start-free = sym (start-same Strict) ∙ w.start-free; goal-free = sym (goal-same Strict) ∙ w.goal-free; leads = on.0 },
        on.1,
      )

  way-published : (after : List ℕ) → LawfulWay strict after
      → LawfulWay (site_task (in_mode Published S) blocked start goal) after × (way_cost (site_task (in_mode Published S) blocked start goal) after ≡ way_cost strict after)
  way-published after w =
      let on = steps-so (site_task (in_mode Published S) blocked start goal) step-published after start goal w.leads in (
        record {
          start_in = start_in;
          start-free = start-same Published ∙ sym (start-same Strict) ∙ w.start-free;
          goal-free = goal-same Published ∙ sym (goal-same Strict) ∙ w.goal-free;
          leads = on.0;
        },
        on.1,
      )

  pub strict_ways : Good S.room → StrictWays S blocked start goal
  strict_ways G = record {
    published = way-published;
    unblocked = way_open;
    no_cheaper = λ D path path' cost cost' e e'.
        let L = (search_means strict G start_in goal_in).found-lawful path' cost' e' in
        let P = way-published L.after L.lawful in
        omega (arith, (search_means (site_task (in_mode Published S) blocked start goal) G start_in goal_in).found-cheapest D path cost e L.after P.0, P.1, L.adds-up);
  }
