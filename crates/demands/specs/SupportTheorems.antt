-- The totals of a route, from the promise of the search alone: at any costs they are those of the path as answered, and add up to its cost.
use Rattle.std.specs.Prelude.{◌≡◌, refl, ◌⊎◌, List, [], ◌∷◌, ℕ, ◌+◌, ◌*◌, eqb, length, Ok}
use Rattle.std.proofs.Common.{sym, ap, ◌∙◌, inl, inr, zero-mul, one-mul, add-mul, arith}
use Rattle.basics.specs.Tests.{ask, never}
use Rattle.room.specs.Units.{air}
use Rattle.best_first.specs.Search.{Answer, route, no_route, limit-passed, queue-full}
use Rattle.room_search.specs.Routing.{Task, searched}
use Rattle.routing.specs.declared.Route.{Route}
use Rattle.routing.specs.Answers as public
use Rattle.routing.specs.Totals.{step_of, laid_at, steps_from, laid_along, path_steps, path_laid}
use Rattle.routing.specs.Answers.{Input, task_of, answered, answer_of, number_of, Promise}
use Rattle.reply.specs.Replies.{route_of}
use Rattle.demands.specs.Lawful.{support_of, step_cost, cost_from, way_cost}
use Rattle.demands.specs.Statements.{Unrefused}
use Rattle.demands.specs.Supports.{way_steps, way_laid, TotalsHeld, TotalsTold}
use Rattle.demands.specs.Theorems.{Unsearched, ready, said, searched_or_not, route-lawful}

-- ---- what a way costs is its steps and its new supports, whatever cells it has

module _ (T : Task) where
  abbrev each : ℕ
  each = T.config.support.0

  step_in_two : (u v : ℕ) → step_cost T u v ≡ step_of T.room T.config u v + laid_at T.room T.kinds v * each
  unfolding step_cost step_of laid_at
  step_in_two u v = ask (eqb (support_of T v) air) (λ t. rw (t, one-mul)) (λ f. rw (f, zero-mul))

  from_in_two : (u : ℕ) (l : List ℕ) → cost_from T u l ≡ steps_from T.room T.config u l + laid_along T.room T.kinds l * each
  from_in_two u [] = rw zero-mul
  from_in_two u (v ∷ l) =
      omega (arith, step_in_two u v, from_in_two v l, add-mul (laid_at T.room T.kinds v) (laid_along T.room T.kinds l) each)

  pub cost_in_two : (after : List ℕ) → way_cost T after ≡ way_steps T after + way_laid T after * each
  cost_in_two after = from_in_two T.start after

-- ---- of the public search, from its promise alone

module _ (I : Input) {path known previous classes queue : List ℕ} {r : public.Answer} {path' known' previous' classes' queue' : List ℕ}
    (K : Promise I path known previous classes queue r path' known' previous' classes' queue') where
  held : (w : Route) → r ≡ Ok w → Unrefused I ⊎ Unsearched (answer_of I) → TotalsHeld I path w path'
  held w z (inr n) = absurd (omega (arith, n.some, ap number_of (sym K.answer ∙ z)))
  held w z (inl U) = go (searched (task_of I)) refl (sym (said I U) ∙ sym K.answer ∙ z)
    where
      go : (a : Answer) → searched (task_of I) ≡ a → answered (task_of I) a ≡ Ok w → TotalsHeld I path w path'
      go (route cells cost x) e q =
          let T = task_of I in
          let L = route-lawful (ready I U) e in
          let laid : w.laid ≡ way_laid T L.after = sym (ap (λ (a : public.Answer). (route_of a).laid) q) ∙ ap (path_laid I.room I.kinds) L.begins in
          let steps : w.steps.0 ≡ way_steps T L.after = sym (ap (λ (a : public.Answer). (route_of a).steps.0) q) ∙ ap (path_steps I.room I.config) L.begins in
          let supports : w.supports.0 ≡ w.laid * each T = sym (ap (λ (a : public.Answer). (route_of a).supports.0) q) ∙ ap (λ (n : ℕ). n * each T) (ap (λ (a : public.Answer). (route_of a).laid) q) in
          let c : cost ≡ w.cost.0 = ap (λ (a : public.Answer). (route_of a).cost.0) q in
          record {
            after = L.after;
            path-is = rw L.begins at (rw (said I U, e, e) at K.path-is);
            length_is = sym (ap (λ (a : public.Answer). (route_of a).length) q) ∙ ap length L.begins;
            lawful = L.lawful;
            steps-are = steps;
            laid-are = laid;
            supports-are = supports;
            adds-up = omega (arith, steps, supports, ap (λ (n : ℕ). n * each T) laid, cost_in_two T L.after, L.adds-up, c);
          }
      go (no_route x) e q = never (cc)
      go (limit-passed x) e q = never (cc)
      go (queue-full x) e q = never (cc)

  -- at any costs a route's totals are those of the path as answered, and add up to its cost
  pub totals_add_up : TotalsTold I path r path'
  totals_add_up w z = held w z (searched_or_not I)
