-- The totals of a route, from the promise of `dustroute_search` alone: what a caller reads in the values who lends four of them or more.
use Rattle.std.specs.Prelude.{◌≡◌, refl, ◌≢◌, List, ℕ, ◌+◌, ◌*◌, ◌≤◌, length, get_or, Ok, Err}
use Rattle.std.proofs.Common.{sym, ◌∙◌, arith, take_all}
use Rattle.lent.specs.Lent.{filled}
use Rattle.routing.specs.declared.Route.{Route}
use Rattle.routing.specs.declared.Refusal.{Refusal}
use Rattle.routing.specs.declared.Refusal.TheVariants.{Sides, Config, Buffer, Code, Position}
use Rattle.routing.specs.Answers.{Answer}
use Rattle.routing.specs.declared.Unrouted.TheVariants.{Refused, NotRouteable, NoRoute, LimitPassed, QueueFull}
use Rattle.routing.specs.Answers.{Input, answer_of, number_of, refusal_number}
use Rattle.reply.specs.Replies.{no_route, route_of}
use Rattle.exports.specs.Export.{Exported, values_of, values_told}
use Rattle.demands.specs.Supports.{TotalsHeld, TotalsTold}
use Rattle.demands.specs.SupportTheorems.{totals_add_up}
use Rattle.demands.specs.ExportTheorems.{promised, same}

-- the number and the values tell of an answer; a route's totals are those of the path as answered, and any other number tells zeros; where seven values
-- are lent, the fifth and the sixth add up to the third, and the sixth is the seventh times the support cost
pub record ExportTotals (I : Input) (path values : List ℕ) (r : ℕ) (path' values' : List ℕ) : Type 0 where
  pub answer : Answer
  pub number_is : r ≡ number_of answer
  pub values-are : values' ≡ values_told answer values
  pub told : TotalsTold I path answer path'
  pub none_told : r ≢ 0 → route_of answer ≡ no_route
  pub adds-up : 7 ≤ length values → r ≡ 0 → get_or values' 4 0 + get_or values' 5 0 ≡ get_or values' 2 0
  pub laid_each : 7 ≤ length values → r ≡ 0 → get_or values' 5 0 ≡ get_or values' 6 0 * I.config.support.0

refused-some : (why : Refusal) → refusal_number why ≢ 0
refused-some Sides e = omega arith
refused-some Config e = omega arith
refused-some Buffer e = omega arith
refused-some Code e = omega arith
refused-some Position e = omega arith

-- number 0 is a route's alone
routed : (a : Answer) → number_of a ≡ 0 → (w : Route) × (a ≡ Ok w)
routed (Ok w) e = (w, refl)
routed (Err (Refused why)) e = absurd (refused-some why e)
routed (Err (NotRouteable cell)) e = absurd (omega arith)
routed (Err (NoRoute x)) e = absurd (omega arith)
routed (Err (LimitPassed x)) e = absurd (omega arith)
routed (Err (QueueFull x)) e = absurd (omega arith)

none : (a : Answer) → number_of a ≢ 0 → route_of a ≡ no_route
none (Ok w) n = absurd (n refl)
none (Err (Refused why)) n = refl
none (Err (NotRouteable cell)) n = refl
none (Err (NoRoute x)) n = refl
none (Err (LimitPassed x)) n = refl
none (Err (QueueFull x)) n = refl

-- seven values and zeros behind them, where a route is told
module _ (w : Route) (values values' : List ℕ) (e : values' ≡ values_told (Ok w) values) (h : 7 ≤ length values) where
  all_told : values' ≡ filled (values_of (Ok w)) values
  all_told = rw (take_all (length values) (values_of (Ok w)) h) at e

  module _ {I : Input} {path path' : List ℕ} (H : TotalsHeld I path w path') where
    two_add_up : get_or values' 4 0 + get_or values' 5 0 ≡ get_or values' 2 0
    two_add_up = rw all_told H.adds-up

    each_laid : get_or values' 5 0 ≡ get_or values' 6 0 * I.config.support.0
    each_laid = rw all_told H.supports-are

pub export_totals : {I : Input} {path known previous classes queue values : List ℕ} {r : ℕ} {path' known' previous' classes' queue' values' : List ℕ}
    → Exported I path known previous classes queue values r path' known' previous' classes' queue' values' → 4 ≤ length values → ExportTotals I path values r path' values'
export_totals {I} {path} {known} {previous} {classes} {queue} {values} {r} {path'} {known'} {previous'} {classes'} {queue'} {values'} K h =
    let number : r ≡ number_of (answer_of I) = rw (same K h) at K.number in
    let said : values' ≡ values_told (answer_of I) values = rw (same K h) at K.values-is in
    let totals : TotalsTold I path (answer_of I) path' = totals_add_up I (promised K h) in
    record {
      answer = answer_of I;
      number_is = number;
      values-are = said;
      told = totals;
      none_told = λ n. none (answer_of I) (λ e. n (number ∙ e));
      adds-up = λ s z. let w = routed (answer_of I) (sym number ∙ z) in two_add_up w.0 values values' (rw w.1 at said) s (totals w.0 w.1);
      laid_each = λ s z. let w = routed (answer_of I) (sym number ∙ z) in each_laid w.0 values values' (rw w.1 at said) s (totals w.0 w.1);
    }
