-- The takings one after another: the invariant of the search's loop, its beginning and its ends.
use Rattle.std.specs.Prelude.{◌≡◌, refl, List, [], ◌∷◌, ℕ, suc, ◌+◌, ◌-◌, ◌*◌, ◌≤◌, ◌<◌, length, get_or, set, replicate}
use Rattle.std.proofs.Common.{sym, ap, ◌∙◌, suc-mul, arith}
use Rattle.basics.specs.Zeros.{cleared-to}
use Rattle.room.specs.declared.Room.{Room}
use Rattle.room.specs.declared.RouterConfig.{RouterConfig}
use Rattle.room.specs.Room.{volume, distance_at, distance}
use Rattle.room.specs.Units.{dearest}
use Rattle.room.specs.UnitLaws.{few-steps}
use Rattle.best_first.specs.Search.{Graph, no_route, first_state, best_first, Answer}
use Rattle.best_first.proofs.Entries.{Same}
use Rattle.best_first.specs.Statements.{Bounded}
use Rattle.best_first.proofs.Loops.{Going, going-first, going-alike, going-bounded, going-none}
use Rattle.std.specs.declared.ops.ControlFlow.TheVariants.{Continue, Break}
use Rattle.room_search.specs.declared.Field.{Field}
use Rattle.room_search.specs.declared.Work.{Work}
use Rattle.room_search.specs.declared.Spot.{Spot}
use Rattle.room_search.specs.declared.Outcome.{Outcome}
use Rattle.room_search.specs.Routing.{places_in, estimate_of, graph_of}
use Rattle.room_search.specs.Held.{entries_in, Joined, held}
use Rattle.room_search.specs.HeldLaws.{entries_none}
use Rattle.room_search.specs.GraphLaws.{sound}
use Rattle.room_search.specs.Fields.{FieldFits}
use Rattle.room_search.specs.TriedMoves.{max_known, places_of, HeapReady, WidthFits}
use Rattle.room_search.specs.Takings.{graph_over, Takeable, OutcomeTold, TakingCame, Fresh, spot_of, Searchable, Showable}
use Rattle.room_search.specs.declared.Outcome.TheVariants.{Arrived, NoRoute, LimitPassed, QueueFull}

-- a step more than V - 1 is V steps
one-more-step : (n d : ℕ) → 0 < n → (n - 1) * d + d ≡ n * d
one-more-step n d h =
    let e : suc (n - 1) ≡ n = omega arith in
    sym (suc-mul (n - 1) d) ∙ ap (λ (k : ℕ). k * d) e

-- the search from its first state comes to the same as from here; of the queue as it was at first only the length counts
pub record Running (F : Field) (queue₀ : List ℕ) (start : ℕ) (s : Work) (expanded : ℕ) : Type 0 where
  pub going : Going (graph_over F start queue₀) F.config.limit.0 (best_first (graph_over F start queue₀) F.config.limit.0) (held s expanded)
  pub ready : HeapReady s
  pub kept : length s.queue.now ≡ length queue₀
  pub width_fits : WidthFits F.room F.config s.line.width

-- the start is known at cost 0 and waits
pub running_first : {F : Field} {s : Work} {start : Spot} → Fresh F s start → (t : Work) (key : ℕ) → length t.queue.now ≡ length s.queue.now
    → key ≡ estimate_of (distance_at start.at F.goal.at) → Joined s.line.width s.queue.now s.line.waiting key s.line.serial start.cell t.queue.now
    → t.known.now ≡ set s.known.now start.cell 1 → t.previous.now ≡ s.previous.now
    → t.line ≡ record { waiting = 1; serial = s.line.serial; width = s.line.width } → Running F t.queue.now start.cell t 0
unfolding graph_of first_state held distance
running_first {F} {s} {start} B t key same e P k b w = record {
  going = going-alike (going-first (graph_over F start.cell t.queue.now) F.config.limit.0 some) (record {
    known = rw k (ap (λ (l : List ℕ). set l start.cell 1) (sym B.known_zero));
    previous = rw b (sym B.previous_zero);
    waiting = rw (w, ← B.start-placed.is, ← F.fits.goal-placed.is) first;
    serial = rw (w, B.serial_zero);
    expanded = refl;
  });
  ready = record { heap = rw w (rw B.none-wait at P.order); fits = rw w some };
  kept = refl;
  width_fits = rw w B.width_fits;
}
  where
    some : 1 ≤ places_of t.queue.now
    some = omega (arith, B.places-some, ap places_in same)

    first : Same (record { key = estimate_of (distance_at start.at F.goal.at); serial = 0; cell = start.cell } ∷ []) (entries_in s.line.width t.queue.now 1)
    first = rw (B.none-wait, B.serial_zero, entries_none s.line.width s.queue.now, e) at P.same

module _ {F : Field} {queue₀ : List ℕ} {start : ℕ} (A : start < volume F.room) {s : Work} {expanded : ℕ} (I : Running F queue₀ start s expanded) where
  abbrev G : Graph
  G = graph_over F start queue₀

  bounds : Bounded G 12 (dearest F.config) (held s expanded)
  bounds = going-bounded (sound F.room F.config (λ v. get_or F.classes.now v 0) start F.goal.cell (places_of queue₀) A F.fits.goal-placed.inside) I.going

  known-most : (volume F.room - 1) * dearest F.config ≤ max_known
  known-most = few-steps F.fits.config-good (omega arith)

  pub running_within : expanded ≤ F.config.limit.0
  unfolding held
  running_within = I.going.within

  -- the next entry can be taken
  pub running_takeable : 0 < s.line.waiting → Takeable F s
  unfolding held graph_of
  running_takeable some = let d = one-more-step (volume F.room) (dearest F.config) (omega (arith, A)) in record {
    known-long = bounds.known-long;
    previous-long = bounds.previous-long;
    some = some;
    ready = I.ready;
    cells = λ e i. (bounds.cell_in e i, bounds.cell-known e i);
    costs = λ v. omega (arith, bounds.cost v, known-most);
    serial-most = omega (arith, bounds.serial, running_within, F.fits.config-good.ranges.limit-most);
    keys_in_one = λ e v. omega (arith, bounds.cost v, I.width_fits.keys e, d);
  }

  module _ {t : Work} where
    pub running_on : {x : Unit {0}} → length t.queue.now ≡ length s.queue.now → TakingCame F s expanded (Continue x) t → Running F queue₀ start t (expanded + 1)
    running_on same T =
        let W = T.goes start (best_first G F.config.limit.0) A (rw I.kept I.going) in
        record { going = rw I.kept at W.0; ready = W.1; kept = same ∙ I.kept; width_fits = rw W.2 I.width_fits }

    pub running_ended : {o : Outcome} → TakingCame F s expanded (Break o) t → OutcomeTold G (best_first G F.config.limit.0) t.known.now t.previous.now o
    running_ended T = rw I.kept at (T.goes start (best_first G F.config.limit.0) A (rw I.kept I.going))

  -- nothing waits any more
  pub running_none : s.line.waiting ≡ 0 → best_first G F.config.limit.0 ≡ no_route expanded
  unfolding held
  running_none e = going-none I.going (rw e (entries_none s.line.width s.queue.now))

-- ---- cleared memory

pub searchable-fresh : {R : Room} {C : RouterConfig} {classes known₀ previous₀ queue : List ℕ} {start goal : ℕ}
    → Searchable R C classes known₀ previous₀ queue start goal → {F : Field} → F.room ≡ R → F.config ≡ C
    → {s : Work} → s.known.now ≡ replicate (length known₀) 0 → s.previous.now ≡ replicate (length previous₀) 0 → s.queue.now ≡ queue
    → s.line.waiting ≡ 0 → s.line.serial ≡ 0 → WidthFits F.room F.config s.line.width → {from : Spot} → from ≡ spot_of R start → Fresh F s from
searchable-fresh S r c k p q w n f t = record {
  known_zero = rw r (cleared-to S.known-long k);
  previous_zero = rw r (cleared-to S.previous-long p);
  start-placed = rw (t, r) (record { inside = S.start_in; is = refl });
  places-some = rw q S.places-some;
  none-wait = w;
  serial_zero = n;
  width_fits = f;
}

pub searchable-fits : {R : Room} {C : RouterConfig} {classes known₀ previous₀ queue : List ℕ} {start goal : ℕ}
    → Searchable R C classes known₀ previous₀ queue start goal → {to : Spot} → to ≡ spot_of R goal → FieldFits R C classes to
searchable-fits S t = record {
  good = S.good;
  config-good = S.config-good;
  classes-long = S.classes-long;
  goal-placed = rw t (record { inside = S.goal_in; is = refl });
}

-- the path of a search that arrived can be written
pub told_showable : (G : Graph) (answer : Answer) (o : Outcome) (known previous : List ℕ) → length previous ≡ G.size → OutcomeTold G answer known previous o → Showable o G.goal known previous
told_showable G answer (Arrived x) known previous e t = (λ v. rw e (t.previous-inside v), t.reached)
told_showable G answer (NoRoute x) known previous e t = tt
told_showable G answer (LimitPassed x) known previous e t = tt
told_showable G answer (QueueFull x) known previous e t = tt
