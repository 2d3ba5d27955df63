-- A lawful route, drawn: such is each that a search answers (`RouteHeld`, the meaning of its answer). It isn't refused; and where no cell of it stands right
-- beneath an earlier one, each of its cells then holds wire or a repeater.
use Rattle.std.specs.Prelude.{Ok, ◌≡◌, refl, ◌⊎◌, true, false, List, [], ◌∷◌, ℕ, zero, suc, ◌<◌, eqb, length, get_or}
use Rattle.std.proofs.Common.{sym, ◌∙◌, inl, inr, not-suc-le-zero, le_of_suc-le-suc, arith, eqb-true, lt-ltb, eq-eqb}
use Rattle.basics.specs.Tests.{either, ask, never, and_both}
use Rattle.basics.specs.Lists.{every}
use Rattle.room.specs.Room.{volume}
use Rattle.room.specs.Units.{air, redstone_wire, repeater, kind_known}
use Rattle.room_search.specs.Routing.{Task, routeable, routeable_kind, an_end}
use Rattle.routing.specs.Answers.{Input, task_of}
use Rattle.routing.specs.PromiseLaws.{admitted}
use Rattle.repeaters.specs.Repeaters.{path_cell}
use Rattle.demands.specs.Lawful.{LawfulStep, LawfulSteps}
use Rattle.demands.specs.Statements.{Lawful, Unrefused}
use Rattle.drawing.specs.Answers.{cell_known, judged, drawn_of, RoutePromise, ListPromise}
use Rattle.drawing.specs.Statements.{NoneBeneathEarlier, WiredOrKept, wired, repeated, kept}
use Rattle.drawing.specs.Theorems.{path-holds}
use Rattle.drawing_claims.specs.FitLaws.{RoomKnown, fit-known}

-- a cell that is routeable is Air, or holds wire
routeable-holds : (T : Task) (v : ℕ) → routeable T v ≡ true → (get_or T.kinds v air ≡ air) ⊎ (get_or T.kinds v air ≡ redstone_wire)
unfolding routeable routeable_kind
routeable-holds T v e =
    ask (eqb (get_or T.kinds v air) air)
    (λ t. inl (eqb-true (get_or T.kinds v air) air t))
    (λ f. ask (an_end T.start T.goal v)
    (λ i. inr (eqb-true (get_or T.kinds v air) redstone_wire (rw (f, i) at e)))
    (λ o. let no : false ≡ true = rw (f, o) at e in never (cc)))

-- each cell of a lawful way is routeable, and one of the room
way-routeable : (T : Task) (u : ℕ) (after : List ℕ) (t : ℕ) → routeable T u ≡ true → LawfulSteps T u after t → (k : ℕ) → k < length (u ∷ after)
    → routeable T (path_cell (u ∷ after) k) ≡ true
way-routeable T u after t s L zero h = s
way-routeable T u [] t s L (suc k) h = absurd (not-suc-le-zero (le_of_suc-le-suc h))
way-routeable T u (v ∷ l) t s L (suc k) h = way-routeable T v l t L.0.enters L.1 k (le_of_suc-le-suc h)

way-inside : (T : Task) (u : ℕ) (after : List ℕ) (t : ℕ) → u < volume T.room → LawfulSteps T u after t → every (cell_known T.room) (u ∷ after) ≡ true
way-inside T u [] t h L = and_both (lt-ltb u (volume T.room) h) refl
way-inside T u (v ∷ l) t h L = and_both (lt-ltb u (volume T.room) h) (way-inside T v l t L.0.to_in L.1)

-- a search's route can be drawn, with supports of any known kind
pub route_is_drawn : (I : Input) → Unrefused I → {path : List ℕ} {cost : ℕ} → Lawful (task_of I) path cost → (support : ℕ) → kind_known support ≡ true
    → drawn_of I.room support I.kinds path ≡ Ok tt
unfolding drawn_of judged
route_is_drawn I U {path} L support known =
    let p : RoomKnown I = fit-known I U.fit in
    let long = eq-eqb (length I.kinds) (volume I.room) (admitted U.fit).kinds-long in
    let inside : every (cell_known I.room) path ≡ true =
    rw L.begins (way-inside (task_of I) I.start L.after I.goal L.lawful.start_in L.lawful.leads) in
    rw (p.sides, long, p.kinds, known, inside)

-- drawn, and then given its repeaters
module _ {T : Task} {path : List ℕ} {cost support limit : ℕ} {cells facings kinds₁ kinds₂ cells' facings' : List ℕ} {count : ℕ} (L : Lawful T path cost)
    (P : RoutePromise T.room support T.kinds path (Ok tt) kinds₁) (Q : ListPromise T.room limit kinds₁ path cells facings (Ok count) kinds₂ cells' facings') where
  pub route-holds : NoneBeneathEarlier T.room path → (k : ℕ) → k < length path
      → (get_or kinds₂ (path_cell path k) air ≡ redstone_wire) ⊎ (get_or kinds₂ (path_cell path k) air ≡ repeater)
  route-holds N k h = by (path-holds P Q N k h) (routeable-holds T (path_cell path k) free)
    where
      free : routeable T (path_cell path k) ≡ true
      free = rw L.begins (way-routeable T T.start L.after T.goal L.lawful.start-free L.lawful.leads k (rw L.begins at h))

      by : {before after : ℕ} → WiredOrKept before after → (before ≡ air) ⊎ (before ≡ redstone_wire) → (after ≡ redstone_wire) ⊎ (after ≡ repeater)
      by (wired e) f = inl e
      by (repeated e) f = inr e
      by (kept n e) (inl z) = absurd (n z)
      by (kept n e) (inr w) = inl (e ∙ w)
