-- What is proved of a route drawn by `materialize_route` and of its repeaters by `insert_repeaters`, from their promises on.
use Rattle.std.specs.Prelude.{Ok, Err, ◌≡◌, true, List, [], ◌∷◌, ℕ, ◌≤◌, ◌<◌, length, get_or}
use Rattle.std.proofs.Math.Path.{refl}
use Rattle.std.proofs.Common.{sym, ◌∙◌, inl, inr, arith}
use Rattle.basics.specs.Tests.{never, ask_same}
use Rattle.basics.specs.Lists.{In, in_at}
use Rattle.lent.specs.Lent.{filled}
use Rattle.room.specs.declared.Room.{Room}
use Rattle.room.specs.Units.{air, redstone_wire, repeater, kind_known}
use Rattle.repeaters.specs.Repeaters.{path_cell}
use Rattle.routing.specs.declared.Refusal.{Refusal}
use Rattle.routing.specs.Answers.{Judgement}
use Rattle.drawing.specs.Drawing.{materialized, passage_facing, repeater_places, repeater_cells, repeater_facings, repeatered}
use Rattle.drawing.specs.Answers.{drawn_judged, drawn_of, RoutePromise, listed_for, listed_judged, listed_of, ListPromise}
use Rattle.drawing.specs.Listing.{Drawable}
use Rattle.drawing.specs.Statements.{Unnamed, NoneBeneathEarlier, WiredOrKept, wired, repeated, kept, NotInner, Spaced, EntryAt}
use Rattle.drawing.specs.PromiseLaws.{drawable, listable, untouched}
use Rattle.drawing.specs.RouteLaws.{route-other, route-full, route-wire}
use Rattle.drawing.specs.RepeaterLaws.{places-straight, places_ascend, places-limit, places-reached, limit-none, get_d_map, not_mapped, mapped_below, put_other, put_in}

-- a member of the list, or none
ask_in : {X : Type 0} (v : ℕ) (l : List ℕ) → (In v l → X) → ((In v l → ⊥) → X) → X
ask_in v [] there absent = absent (λ i. i)
ask_in v (x ∷ xs) there absent = ask_same v x (λ e. there (inl e)) (λ n. ask_in v xs (λ i. there (inr i)) (λ o. absent (λ j. neither n o j)))
  where
    neither : (v ≡ x → ⊥) → (In v xs → ⊥) → In v (x ∷ xs) → ⊥
    neither n o (inl e) = n e
    neither n o (inr i) = o i

-- ---- materialize_route

module _ {R : Room} {support : ℕ} {kinds path kinds' : List ℕ} where
  -- "touching nothing"
  pub refused-route : {why : Refusal} → RoutePromise R support kinds path (Err why) kinds' → kinds' ≡ kinds
  refused-route {why} P = rw (← P.answer, untouched why) at P.kinds-is

  module _ (P : RoutePromise R support kinds path (Ok tt) kinds') where
    route-is : kinds' ≡ materialized R support path kinds
    route-is = rw (← P.answer) at P.kinds-is

    fit-route : drawn_judged R support kinds path ≡ Ok tt
    unfolding drawn_of
    fit-route = sym P.answer

    route-drawable : Drawable R kinds path
    route-drawable = drawable true (kind_known support) fit-route

    -- "Only the named cells may change": the path's and those right beneath them
    pub others_keep : (v d : ℕ) → Unnamed R path v → get_or kinds' v d ≡ get_or kinds v d
    others_keep v d U = rw route-is (route-other R support path kinds v d U)

    -- and of these only where Air stood
    pub blocks-keep : (v : ℕ) → (get_or kinds v air ≡ air → ⊥) → get_or kinds' v air ≡ get_or kinds v air
    blocks-keep v n = rw route-is (route-full R support path kinds v n)

    -- where the path holds no cell right beneath an earlier one, each of its cells that was Air holds wire
    pub wire_lies : NoneBeneathEarlier R path → (k : ℕ) → k < length path → get_or kinds (path_cell path k) air ≡ air → get_or kinds' (path_cell path k) air ≡ redstone_wire
    wire_lies N k h z =
        let D = route-drawable in
        rw route-is (route-wire R support D.good path kinds N k h (rw D.kinds-long (D.path_in.below k h)) z)

-- ---- insert_repeaters

module _ {R : Room} {limit : ℕ} {kinds path cells facings kinds' cells' facings' : List ℕ} where
  pub refused-list : {why : Refusal} → ListPromise R limit kinds path cells facings (Err why) kinds' cells' facings'
      → (kinds' ≡ kinds) × (cells' ≡ cells) × (facings' ≡ facings)
  refused-list {why} P =
      (rw (← P.answer, untouched why) at P.kinds-is, rw (← P.answer, untouched why) at P.cells_is, rw (← P.answer, untouched why) at P.facings-is)

  module _ {count : ℕ} (P : ListPromise R limit kinds path cells facings (Ok count) kinds' cells' facings') where
    list-is : kinds' ≡ repeatered R limit path kinds
    list-is = rw (← P.answer) at P.kinds-is

    -- the list: the repeaters' cells and facings, zeros behind
    pub cells-listed : cells' ≡ filled (repeater_cells R limit path) cells
    cells-listed = rw (← P.answer) at P.cells_is

    pub facings-listed : facings' ≡ filled (repeater_facings R limit path) facings
    facings-listed = rw (← P.answer) at P.facings-is

    -- "Only the named cells may change": the path's inner ones
    pub outer-keep : (v d : ℕ) → NotInner path v → get_or kinds' v d ≡ get_or kinds v d
    outer-keep v d N =
        rw list-is
        (put_other (repeater_cells R limit path) kinds v d
        (not_mapped (path_cell path) (repeater_places R limit path) v
        (λ p i. let S = places-straight R limit path p i in N.off-inner p S.inner S.not_last)))

    fit-list : listed_judged R kinds path cells facings ≡ Ok tt
    unfolding listed_of
    fit-list = by (listed_judged R kinds path cells facings) P.answer
      where
        by : (j : Judgement) → Ok count ≡ listed_for j (length (repeater_places R limit path)) → j ≡ Ok tt
        by (Ok _) e = refl
        by (Err why) e = never (cc)

    listed_in : (v : ℕ) → In v (repeater_cells R limit path) → v < length kinds
    listed_in v i =
        let D = (listable fit-list).drawable in
        mapped_below (path_cell path) (repeater_places R limit path) v (length kinds)
        (λ p j.
        let last = (places-straight R limit path p j).not_last in
        rw D.kinds-long (D.path_in.below p (omega arith)))
        i

    -- how many there are
    pub count-is : count ≡ length (repeater_places R limit path)
    unfolding listed_of
    count-is =
        let e : Ok count ≡ Ok (length (repeater_places R limit path)) = rw fit-list at P.answer in
        cc

    -- a Repeater stands where a cell is listed, and every other cell keeps its kind
    pub listed_stand : (v d : ℕ) → In v (repeater_cells R limit path) → get_or kinds' v d ≡ repeater
    listed_stand v d i = rw list-is (put_in (repeater_cells R limit path) kinds v d (listed_in v i) i)

    pub unlisted_keep : (v d : ℕ) → (In v (repeater_cells R limit path) → ⊥) → get_or kinds' v d ≡ get_or kinds v d
    unlisted_keep v d o = rw list-is (put_other (repeater_cells R limit path) kinds v d o)

-- ---- one after the other

-- of a path on which no cell stands right beneath an earlier one: drawn, and then given its repeaters, each of its cells holds wire or a repeater, or the
-- block that stood there before
module _ {R : Room} {support limit : ℕ} {kinds path cells facings kinds₁ kinds₂ cells' facings' : List ℕ} {count : ℕ}
    (P : RoutePromise R support kinds path (Ok tt) kinds₁) (Q : ListPromise R limit kinds₁ path cells facings (Ok count) kinds₂ cells' facings') where
  pub path-holds : NoneBeneathEarlier R path → (k : ℕ) → k < length path → WiredOrKept (get_or kinds (path_cell path k) air) (get_or kinds₂ (path_cell path k) air)
  path-holds N k h =
      ask_in (path_cell path k) (repeater_cells R limit path)
      (λ i. repeated (listed_stand Q (path_cell path k) air i))
      (λ o.
      let same : get_or kinds₂ (path_cell path k) air ≡ get_or kinds₁ (path_cell path k) air = unlisted_keep Q (path_cell path k) air o in
      ask_same (get_or kinds (path_cell path k) air) air
      (λ z. wired (same ∙ wire_lies P N k h z))
      (λ n. kept n (same ∙ blocks-keep P (path_cell path k) n)))

-- the list is in path order; a repeater comes at least the run limit behind the one before, or behind the path's first cell
pub in_path_order : (R : Room) (limit : ℕ) (path : List ℕ) → Spaced 1 (repeater_places R limit path)
in_path_order R limit path = places_ascend R limit path

pub limit-apart : (R : Room) (limit : ℕ) (path : List ℕ) → Spaced limit (repeater_places R limit path)
limit-apart R limit path = places-limit R limit path

pub limit-first : (R : Room) (limit : ℕ) (path : List ℕ) (p : ℕ) → In p (repeater_places R limit path) → limit ≤ p
limit-first R limit path = places-reached R limit path

-- each entry has the cell of its place of the path, and the facing of its own passage, in and out the same
pub entries : (R : Room) (limit : ℕ) (path : List ℕ) (j : ℕ) → j < length (repeater_places R limit path)
    → EntryAt R limit path j (get_or (repeater_places R limit path) j 0)
entries R limit path j h = record {
  place_is = refl;
  cell-is = get_d_map (path_cell path) (repeater_places R limit path) j h;
  facing-is = get_d_map (passage_facing R path) (repeater_places R limit path) j h;
  straight = places-straight R limit path (get_or (repeater_places R limit path) j 0) (in_at (repeater_places R limit path) j 0 h);
}

-- "A run limit of 0 acts as the Rust does": as 1
pub no_limit : (R : Room) (path : List ℕ) → repeater_places R 0 path ≡ repeater_places R 1 path
no_limit R path = limit-none R path _ 1 0
