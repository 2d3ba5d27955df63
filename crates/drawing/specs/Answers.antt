-- What `materialize_route` and `insert_repeaters` answer, and what every lent byte then holds. Each input determines all of it.
use Rattle.std.specs.Prelude.{Result, Ok, Err, ◌≡◌, Bool, true, ◌&&◌, List, ℕ, eqb, leb, ltb, length}
use Rattle.numbers.specs.Refusals.{done_number}
use Rattle.basics.specs.Tests.{either}
use Rattle.basics.specs.Lists.{every}
use Rattle.lent.specs.Lent.{touches, output_after}
use Rattle.room.specs.declared.Room.{Room}
use Rattle.room.specs.Room.{sides_good, volume}
use Rattle.room.specs.Units.{kind_known}
use Rattle.routing.specs.declared.Refusal.{Refusal}
use Rattle.routing.specs.declared.Refusal.TheVariants.{Sides, Buffer, Code, Position}
use Rattle.routing.specs.Answers.{refusal_number, Judgement}
use Rattle.drawing.specs.Drawing.{materialized, repeater_places, repeater_cells, repeater_facings, repeatered}

-- the cell is one of the room
abbrev pub cell_known : Room → ℕ → Bool
cell_known R cell = ltb cell (volume R)

-- number 6: the kinds are exactly V; and the list, if there is one, is long enough
abbrev pub buffers_good : Room → Bool → List ℕ → Bool
buffers_good R enough kinds = eqb (length kinds) (volume R) && enough

-- number 5: each kind is known, and so is the support's, if there is one
abbrev pub codes_good : Bool → List ℕ → Bool
codes_good known kinds = every kind_known kinds && known

-- "Refusals: 2, 6, 5, 4, touching nothing; 4 is for a path cell that isn't in the room"
unfoldable pub judged : Room → Bool → Bool → List ℕ → List ℕ → Judgement
judged R enough known kinds path =
    either (sides_good R)
    (either (buffers_good R enough kinds)
    (either (codes_good known kinds) (either (every (cell_known R) path) (Ok tt) (Err Position)) (Err Code)) (Err Buffer))
    (Err Sides)

-- a room that is changed in place, after a call that gave this number
abbrev pub kinds_after : ℕ → List ℕ → List ℕ → List ℕ
kinds_after number drawn kinds = either (touches number) drawn kinds

-- ---- materialize_route

abbrev pub drawn_number : Result (Unit {0}) Refusal → ℕ
drawn_number (Ok u) = done_number
drawn_number (Err why) = refusal_number why

abbrev pub drawn_judged : Room → ℕ → List ℕ → List ℕ → Judgement
drawn_judged R support kinds path = judged R true (kind_known support) kinds path

-- the answer that each input determines
unfoldable pub drawn_of : Room → ℕ → List ℕ → List ℕ → Result (Unit {0}) Refusal
drawn_of R support kinds path = drawn_judged R support kinds path

-- the promise of `materialize_route`
pub record RoutePromise (R : Room) (support : ℕ) (kinds path : List ℕ) (r : Result (Unit {0}) Refusal) (kinds' : List ℕ) : Type 0 where
  pub answer : r ≡ drawn_of R support kinds path
  pub kinds-is : kinds' ≡ kinds_after (drawn_number (drawn_of R support kinds path)) (materialized R support path kinds) kinds

-- ---- insert_repeaters

abbrev pub listed_for : Judgement → ℕ → Result ℕ Refusal
listed_for (Ok u) count = Ok count
listed_for (Err why) count = Err why

abbrev pub listed_number : Result ℕ Refusal → ℕ
listed_number (Ok count) = done_number
listed_number (Err why) = refusal_number why

-- "6 also for a repeater list shorter than the path": it is two slices
unfoldable pub list_enough : List ℕ → List ℕ → List ℕ → Bool
list_enough path cells facings = leb (length path) (length cells) && leb (length path) (length facings)

abbrev pub listed_judged : Room → List ℕ → List ℕ → List ℕ → List ℕ → Judgement
listed_judged R kinds path cells facings = judged R (list_enough path cells facings) true kinds path

-- the answer that each input determines: how many repeaters are listed
unfoldable pub listed_of : Room → ℕ → List ℕ → List ℕ → List ℕ → List ℕ → Result ℕ Refusal
listed_of R limit kinds path cells facings = listed_for (listed_judged R kinds path cells facings) (length (repeater_places R limit path))

-- the promise of `insert_repeaters`
pub record ListPromise (R : Room) (limit : ℕ) (kinds path cells facings : List ℕ) (r : Result ℕ Refusal) (kinds' cells' facings' : List ℕ) : Type 0 where
  pub answer : r ≡ listed_of R limit kinds path cells facings
  pub kinds-is : kinds' ≡ kinds_after (listed_number (listed_of R limit kinds path cells facings)) (repeatered R limit path kinds) kinds
  pub cells_is : cells' ≡ output_after (listed_number (listed_of R limit kinds path cells facings)) (repeater_cells R limit path) cells
  pub facings-is : facings' ≡ output_after (listed_number (listed_of R limit kinds path cells facings)) (repeater_facings R limit path) facings
