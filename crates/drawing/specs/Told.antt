-- What `dustroute_materialize_route` and `dustroute_insert_repeaters` return, and what every lent byte then holds: the answers of `materialize_route` and
-- `insert_repeaters` as numbers. Each input determines all of it.
use Rattle.std.specs.Prelude.{Result, Ok, Err, ◌≡◌, List, [], ◌∷◌, ℕ, leb, length}
use Rattle.basics.specs.Tests.{either}
use Rattle.lent.specs.Lent.{output_after}
use Rattle.room.specs.declared.Room.{Room}
use Rattle.room.specs.Room.{sides_good}
use Rattle.routing.specs.declared.Refusal.{Refusal}
use Rattle.routing.specs.declared.Refusal.TheVariants.{Sides, Buffer}
use Rattle.drawing.specs.Drawing.{materialized, repeater_cells, repeater_facings, repeatered}
use Rattle.drawing.specs.Answers.{kinds_after, drawn_number, drawn_of, listed_number, listed_of}

-- fewer values than an answer comes to are number 6, at 6's place: 2 is judged before it
abbrev pub short_refusal : Room → Refusal
short_refusal R = either (sides_good R) Buffer Sides

-- ---- materialize_route

-- one value: the detail, which is 0
abbrev pub route_value_count : ℕ
route_value_count = 1

abbrev pub route_values : List ℕ
route_values = 0 ∷ []

unfoldable pub drawn_told : Room → ℕ → List ℕ → List ℕ → List ℕ → Result (Unit {0}) Refusal
drawn_told R support kinds path values = either (leb route_value_count (length values)) (drawn_of R support kinds path) (Err (short_refusal R))

-- the promise of `dustroute_materialize_route`; the support's kind is any number, and one that names no kind is number 5
pub record RouteTold (R : Room) (support : ℕ) (kinds path values : List ℕ) (r : ℕ) (kinds' values' : List ℕ) : Type 0 where
  pub number : r ≡ drawn_number (drawn_told R support kinds path values)
  pub kinds-is : kinds' ≡ kinds_after (drawn_number (drawn_told R support kinds path values)) (materialized R support path kinds) kinds
  pub values-is : values' ≡ output_after (drawn_number (drawn_told R support kinds path values)) route_values values

-- ---- insert_repeaters

-- two values: the detail, which is 0, and how many repeaters are listed
abbrev pub list_value_count : ℕ
list_value_count = 2

abbrev pub count_of : Result ℕ Refusal → ℕ
count_of (Ok count) = count
count_of (Err why) = 0

abbrev pub list_values : Result ℕ Refusal → List ℕ
list_values a = 0 ∷ count_of a ∷ []

unfoldable pub listed_told : Room → ℕ → List ℕ → List ℕ → List ℕ → List ℕ → List ℕ → Result ℕ Refusal
listed_told R limit kinds path cells facings values =
    either (leb list_value_count (length values)) (listed_of R limit kinds path cells facings) (Err (short_refusal R))

-- the promise of `dustroute_insert_repeaters`
pub record ListTold (R : Room) (limit : ℕ) (kinds path cells facings values : List ℕ) (r : ℕ) (kinds' cells' facings' values' : List ℕ) : Type 0 where
  pub number : r ≡ listed_number (listed_told R limit kinds path cells facings values)
  pub kinds-is : kinds' ≡ kinds_after (listed_number (listed_told R limit kinds path cells facings values)) (repeatered R limit path kinds) kinds
  pub cells_is : cells' ≡ output_after (listed_number (listed_told R limit kinds path cells facings values)) (repeater_cells R limit path) cells
  pub facings-is : facings' ≡ output_after (listed_number (listed_told R limit kinds path cells facings values)) (repeater_facings R limit path) facings
  pub values-is :
      values'
      ≡ output_after (listed_number (listed_told R limit kinds path cells facings values)) (list_values (listed_told R limit kinds path cells facings values)) values
