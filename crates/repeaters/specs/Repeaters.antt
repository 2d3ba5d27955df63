-- The repeaters of a net's tree, as docs/RULES.md, The tree of one net, has them: tree neighbours, the cells where a repeater may stand, the runs, the
-- tails; the path from the source is `root_path` of `walk`. Definitions alone; their laws are in the files named Laws.
use Rattle.std.specs.Prelude.{Bool, true, false, not, ◌&&◌, ◌||◌, List, [], ◌∷◌, ℕ, zero, suc, ◌+◌, ◌-◌, ◌*◌, ltb, eqb, length, get_or, set}
use Rattle.basics.specs.Tests.{either}
use Rattle.basics.specs.Lists.{any}
use Rattle.room.specs.declared.Room.{Room}
use Rattle.room.specs.declared.Pos.{Pos}
use Rattle.room.specs.Room.{volume, pos_of}
use Rattle.room.specs.Units.{no_facing, north, east, south, west}
use Rattle.routing_resources.specs.Marks.{no_marks, is_marked}
use Rattle.ends.specs.declared.Tap.{Tap}
use Rattle.walk.specs.Walks.{parents_from, root_path}
use Rattle.basics.specs.Folds.{along}

-- ---- the tree

-- u and v are the two cells of a step, either way round
unfoldable pub is_step : ℕ → ℕ → ℕ → ℕ → Bool
is_step a b u v = (eqb a u && eqb b v) || (eqb b u && eqb a v)

-- u and v stand next to each other on the branch
unfoldable pub beside_on : List ℕ → ℕ → ℕ → Bool
beside_on [] u v = false
beside_on (a ∷ []) u v = false
beside_on (a ∷ (b ∷ rest)) u v = is_step a b u v || beside_on (b ∷ rest) u v

-- and on some branch: they are tree neighbours
unfoldable pub neighbouring : List (List ℕ) → ℕ → ℕ → Bool
neighbouring branches u v = any (λ branch. beside_on branch u v) branches

abbrev pub cons_if : Bool → ℕ → List ℕ → List ℕ
cons_if true v vs = v ∷ vs
cons_if false v vs = vs

-- the cells that pass the test, of n from v on, in number order
unfoldable pub cells_passing : (ℕ → Bool) → ℕ → ℕ → List ℕ
cells_passing p zero v = []
cells_passing p (suc n) v = cons_if (p v) v (cells_passing p n (suc v))

-- the tree neighbours of a cell, of the cells below n, in number order
unfoldable pub tree_neighbours : List (List ℕ) → ℕ → ℕ → List ℕ
tree_neighbours branches n u = cells_passing (neighbouring branches u) n 0

-- ---- the cells where a repeater may stand

-- b is one more than a, and c is d
abbrev pub steps_by : ℕ → ℕ → ℕ → ℕ → Bool
steps_by a b c d = eqb (a + 1) b && eqb c d

-- the facing of a step, none unless it is a flat one
unfoldable pub facing_by : Pos → Pos → ℕ
facing_by p q =
    either (eqb p.y q.y)
    (either (steps_by p.x q.x p.z q.z) east
    (either (steps_by q.x p.x p.z q.z) west
    (either (steps_by p.z q.z p.x q.x) south
    (either (steps_by q.z p.z p.x q.x) north no_facing))))
    no_facing

abbrev pub facing_of : Room → ℕ → ℕ → ℕ
facing_of R a b = facing_by (pos_of R a) (pos_of R b)

-- "equal flat facing in and out"
unfoldable pub straight : Room → ℕ → ℕ → ℕ → Bool
straight R a b c = not (eqb (facing_of R a b) no_facing) && eqb (facing_of R a b) (facing_of R b c)

abbrev pub path_cell : List ℕ → ℕ → ℕ
path_cell path i = get_or path i 0

-- "not a terminal or approach of this net, has a next cell, two tree neighbours and equal flat facing in and out"; so it has a cell before it, too
unfoldable pub fits : Room → (ℕ → List ℕ) → List ℕ → List ℕ → ℕ → Bool
fits R next forbidden path i =
    ltb 0 i && (ltb (i + 1) (length path) && (not (is_marked forbidden (path_cell path i))
    && (eqb (length (next (path_cell path i))) 2 && straight R (path_cell path (i - 1)) (path_cell path i) (path_cell path (i + 1)))))

-- the latest place below n that passes the test, 0 for none
unfoldable pub latest : (ℕ → Bool) → ℕ → ℕ
latest p zero = 0
latest p (suc n) = either (p n) n (latest p n)

-- the earliest of n places from this one on that passes the test, 0 for none
unfoldable pub earliest : (ℕ → Bool) → ℕ → ℕ → ℕ
earliest p zero from = 0
earliest p (suc n) from = either (p from) from (earliest p n (from + 1))

-- a repeater stands at this place of the path
abbrev pub repeater_at : List ℕ → List ℕ → ℕ → Bool
repeater_at path marks i = is_marked marks (path_cell path i)

-- a repeater is put at a place of the path; at place 0, which stands for none, nothing changes
unfoldable pub with_repeater : List ℕ → List ℕ → ℕ → List ℕ
with_repeater path marks i = either (eqb i 0) marks (set marks (path_cell path i) 1)

-- ---- the runs

-- the repeaters so far, the last reset and the place that the walk has come to
pub record RunWalk : Type 0 where
  pub marks : List ℕ
  pub reset : ℕ
  pub place : ℕ

abbrev pub run_walk : List ℕ → ℕ → ℕ → RunWalk
run_walk m r i = record { marks = m; reset = r; place = i }

-- "the latest cell after that reset, up to and including this one, that" fits, of the places below n
unfoldable pub candidate : (ℕ → Bool) → ℕ → ℕ → ℕ
candidate fit reset n = latest (λ i. ltb reset i && fit i) n

-- "It becomes the reset and the walk resumes after it; where none fits, the walk goes on to the next cell"
unfoldable pub resume : List ℕ → RunWalk → ℕ → RunWalk
resume path w c = either (eqb c 0) (run_walk w.marks w.reset (w.place + 1)) (run_walk (with_repeater path w.marks c) c (c + 1))

module _ (limit : ℕ) (fit : ℕ → Bool) (path : List ℕ) where
  -- "A repeater met is a reset"; "at a cell more than" the limit "steps past the last reset" one is due
  unfoldable pub stride : RunWalk → RunWalk
  stride w =
      either (repeater_at path w.marks w.place) (run_walk w.marks w.place (w.place + 1))
      (either (ltb (w.reset + limit) w.place) (resume path w (candidate fit w.reset (w.place + 1))) (run_walk w.marks w.reset (w.place + 1)))

  -- at most n strides, while the walk is on the path: the repeaters that it then leaves
  unfoldable pub strides : ℕ → RunWalk → List ℕ
  strides zero w = w.marks
  strides (suc n) w = elim (ltb w.place (length path)) [ true ↦ strides n (stride w) | false ↦ w.marks ]

  -- each stride goes on or moves the reset on: so many are enough. "At first the source" is the reset
  unfoldable pub run : List ℕ → List ℕ
  run marks = strides ((length path + 1) * (length path + 1)) (run_walk marks 0 1)

-- ---- the tails

abbrev pub end : List ℕ → ℕ
end path = length path - 1

-- the last repeater on the path, or the source
abbrev pub last_reset : List ℕ → List ℕ → ℕ
last_reset path marks = latest (repeater_at path marks) (length path)

-- "with no repeater next to it on the path"
abbrev pub alone : List ℕ → List ℕ → ℕ → Bool
alone path marks i = not (repeater_at path marks (i - 1)) && not (repeater_at path marks (i + 1))

-- a repeater may stand there, with none next to it on the path
abbrev pub tail_fit : (ℕ → Bool) → List ℕ → List ℕ → ℕ → Bool
tail_fit fit path marks i = fit i && alone path marks i

module _ (limit : ℕ) (fit : ℕ → Bool) (path : List ℕ) where
  -- "the earliest such cell among the last" so many as the limit says "before the end"
  abbrev pub tail_place : List ℕ → ℕ
  tail_place marks = earliest (tail_fit fit path marks) limit (end path - limit)

  -- "with over" the limit's "steps after its last repeater (or the source)"
  unfoldable pub reinforced : List ℕ → List ℕ
  reinforced marks = either (ltb (last_reset path marks + limit) (end path)) (with_repeater path marks (tail_place marks)) marks

-- ---- "sink by sink"

module _ (R : Room) (next : ℕ → List ℕ) (parents forbidden : List ℕ) where
  -- "the path from the source"
  abbrev pub path_to : Tap → List ℕ
  path_to tap = root_path parents tap.terminal

  -- the run to one sink, at the job's run limit
  abbrev pub run_of : ℕ → Tap → List ℕ → List ℕ
  run_of limit tap marks = run limit (fits R next forbidden (path_to tap)) (path_to tap) marks

  -- "per Wire sink", at the sink's own tail limit
  abbrev pub tail_of : Tap → List ℕ → List ℕ
  tail_of tap marks = either tap.wire (reinforced tap.tail (fits R next forbidden (path_to tap)) (path_to tap) marks) marks

  -- the runs of all sinks, one after the other, and then the tails
  unfoldable pub planned : ℕ → List Tap → List ℕ → List ℕ
  planned limit taps marks = along tail_of taps (along (run_of limit) taps marks)

-- one byte a cell: 1 where a repeater stands
unfoldable pub repeater_marks : Room → ℕ → ℕ → List Tap → List (List ℕ) → List ℕ → List ℕ
repeater_marks R limit source taps branches forbidden =
    planned R (tree_neighbours branches (volume R)) (parents_from (tree_neighbours branches (volume R)) (volume R) source) forbidden limit taps
    (no_marks (volume R))
