-- What the theorems claim of the searches made in a tree: definitions only. Each is the defined search over the room of kinds that it sees in its
-- mode, so what is said of one search is said of it, in both modes at once. What its steps are by the room's own kinds is told in ModeStatements.
use Rattle.std.specs.Prelude.{◌≡◌, ◌≢◌, true, List, [], ℕ, ◌+◌, ◌-◌, ◌*◌, ◌≤◌, ◌<◌, length, get_or, Some}
use Rattle.numbers.specs.Refusals.{queue_full_number, no_goal_number, branches_full_number}
use Rattle.basics.specs.Lists.{joined}
use Rattle.room.specs.Room.{volume}
use Rattle.room_search.specs.Routing.{Task}
use Rattle.ground.specs.declared.Mode.{Mode}
use Rattle.routing_resources.specs.Marks.{is_marked}
use Rattle.geometry.specs.Geometry.{conflict_of}
use Rattle.goals.specs.Goals.{Site, found, failed, full, searched_for, site_task, ends_goal, max_attempts}
use Rattle.goals.specs.Routes.{Conflicts, RouteJoins}
use Rattle.branches.specs.Branches.{branch_of}
use Rattle.multinet.specs.Tree.{Plot, Tree, grown, tap_at, site_at, planted, grow_from}
use Rattle.multinet.specs.Growing.{turn_in}
use Rattle.net_tree.specs.declared.Lengths.{Lengths}
use Rattle.net_tree.specs.Answers.{Answer, Lent, lengths_of, plot_for, routed, answer_of, lent_after}
use Rattle.net_tree.specs.SheetTrees.{TreeOf, StopOf}
use Rattle.demands.specs.Statements.{Priced, Enough, Lawful, Cheapest, NoLawfulWay}

-- what one search for a goal says: a lawful route, at those costs a cheapest one; or, where limit and queue are enough, truly that there is none
pub record SearchMeans (T : Task) : Type 0 where
  pub found-lawful : (path : List ℕ) (cost : ℕ) → searched_for T ≡ found path cost → Lawful T path cost
  pub found-cheapest : Priced T.config → (path : List ℕ) (cost : ℕ) → searched_for T ≡ found path cost → Cheapest T cost
  pub failed_true : Priced T.config → Enough T.room T.config T.places → searched_for T ≡ failed → NoLawfulWay T
  pub never-full : Priced T.config → 5 * (volume T.room - 1) ≤ T.places → (x : ℕ) → searched_for T ≢ full x

-- what a sink's route is: the one that `RouteJoins` tells of, found by a search for the first goal with a cheapest route; that search has this meaning too
pub record RouteMeans (S : Site) (start : ℕ) (blocked path : List ℕ) (cost : ℕ) : Type 0 where
  pub joins : RouteJoins S blocked start path cost
  pub lawful : Lawful (site_task S joins.reaches.blocked-last start joins.goal) path cost
  pub cheapest : Priced S.config → Cheapest (site_task S joins.reaches.blocked-last start joins.goal) cost

-- why so many attempts found a goal no route: after fewer conflicts than attempts were blocked there is no lawful way; or, after as few, the next route
-- has a conflict that can't be blocked, at the start, the goal or a cell blocked already; or a conflict was blocked at each attempt, and they are over
pub data GoalEnds (S : Site) (start goal : ℕ) : ℕ → List ℕ → Type 0 where
  no_way : {attempts : ℕ} {blocked : List ℕ} (n : ℕ) (later : List ℕ) → n < attempts → Conflicts S start goal n blocked later → NoLawfulWay (site_task S later start goal)
      → GoalEnds S start goal attempts blocked
  conflict_stays : {attempts : ℕ} {blocked : List ℕ} (n : ℕ) (later path : List ℕ) (cost v : ℕ) → n < attempts → Conflicts S start goal n blocked later
      → searched_for (site_task S later start goal) ≡ found path cost → conflict_of S.room S.kinds S.joinable path ≡ Some v
      → ends_goal later start goal v ≡ true → GoalEnds S start goal attempts blocked
  attempts-over : {attempts : ℕ} {blocked : List ℕ} (later : List ℕ) → Conflicts S start goal attempts blocked later → GoalEnds S start goal attempts blocked

-- a sink's branch in a tree grown where these cells were blocked at the outset: its route to the tree as it was after the turns before that sink's own
pub record BranchMeans (P : Plot) (blocked : List ℕ) (k : ℕ) (branch : List ℕ) : Type 0 where
  pub before : Tree
  pub at_turn : grow_from (turn_in P k) P 0 (planted P blocked) ≡ grown before
  pub path : List ℕ
  pub cost : ℕ
  pub branch-is : branch ≡ branch_of (tap_at P k) path
  pub means : RouteMeans (site_at P before.joinable) (tap_at P k).approach before.blocked path cost

-- why the tree T stops growing at the turn of sink k, by the number and its detail
pub data SinkEnds (P : Plot) (k : ℕ) (T : Tree) : ℕ → ℕ → Type 0 where
  -- 13: a search found its queue full, which has at most 11 places for each node of the limit; at those costs fewer than 5 for each cell but the start
  queue-fills : (expanded : ℕ) → P.places ≤ 11 * P.config.limit.0 → (Priced P.config → P.places < 5 * (volume P.room - 1))
      → SinkEnds P k T queue_full_number expanded
  -- 14, with the approach: at those costs, with a limit and a queue that are enough, each joinable cell has its reason
  no_goal_left : (Priced P.config → Enough P.room P.config P.places → (goal : ℕ) → goal < volume P.room → is_marked T.joinable goal ≡ true
      → GoalEnds (site_at P T.joinable) (tap_at P k).approach goal max_attempts T.blocked) → SinkEnds P k T no_goal_number (tap_at P k).approach
  -- 15, with the sink's place in the sheet: it has a route, and its branch and those before it are longer than the branch buffer
  buffer-fills : (path : List ℕ) (cost : ℕ) → RouteMeans (site_at P T.joinable) (tap_at P k).approach T.blocked path cost
      → P.buffer < length (joined T.branches) + length (branch_of (tap_at P k) path) → SinkEnds P k T branches_full_number (k + 1)

-- the sink at whose turn a tree stopped that grew where these cells were blocked at the outset, the tree as it was before that turn, and why it stopped
pub record StopsAt (P : Plot) (blocked : List ℕ) (number detail : ℕ) : Type 0 where
  pub sink : ℕ
  pub sink_in : sink < P.taps.count
  pub before : Tree
  pub at_turn : grow_from (turn_in P sink) P 0 (planted P blocked) ≡ grown before
  pub why : SinkEnds P sink before number detail

-- ---- of the public tree

-- where the tree of a sheet grew: it has a branch for each sink of the sheet's contents, in their order, and each has its meaning there
pub record TreeMeans (mode : Mode) (sheet : List ℕ) (L : Lengths) (branches : List (List ℕ)) (occupied repeaters : List ℕ) : Type 0 where
  pub tree_of : TreeOf mode sheet L branches occupied repeaters
  pub count-is : length branches ≡ length tree_of.contents.sinks
  pub each : (k : ℕ) → k < length branches
      → BranchMeans (plot_for mode tree_of.contents L tree_of.outset tree_of.kinds) tree_of.blocked k (get_or branches k [])

-- the branches, the occupied cells and the repeaters that the answer tells of and the lent buffers hold
pub record AnswerMeans (mode : Mode) (sheet : List ℕ) (B : Lent) (r : Answer) (B' : Lent) : Type 0 where
  pub branches : List (List ℕ)
  pub occupied : List ℕ
  pub repeaters : List ℕ
  pub answer : r ≡ answer_of (routed branches occupied repeaters)
  pub lent_is : B' ≡ lent_after (routed branches occupied repeaters) B
  pub means : TreeMeans mode sheet (lengths_of B) branches occupied repeaters

-- where the tree of a sheet stopped growing: at the turn of a sink, for this reason
pub record StopMeans (mode : Mode) (sheet : List ℕ) (L : Lengths) (number detail : ℕ) : Type 0 where
  pub stop-of : StopOf mode sheet L number detail
  pub stops_at : StopsAt (plot_for mode stop-of.contents L stop-of.outset stop-of.kinds) stop-of.blocked number detail
