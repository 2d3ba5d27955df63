-- What is lent for a job list: six outputs, and twelve buffers of work memory.
use Rattle.std.specs.Prelude.{◌≡◌, List, ℕ, ◌<◌, length}
use Rattle.room.specs.declared.Room.{Room}
use Rattle.room.specs.Room.{volume}
use Rattle.room_search.specs.TriedMoves.{places_of}

pub record ListLent : Type 0 where
  pub branches : List ℕ
  pub lengths : List ℕ
  pub owners : List ℕ
  pub repeaters : List ℕ
  pub kinds : List ℕ
  pub facings : List ℕ
  pub occupied : List ℕ
  pub planned : List ℕ
  pub before : List ℕ
  pub room : List ℕ
  pub blocked : List ℕ
  pub classes : List ℕ
  pub joinable : List ℕ
  pub known : List ℕ
  pub previous : List ℕ
  pub path : List ℕ
  pub best : List ℕ
  pub queue : List ℕ

-- as the functions are handed it
abbrev pub list_lent : (branches lengths owners repeaters kinds facings occupied planned before room blocked classes joinable known previous path best queue : List ℕ) → ListLent
list_lent branches lengths owners repeaters kinds facings occupied planned before room blocked classes joinable known previous path best queue = record {
  branches = branches;
  lengths = lengths;
  owners = owners;
  repeaters = repeaters;
  kinds = kinds;
  facings = facings;
  occupied = occupied;
  planned = planned;
  before = before;
  room = room;
  blocked = blocked;
  classes = classes;
  joinable = joinable;
  known = known;
  previous = previous;
  path = path;
  best = best;
  queue = queue;
}

-- each buffer is as long as it was
pub record SameSizes (B B' : ListLent) : Type 0 where
  pub branches : length B'.branches ≡ length B.branches
  pub lengths : length B'.lengths ≡ length B.lengths
  pub owners : length B'.owners ≡ length B.owners
  pub repeaters : length B'.repeaters ≡ length B.repeaters
  pub kinds : length B'.kinds ≡ length B.kinds
  pub facings : length B'.facings ≡ length B.facings
  pub occupied : length B'.occupied ≡ length B.occupied
  pub planned : length B'.planned ≡ length B.planned
  pub before : length B'.before ≡ length B.before
  pub room : length B'.room ≡ length B.room
  pub blocked : length B'.blocked ≡ length B.blocked
  pub classes : length B'.classes ≡ length B.classes
  pub joinable : length B'.joinable ≡ length B.joinable
  pub known : length B'.known ≡ length B.known
  pub previous : length B'.previous ≡ length B.previous
  pub path : length B'.path ≡ length B.path
  pub best : length B'.best ≡ length B.best
  pub queue : length B'.queue ≡ length B.queue

-- one entry a cell in each but `branches`, `lengths` and `queue`, which has a place
pub record Desk (R : Room) (B : ListLent) : Type 0 where
  pub owners : length B.owners ≡ volume R
  pub repeaters : length B.repeaters ≡ volume R
  pub kinds : length B.kinds ≡ volume R
  pub facings : length B.facings ≡ volume R
  pub occupied : length B.occupied ≡ volume R
  pub planned : length B.planned ≡ volume R
  pub before : length B.before ≡ volume R
  pub room : length B.room ≡ volume R
  pub blocked : length B.blocked ≡ volume R
  pub classes : length B.classes ≡ volume R
  pub joinable : length B.joinable ≡ volume R
  pub known : length B.known ≡ volume R
  pub previous : length B.previous ≡ volume R
  pub path : length B.path ≡ volume R
  pub best : length B.best ≡ volume R
  pub queue : 0 < places_of B.queue
