-- What the contracts of routing and keeping one net cite. Definitions alone; their laws are in KeepLaws.
use Rattle.std.specs.Prelude.{◌≡◌, Ok, Err, true, List, ◌++◌, ℕ, ◌≤◌, ◌<◌, length, drop, replicate}
use Rattle.numbers.specs.Refusals.{buffer_number}
use Rattle.basics.specs.Lists.{joined}
use Rattle.lent.specs.Lent.{filled}
use Rattle.room.specs.declared.Room.{Room}
use Rattle.room.specs.Room.{volume}
use Rattle.ground.specs.declared.Mode.{Mode}
use Rattle.room_search.specs.TriedMoves.{places_of}
use Rattle.routing_resources.specs.Marks.{marked_by, is_marked}
use Rattle.job_sheet.specs.Sheet.{Contents, max_sinks}
use Rattle.branches.specs.Branches.{branch_lengths}
use Rattle.net_tree.specs.declared.Tree.{Tree}
use Rattle.net_tree.specs.declared.Refused.{Refused}
use Rattle.net_tree.specs.Answers.{Answer, Lent, TreeOutcome, routed, no_tree, answer_of}
use Rattle.job_list.specs.declared.Memory.{Memory}
use Rattle.job_list.specs.Judged.{contents_at}
use Rattle.job_list.specs.GoodNets.{GoodNet}
use Rattle.other_nets.specs.Others.{net_clear, ends_at}
use Rattle.other_nets.specs.OtherLaws.{ListReady}
use Rattle.other_nets.specs.Keeping.{Keepable, Kept}
use Rattle.nets.specs.Nets.{net_outcome}
use Rattle.kept_nets.specs.BranchSound.{GoodNetBranches}

-- a routed net can be kept
pub record AnswerKeepable (R : Room) (source : ℕ) (r : Answer) (cells planned before repeaters out : List ℕ) : Type 0 where
  pub keepable : (t : Tree) → r ≡ Ok t → Keepable R source t.lengths cells planned before repeaters out

-- and is; of one that refuses nothing is
pub data AnswerKept (R : Room) (source : ℕ) (r : Answer) (cells planned before repeaters out before' repeaters' out' : List ℕ) : Type 0 where
  kept-one : (t : Tree) → r ≡ Ok t → Kept R source t.lengths cells planned before repeaters out before' repeaters' out'
      → AnswerKept R source r cells planned before repeaters out before' repeaters' out'
  kept-none : (e : Refused) → r ≡ Err e → AnswerKept R source r cells planned before repeaters out before' repeaters' out'

-- a net of a list for which no number is due, memory of exactly V cells, a cleared rest of the branch buffer, and place for sixteen lengths. Of `B` the
-- repeaters are the list's so far; `planned` is for the net's
pub record NextAsked (list sheet planned before lengths : List ℕ) (B : Lent) : Type 0 where
  pub memory : Memory
  pub first : Contents
  pub place : ℕ
  pub net : GoodNet memory first place sheet
  pub ready : ListReady (contents_at sheet).room list B.blocked
  pub branches-clear : B.branches ≡ replicate (length B.branches) 0
  pub occupied-long : length B.occupied ≡ volume (contents_at sheet).room
  pub planned-long : length planned ≡ volume (contents_at sheet).room
  pub repeaters-long : length B.repeaters ≡ volume (contents_at sheet).room
  pub before-long : length before ≡ volume (contents_at sheet).room
  pub kinds-long : length B.kinds ≡ volume (contents_at sheet).room
  pub known-long : length B.known ≡ volume (contents_at sheet).room
  pub classes-long : length B.classes ≡ volume (contents_at sheet).room
  pub joinable-long : length B.joinable ≡ volume (contents_at sheet).room
  pub previous-long : length B.previous ≡ volume (contents_at sheet).room
  pub path-long : length B.path ≡ volume (contents_at sheet).room
  pub best-long : length B.best ≡ volume (contents_at sheet).room
  pub places-some : 0 < places_of B.queue
  pub lengths-long : max_sinks ≤ length lengths

-- a routed net as it is kept, its marks as they stand for those that lay it, and what is known of it
pub record NextHeld (bs : List (List ℕ)) (occupied planned : List ℕ) (R : Room) (source : ℕ)
    (branches lengths repeaters before branches' lengths' repeaters' before' occupied' planned' : List ℕ) : Type 0 where
  pub branches-are : branches' ≡ filled (joined bs) branches
  pub lengths-are : lengths' ≡ (branch_lengths bs).each ++ drop max_sinks lengths
  pub repeaters-are : repeaters' ≡ marked_by (is_marked planned) repeaters
  pub before-are : before' ≡ marked_by (net_clear R source bs) before
  pub occupied-are : occupied' ≡ occupied
  pub planned-are : planned' ≡ planned
  pub good : GoodNetBranches R bs
  pub source-marked : is_marked occupied source ≡ true

-- what is kept of what a net comes to
abbrev pub NextKept : TreeOutcome → Room → ℕ → (branches lengths repeaters before branches' lengths' repeaters' before' occupied' planned' : List ℕ) → Type 0
NextKept (routed bs occupied planned) R source branches lengths repeaters before branches' lengths' repeaters' before' occupied' planned' =
    NextHeld bs occupied planned R source branches lengths repeaters before branches' lengths' repeaters' before' occupied' planned'
NextKept (no_tree number detail) R source branches lengths repeaters before branches' lengths' repeaters' before' occupied' planned' = buffer_number < number

pub record NextRouted (mode : Mode) (list sheet : List ℕ) (k : ℕ) (before lengths : List ℕ) (B : Lent) (r : Answer)
    (branches' lengths' repeaters' before' occupied' planned' : List ℕ) : Type 0 where
  pub answer : r ≡ answer_of (net_outcome mode list (length B.queue) k (is_marked before) (length B.branches) sheet)
  pub kept : NextKept (net_outcome mode list (length B.queue) k (is_marked before) (length B.branches) sheet) (contents_at sheet).room (ends_at sheet).source
      B.branches lengths B.repeaters before branches' lengths' repeaters' before' occupied' planned'
