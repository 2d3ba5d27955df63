-- Laws of adding a branch: it stands in the buffer at its place, and its cells are in the room.
use Rattle.std.specs.Prelude.{◌≡◌, refl, Ok, Err, List, ℕ, ◌+◌, ◌-◌, ◌≤◌, ◌<◌, length, take, drop}
use Rattle.std.proofs.Common.{◌∙◌, arith}
use Rattle.room.specs.declared.Room.{Room}
use Rattle.room.specs.Room.{volume}
use Rattle.routing_resources.specs.Marks.{marked_by, AllCells, CellsBelow}
use Rattle.routing_resources.specs.Resources.{is_clearance}
use Rattle.geometry.specs.Geometry.{stands_in}
use Rattle.ends.specs.declared.Tap.{Tap}
use Rattle.branches.specs.declared.BranchLengths.{BranchLengths}
use Rattle.branches.specs.Branches.{branch_of, all_but_last, inserted}
use Rattle.branches.specs.BranchLaws.{branch-some, branch-below, but_last_below, branch-at, but_last_at}
use Rattle.multinet.specs.Adding.{Addable, BranchAdded, before_sink, used_by, BranchPlaceable, BranchPlaced, buffer-full, is-placed}
use Rattle.multinet.specs.declared.Stop.TheVariants.{BufferFull}

module _ {R : Room} {at used len : ℕ} {tap : Tap} {path branches joinable blocked : List ℕ} (A : Addable R at used len tap path branches joinable blocked) where
  abbrev branch : List ℕ
  branch = branch_of tap path

  pub branch_has : 1 ≤ len
  branch_has = rw A.len_is (branch-some tap path A.some)

  pub branch-there : (buffer : List ℕ) → buffer ≡ inserted at used branch branches → take (at + (len - 1) + 1 - at) (drop at buffer) ≡ branch
  branch-there buffer e =
      let n : at + (len - 1) + 1 - at ≡ length branch = omega (arith, A.len_is, branch_has) in
      rw (n, e) (branch-at branch branches at used (omega (arith, A.at-within, A.fits)))

  pub but_last_there : (buffer : List ℕ) → buffer ≡ inserted at used branch branches → take (at + (len - 1) - at) (drop at buffer) ≡ all_but_last branch
  but_last_there buffer e =
      let n : at + (len - 1) - at ≡ length branch - 1 = omega (arith, A.len_is, branch_has) in
      rw (n, e) (but_last_at branch branches at used (omega (arith, A.at-within, A.fits)))

  pub branch_in : AllCells R branch
  branch_in = branch-below tap path A.path_in A.terminal_in_lem

  pub but_last_in_room : {n : ℕ} → n ≡ volume R → CellsBelow n (all_but_last branch)
  but_last_in_room e = but_last_below branch (rw e branch_in)

  pub end-within : {n : ℕ} → n ≡ length branches → at + (len - 1) + 1 ≤ n
  end-within e = omega (arith, e, A.fits, A.at-within, A.len_is, branch_has)

  pub branch-added : {buffer part whole joinable' blocked' : List ℕ} → buffer ≡ inserted at used branch branches
      → part ≡ all_but_last branch
      → whole ≡ branch
      → joinable' ≡ marked_by (stands_in part) joinable
      → blocked' ≡ marked_by (is_clearance R whole) blocked
      → BranchAdded R at used tap path branches joinable blocked buffer joinable' blocked'
  branch-added b p w j k = record { branches-are = b; joinable-are = j ∙ rw p; blocked-are = k ∙ rw w }

-- ---- where the lengths are known

pub no_space_left : {R : Room} {k : ℕ} {L : BranchLengths} {tap : Tap} {path branches joinable blocked : List ℕ}
    {used len : ℕ} → used ≡ used_by L → len ≡ length (branch_of tap path) → length branches < used + len
    → BranchPlaced R k L tap path branches joinable blocked (Err (record { stop = BufferFull (k + 1); sink = k })) branches joinable blocked
no_space_left u l n = buffer-full (rw (u, l) at n) refl (refl, refl, refl)

module _ {R : Room} {k : ℕ} {L : BranchLengths} {tap : Tap} {path branches joinable blocked : List ℕ} (A : BranchPlaceable R k L tap path joinable blocked)
    {at used len : ℕ} (a : at ≡ before_sink L k) (u : used ≡ used_by L) (l : len ≡ length (branch_of tap path)) (fits : used + len ≤ length branches) where
  pub addable : Addable R at used len tap path branches joinable blocked
  addable = record {
    good = A.good;
    at-within = rw (a, u) A.at-within;
    fits = rw l at fits;
    some = A.some;
    short = A.short;
    path_in = A.path_in;
    terminal_in_lem = A.terminal_in_lem;
    len_is = l;
    joinable-long = A.joinable-long;
    blocked-long = A.blocked-long;
  }

  pub branch-placed : {branches' joinable' blocked' : List ℕ} → BranchAdded R at used tap path branches joinable blocked branches' joinable' blocked'
      → BranchPlaced R k L tap path branches joinable blocked (Ok (record { sink = k; length = len })) branches' joinable' blocked'
  branch-placed b = is-placed (rw (u, l) at fits) (rw l refl) (rw (a, u) at b)
