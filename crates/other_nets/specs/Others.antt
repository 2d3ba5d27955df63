-- What a net of a list keeps off beside its own sheet's lists: "the occupied cells of all nets before it as conductors (so with keepouts), their stairs'
-- clearances; and of every other job, before or behind it, the protected cells: source terminal, sink terminals and approaches, and the keepouts of all
-- these". Definitions alone; their laws are in OtherLaws.
use Rattle.std.specs.Prelude.{Bool, false, not, ◌&&◌, ◌||◌, List, [], ◌∷◌, ℕ, ◌+◌, eqb}
use Rattle.basics.specs.Lists.{any}
use Rattle.room.specs.declared.Room.{Room}
use Rattle.room.specs.Room.{volume}
use Rattle.routing_resources.specs.Marks.{marked_by, no_marks}
use Rattle.routing_resources.specs.Resources.{in_keepout, is_clearance}
use Rattle.job_sheet.specs.Sheet.{Contents}
use Rattle.ends.specs.declared.Tap.{Tap}
use Rattle.ends.specs.declared.Taps.{Taps}
use Rattle.ends.specs.declared.Ends.{Ends}
use Rattle.ends.specs.Ends.{taps_in, ends_of}
use Rattle.outset.specs.Outset.{blocked_by, own_cell}
use Rattle.job_list.specs.Judged.{contents_at}

-- v is this cell, or in its keepout
unfoldable pub near_cell : Room → ℕ → ℕ → Bool
near_cell R v cell = eqb cell v || in_keepout R cell v

-- ---- the nets before

-- a branch's conductors with their keepouts, and its stairs' clearances
abbrev pub branch_clear : Room → ℕ → List ℕ → Bool
branch_clear R v branch = any (near_cell R v) branch || is_clearance R branch v

-- a routed net: its occupied cells are the source terminal and its branches'
unfoldable pub net_clear : Room → ℕ → List (List ℕ) → ℕ → Bool
net_clear R source branches v = near_cell R v source || any (branch_clear R v) branches

-- ---- the other jobs

abbrev pub tap_protects : Room → ℕ → Tap → Bool
tap_protects R v t = near_cell R v t.terminal || near_cell R v t.approach

-- "source terminal, sink terminals and approaches, and the keepouts of all these"
unfoldable pub protects : Room → ℕ → Taps → ℕ → Bool
protects R source taps v = near_cell R v source || any (tap_protects R v) (taps_in taps)

-- the ends of the job of a sheet
abbrev pub ends_at : List ℕ → Ends
ends_at sheet = let J = contents_at sheet in ends_of J.room J.source J.sinks

-- the protected cells of the job of a sheet, none of a net's own
abbrev pub sheet_protects : Room → Bool → List ℕ → ℕ → Bool
sheet_protects R own sheet v = not own && protects R (ends_at sheet).source (ends_at sheet).taps v

-- the protected cells of the jobs from the k-th on, but for one net's own
unfoldable pub protected_from : Room → ℕ → ℕ → List (List ℕ) → ℕ → Bool
protected_from R net k [] v = false
protected_from R net k (sheet ∷ sheets) v =
    sheet_protects R (eqb k net) sheet v || protected_from R net (k + 1) sheets v

-- ---- what is blocked for a net of a list at its outset

-- "Then the net's own ends and the cells right beneath them are taken out"
unfoldable pub blocked_in_list : List ℕ → List ℕ → Contents → ℕ → Taps → (ℕ → Bool) → List ℕ
blocked_in_list kinds nodes J source taps others =
    marked_by (λ v. (blocked_by kinds nodes J v || others v) && not (own_cell J.room source taps v)) (no_marks (volume J.room))
