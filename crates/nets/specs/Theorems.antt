-- "Each kept net equals the answer of a single job with the same resources": said of contents, for the sheet of such a job may have more than 60,000 bytes.
use Rattle.std.specs.Prelude.{◌≡◌, refl, Bool, ◌&&◌, ◌||◌, List, ℕ, ◌<◌, length}
use Rattle.std.proofs.Common.{sym, ◌∙◌}
use Rattle.std.proofs.Math.Path.{ap}
use Rattle.std.proofs.Math.Bool.{not}
use Rattle.std.proofs.lemmas.List.{length-replicate}
use Rattle.room.specs.declared.Room.{Room}
use Rattle.room.specs.Room.{volume}
use Rattle.routing_resources.specs.Marks.{marked_by, no_marks}
use Rattle.routing_resources.specs.MarkLaws.{with_same}
use Rattle.ground.specs.declared.Mode.{Mode}
use Rattle.job_sheet.specs.Sheet.{Contents}
use Rattle.ends.specs.declared.Taps.{Taps}
use Rattle.outset.specs.Outset.{blocked_by, own_cell, blocked_at_outset}
use Rattle.net_tree.specs.Answers.{job_outcome}
use Rattle.job_list.specs.Split.{sheets_of}
use Rattle.job_list.specs.Judged.{contents_at}
use Rattle.other_nets.specs.Others.{ends_at, protected_from, blocked_in_list}
use Rattle.nets.specs.Nets.{kinds_at, nodes_at, outset_at, blocked_at, lent_for, net_outcome}

-- K is a job like J, but for its lists of other nets' conductors, clearances and terminals and of reserved cells, by which these cells are blocked besides
pub record WithResources (J K : Contents) (kinds nodes : List ℕ) (others : ℕ → Bool) : Type 0 where
  pub but_for_lists : K ≡ record {
    room = J.room;
    config = J.config;
    run = J.run;
    blocks = J.blocks;
    conductors = K.conductors;
    clearances = K.clearances;
    terminals = K.terminals;
    reserved = K.reserved;
    source = J.source;
    sinks = J.sinks;
  }
  pub blocked-besides : (v : ℕ) → v < volume J.room → blocked_by kinds nodes K v ≡ blocked_by kinds nodes J v || others v

module _ {J K : Contents} {kinds nodes : List ℕ} {others : ℕ → Bool} (W : WithResources J K kinds nodes others) where
  room-same : K.room ≡ J.room
  room-same = ap (λ C. C.room) W.but_for_lists

  -- what is blocked at its outset is what is blocked in the list
  pub blocked-same : (source : ℕ) (taps : Taps) → blocked_at_outset kinds nodes K source taps ≡ blocked_in_list kinds nodes J source taps others
  unfolding blocked_at_outset blocked_in_list
  blocked-same source taps =
      let n = volume J.room in
      ap (λ R. marked_by (λ v. blocked_by kinds nodes K v && not (own_cell R source taps v)) (no_marks (volume R))) room-same
      ∙ with_same 1 _ _ (no_marks n) (λ v h. ap (λ b. b && not (own_cell J.room source taps v)) (W.blocked-besides v (rw (length-replicate {A = ℕ} n 0) at h)))

-- the tree of such a job is the net's
pub as_single : (mode : Mode) (list : List ℕ) (queue k left : ℕ) (taken : ℕ → Bool) (sheet : List ℕ) (K : Contents)
    → WithResources (contents_at sheet) K (kinds_at sheet) (nodes_at sheet) (λ v. taken v || protected_from (contents_at sheet).room k 0 (sheets_of list) v)
    → job_outcome mode K (lent_for K.room left queue) (outset_at sheet) (kinds_at sheet) (blocked_at_outset (kinds_at sheet) (nodes_at sheet) K (ends_at sheet).source (ends_at sheet).taps)
    ≡ net_outcome mode list queue k taken left sheet
unfolding net_outcome job_outcome
as_single mode list queue k left taken sheet K W =
    ap (λ b. job_outcome mode K (lent_for K.room left queue) (outset_at sheet) (kinds_at sheet) b) (blocked-same W (ends_at sheet).source (ends_at sheet).taps)
    ∙ ap (λ C. job_outcome mode C (lent_for C.room left queue) (outset_at sheet) (kinds_at sheet) (blocked_at list k taken sheet)) W.but_for_lists
