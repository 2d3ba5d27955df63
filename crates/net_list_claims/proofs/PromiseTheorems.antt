-- What a list that is answered means, from the promise of `route_nets` alone.
use Rattle.std.specs.Prelude.{◌≡◌, refl, List, ℕ, ◌<◌, length, Option, Some, None}
use Rattle.std.proofs.Common.{sym, ap, subst, ◌∙◌}
use Rattle.basics.specs.Tests.{never}
use Rattle.basics.specs.Folds.{along}
use Rattle.room.specs.declared.Room.{Room}
use Rattle.ground.specs.declared.Mode.{Mode}
use Rattle.laying.specs.Laying.{Net, Laid, laid_net}
use Rattle.laying.specs.Statements.{Keeps, Unnamed}
use Rattle.job_list.specs.Split.{first_sheet}
use Rattle.job_list.specs.Judged.{judged_list}
use Rattle.nets.specs.Nets.{Routing, all-kept, refused-by, routed_list}
use Rattle.laid_nets.specs.declared.Meeting.{Meeting}
use Rattle.laid_nets.specs.LaidNets.{room_at, LaidNets, unlaid, laid_nets}
use Rattle.list_routing.specs.ListLent.{ListLent}
use Rattle.list_routing.specs.Walking.{room_of}
use Rattle.several_nets.specs.Answers.{ListAnswer, memory_of, ListOutcome, all_laid, no_list, laid_outcome, routed_outcome, ListComes, due, repeated, walked, Promise}
use Rattle.net_list_claims.specs.Statements.{net_in, Routed, AllKept, AllDirected, Apart, OwnersTold}
use Rattle.net_list_claims.proofs.Theorems.{each-net-single, never_seventeen, routed-one-room, sixteen_means, owners_mean, laid_in_order, unnamed_stay}

-- all nets are laid: each is a single job's, no two of them share a cell, `owners` tells whose each cell is, every repeater has a direction, the room is that of the
-- blocks with the nets laid one behind another, and a cell that no net names keeps its block
pub record LaidList (mode : Mode) (list : List ℕ) (B : ListLent) (nets : List Net) (owners : List ℕ) (room : Laid) : Type 0 where
  pub routed : Routed mode list (length B.branches) (length B.queue) nets
  pub each : AllKept mode list (length B.branches) (length B.queue) nets
  pub apart : Apart nets (length nets)
  pub owners_tell : OwnersTold (room_of list) nets owners
  pub directed : (k : ℕ) → k < length nets → AllDirected (room_of list) (net_in nets k)
  pub in_order : room ≡ along (laid_net (room_of list)) nets (room_at (first_sheet list))
  pub unnamed : (v : ℕ) → ((k : ℕ) → k < length nets → Unnamed (room_of list) (net_in nets k) v) → Keeps (room_at (first_sheet list)) room v

module _ {mode : Mode} {list : List ℕ} {B : ListLent} {r : ListAnswer} {B' : ListLent} (P : Promise mode list B r B') (nets : List Net) (planned owners : List ℕ) (room : Laid) where
  pub laid-means : P.outcome ≡ all_laid nets planned owners room → LaidList mode list B nets owners room
  laid-means e = go P.comes
    where
      R : Room
      R = room_of list

      S : List Net → LaidNets
      S kept = laid_nets R 0 kept (unlaid R (room_at (first_sheet list)))

      of : (T : Routed mode list (length B.branches) (length B.queue) nets) → (S nets).met ≡ None → owners ≡ (S nets).owners → room ≡ (S nets).room → LaidList mode list B nets owners room
      of T m o q =
          let one = routed-one-room T in
          record {
            routed = T;
            each = each-net-single mode list (length B.branches) (length B.queue) nets T.kept;
            apart = (sixteen_means R one (room_at (first_sheet list))).nowhere.0 m;
            owners_tell = subst (OwnersTold R nets) (sym o) (owners_mean R one (room_at (first_sheet list)) m);
            directed = never_seventeen T;
            in_order = q ∙ laid_in_order R nets (room_at (first_sheet list));
            unnamed = λ v h. subst (λ x. Keeps (room_at (first_sheet list)) x v) (sym q) (unnamed_stay R nets (room_at (first_sheet list)) v h);
          }

      met : (kept : List Net) (m : Option Meeting) → (S kept).met ≡ m → laid_outcome m R kept (S kept) ≡ all_laid nets planned owners room
          → ((S nets).met ≡ None) × (kept ≡ nets) × (owners ≡ (S nets).owners) × (room ≡ (S nets).room)
      met kept None w q =
          let n : kept ≡ nets = cc in
          (ap (λ l. (S l).met) (sym n) ∙ w, n, sym (cc) ∙ ap (λ l. (S l).owners) n, sym (cc) ∙ ap (λ l. (S l).room) n)
      met kept (Some meeting) w q = never (cc)

      kept_by : (w : Routing) → routed_list mode list (length B.branches) (length B.queue) ≡ w → routed_outcome R (room_at (first_sheet list)) w ≡ all_laid nets planned owners room
          → (routed_list mode list (length B.branches) (length B.queue) ≡ all-kept nets) × ((S nets).met ≡ None) × (owners ≡ (S nets).owners) × (room ≡ (S nets).room)
      kept_by (all-kept kept) w q = let M = met kept (S kept).met refl q in (w ∙ ap all-kept M.1, M.0, M.2, M.3)
      kept_by (refused-by net number detail) w q = never (cc)

      go : ListComes mode list (judged_list (memory_of B) list) (length B.branches) (length B.queue) P.outcome → LaidList mode list B nets owners room
      go (due a b q) = never (cc)
      go (repeated a p b q) = never (cc)
      go (walked d q) =
          let K = kept_by (routed_list mode list (length B.branches) (length B.queue)) refl (sym q ∙ e) in
          of (record { memory = memory_of B; none-due = d; kept = K.0 }) K.1 K.2 K.3
