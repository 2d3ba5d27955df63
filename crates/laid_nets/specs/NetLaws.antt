-- Laws of laying one net of a list: what each function asks of the other, and that one net more is laid behind those so far.
use Rattle.std.specs.Prelude.{◌≡◌, List, [], ◌∷◌, ◌++◌, ℕ, ◌+◌, length, Option}
use Rattle.std.proofs.Common.{sym, subst, ◌∙◌, arith}
use Rattle.std.proofs.Math.Path.{ap}
use Rattle.room.specs.declared.Room.{Room}
use Rattle.room.specs.Room.{Good, volume}
use Rattle.job_sheet.specs.declared.Job.{Job}
use Rattle.job_sheet.specs.Accepted.{Accepted}
use Rattle.job_sheet.specs.Places.{blocks_in}
use Rattle.blocks.specs.Blocks.{Placement}
use Rattle.blocks.specs.Blocks.{BlocksLaid, left_by, kinds_of, Placing}
use Rattle.ends.specs.declared.Ends.{Ends}
use Rattle.ends.specs.declared.Taps.{Taps}
use Rattle.ends.specs.Ends.{sinks_in, ends_of}
use Rattle.outset.specs.SetOutLaws.{same_ends, use_of, sinks_in_lem}
use Rattle.branches.specs.declared.BranchLengths.{BranchLengths}
use Rattle.repeaters.specs.Masks.{BranchesReady}
use Rattle.job_list.specs.Judged.{contents_at}
use Rattle.job_list.specs.JudgeLaws.{accepted-contents, accepted-room}
use Rattle.job_list.specs.GoodNets.{good-room-is}
use Rattle.other_nets.specs.Others.{ends_at}
use Rattle.other_nets.specs.OtherLaws.{SheetReady, ends-inside}
use Rattle.laying.specs.Laying.{Net, laid_room, laid_net, overlap_of}
use Rattle.laying.specs.Layable.{net_of}
use Rattle.laid_nets.specs.declared.Meeting.{Meeting}
use Rattle.laid_nets.specs.LaidNets.{facings_of, LaidNets, laid_so_far, met_after, owners_after, with_net, laid_nets}
use Rattle.laid_nets.specs.Layings.{RoomSet, Owning, NetLayable, NetLaid, SheetLayable, SheetLaid}

-- ---- the room

module _ {sheet : List ℕ} {job : Job} (A : Accepted sheet job) {kinds nodes facings : List ℕ} {r : Placement} where
  pub room-set : BlocksLaid job.room (blocks_in sheet job.blocks) kinds nodes r → facings ≡ facings_of job.room (blocks_in sheet job.blocks) → RoomSet sheet r kinds facings
  room-set B f =
      let R : job.room ≡ (contents_at sheet).room = accepted-room A in
      let bs : blocks_in sheet job.blocks ≡ (contents_at sheet).blocks = (use_of A).blocks.are ∙ ap (λ J. J.blocks) (accepted-contents A) in
      record {
        placing = subst (λ Q. Placing Q (contents_at sheet).blocks (length (contents_at sheet).blocks) r) R (subst (λ l. Placing job.room l (length l) r) bs B.placing);
        laid = λ p. λ i. laid_room ((B.kinds-are ∙ ap (λ q. left_by q job.room (kinds_of job.room (blocks_in sheet job.blocks))) p ∙ (λ j. kinds_of (R j) (bs j))) i) ((f ∙ (λ j. facings_of (R j) (bs j))) i);
      }

-- ---- a net

module _ {R : Room} {source : ℕ} {T : Taps} {k : ℕ} {met : Option Meeting} {L : BranchLengths} {cells occupied planned owners kinds facings links parents line : List ℕ}
    (P : NetLayable R source T k met L cells occupied planned owners kinds facings links parents line) {overlap : Option ℕ} (o : overlap ≡ overlap_of occupied owners)
    {m : Option Meeting} (e : m ≡ met_after met k overlap) where
  met-is : m ≡ met_after met k (overlap_of occupied owners)
  met-is = e ∙ ap (met_after met k) o

  pub net_owning : Owning m k occupied owners
  net_owning = record { numbered = λ n. P.numbered (sym met-is ∙ n); long = P.owners-long ∙ sym P.layable.occupied-long }

  pub net-laid : {owners' kinds' facings' : List ℕ} → owners' ≡ owners_after m k occupied owners
      → laid_room kinds' facings' ≡ laid_net R (net_of source T L cells occupied planned) (laid_room kinds facings)
      → NetLaid R source T k met L cells occupied planned owners kinds facings m owners' kinds' facings'
  unfolding with_net
  net-laid f g = record { is = λ i. laid_so_far (g i) ((f ∙ ap (λ x. owners_after x k occupied owners) met-is) i) (met-is i) }

-- ---- the net of a sheet

module _ {sheet : List ℕ} {k : ℕ} {met : Option Meeting} {L : BranchLengths} {cells occupied planned owners kinds facings links parents line : List ℕ}
    (P : SheetLayable sheet k met L cells occupied planned owners kinds facings links parents line) {job : Job} (A : Accepted sheet job) {e : Ends}
    (is : e ≡ ends_of job.room job.source (sinks_in job.sinks)) where
  R-is : (contents_at sheet).room ≡ job.room
  R-is = sym (accepted-room A)

  long : {n : ℕ} → n ≡ volume (contents_at sheet).room → n ≡ volume job.room
  long h = h ∙ ap volume R-is

  ends-here : e ≡ ends_at sheet
  ends-here = is ∙ same_ends (use_of A).room-is (use_of A).source_is (sinks_in_lem A) ∙ ap (λ J. ends_of J.room J.source J.sinks) (accepted-contents A)

  ready-sheet : SheetReady job.room sheet owners
  ready-sheet = record {
    memory = P.memory;
    first = P.first;
    place = P.place;
    net = P.net;
    room-is = sym (good-room-is P.net) ∙ R-is;
    good = subst Good R-is P.good;
    long = long P.owners-long;
  }

  pub net-layable : NetLayable job.room e.source e.taps k met L cells occupied planned owners kinds facings links parents line
  net-layable = record {
    layable = record {
      good = subst Good R-is P.good;
      net = ends-inside ready-sheet A is;
      ready = subst (λ Q. BranchesReady Q L cells) R-is P.ready;
      occupied-long = long P.occupied-long;
      repeaters-long = long P.planned-long;
      kinds-long = long P.kinds-long;
      facings-long = long P.facings-long;
      links-long = long P.links-long;
      parents-long = long P.parents-long;
      line-long = long P.line-long;
    };
    owners-long = long P.owners-long;
    numbered = P.numbered;
  }

  pub sheet-laid : {r : Option Meeting} {owners' kinds' facings' : List ℕ} → NetLaid job.room e.source e.taps k met L cells occupied planned owners kinds facings r owners' kinds' facings'
      → SheetLaid sheet k met L cells occupied planned owners kinds facings r owners' kinds' facings'
  sheet-laid N = record {
    is = N.is ∙ (λ i. with_net (sym R-is i) k (net_of (ends-here i).source (ends-here i).taps L cells occupied planned) (laid_so_far (laid_room kinds facings) owners met));
  }

-- ---- one net more, behind those so far

pub laid_more : (R : Room) (k : ℕ) (nets : List Net) (N : Net) (S : LaidNets) → laid_nets R k (nets ++ (N ∷ [])) S ≡ with_net R (k + length nets) N (laid_nets R k nets S)
unfolding laid_nets
laid_more R k [] N S = let e : k ≡ k + 0 = omega arith in ap (λ n. with_net R n N S) e
laid_more R k (M ∷ nets) N S =
    let e : (k + 1) + length nets ≡ k + length (M ∷ nets) = omega arith in
    laid_more R (k + 1) nets N (with_net R k M S) ∙ ap (λ n. with_net R n N (laid_nets R (k + 1) nets (with_net R k M S))) e
