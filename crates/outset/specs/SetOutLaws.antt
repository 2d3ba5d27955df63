-- Laws of a tree set out: what `set_out` may hand to the functions it calls, that what they promise makes up `SetOut`, and that `SetOut` leaves no choice.
use Rattle.std.specs.Prelude.{◌≡◌, refl, true, false, List, ℕ, ◌≤◌, ◌<◌, length, Option, Some, None, Result as Answer, Ok, Err}
use Rattle.std.proofs.Common.{sym, ◌∙◌, arith, subst}
use Rattle.std.proofs.Math.Path.{ap}
use Rattle.std.proofs.Math.Seq.{take-append_seam}
use Rattle.basics.specs.Tests.{never}
use Rattle.basics.specs.Promises.{Determines}
use Rattle.basics.specs.Zeros.{zeros-long}
use Rattle.room.specs.declared.Room.{Room}
use Rattle.room.specs.Room.{Good, Within, volume}
use Rattle.routing_resources.specs.Marks.{no_marks}
use Rattle.job_sheet.specs.declared.Endpoint.{Endpoint}
use Rattle.job_sheet.specs.declared.Sink.{Sink}
use Rattle.job_sheet.specs.declared.Job.{Job}
use Rattle.job_sheet.specs.Sheet.{Contents, sinks_of, job_of}
use Rattle.job_sheet.specs.Accepted.{Accepted, BlockList, SinkList, Usable}
use Rattle.job_sheet.specs.Places.{blocks_in}
use Rattle.job_sheet.proofs.Theorems.{one-meaning, usable}
use Rattle.blocks.specs.declared.Overlap.{Overlap}
use Rattle.blocks.specs.Blocks.{Placement, Placed, kinds_of, nodes_of, BlocksLaid}
use Rattle.blocks.proofs.BlockLaws as blocks
use Rattle.blocks.proofs.BlockLaws.{tabulated-long, own-list, blocks_laid_for}
use Rattle.ends.specs.declared.Ends.{Ends}
use Rattle.ends.specs.declared.Fault.{Fault}
use Rattle.ends.specs.declared.Unrealized.{Unrealized}
use Rattle.ends.specs.Ends.{sinks_in, fault_of, ends_of, unless, realized_ends, NetInside}
use Rattle.ends.specs.EndLaws.{net_in}
use Rattle.outset.specs.declared.Refusal.{Refusal}
use Rattle.outset.specs.declared.NotSetOut.{NotSetOut}
use Rattle.outset.specs.Outset.{blocked_at_outset, OutsetReady, OutsetMarked}
use Rattle.outset.specs.SetOut.{Outset, ready_by, ready, number_by, detail_by, refusal_number, refusal_detail, told_by, told_at_overlap, told_at_end, OutsetOf, SetOut, OutsetTold}

-- no number is due: the blocks are placed, and the ends are good
pub ready-placed : (p : Placement) (f : Option Fault) → ready_by p f ≡ true → p ≡ Placed
ready-placed (Ok placed) f e = refl
ready-placed (Err overlap) f e = never (cc)

pub ready-good : (p : Placement) (f : Option Fault) → ready_by p f ≡ true → f ≡ None
ready-good (Ok placed) None e = refl
ready-good (Ok placed) (Some fault) e = never (cc)
ready-good (Err overlap) f e = never (cc)

-- what the answer tells: no number is due, or this one with this detail, and all of the ends
pub told-ready : (p : Placement) (f : Option Fault) (e : Ends) {E : Ends} → Ok E ≡ told_by p f e → (ready_by p f ≡ true) × (E ≡ e)
told-ready (Ok placed) None e q = (refl, cc)
told-ready (Ok placed) (Some fault) e q = never (cc)
told-ready (Err overlap) f e q = never (cc)

pub record ToldRefused (p : Placement) (f : Option Fault) (e : Ends) (x : NotSetOut) : Type 0 where
  pub refused : ready_by p f ≡ false
  pub number-is : refusal_number x.refusal ≡ number_by p f
  pub detail-is : refusal_detail x.refusal ≡ detail_by p f
  pub fault-is : x.fault ≡ f
  pub ends-are : x.ends ≡ e

pub told-refused : (p : Placement) (f : Option Fault) (e : Ends) {x : NotSetOut} → Err x ≡ told_by p f e → ToldRefused p f e x
told-refused (Ok placed) None e q = never (cc)
told-refused (Ok placed) (Some fault) e {x = x} q =
    let same : x ≡ told_at_end (record { fault = fault; ends = e }) = cc in
    record {
      refused = refl;
      number-is = ap (λ y. refusal_number y.refusal) same;
      detail-is = ap (λ y. refusal_detail y.refusal) same;
      fault-is = ap (λ y. y.fault) same;
      ends-are = ap (λ y. y.ends) same;
    }
told-refused (Err overlap) f e {x = x} q =
    let same : x ≡ record { refusal = Refusal.Blocks overlap; fault = f; ends = e } = cc in
    record {
      refused = refl;
      number-is = ap (λ y. refusal_number y.refusal) same;
      detail-is = ap (λ y. refusal_detail y.refusal) same;
      fault-is = ap (λ y. y.fault) same;
      ends-are = ap (λ y. y.ends) same;
    }

-- at number 7 the ends are told as they were realized
told-overlap : (overlap : Overlap) (f : Option Fault) (e : Ends) → Err (told_at_overlap overlap (unless f e)) ≡ told_by (Err overlap) f e
told-overlap overlap None e = refl
told-overlap overlap (Some fault) e = refl

ready-ends : (p : Placement) (f : Option Fault) (e : Ends) → ready_by p f ≡ true → told_by p f e ≡ Ok e
ready-ends (Ok placed) None e q = refl
ready-ends (Ok placed) (Some fault) e q = never (cc)
ready-ends (Err overlap) f e q = never (cc)

-- what is set out, where these are its ends and no number is due
abbrev pub outset_with : Ends → Outset
outset_with e = record { placement = Placed; fault = None; ends = e }

module _ {sheet : List ℕ} {r : Answer Ends NotSetOut} {kinds nodes blocked : List ℕ} (T : OutsetTold sheet r kinds nodes blocked) where
  pub set-told : {e : Ends} → r ≡ Ok e → SetOut sheet (outset_with e) kinds nodes blocked
  set-told {e} q =
      let O = T.outset in
      let t = told-ready O.placement O.fault O.ends (sym q ∙ T.told) in
      let p = ready-placed O.placement O.fault t.0 in
      let f = ready-good O.placement O.fault t.0 in
      let same : O ≡ outset_with e = λ i. record { placement = p i; fault = f i; ends = sym t.1 i } in
      subst (λ Q. SetOut sheet Q kinds nodes blocked) same T.is_set

  pub told-ends : ready T.outset ≡ true → r ≡ Ok T.outset.ends
  told-ends g = T.told ∙ ready-ends T.outset.placement T.outset.fault T.outset.ends g

  pub told-refusal : {x : NotSetOut} → r ≡ Err x → ToldRefused T.outset.placement T.outset.fault T.outset.ends x
  told-refusal q = told-refused T.outset.placement T.outset.fault T.outset.ends (sym q ∙ T.told)

pub same_faults : {R R' : Room} {e e' : Endpoint} {es es' : List Sink} → R ≡ R' → e ≡ e' → es ≡ es' → fault_of R e es ≡ fault_of R' e' es'
same_faults p q r = λ i. fault_of (p i) (q i) (r i)

pub same_ends : {R R' : Room} {e e' : Endpoint} {es es' : List Sink} → R ≡ R' → e ≡ e' → es ≡ es' → ends_of R e es ≡ ends_of R' e' es'
same_ends p q r = λ i. ends_of (p i) (q i) (r i)

-- ---- what may be handed on

module _ {sheet : List ℕ} {job : Job} (A : Accepted sheet job) where
  abbrev pub contents-of : Contents
  contents-of = A.contents

  pub use_of : Usable sheet job contents-of
  use_of = usable sheet job A

  sinks-are : job.sinks ≡ sinks_of contents-of.sinks
  unfolding job_of
  sinks-are = ap (λ j. j.sinks) A.is

  pub sinks_in_lem : sinks_in job.sinks ≡ contents-of.sinks
  sinks_in_lem = ap sinks_in sinks-are ∙ take-append_seam contents-of.sinks _

  pub good-room : Good job.room
  good-room = use_of.room-good

  pub block-list : BlockList sheet job.room job.blocks (blocks_in sheet job.blocks)
  block-list = own-list use_of.blocks

  pub source-within : Within job.room job.source.at
  source-within = use_of.source

  pub sinks-within : SinkList job.room job.sinks
  sinks-within = use_of.sinks

  -- where no number is due, the net's cells are in the room
  pub good-ends : (p : Placement) {f : Option Fault} {e : Ends} → f ≡ fault_of job.room job.source (sinks_in job.sinks) → e ≡ ends_of job.room job.source (sinks_in job.sinks) → ready_by p f ≡ true
      → NetInside job.room e.source e.taps
  unfolding ends_of
  good-ends p {f} {e} fault-is ends-are r = rw ends-are (net_in job.source source-within sinks-within (sym fault-is ∙ ready-good p f r))

  -- what is set out for the accepted contents is set out for all that the sheet means
  contents-alone : {r : Outset} {kinds nodes blocked : List ℕ} → OutsetOf contents-of r kinds nodes blocked → SetOut sheet r kinds nodes blocked
  contents-alone O = record { is = λ J m. rw (one-meaning sheet J contents-of m A.means) O }

  module _ {kinds nodes : List ℕ} {p : Placement} (laid : BlocksLaid job.room (blocks_in sheet job.blocks) kinds nodes p) where
    contents-laid : BlocksLaid contents-of.room contents-of.blocks kinds nodes p
    contents-laid = rw use_of.room-is at (blocks_laid_for use_of.blocks laid)

    contents-ends : ends_of job.room job.source (sinks_in job.sinks) ≡ ends_of contents-of.room contents-of.source contents-of.sinks
    contents-ends = same_ends use_of.room-is use_of.source_is sinks_in_lem

    contents-fault : fault_of job.room job.source (sinks_in job.sinks) ≡ fault_of contents-of.room contents-of.source contents-of.sinks
    contents-fault = same_faults use_of.room-is use_of.source_is sinks_in_lem

    -- what setting out comes to, told by its parts
    abbrev outset_now : Outset
    outset_now = record { placement = p; fault = fault_of job.room job.source (sinks_in job.sinks); ends = ends_of job.room job.source (sinks_in job.sinks) }

    module _ (q : p ≡ Placed) (g : fault_of job.room job.source (sinks_in job.sinks) ≡ None) where
      placed : BlocksLaid job.room (blocks_in sheet job.blocks) kinds nodes Placed
      placed = rw q at laid

      pub outset-ready : {e : Ends} → e ≡ ends_of job.room job.source (sinks_in job.sinks) → {marks : List ℕ} → marks ≡ no_marks (volume job.room) → OutsetReady sheet job e.source e.taps kinds nodes marks
      outset-ready {e} ends-are m = record {
        contents = contents-of;
        usable = use_of;
        sized = record {
          good = good-room;
          kinds-long = ap length placed.kinds-are ∙ tabulated-long _ _;
          nodes-long = ap length placed.nodes-are ∙ tabulated-long _ _;
          long = zeros-long m;
        };
        net = good-ends p (sym g) ends-are (rw q refl);
        clear = m;
      }

      pub set-out-ready : {e : Ends} → e ≡ ends_of job.room job.source (sinks_in job.sinks) → {blocked : List ℕ} → OutsetMarked sheet job e.source e.taps kinds nodes blocked
          → OutsetTold sheet (Ok e) kinds nodes blocked
      set-out-ready {e} ends-are {blocked = blocked} M =
          let contents-placed : BlocksLaid contents-of.room contents-of.blocks kinds nodes Placed = rw q at contents-laid in
          let here : blocked ≡ blocked_at_outset (kinds_of contents-of.room contents-of.blocks) (nodes_of contents-of.room contents-of.blocks) contents-of e.source e.taps =
          M.is contents-of use_of ∙ rw (contents-placed.kinds-are, contents-placed.nodes-are) refl in
          record {
            outset = record { placement = p; fault = None; ends = e };
            is_set = contents-alone record { laid = contents-laid; fault-is = sym g ∙ contents-fault; ends-are = ends-are ∙ contents-ends; blocked-are = rw q here };
            told = rw q refl;
          }

    pub set-out-refused : {x : NotSetOut} → Err x ≡ told_by p (fault_of job.room job.source (sinks_in job.sinks)) (ends_of job.room job.source (sinks_in job.sinks))
        → {blocked : List ℕ} → blocked ≡ no_marks (volume job.room) → OutsetTold sheet (Err x) kinds nodes blocked
    set-out-refused {x} told {blocked = blocked} m =
        let here : blocked ≡ no_marks (volume contents-of.room) = rw use_of.room-is at m in
        let r = (told-refused p _ _ told).refused in
        record { outset = outset_now; is_set = contents-alone record { laid = contents-laid; fault-is = contents-fault; ends-are = contents-ends; blocked-are = rw r here }; told = told }

    pub set-out-blocks : {overlap : Overlap} → p ≡ Err overlap → {r : Answer Ends Unrealized} → r ≡ realized_ends job.room job.source (sinks_in job.sinks)
        → {x : NotSetOut} → x ≡ told_at_overlap overlap r → {blocked : List ℕ} → blocked ≡ no_marks (volume job.room)
        → OutsetTold sheet (Err x) kinds nodes blocked
    set-out-blocks {overlap} q is told m =
        set-out-refused (rw q (ap Err (told ∙ ap (told_at_overlap overlap) is) ∙ told-overlap overlap (fault_of job.room job.source (sinks_in job.sinks)) (ends_of job.room job.source (sinks_in job.sinks)))) m

    pub set-out-end : p ≡ Placed → {u : Unrealized} → (fault_of job.room job.source (sinks_in job.sinks) ≡ Some u.fault) × (u.ends ≡ ends_of job.room job.source (sinks_in job.sinks))
        → {x : NotSetOut} → x ≡ told_at_end u → {blocked : List ℕ} → blocked ≡ no_marks (volume job.room)
        → OutsetTold sheet (Err x) kinds nodes blocked
    set-out-end q {u} told is m = set-out-refused (rw (q, told.0) (ap Err is ∙ ap (λ y. Err (told_at_end (record { fault = u.fault; ends = y }))) told.1)) m

-- ---- it leaves no choice

module _ {J : Contents} {r s : Outset} {kinds nodes blocked kinds' nodes' blocked' : List ℕ} (O : OutsetOf J r kinds nodes blocked) (P : OutsetOf J s kinds' nodes' blocked') where
  laid_same : ◌≡◌ {A = blocks.Result} (record { kinds = kinds; nodes = nodes; placement = r.placement }) (record { kinds = kinds'; nodes = nodes'; placement = s.placement })
  laid_same = blocks.coincide J.room J.blocks _ _ O.laid P.laid

  same_answer : r ≡ s
  same_answer =
      let f = O.fault-is ∙ sym P.fault-is in
      let e = O.ends-are ∙ sym P.ends-are in
      λ i. record { placement = (laid_same i).placement; fault = f i; ends = e i }

  pub outset-one : (r ≡ s) × (kinds ≡ kinds') × (nodes ≡ nodes') × (blocked ≡ blocked')
  outset-one = (same_answer, ap (λ L. L.kinds) laid_same, ap (λ L. L.nodes) laid_same, O.blocked-are ∙ rw same_answer (sym P.blocked-are))

-- two results of `set_out` for one accepted sheet coincide: the answer, and the final bytes of all three buffers
pub record Result : Type 0 where
  pub answer : Answer Ends NotSetOut
  pub kinds : List ℕ
  pub nodes : List ℕ
  pub blocked : List ℕ

module _ {sheet : List ℕ} {job : Job} (A : Accepted sheet job) where
  abbrev pub Keeps : Result → Type 0
  Keeps R = OutsetTold sheet R.answer R.kinds R.nodes R.blocked

  pub coincide : Determines Keeps
  coincide x y S T =
      let e = outset-one (S.is_set.is A.contents A.means) (T.is_set.is A.contents A.means) in
      let a : x.answer ≡ y.answer = S.told ∙ ap (λ O. told_by O.placement O.fault O.ends) e.0 ∙ sym T.told in
      λ i. record { answer = a i; kinds = e.1 i; nodes = e.2 i; blocked = e.3 i }
