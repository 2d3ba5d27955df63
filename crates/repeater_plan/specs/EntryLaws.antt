-- Laws of the entry: what a net is that numbers 2 to 6 do not refuse, and what is left in lent memory.
use Rattle.std.specs.Prelude.{◌≡◌, Bool, true, false, ◌&&◌, ℕ, ◌-◌, ◌≤◌, ◌<◌, eqb, leb, ltb, length, get_or, take, drop, replicate, Option, Some, None, Result, Ok, Err}
use Rattle.std.proofs.Math.Path.{refl, ap}
use Rattle.std.proofs.Common.{sym, ◌∙◌, inl, inr, arith, length-take-le, take_at, get_or-take}
use mathlib.Core.List.{List, [], ◌∷◌, ◌++◌, map}
use Rattle.std.proofs.lemmas.List.{length-map}
use borrow.Author.Tests.{ltb-true, eqb-true, le-leb, lt-leb}
use Rattle.numbers.specs.Refusals.{buffer_number}
use Rattle.basics.specs.Tests.{ask, and_left, and_right, passed, never}
use Rattle.basics.specs.Lists.{In, any, every, every_in, every_map, every_append, in_at}
use Rattle.basics.specs.Zeros.{take_zeros, drop_zeros, cleared-to, zeros-long}
use Rattle.lent.specs.Lent.{filled}
use Rattle.room.specs.declared.Room.{Room}
use Rattle.room.specs.Room.{Good, Within, sides_good, volume, moves, holds_at, neighbour, Step}
use Rattle.room.specs.RoomLaws.{good}
use Rattle.routing_resources.specs.Marks.{no_marks}
use Rattle.job_sheet.specs.declared.Judgement.{Judgement}
use Rattle.job_sheet.specs.declared.Judgement.TheVariants as judgement
use Rattle.job_sheet.specs.Sheet.{max_sinks, no_sink, is_good, sink_fault, number_of}
use Rattle.job_sheet.proofs.FaultLaws.{good-is}
use Rattle.job_sheet.specs.Accepted.{SinkList}
use Rattle.job_sheet.proofs.AcceptedLaws.{first_good, faultless, endpoint-within, sink-within}
use Rattle.ends.specs.declared.Taps.{Taps}
use Rattle.ends.specs.declared.Ends.{Ends}
use Rattle.ends.specs.declared.Fault.{Fault}
use Rattle.ends.specs.declared.Unrealized.{Unrealized}
use Rattle.port_realization.specs.declared.EndFault.{EndFault}
use Rattle.ends.specs.Ends.{sinks_in, fault_number, fault_of, ends_of, unless, realized_ends}
use Rattle.ends.specs.EndLaws.{net_in, ends-told}
use Rattle.branches.specs.declared.BranchLengths.{BranchLengths}
use Rattle.branches.specs.Branches.{lengths_in, sum, marked_count}
use Rattle.repeaters.specs.Masks.{Steps, AllSteps, BranchesReady}
use Rattle.repeaters.specs.Sinks.{Placeable}
use Rattle.repeaters.specs.NetEnds.{net_repeaters}
use Rattle.repeater_plan.specs.declared.Lengths.{Lengths}
use Rattle.repeater_plan.specs.declared.Refused.{Refused}
use Rattle.repeater_plan.specs.Plan.{Net, branches_in, is_move, head_good, branch_good, branch_fault, room_fault, judged, Lent, lent, lengths_of, lent_good, counts_good, unplanned, planned_marks, outcome_by, outcome_of, answer_of, lent_after, Promise}
use Rattle.repeater_plan.specs.Entry.{Enough, Lendable, Frontable, FrontPlaced, PlacedBy, fault_in, marks_with, Settled}

-- ---- number 6

-- an array has sixteen places: that is known of whoever owns it
pub places-whole : {A B : Type 0} (f : A → B) (l : List A) → length (map f l) ≡ max_sinks → length l ≡ max_sinks
places-whole f l e = sym (length-map l f) ∙ e

module _ (R : Room) (B : Lent) where
  pub long-enough : lent_good R (lengths_of B) ≡ true → Enough R B
  unfolding lent_good
  long-enough e = record {
    repeaters-enough = search passed;
    forbidden-enough = search passed;
    links-enough = search passed;
    parents-enough = search passed;
    line-enough = search passed;
  }

and_last : (b : Bool) → b ≡ b && true
and_last true = refl
and_last false = refl

module _ (R : Room) (n : Lengths) where
  pub repeaters-short : n.repeaters < volume R → false ≡ lent_good R n
  unfolding lent_good
  repeaters-short h = rw (lt-leb _ _ h) refl

  module _ (a : volume R ≤ n.repeaters) where
    pub forbidden-short : n.forbidden < volume R → false ≡ lent_good R n
    unfolding lent_good
    forbidden-short h = rw (le-leb _ _ a, lt-leb _ _ h) refl

    module _ (b : volume R ≤ n.forbidden) where
      pub links-short : n.links < volume R → false ≡ lent_good R n
      unfolding lent_good
      links-short h = rw (le-leb _ _ a, le-leb _ _ b, lt-leb _ _ h) refl

      module _ (c : volume R ≤ n.links) where
        pub parents-short : n.parents < volume R → false ≡ lent_good R n
        unfolding lent_good
        parents-short h = rw (le-leb _ _ a, le-leb _ _ b, le-leb _ _ c, lt-leb _ _ h) refl

        pub line-left : volume R ≤ n.parents → {cells : ℕ} → cells ≡ volume R → leb cells n.line ≡ lent_good R n
        unfolding lent_good
        line-left d e = rw (e, le-leb _ _ a, le-leb _ _ b, le-leb _ _ c, le-leb _ _ d) (and_last (leb (volume R) n.line))

-- ---- branches that number 4 does not refuse

any_in : {X : Type 0} (p : X → Bool) (xs : List X) → any p xs ≡ true → (x : X) × In x xs × (p x ≡ true)
any_in p [] e = never (cc)
any_in p (x ∷ xs) e = ask (p x) (λ t. (x, inl refl, t)) (λ f. let r = any_in p xs (rw f at e) in (r.0, inr r.1, r.2))

leads-to : (b : ℕ) (place : Option ℕ) → holds_at (eqb b) place ≡ true → place ≡ Some b
leads-to b (Some v) e = ap Some (sym (eqb-true b v e))
leads-to b None e = never (cc)

module _ (R : Room) where
  is-step : (a b : ℕ) → a < volume R → is_move R a b ≡ true → Step R a b
  unfolding is_move
  is-step a b h e =
      let m = any_in (λ m. holds_at (eqb b) (neighbour R a m)) moves e in
      record { from_in = h; move = m.0; listed = m.1; leads = leads-to b _ m.2 }

  branch-steps : (branch : List ℕ) → branch_good R branch ≡ true → Steps R branch
  unfolding branch_good
  branch-steps [] e = tt {0}
  branch-steps (a ∷ []) e = tt {0}
  branch-steps (a ∷ (b ∷ rest)) e =
      let first = and_left (head_good R (a ∷ (b ∷ rest))) (branch_good R (b ∷ rest)) e in (
        is-step a b (ltb-true a (volume R) (and_left (ltb a (volume R)) (is_move R a b) first)) (and_right (ltb a (volume R)) (is_move R a b) first),
        branch-steps (b ∷ rest) (and_right (head_good R (a ∷ (b ∷ rest))) (branch_good R (b ∷ rest)) e),
      )

  all-steps : (bs : List (List ℕ)) → every is_good (map (branch_fault R) bs) ≡ true → AllSteps R bs
  all-steps [] e = tt {0}
  all-steps (b ∷ bs) e = (
    branch-steps b (faultless (branch_good R b) judgement.Position refl (and_left (is_good (branch_fault R b)) (every is_good (map (branch_fault R) bs)) e)),
    all-steps bs (and_right (is_good (branch_fault R b)) (every is_good (map (branch_fault R) bs)) e),
  )

-- ---- a net that numbers 2 to 6 do not refuse

pub record NoFault (N : Net) : Type 0 where
  pub room-good : Good N.room
  pub source-within : Within N.room N.source.at
  pub sinks-good : every is_good (map (sink_fault N.room) (sinks_in N.sinks)) ≡ true
  pub branches-good : every is_good (map (branch_fault N.room) (branches_in N)) ≡ true

pub no_fault : (N : Net) → is_good (judged N) ≡ true → NoFault N
unfolding judged
no_fault N g =
    let all = rw (every_append is_good) at (first_good _ (good-is _ g)) in
    let x : is_good (room_fault N.room) ≡ true = search passed in
    record {
      room-good = good N.room (faultless (sides_good N.room) judgement.Sides refl x);
      source-within = endpoint-within N.room N.source (search passed);
      sinks-good = search passed;
      branches-good = search passed;
    }

module _ (N : Net) (sinks-whole : length N.sinks.ends ≡ max_sinks) (lengths-whole : length N.lengths.each ≡ max_sinks)
    (g : is_good (judged N) ≡ true) (c : counts_good N ≡ true) where
  few-sinks : N.sinks.count ≤ max_sinks
  unfolding counts_good
  few-sinks = search passed

  few-branches : N.lengths.count ≤ max_sinks
  unfolding counts_good
  few-branches = search passed

  sums_within : sum (lengths_in N.lengths) ≤ length N.cells
  unfolding counts_good
  sums_within = search passed

  pub sink-list : SinkList N.room N.sinks
  sink-list = record {
    few = few-sinks;
    whole = sinks-whole;
    within = λ i h.
        let l = sinks_in N.sinks in
        let long : length l ≡ N.sinks.count = length-take-le N.sinks.count N.sinks.ends (omega (arith, few-sinks, sinks-whole)) in
        rw (get_or-take N.sinks.count N.sinks.ends i no_sink h) at
        (sink-within N.room (get_or l i no_sink) (every_in (λ k. is_good (sink_fault N.room k)) l (rw every_map at (no_fault N g).sinks-good) (get_or l i no_sink) (in_at l i no_sink (omega (arith, long, h)))));
  }

  pub ready-branches : BranchesReady N.room N.lengths N.cells
  ready-branches = record {
    branched = record { whole = lengths-whole; few = few-branches; within = sums_within };
    steps = all-steps N.room (branches_in N) (no_fault N g).branches-good;
  }

  module _ {B : Lent} (m : lent_good N.room (lengths_of B) ≡ true) where
    pub lendable : {r : Result Ends Unrealized} → r ≡ realized_ends N.room N.source (sinks_in N.sinks) → (E : Ends) → r ≡ Ok E
        → Lendable N.room E.source E.taps N.lengths N.cells B
    unfolding ends_of
    lendable is E e =
        let t = ends-told N.room N.source (sinks_in N.sinks) is e in
        let net = net_in N.source (no_fault N g).source-within sink-list t.0 in
        record { good = (no_fault N g).room-good; net = rw t.1 net; laid = ready-branches; enough = long-enough N.room B m }

-- ---- in front of cleared memory

module _ {R : Room} {source : ℕ} {taps : Taps} {L : BranchLengths} {cells : List ℕ} {B : Lent} (F : Frontable R source taps L cells B) {n : ℕ} (e : n ≡ volume R) where
  clear-front : {marks : List ℕ} → volume R ≤ length marks → marks ≡ replicate (length marks) 0 → take n marks ≡ no_marks (volume R)
  clear-front {marks} h z = rw e (ap (take (volume R)) z ∙ take_zeros (volume R) (length marks) h)

  front_long : (l : List ℕ) → volume R ≤ length l → length (take n l) ≡ volume R
  front_long l h = rw e (length-take-le (volume R) l h)

  pub front-placeable : Placeable R source taps L cells (take n B.repeaters) (take n B.forbidden) (take n B.links) (take n B.parents) (take n B.line)
  front-placeable = record {
    good = F.lendable.good;
    net = F.lendable.net;
    laid = F.lendable.laid;
    repeaters-clear = clear-front F.lendable.enough.repeaters-enough F.repeaters-clear;
    forbidden-clear = clear-front F.lendable.enough.forbidden-enough F.forbidden-clear;
    links-long = front_long B.links F.lendable.enough.links-enough;
    parents-long = front_long B.parents F.lendable.enough.parents-enough;
    line-long = front_long B.line F.lendable.enough.line-enough;
  }

  pub front-placed : {marks front : List ℕ} → front ≡ marks → length front ≡ length (take n B.repeaters) → {r : ℕ} → r ≡ marked_count (take n (front ++ drop n B.repeaters))
      → FrontPlaced marks R B.repeaters r (front ++ drop n B.repeaters)
  front-placed {marks} {front} p l c =
      let long : length front ≡ n = l ∙ length-take-le n B.repeaters (omega (arith, e, F.lendable.enough.repeaters-enough)) in
      record {
        long = ap length (sym p) ∙ long ∙ e;
        is = rw (p, e) refl;
        count = c ∙ ap marked_count (take_at front (drop n B.repeaters) n long ∙ p);
      }

-- ---- over memory whose marks were cleared

pub frontable : {R : Room} {source : ℕ} {taps : Taps} {L : BranchLengths} {cells : List ℕ} {B : Lent} → Lendable R source taps L cells B → {repeaters forbidden : List ℕ}
    → repeaters ≡ replicate (length B.repeaters) 0 → forbidden ≡ replicate (length B.forbidden) 0
    → Frontable R source taps L cells (lent repeaters forbidden B.links B.parents B.line)
frontable {B = B} F r f =
    let p = zeros-long {n = length B.repeaters} r in
    let q = zeros-long {n = length B.forbidden} f in
    record {
      lendable = record {
        good = F.good;
        net = F.net;
        laid = F.laid;
        enough = record {
          repeaters-enough = omega (arith, p, F.enough.repeaters-enough);
          forbidden-enough = omega (arith, q, F.enough.forbidden-enough);
          links-enough = F.enough.links-enough;
          parents-enough = F.enough.parents-enough;
          line-enough = F.enough.line-enough;
        };
      };
      repeaters-clear = cleared-to (sym p) r;
      forbidden-clear = cleared-to (sym q) f;
    }

module _ (R : Room) (run : ℕ) (branches : List (List ℕ)) (repeaters : List ℕ) {r : Result Ends Unrealized} where
  pub placed-good : {E : Ends} → r ≡ Ok E → {n : ℕ} {repeaters' : List ℕ} → FrontPlaced (net_repeaters R run E.source E.taps branches) R repeaters n repeaters'
      → PlacedBy (fault_in r) (marks_with R run branches r) R repeaters (Ok n) repeaters'
  placed-good e P = rw e (ap Ok P.count, P.long, P.is)

  pub placed-refused : {u : Unrealized} → r ≡ Err u → {n : ℕ} → n ≡ fault_number u.fault.due → {p : Result ℕ Refused} → p ≡ Err (record { number = n; detail = u.fault.place })
      → PlacedBy (fault_in r) (marks_with R run branches r) R repeaters p repeaters
  placed-refused e q p = rw (e, ← q) (p, refl)

-- ---- what is left in lent memory

module _ (repeaters marks : List ℕ) {zeros : List ℕ} (z : zeros ≡ replicate (length repeaters) 0) where
  marks-filled : {n : ℕ} → length marks ≡ n → {after : List ℕ} → after ≡ marks ++ drop n zeros → after ≡ filled marks repeaters
  marks-filled l p = p ∙ rw (← l, z) (ap (λ x. marks ++ x) (drop_zeros (length marks) (length repeaters)))

nothing-filled : (repeaters : List ℕ) {zeros : List ℕ} → zeros ≡ replicate (length repeaters) 0 → {after : List ℕ} → after ≡ zeros → after ≡ filled [] repeaters
nothing-filled repeaters z p = let s : length repeaters - 0 ≡ length repeaters = omega arith in p ∙ z ∙ ap (λ n. replicate n 0) (sym s)

-- a refusal by 8 or 9 leaves everything lent zero
refused-left : (due : EndFault) (place : ℕ) (B B' : Lent) → B'.repeaters ≡ filled [] B.repeaters
    → B'.forbidden ≡ replicate (length B.forbidden) 0 → B'.links ≡ replicate (length B.links) 0 → B'.parents ≡ replicate (length B.parents) 0
    → B'.line ≡ replicate (length B.line) 0 → B' ≡ lent_after (unplanned (fault_number due) place) B
refused-left EndFault.NoFacing place B B' q a b c d = λ i. record { repeaters = q i; forbidden = a i; links = b i; parents = c i; line = d i }
refused-left EndFault.Outside place B B' q a b c d = λ i. record { repeaters = q i; forbidden = a i; links = b i; parents = c i; line = d i }

pub settled : (R : Room) (marks : List ℕ) (B : Lent) (f : Option Fault) {zeros : List ℕ} → zeros ≡ replicate (length B.repeaters) 0 → (r : Result ℕ Refused) (B' : Lent)
    → PlacedBy f marks R zeros r B'.repeaters
    → B'.forbidden ≡ replicate (length B.forbidden) 0 → B'.links ≡ replicate (length B.links) 0 → B'.parents ≡ replicate (length B.parents) 0
    → B'.line ≡ replicate (length B.line) 0 → Settled (outcome_by marks f) B r B'
settled R marks B None z r B' p a b c d = record {
  answer = p.0;
  lent_is = let q = marks-filled B.repeaters marks z p.1 p.2 in λ i. record { repeaters = q i; forbidden = a i; links = b i; parents = c i; line = d i };
}
settled R marks B (Some fault) z r B' p a b c d = record {
  answer = p.0;
  lent_is = refused-left fault.due fault.place B B' (nothing-filled B.repeaters z p.1) a b c d;
}

-- ---- the promise

untouched : (j : Judgement) → is_good j ≡ false → (B : Lent) → B ≡ lent_after (unplanned (number_of j) 0) B
untouched judgement.Good e B = never (cc)
untouched judgement.Sheet e B = refl
untouched judgement.Sides e B = refl
untouched judgement.Config e B = refl
untouched judgement.Position e B = refl
untouched judgement.Code e B = refl

module _ (N : Net) (B : Lent) where
  pub judged-bad : is_good (judged N) ≡ false → {r : Result ℕ Refused} → r ≡ answer_of (unplanned (number_of (judged N)) 0) → Promise N B r B
  unfolding outcome_of
  judged-bad f a = record { answer = rw f a; lent_is = rw f (untouched (judged N) f B) }

  module _ (g : is_good (judged N) ≡ true) where
    pub counts-bad : counts_good N ≡ false → {r : Result ℕ Refused} → r ≡ answer_of (unplanned buffer_number 0) → Promise N B r B
    unfolding outcome_of
    counts-bad f a = record { answer = rw (g, f) a; lent_is = rw (g, f) refl }

    module _ (c : counts_good N ≡ true) where
      pub lent-bad : lent_good N.room (lengths_of B) ≡ false → {r : Result ℕ Refused} → r ≡ answer_of (unplanned buffer_number 0) → Promise N B r B
      unfolding outcome_of
      lent-bad f a = record { answer = rw (g, c, f) a; lent_is = rw (g, c, f) refl }

      -- what comes of the ends comes of their fault
      outcome-is : (f : Option Fault) → outcome_by (marks_with N.room N.run (branches_in N) (unless f (ends_of N.room N.source (sinks_in N.sinks)))) (fault_in (unless f (ends_of N.room N.source (sinks_in N.sinks))))
          ≡ outcome_by (planned_marks N) f
      unfolding ends_of planned_marks
      outcome-is None = refl
      outcome-is (Some fault) = refl

      pub all-good : lent_good N.room (lengths_of B) ≡ true → {E : Result Ends Unrealized} → E ≡ realized_ends N.room N.source (sinks_in N.sinks) → {r : Result ℕ Refused} {B' : Lent}
          → Settled (outcome_by (marks_with N.room N.run (branches_in N) E) (fault_in E)) B r B' → Promise N B r B'
      unfolding outcome_of
      all-good t {E} e {r} {B'} S =
          let o = ap (λ x. outcome_by (marks_with N.room N.run (branches_in N) x) (fault_in x)) e ∙ outcome-is (fault_of N.room N.source (sinks_in N.sinks)) in
          record { answer = rw (g, c, t) (S.answer ∙ ap answer_of o); lent_is = rw (g, c, t) (S.lent_is ∙ ap (λ x. lent_after x B) o) }
