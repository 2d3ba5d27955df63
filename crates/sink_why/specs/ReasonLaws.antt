-- Laws of the reason: why cells are blocked, and what is told of a sink by its verdict.
use Rattle.std.specs.Prelude.{◌≡◌, refl, ◌≢◌, true, false, List, ◌++◌, ℕ, ◌-◌, eqb, length, take, drop, replicate}
use Rattle.std.proofs.Common.{sym, ap, subst, ◌∙◌, arith, length-take-le, eq-eqb, ne_eqb}
use Rattle.basics.specs.Tests.{either}
use Rattle.basics.specs.Zeros.{zeros-long, drop_zeros, cleared-to}
use Rattle.lent.specs.Lent.{filled, Cleared}
use Rattle.room.specs.Room.{volume}
use Rattle.ground.specs.declared.Ground.{Ground}
use Rattle.job_sheet.specs.declared.Job.{Job}
use Rattle.job_sheet.specs.Sheet.{Contents, Means}
use Rattle.job_sheet.specs.Accepted.{Accepted, Usable}
use Rattle.job_sheet.proofs.Theorems.{one-meaning}
use Rattle.ends.specs.declared.Taps.{Taps}
use Rattle.outset.specs.SetOut.{Outset}
use Rattle.outset.specs.SetOut.{OutsetOf, SetOut}
use Rattle.outset.specs.SetOutLaws.{use_of, good-room, outset-one}
use Rattle.branches.specs.declared.BranchLengths.{BranchLengths}
use Rattle.branches.specs.Branches.{branches_of}
use Rattle.flood.specs.Walls.{tabled}
use Rattle.flood.specs.TableLaws.{tabled-long}
use Rattle.causes.specs.Causes.{cause_of, CausesAsked, CausesTold}
use Rattle.why_tree.specs.WhyTree.{verdict_for, is_shut_in, cut_short}
use Rattle.why_tree.specs.Telling.{SinkTold}
use Rattle.sink_why.specs.declared.Stopping.{Stopping}
use Rattle.sink_why.specs.SinkWhy.{for_shut_in}
use Rattle.sink_why.specs.Telling.{BlockedAsked, BlockedTold, ReasonTold}

-- ---- why cells are blocked

module _ {sheet : List ℕ} {job : Job} {source : ℕ} {taps : Taps} {L : BranchLengths} {branches kinds nodes blocked marks causes : List ℕ}
    (A : BlockedAsked sheet job source taps L branches kinds nodes blocked marks causes) {O : Outset} {kinds' nodes' blocked' : List ℕ}
    (S : SetOut sheet O kinds' nodes' blocked') {zeros : List ℕ} (z : Cleared causes zeros) {cells : ℕ} (e : cells ≡ volume job.room) where
  abbrev accepted : Accepted sheet job
  accepted = A.set.accepted

  pub front_long : cells ≡ length (take cells zeros)
  front_long = sym (length-take-le cells zeros (omega (arith, e, zeros-long {n = length causes} z, A.causes-enough)))

  pub causes-asked : length kinds' ≡ length kinds → length nodes' ≡ length nodes → CausesAsked sheet job source taps kinds' nodes' L branches marks (take cells zeros)
  causes-asked k n = record {
    foreign = record {
      contents = accepted.contents;
      usable = use_of accepted;
      sized = record { good = good-room accepted; kinds-long = k ∙ A.set.kinds-long; nodes-long = n ∙ A.set.nodes-long; long = A.marks-long };
      causes-long = sym front_long ∙ e;
    };
    net = A.net;
    own = A.own;
  }

  pub blocked-told : {front : List ℕ} → CausesTold sheet job source taps kinds' nodes' (branches_of L branches) front
      → BlockedTold sheet source taps L branches causes (front ++ drop cells zeros)
  blocked-told {front} T = record { causes-is = λ J m O'' kinds'' nodes'' blocked'' Q. told J m Q }
    where
      told : (J : Contents) → Means sheet J → {O'' : Outset} {kinds'' nodes'' blocked'' : List ℕ} → OutsetOf J O'' kinds'' nodes'' blocked''
          → front ++ drop cells zeros ≡ filled (tabled (volume J.room) (cause_of kinds'' nodes'' J source taps (branches_of L branches))) causes
      told J m {O''} {kinds''} {nodes''} {blocked''} Q =
          let U : Usable sheet job J = subst (λ K. Usable sheet job K) (one-meaning sheet accepted.contents J accepted.means m) (use_of accepted) in
          let one = outset-one (S.is J m) Q in
          let f : front ≡ tabled (volume J.room) (cause_of kinds'' nodes'' J source taps (branches_of L branches)) = T.are J U ∙ rw (one.1, one.2) refl in
          let l : length front ≡ cells = ap length f ∙ tabled-long (volume J.room) _ ∙ sym (e ∙ ap volume U.room-is) in
          ap (λ (x : List ℕ). front ++ x) (ap (drop cells) z ∙ drop_zeros cells (length causes) ∙ ap (λ n. replicate (length causes - n) 0) (sym l))
          ∙ ap (λ (x : List ℕ). filled x causes) f

-- ---- by the verdict

-- nothing is written where the sink isn't shut in
nothing : (verdict : ℕ) → eqb verdict is_shut_in ≡ false → (bytes buffer : List ℕ) {after : List ℕ} → Cleared buffer after → after ≡ filled (for_shut_in verdict bytes) buffer
nothing verdict f bytes buffer e = let z : length buffer - 0 ≡ length buffer = omega arith in rw f (e ∙ ap (λ n. replicate n 0) (sym z))

module _ (G : Ground) (sheet : List ℕ) (S : Stopping) (approach : ℕ) (branches kinds blocked joinable reached walls causes : List ℕ) where
  abbrev ToldBy : ℕ → List ℕ → List ℕ → List ℕ → Type 0
  ToldBy = ReasonTold G sheet S approach branches kinds blocked joinable reached walls causes

  none_told : (verdict : ℕ) {reached' walls' causes' : List ℕ} → eqb verdict is_shut_in ≡ false
      → verdict ≡ either S.unreached (verdict_for G kinds blocked joinable approach) cut_short
      → Cleared reached reached' → Cleared walls walls' → Cleared causes causes' → ToldBy verdict reached' walls' causes'
  none_told verdict n v r w k = record {
    verdict-is = v;
    reached-is = nothing verdict n _ reached r;
    walls-is = nothing verdict n _ walls w;
    causes-is = λ J m O kinds'' nodes blocked'' Q. nothing verdict n _ causes k;
  }

  -- number 13 is due
  pub reason-cut : S.unreached ≡ false → {reached' walls' causes' : List ℕ} → Cleared reached reached' → Cleared walls walls' → Cleared causes causes'
      → ToldBy cut_short reached' walls' causes'
  reason-cut f r w k = none_told cut_short refl (rw f) r w k

  module _ (t : S.unreached ≡ true) {verdict : ℕ} {reached₁ walls₁ : List ℕ} (T : SinkTold G kinds blocked joinable approach reached walls verdict reached₁ walls₁) where
    verdict-here : verdict ≡ either S.unreached (verdict_for G kinds blocked joinable approach) cut_short
    verdict-here = rw t T.verdict-is

    -- the sink isn't shut in
    pub reason_open : verdict ≢ is_shut_in → length reached₁ ≡ length reached → length walls₁ ≡ length walls → {reached' walls' causes' : List ℕ}
        → Cleared reached₁ reached' → Cleared walls₁ walls' → Cleared causes causes' → ToldBy verdict reached' walls' causes'
    reason_open n lr lw r w k = none_told verdict (ne_eqb verdict is_shut_in n) verdict-here (cleared-to lr r) (cleared-to lw w) k

    -- it is
    pub reason-shut : verdict ≡ is_shut_in → {causes' : List ℕ} → BlockedTold sheet S.source S.taps S.lengths branches causes causes'
        → ToldBy verdict reached₁ walls₁ causes'
    reason-shut e B = record {
      verdict-is = verdict-here;
      reached-is = rw (eq-eqb verdict is_shut_in e) T.reached-is;
      walls-is = rw (eq-eqb verdict is_shut_in e) T.walls-is;
      causes-is = λ J m O kinds'' nodes blocked'' Q. rw (eq-eqb verdict is_shut_in e) (B.causes-is J m O kinds'' nodes blocked'' Q);
    }
