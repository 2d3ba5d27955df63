-- Laws of the whole growth: how the loop over the turns begins, goes on and ends.
use Rattle.std.specs.Prelude.{◌≡◌, refl, Result, Ok, Err, true, false, ℕ, ◌+◌, ◌-◌, ◌≤◌, ◌<◌, eqb, replicate}
use Rattle.std.proofs.Math.Path.{sym, ap}
use Rattle.std.proofs.Common.{◌∙◌, eqb-true}
use mathlib.Core.List.{List, []}
use native.Mathlib.Omega.{arith}
use Rattle.std.proofs.Math.ListN.{length, length-replicate, get_or-replicate, get_or-eq_default}
use Rattle.basics.specs.Tests.{ask, ask_less, never}
use Rattle.basics.specs.Zeros.{zeros}
use Rattle.basics.specs.Lists.{joined}
use Rattle.room.specs.Room.{volume}
use Rattle.routing_resources.specs.Marks.{no_marks, is_marked, Marks}
use Rattle.routing_resources.specs.MarkLaws.{with_length_lem, with_none, marked-after, marks-none, marks_with}
use Rattle.job_sheet.specs.Sheet.{max_sinks}
use Rattle.geometry.specs.Geometry.{stands_in}
use Rattle.geometry.specs.GeometryLaws.{no_pair_one}
use Rattle.goals.specs.Trials.{WorkMemory}
use Rattle.branches.specs.declared.BranchLengths.{BranchLengths}
use Rattle.branches.specs.Branches.{no_lengths}
use Rattle.branches.specs.BranchLaws.{order-first, lengths-first, joined-nothing}
use Rattle.multinet.specs.declared.Grown.{Grown}
use Rattle.multinet.specs.declared.Stopped.{Stopped}
use Rattle.multinet.specs.Tree.{Plot, planted, grow_from, growth_of, source_marks}
use Rattle.multinet.specs.Growing.{SoundPlot, Sprouted, Growing}
use Rattle.multinet.specs.SinkTurns.{Turnable, Came, TurnCame, with_length, Plantable, Turning, GrowthTold}

-- ---- the outset

stands-none : (v : ℕ) → stands_in [] v ≡ false
unfolding stands_in
stands-none v = refl

module _ {P : Plot} (S : SoundPlot P) (blocked : List ℕ) where
  only-source : (v : ℕ) → is_marked (source_marks P.room P.source) v ≡ true → v ≡ P.source
  only-source v e =
      ask (eqb P.source v) (λ t. sym (eqb-true P.source v t))
      (λ f. let m : is_marked (source_marks P.room P.source) v ≡ false = not_marked v f in never (cc (sym m ∙ e)))
    where
      not_marked : (u : ℕ) → eqb P.source u ≡ false → is_marked (source_marks P.room P.source) u ≡ false
      not_marked u f = ask_less u (volume P.room)
          (λ l. let h : u < length (no_marks (volume P.room)) = rw (length-replicate {A = ℕ} (volume P.room) 0) l in
          marked-after (eqb P.source) (no_marks (volume P.room)) u h ∙ rw (f, get_or-replicate {A = ℕ} (volume P.room) u 0 0 l))
          (λ m. let h : length (source_marks P.room P.source) ≤ u = rw (with_length_lem 1 (eqb P.source) (no_marks (volume P.room)), length-replicate {A = ℕ} (volume P.room) 0) m in
          rw (get_or-eq_default (source_marks P.room P.source) 0 {n = u} h))

  planted_sprouts : length blocked ≡ volume P.room → Marks blocked → Sprouted P 0 (planted P blocked)
  unfolding planted
  planted_sprouts long marks = record {
    occupied-is = sym (with_none 1 _ (source_marks P.room P.source) (λ v h. rw (joined-nothing P.taps.count) (stands-none v)));
    joinable-long = with_length_lem 1 (eqb P.source) (no_marks (volume P.room)) ∙ length-replicate {A = ℕ} (volume P.room) 0;
    joinable-marks = marks_with 1 (omega arith) (eqb P.source) (no_marks (volume P.room)) (marks-none (volume P.room));
    no_pair = no_pair_one P.room S.good (is_marked (source_marks P.room P.source)) P.source only-source;
    blocked-long = long;
    blocked-marks = marks;
    count-is = length-replicate {A = List ℕ} P.taps.count [];
    none_yet = λ k h g. get_or-replicate {A = List ℕ} P.taps.count k [] [] h;
    cells_in = λ k h. rw (get_or-replicate {A = List ℕ} P.taps.count k [] [] h) (record { below = λ i g. absurd (omega arith) });
    steps = λ k h. rw (get_or-replicate {A = List ℕ} P.taps.count k [] [] h) (tt {0});
  }

module _ {P : Plot} {joinable blocked classes known previous path best : List ℕ} (A : Plantable P joinable blocked classes known previous path best) where
  first-growing : (branches : List ℕ) → P.buffer ≡ length branches → Growing P blocked branches 0 joinable blocked branches (replicate max_sinks 0)
  unfolding grow_from growth_of planted
  first-growing branches b =
      let z : length (joined (replicate {A = List ℕ} P.taps.count [])) ≡ 0 = ap length (joined-nothing P.taps.count) in
      record {
        tree = planted P blocked;
        joinable-is = A.joinable-is;
        blocked-is = refl;
        so_far = refl;
        same = let e : P.taps.count - 0 ≡ P.taps.count = omega arith in ap (λ n. grow_from n P 0 (planted P blocked)) e;
        sprouted = planted_sprouts A.sound blocked A.blocked-long A.blocked-marks;
        in_order = rw z (order-first P.taps.count branches);
        behind = refl;
        buffer-long = sym b;
        lengths-are = lengths-first P.taps.count max_sinks A.sound.net.taps_in_lem.few;
        each_long = refl;
        each-short = λ i h. rw (get_or-replicate {A = ℕ} max_sinks i 0 0 h) (omega arith);
        each_none = λ i h. zeros max_sinks i;
      }

  pub first-turn : (branches : List ℕ) → P.buffer ≡ length branches → Turning P blocked branches 0 (no_lengths P.taps.count) joinable blocked branches
  first-turn branches b = record { growing = first-growing branches b; count-is = refl; so_far = omega arith }

-- ---- turn by turn

module _ {P : Plot} {outset start-buffer : List ℕ} {turn : ℕ} {L : BranchLengths} {joinable blocked branches : List ℕ} (T : Turning P outset start-buffer turn L joinable blocked branches) where
  pub turnable : SoundPlot P → turn < P.taps.count → {classes known previous path best : List ℕ} → WorkMemory P.room known previous path
      → length classes ≡ volume P.room → length best ≡ volume P.room
      → Turnable P turn L joinable blocked classes known previous path best branches
  turnable S h m c b = record {
    outset = outset;
    start-buffer = start-buffer;
    sound = S;
    growing = T.growing;
    count-is = T.count-is;
    turn_in_lem = h;
    memory = m;
    classes-long = c;
    best-long = b;
  }

  module _ {turned : Result Grown Stopped} {joinable' blocked' branches' : List ℕ} (C : TurnCame P turn L joinable blocked branches turned joinable' blocked' branches') where
    came-now : Came P outset start-buffer turn L.each joinable' blocked' branches' turned
    came-now = C.came outset start-buffer T.growing

    pub turn_recordable : {g : Grown} → turned ≡ Ok g → g.sink < max_sinks
    turn_recordable e = (rw e at came-now).0

    pub turn-ends : {s : Stopped} → turned ≡ Err s → GrowthTold P outset start-buffer (Err (record { stop = s.stop; sink = s.sink; lengths = L })) joinable' blocked' branches'
    turn-ends e = record { told = rw e at came-now }

    pub turn-goes-on : turn < P.taps.count → {g : Grown} → turned ≡ Ok g → {L' : BranchLengths} → L' ≡ with_length L g.sink g.length
        → Turning P outset start-buffer (turn + 1) L' joinable' blocked' branches'
    turn-goes-on h e r = rw r (record { growing = (rw e at came-now).1; count-is = T.count-is; so_far = omega arith })

  pub all_grown : P.taps.count ≤ turn → GrowthTold P outset start-buffer (Ok L) joinable blocked branches
  all_grown h = let e : turn ≡ P.taps.count = omega (arith, T.so_far) in record { told = (T.count-is, rw e at T.growing) }
