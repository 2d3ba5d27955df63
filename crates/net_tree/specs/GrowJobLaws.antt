-- Laws of a job's growth: what growing and harvesting ask, and that they make up what the definition has.
use Rattle.std.specs.Prelude.{◌≡◌, refl, Result, Ok, Err, List, [], ◌∷◌, ◌++◌, map, ℕ, zero, suc, ◌-◌, ◌≤◌, ◌<◌, eqb, length, get_or, drop, replicate}
use Rattle.std.proofs.Math.Path.{sym, ap}
use Rattle.std.proofs.Common.{◌∙◌, take-append-drop, ext_get_or}
use native.Mathlib.Omega.{arith}
use Rattle.std.proofs.lemmas.List.{length-map}
use Rattle.numbers.specs.Refusals.{buffer_number}
use Rattle.basics.specs.Tests.{ask_less}
use Rattle.basics.specs.Zeros.{drop_zeros, zeros}
use Rattle.basics.specs.Padding.{padded_long}
use Rattle.basics.specs.Lists.{joined}
use Rattle.lent.specs.Lent.{filled}
use Rattle.room.specs.declared.Room.{Room}
use Rattle.routing_resources.specs.Marks.{marked_by, no_marks}
use Rattle.job_sheet.specs.Sheet.{max_sinks}
use Rattle.ends.specs.declared.Taps.{Taps}
use Rattle.branches.specs.declared.BranchLengths.{BranchLengths}
use Rattle.branches.specs.Branches.{branch_lengths, marked_count}
use Rattle.branches.specs.BranchLaws.{lengths_theirs}
use Rattle.multinet.specs.declared.Stop.{Stop}
use Rattle.multinet.specs.declared.Stop.TheVariants.{QueueFull, NoGoal, BufferFull}
use Rattle.multinet.specs.declared.Early.{Early}
use Rattle.multinet.specs.Tree.{Plot, grown, stopped, grow_from, growth_of, repeaters_of}
use Rattle.multinet.specs.Growing.{Growing}
use Rattle.multinet.specs.SinkTurns.{Plantable, EndTold, GrowthTold}
use Rattle.multinet.proofs.SinkTurnLaws.{early-growth}
use Rattle.multinet.specs.Finishing.{BufferHolds, Finishable}
use Rattle.net_tree.specs.declared.Tree.{Tree}
use Rattle.net_tree.specs.Answers.{Answer, Lent, no_tree, outcome_of, answer_of}
use Rattle.net_tree.specs.Entry.{Harvestable, Harvested, Growable, TreeGrown, refused_by, Gatherable, Gathered, ended-early, in_whole}

-- ---- lists

behind_map : (bs : List (List ℕ)) (n i : ℕ) → length bs ≤ i → ◌≡◌ {A = ℕ} (get_or (map length bs ++ replicate n 0) i 0) 0
behind_map [] n i h = zeros n i
behind_map (b ∷ bs) n zero h = absurd (omega arith)
behind_map (b ∷ bs) n (suc i) h = behind_map bs n i (omega arith)

-- ---- harvesting

pub harvest_finishable : {R : Room} {source : ℕ} {taps : Taps} {L : BranchLengths} {branches occupied repeaters classes known previous path : List ℕ}
    → Harvestable R source taps L branches occupied repeaters classes known previous path → {classes' : List ℕ} → classes' ≡ replicate (length classes) 0
    → Finishable R source taps L branches occupied repeaters classes' known previous path
harvest_finishable H e = rw (e, H.classes-long) H.finishable

same_answer : {occupied occupied' repeaters repeaters' : List ℕ} {L L' : BranchLengths} → occupied ≡ occupied' → repeaters ≡ repeaters' → L ≡ L'
    → ◌≡◌ {A = Answer} (Ok (record { occupied = marked_count occupied; repeaters = marked_count repeaters; lengths = L })) (Ok (record { occupied = marked_count occupied'; repeaters = marked_count repeaters'; lengths = L' }))
same_answer o p l = λ i. Ok (record { occupied = marked_count (o i); repeaters = marked_count (p i); lengths = l i })

-- ---- growing

module _ {P : Plot} {B : Lent} (A : Growable P B) where
  pub plantable : {joinable : List ℕ} → joinable ≡ marked_by (eqb P.source) (no_marks (length B.joinable))
      → Plantable P joinable B.blocked B.classes B.known B.previous B.path B.best
  plantable e = record {
    sound = A.sound;
    joinable-is = e ∙ ap (λ n. marked_by (eqb P.source) (no_marks n)) A.joinable-long;
    blocked-long = A.blocked-long;
    blocked-marks = A.blocked-marks;
    memory = A.memory;
    classes-long = A.classes-long;
    best-long = A.best-long;
  }

  stopped-grown : {number detail : ℕ} → growth_of P B.blocked ≡ stopped number detail → buffer_number < number → {r : Answer} → r ≡ answer_of (no_tree number detail)
      → {branches occupied repeaters : List ℕ} → TreeGrown P B r branches occupied repeaters
  stopped-grown e h a = record { answer = a ∙ rw e; outputs = rw e h }

  module _ {g : Result BranchLengths Early} {joinable blocked branches : List ℕ} (T : GrowthTold P B.blocked B.branches g joinable blocked branches) where
    told_as : {end : Result BranchLengths Early} → g ≡ end → EndTold P B.blocked B.branches joinable blocked branches end
    told_as e = rw (← e) T.told

    refused-grown : (stop : Stop) (sink : ℕ) (L : BranchLengths) → g ≡ Err (record { stop = stop; sink = sink; lengths = L }) → {r : Answer} → r ≡ answer_of (refused_by stop) → {branches' occupied' repeaters' : List ℕ}
        → TreeGrown P B r branches' occupied' repeaters'
    refused-grown (QueueFull x) sink L e a = stopped-grown (early-growth (told_as e)) (omega arith) a
    refused-grown (NoGoal cell) sink L e a = stopped-grown (early-growth (told_as e)) (omega arith) a
    refused-grown (BufferFull place) sink L e a = stopped-grown (early-growth (told_as e)) (omega arith) a

    module _ (L : BranchLengths) (e : g ≡ Ok L) where
      abbrev all_in : Growing P B.blocked B.branches P.taps.count joinable blocked branches L.each
      all_in = (told_as e).1

      abbrev bs : List (List ℕ)
      bs = all_in.tree.branches

      grown-is : growth_of P B.blocked ≡ grown all_in.tree
      unfolding grow_from
      grown-is = let z : P.taps.count - P.taps.count ≡ 0 = omega arith in sym (rw z at all_in.same)

      count-is : length bs ≡ L.count
      count-is = all_in.sprouted.count-is ∙ sym (told_as e).0

      holds : BufferHolds L branches bs
      holds = record { in_order = all_in.in_order; lengths-are = all_in.lengths-are; count-is = count-is }

      harvestable : {classes known previous path : List ℕ} → length classes ≡ length B.classes → length known ≡ length B.known
          → length previous ≡ length B.previous → length path ≡ length B.path
          → Harvestable P.room P.source P.taps L branches B.occupied B.repeaters classes known previous path
      harvestable cl kn pr pa = record {
        classes-long = cl ∙ A.classes-long;
        finishable = record {
          good = A.sound.good;
          net = A.sound.net;
          bs = bs;
          holds = holds;
          few = omega (arith, (told_as e).0, A.sound.net.taps_in_lem.few);
          lengths_short = record { whole = all_in.each_long; short = all_in.each-short };
          cells_in = λ i h. all_in.sprouted.cells_in i (omega (arith, h, (told_as e).0));
          steps = λ i h. all_in.sprouted.steps i (omega (arith, h, (told_as e).0));
          occupied-clear = A.occupied-clear;
          repeaters-clear = A.repeaters-clear;
          forbidden-clear = refl;
          links-long = kn ∙ A.memory.known-long;
          parents-long = pr ∙ A.memory.previous-long;
          line-long = pa ∙ A.memory.path-long;
        };
      }

      -- the lengths of the branches, and none behind them
      lengths-are : L ≡ branch_lengths bs
      lengths-are = λ i. record { count = sym count-is i; each = each-are i }
        where
          few : length bs ≤ max_sinks
          few = omega (arith, all_in.sprouted.count-is, A.sound.net.taps_in_lem.few)

          wide : length (map length bs ++ replicate (max_sinks - length bs) 0) ≡ max_sinks
          wide = padded_long (map length bs) max_sinks (length bs) 0 (length-map bs length) few

          each-are : L.each ≡ map length bs ++ replicate (max_sinks - length bs) 0
          each-are =
              ext_get_or 0 L.each (map length bs ++ replicate (max_sinks - length bs) 0) (all_in.each_long ∙ sym wide)
              (λ i h. ask_less i (length bs)
              (λ q. all_in.lengths-are.each-is i q ∙ sym ((lengths_theirs bs).each-is i q))
              (λ q. all_in.each_none i (omega (arith, q, all_in.sprouted.count-is)) ∙ sym (behind_map bs (max_sinks - length bs) i q)))

      branches-are : branches ≡ filled (joined bs) B.branches
      branches-are =
          sym (take-append-drop (length (joined bs)) branches)
          ∙ rw (all_in.in_order.in_order, all_in.behind) (ap (λ l. joined bs ++ drop (length (joined bs)) l) A.branches-clear ∙ ap (λ l. joined bs ++ l) (drop_zeros (length (joined bs)) (length B.branches)))

      harvested : {t : Tree} {occupied repeaters : List ℕ} → Harvested P.room P.run P.source P.taps L branches t occupied repeaters
          → TreeGrown P B (Ok t) branches occupied repeaters
      unfolding repeaters_of
      harvested {occupied = occupied} {repeaters = repeaters} H =
          let o : occupied ≡ all_in.tree.occupied = H.finished.occupied-are bs holds ∙ sym all_in.sprouted.occupied-is in
          let p : repeaters ≡ repeaters_of P all_in.tree = H.finished.repeaters-are bs holds in
          record {
            answer = ap Ok H.answer ∙ same_answer o p lengths-are ∙ ap (λ x. answer_of (outcome_of P x)) (sym grown-is);
            outputs = rw grown-is (branches-are, o, p);
          }

    -- ---- both

    pub gatherable : {classes known previous path : List ℕ} → length classes ≡ length B.classes → length known ≡ length B.known
        → length previous ≡ length B.previous → length path ≡ length B.path
        → Gatherable P.room P.source P.taps g branches B.occupied B.repeaters classes known previous path
    gatherable cl kn pr pa = record { harvestable = λ L w. harvestable L w cl kn pr pa }

    pub gathered : {r : Answer} {occupied repeaters : List ℕ} → Gathered P.room P.run P.source P.taps g branches r occupied repeaters
        → TreeGrown P B r branches occupied repeaters
    gathered (ended-early x e a) = refused-grown x.stop x.sink x.lengths e a
    gathered (in_whole L w t a H) = rw a (harvested L w H)
