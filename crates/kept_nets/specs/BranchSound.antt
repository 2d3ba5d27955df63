-- Each branch of a grown tree is made of steps of the room, and has at most one cell more than the room; its source's terminal is occupied.
use Rattle.std.specs.Prelude.{◌≡◌, Bool, ◌||◌, eqb, get_or, set, replicate}
use Rattle.std.proofs.Math.Path.{refl}
use Rattle.std.proofs.Common.{sym, ap, ◌∙◌, arith, length-append, length-set, get_or-set_other, eq-eqb}
use Rattle.std.proofs.Math.Bool.{true, false}
use mathlib.Core.List.{List, [], ◌∷◌, ◌++◌, reverse}
use Prim.Native.Nat.{ℕ, zero, suc, ◌+◌, ◌≤◌, ◌<◌}
use Rattle.std.proofs.Math.ListN.{length, length-replicate, length-reverse, get_or-eq_default}
use Rattle.std.proofs.lemmas.List.{get_or-replicate}
use Rattle.std.proofs.Math.Seq.{get_or-set_same}
use Rattle.basics.specs.Tests.{ask, ask_same, ask_less, never}
use Rattle.room.specs.declared.Room.{Room}
use Rattle.room.specs.Room.{volume}
use Rattle.room_search.specs.Routing.{graph_of}
use Rattle.routing_resources.specs.Marks.{AllCells, is_marked, no_marks}
use Rattle.routing_resources.specs.MarkLaws.{with_length_lem, marked-after}
use Rattle.geometry.specs.Geometry.{stands_in}
use Rattle.job_sheet.specs.Sheet.{max_sinks}
use Rattle.ends.specs.declared.Tap.{Tap}
use Rattle.goals.specs.Goals.{Trial, found, failed, full, route_to_tree}
use Rattle.goals.proofs.RouteLaws.{tree-joins, joins-lawful, joins-cells, joins-short, joins-steps}
use Rattle.branches.specs.Branches.{branch_of, terminal_added}
use Rattle.branches.specs.BranchLaws.{branch-below}
use Rattle.repeaters.specs.Masks.{Steps}
use Rattle.multinet.specs.Tree.{Plot, Tree, Growth, grown, stopped, tap_at, site_at, sink_now, planted, with_branch, fits_in, after_sink, grow_sink, grow_on, grow_from, growth_of}
use Rattle.multinet.specs.Growing.{SoundPlot, branch_in}
use Rattle.multinet.specs.GrowthLaws.{same-tree, growth-count}
use Rattle.multinet.proofs.GrowingLaws.{sink-now}
use Rattle.multinet.specs.StepLaws.{steps-by-place, branch-steps}

pub record GoodBranch (R : Room) (branch : List ℕ) : Type 0 where
  pub cells : AllCells R branch
  pub steps : Steps R branch
  pub short : length branch ≤ volume R + 1

-- the branches of one net
pub record GoodNetBranches (R : Room) (bs : List (List ℕ)) : Type 0 where
  pub few : length bs ≤ max_sinks
  pub each-good : (k : ℕ) → GoodBranch R (get_or bs k [])

none-good : (R : Room) → GoodBranch R []
none-good R = record { cells = record { below = λ i h. absurd (omega arith) }; steps = tt {0}; short = omega arith }

-- the terminal is one cell more at most
added-few : (t : Tap) → length (terminal_added t) ≤ 1
added-few t = ask (eqb t.terminal t.approach) (λ y. rw y (omega arith)) (λ f. rw f (omega arith))

-- the tree after some turns
abbrev AllGood : Plot → Tree → Type 0
AllGood P T = (k : ℕ) → GoodBranch P.room (branch_in T k)

module _ {P : Plot} (S : SoundPlot P) where
  module _ (joinable blocked : List ℕ) (k : ℕ) (h : k < P.taps.count) (path : List ℕ) (cost : ℕ)
      (w : route_to_tree (site_at P joinable) (tap_at P k).approach blocked ≡ found path cost) where
    found-good : GoodBranch P.room (branch_of (tap_at P k) path)
    unfolding graph_of branch_of
    found-good =
        let J = tree-joins (site_at P joinable) (tap_at P k).approach blocked path cost w in
        let i = S.net.taps_in_lem.approach_in k h in
        let L = joins-lawful i J in
        let s : Steps P.room path = steps-by-place P.room path (joins-steps i J) in
        record {
          cells = branch-below (tap_at P k) path (joins-cells i J) (S.net.taps_in_lem.terminal_in_lem k h);
          steps = rw L.begins (branch-steps S.good (tap_at P k) L.rest (S.near k h) (rw L.begins at s));
          short = rw (length-append (reverse path) (terminal_added (tap_at P k)), length-reverse path) (omega (arith, joins-short i J, added-few (tap_at P k)));
        }

  with_good : (k : ℕ) (branch : List ℕ) (T : Tree) → GoodBranch P.room branch → AllGood P T → AllGood P (with_branch P.room k branch T)
  unfolding with_branch
  with_good k branch T B G j =
      ask_same j k
      (λ e. ask_less k (length T.branches)
      (λ h. rw (e, get_or-set_same T.branches k branch [] h) B)
      (λ h. rw (get_or-eq_default (set T.branches k branch) [] {n = j} (rw (length-set T.branches k branch) (omega arith))) (none-good P.room)))
      (λ d. rw (get_or-set_other T.branches k j branch [] d) (G j))

  after-good : {turn : ℕ} → turn < P.taps.count → (T T' : Tree) → AllGood P T → (trial : Trial)
      → route_to_tree (site_at P T.joinable) (tap_at P (sink_now P turn)).approach T.blocked ≡ trial → after_sink P (sink_now P turn) T trial ≡ grown T' → AllGood P T'
  unfolding after_sink
  after-good {turn} b T T' G (found path cost) w q =
      let k : sink_now P turn < P.taps.count = (sink-now P turn (sink_now P turn) refl b).0 in
      ask (fits_in P T (branch_of (tap_at P (sink_now P turn)) path))
      (λ t. rw (sym (same-tree (rw t at q))) (with_good (sink_now P turn) (branch_of (tap_at P (sink_now P turn)) path) T (found-good T.joinable T.blocked (sink_now P turn) k path cost w) G))
      (λ f. never (cc (rw f at q)))
  after-good b T T' G failed w q = never (cc)
  after-good b T T' G (full x) w q = never (cc)

  turns_good : (n turn : ℕ) → turn + n ≤ P.taps.count → (T T' : Tree) → AllGood P T → grow_from n P turn T ≡ grown T' → AllGood P T'
  unfolding grow_from grow_sink
  turns_good zero turn h T T' G q = rw (← same-tree q) G
  turns_good (suc n) turn h T T' G q = go (grow_sink P (sink_now P turn) T) refl q (turns_good n (turn + 1) (omega arith))
    where
      go : (g : Growth) → grow_sink P (sink_now P turn) T ≡ g → grow_on (grow_from n P (turn + 1)) g ≡ grown T'
          → ((T₁ T₂ : Tree) → AllGood P T₁ → grow_from n P (turn + 1) T₁ ≡ grown T₂ → AllGood P T₂) → AllGood P T'
      go (grown T₁) e z later = later T₁ T' (after-good (omega arith) T T₁ G (route_to_tree (site_at P T.joinable) (tap_at P (sink_now P turn)).approach T.blocked) refl e) z
      go (stopped number detail) e z later = never (cc)

  outset-good : (blocked : List ℕ) → AllGood P (planted P blocked)
  unfolding planted
  outset-good blocked k =
      ask_less k P.taps.count
      (λ h. rw (get_or-replicate {A = List ℕ} P.taps.count k [] [] h) (none-good P.room))
      (λ h. rw (get_or-eq_default (replicate {A = List ℕ} P.taps.count []) [] {n = k} (rw (length-replicate {A = List ℕ} P.taps.count []) h)) (none-good P.room))

  -- all branches of a grown tree
  pub branches-good : (blocked : List ℕ) (T : Tree) → growth_of P blocked ≡ grown T → AllGood P T
  unfolding growth_of
  branches-good blocked T e = turns_good P.taps.count 0 (omega arith) (planted P blocked) T (outset-good blocked) e

-- ---- the source's terminal

-- it is marked, and there is a mark for each cell
abbrev SourceHeld : Plot → Tree → Type 0
SourceHeld P T = (length T.occupied ≡ volume P.room) × (is_marked T.occupied P.source ≡ true)

module _ {P : Plot} (S : SoundPlot P) where
  held_more : (k : ℕ) (branch : List ℕ) (T : Tree) → SourceHeld P T → SourceHeld P (with_branch P.room k branch T)
  unfolding with_branch
  held_more k branch T H =
      let inside : P.source < length T.occupied = omega (arith, H.0, S.net.source_in) in
      (with_length_lem 1 (stands_in branch) T.occupied ∙ H.0, marked-after (stands_in branch) T.occupied P.source inside ∙ rw H.1 (or_true (stands_in branch P.source)))
    where
      or_true : (b : Bool) → b || true ≡ true
      or_true true = refl
      or_true false = refl

  held_after : (k : ℕ) (T T' : Tree) (trial : Trial) → SourceHeld P T → after_sink P k T trial ≡ grown T' → SourceHeld P T'
  unfolding after_sink
  held_after k T T' (found path cost) H q =
      ask (fits_in P T (branch_of (tap_at P k) path))
      (λ t. rw (sym (same-tree (rw t at q))) (held_more k (branch_of (tap_at P k) path) T H))
      (λ f. never (cc (rw f at q)))
  held_after k T T' failed H q = never (cc)
  held_after k T T' (full x) H q = never (cc)

  held_turns : (n turn : ℕ) (T T' : Tree) → SourceHeld P T → grow_from n P turn T ≡ grown T' → SourceHeld P T'
  unfolding grow_from grow_sink
  held_turns zero turn T T' H q = rw (← same-tree q) H
  held_turns (suc n) turn T T' H q = go (grow_sink P (sink_now P turn) T) refl q (λ T₁. held_turns n (turn + 1) T₁ T')
    where
      go : (g : Growth) → grow_sink P (sink_now P turn) T ≡ g → grow_on (grow_from n P (turn + 1)) g ≡ grown T'
          → ((T₁ : Tree) → SourceHeld P T₁ → grow_from n P (turn + 1) T₁ ≡ grown T' → SourceHeld P T') → SourceHeld P T'
      go (grown T₁) e z later = later T₁ (held_after (sink_now P turn) T T₁ (route_to_tree (site_at P T.joinable) (tap_at P (sink_now P turn)).approach T.blocked) H e) z
      go (stopped number detail) e z later = never (cc)

  held_first : (blocked : List ℕ) → SourceHeld P (planted P blocked)
  unfolding planted
  held_first blocked =
      let n = volume P.room in
      let inside : P.source < length (no_marks n) = rw (length-replicate {A = ℕ} n 0) S.net.source_in in (
        with_length_lem 1 (eqb P.source) (no_marks n) ∙ length-replicate {A = ℕ} n 0,
        marked-after (eqb P.source) (no_marks n) P.source inside ∙ rw (eq-eqb P.source P.source refl),
      )

  pub source-held : (blocked : List ℕ) (T : Tree) → growth_of P blocked ≡ grown T → SourceHeld P T
  unfolding growth_of
  source-held blocked T e = held_turns P.taps.count 0 (planted P blocked) T (held_first blocked) e
