-- Laws of growing: one turn after another.
use Rattle.std.specs.Prelude.{◌≡◌, refl, ◌⊎◌, ◌≢◌, true, ◌||◌, eqb, get_or, take, set}
use Rattle.std.proofs.Math.Path.{sym, ap}
use Rattle.std.proofs.Common.{◌∙◌, inl, inr, add-one, length-append}
use Rattle.std.proofs.Math.Bool.{or_comm, or_assoc}
use mathlib.Core.List.{List, [], ◌∷◌, ◌++◌, reverse, reverse-cons, append-nil}
use Prim.Native.Nat.{ℕ, suc, ◌+◌, ◌-◌, ◌≤◌, ◌<◌}
use native.Mathlib.Omega.{arith}
use Rattle.std.proofs.Math.ListN.{length, drop, length-set}
use Rattle.std.proofs.Math.Seq.{get_or-set_same, get_or-set_other, drop-drop}
use borrow.Author.Tests.{le-leb, lt-leb}
use Rattle.numbers.specs.Refusals.{queue_full_number, no_goal_number, branches_full_number}
use Rattle.basics.specs.Tests.{ask, ask_same}
use Rattle.basics.specs.Lists.{In, joined}
use Rattle.routing_resources.specs.Marks.{marked_by, is_marked, AllCells}
use Rattle.routing_resources.specs.MarkLaws.{with_length_lem, with_or, with_same, marks_with}
use Rattle.routing_resources.specs.Resources.{is_clearance}
use Rattle.job_sheet.specs.Sheet.{max_sinks}
use Rattle.geometry.specs.Geometry.{stands_in, NoPair}
use Rattle.geometry.specs.LayLaws.{stands_in_lem, in_stands}
use Rattle.geometry.specs.GeometryLaws.{no_pair_after}
use Rattle.ends.specs.declared.Tap.{Tap}
use Rattle.turns.specs.Turns.{far}
use Rattle.turns.specs.TurnLaws.{its-turn, turn-had}
use Rattle.goals.specs.Goals.{Site, Trial, found, failed, full, route_to_tree}
use Rattle.branches.specs.Branches.{branch_of, all_but_last, inserted, longest_branch}
use Rattle.branches.specs.BranchLaws.{branch-short, branch-below, but_last_in, joined-none, joined-set, order-kept, behind-kept, inserted-long, lengths-set}
use Rattle.repeaters.specs.Masks.{Steps}
use Rattle.multinet.specs.Tree.{Plot, Tree, grown, stopped, planted, tap_at, site_at, sink_now, with_branch, after_sink, grow_sink, grow_on, grow_from, growth_of}
use Rattle.multinet.specs.StepLaws.{branch-steps}
use Rattle.multinet.specs.GrowthLaws.{turn_more}
use Rattle.multinet.specs.Growing.{SoundPlot, RouteKnown, turn_in, branch_in, Sprouted, Growing}

-- ---- the sink whose turn it is

module _ (P : Plot) (turn k : ℕ) (e : k ≡ sink_now P turn) where
  pub sink-now : turn < P.taps.count → (k < P.taps.count) × (turn_in P k ≡ turn)
  sink-now h = rw e (turn-had (far P.room P.source P.taps.taps) P.taps.count turn h)

  -- a sink whose turn it is not has its turn before or after
  pub other-turn : (j : ℕ) → j < P.taps.count → j ≢ k → turn_in P j ≢ turn
  other-turn j h d s = d (sym (its-turn (far P.room P.source P.taps.taps) P.taps.count j h) ∙ ap (sink_now P) s ∙ sym e)

-- ---- one turn of the definition

module _ (P : Plot) (outset : List ℕ) {turn : ℕ} (h : turn < P.taps.count) (T : Tree) (same : grow_from (P.taps.count - turn) P turn T ≡ growth_of P outset) where
  one-turn : grow_on (grow_from (P.taps.count - (turn + 1)) P (turn + 1)) (grow_sink P (sink_now P turn) T) ≡ growth_of P outset
  unfolding grow_from
  one-turn = let e : P.taps.count - turn ≡ suc (P.taps.count - (turn + 1)) = omega arith in rw e at same

  pub turn-stops : (number detail : ℕ) → grow_sink P (sink_now P turn) T ≡ stopped number detail → growth_of P outset ≡ stopped number detail
  turn-stops number detail e = sym one-turn ∙ rw e

  turn-grows : (T' : Tree) → grow_sink P (sink_now P turn) T ≡ grown T' → grow_from (P.taps.count - (turn + 1)) P (turn + 1) T' ≡ growth_of P outset
  turn-grows T' e = rw e at one-turn

-- ---- the cells of the branches

stands_append : (xs ys : List ℕ) (v : ℕ) → stands_in (xs ++ ys) v ≡ stands_in xs v || stands_in ys v
unfolding stands_in
stands_append [] ys v = refl
stands_append (x ∷ xs) ys v = rw (stands_append xs ys v) (ask (eqb x v) (λ t. rw t) (λ f. rw f))

-- the cells of all branches with one more are theirs and its
stands-joined : (bs : List (List ℕ)) (k : ℕ) (b : List ℕ) → k < length bs → get_or bs k [] ≡ [] → (v : ℕ)
    → stands_in (joined (set bs k b)) v ≡ stands_in (joined bs) v || stands_in b v
stands-joined bs k b h e v =
    rw (joined-set bs k h b, joined-none bs k h e, stands_append (joined (take k bs)) (b ++ joined (drop (suc k) bs)) v, stands_append b (joined (drop (suc k) bs)) v, stands_append (joined (take k bs)) (joined (drop (suc k) bs)) v)
    (ap (λ c. stands_in (joined (take k bs)) v || c) (or_comm (stands_in b v) (stands_in (joined (drop (suc k) bs)) v)) ∙ sym (or_assoc (stands_in (joined (take k bs)) v) (stands_in (joined (drop (suc k) bs)) v) (stands_in b v)))

-- members of lists put together and reversed
in_append : (xs ys : List ℕ) (v : ℕ) → In v (xs ++ ys) → In v xs ⊎ In v ys
in_append [] ys v i = inr i
in_append (x ∷ xs) ys v (inl e) = inl (inl e)
in_append (x ∷ xs) ys v (inr i) = go (in_append xs ys v i)
  where
    go : In v xs ⊎ In v ys → In v (x ∷ xs) ⊎ In v ys
    go (inl j) = inl (inr j)
    go (inr j) = inr j

in_reverse : (path : List ℕ) (v : ℕ) → In v (reverse path) → In v path
in_reverse [] v i = i
in_reverse (x ∷ path) v i = go (in_append (reverse path) (x ∷ []) v (rw (reverse-cons x path) at i)) (in_reverse path v)
  where
    go : In v (reverse path) ⊎ In v (x ∷ []) → (In v (reverse path) → In v path) → In v (x ∷ path)
    go (inl j) rest = inr (rest j)
    go (inr (inl e)) rest = inl e
    go (inr (inr n)) rest = absurd n

but_last_snoc : (xs : List ℕ) (t : ℕ) → all_but_last (xs ++ (t ∷ [])) ≡ xs
unfolding all_but_last
but_last_snoc [] t = refl
but_last_snoc (x ∷ []) t = refl
but_last_snoc (x ∷ (y ∷ xs)) t = ap (λ l. x ∷ l) (but_last_snoc (y ∷ xs) t)

-- the cells that become joinable are the path's
joinable-on-path : (tap : Tap) (path : List ℕ) (v : ℕ) → stands_in (all_but_last (branch_of tap path)) v ≡ true → stands_in path v ≡ true
unfolding branch_of
joinable-on-path tap path v e =
    ask (eqb tap.terminal tap.approach)
    (λ t. in_stands path v (in_reverse path v (but_last_in (reverse path) v (rw (append-nil (reverse path)) at (stands_in_lem (all_but_last (reverse path ++ [])) v (rw t at e))))))
    (λ f. in_stands path v (in_reverse path v (rw (but_last_snoc (reverse path) tap.terminal) at (stands_in_lem (all_but_last (reverse path ++ (tap.terminal ∷ []))) v (rw f at e)))))

-- ---- a branch more

module _ {P : Plot} {turn : ℕ} {T : Tree} (S : Sprouted P turn T) where
  -- the sink whose turn it is has a place among the branches, and none yet
  module _ (k : ℕ) (e : k ≡ sink_now P turn) (t : turn < P.taps.count) where
    pub sink_in_tree : k < length T.branches
    sink_in_tree = omega (arith, (sink-now P turn k e t).0, S.count-is)

    pub sink-empty : branch_in T k ≡ []
    sink-empty = S.none_yet k (sink-now P turn k e t).0 (omega (arith, (sink-now P turn k e t).1))

  module _ (k : ℕ) (e : k ≡ sink_now P turn) (t : turn < P.taps.count) (branch : List ℕ) where
    abbrev next : Tree
    next = with_branch P.room k branch T

    set_here : branch_in next k ≡ branch
    unfolding with_branch
    set_here = get_or-set_same T.branches k branch [] (sink_in_tree k e t)

    set_there : (j : ℕ) → j ≢ k → branch_in next j ≡ branch_in T j
    unfolding with_branch
    set_there j d = get_or-set_other T.branches k j branch [] d

    -- what holds of this branch and of the others holds of each
    each-one : (Q : ℕ → List ℕ → Type 0) → Q k branch → ((j : ℕ) → j ≢ k → Q j (branch_in T j)) → (j : ℕ) → Q j (branch_in next j)
    each-one Q this others j = ask_same j k (λ q. rw (q, set_here) this) (λ d. rw (set_there j d) (others j d))

    module _ (inside : AllCells P.room branch) (goes : Steps P.room branch)
        (alone' : NoPair P.room (is_marked (marked_by (stands_in (all_but_last branch)) T.joinable))) where
      pub sprouted-next : Sprouted P (turn + 1) next
      unfolding with_branch
      sprouted-next = record {
        occupied-is = ap (marked_by (stands_in branch)) S.occupied-is ∙ with_or 1 _ _ _ ∙ with_same 1 _ _ _ (λ v h. sym (stands-joined T.branches k branch (sink_in_tree k e t) (sink-empty k e t) v));
        joinable-long = with_length_lem 1 _ T.joinable ∙ S.joinable-long;
        joinable-marks = marks_with 1 (omega arith) _ T.joinable S.joinable-marks;
        no_pair = alone';
        blocked-long = with_length_lem 1 _ T.blocked ∙ S.blocked-long;
        blocked-marks = marks_with 1 (omega arith) _ T.blocked S.blocked-marks;
        count-is = length-set T.branches k branch ∙ S.count-is;
        none_yet = each-one (λ j b. j < P.taps.count → turn + 1 ≤ turn_in P j → b ≡ [])
            (λ h g. let s = sink-now P turn k e t in absurd (omega (arith, s.1)))
            (λ j d h g. S.none_yet j h (omega arith));
        cells_in = each-one (λ j b. j < P.taps.count → AllCells P.room b) (λ h. inside) (λ j d h. S.cells_in j h);
        steps = each-one (λ j b. j < P.taps.count → Steps P.room b) (λ h. goes) (λ j d h. S.steps j h);
      }

pub route-some : {S : Site} {start : ℕ} {path : List ℕ} → RouteKnown S start path → 1 ≤ length path
route-some w = rw w.begins (omega arith)

-- ---- one turn, as the slices hold the tree

module _ {P : Plot} {outset start-buffer : List ℕ} {turn : ℕ} {joinable blocked buffer each : List ℕ} (S : SoundPlot P)
    (G : Growing P outset start-buffer turn joinable blocked buffer each) (h : turn < P.taps.count) where
  abbrev now-tree : Tree
  now-tree = G.tree

  module _ (k : ℕ) (e : k ≡ sink_now P turn) {trial : Trial} (t : trial ≡ route_to_tree (site_at P now-tree.joinable) (tap_at P k).approach now-tree.blocked) where
    comes : grow_sink P k now-tree ≡ after_sink P k now-tree trial
    unfolding grow_sink
    comes = rw t

    pub sink_fails : trial ≡ failed → grow_sink P k now-tree ≡ stopped no_goal_number (tap_at P k).approach
    unfolding after_sink
    sink_fails f = comes ∙ rw f

    pub sink-full : (x : ℕ) → trial ≡ full x → grow_sink P k now-tree ≡ stopped queue_full_number x
    unfolding after_sink
    sink-full x f = comes ∙ rw f

    module _ (path : List ℕ) (cost : ℕ) (f : trial ≡ found path cost) where
      abbrev branch : List ℕ
      branch = branch_of (tap_at P k) path

      pub sink-buffer-full : P.buffer < length (joined now-tree.branches) + length branch → grow_sink P k now-tree ≡ stopped branches_full_number (k + 1)
      unfolding after_sink
      sink-buffer-full n = comes ∙ rw (f, lt-leb _ _ n)

      module _ (w : RouteKnown (site_at P now-tree.joinable) (tap_at P k).approach path) (fits : length (joined now-tree.branches) + length branch ≤ P.buffer) where
        in_tree : k < length now-tree.branches
        in_tree = sink_in_tree G.sprouted k e h

        empty : branch_in now-tree k ≡ []
        empty = sink-empty G.sprouted k e h

        abbrev place : ℕ
        place = length (joined (take k now-tree.branches))

        joined-more : length (joined now-tree.branches) + length branch ≡ length (joined (set now-tree.branches k branch))
        joined-more =
            rw (joined-set now-tree.branches k in_tree branch, joined-none now-tree.branches k in_tree empty, length-append (joined (take k now-tree.branches)) (branch ++ joined (drop (suc k) now-tree.branches)), length-append branch (joined (drop (suc k) now-tree.branches)), length-append (joined (take k now-tree.branches)) (joined (drop (suc k) now-tree.branches)))
            (omega arith)

        pub sink-grows : {joinable' blocked' buffer' each' : List ℕ}
            → joinable' ≡ marked_by (stands_in (all_but_last branch)) joinable
            → blocked' ≡ marked_by (is_clearance P.room branch) blocked
            → buffer' ≡ inserted place (length (joined now-tree.branches)) branch buffer
            → each' ≡ set each k (length branch)
            → Growing P outset start-buffer (turn + 1) joinable' blocked' buffer' each'
        unfolding after_sink with_branch
        sink-grows {buffer' = buffer'} {each' = each'} j b u l =
            let s = sink-now P turn k e h in
            let goes : Steps P.room branch = rw w.begins (branch-steps S.good (tap_at P k) w.rest (S.near k s.0) (rw w.begins at w.steps)) in
            let short = branch-short (tap_at P k) path in
            let left_over : length (joined now-tree.branches) + length branch ≤ length buffer = omega (arith, fits, G.buffer-long) in
            record {
              tree = with_branch P.room k branch now-tree;
              joinable-is = j ∙ ap (marked_by (stands_in (all_but_last branch))) G.joinable-is;
              blocked-is = b ∙ ap (marked_by (is_clearance P.room branch)) G.blocked-is;
              so_far = let z : 0 + turn ≡ turn = omega arith in rw (add-one turn) (turn_more P turn 0 (planted P outset) now-tree G.so_far
                  ∙ ap (λ (t : ℕ). grow_sink P (sink_now P t) now-tree) z ∙ ap (λ (j : ℕ). grow_sink P j now-tree) (sym e) ∙ comes ∙ rw (f, le-leb _ _ fits));
              same = turn-grows P outset h now-tree G.same (with_branch P.room k branch now-tree) (rw (← e) (comes ∙ rw (f, le-leb _ _ fits)));
              sprouted = sprouted-next G.sprouted k e h branch (branch-below (tap_at P k) path w.cells_in (S.net.taps_in_lem.terminal_in_lem k s.0)) goes
                  (no_pair_after P.room P.kinds now-tree.joinable path w.free (stands_in (all_but_last branch)) (joinable-on-path (tap_at P k) path));
              in_order = rw (u, ← joined-more) (order-kept now-tree.branches k in_tree empty G.in_order branch left_over);
              behind = rw (u, ← joined-more) (behind-kept now-tree.branches k in_tree empty G.in_order branch left_over ∙ later G.behind);
              buffer-long = rw u (inserted-long now-tree.branches k in_tree empty G.in_order branch left_over) ∙ G.buffer-long;
              lengths-are = rw l (lengths-set G.lengths-are k in_tree branch);
              each_long = rw l (length-set each k (length branch)) ∙ G.each_long;
              each-short = λ i g. rw l (short_still i g (omega (arith, short, w.short, S.good.few)));
              each_none = λ i g. rw l (get_or-set_other each k i (length branch) 0 (λ q. never_both q g s.0) ∙ G.each_none i g);
            }
          where
            later : drop (length (joined now-tree.branches)) buffer ≡ drop (length (joined now-tree.branches)) start-buffer
                → drop (length (joined now-tree.branches) + length branch) buffer ≡ drop (length (joined now-tree.branches) + length branch) start-buffer
            later q =
                sym (drop-drop (length branch) (length (joined now-tree.branches)) buffer)
                ∙ ap (drop (length branch)) q
                ∙ drop-drop (length branch) (length (joined now-tree.branches)) start-buffer

            never_both : {i : ℕ} → i ≡ k → P.taps.count ≤ i → k < P.taps.count → ⊥
            never_both q g b = omega (arith, q, g, b)

            short_still : (i : ℕ) → i < max_sinks → length branch ≤ longest_branch → get_or (set each k (length branch)) i 0 ≤ longest_branch
            short_still i g m =
                ask_same i k (λ q. rw (q, get_or-set_same each k (length branch) 0 (omega (arith, G.each_long, q))) m)
                (λ d. rw (get_or-set_other each k i (length branch) 0 d) (G.each-short i g))
