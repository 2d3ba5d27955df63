-- Turn by turn: each branch ends on the tree as it was, so the grown tree hangs together.
use Rattle.std.specs.Prelude.{◌≡◌, ◌⊎◌, ◌≢◌, Bool, true, eqb, length, replicate}
use Rattle.std.proofs.Math.Path.{refl}
use Rattle.std.proofs.Common.{sym, ap, ◌∙◌, ⊎_elim}
use Rattle.std.proofs.Math.Logic.{inl, inr}
use mathlib.Core.List.{List, [], ◌∷◌, ◌++◌, reverse, reverse-cons, reverse-append, append-nil}
use Prim.Native.Nat.{ℕ, zero, suc, ◌+◌, ◌≤◌, ◌<◌}
use native.Mathlib.Omega.{arith}
use Rattle.std.proofs.Math.ListN.{get_or, length-set, length-replicate, get_or-replicate, get_or-eq_default}
use Rattle.std.proofs.Math.Seq.{get_or-set_same, get_or-set_other}
use borrow.Author.Tests.{eqb-true, eq-eqb}
use Rattle.basics.specs.Tests.{ask, ask_same, ask_less, never}
use Rattle.basics.specs.Lists.{In, in_at}
use Rattle.basics.specs.Zeros.{zeros}
use Rattle.room.specs.declared.Room.{Room}
use Rattle.room.specs.Room.{Good, volume}
use Rattle.best_first.specs.Search.{Graph}
use Rattle.best_first.specs.Ways.{Way}
use Rattle.room_search.specs.Routing.{graph_of}
use Rattle.routing_resources.specs.Marks.{is_marked, marked_by, no_marks}
use Rattle.routing_resources.specs.MarkLaws.{with_length_lem, marked-after}
use Rattle.ends.specs.declared.Tap.{Tap}
use Rattle.geometry.specs.Geometry.{stands_in}
use Rattle.geometry.specs.LayLaws.{stands_in_lem, in_stands, cells_in}
use Rattle.turns.specs.Turns.{far}
use Rattle.turns.specs.TurnLaws.{turn_in_lem}
use Rattle.goals.specs.Goals.{Trial, found, failed, full, route_to_tree}
use Rattle.goals.proofs.RouteLaws.{tree-joins, joins-lawful, joins-cells, joins-steps}
use Rattle.branches.specs.Branches.{branch_of, terminal_added, all_but_last}
use Rattle.branches.specs.BranchLaws.{branch-below, but_last_in}
use Rattle.repeaters.specs.Masks.{Steps, AllSteps}
use Rattle.repeaters.specs.NeighbourLaws.{or_cases}
use Rattle.multinet.specs.Tree.{Plot, Tree, Growth, grown, stopped, tap_at, site_at, sink_now, source_marks, planted, with_branch, fits_in, after_sink, grow_sink, grow_on, grow_from, growth_of}
use Rattle.multinet.specs.Growing.{SoundPlot, Near, turn_in, branch_in}
use Rattle.multinet.specs.GrowthLaws.{same-tree}
use Rattle.multinet.proofs.GrowingLaws.{sink-now, other-turn}
use Rattle.multinet.specs.StepLaws.{steps-by-place, branch-steps}
use Rattle.connected.specs.Grafts.{OnSome, TreeFrom}
use Rattle.repeater_claims.specs.BothWaysLaws.{or_second}
use Rattle.connected.specs.GraftLaws.{on_some, on_below}
use Rattle.connected.specs.Connected.{OnEarlier, FromTo}
use Rattle.connected.specs.GrownTrees.{HadTurn, GrownSoFar}

-- ---- lists

in_left : (v : ℕ) (l m : List ℕ) → In v l → In v (l ++ m)
in_left v [] m i = absurd i
in_left v (x ∷ l) m (inl e) = inl e
in_left v (x ∷ l) m (inr i) = inr (in_left v l m i)

in_right : (v : ℕ) (l m : List ℕ) → In v m → In v (l ++ m)
in_right v [] m i = i
in_right v (x ∷ l) m i = inr (in_right v l m i)

in_reversed : (v : ℕ) (l : List ℕ) → In v l → In v (reverse l)
in_reversed v [] i = absurd i
in_reversed v (x ∷ l) (inl e) = rw (reverse-cons x l) (in_right v (reverse l) (x ∷ []) (inl e))
in_reversed v (x ∷ l) (inr i) = rw (reverse-cons x l) (in_left v (reverse l) (x ∷ []) (in_reversed v l i))

in_same : (v : ℕ) (l m : List ℕ) → l ≡ m → In v m → In v l
in_same v l m e i = rw e i

-- a cell that is marked only if it was or is one of those newly marked
marked_or : (p : ℕ → Bool) (ms : List ℕ) (v : ℕ) → is_marked (marked_by p ms) v ≡ true → (p v ≡ true) ⊎ (is_marked ms v ≡ true)
marked_or p ms v e =
    ask_less v (length ms)
    (λ h. or_cases (p v) (is_marked ms v) (sym (marked-after p ms v h) ∙ e))
    (λ h. let z = get_or-eq_default (marked_by p ms) 0 {n = v} (rw (with_length_lem 1 p ms) h) in never (cc (rw z at e)))

marked-new : (p : ℕ → Bool) (ms : List ℕ) (v : ℕ) → v < length ms → p v ≡ true → is_marked (marked_by p ms) v ≡ true
marked-new p ms v h e = marked-after p ms v h ∙ rw e

marked-old : (p : ℕ → Bool) (ms : List ℕ) (v : ℕ) → v < length ms → is_marked ms v ≡ true → is_marked (marked_by p ms) v ≡ true
marked-old p ms v h e = marked-after p ms v h ∙ or_second (p v) (is_marked ms v) e

-- the last cell of a way is its goal
way-ends : (G : Graph) (u : ℕ) (l : List ℕ) (t d : ℕ) → Way G u l t d → (before : List ℕ) × (u ∷ l ≡ before ++ (t ∷ []))
way-ends G u [] t d w = ([], ap (λ (x : ℕ). x ∷ []) w.0)
way-ends G u (v ∷ l) t d w = let r = way-ends G v l t w.1 w.3 in (u ∷ r.0, ap (λ (m : List ℕ). u ∷ m) r.1)

-- ---- a branch's cells

module _ (t : Tap) where
  branch-begins : (path before : List ℕ) (goal : ℕ) → path ≡ before ++ (goal ∷ []) → (rest : List ℕ) × (branch_of t path ≡ goal ∷ rest)
  unfolding branch_of
  branch-begins path before goal e = (reverse before ++ terminal_added t, rw (e, reverse-append before (goal ∷ [])) refl)

  branch-ends : (path rest : List ℕ) → path ≡ t.approach ∷ rest → (before : List ℕ) × (branch_of t path ≡ before ++ (t.terminal ∷ []))
  unfolding branch_of
  branch-ends path rest e =
      ask (eqb t.terminal t.approach)
      (λ q. (reverse rest, rw (q, e, append-nil (reverse (t.approach ∷ rest)), reverse-cons t.approach rest, eqb-true t.terminal t.approach q) refl))
      (λ f. (reverse path, rw f refl))

  on_branch : (path : List ℕ) (v : ℕ) → In v path → In v (branch_of t path)
  unfolding branch_of
  on_branch path v i = in_left v (reverse path) _ (in_reversed v path i)

  branch-goes : {R : Room} → Good R → (path rest : List ℕ) → path ≡ t.approach ∷ rest → Near R t → Steps R path → Steps R (branch_of t path)
  branch-goes G path rest e near s = rw e (branch-steps G t rest near (rw e at s))

-- what a found route's branch is
record Sprout (P : Plot) (joinable : List ℕ) (k : ℕ) (branch : List ℕ) : Type 0 where
  pub goal : ℕ
  pub joins : is_marked joinable goal ≡ true
  pub begins : (rest : List ℕ) × (branch ≡ goal ∷ rest)
  pub ends : (before : List ℕ) × (branch ≡ before ++ ((tap_at P k).terminal ∷ []))
  pub approach_on : In (tap_at P k).approach branch
  pub within : (v : ℕ) → In v branch → v < volume P.room
  pub steps : Steps P.room branch

module _ {P : Plot} (S : SoundPlot P) (joinable blocked : List ℕ) (k : ℕ) (h : k < P.taps.count) (path : List ℕ) (cost : ℕ)
    (w : route_to_tree (site_at P joinable) (tap_at P k).approach blocked ≡ found path cost) where
  sprout : Sprout P joinable k (branch_of (tap_at P k) path)
  unfolding graph_of
  sprout =
      let J = tree-joins (site_at P joinable) (tap_at P k).approach blocked path cost w in
      let i = S.net.taps_in_lem.approach_in k h in
      let L = joins-lawful i J in
      let E = way-ends _ _ L.rest J.goal cost L.way in
      record {
        goal = J.goal;
        joins = J.joinable;
        begins = branch-begins (tap_at P k) path E.0 J.goal (L.begins ∙ E.1);
        ends = branch-ends (tap_at P k) path L.rest L.begins;
        approach_on = on_branch (tap_at P k) path (tap_at P k).approach (in_same (tap_at P k).approach path _ L.begins (inl refl));
        within = cells_in P.room (branch_of (tap_at P k) path) (branch-below (tap_at P k) path (joins-cells i J) (S.net.taps_in_lem.terminal_in_lem k h));
        steps = branch-goes (tap_at P k) S.good path L.rest L.begins (S.near k h) (steps-by-place P.room path (joins-steps i J));
      }

-- ---- one turn more

index_of : (bs : List (List ℕ)) (v : ℕ) → OnSome v bs → (k : ℕ) × (k < length bs) × In v (get_or bs k [])
index_of [] v i = absurd i
index_of (l ∷ bs) v (inl i) = (0, omega arith, i)
index_of (l ∷ bs) v (inr i) = let r = index_of bs v i in (suc r.0, omega (arith, r.1), r.2)

module _ {P : Plot} {turn : ℕ} {T : Tree} (b : turn < P.taps.count) (G : GrownSoFar P turn T) (branch : List ℕ) where
  abbrev sink : ℕ
  sink = sink_now P turn

  abbrev next : Tree
  next = with_branch P.room sink branch T

  now : (sink < P.taps.count) × (turn_in P sink ≡ turn)
  now = sink-now P turn sink refl b

  set_here : branch_in next sink ≡ branch
  unfolding with_branch
  set_here = get_or-set_same T.branches sink branch [] (omega (arith, now.0, G.count-is))

  set_there : (j : ℕ) → j ≢ sink → branch_in next j ≡ branch_in T j
  unfolding with_branch
  set_there j d = get_or-set_other T.branches sink j branch [] d

  earlier : (j : ℕ) → j < P.taps.count → turn_in P j < turn + 1 → j ≢ sink → turn_in P j < turn
  earlier j h g d = let o = other-turn P turn sink refl j h d in omega (arith, g, o)

  -- what holds of this branch and of the others holds of each
  each-one : (Q : ℕ → List ℕ → Type 0) → Q sink branch → ((j : ℕ) → j ≢ sink → Q j (branch_in T j)) → (j : ℕ) → Q j (branch_in next j)
  each-one Q this others j = ask_same j sink (λ q. rw (q, set_here) this) (λ d. rw (set_there j d) (others j d))

  turn-grown : Sprout P T.joinable sink branch → GrownSoFar P (turn + 1) next
  unfolding with_branch
  turn-grown B = record {
    count-is = length-set T.branches sink branch ∙ G.count-is;
    within = each-one (λ j l. j < P.taps.count → (v : ℕ) → In v l → v < volume P.room) (λ h. B.within) (λ j d h. G.within j h);
    steps = each-one (λ j l. j < P.taps.count → Steps P.room l) (λ h. B.steps) (λ j d h. G.steps j h);
    approach_on = each-one (λ j l. j < P.taps.count → turn_in P j < turn + 1 → In (tap_at P j).approach l) (λ h g. B.approach_on) (λ j d h g. G.approach_on j h (earlier j h g d));
    from-to = λ j h g. ask_same j sink (λ q. rw q from-to) (λ d. still j d h (earlier j h g d) (G.from-to j h (earlier j h g d)));
    order = branch ∷ G.order;
    of_tree = λ l i. of_tree l i;
    all = each-one (λ j l. j < P.taps.count → turn_in P j < turn + 1 → In l (branch ∷ G.order)) (λ h g. inl refl) (λ j d h g. inr (G.all j h (earlier j h g d)));
    grafted = (record { cell = B.goal; on-it = goal-on; on-earlier = G.joinable-on B.goal B.joins }, G.grafted);
    occupied-long = with_length_lem 1 (stands_in branch) T.occupied ∙ G.occupied-long;
    occupied-on = λ v e. occupied v (marked_or (stands_in branch) T.occupied v e);
    on-occupied = λ v h i. on-occupied v (omega (arith, h, G.occupied-long)) i;
    joinable-on = λ v e. joinable v (marked_or (stands_in (all_but_last branch)) T.joinable v e);
  }
    where
      goal-on : In B.goal branch
      goal-on = in_same B.goal branch _ B.begins.1 (inl refl)

      -- the branch of an earlier turn is what it was
      kept : (j : ℕ) → turn_in P j < turn → branch_in next j ≡ branch_in T j
      kept j h = set_there j (λ q. omega (arith, h, now.1, ap (turn_in P) q))

      earlier_on : (v : ℕ) → OnSome v G.order → OnEarlier P next sink v
      earlier_on v i =
          let r = index_of G.order v i in
          let H = G.of_tree _ (in_at G.order r.0 [] r.1) in
          record {
            sink = H.sink;
            sink_in = H.sink_in;
            before = omega (arith, H.had, now.1);
            on-it = rw (kept H.sink H.had, H.its-branch) r.2;
          }

      from-to : FromTo P next sink
      from-to = record {
        first = B.goal;
        rest = B.begins.0;
        begins = set_here ∙ B.begins.1;
        first_on = ⊎_elim {C = (B.goal ≡ P.source) ⊎ OnEarlier P next sink B.goal} (λ q. inl q) (λ i. inr (earlier_on B.goal i)) (G.joinable-on B.goal B.joins);
        all-before = B.ends.0;
        ends = set_here ∙ B.ends.1;
      }

      still : (j : ℕ) → j ≢ sink → j < P.taps.count → turn_in P j < turn → FromTo P T j → FromTo P next j
      still j d h t F = record {
        first = F.first;
        rest = F.rest;
        begins = set_there j d ∙ F.begins;
        first_on = ⊎_elim {C = (F.first ≡ P.source) ⊎ OnEarlier P next j F.first} (λ q. inl q) (λ E. inr (on E)) F.first_on;
        all-before = F.all-before;
        ends = set_there j d ∙ F.ends;
      }
        where
          on : OnEarlier P T j F.first → OnEarlier P next j F.first
          on E = record { sink = E.sink; sink_in = E.sink_in; before = E.before; on-it = rw (kept E.sink (omega (arith, E.before))) E.on-it }

      of_tree : (l : List ℕ) → In l (branch ∷ G.order) → HadTurn P (turn + 1) next l
      of_tree l (inl e) = record { sink = sink; sink_in = now.0; had = omega (arith, now.1); its-branch = set_here ∙ sym e }
      of_tree l (inr i) =
          let H = G.of_tree l i in
          record {
            sink = H.sink;
            sink_in = H.sink_in;
            had = omega (arith, H.had);
            its-branch = set_there H.sink (λ q. omega (arith, H.had, now.1, ap (turn_in P) q)) ∙ H.its-branch;
          }

      occupied : (v : ℕ) → (stands_in branch v ≡ true) ⊎ (is_marked T.occupied v ≡ true) → (v ≡ P.source) ⊎ OnSome v (branch ∷ G.order)
      occupied v (inl e) = inr (inl (stands_in_lem branch v e))
      occupied v (inr e) = ⊎_elim {C = (v ≡ P.source) ⊎ OnSome v (branch ∷ G.order)} (λ q. inl q) (λ i. inr (inr i)) (G.occupied-on v e)

      on-occupied : (v : ℕ) → v < length T.occupied → (v ≡ P.source) ⊎ OnSome v (branch ∷ G.order) → is_marked (marked_by (stands_in branch) T.occupied) v ≡ true
      on-occupied v h (inl e) = marked-old (stands_in branch) T.occupied v h (G.on-occupied v (omega (arith, h, G.occupied-long)) (inl e))
      on-occupied v h (inr (inl i)) = marked-new (stands_in branch) T.occupied v h (in_stands branch v i)
      on-occupied v h (inr (inr i)) = marked-old (stands_in branch) T.occupied v h (G.on-occupied v (omega (arith, h, G.occupied-long)) (inr i))

      joinable : (v : ℕ) → (stands_in (all_but_last branch) v ≡ true) ⊎ (is_marked T.joinable v ≡ true) → (v ≡ P.source) ⊎ OnSome v (branch ∷ G.order)
      joinable v (inl e) = inr (inl (but_last_in branch v (stands_in_lem (all_but_last branch) v e)))
      joinable v (inr e) = ⊎_elim {C = (v ≡ P.source) ⊎ OnSome v (branch ∷ G.order)} (λ q. inl q) (λ i. inr (inr i)) (G.joinable-on v e)

-- ---- all turns

module _ {P : Plot} (S : SoundPlot P) where
  after-grown : {turn : ℕ} → turn < P.taps.count → (T T' : Tree) → GrownSoFar P turn T → (trial : Trial)
      → route_to_tree (site_at P T.joinable) (tap_at P (sink_now P turn)).approach T.blocked ≡ trial → after_sink P (sink_now P turn) T trial ≡ grown T'
      → GrownSoFar P (turn + 1) T'
  unfolding after_sink
  after-grown {turn} b T T' G (found path cost) w q =
      let k : sink_now P turn < P.taps.count = (sink-now P turn (sink_now P turn) refl b).0 in
      ask (fits_in P T (branch_of (tap_at P (sink_now P turn)) path))
      (λ t. rw (sym (same-tree (rw t at q))) (turn-grown b G (branch_of (tap_at P (sink_now P turn)) path) (sprout S T.joinable T.blocked (sink_now P turn) k path cost w)))
      (λ f. never (cc (rw f at q)))
  after-grown b T T' G failed w q = never (cc)
  after-grown b T T' G (full x) w q = never (cc)

  sink-grown : {turn : ℕ} → turn < P.taps.count → (T T' : Tree) → GrownSoFar P turn T → grow_sink P (sink_now P turn) T ≡ grown T' → GrownSoFar P (turn + 1) T'
  unfolding grow_sink
  sink-grown {turn} b T T' G e = after-grown b T T' G (route_to_tree (site_at P T.joinable) (tap_at P (sink_now P turn)).approach T.blocked) refl e

  turns_grown : (n turn : ℕ) → turn + n ≤ P.taps.count → (T T' : Tree) → GrownSoFar P turn T → grow_from n P turn T ≡ grown T' → GrownSoFar P (turn + n) T'
  unfolding grow_from
  turns_grown zero turn h T T' G q = let z : turn + 0 ≡ turn = omega arith in rw (z, ← same-tree q) G
  turns_grown (suc n) turn h T T' G q = go (grow_sink P (sink_now P turn) T) refl q (turns_grown n (turn + 1) (omega arith))
    where
      go : (g : Growth) → grow_sink P (sink_now P turn) T ≡ g → grow_on (grow_from n P (turn + 1)) g ≡ grown T'
          → ((T₁ T₂ : Tree) → GrownSoFar P (turn + 1) T₁ → grow_from n P (turn + 1) T₁ ≡ grown T₂ → GrownSoFar P (turn + 1 + n) T₂) → GrownSoFar P (turn + suc n) T'
      go (grown T₁) e z later = let s : turn + suc n ≡ turn + 1 + n = omega arith in rw s (later T₁ T' (sink-grown (omega arith) T T₁ G e) z)
      go (stopped number detail) e z later = never (cc)

  outset-grown : (blocked : List ℕ) → GrownSoFar P 0 (planted P blocked)
  unfolding planted
  outset-grown blocked = record {
    count-is = length-replicate {A = List ℕ} P.taps.count [];
    within = λ k h v i. absurd (rw (nothing k h) at i);
    steps = λ k h. rw (nothing k h) (tt {0});
    approach_on = λ k h g. absurd (omega arith);
    from-to = λ k h g. absurd (omega arith);
    order = [];
    of_tree = λ l i. absurd i;
    all = λ k h g. absurd (omega arith);
    grafted = tt {0};
    occupied-long = with_length_lem 1 (eqb P.source) (no_marks (volume P.room)) ∙ length-replicate {A = ℕ} (volume P.room) 0;
    occupied-on = λ v e. inl (only v (marked_or (eqb P.source) (no_marks (volume P.room)) v e));
    on-occupied = λ v h i. outset v h i;
    joinable-on = λ v e. inl (only v (marked_or (eqb P.source) (no_marks (volume P.room)) v e));
  }
    where
      nothing : (k : ℕ) → k < P.taps.count → get_or (replicate {A = List ℕ} P.taps.count []) k [] ≡ []
      nothing k h = get_or-replicate {A = List ℕ} P.taps.count k [] [] h

      outset : (v : ℕ) → v < volume P.room → (v ≡ P.source) ⊎ OnSome v [] → is_marked (source_marks P.room P.source) v ≡ true
      outset v h (inl e) = marked-new (eqb P.source) (no_marks (volume P.room)) v (omega (arith, h, length-replicate {A = ℕ} (volume P.room) 0)) (eq-eqb P.source v (sym e))
      outset v h (inr i) = absurd i

      only : (v : ℕ) → (eqb P.source v ≡ true) ⊎ (is_marked (no_marks (volume P.room)) v ≡ true) → v ≡ P.source
      only v (inl e) = sym (eqb-true P.source v e)
      only v (inr e) = never (cc (rw (zeros (volume P.room) v) at e))

  pub grown-all : (blocked : List ℕ) (T : Tree) → growth_of P blocked ≡ grown T → GrownSoFar P P.taps.count T
  unfolding growth_of
  grown-all blocked T e = let z : 0 + P.taps.count ≡ P.taps.count = omega arith in rw z at (turns_grown P.taps.count 0 (omega arith) (planted P blocked) T (outset-grown blocked) e)

-- ---- the branches by their numbers

number_of : (bs : List (List ℕ)) (l : List ℕ) → In l bs → (k : ℕ) × (k < length bs) × (get_or bs k [] ≡ l)
number_of [] l i = absurd i
number_of (x ∷ bs) l (inl e) = (0, omega arith, sym e)
number_of (x ∷ bs) l (inr i) = let r = number_of bs l i in (suc r.0, omega (arith, r.1), r.2)

all-steps : (R : Room) (bs : List (List ℕ)) → ((k : ℕ) → k < length bs → Steps R (get_or bs k [])) → AllSteps R bs
all-steps R [] f = tt {0}
all-steps R (l ∷ bs) f = (f 0 (omega arith), all-steps R bs (λ k h. f (suc k) (omega arith)))

-- ---- the grown tree

module _ {P : Plot} (S : SoundPlot P) (blocked : List ℕ) (T : Tree) (e : growth_of P blocked ≡ grown T) where
  G : GrownSoFar P P.taps.count T
  G = grown-all S blocked T e

  had : (k : ℕ) → k < P.taps.count → turn_in P k < P.taps.count
  had k h = turn_in_lem (far P.room P.source P.taps.taps) P.taps.count k h

  grown-branch : (l : List ℕ) → In l G.order → In l T.branches
  grown-branch l i = let H = G.of_tree l i in rw (← H.its-branch) (in_at T.branches H.sink [] (omega (arith, H.sink_in, G.count-is)))

  branch-grown : (v : ℕ) → OnSome v T.branches → OnSome v G.order
  branch-grown v i =
      let r = index_of T.branches v i in
      let k : r.0 < P.taps.count = omega (arith, r.1, G.count-is) in
      on_some G.order _ (G.all r.0 k (had r.0 k)) v r.2

  -- its branches grew one on another from the source
  pub tree-from : TreeFrom (volume P.room) P.source T.branches
  tree-from = record {
    source_in = S.net.source_in;
    within = λ l i v j. let r = number_of T.branches l i in G.within r.0 (omega (arith, r.1, G.count-is)) v (rw r.2 j);
    order = G.order;
    of_tree = grown-branch;
    all = branch-grown;
    grafted = G.grafted;
  }

  -- by steps of the room
  pub tree-steps : AllSteps P.room T.branches
  tree-steps = all-steps P.room T.branches (λ k h. G.steps k (omega (arith, h, G.count-is)))

  -- and each sink's approach and terminal stand on them
  pub approach_on_tree : (k : ℕ) → k < P.taps.count → OnSome (tap_at P k).approach T.branches
  approach_on_tree k h = on_some T.branches (branch_in T k) (in_at T.branches k [] (omega (arith, h, G.count-is))) _ (G.approach_on k h (had k h))

  pub terminal_on_tree : (k : ℕ) → k < P.taps.count → OnSome (tap_at P k).terminal T.branches
  terminal_on_tree k h =
      let F = G.from-to k h (had k h) in
      on_some T.branches (branch_in T k) (in_at T.branches k [] (omega (arith, h, G.count-is))) _
      (in_same (tap_at P k).terminal (branch_in T k) _ F.ends (in_right (tap_at P k).terminal F.all-before _ (inl refl)))

  -- the occupied cells are the source and the cells of the branches
  pub occupied-on-tree : (v : ℕ) → is_marked T.occupied v ≡ true → (v ≡ P.source) ⊎ OnSome v T.branches
  occupied-on-tree v o = ⊎_elim {C = (v ≡ P.source) ⊎ OnSome v T.branches} (λ q. inl q) (λ i. inr (back v i)) (G.occupied-on v o)
    where
      back : (v : ℕ) → OnSome v G.order → OnSome v T.branches
      back v i = let r = index_of G.order v i in on_some T.branches _ (grown-branch _ (in_at G.order r.0 [] r.1)) v r.2

  pub tree-occupied : (v : ℕ) → (v ≡ P.source) ⊎ OnSome v T.branches → is_marked T.occupied v ≡ true
  tree-occupied v (inl q) = G.on-occupied v (rw q S.net.source_in) (inl q)
  tree-occupied v (inr i) = G.on-occupied v (on_below (volume P.room) T.branches tree-from.within v i) (inr (branch-grown v i))

  pub branch-from-to : (k : ℕ) → k < P.taps.count → FromTo P T k
  branch-from-to k h = G.from-to k h (had k h)

  pub branch-goes-on : (k : ℕ) → k < P.taps.count → Steps P.room (branch_in T k)
  branch-goes-on = G.steps
