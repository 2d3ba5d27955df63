-- Laws of one routed net: it is a grown tree, so it has a mark for each cell of its room, and its repeaters are those planned over its branches.
use Rattle.std.specs.Prelude.{◌≡◌, refl, ◌≢◌, Bool, true, List, ℕ, zero, suc, ◌+◌, ◌-◌, eqb, length}
use Rattle.std.proofs.Common.{sym, ◌∙◌}
use Rattle.std.proofs.Math.Path.{ap}
use Rattle.std.proofs.lemmas.List.{length-replicate}
use Rattle.basics.specs.Tests.{ask, never}
use Rattle.room.specs.declared.Room.{Room}
use Rattle.room.specs.Room.{volume}
use Rattle.room.specs.Units.{no_facing}
use Rattle.ground.specs.declared.Mode.{Mode}
use Rattle.routing_resources.specs.Marks.{is_marked, no_marks}
use Rattle.routing_resources.specs.MarkLaws.{with_length_lem}
use Rattle.geometry.specs.Geometry.{stands_in}
use Rattle.goals.specs.Goals.{Trial, found, failed, full}
use Rattle.branches.specs.Branches.{branch_of}
use Rattle.repeaters.specs.Repeaters.{repeater_marks}
use Rattle.repeaters.specs.NetEnds.{net_end_marks}
use Rattle.multinet.specs.Tree.{Plot, Tree, Growth, grown, stopped, planted, with_branch, tap_at, fits_in, after_sink, grow_sink, grow_on, grow_from, growth_of, sink_now, repeaters_of}
use Rattle.multinet.specs.GrowthLaws.{same-tree}
use Rattle.outset.specs.SetOut.{ready}
use Rattle.net_tree.specs.Answers.{routed, plot_for, outcome_of, job_outcome}
use Rattle.job_list.specs.Judged.{contents_at}
use Rattle.other_nets.specs.Others.{ends_at}
use Rattle.laying.specs.Laying.{Net, direction_of, parents_on}
use Rattle.laying.specs.Directions.{always_directed}
use Rattle.nets.specs.Nets.{kinds_at, outset_at, blocked_at, lent_for, net_outcome, net_at}

-- ---- a tree keeps its room's marks

same-long : {T U : Tree} → grown T ≡ grown U → length U.occupied ≡ length T.occupied
same-long e = ap (λ x. length x.occupied) (sym (same-tree e))

after-long : (P : Plot) (k : ℕ) (T U : Tree) (t : Trial) → after_sink P k T t ≡ grown U → length U.occupied ≡ length T.occupied
unfolding after_sink with_branch
after-long P k T U (found path cost) e =
    ask (fits_in P T (branch_of (tap_at P k) path)) (λ t. same-long (rw t at e) ∙ with_length_lem 1 (stands_in (branch_of (tap_at P k) path)) T.occupied)
    (λ f. never (cc (rw f at e)))
after-long P k T U failed e = never (cc)
after-long P k T U (full x) e = never (cc)

sink-long : (P : Plot) (k : ℕ) (T U : Tree) → grow_sink P k T ≡ grown U → length U.occupied ≡ length T.occupied
unfolding grow_sink
sink-long P k T U e = after-long P k T U _ e

grow_long : (n : ℕ) (P : Plot) (turn : ℕ) (T U : Tree) → grow_from n P turn T ≡ grown U → length U.occupied ≡ length T.occupied
unfolding grow_from
grow_long zero P turn T U e = same-long e
grow_long (suc n) P turn T U e = on _ refl (λ S f. grow_long n P (turn + 1) S U f) e
  where
    on : (g : Growth) → grow_sink P (sink_now P turn) T ≡ g → ((S : Tree) → grow_from n P (turn + 1) S ≡ grown U → length U.occupied ≡ length S.occupied)
        → grow_on (grow_from n P (turn + 1)) g ≡ grown U → length U.occupied ≡ length T.occupied
    on (grown S) d rest f = rest S f ∙ sink-long P _ T S d
    on (stopped number detail) d rest f = never (cc)

growth-long : (P : Plot) (blocked : List ℕ) (T : Tree) → growth_of P blocked ≡ grown T → length T.occupied ≡ volume P.room
unfolding growth_of planted
growth-long P blocked T e = grow_long P.taps.count P 0 (planted P blocked) T e ∙ with_length_lem 1 (eqb P.source) (no_marks (volume P.room)) ∙ length-replicate {A = ℕ} (volume P.room) 0

-- ---- a net's outcome is a grown tree's

record Grown (P : Plot) (blocked : List ℕ) (bs : List (List ℕ)) (occupied repeaters : List ℕ) : Type 0 where
  pub tree : Tree
  pub grows : growth_of P blocked ≡ grown tree
  pub branches-are : bs ≡ tree.branches
  pub occupied-are : occupied ≡ tree.occupied
  pub repeaters-are : repeaters ≡ repeaters_of P tree

grown-by : (P : Plot) (blocked : List ℕ) {bs : List (List ℕ)} {occupied repeaters : List ℕ} → outcome_of P (growth_of P blocked) ≡ routed bs occupied repeaters
    → Grown P blocked bs occupied repeaters
grown-by P blocked {bs} {occupied} {repeaters} e = go _ refl e
  where
    go : (g : Growth) → growth_of P blocked ≡ g → outcome_of P g ≡ routed bs occupied repeaters → Grown P blocked bs occupied repeaters
    go (grown T) q f = record { tree = T; grows = q; branches-are = cc; occupied-are = cc; repeaters-are = cc }
    go (stopped number detail) q f = never (cc)

module _ (mode : Mode) (list : List ℕ) (queue k : ℕ) (taken : ℕ → Bool) (left : ℕ) (sheet : List ℕ) {bs : List (List ℕ)} {occupied repeaters : List ℕ}
    (e : net_outcome mode list queue k taken left sheet ≡ routed bs occupied repeaters) where
  abbrev plot : Plot
  plot = let J = contents_at sheet in plot_for mode J (lent_for J.room left queue) (outset_at sheet) (kinds_at sheet)

  net-grown : Grown plot (blocked_at list k taken sheet) bs occupied repeaters
  unfolding net_outcome job_outcome
  net-grown = ask (ready (outset_at sheet)) (λ t. grown-by plot (blocked_at list k taken sheet) (rw t at e)) (λ f. never (cc (rw f at e)))

  pub net-long : length occupied ≡ volume (contents_at sheet).room
  net-long = ap length net-grown.occupied-are ∙ growth-long plot (blocked_at list k taken sheet) net-grown.tree net-grown.grows

  -- its repeaters are those planned over its branches, so each has a direction
  abbrev R : Room
  R = (contents_at sheet).room

  abbrev ends : List ℕ
  ends = net_end_marks R (ends_at sheet).source (ends_at sheet).taps

  abbrev net : Net
  net = net_at sheet bs occupied repeaters

  are-planned : repeaters ≡ repeater_marks R (contents_at sheet).run net.source net.taps bs ends
  unfolding repeaters_of
  are-planned = net-grown.repeaters-are ∙ ap (λ l. repeater_marks R (contents_at sheet).run net.source net.taps l ends) (sym net-grown.branches-are)

  pub net-directed : (v : ℕ) → is_marked net.repeaters v ≡ true → direction_of R (parents_on R net) v ≢ no_facing
  net-directed = always_directed R net (contents_at sheet).run ends are-planned
