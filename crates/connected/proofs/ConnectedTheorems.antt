-- THE WHOLE NET HANGS TOGETHER: what Connected claims, of each grown tree and of each tree that `route_net_tree` answers.
use Rattle.std.specs.Prelude.{◌≡◌, Ok, refl, ◌⊎◌, ◌≢◌, true, false, List, [], ◌∷◌, ℕ, ◌<◌, length, get_or}
use Rattle.std.proofs.Common.{sym, ap, ◌∙◌, inl, inr, ⊎_elim, arith, eqb-true}
use Rattle.std.proofs.lemmas.List.{length-replicate}
use Rattle.basics.specs.Tests.{ask, never}
use Rattle.basics.specs.Lists.{In}
use Rattle.room.specs.Room.{volume}
use Rattle.ground.specs.declared.Mode.{Mode}
use Rattle.routing_resources.specs.Marks.{is_marked, no_marks}
use Rattle.routing_resources.specs.MarkLaws.{marked-after}
use Rattle.ends.specs.Ends.{taps_in}
use Rattle.repeaters.specs.NetEnds.{net_end_marks, is_net_end}
use Rattle.multinet.specs.Tree.{Plot, Tree, grown, growth_of, tap_at, repeaters_of}
use Rattle.multinet.specs.Growing.{SoundPlot}
use Rattle.net_tree.specs.declared.Lengths.{Lengths}
use Rattle.net_tree.specs.declared.Tree as trees
use Rattle.net_tree.specs.Answers.{Answer, Lent, lengths_of, TreeOutcome, routed, no_tree, Comes, answer_of, lent_after, Promise}
use Rattle.net_tree.specs.SheetTrees.{TreeOf}
use Rattle.net_tree.specs.SheetTreeLaws.{tree_of}
use Rattle.connected.specs.Grafts.{OnSome, TreeFrom}
use Rattle.repeater_claims.specs.Between.{StandsBetween}
use Rattle.repeater_claims.specs.BothWaysLaws.{neighbour_in}
use Rattle.repeater_claims.specs.BetweenLaws.{path-ends, path-step, repeater-stands-between}
use Rattle.connected.specs.GraftLaws.{on_below, neighbours-on, chain-on}
use Rattle.connected.specs.TreeWalkLaws.{tree-chained, tree-path, path-goes}
use Rattle.connected.proofs.GrownTreeLaws.{tree-from, tree-steps, approach_on_tree, terminal_on_tree, occupied-on-tree, tree-occupied, branch-goes-on, branch-from-to}
use Rattle.connected.specs.Connected.{neighbours_in, parents_in, path_in, TreePath, Connected, NetConnected, AnswerConnected}

-- ---- of a grown tree

module _ {P : Plot} (S : SoundPlot P) (blocked : List ℕ) (T : Tree) (e : growth_of P blocked ≡ grown T) where
  from : TreeFrom (volume P.room) P.source T.branches
  from = tree-from S blocked T e

  on-tree : (v : ℕ) → is_marked T.occupied v ≡ true → (v ≡ P.source) ⊎ OnSome v T.branches
  on-tree = occupied-on-tree S blocked T e

  occupied : (v : ℕ) → (v ≡ P.source) ⊎ OnSome v T.branches → is_marked T.occupied v ≡ true
  occupied = tree-occupied S blocked T e

  path : (v : ℕ) → (v ≡ P.source) ⊎ OnSome v T.branches → TreePath P T v (path_in P T v)
  path v i =
      let W = tree-path from v i in
      record {
        rest = W.rest;
        begins = W.begins;
        ends = path-ends W;
        beside = λ i h. (neighbour_in T.branches (volume P.room) _ _ (path-step W i h)).1;
        steps = path-goes S.good T.branches (tree-steps S blocked T e) W;
        none-twice = W.none-twice;
        short = W.short;
      }

  -- ---- a repeater

  module _ (v : ℕ) (m : is_marked (repeaters_of P T) v ≡ true) where
    stands : StandsBetween P.room (neighbours_in P T) (parents_in P T) v × (get_or (net_end_marks P.room P.source P.taps) v 0 ≢ 1)
    unfolding repeaters_of
    stands = repeater-stands-between P.room P.run from.source_in T.branches (net_end_marks P.room P.source P.taps) (taps_in P.taps) v m

    before_in : In stands.0.before (neighbours_in P T v)
    before_in = ⊎_elim {C = In stands.0.before (neighbours_in P T v)} (λ q. rw q (inl refl)) (λ q. rw q (inr (inl refl))) stands.0.neighbours

    repeater-on : OnSome v T.branches
    repeater-on = (neighbours-on T.branches v stands.0.before (neighbour_in T.branches (volume P.room) v stands.0.before before_in).1).0

    no_end : is_net_end P.source P.taps v ≡ false
    no_end =
        ask (is_net_end P.source P.taps v)
        (λ t. absurd (stands.1 (eqb-true _ 1 (marked-after (is_net_end P.source P.taps) (no_marks (volume P.room)) v inside ∙ rw t))))
        (λ f. f)
      where
        inside : v < length (no_marks (volume P.room))
        inside = omega (arith, on_below (volume P.room) T.branches from.within v repeater-on, length-replicate {A = ℕ} (volume P.room) 0)

  pub connected : Connected P T
  connected = record {
    occupied = λ v. (on-tree v, occupied v);
    joined = λ v. ((λ o. tree-chained from v (on-tree v o)), (λ C. occupied v (chain-on T.branches (volume P.room) P.source v C)));
    path-to = λ v o. path v (on-tree v o);
    approach_path = λ k h. path (tap_at P k).approach (inr (approach_on_tree S blocked T e k h));
    terminal_path = λ k h. path (tap_at P k).terminal (inr (terminal_on_tree S blocked T e k h));
    branch-steps = branch-goes-on S blocked T e;
    branch-from-to = branch-from-to S blocked T e;
    repeater-on = λ v m. occupied v (inr (repeater-on v m));
    repeater_no_end = no_end;
    repeater-between = λ v m. (stands v m).0;
  }

-- ---- of the public tree

net-connected : {mode : Mode} {sheet : List ℕ} {L : Lengths} {branches : List (List ℕ)} {occupied repeaters : List ℕ} → TreeOf mode sheet L branches occupied repeaters
    → NetConnected mode sheet L branches occupied repeaters
net-connected T = record { tree_of = T; connected = connected T.sound T.blocked T.tree T.grows }

-- from the promise alone: each tree answered hangs together
pub answer-connected : {mode : Mode} {sheet : List ℕ} {B : Lent} {r : Answer} {B' : Lent} → Promise mode sheet B r B' → {tree : trees.Tree} → r ≡ Ok tree
    → AnswerConnected mode sheet B r B'
answer-connected {mode} {sheet} {B} {r} {B'} K {tree} e = go K.outcome K.comes K.answer K.lent_is
  where
    go : (o : TreeOutcome) → Comes mode sheet (lengths_of B) o → r ≡ answer_of o → B' ≡ lent_after o B → AnswerConnected mode sheet B r B'
    go (routed branches occupied repeaters) c a l = record {
      branches = branches;
      occupied = occupied;
      repeaters = repeaters;
      answer = a;
      lent_is = l;
      net = net-connected (tree_of c);
    }
    go (no_tree number detail) c a l = let z : answer_of (no_tree number detail) ≡ Ok tree = sym a ∙ e in never (cc)
