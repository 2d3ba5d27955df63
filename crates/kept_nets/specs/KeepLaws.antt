-- Laws of routing and keeping one net: what each function asks, and that together they make up what the definition has.
use Rattle.std.specs.Prelude.{◌≡◌, Ok, refl, true, List, [], ◌∷◌, ◌++◌, map, ℕ, zero, suc, ◌+◌, ◌-◌, ◌≤◌, ◌<◌, length, get_or, drop, take, replicate}
use Rattle.std.proofs.Common.{sym, ap, subst, ◌∙◌, arith, length-append, take_at}
use Rattle.std.proofs.lemmas.List.{length-map}
use Rattle.numbers.specs.Refusals.{buffer_number}
use Rattle.basics.specs.Tests.{ask_less, never}
use Rattle.basics.specs.Lists.{joined}
use Rattle.basics.specs.Padding.{padded_long}
use Rattle.basics.specs.Zeros.{zeros, cleared-to}
use Rattle.lent.specs.Lent.{Cleared, filled}
use Rattle.room.specs.declared.Room.{Room}
use Rattle.room.specs.Room.{Good, volume}
use Rattle.ground.specs.declared.Mode.{Mode}
use Rattle.routing_resources.specs.Marks.{marked_by, is_marked}
use Rattle.job_sheet.specs.declared.Job.{Job}
use Rattle.job_sheet.specs.declared.Reading.{Reading}
use Rattle.job_sheet.specs.Sheet.{max_sinks, Read}
use Rattle.job_sheet.specs.Accepted.{Accepted}
use Rattle.job_sheet.specs.RecordLaws.{Bytes}
use Rattle.ends.specs.declared.Ends.{Ends}
use Rattle.ends.specs.Ends.{sinks_in, ends_of}
use Rattle.outset.specs.SetOutLaws.{same_ends, use_of, sinks_in_lem}
use Rattle.branches.specs.declared.BranchLengths.{BranchLengths}
use Rattle.branches.specs.Branches.{sum, lengths_in, branch_lengths, branches_of, cut_into, longest_branch, Branched, Short}
use Rattle.branches.specs.BranchLaws.{lengths_theirs, lengths-sum, cut-joined}
use Rattle.multinet.specs.Tree.{Plot, Tree, Growth, grown, stopped, growth_of, repeaters_of}
use Rattle.multinet.specs.Growing.{SoundPlot, branch_in}
use Rattle.multinet.specs.GrowthLaws.{growth-count}
use Rattle.net_tree.specs.declared.Tree as trees
use Rattle.net_tree.specs.Answers.{Answer, Lent, lent, TreeOutcome, routed, no_tree, outcome_of, answer_of}
use Rattle.net_tree.specs.Entry.{OutputsHold}
use Rattle.net_tree.specs.EntryLaws.{one-tree}
use Rattle.job_list.specs.Judged.{contents_at}
use Rattle.job_list.specs.JudgeLaws.{accepted-contents, accepted-room}
use Rattle.job_list.specs.GoodNets.{good-reading}
use Rattle.other_nets.specs.Others.{net_clear, ends_at}
use Rattle.other_nets.specs.OtherLaws.{AllIn, NetReady, ListReady}
use Rattle.other_nets.specs.Keeping.{Keepable, Kept}
use Rattle.nets.specs.Nets.{net_outcome}
use Rattle.nets.specs.Routes.{PrepareAsked, NetAsked, NetRouted}
use Rattle.kept_nets.specs.BranchSound.{GoodBranch, GoodNetBranches, branches-good, source-held}
use Rattle.kept_nets.specs.Keep.{AnswerKeepable, AnswerKept, kept-one, kept-none, NextAsked, NextKept, NextRouted}

-- ---- the branches of a routed net in their buffer

all_in : (R : Room) (bs : List (List ℕ)) → ((k : ℕ) → GoodBranch R (get_or bs k [])) → AllIn R bs
all_in R [] f = tt {0}
all_in R (b ∷ bs) f = ((f 0).cells, all_in R bs (λ k. f (suc k)))

behind_map : (bs : List (List ℕ)) (n i : ℕ) → length bs ≤ i → ◌≡◌ {A = ℕ} (get_or (map length bs ++ replicate n 0) i 0) 0
behind_map [] n i h = zeros n i
behind_map (b ∷ bs) n zero h = absurd (omega arith)
behind_map (b ∷ bs) n (suc i) h = behind_map bs n i (omega arith)

module _ {R : Room} (G : Good R) {bs : List (List ℕ)} (N : GoodNetBranches R bs) (buffer : List ℕ) where
  abbrev L : BranchLengths
  L = branch_lengths bs

  each_long : length L.each ≡ max_sinks
  each_long = padded_long (map length bs) max_sinks (length bs) 0 (length-map bs length) N.few

  pub their_branched : Branched L (filled (joined bs) buffer)
  their_branched = record {
    whole = each_long;
    few = N.few;
    within =
        let s : sum (lengths_in L) ≡ length (joined bs) = lengths-sum bs L (lengths_theirs bs) refl in
        rw (s, length-append (joined bs) (replicate (length buffer - length (joined bs)) 0)) (omega arith);
  }

  pub their_branches : branches_of L (filled (joined bs) buffer) ≡ bs
  their_branches =
      ap (λ l. cut_into l (filled (joined bs) buffer)) (take_at (map length bs) (replicate (max_sinks - length bs) 0) (length bs) (length-map bs length))
      ∙ cut-joined bs (replicate (length buffer - length (joined bs)) 0)

  pub their_short : Short L
  their_short = record { whole = each_long; short = λ i h. ask_less i (length bs) (inside i) (λ l. rw (behind_map bs (max_sinks - length bs) i l) (omega arith)) }
    where
      inside : (i : ℕ) → i < length bs → get_or L.each i 0 ≤ longest_branch
      inside i l = rw ((lengths_theirs bs).each-is i l) (omega (arith, (N.each-good i).short, G.few))

-- the branches of a tree that grew over a sound plot
module _ {P : Plot} (S : SoundPlot P) (marks : List ℕ) {bs : List (List ℕ)} {occupied repeaters : List ℕ} where
  pub tree-branches : outcome_of P (growth_of P marks) ≡ routed bs occupied repeaters → GoodNetBranches P.room bs
  tree-branches e = go (growth_of P marks) refl e
    where
      of_tree : (T : Tree) → growth_of P marks ≡ grown T → T.branches ≡ bs → GoodNetBranches P.room bs
      of_tree T w q = record {
        few = rw (← q) (omega (arith, growth-count P marks T w, S.net.taps_in_lem.few));
        each-good = λ k. rw (← q) (branches-good S marks T w k);
      }

      go : (g : Growth) → growth_of P marks ≡ g → outcome_of P g ≡ routed bs occupied repeaters → GoodNetBranches P.room bs
      go (grown T) w q = of_tree T w (cc)
      go (stopped number detail) w q = never (cc)

  -- and its source's terminal
  pub tree-source : outcome_of P (growth_of P marks) ≡ routed bs occupied repeaters → is_marked occupied P.source ≡ true
  tree-source e = go (growth_of P marks) refl e
    where
      of_tree : (T : Tree) → growth_of P marks ≡ grown T → T.occupied ≡ occupied → is_marked occupied P.source ≡ true
      of_tree T w q = rw (← q) (source-held S marks T w).1

      go : (g : Growth) → growth_of P marks ≡ g → outcome_of P g ≡ routed bs occupied repeaters → is_marked occupied P.source ≡ true
      go (grown T) w q = of_tree T w (cc)
      go (stopped number detail) w q = never (cc)

-- ---- one net

module _ {list sheet planned before lengths : List ℕ} {B : Lent} (A : NextAsked list sheet planned before lengths B) {job : Job} (Q : Accepted sheet job) where
  room-same : (contents_at sheet).room ≡ job.room
  room-same = sym (accepted-room Q)

  room-good : Good job.room
  room-good = subst Good room-same A.ready.good

  long : {n : ℕ} → n ≡ volume (contents_at sheet).room → n ≡ volume job.room
  long e = e ∙ ap volume room-same

  pub ends-are : {e : Ends} → e ≡ ends_of job.room job.source (sinks_in job.sinks) → e ≡ ends_at sheet
  ends-are is = is ∙ same_ends (use_of Q).room-is (use_of Q).source_is (sinks_in_lem Q) ∙ ap (λ J. ends_of J.room J.source J.sinks) (accepted-contents Q)

  pub net-asked : {occupied₁ planned₁ : List ℕ} → Cleared B.occupied occupied₁ → Cleared planned planned₁
      → NetAsked list sheet job before (lent B.branches occupied₁ planned₁ B.kinds B.blocked B.classes B.joinable B.known B.previous B.path B.best B.queue)
  net-asked o p = record {
    asked = record {
      memory = A.memory;
      first = A.first;
      place = A.place;
      net = A.net;
      accepted = Q;
      ready = subst (λ R. ListReady R list B.blocked) room-same A.ready;
      before-long = long A.before-long;
      kinds-long = long A.kinds-long;
      nodes-long = long A.known-long;
    };
    branches-clear = A.branches-clear;
    occupied-clear = cleared-to (long A.occupied-long) o;
    repeaters-clear = cleared-to (long A.planned-long) p;
    classes-long = long A.classes-long;
    joinable-long = long A.joinable-long;
    previous-long = long A.previous-long;
    path-long = long A.path-long;
    best-long = long A.best-long;
    places-some = A.places-some;
  }

  module _ (mode : Mode) (k : ℕ) {occupied₁ planned₁ : List ℕ} {r : Answer} {branches' occupied' planned' : List ℕ}
      (N : NetRouted mode list sheet k before
      (lent B.branches occupied₁ planned₁ B.kinds B.blocked B.classes B.joinable B.known B.previous B.path B.best B.queue) r branches' occupied' planned')
      {e : Ends} (is : e ≡ ends_of job.room job.source (sinks_in job.sinks)) where
    abbrev out : TreeOutcome
    out = net_outcome mode list (length B.queue) k (is_marked before) (length B.branches) sheet

    source_in : e.source < volume job.room
    source_in =
        let s : N.plot.source ≡ e.source = N.source_is ∙ ap (λ x. x.source) (sym (ends-are is)) in
        let v : volume N.plot.room ≡ volume job.room = ap volume (N.room-is ∙ room-same) in
        omega (arith, N.sound.net.source_in)

    good-branches : {bs : List (List ℕ)} {occ rep : List ℕ} → out ≡ routed bs occ rep → GoodNetBranches job.room bs
    good-branches {bs} q = subst (λ R. GoodNetBranches R bs) (N.room-is ∙ room-same) (tree-branches N.sound N.marks (sym N.grows ∙ q))

    module _ (planned-long : length planned' ≡ length B.repeaters) where
      keepable : (o : TreeOutcome) → out ≡ o → r ≡ answer_of o → OutputsHold o B.branches branches' occupied' planned' → (t : trees.Tree) → r ≡ Ok t
          → Keepable job.room e.source t.lengths branches' planned' before B.repeaters lengths
      keepable (routed bs occ rep) w a H t q =
          let G = good-branches w in
          let b : branches' ≡ filled (joined bs) B.branches = H.0 in
          let l : t.lengths ≡ branch_lengths bs = ap (λ z. z.lengths) (one-tree q a) in
          rw (l, b) record {
            ready = record {
              good = room-good;
              source_in = source_in;
              branched = their_branched room-good G B.branches;
              cells_in = rw (their_branches room-good G B.branches) (all_in job.room bs G.each-good);
              long = long A.before-long;
            };
            short = their_short room-good G B.branches;
            planned-long = planned-long;
            out-long = A.lengths-long;
          }
      keepable (no_tree n d) w a H t q = never (cc)

      pub answer-keepable : AnswerKeepable job.room e.source r branches' planned' before B.repeaters lengths
      answer-keepable = record { keepable = keepable out refl N.answer N.outputs }

    source-marked : {bs : List (List ℕ)} {occ rep : List ℕ} → out ≡ routed bs occ rep → is_marked occ (ends_at sheet).source ≡ true
    source-marked {occ = occ} q = ap (is_marked occ) (sym N.source_is) ∙ tree-source N.sound N.marks (sym N.grows ∙ q)

    module _ {before' repeaters' lengths' : List ℕ} where
      kept_by : (o : TreeOutcome) → out ≡ o → r ≡ answer_of o → OutputsHold o B.branches branches' occupied' planned'
          → AnswerKept job.room e.source r branches' planned' before B.repeaters lengths before' repeaters' lengths'
          → NextKept o (contents_at sheet).room (ends_at sheet).source B.branches lengths B.repeaters before branches' lengths' repeaters' before' occupied' planned'
      kept_by (routed bs occ rep) w a H (kept-one t q K) =
          let G = good-branches w in
          let l : t.lengths ≡ branch_lengths bs = ap (λ z. z.lengths) (one-tree q a) in
          let cut : branches_of t.lengths branches' ≡ bs = (λ i. branches_of (l i) (H.0 i)) ∙ their_branches room-good G B.branches in
          let s : e.source ≡ (ends_at sheet).source = ap (λ z. z.source) (ends-are is) in
          record {
            branches-are = H.0;
            lengths-are =
                K.lengths-are ∙ (λ i. (l i).each ++ drop (length (l i).each) lengths) ∙ ap (λ n. (branch_lengths bs).each ++ drop n lengths) (each_long room-good G B.branches);
            repeaters-are = K.repeaters-are ∙ ap (λ m. marked_by (is_marked m) B.repeaters) H.2;
            before-are = K.before-are ∙ (λ i. marked_by (net_clear (sym room-same i) (s i) (cut i)) before);
            occupied-are = H.1;
            planned-are = H.2;
            good = subst (λ R. GoodNetBranches R bs) (sym room-same) G;
            source-marked = source-marked w;
          }
      kept_by (routed bs occ rep) w a H (kept-none x q) = never (cc)
      kept_by (no_tree n d) w a H K = H

      pub next-routed : AnswerKept job.room e.source r branches' planned' before B.repeaters lengths before' repeaters' lengths'
          → NextRouted mode list sheet k before lengths B r branches' lengths' repeaters' before' occupied' planned'
      next-routed K = record { answer = N.answer; kept = kept_by out refl N.answer N.outputs K }
