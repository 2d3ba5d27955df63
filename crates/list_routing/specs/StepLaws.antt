-- Laws of one step of the walk: what its parts ask, and that one net more keeps what is known of the nets so far.
use Rattle.std.specs.Prelude.{◌≡◌, refl, true, ℕ, suc, ◌+◌, ◌-◌, ◌≤◌, ◌<◌, get_or, take, drop, Option, Result, Ok, Err}
use Rattle.std.proofs.Math.Path.{sym, ap}
use Rattle.std.proofs.Common.{subst, ◌∙◌, arith, length-append, length-drop, drop-drop}
use mathlib.Core.List.{List, [], ◌∷◌, ◌++◌}
use Rattle.std.proofs.Math.ListN.{length, replicate, get_or-eq_default}
use Rattle.numbers.specs.Refusals.{buffer_number}
use Rattle.basics.specs.Tests.{ask_less, never}
use Rattle.basics.specs.Lists.{joined}
use Rattle.basics.specs.Zeros.{drop_zeros}
use Rattle.lent.specs.Lent.{filled}
use Rattle.room.specs.declared.Room.{Room}
use Rattle.room.specs.Room.{Good, volume}
use Rattle.ground.specs.declared.Mode.{Mode}
use Rattle.room_search.specs.TriedMoves.{places_of}
use Rattle.routing_resources.specs.Marks.{marked_by, is_marked}
use Rattle.job_sheet.specs.Sheet.{max_sinks}
use Rattle.branches.specs.Branches.{sum, lengths_in, branch_lengths, branches_of}
use Rattle.branches.specs.BranchLaws.{lengths_theirs, lengths-sum}
use Rattle.repeaters.specs.Masks.{AllSteps, BranchesReady}
use Rattle.net_tree.specs.declared.Tree as trees
use Rattle.net_tree.specs.declared.Refused as refusals
use Rattle.net_tree.specs.EntryLaws.{one-tree, one-refusal}
use Rattle.net_tree.specs.Answers.{Answer, Lent, lent, TreeOutcome, routed, no_tree, answer_of}
use Rattle.laying.specs.Laying.{Net}
use Rattle.job_list.specs.Split.{sheet_long, first_sheet, sheets_in}
use Rattle.job_list.specs.SplitLaws.{long-most, long-some, sheets_some, sheets_none}
use Rattle.job_list.specs.Judged.{contents_at}
use Rattle.job_list.specs.GoodNets.{GoodNet, GoodFrom, good-room-is, memory-lengths-enough}
use Rattle.other_nets.specs.Others.{net_clear, ends_at}
use Rattle.other_nets.specs.OtherLaws.{ListReady, list-still}
use Rattle.nets.specs.Nets.{net_at, taken_by, route_from, routed_list, net_outcome}
use Rattle.laid_nets.specs.declared.Meeting.{Meeting}
use Rattle.laid_nets.specs.LaidNets.{room_at, unlaid, with_net, laid_nets}
use Rattle.laid_nets.specs.Layings.{SheetLaid}
use Rattle.laid_nets.specs.NetLaws.{laid_more}
use Rattle.laid_nets.specs.CountLaws.{Counted, number_fits, counted-more}
use Rattle.kept_nets.specs.BranchSound.{GoodBranch}
use Rattle.kept_nets.specs.Keep.{NextKept, NextHeld}
use Rattle.kept_nets.specs.KeepLaws.{their_branched, their_branches, their_short}
use Rattle.list_routing.specs.declared.Stand.{Stand}
use Rattle.list_routing.specs.declared.NetRefused.{NetRefused}
use Rattle.list_routing.specs.ListLent.{ListLent, SameSizes, Desk}
use Rattle.list_routing.specs.Walk.{cells_of, lengths_of, cells-more, lengths-more, taken_more, planned-more, before-is, step-routed, step-refused, outcome-by-marks}
use Rattle.list_routing.specs.Parts.{sheet_here, rest_of, counted_at, PartAsked, PartRouted, TreeLayable, AnswerLayable, further, AnswerLaid, laid_one, laid_none}
use Rattle.list_routing.specs.RestLaws.{rest-long, rest-clear, rest-cleared, more-filled, more-fits, part-back}
use Rattle.list_routing.specs.Walking.{room_of, so_far, Walking, WalkingOn, Stepped, EndsWith, Walked}

-- the memory of one net
abbrev pub net_lent : ListLent → Lent
net_lent B = lent B.branches B.occupied B.repeaters B.room B.blocked B.classes B.joinable B.known B.previous B.path B.best B.queue

marked_in : (marks : List ℕ) (v : ℕ) → is_marked marks v ≡ true → v < length marks
marked_in marks v t =
    ask_less v (length marks) (λ h. h)
    (λ h. let z : get_or marks v 0 ≡ 0 = get_or-eq_default marks 0 {n = v} h in never (cc (rw z at t)))

all-steps : (R : Room) (bs : List (List ℕ)) → ((k : ℕ) → GoodBranch R (get_or bs k [])) → AllSteps R bs
all-steps R [] f = tt {0}
all-steps R (b ∷ bs) f = ((f 0).steps, all-steps R bs (λ k. f (suc k)))

places_same : (old new : List ℕ) → length new ≡ length old → 0 < places_of old → 0 < places_of new
places_same old new e h = rw e h

pub desk-still : {R : Room} {B B' : ListLent} → Desk R B → SameSizes B B' → Desk R B'
desk-still {B = B} {B' = B'} D S = record {
  owners = S.owners ∙ D.owners;
  repeaters = S.repeaters ∙ D.repeaters;
  kinds = S.kinds ∙ D.kinds;
  facings = S.facings ∙ D.facings;
  occupied = S.occupied ∙ D.occupied;
  planned = S.planned ∙ D.planned;
  before = S.before ∙ D.before;
  room = S.room ∙ D.room;
  blocked = S.blocked ∙ D.blocked;
  classes = S.classes ∙ D.classes;
  joinable = S.joinable ∙ D.joinable;
  known = S.known ∙ D.known;
  previous = S.previous ∙ D.previous;
  path = S.path ∙ D.path;
  best = S.best ∙ D.best;
  queue = places_same B.queue B'.queue S.queue D.queue;
}

module _ {mode : Mode} {list : List ℕ} {stand : Stand} {B : ListLent} (O : WalkingOn mode list stand B) {end : ℕ} (e : end ≡ stand.place + sheet_long (drop stand.place list)) where
  abbrev W : Walking mode list stand B
  W = O.walking

  abbrev R : Room
  R = room_of list

  abbrev here : List ℕ
  here = sheet_here list stand.place end

  left-some : 0 < length (drop stand.place list)
  left-some = rw (length-drop stand.place list) (omega (arith, O.some_left))

  here-is : first_sheet (drop stand.place list) ≡ here
  here-is = let size_is : sheet_long (drop stand.place list) ≡ end - stand.place = omega arith in ap (λ n. take n (drop stand.place list)) size_is

  sheets_are : sheets_in (drop stand.place list) ≡ here ∷ sheets_in (drop end list)
  sheets_are =
      sheets_some (drop stand.place list) left-some
      ∙ (λ i. here-is i ∷ sheets_in (drop-drop (sheet_long (drop stand.place list)) stand.place list i))
      ∙ ap (λ n. here ∷ sheets_in (drop n list)) (sym e)

  end-within : end ≤ length list
  end-within = omega (arith, long-most (drop stand.place list), length-drop stand.place list, O.some_left)

  pub end-behind : stand.place < end
  end-behind = omega (arith, long-some (drop stand.place list) left-some)

  good-now : GoodFrom W.memory (contents_at (first_sheet list)) stand.net (here ∷ sheets_in (drop end list))
  good-now = rw sheets_are at W.good

  good-here : GoodNet W.memory (contents_at (first_sheet list)) stand.net here
  good-here = good-now.0

  room-here : R ≡ (contents_at here).room
  room-here = sym (good-room-is good-here)

  room-good : Good (contents_at here).room
  room-good = subst Good room-here W.ready.good

  long : {n : ℕ} → n ≡ volume R → n ≡ volume (contents_at here).room
  long h = h ∙ ap volume room-here

  lengths-enough : counted_at stand + max_sinks ≤ length B.lengths
  lengths-enough = omega (arith, memory-lengths-enough good-here, W.memory-lengths)

  pub part-asked : PartAsked list stand end B.planned B.before B.lengths (net_lent B)
  part-asked = record {
    span = record { ordered = omega (arith, end-behind); within = end-within };
    used-most = W.used-most;
    counted-most = omega (arith, lengths-enough);
    asked = record {
      memory = W.memory;
      first = contents_at (first_sheet list);
      place = stand.net;
      net = good-here;
      ready = subst (λ Q. ListReady Q list B.blocked) room-here W.ready;
      branches-clear = rest-cleared (cells_of W.nets) B.branches W.branches-are stand.used W.used-is;
      occupied-long = long W.desk.occupied;
      planned-long = long W.desk.planned;
      repeaters-long = long W.desk.repeaters;
      before-long = long W.desk.before;
      kinds-long = long W.desk.room;
      known-long = long W.desk.known;
      classes-long = long W.desk.classes;
      joinable-long = long W.desk.joinable;
      previous-long = long W.desk.previous;
      path-long = long W.desk.path;
      best-long = long W.desk.best;
      places-some = W.desk.queue;
      lengths-long = omega (arith, lengths-enough, rest-long (counted_at stand) B.lengths);
    };
  }

  module _ {r : Answer} {branches' lengths' repeaters' before' occupied' planned' : List ℕ}
      (N : PartRouted mode list stand end B.before B.lengths (net_lent B) r branches' lengths' repeaters' before' occupied' planned') where
    abbrev out : TreeOutcome
    out = net_outcome mode list (length B.queue) stand.net (is_marked B.before) (length (rest_of stand.used B.branches)) here

    -- as the definition has it
    out-is : out ≡ net_outcome mode list (length B.queue) stand.net (taken_by (contents_at here).room W.nets) (length B.branches - stand.used) here
    out-is =
        ap (λ n. net_outcome mode list (length B.queue) stand.net (is_marked B.before) n here) (rest-long stand.used B.branches)
        ∙ outcome-by-marks mode list (length B.queue) stand.net (length B.branches - stand.used) here (is_marked B.before) (taken_by (contents_at here).room W.nets)
        (λ v h. before-is R W.nets (volume R) W.before-are v (rw (ap volume (sym room-here)) at h) ∙ ap (λ Q. taken_by Q W.nets v) room-here)

    -- a tree came of it
    record RoutedNow (t : trees.Tree) : Type 0 where
      pub bs : List (List ℕ)
      pub occ : List ℕ
      pub rep : List ℕ
      pub is : out ≡ routed bs occ rep
      pub lengths-are : t.lengths ≡ branch_lengths bs
      pub held : NextHeld bs occ rep (contents_at here).room (ends_at here).source (rest_of stand.used B.branches) (rest_of (counted_at stand) B.lengths) B.repeaters B.before
          N.branches N.lengths-left repeaters' before' occupied' planned'

    routed-now : {t : trees.Tree} → r ≡ Ok t → RoutedNow t
    routed-now {t} q = go out refl N.routed.answer N.routed.kept
      where
        go : (o : TreeOutcome) → out ≡ o → r ≡ answer_of o
            → NextKept o (contents_at here).room (ends_at here).source (rest_of stand.used B.branches) (rest_of (counted_at stand) B.lengths) B.repeaters B.before
            N.branches N.lengths-left repeaters' before' occupied' planned' → RoutedNow t
        go (routed bs occ rep) w a K = record { bs = bs; occ = occ; rep = rep; is = w; lengths-are = ap (λ z. z.lengths) (one-tree q a); held = K }
        go (no_tree number detail) w a K = never (cc)

    refused-now : {e : refusals.Refused} → r ≡ Err e → (out ≡ no_tree e.number e.detail) × (buffer_number < e.number)
    refused-now {e} q = go out refl N.routed.answer N.routed.kept
      where
        go : (o : TreeOutcome) → out ≡ o → r ≡ answer_of o
            → NextKept o (contents_at here).room (ends_at here).source (rest_of stand.used B.branches) (rest_of (counted_at stand) B.lengths) B.repeaters B.before
            N.branches N.lengths-left repeaters' before' occupied' planned' → (out ≡ no_tree e.number e.detail) × (buffer_number < e.number)
        go (routed bs occ rep) w a K = never (cc)
        go (no_tree number detail) w a K =
            let s = one-refusal a q in
            let p : number ≡ e.number = ap (λ x. x.number) s in
            let d : detail ≡ e.detail = ap (λ x. x.detail) s in
            (w ∙ (λ i. no_tree (p i) (d i)), omega arith)

    module _ {t : trees.Tree} (T : RoutedNow t) (branches-same : length branches' ≡ length B.branches) where
      count-is : sum (lengths_in t.lengths) ≡ length (joined T.bs)
      count-is = ap (λ L. sum (lengths_in L)) T.lengths-are ∙ lengths-sum T.bs (branch_lengths T.bs) (lengths_theirs T.bs) refl

      branches-fit : stand.used + length (joined T.bs) ≤ length B.branches
      branches-fit =
          more-fits (cells_of W.nets) B.branches W.branches-are stand.used W.used-is W.used-most (joined T.bs) T.held.branches-are N.branches-are branches-same

      part-is : rest_of stand.used branches' ≡ filled (joined T.bs) (rest_of stand.used B.branches)
      part-is =
          part-back (cells_of W.nets) B.branches W.branches-are stand.used W.used-is W.used-most N.branches branches' N.branches-are ∙ T.held.branches-are

      cut-is : branches_of t.lengths (rest_of stand.used branches') ≡ T.bs
      cut-is = (λ i. branches_of (T.lengths-are i) (part-is i)) ∙ their_branches room-good T.held.good (rest_of stand.used B.branches)

      branches-ready : BranchesReady (contents_at here).room t.lengths (rest_of stand.used branches')
      branches-ready = record {
        branched = rw (T.lengths-are, part-is) (their_branched room-good T.held.good (rest_of stand.used B.branches));
        steps = rw cut-is (all-steps (contents_at here).room T.bs T.held.good.each-good);
      }

      source-marked : is_marked occupied' (ends_at here).source ≡ true
      source-marked = rw T.held.occupied-are T.held.source-marked

      source_in : length occupied' ≡ length B.occupied → (ends_at here).source < volume R
      source_in o = omega (arith, marked_in occupied' (ends_at here).source source-marked, W.desk.occupied)

      tree-layable : length occupied' ≡ length B.occupied → length planned' ≡ length B.planned → (known' previous' path' : List ℕ) → length known' ≡ length B.known
          → length previous' ≡ length B.previous → length path' ≡ length B.path
          → TreeLayable list stand end t.lengths branches' occupied' planned' B.owners B.kinds B.facings known' previous' path'
      tree-layable o p known' previous' path' k q s = record {
        short = rw T.lengths-are (their_short room-good T.held.good (rest_of stand.used B.branches));
        few = rw T.lengths-are T.held.good.few;
        counted = omega (arith, W.few, O.some_left);
        fits = omega (arith, count-is, branches-fit);
        layable = record {
          memory = W.memory;
          first = contents_at (first_sheet list);
          place = stand.net;
          net = good-here;
          good = room-good;
          ready = branches-ready;
          occupied-long = long (o ∙ W.desk.occupied);
          planned-long = long (p ∙ W.desk.planned);
          owners-long = long W.desk.owners;
          kinds-long = long W.desk.kinds;
          facings-long = long W.desk.facings;
          links-long = long (k ∙ W.desk.known);
          parents-long = long (q ∙ W.desk.previous);
          line-long = long (s ∙ W.desk.path);
          numbered = number_fits R W.ready.good W.counted occupied' (o ∙ W.desk.occupied) (ends_at here).source (source_in o) source-marked;
        };
      }

      -- the net, behind those so far
      abbrev net : Net
      net = net_at here T.bs T.occ T.rep

      abbrev nets' : List Net
      nets' = W.nets ++ (net ∷ [])

      module _ {B' : ListLent} (same : SameSizes B B') {met : Option Meeting} (branches-are : B'.branches ≡ branches') (lengths-are : B'.lengths ≡ lengths')
          (repeaters-are : B'.repeaters ≡ repeaters') (before-are : B'.before ≡ before') (occupied-long : length occupied' ≡ length B.occupied)
          (laid : SheetLaid here stand.net stand.met t.lengths (rest_of stand.used branches') occupied' planned' B.owners B.kinds B.facings met
          B'.owners B'.kinds B'.facings) where
        abbrev next : Stand
        next = further stand end t.lengths met

        each_long : length (branch_lengths T.bs).each ≡ max_sinks
        each_long = (their_short room-good T.held.good (rest_of stand.used B.branches)).whole

        lengths-part : N.lengths-left ≡ filled (branch_lengths T.bs).each (rest_of (counted_at stand) B.lengths)
        lengths-part =
            let clear = rest-clear (lengths_of W.nets) B.lengths W.lengths-are (counted_at stand) (sym W.lengths-count) in
            let n : length B.lengths - counted_at stand ≡ length (rest_of (counted_at stand) B.lengths) = sym (rest-long (counted_at stand) B.lengths) in
            T.held.lengths-are
            ∙ ap (λ l. (branch_lengths T.bs).each ++ drop max_sinks l) clear
            ∙ ap (λ l. (branch_lengths T.bs).each ++ l) (drop_zeros max_sinks (length B.lengths - counted_at stand))
            ∙ (λ i. (branch_lengths T.bs).each ++ replicate (n i - sym each_long i) 0)

        laid-net : so_far next B' ≡ with_net R stand.net net (so_far stand B)
        laid-net =
            laid.is
            ∙ (λ i. with_net (sym room-here i) stand.net
            (record { source = net.source; taps = net.taps; branches = cut-is i; occupied = T.held.occupied-are i; repeaters = T.held.planned-are i })
            (so_far stand B))

        walking-next : Walking mode list next B'
        walking-next = record {
          nets = nets';
          count-is = omega (arith, W.count-is, length-append W.nets (net ∷ []));
          within = end-within;
          few = omega (arith, W.few, end-behind);
          memory = W.memory;
          memory-lengths = W.memory-lengths ∙ sym same.lengths;
          ready = list-still W.ready (same.blocked ∙ W.desk.blocked);
          good = good-now.1;
          left =
              let less : length B.branches - stand.used - length (joined T.bs) ≡ length B'.branches - next.used = omega (arith, same.branches, count-is) in
              (λ i. route_from mode list (same.queue i) (stand.net + 1) nets' (sym less i) (sheets_in (drop end list)))
              ∙ sym (step-routed mode list (length B.queue) stand.net W.nets (length B.branches - stand.used) here (sheets_in (drop end list)) (sym out-is ∙ T.is))
              ∙ ap (route_from mode list (length B.queue) stand.net W.nets (length B.branches - stand.used)) (sym sheets_are)
              ∙ W.left
              ∙ (λ i. routed_list mode list (sym same.branches i) (sym same.queue i));
          used-is = omega (arith, W.used-is, count-is, ap length (cells-more W.nets net), length-append (cells_of W.nets) (joined T.bs));
          used-most = omega (arith, count-is, branches-fit, same.branches);
          branches-are =
              subst (λ l. l ≡ filled (cells_of nets') l) (sym branches-are)
              (more-filled (cells_of W.nets) B.branches W.branches-are stand.used W.used-is (joined T.bs) T.held.branches-are N.branches-are branches-same
              ∙ ap (λ l. filled l branches') (sym (cells-more W.nets net)));
          lengths-count =
              omega (arith, W.lengths-count, each_long, ap length (lengths-more W.nets net), length-append (lengths_of W.nets) (branch_lengths T.bs).each);
          lengths-are =
              subst (λ l. l ≡ filled (lengths_of nets') l) (sym lengths-are)
              (more-filled (lengths_of W.nets) B.lengths W.lengths-are (counted_at stand) (sym W.lengths-count) (branch_lengths T.bs).each lengths-part N.lengths-are
              (ap length (sym lengths-are) ∙ same.lengths)
              ∙ ap (λ l. filled l lengths') (sym (lengths-more W.nets net)));
          repeaters-are = repeaters-are ∙ planned-more R W.nets net (volume R) W.repeaters-are T.held.repeaters-are;
          before-are =
              before-are
              ∙ taken_more R W.nets net (volume R) W.before-are (T.held.before-are ∙ (λ i. marked_by (net_clear (sym room-here i) (ends_at here).source T.bs) B.before));
          laid-are =
              let k : stand.net ≡ 0 + length W.nets = omega (arith, W.count-is) in
              laid-net
              ∙ ap (with_net R stand.net net) W.laid-are
              ∙ ap (λ n. with_net R n net (laid_nets R 0 W.nets (unlaid R (room_at (first_sheet list))))) k
              ∙ sym (laid_more R 0 W.nets net (unlaid R (room_at (first_sheet list))));
          counted =
              subst (Counted R (stand.net + 1)) (sym laid-net)
              (counted-more R W.ready.good W.counted occupied' (occupied-long ∙ W.desk.occupied) (ends_at here).source (source_in occupied-long) source-marked net (sym T.held.occupied-are));
          desk = desk-still W.desk same;
        }

    pub ends_with : {e : refusals.Refused} → r ≡ Err e → EndsWith mode list B stand.net e.number e.detail
    ends_with q =
        let w = refused-now q in (
          sym W.left
              ∙ ap (route_from mode list (length B.queue) stand.net W.nets (length B.branches - stand.used)) sheets_are
              ∙ step-refused mode list (length B.queue) stand.net W.nets (length B.branches - stand.used) here (sheets_in (drop end list)) (sym out-is ∙ w.0),
          w.1,
        )

    module _ (branches-same : length branches' ≡ length B.branches) (occupied-long : length occupied' ≡ length B.occupied) where
      pub answer-layable : length planned' ≡ length B.planned → {known' previous' path' : List ℕ} → length known' ≡ length B.known → length previous' ≡ length B.previous
          → length path' ≡ length B.path → AnswerLayable list stand end r branches' occupied' planned' B.owners B.kinds B.facings known' previous' path'
      answer-layable p {known'} {previous'} {path'} k q s = record {
        span = record { ordered = omega (arith, end-behind); within = end-within };
        used-most = omega (arith, W.used-most);
        tree = λ t w. tree-layable (routed-now w) branches-same occupied-long p known' previous' path' k q s;
      }

      pub stepped : {B' : ListLent} → SameSizes B B' → B'.branches ≡ branches' → B'.lengths ≡ lengths' → B'.repeaters ≡ repeaters' → B'.before ≡ before' → {s : Result Stand NetRefused}
          → AnswerLaid list stand end r branches' occupied' planned' B.owners B.kinds B.facings s B'.owners B'.kinds B'.facings → Stepped mode list stand B s B'
      stepped same b l p f (laid_one t q met is laid) =
          rw is record { to = (walking-next (routed-now q) branches-same same b l p f occupied-long laid, end-behind) }
      stepped same b l p f (laid_none x q is) = rw is record { to = ends_with q }

-- ---- the whole walk

pub same-twice : {B B' B'' : ListLent} → SameSizes B B' → SameSizes B' B'' → SameSizes B B''
same-twice S T = record {
  branches = T.branches ∙ S.branches;
  lengths = T.lengths ∙ S.lengths;
  owners = T.owners ∙ S.owners;
  repeaters = T.repeaters ∙ S.repeaters;
  kinds = T.kinds ∙ S.kinds;
  facings = T.facings ∙ S.facings;
  occupied = T.occupied ∙ S.occupied;
  planned = T.planned ∙ S.planned;
  before = T.before ∙ S.before;
  room = T.room ∙ S.room;
  blocked = T.blocked ∙ S.blocked;
  classes = T.classes ∙ S.classes;
  joinable = T.joinable ∙ S.joinable;
  known = T.known ∙ S.known;
  previous = T.previous ∙ S.previous;
  path = T.path ∙ S.path;
  best = T.best ∙ S.best;
  queue = T.queue ∙ S.queue;
}

-- from the first net on
pub record WalkedSoFar (mode : Mode) (list : List ℕ) (B₀ : ListLent) (stand : Stand) (B : ListLent) : Type 0 where
  pub walking : Walking mode list stand B
  pub same : SameSizes B₀ B

module _ {mode : Mode} {list : List ℕ} {B₀ : ListLent} {stand : Stand} {B : ListLent} (F : WalkedSoFar mode list B₀ stand B) where
  abbrev S : Walking mode list stand B
  S = F.walking

  pub walked_all : length list ≤ stand.place → Walked mode list B₀ (Ok stand) B
  unfolding route_from
  walked_all h =
      let none : sheets_in (drop stand.place list) ≡ [] = sheets_none (drop stand.place list) (rw (length-drop stand.place list) (omega arith)) in
      record {
        to = record {
          nets = S.nets;
          routing =
              (λ i. routed_list mode list (sym F.same.branches i) (sym F.same.queue i))
              ∙ sym S.left
              ∙ ap (route_from mode list (length B.queue) stand.net S.nets (length B.branches - stand.used)) none;
          count-is = S.count-is;
          branches-are = S.branches-are ∙ ap (λ n. cells_of S.nets ++ replicate (n - length (cells_of S.nets)) 0) F.same.branches;
          lengths-are = S.lengths-are ∙ ap (λ n. lengths_of S.nets ++ replicate (n - length (lengths_of S.nets)) 0) F.same.lengths;
          repeaters-are = S.repeaters-are;
          laid-are = S.laid-are;
        };
      }

  pub walked-refused : {refused : NetRefused} {B' : ListLent} → EndsWith mode list B refused.net refused.number refused.detail → Walked mode list B₀ (Err refused) B'
  walked-refused E = record { to = ((λ i. routed_list mode list (sym F.same.branches i) (sym F.same.queue i)) ∙ E.0, E.1) }

  module _ {r : Result Stand NetRefused} {B' : ListLent} (T : Stepped mode list stand B r B') where
    pub walked_step : (refused : NetRefused) → r ≡ Err refused → Walked mode list B₀ (Err refused) B'
    walked_step refused e = walked-refused (rw e at T.to)

    module _ (next : Stand) (e : r ≡ Ok next) where
      on-now : Walking mode list next B' × (stand.place < next.place)
      on-now = rw e at T.to

      pub further-on : (stand.place < next.place) × (next.place ≤ length list)
      further-on = (on-now.1, on-now.0.within)

      pub walked_on : SameSizes B B' → WalkedSoFar mode list B₀ next B'
      walked_on Q = record { walking = on-now.0; same = same-twice F.same Q }

pub walked-first : {mode : Mode} {list : List ℕ} {stand : Stand} {B : ListLent} → Walking mode list stand B → WalkedSoFar mode list B stand B
walked-first W = record { walking = W; same = record { branches = refl; lengths = refl; owners = refl; repeaters = refl; kinds = refl; facings = refl; occupied = refl; planned = refl; before = refl; room = refl; blocked = refl; classes = refl; joinable = refl; known = refl; previous = refl; path = refl; best = refl; queue = refl } }
