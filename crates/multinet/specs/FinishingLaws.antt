-- Laws of finishing: the branches read back from the buffer.
use Rattle.std.specs.Prelude.{◌≡◌, refl, List, [], ◌∷◌, ◌++◌, map, ℕ, suc, ◌≤◌, ◌<◌, eqb, length, get_or, take, drop}
use Rattle.std.proofs.Common.{sym, ap, ◌∙◌, arith, take-append-drop, get_or-take, ext_get_or}
use Rattle.std.proofs.lemmas.List.{length-map}
use Rattle.std.proofs.Math.ListN.{get_or-map}
use Rattle.basics.specs.Lists.{joined}
use Rattle.basics.specs.Zeros.{zeros-long}
use Rattle.room.specs.declared.Room.{Room}
use Rattle.room.specs.Room.{volume}
use Rattle.routing_resources.specs.Marks.{marked_by, AllCells, CellsBelow}
use Rattle.ends.specs.declared.Taps.{Taps}
use Rattle.geometry.specs.Geometry.{stands_in}
use Rattle.branches.specs.declared.BranchLengths.{BranchLengths}
use Rattle.branches.specs.Branches.{lengths_in, cut_into, branches_of}
use Rattle.branches.specs.BranchLaws.{below_append, lengths-count, lengths-sum, cut-joined}
use Rattle.repeaters.specs.NetEnds.{net_repeaters}
use Rattle.repeaters.specs.Masks.{Steps, AllSteps}
use Rattle.repeaters.specs.Sinks.{Placeable}
use Rattle.multinet.specs.Finishing.{BufferHolds, Finishable, Finished}
use Rattle.multinet.specs.Adding.{used_by}

-- ---- the branches

all-steps : (R : Room) (bs : List (List ℕ)) → ((i : ℕ) → i < length bs → Steps R (get_or bs i [])) → AllSteps R bs
all-steps R [] f = tt {0}
all-steps R (b ∷ bs) f = (f 0 (omega arith), all-steps R bs (λ i h. f (suc i) (omega arith)))

all-below : (R : Room) (bs : List (List ℕ)) → ((i : ℕ) → i < length bs → AllCells R (get_or bs i [])) → CellsBelow (volume R) (joined bs)
all-below R [] f = record { below = λ i h. absurd (omega arith) }
all-below R (b ∷ bs) f = below_append (f 0 (omega arith)) (all-below R bs (λ i h. f (suc i) (omega arith)))

module _ {L : BranchLengths} {branches : List ℕ} {bs : List (List ℕ)} (H : BufferHolds L branches bs) where
  lengths-list : lengths_in L ≡ map length bs
  lengths-list =
      let n = lengths-count L (omega (arith, H.count-is, H.lengths-are.all)) in
      let m = length-map bs length in
      ext_get_or 0 (lengths_in L) (map length bs) (n ∙ sym H.count-is ∙ sym m)
      (λ i h. get_or-take L.count L.each i 0 (omega (arith, n)) ∙ H.lengths-are.each-is i (omega (arith, n, H.count-is)) ∙ sym (get_or-map length bs i []))

  branches-back : branches_of L branches ≡ bs
  branches-back =
      let whole : branches ≡ joined bs ++ drop (length (joined bs)) branches = sym (take-append-drop (length (joined bs)) branches) ∙ ap (λ l. l ++ drop (length (joined bs)) branches) H.in_order.in_order in
      rw (lengths-list) (ap (cut_into (map length bs)) whole ∙ cut-joined bs (drop (length (joined bs)) branches))

  used-part : take (used_by L) branches ≡ joined bs
  used-part = rw (lengths-sum bs L H.lengths-are H.count-is) H.in_order.in_order

-- ---- the finished tree

module _ {R : Room} {source : ℕ} {taps : Taps} {L : BranchLengths} {branches occupied repeaters forbidden links parents line : List ℕ}
    (F : Finishable R source taps L branches occupied repeaters forbidden links parents line) where
  pub source-marked : source < length occupied
  source-marked = rw (zeros-long {n = volume R} F.occupied-clear) F.net.source_in

  pub used-fits : {used : ℕ} → used ≡ used_by L → used ≤ length branches
  used-fits u = omega (arith, u, lengths-sum F.bs L F.holds.lengths-are F.holds.count-is, F.holds.in_order.within)

  pub cells-occupied : {used n : ℕ} → used ≡ used_by L → n ≡ length occupied → CellsBelow n (take used branches)
  cells-occupied u e =
      rw (u, used-part F.holds, e, zeros-long {n = volume R} F.occupied-clear) (all-below R F.bs (λ i h. F.cells_in i (omega (arith, F.holds.count-is))))

  pub placeable : Placeable R source taps L branches repeaters forbidden links parents line
  placeable = record {
    good = F.good;
    net = F.net;
    laid = record {
      branched = record { whole = F.lengths_short.whole; few = F.few; within = used-fits refl };
      steps = rw (branches-back F.holds) (all-steps R F.bs (λ i h. F.steps i (omega (arith, F.holds.count-is))));
    };
    repeaters-clear = F.repeaters-clear;
    forbidden-clear = F.forbidden-clear;
    links-long = F.links-long;
    parents-long = F.parents-long;
    line-long = F.line-long;
  }

  pub finished : {run used : ℕ} {occupied' occupied'' repeaters' : List ℕ} → used ≡ used_by L
      → occupied' ≡ marked_by (eqb source) occupied
      → occupied'' ≡ marked_by (stands_in (take used branches)) occupied'
      → repeaters' ≡ net_repeaters R run source taps (branches_of L branches)
      → Finished R run source taps L branches occupied'' repeaters'
  finished u a b r = record {
    occupied-are = λ bs H. b ∙ rw (u, used-part H, a, F.occupied-clear) refl;
    repeaters-are = λ bs H. r ∙ rw (branches-back H) refl;
  }
