-- The walk along a list, net by net: what is kept of the nets so far, and that one net more keeps it. The nets left, routed behind those so far, come to what the
-- whole list comes to.
use Rattle.std.specs.Prelude.{◌≡◌, refl, Bool, true, false, not, ◌&&◌, ◌||◌, List, [], ◌∷◌, ◌++◌, ℕ, ◌+◌, ◌-◌, ◌<◌, length}
use Rattle.std.proofs.Math.Path.{sym, ap}
use Rattle.std.proofs.Common.{◌∙◌, append_assoc, append-nil}
use Rattle.std.proofs.lemmas.List.{length-replicate, get_or-replicate}
use Rattle.basics.specs.Lists.{any, joined}
use Rattle.room.specs.declared.Room.{Room}
use Rattle.room.specs.Room.{volume}
use Rattle.ground.specs.declared.Mode.{Mode}
use Rattle.routing_resources.specs.Marks.{marked_by, is_marked, no_marks}
use Rattle.routing_resources.specs.MarkLaws.{with_or, with_same, marked-after}
use Rattle.branches.specs.Branches.{branch_lengths}
use Rattle.outset.specs.Outset.{blocked_by, own_cell}
use Rattle.net_tree.specs.Answers.{routed, no_tree, job_outcome}
use Rattle.job_list.specs.Split.{sheets_of}
use Rattle.job_list.specs.Judged.{contents_at}
use Rattle.other_nets.specs.Others.{net_clear, ends_at, protected_from, blocked_in_list}
use Rattle.laying.specs.Laying.{Net}
use Rattle.nets.specs.Nets.{net_at, taken_by, refused-by, route_from, net_outcome, blocked_at, lent_for, kinds_at, nodes_at, outset_at}

-- ---- the answer of the nets kept so far, one behind the other in list order

-- the cells of all branches
unfoldable pub cells_of : List Net → List ℕ
cells_of [] = []
cells_of (N ∷ nets) = joined N.branches ++ cells_of nets

-- sixteen lengths a net
unfoldable pub lengths_of : List Net → List ℕ
lengths_of [] = []
lengths_of (N ∷ nets) = (branch_lengths N.branches).each ++ lengths_of nets

-- the planned repeaters of all nets
unfoldable pub planned_by : List Net → ℕ → Bool
planned_by nets v = any (λ N. is_marked N.repeaters v) nets

any_snoc : {X : Type 0} (p : X → Bool) (xs : List X) (x : X) → any p (xs ++ (x ∷ [])) ≡ any p xs || p x
any_snoc p [] x = or_false (p x)
  where
    or_false : (b : Bool) → b || false ≡ b
    or_false true = refl
    or_false false = refl
any_snoc p (y ∷ ys) x = rw (any_snoc p ys x) (assoc (p y) (any p ys) (p x))
  where
    assoc : (a b c : Bool) → a || (b || c) ≡ (a || b) || c
    assoc true b c = refl
    assoc false b c = refl

pub cells-more : (nets : List Net) (N : Net) → cells_of (nets ++ (N ∷ [])) ≡ cells_of nets ++ joined N.branches
unfolding cells_of
cells-more [] N = append-nil (joined N.branches)
cells-more (M ∷ nets) N = ap (λ l. joined M.branches ++ l) (cells-more nets N) ∙ sym (append_assoc (joined M.branches) (cells_of nets) (joined N.branches))

pub lengths-more : (nets : List Net) (N : Net) → lengths_of (nets ++ (N ∷ [])) ≡ lengths_of nets ++ (branch_lengths N.branches).each
unfolding lengths_of
lengths-more [] N = append-nil (branch_lengths N.branches).each
lengths-more (M ∷ nets) N = ap (λ l. (branch_lengths M.branches).each ++ l) (lengths-more nets N) ∙ sym (append_assoc (branch_lengths M.branches).each (lengths_of nets) (branch_lengths N.branches).each)

-- ---- marks of the nets so far

module _ (R : Room) (nets : List Net) (N : Net) (n : ℕ) where
  -- what is taken by one net more
  pub taken_more : {before before' : List ℕ} → before ≡ marked_by (taken_by R nets) (no_marks n) → before' ≡ marked_by (net_clear R N.source N.branches) before
      → before' ≡ marked_by (taken_by R (nets ++ (N ∷ []))) (no_marks n)
  unfolding taken_by
  taken_more e f =
      f
      ∙ ap (marked_by (net_clear R N.source N.branches)) e
      ∙ with_or 1 (λ v. any (λ M. net_clear R M.source M.branches v) nets) (net_clear R N.source N.branches) (no_marks n)
      ∙ with_same 1 _ _ (no_marks n) (λ v h. sym (any_snoc (λ M. net_clear R M.source M.branches v) nets N))

  pub planned-more : {repeaters repeaters' : List ℕ} → repeaters ≡ marked_by (planned_by nets) (no_marks n) → repeaters' ≡ marked_by (is_marked N.repeaters) repeaters
      → repeaters' ≡ marked_by (planned_by (nets ++ (N ∷ []))) (no_marks n)
  unfolding planned_by
  planned-more e f =
      f
      ∙ ap (marked_by (is_marked N.repeaters)) e
      ∙ with_or 1 (λ v. any (λ M. is_marked M.repeaters v) nets) (is_marked N.repeaters) (no_marks n)
      ∙ with_same 1 _ _ (no_marks n) (λ v h. sym (any_snoc (λ M. is_marked M.repeaters v) nets N))

-- the marks of the nets before are what the definition has of them, in the room
pub before-is : (R : Room) (nets : List Net) (n : ℕ) {before : List ℕ} → before ≡ marked_by (taken_by R nets) (no_marks n) → (v : ℕ) → v < n → is_marked before v ≡ taken_by R nets v
before-is R nets n e v h =
    ap (λ l. is_marked l v) e
    ∙ marked-after (taken_by R nets) (no_marks n) v (rw (length-replicate {A = ℕ} n 0) h)
    ∙ rw (get_or-replicate {A = ℕ} n v 0 0 h) (or_false (taken_by R nets v))
  where
    or_false : (b : Bool) → b || false ≡ b
    or_false true = refl
    or_false false = refl

-- ---- one step

-- the nets left, behind those so far
pub step-routed : (mode : Mode) (list : List ℕ) (queue k : ℕ) (nets : List Net) (left : ℕ) (sheet : List ℕ) (sheets : List (List ℕ)) {bs : List (List ℕ)} {occupied repeaters : List ℕ}
    → net_outcome mode list queue k (taken_by (contents_at sheet).room nets) left sheet ≡ routed bs occupied repeaters
    → route_from mode list queue k nets left (sheet ∷ sheets)
    ≡ route_from mode list queue (k + 1) (nets ++ (net_at sheet bs occupied repeaters ∷ [])) (left - length (joined bs)) sheets
unfolding route_from
step-routed mode list queue k nets left sheet sheets e = rw e

pub step-refused : (mode : Mode) (list : List ℕ) (queue k : ℕ) (nets : List Net) (left : ℕ) (sheet : List ℕ) (sheets : List (List ℕ)) {number detail : ℕ}
    → net_outcome mode list queue k (taken_by (contents_at sheet).room nets) left sheet ≡ no_tree number detail
    → route_from mode list queue k nets left (sheet ∷ sheets) ≡ refused-by k number detail
unfolding route_from
step-refused mode list queue k nets left sheet sheets e = rw e

-- what a net comes to hangs on the room's cells alone of what the nets before take
pub blocked-by-marks : (list : List ℕ) (k : ℕ) (sheet : List ℕ) (p q : ℕ → Bool) → ((v : ℕ) → v < volume (contents_at sheet).room → p v ≡ q v) → blocked_at list k p sheet ≡ blocked_at list k q sheet
unfolding blocked_in_list
blocked-by-marks list k sheet p q same =
    let J = contents_at sheet in
    let n = volume J.room in
    with_same 1 _ _ (no_marks n)
    (λ v h. ap (λ b. (blocked_by (kinds_at sheet) (nodes_at sheet) J v || (b || protected_from J.room k 0 (sheets_of list) v)) && not (own_cell J.room (ends_at sheet).source (ends_at sheet).taps v))
    (same v (rw (length-replicate {A = ℕ} n 0) at h)))

pub outcome-by-marks : (mode : Mode) (list : List ℕ) (queue k left : ℕ) (sheet : List ℕ) (p q : ℕ → Bool)
    → ((v : ℕ) → v < volume (contents_at sheet).room → p v ≡ q v) → net_outcome mode list queue k p left sheet ≡ net_outcome mode list queue k q left sheet
unfolding net_outcome
outcome-by-marks mode list queue k left sheet p q same =
    ap (λ b. job_outcome mode (contents_at sheet) (lent_for (contents_at sheet).room left queue) (outset_at sheet) (kinds_at sheet) b) (blocked-by-marks list k sheet p q same)
