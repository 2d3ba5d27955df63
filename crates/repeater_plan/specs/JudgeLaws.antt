-- Laws of the judging: how its loops go, and what is known of branches that no number refuses.
use Rattle.std.specs.Prelude.{◌≡◌, Bool, eqb, leb, get_or, take, Option, min}
use Rattle.std.proofs.Math.Path.{refl, sym, ap}
use Rattle.std.proofs.Common.{◌∙◌, length-drop, drop_of_length-le, take_all, drop-drop, lt-ltb, le-ltb, le-leb}
use Rattle.std.proofs.Math.Bool.{true, false}
use mathlib.Core.List.{List, [], ◌∷◌, map}
use Prim.Native.Nat.{ℕ, ◌+◌, ◌-◌, ◌≤◌, ◌<◌}
use native.Mathlib.Omega.{arith}
use Rattle.std.proofs.Math.ListN.{length, drop}
use Rattle.std.proofs.lemmas.Bool.{lt-leb}
use Rattle.basics.specs.Tests.{ask_less}
use Rattle.basics.specs.Lists.{any, drop_next, in_at}
use Rattle.room.specs.declared.Room.{Room}
use Rattle.room.specs.declared.Move.{Move}
use Rattle.room.specs.Room.{sides_good, volume, moves, move_at, by, holds_at, neighbour}
use Rattle.room.specs.MoveLaws.{small}
use Rattle.job_sheet.specs.declared.Judgement.{Judgement}
use Rattle.job_sheet.specs.declared.Judgement.TheVariants as judgement
use Rattle.job_sheet.specs.Sheet.{max_sinks, is_good, first_fault, limit_fault, endpoint_fault, sink_fault}
use Rattle.job_sheet.proofs.FaultLaws.{fault_first, good-first, only-first, first_on}
use Rattle.ends.specs.Ends.{sinks_in}
use Rattle.branches.specs.Branches.{cut_into, sum}
use Rattle.repeater_plan.specs.Plan.{Net, branches_in, is_move, head_good, branch_good, branch_fault, judged}
use Rattle.repeater_plan.specs.Judging.{shorter, held}

-- ---- so many as are there

module _ (a b : ℕ) where
  pub shorter-min : min a b ≡ shorter a b
  unfolding shorter
  shorter-min = ask_less a b (λ h. rw (lt-ltb a b h) (omega arith)) (λ h. rw (le-ltb a b h) (omega arith))

  pub shorter-most : (shorter a b ≤ a) × (shorter a b ≤ b)
  unfolding shorter
  shorter-most = ask_less a b (λ h. rw (lt-ltb a b h) (omega arith, omega arith)) (λ h. rw (le-ltb a b h) (omega arith, omega arith))

module _ {X : Type 0} (n : ℕ) (l : List X) where
  pub shorter_take : take (shorter n (length l)) l ≡ take n l
  unfolding shorter
  shorter_take = ask_less n (length l) (λ h. rw (lt-ltb n (length l) h) refl) (λ h. rw (le-ltb n (length l) h) (take_all (length l) l (omega arith) ∙ sym (take_all n l h)))

  pub shorter_drop : drop (shorter n (length l)) l ≡ drop n l
  unfolding shorter
  shorter_drop = ask_less n (length l) (λ h. rw (lt-ltb n (length l) h) refl) (λ h. rw (le-ltb n (length l) h) (drop_of_length-le l {i = length l} (omega arith) ∙ sym (drop_of_length-le l h)))

  -- of sixteen places, those that a count takes are those in use
  pub held_take : length l ≡ max_sinks → {count : ℕ} → count ≡ held n → take count l ≡ take n l
  held_take e c = rw (c, ← e) shorter_take

-- ---- the twelve moves, one after another

module _ {X : Type 0} (p : X → Bool) (l : List X) (i : ℕ) (d : X) where
  any-passed : i < length l → p (get_or l i d) ≡ false → any p (drop (i + 1) l) ≡ any p (drop i l)
  any-passed h f = rw (drop_next l i d h, f) refl

  any_found : i < length l → p (get_or l i d) ≡ true → any p (drop i l) ≡ true
  any_found h t = rw (drop_next l i d h, t) refl

-- none of the first k moves leads there
pub record NoneLeads (R : Room) (a b k : ℕ) : Type 0 where
  pub same : any (λ m. holds_at (eqb b) (neighbour R a m)) (drop k moves) ≡ is_move R a b
  pub so_far : k ≤ 12

module _ (R : Room) (a b : ℕ) where
  pub none-leads : NoneLeads R a b 0
  unfolding is_move
  none-leads = record { same = refl; so_far = omega arith }

  module _ {k : ℕ} (I : NoneLeads R a b k) where
    pub leads_not : k < 12 → holds_at (eqb b) (neighbour R a (move_at k)) ≡ false → NoneLeads R a b (k + 1)
    unfolding moves
    leads_not h f = record { same = any-passed _ moves k (by 0 0 0) h f ∙ I.same; so_far = omega arith }

    pub leads-there : k < 12 → holds_at (eqb b) (neighbour R a (move_at k)) ≡ true → true ≡ is_move R a b
    unfolding moves
    leads-there h t = sym (any_found _ moves k (by 0 0 0) h t) ∙ I.same

    pub leads-nowhere : 12 ≤ k → false ≡ is_move R a b
    unfolding moves
    leads-nowhere h = let e : k ≡ 12 = omega (arith, I.so_far) in rw e at I.same

pub move-small : {k : ℕ} → k < 12 → {m : Move} → m ≡ move_at k → (m.x ≤ 2) × (m.y ≤ 2) × (m.z ≤ 2)
unfolding moves
move-small {k} h e = let s = small (move_at k) (in_at moves k (by 0 0 0) h) in rw e (s.x_small, s.y_small, s.z_small)

-- what is tested is where the k-th move leads
pub tested : (R : Room) (a b k : ℕ) {m : Move} {place : Option ℕ} {r : Bool} → m ≡ move_at k → place ≡ neighbour R a m → r ≡ holds_at (eqb b) place
    → r ≡ holds_at (eqb b) (neighbour R a (move_at k))
tested R a b k e f g = g ∙ ap (holds_at (eqb b)) (f ∙ ap (neighbour R a) e)

-- ---- a place of a branch

module _ (R : Room) (l : List ℕ) (i : ℕ) (h : i < length l) where
  pub place-outside : volume R ≤ get_or l i 0 → false ≡ head_good R (drop i l)
  place-outside o = rw (drop_next l i 0 h) (go (drop (i + 1) l))
    where
      go : (rest : List ℕ) → false ≡ head_good R (get_or l i 0 ∷ rest)
      go [] = sym (le-ltb (get_or l i 0) (volume R) o)
      go (b ∷ rest) = rw (le-ltb (get_or l i 0) (volume R) o) refl

  module _ (inside : get_or l i 0 < volume R) where
    pub place-last : length l ≤ i + 1 → true ≡ head_good R (drop i l)
    place-last e = rw (drop_next l i 0 h, drop_of_length-le l e) (sym (lt-ltb (get_or l i 0) (volume R) inside))

    pub place-step : i + 1 < length l → {a b : ℕ} → a ≡ get_or l i 0 → b ≡ get_or l (i + 1) 0 → {r : Bool} → r ≡ is_move R a b → r ≡ head_good R (drop i l)
    place-step e f g q = q ∙ rw (f, g, drop_next l i 0 h, drop_next l (i + 1) 0 e, lt-ltb (get_or l i 0) (volume R) inside) refl

-- ---- a branch, place by place

pub record PlacesGood (R : Room) (l : List ℕ) (i : ℕ) : Type 0 where
  pub same : branch_good R (drop i l) ≡ branch_good R l

module _ (R : Room) (l : List ℕ) where
  pub places-first : PlacesGood R l 0
  places-first = record { same = refl }

  module _ {i : ℕ} (I : PlacesGood R l i) where
    pub places-next : i < length l → head_good R (drop i l) ≡ true → PlacesGood R l (i + 1)
    unfolding branch_good
    places-next h t = record { same = sym one ∙ I.same }
      where
        here : head_good R (get_or l i 0 ∷ drop (i + 1) l) ≡ true
        here = rw (drop_next l i 0 h) at t

        one : branch_good R (drop i l) ≡ branch_good R (drop (i + 1) l)
        one = rw (drop_next l i 0 h, here) refl

    pub places-bad : i < length l → head_good R (drop i l) ≡ false → judgement.Position ≡ branch_fault R l
    unfolding branch_good
    places-bad h f =
        let here : head_good R (get_or l i 0 ∷ drop (i + 1) l) ≡ false = rw (drop_next l i 0 h) at f in
        let e : branch_good R l ≡ false = sym I.same ∙ rw (drop_next l i 0 h, here) refl in
        rw e refl

    pub places-all : length l ≤ i → judgement.Good ≡ branch_fault R l
    unfolding branch_good
    places-all h = let e : branch_good R l ≡ true = sym (rw (drop_of_length-le l h) at I.same) in rw e refl

-- ---- the first fault of a list of records

pub record Scanned {X : Type 0} (fault : X → Judgement) (l : List X) (found now : Judgement) (k : ℕ) : Type 0 where
  pub same : first_fault (now ∷ map fault (drop k l)) ≡ first_fault (found ∷ map fault l)

module _ {X : Type 0} (fault : X → Judgement) (l : List X) (found : Judgement) where
  pub scan_first : Scanned fault l found found 0
  scan_first = record { same = refl }

  module _ {now : Judgement} {k : ℕ} (I : Scanned fault l found now k) where
    pub scan_stop : is_good now ≡ false → now ≡ first_fault (found ∷ map fault l)
    scan_stop e = sym (fault_first now _ e) ∙ I.same

    pub scan_next : is_good now ≡ true → (d : X) → k < length l → (next : Judgement) → next ≡ fault (get_or l k d) → Scanned fault l found next (k + 1)
    scan_next g d h next n =
        record { same = rw n (ap first_fault (ap (map fault) (sym (drop_next l k d h))) ∙ sym (good-first now _ g) ∙ I.same) }

    pub scan_done : length l ≤ k → now ≡ first_fault (found ∷ map fault l)
    scan_done h = sym (only-first now) ∙ rw (drop_of_length-le l h) at I.same

-- ---- the branches, cut off one after another

pub record BranchesScanned (R : Room) (ns cells : List ℕ) (found now : Judgement) (from k : ℕ) : Type 0 where
  pub inside : from ≤ length cells
  pub same : first_fault (now ∷ map (branch_fault R) (cut_into (drop k ns) (drop from cells))) ≡ first_fault (found ∷ map (branch_fault R) (cut_into ns cells))

module _ (R : Room) (ns cells : List ℕ) (found : Judgement) where
  pub branches-first : BranchesScanned R ns cells found found 0 0
  branches-first = record { inside = omega arith; same = refl }

  module _ {now : Judgement} {from k : ℕ} (I : BranchesScanned R ns cells found now from k) where
    pub branches-stop : is_good now ≡ false → now ≡ first_fault (found ∷ map (branch_fault R) (cut_into ns cells))
    branches-stop e = sym (fault_first now _ e) ∙ I.same

    pub branches-done : length ns ≤ k → now ≡ first_fault (found ∷ map (branch_fault R) (cut_into ns cells))
    unfolding cut_into
    branches-done h = sym (only-first now) ∙ rw (drop_of_length-le ns h) at I.same

    module _ (h : k < length ns) (to : ℕ) (end : to ≡ from + min (get_or ns k 0) (length cells - from)) where
      e : to ≡ from + shorter (get_or ns k 0) (length cells - from)
      e = end ∙ ap (λ m. from + m) (shorter-min (get_or ns k 0) (length cells - from))

      pub branch-ends : to ≤ length cells
      branch-ends = omega (arith, e, I.inside, (shorter-most (get_or ns k 0) (length cells - from)).1)

      pub branches-next : is_good now ≡ true → (next : Judgement) → next ≡ branch_fault R (take (to - from) (drop from cells)) → BranchesScanned R ns cells found next to (k + 1)
      unfolding cut_into
      branches-next g next n = record {
        inside = branch-ends;
        same = rw (n, front) (ap first_fault (ap (map (branch_fault R)) (sym cut)) ∙ sym (good-first now _ g) ∙ I.same);
      }
        where
          m : ℕ
          m = shorter (get_or ns k 0) (length (drop from cells))

          size : m ≡ to - from
          size = let q = length-drop from cells in omega (arith, e, ap (shorter (get_or ns k 0)) q)

          front : take (to - from) (drop from cells) ≡ take (get_or ns k 0) (drop from cells)
          front = rw (← size) (shorter_take (get_or ns k 0) (drop from cells))

          behind : drop to cells ≡ drop (get_or ns k 0) (drop from cells)
          behind = let s : from + m ≡ to = omega (arith, size, e) in sym (rw s at (drop-drop m from cells)) ∙ shorter_drop (get_or ns k 0) (drop from cells)

          cut : cut_into (drop k ns) (drop from cells) ≡ take (get_or ns k 0) (drop from cells) ∷ cut_into (drop (k + 1) ns) (drop to cells)
          cut = rw (drop_next ns k 0 h, behind) refl

-- ---- all of it

module _ (N : Net) where
  pub judged-sides : sides_good N.room ≡ false → judgement.Sides ≡ judged N
  unfolding judged
  judged-sides f = sym (rw f (fault_first judgement.Sides _ refl))

  module _ (t : sides_good N.room ≡ true) {v : Judgement} (e : v ≡ limit_fault N.run) where
    pub judged-limit : is_good v ≡ false → v ≡ judged N
    unfolding judged
    judged-limit f = sym (rw (t, ← e) (good-first judgement.Good _ refl ∙ fault_first v _ f))

    pub judged-rest : is_good v ≡ true → {v₁ v₂ v₃ : Judgement} → v₁ ≡ endpoint_fault N.room N.source
        → v₂ ≡ first_fault (v₁ ∷ map (sink_fault N.room) (sinks_in N.sinks)) → v₃ ≡ first_fault (v₂ ∷ map (branch_fault N.room) (branches_in N)) → v₃ ≡ judged N
    unfolding judged
    judged-rest g {v₁} a b c =
        c ∙ ap (λ x. first_fault (x ∷ map (branch_fault N.room) (branches_in N))) b
        ∙ sym (first_on (v₁ ∷ map (sink_fault N.room) (sinks_in N.sinks)) (map (branch_fault N.room) (branches_in N)))
        ∙ sym (rw (t, ← e, ← a) (good-first judgement.Good _ refl ∙ good-first v _ g))

-- ---- the lengths, taken away one by one

leb_less : (n s left : ℕ) → n ≤ left → leb s (left - n) ≡ leb (n + s) left
leb_less n s left h = ask_less left (n + s) (λ q. lt-leb s (left - n) (omega arith) ∙ sym (lt-leb (n + s) left q)) (λ q. le-leb s (left - n) (omega arith) ∙ sym (le-leb (n + s) left q))

pub record TakenAway (ns : List ℕ) (cells left k : ℕ) : Type 0 where
  pub same : leb (sum (drop k ns)) left ≡ leb (sum ns) cells

module _ (ns : List ℕ) (cells : ℕ) where
  pub away-first : TakenAway ns cells cells 0
  away-first = record { same = refl }

  module _ {left k : ℕ} (I : TakenAway ns cells left k) where
    pub away-next : k < length ns → get_or ns k 0 ≤ left → TakenAway ns cells (left - get_or ns k 0) (k + 1)
    unfolding sum
    away-next h q = record { same = leb_less (get_or ns k 0) (sum (drop (k + 1) ns)) left q ∙ (rw (drop_next ns k 0 h) at I.same) }

    pub away-over : k < length ns → left < get_or ns k 0 → false ≡ leb (sum ns) cells
    unfolding sum
    away-over h q = sym (lt-leb (get_or ns k 0 + sum (drop (k + 1) ns)) left (omega arith)) ∙ (rw (drop_next ns k 0 h) at I.same)

    pub away-all : length ns ≤ k → true ≡ leb (sum ns) cells
    unfolding sum
    away-all h = sym (le-leb 0 left (omega arith)) ∙ (rw (drop_of_length-le ns h) at I.same)
