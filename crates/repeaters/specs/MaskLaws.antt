-- Laws of the masks: their bits, and that linking cells adds to the relation that they hold.
use Rattle.std.specs.Prelude.{◌≡◌, refl, Bool, true, false, ◌&&◌, ◌||◌, List, ℕ, zero, suc, ◌+◌, ◌-◌, ◌/◌, ◌%◌, ◌^◌, ◌≤◌, ◌<◌, ltb, get_or, set, replicate, Option, Some, None}
use Rattle.std.proofs.Math.Path.{sym}
use Rattle.std.proofs.Common.{ap, ◌∙◌, suc-le-suc, le_of_suc-le-suc, not-suc-le-zero, pow-suc, div-one, arith, length-set, get_or-set_same, get_or-set_other, eq-eqb, ne_eqb, eqb-true, ltb-true}
use Rattle.std.proofs.Math.Bool.{or_assoc, or_comm}
use Rattle.std.proofs.Math.Nat.{pow-zero, pow-succ', div-div-eq-div-mul}
use Rattle.std.proofs.Math.Arith.{digits_div, digits_mod}
use Rattle.std.proofs.Math.Dec.{eqb, eqb-suc-suc, eqb-zero-suc, eqb-suc-zero}
use Rattle.std.proofs.lemmas.List.{length-replicate, get_or-replicate}
use Rattle.std.proofs.lemmas.Bool.{eqb-false}
use Rattle.basics.specs.Tests.{ask, ask_same, never}
use Rattle.basics.specs.Lists.{In, every_in, in_at, all_below, below_all}
use Rattle.basics.specs.Counts.{bit, bit-small}
use Rattle.room.specs.declared.Room.{Room}
use Rattle.room.specs.declared.Pos.{Pos}
use Rattle.room.specs.declared.Move.{Move}
use Rattle.room.specs.Room.{max_side, Good, volume, pos_of, by, moves, move_at, holds_at, neighbour, Step, move_between}
use Rattle.room.specs.RoomLaws.{small_pos}
use Rattle.room.specs.MoveLaws.{Moved, leads, small, symmetric, opposite, opposite_in, same_move, same_move_lem, between_is}
use Rattle.repeaters.specs.Repeaters.{is_step}
use Rattle.repeaters.specs.Links.{number_order, ordered_moves, ordered_move}
use Rattle.repeaters.specs.Masks.{mask_of, is_link, Masks, Masked, with_link, NowLinked, move_index, step_index}

-- ---- bits

module _ (n : ℕ) (f : ℕ → Bool) where
  pub mask_low : mask_of (suc n) f % 2 ≡ bit (f zero)
  unfolding mask_of
  mask_low = digits_mod (mask_of n (λ k. f (suc k))) (suc-le-suc (bit-small (f zero)))

  pub mask_rest : mask_of (suc n) f / 2 ≡ mask_of n (λ k. f (suc k))
  unfolding mask_of
  mask_rest = digits_div (mask_of n (λ k. f (suc k))) (suc-le-suc (bit-small (f zero)))

mask_small : (n : ℕ) (f : ℕ → Bool) → mask_of n f < 2 ^ n
unfolding mask_of
mask_small zero f = rw pow-zero (omega arith)
mask_small (suc n) f = rw pow-suc (omega (arith, mask_small n (λ k. f (suc k)), bit-small (f zero)))

mask_same : (n : ℕ) (f g : ℕ → Bool) → ((k : ℕ) → k < n → f k ≡ g k) → mask_of n f ≡ mask_of n g
unfolding mask_of
mask_same zero f g s = refl
mask_same (suc n) f g s = rw (s zero (omega arith), mask_same n (λ k. f (suc k)) (λ k. g (suc k)) (λ k h. s (suc k) (omega arith)))

mask_none : (n : ℕ) → mask_of n (λ k. false) ≡ 0
unfolding mask_of
mask_none zero = refl
mask_none (suc n) = rw (mask_none n)

mask_bit : (n : ℕ) (f : ℕ → Bool) (k : ℕ) → k < n → mask_of n f / 2 ^ k % 2 ≡ bit (f k)
mask_bit zero f k h = absurd (not-suc-le-zero h)
mask_bit (suc n) f zero h = rw (pow-zero, div-one) (mask_low n f)
mask_bit (suc n) f (suc k) h =
    rw (pow-succ' 2 k, ← div-div-eq-div-mul (mask_of (suc n) f) 2 (2 ^ k), mask_rest n f) (mask_bit n (λ j. f (suc j)) k (le_of_suc-le-suc h))

-- a bit that is not set is set by adding it
mask_add : (n : ℕ) (f : ℕ → Bool) (k : ℕ) → k < n → f k ≡ false → mask_of n f + 2 ^ k ≡ mask_of n (λ j. eqb k j || f j)
unfolding mask_of
mask_add zero f k h e = absurd (not-suc-le-zero h)
mask_add (suc n) f zero h e =
    rw (pow-zero, e, mask_same n (λ j. eqb zero (suc j) || f (suc j)) (λ j. f (suc j)) (λ j q. rw (eqb-zero-suc j))) (omega arith)
mask_add (suc n) f (suc k) h e =
    let i = mask_add n (λ j. f (suc j)) k (le_of_suc-le-suc h) e in
    let s = mask_same n (λ j. eqb (suc k) (suc j) || f (suc j)) (λ j. eqb k j || f (suc j)) (λ j q. rw (eqb-suc-suc k j)) in
    rw (pow-suc 2 k, s, eqb-suc-zero k, ← i) (omega arith)

-- ---- the number of a move

-- the moves in number order are the room's
pub order_in : (k : ℕ) → k < 12 → get_or number_order k 0 < 12
unfolding all_below
order_in k h = ltb-true (get_or number_order k 0) 12 (below_all (λ j. ltb (get_or number_order j 0) 12) 12 refl k h)

pub order_is : (k : ℕ) → k < 12 → move_at (get_or number_order k 0) ≡ ordered_move k
unfolding all_below ordered_moves moves
order_is k h = same_move_lem _ _ (below_all (λ j. same_move (move_at (get_or number_order j 0)) (ordered_move j)) 12 refl k h)

pub ordered_in : (k : ℕ) → k < 12 → In (ordered_move k) moves
unfolding moves
ordered_in k h = rw (← order_is k h) (in_at moves (get_or number_order k 0) (by 0 0 0) (order_in k h))

-- each move has its number
index_in : (m : Move) → In m moves → move_index m < 12
unfolding moves move_index
index_in m i = ltb-true _ 12 (every_in (λ k. ltb (move_index k) 12) moves refl m i)

ordered-index : (m : Move) → In m moves → ordered_move (move_index m) ≡ m
unfolding moves ordered_moves move_index
ordered-index m i = same_move_lem _ m (every_in (λ k. same_move (ordered_move (move_index k)) k) moves refl m i)

-- and no two have one
index-ordered : (k : ℕ) → k < 12 → move_index (ordered_move k) ≡ k
unfolding all_below ordered_moves move_index moves
index-ordered k h = eqb-true _ k (below_all (λ j. eqb (move_index (ordered_move j)) j) 12 refl k h)

pub record StepParts (p q : Pos) : Type 0 where
  pub x_back : p.x ≤ q.x + 1
  pub y_back : p.y ≤ q.y + 1
  pub z_back : p.z ≤ q.z + 1
  pub y_small : q.y + 1 - p.y ≤ 2
  pub z_small : q.z + 1 - p.z ≤ 2
  pub x_few : q.x < max_side
  pub y_few : q.y < max_side
  pub z_few : q.z < max_side

module _ {R : Room} {a b : ℕ} (s : Step R a b) where
  step-to : b < volume R
  step-to = (leads R a s.move b s.leads).inside

  step-moved : Moved (pos_of R a) s.move (pos_of R b)
  step-moved = (leads R a s.move b s.leads).moved

  step_move : move_between (pos_of R a) (pos_of R b) ≡ s.move
  step_move = between_is (pos_of R a) (pos_of R b) s.move step-moved

  -- what the code computes on the way
  pub step-parts : Good R → (p q : Pos) → p ≡ pos_of R a → q ≡ pos_of R b → StepParts p q
  step-parts G p q e f =
      let v : Moved p s.move q = rw (e, f) step-moved in
      let l = small s.move s.listed in
      let w = small_pos R G b step-to q f in
      record {
        x_back = omega (arith, v.x_by, l.x_small);
        y_back = omega (arith, v.y_by, l.y_small);
        z_back = omega (arith, v.z_by, l.z_small);
        y_small = omega (arith, v.y_by, l.y_small);
        z_small = omega (arith, v.z_by, l.z_small);
        x_few = w.x_small;
        y_few = w.y_small;
        z_few = w.z_small;
      }

  pub step_in : step_index R a b < 12
  step_in = rw step_move (index_in s.move s.listed)

  pub step-ordered : neighbour R a (ordered_move (step_index R a b)) ≡ Some b
  step-ordered = rw (step_move, ordered-index s.move s.listed) s.leads

  pub step_back : Good R → Step R b a
  step_back G = record {
    from_in = step-to;
    move = opposite s.move;
    listed = opposite_in s.move s.listed;
    leads = symmetric R G a s.move b s.from_in s.listed s.leads;
  }

-- the k-th move leads from a to b only where k is the step's number
only_step : (R : Room) (a b k : ℕ) → k < 12 → neighbour R a (ordered_move k) ≡ Some b → step_index R a b ≡ k
only_step R a b k h e = rw (between_is (pos_of R a) (pos_of R b) (ordered_move k) (leads R a (ordered_move k) b e).moved) (index-ordered k h)

-- ---- the relation that the masks hold

pub masks-same : {R : Room} {p q : ℕ → ℕ → Bool} {links : List ℕ} → ((u v : ℕ) → p u v ≡ q u v) → Masks R p links → Masks R q links
masks-same {R} {p} {q} s M = record {
  long = M.long;
  bits = λ u h. M.bits u h ∙ mask_same 12 (is_link R p u) (is_link R q u) (λ k l. one u (neighbour R u (ordered_move k)));
}
  where
    one : (u : ℕ) (place : Option ℕ) → holds_at (p u) place ≡ holds_at (q u) place
    one u (Some v) = s u v
    one u None = refl

pub masks-none : (R : Room) → Masks R (λ u v. false) (replicate (volume R) 0)
masks-none R = record {
  long = length-replicate {A = ℕ} (volume R) 0;
  bits = λ u h.
      get_or-replicate {A = ℕ} (volume R) u 0 0 h
      ∙ sym (mask_same 12 (is_link R (λ a b. false) u) (λ k. false) (λ k l. one (neighbour R u (ordered_move k))) ∙ mask_none 12);
}
  where
    one : (place : Option ℕ) → holds_at (λ b. false) place ≡ false
    one (Some v) = refl
    one None = refl

module _ {R : Room} {a b : ℕ} (s : Step R a b) (p : ℕ → ℕ → Bool) where
  abbrev index : ℕ
  index = step_index R a b

  at-index : is_link R p a index ≡ p a b
  at-index = rw (step-ordered s)

  -- at the cell itself, the one bit is added
  more-bits : (k : ℕ) → k < 12 → (eqb index k || is_link R p a k) ≡ is_link R (with_link a b p) a k
  more-bits k h =
      ask (eqb index k) (λ t. yes_step t) (λ f. no_step f (neighbour R a (ordered_move k)) refl)
    where
      yes_step : eqb index k ≡ true → (eqb index k || is_link R p a k) ≡ is_link R (with_link a b p) a k
      yes_step t = let e : index ≡ k = eqb-true index k t in rw (t, ← e, step-ordered s, eq-eqb a a refl, eq-eqb b b refl)

      no_step : eqb index k ≡ false → (place : Option ℕ) → neighbour R a (ordered_move k) ≡ place
          → (eqb index k || is_link R p a k) ≡ is_link R (with_link a b p) a k
      no_step f (Some v) e =
          let n : eqb b v ≡ false = ne_eqb b v (λ q. eqb-false index k f (only_step R a b k h (rw q e))) in
          rw (f, e, eq-eqb a a refl, n)
      no_step f None e = rw (f, e)

  -- at any other, nothing changes
  same_bits : (u k : ℕ) → (a ≡ u → ⊥) → is_link R p u k ≡ is_link R (with_link a b p) u k
  same_bits u k n = one (neighbour R u (ordered_move k))
    where
      one : (place : Option ℕ) → holds_at (p u) place ≡ holds_at (with_link a b p u) place
      one (Some v) = rw (ne_eqb a u n)
      one None = refl

  module _ {links : List ℕ} (M : Masks R p links) where
    link-bit : get_or links a 0 / 2 ^ index % 2 ≡ bit (p a b)
    link-bit = rw (M.bits a s.from_in) (mask_bit 12 (is_link R p a) index (step_in s)) ∙ ap bit at-index

    whole : mask_of 12 (λ k. eqb index k || is_link R p a k) ≡ mask_of 12 (is_link R (with_link a b p) a)
    whole = mask_same 12 (λ k. eqb index k || is_link R p a k) (is_link R (with_link a b p) a) more-bits

    -- the bit was set: the relation held already
    link-kept : p a b ≡ true → Masks R (with_link a b p) links
    link-kept t = masks-same both M
      where
        both : (u v : ℕ) → p u v ≡ with_link a b p u v
        both u v =
            ask (eqb a u)
            (λ e. ask (eqb b v)
            (λ f. let q : a ≡ u = eqb-true a u e in let r : b ≡ v = eqb-true b v f in rw (e, f, ← q, ← r) t)
            (λ f. rw (e, f)))
            (λ e. rw e)

    module _ (f : p a b ≡ false) where
      new_mask : get_or links a 0 + 2 ^ index ≡ mask_of 12 (is_link R (with_link a b p) a)
      new_mask =
          ap (λ (m : ℕ). m + 2 ^ index) (M.bits a s.from_in)
          ∙ mask_add 12 (is_link R p a) index (step_in s) (at-index ∙ f)
          ∙ whole

      link-small : get_or links a 0 + 2 ^ index < 2 ^ 12
      link-small = rw new_mask (mask_small 12 (is_link R (with_link a b p) a))

      link-added : Masks R (with_link a b p) (set links a (get_or links a 0 + 2 ^ index))
      link-added = record {
        long = length-set links a (get_or links a 0 + 2 ^ index) ∙ M.long;
        bits = λ u h.
            ask_same a u
            (λ e. rw (← e) (get_or-set_same links a (get_or links a 0 + 2 ^ index) 0 (rw M.long s.from_in) ∙ new_mask))
            (λ d. get_or-set_other links a u (get_or links a 0 + 2 ^ index) 0 (λ q. d (sym q))
            ∙ M.bits u h ∙ mask_same 12 (is_link R p u) (is_link R (with_link a b p) u) (λ k l. same_bits u k d));
      }

-- ---- cells are linked one after the other

pub masked_none : {R : Room} {links : List ℕ} → links ≡ replicate (volume R) 0 → Masked R links
masked_none {R} e = record { relation = λ u v. false; masks = rw e (masks-none R) }

module _ {R : Room} where
  pub masked_linked : {more : ℕ → ℕ → Bool} {links links' : List ℕ} → Masked R links → NowLinked R more links links' → Masked R links'
  masked_linked {more} M J = record { relation = λ u v. more u v || M.relation u v; masks = J.goes M.relation M.masks }

  module _ {a b : ℕ} (s : Step R a b) {links : List ℕ} (value : ℕ) (e : value ≡ 2 ^ step_index R a b) where
    test-set : (p : ℕ → ℕ → Bool) → Masks R p links → get_or links a 0 / value % 2 ≡ bit (p a b)
    test-set p M = rw e (link-bit s p M)

    pub linked-kept : (get_or links a 0 / value % 2 ≡ 0 → ⊥) → NowLinked R (λ u v. eqb a u && eqb b v) links links
    linked-kept n = record { goes = λ p M. link-kept s p M (ask (p a b) (λ t. t) (λ f. absurd (n (test-set p M ∙ ap bit f)))) }

    module _ (z : get_or links a 0 / value % 2 ≡ 0) where
      not_yet : (p : ℕ → ℕ → Bool) → Masks R p links → p a b ≡ false
      not_yet p M = ask (p a b) (λ t. never (sym z ∙ test-set p M ∙ ap bit t)) (λ f. f)

      pub linked-now : NowLinked R (λ u v. eqb a u && eqb b v) links (set links a (get_or links a 0 + value))
      linked-now = record { goes = λ p M. rw e (link-added s p M (not_yet p M)) }

      pub value_fits : Masked R links → get_or links a 0 + value < 2 ^ 12
      value_fits M = rw e (link-small s M.relation M.masks (not_yet M.relation M.masks))

  -- both ways round
  pub linked-both : (a b : ℕ) {links links' links'' : List ℕ} → NowLinked R (λ u v. eqb b u && eqb a v) links links'
      → NowLinked R (λ u v. eqb a u && eqb b v) links' links'' → NowLinked R (is_step a b) links links''
  unfolding is_step
  linked-both a b J K = record {
    goes = λ p M. masks-same (λ u v. sym (or_assoc (eqb a u && eqb b v) (eqb b u && eqb a v) (p u v))) (K.goes _ (J.goes p M));
  }

-- links added one after another: what is left to add, with what was added to the relation of the start, makes all with it
pub record LinkedSoFar (R : Room) (left all p : ℕ → ℕ → Bool) (links : List ℕ) : Type 0 where
  pub relation : ℕ → ℕ → Bool
  pub masks : Masks R relation links
  pub same : (u v : ℕ) → left u v || relation u v ≡ all u v || p u v

pub record AddingLinks (R : Room) (left all : ℕ → ℕ → Bool) (start links : List ℕ) : Type 0 where
  pub goes : (p : ℕ → ℕ → Bool) → Masks R p start → LinkedSoFar R left all p links

module _ {R : Room} where
  pub adding-none : {all : ℕ → ℕ → Bool} {start : List ℕ} → AddingLinks R all all start start
  adding-none = record { goes = λ p M. record { relation = p; masks = M; same = λ u v. refl } }

  module _ {left all : ℕ → ℕ → Bool} {start links : List ℕ} (A : AddingLinks R left all start links) where
    pub adding_masked : Masked R start → Masked R links
    adding_masked M = let N = A.goes M.relation M.masks in record { relation = N.relation; masks = N.masks }

    pub adding-next : (more left' : ℕ → ℕ → Bool) {links' : List ℕ} → NowLinked R more links links' → ((u v : ℕ) → left u v ≡ more u v || left' u v)
        → AddingLinks R left' all start links'
    adding-next more left' J s = record {
      goes = λ p M.
          let N = A.goes p M in
          record {
            relation = λ u v. more u v || N.relation u v;
            masks = J.goes N.relation N.masks;
            same = λ u v.
                sym (or_assoc (left' u v) (more u v) (N.relation u v))
                ∙ ap (λ (x : Bool). x || N.relation u v) (or_comm (left' u v) (more u v) ∙ sym (s u v))
                ∙ N.same u v;
          };
    }

    pub adding-all : ((u v : ℕ) → left u v ≡ false) → NowLinked R all start links
    adding-all n = record {
      goes = λ p M. let N = A.goes p M in masks-same (λ u v. sym (ap (λ (x : Bool). x || N.relation u v) (n u v)) ∙ N.same u v) N.masks;
    }
