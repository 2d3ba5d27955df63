-- There is always such a single job: the sheet's, with each cell that is blocked besides reserved.
use Rattle.std.specs.Prelude.{◌≡◌, Bool, true, false, ◌||◌, List, [], ◌∷◌, ◌++◌, map}
use Rattle.std.proofs.Math.Path.{refl, sym, ap}
use Rattle.std.proofs.Common.{◌∙◌, arith}
use Prim.Native.Nat.{ℕ, zero, suc, ◌+◌, ◌≤◌, ◌<◌}
use borrow.Author.Tests.{eq-eqb, ne_eqb}
use Rattle.basics.specs.Tests.{ask, ask_same}
use Rattle.basics.specs.Lists.{any}
use Rattle.room.specs.declared.Room.{Room}
use Rattle.room.specs.Room.{volume, pos_of}
use Rattle.room.specs.RoomLaws.{cell_pos}
use Rattle.job_sheet.specs.Sheet.{Contents}
use Rattle.outset.specs.Outset.{stands_at, near_conductor, block_keepout, blocked_by}
use Rattle.repeaters.specs.Repeaters.{cells_passing}
use Rattle.nets.specs.Theorems.{WithResources}
use Rattle.net_list_claims.specs.Statements.{cells_reserved, with_reserved}

any_append : {X : Type 0} (p : X → Bool) (xs ys : List X) → any p (xs ++ ys) ≡ any p xs || any p ys
any_append p [] ys = refl
any_append p (x ∷ xs) ys = rw (any_append p xs ys) (assoc (p x) (any p xs) (any p ys))
  where
    assoc : (a b c : Bool) → a || (b || c) ≡ (a || b) || c
    assoc true b c = refl
    assoc false b c = refl

module _ (R : Room) (p : ℕ → Bool) (v : ℕ) where
  abbrev found : ℕ → ℕ → Bool
  found n from = any (stands_at R v) (map (pos_of R) (cells_passing p n from))

  none_before : (n from : ℕ) → v < from → found n from ≡ false
  unfolding cells_passing
  none_before zero from h = refl
  none_before (suc n) from h =
      ask (p from)
      (λ t. rw (t, cell_pos R from, ne_eqb from v (λ e. omega (arith, e))) (none_before n (suc from) (omega arith)))
      (λ f. rw f (none_before n (suc from) (omega arith)))

  found-is : (n from : ℕ) → from ≤ v → v < from + n → found n from ≡ p v
  unfolding cells_passing
  found-is zero from a b = absurd (omega arith)
  found-is (suc n) from a b =
      ask_same from v
      (λ e. ask (p from)
      (λ t. rw (t, cell_pos R from, eq-eqb from v e) (sym t ∙ ap p e))
      (λ f. rw f (none_before n (suc from) (omega arith) ∙ sym f ∙ ap p e)))
      (λ d. ask (p from)
      (λ t. rw (t, cell_pos R from, ne_eqb from v d) (found-is n (suc from) (omega (arith, d)) (omega arith)))
      (λ f. rw f (found-is n (suc from) (omega (arith, d)) (omega arith))))

last_or : (a b c d e o : Bool) → a || (b || (c || ((d || o) || e))) ≡ (a || (b || (c || (d || e)))) || o
last_or true b c d e o = refl
last_or false true c d e o = refl
last_or false false true d e o = refl
last_or false false false true e o = refl
last_or false false false false true true = refl
last_or false false false false true false = refl
last_or false false false false false true = refl
last_or false false false false false false = refl

pub reserved-blocks : (J : Contents) (kinds nodes : List ℕ) (others : ℕ → Bool) → WithResources J (with_reserved J others) kinds nodes others
unfolding blocked_by
reserved-blocks J kinds nodes others = record { but_for_lists = refl; blocked-besides = one }
  where
    one : (v : ℕ) → v < volume J.room → blocked_by kinds nodes (with_reserved J others) v ≡ blocked_by kinds nodes J v || others v
    one v h =
        let R = J.room in
        let more : any (stands_at R v) (J.reserved ++ cells_reserved R others) ≡ any (stands_at R v) J.reserved || others v =
        any_append (stands_at R v) J.reserved (cells_reserved R others) ∙ ap (λ b. any (stands_at R v) J.reserved || b) (found-is R others v (volume R) 0 (omega arith) (omega arith)) in
        rw more
        (last_or (any (near_conductor R v) J.conductors) (any (stands_at R v) J.clearances) (any (stands_at R v) J.terminals) (any (stands_at R v) J.reserved) (any (block_keepout R kinds nodes v) J.blocks) (others v))
