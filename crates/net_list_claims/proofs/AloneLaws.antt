-- Laws of a net's job by itself: the sheet of a good net is set out, and so is each job like it.
use Rattle.std.specs.Prelude.{◌≡◌, refl, ◌⊎◌, Bool, true, false, ◌||◌, List, [], ◌∷◌, ℕ, zero, suc, ◌≤◌, ◌<◌, eqb, length}
use Rattle.std.proofs.Common.{sym, ap, subst, inl, inr, arith, eq-eqb}
use Rattle.basics.specs.Tests.{ask_less}
use Rattle.basics.specs.Lists.{any}
use Rattle.room.specs.declared.Room.{Room}
use Rattle.job_sheet.specs.declared.Block.{Block}
use Rattle.job_sheet.specs.Sheet.{Contents}
use Rattle.blocks.specs.Blocks.{block_cell, record_cell, record_node, Repeat, each-its-own}
use Rattle.ends.specs.Ends.{ends_of}
use Rattle.outset.specs.Outset.{blocked_at_outset}
use Rattle.outset.specs.SetOut.{ready, OutsetOf}
use Rattle.job_list.specs.declared.Memory.{Memory}
use Rattle.job_list.specs.Judged.{contents_at, repeats_in}
use Rattle.job_list.specs.GoodNets.{GoodNet}
use Rattle.other_nets.specs.Others.{ends_at}
use Rattle.nets.specs.Nets.{kinds_at, nodes_at, outset_at}
use Rattle.nets.specs.Theorems.{WithResources}
use Rattle.net_list_claims.proofs.MeetingLaws.{clash}

-- ---- blocks with cells of their own

or_true : (x : Bool) → x || true ≡ true
or_true true = refl
or_true false = refl

found-there : (R : Room) (v : ℕ) (bs : List Block) (i : ℕ) → i < length bs → record_cell R bs i ≡ v → any (λ c. eqb (block_cell R c) v) bs ≡ true
found-there R v [] i h e = absurd (omega arith)
found-there R v (b ∷ bs) zero h e = rw (eq-eqb _ _ e)
found-there R v (b ∷ bs) (suc i) h e = rw (found-there R v bs i (omega arith) e) (or_true (eqb (block_cell R b) v))

pair_repeats : (R : Room) (bs : List Block) (i j : ℕ) → i < j → j < length bs → record_cell R bs i ≡ record_cell R bs j → repeats_in R bs ≡ true
unfolding repeats_in
pair_repeats R [] i j h k e = absurd (omega arith)
pair_repeats R (b ∷ bs) zero zero h k e = absurd (omega arith)
pair_repeats R (b ∷ bs) zero (suc j) h k e = rw (found-there R (block_cell R b) bs j (omega arith) (sym e))
pair_repeats R (b ∷ bs) (suc i) zero h k e = absurd (omega arith)
pair_repeats R (b ∷ bs) (suc i) (suc j) h k e = rw (pair_repeats R bs i j (omega arith) (omega arith) e) (or_true (any (λ c. eqb (block_cell R c) (block_cell R b)) bs))

none-repeated : (R : Room) (bs : List Block) → repeats_in R bs ≡ false → (i : ℕ) → Repeat R bs (length bs) i → ⊥
none-repeated R bs f i r =
    ask_less r.holder i
    (λ l. clash f (pair_repeats R bs r.holder i l r.repeat_in r.same-cell))
    (λ l. clash f (pair_repeats R bs i r.holder (apart l r.held) r.holder_in (sym r.same-cell)))
  where
    apart : i ≤ r.holder → (record_node bs r.holder < record_node bs i) ⊎ ((record_node bs r.holder ≡ record_node bs i) × (r.holder < i)) → i < r.holder
    apart l (inl m) = ask_less i r.holder (λ q. q) (λ q. let s : r.holder ≡ i = omega arith in let n = ap (record_node bs) s in absurd (omega arith))
    apart l (inr m) = absurd (omega (arith, m.1))

-- ---- a good net's job, set out

module _ {M : Memory} {F : Contents} {j : ℕ} {sheet : List ℕ} (G : GoodNet M F j sheet) where
  is-ready : ready (outset_at sheet) ≡ true
  is-ready = rw G.ends

  pub like_set_out : {K : Contents} {others : ℕ → Bool} → WithResources (contents_at sheet) K (kinds_at sheet) (nodes_at sheet) others
      → OutsetOf K (outset_at sheet) (kinds_at sheet) (nodes_at sheet) (blocked_at_outset (kinds_at sheet) (nodes_at sheet) K (ends_at sheet).source (ends_at sheet).taps)
  like_set_out W =
      subst (λ C. OutsetOf C (outset_at sheet) (kinds_at sheet) (nodes_at sheet) (blocked_at_outset (kinds_at sheet) (nodes_at sheet) C (ends_at sheet).source (ends_at sheet).taps)) (sym W.but_for_lists)
      record {
        laid = record { placing = each-its-own (none-repeated (contents_at sheet).room (contents_at sheet).blocks G.apart) refl; kinds-are = refl; nodes-are = refl };
        fault-is = refl;
        ends-are = refl;
        blocked-are = rw is-ready;
      }
