-- What the judging of a list comes to in the sheet's own words, and that a repeat found before lent memory is touched is the one that number 7 names.
use Rattle.std.specs.Prelude.{◌≡◌, refl, ◌⊎◌, Bool, true, false, ◌||◌, List, [], ◌∷◌, ℕ, zero, suc, ◌≤◌, ◌<◌, eqb, length}
use Rattle.std.proofs.Common.{sym, ap, ◌∙◌, inl, inr, not-suc-le-zero, le_of_suc-le-suc, arith, eqb-true, eq-eqb}
use Rattle.basics.specs.Tests.{either, ask, ask_less, never}
use Rattle.basics.specs.Lists.{any}
use Rattle.room.specs.declared.Room.{Room}
use Rattle.job_sheet.specs.declared.Block.{Block}
use Rattle.job_sheet.specs.declared.Judgement.TheVariants.{Sheet}
use Rattle.job_sheet.specs.Version.{version_in}
use Rattle.job_sheet.specs.Sheet.{Contents, Means, judged, answer, refused}
use Rattle.job_sheet.specs.Places.{contents_in, shaped}
use Rattle.job_sheet.specs.RecordLaws.{Bytes}
use Rattle.job_sheet.specs.LayoutLaws.{contents-back}
use Rattle.job_sheet.proofs.FaultLaws.{judged_not}
use Rattle.job_sheet.proofs.ReadLaws.{read-nothing}
use Rattle.job_sheet.proofs.Theorems.{number-one}
use Rattle.blocks.specs.Blocks.{Placement}
use Rattle.std.specs.Prelude.{Ok, Err}
use Rattle.blocks.specs.Blocks.{block_cell, record_cell, record_node, Placing, each-its-own, one-repeated}
use Rattle.job_list.specs.Judged.{same_ground, contents_at, net_judgement, repeats_in}
use Rattle.job_list.specs.JudgeLaws.{answer-judgement, shaped-read}

-- ---- numbers 1 to 5

-- what a sheet that means something is judged for is its meaning
pub judged-meaning : (F : Contents) (sheet : List ℕ) (J : Contents) → Means sheet J → net_judgement F sheet ≡ either (same_ground F J) (judged (version_in sheet) J) Sheet
unfolding net_judgement
judged-meaning F sheet J m =
    let v = version_in sheet in
    let e : contents_at sheet ≡ J = sym (ap (contents_in v) m.bytes) ∙ contents-back v J m.limits in
    ask (shaped v sheet)
    (λ t. rw t (ap (λ K. either (same_ground F K) (judged v K) Sheet) e))
    (λ f. absurd ((number-one sheet (refused Sheet) (read-nothing v sheet refl f (refused Sheet) refl)).0 refl J m))

-- bytes that mean nothing are number 1
pub judged-nothing : (F : Contents) (sheet : List ℕ) → Bytes sheet → ((J : Contents) → Means sheet J → ⊥) → net_judgement F sheet ≡ Sheet
unfolding net_judgement
judged-nothing F sheet b n =
    let v = version_in sheet in
    ask (shaped v sheet)
    (λ t. absurd (judged_not v (contents_at sheet) (sym (answer-judgement v (contents_at sheet)) ∙ (number-one sheet (answer v (contents_at sheet)) (shaped-read sheet b t)).1 n)))
    (λ f. rw f)

-- ---- number 7

-- two records of one cell
pub record Pair (R : Room) (bs : List Block) : Type 0 where
  pub one : ℕ
  pub other : ℕ
  pub in_order : one < other
  pub other_in : other < length bs
  pub same : record_cell R bs one ≡ record_cell R bs other

-- where a cell is among these, at a place
found_at : (R : Room) (v : ℕ) (bs : List Block) → any (λ c. eqb (block_cell R c) v) bs ≡ true → (X : Type 0) → ((i : ℕ) → i < length bs → record_cell R bs i ≡ v → X) → X
found_at R v [] e X f = never (cc)
found_at R v (b ∷ bs) e X f =
    ask (eqb (block_cell R b) v)
    (λ t. f 0 (omega arith) (eqb-true _ _ t))
    (λ n. found_at R v bs (rw n at e) X (λ i h. f (suc i) (omega arith)))

found-there : (R : Room) (v : ℕ) (bs : List Block) (i : ℕ) → i < length bs → record_cell R bs i ≡ v → any (λ c. eqb (block_cell R c) v) bs ≡ true
found-there R v [] i h e = absurd (not-suc-le-zero h)
found-there R v (b ∷ bs) zero h e = rw (eq-eqb _ _ e)
found-there R v (b ∷ bs) (suc i) h e = rw (found-there R v bs i (le_of_suc-le-suc h) e) (or_true (eqb (block_cell R b) v))
  where
    or_true : (x : Bool) → x || true ≡ true
    or_true true = refl
    or_true false = refl

repeats_pair : (R : Room) (bs : List Block) → repeats_in R bs ≡ true → Pair R bs
unfolding repeats_in
repeats_pair R [] e = never (cc)
repeats_pair R (b ∷ bs) e =
    ask (any (λ c. eqb (block_cell R c) (block_cell R b)) bs)
    (λ t. found_at R (block_cell R b) bs t (Pair R (b ∷ bs)) (λ i h q. record { one = 0; other = suc i; in_order = omega arith; other_in = omega arith; same = sym q }))
    (λ f. let p = repeats_pair R bs (rw f at e) in record { one = suc p.one; other = suc p.other; in_order = omega (arith, p.in_order); other_in = omega (arith, p.other_in); same = p.same })

pair_repeats : (R : Room) (bs : List Block) (i j : ℕ) → i < j → j < length bs → record_cell R bs i ≡ record_cell R bs j → repeats_in R bs ≡ true
unfolding repeats_in
pair_repeats R [] i j h k e = absurd (not-suc-le-zero k)
pair_repeats R (b ∷ bs) zero zero h k e = absurd (omega arith)
pair_repeats R (b ∷ bs) zero (suc j) h k e = rw (found-there R (block_cell R b) bs j (le_of_suc-le-suc k) (sym e))
pair_repeats R (b ∷ bs) (suc i) zero h k e = absurd (omega arith)
pair_repeats R (b ∷ bs) (suc i) (suc j) h k e = rw (pair_repeats R bs i j (omega arith) (omega arith) e) (or_true (any (λ c. eqb (block_cell R c) (block_cell R b)) bs))
  where
    or_true : (x : Bool) → x || true ≡ true
    or_true true = refl
    or_true false = refl

-- two blocks take one cell exactly where number 7 is due: laying them out then names the cell
abbrev pub is_repeat : Placement → Bool
is_repeat (Ok placed) = false
is_repeat (Err overlap) = true

pub repeats_placing : (R : Room) (bs : List Block) {p : Placement} → Placing R bs (length bs) p → repeats_in R bs ≡ is_repeat p
repeats_placing R bs (each-its-own none e) =
    ask (repeats_in R bs) (λ t. absurd (two (repeats_pair R bs t))) (λ f. f ∙ rw e)
  where
    two : Pair R bs → ⊥
    two p =
        ask_less (record_node bs p.other) (record_node bs p.one)
        (λ l. none p.one record { repeat_in = omega (arith, p.in_order, p.other_in); holder = p.other; holder_in = p.other_in; same-cell = sym p.same; held = inl l })
        (λ l. none p.other record {
          repeat_in = p.other_in;
          holder = p.one;
          holder_in = omega (arith, p.in_order, p.other_in);
          same-cell = p.same;
          held = ask_less (record_node bs p.one) (record_node bs p.other) inl (λ m. inr (omega arith, p.in_order));
        })
repeats_placing R bs (one-repeated i r least e) =
    rw e (ask_less r.holder i
    (λ l. pair_repeats R bs r.holder i l r.repeat_in r.same-cell)
    (λ l. pair_repeats R bs i r.holder (apart l r.held) r.holder_in (sym r.same-cell)))
  where
    apart : i ≤ r.holder → (record_node bs r.holder < record_node bs i) ⊎ ((record_node bs r.holder ≡ record_node bs i) × (r.holder < i)) → i < r.holder
    apart l (inl m) = ask_less i r.holder (λ q. q) (λ q. let s : r.holder ≡ i = omega arith in let n = ap (record_node bs) s in absurd (omega arith))
    apart l (inr m) = absurd (omega (arith, m.1))
