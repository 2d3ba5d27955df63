-- Laws of laying out: what is kept of the first k blocks is kept of one more, and in the end it tells what laying out comes to.
use Rattle.std.specs.Prelude.{◌≡◌, refl, ◌⊎◌, List, ℕ, ◌+◌, ◌-◌, ◌*◌, ◌%◌, ◌≤◌, ◌<◌, length, get_or, set, replicate}
use Rattle.std.proofs.Common.{sym, ap, ◌∙◌, inl, inr, arith, length-set, get_or-set_same, get_or-set_other}
use Rattle.std.proofs.Math.Arith.{digits_mod}
use Rattle.std.proofs.lemmas.List.{length-replicate, get_or-replicate}
use borrow.Author.Tests.{eq-eqb, ne_eqb, lt-ltb, le-ltb}
use Rattle.basics.specs.Tests.{ask_same, ask_less}
use Rattle.room.specs.declared.Room.{Room}
use Rattle.room.specs.Room.{volume}
use Rattle.room.specs.Units.{air}
use Rattle.job_sheet.specs.declared.Block.{Block}
use Rattle.job_sheet.specs.Places.{no_block}
use Rattle.blocks.specs.Blocks.{Placed, RepeatAt}
use Rattle.blocks.specs.Blocks.{kind_of, node_of, kinds_of, nodes_of, record_cell, record_node, record_kind, Repeat, NotAfter, Placing, each-its-own, one-repeated, BlocksLaid}
use Rattle.blocks.specs.Laying.{lesser_kept, per_node, numbered, repeat_number, BlockAdded, Noted, no_block_lem, of-block, RepeatFound, no_repeat, of-repeat, Kept}
use Rattle.blocks.proofs.BlockLaws.{less_or_same, tabulated-is, OfCell, of_record, of_none, of-cell, of-its-cell}

-- ---- the lesser of two numbers of which 0 stands for none

module _ (a b : ℕ) where
  pub lesser-second-only : a ≡ 0 → lesser_kept a b ≡ b
  unfolding lesser_kept
  lesser-second-only e = rw (eq-eqb a 0 e)

  module _ (some : a ≡ 0 → ⊥) where
    pub lesser-first-only : b ≡ 0 → lesser_kept a b ≡ a
    unfolding lesser_kept
    lesser-first-only e = rw (ne_eqb a 0 some, eq-eqb b 0 e)

    module _ (other : b ≡ 0 → ⊥) where
      pub lesser-second : b < a → lesser_kept a b ≡ b
      unfolding lesser_kept
      lesser-second h = rw (ne_eqb a 0 some, ne_eqb b 0 other, lt-ltb b a h)

      pub lesser-first : a ≤ b → lesser_kept a b ≡ a
      unfolding lesser_kept
      lesser-first h = rw (ne_eqb a 0 some, ne_eqb b 0 other, le-ltb b a h)

-- it is one of the two, and no more than either that is there
pub record LesserKept (a b c : ℕ) : Type 0 where
  pub one_of : (c ≡ a) ⊎ (c ≡ b)
  pub to-first : 1 ≤ a → (1 ≤ c) × (c ≤ a)
  pub to-second : 1 ≤ b → (1 ≤ c) × (c ≤ b)

is-first : {a b : ℕ} → (1 ≤ b → (1 ≤ a) × (a ≤ b)) → LesserKept a b a
is-first h = record { one_of = inl refl; to-first = λ s. (s, omega arith); to-second = h }

is-second : {a b : ℕ} → (1 ≤ a → (1 ≤ b) × (b ≤ a)) → LesserKept a b b
is-second h = record { one_of = inr refl; to-first = h; to-second = λ s. (s, omega arith) }

pub lesser-is : (a b : ℕ) → LesserKept a b (lesser_kept a b)
lesser-is a b =
    ask_same a 0 none (λ some. ask_same b 0 (one some) (two some))
  where
    none : a ≡ 0 → LesserKept a b (lesser_kept a b)
    none e = rw (lesser-second-only a b e) (is-second (λ s. (omega arith, omega arith)))

    one : (a ≡ 0 → ⊥) → b ≡ 0 → LesserKept a b (lesser_kept a b)
    one some e = rw (lesser-first-only a b some e) (is-first (λ s. (omega arith, omega arith)))

    two : (a ≡ 0 → ⊥) → (b ≡ 0 → ⊥) → LesserKept a b (lesser_kept a b)
    two some other =
        ask_less b a
        (λ l. rw (lesser-second a b some other l) (is-second (λ s. (omega (arith, other), omega arith))))
        (λ l. rw (lesser-first a b some other l) (is-first (λ s. (omega (arith, some), omega arith))))

-- ---- the repeat that a block makes

module _ (known one_more v : ℕ) where
  pub no_repeat_number : known ≡ 0 → repeat_number known one_more v ≡ 0
  unfolding repeat_number
  no_repeat_number e = rw (eq-eqb known 0 e)

  module _ (some : known ≡ 0 → ⊥) where
    pub new_repeats : known < one_more → repeat_number known one_more v ≡ numbered (one_more - 1) v
    unfolding repeat_number
    new_repeats h = rw (ne_eqb known 0 some, lt-ltb known one_more h)

    pub old_repeats : one_more ≤ known → repeat_number known one_more v ≡ numbered (known - 1) v
    unfolding repeat_number
    old_repeats h = rw (ne_eqb known 0 some, le-ltb known one_more h)

-- none, or that of the new block, or that of a block of the least node so far
data RepeatMade (known node v n : ℕ) : Type 0 where
  none_made : known ≡ 0 → n ≡ 0 → RepeatMade known node v n
  by-new : 1 ≤ known → known ≤ node + 1 → n ≡ numbered node v → RepeatMade known node v n
  by_old : (least : ℕ) → known ≡ least + 1 → node < least → n ≡ numbered least v → RepeatMade known node v n

repeat-made : (known node v : ℕ) → RepeatMade known node v (repeat_number known (node + 1) v)
repeat-made known node v =
    ask_same known 0 (λ e. none_made e (no_repeat_number known (node + 1) v e)) some
  where
    some : (known ≡ 0 → ⊥) → RepeatMade known node v (repeat_number known (node + 1) v)
    some is =
        ask_less known (node + 1)
        (λ h. by-new (omega (arith, is)) (omega arith) (omega (arith, new_repeats known (node + 1) v is h)))
        (λ h. old h (old_repeats known (node + 1) v is h))
      where
        old : node + 1 ≤ known → repeat_number known (node + 1) v ≡ numbered (known - 1) v → RepeatMade known node v (repeat_number known (node + 1) v)
        old h e =
            ask_same known (node + 1)
            (λ same. by-new (omega (arith, is)) (omega arith) (omega (arith, e)))
            (λ d. by_old (known - 1) (omega arith) (omega (arith, d)) e)

-- no more than that of any block of the cell whose node is neither below the new one nor below the least
made-least : {known node v n : ℕ} → RepeatMade known node v n → (x : ℕ) → 1 ≤ known → known ≤ x + 1 → node ≤ x → (1 ≤ n) × (n ≤ numbered x v)
made-least (none_made e z) x h k l = (omega arith, omega arith)
made-least (by-new s t e) x h k l = (omega arith, omega arith)
made-least (by_old least e t z) x h k l = (omega arith, omega arith)

-- "least node, then least cell" is the least number
numbered-least : (a b c d : ℕ) → b < per_node → d < per_node → numbered a b ≤ numbered c d → (a < c) ⊎ ((a ≡ c) × (b ≤ d))
numbered-least a b c d hb hd le =
    ask_less a c inl (λ g. inr (omega arith, omega arith))

-- ---- nothing is kept of no block

pub kept-none : (R : Room) (bs : List Block) → Kept R bs 0 (replicate (volume R) 0) (replicate (volume R) 0) 0
kept-none R bs = record {
  kinds-long = length-replicate (volume R) 0;
  nodes-long = length-replicate (volume R) 0;
  noted = λ v h. no_block_lem (get_or-replicate (volume R) v 0 0 h);
  least_node = λ j h. absurd (omega arith);
  bare = λ v h e. get_or-replicate (volume R) v 0 0 h;
  kinds-are = λ e j h. absurd (omega arith);
  repeat = no_repeat refl;
  least-repeat = λ j r. absurd (omega (arith, r.repeat_in));
}

-- ---- one block more

module _ (R : Room) (bs : List Block) (k : ℕ) where
  more : {i : ℕ} → Repeat R bs k i → Repeat R bs (k + 1) i
  more r = record {
    repeat_in = omega (arith, r.repeat_in);
    holder = r.holder;
    holder_in = omega (arith, r.holder_in);
    same-cell = r.same-cell;
    held = r.held;
  }

  -- a repeat among one block more: one of before, or the new block is the repeat, or holds the cell of one
  data RepeatOfMore (j : ℕ) : Type 0 where
    of-before : Repeat R bs k j → RepeatOfMore j
    is-new : (h : ℕ) → h < k → j ≡ k → record_cell R bs h ≡ record_cell R bs k → record_node bs h ≤ record_node bs k → RepeatOfMore j
    held-by-new : j < k → record_cell R bs j ≡ record_cell R bs k → record_node bs k < record_node bs j → RepeatOfMore j

  below_or_new : (j : ℕ) → j < k + 1 → (j < k) ⊎ (j ≡ k)
  below_or_new j h = ask_less j k inl (λ f. inr (omega arith))

  repeat-of-more : (j : ℕ) → Repeat R bs (k + 1) j → RepeatOfMore j
  repeat-of-more j r = go (below_or_new j r.repeat_in) (below_or_new r.holder r.holder_in) r.held
    where
      go : (j < k) ⊎ (j ≡ k) → (r.holder < k) ⊎ (r.holder ≡ k) → (record_node bs r.holder < record_node bs j) ⊎ ((record_node bs r.holder ≡ record_node bs j) × (r.holder < j))
          → RepeatOfMore j
      go (inl a) (inl b) held = of-before record { repeat_in = a; holder = r.holder; holder_in = b; same-cell = r.same-cell; held = held }
      go (inl a) (inr e) (inl l) = held-by-new a (sym r.same-cell ∙ ap (record_cell R bs) e) (rw e at l)
      go (inl a) (inr e) (inr l) = absurd (omega (arith, l.1))
      go (inr e) (inl b) (inl l) = is-new r.holder b e (r.same-cell ∙ ap (record_cell R bs) e) (let n = ap (record_node bs) e in omega arith)
      go (inr e) (inl b) (inr l) = is-new r.holder b e (r.same-cell ∙ ap (record_cell R bs) e) (let n = ap (record_node bs) e in omega (arith, l.0))
      go (inr e) (inr f) (inl l) = absurd (let n = ap (record_node bs) (f ∙ sym e) in omega arith)
      go (inr e) (inr f) (inr l) = absurd (omega (arith, l.1))

  module _ (kinds nodes : List ℕ) (found : ℕ) (K : Kept R bs k kinds nodes found) (cell_in : record_cell R bs k < volume R) where
    abbrev here : ℕ
    here = record_cell R bs k

    abbrev known : ℕ
    known = get_or nodes here 0

    abbrev nodes-now : List ℕ
    nodes-now = set nodes here (lesser_kept known (record_node bs k + 1))

    abbrev kinds-now : List ℕ
    kinds-now = set kinds here (record_kind bs k)

    abbrev new : ℕ
    new = repeat_number known (record_node bs k + 1) here

    abbrev found-now : ℕ
    found-now = lesser_kept found new

    least : LesserKept known (record_node bs k + 1) (lesser_kept known (record_node bs k + 1))
    least = lesser-is known (record_node bs k + 1)

    there : get_or nodes-now here 0 ≡ lesser_kept known (record_node bs k + 1)
    there = get_or-set_same nodes here _ 0 (rw K.nodes-long cell_in)

    elsewhere : (v : ℕ) → (here ≡ v → ⊥) → get_or nodes-now v 0 ≡ get_or nodes v 0
    elsewhere v other = get_or-set_other nodes here v _ 0 (λ e. other (sym e))

    kind-there : get_or kinds-now here 0 ≡ record_kind bs k
    kind-there = get_or-set_same kinds here _ 0 (rw K.kinds-long cell_in)

    kind-elsewhere : (v : ℕ) → (here ≡ v → ⊥) → get_or kinds-now v 0 ≡ get_or kinds v 0
    kind-elsewhere v other = get_or-set_other kinds here v _ 0 (λ e. other (sym e))

    -- what is kept of a cell, if a block so far takes it
    known-least : (j : ℕ) → j < k → record_cell R bs j ≡ here → (1 ≤ known) × (known ≤ record_node bs j + 1)
    known-least j h e = rw e at (K.least_node j h)

    noted_here : Noted R bs (k + 1) here (lesser_kept known (record_node bs k + 1))
    noted_here = go least.one_of (K.noted here cell_in)
      where
        go : (lesser_kept known (record_node bs k + 1) ≡ known) ⊎ (lesser_kept known (record_node bs k + 1) ≡ record_node bs k + 1) → Noted R bs k here known
            → Noted R bs (k + 1) here (lesser_kept known (record_node bs k + 1))
        go (inl e) (no_block_lem z) = absurd (omega (arith, (least.to-second (omega arith)).0))
        go (inl e) (of-block j h c n) = of-block j (omega arith) c (e ∙ n)
        go (inr e) n = of-block k (omega arith) refl e

    noted_more : (v : ℕ) → v < volume R → Noted R bs (k + 1) v (get_or nodes-now v 0)
    noted_more v h =
        ask_same here v (λ e. rw (← e, there) noted_here) (λ d. rw (elsewhere v d) (lift (K.noted v h)))
      where
        lift : {n : ℕ} → Noted R bs k v n → Noted R bs (k + 1) v n
        lift (no_block_lem z) = no_block_lem z
        lift (of-block j h c n) = of-block j (omega arith) c n

    least_node_more : (j : ℕ) → j < k + 1 → (1 ≤ get_or nodes-now (record_cell R bs j) 0) × (get_or nodes-now (record_cell R bs j) 0 ≤ record_node bs j + 1)
    least_node_more j h = go (below_or_new j h)
      where
        go : (j < k) ⊎ (j ≡ k) → (1 ≤ get_or nodes-now (record_cell R bs j) 0) × (get_or nodes-now (record_cell R bs j) 0 ≤ record_node bs j + 1)
        go (inr e) = rw (e, there) (least.to-second (omega arith))
        go (inl l) =
            ask_same here (record_cell R bs j) same (λ d. rw (elsewhere (record_cell R bs j) d) (K.least_node j l))
          where
            same : here ≡ record_cell R bs j → (1 ≤ get_or nodes-now (record_cell R bs j) 0) × (get_or nodes-now (record_cell R bs j) 0 ≤ record_node bs j + 1)
            same e =
                let a = known-least j l (sym e) in
                let b = least.to-first a.0 in
                rw (← e, there) (b.0, omega arith)

    bare-more : (v : ℕ) → v < volume R → get_or nodes-now v 0 ≡ 0 → get_or kinds-now v 0 ≡ air
    bare-more v h z =
        ask_same here v
        (λ e. absurd (omega (arith, z, ap (λ n. get_or nodes-now n 0) e, there, (least.to-second (omega arith)).0)))
        (λ d. kind-elsewhere v d ∙ K.bare v h (sym (elsewhere v d) ∙ z))

    -- while nothing repeats, no block so far takes the new block's cell
    not_known : found-now ≡ 0 → (found ≡ 0) × (known ≡ 0)
    not_known z = go (lesser-is found new) (repeat-made known (record_node bs k) here)
      where
        go : LesserKept found new found-now → RepeatMade known (record_node bs k) here new → (found ≡ 0) × (known ≡ 0)
        go l (none_made e n) = (none l.to-first, e)
          where
            none : (1 ≤ found → (1 ≤ found-now) × (found-now ≤ found)) → found ≡ 0
            none t = ask_same found 0 (λ q. q) (λ d. absurd (omega (arith, z, (t (omega (arith, d))).0)))
        go l (by-new a b n) = absurd (omega (arith, z, (l.to-second (omega arith)).0))
        go l (by_old m a b n) = absurd (omega (arith, z, (l.to-second (omega arith)).0))

    kinds-more : found-now ≡ 0 → (j : ℕ) → j < k + 1 → get_or kinds-now (record_cell R bs j) 0 ≡ record_kind bs j
    kinds-more z j h = go (not_known z) (below_or_new j h)
      where
        go : (found ≡ 0) × (known ≡ 0) → (j < k) ⊎ (j ≡ k) → get_or kinds-now (record_cell R bs j) 0 ≡ record_kind bs j
        go q (inr e) = rw (e, kind-there)
        go q (inl l) = kind-elsewhere (record_cell R bs j) (λ e. omega (arith, q.1, (known-least j l (sym e)).0)) ∙ K.kinds-are q.0 j l

    repeat-more : RepeatFound R bs (k + 1) found-now
    repeat-more = go (lesser-is found new).one_of K.repeat
      where
        fresh : found-now ≡ new → RepeatMade known (record_node bs k) here new → Noted R bs k here known → RepeatFound R bs (k + 1) found-now
        fresh e (none_made z n) t = no_repeat (e ∙ n)
        fresh e (by-new a b n) (no_block_lem z) = absurd (omega arith)
        fresh e (by-new a b n) (of-block h l c m) =
            of-repeat k record { repeat_in = omega arith; holder = h; holder_in = omega arith; same-cell = c; held = less_or_same (omega arith) l } (e ∙ n)
        fresh e (by_old x a b n) (no_block_lem z) = absurd (omega arith)
        fresh e (by_old x a b n) (of-block h l c m) =
            of-repeat h record { repeat_in = omega arith; holder = k; holder_in = omega arith; same-cell = sym c; held = inl (omega arith) } (omega (arith, e, n, c))

        go : (found-now ≡ found) ⊎ (found-now ≡ new) → RepeatFound R bs k found → RepeatFound R bs (k + 1) found-now
        go (inl e) (no_repeat z) = no_repeat (e ∙ z)
        go (inl e) (of-repeat i r n) = of-repeat i (more r) (e ∙ n)
        go (inr e) f = fresh e (repeat-made known (record_node bs k) here) (K.noted here cell_in)

    least-repeat-more : (j : ℕ) → Repeat R bs (k + 1) j → (1 ≤ found-now) × (found-now ≤ numbered (record_node bs j) (record_cell R bs j))
    least-repeat-more j r = go (repeat-of-more j r)
      where
        bound : (x v : ℕ) → here ≡ v → (1 ≤ new) × (new ≤ numbered x here) → (1 ≤ found-now) × (found-now ≤ numbered x v)
        bound x v e n = let l = (lesser-is found new).to-second n.0 in (l.0, omega arith)

        go : RepeatOfMore j → (1 ≤ found-now) × (found-now ≤ numbered (record_node bs j) (record_cell R bs j))
        go (of-before b) =
            let f = K.least-repeat j b in
            let l = (lesser-is found new).to-first f.0 in
            (l.0, omega arith)
        go (is-new h l e c n) =
            let a = known-least h l c in
            rw e (bound (record_node bs k) here refl (made-least (repeat-made known (record_node bs k) here) (record_node bs k) a.0 (omega arith) (omega arith)))
        go (held-by-new l c n) =
            let a = known-least j l c in
            bound (record_node bs j) (record_cell R bs j) (sym c) (made-least (repeat-made known (record_node bs k) here) (record_node bs j) a.0 a.1 (omega arith))

    kept_more : Kept R bs (k + 1) kinds-now nodes-now found-now
    kept_more = record {
      kinds-long = length-set kinds here _ ∙ K.kinds-long;
      nodes-long = length-set nodes here _ ∙ K.nodes-long;
      noted = noted_more;
      least_node = least_node_more;
      bare = bare-more;
      kinds-are = kinds-more;
      repeat = repeat-more;
      least-repeat = least-repeat-more;
    }

    pub kept_next : (b : Block) → b ≡ get_or bs k no_block → {kinds' nodes' : List ℕ} {found' : ℕ} → BlockAdded R b kinds nodes found kinds' nodes' found'
        → Kept R bs (k + 1) kinds' nodes' found'
    kept_next b is A =
        let B : BlockAdded R (get_or bs k no_block) kinds nodes found _ _ _ = rw is at A in
        rw (B.kinds-are, B.nodes-are, B.found-is) kept_more

-- ---- in the end

module _ {R : Room} {bs : List Block} {kinds nodes : List ℕ} {found : ℕ} where
  module _ {n : ℕ} (K : Kept R bs n kinds nodes found) where
    nothing_repeats : found ≡ 0 → (i : ℕ) → Repeat R bs n i → ⊥
    nothing_repeats z i r = omega (arith, z, (K.least-repeat i r).0)

    kept-placed : found ≡ 0 → Placing R bs n Placed
    kept-placed z = each-its-own (nothing_repeats z) refl

    kept-repeated : (found ≡ 0 → ⊥) → ((i : ℕ) → i < n → record_cell R bs i < per_node) → Placing R bs n (RepeatAt ((found - 1) % per_node))
    kept-repeated some small = go K.repeat
      where
        go : RepeatFound R bs n found → Placing R bs n (RepeatAt ((found - 1) % per_node))
        go (no_repeat z) = absurd (some z)
        go (of-repeat i r e) = one-repeated i r first (ap RepeatAt cell)
          where
            first : (j : ℕ) → Repeat R bs n j → NotAfter R bs i j
            first j q =
                numbered-least (record_node bs i) (record_cell R bs i) (record_node bs j) (record_cell R bs j) (small i r.repeat_in) (small j q.repeat_in) (rw e at (K.least-repeat j q).1)

            cell : (found - 1) % per_node ≡ record_cell R bs i
            cell =
                let d : found - 1 ≡ record_node bs i * per_node + record_cell R bs i = omega (arith, e) in
                rw d (digits_mod (record_node bs i) (small i r.repeat_in))

  module _ (K : Kept R bs (length bs) kinds nodes found) (z : found ≡ 0) where
    kept-kind : (v : ℕ) → v < volume R → get_or kinds v 0 ≡ kind_of R bs v
    kept-kind v h = go (of-cell (λ b. b.kind) air R bs v) (K.noted v h)
      where
        go : OfCell (λ b. b.kind) air R bs v (kind_of R bs v) → Noted R bs (length bs) v (get_or nodes v 0) → get_or kinds v 0 ≡ kind_of R bs v
        go (of_record i l c x) t = rw c at (K.kinds-are z i l) ∙ sym x
        go (of_none n x) (no_block_lem e) = K.bare v h e ∙ sym x
        go (of_none n x) (of-block j l c e) = absurd (n j l c)

    kept_node : (v : ℕ) → v < volume R → get_or nodes v 0 ≡ node_of R bs v
    kept_node v h = go (of-cell (λ b. b.node + 1) 0 R bs v) (K.noted v h)
      where
        go : OfCell (λ b. b.node + 1) 0 R bs v (node_of R bs v) → Noted R bs (length bs) v (get_or nodes v 0) → get_or nodes v 0 ≡ node_of R bs v
        go q (of-block j l c e) = e ∙ sym (rw c at (of-its-cell (λ b. b.node + 1) 0 R bs (nothing_repeats K z) j l))
        go (of_record i l c x) (no_block_lem e) = absurd (omega (arith, e, rw c at (K.least_node i l).0))
        go (of_none n x) (no_block_lem e) = e ∙ sym x

    kept-kinds : kinds ≡ kinds_of R bs
    kept-kinds = tabulated-is (volume R) (kind_of R bs) kinds K.kinds-long kept-kind

    kept-nodes : nodes ≡ nodes_of R bs
    kept-nodes = tabulated-is (volume R) (node_of R bs) nodes K.nodes-long kept_node

    pub kept-all : BlocksLaid R bs kinds nodes Placed
    kept-all = record { placing = kept-placed K z; kinds-are = kept-kinds; nodes-are = kept-nodes }

  module _ (K : Kept R bs (length bs) kinds nodes found) (some : found ≡ 0 → ⊥) (small : (i : ℕ) → i < length bs → record_cell R bs i < per_node) where
    pub kept-refused : {kinds' nodes' : List ℕ} → kinds' ≡ replicate (length kinds) 0 → nodes' ≡ replicate (length nodes) 0
        → BlocksLaid R bs kinds' nodes' (RepeatAt ((found - 1) % per_node))
    kept-refused e f = record {
      placing = kept-repeated K some small;
      kinds-are = e ∙ rw K.kinds-long;
      nodes-are = f ∙ rw K.nodes-long;
    }
