-- The parts of a sheet stand where the definitions say: a sheet of J's bytes is read back as J, and what is read of a sheet that passes the tests of
-- number 1 has the sheet's bytes.
use Rattle.std.specs.Prelude.{◌≡◌, ◌||◌}
use Rattle.std.proofs.Math.Path.{refl, sym, ap}
use Rattle.std.proofs.Common.{◌∙◌, add-zero, mul-one, length-append, drop_at, drop-cons, get_or-drop}
use Rattle.std.proofs.Math.Bool.{Bool, true}
use mathlib.Core.List.{List, [], ◌∷◌, ◌++◌, map}
use Prim.Native.Nat.{ℕ, ◌+◌, ◌*◌, ◌≤◌, ◌<◌}
use Rattle.std.proofs.Math.Nat.{div-add-mod'}
use native.Mathlib.Omega.{arith}
use Rattle.std.proofs.Math.Dec.{eqb}
use Rattle.std.proofs.Math.ListN.{length, get_or, drop, length-drop}
use Rattle.std.proofs.Math.Seq.{drop-drop, drop-length}
use Rattle.basics.specs.Tests.{ask, and_left, and_right}
use Rattle.basics.specs.Lists.{every, every-all, drop_next, joined}
use Rattle.job_sheet.specs.declared.Part.{Part}
use Rattle.job_sheet.specs.declared.Sink.{Sink}
use Rattle.job_sheet.specs.declared.Version.{Version}
use Rattle.job_sheet.specs.declared.places.Layout.{Layout}
use Rattle.job_sheet.specs.UsualLimits.{usual_run, usual_tail}
use Rattle.job_sheet.specs.Version.{position_size, block_size, endpoint_size, limit_size, sink_size, sides_place, config_place, config_size, run_place, lists_place}
use Rattle.job_sheet.specs.Sheet.{Contents, max_bytes, max_sinks, two, four, sides, costs, position, block, endpoint, limit, sink, counted, sink_bytes, rest, bytes_by, usual, tells_limits, listed, source_at, behind, layout_of}
use Rattle.job_sheet.specs.Places.{room_in, config_in, two_in, four_in, endpoint_in, limit_in, sink_in, many, blocks_in, positions_in, sinks_in, list_at, sinks_at, layout_in, contents_in, Shaped}
use Rattle.job_sheet.specs.RecordLaws.{Bytes, CodingOf, Coding, four-back, positions, blocks, endpoints, limits, sinks, many-back, joined-long, many-long, many-forth, bytes_drop, two-forth, fours, configs, rooms, span_drop}

-- ---- a sheet of J's bytes

-- from this place to its end, the sheet is l
pub record Cut (s : List ℕ) (place : ℕ) (l : List ℕ) : Type 0 where
  pub stands : drop place s ≡ l
  pub ends : place + length l ≡ length s

cut_on : (s : List ℕ) (place : ℕ) (x y : List ℕ) (n : ℕ) → length x ≡ n → Cut s place (x ++ y) → Cut s (place + n) y
cut_on s place x y n e C = record {
  stands = rw (← drop-drop n place s, C.stands) (drop_at x y n e);
  ends = omega (arith, C.ends, length-append x y, e);
}

module _ {X : Type 0} {bytes : X → List ℕ} {value : List ℕ → X} {size : ℕ} (K : Coding bytes value size) where
  module _ (long : Bool) (s : List ℕ) (place : ℕ) (xs : List X) (l : List ℕ) (C : Cut s place (counted bytes xs ++ l)) where
    list_count : list_at s long size place ≡ listed long size place (length xs)
    unfolding list_at
    list_count = rw (C.stands, div-add-mod' (length xs) 256)

    after-count : Cut s (place + 2) (joined (map bytes xs) ++ l)
    after-count = cut_on s place (two (length xs)) (joined (map bytes xs) ++ l) 2 refl C

    list_records : many value size (length xs) (drop (place + 2) s) ≡ xs
    list_records = rw after-count.stands (many-back K xs (every-all (λ _. true) (λ _. refl) xs) l)

    list-behind : Cut s (behind (listed long size place (length xs))) l
    list-behind = cut_on s (place + 2) (joined (map bytes xs)) l (size * length xs) (joined-long K xs) after-count

module _ (v : Version) (J : Contents) where
  -- what stands from a part of J to the end
  abbrev sinks_on : List ℕ
  sinks_on = sink_bytes v J.sinks ++ []

  abbrev source_on : List ℕ
  source_on = endpoint v.long J.source ++ sinks_on

  abbrev reserved_on : List ℕ
  reserved_on = counted (position v.long) J.reserved ++ source_on

  abbrev terminals_on : List ℕ
  terminals_on = counted (position v.long) J.terminals ++ reserved_on

  abbrev clearances_on : List ℕ
  clearances_on = counted (position v.long) J.clearances ++ terminals_on

  abbrev conductors_on : List ℕ
  conductors_on = counted (position v.long) J.conductors ++ clearances_on

  abbrev blocks_on : List ℕ
  blocks_on = counted (block v.long) J.blocks ++ conductors_on

  abbrev run_on : List ℕ
  run_on = limit v.limits J.run ++ blocks_on

  abbrev config_on : List ℕ
  config_on = costs J.config ++ run_on

  at-sides : Cut (bytes_by v J) sides_place (sides v.long J.room ++ config_on)
  unfolding bytes_by rest
  at-sides = record { stands = refl; ends = omega arith }

  at-config : Cut (bytes_by v J) (config_place v) config_on
  at-config = cut_on (bytes_by v J) sides_place (sides v.long J.room) config_on (position_size v.long) ((rooms v.long).sized J.room) at-sides

  at-run : Cut (bytes_by v J) (run_place v) run_on
  at-run = cut_on (bytes_by v J) (config_place v) (costs J.config) run_on config_size refl at-config

  at-blocks : Cut (bytes_by v J) (lists_place v) blocks_on
  at-blocks = cut_on (bytes_by v J) (run_place v) (limit v.limits J.run) blocks_on (limit_size v.limits) ((limits v.limits usual_run).sized J.run) at-run

  at-conductors : Cut (bytes_by v J) (behind (layout_of v J).blocks) conductors_on
  unfolding layout_of
  at-conductors = list-behind (blocks v.long) v.long (bytes_by v J) (lists_place v) J.blocks conductors_on at-blocks

  at-clearances : Cut (bytes_by v J) (behind (layout_of v J).conductors) clearances_on
  unfolding layout_of
  at-clearances = list-behind (positions v.long) v.long (bytes_by v J) (behind (layout_of v J).blocks) J.conductors clearances_on at-conductors

  at-terminals : Cut (bytes_by v J) (behind (layout_of v J).clearances) terminals_on
  unfolding layout_of
  at-terminals = list-behind (positions v.long) v.long (bytes_by v J) (behind (layout_of v J).conductors) J.clearances terminals_on at-clearances

  at-reserved : Cut (bytes_by v J) (behind (layout_of v J).terminals) reserved_on
  unfolding layout_of
  at-reserved = list-behind (positions v.long) v.long (bytes_by v J) (behind (layout_of v J).clearances) J.terminals reserved_on at-terminals

  at_source : Cut (bytes_by v J) (layout_of v J).source.from source_on
  unfolding layout_of
  at_source = list-behind (positions v.long) v.long (bytes_by v J) (behind (layout_of v J).terminals) J.reserved source_on at-reserved

  -- the source is one record
  at_count : Cut (bytes_by v J) (behind (layout_of v J).source) sinks_on
  unfolding layout_of
  at_count =
      cut_on (bytes_by v J) (layout_of v J).source.from (endpoint v.long J.source) sinks_on (endpoint_size v.long * 1)
      ((endpoints v.long).sized J.source ∙ sym (mul-one (endpoint_size v.long))) at_source

  at-sinks : Cut (bytes_by v J) (layout_of v J).sinks.from (joined (map (sink v) J.sinks) ++ [])
  unfolding layout_of
  at-sinks = cut_on (bytes_by v J) (behind (layout_of v J).source) (length J.sinks ∷ []) (joined (map (sink v) J.sinks) ++ []) 1 refl at_count

  pub at-end : Cut (bytes_by v J) (behind (layout_of v J).sinks) []
  unfolding layout_of
  at-end = cut_on (bytes_by v J) (layout_of v J).sinks.from (joined (map (sink v) J.sinks)) [] (sink_size v * length J.sinks) (joined-long (sinks v) J.sinks) at-sinks

  sinks-count : sinks_at v (bytes_by v J) (behind (layout_of v J).source) ≡ (layout_of v J).sinks
  unfolding sinks_at layout_of
  sinks-count = rw at_count.stands

  pub layout_back : layout_in v (bytes_by v J) ≡ layout_of v J
  unfolding layout_in layout_of
  layout_back =
      rw (
        list_count (blocks v.long) v.long (bytes_by v J) (lists_place v) J.blocks conductors_on at-blocks,
        list_count (positions v.long) v.long (bytes_by v J) (behind (layout_of v J).blocks) J.conductors clearances_on at-conductors,
        list_count (positions v.long) v.long (bytes_by v J) (behind (layout_of v J).conductors) J.clearances terminals_on at-clearances,
        list_count (positions v.long) v.long (bytes_by v J) (behind (layout_of v J).clearances) J.terminals reserved_on at-terminals,
        list_count (positions v.long) v.long (bytes_by v J) (behind (layout_of v J).terminals) J.reserved source_on at-reserved,
        sinks-count,
      )

  pub room_back : room_in v.long (drop sides_place (bytes_by v J)) ≡ J.room
  room_back = rw at-sides.stands ((rooms v.long).back J.room refl config_on)

  config-back : config_in (drop (config_place v) (bytes_by v J)) ≡ J.config
  config-back = rw at-config.stands (configs.back J.config refl run_on)

  pub blocks-back : blocks_in (bytes_by v J) (layout_of v J).blocks ≡ J.blocks
  unfolding blocks_in layout_of
  blocks-back = list_records (blocks v.long) v.long (bytes_by v J) (lists_place v) J.blocks conductors_on at-blocks

  pub conductors-back : positions_in (bytes_by v J) (layout_of v J).conductors ≡ J.conductors
  unfolding positions_in layout_of
  conductors-back = list_records (positions v.long) v.long (bytes_by v J) (behind (layout_of v J).blocks) J.conductors clearances_on at-conductors

  pub clearances-back : positions_in (bytes_by v J) (layout_of v J).clearances ≡ J.clearances
  unfolding positions_in layout_of
  clearances-back = list_records (positions v.long) v.long (bytes_by v J) (behind (layout_of v J).conductors) J.clearances terminals_on at-clearances

  pub terminals-back : positions_in (bytes_by v J) (layout_of v J).terminals ≡ J.terminals
  unfolding positions_in layout_of
  terminals-back = list_records (positions v.long) v.long (bytes_by v J) (behind (layout_of v J).clearances) J.terminals reserved_on at-terminals

  pub reserved-back : positions_in (bytes_by v J) (layout_of v J).reserved ≡ J.reserved
  unfolding positions_in layout_of
  reserved-back = list_records (positions v.long) v.long (bytes_by v J) (behind (layout_of v J).terminals) J.reserved source_on at-reserved

  source-back : endpoint_in v.long (drop (layout_of v J).source.from (bytes_by v J)) ≡ J.source
  source-back = rw at_source.stands ((endpoints v.long).back J.source refl sinks_on)

  -- where the version tells the limits, they are read back
  module _ (t : tells_limits v J ≡ true) where
    abbrev tails_told : Bool
    tails_told = every (λ k. v.limits || eqb k.tail usual_tail) J.sinks

    limits-told : ((v.limits || eqb J.run usual_run) ≡ true) × (tails_told ≡ true)
    unfolding usual
    limits-told =
        ask v.limits
        (λ carried. rw carried (refl, every-all (λ _. true) (λ _. refl) J.sinks))
        (λ none.
        let u : usual J ≡ true = rw none at t in
        let tails : Bool = every (λ k. eqb k.tail usual_tail) J.sinks in
        rw none (and_left (eqb J.run usual_run) tails u, and_right (eqb J.run usual_run) tails u))

    run-back : limit_in v.limits usual_run (drop (run_place v) (bytes_by v J)) 0 ≡ J.run
    run-back = rw at-run.stands ((limits v.limits usual_run).back J.run limits-told.0 blocks_on)

    sinks-back : sinks_in v (bytes_by v J) (layout_of v J).sinks ≡ J.sinks
    unfolding sinks_in layout_of
    sinks-back = rw at-sinks.stands (many-back (sinks v) J.sinks limits-told.1 [])

  pub contents-back : tells_limits v J ≡ true → contents_in v (bytes_by v J) ≡ J
  unfolding contents_in
  contents-back t =
      rw layout_back (λ i. record {
        room = room_back i;
        config = config-back i;
        run = run-back t i;
        blocks = blocks-back i;
        conductors = conductors-back i;
        clearances = clearances-back i;
        terminals = terminals-back i;
        reserved = reserved-back i;
        source = source-back i;
        sinks = sinks-back t i;
      })

  pub shaped-back : length (bytes_by v J) ≤ max_bytes → length J.sinks ≤ max_sinks → Shaped v (bytes_by v J)
  unfolding bytes_by layout_of
  shaped-back h k = record {
    short = h;
    of_version = refl;
    rest-long = omega (arith, four-back (length (rest v J)) (rest v J));
    few-sinks = rw layout_back k;
    whole = rw layout_back (omega (arith, at-end.ends));
  }

-- ---- the layout of a sheet, put together from part to part

pub laid_out : (v : Version) (s : List ℕ) {m n p₁ p₂ p₃ p₄ p₅ p₆ p₇ : ℕ} {b c l t r e k : Part}
    → m ≡ position_size v.long
    → n ≡ block_size v.long
    → p₁ ≡ lists_place v
    → b ≡ list_at s v.long n p₁
    → p₂ ≡ behind b
    → c ≡ list_at s v.long m p₂
    → p₃ ≡ behind c
    → l ≡ list_at s v.long m p₃
    → p₄ ≡ behind l
    → t ≡ list_at s v.long m p₄
    → p₅ ≡ behind t
    → r ≡ list_at s v.long m p₅
    → p₆ ≡ behind r
    → e ≡ source_at v p₆
    → p₇ ≡ behind e
    → k ≡ sinks_at v s p₇
    → ◌≡◌ {A = Layout} (record { blocks = b; conductors = c; clearances = l; terminals = t; reserved = r; source = e; sinks = k }) (layout_in v s)
unfolding layout_in
laid_out v s em en e₁ eb e₂ ec e₃ el e₄ et e₅ er e₆ ee e₇ ek = rw (ek, e₇, ee, e₆, er, e₅, et, e₄, el, e₃, ec, e₂, eb, e₁, en, em)

-- ---- what a sheet says has its bytes

-- the parts come one after another
record PlacesOrdered (v : Version) (L : Layout) : Type 0 where
  pub blocks_from : L.blocks.from ≡ lists_place v + 2
  pub conductors-from : L.conductors.from ≡ behind L.blocks + 2
  pub clearances-from : L.clearances.from ≡ behind L.conductors + 2
  pub terminals-from : L.terminals.from ≡ behind L.clearances + 2
  pub reserved-from : L.reserved.from ≡ behind L.terminals + 2
  pub source-from : L.source.from ≡ behind L.reserved
  pub sinks-from : L.sinks.from ≡ behind L.source + 1

ordered : (v : Version) (s : List ℕ) → PlacesOrdered v (layout_in v s)
unfolding layout_in list_at sinks_at
ordered v s = record {
  blocks_from = refl;
  conductors-from = refl;
  clearances-from = refl;
  terminals-from = refl;
  reserved-from = refl;
  source-from = refl;
  sinks-from = refl;
}

module _ {X : Type 0} {told : X → Bool} {bytes : X → List ℕ} {value : List ℕ → X} {size : ℕ} (K : CodingOf told bytes value size) (s : List ℕ) (b : Bytes s) where
  value_forth : (place : ℕ) → place + size ≤ length s → bytes (value (drop place s)) ++ drop (place + size) s ≡ drop place s
  value_forth place h = rw (← drop-drop size place s) (K.forth (drop place s) (bytes_drop place s b) (simp length-drop (omega arith)))

  records_forth : (place n : ℕ) → place + size * n ≤ length s
      → joined (map bytes (many value size n (drop place s))) ++ drop (place + size * n) s ≡ drop place s
  records_forth place n h =
      rw (← drop-drop (size * n) place s) (many-forth K n (drop place s) (bytes_drop place s b) (simp length-drop (omega arith)))

  list-forth : (long : Bool) (place : ℕ) → behind (list_at s long size place) ≤ length s
      → counted bytes (many value size (list_at s long size place).count (drop (list_at s long size place).from s)) ++ drop (behind (list_at s long size place)) s ≡ drop place s
  unfolding list_at
  list-forth long place h =
      let l : List ℕ = drop place s in
      let n : ℕ = two_in l 0 in
      let xs : List X = many value size n (drop (place + 2) s) in
      let r : List ℕ = joined (map bytes xs) ++ drop (place + 2 + size * n) s in
      (λ i. two (many-long value size n (drop (place + 2) s) i) ++ r)
      ∙ (λ i. two-forth l (bytes_drop place s b) 0 i ++ r)
      ∙ ap {B = List ℕ} (λ x. get_or l 0 0 ∷ get_or l 1 0 ∷ x) (records_forth (place + 2) n h)
      ∙ rw (← drop-drop 2 place s) (span_drop 2 0 l (simp length-drop (omega arith)))

-- each part ends within the sheet
pub record PartsIn (s : List ℕ) (L : Layout) : Type 0 where
  pub blocks : behind L.blocks ≤ length s
  pub conductors : behind L.conductors ≤ length s
  pub clearances : behind L.clearances ≤ length s
  pub terminals : behind L.terminals ≤ length s
  pub reserved : behind L.reserved ≤ length s
  pub source : behind L.source ≤ length s
  pub sinks : behind L.sinks ≤ length s

parts_in_layout : (v : Version) (s : List ℕ) → Shaped v s → PartsIn s (layout_in v s)
parts_in_layout v s S = record {
  blocks = omega (arith, ordered v s);
  conductors = omega (arith, ordered v s);
  clearances = omega (arith, ordered v s);
  terminals = omega (arith, ordered v s);
  reserved = omega (arith, ordered v s);
  source = omega (arith, ordered v s);
  sinks = omega arith;
}

pub parts_in : (v : Version) (s : List ℕ) → Shaped v s → (L : Layout) → L ≡ layout_in v s → PartsIn s L
parts_in v s S L e = rw e (parts_in_layout v s S)

-- a part, and what follows it
then-on : (x : List ℕ) {y z w : List ℕ} → x ++ z ≡ w → y ≡ z → x ++ y ≡ w
then-on x e f = rw f e

module _ (v : Version) (s : List ℕ) (b : Bytes s) (S : Shaped v s) where
  abbrev L : Layout
  L = layout_in v s

  blocks-forth : counted (block v.long) (blocks_in s L.blocks) ++ drop (behind L.blocks) s ≡ drop (lists_place v) s
  unfolding blocks_in layout_in list_at
  blocks-forth = list-forth (blocks v.long) s b v.long (lists_place v) (parts_in_layout v s S).blocks

  conductors-forth : counted (position v.long) (positions_in s L.conductors) ++ drop (behind L.conductors) s ≡ drop (behind L.blocks) s
  unfolding positions_in layout_in list_at
  conductors-forth = list-forth (positions v.long) s b v.long (behind L.blocks) (parts_in_layout v s S).conductors

  clearances-forth : counted (position v.long) (positions_in s L.clearances) ++ drop (behind L.clearances) s ≡ drop (behind L.conductors) s
  unfolding positions_in layout_in list_at
  clearances-forth = list-forth (positions v.long) s b v.long (behind L.conductors) (parts_in_layout v s S).clearances

  terminals-forth : counted (position v.long) (positions_in s L.terminals) ++ drop (behind L.terminals) s ≡ drop (behind L.clearances) s
  unfolding positions_in layout_in list_at
  terminals-forth = list-forth (positions v.long) s b v.long (behind L.clearances) (parts_in_layout v s S).terminals

  reserved-forth : counted (position v.long) (positions_in s L.reserved) ++ drop L.source.from s ≡ drop (behind L.terminals) s
  unfolding positions_in layout_in list_at
  reserved-forth = list-forth (positions v.long) s b v.long (behind L.terminals) (parts_in_layout v s S).reserved

  -- the source is one record
  one-behind : L.source.from + endpoint_size v.long ≡ behind L.source
  unfolding layout_in
  one-behind = ap (λ n. L.source.from + n) (sym (mul-one (endpoint_size v.long)))

  source-forth : endpoint v.long (endpoint_in v.long (drop L.source.from s)) ++ drop (behind L.source) s ≡ drop L.source.from s
  source-forth = rw (← one-behind) (value_forth (endpoints v.long) s b L.source.from (rw one-behind (parts_in_layout v s S).source))

  next-byte : (p : ℕ) → p < length s → get_or (drop p s) 0 0 ∷ drop (p + 1) s ≡ drop p s
  next-byte p h = rw (get_or-drop, add-zero) (sym (drop_next s p 0 h))

  sinks-forth : sink_bytes v (sinks_in v s L.sinks) ++ [] ≡ drop (behind L.source) s
  unfolding sinks_in layout_in sinks_at
  sinks-forth =
      let p : ℕ = behind L.source in
      let n : ℕ = L.sinks.count in
      let xs : List Sink = sinks_in v s L.sinks in
      let none : [] ≡ drop (p + 1 + sink_size v * n) s = rw S.whole (sym (drop-length s)) in
      (λ i. many-long (sink_in v) (sink_size v) n (drop (p + 1) s) i ∷ (joined (map (sink v) xs) ++ none i))
      ∙ ap {B = List ℕ} (λ r. n ∷ r) (records_forth (sinks v) s b (p + 1) n (omega arith))
      ∙ next-byte p (omega arith)

  rest-forth : rest v (contents_in v s) ≡ drop sides_place s
  unfolding rest contents_in
  rest-forth =
      then-on (sides v.long (room_in v.long (drop sides_place s))) (value_forth (rooms v.long) s b sides_place (omega (arith, ordered v s)))
      (then-on (costs (config_in (drop (config_place v) s))) (value_forth configs s b (config_place v) (omega (arith, ordered v s)))
      (then-on (limit v.limits (limit_in v.limits usual_run (drop (run_place v) s) 0)) (value_forth (limits v.limits usual_run) s b (run_place v) (omega (arith, ordered v s)))
      (then-on (counted (block v.long) (blocks_in s L.blocks)) blocks-forth
      (then-on (counted (position v.long) (positions_in s L.conductors)) conductors-forth
      (then-on (counted (position v.long) (positions_in s L.clearances)) clearances-forth
      (then-on (counted (position v.long) (positions_in s L.terminals)) terminals-forth
      (then-on (counted (position v.long) (positions_in s L.reserved)) reserved-forth
      (then-on (endpoint v.long (endpoint_in v.long (drop L.source.from s))) source-forth sinks-forth))))))))

  pub bytes-forth : bytes_by v (contents_in v s) ≡ s
  unfolding bytes_by
  bytes-forth =
      let n : length (rest v (contents_in v s)) ≡ four_in (drop 1 s) 0 = rw (rest-forth, length-drop) (omega arith) in
      (λ i. v.number ∷ (four (n i) ++ rest-forth i))
      ∙ ap {B = List ℕ} (λ r. v.number ∷ r) (value_forth fours s b 1 (omega (arith, ordered v s)))
      ∙ ap {B = List ℕ} (λ a. a ∷ drop 1 s) (sym S.of_version)
      ∙ sym (drop-cons s 0 0 (omega (arith, ordered v s)))
