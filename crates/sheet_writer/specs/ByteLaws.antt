-- Good contents have bytes below 256: what no byte holds is a fault, or one of number 1's reasons.
use Rattle.std.specs.Prelude.{◌≡◌, Bool, false, ◌&&◌, List, [], ◌∷◌, ◌++◌, map, ℕ, zero, suc, ◌+◌, ◌*◌, ◌/◌, ◌%◌, ◌≤◌, ◌<◌, ltb, length, get_or, drop}
use Rattle.std.proofs.Math.Path.{refl}
use Rattle.std.proofs.Common.{mod-lt, mod-eq_of_lt, div-lt_iff_lt-mul, mul-le-mul_right, arith, drop-drop, get_or-drop}
use Rattle.std.proofs.Math.Bool.{true}
use borrow.Author.Tests.{lt-ltb, ltb-true, leb-true}
use Rattle.basics.specs.Tests.{and_left, and_right, and_both, passed}
use Rattle.basics.specs.Lists.{every, every_map, every-joined, every_append, joined}
use Rattle.room.specs.declared.Room.{Room}
use Rattle.room.specs.declared.Pos.{Pos}
use Rattle.room.specs.declared.RouterConfig.{RouterConfig}
use Rattle.room.specs.Room.{Within}
use Rattle.room.specs.RoomLaws.{between-high}
use Rattle.room.specs.Units.{GoodRanges, max_kind, kind_known, max_facing, facing_known, max_port, port_known}
use Rattle.job_sheet.specs.declared.Block.{Block}
use Rattle.job_sheet.specs.declared.Endpoint.{Endpoint}
use Rattle.job_sheet.specs.declared.Sink.{Sink}
use Rattle.job_sheet.specs.declared.Judgement.TheVariants.{Good, Code}
use Rattle.job_sheet.specs.declared.Version.{Version}
use Rattle.job_sheet.specs.Version.{position_size, block_size, sides_within, most_limit, limit_within}
use Rattle.job_sheet.specs.VersionLaws.{good-config}
use Rattle.job_sheet.specs.Sheet.{Contents, max_bytes, max_sinks, layout_of, two, four, coordinate, sides, costs, position, block, endpoint, limit, sink, counted, rest, bytes_by, is_good, judged, block_fault, position_fault, endpoint_fault, sink_fault}
use Rattle.job_sheet.proofs.FaultLaws.{good-is}
use Rattle.job_sheet.proofs.AcceptedLaws.{no_fault, first_good, faultless, position-within, block_within, endpoint-within, tail_within}
use Rattle.job_sheet.specs.Places.{many}
use Rattle.sheet_writer.specs.Writer.{block_numbers, block_from, blocks_of, low}
use Rattle.sheet_writer.specs.ChoiceLaws.{side_end, Writable}
use Rattle.sheet_writer.specs.SizeLaws.{bytes-end, width_some}

abbrev pub is_byte : ℕ → Bool
is_byte n = ltb n 256

-- the low bytes of bytes are these
pub low_same : (l : List ℕ) → every is_byte l ≡ true → low l ≡ l
low_same [] e = refl
low_same (n ∷ l) e =
    let h : n < 256 = ltb-true n 256 (and_left (is_byte n) (every is_byte l) e) in
    λ i. mod-eq_of_lt h i ∷ low_same l (and_right (is_byte n) (every is_byte l) e) i

byte : (n : ℕ) → n < 256 → is_byte n ≡ true
byte n h = lt-ltb n 256 h

div_small : (n k m : ℕ) → 0 < k → n < m * k → n / k < m
div_small n k m h l = (div-lt_iff_lt-mul {k = k} h).1 l

two_bytes : (n : ℕ) → n < 65536 → every is_byte (two n) ≡ true
two_bytes n h = and_both (byte (n / 256) (div_small n 256 256 (omega arith) (omega arith))) (and_both (byte (n % 256) (mod-lt n {m = 256} (omega arith))) refl)

four_bytes : (n : ℕ) → n < 4294967296 → every is_byte (four n) ≡ true
four_bytes n h =
    rw (every_append is_byte (two (n / 65536)) (two (n % 65536))) (and_both (two_bytes (n / 65536) (div_small n 65536 65536 (omega arith) (omega arith))) (two_bytes (n % 65536) (mod-lt n {m = 65536} (omega arith))))

-- records one after another
all-bytes : {X : Type 0} (bytes : X → List ℕ) (p : X → Bool) → ((x : X) → p x ≡ true → every is_byte (bytes x) ≡ true)
    → (xs : List X) → every p xs ≡ true → every is_byte (joined (map bytes xs)) ≡ true
all-bytes bytes p f [] e = refl
all-bytes bytes p f (x ∷ xs) e =
    rw (every_append is_byte (bytes x) (joined (map bytes xs))) (and_both (f x (and_left (p x) (every p xs) e)) (all-bytes bytes p f xs (and_right (p x) (every p xs) e)))

counted-bytes : {X : Type 0} (bytes : X → List ℕ) (p : X → Bool) → ((x : X) → p x ≡ true → every is_byte (bytes x) ≡ true)
    → (xs : List X) → every p xs ≡ true → length xs < 65536 → every is_byte (counted bytes xs) ≡ true
counted-bytes bytes p f xs e h =
    rw (every_append is_byte (two (length xs)) (joined (map bytes xs))) (and_both (two_bytes (length xs) h) (all-bytes bytes p f xs e))

-- ---- the records

coordinate-bytes : (long : Bool) (n : ℕ) → n < side_end long → every is_byte (coordinate long n) ≡ true
coordinate-bytes false n h = and_both (byte n h) refl
coordinate-bytes true n h = two_bytes n h

limit-bytes : (carried : Bool) (n : ℕ) → limit_within n ≡ true → every is_byte (limit carried n) ≡ true
unfolding limit_within
limit-bytes false n e = refl
limit-bytes true n e = and_both (byte n (omega (arith, between-high 1 n most_limit e))) refl

-- sides that a coordinate holds
record SidesHeld (long : Bool) (R : Room) : Type 0 where
  pub x_held : R.wide < side_end long
  pub y_held : R.high < side_end long
  pub z_held : R.deep < side_end long

sides-held : (v : Version) → v.ranges.side < side_end v.long → (R : Room) → sides_within v.ranges R ≡ true → SidesHeld v.long R
unfolding sides_within
sides-held v h R e = record {
  x_held = omega (arith, h, between-high 1 R.wide v.ranges.side (search passed));
  y_held = omega (arith, h, between-high 1 R.high v.ranges.side (search passed));
  z_held = omega (arith, h, between-high 1 R.deep v.ranges.side (search passed));
}

module _ (long : Bool) (R : Room) (G : SidesHeld long R) where
  sides-bytes : every is_byte (sides long R) ≡ true
  sides-bytes = rw (every-joined is_byte (coordinate long R.wide ∷ coordinate long R.high ∷ coordinate long R.deep ∷ []))
      (and_both (coordinate-bytes long R.wide G.x_held) (and_both (coordinate-bytes long R.high G.y_held) (and_both (coordinate-bytes long R.deep G.z_held) refl)))

  position-bytes : (p : Pos) → Within R p → every is_byte (position long p) ≡ true
  position-bytes p w = rw (every-joined is_byte (coordinate long p.x ∷ coordinate long p.y ∷ coordinate long p.z ∷ []))
      (and_both (coordinate-bytes long p.x (omega (arith, w.x_in, G.x_held)))
      (and_both (coordinate-bytes long p.y (omega (arith, w.y_in, G.y_held))) (and_both (coordinate-bytes long p.z (omega (arith, w.z_in, G.z_held))) refl)))

  -- a position, and two codes behind it
  coded_bytes : (p : Pos) (a b : ℕ) → Within R p → a < 256 → b < 256 → every is_byte (position long p ++ (a ∷ b ∷ [])) ≡ true
  coded_bytes p a b w h k = rw (every_append is_byte (position long p) (a ∷ b ∷ [])) (and_both (position-bytes p w) (and_both (byte a h) (and_both (byte b k) refl)))

  block-bytes : (b : Block) → is_good (block_fault R b) && ltb b.node 65536 ≡ true → every is_byte (block long b) ≡ true
  unfolding block_fault
  block-bytes b e =
      let g : is_good (block_fault R b) ≡ true = and_left (is_good (block_fault R b)) (ltb b.node 65536) e in
      let n : b.node < 65536 = ltb-true b.node 65536 (and_right (is_good (block_fault R b)) (ltb b.node 65536) e) in
      let all = first_good _ (good-is _ g) in
      let kind : b.kind ≤ max_kind = leb-true b.kind max_kind (faultless (kind_known b.kind) Code refl (search passed)) in
      let facing : b.facing ≤ max_facing = leb-true b.facing max_facing (faultless (facing_known b.facing) Code refl (search passed)) in
      rw (every_append is_byte (two b.node) (position long b.at ++ (b.kind ∷ b.facing ∷ []))) (and_both (two_bytes b.node n) (coded_bytes b.at b.kind b.facing (block_within R b g) (omega arith) (omega arith)))

  endpoint-bytes : (e : Endpoint) → is_good (endpoint_fault R e) ≡ true → every is_byte (endpoint long e) ≡ true
  unfolding endpoint_fault
  endpoint-bytes e g =
      let all = first_good _ (good-is _ g) in
      let port : e.port ≤ max_port = leb-true e.port max_port (faultless (port_known e.port) Code refl (search passed)) in
      let facing : e.facing ≤ max_facing = leb-true e.facing max_facing (faultless (facing_known e.facing) Code refl (search passed)) in
      coded_bytes e.at e.port e.facing (endpoint-within R e g) (omega arith) (omega arith)

  sink-bytes : (carried : Bool) (k : Sink) → is_good (sink_fault R k) ≡ true → every is_byte (endpoint long k.end ++ limit carried k.tail) ≡ true
  unfolding sink_fault
  sink-bytes carried k g =
      let all = first_good _ (good-is _ g) in
      rw (every_append is_byte (endpoint long k.end) (limit carried k.tail)) (and_both (endpoint-bytes k.end (search passed)) (limit-bytes carried k.tail (tail_within R k g)))

costs-bytes : (C : RouterConfig) → GoodRanges C → every is_byte (costs C) ≡ true
costs-bytes C G =
    rw (every-joined is_byte (four C.limit.0 ∷ four C.horizontal.0 ∷ four C.stair.0 ∷ four C.support.0 ∷ [])) (and_both (four_bytes C.limit.0 (omega (arith, G.limit-most)))
    (and_both (four_bytes C.horizontal.0 (omega (arith, G.horizontal-most)))
    (and_both (four_bytes C.stair.0 (omega (arith, G.stair_most))) (and_both (four_bytes C.support.0 (omega (arith, G.support_most))) refl))))

-- ---- the whole sheet

both-every : {X : Type 0} (p q : X → Bool) (xs : List X) → every p xs ≡ true → every q xs ≡ true → every (λ x. p x && q x) xs ≡ true
both-every p q [] e f = refl
both-every p q (x ∷ xs) e f =
    and_both (and_both (and_left (p x) (every p xs) e) (and_left (q x) (every q xs) f)) (both-every p q xs (and_right (p x) (every p xs) e) (and_right (q x) (every q xs) f))

-- each count is below what its bytes hold
record Sized (v : Version) (J : Contents) : Type 0 where
  pub blocks : length J.blocks < 65536
  pub conductors : length J.conductors < 65536
  pub clearances : length J.clearances < 65536
  pub terminals : length J.terminals < 65536
  pub reserved : length J.reserved < 65536
  pub sinks : length J.sinks < 256
  pub rest : length (rest v J) < 4294967296

-- a list has no more records than it takes bytes
few-within : (size n bytes : ℕ) → 1 ≤ size → size * n ≤ bytes → n ≤ bytes
few-within size n bytes some h = omega (arith, mul-le-mul_right n some, h)

sized : (v : Version) (J : Contents) → length (bytes_by v J) ≤ max_bytes → length J.sinks ≤ max_sinks → Sized v J
unfolding layout_of bytes_by
sized v J s k =
    let long = v.long in
    let some : 1 ≤ position_size long = omega (arith, width_some long) in
    let e = bytes-end v J in
    let b : length J.blocks ≤ max_bytes = few-within (block_size long) (length J.blocks) max_bytes (omega arith) (omega (arith, e, s)) in
    let c : length J.conductors ≤ max_bytes = few-within (position_size long) (length J.conductors) max_bytes some (omega (arith, e, s)) in
    let l : length J.clearances ≤ max_bytes = few-within (position_size long) (length J.clearances) max_bytes some (omega (arith, e, s)) in
    let t : length J.terminals ≤ max_bytes = few-within (position_size long) (length J.terminals) max_bytes some (omega (arith, e, s)) in
    let r : length J.reserved ≤ max_bytes = few-within (position_size long) (length J.reserved) max_bytes some (omega (arith, e, s)) in
    record {
      blocks = omega (arith, b);
      conductors = omega (arith, c);
      clearances = omega (arith, l);
      terminals = omega (arith, t);
      reserved = omega (arith, r);
      sinks = omega arith;
      rest = omega arith;
    }

-- a node that two bytes hold
abbrev pub node_held : Block → Bool
node_held b = ltb b.node 65536

pub good-bytes : (v : Version) → Writable v → (J : Contents) → judged v J ≡ Good → length (bytes_by v J) ≤ max_bytes → length J.sinks ≤ max_sinks → every node_held J.blocks ≡ true
    → every is_byte (bytes_by v J) ≡ true
unfolding bytes_by rest
good-bytes v W J g s k n =
    let R = J.room in
    let long = v.long in
    let N = no_fault v J g in
    let G = sides-held v W.held R N.sides in
    let Z = sized v J s k in
    let position-good : (p : Pos) → is_good (position_fault R p) ≡ true → every is_byte (position long p) ≡ true = λ p e. position-bytes long R G p (position-within R p e) in
    let all : every is_byte (rest v J) ≡ true =
    rw every-joined (and_both (sides-bytes long R G) (and_both (costs-bytes J.config (good-config v.ranges J.room J.config N.config).ranges)
    (and_both (limit-bytes v.limits J.run N.run)
    (and_both (counted-bytes (block long) (λ b. is_good (block_fault R b) && node_held b) (block-bytes long R G) J.blocks (both-every (λ b. is_good (block_fault R b)) node_held J.blocks (rw every_map at N.blocks) n) Z.blocks)
    (and_both (counted-bytes (position long) (λ p. is_good (position_fault R p)) position-good J.conductors (rw every_map at N.conductors) Z.conductors)
    (and_both (counted-bytes (position long) (λ p. is_good (position_fault R p)) position-good J.clearances (rw every_map at N.clearances) Z.clearances)
    (and_both (counted-bytes (position long) (λ p. is_good (position_fault R p)) position-good J.terminals (rw every_map at N.terminals) Z.terminals)
    (and_both (counted-bytes (position long) (λ p. is_good (position_fault R p)) position-good J.reserved (rw every_map at N.reserved) Z.reserved)
    (and_both (endpoint-bytes long R G J.source N.source)
    (and_both (and_both (byte (length J.sinks) Z.sinks) (all-bytes (sink v) (λ k. is_good (sink_fault R k)) (sink-bytes long R G v.limits) J.sinks (rw every_map at N.sinks))) refl)))))))))) in
    and_both (byte v.number W.numbered) (rw (every_append is_byte (four (length (rest v J))) (rest v J)) (and_both (four_bytes (length (rest v J)) Z.rest) all))

-- ---- the nodes of a list of 16-bit numbers

many-every : {X : Type 0} (p : X → Bool) (value : List ℕ → X) (size n : ℕ) (l : List ℕ) → ((m : ℕ) → p (value (drop m l)) ≡ true) → every p (many value size n l) ≡ true
many-every p value size zero l f = refl
many-every p value size (suc n) l f = and_both (f 0) (many-every p value size n (drop size l) (λ m. rw (drop-drop m size l) (f (size + m))))

-- what a slice of 16-bit numbers holds
abbrev pub Words : List ℕ → Type 0
Words l = (i : ℕ) → get_or l i 0 < 65536

pub nodes-held : (l : List ℕ) → Words l → every node_held (blocks_of l) ≡ true
unfolding blocks_of
nodes-held l w =
    many-every node_held block_from block_numbers (length l / block_numbers) l (λ m. lt-ltb (get_or (drop m l) 0 0) 65536 (rw get_or-drop (w (m + 0))))
