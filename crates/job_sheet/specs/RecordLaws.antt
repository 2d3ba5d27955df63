-- Records are read back as they were written, and written as they were read: first one record of each sort, then lists of them.
use Rattle.std.specs.Prelude.{◌≡◌, refl, Bool, true, false, ◌||◌, List, [], ◌∷◌, ◌++◌, map, ℕ, suc, zero, ◌+◌, ◌*◌, ◌/◌, ◌%◌, ◌≤◌, ◌<◌, eqb, length, get_or, drop}
use Rattle.std.proofs.Common.{sym, ap, ◌∙◌, append_assoc, div-add-mod', le_of_lt, mul-le-mul_left, mul-suc, mul-zero, add-zero, add-suc, suc-add, add_comm, arith, eqb-true, length-append, length-drop, drop-cons, drop_at, get_or-drop}
use Rattle.std.proofs.Math.Arith.{digits_div, digits_mod}
use Rattle.std.proofs.Math.Seq.{drop-drop}
use Rattle.basics.specs.Tests.{and_left, and_right}
use Rattle.basics.specs.Lists.{every, joined}
use Rattle.room.specs.declared.Pos.{Pos}
use Rattle.room.specs.Room.{at}
use Rattle.job_sheet.specs.declared.Block.{Block}
use Rattle.job_sheet.specs.declared.Part.{Part}
use Rattle.job_sheet.specs.declared.Sink.{Sink}
use Rattle.job_sheet.specs.declared.Version.{Version}
use Rattle.job_sheet.specs.UsualLimits.{usual_tail}
use Rattle.job_sheet.specs.Version.{position_size, block_size, endpoint_size, limit_size, sink_size, config_size}
use Rattle.job_sheet.specs.Sheet.{two, four, sides, costs, position, block, endpoint, limit, sink, behind}
use Rattle.job_sheet.specs.Places.{two_in, four_in, coordinate_in, room_in, config_in, position_in, block_in, endpoint_in, limit_in, sink_in, many, no_block, no_position, blocks_in, positions_in}

-- ---- bytes

-- what a slice of bytes holds
abbrev pub Bytes : List ℕ → Type 0
Bytes l = (i : ℕ) → get_or l i 0 < 256

pub bytes_drop : (n : ℕ) (l : List ℕ) → Bytes l → Bytes (drop n l)
bytes_drop n l b i = rw get_or-drop (b (n + i))

-- k elements from place i on
abbrev pub span : ℕ → ℕ → List ℕ → List ℕ
span zero i l = []
span (suc k) i l = get_or l i 0 ∷ span k (suc i) l

pub span_drop : (k i : ℕ) (l : List ℕ) → i + k ≤ length l → span k i l ++ drop (i + k) l ≡ drop i l
span_drop zero i l h = rw add-zero
span_drop (suc k) i l h =
    let h' : i < length l = omega arith in
    rw (drop-cons l i 0 h', add-suc, ← suc-add) (ap {B = List ℕ} (λ r. get_or l i 0 ∷ r) (span_drop k (suc i) l (omega arith)))

-- ---- one record

pub four-back : (n : ℕ) (l : List ℕ) → four_in (four n ++ l) 0 ≡ n
four-back n l = rw (div-add-mod' (n / 65536) 256, div-add-mod' (n % 65536) 256, div-add-mod' n 65536)

module _ (l : List ℕ) (b : Bytes l) (k : ℕ) where
  pub two-forth : two (two_in l k) ≡ get_or l k 0 ∷ get_or l (k + 1) 0 ∷ []
  two-forth = λ i. digits_div (get_or l k 0) (b (k + 1)) i ∷ digits_mod (get_or l k 0) (b (k + 1)) i ∷ []

  two-small : two_in l k < 65536
  two-small = omega (arith, b k, b (k + 1))

-- a coordinate of one byte or two
pub coordinate-small : (long : Bool) (l : List ℕ) → Bytes l → (k : ℕ) → coordinate_in long l k < 65536
coordinate-small false l b k = omega (arith, b k)
coordinate-small true l b k = two-small l b k

four-forth : (l : List ℕ) → Bytes l → (k : ℕ) → four (four_in l k) ≡ (get_or l k 0 ∷ get_or l (k + 1) 0 ∷ []) ++ (get_or l (k + 2) 0 ∷ get_or l (k + 2 + 1) 0 ∷ [])
four-forth l b k =
    let h = two-small l b (k + 2) in
    (λ i. two (digits_div (two_in l k) h i) ++ two (digits_mod (two_in l k) h i)) ∙ (λ i. two-forth l b k i ++ two-forth l b (k + 2) i)

-- how a value is written, read back where the bytes tell all of it, and how long it is
pub record CodingOf {X : Type 0} (told : X → Bool) (bytes : X → List ℕ) (value : List ℕ → X) (size : ℕ) : Type 0 where
  pub sized : (x : X) → length (bytes x) ≡ size
  pub back : (x : X) → told x ≡ true → (l : List ℕ) → value (bytes x ++ l) ≡ x
  pub forth : (l : List ℕ) → Bytes l → size ≤ length l → bytes (value l) ++ drop size l ≡ l

-- bytes that tell all of any value
abbrev pub Coding : {X : Type 0} → (X → List ℕ) → (List ℕ → X) → ℕ → Type 0
Coding bytes value size = CodingOf (λ _. true) bytes value size

pub fours : Coding four (λ l. four_in l 0) 4
fours = record { sized = λ x. refl; back = λ x t. four-back x; forth = λ l b h. (λ i. four-forth l b 0 i ++ drop 4 l) ∙ span_drop 4 0 l h }

pub rooms : (long : Bool) → Coding (sides long) (room_in long) (position_size long)
rooms false = record { sized = λ x. refl; back = λ x t l. refl; forth = λ l b h. span_drop 3 0 l h }
rooms true = record {
  sized = λ x. refl;
  back = λ x t l i. record { wide = div-add-mod' x.wide 256 i; high = div-add-mod' x.high 256 i; deep = div-add-mod' x.deep 256 i };
  forth = λ l b h. (λ i. joined (two-forth l b 0 i ∷ two-forth l b 2 i ∷ two-forth l b 4 i ∷ []) ++ drop 6 l) ∙ span_drop 6 0 l h;
}

pub configs : Coding costs config_in config_size
configs = record {
  sized = λ x. refl;
  back = λ x t l i. record {
    limit = record { 0 = four-back x.limit.0 l i };
    horizontal = record { 0 = four-back x.horizontal.0 l i };
    stair = record { 0 = four-back x.stair.0 l i };
    support = record { 0 = four-back x.support.0 l i };
  };
  forth = λ l b h. (λ i. joined (four-forth l b 0 i ∷ four-forth l b 4 i ∷ four-forth l b 8 i ∷ four-forth l b 12 i ∷ []) ++ drop 16 l) ∙ span_drop 16 0 l h;
}

long-back : (p : Pos) → ◌≡◌ {A = Pos} (at (p.x / 256 * 256 + p.x % 256) (p.y / 256 * 256 + p.y % 256) (p.z / 256 * 256 + p.z % 256)) p
long-back p i = at (div-add-mod' p.x 256 i) (div-add-mod' p.y 256 i) (div-add-mod' p.z 256 i)

pub positions : (long : Bool) → Coding (position long) (λ l. position_in long l 0) (position_size long)
positions false = record { sized = λ x. refl; back = λ x t l. refl; forth = λ l b h. span_drop 3 0 l h }
positions true = record {
  sized = λ x. refl;
  back = λ x t l. long-back x;
  forth = λ l b h. (λ i. joined (two-forth l b 0 i ∷ two-forth l b 2 i ∷ two-forth l b 4 i ∷ []) ++ drop 6 l) ∙ span_drop 6 0 l h;
}

pub endpoints : (long : Bool) → Coding (endpoint long) (endpoint_in long) (endpoint_size long)
endpoints false = record { sized = λ x. refl; back = λ x t l. refl; forth = λ l b h. span_drop 5 0 l h }
endpoints true = record {
  sized = λ x. refl;
  back = λ x t l i. record { at = long-back x.at i; port = x.port; facing = x.facing };
  forth = λ l b h. (λ i. joined (two-forth l b 0 i ∷ two-forth l b 2 i ∷ two-forth l b 4 i ∷ []) ++ (span 2 6 l ++ drop 8 l)) ∙ span_drop 8 0 l h;
}

-- a limit that isn't carried is told where it is the usual one
pub limits : (carried : Bool) (usual : ℕ) → CodingOf (λ n. carried || eqb n usual) (limit carried) (λ l. limit_in carried usual l 0) (limit_size carried)
limits false usual = record { sized = λ x. refl; back = λ x t l. sym (eqb-true x usual t); forth = λ l b h. refl }
limits true usual = record { sized = λ x. refl; back = λ x t l. refl; forth = λ l b h. span_drop 1 0 l h }

-- a sink: its endpoint, and its tail limit
module _ (long carried : Bool) where
  abbrev tail_told : Sink → Bool
  tail_told k = carried || eqb k.tail usual_tail

  abbrev sink_bytes_by : Sink → List ℕ
  sink_bytes_by k = endpoint long k.end ++ limit carried k.tail

  abbrev sink_by : List ℕ → Sink
  sink_by l = record { end = endpoint_in long l; tail = limit_in carried usual_tail l (endpoint_size long) }

  abbrev SinkCoding : Type 0
  SinkCoding = CodingOf tail_told sink_bytes_by sink_by (endpoint_size long + limit_size carried)

sinks-by : (long carried : Bool) → SinkCoding long carried
sinks-by false false = record {
  sized = λ k. refl;
  back = λ k t l i. record { end = k.end; tail = sym (eqb-true k.tail usual_tail t) i };
  forth = λ l b h. span_drop 5 0 l h;
}
sinks-by false true = record { sized = λ k. refl; back = λ k t l. refl; forth = λ l b h. span_drop 6 0 l h }
sinks-by true false = record {
  sized = λ k. refl;
  back = λ k t l i. record { end = (endpoints true).back k.end refl l i; tail = sym (eqb-true k.tail usual_tail t) i };
  forth = λ l b h. (endpoints true).forth l b h;
}
sinks-by true true = record {
  sized = λ k. refl;
  back = λ k t l i. record { end = (endpoints true).back k.end refl l i; tail = k.tail };
  forth = λ l b h. (λ i. joined (two-forth l b 0 i ∷ two-forth l b 2 i ∷ two-forth l b 4 i ∷ []) ++ (span 3 6 l ++ drop 9 l)) ∙ span_drop 9 0 l h;
}

pub sinks : (v : Version) → CodingOf (λ k. v.limits || eqb k.tail usual_tail) (sink v) (sink_in v) (sink_size v)
sinks v = sinks-by v.long v.limits

pub blocks : (long : Bool) → Coding (block long) (block_in long) (block_size long)
blocks false = record {
  sized = λ x. refl;
  back = λ x t l i. record { node = div-add-mod' x.node 256 i; at = x.at; kind = x.kind; facing = x.facing };
  forth = λ l b h. (λ i. two-forth l b 0 i ++ (span 5 2 l ++ drop 7 l)) ∙ span_drop 7 0 l h;
}
blocks true = record {
  sized = λ x. refl;
  back = λ x t l i. record { node = div-add-mod' x.node 256 i; at = long-back x.at i; kind = x.kind; facing = x.facing };
  forth = λ l b h.
      (λ i. joined (two-forth l b 0 i ∷ two-forth l b 2 i ∷ two-forth l b 4 i ∷ two-forth l b 6 i ∷ []) ++ (span 2 8 l ++ drop 10 l)) ∙ span_drop 10 0 l h;
}

-- ---- lists of records

pub next-size : (size n : ℕ) → size * suc n ≡ size + size * n
next-size size n = rw mul-suc (add_comm (size * n) size)

pub next_drop : (size n : ℕ) (l : List ℕ) → drop (size * suc n) l ≡ drop (size * n) (drop size l)
next_drop size n l = rw (next-size size n, ← drop-drop (size * n) size l)

module _ {X : Type 0} (value : List ℕ → X) (size : ℕ) where
  pub many-long : (n : ℕ) (l : List ℕ) → length (many value size n l) ≡ n
  many-long zero l = refl
  many-long (suc n) l = ap suc (many-long n (drop size l))

  pub many_snoc : (n : ℕ) (l : List ℕ) → many value size (suc n) l ≡ many value size n l ++ (value (drop (size * n) l) ∷ [])
  many_snoc zero l = rw mul-zero
  many_snoc (suc n) l = rw (next_drop size n l) (ap (λ r. value l ∷ r) (many_snoc n (drop size l)))

  many-at : (n i : ℕ) (l : List ℕ) (d : X) → i < n → get_or (many value size n l) i d ≡ value (drop (size * i) l)
  many-at zero i l d h = absurd (omega arith)
  many-at (suc n) zero l d h = rw mul-zero
  many-at (suc n) (suc i) l d h = rw (next_drop size i l) (many-at n i (drop size l) d (omega arith))

module _ {X : Type 0} {told : X → Bool} {bytes : X → List ℕ} {value : List ℕ → X} {size : ℕ} (K : CodingOf told bytes value size) where
  pub joined-long : (xs : List X) → length (joined (map bytes xs)) ≡ size * length xs
  joined-long [] = sym (mul-zero size)
  joined-long (x ∷ xs) = simp length-append (rw (K.sized x, joined-long xs, mul-suc) (add_comm size (size * length xs)))

  pub many-back : (xs : List X) → every told xs ≡ true → (l : List ℕ) → many value size (length xs) (joined (map bytes xs) ++ l) ≡ xs
  many-back [] t l = refl
  many-back (x ∷ xs) t l =
      let one = K.back x (and_left (told x) (every told xs) t) (joined (map bytes xs) ++ l) in
      rw (append_assoc, one, drop_at (bytes x) (joined (map bytes xs) ++ l) size (K.sized x), many-back xs (and_right (told x) (every told xs) t) l)

  pub many-forth : (n : ℕ) (l : List ℕ) → Bytes l → size * n ≤ length l → joined (map bytes (many value size n l)) ++ drop (size * n) l ≡ l
  many-forth zero l b h = rw mul-zero
  many-forth (suc n) l b h =
      let e : size * suc n ≡ size + size * n = next-size size n in
      let ih = many-forth n (drop size l) (bytes_drop size l b) (simp length-drop (omega (arith, e))) in
      rw (append_assoc, next_drop size n l, ih) (K.forth l b (omega (arith, e)))

-- a test that every value read passes, every one of a list passes
pub many-every : {X : Type 0} (test : X → Bool) (value : List ℕ → X) (size : ℕ) → ((l : List ℕ) → test (value l) ≡ true) → (n : ℕ) (l : List ℕ) → every test (many value size n l) ≡ true
many-every test value size f zero l = refl
many-every test value size f (suc n) l = rw (f l) (many-every test value size f n (drop size l))

-- the list of a part: it is as long as its count, and record i of it begins i records behind its first
module _ (sheet : List ℕ) (p : Part) where
  pub blocks-long : length (blocks_in sheet p) ≡ p.count
  unfolding blocks_in
  blocks-long = many-long (block_in p.long) p.size p.count (drop p.from sheet)

  pub positions-long : length (positions_in sheet p) ≡ p.count
  unfolding positions_in
  positions-long = many-long (λ l. position_in p.long l 0) p.size p.count (drop p.from sheet)

  module _ (i : ℕ) (h : i < p.count) where
    -- record i begins before the part's end
    pub record_near : behind p ≤ length sheet → p.from + p.size * i ≤ length sheet
    record_near inside = omega (arith, inside, mul-le-mul_left p.size (le_of_lt h))

    pub block_at : (r : Block) → r ≡ block_in p.long (drop (p.from + p.size * i) sheet) → r ≡ get_or (blocks_in sheet p) i no_block
    unfolding blocks_in
    block_at r e = rw (many-at (block_in p.long) p.size p.count i (drop p.from sheet) no_block h, drop-drop (p.size * i) p.from sheet) e

    pub position_at : (r : Pos) → r ≡ position_in p.long (drop (p.from + p.size * i) sheet) 0 → r ≡ get_or (positions_in sheet p) i no_position
    unfolding positions_in
    position_at r e =
        rw (many-at (λ l. position_in p.long l 0) p.size p.count i (drop p.from sheet) no_position h, drop-drop (p.size * i) p.from sheet) e
