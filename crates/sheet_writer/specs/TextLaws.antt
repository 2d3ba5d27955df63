-- The two loops that put records and sinks one after another; and all that is put is the low bytes of the sheet.
use Rattle.std.specs.Prelude.{◌≡◌, refl, Bool, get_or, drop, take}
use Rattle.std.proofs.Math.Path.{sym, ap}
use Rattle.std.proofs.Common.{◌∙◌, mul-suc, mul_comm, div-mul-le_self, arith, drop_of_length-le, drop-drop, length-take-le}
use mathlib.Core.List.{List, [], ◌∷◌, ◌++◌, map, append_assoc, append-nil, map-append, map-map}
use Prim.Native.Nat.{ℕ, suc, ◌+◌, ◌-◌, ◌*◌, ◌/◌, ◌%◌, ◌≤◌, ◌<◌}
use Rattle.std.proofs.Math.ListN.{length}
use Rattle.basics.specs.Lists.{joined, drop_next}
use Rattle.putting.specs.Putting.{Put, Fits, PutSoFar}
use Rattle.putting.specs.PutLaws.{putting_begun, putting_on, putting_done, putting_fits}
use Rattle.room.specs.declared.Pos.{Pos}
use Rattle.job_sheet.specs.declared.Block.{Block}
use Rattle.job_sheet.specs.declared.Endpoint.{Endpoint}
use Rattle.job_sheet.specs.declared.Sink.{Sink}
use Rattle.job_sheet.specs.declared.Version.{Version}
use Rattle.job_sheet.specs.Sheet.{two, four, coordinate, sides, costs, position, block, endpoint, limit, sink, counted, sink_bytes, rest, bytes_by, no_sink}
use Rattle.job_sheet.specs.Places.{many}
use Rattle.job_sheet.proofs.FaultLaws.{many_map}
use Rattle.sheet_writer.specs.declared.Records.{Records}
use Rattle.sheet_writer.specs.declared.Records.TheVariants.{Blocks, Positions}
use Rattle.sheet_writer.specs.Writer.{Parts, numbers_for, block_numbers, position_numbers, block_from, position_from, blocks_of, positions_of, contents_of, low}
use Rattle.sheet_writer.specs.SizeLaws.{blocks-count, positions-count}
use Rattle.sheet_writer.specs.Texts.{bytes_from, records_text, list_text, lists_text, ends_text, sinks_text, head_text, sheet_text}

-- ---- a record's pieces

low_append : (a b : List ℕ) → low (a ++ b) ≡ low a ++ low b
low_append a b = map-append (λ n. n % 256) a b

module _ (long : Bool) where
  pub position_pieces : (p : Pos) → low (position long p) ≡ low (coordinate long p.x) ++ (low (coordinate long p.y) ++ low (coordinate long p.z))
  position_pieces p =
      low_append (coordinate long p.x) _
      ∙ ap (λ r. low (coordinate long p.x) ++ r) (low_append (coordinate long p.y) _ ∙ ap (λ r. low (coordinate long p.y) ++ low r) (append-nil (coordinate long p.z)))

  pub endpoint_pieces : (e : Endpoint) → low (endpoint long e) ≡ low (position long e.at) ++ low (e.port ∷ e.facing ∷ [])
  endpoint_pieces e = low_append (position long e.at) (e.port ∷ e.facing ∷ [])

  pub block_pieces : (b : Block) → low (block long b) ≡ low (two b.node) ++ (low (position long b.at) ++ low (b.kind ∷ b.facing ∷ []))
  block_pieces b = ap (λ r. low (two b.node) ++ r) (low_append (position long b.at) (b.kind ∷ b.facing ∷ []))

pub sink_pieces : (v : Version) (k : Sink) → low (sink v k) ≡ low (endpoint v.long k.end) ++ low (limit v.limits k.tail)
sink_pieces v k = low_append (endpoint v.long k.end) (limit v.limits k.tail)

-- a text that fits, and that was put, piece by piece
pub fits_as : {out : List ℕ} {at : ℕ} {text pieces : List ℕ} → text ≡ pieces → Fits out at text → Fits out at pieces
fits_as e f = rw (← e) f

pub put_as : {out : List ℕ} {at : ℕ} {text pieces out' : List ℕ} {end : ℕ} → text ≡ pieces → Put out at pieces out' end → Put out at text out' end
put_as e p = rw e p

-- ---- the records of a list

-- the records before the place are put, and the ones from it on are left
pub record Recording (text : List ℕ → List ℕ) (size : ℕ) (l out : List ℕ) (at : ℕ) (whole : List ℕ) (place left : ℕ) (out' : List ℕ) (end : ℕ) : Type 0 where
  pub going : PutSoFar out at whole (joined (many text size left (drop place l))) out' end
  pub inside : place + size * left ≤ length l

module _ {text : List ℕ → List ℕ} {size : ℕ} {l out : List ℕ} {at : ℕ} {whole : List ℕ} {place left : ℕ} {out' : List ℕ} {end : ℕ} (I : Recording text size l out at whole place left out' end) where
  module _ (h : 0 < left) where
    left-next : size * left ≡ size * (left - 1) + size
    left-next = let e : left ≡ suc (left - 1) = omega arith in ap (λ x. size * x) e ∙ mul-suc size (left - 1)

    next_record : PutSoFar out at whole (text (drop place l) ++ joined (many text size (left - 1) (drop (place + size) l))) out' end
    next_record = let e : left ≡ suc (left - 1) = omega arith in rw (← drop-drop size place l) (rw e at I.going)

    pub record_inside : place + size ≤ length l
    record_inside = omega (arith, I.inside, left-next)

    pub record_fits : Fits out at whole → Fits out' end (text (drop place l))
    record_fits f = putting_fits (joined (many text size (left - 1) (drop (place + size) l))) next_record f

    pub recording_on : {out'' : List ℕ} {end' : ℕ} → Put out' end (text (drop place l)) out'' end' → Recording text size l out at whole (place + size) (left - 1) out'' end'
    recording_on p = record { going = putting_on next_record p; inside = omega (arith, I.inside, left-next) }

  pub recording_done : left ≤ 0 → Put out at whole out' end
  recording_done h = let z : left ≡ 0 = omega arith in putting_done (rw z at I.going)

pub recording_begun : (long : Bool) (k : Records) (l : List ℕ) {out : List ℕ} {at size : ℕ} → size ≡ numbers_for k
    → Recording (bytes_from long k) size l out at (records_text long k l) 0 (length l / size) out at
unfolding records_text
recording_begun long k l {size = size} e = record { going = rw e putting_begun; inside = omega (arith, div-mul-le_self (length l) size, mul_comm size (length l / size)) }

-- ---- the sinks

ends_next : (v : Version) (es : List Sink) (k : ℕ) → k < length es → ends_text v (drop k es) ≡ low (sink v (get_or es k no_sink)) ++ ends_text v (drop (k + 1) es)
unfolding ends_text
ends_next v es k h = ap (λ r. joined (map (λ e. low (sink v e)) r)) (drop_next es k no_sink h)

module _ (v : Version) (es : List Sink) {out : List ℕ} {at : ℕ} {whole : List ℕ} (k : ℕ) {out' : List ℕ} {end : ℕ} (g : PutSoFar out at whole (ends_text v (drop k es)) out' end) where
  module _ (h : k < length es) where
    next-end : PutSoFar out at whole (low (sink v (get_or es k no_sink)) ++ ends_text v (drop (k + 1) es)) out' end
    next-end = rw (ends_next v es k h) at g

    pub end_fits : Fits out at whole → Fits out' end (low (sink v (get_or es k no_sink)))
    end_fits f = putting_fits (ends_text v (drop (k + 1) es)) next-end f

    pub ends_on : {out'' : List ℕ} {end' : ℕ} → Put out' end (low (sink v (get_or es k no_sink))) out'' end' → PutSoFar out at whole (ends_text v (drop (k + 1) es)) out'' end'
    ends_on p = putting_on next-end p

  pub ends-done : length es ≤ k → Put out at whole out' end
  unfolding ends_text
  ends-done over = putting_done (rw (drop_of_length-le es over) at g)

-- ---- all of it

low-joined : (ls : List (List ℕ)) → low (joined ls) ≡ joined (map low ls)
low-joined [] = refl
low-joined (l ∷ ls) = map-append (λ n. n % 256) l (joined ls) ∙ ap (λ r. low l ++ r) (low-joined ls)

-- records one by one, and all of them
records_low : {X : Type 0} (bytes : X → List ℕ) (xs : List X) → joined (map (λ x. low (bytes x)) xs) ≡ low (joined (map bytes xs))
records_low bytes xs = sym (low-joined (map bytes xs) ∙ ap joined (map-map low bytes xs))

module _ (long : Bool) (l : List ℕ) where
  blocks-low : records_text long Blocks l ≡ low (joined (map (block long) (blocks_of l)))
  unfolding records_text blocks_of
  blocks-low = ap joined (many_map (λ b. low (block long b)) block_from block_numbers (length l / block_numbers) l) ∙ records_low (block long) (blocks_of l)

  positions-low : records_text long Positions l ≡ low (joined (map (position long) (positions_of l)))
  unfolding records_text positions_of
  positions-low =
      ap joined (many_map (λ p. low (position long p)) (λ m. position_from m 0) position_numbers (length l / position_numbers) l) ∙ records_low (position long) (positions_of l)

  block-list : list_text long Blocks l ≡ low (counted (block long) (blocks_of l))
  unfolding list_text
  block-list = (λ i. low (two (sym (blocks-count l) i)) ++ blocks-low i)

  position-list : list_text long Positions l ≡ low (counted (position long) (positions_of l))
  unfolding list_text
  position-list = (λ i. low (two (sym (positions-count l) i)) ++ positions-low i)

-- a part, and what follows it
low-on : (a b : List ℕ) {c : List ℕ} → low b ≡ c → low (a ++ b) ≡ low a ++ c
low-on a b e = map-append (λ n. n % 256) a b ∙ ap (λ r. low a ++ r) e

-- five pieces, and what follows them
five : (a b c d e on : List ℕ) → (a ++ (b ++ (c ++ (d ++ e)))) ++ on ≡ a ++ (b ++ (c ++ (d ++ (e ++ on))))
five a b c d e on = simp append_assoc

module _ (P : Parts) (h : P.sinks.count ≤ length P.sinks.ends) (v : Version) where
  sinks-low : sinks_text v P.sinks ≡ low (sink_bytes v (contents_of P).sinks)
  unfolding sinks_text ends_text contents_of
  sinks-low = (λ i. low (sym (length-take-le P.sinks.count P.sinks.ends h) i ∷ []) ++ records_low (sink v) (take P.sinks.count P.sinks.ends) i)

  lists-low : (on : List ℕ)
      → lists_text v.long P.blocks P.conductors P.clearances P.terminals P.reserved ++ on
      ≡ low (counted (block v.long) (blocks_of P.blocks))
      ++ (low (counted (position v.long) (positions_of P.conductors))
      ++ (low (counted (position v.long) (positions_of P.clearances))
      ++ (low (counted (position v.long) (positions_of P.terminals)) ++ (low (counted (position v.long) (positions_of P.reserved)) ++ on))))
  unfolding lists_text
  lists-low on =
      let g = v.long in
      simp append_assoc (λ i. block-list g P.blocks i
      ++ (position-list g P.conductors i ++ (position-list g P.clearances i ++ (position-list g P.terminals i ++ (position-list g P.reserved i ++ on)))))

  -- the head, whose parts come one after another
  head-low : (n : ℕ) (on : List ℕ)
      → head_text v n P.room P.config P.run ++ low on
      ≡ low (v.number ∷ (four n ++ (sides v.long P.room ++ (costs P.config ++ (limit v.limits P.run ++ on)))))
  unfolding head_text
  head-low n on =
      let run : List ℕ = limit v.limits P.run ++ on in
      let config : List ℕ = costs P.config ++ run in
      let room : List ℕ = sides v.long P.room ++ config in
      let limited : low run ≡ low (limit v.limits P.run) ++ low on = low_append (limit v.limits P.run) on in
      let costed : low config ≡ low (costs P.config) ++ (low (limit v.limits P.run) ++ low on) = low-on (costs P.config) run limited in
      let sided = low-on (sides v.long P.room) config costed in
      let counted = low-on (four n) room sided in
      five (low (v.number ∷ [])) (low (four n)) (low (sides v.long P.room)) (low (costs P.config)) (low (limit v.limits P.run)) (low on)
      ∙ sym (low-on (v.number ∷ []) (four n ++ room) counted)

  -- all that is put
  pub sheet-text : sheet_text v (length (rest v (contents_of P))) P ≡ low (bytes_by v (contents_of P))
  unfolding sheet_text bytes_by rest contents_of
  sheet-text =
      let n : ℕ = length (rest v (contents_of P)) in
      let g = v.long in
      let on : List ℕ = low (endpoint g P.source) ++ sinks_text v P.sinks in
      let source = low-on (endpoint g P.source) (sink_bytes v (contents_of P).sinks ++ []) (ap low (append-nil (sink_bytes v (contents_of P).sinks)) ∙ sym sinks-low) in
      let reserved = low-on (counted (position g) (positions_of P.reserved)) _ source in
      let terminals = low-on (counted (position g) (positions_of P.terminals)) _ reserved in
      let clearances = low-on (counted (position g) (positions_of P.clearances)) _ terminals in
      let conductors = low-on (counted (position g) (positions_of P.conductors)) _ clearances in
      let blocks = low-on (counted (block g) (blocks_of P.blocks)) _ conductors in
      ap (λ r. head_text v n P.room P.config P.run ++ r) (lists-low on ∙ sym blocks) ∙ head-low n _
