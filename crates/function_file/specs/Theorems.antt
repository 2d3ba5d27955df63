-- What is proved of a function file: a text has one reading; what is written reads back; two rooms of one text are one; every lent byte is determined.
use Rattle.std.specs.Prelude.{◌≡◌, Result, Ok, Err, ◌≢◌, eqb, leb, take}
use Rattle.std.proofs.Math.Path.{refl, sym, ap}
use Rattle.std.proofs.Common.{◌∙◌, take_at}
use Rattle.std.proofs.Math.Bool.{true}
use mathlib.Core.List.{List, [], ◌∷◌, ◌++◌, append-nil}
use Prim.Native.Nat.{ℕ, zero, suc, ◌+◌, ◌-◌, ◌*◌, ◌≤◌, ◌<◌}
use native.Mathlib.Omega.{arith}
use Rattle.std.proofs.Math.ListN.{length, get_or, drop, replicate, length-append, length-set, drop_of_length-le}
use Rattle.std.proofs.lemmas.List.{length-replicate, replicate-append-replicate, set_at}
use Rattle.std.proofs.Math.Seq.{drop-append_seam, append_snoc, get_or-set_same, get_or-set_other}
use borrow.Author.Tests.{eq-eqb, eqb-true, eqb-false, leb-true, le-leb, lt-leb}
use Rattle.basics.specs.Promises.{Determines}
use Rattle.basics.specs.Tests.{ask, and_left, and_right, never}
use Rattle.basics.specs.Lists.{drop_next}
use Rattle.basics.specs.Zeros.{zeros}
use Rattle.room.specs.declared.Room.{Room}
use Rattle.room.specs.Room.{Good, volume, cell_of, pos_of, sides_good}
use Rattle.room.specs.RoomLaws.{cell_pos, good}
use Rattle.function_file.specs.declared.Guess.{Guess}
use Rattle.function_file.specs.declared.ReadFault.{ReadFault}
use Rattle.function_file.specs.declared.WriteFault.{WriteFault}
use Rattle.function_file.specs.declared.WriteFault.TheVariants.{Code, Short}
use Rattle.function_file.specs.declared.WriteFault.TheVariants as variants
use Rattle.function_file.specs.Words.{block_known, least_facing, most_facing}
use Rattle.function_file.specs.Text.{line_of, block_text, text_from, text_of}
use Rattle.function_file.specs.Size.{size_of, blocks, line_most}
use Rattle.function_file.specs.Written.{exactly, known_from, written, Writes}
use Rattle.function_file.specs.WriteLaws.{some-line, text-next, known-passed, exact}
use Rattle.function_file.specs.SizeLaws.{text-size, text-most}
use Rattle.function_file.specs.Guessing.{guessed}
use Rattle.function_file.specs.GuessLaws.{line-long}
use Rattle.function_file.specs.Reading.{Lawful, Reading, whole, Reads, ended, line, stopped, read_answer, kinds_after, facings_after, enough, zeros_for, Comes, sides, buffer, read}
use Rattle.function_file.specs.ReadLaws.{lawful-guessed}

-- ---- a text has one reading

module _ (R : Room) (g : Good R) where
  module _ (next cell kind facing cell' kind' facing' : ℕ) (L : Lawful R next cell kind facing) (L' : Lawful R next cell' kind' facing')
      (rest rest' : List ℕ) {text : List ℕ} (s : text ≡ line_of R cell kind facing ++ rest) (s' : text ≡ line_of R cell' kind' facing' ++ rest') where
    same_guess : ◌≡◌ {A = Guess} (record { place = pos_of R cell; kind = kind; facing = facing }) (record { place = pos_of R cell'; kind = kind'; facing = facing' })
    same_guess = sym (lawful-guessed R g next cell kind facing L rest) ∙ ap guessed (sym s ∙ s') ∙ lawful-guessed R g next cell' kind' facing' L' rest'

    same-cell : cell ≡ cell'
    same-cell = sym (cell_pos R cell) ∙ ap (λ (h : Guess). cell_of R h.place) same_guess ∙ cell_pos R cell'

    same_kind : kind ≡ kind'
    same_kind = ap (λ (h : Guess). h.kind) same_guess

    same-facing : facing ≡ facing'
    same-facing = ap (λ (h : Guess). h.facing) same_guess

    same_rest : rest ≡ rest'
    same_rest =
        let l : line_of R cell kind facing ≡ line_of R cell' kind' facing' = rw (same-cell, same_kind, same-facing) in
        sym (drop-append_seam (line_of R cell kind facing) rest) ∙ ap (drop (length (line_of R cell kind facing))) (sym s ∙ s')
        ∙ ap (λ k. drop (length k) (line_of R cell' kind' facing' ++ rest')) l ∙ drop-append_seam (line_of R cell' kind' facing') rest'

  line-some : (cell kind facing : ℕ) (rest : List ℕ) {text : List ℕ} → text ≡ [] → text ≡ line_of R cell kind facing ++ rest → ⊥
  line-some cell kind facing rest e s =
      omega (arith, ap length (sym e ∙ s), length-append (line_of R cell kind facing) rest, line-long (pos_of R cell) kind facing)

  pub reads_once : {o o' : Reading} {next lines : ℕ} {text kinds facings : List ℕ} → Reads R o next lines text kinds facings → Reads R o' next lines text kinds facings → o ≡ o'
  reads_once (ended e q) (ended e' q') = q ∙ sym q'
  reads_once (ended e q) (line cell kind facing rest L s r) = absurd (line-some cell kind facing rest e s)
  reads_once (ended e q) (stopped n h q') = absurd (n e)
  reads_once (line cell kind facing rest L s r) (ended e q) = absurd (line-some cell kind facing rest e s)
  reads_once {o' = o'} {next} {lines} {kinds = kinds} {facings} (line cell kind facing rest L s r) (line cell' kind' facing' rest' L' s' r') =
      reads_once r
      (rw (same-cell next cell kind facing cell' kind' facing' L L' rest rest' s s', same_kind next cell kind facing cell' kind' facing' L L' rest rest' s s', same-facing next cell kind facing cell' kind' facing' L L' rest rest' s s', same_rest next cell kind facing cell' kind' facing' L L' rest rest' s s') r')
  reads_once (line cell kind facing rest L s r) (stopped n h q) = absurd (h cell kind facing rest L s)
  reads_once (stopped n h q) (ended e q') = absurd (n e)
  reads_once (stopped n h q) (line cell kind facing rest L s r) = absurd (h cell kind facing rest L s)
  reads_once (stopped n h q) (stopped n' h' q') = q ∙ sym q'

-- ---- what is written reads back

air_unfaced : (facing : ℕ) → block_known 0 facing ≡ true → facing ≡ 0
unfolding block_known least_facing most_facing
air_unfaced facing e = let h : facing ≤ 0 = leb-true facing 0 (and_right (leb 0 facing) (leb facing 0) e) in omega arith

air-text : (R : Room) (cell kind facing : ℕ) → kind ≡ 0 → block_text R cell kind facing ≡ []
unfolding block_text
air-text R cell kind facing z = rw (eq-eqb kind 0 z)

whole_same : {n n' : ℕ} {k k' f f' : List ℕ} → n ≡ n' → k ≡ k' → f ≡ f' → whole n k f ≡ whole n' k' f'
whole_same a b c = rw (a, b, c)

reads_same : {R : Room} {o o' : Reading} {next lines : ℕ} {t t' k k' f f' : List ℕ} → o ≡ o' → t ≡ t' → k ≡ k' → f ≡ f' → Reads R o next lines t k f → Reads R o' next lines t' k' f'
reads_same a b c d r = rw (sym a, sym b, sym c, sym d) r

module _ (R : Room) (fs : List ℕ) (long : length fs ≡ volume R) where
  reads-from : (ks : List ℕ) (cell next lines : ℕ) (pk pf sk sf : List ℕ) → length pk ≡ cell → length pf ≡ cell → cell + length ks ≡ volume R → next ≤ cell → known_from cell ks fs ≡ true
      → Reads R (whole (lines + blocks ks) (pk ++ (ks ++ sk)) (pf ++ (drop cell fs ++ sf))) next lines (text_from R cell ks fs) (pk ++ (replicate (length ks) 0 ++ sk)) (pf ++ (replicate (length ks) 0 ++ sf))
  unfolding text_from blocks known_from
  reads-from [] cell next lines pk pf sk sf lk lf v n k =
      let over : length fs ≤ cell = omega (arith, long, v) in
      let none : drop cell fs ≡ [] = drop_of_length-le fs over in
      let zero : lines + 0 ≡ lines = omega arith in
      ended refl (whole_same zero refl (ap (λ l. pf ++ (l ++ sf)) none))
  reads-from (kind ∷ ks) cell next lines pk pf sk sf lk lf v n k =
      let f : ℕ = get_or fs cell 0 in
      let rest : List ℕ = text_from R (cell + 1) ks fs in
      let zk : List ℕ = replicate (length ks) 0 ++ sk in
      let zf : List ℕ = replicate (length ks) 0 ++ sf in
      let left : List ℕ = drop (cell + 1) fs ++ sf in
      let here : block_known kind f ≡ true = and_left (block_known kind f) (known_from (cell + 1) ks fs) k in
      let on : known_from (cell + 1) ks fs ≡ true = and_right (block_known kind f) (known_from (cell + 1) ks fs) k in
      let inside : cell < length fs = omega (arith, long, v) in
      let split : drop cell fs ≡ f ∷ drop (cell + 1) fs = drop_next fs cell 0 inside in
      let one : (l : List ℕ) (a : ℕ) → length l ≡ cell → length (l ++ (a ∷ [])) ≡ cell + 1 = λ l a e. length-append l (a ∷ []) ∙ ap (λ j. j + 1) e in
      let v' : cell + 1 + length ks ≡ volume R = omega (arith, v) in
      ask (eqb kind 0)
      (λ t.
      let z : kind ≡ 0 = eqb-true kind 0 t in
      let fz : f ≡ 0 = air_unfaced f (rw z at here) in
      reads_same
      (whole_same (rw t) (append_snoc pk 0 (ks ++ sk) ∙ ap (λ a. pk ++ (a ∷ (ks ++ sk))) (sym z)) (append_snoc pf 0 left ∙ ap (λ a. pf ++ (a ∷ left)) (sym fz) ∙ ap (λ l. pf ++ (l ++ sf)) (sym split)))
      (sym (ap (λ l. l ++ rest) (air-text R cell kind f z)))
      (append_snoc pk 0 zk)
      (append_snoc pf 0 zf)
      (reads-from ks (cell + 1) next lines (pk ++ (0 ∷ [])) (pf ++ (0 ∷ [])) sk sf (one pk 0 lk) (one pf 0 lf) v' (omega arith) on))
      (λ t.
      let some : kind ≢ 0 = eqb-false kind 0 t in
      let law : Lawful R next cell kind f = record { from = n; inside = omega (arith, v); some = some; known = here } in
      line cell kind f rest law (ap (λ l. l ++ rest) (some-line R cell kind f some))
      (reads_same
      (whole_same (rw t (omega arith)) (append_snoc pk kind (ks ++ sk)) (append_snoc pf f left ∙ ap (λ l. pf ++ (l ++ sf)) (sym split)))
      refl
      (append_snoc pk kind zk ∙ sym (set_at pk 0 zk kind cell lk))
      (append_snoc pf f zf ∙ sym (set_at pf 0 zf f cell lf))
      (reads-from ks (cell + 1) (cell + 1) (lines + 1) (pk ++ (kind ∷ [])) (pf ++ (f ∷ [])) sk sf (one pk kind lk) (one pf f lf) v' (omega arith) on)))

-- a room that can be exported
pub record Exportable (R : Room) (kinds facings : List ℕ) : Type 0 where
  pub kinds-long : length kinds ≡ volume R
  pub facings-long : length facings ≡ volume R
  pub known : known_from 0 kinds facings ≡ true

module _ (R : Room) (kinds facings : List ℕ) (K : Exportable R kinds facings) where
  -- behind the room's cells there may be more places
  pub read-back-into : (more less : ℕ) → Reads R (whole (blocks kinds) (kinds ++ replicate more 0) (facings ++ replicate less 0)) 0 0 (text_of R kinds facings) (replicate (volume R + more) 0) (replicate (volume R + less) 0)
  read-back-into more less =
      let zeros : (m : ℕ) → replicate (length kinds) 0 ++ replicate m 0 ≡ replicate {A = ℕ} (volume R + m) 0 = λ m. replicate-append-replicate (length kinds) m 0 ∙ ap (λ j. replicate (j + m) 0) K.kinds-long in
      reads_same (whole_same (omega arith) refl refl) refl (zeros more) (zeros less)
      (reads-from R facings K.facings-long kinds 0 0 0 [] [] (replicate more 0) (replicate less 0) refl refl (omega (arith, K.kinds-long)) (omega arith) K.known)

  pub read_back : Reads R (whole (blocks kinds) kinds facings) 0 0 (text_of R kinds facings) (replicate (volume R) 0) (replicate (volume R) 0)
  read_back =
      let zero : volume R + 0 ≡ volume R = omega arith in
      reads_same (whole_same refl (append-nil kinds) (append-nil facings)) refl (ap (λ j. replicate j 0) zero) (ap (λ j. replicate j 0) zero) (read-back-into 0 0)

-- ---- two rooms of one text are one

pub same-room : (R : Room) → Good R → (kinds facings kinds' facings' : List ℕ) → Exportable R kinds facings → Exportable R kinds' facings'
    → text_of R kinds facings ≡ text_of R kinds' facings' → (kinds ≡ kinds') × (facings ≡ facings')
same-room R g kinds facings kinds' facings' K K' e =
    let q : whole (blocks kinds) kinds facings ≡ whole (blocks kinds') kinds' facings' = reads_once R g (read_back R kinds facings K) (rw e (read_back R kinds' facings' K')) in
    (cc q, cc q)

-- ---- the promise of `read_function` determines its answer and every lent byte; that of `write_function`: WriteLaws

pub record ReadEnd : Type 0 where
  pub answer : Result ℕ ReadFault
  pub kinds : List ℕ
  pub facings : List ℕ

read-end : {r r' : Result ℕ ReadFault} {k k' f f' : List ℕ} → r ≡ r' → k ≡ k' → f ≡ f' → ◌≡◌ {A = ReadEnd} (record { answer = r; kinds = k; facings = f }) (record { answer = r'; kinds = k'; facings = f' })
read-end a b c = rw (a, b, c)

pub coincide : (R : Room) (text kinds facings : List ℕ) → Determines {X = ReadEnd} (λ x. Comes R text kinds facings x.answer x.kinds x.facings)
coincide R text kinds facings x y (sides s r k f) (sides s' r' k' f') = read-end (r ∙ sym r') (k ∙ sym k') (f ∙ sym f')
coincide R text kinds facings x y (sides s r k f) (buffer s' b' r' k' f') = never (cc (sym s ∙ s'))
coincide R text kinds facings x y (sides s r k f) (read s' b' o' h' r' k' f') = never (cc (sym s ∙ s'))
coincide R text kinds facings x y (buffer s b r k f) (sides s' r' k' f') = never (cc (sym s ∙ s'))
coincide R text kinds facings x y (buffer s b r k f) (buffer s' b' r' k' f') = read-end (r ∙ sym r') (k ∙ sym k') (f ∙ sym f')
coincide R text kinds facings x y (buffer s b r k f) (read s' b' o' h' r' k' f') = never (cc (sym b ∙ b'))
coincide R text kinds facings x y (read s b o h r k f) (sides s' r' k' f') = never (cc (sym s ∙ s'))
coincide R text kinds facings x y (read s b o h r k f) (buffer s' b' r' k' f') = never (cc (sym b ∙ b'))
coincide R text kinds facings x y (read s b o h r k f) (read s' b' o' h' r' k' f') =
    let e : o ≡ o' = reads_once R (good R s) h h' in
    read-end (r ∙ ap read_answer e ∙ sym r') (k ∙ ap (λ q. kinds_after q (zeros_for kinds)) e ∙ sym k') (f ∙ ap (λ q. facings_after q (zeros_for facings)) e ∙ sym f')

-- ---- reading what was written: any answer that keeps the promise has the room, in lent memory of just its cells

enough-all : (R : Room) (a b : ℕ) → a ≡ volume R → b ≡ volume R → enough R a b ≡ true
unfolding enough
enough-all R a b p q = rw (p, q, le-leb (volume R) (volume R) (omega arith))

pub read-written : (R : Room) (kinds facings : List ℕ) → Exportable R kinds facings → (lent lent' : List ℕ) → length lent ≡ volume R → length lent' ≡ volume R → sides_good R ≡ true
    → (r : Result ℕ ReadFault) (k f : List ℕ) → Comes R (text_of R kinds facings) lent lent' r k f → (r ≡ Ok (blocks kinds)) × (k ≡ kinds) × (f ≡ facings)
read-written R kinds facings K lent lent' l l' s r k f c =
    let h : Reads R (whole (blocks kinds) kinds facings) 0 0 (text_of R kinds facings) (zeros_for lent) (zeros_for lent') = rw (l, l') (read_back R kinds facings K) in
    let b : enough R (length lent) (length lent') ≡ true = enough-all R (length lent) (length lent') l l' in
    let e = coincide R (text_of R kinds facings) lent lent' (record { answer = r; kinds = k; facings = f }) (record { answer = Ok (blocks kinds); kinds = kinds; facings = facings }) c
    (read s b (whole (blocks kinds) kinds facings) h refl refl refl) in
    (ap (λ (x : ReadEnd). x.answer) e, ap (λ (x : ReadEnd). x.kinds) e, ap (λ (x : ReadEnd). x.facings) e)

-- ---- what reads is written back: only exports are accepted

air-known : block_known 0 0 ≡ true
unfolding block_known least_facing most_facing
air-known = refl

module _ (R : Room) (K F : List ℕ) where
  -- Air from `next` on, for so many cells, has no text
  skip_air : (d next : ℕ) → next + d ≤ length K → ((i : ℕ) → next ≤ i → i < next + d → (get_or K i 0 ≡ 0) × (get_or F i 0 ≡ 0))
      → (text_from R next (drop next K) F ≡ text_from R (next + d) (drop (next + d) K) F) × (known_from next (drop next K) F ≡ known_from (next + d) (drop (next + d) K) F)
  skip_air zero next h z =
      let e : next + 0 ≡ next = omega arith in
      (rw e, rw e)
  skip_air (suc d) next h z =
      let inside : next < length K = omega arith in
      let here = z next (omega arith) (omega arith) in
      let e : next + 1 + d ≡ next + suc d = omega arith in
      let on = skip_air d (next + 1) (omega arith) (λ i a b. z i (omega arith) (omega arith)) in
      let known : block_known (get_or K next 0) (get_or F next 0) ≡ true = rw (here.0, here.1) air-known in (
        text-next K F next inside R ∙ ap (λ l. l ++ text_from R (next + 1) (drop (next + 1) K) F) (air-text R next (get_or K next 0) (get_or F next 0) here.0) ∙ rw e at on.0,
        sym (known-passed K F next inside known) ∙ rw e at on.1,
      )

  module _ (n : ℕ) where
    -- what lies below the next cell stays
    pub record Kept (next : ℕ) (kinds facings : List ℕ) : Type 0 where
      pub kinds-long : length K ≡ length kinds
      pub facings-long : length F ≡ length facings
      pub kinds-below : (i : ℕ) → i < next → get_or K i 0 ≡ get_or kinds i 0
      pub facings-below : (i : ℕ) → i < next → get_or F i 0 ≡ get_or facings i 0

    kept : {next lines : ℕ} {text kinds facings : List ℕ} → Reads R (whole n K F) next lines text kinds facings → Kept next kinds facings
    kept {lines = lines} {kinds = kinds} {facings} (ended e q) =
        let k : K ≡ kinds = cc q in
        let f : F ≡ facings = cc q in
        record { kinds-long = ap length k; facings-long = ap length f; kinds-below = λ i h. ap (λ l. get_or l i 0) k; facings-below = λ i h. ap (λ l. get_or l i 0) f }
    kept {kinds = kinds} {facings} (line cell kind facing rest L s r) =
        let P = kept r in
        record {
          kinds-long = P.kinds-long ∙ length-set kinds cell kind;
          facings-long = P.facings-long ∙ length-set facings cell facing;
          kinds-below = λ i h. P.kinds-below i (omega (arith, L.from)) ∙ get_or-set_other kinds cell i kind 0 (λ e. omega (arith, L.from, e));
          facings-below = λ i h. P.facings-below i (omega (arith, L.from)) ∙ get_or-set_other facings cell i facing 0 (λ e. omega (arith, L.from, e));
        }
    kept {lines = lines} (stopped m h q) = never (cc q)

    back_from : {next lines : ℕ} {text kinds facings : List ℕ} → Reads R (whole n K F) next lines text kinds facings
        → length kinds ≡ volume R → length facings ≡ volume R → next ≤ volume R
        → ((i : ℕ) → next ≤ i → (get_or kinds i 0 ≡ 0) × (get_or facings i 0 ≡ 0))
        → (text ≡ text_from R next (drop next K) F) × (known_from next (drop next K) F ≡ true)
    unfolding text_from known_from
    back_from {next} {lines} {text} {kinds} {facings} (ended e q) lk lf v z =
        let k : K ≡ kinds = cc q in
        let f : F ≡ facings = cc q in
        let long : length K ≡ volume R = ap length k ∙ lk in
        let d = volume R - next in
        let to : next + d ≡ volume R = omega arith in
        let s = skip_air d next (omega arith) (λ i a b. (ap (λ l. get_or l i 0) k ∙ (z i a).0, ap (λ l. get_or l i 0) f ∙ (z i a).1)) in
        let over : length K ≤ next + d = omega arith in
        let none : drop (next + d) K ≡ [] = drop_of_length-le K over in
        (e ∙ sym (s.0 ∙ ap (λ l. text_from R (next + d) l F) none), s.1 ∙ ap (λ l. known_from (next + d) l F) none)
    back_from {next} {lines} {text} {kinds} {facings} (line cell kind facing rest L s r) lk lf v z =
        let P = kept r in
        let ih = back_from r (length-set kinds cell kind ∙ lk) (length-set facings cell facing ∙ lf) (omega (arith, L.inside))
        (λ i h. (get_or-set_other kinds cell i kind 0 (λ e. omega (arith, e, h)) ∙ (z i (omega (arith, h, L.from))).0, get_or-set_other facings cell i facing 0 (λ e. omega (arith, e, h)) ∙ (z i (omega (arith, h, L.from))).1)) in
        let long : length K ≡ volume R = P.kinds-long ∙ length-set kinds cell kind ∙ lk in
        let in-k : cell < length kinds = omega (arith, lk, L.inside) in
        let in_f : cell < length facings = omega (arith, lf, L.inside) in
        let ek : get_or K cell 0 ≡ kind = P.kinds-below cell (omega arith) ∙ get_or-set_same kinds cell kind 0 in-k in
        let ef : get_or F cell 0 ≡ facing = P.facings-below cell (omega arith) ∙ get_or-set_same facings cell facing 0 in_f in
        let d = cell - next in
        let to : next + d ≡ cell = omega (arith, L.from) in
        let inside : cell < length K = omega (arith, long, L.inside) in
        let sk = skip_air d next (omega (arith, long, L.inside, L.from)) (λ i a b. (P.kinds-below i (omega (arith, b, to)) ∙ get_or-set_other kinds cell i kind 0 (λ e. omega (arith, e, b, to)) ∙ (z i a).0, P.facings-below i (omega (arith, b, to)) ∙ get_or-set_other facings cell i facing 0 (λ e. omega (arith, e, b, to)) ∙ (z i a).1)) in
        let st : text_from R next (drop next K) F ≡ text_from R cell (drop cell K) F = rw to at sk.0 in
        let kt : known_from next (drop next K) F ≡ known_from cell (drop cell K) F = rw to at sk.1 in
        let known : block_known (get_or K cell 0) (get_or F cell 0) ≡ true = rw (ek, ef) L.known in
        let bt : block_text R cell (get_or K cell 0) (get_or F cell 0) ≡ line_of R cell kind facing = rw (ek, ef) (some-line R cell kind facing L.some) in (
          s ∙ ap (λ l. line_of R cell kind facing ++ l) ih.0 ∙ ap (λ l. l ++ text_from R (cell + 1) (drop (cell + 1) K) F) (sym bt) ∙ sym (text-next K F cell inside R) ∙ sym st,
          kt ∙ sym (known-passed K F cell inside known) ∙ ih.1,
        )
    back_from {lines = lines} (stopped m h q) lk lf v z = never (cc q)

    -- a text that reads is the text of the room that it lays, and that room can be exported
    pub written_back : {text : List ℕ} → Reads R (whole n K F) 0 0 text (replicate (volume R) 0) (replicate (volume R) 0) → (text ≡ text_of R K F) × Exportable R K F
    written_back r =
        let long : length (replicate {A = ℕ} (volume R) 0) ≡ volume R = length-replicate {A = ℕ} (volume R) 0 in
        let b = back_from r long long (omega arith) (λ i h. (zeros (volume R) i, zeros (volume R) i)) in
        let P = kept r in
        (b.0, record { kinds-long = P.kinds-long ∙ long; facings-long = P.facings-long ∙ long; known = b.1 })

-- ---- both promises together: what was written reads back

-- what a text that was written says of its room
pub record WasWritten (R : Room) (kinds facings : List ℕ) (n : ℕ) : Type 0 where
  pub sides-good : sides_good R ≡ true
  pub exportable : Exportable R kinds facings
  pub long : n ≡ length (text_of R kinds facings)

was-written : (R : Room) (kinds facings : List ℕ) (m n : ℕ) → Ok n ≡ written R kinds facings m → WasWritten R kinds facings n
unfolding written
was-written R kinds facings m n h =
    ask (sides_good R)
    (λ s.
    ask (exactly R (length kinds) (length facings))
    (λ b.
    ask (known_from 0 kinds facings)
    (λ k.
    ask (leb (length (text_of R kinds facings)) m)
    (λ l.
    let e : Ok n ≡ Ok (length (text_of R kinds facings)) = rw (s, b, k, l) at h in
    let x = exact R (length kinds) (length facings) b in
    record { sides-good = s; exportable = record { kinds-long = x.0; facings-long = x.1; known = k }; long = cc e })
    (λ l. let e : Ok n ≡ Err Short = rw (s, b, k, l) at h in never (cc e)))
    (λ k. let e : Ok n ≡ Err Code = rw (s, b, k) at h in never (cc e)))
    (λ b. let e : Ok n ≡ Err variants.Buffer = rw (s, b) at h in never (cc e)))
    (λ s. let e : Ok n ≡ Err variants.Sides = rw s at h in never (cc e))

pub write_then_read : (R : Room) (kinds facings text : List ℕ) (n : ℕ) (text' : List ℕ) → Writes R kinds facings text (Ok n) text'
    → (lent lent' : List ℕ) → length lent ≡ volume R → length lent' ≡ volume R
    → (r : Result ℕ ReadFault) (k f : List ℕ) → Comes R (take n text') lent lent' r k f → (r ≡ Ok (blocks kinds)) × (k ≡ kinds) × (f ≡ facings)
write_then_read R kinds facings text n text' W lent lent' l l' r k f c =
    let w = was-written R kinds facings (length text) n W.answer in
    let t : text' ≡ text_of R kinds facings ++ replicate (length text - length (text_of R kinds facings)) 0 = rw (sym W.answer) at W.text-is in
    let e : take n text' ≡ text_of R kinds facings = ap (take n) t ∙ take_at (text_of R kinds facings) (replicate (length text - length (text_of R kinds facings)) 0) n (sym w.long) in
    read-written R kinds facings w.exportable lent lent' l l' w.sides-good r k f (rw e at c)

-- ---- "its length is known before it is written"

module _ (R : Room) (kinds facings text : List ℕ) (n : ℕ) (text' : List ℕ) (W : Writes R kinds facings text (Ok n) text') where
  -- what is answered is what was counted, cell by cell
  pub size-told : n ≡ size_of R kinds facings
  size-told =
      let w = was-written R kinds facings (length text) n W.answer in
      w.long ∙ text-size (good R w.sides-good) kinds facings w.exportable.kinds-long w.exportable.known

  -- 77 bytes for each cell that isn't Air always do
  pub size-most : n ≤ line_most * blocks kinds
  size-most =
      let w = was-written R kinds facings (length text) n W.answer in
      omega (arith, size-told, text-most (good R w.sides-good) kinds facings w.exportable.kinds-long w.exportable.known)

-- a room that can be exported is refused with 18 just where fewer bytes are lent than were counted
module _ (R : Room) (s : sides_good R ≡ true) (kinds facings : List ℕ) (K : Exportable R kinds facings) (text : List ℕ) {r : Result ℕ WriteFault} {text' : List ℕ} (W : Writes R kinds facings text r text') where
  counted : length (text_of R kinds facings) ≡ size_of R kinds facings
  counted = text-size (good R s) kinds facings K.kinds-long K.known

  all-exact : exactly R (length kinds) (length facings) ≡ true
  unfolding exactly
  all-exact = rw (K.kinds-long, K.facings-long, eq-eqb (volume R) (volume R) refl)

  pub long-enough : size_of R kinds facings ≤ length text → r ≡ Ok (size_of R kinds facings)
  unfolding written
  long-enough h = rw (s, all-exact, K.known, counted, le-leb (size_of R kinds facings) (length text) h) at W.answer

  pub too_short : length text < size_of R kinds facings → r ≡ Err Short
  unfolding written
  too_short h = rw (s, all-exact, K.known, counted, lt-leb (size_of R kinds facings) (length text) h) at W.answer
