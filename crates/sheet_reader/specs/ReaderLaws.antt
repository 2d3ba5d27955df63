-- A reader that goes through a sheet finds what stands at its places.
use Rattle.std.specs.Prelude.{◌≡◌, refl, false, List, drop}
use Rattle.std.proofs.Common.{sym, ◌∙◌, add-zero, le_of_lt, le_refl, le_trans, mul-le-mul, drop_of_length-le, get_or-drop}
use Rattle.std.proofs.Math.Path.{ap}
use Rattle.std.proofs.Math.Bool.{Bool, true}
use Prim.Native.Nat.{ℕ, ◌+◌, ◌*◌, ◌^◌, ◌≤◌, ◌<◌}
use native.Mathlib.Omega.{arith}
use borrow.Author.Tests.{eqb-true, le-leb, lt-leb, eq-eqb, ne_eqb}
use Rattle.std.proofs.Math.Dec.{eqb}
use Rattle.std.proofs.Math.ListN.{length, get_or}
use Rattle.basics.specs.Tests.{ask_less}
use Rattle.room.specs.declared.Pos.{Pos}
use Rattle.room.specs.declared.RouterConfig.{RouterConfig}
use Rattle.job_sheet.specs.declared.Endpoint.{Endpoint}
use Rattle.job_sheet.specs.declared.Part.{Part}
use Rattle.job_sheet.specs.declared.Sinks.{Sinks}
use Rattle.job_sheet.specs.declared.Version.{Version}
use Rattle.job_sheet.specs.UsualLimits.{usual_run}
use Rattle.job_sheet.specs.Version.{version_in, width, position_size, block_size, endpoint_size, limit_size, sink_size, most_size, sides_place, config_place, config_size, run_place, lists_place}
use Rattle.job_sheet.specs.VersionLaws.{width_few, limit-few}
use Rattle.job_sheet.specs.Sheet.{max_sinks, source_at, behind, no_part, sinks_of, job_of}
use Rattle.job_sheet.specs.Places.{two_in, four_in, position_in, config_in, limit_in, endpoint_in, sinks_in, list_at, sinks_at, layout_in, contents_in, Listed, SourceListed, SinksListed, Shaped}
use Rattle.job_sheet.specs.RecordLaws.{Bytes}
use Rattle.job_sheet.proofs.ReadLaws.{job-forth}
use Rattle.sheet_reader.specs.declared.Head.{Head}
use Rattle.sheet_reader.specs.declared.Body.{Body}
use Rattle.sheet_reader.specs.declared.Found.{Found}
use Rattle.sheet_reader.specs.Reader.{Stands, onward, list_count_size, sinks_count_size, no_count_size, sides_at, SidesListed, config_at, whole_sinks, sinks_found, head_of, head_in, layout_found, body_of, PartsFound, found_of, AllFound, job_found}

-- ---- where a reader stands

module _ (s : List ℕ) (place n : ℕ) where
  pub onward-on : place + n ≤ length s → onward s place n ≡ place + n
  unfolding onward
  onward-on h = rw (le-leb _ _ h)

  pub onward-off : length s < place + n → onward s place n ≡ length s + 1
  unfolding onward
  onward-off h = rw (lt-leb _ _ h)

  pub onward-stands : Stands s (onward s place n)
  onward-stands =
      ask_less (length s) (place + n) (λ h. rw (onward-off h) (omega arith)) (λ h. rw (onward-on h) (omega (arith, h)))

-- two steps are one of both their lengths
pub onward-twice : (s : List ℕ) (place m n : ℕ) → onward s (onward s place m) n ≡ onward s place (m + n)
onward-twice s place m n =
    ask_less (length s) (place + m)
    (λ h. ap (λ x. onward s x n) (onward-off s place m h) ∙ onward-off s (length s + 1) n (omega arith) ∙ sym (onward-off s place (m + n) (omega (arith, h))))
    (λ h. ap (λ x. onward s x n) (onward-on s place m h) ∙ rest)
  where
    rest : onward s (place + m) n ≡ onward s place (m + n)
    rest =
        ask_less (length s) (place + m + n)
        (λ k. onward-off s (place + m) n k ∙ sym (onward-off s place (m + n) (omega (arith, k))))
        (λ k. onward-on s (place + m) n k ∙ assoc ∙ sym (onward-on s place (m + n) (omega (arith, k))))
      where
        assoc : place + m + n ≡ place + (m + n)
        assoc = omega arith

-- ---- the sinks that can be read

module _ (s : List ℕ) (p : Part) where
  pub whole-some : p.count ≤ max_sinks → behind p ≤ length s → whole_sinks s p ≡ p
  unfolding whole_sinks
  whole-some few inside = rw (le-leb _ _ few, le-leb _ _ inside)

  pub whole-over : max_sinks < p.count → whole_sinks s p ≡ no_part
  unfolding whole_sinks
  whole-over many = rw (lt-leb _ _ many)

  pub whole-short : p.count ≤ max_sinks → length s < behind p → whole_sinks s p ≡ no_part
  unfolding whole_sinks
  whole-short few short = rw (le-leb _ _ few, lt-leb _ _ short)

  holds : (q : Part) → q ≡ whole_sinks s p → (q.count ≤ max_sinks) × (behind q ≤ length s)
  holds q e =
      ask_less max_sinks p.count
      (λ many. none (whole-over many))
      (λ few. ask_less (length s) (behind p) (λ short. none (whole-short few short)) (λ inside. whole few inside))
    where
      whole : p.count ≤ max_sinks → behind p ≤ length s → (q.count ≤ max_sinks) × (behind q ≤ length s)
      whole few inside = rw (e, whole-some few inside) (few, inside)

      none : whole_sinks s p ≡ no_part → (q.count ≤ max_sinks) × (behind q ≤ length s)
      none z = rw (e, z) (omega arith, omega arith)

  pub whole-few : (whole_sinks s p).count ≤ max_sinks
  whole-few = (holds (whole_sinks s p) refl).0

  pub whole-inside : behind (whole_sinks s p) ≤ length s
  whole-inside = (holds (whole_sinks s p) refl).1

-- ---- a reader beside the places of the definitions, which run on past the end: it stands where they do, or both are off the sheet

data ReadAlong (s : List ℕ) (a p : ℕ) : Type 0 where
  read_same : a ≡ p → p ≤ length s → ReadAlong s a p
  read_off : length s < a → length s < p → ReadAlong s a p

module _ (s : List ℕ) where
  -- so what is read is the same
  along_drop : (a p : ℕ) → ReadAlong s a p → drop a s ≡ drop p s
  along_drop a p (read_same e h) = ap (λ x. drop x s) e
  along_drop a p (read_off h k) = drop_of_length-le s (le_of_lt h) ∙ sym (drop_of_length-le s (le_of_lt k))

  along-near : (a p : ℕ) → ReadAlong s a p → p ≤ length s → a ≡ p
  along-near a p (read_same e h) k = e
  along-near a p (read_off h k) l = absurd (omega arith)

  along-from : (p n : ℕ) → ReadAlong s (onward s p n) (p + n)
  along-from p n =
      ask_less (length s) (p + n) (λ h. read_off (rw (onward-off s p n h) (omega arith)) h) (λ h. read_same (onward-on s p n h) h)

  along-past : (n a p : ℕ) → ReadAlong s a p → ReadAlong s (onward s a n) (p + n)
  along-past n a p (read_same e h) = rw e (along-from p n)
  along-past n a p (read_off h l) = read_off (rw (onward-off s a n (omega arith)) (omega arith)) (omega arith)

  along-start : ReadAlong s 0 0
  along-start = read_same refl (omega arith)

  along-end : (a p : ℕ) → ReadAlong s a p → eqb a (length s) ≡ eqb p (length s)
  along-end a p (read_same e h) = ap (λ x. eqb x (length s)) e
  along-end a p (read_off h k) = ne_eqb a (length s) (λ e. omega (arith, h, e)) ∙ sym (ne_eqb p (length s) (λ e. omega (arith, k, e)))

-- ---- the bytes of a part are few enough for a sum

few_bytes : (width size count : ℕ) → width ≤ 2 → size ≤ most_size → count < 2 ^ 16 → width + size * count < 2 ^ 64
few_bytes width size count w h k = omega (arith, w, mul-le-mul h (le_of_lt k))

module _ {s : List ℕ} {place : ℕ} {r : Part} where
  pub blocks-small : {long : Bool} → Listed s long (block_size long) place r → list_count_size + r.size * r.count < 2 ^ 64
  blocks-small {long} L = few_bytes list_count_size r.size r.count (omega arith) (omega (arith, L.size_is, width_few long)) L.count_most

  pub positions-small : {long : Bool} → Listed s long (position_size long) place r → list_count_size + r.size * r.count < 2 ^ 64
  positions-small {long} L = few_bytes list_count_size r.size r.count (omega arith) (omega (arith, L.size_is, width_few long)) L.count_most

  pub sinks-small : {v : Version} → SinksListed v s place r → sinks_count_size + r.size * r.count < 2 ^ 64
  sinks-small L = few_bytes sinks_count_size r.size r.count (omega arith) L.size-most (omega (arith, L.count_most))

module _ {v : Version} {place : ℕ} {r : Part} where
  pub source-small : SourceListed v place r → no_count_size + r.size * r.count < 2 ^ 64
  source-small L = few_bytes no_count_size r.size r.count (omega arith) L.size-most (omega (arith, L.count-is))

  pub sides-small : SidesListed v place r → no_count_size + r.size * r.count < 2 ^ 64
  sides-small L = few_bytes no_count_size r.size r.count (omega arith) L.size-most (omega (arith, L.count-is))

pub config-small : (v : Version) (place : ℕ) (r : Part) → r ≡ config_at v place → no_count_size + r.size * r.count < 2 ^ 64
config-small v place r e = rw e (omega (arith, limit-few v.limits))

-- ---- from the front to the lists

-- the place that a reader at a place reaches behind the part that stands there
abbrev after : List ℕ → ℕ → ℕ → Part → ℕ
after s width a x = onward s a (width + x.size * x.count)

module _ (s : List ℕ) where
  abbrev v₀ : Version
  v₀ = version_in s

  abbrev rest_place : ℕ
  rest_place = onward s 0 1

  abbrev sides_after : ℕ
  sides_after = onward s rest_place 4

  module _ (d : Part) where
    abbrev config_after : ℕ
    config_after = after s no_count_size sides_after d

    module _ (c : Part) where
      abbrev lists_after : ℕ
      lists_after = after s no_count_size config_after c

      -- the steps through the head are one step to the lists
      pub lists-reached : d ≡ sides_at v₀ sides_after → c ≡ config_at v₀ config_after → lists_after ≡ onward s 0 (lists_place v₀)
      lists-reached e f =
          let m : ℕ = no_count_size + d.size * d.count in
          let k : ℕ = no_count_size + c.size * c.count in
          let n : m ≡ no_count_size + position_size v₀.long * 1 = ap (λ x. no_count_size + x.size * x.count) e in
          let o : k ≡ no_count_size + (config_size + limit_size v₀.limits) * 1 = ap (λ x. no_count_size + x.size * x.count) f in
          let sum : 1 + 4 + m + k ≡ lists_place v₀ = omega (arith, n, o) in
          rw (onward-twice s 0 1 4, onward-twice s 0 (1 + 4) m, onward-twice s 0 (1 + 4 + m) k, sum)

-- the run limit stands right behind the config
limit-here : (carried : Bool) (usual : ℕ) (s : List ℕ) (place k : ℕ) → limit_in carried usual (drop place s) k ≡ limit_in carried usual (drop (place + k) s) 0
limit-here false usual s place k = refl
limit-here true usual s place k = rw (get_or-drop, get_or-drop, add-zero)

pub head_read : (s : List ℕ) (version rest : ℕ) (sides : Pos) (d : Part) (config : RouterConfig) (run : ℕ)
    → version ≡ get_or (drop 0 s) 0 0
    → rest ≡ four_in (drop (rest_place s) s) 0
    → sides ≡ position_in (version_in s).long (drop (sides_after s) s) 0
    → d ≡ sides_at (version_in s) (sides_after s)
    → config ≡ config_in (drop (config_after s d) s)
    → run ≡ limit_in (version_in s).limits usual_run (drop (config_after s d) s) config_size
    → head_of version rest sides config run ≡ head_in s
head_read s version rest sides d config run e₀ e₁ e₂ ed e₃ e₄ =
    let v : Version = version_in s in
    let m : ℕ = no_count_size + d.size * d.count in
    let z : m ≡ no_count_size + position_size v.long * 1 = ap (λ x. no_count_size + x.size * x.count) ed in
    let n : sides_place + m ≡ config_place v = omega (arith, z) in
    let a₁ : ReadAlong s (rest_place s) 1 = along-past s 1 0 0 (along-start s) in
    let a₂ : ReadAlong s (sides_after s) sides_place = along-past s 4 (rest_place s) 1 a₁ in
    let a₃ : ReadAlong s (config_after s d) (config_place v) = rw n at (along-past s m (sides_after s) sides_place a₂) in
    let f₁ : rest ≡ four_in (drop 1 s) 0 = e₁ ∙ ap (λ l. four_in l 0) (along_drop s _ 1 a₁) in
    let f₂ : sides ≡ position_in v.long (drop sides_place s) 0 = e₂ ∙ ap (λ l. position_in v.long l 0) (along_drop s _ sides_place a₂) in
    let f₃ : config ≡ config_in (drop (config_place v) s) = e₃ ∙ ap config_in (along_drop s _ (config_place v) a₃) in
    let f₄ : run ≡ limit_in v.limits usual_run (drop (run_place v) s) 0 =
    e₄ ∙ ap (λ l. limit_in v.limits usual_run l config_size) (along_drop s _ (config_place v) a₃) ∙ limit-here v.limits usual_run s (config_place v) config_size in
    λ i. head_of (e₀ i) (f₁ i) (f₂ i) (f₃ i) (f₄ i)

-- ---- from the lists to the end

module _ (s : List ℕ) where
  -- the places of the definitions begin behind the count
  along-behind : (width n a p : ℕ) → ReadAlong s a p → ReadAlong s (onward s a (width + n)) (p + width + n)
  along-behind width n a p A = let assoc : p + width + n ≡ p + (width + n) = omega arith in rw assoc (along-past s (width + n) a p A)

  list-along : (long : Bool) (size : ℕ) (x : Part) (a p : ℕ) → x ≡ list_at s long size a → ReadAlong s a p
      → ReadAlong s (after s list_count_size a x) (behind (list_at s long size p))
  unfolding list_at
  list-along long size x a p e A = rw (e, along_drop s a p A) (along-behind list_count_size (size * two_in (drop p s) 0) a p A)

  behind-on : (long : Bool) (size p : ℕ) → p ≤ behind (list_at s long size p)
  unfolding list_at
  behind-on long size p = omega arith

  module _ (v : Version) where
    source-along : (x : Part) (a p : ℕ) → x ≡ source_at v a → ReadAlong s a p → ReadAlong s (after s no_count_size a x) (behind (source_at v p))
    source-along x a p e A =
        let none : p + no_count_size + endpoint_size v.long * 1 ≡ p + endpoint_size v.long * 1 = omega arith in
        rw e (rw none at (along-behind no_count_size (endpoint_size v.long * 1) a p A))

    source-on : (p : ℕ) → p ≤ behind (source_at v p)
    source-on p = omega arith

    sinks-along : (a p : ℕ) → ReadAlong s a p → ReadAlong s (after s sinks_count_size a (sinks_at v s a)) (behind (sinks_at v s p))
    unfolding sinks_at
    sinks-along a p A = rw (along_drop s a p A) (along-behind sinks_count_size (sink_size v * get_or (drop p s) 0 0) a p A)

    sinks-count : (a p : ℕ) → ReadAlong s a p → (sinks_at v s a).count ≡ (sinks_at v s p).count
    unfolding sinks_at
    sinks-count a p A = ap (λ l. get_or l 0 0) (along_drop s a p A)

    sinks_on : (p : ℕ) → p ≤ behind (sinks_at v s p)
    unfolding sinks_at
    sinks_on p = omega arith

  -- a₁ to a₇ are the places of the reader, q₁ to q₈ those of the definitions
  pub body-read : (a₁ : ℕ) (b c l t r o k : Part) (e : Endpoint) (n : Sinks) (w : Bool)
      → let v = version_in s in
      let g = v.long in
      let a₂ = after s list_count_size a₁ b in
      let a₃ = after s list_count_size a₂ c in
      let a₄ = after s list_count_size a₃ l in
      let a₅ = after s list_count_size a₄ t in
      let a₆ = after s list_count_size a₅ r in
      let a₇ = after s no_count_size a₆ o in
      a₁ ≡ onward s 0 (lists_place v)
      → b ≡ list_at s g (block_size g) a₁
      → c ≡ list_at s g (position_size g) a₂
      → l ≡ list_at s g (position_size g) a₃
      → t ≡ list_at s g (position_size g) a₄
      → r ≡ list_at s g (position_size g) a₅
      → o ≡ source_at v a₆
      → e ≡ endpoint_in g (drop a₆ s)
      → k ≡ sinks_at v s a₇
      → n ≡ sinks_found s a₇
      → w ≡ eqb (after s sinks_count_size a₇ k) (length s)
      → PartsFound s (body_of (layout_found b c l t r o k) e n w)
  unfolding layout_in
  body-read a₁ b c l t r o k e n w ea eb ec el et er eo ee ek en ew =
      let v : Version = version_in s in
      let g : Bool = v.long in
      let m : ℕ = position_size g in
      let a₂ : ℕ = after s list_count_size a₁ b in
      let a₃ : ℕ = after s list_count_size a₂ c in
      let a₄ : ℕ = after s list_count_size a₃ l in
      let a₅ : ℕ = after s list_count_size a₄ t in
      let a₆ : ℕ = after s list_count_size a₅ r in
      let a₇ : ℕ = after s no_count_size a₆ o in
      let q₁ : ℕ = lists_place v in
      let q₂ : ℕ = behind (list_at s g (block_size g) q₁) in
      let q₃ : ℕ = behind (list_at s g m q₂) in
      let q₄ : ℕ = behind (list_at s g m q₃) in
      let q₅ : ℕ = behind (list_at s g m q₄) in
      let q₆ : ℕ = behind (list_at s g m q₅) in
      let q₇ : ℕ = behind (source_at v q₆) in
      let q₈ : ℕ = behind (sinks_at v s q₇) in
      let none : 0 + lists_place v ≡ lists_place v = omega arith in
      let A₁ : ReadAlong s a₁ q₁ = rw ea (rw none at (along-past s (lists_place v) 0 0 (along-start s))) in
      let A₂ : ReadAlong s a₂ q₂ = list-along g (block_size g) b a₁ q₁ eb A₁ in
      let A₃ : ReadAlong s a₃ q₃ = list-along g m c a₂ q₂ ec A₂ in
      let A₄ : ReadAlong s a₄ q₄ = list-along g m l a₃ q₃ el A₃ in
      let A₅ : ReadAlong s a₅ q₅ = list-along g m t a₄ q₄ et A₄ in
      let A₆ : ReadAlong s a₆ q₆ = list-along g m r a₅ q₅ er A₅ in
      let A₇ : ReadAlong s a₇ q₇ = source-along v o a₆ q₆ eo A₆ in
      let A₈ : ReadAlong s (after s sinks_count_size a₇ k) q₈ = rw ek (sinks-along v a₇ q₇ A₇) in
      let whole : w ≡ eqb q₈ (length s) = ew ∙ along-end s _ q₈ A₈ in
      let ends : w ≡ true → q₈ ≡ length s = λ z. eqb-true _ _ (sym whole ∙ z) in
      let on₂ = behind-on g (block_size g) q₁ in
      let on₃ = behind-on g m q₂ in
      let on₄ = behind-on g m q₃ in
      let on₅ = behind-on g m q₄ in
      let on₆ = behind-on g m q₅ in
      let on₇ = source-on v q₆ in
      let on₈ = sinks_on v q₇ in
      let p₇ : w ≡ true → a₇ ≡ q₇ = λ z. along-near s _ q₇ A₇ (le_eq on₈ (ends z)) in
      let p₆ : w ≡ true → a₆ ≡ q₆ = λ z. along-near s _ q₆ A₆ (le_trans on₇ (le_eq on₈ (ends z))) in
      let p₅ : w ≡ true → a₅ ≡ q₅ = λ z. along-near s _ q₅ A₅ (le_trans on₆ (le_trans on₇ (le_eq on₈ (ends z)))) in
      let p₄ : w ≡ true → a₄ ≡ q₄ = λ z. along-near s _ q₄ A₄ (le_trans on₅ (le_trans on₆ (le_trans on₇ (le_eq on₈ (ends z))))) in
      let p₃ : w ≡ true → a₃ ≡ q₃ = λ z. along-near s _ q₃ A₃ (le_trans on₄ (le_trans on₅ (le_trans on₆ (le_trans on₇ (le_eq on₈ (ends z)))))) in
      let p₂ : w ≡ true → a₂ ≡ q₂ = λ z. along-near s _ q₂ A₂ (le_trans on₃ (le_trans on₄ (le_trans on₅ (le_trans on₆ (le_trans on₇ (le_eq on₈ (ends z))))))) in
      let p₁ : w ≡ true → a₁ ≡ q₁ = λ z. along-near s _ q₁ A₁ (le_trans on₂ (le_trans on₃ (le_trans on₄ (le_trans on₅ (le_trans on₆ (le_trans on₇ (le_eq on₈ (ends z)))))))) in
      let k-is : w ≡ true → k ≡ sinks_at v s q₇ = λ z. ek ∙ ap (sinks_at v s) (p₇ z) in
      record {
        whole_is = whole;
        count-is = ap (λ x. x.count) ek ∙ sinks-count v a₇ q₇ A₇;
        layout_is = λ z i. layout_found ((eb ∙ ap (list_at s g (block_size g)) (p₁ z)) i) ((ec ∙ ap (list_at s g m) (p₂ z)) i) ((el ∙ ap (list_at s g m) (p₃ z)) i) ((et ∙ ap (list_at s g m) (p₄ z)) i) ((er ∙ ap (list_at s g m) (p₅ z)) i) ((eo ∙ ap (source_at v) (p₆ z)) i) (k-is z i);
        source_is = λ z. ee ∙ ap (λ x. endpoint_in g (drop x s)) (p₆ z);
        sinks-are = λ z few.
            en ∙ ap (λ x. sinks_of (sinks_in v s (whole_sinks s (sinks_at v s x)))) (p₇ z) ∙ ap (λ x. sinks_of (sinks_in v s x)) (whole-some s (sinks_at v s q₇) few (le_eq (le_refl q₈) (ends z)));
      }
    where
      le_eq : {x y z : ℕ} → x ≤ y → y ≡ z → x ≤ z
      le_eq h f = rw (← f) h

  pub found_as : (x y : Body) → x ≡ y → PartsFound s y → PartsFound s x
  found_as x y e F = rw e F

  pub all_read : (f : Found) (h : Head) (b : Body) → f ≡ found_of h b → h ≡ head_in s → PartsFound s b → AllFound s f
  all_read f h b e head F = rw e (record { head-is = head; parts = F })

-- ---- what was found is the job of the sheet's contents

module _ (s : List ℕ) (v : Version) (n : v ≡ version_in s) (f : Found) (F : AllFound s f) (S : Shaped v s) where
  found-whole : f.body.whole ≡ true
  found-whole = F.parts.whole_is ∙ rw (← n) (eq-eqb _ _ S.whole)

  pub found_layout : f.body.layout ≡ layout_in v s
  found_layout = rw n (F.parts.layout_is found-whole)

  found-source : f.body.source ≡ endpoint_in v.long (drop f.body.layout.source.from s)
  found-source = rw (found_layout, n) (F.parts.source_is found-whole)

  found-sinks : f.body.sinks ≡ sinks_of (sinks_in v s f.body.layout.sinks)
  found-sinks = rw (found_layout, n) (F.parts.sinks-are found-whole (rw n at S.few-sinks))

  pub found-job : Bytes s → job_found f ≡ job_of v (contents_in v s)
  found-job bytes =
      job-forth v s bytes S f.head.room f.head.config f.head.run f.body.layout f.body.source f.body.sinks
      (rw n (ap (λ h. h.room) F.head-is)) (rw n (ap (λ h. h.config) F.head-is)) (rw n (ap (λ h. h.run) F.head-is)) found_layout found-source found-sinks
