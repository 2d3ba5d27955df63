-- Laws of owners: how the loops that look for an overlap and that own cells go.
use Rattle.std.specs.Prelude.{◌≡◌, refl, ◌≢◌, Bool, true, false, ◌&&◌, ◌||◌, List, ℕ, ◌+◌, ◌≤◌, ◌<◌, eqb, leb, length, get_or, set, Some, None}
use Rattle.std.proofs.Math.Path.{sym}
use Rattle.std.proofs.Common.{◌∙◌, arith, eq-eqb, ne_eqb, le-leb}
use Rattle.std.proofs.lemmas.Bool.{lt-leb}
use Rattle.basics.specs.Tests.{ask_same, ask_less}
use Rattle.room.specs.PlaceLaws.{first-none, first-is}
use Rattle.routing_resources.specs.Marks.{is_marked}
use Rattle.routing_resources.specs.MarkLaws.{MarkedSoFar, marking-none, marking-next, with_none, with_same, with_set}
use Rattle.laying.specs.Laying.{owned_by, overlap_of}
use Rattle.laying.specs.Bearing.{meets}

-- ---- the first cell that meets

pub record NoneMet (occupied owners : List ℕ) (i : ℕ) : Type 0 where
  pub within : i ≤ length occupied
  pub none : (v : ℕ) → v < i → meets (get_or occupied v 0) (get_or owners v 0) ≡ false

module _ (occupied owners : List ℕ) where
  pub met-first : NoneMet occupied owners 0
  met-first = record { within = omega arith; none = λ v h. absurd (omega arith) }

  module _ {i : ℕ} (I : NoneMet occupied owners i) where
    pub met_no : i < length occupied → meets (get_or occupied i 0) (get_or owners i 0) ≡ false → NoneMet occupied owners (i + 1)
    met_no h f = record { within = omega arith; none = λ v l. ask_same v i (λ e. rw e f) (λ d. I.none v (omega (arith, d))) }

    pub met_yes : i < length occupied → meets (get_or occupied i 0) (get_or owners i 0) ≡ true → Some i ≡ overlap_of occupied owners
    unfolding overlap_of
    met_yes h t = sym (first-is _ (length occupied) i h t I.none)

    pub met-none : length occupied ≤ i → None ≡ overlap_of occupied owners
    unfolding overlap_of
    met-none h = sym (first-none _ (length occupied) (λ v l. I.none v (omega arith)))

-- ---- the cells owned so far

-- the cells that are still to be owned
abbrev pub left_of : List ℕ → ℕ → ℕ → Bool
left_of occupied i v = leb i v && is_marked occupied v

abbrev pub Owning : ℕ → List ℕ → List ℕ → List ℕ → ℕ → Type 0
Owning byte occupied start owners i = MarkedSoFar byte (left_of occupied) start owners i

module _ {byte : ℕ} (occupied : List ℕ) {start owners : List ℕ} (i : ℕ) (I : Owning byte occupied start owners i) where
  after : (v : ℕ) → v ≢ i → left_of occupied i v ≡ left_of occupied (i + 1) v
  after v d =
      ask_less v i (λ h. rw (lt-leb i v h, lt-leb (i + 1) v (omega arith)))
      (λ h. rw (le-leb i v h, le-leb (i + 1) v (omega (arith, d))))

  pub owning_met : get_or occupied i 0 ≡ 1 → {owners' : List ℕ} → owners' ≡ set owners i byte → Owning byte occupied start owners' (i + 1)
  owning_met t e = marking-next I (eqb i) (e ∙ with_set byte owners i) one
    where
      one : (v : ℕ) → left_of occupied i v ≡ eqb i v || left_of occupied (i + 1) v
      one v =
          ask_same v i (λ q. rw (q, eq-eqb i i refl, le-leb i i (omega arith), eq-eqb _ 1 t))
          (λ d. rw (ne_eqb i v (λ q. d (sym q))) (after v d))

  pub owning_missed : get_or occupied i 0 ≢ 1 → Owning byte occupied start owners (i + 1)
  owning_missed n = marking-next I (λ v. false) (sym (with_none byte (λ v. false) owners (λ v h. refl))) one
    where
      one : (v : ℕ) → left_of occupied i v ≡ left_of occupied (i + 1) v
      one v =
          ask_same v i
          (λ q. rw (q, le-leb i i (omega arith), ne_eqb _ 1 n, lt-leb (i + 1) i (omega arith)))
          (after v)

pub owning_first : (byte : ℕ) (occupied start : List ℕ) → Owning byte occupied start start 0
owning_first byte occupied start = marking-none byte (left_of occupied) start

pub owning_all : (number : ℕ) (occupied start : List ℕ) {owners : List ℕ} (i : ℕ) → Owning (number + 1) occupied start owners i → length start ≡ length occupied
    → length occupied ≤ i → owners ≡ owned_by number occupied start
unfolding owned_by
owning_all number occupied start {owners} i I l h =
    sym (with_none (number + 1) (left_of occupied i) owners (λ v b. rw (lt-leb i v (omega (arith, I.long, l)))))
    ∙ I.left
    ∙ with_same (number + 1) (left_of occupied 0) (is_marked occupied) start (λ v b. rw (le-leb 0 v (omega arith)))
