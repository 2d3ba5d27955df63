-- Laws of the runs: what the latest place is, each case of a stride, and the loop over the strides.
use Rattle.std.specs.Prelude.{◌≡◌, ◌⊎◌, Bool, true, false, ◌&&◌, List, length, get_or, set, Option, Some, None}
use Rattle.std.specs.Option.{option_or}
use Rattle.std.specs.Bool.{then_some}
use Rattle.std.proofs.Math.Path.{refl, sym, ap}
use Rattle.std.proofs.Common.{◌∙◌}
use Rattle.std.proofs.Math.Logic.{inl, inr, ⊎_elim}
use Prim.Native.Nat.{ℕ, zero, suc, ◌+◌, ◌-◌, ◌*◌, ◌≤◌, ◌<◌}
use Rattle.std.proofs.Math.Nat.{sub-zero, mul-le-mul_right, add-mul, one-mul}
use Rattle.std.proofs.Math.Numerals.{add-one}
use native.Mathlib.Omega.{arith}
use Rattle.std.proofs.Math.Dec.{ltb}
use borrow.Author.Tests.{lt-ltb, le-ltb, ltb-true, eq-eqb, ne_eqb}
use Rattle.basics.specs.Tests.{either, ask, ask_same, ask_less, never, and_left}
use Rattle.repeaters.specs.declared.Stride.{Stride}
use Rattle.repeaters.specs.Repeaters.{path_cell, latest, with_repeater, run_walk, candidate, resume, stride, strides, run}
use Rattle.repeaters.specs.Strides.{place_of, at_reset, Walking, strides_left, Strode}

-- ---- the latest place that passes a test

module _ (p : ℕ → Bool) where
  pub latest-is : (n : ℕ) → (latest p n ≡ 0) ⊎ ((latest p n < n) × (p (latest p n) ≡ true))
  unfolding latest
  latest-is zero = inl refl
  latest-is (suc n) =
      ask (p n) (λ t. rw t (inr (omega arith, t)))
      (λ f. rw f (⊎_elim {C = (latest p n ≡ 0) ⊎ ((latest p n < suc n) × (p (latest p n) ≡ true))} (λ e. inl e) (λ h. inr (omega (arith, h.0), h.1)) (latest-is n)))

  pub latest-next : (n : ℕ) → latest p (n + 1) ≡ either (p n) n (latest p n)
  unfolding latest
  latest-next n = rw add-one

  latest-none : (n : ℕ) → ((i : ℕ) → i < n → p i ≡ false) → latest p n ≡ 0
  unfolding latest
  latest-none zero f = refl
  latest-none (suc n) f = rw (f n (omega arith)) (latest-none n (λ i h. f i (omega arith)))

module _ (fit : ℕ → Bool) (reset : ℕ) where
  -- no place is after the reset yet
  candidate-none : (n : ℕ) → n ≤ reset + 1 → candidate fit reset n ≡ 0
  unfolding candidate
  candidate-none n h = latest-none (λ i. ltb reset i && fit i) n (λ i k. rw (le-ltb reset i (omega arith)))

  candidate-next : (n : ℕ) → reset < n → candidate fit reset (n + 1) ≡ either (fit n) n (candidate fit reset n)
  unfolding candidate
  candidate-next n h = latest-next (λ i. ltb reset i && fit i) n ∙ rw (lt-ltb reset n h)

  candidate-after : (n c : ℕ) → c ≡ candidate fit reset n → (c ≡ 0 → ⊥) → (reset < c) × (c < n)
  unfolding candidate
  candidate-after n c e k =
      ⊎_elim {C = (reset < c) × (c < n)}
      (λ z. absurd (k (e ∙ z)))
      (λ h. (rw e (ltb-true reset _ (and_left (ltb reset (latest (λ i. ltb reset i && fit i) n)) _ h.1)), rw e h.0))
      (latest-is (λ i. ltb reset i && fit i) n)

-- ---- places, and none

this_or : (b : Bool) (place : ℕ) (before : Option ℕ) → option_or (then_some b place) before ≡ either b (Some place) before
this_or true place before = refl
this_or false place before = refl

pub this-or-before : (b p : Bool) (place : ℕ) (this before r : Option ℕ) → this ≡ then_some b place → r ≡ option_or this before → b ≡ p → r ≡ either p (Some place) before
this-or-before b p place this before r e f g = f ∙ rw (e, g) (this_or p place before)

place_known : (b : Bool) (x y : ℕ) → 0 < x → either b (Some x) (place_of y) ≡ place_of (either b x y)
place_known true x y h = rw (ne_eqb x 0 (omega arith))
place_known false x y h = refl

pub place-some : (n c : ℕ) → Some c ≡ place_of n → (c ≡ n) × (c ≡ 0 → ⊥)
place-some n c e =
    ask_same n 0
    (λ z. absurd (some_none c (rw (eq-eqb n 0 z) at e)))
    (λ k. let s : c ≡ n = same_some c n (rw (ne_eqb n 0 k) at e) in (s, λ z. k (sym s ∙ z)))
  where
    some_none : (i : ℕ) → Some i ≡ None → ⊥
    some_none i q = never (cc)

    same_some : (i j : ℕ) → Some i ≡ Some j → i ≡ j
    same_some i j q = cc

pub place-found : (n i : ℕ) → i ≡ n → 0 < i → Some i ≡ place_of n
place-found n i e h = rw (← e, ne_eqb i 0 (omega arith))

pub place-none : (n : ℕ) → None ≡ place_of n → n ≡ 0
place-none n e = ask_same n 0 (λ z. z) (λ k. none_some n (rw (ne_eqb n 0 k) at e))
  where
    none_some : (i : ℕ) → None ≡ Some i → n ≡ 0
    none_some i q = never (cc)

-- ---- what falls

module _ (path : List ℕ) where
  on-less : (reset place : ℕ) (latest latest' : Option ℕ) → place < length path
      → strides_left path (record { reset = reset; place = place + 1; latest = latest' }) < strides_left path (record { reset = reset; place = place; latest = latest })
  unfolding strides_left
  on-less reset place latest latest' h = omega arith

  reset-less : (s r : Stride) → s.reset < r.reset → r.reset < length path → strides_left path r < strides_left path s
  unfolding strides_left
  reset-less s r h k =
      let more : (length path - r.reset + 1) * (length path + 1) ≤ (length path - s.reset) * (length path + 1) = mul-le-mul_right (length path + 1) (omega arith) in
      omega (arith, more, add-mul (length path - r.reset) 1 (length path + 1), one-mul (length path + 1))

-- ---- one stride, case by case

-- the place chosen is the latest after the reset, up to and including this one
module _ {fit : ℕ → Bool} {s : Stride} (W : Walking fit s) (r : Option ℕ) (found : r ≡ either (fit s.place) (Some s.place) s.latest) where
  chosen_is : r ≡ place_of (candidate fit s.reset (s.place + 1))
  chosen_is =
      found
      ∙ ap (either (fit s.place) (Some s.place)) W.known
      ∙ place_known (fit s.place) s.place (candidate fit s.reset s.place) (omega (arith, W.past))
      ∙ ap place_of (sym (candidate-next fit s.reset s.place W.past))

  module _ (c : ℕ) (e : r ≡ Some c) where
    chosen_some : (c ≡ candidate fit s.reset (s.place + 1)) × (c ≡ 0 → ⊥)
    chosen_some = place-some (candidate fit s.reset (s.place + 1)) c (sym e ∙ chosen_is)

    pub chosen-after : (s.reset < c) × (c < s.place + 1)
    chosen-after = candidate-after fit s.reset (s.place + 1) c chosen_some.0 chosen_some.1

module _ (limit : ℕ) (fit : ℕ → Bool) (path marks : List ℕ) (s : Stride) (W : Walking fit s) (inside : s.place < length path) where
  abbrev place : ℕ
  place = s.place

  fresh : (i : ℕ) → Walking fit (at_reset i)
  fresh i = record { past = omega arith; known = rw (candidate-none fit i (i + 1) (omega arith)) }

  pub strode_met : get_or marks (path_cell path place) 0 ≡ 1 → Strode limit fit path marks s marks (at_reset place)
  unfolding stride
  strode_met e = record {
    is = rw (eq-eqb (get_or marks (path_cell path place) 0) 1 e);
    walking = fresh place;
    less = reset-less path s (at_reset place) W.past inside;
  }

  module _ (none : get_or marks (path_cell path place) 0 ≡ 1 → ⊥) (r : Option ℕ) (found : r ≡ either (fit place) (Some place) s.latest) where
    chosen : r ≡ place_of (candidate fit s.reset (place + 1))
    chosen = chosen_is W r found

    abbrev onward : Stride
    onward = record { reset = s.reset; place = place + 1; latest = r }

    walks : Walking fit onward
    walks = record { past = omega (arith, W.past); known = chosen }

    pub strode_near : place - s.reset ≤ limit → Strode limit fit path marks s marks onward
    unfolding stride
    strode_near h = record {
      is = rw (ne_eqb (get_or marks (path_cell path place) 0) 1 none, le-ltb (s.reset + limit) place (omega arith));
      walking = walks;
      less = on-less path s.reset place s.latest r inside;
    }

    module _ (far : limit < place - s.reset) where
      pub strode_none : r ≡ None → Strode limit fit path marks s marks onward
      unfolding stride resume
      strode_none z = record {
        is = rw (ne_eqb (get_or marks (path_cell path place) 0) 1 none, lt-ltb (s.reset + limit) place (omega arith), eq-eqb (candidate fit s.reset (place + 1)) 0 (place-none _ (sym z ∙ chosen)));
        walking = walks;
        less = on-less path s.reset place s.latest r inside;
      }

      pub strode_put : (c : ℕ) → r ≡ Some c → Strode limit fit path marks s (set marks (path_cell path c) 1) (at_reset c)
      unfolding stride resume with_repeater
      strode_put c e =
          let k = chosen_some W r found c e in
          record {
            is = rw (ne_eqb (get_or marks (path_cell path place) 0) 1 none, lt-ltb (s.reset + limit) place (omega arith), ← k.0, ne_eqb c 0 k.1);
            walking = fresh c;
            less = reset-less path s (at_reset c) (chosen-after W r found c e).0 (omega (arith, (chosen-after W r found c e).1));
          }

    -- where none is due, or no place is known, the walk goes on to the next cell
    pub strode_on : (limit < place - s.reset → r ≡ None) → Strode limit fit path marks s marks onward
    strode_on f = ask_less limit (place - s.reset) (λ h. strode_none h (f h)) strode_near

-- ---- the loop over the strides

pub record Striding (limit : ℕ) (fit : ℕ → Bool) (path start marks : List ℕ) (s : Stride) : Type 0 where
  pub walking : Walking fit s
  pub long : length marks ≡ length start
  pub fuel : ℕ
  pub enough : strides_left path s ≤ fuel
  pub same : strides limit fit path fuel (run_walk marks s.reset s.place) ≡ run limit fit path start

module _ {limit : ℕ} {fit : ℕ → Bool} {path start : List ℕ} where
  pub striding_first : Striding limit fit path start start (at_reset 0)
  unfolding run strides_left
  striding_first = record {
    walking = record { past = omega arith; known = rw (candidate-none fit 0 1 (omega arith)) };
    long = refl;
    fuel = (length path + 1) * (length path + 1);
    enough = rw sub-zero (omega (arith, add-mul (length path) 1 (length path + 1), one-mul (length path + 1)));
    same = refl;
  }

  module _ {marks : List ℕ} {s : Stride} (I : Striding limit fit path start marks s) where
    pub striding_next : s.place < length path → {marks' : List ℕ} {r : Stride} → length marks' ≡ length marks
        → Strode limit fit path marks s marks' r → Striding limit fit path start marks' r
    unfolding strides
    striding_next h {marks'} {r} e S = go I.fuel I.enough I.same
      where
        go : (f : ℕ) → strides_left path s ≤ f → strides limit fit path f (run_walk marks s.reset s.place) ≡ run limit fit path start → Striding limit fit path start marks' r
        go zero a q = absurd (omega (arith, S.less))
        go (suc f) a q = record {
          walking = S.walking;
          long = e ∙ I.long;
          fuel = f;
          enough = omega (arith, S.less);
          same = ap (strides limit fit path f) S.is ∙ rw (lt-ltb s.place (length path) h, strides) at q;
        }

    pub striding_all : length path ≤ s.place → marks ≡ run limit fit path start
    unfolding strides
    striding_all h = go I.fuel I.same
      where
        go : (f : ℕ) → strides limit fit path f (run_walk marks s.reset s.place) ≡ run limit fit path start → marks ≡ run limit fit path start
        go zero q = q
        go (suc f) q = rw (le-ltb s.place (length path) h, strides) at q
