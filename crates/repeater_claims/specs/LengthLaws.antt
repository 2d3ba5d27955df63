-- Planning keeps the length of the marks: one byte a cell.
use Rattle.std.specs.Prelude.{◌≡◌, Bool, List, [], ◌∷◌, eqb, ltb, length}
use Rattle.std.proofs.Math.Path.{refl}
use Rattle.std.proofs.Common.{◌∙◌, length-set}
use Prim.Native.Nat.{ℕ, zero, suc, ◌+◌}
use Rattle.std.proofs.lemmas.List.{length-replicate}
use Rattle.basics.specs.Tests.{ask}
use Rattle.basics.specs.Folds.{along}
use Rattle.room.specs.declared.Room.{Room}
use Rattle.room.specs.Room.{volume}
use Rattle.routing_resources.specs.Marks.{no_marks}
use Rattle.ends.specs.declared.Tap.{Tap}
use Rattle.repeaters.specs.Repeaters.{fits, path_cell, repeater_at, with_repeater, RunWalk, run_walk, candidate, resume, stride, strides, run, last_reset, end, tail_place, reinforced, path_to, run_of, tail_of, planned, repeater_marks}

put-long : (path marks : List ℕ) (i : ℕ) → length (with_repeater path marks i) ≡ length marks
unfolding with_repeater
put-long path marks i = ask (eqb i 0) (λ t. rw t refl) (λ f. rw f (length-set marks (path_cell path i) 1))

module _ (limit : ℕ) (fit : ℕ → Bool) (path : List ℕ) where
  resume-long : (w : RunWalk) (c : ℕ) → length (resume path w c).marks ≡ length w.marks
  unfolding resume
  resume-long w c = ask (eqb c 0) (λ t. rw t refl) (λ f. rw f (put-long path w.marks c))

  stride-long : (w : RunWalk) → length (stride limit fit path w).marks ≡ length w.marks
  unfolding stride
  stride-long w =
      ask (repeater_at path w.marks w.place)
      (λ t. rw t refl)
      (λ f. rw f (ask (ltb (w.reset + limit) w.place) (λ t. rw t (resume-long w (candidate fit w.reset (w.place + 1)))) (λ g. rw g refl)))

  strides-long : (n : ℕ) (w : RunWalk) → length (strides limit fit path n w) ≡ length w.marks
  unfolding strides
  strides-long zero w = refl
  strides-long (suc n) w =
      ask (ltb w.place (length path)) (λ t. rw (t, strides) (strides-long n (stride limit fit path w) ∙ stride-long w)) (λ f. rw (f, strides) refl)

  run_long : (marks : List ℕ) → length (run limit fit path marks) ≡ length marks
  unfolding run
  run_long marks = strides-long _ (run_walk marks 0 1)

  tail_long : (marks : List ℕ) → length (reinforced limit fit path marks) ≡ length marks
  unfolding reinforced
  tail_long marks =
      ask (ltb (last_reset path marks + limit) (end path)) (λ t. rw t (put-long path marks (tail_place limit fit path marks))) (λ f. rw f refl)

along-long : (step : Tap → List ℕ → List ℕ) → ((tap : Tap) (marks : List ℕ) → length (step tap marks) ≡ length marks) → (taps : List Tap) (marks : List ℕ)
    → length (along step taps marks) ≡ length marks
unfolding along
along-long step s [] marks = refl
along-long step s (tap ∷ taps) marks = along-long step s taps (step tap marks) ∙ s tap marks

module _ (R : Room) (next : ℕ → List ℕ) (parents forbidden : List ℕ) (limit : ℕ) (taps : List Tap) where
  planned-long : (marks : List ℕ) → length (planned R next parents forbidden limit taps marks) ≡ length marks
  unfolding planned
  planned-long marks =
      along-long (tail_of R next parents forbidden)
      (λ tap m. ask tap.wire
      (λ t. rw t (tail_long tap.tail (fits R next forbidden (path_to R next parents forbidden tap)) (path_to R next parents forbidden tap) m)) (λ f. rw f refl)) taps _
      ∙ along-long (run_of R next parents forbidden limit)
      (λ tap m. run_long limit (fits R next forbidden (path_to R next parents forbidden tap)) (path_to R next parents forbidden tap) m) taps marks

pub marks-long : (R : Room) (limit source : ℕ) (taps : List Tap) (branches : List (List ℕ)) (forbidden : List ℕ)
    → length (repeater_marks R limit source taps branches forbidden) ≡ volume R
unfolding repeater_marks
marks-long R limit source taps branches forbidden = planned-long R _ _ forbidden limit taps (no_marks (volume R)) ∙ length-replicate {A = ℕ} (volume R) 0
