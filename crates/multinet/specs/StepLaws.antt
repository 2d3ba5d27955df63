-- A branch goes by steps, as the path that it was made of does the other way round.
use Rattle.std.specs.Prelude.{◌≡◌, ℕ, suc, ◌+◌, ◌<◌, eqb, length, get_or}
use Rattle.std.proofs.Common.{inl, inr, suc-add, arith}
use mathlib.Core.List.{List, [], ◌∷◌, ◌++◌, reverse, reverse-cons, append-nil}
use Rattle.std.proofs.lemmas.Bool.{eqb-false}
use Rattle.basics.specs.Tests.{ask}
use Rattle.room.specs.declared.Room.{Room}
use Rattle.room.specs.Room.{Good, Step}
use Rattle.ends.specs.declared.Tap.{Tap}
use Rattle.branches.specs.Branches.{branch_of}
use Rattle.repeaters.specs.Masks.{Steps}
use Rattle.repeaters.specs.MaskLaws.{step_back}
use Rattle.multinet.specs.Growing.{Near}

pub steps-by-place : (R : Room) (l : List ℕ) → ((i : ℕ) → i + 1 < length l → Step R (get_or l i 0) (get_or l (i + 1) 0)) → Steps R l
steps-by-place R [] f = tt {0}
steps-by-place R (a ∷ []) f = tt {0}
steps-by-place R (a ∷ (b ∷ rest)) f = (f 0 (omega arith), steps-by-place R (b ∷ rest) (λ i h. rw (suc-add i 1) at (f (suc i) (omega arith))))

-- one step more at the end
step-at-end : (R : Room) (xs : List ℕ) (u v : ℕ) → Steps R (xs ++ (u ∷ [])) → Step R u v → Steps R ((xs ++ (u ∷ [])) ++ (v ∷ []))
step-at-end R [] u v s t = (t, tt {0})
step-at-end R (a ∷ []) u v s t = (s.0, (t, tt {0}))
step-at-end R (a ∷ (b ∷ xs)) u v s t = (s.0, step-at-end R (b ∷ xs) u v s.1 t)

steps_reverse : {R : Room} → Good R → (l : List ℕ) → Steps R l → Steps R (reverse l)
steps_reverse G [] s = tt {0}
steps_reverse G (a ∷ []) s = tt {0}
steps_reverse {R = R} G (a ∷ (b ∷ rest)) s =
    let r : Steps R (reverse rest ++ (b ∷ [])) = rw (reverse-cons b rest) at (steps_reverse G (b ∷ rest) s.1) in
    rw (reverse-cons a (b ∷ rest), reverse-cons b rest) (step-at-end R (reverse rest) b a r (step_back s.0 G))

pub branch-steps : {R : Room} → Good R → (t : Tap) (rest : List ℕ) → Near R t → Steps R (t.approach ∷ rest) → Steps R (branch_of t (t.approach ∷ rest))
unfolding branch_of
branch-steps {R = R} G t rest near s =
    let r = steps_reverse G (t.approach ∷ rest) s in
    ask (eqb t.terminal t.approach) (λ e. rw (e, append-nil (reverse (t.approach ∷ rest))) r) (λ f. rw f (added near r (eqb-false _ _ f)))
  where
    added : Near R t → Steps R (reverse (t.approach ∷ rest)) → (t.terminal ≡ t.approach → ⊥) → Steps R (reverse (t.approach ∷ rest) ++ (t.terminal ∷ []))
    added (inl e) r d = absurd (d e)
    added (inr u) r d = rw (reverse-cons t.approach rest) (step-at-end R (reverse rest) t.approach t.terminal (rw (reverse-cons t.approach rest) at r) u)
