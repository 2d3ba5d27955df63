-- `count_known` meets its contract: those that are not 0 are counted.
use Rattle.std.proofs.Common.{◌≡◌, ℕ, zero, suc, Bool, true, false, not, eqb, ltb, List, [], ◌∷◌, length, filter, refl, ap, ◌∙◌, arith, rules, tests}
use Rattle.std.proofs.lemmas.Iterator.{YieldsList-from_slice}
use Rattle.std.proofs.lemmas.Iterator.Consumers.{YieldsList-from_filter, count_from_yields_List}
use Rattle.std.proofs.lemmas.Grind.{common_steps}
use borrow.Author.Tests.{ne_eqb, lt-ltb}
use Rattle.basics.specs.Counts.{times}
use Rattle.plain.proofs.sweep.count_known.Goals as goal

abbrev is-known : ℕ → Bool
is-known n = not (eqb n 0)

counted : (known : List ℕ) → length (filter is-known known) ≡ times (ltb 0) known
unfolding times
counted [] = refl
counted (zero ∷ known) = omega (arith, counted known)
counted (suc n ∷ known) =
    let e : eqb (suc n) 0 ≡ false = ne_eqb (suc n) 0 (λ z. absurd (omega arith)) in
    let k : ltb 0 (suc n) ≡ true = lt-ltb 0 (suc n) (omega arith) in
    rw (e, k) (omega (arith, counted known))

pub returns : goal.returns
returns c =
    let those = c.filter.result.iter.rest.now in
    count_from_yields_List c.filter.result _ c.count.ensures.ran
    (YieldsList-from_filter _ is-known (YieldsList-from_slice those refl) c.filter.ensures.closure (λ x b q k. search (rules, tests)))
    ∙ counted those ∙ ap (times (ltb 0)) (grind (arith, common_steps))
