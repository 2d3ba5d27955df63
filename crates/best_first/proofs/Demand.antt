-- What each end of a search says of its answer: the parts of the third demand.
use Rattle.std.specs.Prelude.{◌≡◌, refl, List, ℕ, ◌-◌, ◌*◌, ◌≤◌}
use Rattle.std.proofs.Common.{arith, mul_comm, mul-le-mul_right}
use Rattle.best_first.specs.Search.{Graph, Answer}
use Rattle.best_first.specs.Ways.{Sound, Consistent}
use Rattle.best_first.specs.Statements.{Honest, Right, expanded_of}
use Rattle.best_first.proofs.Reached.{Ending, empty, arrives, passes, fills}
use Rattle.best_first.proofs.Induction.{invariant_holds, bare}
use Rattle.best_first.proofs.NoRoute.{empty-shut, shut_no_way}
use Rattle.best_first.proofs.WayBack.{taken-lawful}
use Rattle.best_first.proofs.Cheapest.{cheapest}
use Rattle.best_first.proofs.Paced.{Frugal}

module _ {G : Graph} {degree dearest : ℕ} (S : Sound G degree dearest) {n : ℕ} where
  -- at any costs
  pub honest-by : {a : Answer} {l : List ℕ} → Ending G n a l → Honest G n a
  honest-by (empty R q) = shut_no_way (empty-shut S R q)
  honest-by (arrives t R k e) = taken-lawful S R k e
  honest-by (passes t R k q e) = omega arith
  honest-by (fills t R k q e) = tt

  -- with a consistent estimate
  pub right_by : Consistent G → {a : Answer} {l : List ℕ} → Ending G n a l → Honest G n a → Frugal G (G.size * degree - degree) a → Right G degree n a
  right_by K E h f = go E h f (omega (arith, f.expanded, some, most, S.some))
    where
      most : G.size * degree ≡ degree * G.size
      most = mul_comm G.size degree

      some : degree ≤ G.size * degree
      some = let h : 1 ≤ G.size = omega (arith, S.goal_in) in omega (arith, mul-le-mul_right degree h)

      go : {a : Answer} {l : List ℕ} → Ending G n a l → Honest G n a → Frugal G (G.size * degree - degree) a → expanded_of a ≤ degree * G.size → Right G degree n a
      go (empty R q) h f few = (h, few)
      go (arrives t R k e) h f few = (h, cheapest K (invariant_holds S (bare G) R).base k e, few)
      go (passes t R k q e) h f few = (h, few)
      go (fills t R k q e) h f few = (omega (arith, f.spare _ refl, most), few)
