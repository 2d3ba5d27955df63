-- Laws of the laid room: it is the nets laid one after another, what no net names stays, and so does what is not Air where no net puts a repeater.
use Rattle.std.specs.Prelude.{◌≡◌, refl, ◌≢◌, ℕ, suc, ◌+◌, ◌<◌, length, get_or}
use Rattle.std.proofs.Common.{sym, ◌∙◌, arith}
use mathlib.Core.List.{List, [], ◌∷◌}
use Rattle.basics.specs.Folds.{along}
use Rattle.room.specs.declared.Room.{Room}
use Rattle.room.specs.Units.{air}
use Rattle.laying.specs.Laying.{Net, Laid, laid_net}
use Rattle.laying.specs.Statements.{Keeps, NoRepeater, Unnamed}
use Rattle.laying.specs.KeepLaws.{keeps-all, keeps_on}
use Rattle.laying.specs.Theorems.{others_keep, blocks-keep}
use Rattle.laid_nets.specs.LaidNets.{LaidNets, with_net, laid_nets}
use Rattle.net_list_claims.specs.Statements.{net_in}

pub laid-along : (R : Room) (k : ℕ) (nets : List Net) (S : LaidNets) → (laid_nets R k nets S).room ≡ along (laid_net R) nets S.room
unfolding laid_nets along with_net
laid-along R k [] S = refl
laid-along R k (N ∷ nets) S = laid-along R (k + 1) nets (with_net R k N S)

module _ (R : Room) (v : ℕ) where
  pub unnamed-keep : (nets : List Net) (L : Laid) → ((k : ℕ) → k < length nets → Unnamed R (net_in nets k) v) → Keeps L (along (laid_net R) nets L) v
  unfolding along
  unnamed-keep [] L u = keeps-all L v
  unnamed-keep (N ∷ nets) L u = keeps_on (others_keep R N L v (u 0 (omega arith))) (unnamed-keep nets (laid_net R N L) (λ k h. u (suc k) (omega arith)))

  pub full-keep : (nets : List Net) (L : Laid) → ((k : ℕ) → k < length nets → NoRepeater (net_in nets k) v) → get_or L.kinds v 0 ≢ air → Keeps L (along (laid_net R) nets L) v
  unfolding along
  full-keep [] L u n = keeps-all L v
  full-keep (N ∷ nets) L u n =
      let one = blocks-keep R N L v (u 0 (omega arith)) n in
      keeps_on one (full-keep nets (laid_net R N L) (λ k h. u (suc k) (omega arith)) (λ z. n (sym one.kind ∙ z)))
