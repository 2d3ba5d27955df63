-- `bit_value` meets its contract: the table holds the powers of two.
use mathlib.Core.Path.{refl}
use mathlib.Core.List.{List, [], ◌∷◌}
use Prim.Native.Nat.{ℕ, ◌^◌}
use lib.Dec.{eqb}
use lib.ListN.{get_or}
use borrow.Author.Tests.{eqb-true}
use Rattle.basics.specs.Lists.{all_below, below_all}
use Rattle.repeaters.proofs.links.bit_value.Goals as goal

values : List ℕ
values = 1 ∷ 2 ∷ 4 ∷ 8 ∷ 16 ∷ 32 ∷ 64 ∷ 128 ∷ 256 ∷ 512 ∷ 1024 ∷ 2048 ∷ []

pub returns : goal.returns
unfolding values all_below
returns c = eqb-true (get_or values c.args.k 0) (2 ^ c.args.k) (below_all (λ j. eqb (get_or values j 0) (2 ^ j)) 12 refl c.args.k c.requires)
