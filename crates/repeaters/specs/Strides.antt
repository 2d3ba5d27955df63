-- A walk along a path as the code holds it, and what one stride of it comes to.
use Rattle.std.specs.Prelude.{◌≡◌, Bool, List, ℕ, ◌+◌, ◌-◌, ◌*◌, ◌<◌, length, eqb, Option, Some, None}
use Rattle.basics.specs.Tests.{either}
use Rattle.repeaters.specs.declared.Stride.{Stride}
use Rattle.repeaters.specs.Repeaters.{run_walk, candidate, stride}

-- the place, none for 0: that is the source's, where no repeater stands
abbrev pub place_of : ℕ → Option ℕ
place_of i = either (eqb i 0) None (Some i)

-- the walk at a reset
abbrev pub at_reset : ℕ → Stride
at_reset i = record { reset = i; place = i + 1; latest = None }

-- the latest place after the reset and before this one where a repeater may stand is known
pub record Walking (fit : ℕ → Bool) (s : Stride) : Type 0 where
  pub past : s.reset < s.place
  pub known : s.latest ≡ place_of (candidate fit s.reset s.place)

-- at most so many strides are left; it falls with each: the reset moves on, or the place does
unfoldable pub strides_left : List ℕ → Stride → ℕ
strides_left path s = (length path - s.reset) * (length path + 1) + (length path - s.place)

-- one stride of the code is one of the definition, and fewer are left
pub record Strode (limit : ℕ) (fit : ℕ → Bool) (path marks : List ℕ) (s : Stride) (marks' : List ℕ) (r : Stride) : Type 0 where
  pub is : run_walk marks' r.reset r.place ≡ stride limit fit path (run_walk marks s.reset s.place)
  pub walking : Walking fit r
  pub less : strides_left path r < strides_left path s
