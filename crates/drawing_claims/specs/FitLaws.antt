-- What a search's input has that is judged fit, and a drawing asks as well.
use Rattle.std.specs.Prelude.{◌≡◌, true, false, Ok, Err}
use Rattle.basics.specs.Tests.{ask, never}
use Rattle.basics.specs.Lists.{every}
use Rattle.room.specs.Room.{sides_good}
use Rattle.room.specs.Units.{config_good, kind_known}
use Rattle.routing.specs.declared.Refusal.{Refusal}
use Rattle.routing.specs.declared.Refusal.TheVariants.{Sides, Config, Buffer, Code}
use Rattle.routing.specs.Answers.{Input, buffers_good, judged}

-- the room's sides are good, and each kind is known
pub record RoomKnown (I : Input) : Type 0 where
  pub sides : sides_good I.room ≡ true
  pub kinds : every kind_known I.kinds ≡ true

differ : {X : Type 0} (why : Refusal) → Err why ≡ Ok (tt {0}) → X
differ why e = never (cc)

pub fit-known : (I : Input) → judged I ≡ Ok tt → RoomKnown I
unfolding judged
fit-known I e =
    ask (sides_good I.room)
    (λ a. ask (config_good I.room I.config)
    (λ b. ask (buffers_good I.room I.kinds I.lengths)
    (λ c. ask (every kind_known I.kinds)
    (λ d. record { sides = a; kinds = d })
    (λ n. differ Code (rw (a, b, c, n) at e)))
    (λ n. differ Buffer (rw (a, b, n) at e)))
    (λ n. differ Config (rw (a, n) at e)))
    (λ n. differ Sides (rw n at e))
