-- A promise determines all that it speaks of: two results that keep it coincide.
use Rattle.std.specs.Prelude.{◌≡◌}

abbrev pub Determines : {X : Type 0} → (X → Type 0) → Type 0
Determines {X} promise = (x y : X) → promise x → promise y → x ≡ y
