-- Text that is put into a buffer, piece by piece.
use Rattle.std.specs.Prelude.{◌≡◌, List, ◌++◌, ℕ, ◌+◌, ◌≤◌, length, take}

-- the text stands behind what stood before `at`, and ends at `end`
pub record Put (out : List ℕ) (at : ℕ) (text out' : List ℕ) (end : ℕ) : Type 0 where
  pub ends : end ≡ at + length text
  pub front : take end out' ≡ take at out ++ text
  pub same : length out' ≡ length out

-- there is place for the text
pub record Fits (out : List ℕ) (at : ℕ) (text : List ℕ) : Type 0 where
  pub place : at + length text ≤ length out

-- of the whole text a first part is put, and the rest is left
pub record PutSoFar (out : List ℕ) (at : ℕ) (whole left out' : List ℕ) (end : ℕ) : Type 0 where
  pub done : List ℕ
  pub put : Put out at done out' end
  pub is : done ++ left ≡ whole
