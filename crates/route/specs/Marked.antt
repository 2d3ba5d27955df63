-- The marked cells, ascending.
use Rattle.std.specs.Prelude.{List, [], ◌∷◌, ◌++◌, ℕ, suc, eqb}
use Rattle.basics.specs.Tests.{either}

-- the cell, if this is the mark of one that is marked
abbrev pub if_marked : ℕ → ℕ → List ℕ
if_marked mark cell = either (eqb mark 1) (cell ∷ []) []

-- those of a list of marks that begins with the mark of this cell
unfoldable pub marked_from : ℕ → List ℕ → List ℕ
marked_from cell [] = []
marked_from cell (mark ∷ marks) = if_marked mark cell ++ marked_from (suc cell) marks

abbrev pub marked : List ℕ → List ℕ
marked marks = marked_from 0 marks
