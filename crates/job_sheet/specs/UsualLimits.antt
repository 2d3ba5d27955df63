-- "A version 1 sheet means 12 and 8 throughout": the run limit and the tail limit of a job whose sheet carries none.
use Rattle.std.specs.Prelude.{ℕ}

abbrev pub usual_run : ℕ
usual_run = 12

abbrev pub usual_tail : ℕ
usual_tail = 8
