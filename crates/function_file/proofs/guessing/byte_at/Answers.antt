-- `byte_at` meets its contract.
use mathlib.Core.Path.{sym}
use native.Mathlib.Omega.{arith}
use lib.ListN.{get_or-eq_default, drop, length-drop}
use lib.Seq.{get_or-drop}
use Rattle.function_file.proofs.guessing.byte_at.Goals as goal

pub returns-then-at-j : goal.returns-then-at-j
returns-then-at-j c = (sym (get_or-drop c.args.at c.args.text.now c.args.j 0), (c.shared_slice_known-1.given _).fits)

pub returns-else-at-j : goal.returns-else-at-j
returns-else-at-j c = (sym (get_or-eq_default (drop c.args.at c.args.text.now) 0 (simp length-drop (omega arith))), omega arith)
