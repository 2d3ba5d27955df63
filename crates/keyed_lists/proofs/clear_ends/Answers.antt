-- `clear_ends` empties the lists: the first 64 numbers are 0.
use mathlib.Core.Path.{◌≡◌, sym, ap, ◌∙◌}
use mathlib.Core.List.{◌++◌}
use Prim.Native.Nat.{ℕ, ◌<◌}
use native.Mathlib.Omega.{arith}
use lib.ListN.{get_or, replicate, length-replicate}
use lib.Seq.{length-take-le}
use mathlib.Core.List.{List}
use Rattle.std.proofs.lemmas.List.{get_or-replicate, get_or_append_left}
use Rattle.keyed_lists.proofs.clear_ends.Goals as goal

zeros_first : (rest : List ℕ) (n j : ℕ) → j < n → get_or (replicate n 0 ++ rest) j 0 ≡ 0
zeros_first rest n j h = get_or_append_left (replicate n 0) rest 0 j (rw (length-replicate {A = ℕ} n 0) h) ∙ get_or-replicate n j 0 0 h

pub slice_bounds-fill-end-2 : goal.slice_bounds-fill-end-2
slice_bounds-fill-end-2 c = sym (length-take-le 64 c.args.queue.now (omega arith))

pub returns : goal.returns
returns c =
    let front : c.fill.new.self ≡ replicate 64 0 = c.fill.ensures.after (λ y e. e) ∙ ap (λ n. replicate n 0) (length-take-le 64 c.args.queue.now (omega arith)) in
    record { none = λ j h. rw front (zeros_first _ 64 j h) }
