-- The loop over the branches, and the lines of a tree.
use Rattle.std.specs.Prelude.{◌≡◌, refl, List, ◌++◌, ℕ, ◌+◌, ◌-◌, ◌≤◌, ◌<◌, length, take, drop, get_or}
use Rattle.std.proofs.Common.{sym, arith, drop_of_length-le, get_or-take}
use Rattle.std.proofs.Math.Seq.{drop-drop}
use Rattle.basics.specs.Lists.{drop_next}
use Rattle.branches.specs.declared.BranchLengths.{BranchLengths}
use Rattle.branches.specs.Branches.{sum, lengths_in, cut_into, branches_of, Branched}
use Rattle.branches.specs.BranchLaws.{lengths-count}
use Rattle.route.specs.Lines.{net_line, branch_line, branch_lines, repeaters_line, tree_text}
use Rattle.route.specs.Marked.{marked}
use Rattle.putting.specs.Putting.{Put, Fits, PutSoFar}
use Rattle.putting.specs.PutLaws.{both, then-fits, first_fits, putting_begun, putting_on, putting_done, putting_fits}

-- the branches of the first k sinks are put: those left stand from `from` on
pub record Branching (out : List ℕ) (at : ℕ) (whole cells lengths : List ℕ) (from k : ℕ) (out' : List ℕ) (end : ℕ) : Type 0 where
  pub going : PutSoFar out at whole (branch_lines (cut_into (drop k lengths) (drop from cells))) out' end
  pub within : from + sum (drop k lengths) ≤ length cells

module _ {out : List ℕ} {at : ℕ} {whole cells lengths : List ℕ} where
  pub branching_begun : whole ≡ branch_lines (cut_into lengths cells) → sum lengths ≤ length cells → Branching out at whole cells lengths 0 0 out at
  branching_begun e h = record { going = rw e (putting_begun); within = omega (arith, h) }

  module _ {from k : ℕ} {out' : List ℕ} {end : ℕ} (B : Branching out at whole cells lengths from k out' end) where
    module _ (h : k < length lengths) {n : ℕ} (e : n ≡ get_or lengths k 0) where
      -- the next branch stands in the buffer
      pub next-within : from + n + sum (drop (k + 1) lengths) ≤ length cells
      unfolding sum
      next-within = omega (arith, e, rw (drop_next lengths k 0 h) at B.within)

      next-branch : PutSoFar out at whole (branch_line (take n (drop from cells)) ++ branch_lines (cut_into (drop (k + 1) lengths) (drop (from + n) cells))) out' end
      unfolding cut_into
      next-branch = rw (e, ← drop-drop (get_or lengths k 0) from cells) (rw (drop_next lengths k 0 h) at B.going)

      module _ {piece : List ℕ} (q : piece ≡ take n (drop from cells)) where
        pub branch_fits : Fits out at whole → Fits out' end (branch_line piece)
        branch_fits f = rw q (putting_fits (branch_lines (cut_into (drop (k + 1) lengths) (drop (from + n) cells))) next-branch f)

        pub branching_on : {out'' : List ℕ} {end' : ℕ} → Put out' end (branch_line piece) out'' end'
            → Branching out at whole cells lengths (from + n) (k + 1) out'' end'
        branching_on p = record { going = putting_on next-branch (rw q at p); within = next-within }

    pub branching_done : length lengths ≤ k → Put out at whole out' end
    unfolding cut_into
    branching_done h = putting_done (rw (drop_of_length-le lengths h) at B.going)

-- the lengths of the branches
module _ {cells : List ℕ} {lengths : BranchLengths} (B : Branched lengths cells) where
  pub branched-count : length (lengths_in lengths) ≡ lengths.count
  branched-count = lengths-count lengths (omega (arith, B.few, B.whole))

  pub length_at : (k : ℕ) → k < lengths.count → get_or lengths.each k 0 ≡ get_or (lengths_in lengths) k 0
  length_at k h = sym (get_or-take lengths.count lengths.each k 0 h)

-- a part of a slice, as the code takes it
pub part-is : (from n : ℕ) (l : List ℕ) → take (from + n - from) l ≡ take n l
part-is from n l = let e : from + n - from ≡ n = omega arith in rw e refl

-- the lines of a tree
module _ (lengths : BranchLengths) (occupied : ℕ) (cells marks : List ℕ) {out : List ℕ} (f : Fits out 0 (tree_text lengths occupied cells marks)) where
  pub net-fits : Fits out 0 (net_line lengths.count occupied)
  net-fits = first_fits (branch_lines (branches_of lengths cells) ++ repeaters_line (marked marks)) f

  module _ {out1 : List ℕ} {e1 : ℕ} (p : Put out 0 (net_line lengths.count occupied) out1 e1) where
    pub branches-fit : Fits out1 e1 (branch_lines (branches_of lengths cells))
    branches-fit = first_fits (repeaters_line (marked marks)) (then-fits p f)

    module _ {out2 : List ℕ} {e2 : ℕ} (q : Put out1 e1 (branch_lines (branches_of lengths cells)) out2 e2) where
      pub repeaters-fit : Fits out2 e2 (repeaters_line (marked marks))
      repeaters-fit = then-fits q (then-fits p f)

      pub tree-put : {out3 : List ℕ} {e3 : ℕ} → Put out2 e2 (repeaters_line (marked marks)) out3 e3 → Put out 0 (tree_text lengths occupied cells marks) out3 e3
      tree-put r = both p (both q r)
