-- `geometry_conflict` meets its contract: the path is laid among the joinable cells, and taken up again.
use mathlib.Core.Path.{ap, ◌∙◌}
use mathlib.Core.Bool.{Bool}
use Prim.Native.Nat.{ℕ}
use borrow.Author.Rules.{rules}
use Rattle.geometry.specs.Geometry.{conflict_among}
use Rattle.geometry.specs.LayLaws.{laid_length, laid-is, laid-on-path, taken-up}
use Rattle.geometry.proofs.geometry_conflict.Goals as goal

pub replace-requires : goal.replace-requires
replace-requires c = rw c.requires.kinds_len.1 c.requires.all_cells

pub first_conflict-found-requires-clause-good : goal.first_conflict-found-requires-clause-good
first_conflict-found-requires-clause-good c =
    let bytes = c.replace.ensures in
    let long = laid_length _ _ _ _ c.requires.kinds_len.1 c.requires.all_cells c.requires.marks bytes in
    let on = laid-on-path _ _ _ _ c.requires.kinds_len.1 c.requires.all_cells c.requires.marks bytes c.requires.no_pair in c.requires.good

pub first_conflict-found-requires-clause-kinds_len : goal.first_conflict-found-requires-clause-kinds_len
first_conflict-found-requires-clause-kinds_len c =
    let bytes = c.replace.ensures in
    let long = laid_length _ _ _ _ c.requires.kinds_len.1 c.requires.all_cells c.requires.marks bytes in
    let on = laid-on-path _ _ _ _ c.requires.kinds_len.1 c.requires.all_cells c.requires.marks bytes c.requires.no_pair in (c.requires.kinds_len.0, long)

pub first_conflict-found-requires-clause-all_cells : goal.first_conflict-found-requires-clause-all_cells
first_conflict-found-requires-clause-all_cells c =
    let bytes = c.replace.ensures in
    let long = laid_length _ _ _ _ c.requires.kinds_len.1 c.requires.all_cells c.requires.marks bytes in
    let on = laid-on-path _ _ _ _ c.requires.kinds_len.1 c.requires.all_cells c.requires.marks bytes c.requires.no_pair in c.requires.all_cells

pub first_conflict-found-requires-clause-on_path : goal.first_conflict-found-requires-clause-on_path
first_conflict-found-requires-clause-on_path c =
    let bytes = c.replace.ensures in
    let long = laid_length _ _ _ _ c.requires.kinds_len.1 c.requires.all_cells c.requires.marks bytes in
    let on = laid-on-path _ _ _ _ c.requires.kinds_len.1 c.requires.all_cells c.requires.marks bytes c.requires.no_pair in on

pub replace-requires-2 : goal.replace-requires-2
replace-requires-2 c =
    let long = laid_length _ _ _ _ c.requires.kinds_len.1 c.requires.all_cells c.requires.marks c.replace.ensures in
    rw long c.requires.all_cells

pub returns-clause-value : goal.returns-clause-value
returns-clause-value c =
    let bytes = c.replace.ensures in
    let is = laid-is _ _ _ _ c.requires.kinds_len.1 c.requires.all_cells c.requires.marks bytes in
    let back = taken-up _ _ _ _ c.requires.kinds_len.1 c.requires.all_cells c.requires.marks bytes _ c.replace-2.ensures in c.first_conflict-found.ensures ∙ ap (λ (conducts : ℕ → Bool). conflict_among c.args.room c.args.kinds.now conducts c.args.path.now) is

pub returns-clause-joinable_unchanged : goal.returns-clause-joinable_unchanged
returns-clause-joinable_unchanged c =
    let bytes = c.replace.ensures in
    let is = laid-is _ _ _ _ c.requires.kinds_len.1 c.requires.all_cells c.requires.marks bytes in
    let back = taken-up _ _ _ _ c.requires.kinds_len.1 c.requires.all_cells c.requires.marks bytes _ c.replace-2.ensures in back
