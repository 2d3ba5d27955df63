-- `tell_foreign` meets its contract: bit by bit, from bytes that have none.
use mathlib.Core.Path.{refl, ◌∙◌}
use native.Mathlib.Omega.{arith}
use Rattle.blocks.proofs.BlockLaws.{own-list}
use Rattle.outset.specs.OutsetLaws.{sized-still}
use Rattle.causes.specs.CauseLaws.{none_free, next-free, listed, foreign-told}
use Rattle.causes.proofs.telling.tell_foreign.Goals as goal

pub add_positions-requires-clause-positions_listed : goal.add_positions-requires-clause-positions_listed
add_positions-requires-clause-positions_listed c = let p = c.requires in listed p.sized.good p.usable.conductors p.sized.long

pub add_positions-requires-clause-bit_free : goal.add_positions-requires-clause-bit_free
add_positions-requires-clause-bit_free c = let p = c.requires in none_free c.args.causes.now p.causes-long c.clear.ensures

pub add_positions-requires-clause-bit_le_own_bit : goal.add_positions-requires-clause-bit_le_own_bit
add_positions-requires-clause-bit_le_own_bit c = let p = c.requires in omega arith

pub add_keepouts-requires-clause-positions_listed : goal.add_keepouts-requires-clause-positions_listed
add_keepouts-requires-clause-positions_listed c = let p = c.requires in listed p.sized.good p.usable.conductors (c.add_positions.auto.marks ∙ p.sized.long)

pub add_keepouts-requires-clause-bit_free : goal.add_keepouts-requires-clause-bit_free
add_keepouts-requires-clause-bit_free c = let p = c.requires in next-free (none_free c.args.causes.now p.causes-long c.clear.ensures) c.add_positions.ensures 2 refl

pub add_positions-requires-2-clause-positions_listed : goal.add_positions-requires-2-clause-positions_listed
add_positions-requires-2-clause-positions_listed c = let p = c.requires in listed p.sized.good p.usable.clearances (c.add_keepouts.auto.marks ∙ c.add_positions.auto.marks ∙ p.sized.long)

pub add_positions-requires-2-clause-bit_free : goal.add_positions-requires-2-clause-bit_free
add_positions-requires-2-clause-bit_free c = let p = c.requires in next-free (next-free (none_free c.args.causes.now p.causes-long c.clear.ensures) c.add_positions.ensures 2 refl) c.add_keepouts.ensures 4 refl

pub add_positions-requires-2-clause-bit_le_own_bit : goal.add_positions-requires-2-clause-bit_le_own_bit
add_positions-requires-2-clause-bit_le_own_bit c = let p = c.requires in omega arith

pub add_positions-requires-3-clause-positions_listed : goal.add_positions-requires-3-clause-positions_listed
add_positions-requires-3-clause-positions_listed c = let p = c.requires in listed p.sized.good p.usable.terminals (c.add_positions-2.auto.marks ∙ c.add_keepouts.auto.marks ∙ c.add_positions.auto.marks ∙ p.sized.long)

pub add_positions-requires-3-clause-bit_free : goal.add_positions-requires-3-clause-bit_free
add_positions-requires-3-clause-bit_free c = let p = c.requires in next-free (next-free (next-free (none_free c.args.causes.now p.causes-long c.clear.ensures) c.add_positions.ensures 2 refl) c.add_keepouts.ensures 4 refl) c.add_positions-2.ensures 8 refl

pub add_positions-requires-3-clause-bit_le_own_bit : goal.add_positions-requires-3-clause-bit_le_own_bit
add_positions-requires-3-clause-bit_le_own_bit c = let p = c.requires in omega arith

pub add_positions-requires-4-clause-positions_listed : goal.add_positions-requires-4-clause-positions_listed
add_positions-requires-4-clause-positions_listed c = let p = c.requires in listed p.sized.good p.usable.reserved (c.add_positions-3.auto.marks ∙ c.add_positions-2.auto.marks ∙ c.add_keepouts.auto.marks ∙ c.add_positions.auto.marks ∙ p.sized.long)

pub add_positions-requires-4-clause-bit_free : goal.add_positions-requires-4-clause-bit_free
add_positions-requires-4-clause-bit_free c = let p = c.requires in next-free (next-free (next-free (next-free (none_free c.args.causes.now p.causes-long c.clear.ensures) c.add_positions.ensures 2 refl) c.add_keepouts.ensures 4 refl) c.add_positions-2.ensures 8 refl) c.add_positions-3.ensures 16 refl

pub add_positions-requires-4-clause-bit_le_own_bit : goal.add_positions-requires-4-clause-bit_le_own_bit
add_positions-requires-4-clause-bit_le_own_bit c = let p = c.requires in omega arith

pub add_block_keepouts-requires-clause-sized : goal.add_block_keepouts-requires-clause-sized
add_block_keepouts-requires-clause-sized c = let p = c.requires in sized-still p.sized (c.add_positions-4.auto.marks ∙ c.add_positions-3.auto.marks ∙ c.add_positions-2.auto.marks ∙ c.add_keepouts.auto.marks ∙ c.add_positions.auto.marks)

pub add_block_keepouts-requires-clause-block_list : goal.add_block_keepouts-requires-clause-block_list
add_block_keepouts-requires-clause-block_list c = let p = c.requires in own-list p.usable.blocks

pub add_block_keepouts-requires-clause-bit_free : goal.add_block_keepouts-requires-clause-bit_free
add_block_keepouts-requires-clause-bit_free c = let p = c.requires in next-free (next-free (next-free (next-free (next-free (none_free c.args.causes.now p.causes-long c.clear.ensures) c.add_positions.ensures 2 refl) c.add_keepouts.ensures 4 refl) c.add_positions-2.ensures 8 refl) c.add_positions-3.ensures 16 refl) c.add_positions-4.ensures 32 refl

pub returns : goal.returns
returns c = foreign-told c.requires c.clear.ensures c.add_positions.ensures c.add_keepouts.ensures c.add_positions-2.ensures c.add_positions-3.ensures c.add_positions-4.ensures c.add_block_keepouts.ensures
