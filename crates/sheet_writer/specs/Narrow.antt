-- A code of 16 bits is judged by one of 8: what no byte holds is no code.
use Rattle.std.specs.Prelude.{◌≡◌, ℕ, ◌<◌, ltb, leb, eqb}
use Rattle.std.proofs.Common.{sym, ◌∙◌, arith, ltb-false, ne_eqb}
use Rattle.std.proofs.lemmas.Bool.{lt-leb}
use Rattle.basics.specs.Tests.{either, ask}
use Rattle.room.specs.declared.Room.{Room}
use Rattle.room.specs.Units.{air, max_kind, max_facing}
use Rattle.job_sheet.specs.declared.Block.{Block}
use Rattle.job_sheet.specs.Sheet.{block_fault}

-- a code in one byte; 255 is none
unfoldable pub code_of : ℕ → ℕ
code_of n = either (ltb n 256) n 255

-- a block with its codes in one byte each
unfoldable pub narrowed : Block → Block
narrowed b = record { node = b.node; at = b.at; kind = code_of b.kind; facing = code_of b.facing }

code-most : (n m : ℕ) → m < 255 → leb (code_of n) m ≡ leb n m
unfolding code_of
code-most n m h =
    ask (ltb n 256) (λ t. rw t) (λ f. rw f (lt-leb 255 m h ∙ sym (lt-leb n m (omega (arith, ltb-false n 256 f)))))

code-air : (n : ℕ) → eqb (code_of n) air ≡ eqb n air
unfolding code_of
code-air n =
    ask (ltb n 256) (λ t. rw t) (λ f. rw f (sym (ne_eqb n air (λ e. omega (arith, ltb-false n 256 f)))))

-- so a block is judged as its numbers are
pub narrow_fault : (R : Room) (b : Block) → block_fault R (narrowed b) ≡ block_fault R b
unfolding block_fault narrowed
narrow_fault R b = rw (code-most b.kind max_kind (omega arith), code-air b.kind, code-most b.facing max_facing (omega arith))
