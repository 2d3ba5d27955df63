-- `lesser_kept` meets its contract: each test decides as the definition does.
use mathlib.Core.Path.{sym}
use Rattle.blocks.proofs.LayingLaws.{lesser-second-only, lesser-first-only, lesser-second, lesser-first}
use Rattle.blocks.proofs.lesser_kept.Goals as goal

pub returns-then-a-eq0 : goal.returns-then-a-eq0
returns-then-a-eq0 c = sym (lesser-second-only _ _ c.if-a-eq0.true)

pub returns-then-b-eq0 : goal.returns-then-b-eq0
returns-then-b-eq0 c = sym (lesser-first-only _ _ c.if-a-eq0.false c.if-b-eq0.true)

pub returns-then-b-a : goal.returns-then-b-a
returns-then-b-a c = sym (lesser-second _ _ c.if-a-eq0.false c.if-b-eq0.false c.if-b-a.true)

pub returns-else-b-a : goal.returns-else-b-a
returns-else-b-a c = sym (lesser-first _ _ c.if-a-eq0.false c.if-b-eq0.false c.if-b-a.false)
