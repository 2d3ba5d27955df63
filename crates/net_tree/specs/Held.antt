-- What holds of lent work memory: that it is the same buffers, as long as they were, and that they are all zero.
use Rattle.std.specs.Prelude.{◌≡◌, List, ℕ, length}
use Rattle.lent.specs.Lent.{Cleared}
use Rattle.net_tree.specs.declared.memory.Memory.{Memory}
use Rattle.net_tree.specs.Answers.{Lent, lent}

-- the same buffers
pub record SameBuffers (M M' : Memory) : Type 0 where
  pub kinds : M'.kinds.ghost_name ≡ M.kinds.ghost_name
  pub blocked : M'.blocked.ghost_name ≡ M.blocked.ghost_name
  pub classes : M'.classes.ghost_name ≡ M.classes.ghost_name
  pub joinable : M'.joinable.ghost_name ≡ M.joinable.ghost_name
  pub known : M'.known.ghost_name ≡ M.known.ghost_name
  pub previous : M'.previous.ghost_name ≡ M.previous.ghost_name
  pub path : M'.path.ghost_name ≡ M.path.ghost_name
  pub best : M'.best.ghost_name ≡ M.best.ghost_name
  pub queue : M'.queue.ghost_name ≡ M.queue.ghost_name

-- as long as they were
pub record SameLengths (M M' : Memory) : Type 0 where
  pub kinds : length M'.kinds.now ≡ length M.kinds.now
  pub blocked : length M'.blocked.now ≡ length M.blocked.now
  pub classes : length M'.classes.now ≡ length M.classes.now
  pub joinable : length M'.joinable.now ≡ length M.joinable.now
  pub known : length M'.known.now ≡ length M.known.now
  pub previous : length M'.previous.now ≡ length M.previous.now
  pub path : length M'.path.now ≡ length M.path.now
  pub best : length M'.best.now ≡ length M.best.now
  pub queue : length M'.queue.now ≡ length M.queue.now

-- all zero
pub record MemoryCleared (M M' : Memory) : Type 0 where
  pub kinds : Cleared M.kinds.now M'.kinds.now
  pub blocked : Cleared M.blocked.now M'.blocked.now
  pub classes : Cleared M.classes.now M'.classes.now
  pub joinable : Cleared M.joinable.now M'.joinable.now
  pub known : Cleared M.known.now M'.known.now
  pub previous : Cleared M.previous.now M'.previous.now
  pub path : Cleared M.path.now M'.path.now
  pub best : Cleared M.best.now M'.best.now
  pub queue : Cleared M.queue.now M'.queue.now

-- what is lent: three outputs, and work memory
abbrev pub lent_with : (branches occupied repeaters : List ℕ) → Memory → Lent
lent_with branches occupied repeaters M = lent branches occupied repeaters M.kinds.now M.blocked.now M.classes.now M.joinable.now M.known.now M.previous.now M.path.now M.best.now M.queue.now
