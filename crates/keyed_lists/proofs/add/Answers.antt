-- `add` writes the entry and hangs its place.
use borrow.Author.Rules.{rules}
use mathlib.Core.Path.{refl}
use Rattle.keyed_lists.specs.JoinWords.{hangable, hung_joined}
use Rattle.keyed_lists.proofs.add.Goals as goal

pub hang-requires : goal.hang-requires
hang-requires c = rw (c.put-2.ensures, c.put.ensures) (hangable c.args.queue.now _ _ _ _ c.requires.keyed c.requires.fact refl c.requires.key_bound.0 c.requires.key_bound.1 c.requires.key_bound.2)

pub returns : goal.returns
returns c =
    hung_joined c.args.queue.now _ _ _ _ c.requires.keyed c.requires.fact refl c.requires.key_bound.0 c.requires.key_bound.1 c.requires.key_bound.2 _ (search rules) (rw (c.put-2.ensures, c.put.ensures) at c.hang.ensures)
