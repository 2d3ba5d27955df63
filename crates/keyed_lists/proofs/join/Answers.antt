-- `join` puts the entry in where it can be put.
use Rattle.keyed_lists.proofs.join.Goals as goal

pub add-requires-clause-keyed : goal.add-requires-clause-keyed
add-requires-clause-keyed c = c.requires.keyed

pub add-requires-clause-fact : goal.add-requires-clause-fact
add-requires-clause-fact c = c.open-has_place.ensures c.if-has_place.true

pub add-requires-clause-key_bound : goal.add-requires-clause-key_bound
add-requires-clause-key_bound c = c.requires.key_bound
