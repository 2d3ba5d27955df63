-- `tell_stopped` meets its contract: what was lent on is cleared.
use Rattle.basics.specs.Zeros.{cleared-to}
use Rattle.sink_why.proofs.entry.tell_stopped.Goals as goal

pub tell_front-told-requires : goal.tell_front-told-requires
tell_front-told-requires c = c.requires

pub returns-clause-sink_reasoned : goal.returns-clause-sink_reasoned
returns-clause-sink_reasoned c = c.tell_front-told.ensures.sink_reasoned

pub returns-clause-stopped_told : goal.returns-clause-stopped_told
returns-clause-stopped_told c =
    let same = c.tell_front-told.ensures.same_lengths in
    let zero = c.clear-2.ensures.cleared in
    record {
      branches-cleared = cleared-to c.tell_front-told.auto.branches c.clear.ensures;
      kinds-cleared = cleared-to same.kinds zero.kinds;
      blocked-cleared = cleared-to same.blocked zero.blocked;
      classes-cleared = cleared-to same.classes zero.classes;
      joinable-cleared = cleared-to same.joinable zero.joinable;
      known-cleared = cleared-to same.known zero.known;
      previous-cleared = cleared-to same.previous zero.previous;
      path-cleared = cleared-to same.path zero.path;
      best-cleared = cleared-to same.best zero.best;
      queue-cleared = cleared-to same.queue zero.queue;
    }
