-- `search_for` meets its contract: an end that is not routeable ends the goal, else the search is that of the class bytes.
use mathlib.Core.Path.{sym, ◌∙◌}
use Rattle.basics.specs.Tests.{test_fails, test-passes}
use Rattle.goals.specs.SearchForLaws.{told-failed, told-searched}
use Rattle.room_search.specs.Routing.{graph_of}
use Rattle.room_search.specs.TakeAllLaws.{told_showable}
use Rattle.room_search.specs.Takings.{graph_in}
use Rattle.best_first.specs.Search.{best_first}
use Rattle.goals.proofs.one_search.search_for.Goals as goal

pub returns-then-not-both_routeable : goal.returns-then-not-both_routeable
returns-then-not-both_routeable c =
    told-failed _ c.requires.kinds_len.0 c.requires.searchable.start_in c.requires.searchable.goal_in (test_fails c.both_routeable.ensures c.if-not-both_routeable.true-raw) _

pub tried_of-requires-clause-goal_in_bounds : goal.tried_of-requires-clause-goal_in_bounds
unfolding graph_of
tried_of-requires-clause-goal_in_bounds c =
    let search-classes = c.search_classes-outcome in
    let known = search-classes.auto.known ∙ c.requires.searchable.known-long in
    let previous = search-classes.auto.previous ∙ c.requires.searchable.previous-long in
    let args = c.args in
    let G = graph_in args.room args.config args.classes.now args.start args.goal args.queue.now in (rw previous c.requires.searchable.goal_in, rw previous c.requires.searchable.good.few, known ∙ sym previous, c.requires.kinds_len.1 ∙ sym previous)

pub tried_of-requires-clause-showable : goal.tried_of-requires-clause-showable
unfolding graph_of
tried_of-requires-clause-showable c =
    let search-classes = c.search_classes-outcome in
    let known = search-classes.auto.known ∙ c.requires.searchable.known-long in
    let previous = search-classes.auto.previous ∙ c.requires.searchable.previous-long in
    let args = c.args in
    let G = graph_in args.room args.config args.classes.now args.start args.goal args.queue.now in told_showable G (best_first G args.config.limit.0) search-classes.result _ _ previous search-classes.ensures.told

pub returns : goal.returns
returns c =
    let both-routeable = c.both_routeable in
    let search-classes = c.search_classes-outcome in
    told-searched _ c.requires.kinds_len.0 c.requires.searchable.start_in c.requires.searchable.goal_in (test-passes both-routeable.ensures c.if-not-both_routeable.false-raw) search-classes.ensures (search-classes.auto.previous ∙ c.requires.searchable.previous-long) c.tried_of.ensures
