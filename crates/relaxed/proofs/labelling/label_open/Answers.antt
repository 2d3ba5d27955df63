-- `label_open` meets its contract: what the check says of the labels that the search leaves.
use Rattle.relaxed.specs.CheckLaws.{labels_fail}
use Rattle.relaxed.proofs.labelling.label_open.Goals as goal

pub returns-in_default : goal.returns-in_default
returns-in_default c = labels_fail
