use Rattle.promises.proofs.Definite.{settled, one_tally}
use Rattle.promises.proofs.outcomes_are_single.Goals as goal

pub returns : goal.returns
returns c = (settled, one_tally)
