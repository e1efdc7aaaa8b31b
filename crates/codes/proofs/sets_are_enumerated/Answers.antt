use Rattle.codes.proofs.Enumerated.{enumerates}
use Rattle.codes.proofs.sets_are_enumerated.Goals as goal

pub returns : goal.returns
returns c = enumerates
