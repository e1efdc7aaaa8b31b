use Rattle.promises.proofs.Promised.{law}
use Rattle.promises.proofs.promise_stands.Goals as goal

pub returns : goal.returns
returns c = law
