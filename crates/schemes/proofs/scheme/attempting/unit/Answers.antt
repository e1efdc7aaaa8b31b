use Rattle.schemes.proofs.Attempts.{unit_is}
use Rattle.schemes.proofs.scheme.attempting.unit.Goals as goal

pub returns : goal.returns
returns c = λ k few. unit_is k c.args.j few c.requires
