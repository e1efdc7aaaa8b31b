use Rattle.codes.proofs.Found.{finds_first, finds_first_with}
use Rattle.codes.proofs.searches_find_the_first.Goals as goal

pub returns : goal.returns
returns c = (finds_first, finds_first_with)
