use Rattle.files.proofs.Around.{read_is_written}
use Rattle.files.proofs.read_is_written.Goals as goal

pub returns : goal.returns
returns c = read_is_written
