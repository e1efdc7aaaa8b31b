use Rattle.files.proofs.Around.{written_is_read}
use Rattle.files.proofs.written_is_read.Goals as goal

pub returns : goal.returns
returns c = written_is_read
