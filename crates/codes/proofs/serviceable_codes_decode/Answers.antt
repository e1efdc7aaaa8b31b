use Rattle.codes.proofs.Decoding.{decodes}
use Rattle.codes.proofs.serviceable_codes_decode.Goals as goal

pub returns : goal.returns
returns c = decodes
