use Rattle.std.proofs.Common.{leb, ◌∙◌, rules, tests}
use Rattle.std.proofs.lemmas.Iterator.{YieldsList-from_slice}
use Rattle.std.proofs.lemmas.Iterator.Search.{position_from_yields_List}
use Rattle.codes.proofs.Counting.{position_least}
use Rattle.schemes.proofs.scheme.counts.first_excess.Goals as goal

pub returns : goal.returns
returns c =
    position_from_yields_List (λ x. leb c.args.q x) _ _ _ c.position.ensures.ran (YieldsList-from_slice c.args.word.now cc) (λ x b q k. search (rules, tests))
    ∙ position_least (λ x. leb c.args.q x) c.args.word.now
