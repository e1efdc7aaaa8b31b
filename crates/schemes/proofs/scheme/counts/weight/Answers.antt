use Rattle.std.proofs.Common.{◌≡◌, not, eqb, ◌∙◌, rules}
use Rattle.std.specs.List.{count_by}
use Rattle.codes.proofs.Counting.{weight_count}
use Rattle.schemes.proofs.scheme.counts.weight.Goals as goal

pub returns : goal.returns
returns c =
    let e : c.count.result ≡ count_by (λ x. not (eqb x 0)) c.args.word.now = search rules in
    e ∙ weight_count c.args.word.now
