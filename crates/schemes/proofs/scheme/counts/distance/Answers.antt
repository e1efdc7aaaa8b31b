use Rattle.std.proofs.Common.{ℕ, not, eqb, ◌∙◌, rules, tests}
use Rattle.std.proofs.lemmas.Iterator.{YieldsList-from_slice, YieldsList-from_zip}
use Rattle.std.proofs.lemmas.Iterator.Consumers.{count_from_yields_List, YieldsList-at, YieldsList-from_filter}
use Rattle.std.proofs.lemmas.List.Sums.{length-filter}
use Rattle.std.specs.List.{zip}
use Rattle.codes.proofs.Counting.{distance_count}
use Rattle.schemes.proofs.scheme.counts.distance.Goals as goal

pub returns-clause-count : goal.returns-clause-count
returns-clause-count c =
    count_from_yields_List c.filter.result _ c.count.ensures.ran
    (YieldsList-from_filter _ (λ (x : ℕ × ℕ). not (eqb x.0 x.1)) (YieldsList-at c.filter.ensures.source (YieldsList-from_zip (YieldsList-from_slice c.args.v.now cc) (YieldsList-from_slice c.args.w.now cc))) c.filter.ensures.closure (λ x b q k. search (rules, tests)))
    ∙ length-filter (λ (x : ℕ × ℕ). not (eqb x.0 x.1)) (zip c.args.v.now c.args.w.now) ∙ distance_count c.args.v.now c.args.w.now c.requires
