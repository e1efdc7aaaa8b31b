use Rattle.std.proofs.Common.{ℕ, ◌-◌, ◌<◌, ◌≤◌, length, get_or, subst, arith}
use Rattle.schemes.proofs.Opening.{Free, front_set, skipped_free}
use Rattle.schemes.proofs.scheme.marking.skip.Goals as goal

pub number_of-head-requires : goal.number_of-head-requires
number_of-head-requires c = (omega arith, (omega arith, (front_set c.args.n c.args.t c.args.set (omega arith) (omega arith) c.requires.set).0))

pub returns-then-all_missed : goal.returns-then-all_missed
returns-then-all_missed c =
    let low = (front_set c.args.n c.args.t c.args.set (omega arith) (omega arith) c.requires.set).1 in
    skipped_free c.args.masks.now (length c.args.masks.now) c.args.n c.args.t c.args.set _ (omega arith) (omega arith) (omega arith) (omega arith) c.requires.set
    (subst (λ (x : ℕ). (p : ℕ) → get_or c.args.set (c.args.t - 1) 0 ≤ p → p < 64 → Free c.args.masks.now x (length c.args.masks.now) p) c.number_of-head.ensures (c.all_missed.ensures c.if-all_missed.true))
    c.ending.ensures
