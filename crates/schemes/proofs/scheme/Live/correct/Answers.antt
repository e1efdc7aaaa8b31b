use Rattle.std.proofs.Common.{ℕ, Ok, Err, refl, ap, ◌∙◌, arith}
use Rattle.std.proofs.lemmas.Result.{err_from_is_err_and}
use Rattle.faults.specs.Refusal.{refusal}
use Rattle.promises.specs.Scheme.{Handed, handing, Scheme}
use Rattle.promises.specs.Calls.{found}
use Rattle.promises.proofs.Refusing.{accepted, measured, step_objects, step_full, step_finds, step_loses}
use Rattle.schemes.specs.Told.{answered, kept, counts}
use Rattle.schemes.proofs.scheme.Live.correct.Goals as goal

pub returns-in_err-check : goal.returns-in_err-check
returns-in_err-check g c =
    let p = err_from_is_err_and c.from_residual.result c.from_residual.ensures.1 in
    record {
      does = step_objects _ _ _ (refusal c.in_err-check.field-0.0) c.in_err-check.ensures (ap answered (p.1 ∙ ap Err p.2)) refl;
      keeps = refl;
    }

pub returns-then-self-ge-FULL : goal.returns-then-self-ge-FULL
returns-then-self-ge-FULL g c = record {
  does = step_full _ _ _ c.in_ok-check.ensures.0 (omega arith) refl refl;
  keeps = refl;
}

pub correct_into-requires : goal.correct_into-requires
correct_into-requires g c =
    let S : Scheme = kept c.args.self.now in
    let h : Handed = handing (g.K.Kind.ring c.args.kind.now) c.args.rows.now (g.L.Permutations.meaning c.args.list.now) in
    let o = c.in_ok-check.ensures.0 in
    let (a, b, m, e, f) = measured S h S.n c.args.block.now c.args.out.now o in
    let (_, (long, below)) = accepted S h S.n c.args.block.now c.args.out.now o in
    record { block = (long, λ p l. omega (arith, a, below p l)); room = f }

pub returns-in_default : goal.returns-in_default
returns-in_default g c =
    let S : Scheme = kept c.args.self.now in
    let h : Handed = handing (g.K.Kind.ring c.args.kind.now) c.args.rows.now (g.L.Permutations.meaning c.args.list.now) in
    let o = c.in_ok-check.ensures.0 in
    let (a, b, m, e, f) = measured S h S.n c.args.block.now c.args.out.now o in
    let (none, same) = c.in_default.ensures in
    record {
      does = step_loses _ _ _ _ o (omega arith) (record { none_succeeds = λ i l. none i (omega (arith, m)); answers = refl; word = same; tally = c.add_lost.ensures });
      keeps = refl;
    }

pub returns : goal.returns
returns g c =
    let S : Scheme = kept c.args.self.now in
    let h : Handed = handing (g.K.Kind.ring c.args.kind.now) c.args.rows.now (g.L.Permutations.meaning c.args.list.now) in
    let o = c.in_ok-check.ensures.0 in
    let (a, b, m, e, f) = measured S h S.n c.args.block.now c.args.out.now o in
    let (within, first, word, far) = c.in-Some.ensures in
    record {
      does = step_finds _ _ _ _ c.in-Some.i o (omega arith)
          (record { within = omega (arith, m); first = first; word = word; answers = ap (λ (x : ℕ). Ok (x, c.in-Some.i)) far; tally = c.add_corrected.ensures ∙ ap (λ d. found d (counts c.args.self.now.count.tally)) far });
      keeps = refl;
    }
