use Rattle.std.proofs.Common.{◌∙◌, arith, length-set}
use Rattle.lists.specs.Meaning.{shifts}
use Rattle.lists.proofs.Replies.{asked_more, all_told, turned}
use Rattle.lists.proofs.ShiftsPermutations.targets.Goals as goal

pub loop-p-preserved : goal.loop-p-preserved
loop-p-preserved c =
    let l = c.args.self.now in
    let p = c.loop-p.p in
    let to = c.around.result in
    record {
      long = length-set c.loop-p.place-items p to ∙ c.loop-p.invariant.long;
      asked = asked_more (shifts l.n l.step l.number) c.args.j p to c.loop-p.place-items (omega arith) (omega arith)
          (turned l.n l.step c.args.j p c.turn-turn.result to (omega arith) (omega arith) c.turn-turn.ensures.value c.around.ensures) c.loop-p.invariant.asked;
    }

pub returns : goal.returns
returns c =
    let l = c.args.self.now in
    all_told (shifts l.n l.step l.number) c.args.j c.min-told.result c.loop-p.p c.loop-p.place-items _ (omega arith) c.loop-p.invariant.long (omega arith) c.loop-p.invariant.asked
