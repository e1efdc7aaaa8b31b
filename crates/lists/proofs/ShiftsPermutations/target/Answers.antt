use Rattle.std.proofs.Common.{Some, sym, ap, ◌∙◌, arith}
use Rattle.lists.specs.Meaning.{shifts}
use Rattle.lists.proofs.Replies.{reply_within, turned}
use Rattle.lists.proofs.ShiftsPermutations.target.Goals as goal

pub returns : goal.returns
returns c =
    let l = c.args.self.now in
    ap Some (turned l.n l.step c.args.j c.args.p c.turn.result c.around.result (omega arith) (omega arith) c.turn.ensures.value c.around.ensures)
    ∙ sym (reply_within (shifts l.n l.step l.number) c.args.j c.args.p (omega arith) (omega arith))
