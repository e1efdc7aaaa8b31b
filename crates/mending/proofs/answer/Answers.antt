use Rattle.std.proofs.Common.{◌≡◌, vec_items}
use Rattle.std.proofs.lemmas.Result.{IfOk-weaker}
use Rattle.faults.specs.Refusal.{refusal}
use Rattle.schemes.specs.Told.{kept}
use Rattle.opening.specs.Opened.{handed_held}
use Rattle.mending.specs.Lines.{refused_line}
use Rattle.mending.specs.Printed.{Printed, Reported}
use Rattle.mending.proofs.Opened.{report_of, refused_so}
use Rattle.mending.proofs.answer.Goals as goal

pub returns-in-Ok : goal.returns-in-Ok
returns-in-Ok c =
    let o = c.in-Ok.opened in
    IfOk-weaker c.session.result (λ text. Reported (kept o.live) (handed_held o) c.block_bytes.result.now (vec_items text)) (λ text. Printed c.args.input.now (vec_items text))
    (λ text report. report_of c.args.input.now c.scheme_file.result.now c.block_bytes.result.now (vec_items text) o c.scheme_file.ensures c.block_bytes.ensures c.in-Ok.ensures report)
    c.session.ensures

pub returns-in-Err : goal.returns-in-Err
returns-in-Err c =
    let r = refusal c.in-Err.fault in
    IfOk-weaker c.refused.result (λ text. vec_items text ≡ refused_line r) (λ text. Printed c.args.input.now (vec_items text))
    (λ text line. refused_so c.args.input.now c.scheme_file.result.now (vec_items text) r c.scheme_file.ensures c.in-Err.ensures line)
    c.refused.ensures
