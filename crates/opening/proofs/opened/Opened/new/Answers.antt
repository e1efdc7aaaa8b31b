use Rattle.std.proofs.Common.{Some, None, ◌∙◌}
use Rattle.std.proofs.lemmas.Result.{err_from_is_err_and}
use Rattle.faults.specs.Refusal.{refusal}
use Rattle.files.specs.Held.{contents}
use Rattle.opening.specs.Held.{ring_held, meaning_held}
use Rattle.opening.proofs.Ways.{Steps, handed_is, scheme_is, refusal_is}
use Rattle.opening.proofs.opened.Opened.new.Goals as goal

pub returns-in_err-live : goal.returns-in_err-live
returns-in_err-live c =
    let f = c.in_ok-scheme.ensures in
    let k = c.in_ok-kind.ensures in
    let l = c.in_ok-list.ensures in
    let x = contents c.in_ok-scheme.scheme in
    let R = ring_held c.in_ok-kind.kind in
    let M = meaning_held c.in_ok-list.list in
    let s : Steps c.args.file.now x R M = record { accepted = f.0; says = f.1; kind = k.0; list = l.0; ring = k.1; meaning = l.1 } in
    let p = err_from_is_err_and c.from_residual-in_err-live.result c.from_residual-in_err-live.ensures.1 in
    rw (p.1, p.2) (refusal_is c.args.file.now x R M s (Some (refusal c.in_err-live.field-0.0)) c.in_err-live.ensures)

pub returns : goal.returns
returns c =
    let f = c.in_ok-scheme.ensures in
    let k = c.in_ok-kind.ensures in
    let l = c.in_ok-list.ensures in
    let x = contents c.in_ok-scheme.scheme in
    let R = ring_held c.in_ok-kind.kind in
    let M = meaning_held c.in_ok-list.list in
    let s : Steps c.args.file.now x R M = record { accepted = f.0; says = f.1; kind = k.0; list = l.0; ring = k.1; meaning = l.1 } in
    let w = c.in_ok-live.ensures in
    record {
      clear = refusal_is c.args.file.now x R M s None w.clear;
      handed = handed_is c.args.file.now x R M s;
      keeps = w.keeps ∙ scheme_is c.args.file.now x R M s;
      starts = w.starts;
      promised = w.promised;
    }
