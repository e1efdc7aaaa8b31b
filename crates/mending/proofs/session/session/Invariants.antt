use Rattle.std.proofs.Common.{◌≡◌, ◌*◌, ◌≤◌, List, drop, vec_items}
use Rattle.promises.specs.Calls.{Call}
use Rattle.schemes.specs.Told.{kept, tallied}
use Rattle.opening.specs.Opened.{handed_held}
use Rattle.mending.specs.Input.{pieces}
use Rattle.mending.specs.Printed.{Session}
use Rattle.mending.proofs.session.session.Given as goal

abbrev pub invariant-loop-i : goal.invariant-loop-i
invariant-loop-i l =
    let o = l.initial.opened in
    let i = l.i-iterator.count in
    (l.i-iterator.iter.size ≡ l.n)
    × (l.i-iterator.iter.rest.now ≡ drop (i * l.n) l.bytes)
    × (i ≤ pieces l.n l.bytes)
    × (kept l.opened.live ≡ kept o.live)
    × (handed_held l.opened ≡ handed_held o)
    × ((calls : List Call) × Session (kept o.live) (handed_held o) l.bytes i calls (tallied l.opened.live) (vec_items l.text))
