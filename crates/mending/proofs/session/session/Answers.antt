use Rattle.std.proofs.Common.{◌≡◌, ℕ, ◌+◌, ◌*◌, ◌<◌, List, ◌∷◌, ◌++◌, min, length, drop, vec_items, sym, ap, ◌∙◌, subst, arith, length-drop}
use Rattle.promises.specs.Scheme.{Scheme, Handed, Counts}
use Rattle.promises.specs.Calls.{correct}
use Rattle.schemes.specs.Told.{kept, tallied}
use Rattle.opening.specs.Opened.{handed_held}
use Rattle.mending.specs.Input.{piece, pieces}
use Rattle.mending.specs.Lines.{total}
use Rattle.mending.specs.Printed.{Added, Session}
use Rattle.mending.proofs.Cutting.{piece_within, pieces_past, piece_is, rest_is}
use Rattle.mending.proofs.Sessions.{session_more, reported}
use Rattle.mending.proofs.session.session.Goals as goal

added_as : (S S' : Scheme) (h h' : Handed) (number number' : ℕ) (v v' : List ℕ) (c after : Counts) (before text : List ℕ) → S ≡ S' → h ≡ h' → number ≡ number' → v ≡ v'
    → Added S h number v c after before text → Added S' h' number' v' c after before text
added_as S S' h h' number number' v v' c after before text e f g k a =
    subst (λ (T : Scheme). Added T h' number' v' c after before text) e
    (subst (λ (j : Handed). Added S j number' v' c after before text) f
    (subst (λ (i : ℕ). Added S h i v' c after before text) g
    (subst (λ (u : List ℕ). Added S h number u c after before text) k a)))

pub loop-i-preserved : goal.loop-i-preserved
loop-i-preserved c =
    let S : Scheme = kept c.args.opened.live in
    let h : Handed = handed_held c.args.opened in
    let bytes = c.args.bytes.now in
    let n = c.places-n.result in
    let it = c.loop-i.i-iterator in
    let (size, left, few, same, handed, (calls, s)) = c.loop-i.invariant in
    let ((sized, (cut, long, more)), number, counts, _) = c.in-Some.ensures.steps in
    let some : 0 < n = omega arith in
    let length_block : length c.in-Some.block.now ≡ min n (length it.iter.rest.now) = long ∙ ap (λ (m : ℕ). min m (length it.iter.rest.now)) size in
    let within = piece_within n bytes some it.count (omega (arith, ap length left, length-drop (it.count * n) bytes)) in
    let block = piece_is n bytes some it.count _ _ _ left cut length_block ∙ ap (λ (m : ℕ). piece m bytes it.count) c.places-n.ensures in
    let added = added_as _ S _ h _ (it.count + 1) _ (piece S.n bytes it.count) _ _ _ _ same handed (ap (λ (m : ℕ). m + 1) number) block c.in_ok-add.ensures.added in (
      sized ∙ size,
      rest_is n bytes some it.count _ _ _ left cut length_block ∙ ap (λ (m : ℕ). drop (m * n) bytes) (sym counts),
      omega arith,
      c.in_ok-add.ensures.keeps.0 ∙ same,
      c.in_ok-add.ensures.keeps.1 ∙ handed,
      (correct added.call ∷ calls, subst (λ (i : ℕ). Session S h bytes i (correct added.call ∷ calls) (tallied c.add.new.opened.live) (vec_items c.add.new.text)) (sym counts) (session_more S h bytes it.count calls _ _ _ _ s added)),
    )

pub returns : goal.returns
returns c =
    let S : Scheme = kept c.args.opened.live in
    let h : Handed = handed_held c.args.opened in
    let bytes = c.args.bytes.now in
    let n = c.places-n.result in
    let it = c.loop-i.i-iterator in
    let (size, left, few, same, handed, (calls, s)) = c.loop-i.invariant in
    let ((_, (none, _)), _) = c.in-None.ensures.steps in
    let some : 0 < n = omega arith in
    let end : it.count ≡ pieces S.n bytes = pieces_past n bytes some it.count (omega (arith, ap length left, length-drop (it.count * n) bytes)) few ∙ ap (λ (m : ℕ). pieces m bytes) c.places-n.ensures in
    reported S h bytes c.requires.promise calls (tallied c.loop-i.opened.live) (vec_items c.loop-i.text) _
    (subst (λ (i : ℕ). Session S h bytes i calls (tallied c.loop-i.opened.live) (vec_items c.loop-i.text)) end s)
    (c.in_ok-put_total.ensures ∙ ap (λ (x : Counts). vec_items c.loop-i.text ++ total x) c.close.ensures.does.0)
