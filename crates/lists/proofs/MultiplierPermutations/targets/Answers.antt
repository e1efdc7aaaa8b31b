use Rattle.std.proofs.Common.{◌≡◌, ℕ, ◌+◌, ◌*◌, ◌/◌, ◌%◌, ◌^◌, ap, ◌∙◌, ap₂, arith, length-set}
use Rattle.lists.specs.Meaning.{Meaning, multiplied}
use Rattle.lists.proofs.Replies.{replied, asked_more, all_told, multiple_more}
use Rattle.lists.proofs.MultiplierPermutations.targets.Goals as goal

pub loop-place-preserved : goal.loop-place-preserved
loop-place-preserved g c =
    let l = c.args.self.now in
    let M : Meaning = g.L.Permutations.meaning l.below in
    let x = c.args.x in
    let p = c.loop-place.place-index in
    let m = c.count-m.ensures in
    let n = c.length-n.ensures in
    let power : ℕ = l.g ^ (x / c.count-m.result) in
    let there = replied M (x % c.count-m.result) c.loop-place.at c.in-Some.to c.in-Some.ensures in
    let is : c.in-Some.to ≡ M.target (x % M.count) ((l.g ^ (x / M.count) * p) % M.places) =
    there.2 ∙ ap (M.target (x % c.count-m.result)) c.loop-place.invariant.multiple
    ∙ ap₂ (λ (a b : ℕ). M.target (x % a) ((l.g ^ (x / a) * p) % b)) m n in
    record {
      long = length-set c.loop-place.place-items p c.in-Some.to ∙ c.loop-place.invariant.long;
      asked = asked_more (multiplied l.g l.r M) x p c.in-Some.to c.loop-place.place-items (omega arith) (omega arith) is c.loop-place.invariant.asked;
      multiple =
          c.around-at.ensures ∙ ap₂ (λ (a b : ℕ). (a + b) % c.length-n.result) c.loop-place.invariant.multiple c.power_times-power.ensures
          ∙ multiple_more power p c.length-n.result;
    }

pub returns : goal.returns
returns g c =
    let l = c.args.self.now in
    let M : Meaning = multiplied l.g l.r (g.L.Permutations.meaning l.below) in
    all_told M c.args.x c.min-told.result c.loop-place.place-index c.loop-place.place-items _ (omega arith) c.loop-place.invariant.long (omega arith) c.loop-place.invariant.asked
