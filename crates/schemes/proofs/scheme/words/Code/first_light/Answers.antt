use Rattle.std.proofs.Common.{◌≡◌, ℕ, ◌+◌, ◌-◌, ◌*◌, ◌/◌, ◌^◌, ◌<◌, ◌≤◌, take, Some, sym, ap, ap₂, ◌∙◌, subst, arith}
use Rattle.std.proofs.lemmas.Nat.{mul-le}
use Rattle.codes.specs.Code.{Code, message}
use Rattle.codes.specs.Search.{least}
use Rattle.codes.proofs.Found.{least-none}
use Rattle.schemes.specs.Lent.{code_lent}
use Rattle.schemes.proofs.Searching.{by_last, by_number, all_heads, past_none, found, found_below}
use Rattle.schemes.proofs.scheme.words.Code.first_light.Goals as goal
use Rattle.schemes.proofs.scheme.words.Code.first_light.Goals.{then-lead-eq0, else-lead-eq0}

pub overflow_add-result : goal.overflow_add-result
overflow_add-result g c =
    let C : Code = code_lent g.K.Kind.ring c.args.self.now in
    let q : c.order-q.result ≡ C.ring.q = c.order-q.ensures in
    let symbols = take (C.k - 1) c.message-symbols.result in
    let first = c.if-lead-eq0.from in
    let lead = c.loop-lead.lead in
    let low = (g.met.K.Kind.rules c.args.self.now.kind.now).low in
    let head : symbols ≡ message C.ring.q (C.k - 1) lead = c.message-symbols.ensures ∙ ap (λ (q : ℕ). message q (C.k - 1) lead) q in
    let from : (first ≤ 1) × (lead ≡ 0 → first ≡ 1) × (first ≡ 1 → lead ≡ 0) = elim c.if-lead-eq0.branch [
      | then-lead-eq0 w ↦ (omega (arith, w.from-is), (λ e. w.from-is), (λ e. w.if-lead-eq0.true))
      | else-lead-eq0 w ↦ (omega (arith, w.from-is), (λ e. absurd (w.if-lead-eq0.false e)), (λ e. absurd (omega (arith, w.from-is))))
    ] in
    let last : least (by_last C c.args.limit symbols) first (C.ring.q - first) ≡ Some c.in-Some.last = sym c.light_end.ensures ∙ c.in-Some.is in
    let below : lead < C.ring.q ^ C.k / C.ring.q = subst (λ (x : ℕ). lead < x) (ap₂ ◌/◌ c.requires.all q) c.loop-lead-test.true in
    omega (arith, c.requires.all, ap (λ (x : ℕ). lead * x) q, found_below C c.args.limit lead first symbols (omega arith) low head from.0 from.1 from.2 c.in-Some.last below last)

pub returns-in-Some : goal.returns-in-Some
returns-in-Some g c =
    let C : Code = code_lent g.K.Kind.ring c.args.self.now in
    let q : c.order-q.result ≡ C.ring.q = c.order-q.ensures in
    let symbols = take (C.k - 1) c.message-symbols.result in
    let first = c.if-lead-eq0.from in
    let lead = c.loop-lead.lead in
    let low = (g.met.K.Kind.rules c.args.self.now.kind.now).low in
    let head : symbols ≡ message C.ring.q (C.k - 1) lead = c.message-symbols.ensures ∙ ap (λ (q : ℕ). message q (C.k - 1) lead) q in
    let from : (first ≤ 1) × (lead ≡ 0 → first ≡ 1) × (first ≡ 1 → lead ≡ 0) = elim c.if-lead-eq0.branch [
      | then-lead-eq0 w ↦ (omega (arith, w.from-is), (λ e. w.from-is), (λ e. w.if-lead-eq0.true))
      | else-lead-eq0 w ↦ (omega (arith, w.from-is), (λ e. absurd (w.if-lead-eq0.false e)), (λ e. absurd (omega (arith, w.from-is))))
    ] in
    let last : least (by_last C c.args.limit symbols) first (C.ring.q - first) ≡ Some c.in-Some.last = sym c.light_end.ensures ∙ c.in-Some.is in
    let below : lead < C.ring.q ^ C.k / C.ring.q = subst (λ (x : ℕ). lead < x) (ap₂ ◌/◌ c.requires.all q) c.loop-lead-test.true in
    ap (λ (x : ℕ). Some (lead * x + c.in-Some.last)) q
    ∙ sym (found C c.args.limit lead first symbols (omega arith) low head from.0 from.1 from.2 c.in-Some.last below last c.loop-lead.invariant)

pub loop-lead-preserved : goal.loop-lead-preserved
loop-lead-preserved g c =
    let C : Code = code_lent g.K.Kind.ring c.args.self.now in
    let q : c.order-q.result ≡ C.ring.q = c.order-q.ensures in
    let symbols = take (C.k - 1) c.message-symbols.result in
    let first = c.if-lead-eq0.from in
    let lead = c.loop-lead.lead in
    let low = (g.met.K.Kind.rules c.args.self.now.kind.now).low in
    let head : symbols ≡ message C.ring.q (C.k - 1) lead = c.message-symbols.ensures ∙ ap (λ (q : ℕ). message q (C.k - 1) lead) q in
    let from : (first ≤ 1) × (lead ≡ 0 → first ≡ 1) × (first ≡ 1 → lead ≡ 0) = elim c.if-lead-eq0.branch [
      | then-lead-eq0 w ↦ (omega (arith, w.from-is), (λ e. w.from-is), (λ e. w.if-lead-eq0.true))
      | else-lead-eq0 w ↦ (omega (arith, w.from-is), (λ e. absurd (w.if-lead-eq0.false e)), (λ e. absurd (omega (arith, w.from-is))))
    ] in
    past_none C c.args.limit lead first symbols (omega arith) low head from.0 from.1 from.2 (sym c.light_end.ensures ∙ c.in_default.is) c.loop-lead.invariant

pub returns : goal.returns
returns g c =
    let C : Code = code_lent g.K.Kind.ring c.args.self.now in
    let low = (g.met.K.Kind.rules c.args.self.now.kind.now).low in
    let end : C.ring.q ^ C.k / C.ring.q ≤ c.loop-lead.lead = subst (λ (x : ℕ). x ≤ c.loop-lead.lead) (ap₂ ◌/◌ c.requires.all c.order-q.ensures) (omega arith) in
    sym (least-none (by_number C c.args.limit) 1 (C.ring.q ^ C.k - 1)
    (λ y a b. c.loop-lead.invariant y a (omega (arith, all_heads C.ring.q C.k (omega arith) (omega arith), mul-le (C.ring.q ^ C.k / C.ring.q) C.ring.q c.loop-lead.lead C.ring.q end (omega arith)))))
