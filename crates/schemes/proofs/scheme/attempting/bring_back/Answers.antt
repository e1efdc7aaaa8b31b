use Rattle.std.proofs.Common.{◌≡◌, ℕ, ◌<◌, length, Some, None, Option, sym, ◌∙◌, subst, arith}
use Rattle.schemes.proofs.scheme.attempting.bring_back.Goals as goal

held : (a b : ℕ) → Some a ≡ Some b → a ≡ b
held a b e = cc

never : (a : ℕ) → ◌≡◌ {A = Option ℕ} None (Some a) → ⊥
never a e = cc

pub bounds-word-to : goal.bounds-word-to
bounds-word-to c =
    let there = c.requires.within c.loop-p.p (omega arith) in
    subst (λ (x : ℕ). x < length c.args.word.now) (sym (held c.in-Some.to there.0 (c.in-Some.ensures ∙ there.1))) there.2
