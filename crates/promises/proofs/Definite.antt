-- The definitions leave nothing open.
use Rattle.std.proofs.Common.{◌≡◌, ℕ, ◌+◌, List, [], ◌∷◌, Some, None, Ok, Err, Option, sym, refl, ap, ◌∙◌, ap₂, ⊎_elim, arith}
use Rattle.std.proofs.lemmas.Bool.{cases_order}
use Rattle.faults.specs.Refusal.{Refusal}
use Rattle.codes.specs.Code.{distance, candidate}
use Rattle.promises.specs.Scheme.{Counts}
use Rattle.promises.specs.Calls.{code_of, found, refuses, finds, loses}
use Rattle.promises.specs.Promise.{HowMany, nothing, one_more, no_more, Summed, empty, adds, skips}
use Rattle.promises.specs.Settled.{Settled, OneTally}
use Rattle.promises.proofs.Promised.{only_near}

clash : (o : Option Refusal) (r : Refusal) → o ≡ Some r → o ≡ None → ⊥
clash o r e f = let z : ◌≡◌ {A = ℕ} 0 1 = cc in omega arith

same_refusal : (o : Option Refusal) (r s : Refusal) → o ≡ Some r → o ≡ Some s → r ≡ s
same_refusal o r s e f = cc

pub settled : Settled
settled S c h v before a b w u after later (refuses r o f) (refuses s p g) =
    (f.answers ∙ ap Err (same_refusal _ r s o p) ∙ sym g.answers, f.word ∙ sym g.word, f.tally ∙ sym g.tally)
settled S c h v before a b w u after later (refuses r o f) (finds p j g) = absurd (clash _ r o p)
settled S c h v before a b w u after later (refuses r o f) (loses p g) = absurd (clash _ r o p)
settled S c h v before a b w u after later (finds o i f) (refuses s p g) = absurd (clash _ s p o)
settled S c h v before a b w u after later (finds o i f) (finds p j g) =
    let same : i ≡ j =
    ⊎_elim (λ e. e) (⊎_elim (λ l. absurd (g.first.1 i l f.first.0)) (λ l. absurd (f.first.1 j l g.first.0))) (cases_order i j) in
    let word : w ≡ u = f.word ∙ ap (λ (l : ℕ). candidate (code_of S h) (h.list.target l) v) same ∙ sym g.word in (
      f.answers ∙ ap₂ (λ (x : List ℕ) (l : ℕ). Ok (distance S.n v x, l)) word same ∙ sym g.answers,
      word,
      f.tally ∙ ap (λ (x : List ℕ). found (distance S.n v x) c) word ∙ sym g.tally,
    )
settled S c h v before a b w u after later (finds o i f) (loses p g) = absurd (g.none_succeeds i f.within f.first.0)
settled S c h v before a b w u after later (loses o f) (refuses s p g) = absurd (clash _ s p o)
settled S c h v before a b w u after later (loses o f) (finds p j g) = absurd (f.none_succeeds j g.within g.first.0)
settled S c h v before a b w u after later (loses o f) (loses p g) = (f.answers ∙ sym g.answers, f.word ∙ sym g.word, f.tally ∙ sym g.tally)

one_number : (P : List ℕ → Type 0) (vs : List (List ℕ)) (n m : ℕ) → HowMany P vs n → HowMany P vs m → n ≡ m
one_number P [] n m nothing nothing = refl
one_number P (v ∷ vs) n m (one_more {n = i} p h) (one_more {n = j} q g) = ap (λ (l : ℕ). l + 1) (one_number P vs i j h g)
one_number P (v ∷ vs) n m (one_more {n = i} p h) (no_more {n = j} q g) = absurd (q p)
one_number P (v ∷ vs) n m (no_more {n = i} p h) (one_more {n = j} q g) = absurd (p q)
one_number P (v ∷ vs) n m (no_more {n = i} p h) (no_more {n = j} q g) = one_number P vs i j h g

one-sum : (D : List ℕ → ℕ → Type 0) → ((v : List ℕ) (d e : ℕ) → D v d → D v e → d ≡ e) → (vs : List (List ℕ)) (s t : ℕ) → Summed D vs s → Summed D vs t → s ≡ t
one-sum D one [] s t empty empty = refl
one-sum D one (v ∷ vs) s t (adds {s = i} {d = d} p h) (adds {s = j} {d = e} q g) = ap₂ (λ (x y : ℕ). x + y) (one-sum D one vs i j h g) (one v d e p q)
one-sum D one (v ∷ vs) s t (adds {s = i} {d = d} p h) (skips {s = j} q g) = absurd (q d p)
one-sum D one (v ∷ vs) s t (skips {s = i} p h) (adds {s = j} {d = e} q g) = absurd (p e q)
one-sum D one (v ∷ vs) s t (skips {s = i} p h) (skips {s = j} q g) = one-sum D one vs i j h g

same_counts : (c d : Counts) → c.blocks ≡ d.blocks → c.clean ≡ d.clean → c.mended ≡ d.mended → c.lost ≡ d.lost → c.symbols ≡ d.symbols → c ≡ d
same_counts c d a b e f g = λ i. record { blocks = a i; clean = b i; mended = e i; lost = f i; symbols = g i }

pub one_tally : OneTally
one_tally D trial passed vs c d x y =
    same_counts c d (x.all ∙ sym y.all) (one_number _ vs _ _ x.clean_ones y.clean_ones) (one_number _ vs _ _ x.mended_ones y.mended_ones)
    (one_number _ vs _ _ x.lost_ones y.lost_ones)
    (one-sum _
    (λ v e f (w, (near, _), p) (u, (nigh, _), q). p ∙ ap (distance D.n v) (only_near D trial passed v w u near nigh) ∙ sym q)
    vs _ _ x.symbols_sum y.symbols_sum)
