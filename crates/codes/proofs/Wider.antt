-- A set of at most t places lies in a set of exactly t.
use Rattle.std.proofs.Common.{◌≡◌, ℕ, zero, suc, ◌+◌, ◌<◌, ◌≤◌, List, [], ◌∷◌, length, sym, refl, ap, subst, ⊎_elim, arith}
use Rattle.std.specs.List.{AllByRecursion}
use Rattle.std.proofs.lemmas.Bool.{cases_eq}
use Rattle.codes.specs.Sets.{Rising}

pub rising_from : (n f g : ℕ) (ps : List ℕ) → f ≤ g → Rising n g ps → Rising n f ps
rising_from n f g [] h r = tt
rising_from n f g (p ∷ ps) h r = (omega arith, r.1, r.2)

pub rising_room : (n f : ℕ) (ps : List ℕ) → f ≤ n → Rising n f ps → f + length ps ≤ n
rising_room n f [] h r = omega arith
rising_room n f (p ∷ ps) h r = let s = rising_room n (suc p) ps (omega arith) r.2 in omega arith

-- a set of exactly t places from f on that holds a given one
pub record Wider (n f t : ℕ) (ps : List ℕ) : Type 1 where
  pub wide : List ℕ
  pub long : length wide ≡ t
  pub rises : Rising n f wide
  pub holds : (P : ℕ → Type 0) → AllByRecursion P wide → AllByRecursion P ps

wider_up : (n f t : ℕ) (ps : List ℕ) → Wider n (suc f) t ps → Wider n f t ps
wider_up n f t ps w = record { wide = w.wide; long = w.long; rises = rising_from n f (suc f) w.wide (omega arith) w.rises; holds = w.holds }

-- the new place f is in the given set, or is not
wider_with : (n f t : ℕ) (ps : List ℕ) → f < n → Wider n (suc f) t ps → Wider n f (suc t) (f ∷ ps)
wider_with n f t ps h w = record { wide = f ∷ w.wide; long = ap suc w.long; rises = (omega arith, h, w.rises); holds = λ P all. (all.0, w.holds P all.1) }

wider_beside : (n f t : ℕ) (ps : List ℕ) → f < n → Wider n (suc f) t ps → Wider n f (suc t) ps
wider_beside n f t ps h w = record { wide = f ∷ w.wide; long = ap suc w.long; rises = (omega arith, h, w.rises); holds = λ P all. w.holds P all.1 }

empty : (n f : ℕ) (ps : List ℕ) → length ps ≤ 0 → Wider n f 0 ps
empty n f [] h = record { wide = []; long = refl; rises = tt; holds = λ P all. tt }
empty n f (p ∷ ps) h = absurd (omega arith)

pub widen : (n f d t : ℕ) (ps : List ℕ) → f + d ≡ n → Rising n f ps → length ps ≤ t → t ≤ d → Wider n f t ps
widen n f d zero ps e r h l = empty n f ps h
widen n f zero (suc t) ps e r h l = absurd (omega arith)
widen n f (suc d) (suc t) [] e r h l = wider_beside n f t [] (omega arith) (widen n (suc f) d t [] (omega arith) tt (omega arith) (omega arith))
widen n f (suc d) (suc t) (p ∷ ps) e r h l =
    ⊎_elim
    (λ q. subst (λ x. Wider n f (suc t) (x ∷ ps)) (sym q) (wider_with n f t ps (omega arith) (widen n (suc f) d t ps (omega arith) (subst (λ x. Rising n (suc x) ps) q r.2) (omega arith) (omega arith))))
    (λ ne. ⊎_elim
    (λ q. wider_beside n f t (p ∷ ps) (omega arith) (widen n (suc f) d t (p ∷ ps) (omega arith) (omega arith, r.1, r.2) (omega (arith, rising_room n (suc p) ps (omega arith) r.2)) (omega arith)))
    (λ ne'. wider_up n f (suc t) (p ∷ ps) (widen n (suc f) d (suc t) (p ∷ ps) (omega arith) (omega arith, r.1, r.2) h (omega arith)))
    (cases_eq t d))
    (cases_eq p f)
