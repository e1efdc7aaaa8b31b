-- A call of correct by computing: which attempt succeeds first, or that none does.
use Rattle.std.proofs.Common.{◌≡◌, ℕ, ◌<◌, ◌≤◌, Bool, true, not, ◌&&◌, leb, List, is_some, Some, None, Ok, Err, Option, sym, refl, ap, ◌∙◌, arith}
use Rattle.std.proofs.lemmas.Bool.{true≢false, and_parts, and_from}
use Rattle.std.proofs.lemmas.Option.{MatchOption-at_some, MatchOption-at_none}
use Rattle.std.proofs.lemmas.Bool.Decides.{nat_tests}
use Rattle.faults.specs.Refusal.{refuse}
use Rattle.symbols.specs.Ring.{RingRules}
use Rattle.codes.specs.Code.{Code, Symbols, distance, is_codeword, candidate, Succeeds, First}
use Rattle.codes.specs.Offenders.{bad_place}
use Rattle.codes.specs.Search.{least}
use Rattle.codes.proofs.Found.{finds_first}
use Rattle.codes.proofs.Linear.{candidate_symbols}
use Rattle.codes.proofs.Offending.{permutes_from, clash_none, codeword_by_test, test_by_codeword}
use Rattle.promises.specs.Scheme.{Plan, Scheme, scheme, Handed, none}
use Rattle.promises.specs.Calls.{Correcting, code_of, objection, reason, Corrects, finds, loses, found, missed}
use Rattle.promises.specs.Trial.{verdict}
use Rattle.promises.specs.Promise.{Promise}
use Rattle.promises.proofs.Promised.{law}
use Rattle.promises.proofs.Refusing.{accepted}
use Rattle.files.specs.Layout.{contents_of}
use Rattle.opening.specs.Opening.{plan_of, handed_of, scheme_refusal}
use Rattle.host.specs.Hosted.{Called}

some-not : {A : Type 0} (o : Option A) → not (is_some o) ≡ true → o ≡ None
some-not None e = refl
some-not (Some x) e = absurd (true≢false (sym e))

leb-le : (a b : ℕ) → leb a b ≡ true → a ≤ b
leb-le a b e = grind (arith, nat_tests)

le-leb : (a b : ℕ) → a ≤ b → leb a b ≡ true
le-leb a b h = grind (arith, nat_tests)

-- the test whether an attempt succeeds
abbrev pub succeeds : Code → ℕ → (ℕ → ℕ) → List ℕ → Bool
succeeds C t σ v = not (is_some (bad_place C.n σ)) && (is_codeword C (candidate C σ v) && leb (distance C.n v (candidate C σ v)) t)

module _ (C : Code) (t : ℕ) (rules : RingRules C.ring) (fits : C.k ≤ C.n) (v : List ℕ) (block : Symbols C.ring.q C.n v) where
  to_success : (σ : ℕ → ℕ) → succeeds C t σ v ≡ true → Succeeds C t σ v
  to_success σ e =
      let (a, bc) = and_parts (not (is_some (bad_place C.n σ))) _ e in
      let (b, c) = and_parts (is_codeword C (candidate C σ v)) _ bc in
      let perm = permutes_from C.n σ (some-not _ a) in
      (perm, codeword_by_test C fits (candidate C σ v) (candidate_symbols C rules fits σ perm v block) b, leb-le _ _ c)

  from_success : (σ : ℕ → ℕ) → Succeeds C t σ v → succeeds C t σ v ≡ true
  from_success σ (perm, word, near) =
      and_from _ _ (ap (λ o. not (is_some o)) (clash_none C.n σ perm))
      (and_from _ _ (test_by_codeword C fits (candidate C σ v) (candidate_symbols C rules fits σ perm v block) word) (le-leb _ _ near))

  pub first_by : (target : ℕ → ℕ → ℕ) (m i : ℕ) → least (λ j. succeeds C t (target j) v) 0 m ≡ Some i → (i < m) × First C t target v i
  first_by target m i e =
      let got = MatchOption-at_some _ _ i e (finds_first (λ j. succeeds C t (target j) v) 0 m) in
      (omega (arith, got.1), (to_success (target i) got.2, λ j l s. true≢false (sym (from_success (target j) s) ∙ got.3 j (omega arith) l)))

  pub none_by : (target : ℕ → ℕ → ℕ) (m : ℕ) → least (λ j. succeeds C t (target j) v) 0 m ≡ None → (i : ℕ) → i < m → Succeeds C t (target i) v → ⊥
  none_by target m e i l s =
      true≢false (sym (from_success (target i) s) ∙ MatchOption-at_none _ _ e (finds_first (λ j. succeeds C t (target j) v) 0 m) i (omega arith) (omega arith))

module _ (D : Plan) (h : Handed) (rules : RingRules h.ring) (within : D.k ≤ D.n) (orders : h.ring.q ≡ D.q) (v before : List ℕ)
    (clear : objection (scheme D h) h D.n v before ≡ None) where
  abbrev S : Scheme
  S = scheme D h

  abbrev C : Code
  C = code_of S h

  symbols : Symbols h.ring.q D.n v
  symbols = let (_, (long, below)) = accepted S h D.n v before clear in (long, λ p l. omega (arith, orders, below p l))

  -- the call that attempt i answers
  abbrev pub answering : ℕ → Correcting
  answering i = record {
    handed = h;
    block = v;
    before = before;
    answer = Ok (distance D.n v (candidate C (h.list.target i) v), i);
    after = candidate C (h.list.target i) v;
  }

  pub finds_by : (i : ℕ) → least (λ j. succeeds C D.t (h.list.target j) v) 0 h.list.count ≡ Some i → reason S 0 (answering i) ≡ None
      → Corrects S none (answering i) (found (distance D.n v (candidate C (h.list.target i) v)) none)
  finds_by i e ok =
      let (l, first) = first_by C D.t rules within v symbols h.list.target h.list.count i e in
      finds ok i (record { within = l; first = first; word = refl; answers = refl; tally = refl })

  abbrev pub losing : Correcting
  losing = record { handed = h; block = v; before = before; answer = Err (refuse 17 0 0); after = before }

  pub loses_by : least (λ j. succeeds C D.t (h.list.target j) v) 0 h.list.count ≡ None → reason S 0 losing ≡ None → Corrects S none losing (missed none)
  loses_by e ok =
      loses ok (record { none_succeeds = none_by C D.t rules within v symbols h.list.target h.list.count e; answers = refl; word = refl; tally = refl })

-- the same of a scheme file, whose scheme goes live
module _ (file v before : List ℕ) where
  abbrev D : Plan
  D = plan_of (contents_of file)

  abbrev h : Handed
  h = handed_of (contents_of file)

  module _ (rules : RingRules h.ring) (some : 0 < D.k) (order : D.k < D.n) (live : scheme_refusal file ≡ None) (tried : verdict D h ≡ None) (clear : objection (scheme D h) h D.n v before ≡ None) where
    promised : Promise (scheme D h) h
    promised = law D h (record { rules = rules; some = some; order = order; verdict_none = tried })

    pub called_finds : (i : ℕ) → least (λ j. succeeds (code_of (scheme D h) h) D.t (h.list.target j) v) 0 h.list.count ≡ Some i → reason (scheme D h) 0 (answering D h rules (omega arith) refl v before clear i) ≡ None
        → Called file v before (Ok (distance D.n v (candidate (code_of (scheme D h) h) (h.list.target i) v), i)) (candidate (code_of (scheme D h) h) (h.list.target i) v)
    called_finds i e ok = record { clear = live; promised = promised; tally = found (distance D.n v (candidate (code_of (scheme D h) h) (h.list.target i) v)) none; does = finds_by D h rules (omega arith) refl v before clear i e ok }

    pub called_loses : least (λ j. succeeds (code_of (scheme D h) h) D.t (h.list.target j) v) 0 h.list.count ≡ None → reason (scheme D h) 0 (losing D h rules (omega arith) refl v before clear) ≡ None
        → Called file v before (Err (refuse 17 0 0)) before
    called_loses e ok = record { clear = live; promised = promised; tally = missed none; does = loses_by D h rules (omega arith) refl v before clear e ok }
