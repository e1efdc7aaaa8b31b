-- The promise of a live scheme, by induction over runs.
use Rattle.std.proofs.Common.{◌≡◌, ℕ, zero, suc, ◌+◌, ◌<◌, ◌≤◌, true, cond, List, [], ◌∷◌, length, Some, None, Ok, Err, Option, Result, sym, refl, ap, ◌∙◌, subst, arith, MatchOption}
use Rattle.codes.proofs.Found.{none-some}
use Rattle.std.proofs.lemmas.Bool.{and_parts, eqb-true, true≢false, cond-true, cond-false}
use Rattle.faults.specs.Refusal.{Refusal}
use Rattle.codes.specs.Code.{Code, code, codeword, Codeword, Symbols, Permutation, distance, candidate, Succeeds, First, Near}
use Rattle.codes.specs.Serviceable.{Serviceable}
use Rattle.codes.proofs.Places.{zero_same, distance-zero}
use Rattle.codes.proofs.Decoding.{codeword_long, decodes, nearest}
use Rattle.promises.specs.Scheme.{Plan, Scheme, scheme, Handed, Counts, none}
use Rattle.promises.specs.Trial.{unfit, fails}
use Rattle.promises.specs.Calls.{Encoding, Correcting, Call, encode, correct, close, code_of, fits, objection, Encodes, found, missed, Finds, Loses, reason, Corrects, refuses, finds, loses, Runs}
use Rattle.promises.specs.Promise.{formed, blocks, Same, Alike, Faithful, Within, Served, nothing, one_more, no_more, empty, adds, skips, Counting, Encoded, Promise, Passed, Law}
use Rattle.promises.proofs.Trying.{first_none, second_none, fit_order, fit_size, fit_long, fit_permutes, passes_serves}
use Rattle.promises.proofs.Refusing.{accepted, formed_at, unformed_at, fits_from}
use Rattle.promises.proofs.Alike.{codeword_same, candidate_same, succeeds_same}

distance_self : (n : ℕ) (v : List ℕ) → distance n v v ≡ 0
distance_self n v = distance-zero n v v (λ p h. refl)

at_none : {A : Type 0} (o : Option A) (P : Type 0) (Q : A → Type 0) → o ≡ None → MatchOption o P Q → P
at_none None P Q e h = h
at_none (Some x) P Q e h = absurd (none-some x (sym e))

same_some : {A : Type 0} (y x : A) → ◌≡◌ {A = Option A} (Some y) (Some x) → y ≡ x
same_some y x e = cc

at_some : {A : Type 0} (o : Option A) (P : Type 0) (Q : A → Type 0) (x : A) → o ≡ Some x → MatchOption o P Q → Q x
at_some None P Q x e h = absurd (none-some x e)
at_some (Some y) P Q x e h = subst Q (same_some y x e) h

ok_parts : (a b d j : ℕ) → ◌≡◌ {A = Result (ℕ × ℕ) Refusal} (Ok (a, b)) (Ok (d, j)) → (a ≡ d) × (b ≡ j)
ok_parts a b d j e = let p : ◌≡◌ {A = ℕ × ℕ} (a, b) (d, j) = cc in (ap (λ (y : ℕ × ℕ). y.0) p, ap (λ (y : ℕ × ℕ). y.1) p)

module _ (S : Scheme) (trial : Handed) (fit : S.k ≤ S.n) where
  abbrev D : Code
  D = code_of S trial

  -- one more block that has a codeword within t places, the only one
  found_at : (d : ℕ) (vs : List (List ℕ)) (c : Counts) (v w : List ℕ) → Counting S trial vs c → length v ≡ S.n → Within S trial v w → ((u : List ℕ) → Within S trial v u → u ≡ w)
      → distance S.n v w ≡ d → Counting S trial (v ∷ vs) (found d c)
  found_at zero vs c v w so long near only e =
      let same : v ≡ w = zero_same S.n v w long (codeword_long D fit w near.0) e in
      record {
        all = omega (arith, so.all);
        parts = omega (arith, so.parts);
        clean_ones = one_more (subst (Codeword D) (sym same) near.0) so.clean_ones;
        mended_ones = no_more (λ (u, (n, other)). other (only u n ∙ sym same)) so.mended_ones;
        lost_ones = no_more (λ lost. lost w near) so.lost_ones;
        symbols_sum = skips (λ d (u, (n, other), _). other (only u n ∙ sym same)) so.symbols_sum;
      }
  found_at (suc d) vs c v w so long near only e =
      let other : w ≡ v → ⊥ = λ s. omega (arith, e, ap (distance S.n v) s, distance_self S.n v) in
      record {
        all = omega (arith, so.all);
        parts = omega (arith, so.parts);
        clean_ones = no_more (λ cw. other (sym (only v (cw, omega (arith, distance_self S.n v))))) so.clean_ones;
        mended_ones = one_more (w, (near, other)) so.mended_ones;
        lost_ones = no_more (λ lost. lost w near) so.lost_ones;
        symbols_sum = adds (w, (near, other), sym e) so.symbols_sum;
      }

  lost_at : (vs : List (List ℕ)) (c : Counts) (v : List ℕ) → Counting S trial vs c → ((u : List ℕ) → Within S trial v u → ⊥) → Counting S trial (v ∷ vs) (missed c)
  lost_at vs c v so lost = record {
    all = omega (arith, so.all);
    parts = omega (arith, so.parts);
    clean_ones = no_more (λ cw. lost v (cw, omega (arith, distance_self S.n v))) so.clean_ones;
    mended_ones = no_more (λ (u, (n, other)). lost u n) so.mended_ones;
    lost_ones = one_more lost so.lost_ones;
    symbols_sum = skips (λ d (u, (n, other), _). lost u n) so.symbols_sum;
  }

module _ (D : Plan) (trial : Handed) (passed : Passed D trial) where
  abbrev S : Scheme
  S = scheme D trial

  abbrev C : Code
  C = code_of S trial

  abbrev t : ℕ
  t = D.t

  fit : unfit D trial ≡ None
  fit = first_none (unfit D trial) (fails D trial) passed.verdict_none

  within : D.k ≤ D.n
  within = omega (arith, passed.order)

  permutes : (i : ℕ) → i < S.m → Permutation D.n (trial.list.target i)
  permutes = fit_permutes D trial fit

  strong : Serviceable C t S.m trial.list.target
  strong = passes_serves D trial fit passed.rules passed.some within (second_none (unfit D trial) (fails D trial) passed.verdict_none)

  order_same : trial.ring.q ≡ D.q
  order_same = fit_order D trial fit

  -- with what a call is handed that 13 does not refuse, attempts are those with the trial's
  words_same : (h : Handed) → fits S h ≡ true → Same S trial h → (u : List ℕ) → codeword (code_of S h) u ≡ codeword C u
  words_same h fit same u =
      let order : h.ring.q ≡ trial.ring.q = eqb-true _ _ (and_parts _ _ fit).0 ∙ sym order_same in
      codeword_same h.ring trial.ring (omega (arith, passed.rules.low)) order (λ a b l g. same.sums a b (omega (arith, order_same)) (omega (arith, order_same))) (λ a b l g. same.products a b (omega (arith, order_same)) (omega (arith, order_same)))
      D.n D.k h.rows u
      ∙ ap (λ (rows : List ℕ). codeword (code trial.ring D.n D.k rows) u) same.rows

  there : (h : Handed) → fits S h ≡ true → Same S trial h → (v : List ℕ) (i : ℕ) → i < S.m → Succeeds (code_of S h) t (h.list.target i) v → Succeeds C t (trial.list.target i) v
  there h fit same v i l =
      succeeds_same (code_of S h) C t refl refl (eqb-true _ _ (and_parts _ _ fit).0 ∙ sym order_same) (words_same h fit same) (h.list.target i) (trial.list.target i) (λ p g. same.targets i p l g) v

  back : (h : Handed) → fits S h ≡ true → Same S trial h → (v : List ℕ) (i : ℕ) → i < S.m → Succeeds C t (trial.list.target i) v → Succeeds (code_of S h) t (h.list.target i) v
  back h fit same v i l =
      succeeds_same C (code_of S h) t refl refl (sym (eqb-true _ _ (and_parts _ _ fit).0 ∙ sym order_same)) (λ u. sym (words_same h fit same u)) (trial.list.target i) (h.list.target i) (λ p g. sym (same.targets i p l g)) v

  -- at most one codeword is within t places
  pub only_near : (v w u : List ℕ) → Near C t v w → Near C t v u → w ≡ u
  only_near v w u = nearest C t S.m trial.list.target within permutes strong v w u

  same_found : (x : Correcting) (c after : Counts) (i : ℕ) → fits S x.handed ≡ true → Same S trial x.handed → Finds S c x after i
      → First C t trial.list.target x.block i × (x.after ≡ candidate C (trial.list.target i) x.block)
  same_found x c after i fit same f = (
    (there x.handed fit same x.block i f.within f.first.0, λ j l s. f.first.1 j l (back x.handed fit same x.block j (omega (arith, f.within)) s)),
    f.word
        ∙ candidate_same (code_of S x.handed) C t refl refl (eqb-true _ _ (and_parts _ _ fit).0 ∙ sym order_same) (words_same x.handed fit same) (x.handed.list.target i) (trial.list.target i)
        (λ p g. same.targets i p f.within g) x.block,
  )

  near_found : (x : Correcting) (c after : Counts) (i : ℕ) → fits S x.handed ≡ true → Same S trial x.handed → Finds S c x after i → Near C t x.block x.after
  near_found x c after i fit e f =
      let (first, is) = same_found x c after i fit e f in
      subst (Near C t x.block) (sym is) (first.0.1, first.0.2)

  only_found : (x : Correcting) (c after : Counts) (i : ℕ) → fits S x.handed ≡ true → Same S trial x.handed → Finds S c x after i → (u : List ℕ) → Near C t x.block u → u ≡ x.after
  only_found x c after i fit e f u near = nearest C t S.m trial.list.target within permutes strong x.block u x.after near (near_found x c after i fit e f)

  none_near : (x : Correcting) (c after : Counts) → fits S x.handed ≡ true → Same S trial x.handed → Symbols S.q D.n x.block → Loses S c x after → (u : List ℕ) → Near C t x.block u → ⊥
  none_near x c after fit e block l u near =
      let (i, h, s) = (decodes C t S.m trial.list.target within permutes strong x.block (block.0, λ p h. omega (arith, order_same, block.1 p h))).1 (u, near) in
      l.none_succeeds i h (back x.handed fit e x.block i h s)

  counts_after : (vs : List (List ℕ)) (c after : Counts) (x : Correcting) → Counting S trial vs c → Alike S trial x.handed → Corrects S c x after
      → Counting S trial (cond (formed S (length vs) x) (x.block ∷ vs) vs) after
  counts_after vs c after x so gets (refuses r o f) =
      rw (cond-false _ (x.block ∷ vs) vs (unformed_at S (length vs) x r (rw so.all at o)), f.tally) so
  counts_after vs c after x so gets (finds o i f) =
      let (clear, well) = formed_at S (length vs) x (rw so.all at o) in
      let (fit, block) = accepted S x.handed D.n x.block x.before clear in
      rw (cond-true _ (x.block ∷ vs) vs well, f.tally)
      (found_at S trial within (distance D.n x.block x.after) vs c x.block x.after so block.0 (near_found x c after i fit (gets fit) f) (only_found x c after i fit (gets fit) f) refl)
  counts_after vs c after x so gets (loses o f) =
      let (clear, well) = formed_at S (length vs) x (rw so.all at o) in
      let (fit, block) = accepted S x.handed D.n x.block x.before clear in
      rw (cond-true _ (x.block ∷ vs) vs well, f.tally)
      (lost_at S trial within vs c x.block so (none_near x c after fit (gets fit) block f))

  nothing_counted : Counting S trial [] none
  nothing_counted = record { all = refl; parts = refl; clean_ones = nothing; mended_ones = nothing; lost_ones = nothing; symbols_sum = empty }

  counted_so : (past : List Call) (c : Counts) → Runs S past c → Faithful S trial past → Counting S trial (blocks S past) c
  counted_so [] c run faith = rw run nothing_counted
  counted_so (encode x ∷ past) after (c, run, (_, same)) faith = rw same (counted_so past c run faith)
  counted_so (correct x ∷ past) after (c, run, does) faith = counts_after (blocks S past) c after x (counted_so past c run faith.1) faith.0 does
  counted_so (close answer ∷ past) after (c, run, (_, same)) faith = rw same nothing_counted

  -- the tally's number of blocks is that of the well-formed ones, whatever the calls were handed
  found_blocks : (d : ℕ) (c : Counts) → (found d c).blocks ≡ c.blocks + 1
  found_blocks zero c = refl
  found_blocks (suc d) c = refl

  blocks_after : (vs : List (List ℕ)) (c after : Counts) (x : Correcting) → c.blocks ≡ length vs → Corrects S c x after
      → after.blocks ≡ length (cond (formed S (length vs) x) (x.block ∷ vs) vs)
  blocks_after vs c after x so (refuses r o f) =
      rw (cond-false _ (x.block ∷ vs) vs (unformed_at S (length vs) x r (rw so at o)), f.tally) so
  blocks_after vs c after x so (finds o i f) =
      let (clear, well) = formed_at S (length vs) x (rw so at o) in
      rw (cond-true _ (x.block ∷ vs) vs well, f.tally) (found_blocks (distance D.n x.block x.after) c ∙ omega arith)
  blocks_after vs c after x so (loses o f) =
      let (clear, well) = formed_at S (length vs) x (rw so at o) in
      rw (cond-true _ (x.block ∷ vs) vs well, f.tally) (omega arith)

  blocks_so : (past : List Call) (c : Counts) → Runs S past c → c.blocks ≡ length (blocks S past)
  blocks_so [] c run = ap (λ (x : Counts). x.blocks) run
  blocks_so (encode x ∷ past) after (c, run, (_, same)) = ap (λ (x : Counts). x.blocks) same ∙ blocks_so past c run
  blocks_so (correct x ∷ past) after (c, run, does) = blocks_after (blocks S past) c after x (blocks_so past c run) does
  blocks_so (close answer ∷ past) after (c, run, (_, same)) = ap (λ (x : Counts). x.blocks) same

  -- the codeword of a message is a codeword within t places
  message_near : (v u : List ℕ) → Symbols S.q S.k u → distance D.n v (codeword C u) ≤ t → Near C t v (codeword C u)
  message_near v u symbols near = ((u, (symbols.0, λ p h. omega (arith, order_same, symbols.1 p h)), refl), near)

  served : (c after : Counts) (x : Correcting) → Alike S trial x.handed → Corrects S c x after → formed S c.blocks x ≡ true → Served S trial x
  served c after x gets (refuses r o f) well = absurd (true≢false (sym well ∙ unformed_at S c.blocks x r o))
  served c after x gets (finds o i f) well =
      let (fit, block) = accepted S x.handed D.n x.block x.before (formed_at S c.blocks x o).0 in
      let near = near_found x c after i fit (gets fit) f in
      record {
        answers_when = λ w _. (distance D.n x.block x.after, i, f.answers);
        only_when = λ d j a. near;
        the_only = λ d j a. only_found x c after i fit (gets fit) f;
        its_distance = λ d j a. sym (ok_parts _ _ d j (sym f.answers ∙ a)).0;
        first_attempt = λ d j a.
            subst (λ (l : ℕ). (l < S.m) × First C t trial.list.target x.block l) (ok_parts _ _ d j (sym f.answers ∙ a)).1 (f.within, (same_found x c after i fit (gets fit) f).0);
        restores = λ u symbols h.
            (distance D.n x.block x.after, i, f.answers, sym (only_found x c after i fit (gets fit) f (codeword C u) (message_near x.block u symbols h)));
        otherwise = λ no. absurd (no x.after near);
      }
  served c after x gets (loses o f) well =
      let (fit, block) = accepted S x.handed D.n x.block x.before (formed_at S c.blocks x o).0 in
      let no = none_near x c after fit (gets fit) block f in
      let never : (d j : ℕ) → x.answer ≡ Ok (d, j) → ⊥ = λ d j a. let b = f.answers in let z : ◌≡◌ {A = ℕ} 0 1 = cc in omega arith in
      record {
        answers_when = λ w near. absurd (no w near);
        only_when = λ d j a. absurd (never d j a);
        the_only = λ d j a. absurd (never d j a);
        its_distance = λ d j a. absurd (never d j a);
        first_attempt = λ d j a. absurd (never d j a);
        restores = λ u symbols h. absurd (no (codeword C u) (message_near x.block u symbols h));
        otherwise = λ _. (f.answers, f.word);
      }

  refused : (c after : Counts) (x : Correcting) → Corrects S c x after → (formed S c.blocks x ≡ true → ⊥)
      → (r : Refusal) × (reason S c.blocks x ≡ Some r) × (x.answer ≡ Err r) × (x.after ≡ x.before)
  refused c after x (refuses r o f) ill = (r, o, f.answers, f.word)
  refused c after x (finds o i f) ill = absurd (ill (formed_at S c.blocks x o).1)
  refused c after x (loses o f) ill = absurd (ill (formed_at S c.blocks x o).1)

  encoded : (x : Encoding) → Alike S trial x.handed → Encodes S x → Encoded S trial x
  encoded x gets does = record {
    writes = λ none. let (answer, after) = at_none (objection S x.handed S.k x.message x.before) _ _ none does in
        let (fit, _) = accepted S x.handed S.k x.message x.before none in
        (answer, after ∙ words_same x.handed fit (gets fit) x.message);
    refuses = λ r some. at_some (objection S x.handed S.k x.message x.before) _ _ r some does;
  }

  pub promised : Promise S trial
  promised = record {
    accepts = fits_from S trial order_same (fit_long D trial fit) refl (fit_size D trial fit);
    serviceable = strong;
    serves = λ past x after (c, run, does) alike well.
        let so = blocks_so past c run in
        served c after x alike does (rw so well);
    refuses = λ past x after (c, run, does) ill.
        let so = blocks_so past c run in
        let (r, why, answer, word) = refused c after x does (λ e. ill (rw so at e)) in
        (r, ap (λ (b : ℕ). reason S b x) (sym so) ∙ why, answer, word);
    encodes = λ past x after (c, run, (does, _)) alike. encoded x alike does;
    counts = λ calls c run faith. counted_so calls c run faith;
    closes = λ past answer after (c, run, (is, _)) faith. rw is (counted_so past c run faith);
    withdraws = λ calls answer c run faith is. rw is (counted_so calls c run faith);
  }

pub law : Law
law D trial passed = promised D trial passed
