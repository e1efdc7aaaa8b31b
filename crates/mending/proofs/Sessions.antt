-- What a session leaves: a run of calls with the trial's rows, kind and list, whose blocks are the well-formed ones of the input.
use Rattle.std.proofs.Common.{◌≡◌, ℕ, zero, suc, ◌+◌, Bool, true, false, cond, not, ◌&&◌, eqb, ltb, List, ◌∷◌, ◌++◌, length, is_some, Some, None, Option, sym, refl, ap, ◌∙◌, subst, ap₂, arith}
use Rattle.std.specs.Option.{option_map}
use Rattle.std.proofs.lemmas.Bool.{true≢false, eq-eqb}
use Rattle.faults.specs.Refusal.{refuse}
use Rattle.promises.specs.Scheme.{Scheme, Handed, Counts}
use Rattle.promises.specs.Trial.{excess}
use Rattle.promises.specs.Calls.{Correcting, Call, correct, fits, Runs}
use Rattle.promises.specs.Promise.{Same, Faithful, blocks, formed, Counting, Promise}
use Rattle.mending.specs.Input.{piece, pieces, whole, well_formed}
use Rattle.mending.specs.Lines.{total}
use Rattle.mending.specs.Printed.{Added, Session, Reported}

module _ (S : Scheme) (h : Handed) (bytes : List ℕ) where
  pub session_runs : (i : ℕ) (calls : List Call) (c : Counts) (text : List ℕ) → Session S h bytes i calls c text → Runs S calls c
  session_runs zero calls c text (e, f, _) = subst (λ (l : List Call). Runs S l c) (sym e) f
  session_runs (suc i) calls c text (past, earlier, before, s, (added, e)) =
      subst (λ (l : List Call). Runs S l c) (sym e) (earlier, session_runs i past earlier before s, added.does)

  same_self : Same S h h
  same_self = record { rows = refl; sums = λ a b x y. refl; products = λ a b x y. refl; targets = λ i p x y. refl }

  pub session_faithful : (i : ℕ) (calls : List Call) (c : Counts) (text : List ℕ) → Session S h bytes i calls c text → Faithful S h calls
  session_faithful zero calls c text (e, _, _) = subst (Faithful S h) (sym e) tt
  session_faithful (suc i) calls c text (past, earlier, before, s, (added, e)) =
      subst (Faithful S h) (sym e) ((λ _. subst (Same S h) (sym added.handed) same_self), session_faithful i past earlier before s)

  clear : (a b c : Bool) (o : Option ℕ) → a ≡ true → c ≡ true
      → not (is_some (cond a (cond (b && c) (option_map (λ (p : ℕ). refuse 15 p 0) o) (Some (refuse 14 0 0))) (Some (refuse 13 0 0)))) ≡ (b && not (is_some o))
  clear true true true None e f = refl
  clear true true true (Some x) e f = refl
  clear true false true o e f = refl
  clear true b false o e f = absurd (true≢false (sym f))
  clear false b c o e f = absurd (true≢false (sym e))

  formed_is : fits S h ≡ true → (x : Correcting) → x.handed ≡ h → length x.before ≡ S.n → (came : ℕ)
      → formed S came x ≡ (whole S.q S.n x.block && ltb came 1000000)
  formed_is fit x same room came =
      ap (λ b. b && ltb came 1000000)
      (clear (fits S x.handed) (eqb (length x.block) S.n) (eqb (length x.before) S.n) (excess S.q x.block) (ap (fits S) same ∙ fit) (eq-eqb _ _ room))

  pub session_blocks : fits S h ≡ true → (i : ℕ) (calls : List Call) (c : Counts) (text : List ℕ) → Session S h bytes i calls c text → blocks S calls ≡ well_formed S.q S.n bytes i
  session_blocks fit zero calls c text (e, _, _) = ap (blocks S) e
  session_blocks fit (suc i) calls c text (past, earlier, before, s, (added, e)) =
      let ih = session_blocks fit i past earlier before s in
      let x = added.call in
      ap (blocks S) e
      ∙ ap (λ b. cond b (x.block ∷ blocks S past) (blocks S past)) (formed_is fit x added.handed added.room (length (blocks S past)))
      ∙ ap₂ (λ (v : List ℕ) (vs : List (List ℕ)). cond (whole S.q S.n v && ltb (length vs) 1000000) (v ∷ vs) vs) added.block ih

  pub session_more : (i : ℕ) (calls : List Call) (c after : Counts) (before text : List ℕ) → Session S h bytes i calls c before → (added : Added S h (i + 1) (piece S.n bytes i) c after before text)
      → Session S h bytes (i + 1) (correct added.call ∷ calls) after text
  session_more i calls c after before text s added =
      subst (λ (j : ℕ). Session S h bytes j (correct added.call ∷ calls) after text) (let z : suc i ≡ i + 1 = omega arith in z) (calls, c, before, s, (added, refl))

  pub reported : Promise S h → (calls : List Call) (c : Counts) (lines text : List ℕ) → Session S h bytes (pieces S.n bytes) calls c lines → text ≡ lines ++ total c → Reported S h bytes text
  reported promise calls c lines text s e =
      let n = pieces S.n bytes in
      record {
        calls = calls;
        tally = c;
        lines = lines;
        session = s;
        whole = e;
        promised = promise;
        counts = subst (λ (vs : List (List ℕ)). Counting S h vs c) (session_blocks promise.accepts n calls c lines s) (promise.counts calls c (session_runs n calls c lines s) (session_faithful n calls c lines s));
      }
