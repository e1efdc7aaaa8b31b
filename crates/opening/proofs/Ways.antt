-- From what the steps of opening a file answer to what the file itself means.
use Rattle.std.proofs.Common.{◌≡◌, ℕ, List, None, Option, sym, ap, ◌∙◌, ap₂}
use Rattle.std.specs.Option.{option_or}
use Rattle.faults.specs.Refusal.{Refusal}
use Rattle.symbols.specs.Ring.{Ring}
use Rattle.lists.specs.Meaning.{Meaning}
use Rattle.files.specs.Contents.{Contents}
use Rattle.files.specs.Layout.{contents_of}
use Rattle.files.specs.Limits.{file_refusal}
use Rattle.promises.specs.Scheme.{plan, handing, scheme}
use Rattle.opening.specs.Opening.{ring_of, kind_refusal, meaning_of, list_refusal, handed_of, plan_of, live_refusal, contents_refusal, scheme_refusal}

-- a file that is accepted and says x, with a kind of ring R and a list of meaning M that are not refused
pub record Steps (file : List ℕ) (x : Contents) (R : Ring) (M : Meaning) : Type 0 where
  pub accepted : file_refusal file ≡ None
  pub says : x ≡ contents_of file
  pub kind : kind_refusal x.family x.base ≡ None
  pub list : list_refusal x.n x.list ≡ None
  pub ring : R ≡ ring_of x.family x.base
  pub meaning : M ≡ meaning_of x.n x.count x.list

module _ (file : List ℕ) (x : Contents) (R : Ring) (M : Meaning) (s : Steps file x R M) where
  same_plan : plan x.n x.k x.t R.q ≡ plan_of x
  same_plan = ap (λ (Q : Ring). plan x.n x.k x.t Q.q) s.ring

  same_handed : handing R x.rows M ≡ handed_of x
  same_handed = ap₂ (λ (Q : Ring) (N : Meaning). handing Q x.rows N) s.ring s.meaning

  -- what the calls hand over
  pub handed_is : handing R x.rows M ≡ handed_of (contents_of file)
  handed_is = same_handed ∙ ap handed_of s.says

  -- the live scheme
  pub scheme_is : scheme (plan x.n x.k x.t R.q) (handing R x.rows M) ≡ scheme (plan_of (contents_of file)) (handed_of (contents_of file))
  scheme_is = ap₂ scheme same_plan same_handed ∙ ap (λ (y : Contents). scheme (plan_of y) (handed_of y)) s.says

  by_contents : contents_refusal x ≡ live_refusal (plan_of x) (handed_of x)
  by_contents =
      ap (λ (w : Option Refusal). option_or w (option_or (list_refusal x.n x.list) (live_refusal (plan_of x) (handed_of x)))) s.kind
      ∙ ap (λ (w : Option Refusal). option_or w (live_refusal (plan_of x) (handed_of x))) s.list

  -- what going live is refused for is what the file is refused for
  pub refusal_is : (r : Option Refusal) → live_refusal (plan x.n x.k x.t R.q) (handing R x.rows M) ≡ r → scheme_refusal file ≡ r
  refusal_is r e =
      ap (λ (w : Option Refusal). option_or w (contents_refusal (contents_of file))) s.accepted
      ∙ ap contents_refusal (sym s.says) ∙ by_contents ∙ sym (ap₂ live_refusal same_plan same_handed) ∙ e
