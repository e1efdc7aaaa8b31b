-- What an opened scheme file holds.
use Rattle.std.specs.Prelude.{◌≡◌, ℕ, List, None}
use Rattle.files.specs.Layout.{contents_of}
use Rattle.promises.specs.Scheme.{Handed, handing, scheme, none}
use Rattle.promises.specs.Promise.{Promise}
use Rattle.schemes.specs.Told.{kept, tallied}
use Rattle.opening.specs.Opening.{scheme_refusal, handed_of, plan_of}
use Rattle.opening.specs.Held.{ring_held, meaning_held}
use Rattle.opening.specs.declared.opened.Opened.{Opened}

-- what its calls hand over
abbrev pub handed_held : Opened → Handed
handed_held o = handing (ring_held o.kind) o.rows.now (meaning_held o.list)

-- No refusal kept the file's scheme from going live. It is live with an empty tally, and keeps its promise.
pub record IsOpened (file : List ℕ) (o : Opened) : Type 0 where
  pub clear : scheme_refusal file ≡ None
  pub handed : handed_held o ≡ handed_of (contents_of file)
  pub keeps : kept o.live ≡ scheme (plan_of (contents_of file)) (handed_of (contents_of file))
  pub starts : tallied o.live ≡ none
  pub promised : Promise (kept o.live) (handed_held o)
