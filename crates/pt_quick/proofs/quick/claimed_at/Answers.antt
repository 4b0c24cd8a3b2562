use Rattle.std.proofs.Common.{List, ap, ◌∙◌, ℕ}
use Rattle.std.specs.Prelude.{None}
use Rattle.std.specs.Option.{option_map}
use Rattle.std.specs.String.{string_bytes}
use Rattle.pt_tree.specs.Source.{tree_in}
use Rattle.pt_quick.specs.Claimed.{claimed_in}
use Rattle.pt_quick.specs.declared.claimed.ClaimedFiles.{ClaimedFiles}
use Rattle.pt_quick.proofs.Places.{claims_none, claims_some, could_be}
use Rattle.pt_quick.proofs.quick.claimed_at.Goals as goal

pub returns-in-Some-clause-claims : goal.returns-in-Some-clause-claims
returns-in-Some-clause-claims g c =
    claims_some (tree_in (g.R.Source.told c.args.root.now)) c.args.object.now c.in_ok-path.path (string_bytes c.in-Some.text)
    (option_map (λ (files : ClaimedFiles). files.rows) c.in_ok-claimed_rows-in-Some.field-0)
    c.in_ok-path.ensures (rw c.in-Some.is at c.in_ok-text.ensures.text) c.in_ok-claimed_rows-in-Some.ensures.named
    (c.in_ok-claimed_rows-in-Some.ensures.rows
    ∙ ap (λ (b : List ℕ). claimed_in c.args.object.now.algorithm b c.args.object.now.rows.now) c.as_str.ensures.value)

pub returns-in-Some-clause-could : goal.returns-in-Some-clause-could
returns-in-Some-clause-could g c = could_be c.args.object.now c.as_str.result.now c.in_ok-claimed_rows-in-Some.field-0 c.in_ok-claimed_rows-in-Some.ensures.rows

pub returns-clause-claims : goal.returns-clause-claims
returns-clause-claims g c =
    claims_none (tree_in (g.R.Source.told c.args.root.now)) c.args.object.now c.in_ok-path.path None c.in_ok-path.ensures
    (rw c.in-None.is at c.in_ok-text.ensures.text)
