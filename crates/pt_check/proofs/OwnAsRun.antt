-- The object of a site is to a check a share's own where a run of the share tells of it.
use Rattle.std.proofs.Common.{◌≡◌, ◌∷◌, ℕ, Bool, true, false, List, Result, Ok, Err, cond, refl}
use Rattle.pt_check.specs.ShareLaws.{CheckOwnsAsRun}
use Rattle.pt_check.specs.Shares.{is_own_by}
use Rattle.pt_name.specs.Identifying.{identification_by, identifier_at}
use Rattle.pt_name.specs.Place.{place_of}
use Rattle.pt_name.specs.Share.{Portion, takes}
use Rattle.pt_name.specs.Tuples.{Tuples}
use Rattle.pt_name.specs.declared.identifying.Identification.TheVariants as answer
use Rattle.pt_name.specs.declared.identifying.Refusal.{Refusal}
use Rattle.pt_plan.specs.Items.{PairtreeObject, is_ours, verdict_by_identifier}
use Rattle.pt_tree.specs.Path.{Path}

-- an object that is taken is the share's own
pub taken : (tuples : Tuples) (s : Portion) (site : Path) (id : List ℕ) (b : Bool)
    → is_own_by s site (cond b (answer.Candidate (record { id = id; place = place_of tuples id })) answer.OtherShare) ≡ b
taken tuples s site id true = refl
taken tuples s site id false = refl

by_read : (tuples : Tuples) (s : Portion) (site : Path) (object : PairtreeObject) (read : Result (List ℕ) Refusal)
    → is_own_by s site (identification_by tuples s site read) ≡ is_ours s site (verdict_by_identifier object read)
by_read tuples s site object (Err why) = refl
by_read tuples s site object (Ok id) = taken tuples s site id (takes s site id)

pub check_owns_as_run : CheckOwnsAsRun
check_owns_as_run job prefix name names object =
    by_read job.tuples job.share (name ∷ names) object (identifier_at job.tuples prefix (name ∷ names))
