-- Turns of the worked stores are turns by the definition.
use Rattle.std.proofs.Common.{refl}
use Rattle.std.specs.Prelude.{[], ◌∷◌, codes, None, Some}
use Rattle.std.specs.Str.{chars, is_utf8}
use lib.Utf8.{encode}
use Rattle.sha2.specs.Sha256.{compress, digest_bytes, first_words, hash_after, rounds, schedule, sha256}
use Rattle.pt_name.specs.Share.{digest_number}
use Rattle.pt_tree.specs.declared.kind.Kind.TheVariants as kind
use Rattle.pt_plan.specs.Run.{nothing_held}
use Rattle.pt_plan.specs.Turn.{Start, Walk, Scan, Place}
use Rattle.pt_plan.specs.TurnPlace as place
use Rattle.pt_plan.specs.TurnScan as scan
use Rattle.pt_plan.specs.TurnStart as start
use Rattle.pt_plan.specs.TurnWalk as walk
use Rattle.pt_run_tests.specs.WorkedTurns.{EmptyStoreTurns, OneObjectTurns, at_empty_root, at_file, at_site, object_abc_under_way}

pub empty_store_turns : EmptyStoreTurns
empty_store_turns = (
  Start (start.IsStore [] None),
  Start (start.HasNoPrefix []),
  Start (start.HasNoStaging []),
  Start (start.HasNoRoot []),
  Start (start.MakesRoot [] 0 _ refl),
  Start (start.MakesRoot [] 1 _ refl),
  Start (start.MakesRoot [] 2 _ refl),
  Start (start.MakesRoot [] 3 _ refl),
  Start (start.MakesRoot [] 4 _ refl),
  Start (start.MakesRoot [] 5 _ refl),
  Start (start.RenamesRoot []),
  Walk (walk.OpensRoot nothing_held []),
  Walk (walk.LeadsOn at_empty_root refl),
  Walk (walk.EndsWalk at_empty_root refl refl),
  Place (place.TellsEnd at_empty_root),
)

pub one_object_turns : OneObjectTurns
unfolding is_utf8 chars encode first_words schedule rounds compress hash_after digest_bytes sha256 digest_number
one_object_turns = (
  Walk (walk.IsNew at_site (Some 0) (codes "abc") refl),
  Scan (scan.EntersObject at_site object_abc_under_way ((codes "a.txt", kind.File) ∷ []) refl refl),
  Scan (scan.OpensFile at_file object_abc_under_way (codes "a.txt") refl refl),
  Scan (scan.ReadsOn at_file object_abc_under_way 0 97 (98 ∷ 99 ∷ []) refl),
)
