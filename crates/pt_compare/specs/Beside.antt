-- Files that are known to be alike on both sides, since they were read beside each other.
use Rattle.std.specs.Prelude.{◌≡◌, Bool, true, false, ◌++◌, take, Option, Some, Result, Ok, Err, All}
use Rattle.std.specs.Option.{ForSome, option_map}
use Rattle.pt_compare.specs.Marks.{Marks, inside, without_mark}
use Rattle.pt_compare.specs.Meeting.{IsWrongFile}
use Rattle.pt_object.specs.Object.{in_content}
use Rattle.pt_compare.specs.Root.{Lacks, Stands}
use Rattle.pt_compare.specs.declared.scanned.ScannedObject.{ScannedObject}
use Rattle.pt_compare.specs.declared.stop.Stop.{Stop}
use Rattle.pt_compare.specs.declared.stop.Stop.TheVariants as stop
use Rattle.pt_plan.specs.declared.fault.Fault.TheVariants as fault
use Rattle.pt_tree.specs.Forest.{Forest}
use Rattle.pt_tree.specs.Path.{Path}
use Rattle.pt_tree.specs.Source.{Reading, after_open, tree_in}
use Rattle.pt_tree.specs.Tree.{Bytes}
use Rattle.pt_tree.specs.declared.kind.Kind.TheVariants as kind
use Rattle.pt_walk.specs.Left.{bytes_at}

-- where both trees are told, a file stands at this path of a place with the bytes that the source has at the other
unfoldable pub StandsAlike : Option Forest → Option Forest → Path → Path → Path → Type 0
StandsAlike source root place p from =
    ForSome source (λ s. ForSome root (λ r. inside r place p ≡ Some (Bytes (bytes_at s from))))

-- so do as many of an object's contents as are said to be alike
abbrev pub AreAlike : Option Forest → Option Forest → ScannedObject → Type 0
AreAlike source root object =
    All (λ content. StandsAlike source root object.to.now (in_content content.path)
    (object.from.now ++ content.path)) (take object.alike object.contents.now)

-- where a directory is said to stand at its place, it does
abbrev pub IsKnownToStand : Option Forest → ScannedObject → Type 0
IsKnownToStand root object = object.stands ≡ true → Stands root (object.to.now, kind.Dir)

-- what is said to be known of an object is so
pub record IsKnown (source root : Option Forest) (object : ScannedObject) : Type 0 where
  pub alike : AreAlike source root object
  pub stands : IsKnownToStand root object

-- a file is taken out of what is noted, where it is noted as one
abbrev pub TakesFile : Path → Marks → Marks → Result (Unit {0}) Stop → Type 0
TakesFile p old new (Ok x) = new ≡ without_mark p old
TakesFile p old new (Err (stop.Differs d)) = (d.path ≡ p) × IsWrongFile old p d.why
TakesFile p old new (Err (stop.Fault why)) = why ≡ fault.Memory

-- a file stands at a path and was opened, or none stands there and nothing was
abbrev pub OpensStanding : Path → Option Reading → Option Reading → Bool → Type 0
OpensStanding p before after true =
    Stands (tree_in before) (p, kind.File) × (after ≡ option_map (after_open p) before)
OpensStanding p before after false = Lacks (tree_in before) (p, kind.File) × (after ≡ before)
