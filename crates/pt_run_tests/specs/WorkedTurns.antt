-- Turns of the worked stores, one by one.
use Rattle.std.specs.Prelude.{ℕ, false, List, [], ◌∷◌, ◌++◌, codes, Option, None, Ok}
use Rattle.pt_object.specs.Files.{root_declaration_bytes}
use Rattle.pt_object.specs.RootFiles.{config_text, extension_name, layout_text}
use Rattle.pt_object.specs.Script.{MakeFile, MakeFolder}
use Rattle.pt_object.specs.Scripts.{staging}
use Rattle.pt_tree.specs.Forest.{kind_at}
use Rattle.pt_tree.specs.Path.{Path}
use Rattle.pt_tree.specs.declared.kind.Kind.{Kind}
use Rattle.pt_tree.specs.declared.kind.Kind.TheVariants as kind
use Rattle.pt_walk.specs.declared.frame.Frame.{Frame}
use Rattle.pt_plan.specs.Job.{Job}
use Rattle.pt_plan.specs.Lines.{End}
use Rattle.pt_plan.specs.Run.{Held, no_counts, nothing_held, with_fed, with_trail}
use Rattle.pt_plan.specs.Turn.{Next}
use Rattle.pt_plan.specs.Roots.{storage_root}
use Rattle.pt_plan.specs.DeviceStates.{Calls, Finds, Lists, Looks, Makes, Opens, Reads, Renames, asks, does, no_calls, tells}
use Rattle.pt_run_tests.specs.WorkedStores.{empty_store, flat_job, worked_job}
use Rattle.pt_plan.specs.declared.object.Object.{Object}
use Rattle.pt_plan.specs.declared.phase.Phase.{Phase}
use Rattle.pt_plan.specs.declared.phase.Opening.TheVariants as opening
use Rattle.pt_plan.specs.declared.phase.Phase.TheVariants as phase
use Rattle.pt_plan.specs.declared.phase.Stage.TheVariants as stage

-- a turn from this phase to that one, of a run that read no prefix
abbrev pub Leads : Job → Phase → Held → Calls → Phase → Held → Type 0
Leads job here held calls next after = Next job no_counts here [] held [] after calls (Ok next)

-- what is held at `pairtree_root` of the empty store
abbrev pub at_empty_root : Held
at_empty_root = with_trail nothing_held (record { listing = []; place = 0 } ∷ [])

-- what is seen at a name of the top of the empty store
abbrev pub seen_there : List ℕ → Path × Option Kind
seen_there name = (name ∷ [], kind_at empty_store (name ∷ []))

-- the 15 turns of the empty store, over no root
abbrev pub EmptyStoreTurns : Type 0
EmptyStoreTurns =
    Leads worked_job (phase.Opening opening.Begin) nothing_held (asks (Looks (seen_there (codes "pairtree_version0_1")
    ∷ seen_there (codes "pairtree_root") ∷ seen_there (codes "pairtree_prefix") ∷ [])))
    (phase.Opening (opening.Prefix None)) nothing_held
    × Leads worked_job (phase.Opening (opening.Prefix None)) nothing_held no_calls (phase.Opening opening.Staging) nothing_held
    × Leads worked_job (phase.Opening opening.Staging) nothing_held (does (Finds staging None)) (phase.Opening opening.Root) nothing_held
    × Leads worked_job (phase.Opening opening.Root) nothing_held (does (Finds storage_root None))
    (phase.Opening (opening.RootMake 0)) nothing_held
    × Leads worked_job (phase.Opening (opening.RootMake 0)) nothing_held (does (Makes (MakeFolder staging)))
    (phase.Opening (opening.RootMake 1)) nothing_held
    × Leads worked_job (phase.Opening (opening.RootMake 1)) nothing_held
    (does (Makes (MakeFolder (staging ++ codes "extensions" ∷ [])))) (phase.Opening (opening.RootMake 2)) nothing_held
    × Leads worked_job (phase.Opening (opening.RootMake 2)) nothing_held
    (does (Makes (MakeFolder (staging ++ codes "extensions" ∷ extension_name ∷ []))))
    (phase.Opening (opening.RootMake 3)) nothing_held
    × Leads worked_job (phase.Opening (opening.RootMake 3)) nothing_held
    (does (Makes
    (MakeFile (staging ++ codes "extensions" ∷ extension_name ∷ codes "config.json" ∷ [])
    (config_text worked_job.tuples)))) (phase.Opening (opening.RootMake 4)) nothing_held
    × Leads worked_job (phase.Opening (opening.RootMake 4)) nothing_held
    (does (Makes (MakeFile (staging ++ codes "ocfl_layout.json" ∷ []) layout_text)))
    (phase.Opening (opening.RootMake 5)) nothing_held
    × Leads worked_job (phase.Opening (opening.RootMake 5)) nothing_held
    (does (Makes
    (MakeFile (staging ++ codes "0=ocfl_1.1"
    ∷ []) root_declaration_bytes))) (phase.Opening opening.RootRename) nothing_held
    × Leads worked_job (phase.Opening opening.RootRename) nothing_held
    (does (Renames staging storage_root)) (phase.Opening opening.OpenRoot) nothing_held
    × Leads worked_job (phase.Opening opening.OpenRoot) nothing_held
    (asks (Lists (codes "pairtree_root" ∷ []) [])) phase.Judge at_empty_root
    × Leads worked_job phase.Judge at_empty_root no_calls phase.Walk at_empty_root
    × Leads worked_job phase.Walk at_empty_root no_calls phase.End at_empty_root
    × Leads worked_job phase.End at_empty_root (tells (End 0 0 0)) phase.Ended at_empty_root

-- the frame of a directory that lists one directory, before it
abbrev pub frame_of : List ℕ → Frame
frame_of name = record { listing = (name, kind.Dir) ∷ []; place = 0 }

-- the frame of a directory that lists one file, before it
abbrev pub frame_of_file : List ℕ → Frame
frame_of_file name = record { listing = (name, kind.File) ∷ []; place = 0 }

-- at the site `ab/c` of the store of one object, and in its object, before its file
abbrev pub at_site : Held
at_site = with_trail nothing_held (frame_of (codes "obj") ∷ frame_of (codes "c") ∷ frame_of (codes "ab") ∷ [])

-- the trail stands at the object's file
abbrev pub at_file : Held
at_file = with_trail nothing_held
    (frame_of_file (codes "a.txt") ∷ frame_of (codes "obj") ∷ frame_of (codes "c")
    ∷ frame_of (codes "ab") ∷ [])

-- the object, with no tuples
abbrev pub object_abc_under_way : Object
object_abc_under_way =
    record { id = codes "abc"; place = codes "abc" ∷ []; gathered = false; site = 3; empty = 0 }

-- the first turns of the store of one object in its object: it is found to be new, entered, and its file is opened and read
abbrev pub OneObjectTurns : Type 0
OneObjectTurns =
    Leads flat_job phase.Judge at_site (does (Finds (storage_root ++ codes "abc" ∷ []) None))
    (phase.Carrying object_abc_under_way stage.Open) at_site
    × Leads flat_job (phase.Carrying object_abc_under_way stage.Open) at_site
    (asks (Lists (codes "pairtree_root" ∷ codes "ab" ∷ codes "c" ∷ codes "obj" ∷ [])
    ((codes "a.txt", kind.File) ∷ []))) (phase.Carrying object_abc_under_way stage.Scan) at_file
    × Leads flat_job (phase.Carrying object_abc_under_way stage.Scan) at_file
    (asks (Opens
    (codes "pairtree_root" ∷ codes "ab" ∷ codes "c" ∷ codes "obj" ∷ codes "a.txt" ∷ [])))
    (phase.Carrying object_abc_under_way (stage.Read 0)) at_file
    × Leads flat_job (phase.Carrying object_abc_under_way (stage.Read 0)) at_file (asks (Reads (codes "abc")))
    (phase.Carrying object_abc_under_way (stage.Read 3)) (with_fed at_file (codes "abc"))
