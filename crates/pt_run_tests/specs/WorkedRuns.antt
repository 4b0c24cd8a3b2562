-- What the definitions give of the worked stores.
use Rattle.std.specs.List.{list_all}
use Rattle.std.specs.Prelude.{◌≡◌, ◌++◌, Bool, true, false, [], ◌∷◌, codes, map, replicate, is_some, None, Some}
use Rattle.pt_name.specs.Place.{place_of}
use Rattle.pt_object.specs.Root.{root_of}
use Rattle.pt_object.specs.RootFiles.{layout_text}
use Rattle.pt_tree.specs.Forest.{Forest, none, file, other, dir}
use Rattle.pt_tree.specs.Tree.{Bytes, Entry, Folder, Tree, put}
use Rattle.pt_walk.specs.Limits.{greatest_limits}
use Rattle.pt_walk.specs.declared.cause.Cause.{Cause}
use Rattle.pt_walk.specs.declared.cause.Cause.TheVariants as cause
use Rattle.pt_plan.specs.Bound.{bound}
use Rattle.pt_plan.specs.Carried.{IsUsable, after_all, all_carried, is_way_free}
use Rattle.pt_plan.specs.Items.{Interior, Item, Named, items}
use Rattle.pt_plan.specs.Job.{Job}
use Rattle.pt_plan.specs.Lines.{Done, Present, Skipped, all_lines, is_done, log_of}
use Rattle.pt_plan.specs.Store.{has_prefix, is_store, prefix_of}
use Rattle.pt_plan.specs.Work.{work}
use Rattle.pt_run_tests.specs.WorkedStores.{
  at_abc,
  deep_store,
  divided_store,
  empty_store,
  flat_job,
  gathering_job,
  limited_job,
  no_root,
  object_abc,
  one_dir,
  one_file,
  prefixed_store,
  store,
  store_of_bad_names,
  store_of_equal_contents,
  store_of_extensions,
  store_of_nested_sites,
  store_of_one_identifier,
  store_of_one_object,
  store_of_strays,
  store_of_two_depths,
  store_to_gather,
  worked_job,
}

-- a lenient start: a version file and the directory are enough; what isn't a prefix is told, and none is read
abbrev pub StoresAreKnown : Type 0
StoresAreKnown =
    (is_store empty_store ≡ true)
    × (is_store (one_dir (codes "pairtree_root") none) ≡ false)
    × (is_store (one_file (codes "pairtree_version0_1") []) ≡ false)
    × (has_prefix empty_store ≡ true)
    × (prefix_of empty_store ≡ [])
    × (has_prefix (prefixed_store (codes "a\n")) ≡ true)
    × (prefix_of (prefixed_store (codes "a\n")) ≡ codes "a")
    × (has_prefix (prefixed_store (replicate 1025 97)) ≡ false)
    × (prefix_of (prefixed_store (replicate 1025 97)) ≡ [])
    × (has_prefix (prefixed_store (255 ∷ [])) ≡ false)
    × (prefix_of (prefixed_store (255 ∷ [])) ≡ [])
    × (has_prefix (dir (codes "pairtree_prefix") none empty_store) ≡ false)
    × (prefix_of (dir (codes "pairtree_prefix") none empty_store) ≡ [])

-- the verdicts on the store of one object: two directories only lead on, the third has the object
abbrev pub OneObjectIsNamed : Type 0
OneObjectIsNamed =
    map (λ (item : Item). item.verdict) (items worked_job store_of_one_object)
    ≡ Interior
    ∷ Interior
    ∷ Named (codes "abc")
    (record { at = codes "ab" ∷ codes "c" ∷ codes "obj" ∷ []; gathered = false; inside = one_file (codes "a.txt") (codes "abc") })
    ∷ []

-- the identifier begins with the prefix
abbrev pub PrefixIsRead : Type 0
PrefixIsRead =
    map (λ (item : Item). item.verdict) (items worked_job (prefixed_store (codes "a\n")))
    ≡ Interior
    ∷ Named (codes "abc")
    (record { at = codes "bc" ∷ codes "abc" ∷ []; gathered = false; inside = one_file (codes "a.txt") (codes "abc") })
    ∷ []

-- the empty store has no lines
abbrev pub EmptyStoreLog : Type 0
EmptyStoreLog = log_of worked_job empty_store no_root
    ≡ codes "{\"as\":\"end\",\"done\":0,\"present\":0,\"skip\":0}\n"

-- what stands beside a pairtree's paths is passed over
abbrev pub StraysLog : Type 0
StraysLog =
    log_of worked_job store_of_strays no_root
    ≡ codes "{\"as\":\"skip\",\"at\":\"\",\"cause\":\"root\"}\n{\"as\":\"skip\",\"at\":\"a/bc\",\"cause\":\"past\"}\n{\"as\":\"skip\",\"at\":\"de\",\"cause\":\"empty\"}\n{\"as\":\"end\",\"done\":0,\"present\":0,\"skip\":3}\n"

-- so are sites whose names read no text
abbrev pub BadNamesLog : Type 0
BadNamesLog =
    log_of worked_job store_of_bad_names no_root
    ≡ codes "{\"as\":\"skip\",\"at\":\"^f/f\",\"cause\":\"utf8\"}\n{\"as\":\"skip\",\"at\":\"a^/2\",\"cause\":\"name\"}\n{\"as\":\"end\",\"done\":0,\"present\":0,\"skip\":2}\n"

-- and divided sites, which is also one with a single special entry
abbrev pub DividedLog : Type 0
DividedLog =
    (all_lines worked_job divided_store no_root ≡ Skipped (codes "ab" ∷ codes "c" ∷ []) cause.Split ∷ [])
    × (all_lines worked_job (at_abc (other (codes "special") none)) no_root
    ≡ Skipped (codes "ab" ∷ codes "c" ∷ []) cause.Split ∷ [])

-- the place of the root's own extensions is reserved
abbrev pub ExtensionsLog : Type 0
ExtensionsLog =
    log_of flat_job store_of_extensions no_root
    ≡ codes "{\"as\":\"skip\",\"at\":\"ex/te/ns/io/ns\",\"cause\":\"reserved\"}\n{\"as\":\"end\",\"done\":0,\"present\":0,\"skip\":1}\n"

-- with no tuples the place is the encoded identifier
abbrev pub OneObjectFlatLog : Type 0
OneObjectFlatLog =
    log_of flat_job store_of_one_object no_root
    ≡ codes "{\"as\":\"done\",\"at\":\"ab/c/obj\",\"bytes\":3,\"empty\":0,\"files\":1,\"id\":\"abc\",\"to\":\"abc\"}\n{\"as\":\"end\",\"done\":1,\"present\":0,\"skip\":0}\n"

-- of two sites with one identifier the second is present
abbrev pub OneIdentifierFlatLog : Type 0
OneIdentifierFlatLog =
    log_of flat_job store_of_one_identifier no_root
    ≡ codes "{\"as\":\"done\",\"at\":\"^6/1b/c/one\",\"bytes\":3,\"empty\":0,\"files\":1,\"id\":\"abc\",\"to\":\"abc\"}\n{\"as\":\"present\",\"at\":\"ab/c/two\",\"id\":\"abc\",\"to\":\"abc\"}\n{\"as\":\"end\",\"done\":1,\"present\":1,\"skip\":0}\n"

-- the site of the store of one object is passed over for this cause
abbrev pub IsPassedOver : Job → Forest → Cause → Type 0
IsPassedOver job source why = all_lines job source no_root ≡ Skipped (codes "ab" ∷ codes "c" ∷ []) why ∷ []

-- the first bad entry gives the cause: what is neither file nor directory, or one file too many, whichever comes first
abbrev pub FirstBadEntryCounts : Type 0
FirstBadEntryCounts =
    IsPassedOver worked_job (object_abc (other (codes "m") none)) cause.Other
    × IsPassedOver (limited_job (record greatest_limits { files = 1 }))
    (object_abc (file (codes "a") []
    (file (codes "b") [] (other (codes "z") none)))) cause.Limit
    × IsPassedOver (limited_job (record greatest_limits { files = 1 }))
    (object_abc (file (codes "a") []
    (other (codes "aa") (file (codes "b") [] none)))) cause.Other

-- a length at its limit is carried, and one above it isn't
abbrev pub LengthsAreLimited : Type 0
LengthsAreLimited =
    IsPassedOver (limited_job (record greatest_limits { file_bytes = 8192 }))
    (object_abc (one_file (codes "f") (replicate 8193 97))) cause.Limit
    × (all_lines (record flat_job { limits = record greatest_limits { file_bytes = 8192 } })
    (object_abc (one_file (codes "f") (replicate 8192 97))) no_root
    ≡ Done (codes "ab" ∷ codes "c" ∷ codes "obj" ∷ []) 8192 0 1 (codes "abc") (codes "abc" ∷ []) ∷ [])
    × IsPassedOver (limited_job (record greatest_limits { path_bytes = 3 }))
    (object_abc (one_dir (codes "a") (one_file (codes "bc") []))) cause.Limit
    × (all_lines (record flat_job { limits = record greatest_limits { path_bytes = 3 } })
    (object_abc (one_dir (codes "a") (one_file (codes "b") []))) no_root
    ≡ Done (codes "ab" ∷ codes "c" ∷ codes "obj" ∷ []) 0 0 1 (codes "abc") (codes "abc" ∷ []) ∷ [])

-- an object's directory that is too deep is passed over at its site, and a site that is too deep at itself
abbrev pub DepthsAreLimited : Type 0
DepthsAreLimited =
    (all_lines (limited_job (record greatest_limits { depth = 2 })) store_of_two_depths no_root
    ≡ Skipped (codes "ab" ∷ codes "cd" ∷ []) cause.Limit
    ∷ Skipped (codes "ab" ∷ codes "cd" ∷ codes "ef" ∷ []) cause.Limit ∷ [])
    × IsPassedOver (limited_job
    (record { files = 1; path_bytes = 1; depth = 1; file_bytes = 1; turns = 1 }))
    store_of_one_object cause.Limit

-- an object without files is carried, and its empty directories are counted
abbrev pub EmptyDirectoriesAreCounted : Type 0
EmptyDirectoriesAreCounted =
    (all_lines flat_job (object_abc (one_dir (codes "e") none)) no_root
    ≡ Done (codes "ab" ∷ codes "c" ∷ codes "obj" ∷ []) 0 1 0 (codes "abc") (codes "abc" ∷ []) ∷ [])
    × (all_lines flat_job (object_abc none) no_root
    ≡ Done (codes "ab" ∷ codes "c" ∷ codes "obj" ∷ []) 0 1 0 (codes "abc") (codes "abc" ∷ []) ∷ [])

-- divided sites are carried whole, but for their shorties, which are walked as before
abbrev pub DividedSitesAreGathered : Type 0
DividedSitesAreGathered =
    (all_lines (record flat_job { gather = true }) divided_store no_root
    ≡ Done (codes "ab" ∷ codes "c" ∷ []) 3 0 2 (codes "abc") (codes "abc" ∷ []) ∷ [])
    × (all_lines (record flat_job { gather = true }) store_to_gather no_root
    ≡ Done (codes "ab" ∷ codes "cd" ∷ []) 3 0 1 (codes "abcd") (codes "abcd" ∷ [])
    ∷ Done (codes "ab" ∷ codes "cd" ∷ codes "ef" ∷ []) 0 0 1 (codes "abcdef") (codes "abcdef" ∷ [])
    ∷ [])
    × IsPassedOver gathering_job (at_abc (other (codes "special") none)) cause.Other
    × (all_lines gathering_job (store (one_file (codes "readme") [])) no_root ≡ Skipped [] cause.Root ∷ [])
    × (items gathering_job store_of_one_object ≡ items worked_job store_of_one_object)

-- the root after the store of one object, with no tuples: the object at its place, the root's files, and nothing else beside them
abbrev pub OneObjectStands : Tree → Type 0
OneObjectStands root =
    (root [] ≡ Some Folder)
    × (root (codes "0=ocfl_1.1" ∷ []) ≡ Some (Bytes (codes "ocfl_1.1\n")))
    × (root (codes "abc" ∷ []) ≡ Some Folder)
    × (root (codes "abc" ∷ codes "0=ocfl_object_1.1" ∷ []) ≡ Some (Bytes (codes "ocfl_object_1.1\n")))
    × (root (codes "abc" ∷ codes "v1" ∷ codes "content" ∷ []) ≡ Some Folder)
    × (root (codes "abc" ∷ codes "v1" ∷ codes "content" ∷ codes "a.txt" ∷ []) ≡ Some (Bytes (codes "abc")))
    × (root (codes "abc" ∷ codes "a.txt" ∷ []) ≡ None)
    × (root (codes "abcd" ∷ []) ≡ None)

-- so it is after a first run
abbrev pub OneObjectIsCarried : Type 0
OneObjectIsCarried = OneObjectStands (after_all flat_job store_of_one_object no_root)

-- a second run over that root carries nothing
abbrev pub SecondRunCarriesNothing : Type 0
SecondRunCarriesNothing =
    (all_lines flat_job store_of_one_object (after_all flat_job store_of_one_object no_root)
    ≡ Present (codes "ab" ∷ codes "c" ∷ codes "obj" ∷ []) (codes "abc") (codes "abc" ∷ []) ∷ [])
    × OneObjectStands
    (after_all flat_job store_of_one_object (after_all flat_job store_of_one_object no_root))

-- the turns of some runs, at most: for these two it is what they take
abbrev pub WorkOfFirstRuns : Type 0
WorkOfFirstRuns = (work worked_job empty_store no_root ≡ 15)
    × (work worked_job store_of_one_object no_root ≡ 43)

-- where something stands at the object's place
abbrev pub WorkOfSecondRun : Type 0
WorkOfSecondRun = (root : Tree) → is_some (root (place_of worked_job.tuples (codes "abc"))) ≡ true
    → work worked_job store_of_one_object root ≡ 22

-- with other tuples
abbrev pub WorkWithOtherTuples : Type 0
WorkWithOtherTuples =
    (work (record worked_job { tuples = record { size = 2; count = 4 } }) store_of_one_object no_root ≡ 44)
    × (work flat_job store_of_one_object no_root ≡ 40)

-- where nothing is carried: the place is reserved; the site is too deep
abbrev pub WorkOfSkips : Type 0
WorkOfSkips =
    (work flat_job store_of_extensions no_root ≡ 31)
    × (work (limited_job
    (record { files = 1; path_bytes = 1; depth = 1; file_bytes = 1; turns = 1 }))
    store_of_one_object no_root ≡ 19)

-- where a divided site is gathered
abbrev pub WorkOfGathering : Type 0
WorkOfGathering = work gathering_job divided_store no_root ≡ 53

-- the records that are held at most
abbrev pub BoundOfEqualContents : Type 0
BoundOfEqualContents = bound worked_job store_of_equal_contents ≡ 12

-- where a divided site is gathered
abbrev pub BoundOfGathering : Type 0
BoundOfGathering = bound gathering_job divided_store ≡ 9

-- where nothing is listed
abbrev pub BoundOfEmptyStore : Type 0
BoundOfEmptyStore = bound worked_job empty_store ≡ 0

-- the log of the store of one object, its place computed
abbrev pub OneObjectLog : Type 0
OneObjectLog =
    log_of worked_job store_of_one_object no_root
    ≡ codes "{\"as\":\"done\",\"at\":\"ab/c/obj\",\"bytes\":3,\"empty\":0,\"files\":1,\"id\":\"abc\",\"to\":\"ba7/816/bf8/abc\"}\n{\"as\":\"end\",\"done\":1,\"present\":0,\"skip\":0}\n"

-- equal contents are counted each time, and a site's own object comes before those below it
abbrev pub LinesComeInOrder : Type 0
LinesComeInOrder =
    (all_lines flat_job store_of_equal_contents no_root
    ≡ Done (codes "ab" ∷ codes "cd" ∷ codes "obj" ∷ []) 6 0 3 (codes "abcd") (codes "abcd" ∷ [])
    ∷ [])
    × (all_lines flat_job store_of_nested_sites no_root
    ≡ Done (codes "ab" ∷ codes "cd" ∷ codes "abcd" ∷ []) 3 0 1 (codes "abcd") (codes "abcd" ∷ [])
    ∷ Done (codes "ab" ∷ codes "cd" ∷ codes "e" ∷ codes "abcde" ∷ []) 0 0 1 (codes "abcde")
    (codes "abcde" ∷ [])
    ∷ [])

-- an identifier that is a line feed
abbrev pub LineFeedLog : Type 0
LineFeedLog =
    log_of flat_job
    (store (one_dir (codes "^0")
    (one_dir (codes "a") (one_dir (codes "obj") (one_file (97 ∷ 1 ∷ 98 ∷ []) []))))) no_root
    ≡ codes "{\"as\":\"done\",\"at\":\"^0/a/obj\",\"bytes\":0,\"empty\":0,\"files\":1,\"id\":\"\\n\",\"to\":\"%0a\"}\n{\"as\":\"end\",\"done\":1,\"present\":0,\"skip\":0}\n"

-- a taken place is told before a cause against the object, which then isn't looked at
abbrev pub PresentComesFirst : Type 0
PresentComesFirst =
    all_lines flat_job (object_abc (file (codes "a.txt") (codes "abc") (other (codes "m") none)))
    (after_all flat_job store_of_one_object no_root)
    ≡ Present (codes "ab" ∷ codes "c" ∷ codes "obj" ∷ []) (codes "abc") (codes "abc" ∷ []) ∷ []

-- a new root, with this at the first tuple of the place of `abc`
abbrev pub root_with : Entry → Tree
root_with entry = put (root_of worked_job.tuples) (codes "ba7" ∷ []) entry

-- the way to each place of the store of one object is free
abbrev pub are_ways_free : Tree → Bool
are_ways_free root = list_all (is_way_free worked_job root) (all_carried worked_job store_of_one_object root)

-- the way to the place of `abc` is free over a new root, and where its first tuple is a folder, but not where that is a file
abbrev pub WaysAreTold : Type 0
WaysAreTold = (are_ways_free (root_of worked_job.tuples) ≡ true)
    × (are_ways_free (root_with Folder) ≡ true) × (are_ways_free (root_with (Bytes [])) ≡ false)

-- in a chain of 600 the object's directory is too deep, in one of 601 the last site; in one of 599 the object is carried
abbrev pub DepthsOfChains : Type 0
DepthsOfChains =
    (all_lines worked_job (deep_store 600) no_root ≡ Skipped (replicate 600 (codes "ab")) cause.Limit ∷ [])
    × (all_lines worked_job (deep_store 601) no_root ≡ Skipped (replicate 601 (codes "ab")) cause.Limit ∷ [])
    × (map is_done (all_lines worked_job (deep_store 599) no_root) ≡ true ∷ [])

-- with one line feed more at the end of the file that describes the layout
abbrev pub altered_root : Tree
altered_root = put (root_of worked_job.tuples) (codes "ocfl_layout.json" ∷ [])
    (Bytes (layout_text ++ 10 ∷ []))

-- a new root is usable, and not one of another layout, nor one with other bytes in a root file, nor one with a file in the way
abbrev pub UsableRootsAreTold : Type 0
UsableRootsAreTold =
    IsUsable worked_job store_of_one_object (root_of worked_job.tuples)
    × ¬ (IsUsable flat_job store_of_one_object (root_of worked_job.tuples))
    × ¬ (IsUsable worked_job store_of_one_object altered_root)
    × ¬ (IsUsable worked_job store_of_one_object (root_with (Bytes [])))
