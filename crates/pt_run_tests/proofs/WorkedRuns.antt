-- The worked stores, computed.
use Rattle.std.proofs.Common.{refl, arith, ap, ℕ, ◌≡◌, List, []}
use Rattle.std.specs.Str.{chars, is_utf8, bytes_eq}
use Rattle.std.specs.Fmt.{digits}
use Rattle.std.specs.Prelude.{Bool, true, false, Option, None, Some}
use lib.Utf8.{encode}
use Rattle.hex.specs.Hex.{encode_with}
use Rattle.serde_json.proofs.OnLiterals.{serde_json_on_literals}
use Rattle.sha2.specs.Sha512.{compress, digest_bytes, first_words, hash_after, rounds, schedule, sha512}
use Rattle.sha2.specs.Sha256 as short
use Rattle.pt_name.specs.Share.{digest_number}
use Rattle.pt_object.specs.Root.{root_of}
use Rattle.pt_object.specs.RootFiles.{config_text, layout_text}
use Rattle.pt_tree.specs.Tree.{Entry, bytes_of}
use Rattle.pt_plan.specs.Carried.{IsUsable}
use Rattle.pt_plan.proofs.LaterRoots.{new_root_files}
use Rattle.pt_run_tests.specs.WorkedStores.{flat_job, store_of_one_object, worked_job}
use Rattle.pt_run_tests.specs.WorkedRuns.{
  UsableRootsAreTold,
  WorkOfSkips,
  altered_root,
  BadNamesLog,
  DividedLog,
  EmptyStoreLog,
  ExtensionsLog,
  OneIdentifierFlatLog,
  OneObjectFlatLog,
  OneObjectIsNamed,
  PrefixIsRead,
  StoresAreKnown,
  StraysLog,
  FirstBadEntryCounts,
  LengthsAreLimited,
  DepthsAreLimited,
  EmptyDirectoriesAreCounted,
  DividedSitesAreGathered,
  OneObjectIsCarried,
  WorkOfFirstRuns,
  WorkWithOtherTuples,
  BoundOfEmptyStore,
  SecondRunCarriesNothing,
  WorkOfSecondRun,
  WorkOfGathering,
  BoundOfEqualContents,
  BoundOfGathering,
  OneObjectLog,
  LinesComeInOrder,
  LineFeedLog,
  PresentComesFirst,
  WaysAreTold,
  DepthsOfChains,
}

pub stores_are_known : StoresAreKnown
unfolding is_utf8 chars encode short.first_words short.schedule short.rounds short.compress short.hash_after short.digest_bytes short.sha256 digest_number
stores_are_known = (refl, refl, refl, refl, refl, refl, refl, refl, refl, refl, refl, refl, refl)

pub one_object_is_named : OneObjectIsNamed
unfolding is_utf8 chars encode short.first_words short.schedule short.rounds short.compress short.hash_after short.digest_bytes short.sha256 digest_number
one_object_is_named = refl

pub prefix_is_read : PrefixIsRead
unfolding is_utf8 chars encode short.first_words short.schedule short.rounds short.compress short.hash_after short.digest_bytes short.sha256 digest_number
prefix_is_read = refl

pub empty_store_log : EmptyStoreLog
unfolding is_utf8 chars encode digits serde_json_on_literals short.first_words short.schedule short.rounds short.compress short.hash_after short.digest_bytes
    short.sha256 digest_number
empty_store_log = refl

pub strays_log : StraysLog
unfolding is_utf8 chars encode digits serde_json_on_literals short.first_words short.schedule short.rounds short.compress short.hash_after short.digest_bytes
    short.sha256 digest_number
strays_log = refl

pub bad_names_log : BadNamesLog
unfolding is_utf8 chars encode digits serde_json_on_literals short.first_words short.schedule short.rounds short.compress short.hash_after short.digest_bytes
    short.sha256 digest_number
bad_names_log = refl

pub divided_log : DividedLog
divided_log = (refl, refl)

pub extensions_log : ExtensionsLog
unfolding is_utf8 chars encode digits serde_json_on_literals short.first_words short.schedule short.rounds short.compress short.hash_after short.digest_bytes
    short.sha256 digest_number
extensions_log = refl

pub one_object_flat_log : OneObjectFlatLog
unfolding is_utf8 chars encode digits serde_json_on_literals short.first_words short.schedule short.rounds short.compress short.hash_after short.digest_bytes
    short.sha256 digest_number
one_object_flat_log = refl

pub one_identifier_flat_log : OneIdentifierFlatLog
unfolding is_utf8 chars encode digits serde_json_on_literals short.first_words short.schedule short.rounds short.compress short.hash_after short.digest_bytes
    short.sha256 digest_number
one_identifier_flat_log = refl

pub first_bad_entry_counts : FirstBadEntryCounts
unfolding is_utf8 chars encode short.first_words short.schedule short.rounds short.compress short.hash_after short.digest_bytes short.sha256 digest_number
first_bad_entry_counts = (refl, refl, refl)

pub lengths_are_limited : LengthsAreLimited
unfolding is_utf8 chars encode short.first_words short.schedule short.rounds short.compress short.hash_after short.digest_bytes short.sha256 digest_number
lengths_are_limited = (refl, refl, refl, refl)

pub depths_are_limited : DepthsAreLimited
unfolding is_utf8 chars encode short.first_words short.schedule short.rounds short.compress short.hash_after short.digest_bytes short.sha256 digest_number
depths_are_limited = (refl, refl)

pub empty_directories_are_counted : EmptyDirectoriesAreCounted
unfolding is_utf8 chars encode short.first_words short.schedule short.rounds short.compress short.hash_after short.digest_bytes short.sha256 digest_number
empty_directories_are_counted = (refl, refl)

pub divided_sites_are_gathered : DividedSitesAreGathered
unfolding is_utf8 chars encode short.first_words short.schedule short.rounds short.compress short.hash_after short.digest_bytes short.sha256 digest_number
divided_sites_are_gathered = (refl, refl, refl, refl, refl)

pub one_object_is_carried : OneObjectIsCarried
unfolding is_utf8 chars encode short.first_words short.schedule short.rounds short.compress short.hash_after short.digest_bytes short.sha256 digest_number
one_object_is_carried = (refl, refl, refl, refl, refl, refl, refl, refl)

pub work_of_first_runs : WorkOfFirstRuns
unfolding is_utf8 chars encode short.first_words short.schedule short.rounds short.compress short.hash_after short.digest_bytes short.sha256 digest_number
work_of_first_runs = (refl, refl)

pub work_with_other_tuples : WorkWithOtherTuples
unfolding is_utf8 chars encode short.first_words short.schedule short.rounds short.compress short.hash_after short.digest_bytes short.sha256 digest_number
work_with_other_tuples = (refl, refl)

pub bound_of_empty_store : BoundOfEmptyStore
unfolding is_utf8 chars encode short.first_words short.schedule short.rounds short.compress short.hash_after short.digest_bytes short.sha256 digest_number
bound_of_empty_store = refl

pub second_run_carries_nothing : SecondRunCarriesNothing
unfolding is_utf8 chars encode short.first_words short.schedule short.rounds short.compress short.hash_after short.digest_bytes short.sha256 digest_number
second_run_carries_nothing = (refl, (refl, refl, refl, refl, refl, refl, refl, refl))

pub work_of_second_run : WorkOfSecondRun
unfolding is_utf8 chars encode short.first_words short.schedule short.rounds short.compress short.hash_after short.digest_bytes short.sha256 digest_number
work_of_second_run root h = rw h refl

pub work_of_gathering : WorkOfGathering
unfolding is_utf8 chars encode first_words schedule rounds compress hash_after digest_bytes sha512 short.first_words short.schedule short.rounds short.compress
    short.hash_after short.digest_bytes short.sha256 digest_number
work_of_gathering = refl

pub bound_of_equal_contents : BoundOfEqualContents
unfolding is_utf8 chars encode first_words schedule rounds compress hash_after digest_bytes sha512 short.first_words short.schedule short.rounds short.compress
    short.hash_after short.digest_bytes short.sha256 digest_number
bound_of_equal_contents = refl

pub bound_of_gathering : BoundOfGathering
unfolding is_utf8 chars encode first_words schedule rounds compress hash_after digest_bytes sha512 short.first_words short.schedule short.rounds short.compress
    short.hash_after short.digest_bytes short.sha256 digest_number
bound_of_gathering = refl

pub one_object_log : OneObjectLog
unfolding is_utf8 chars encode digits serde_json_on_literals short.first_words short.schedule short.rounds short.compress short.hash_after short.digest_bytes
    short.sha256 encode_with digest_number
one_object_log = refl

pub lines_come_in_order : LinesComeInOrder
unfolding is_utf8 chars encode short.first_words short.schedule short.rounds short.compress short.hash_after short.digest_bytes short.sha256 digest_number
lines_come_in_order = (refl, refl)

pub line_feed_log : LineFeedLog
unfolding is_utf8 chars encode digits serde_json_on_literals short.first_words short.schedule short.rounds short.compress short.hash_after short.digest_bytes
    short.sha256 digest_number
line_feed_log = refl

pub present_comes_first : PresentComesFirst
unfolding is_utf8 chars encode short.first_words short.schedule short.rounds short.compress short.hash_after short.digest_bytes short.sha256 digest_number
present_comes_first = refl

pub ways_are_told : WaysAreTold
unfolding is_utf8 chars encode short.first_words short.schedule short.rounds short.compress short.hash_after short.digest_bytes short.sha256 encode_with
    digest_number
ways_are_told = (refl, refl, refl)

pub depths_of_chains : DepthsOfChains
unfolding is_utf8 chars encode short.first_words short.schedule short.rounds short.compress short.hash_after short.digest_bytes short.sha256 digest_number
depths_of_chains = (refl, refl, refl)

pub work_of_skips : WorkOfSkips
unfolding is_utf8 chars encode short.first_words short.schedule short.rounds short.compress short.hash_after short.digest_bytes short.sha256 digest_number
work_of_skips = (refl, refl)

-- the file is there and holds these bytes
holds : List ℕ → Option Entry → Bool
holds bytes entry = is_held (bytes_of entry)
  where
    is_held : Option (List ℕ) → Bool
    is_held None = false
    is_held (Some held) = bytes_eq held bytes

apart : false ≡ true → ⊥
apart e = absurd (cc)

other_config : ¬ (IsUsable flat_job store_of_one_object (root_of worked_job.tuples))
unfolding holds digits
other_config usable = apart (ap (holds (config_text flat_job.tuples)) (usable.files 2 ([], []) (omega arith)))

other_description : ¬ (IsUsable worked_job store_of_one_object altered_root)
unfolding holds digits
other_description usable = apart (ap (holds layout_text) (usable.files 1 ([], []) (omega arith)))

pub usable_roots_are_told : UsableRootsAreTold
unfolding is_utf8 chars encode short.first_words short.schedule short.rounds short.compress short.hash_after short.digest_bytes short.sha256 encode_with
    digest_number
usable_roots_are_told =
    (record { files = new_root_files worked_job.tuples; ways = refl }, other_config, other_description, λ usable. apart usable.ways)
