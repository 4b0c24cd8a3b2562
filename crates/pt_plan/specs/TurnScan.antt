-- The turns of the scan of an object: each of its files is read once, for its digest and its length.
use Rattle.std.specs.Prelude.{
  ◌≡◌,
  ℕ,
  ◌+◌,
  ◌-◌,
  ◌==◌,
  ◌&&◌,
  ◌||◌,
  Bool,
  true,
  false,
  cond,
  nat_le,
  nat_lt,
  not,
  List,
  [],
  ◌∷◌,
  ◌++◌,
  drop,
  length,
  take,
  None,
  Some,
  Ok,
}
use Rattle.pt_object.specs.Algorithm.{digest_of}
use Rattle.pt_object.specs.Contents.{noted}
use Rattle.pt_object.specs.Rows.{row_of}
use Rattle.pt_tree.specs.Listing.{Item}
use Rattle.pt_tree.specs.Path.{Path, joined}
use Rattle.pt_tree.specs.declared.kind.Kind.TheVariants as kind
use Rattle.pt_walk.specs.Site.{is_shorty}
use Rattle.pt_walk.specs.Trail.{advanced, current_entry, entered, names_to, parent, sought, trail_path}
use Rattle.pt_walk.specs.declared.cause.Cause.{Cause}
use Rattle.pt_walk.specs.declared.cause.Cause.TheVariants as cause
use Rattle.pt_walk.specs.declared.frame.Frame.{Frame}
use Rattle.pt_plan.specs.Answer.{Answer}
use Rattle.pt_plan.specs.Job.{Job}
use Rattle.pt_plan.specs.Lines.{Line, Skipped}
use Rattle.pt_plan.specs.Run.{Held, with_fed, with_trail}
use Rattle.pt_plan.specs.TurnWalk.{in_pairtree}
use Rattle.pt_plan.specs.DeviceStates.{Calls, Lists, Opens, Reads, asks, no_calls, tells}
use Rattle.pt_plan.specs.DeviceStates as call
use Rattle.pt_plan.specs.declared.object.Object.{Object}
use Rattle.pt_plan.specs.declared.phase.Part.TheVariants as part
use Rattle.pt_plan.specs.declared.phase.Phase.{Phase}
use Rattle.pt_plan.specs.declared.phase.Phase.TheVariants as phase
use Rattle.pt_plan.specs.declared.phase.Stage.TheVariants as stage

-- ---- where the run stands in an object

-- the trail as far as the object's site
abbrev pub to_site : Object → List Frame → List Frame
to_site object trail = drop (length trail - object.site) trail

-- how many listings of the trail are the object's own; the site's is one, if it is gathered
abbrev pub own_listings : Object → List Frame → ℕ
own_listings object trail = cond object.gathered (length trail - object.site + 1) (length trail - object.site)

-- the logical path of the entry at the innermost place
abbrev pub logical_path : Object → List Frame → Path
logical_path object trail = names_to (take (own_listings object trail) trail)

-- the innermost listing is the site's
abbrev pub is_in_site : Object → List Frame → Bool
is_in_site object trail = length trail == object.site

-- a shorty of the site of a gathered object isn't of the object
abbrev pub is_passed : Object → List Frame → Item → Bool
is_passed object trail item = is_in_site object trail && is_shorty item

-- the innermost listing is that of the directory that encapsulates the object
abbrev pub is_own_directory : Object → List Frame → Bool
is_own_directory object trail = not object.gathered && (length (parent trail) == object.site)

-- 1 for a directory without entries
abbrev pub none_listed : List Item → ℕ
none_listed [] = 1
none_listed (item ∷ items) = 0

-- with a directory more that lists these entries
abbrev pub with_directory : Object → List Item → Object
with_directory object items = record object { empty = object.empty + none_listed items }

-- a file more is too many, or its logical path too long
abbrev pub is_beyond : Job → Held → Path → Bool
is_beyond job held path =
    nat_le job.limits.files (length held.rows)
    || nat_lt job.limits.path_bytes (length (joined path))

-- the run stands at its site again, and holds nothing of the object
abbrev pub back_at_site : Object → Held → Held
back_at_site object held =
    record held { trail = sought 0 (to_site object held.trail); rows = []; contents = [] }

-- the object is passed over at its site
abbrev pub skipped : Object → Held → Cause → Line
skipped object held why = Skipped (trail_path (to_site object held.trail)) why

-- with the file at the innermost place, of this length and read to its end
abbrev pub with_file : Job → Object → Held → ℕ → Held
with_file job object held bytes = record {
  trail = advanced held.trail;
  rows = held.rows ++ row_of (logical_path object held.trail) (digest_of job.algorithm held.fed) bytes ∷ [];
  contents = noted held.contents (digest_of job.algorithm held.fed) (logical_path object held.trail);
  fed = [];
}

-- ---- the turns

-- from the phase and what is held to what is held after, with the calls and the answer
pub data ScanStep (job : Job) : Phase → Held → Held → Calls → Answer → Type 0 where
  -- a gathered object starts in its site
  StartsInSite : (held : Held) (object : Object) → object.gathered ≡ true
      → ScanStep job (phase.Carrying object stage.Open) held (with_trail held (sought 0 held.trail)) no_calls
      (Ok (phase.Carrying object stage.Scan))
  -- any other in its directory, which is listed and entered
  EntersObject : (held : Held) (object : Object) (items : List Item) → object.gathered ≡ false
      → nat_lt job.limits.depth (length held.trail) ≡ false
      → ScanStep job (phase.Carrying object stage.Open) held (with_trail held (entered items held.trail))
      (asks (Lists (in_pairtree (names_to held.trail)) items))
      (Ok (phase.Carrying (with_directory object items) stage.Scan))
  -- unless that is too deep
  IsTooDeep : (held : Held) (object : Object) → object.gathered ≡ false
      → nat_lt job.limits.depth (length held.trail) ≡ true
      → ScanStep job (phase.Carrying object stage.Open) held (back_at_site object held)
      (tells (skipped object held cause.Limit)) (Ok phase.Walk)
  -- a shorty of the site is passed
  PassesShorty : (held : Held) (object : Object) (item : Item)
      → current_entry held.trail ≡ Some item → is_passed object held.trail item ≡ true
      → ScanStep job (phase.Carrying object stage.Scan) held (with_trail held (advanced held.trail)) no_calls
      (Ok (phase.Carrying object stage.Scan))
  -- a directory is listed and entered
  EntersDirectory : (held : Held) (object : Object) (name : List ℕ) (items : List Item)
      → current_entry held.trail ≡ Some (name, kind.Dir)
      → is_passed object held.trail (name, kind.Dir) ≡ false
      → nat_lt job.limits.depth (length held.trail) ≡ false
      → ScanStep job (phase.Carrying object stage.Scan) held (with_trail held (entered items held.trail))
      (asks (Lists (in_pairtree (names_to held.trail)) items))
      (Ok (phase.Carrying (with_directory object items) stage.Scan))
  -- unless it is too deep
  MeetsDeep : (held : Held) (object : Object) (name : List ℕ)
      → current_entry held.trail ≡ Some (name, kind.Dir)
      → is_passed object held.trail (name, kind.Dir) ≡ false
      → nat_lt job.limits.depth (length held.trail) ≡ true
      → ScanStep job (phase.Carrying object stage.Scan) held (back_at_site object held)
      (tells (skipped object held cause.Limit)) (Ok phase.Walk)
  -- a file is opened
  OpensFile : (held : Held) (object : Object) (name : List ℕ)
      → current_entry held.trail ≡ Some (name, kind.File)
      → is_beyond job held (logical_path object held.trail) ≡ false
      → ScanStep job (phase.Carrying object stage.Scan) held (with_fed held [])
      (asks (Opens (in_pairtree (names_to held.trail)))) (Ok (phase.Carrying object (stage.Read 0)))
  -- unless there are too many, or its path is too long
  MeetsLimit : (held : Held) (object : Object) (name : List ℕ)
      → current_entry held.trail ≡ Some (name, kind.File)
      → is_beyond job held (logical_path object held.trail) ≡ true
      → ScanStep job (phase.Carrying object stage.Scan) held (back_at_site object held)
      (tells (skipped object held cause.Limit)) (Ok phase.Walk)
  -- what is neither file nor directory is a cause against the object
  MeetsOther : (held : Held) (object : Object) (name : List ℕ)
      → current_entry held.trail ≡ Some (name, kind.Other)
      → ScanStep job (phase.Carrying object stage.Scan) held (back_at_site object held)
      (tells (skipped object held cause.Other)) (Ok phase.Walk)
  -- at the end of its site a gathered object is made
  EndsSite : (held : Held) (object : Object) → current_entry held.trail ≡ None
      → is_in_site object held.trail ≡ true
      → ScanStep job (phase.Carrying object stage.Scan) held held no_calls (Ok (phase.Carrying object (stage.Make part.Staging)))
  -- and any other at the end of its directory, which is left
  EndsObject : (held : Held) (object : Object) → current_entry held.trail ≡ None
      → is_in_site object held.trail ≡ false → is_own_directory object held.trail ≡ true
      → ScanStep job (phase.Carrying object stage.Scan) held (with_trail held (parent held.trail)) no_calls
      (Ok (phase.Carrying object (stage.Make part.Staging)))
  -- at the end of any other directory the scan goes on behind it
  LeavesDirectory : (held : Held) (object : Object) → current_entry held.trail ≡ None
      → is_in_site object held.trail ≡ false → is_own_directory object held.trail ≡ false
      → ScanStep job (phase.Carrying object stage.Scan) held (with_trail held (advanced (parent held.trail))) no_calls
      (Ok (phase.Carrying object stage.Scan))
  -- a block of the file is read
  ReadsOn : (held : Held) (object : Object) (bytes byte : ℕ) (block : List ℕ)
      → nat_lt job.limits.file_bytes (bytes + length (byte ∷ block)) ≡ false
      → ScanStep job (phase.Carrying object (stage.Read bytes)) held (with_fed held (held.fed ++ byte ∷ block))
      (asks (Reads (byte ∷ block))) (Ok (phase.Carrying object (stage.Read (bytes + length (byte ∷ block)))))
  -- unless the file is too long
  IsTooLong : (held : Held) (object : Object) (bytes byte : ℕ) (block : List ℕ)
      → nat_lt job.limits.file_bytes (bytes + length (byte ∷ block)) ≡ true
      → ScanStep job (phase.Carrying object (stage.Read bytes)) held (back_at_site object held)
      (record {
        asked = Reads (byte ∷ block);
        change = call.ChangesNothing;
        line = Some (skipped object held cause.Limit);
      }) (Ok phase.Walk)
  -- at its end its row is noted
  EndsFile : (held : Held) (object : Object) (bytes : ℕ)
      → ScanStep job (phase.Carrying object (stage.Read bytes)) held (with_file job object held bytes) (asks (Reads []))
      (Ok (phase.Carrying object stage.Scan))
