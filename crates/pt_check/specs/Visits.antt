-- What a check does at the folders and entries of a store, one after another.
use Rattle.std.specs.Prelude.{◌≡◌, ◌<◌, ◌≤◌, ◌+◌, ◌-◌, ◌==◌, ◌||◌, ◌⊎◌, ℕ, Bool, true, false, cond}
use Rattle.std.specs.Prelude.{codes, drop, length, nat_lt, not, slice_get, take, List, [], ◌∷◌, ◌++◌, Option, None, Some}
use Rattle.std.specs.Io.KnownBytes.{Appends}
use Rattle.std.specs.List.{concat}
use Rattle.std.specs.Str.{bytes_eq, is_utf8}
use Rattle.pt_check.specs.Counting.{back_at, plus, with_entry, with_line, with_object_begun, with_opened, with_renamed, with_site}
use Rattle.pt_check.specs.Goes.{GoesBy}
use Rattle.pt_check.specs.Lines.{Line, End, Told, Unreadable, line_kind, line_text}
use Rattle.pt_check.specs.Prefix.{prefix_trouble}
use Rattle.pt_check.specs.Shares.{is_own_entry, is_own_in, is_own_way, is_walked, unmet_behind}
use Rattle.pt_check.specs.Width.{width_trouble}
use Rattle.pt_check.specs.Within.{below, holder, starts_object}
use Rattle.pt_check.specs.declared.checking.Check.{Check}
use Rattle.pt_check.specs.declared.line_kind.LineKind.{LineKind}
use Rattle.pt_check.specs.declared.numbers.Numbers.{Numbers}
use Rattle.pt_check.specs.declared.trouble.Trouble.{Trouble}
use Rattle.pt_check.specs.declared.trouble.Trouble.TheVariants as trouble
use Rattle.pt_check.specs.declared.wants.Wants.{Wants}
use Rattle.pt_check.specs.declared.within.Within.{Within}
use Rattle.pt_check.specs.declared.within.Within.TheVariants as within
use Rattle.pt_name.specs.Clean.{cleaned}
use Rattle.pt_name.specs.Identifying.{identification_of}
use Rattle.pt_name.specs.Reading.{reading_of}
use Rattle.pt_name.specs.Share.{Portion, whole}
use Rattle.pt_name.specs.Tuples.{Tuples}
use Rattle.pt_name.specs.Unmet.{unmet_by}
use Rattle.pt_name.specs.declared.identifying.Identification.{Identification}
use Rattle.pt_name.specs.declared.identifying.Identification.TheVariants as answer
use Rattle.pt_name.specs.declared.identifying.Refusal.TheVariants as refusal
use Rattle.pt_plan.specs.Store.{pairtree_root, prefix_file, prefix_in, version_file}
use Rattle.pt_plan.specs.TurnStart.{is_dir_kind, is_file_kind, kind_in}
use Rattle.pt_tree.specs.Failing.{failing_paths}
use Rattle.pt_tree.specs.Failures.{HasRisen, greatest_count}
use Rattle.pt_tree.specs.Forest.{Forest, File, none, file, other, dir, listing_of}
use Rattle.pt_tree.specs.Listing.{Item}
use Rattle.pt_tree.specs.Log.{Grows}
use Rattle.pt_tree.specs.Path.{Path, joined}
use Rattle.pt_tree.specs.Source.{Reading, tree_in}
use Rattle.pt_tree.specs.declared.kind.Kind.{Kind}
use Rattle.pt_tree.specs.declared.kind.Kind.TheVariants as kind
use Rattle.pt_tree.specs.declared.log.Log.{Ghosts as OfLog}
use Rattle.pt_tree.specs.declared.source.Source.{Ghosts as OfSource}
use Rattle.pt_walk.specs.Left.{bytes_at, inside_at}
use Rattle.pt_walk.specs.Limits.{greatest_limits}
use Rattle.pt_walk.specs.Site.{found}
use Rattle.pt_walk.specs.declared.site.At.TheVariants as at
use Rattle.pt_walk.specs.declared.cause.Cause.TheVariants as cause
use Rattle.pt_walk.specs.declared.site.Finding.{Finding}
use Rattle.pt_walk.specs.declared.site.Finding.TheVariants as finding
use Rattle.pt_walk.specs.declared.site.Form.{Form}

-- how far a check is: at which paths its source fails, if it tells that, and how often it failed; what its log holds; what it has counted;
-- and of which identifiers of its list it met no object
pub record CheckState : Type 0 where
  pub failing : Option (Path → Bool)
  pub failed : ℕ
  pub held : Option (List ℕ)
  pub numbers : Numbers
  pub unmet : List (Option (List ℕ))

-- how far this one is, by the words of its source and its log
abbrev pub check_state : {S L E : Type 0} → OfSource S → OfLog L → Check S L E → CheckState
check_state source log check =
    record {
      failing = failing_paths (source.failing check.source);
      failed = source.failed check.source;
      held = log.told check.log;
      numbers = check.numbers;
      unmet = check.unmet;
    }

-- what it has counted, and of which identifiers it met no object
abbrev pub noted_by : CheckState → Numbers × List (Option (List ℕ))
noted_by a = (a.numbers, a.unmet)

-- its source doesn't fail at this path, if it tells where it does
abbrev pub GoesAt : Path → CheckState → Type 0
GoesAt path a = GoesBy a.failing path

-- the tree of its source, if that tells
abbrev pub tree_by : {S L E : Type 0} → (S → Option Reading) → Check S L E → Option Forest
tree_by told check = tree_in (told check.source)

-- its source is the same one still, with its tree; as much is wanted of it as before, and of the same share; and its log is the same one,
-- and has only grown
pub record Keeps {S L E : Type 0} (of_source : OfSource S) (of_log : OfLog L) (old new : Check S L E)
    : Type 0 where
  pub tree : tree_by of_source.told new ≡ tree_by of_source.told old
  pub source : of_source.keeps old.source new.source
  pub wants : new.wants ≡ old.wants
  pub share : new.share ≡ old.share
  pub log_stays : of_log.keeps old.log new.log
  pub log : Grows (of_log.told old.log) (of_log.told new.log)

-- ---- what is told

-- this text of a line of this kind is put into the log and counted, and nothing fails
pub record Puts (kind : LineKind) (text : List ℕ) (a b : CheckState) : Type 0 where
  pub failing : b.failing ≡ a.failing
  pub failed : b.failed ≡ a.failed
  pub numbers : b.numbers ≡ with_line kind a.numbers
  pub unmet : b.unmet ≡ a.unmet
  pub held : Appends a.held b.held text

-- a line is told
abbrev pub Tells : Line → CheckState → CheckState → Type 0
Tells line = Puts (line_kind line) (line_text line)

-- it is told of this path that it can't be read, with a reason
abbrev pub TellsUnread : Path → CheckState → CheckState → Type 0
TellsUnread path a b = (reason : List ℕ) × Tells (Unreadable path reason) a b

-- the same of a trouble at this path, if there is one
abbrev pub TellsIf : Path → Option Trouble → CheckState → CheckState → Type 0
TellsIf path None a b = b ≡ a
TellsIf path (Some trouble) a b = Tells (Told path trouble) a b

-- this is done where something is the share's own, and else nothing
abbrev pub Where : Bool → (CheckState → CheckState → Type 0) → CheckState → CheckState → Type 0
Where own Does a b = cond own (Does a b) (b ≡ a)

-- the source failed, and that is told of this path with a reason
abbrev pub TellsFailure : Path → CheckState → CheckState → Type 0
TellsFailure path a b =
    (m : CheckState) × (m.failing ≡ a.failing) × HasRisen a.failed m.failed × (m.held ≡ a.held)
    × (noted_by m ≡ noted_by a) × TellsUnread path m b

-- it is told of this path once more for each of these reasons
abbrev pub TellsEach : Path → List (List ℕ) → CheckState → CheckState → Type 0
TellsEach path [] a b = b ≡ a
TellsEach path (reason ∷ more) a b = (m : CheckState) × Tells (Unreadable path reason) a m × TellsEach path more m b

-- with other numbers
abbrev pub counting : (Numbers → Numbers) → CheckState → CheckState
counting change a = record a { numbers = change a.numbers }

-- ---- a folder

-- what a site is to a run of this form; another folder only leads on
abbrev pub finding_of : Form → Within → List Item → Finding
finding_of form (within.Site at) items = found items at form
finding_of form within.Past items = finding.Interior
finding_of form (within.Object before) items = finding.Interior
finding_of form within.Beside items = finding.Interior

-- what a folder is taken for, by whether it was listed whole: another one only leads on
abbrev pub found_by : Bool → Form → Within → List Item → Finding
found_by true form here items = finding_of form here items
found_by false form here items = finding.Interior

-- whether the names of a site, which join to this text, are those of this identifier's own pairpath
abbrev pub spelling_trouble : List ℕ → List ℕ → Option Trouble
spelling_trouble text id = cond (bytes_eq (cleaned id) text) None (Some trouble.Spelling)

-- what is told of the names of a site, which join to this text, by what that reads
abbrev pub trouble_of_reading : List ℕ → Option (List ℕ) → Option Trouble
trouble_of_reading text None = Some (trouble.Skipped cause.Name)
trouble_of_reading text (Some read) =
    cond (is_utf8 read) (spelling_trouble text read) (Some (trouble.Skipped cause.Utf8))

-- the same, by the text alone
abbrev pub trouble_of_names : List ℕ → Option Trouble
trouble_of_names text = trouble_of_reading text (reading_of text)

-- what is told of a folder below `pairtree_root`, which is this, and found to be that: the names of a site with an object are read
abbrev pub folder_trouble : Within → Finding → Path → Option Trouble
folder_trouble within.Past found path = Some (trouble.Skipped cause.Past)
folder_trouble _ finding.Interior path = None
folder_trouble _ (finding.Skip why) path = Some (trouble.Skipped why)
folder_trouble _ (finding.Candidate i) path = trouble_of_names (concat (drop 1 path))
folder_trouble _ finding.Gathered path = trouble_of_names (concat (drop 1 path))

-- what is told of an object of which this is said: no run carries it, since its place is the storage root's own
abbrev pub reserved_by : Identification → Option Trouble
reserved_by (answer.Refused refusal.Malformed) = None
reserved_by (answer.Refused refusal.NotUtf8) = None
reserved_by (answer.Refused refusal.Reserved) = Some (trouble.Skipped cause.Reserved)
reserved_by answer.OtherShare = None
reserved_by (answer.Candidate it) = None

-- the same by the names of its site, which read its identifier behind a prefix, where its place has these tuples
abbrev pub reserved_at : Tuples → List ℕ → Path → Option Trouble
reserved_at tuples prefix [] = None
reserved_at tuples prefix (name ∷ names) =
    reserved_by (identification_of tuples whole prefix (name ∷ names))

-- what is told of a folder that is found to be this, in a store of this prefix, by its place: only without tuples is one the root's own
abbrev pub reserved_trouble : Tuples → List ℕ → Finding → Path → Option Trouble
reserved_trouble tuples prefix finding.Interior path = None
reserved_trouble tuples prefix (finding.Skip why) path = None
reserved_trouble tuples prefix (finding.Candidate i) path =
    cond (tuples.count == 0) (reserved_at tuples prefix (drop 1 path)) None
reserved_trouble tuples prefix finding.Gathered path =
    cond (tuples.count == 0) (reserved_at tuples prefix (drop 1 path)) None

-- how deep below `pairtree_root` a folder at a path from the store's folder on lies
abbrev pub depth_of : Path → ℕ
depth_of path = length (drop 1 path)

-- a site so deep that is found to be this is counted; one that is gathered is where its object begins
abbrev pub with_found : ℕ → Finding → Numbers → Numbers
with_found depth finding.Interior numbers = with_site depth false numbers
with_found depth (finding.Skip why) numbers = with_site depth false numbers
with_found depth (finding.Candidate i) numbers = with_site depth true numbers
with_found depth finding.Gathered numbers = with_object_begun (with_site depth true numbers)

-- an entry has another name than this
abbrev pub has_other_name : List ℕ → Option Item → Bool
has_other_name text None = false
has_other_name text (Some item) = not (bytes_eq item.0 text)

-- the own folder of an object, in a site at this path that lists these entries and is found to be that, has another name than those of the
-- site join to
abbrev pub is_renamed : Path → List Item → Finding → Bool
is_renamed path items (finding.Candidate i) = has_other_name (concat (drop 1 path)) (slice_get items i)
is_renamed path items _ = false

-- a folder so deep that is this, and found to be that, is counted if it is a site, and so is its object's own folder if that is renamed
abbrev pub with_folder : ℕ → Bool → Within → Finding → Numbers → Numbers
with_folder depth renamed (within.Site at) what numbers = with_renamed renamed (with_found depth what numbers)
with_folder depth renamed within.Past what numbers = numbers
with_folder depth renamed (within.Object before) what numbers = numbers
with_folder depth renamed within.Beside what numbers = numbers

-- a folder at a path in a store of this prefix, which are a pair, that lists these entries is judged: it is counted, and told if there is trouble
abbrev pub Judges : Wants → Path × List ℕ → Within → List Item → CheckState → CheckState → Type 0
Judges wants at here items a b =
    let what = finding_of wants.form here items in
    (m : CheckState)
    × TellsIf at.0 (folder_trouble here what at.0) (counting (with_folder (depth_of at.0) (is_renamed at.0 items what) here what) a) m
    × (n : CheckState) × TellsIf at.0 (reserved_trouble wants.layout at.1 what at.0) m n
    × TellsIf at.0 (width_trouble at.0 items) n b

-- ---- an entry

-- a name that desktops leave: `.DS_Store`, `Thumbs.db`, `desktop.ini`, or one that begins with `._`
abbrev pub is_of_desktop : List ℕ → Bool
is_of_desktop name =
    bytes_eq name (codes ".DS_Store") || (bytes_eq name (codes "Thumbs.db")
    || (bytes_eq name (codes "desktop.ini") || bytes_eq (take 2 name) (codes "._")))

-- the logical path of an entry whose whole path has so many bytes is longer than a run carries
abbrev pub is_long : Within → ℕ → Bool
is_long (within.Object before) bytes = nat_lt (plus before greatest_limits.path_bytes) bytes
is_long _ bytes = false

-- what is told of an entry by its name alone
abbrev pub name_trouble : List ℕ → Option Trouble
name_trouble name = cond (is_of_desktop name) (Some trouble.Desktop) None

-- what is told of an entry of this name and kind in a folder that is this, whose path has so many bytes
abbrev pub entry_trouble : Within → List ℕ → Kind → ℕ → Option Trouble
entry_trouble here name kind.Other bytes = Some (trouble.Skipped cause.Other)
entry_trouble here name kind.File bytes = cond (is_long here bytes) (Some trouble.Long) (name_trouble name)
entry_trouble here name kind.Dir bytes = name_trouble name

-- what is told of an entry of this kind in a folder that is this, by how many files its object has before it: it is the first
-- file for which there is no room in an object
abbrev pub count_trouble : Within → Kind → ℕ → Option Trouble
count_trouble (within.Object before) kind.File held =
    cond (held == greatest_limits.files) (Some trouble.Many) None
count_trouble _ _ held = None

-- what is told of an entry of this kind in a folder that is this, whose path has so many bytes, where a destination has room for
-- paths of so many bytes in an object
abbrev pub room_trouble : Option ℕ → Within → Kind → ℕ → Option Trouble
room_trouble (Some most) (within.Object before) kind.File bytes =
    cond (nat_lt (plus before most) bytes) (Some trouble.Place) None
room_trouble _ _ _ bytes = None

-- an entry at this path is met: it is counted, and told if there is trouble
abbrev pub Meets : Wants → Path → Within → Item → CheckState → CheckState → Type 0
Meets wants path here item a b =
    let bytes = length (joined path) in
    (m : CheckState)
    × TellsIf path (count_trouble here item.1 a.numbers.held) (counting (with_entry item.1 bytes) a) m
    × (n : CheckState) × TellsIf path (entry_trouble here item.0 item.1 bytes) m n
    × TellsIf path (room_trouble wants.room here item.1 bytes) n b

-- what is told of a file of which so many bytes were read
abbrev pub size_trouble : ℕ → Option Trouble
size_trouble bytes = cond (nat_lt greatest_limits.file_bytes bytes) (Some trouble.Large) None

-- a file with these bytes, in a folder that is this, is opened, read whole if that is wanted, and told if it is too large; or it is told that
-- it can't be. Where it was read whole, and has fewer bytes than the greatest count, the source doesn't fail there.
abbrev pub Opens : Bool → Path → Within → List ℕ → CheckState → CheckState → Type 0
Opens reads path here bytes a b =
    let count = cond reads (length bytes) 0 in
    TellsIf path (size_trouble count) (counting (with_opened reads here count) a) b
    × (reads ≡ true → length bytes < greatest_count → GoesAt path a) ⊎ TellsFailure path a b

-- the same of an entry of this kind, if it is a file
abbrev pub OpensIf : Bool → Path → Within × Kind → List ℕ → CheckState → CheckState → Type 0
OpensIf reads path (here, kind.File) bytes a b = Opens reads path here bytes a b
OpensIf reads path (here, kind.Dir) bytes a b = b ≡ a
OpensIf reads path (here, kind.Other) bytes a b = b ≡ a

-- ---- the walk

-- a site that is found to have an object, at a path in a store of this prefix, which are a pair, meets the identifier that its names read
abbrev pub meeting : Portion → Path × List ℕ → Finding → CheckState → CheckState
meeting share at what a = record a { unmet = unmet_behind share at what a.unmet }

-- a folder of a store as a check comes to it: its path, the prefix of the store as it is known, what the folder is, and how many
-- folders may stand one in another from it on
pub record Folder : Type 0 where
  pub path : Path
  pub prefix : List ℕ
  pub here : Within
  pub left : ℕ

-- the folder of this name in one which is this, and found to be that
abbrev pub folder_in : Folder → Finding → List ℕ → Folder
folder_in folder what name =
    let path = folder.path ++ name ∷ [] in
    record {
      path = path;
      prefix = folder.prefix;
      here = below folder.here what name (length (joined folder.path)) (length (joined path));
      left = folder.left - 1;
    }

-- what holds the entries of a folder which is found to be that
abbrev pub holder_in : Folder → Finding → Within
holder_in folder what = holder folder.here what (length (joined folder.path))

-- where an object begins with a folder that is this, in what is that, it has no files yet
abbrev pub begun : Within → Within → Numbers → Numbers
begun here above numbers = cond (starts_object here above) (with_object_begun numbers) numbers

-- behind a folder that is this, and in no object, the object at hand is again the one that was before it
abbrev pub ended : Within → Numbers → Numbers → Numbers
ended (within.Object bytes) before after = after
ended _ before after = back_at before after

-- what may be said of a folder at a path that a source failed to list: that for these reasons, and whether what has names in it can be listed
abbrev pub Says : Type 0
Says = Path → List (List ℕ) → Bool → Bool

module _ (says : Says) where
  -- however often the source fails in it, what is at this path is told with a reason or more: all that is said of it. What has names can be
  -- listed, or not. Each share that lists it tells that, as what is missed there may be of any.
  abbrev pub TellsReasons : Path → Bool → CheckState → CheckState → Type 0
  TellsReasons path part a b =
      (m : CheckState) × (m.failing ≡ a.failing) × (a.failed ≤ m.failed) × (m.held ≡ a.held) × (noted_by m ≡ noted_by a)
      × (reason : List ℕ) × (further : List (List ℕ)) × TellsEach path (reason ∷ further) m b
      × (says path (reason ∷ further) part ≡ true)

  -- the source failed to list what is at this path, and that is told so
  abbrev pub TellsUnlisted : Path → Bool → CheckState → CheckState → Type 0
  TellsUnlisted path part a b =
      (m : CheckState) × (m.failing ≡ a.failing) × HasRisen a.failed m.failed × (m.held ≡ a.held) × (noted_by m ≡ noted_by a)
      × TellsReasons path part m b

  -- a folder was listed whole, or what has names in it was, and that is told
  abbrev pub Finds : Path → Bool → CheckState → CheckState → Type 0
  Finds path whole a b = cond whole ((b ≡ a) × GoesAt path a) (TellsUnlisted path true a b)

module _ (says : Says) (share : Portion) where
  -- a folder, which is the share's own or not, was listed whole, with these entries, and is found to be this: the identifier that its names read
  -- is met, where it has an object, and it is judged where what lies in it is the share's own; or it can't be listed whole, and that is told in
  -- its place: it counts as no site, and is taken for one that only leads on
  abbrev pub Begins : Wants → Bool → Folder → List Item → Finding → CheckState → CheckState → Type 0
  Begins wants own folder items what a b =
      (Where (is_own_in wants.layout share (folder.path, folder.prefix) (finding_of wants.form folder.here items) own)
      (Judges wants (folder.path, folder.prefix) folder.here items)
      (meeting share (folder.path, folder.prefix) (finding_of wants.form folder.here items) a) b
      × (what ≡ finding_of wants.form folder.here items) × GoesAt folder.path a)
      ⊎ (TellsUnlisted says folder.path true a b × (what ≡ finding.Interior))

  -- a folder is met that lists these entries, by what is then done with them: it is too deep and told so, nothing of it can be listed
  -- and that is told, or it is begun and its entries are visited. Where it can't be listed whole these are those that have names, and
  -- in a tree that is told each has one.
  abbrev pub Enters : Wants → Bool → Folder → List Item → (Finding → CheckState → CheckState → Type 0) → CheckState → CheckState
      → Type 0
  Enters wants own folder items visits a b = cond (folder.left == 0) (Where own (Tells (Told folder.path trouble.Deep)) a b)
      (TellsUnlisted says folder.path false a b
      ⊎ ((what : Finding) × (m : CheckState) × Begins wants own folder items what a m × visits what m b))

  -- the entries of a folder, which is the share's own or not, and found to be this, are visited one after another, each once, and all that
  -- stands in them. What isn't the share's own isn't met, and of folders those alone are entered that the share walks.
  abbrev pub Visits : Wants → Bool → Folder → Finding → Forest → CheckState → CheckState → Type 0
  Visits wants own folder what none a b = b ≡ a
  Visits wants own folder what (file name bytes after) a b =
      let path = folder.path ++ name ∷ [] in
      let here = holder_in folder what in
      let mine = is_own_in wants.layout share (folder.path, folder.prefix) what own in
      (m : CheckState) × Where mine (Meets wants path here (name, kind.File)) a m
      × (n : CheckState) × Where mine (Opens wants.reads path here bytes) m n
      × Visits wants own folder what after n b
  Visits wants own folder what (other name after) a b =
      let mine = is_own_in wants.layout share (folder.path, folder.prefix) what own in
      (m : CheckState) × Where mine (Meets wants (folder.path ++ name ∷ []) (holder_in folder what) (name, kind.Other)) a m
      × Visits wants own folder what after m b
  Visits wants own folder what (dir name inside after) a b =
      let it = folder_in folder what name in
      let mine = is_own_entry share it.path folder.here (name, kind.Dir)
      (is_own_in wants.layout share (folder.path, folder.prefix) what own) in
      (m : CheckState) × Where mine (Meets wants it.path (holder_in folder what) (name, kind.Dir)) a m
      × (n : CheckState) × Where (is_walked share it.path it.here mine)
      (Enters wants mine it (listing_of inside) (λ seen. Visits wants mine it seen inside))
      (counting (begun it.here (holder_in folder what)) m) n
      × Visits wants own folder what after (counting (ended it.here m.numbers) n) b

  -- a folder of the store, which is the share's own or not, and all that stands in it are visited
  abbrev pub VisitsFolder : Wants → Bool → Folder → Forest → CheckState → CheckState → Type 0
  VisitsFolder wants own folder inside =
      Enters wants own folder (listing_of inside) (λ what. Visits wants own folder what inside)

-- ---- a store

-- what is told of an entry that a store must have, by whether it is there
abbrev pub missing : Bool → Option Trouble
missing true = None
missing false = Some trouble.Missing

-- the folder `pairtree_root` of a store of this prefix, below which a run walks folders as deep as its limit
abbrev pub root_folder : List ℕ → Folder
root_folder prefix = record {
  path = pairtree_root ∷ [];
  prefix = prefix;
  here = within.Site at.Root;
  left = greatest_limits.depth + 1;
}

-- at the top of a store, which is the share's own or not, stand the version's file and `pairtree_root` (Pairtree 0.1): it is told where one
-- doesn't, and the second is visited
abbrev pub Looks : Says → Portion → Wants → Bool → List ℕ → Forest → CheckState → CheckState → Type 0
Looks says share wants own prefix tree a b =
    (m : CheckState)
    × Where own (TellsIf (version_file ∷ []) (missing (is_file_kind (kind_in (listing_of tree) version_file)))) a m
    × cond (is_dir_kind (kind_in (listing_of tree) pairtree_root))
    (VisitsFolder says share wants own (root_folder prefix) (inside_at tree (pairtree_root ∷ [])) m b)
    (Where own (Tells (Told (pairtree_root ∷ []) trouble.Missing)) m b)

-- the path of the prefix file
abbrev pub prefix_path : Path
prefix_path = prefix_file ∷ []

-- the front of a file of a prefix is read, and told by what it is, if the top is the share's own; or it is told that it can't be. The prefix
-- that is then known is empty where the front is none. Where the front doesn't fill a block, the source doesn't fail there.
abbrev pub ReadsFront : Bool → Path → List ℕ → List ℕ → CheckState → CheckState → Type 0
ReadsFront own path front prefix a b =
    Where own (TellsIf path (prefix_trouble front)) a b × (prefix ≡ prefix_in (Some (File front)))
    × (length front < 8192 → GoesAt path a)
    ⊎ TellsFailure path a b × (prefix ≡ [])

-- where a file stands at the name of the prefix, its front is read. What is no file there is told, and no prefix.
abbrev pub ReadsPrefix : Bool → Option Kind → List ℕ → List ℕ → CheckState → CheckState → Type 0
ReadsPrefix own None bytes prefix a b = (b ≡ a) × (prefix ≡ [])
ReadsPrefix own (Some kind.File) bytes prefix a b = ReadsFront own prefix_path (take 8192 bytes) prefix a b
ReadsPrefix own (Some kind.Dir) bytes prefix a b = Where own (Tells (Told prefix_path trouble.Prefix)) a b × (prefix ≡ [])
ReadsPrefix own (Some kind.Other) bytes prefix a b = Where own (Tells (Told prefix_path trouble.Prefix)) a b × (prefix ≡ [])

-- what the top lists is looked at: the prefix, and then what a store must have
abbrev pub LooksAll : Says → Portion → Wants → Bool → Forest → CheckState → CheckState → Type 0
LooksAll says share wants own tree a b =
    (m : CheckState) × (prefix : List ℕ)
    × ReadsPrefix own (kind_in (listing_of tree) prefix_file) (bytes_at tree prefix_path) prefix a m
    × Looks says share wants own prefix tree m b

-- what a top lists is looked at, if it lists all or what has names, or that can't be listed and is told;
-- and at the end stands the line of these numbers
pub record ChecksAll (says : Says) (share : Portion) (wants : Wants) (tree : Forest) (numbers : Numbers) (a b : CheckState)
    : Type 0 where
  pub last : CheckState
  pub first : CheckState
  pub whole : Bool
  pub looks : (Finds says [] whole a first × LooksAll says share wants (is_own_way share []) tree first last)
      ⊎ TellsUnlisted says [] false a last
  pub numbers_are : numbers ≡ last.numbers
  pub failing : b.failing ≡ last.failing
  pub failed : b.failed ≡ last.failed
  pub counted : b.numbers ≡ last.numbers
  pub unmet : b.unmet ≡ last.unmet
  pub held : Appends last.held b.held (line_text (End last.numbers))

-- none of a share's list was met
abbrev pub starting : Portion → CheckState → CheckState
starting share a = record a { unmet = unmet_by share }

-- a share of a store is checked whole, when none of its list was met
abbrev pub ChecksShare : Says → Portion → Wants → Forest → Numbers → CheckState → CheckState → Type 0
ChecksShare says share wants tree numbers a b = ChecksAll says share wants tree numbers (starting share a) b

-- and so is the whole store: all of it is the one share's own
abbrev pub Checks : Says → Wants → Forest → Numbers → CheckState → CheckState → Type 0
Checks says = ChecksShare says whole
