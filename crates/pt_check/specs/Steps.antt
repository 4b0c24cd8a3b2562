-- What a check of a share does at a store in which nothing fails, step by step.
use Rattle.std.specs.Prelude.{ℕ, ◌==◌, Bool, cond, length, take, List, [], ◌∷◌, ◌++◌, Option, None, Some}
use Rattle.pt_check.specs.Counting.{plus, with_entry, with_line, with_opened}
use Rattle.pt_check.specs.Lines.{Told, line_text}
use Rattle.pt_check.specs.Prefix.{prefix_trouble}
use Rattle.pt_check.specs.Shares.{is_own_entry, is_own_in, is_own_way, is_walked}
use Rattle.pt_check.specs.Visits.{
  Folder,
  count_trouble,
  depth_of,
  entry_trouble,
  finding_of,
  folder_in,
  folder_trouble,
  holder_in,
  is_renamed,
  missing,
  prefix_path,
  reserved_trouble,
  room_trouble,
  root_folder,
  size_trouble,
  with_folder,
}
use Rattle.pt_check.specs.Width.{width_trouble}
use Rattle.pt_check.specs.Within.{starts_object}
use Rattle.pt_check.specs.declared.line_kind.LineKind.TheVariants as line
use Rattle.pt_check.specs.declared.numbers.Numbers.{Numbers}
use Rattle.pt_check.specs.declared.trouble.Trouble.{Trouble}
use Rattle.pt_check.specs.declared.trouble.Trouble.TheVariants as trouble
use Rattle.pt_check.specs.declared.wants.Wants.{Wants}
use Rattle.pt_check.specs.declared.within.Within.{Within}
use Rattle.pt_check.specs.declared.within.Within.TheVariants as within
use Rattle.pt_name.specs.Share.{Portion}
use Rattle.pt_plan.specs.Store.{pairtree_root, prefix_file, prefix_in, version_file}
use Rattle.pt_plan.specs.TurnStart.{is_dir_kind, is_file_kind, kind_in}
use Rattle.pt_tree.specs.Forest.{Forest, File, none, file, other, dir, listing_of}
use Rattle.pt_tree.specs.Listing.{Item}
use Rattle.pt_tree.specs.Path.{Path, joined}
use Rattle.pt_tree.specs.declared.kind.Kind.{Kind}
use Rattle.pt_tree.specs.declared.kind.Kind.TheVariants as kind
use Rattle.pt_walk.specs.Left.{bytes_at, inside_at}
use Rattle.pt_walk.specs.declared.site.Finding.{Finding}
use Rattle.pt_walk.specs.declared.site.Finding.TheVariants as finding

-- a trouble is told at a path; or counted is an entry of a kind, whose path has so many bytes; a file, read whole or not, in a folder that is
-- this, of which so many bytes were read, and so many of its object before; or a folder so deep, which is this, and found to be that, whose
-- object's own folder is renamed or not
pub data Step : Type 0 where
  Tells : (path : Path) → (trouble : Trouble) → Step
  Meets : (kind : Kind) → (length : ℕ) → Step
  Opens : (reads : Bool) → (here : Within) → (bytes before : ℕ) → Step
  Judges : (depth : ℕ) → (renamed : Bool) → (here : Within) → (what : Finding) → Step

-- the line that it tells, if it tells one
abbrev pub step_text : Step → List ℕ
step_text (Tells path trouble) = line_text (Told path trouble)
step_text (Meets kind length) = []
step_text (Opens reads here bytes before) = []
step_text (Judges depth renamed here what) = []

-- the lines of steps
abbrev pub steps_text : List Step → List ℕ
steps_text [] = []
steps_text (step ∷ steps) = step_text step ++ steps_text steps

-- what it counts
abbrev pub counted_by : Step → Numbers → Numbers
counted_by (Tells path trouble) numbers = with_line (line.Troubled trouble) numbers
counted_by (Meets kind length) numbers = with_entry kind length numbers
counted_by (Opens reads here bytes before) numbers = with_opened reads here bytes (record numbers { held_bytes = before })
counted_by (Judges depth renamed here what) numbers = with_folder depth renamed here what numbers

-- what steps count
abbrev pub counted : List Step → Numbers → Numbers
counted [] numbers = numbers
counted (step ∷ steps) numbers = counted steps (counted_by step numbers)

-- numbers but for those of the object at hand, which no line has
abbrev pub without_held : Numbers → Numbers
without_held numbers = record numbers { held = 0; held_bytes = 0 }

-- ---- the object at hand

-- how many files it has up to some entry, and bytes that were read
pub record Held : Type 0 where
  pub files : ℕ
  pub bytes : ℕ

-- it has none yet
abbrev pub none_held : Held
none_held = record { files = 0; bytes = 0 }

-- behind an entry of this kind
abbrev pub held_met : Kind → Held → Held
held_met kind.File held = record held { files = plus held.files 1 }
held_met kind.Dir held = held
held_met kind.Other held = held

-- behind a file in a folder that is this, of which so many bytes were read
abbrev pub held_read : Within → ℕ → Held → Held
held_read (within.Object before) bytes held = record held { bytes = plus held.bytes bytes }
held_read (within.Site at) bytes held = held
held_read within.Past bytes held = held
held_read within.Beside bytes held = held

-- in a folder that is this, in what is that
abbrev pub held_begun : Within → Within → Held → Held
held_begun here above held = cond (starts_object here above) none_held held

-- in a folder that is found to be this
abbrev pub held_found : Finding → Held → Held
held_found finding.Interior held = held
held_found (finding.Skip why) held = held
held_found (finding.Candidate i) held = held
held_found finding.Gathered held = none_held

-- behind a folder that is this, before which and at whose end it was these
abbrev pub held_ended : Within → Held → Held → Held
held_ended (within.Object bytes) before after = after
held_ended (within.Site at) before after = before
held_ended within.Past before after = before
held_ended within.Beside before after = before

-- how many bytes of a file are read
abbrev pub read_of : Wants → List ℕ → ℕ
read_of wants bytes = cond wants.reads (length bytes) 0

-- what it is behind a folder that is come to, and behind entries of one
abbrev pub held_behind : Wants → Folder → Finding → Forest → Held → Held
held_behind wants folder what none held = held
held_behind wants folder what (file name bytes after) held =
    held_behind wants folder what after (held_read (holder_in folder what) (read_of wants bytes) (held_met kind.File held))
held_behind wants folder what (other name after) held = held_behind wants folder what after held
held_behind wants folder what (dir name inside after) held =
    let it = folder_in folder what name in
    let seen = finding_of wants.form it.here (listing_of inside) in
    let begun = held_begun it.here (holder_in folder what) held in
    held_behind wants folder what after (held_ended it.here held
    (cond (it.left == 0) begun (held_behind wants it seen inside (held_found seen begun))))

-- ---- the steps

-- at a path, of a trouble, if there is one
abbrev pub told_if : Path → Option Trouble → List Step
told_if path None = []
told_if path (Some trouble) = Tells path trouble ∷ []

-- these, where something is the share's own
abbrev pub steps_if : Bool → List Step → List Step
steps_if own steps = cond own steps []

-- at an entry
abbrev pub steps_met : Wants → Path → Within → Item → Held → List Step
steps_met wants path here item held =
    let bytes = length (joined path) in
    Meets item.1 bytes
    ∷ (told_if path (count_trouble here item.1 held.files)
    ++ (told_if path (entry_trouble here item.0 item.1 bytes) ++ told_if path (room_trouble wants.room here item.1 bytes)))

-- at a file with these bytes
abbrev pub steps_opened : Wants → Path → Within → List ℕ → Held → List Step
steps_opened wants path here bytes held =
    Opens wants.reads here (read_of wants bytes) held.bytes ∷ told_if path (size_trouble (read_of wants bytes))

-- at a folder that lists these entries
abbrev pub steps_judged : Wants → Folder → List Item → List Step
steps_judged wants folder items =
    let what = finding_of wants.form folder.here items in
    Judges (depth_of folder.path) (is_renamed folder.path items what) folder.here what
    ∷ (told_if folder.path (folder_trouble folder.here what folder.path)
    ++ (told_if folder.path (reserved_trouble wants.layout folder.prefix what folder.path) ++ told_if folder.path (width_trouble folder.path items)))

module _ (share : Portion) (wants : Wants) where
  -- at a folder that is come to, by those at its entries
  abbrev pub steps_entered : Bool → Folder → List Item → List Step → List Step
  steps_entered own folder items entries =
      let what = finding_of wants.form folder.here items in
      cond (folder.left == 0) (steps_if own (Tells folder.path trouble.Deep ∷ []))
      (steps_if (is_own_in wants.layout share (folder.path, folder.prefix) what own) (steps_judged wants folder items) ++ entries)

  -- at the entries of a folder, which is the share's own or not, and found to be this, where the object at hand is that
  abbrev pub steps_in : Bool → Folder → Finding → Forest → Held → List Step
  steps_in own folder what none held = []
  steps_in own folder what (file name bytes after) held =
      let path = folder.path ++ name ∷ [] in
      let here = holder_in folder what in
      let met = held_met kind.File held in
      steps_if (is_own_in wants.layout share (folder.path, folder.prefix) what own)
      (steps_met wants path here (name, kind.File) held ++ steps_opened wants path here bytes met)
      ++ steps_in own folder what after (held_read here (read_of wants bytes) met)
  steps_in own folder what (other name after) held =
      steps_if (is_own_in wants.layout share (folder.path, folder.prefix) what own)
      (steps_met wants (folder.path ++ name ∷ []) (holder_in folder what) (name, kind.Other) held)
      ++ steps_in own folder what after held
  steps_in own folder what (dir name inside after) held =
      let it = folder_in folder what name in
      let mine = is_own_entry share it.path folder.here (name, kind.Dir)
      (is_own_in wants.layout share (folder.path, folder.prefix) what own) in
      let seen = finding_of wants.form it.here (listing_of inside) in
      let begun = held_begun it.here (holder_in folder what) held in
      (steps_if mine (steps_met wants it.path (holder_in folder what) (name, kind.Dir) held)
      ++ steps_if (is_walked share it.path it.here mine)
      (steps_entered mine it (listing_of inside) (steps_in mine it seen inside (held_found seen begun))))
      ++ steps_in own folder what after (held_ended it.here held
      (cond (it.left == 0) begun (held_behind wants it seen inside (held_found seen begun))))

  -- at a folder of the store
  abbrev pub steps_at : Bool → Folder → Forest → Held → List Step
  steps_at own folder inside held =
      let what = finding_of wants.form folder.here (listing_of inside) in
      steps_entered own folder (listing_of inside) (steps_in own folder what inside (held_found what held))

-- ---- a store

-- at what stands at the name of the prefix, with these bytes
abbrev pub steps_of_prefix : Option Kind → List ℕ → List Step
steps_of_prefix None bytes = []
steps_of_prefix (Some kind.File) bytes = told_if prefix_path (prefix_trouble (take 8192 bytes))
steps_of_prefix (Some kind.Dir) bytes = Tells prefix_path trouble.Prefix ∷ []
steps_of_prefix (Some kind.Other) bytes = Tells prefix_path trouble.Prefix ∷ []

-- the prefix that is then known
abbrev pub prefix_known : Option Kind → List ℕ → List ℕ
prefix_known None bytes = []
prefix_known (Some kind.File) bytes = prefix_in (Some (File (take 8192 bytes)))
prefix_known (Some kind.Dir) bytes = []
prefix_known (Some kind.Other) bytes = []

-- at the folder `pairtree_root`, if there is one
abbrev pub steps_of_root : Portion → Wants → List ℕ → Forest → List Step
steps_of_root share wants prefix tree =
    cond (is_dir_kind (kind_in (listing_of tree) pairtree_root))
    (steps_at share wants (is_own_way share []) (root_folder prefix) (inside_at tree (pairtree_root ∷ [])) none_held)
    (steps_if (is_own_way share []) (Tells (pairtree_root ∷ []) trouble.Missing ∷ []))

-- of a check of this share of a store
abbrev pub steps_of : Portion → Wants → Forest → List Step
steps_of share wants tree =
    let what = kind_in (listing_of tree) prefix_file in
    let bytes = bytes_at tree prefix_path in
    steps_if (is_own_way share []) (steps_of_prefix what bytes)
    ++ (steps_if (is_own_way share []) (told_if (version_file ∷ []) (missing (is_file_kind (kind_in (listing_of tree) version_file))))
    ++ steps_of_root share wants (prefix_known what bytes) tree)
