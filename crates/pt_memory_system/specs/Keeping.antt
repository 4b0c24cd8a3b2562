-- A system in memory keeps to the laws.
use Rattle.std.specs.Prelude.{◌≡◌, ℕ, Bool, true, false, cond, List, [], drop, take, Option, None, Some, IfOk, Result, Ok, Err, MatchResult}
use Rattle.std.specs.Option.{option_map}
use Rattle.std.proofs.Common.{refl, sym, ap, subst, ◌∙◌}
use Rattle.std.specs.declared.io.Error.{Error}
use Rattle.std.specs.Str.{bytes_eq}
use Rattle.pt_tree.proofs.Names.{same_name, name_itself}
use Rattle.pt_tree.specs.Forest.{Forest, Dir, dir_at, file_at, is_proper, kind_of, node_at}
use Rattle.pt_tree.specs.Tree.{Tree, Bytes, Folder, IsTree, added, bytes_of, kind_of_entry, moved, put}
use Rattle.pt_tree.specs.TreeLaws.{IsTree-tree_of}
use Rattle.pt_memory.specs.Entries.{forest_of}
use Rattle.pt_memory.specs.MemDest.{dest_tree}
use Rattle.pt_memory.specs.MemSource.{source_tree}
use Rattle.pt_folder.specs.DestLaws as dest
use Rattle.pt_folder.specs.Folder.{entry_text}
use Rattle.pt_folder.specs.Laws.{LooksRight}
use Rattle.pt_folder.specs.SourceLaws as source
use Rattle.pt_memory_system.specs.Folders.{told_at, told_is, told_changed, told_same}
use Rattle.pt_memory_system.specs.System.{
  IsAdded,
  Looks,
  MakesDir,
  MakesFile,
  Measures,
  Moves,
  Opens,
  OpensDir,
  SameFolders,
  Writes,
  bytes_in,
  forest_in,
  kept_in,
  kept_of,
  left_in,
  names_left,
}
use Rattle.pt_memory_system.specs.declared.file.MemFile.{MemFile}
use Rattle.pt_memory_system.specs.declared.system.MemorySystem.{MemorySystem}

-- a look into the folder that is read
pub looks_in_source : source.LookLaw forest_in Looks
looks_in_source old new folder p reply named above by = record {
  same = ap (λ (s : MemorySystem). forest_in s folder) by.same;
  shown = λ f is.
      let told = told_is old.read.now (source_tree old.source) folder f is in
      subst (λ (g : Forest). LooksRight (option_map kind_of (node_at (Dir g) p)) reply) told.1
      (by.source p named (ap (λ (l : List ℕ). entry_text l p) (sym told.0)));
}

-- a look into the folder that is written
pub looks_in_dest : dest.KindLaw kept_in Looks
looks_in_dest old new folder p reply named by = record {
  same = ap (λ (s : MemorySystem). kept_in s folder) by.same;
  shown = λ t is.
      let told = told_is old.written.now (dest_tree old.dest) folder t is in
      subst (λ (t : Tree). LooksRight (option_map kind_of_entry (t p)) reply) told.1
      (by.dest p named (ap (λ (l : List ℕ). entry_text l p) (sym told.0)));
}

-- the length of a file of the folder that is read
pub measures_in_source : source.LengthLaw forest_in Measures
measures_in_source old new folder p reply named can by = record {
  same = ap (λ (s : MemorySystem). forest_in s folder) by.same;
  told = λ f is.
      let told = told_is old.read.now (source_tree old.source) folder f is in
      subst (λ (g : Forest). source.IsLengthOf (file_at g p) reply) told.1
      (by.source p named (ap (λ (l : List ℕ). entry_text l p) (sym told.0)));
}

-- a file at its start has all its bytes left
at_start : (reply : Result MemFile Error) → IfOk reply (λ f. f.place ≡ 0)
    → IfOk reply (λ f. left_in f ≡ bytes_in f)
at_start (Ok f) is = ap (λ n. Some (drop n f.bytes.items)) is
at_start (Err e) is = tt

-- an opening of a file of the folder that is read
pub opens_in_source : source.OpenLaw forest_in bytes_in left_in Opens
opens_in_source old new folder p reply named can by = record {
  same = ap (λ (s : MemorySystem). forest_in s folder) by.same;
  start = at_start reply by.start;
  given = λ f is.
      let told = told_is old.read.now (source_tree old.source) folder f is in
      subst (λ (g : Forest). IfOk reply (λ file. bytes_in file ≡ file_at g p)) told.1
      (by.source p named (ap (λ (l : List ℕ). entry_text l p) (sym told.0)));
}

-- of a file that was opened all is left to read: where its bytes are these, so are those that are left
both : (reply : Result MemFile Error) (o : Option (List ℕ)) → IfOk reply (λ f. left_in f ≡ bytes_in f)
    → IfOk reply (λ f. bytes_in f ≡ o) → IfOk reply (λ f. left_in f ≡ o)
both (Ok f) o start is = start ∙ is
both (Err e) o start is = tt

-- an opening of a file of the folder that is written
pub opens_in_dest : dest.PeekLaw kept_in left_in Opens
opens_in_dest old new folder p reply named by = record {
  same = ap (λ (s : MemorySystem). kept_in s folder) by.same;
  bytes = λ t is some.
      let told = told_is old.written.now (dest_tree old.dest) folder t is in
      subst (λ (t : Tree). IfOk reply (λ file. left_in file ≡ bytes_of (t p))) told.1
      (both reply (bytes_of (dest_tree old.dest p)) (at_start reply by.start)
      (by.dest p named (ap (λ (l : List ℕ). entry_text l p) (sym told.0))));
}

-- any opening changes nothing
pub opens_and_stays : dest.StillLaw kept_in Opens
opens_and_stays old new folder text reply by = ap (λ (s : MemorySystem). kept_in s folder) by.same

-- the written folder with another tree, or as it was
becomes : (old new : MemorySystem) (folder : List ℕ) (change : Tree → Tree) → SameFolders old new
    → (old.written.now ≡ folder → dest_tree new.dest ≡ change (dest_tree old.dest))
    → told_at new.written.now (dest_tree new.dest) folder
    ≡ option_map change (told_at old.written.now (dest_tree old.dest) folder)
becomes old new folder change stays made =
    told_changed old.written.now new.written.now folder (dest_tree old.dest) (dest_tree new.dest) change
    stays.written made

-- the written folder is as it was, where it is the same one and the destination's tree is as it was
keeps : (old new : MemorySystem) (folder : List ℕ) → SameFolders old new
    → dest_tree new.dest ≡ dest_tree old.dest
    → kept_in new folder ≡ kept_in old folder
keeps old new folder stays same =
    ap kept_of
    (told_same old.written.now new.written.now folder (dest_tree old.dest) (dest_tree new.dest)
    stays.written same)

-- a directory is made
pub makes_dirs : dest.DirLaw kept_in MakesDir
makes_dirs old new folder p (Ok x) named can by =
    ap kept_of (becomes old new folder (λ t. put t p Folder) by.stays
    (λ at. by.made p named (ap (λ (l : List ℕ). entry_text l p) (sym at))))
makes_dirs old new folder p (Err e) named can by = keeps old new folder by.stays by.made

-- a file is made
pub makes_files : dest.FileLaw kept_in MakesFile
makes_files old new folder p (Ok f) named can by = (
  becomes old new folder (λ t. put t p (Bytes [])) by.stays (λ at. (made at).0),
  λ t is. (made (told_is old.written.now (dest_tree old.dest) folder t is).0).1,
)
  where
    made : old.written.now ≡ folder → (dest_tree new.dest ≡ put (dest_tree old.dest) p (Bytes []))
        × (f.path ≡ Some p)
    made at = by.made p named (ap (λ (l : List ℕ). entry_text l p) (sym at))
makes_files old new folder p (Err e) named can by = keeps old new folder by.stays by.made

-- something is moved
pub moves : dest.MoveLaw kept_in Moves
moves old new folder from to (Ok x) named_from named_to can by = (
  becomes old new folder (λ t. moved t from to) by.stays
      (λ at. by.made from named_from (ap (λ (l : List ℕ). entry_text l from) (sym at)) to named_to
      (ap (λ (l : List ℕ). entry_text l to) (sym at))),
  λ f q at apart. at,
)
moves old new folder from to (Err e) named_from named_to can by = keeps old new folder by.stays by.made

-- something is written
pub writes : dest.WriteLaw kept_in Writes
writes old new folder q file after piece reply at by =
    let placed = λ (o : old.written.now ≡ folder). at (dest_tree old.dest) (told_here o) in
    by_reply reply (λ o. by.added q (placed o))
  where
    told_here : old.written.now ≡ folder
        → told_at old.written.now (dest_tree old.dest) folder ≡ Some (dest_tree old.dest)
    told_here o = ap (λ (l : List ℕ). told_at old.written.now (dest_tree old.dest) l) (sym o)
        ∙ ap (λ (b : Bool). cond b (Some (dest_tree old.dest)) None) (name_itself old.written.now)

    part : (count : ℕ) → (old.written.now ≡ folder → IsAdded old new q piece count)
        → dest.AddsPart (kept_in old folder) (kept_in new folder) q after piece count
    part count is = record {
      tree = becomes old new folder (λ t. added t q (take count piece)) by.stays is;
      place = λ t told. by.path ∙ at t told;
    }

    differs : bytes_eq old.written.now folder ≡ false → old.written.now ≡ folder → ⊥
    differs other o =
        let same : bytes_eq old.written.now folder ≡ true =
        ap (λ (l : List ℕ). bytes_eq old.written.now l) (sym o) ∙ name_itself old.written.now in
        absurd (cc)

    by_reply : (reply : Result ℕ Error) → (old.written.now ≡ folder
        → MatchResult reply (IsAdded old new q piece) (λ _. (count : ℕ) × IsAdded old new q piece count))
        → dest.Adds (kept_in old folder) (kept_in new folder) q after piece reply
    by_reply (Ok count) is = part count is
    by_reply (Err e) is = failed (bytes_eq old.written.now folder) refl
      where
        failed : (b : Bool) → bytes_eq old.written.now folder ≡ b
            → (count : ℕ) × dest.AddsPart (kept_in old folder) (kept_in new folder) q after piece count
        failed true here =
            let some = is (same_name old.written.now folder here) in
            (some.0, part some.0 (λ o. some.1))
        failed false other = (0, part 0 (λ o. absurd (differs other o)))

-- the folder that is written has a tree
pub trees : dest.TreeLaw kept_in
trees s folder t is =
    subst IsTree (told_is s.written.now (dest_tree s.dest) folder t is).1
    (IsTree-tree_of (forest_of s.dest.entries))

-- the folder that is read has a proper tree
pub propers : source.ProperLaw forest_in
propers s folder f is =
    subst (λ (g : Forest). is_proper g ≡ true) (told_is s.read.now (source_tree s.source) folder f is).1
    s.source.proper

-- a directory is opened, and gives its names
pub opens_dirs : source.NamesLaw forest_in names_left OpensDir
opens_dirs old new folder p reply named can by = record {
  same = ap (λ (s : MemorySystem). forest_in s folder) by.same;
  given = λ f is.
      let told = told_is old.read.now (source_tree old.source) folder f is in
      subst (λ (g : Forest). IfOk reply (λ d. source.GivesAll (names_left d) (dir_at g p))) told.1
      (by.source p named (ap (λ (l : List ℕ). entry_text l p) (sym told.0)));
}
