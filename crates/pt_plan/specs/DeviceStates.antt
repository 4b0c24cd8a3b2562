-- What stands outside a run, as far as its devices tell, and how one turn finds and leaves it.
use Rattle.std.specs.Prelude.{◌≡◌, ℕ, Bool, true, cond, List, [], ◌∷◌, take, Option, None, Some, ⊤}
use Rattle.std.specs.Io.KnownBytes.{Appends}
use Rattle.std.specs.Option.{option_map}
use Rattle.pt_object.specs.Script.{Item, MakeFolder, MakeFile, done}
use Rattle.pt_tree.specs.Dest.{Writing, IsKindAt, IsPeeked, after_append, after_create, after_finish, after_mkdir, after_rename}
use Rattle.pt_tree.specs.Listing.{Item as Entry, names_rise}
use Rattle.pt_tree.specs.Forest.{Forest}
use Rattle.pt_tree.specs.Log.{AppendsFront}
use Rattle.pt_tree.specs.Path.{Path}
use Rattle.pt_tree.specs.Source.{Reading, IsListed, IsRead, IsSeen, after_next, after_open, tree_in}
use Rattle.pt_tree.specs.Tree.{Bytes, Tree, put}
use Rattle.pt_tree.specs.declared.kind.Kind.{Kind}
use Rattle.pt_tree.specs.declared.kind.Kind.TheVariants as kind
use Rattle.pt_plan.specs.Lines.{Line, line_text}

-- how often each device failed
pub record Failures : Type 0 where
  pub source : ℕ
  pub dest : ℕ
  pub log : ℕ

-- the three devices, each as it tells, and their failures
pub record DeviceStates : Type 0 where
  pub source : Option Reading
  pub dest : Option Writing
  pub log : Option (List ℕ)
  pub failures : Failures

-- ---- what a turn asks and does

-- what it asks of the source, with the answer
pub data Asked : Type 0 where
  AsksNothing : Asked
  Looks : (seen : List (Path × Option Kind)) → Asked
  Lists : (path : Path) → (entries : List Entry) → Asked
  LooksAndLists : (seen : List (Path × Option Kind)) → (path : Path) → (entries : List Entry) → Asked
  Opens : (path : Path) → Asked
  Reads : (block : List ℕ) → Asked
  OpensAndReads : (path : Path) → (block : List ℕ) → Asked

-- what it asks of the destination, with the answer, and does to it
pub data Change : Type 0 where
  ChangesNothing : Change
  Finds : (path : Path) → (here : Option Kind) → Change
  Peeks : (path : Path) → (block : List ℕ) → Change
  FindsNoneAndMakes : (path : Path) → Change
  Makes : (item : Item) → Change
  Creates : (path : Path) → Change
  Adds : (piece : List ℕ) → Change
  Finishes : Change
  Renames : (from : Path) → (to : Path) → Change

-- the calls of one turn: what it asks of the source, what it does in the destination, and the line that it tells
pub record Calls : Type 0 where
  pub asked : Asked
  pub change : Change
  pub line : Option Line

-- no call is made
abbrev pub no_calls : Calls
no_calls = record { asked = AsksNothing; change = ChangesNothing; line = None }

-- the source alone is asked
abbrev pub asks : Asked → Calls
asks asked = record { asked = asked; change = ChangesNothing; line = None }

-- the destination alone is changed
abbrev pub does : Change → Calls
does change = record { asked = AsksNothing; change = change; line = None }

-- a line alone is told
abbrev pub tells : Line → Calls
tells line = record { asked = AsksNothing; change = ChangesNothing; line = Some line }

-- the line is told, or nothing is
abbrev pub tells_if : Bool → Line → Calls
tells_if told line =
    record { asked = AsksNothing; change = ChangesNothing; line = cond told (Some line) None }

-- ---- how the devices answer, and what they are left with, where they tell

-- at each of these paths this is seen, one look after another
abbrev pub AreSeen : Option Forest → List (Path × Option Kind) → Type 0
AreSeen tree [] = ⊤
AreSeen tree (look ∷ looks) = IsSeen tree look.0 look.1 × AreSeen tree looks

-- the source gives these answers; the names that are listed rise, whether it tells or not
unfoldable pub Answers : Asked → Option Reading → Option Reading → Type 0
Answers AsksNothing old new = new ≡ old
Answers (Looks seen) old new = AreSeen (tree_in old) seen × (new ≡ old)
Answers (Lists path entries) old new = IsListed old path entries × (names_rise entries ≡ true) × (new ≡ old)
Answers (LooksAndLists seen path entries) old new =
    AreSeen (tree_in old) seen × IsListed old path entries × (names_rise entries ≡ true) × (new ≡ old)
Answers (Opens path) old new = new ≡ option_map (after_open path) old
Answers (Reads block) old new = IsRead old block × (new ≡ option_map after_next old)
Answers (OpensAndReads path block) old new =
    IsRead (option_map (after_open path) old) block
    × (new ≡ option_map after_next (option_map (after_open path) old))

-- a folder is made, or a file with all its bytes, which is closed
abbrev pub after_make : Item → Writing → Writing
after_make (MakeFolder path) s = after_mkdir path s
after_make (MakeFile path bytes) s = record { tree = done (MakeFile path bytes) s.tree; writing = None }

-- the destination gives these answers, and is changed so
unfoldable pub Changes : Change → Option Writing → Option Writing → Type 0
Changes ChangesNothing old new = new ≡ old
Changes (Finds path here) old new = IsKindAt old path here × (new ≡ old)
Changes (Peeks path block) old new =
    IsKindAt old path (Some kind.File) × IsPeeked old path block × (new ≡ old)
Changes (FindsNoneAndMakes path) old new = IsKindAt old path None × (new ≡ option_map (after_mkdir path) old)
Changes (Makes item) old new = new ≡ option_map (after_make item) old
Changes (Creates path) old new = new ≡ option_map (after_create path) old
Changes (Adds piece) old new = new ≡ option_map (after_append piece) old
Changes Finishes old new = new ≡ option_map after_finish old
Changes (Renames from to) old new = new ≡ option_map (after_rename from to) old

-- the log gets the line, if there is one
unfoldable pub Puts : Option Line → Option (List ℕ) → Option (List ℕ) → Type 0
Puts None old new = new ≡ old
Puts (Some line) old new = Appends old new (line_text line)

-- ---- what a turn leaves that breaks off

-- the destination's tree, if it tells
abbrev pub dest_tree : Option Writing → Option Tree
dest_tree told = option_map (λ s. s.tree) told

-- a block that it read was the source's
abbrev pub WasRead : Asked → Option Reading → Type 0
WasRead (Reads block) source = IsRead source block
WasRead _ source = ⊤

-- where it tells a line, what it found stands in the destination
abbrev pub WasFound : Option Line → Change → Option Writing → Type 0
WasFound None change dest = ⊤
WasFound (Some line) (Finds path here) dest = IsKindAt dest path here
WasFound (Some line) _ dest = ⊤

-- of what it does in the destination: nothing; of a file some bytes, from its start; or of a piece
pub data LeavesPart (old new : Option Writing) : Change → Type 0 where
  Untouched : (change : Change) → dest_tree new ≡ dest_tree old → LeavesPart old new change
  OfFile : (path : Path) (bytes : List ℕ) (count : ℕ)
      → dest_tree new ≡ option_map (done (MakeFile path (take count bytes))) (dest_tree old)
      → LeavesPart old new (Makes (MakeFile path bytes))
  NewFile : (path : Path) → dest_tree new ≡ option_map (λ t. put t path (Bytes [])) (dest_tree old)
      → LeavesPart old new (Creates path)
  OfPiece : (piece : List ℕ) (count : ℕ) → new ≡ option_map (after_append (take count piece)) old
      → LeavesPart old new (Adds piece)

-- of the line, from its start
abbrev pub LeavesFront : Option Line → Option (List ℕ) → Option (List ℕ) → Type 0
LeavesFront None old new = new ≡ old
LeavesFront (Some line) old new = AppendsFront old new (line_text line)
