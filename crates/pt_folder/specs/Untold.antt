-- A system that tells nothing keeps to the laws.
use Rattle.std.specs.Prelude.{◌≡◌, ℕ, Bool, List, Option, None, Some, IsSome, true, Result, Ok, Err, refl}
use Rattle.std.specs.Option.{ForSome}
use Rattle.std.specs.declared.io.Error.{Error}
use Rattle.pt_tree.specs.Forest.{Forest, is_proper}
use Rattle.pt_tree.specs.Path.{Path}
use Rattle.pt_tree.specs.Tree.{Tree, IsTree}
use Rattle.pt_folder.specs.FailingLaws.{FailsStillLaw}
use Rattle.pt_folder.specs.SourceLaws.{Listed, Looked, Measured, Opened}
use Rattle.pt_folder.specs.DestLaws.{Adds, Kept, MakesDir, MakesFile, Moves}
use Rattle.pt_folder.specs.DestLaws.{Looked as Seen, Opened as Peeked}
use Rattle.pt_tree.specs.declared.kind.Kind.{Kind}

-- no tree of a folder that is read
abbrev pub no_forest : Option Forest
no_forest = None

-- nothing is known of the bytes of a file
abbrev pub unknown : {F : Type 0} → F → Option (List ℕ)
unknown file = None

-- the law of a look
pub untold_look : (p : Path) (reply : Result Kind Error) → Looked no_forest no_forest p reply
untold_look p reply = record { same = refl; shown = λ f is. absurd (cc) }

-- the law of a file's length
pub untold_length : (p : Path) (reply : Result ℕ Error) → Measured no_forest no_forest p reply
untold_length p reply = record { same = refl; told = λ f is. absurd (cc) }

-- the law of an opening
pub untold_open : {F : Type 0} (p : Path) (reply : Result F Error)
    → Opened unknown unknown no_forest no_forest p reply
untold_open p (Ok file) = record { same = refl; start = refl; given = λ f is. absurd (cc) }
untold_open p (Err e) = record { same = refl; start = tt; given = λ f is. absurd (cc) }

-- the law of the names of a directory
pub untold_names : {D : Type 0} (p : Path) (reply : Result D Error)
    → Listed unknown no_forest no_forest p reply
untold_names p reply = record { same = refl; given = λ f is. absurd (cc) }

-- the law that the tree is proper
pub untold_proper : (f : Forest) → no_forest ≡ Some f → is_proper f ≡ true
untold_proper f is = absurd (cc)

-- no paths at which it fails
abbrev pub no_paths : Option (Path → Bool)
no_paths = None

-- no files of which is told whether they fail
abbrev pub no_fails : {F : Type 0} → Option (F → Bool)
no_fails = None

-- the law of such a file
pub untold_fails : {F : Type 0} (P : (F → Bool) → Type 0) → ForSome no_fails P
untold_fails P = λ fails is. absurd (cc)

-- that more is told where it fails
pub untold_fails_told : {A : Type 0} → IsSome no_paths → A
untold_fails_told some = absurd (cc)

-- that no call changes where it fails
pub untold_fails_still : {S F D : Type 0} (looks : S → List ℕ → Result Kind Error → S → Type 0)
    (opens : S → List ℕ → Result F Error → S → Type 0) (opens_dir : S → List ℕ → Result D Error → S → Type 0)
    → FailsStillLaw (λ s folder. no_paths) looks opens opens_dir
untold_fails_still looks opens opens_dir = record {
  looked = λ old new text reply by folder. refl;
  opened = λ old new text reply by folder. refl;
  listed = λ old new text reply by folder. refl;
}

-- the laws of where it fails
pub untold_fails_at : (P : (Path → Bool) → Type 0) → ForSome no_paths P
untold_fails_at P = λ at is. absurd (cc)

-- no tree of a folder that is written
abbrev pub no_kept : {F : Type 0} → Kept F
no_kept = record { tree = None; place = λ _. None }

-- the law of a look there
pub untold_kind : {F : Type 0} (p : Path) (reply : Result Kind Error)
    → Seen (no_kept {F = F}) no_kept p reply
untold_kind p reply = record { same = refl; shown = λ t is. absurd (cc) }

-- the law of a directory that is made
pub untold_dir : (F : Type 0) (p : Path) (reply : Result (Unit {0}) Error)
    → MakesDir (no_kept {F = F}) no_kept p reply
untold_dir F p (Ok x) = refl
untold_dir F p (Err e) = refl

-- the law of a move
pub untold_move : (F : Type 0) (from to : Path) (reply : Result (Unit {0}) Error)
    → Moves (no_kept {F = F}) no_kept from to reply
untold_move F from to (Ok x) = (refl, λ f q at apart. at)
untold_move F from to (Err e) = refl

-- the law of a file that is made
pub untold_file : {F : Type 0} (p : Path) (reply : Result F Error)
    → MakesFile (no_kept {F = F}) no_kept p reply
untold_file p (Ok x) = (refl, λ t is. absurd (cc))
untold_file p (Err e) = refl

-- the law of a write
pub untold_write : {F : Type 0} (q : Path) (file : F) (piece : List ℕ) (reply : Result ℕ Error)
    → Adds (no_kept {F = F}) no_kept q file piece reply
untold_write q file piece (Ok n) = record { tree = refl; place = λ t is. absurd (cc) }
untold_write q file piece (Err e) = (0, record { tree = refl; place = λ t is. absurd (cc) })

-- the law of a file that is looked into
pub untold_peek : {F R : Type 0} (left : R → Option (List ℕ)) (p : Path) (reply : Result R Error)
    → Peeked left (no_kept {F = F}) no_kept p reply
untold_peek left p reply = record { same = refl; bytes = λ t is. absurd (cc) }

-- the law that it is a tree
pub untold_tree : (t : Tree) → let none : Option Tree = None in none ≡ Some t → IsTree t
untold_tree t is = absurd (cc)
