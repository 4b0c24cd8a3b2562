-- What a rehearsal remembers, what it says of a path by that, and what it remembers after each call.
use Rattle.std.specs.Prelude.{◌≡◌, ◌||◌, ℕ, Bool, true, false, cond, nat_lt, length, List, [], ◌∷◌, Option, None, Some, Result, Ok, Err}
use Rattle.std.specs.Option.{option_map}
use Rattle.std.specs.Str.{bytes_eq}
use Rattle.pt_tree.specs.Path.{Path, joined}
use Rattle.pt_rehearsal.specs.Texts.{has, with_text}
use Rattle.pt_rehearsal.specs.declared.remembered.Inner.{Inner}
use Rattle.pt_rehearsal.specs.declared.remembered.Remembered.{Remembered}
use Rattle.pt_rehearsal.specs.declared.remembered.Recall.{Recall}
use Rattle.pt_rehearsal.specs.declared.remembered.Recall.TheVariants as recall

-- a directory at the top that was made, and the names that were made in it
pub record Within : Type 0 where
  pub name : List ℕ
  pub made : List ℕ → Bool

-- the texts of the directories that were made or moved to; the directory at the top that is filled now; the one that
-- was filled and then moved to a place at the top; and the least number of names that anything moved below has
pub record View : Type 0 where
  pub folder : List ℕ → Bool
  pub filling : Option Within
  pub filled : Option Within
  pub least : ℕ

-- the directory that is filled, as seen: its name, and which names were made in it
abbrev pub inner_of : Inner → Within
inner_of inner = record { name = inner.name; made = has inner.names }

-- what is remembered, as seen
abbrev pub view : Remembered → View
view r = record {
  folder = has r.folders;
  filling = option_map inner_of r.filling;
  filled = option_map inner_of r.filled;
  least = r.least;
}

-- nothing is remembered
abbrev pub nothing : View
nothing = record { folder = λ _. false; filling = None; filled = None; least = 18446744073709551615 }

-- ---- what is said of a path

-- it is the directory
abbrev pub is_itself : Option Within → Path → Bool
is_itself None p = false
is_itself (Some w) [] = false
is_itself (Some w) (n ∷ []) = bytes_eq n w.name
is_itself (Some w) (n ∷ m ∷ rest) = false

-- it is below the directory
abbrev pub is_inside : Option Within → Path → Bool
is_inside None p = false
is_inside (Some w) [] = false
is_inside (Some w) (n ∷ []) = false
is_inside (Some w) (n ∷ m ∷ rest) = bytes_eq n w.name

-- it is at or below something that was made in the directory
abbrev pub is_met : Option Within → Path → Bool
is_met None p = false
is_met (Some w) [] = false
is_met (Some w) (n ∷ []) = false
is_met (Some w) (n ∷ m ∷ rest) = cond (bytes_eq n w.name) (w.made m) false

-- it is remembered as a directory that was made
abbrev pub is_folder : View → Path → Bool
is_folder v p = v.folder (joined p) || is_itself v.filling p

-- what stands there may be another than in the folder, and it is not known what
abbrev pub is_hidden : View → Path → Bool
is_hidden v p = is_inside v.filling p || (is_met v.filled p || nat_lt v.least (length p))

-- a directory, something hidden, or what stands in the folder
abbrev pub recall_by : Bool → Bool → Recall
recall_by true hidden = recall.Folder
recall_by false true = recall.Hidden
recall_by false false = recall.Standing

-- what is said of a path by what is remembered
abbrev pub recall_at : View → Path → Recall
recall_at v p = recall_by (is_folder v p) (is_hidden v p)

-- ---- what is remembered after a call, where it can be

-- with this directory
abbrev pub with_folder : Path → View → View
with_folder p v = record v { folder = with_text (joined p) v.folder }

-- with the name that the path has in the directory, if that is the directory's own entry
abbrev pub met_in : Path → Within → Within
met_in [] w = w
met_in (n ∷ []) w = w
met_in (n ∷ m ∷ []) w = cond (bytes_eq n w.name) (record w { made = with_text m w.made }) w
met_in (n ∷ m ∷ k ∷ rest) w = w

-- with this name in the directory that is filled
abbrev pub with_met : Path → View → View
with_met p v = record v { filling = option_map (met_in p) v.filling }

-- a directory of this name is filled from now on, unless one is filled
abbrev pub begun_at : List ℕ → Option Within → View → Option View
begun_at n None v = Some (record v { filling = Some (record { name = n; made = λ _. false }) })
begun_at n (Some w) v = None

-- what is remembered once a directory is made where the folder is as it was
abbrev pub made_known : View → Path → Option View
made_known v [] = None
made_known v (n ∷ []) = begun_at n v.filling v
made_known v (n ∷ m ∷ rest) = Some (with_folder (n ∷ m ∷ rest) v)

-- in the directory that is filled, something at this path
abbrev pub made_inside : View → Path → Option View
made_inside v p = cond (is_inside v.filling p) (Some (with_met p v)) None

-- the same by what is said of the path
abbrev pub made_dir_as : Recall → View → Path → Option View
made_dir_as recall.Folder v p = None
made_dir_as recall.Hidden v p = made_inside v p
made_dir_as recall.Standing v p = made_known v p

-- what is remembered once a directory is made, where it can be
abbrev pub made_dir : View → Path → Option View
made_dir v p = made_dir_as (recall_at v p) v p

-- what is remembered once a file is made, by what is said of the path
abbrev pub made_file_as : Recall → View → Path → Option View
made_file_as recall.Folder v p = None
made_file_as recall.Hidden v p = made_inside v p
made_file_as recall.Standing v p = None

-- what is remembered once a file is made, where it can be
abbrev pub made_file : View → Path → Option View
made_file v p = made_file_as (recall_at v p) v p

-- the directory under its new name
abbrev pub renamed_to : List ℕ → Option Within → Option Within
renamed_to n None = None
renamed_to n (Some w) = Some (record w { name = n })

-- the lesser of two numbers
abbrev pub lesser : ℕ → ℕ → ℕ
lesser m n = cond (nat_lt n m) n m

-- one that is filled goes to the top once
abbrev pub moved_at_top : List ℕ → Option Within → View → Option View
moved_at_top n None v = Some (record {
  folder = with_text (joined (n ∷ [])) v.folder;
  filling = None;
  filled = renamed_to n v.filling;
  least = v.least;
})
moved_at_top n (Some w) v = None

-- what is remembered once the directory that was filled is moved to where the folder is as it was
abbrev pub moved_known : View → Path → Option View
moved_known v [] = None
moved_known v (n ∷ []) = moved_at_top n v.filled v
moved_known v (n ∷ m ∷ rest) = Some (record {
  folder = with_text (joined (n ∷ m ∷ rest)) v.folder;
  filling = None;
  filled = v.filled;
  least = lesser v.least (length (n ∷ m ∷ rest));
})

-- the same by what is said of the path
abbrev pub moved_as : Recall → View → Path → Option View
moved_as recall.Folder v to = None
moved_as recall.Hidden v to = None
moved_as recall.Standing v to = moved_known v to

-- what is remembered once something is moved, where it can be: the directory that is filled, and nothing else
abbrev pub moved_to : View → Path → Path → Option View
moved_to v from to = cond (is_itself v.filling from) (moved_as (recall_at v to) v to) None

-- where it can be remembered it is, else nothing is changed
abbrev pub Becomes : Option View → Bool → View → View → Type 0
Becomes None can old new = (can ≡ false) × (new ≡ old)
Becomes (Some next) can old new = (can ≡ true) × (new ≡ next)

-- after a call, it could be remembered, and is; after a failed one nothing is changed
abbrev pub Remembers : {T F : Type 0} → Option View → Result T F → View → View → Type 0
Remembers next (Ok _) old new = next ≡ Some new
Remembers next (Err _) old new = new ≡ old
