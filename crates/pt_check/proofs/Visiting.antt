-- The steps of a check through a folder.
use Rattle.std.proofs.Common.{
  arith,
  get_or,
  ◌≡◌,
  ◌<◌,
  ◌≤◌,
  ◌+◌,
  ◌-◌,
  ◌==◌,
  ℕ,
  Bool,
  true,
  false,
  List,
  [],
  ◌∷◌,
  ◌++◌,
  refl,
  sym,
  ap,
  ◌∙◌,
  subst,
  length,
  cond,
  inl,
  inr,
}
use Rattle.std.proofs.lemmas.Bool.{ne_eqb}
use Rattle.std.proofs.lemmas.Option.{slice_get_cases, slice_get_past}
use Rattle.std.specs.Option.{ForSome, option_and_then, option_map}
use Rattle.std.specs.Prelude.{◌⊎◌, IsSome, is_some, Option, None, Some, slice_get}
use Rattle.pt_check.specs.Lines.{Told}
use Rattle.pt_check.specs.Shares.{is_all, is_own_entry, is_own_in, is_walked}
use Rattle.pt_check.specs.Visits.{
  Begins,
  Enters,
  Finds,
  Folder,
  Judges,
  Meets,
  Opens,
  OpensIf,
  Says,
  CheckState,
  Tells,
  TellsUnlisted,
  Visits,
  VisitsFolder,
  Where,
  begun,
  counting,
  ended,
  finding_of,
  folder_in,
  found_by,
  holder_in,
  meeting,
}
use Rattle.pt_check.specs.Within.{below}
use Rattle.pt_check.specs.declared.trouble.Trouble.TheVariants as trouble
use Rattle.pt_check.specs.declared.wants.Wants.{Wants}
use Rattle.pt_check.specs.declared.within.Within.{Within}
use Rattle.pt_name.specs.Share.{Portion}
use Rattle.pt_walk.specs.declared.site.Finding.{Finding}
use Rattle.pt_tree.specs.Forest.{Forest, Node, File, Dir, Other, as_dir, as_file, dir_at, file_at, find, is_proper, kind_of, listing_at, listing_of, node_at}
use Rattle.pt_tree.specs.Listing.{Item}
use Rattle.pt_tree.specs.Path.{Path, joined}
use Rattle.pt_tree.specs.Source.{Reading, tree_in}
use Rattle.pt_plan.specs.TurnStart.{is_dir_kind, kind_in}
use Rattle.pt_tree.specs.declared.kind.Kind.{Kind}
use Rattle.pt_tree.specs.declared.kind.Kind.TheVariants as kind
use Rattle.pt_walk.specs.Left.{bytes_at, entries_from, inside_at}
use Rattle.pt_tree.proofs.Told.{proper_in}
use Rattle.pt_plan.proofs.FoundKinds.{kind_listed}
use Rattle.pt_walk.proofs.Ahead.{dir_ahead, dir_stands, file_ahead, inside_lists, nothing_ahead, other_ahead}

-- the tree that is told is proper
abbrev pub IsProperTold : Option Reading → Type 0
IsProperTold told = ForSome told (λ s. is_proper s.tree ≡ true)

-- of the folder at this path what was visited up to a place leads on: whatever visiting the rest comes to, visiting all comes to it
abbrev pub VisitedTo : Says → Portion → Wants → Bool → Folder → Finding → Forest → ℕ → CheckState → CheckState → Type 0
VisitedTo says share wants own folder seen top place first now = (last : CheckState)
    → Visits says share wants own folder seen (entries_from place (inside_at top folder.path)) now last
    → Visits says share wants own folder seen (inside_at top folder.path) first last

-- what lies in a folder is the share's own
abbrev pub is_mine : Portion → Wants → Bool → Folder → Finding → Bool
is_mine share wants own folder seen = is_own_in wants.layout share (folder.path, folder.prefix) seen own

-- and so is an entry of this name and kind
abbrev pub is_mine_at : Portion → Wants → Bool → Folder → Finding → List ℕ → Kind → Bool
is_mine_at share wants own folder seen name what =
    is_own_entry share (folder.path ++ name ∷ []) folder.here (name, what) (is_mine share wants own folder seen)

-- a file that is listed stands there
pub file_stands : (top : Forest) (path : Path) (items : List Item) (place : ℕ) (name : List ℕ) → is_proper top ≡ true → listing_at top path ≡ Some items
    → slice_get items place ≡ Some (name, kind.File) → IsSome (file_at top (path ++ name ∷ []))
file_stands top path items place name proper listed at =
    let ahead = file_ahead top path items place name proper listed at in
    subst (λ (o : Option (List ℕ)). IsSome o) (sym ahead.file_is) refl

-- a file was met and opened
pub visited_file : (says : Says) (share : Portion) (wants : Wants) (own : Bool) (folder : Folder) (seen : Finding) (top : Forest) (items : List Item)
    (place : ℕ) (name : List ℕ) (first now met opened : CheckState)
    → is_proper top ≡ true → listing_at top folder.path ≡ Some items → slice_get items place ≡ Some (name, kind.File)
    → VisitedTo says share wants own folder seen top place first now
    → Where (is_mine share wants own folder seen) (Meets wants (folder.path ++ name ∷ []) (holder_in folder seen) (name, kind.File)) now met
    → Where (is_mine share wants own folder seen)
    (Opens wants.reads (folder.path ++ name ∷ []) (holder_in folder seen) (bytes_at top (folder.path ++ name ∷ []))) met opened
    → VisitedTo says share wants own folder seen top (place + 1) first opened
visited_file says share wants own folder seen top items place name first now met opened proper listed at to meets opens last rest =
    let ahead = file_ahead top folder.path items place name proper listed at in
    to last (subst (λ (f : Forest). Visits says share wants own folder seen f now last) (sym ahead.rest_is) (met, meets, opened, opens, rest))

-- what is neither a file nor a directory was met
pub visited_other : (says : Says) (share : Portion) (wants : Wants) (own : Bool) (folder : Folder) (seen : Finding) (top : Forest) (items : List Item)
    (place : ℕ) (name : List ℕ) (first now met : CheckState)
    → is_proper top ≡ true → listing_at top folder.path ≡ Some items → slice_get items place ≡ Some (name, kind.Other)
    → VisitedTo says share wants own folder seen top place first now
    → Where (is_mine share wants own folder seen) (Meets wants (folder.path ++ name ∷ []) (holder_in folder seen) (name, kind.Other)) now met
    → VisitedTo says share wants own folder seen top (place + 1) first met
visited_other says share wants own folder seen top items place name first now met proper listed at to meets last rest =
    let ahead = other_ahead top folder.path items place name proper listed at in
    to last (subst (λ (f : Forest). Visits says share wants own folder seen f now last) (sym ahead) (met, meets, rest))

-- a folder was met, and visited if the share walks it
pub visited_dir : (says : Says) (share : Portion) (wants : Wants) (own : Bool) (folder : Folder) (seen : Finding) (top : Forest) (items : List Item)
    (place : ℕ) (name : List ℕ) (mine : Bool) (first now met left : CheckState)
    → is_proper top ≡ true → listing_at top folder.path ≡ Some items → slice_get items place ≡ Some (name, kind.Dir)
    → mine ≡ is_mine_at share wants own folder seen name kind.Dir
    → VisitedTo says share wants own folder seen top place first now
    → Where mine (Meets wants (folder.path ++ name ∷ []) (holder_in folder seen) (name, kind.Dir)) now met
    → Where (is_walked share (folder.path ++ name ∷ []) (folder_in folder seen name).here mine)
    (VisitsFolder says share wants mine (folder_in folder seen name) (inside_at top (folder.path ++ name ∷ [])))
    (counting (begun (folder_in folder seen name).here (holder_in folder seen)) met) left
    → VisitedTo says share wants own folder seen top (place + 1) first (counting (ended (folder_in folder seen name).here met.numbers) left)
visited_dir says share wants own folder seen top items place name mine first now met left proper listed at mine_is to meets visits last rest =
    let path : Path = folder.path ++ name ∷ [] in
    let start = counting (begun (folder_in folder seen name).here (holder_in folder seen)) met in
    let ahead = dir_ahead top folder.path items place name proper listed at in
    let met_it = subst (λ (o : Bool). Where o (Meets wants path (holder_in folder seen) (name, kind.Dir)) now met) mine_is meets in
    let visited = subst (λ (o : Bool). Where (is_walked share path (folder_in folder seen name).here o)
    (VisitsFolder says share wants o (folder_in folder seen name) (inside_at top path)) start left) mine_is visits in
    to last (subst (λ (f : Forest). Visits says share wants own folder seen f now last) (sym ahead.rest_is) (met, met_it, left, visited, rest))

-- before its end there is an entry
pub goes_past : (items : List Item) (place : ℕ) → place < length items → slice_get items place ≡ None → ⊥
goes_past items place less is = by (slice_get_cases items place).1
  where
    by : ((x : Item) × (place < length items) × (slice_get items place ≡ Some x) × (get_or items place x ≡ x))
        ⊎ ((length items ≤ place) × (slice_get items place ≡ None)) → ⊥
    by (inl (x, within, some, same)) = absurd (cc)
    by (inr (past, none_is)) = omega (arith, less, past)

-- at the end of the listing all was visited
pub visited_all : (says : Says) (share : Portion) (wants : Wants) (own : Bool) (folder : Folder) (seen : Finding) (top : Forest) (items : List Item)
    (place : ℕ) (first now : CheckState) → listing_at top folder.path ≡ Some items → slice_get items place ≡ None
    → VisitedTo says share wants own folder seen top place first now → Visits says share wants own folder seen (inside_at top folder.path) first now
visited_all says share wants own folder seen top items place first now listed at to =
    let ahead = nothing_ahead top folder.path items place listed at in
    to now (subst (λ (f : Forest). Visits says share wants own folder seen f now now) (sym ahead) refl)

-- what isn't opened stays as it is
unopened : (mine : Bool) (wants : Wants) (path : Path) (here : Within) (bytes : List ℕ) (a b : CheckState)
    → Where mine (OpensIf wants.reads path (here, kind.Other) bytes) a b → b ≡ a
unopened true wants path here bytes a b same = same
unopened false wants path here bytes a b same = same

-- an entry that is no folder was met, and opened if it is a file
pub visited_leaf : (says : Says) (share : Portion) (wants : Wants) (own : Bool) (folder : Folder) (seen : Finding) (top : Forest) (items : List Item)
    (place : ℕ) (name : List ℕ) (here : Kind) (first now met left : CheckState)
    → is_proper top ≡ true → listing_at top folder.path ≡ Some items → slice_get items place ≡ Some (name, here) → (here ≡ kind.Dir → ⊥)
    → VisitedTo says share wants own folder seen top place first now
    → Where (is_mine share wants own folder seen) (Meets wants (folder.path ++ name ∷ []) (holder_in folder seen) (name, here)) now met
    → Where (is_mine share wants own folder seen)
    (OpensIf wants.reads (folder.path ++ name ∷ []) (holder_in folder seen, here) (bytes_at top (folder.path ++ name ∷ []))) met left
    → VisitedTo says share wants own folder seen top (place + 1) first left
visited_leaf says share wants own folder seen top items place name kind.File first now met left proper listed at leaf to meets opens =
    visited_file says share wants own folder seen top items place name first now met left proper listed at to meets opens
visited_leaf says share wants own folder seen top items place name kind.Dir first now met left proper listed at leaf to meets opens = absurd (leaf refl)
visited_leaf says share wants own folder seen top items place name kind.Other first now met left proper listed at leaf to meets opens =
    let path : Path = folder.path ++ name ∷ [] in
    let same : left ≡ met = unopened (is_mine share wants own folder seen) wants path (holder_in folder seen) (bytes_at top path) met left opens in
    subst (λ (s : CheckState). VisitedTo says share wants own folder seen top (place + 1) first s) (sym same)
    (visited_other says share wants own folder seen top items place name first now met proper listed at to meets)

-- what is no folder may be opened if it is a file
pub leaf_stands : (top : Forest) (path : Path) (items : List Item) (place : ℕ) (name : List ℕ) (here : Kind) → is_proper top ≡ true
    → listing_at top path ≡ Some items
    → slice_get items place ≡ Some (name, here) → here ≡ kind.File → IsSome (file_at top (path ++ name ∷ []))
leaf_stands top path items place name here proper listed at is =
    file_stands top path items place name proper listed (at ∙ ap (λ (k : Kind). Some (name, k)) is)

-- ---- the top of a store

-- a folder that is listed at the top stands there
pub root_stands : (here there : Option Forest) (items : List Item) (name : List ℕ) → ForSome here (λ tree. listing_at tree [] ≡ Some items)
    → is_dir_kind (kind_in items name) ≡ true
    → there ≡ here → ForSome there (λ tree. IsSome (dir_at tree (name ∷ [])))
root_stands here there items name listed is same tree at =
    let lists : Some (listing_of tree) ≡ Some items = listed tree (sym same ∙ at) in
    let items_are : items ≡ listing_of tree = cc in
    by (find tree name) (ap is_dir_kind (sym (kind_listed tree name)) ∙ ap (λ (l : List Item). is_dir_kind (kind_in l name)) (sym items_are) ∙ is)
  where
    by : (node : Option Node) → is_dir_kind (option_map kind_of node) ≡ true → is_some (option_and_then as_dir (option_and_then (λ n. node_at n []) node))
        ≡ true
    by None is = absurd (cc)
    by (Some (File bytes)) is = absurd (cc)
    by (Some (Dir inside)) is = refl
    by (Some Other) is = absurd (cc)

-- and so does a file
pub file_at_top : (here : Option Forest) (items : List Item) (name : List ℕ) → ForSome here (λ tree. listing_at tree [] ≡ Some items)
    → kind_in items name ≡ Some kind.File
    → ForSome here (λ tree. IsSome (file_at tree (name ∷ [])))
file_at_top here items name listed is tree at =
    let lists : Some (listing_of tree) ≡ Some items = listed tree at in
    let items_are : items ≡ listing_of tree = cc in
    by (find tree name) (sym (kind_listed tree name) ∙ ap (λ (l : List Item). kind_in l name) (sym items_are) ∙ is)
  where
    by : (node : Option Node) → option_map kind_of node ≡ Some kind.File → is_some (option_and_then as_file (option_and_then (λ n. node_at n []) node)) ≡ true
    by None is = absurd (cc)
    by (Some (File bytes)) is = refl
    by (Some (Dir inside)) is = absurd (cc)
    by (Some Other) is = absurd (cc)

-- ---- the steps of a visit

-- what holds of a tree holds of the same one
pub in_same : (P : Forest → Type 0) (old new : Option Forest) → new ≡ old → ForSome old P → ForSome new P
in_same P old new same holds tree is = holds tree (sym same ∙ is)

-- a folder that isn't too deep is told as unreadable, or begun and visited
pub enters : (says : Says) (share : Portion) (wants : Wants) (own : Bool) (folder : Folder) (items : List Item)
    (visits : Finding → CheckState → CheckState → Type 0) (a b : CheckState) → (folder.left ≡ 0 → ⊥)
    → TellsUnlisted says folder.path false a b
    ⊎ ((seen : Finding) × (m : CheckState) × Begins says share wants own folder items seen a m × visits seen m b)
    → Enters says share wants own folder items visits a b
enters says share wants own folder items visits a b some does = by (folder.left == 0) (ne_eqb folder.left 0 some)
  where
    by : (t : Bool) → t ≡ false → cond t (Where own (Tells (Told folder.path trouble.Deep)) a b)
        (TellsUnlisted says folder.path false a b
        ⊎ ((seen : Finding) × (m : CheckState) × Begins says share wants own folder items seen a m × visits seen m b))
    by true is = absurd (cc)
    by false is = does

-- a folder was found, and judged where it was listed whole
pub begins : (says : Says) (share : Portion) (wants : Wants) (own : Bool) (folder : Folder) (items : List Item) (part mine : Bool) (seen : Finding)
    (a m n b : CheckState) → Finds says folder.path part a m
    → n ≡ meeting share (folder.path, folder.prefix) (found_by part wants.form folder.here items) m
    → cond part (Where mine (Judges wants (folder.path, folder.prefix) folder.here items) n b) (b ≡ n)
    → seen ≡ found_by part wants.form folder.here items → mine ≡ is_mine share wants own folder seen
    → Begins says share wants own folder items seen a b
begins says share wants own folder items true mine seen a m n b (same, goes) meets judges seen_is mine_is =
    let at : Path × List ℕ = (folder.path, folder.prefix) in
    let what = finding_of wants.form folder.here items in
    let whose = mine_is ∙ ap (is_mine share wants own folder) seen_is in
    let judged = subst (λ (o : Bool). Where o (Judges wants at folder.here items) n b) whose judges in
    let met : n ≡ meeting share at what a = meets ∙ ap (meeting share at what) same in
    inl (subst (λ (s : CheckState). Where (is_mine share wants own folder what) (Judges wants at folder.here items) s b) met judged, seen_is, goes)
begins says share wants own folder items false mine seen a m n b tells meets same seen_is mine_is = inr
    (subst (λ (s : CheckState). TellsUnlisted says folder.path true a s) (sym (same ∙ meets)) tells, seen_is)

-- a folder among the entries was met, and visited if the share walks it
pub dir_step : (says : Says) (told : Option Reading) → IsProperTold told
    → (share over : Portion) (wants again : Wants) (own : Bool) (folder : Folder) (seen : Finding) (items : List Item) (place : ℕ) (name : List ℕ)
    (what : Kind) (entry : Path) (inside : Within) (mine walked : Bool) (first now met start after final : CheckState) (there : Option Forest)
    → ForSome (tree_in told) (λ t. listing_at t folder.path ≡ Some items)
    → slice_get items place ≡ Some (name, what) → what ≡ kind.Dir → entry ≡ folder.path ++ name ∷ []
    → inside ≡ below folder.here seen name (length (joined folder.path)) (length (joined entry))
    → mine ≡ is_own_entry share entry folder.here (name, what) (is_mine share wants own folder seen)
    → walked ≡ is_walked share entry inside mine
    → ForSome (tree_in told) (λ t. VisitedTo says share wants own folder seen t place first now)
    → Where mine (Meets wants entry (holder_in folder seen) (name, what)) now met
    → there ≡ tree_in told → again ≡ wants → over ≡ share
    → start ≡ counting (begun inside (holder_in folder seen)) met
    → ForSome there (λ t. Where walked (VisitsFolder says over again mine
    (record { path = entry; prefix = folder.prefix; here = inside; left = folder.left - 1 }) (inside_at t entry)) start after)
    → final ≡ counting (ended inside met.numbers) after
    → ForSome (tree_in told) (λ t. VisitedTo says share wants own folder seen t (place + 1) first final)
dir_step says told proper share over wants again own folder seen items place name what entry inside mine walked first now met start after final there listed at
    is_dir entry_is inside_is mine_is walked_is to meets there_is same_wants same_share start_is visits final_is tree is =
    let path : Path = folder.path ++ name ∷ [] in
    let make : Path → Within → Folder = λ q w. record { path = q; prefix = folder.prefix; here = w; left = folder.left - 1 } in
    let whole : inside ≡ below folder.here seen name (length (joined folder.path)) (length (joined path)) = inside_is
    ∙ ap (λ (q : Path). below folder.here seen name (length (joined folder.path)) (length (joined q))) entry_is in
    let it : make entry inside ≡ folder_in folder seen name = ap (λ (q : Path). make q inside) entry_is ∙ ap (make path) whole in
    let goes : walked ≡ is_walked share path (folder_in folder seen name).here mine = walked_is ∙ ap (λ (q : Path). is_walked share q inside mine) entry_is
    ∙ ap (λ (w : Within). is_walked share path w mine) whole in
    let whose : mine ≡ is_mine_at share wants own folder seen name kind.Dir = mine_is
    ∙ ap (λ (q : Path). is_own_entry share q folder.here (name, what) (is_mine share wants own folder seen)) entry_is
    ∙ ap (λ (k : Kind). is_own_entry share path folder.here (name, k) (is_mine share wants own folder seen)) is_dir in
    let visited : Where walked (VisitsFolder says over again mine (make entry inside) (inside_at tree entry)) start after = visits tree (there_is ∙ is) in
    let read : Where walked (VisitsFolder says share wants mine (make entry inside) (inside_at tree entry)) start after =
    subst (λ (r : Wants). Where walked (VisitsFolder says share r mine (make entry inside) (inside_at tree entry)) start after) same_wants
    (subst (λ (r : Portion). Where walked (VisitsFolder says r again mine (make entry inside) (inside_at tree entry)) start after) same_share visited) in
    let named : Where walked (VisitsFolder says share wants mine (folder_in folder seen name) (inside_at tree entry)) start after =
    subst (λ (f : Folder). Where walked (VisitsFolder says share wants mine f (inside_at tree entry)) start after) it read in
    let below_it : Where walked (VisitsFolder says share wants mine (folder_in folder seen name) (inside_at tree path)) start after =
    subst (λ (q : Path). Where walked (VisitsFolder says share wants mine (folder_in folder seen name) (inside_at tree q)) start after) entry_is named in
    let in_turn = subst (λ (w : Bool). Where w (VisitsFolder says share wants mine (folder_in folder seen name) (inside_at tree path)) start after) goes
    below_it in
    let met_dir : Where mine (Meets wants entry (holder_in folder seen) (name, kind.Dir)) now met =
    subst (λ (k : Kind). Where mine (Meets wants entry (holder_in folder seen) (name, k)) now met) is_dir meets in
    let met_it : Where mine (Meets wants path (holder_in folder seen) (name, kind.Dir)) now met =
    subst (λ (q : Path). Where mine (Meets wants q (holder_in folder seen) (name, kind.Dir)) now met) entry_is met_dir in
    let at_dir : slice_get items place ≡ Some (name, kind.Dir) = at ∙ ap (λ (k : Kind). Some (name, k)) is_dir in
    let begins : start ≡ counting (begun (folder_in folder seen name).here (holder_in folder seen)) met =
    start_is ∙ ap (λ (w : Within). counting (begun w (holder_in folder seen)) met) whole in
    let from_start = subst (λ (s : CheckState). Where (is_walked share path (folder_in folder seen name).here mine)
    (VisitsFolder says share wants mine (folder_in folder seen name) (inside_at tree path)) s after) begins in_turn in
    let ends : final ≡ counting (ended (folder_in folder seen name).here met.numbers) after =
    final_is ∙ ap (λ (w : Within). counting (ended w met.numbers) after) whole in
    subst (λ (s : CheckState). VisitedTo says share wants own folder seen tree (place + 1) first s) (sym ends)
    (visited_dir says share wants own folder seen tree items place name mine first now met after (proper_in told proper tree is) (listed tree is) at_dir whose
    (to tree is) met_it from_start)

-- the same either way
same_either : (b own : Bool) → cond b own own ≡ own
same_either true own = refl
same_either false own = refl

-- what an entry is that is no folder goes by the folder
leaf_is_mine : (share : Portion) (path : Path) (here : Within) (name : List ℕ) (what : Kind) (own : Bool) → (what ≡ kind.Dir → ⊥)
    → is_own_entry share path here (name, what) own ≡ own
leaf_is_mine share path here name kind.File own leaf = same_either (is_all share) own
leaf_is_mine share path here name kind.Dir own leaf = absurd (leaf refl)
leaf_is_mine share path here name kind.Other own leaf = same_either (is_all share) own

-- another entry was met, and opened if it is a file
pub leaf_step : (says : Says) (told : Option Reading) → IsProperTold told
    → (share : Portion) (wants again : Wants) (own : Bool) (folder : Folder) (seen : Finding) (items : List Item) (place : ℕ) (name : List ℕ) (here : Kind)
    (entry : Path) (mine : Bool) (first now met after : CheckState) (there : Option Forest)
    → ForSome (tree_in told) (λ t. listing_at t folder.path ≡ Some items)
    → slice_get items place ≡ Some (name, here) → (here ≡ kind.Dir → ⊥) → entry ≡ folder.path ++ name ∷ []
    → mine ≡ is_own_entry share entry folder.here (name, here) (is_mine share wants own folder seen)
    → ForSome (tree_in told) (λ t. VisitedTo says share wants own folder seen t place first now)
    → Where mine (Meets wants entry (holder_in folder seen) (name, here)) now met
    → there ≡ tree_in told
    → again ≡ wants → ForSome there (λ t. Where mine (OpensIf again.reads entry (holder_in folder seen, here) (bytes_at t entry)) met after)
    → ForSome (tree_in told) (λ t. VisitedTo says share wants own folder seen t (place + 1) first after)
leaf_step says told proper share wants again own folder seen items place name here entry mine first now met after there listed at leaf entry_is mine_is to meets
    there_is same_wants opens tree is =
    let path : Path = folder.path ++ name ∷ [] in
    let whose : mine ≡ is_mine share wants own folder seen = mine_is ∙ leaf_is_mine share entry folder.here name here (is_mine share wants own folder seen) leaf
    in
    let read : Where mine (OpensIf wants.reads entry (holder_in folder seen, here) (bytes_at tree entry)) met after = subst
    (λ (r : Wants). Where mine (OpensIf r.reads entry (holder_in folder seen, here) (bytes_at tree entry)) met after) same_wants (opens tree (there_is ∙ is)) in
    let opened : Where mine (OpensIf wants.reads path (holder_in folder seen, here) (bytes_at tree path)) met after =
    subst (λ (q : Path). Where mine (OpensIf wants.reads q (holder_in folder seen, here) (bytes_at tree q)) met after) entry_is read in
    let met_it : Where mine (Meets wants path (holder_in folder seen) (name, here)) now met =
    subst (λ (q : Path). Where mine (Meets wants q (holder_in folder seen) (name, here)) now met) entry_is meets in
    visited_leaf says share wants own folder seen tree items place name here first now met after (proper_in told proper tree is) (listed tree is) at leaf
    (to tree is)
    (subst (λ (o : Bool). Where o (Meets wants path (holder_in folder seen) (name, here)) now met) whose met_it)
    (subst (λ (o : Bool). Where o (OpensIf wants.reads path (holder_in folder seen, here) (bytes_at tree path)) met after) whose opened)

-- the folder that is visited next stands there
pub dir_there : (told : Option Reading) → IsProperTold told → (path entry : Path) (items : List Item) (place : ℕ) (name : List ℕ) (what : Kind)
    (there : Option Forest)
    → ForSome (tree_in told) (λ t. listing_at t path ≡ Some items) → slice_get items place ≡ Some (name, what) → what ≡ kind.Dir → entry ≡ path ++ name ∷ []
    → there ≡ tree_in told
    → ForSome there (λ t. IsSome (dir_at t entry))
dir_there told proper path entry items place name what there listed at is_dir entry_is there_is tree is =
    let here = sym there_is ∙ is in
    let at_dir : slice_get items place ≡ Some (name, kind.Dir) = at ∙ ap (λ (k : Kind). Some (name, k)) is_dir in
    subst (λ (q : Path). IsSome (dir_at tree q)) (sym entry_is) (dir_stands tree path items place name (proper_in told proper tree here) (listed tree here)
    at_dir)

-- and the file that is opened next
pub leaf_there : (told : Option Reading) → IsProperTold told → (path entry : Path) (items : List Item) (place : ℕ) (name : List ℕ) (what : Kind)
    (there : Option Forest)
    → ForSome (tree_in told) (λ t. listing_at t path ≡ Some items) → slice_get items place ≡ Some (name, what) → entry ≡ path ++ name ∷ []
    → there ≡ tree_in told
    → ForSome there (λ t. what ≡ kind.File → IsSome (file_at t entry))
leaf_there told proper path entry items place name what there listed at entry_is there_is tree is is_file =
    let here = sym there_is ∙ is in
    subst (λ (q : Path). IsSome (file_at tree q)) (sym entry_is) (leaf_stands tree path items place name what (proper_in told proper tree here)
    (listed tree here) at is_file)

-- at the end of its listing a folder was visited
pub all_step : (says : Says) (told : Option Reading) (share : Portion) (wants : Wants) (own : Bool) (folder : Folder) (seen : Finding) (items : List Item)
    (place : ℕ) (a first now : CheckState)
    → ForSome (tree_in told) (λ t. listing_at t folder.path ≡ Some items) → length items ≤ place → (folder.left ≡ 0 → ⊥)
    → Begins says share wants own folder items seen a first
    → ForSome (tree_in told) (λ t. VisitedTo says share wants own folder seen t place first now)
    → ForSome (tree_in told) (λ t. VisitsFolder says share wants own folder (inside_at t folder.path) a now)
all_step says told share wants own folder seen items place a first now listed past some started to tree is =
    let inside = inside_at tree folder.path in
    let lists : items ≡ listing_of inside = sym (inside_lists tree folder.path items (listed tree is)) in
    let starts : Begins says share wants own folder (listing_of inside) seen a first =
    subst (λ (l : List Item). Begins says share wants own folder l seen a first) lists started in
    let all : Visits says share wants own folder seen inside first now = visited_all says share wants own folder seen tree items place first now
    (listed tree is) (slice_get_past items place past) (to tree is) in
    enters says share wants own folder (listing_of inside) (λ h. Visits says share wants own folder h inside) a now some (inr (seen, first, starts, all))
