-- What a root tells after a call.
use Rattle.std.proofs.Common.{◌≡◌, ℕ, List, [], true, refl, ap, subst, ◌∙◌, drop}
use Rattle.std.specs.Prelude.{Option, None, Some, IsSome, is_some, Result, Ok, Err, OnOk, OnErr}
use Rattle.std.specs.Option.{option_map}
use Rattle.pt_tree.specs.Forest.{file_at}
use Rattle.pt_tree.specs.Path.{Path}
use Rattle.pt_tree.specs.Source.{CanList, CanOpen, CanRead, Reading, after_next, after_open, tree_in}
use Rattle.pt_tree.specs.declared.faults.TreeFault.{TreeFault}
use Rattle.pt_tree.specs.declared.kind.Kind.TheVariants as kind
use Rattle.pt_compare.specs.Root.{Reads, Stands, is_reading}
use Rattle.pt_compare.proofs.Roots.{seen_kind, stands_dir, stands_file, top_stands}

-- what is open may be read
pub can_read : (told : Option Reading) → Reads told → CanRead told
unfolding CanRead
can_read None reads = λ s is. absurd (cc)
can_read (Some r) reads = λ s is. let same : r ≡ s = cc in subst (λ (s : Reading). IsSome s.unread) same (there r.unread reads)
  where
    there : (o : Option (List ℕ)) → is_some o ≡ true → IsSome o
    there None h = absurd (cc)
    there (Some x) h = refl

pub next_reads : (old : Option Reading) → Reads old → Reads (option_map after_next old)
next_reads None reads = refl
next_reads (Some r) reads = on r.unread reads
  where
    on : (o : Option (List ℕ)) → is_some o ≡ true → is_some (option_map (drop 8192) o) ≡ true
    on None h = absurd (cc)
    on (Some x) h = refl

pub next_tree : (old : Option Reading) → tree_in (option_map after_next old) ≡ tree_in old
next_tree None = refl
next_tree (Some r) = refl

-- after a block was asked for, a file is open still
pub still_reads : (r : Result (Unit {0}) TreeFault) (old new : Option Reading) → OnOk r (new ≡ option_map after_next old) → OnErr r (new ≡ old) → Reads old
    → Reads new
still_reads (Ok x) old new ok err reads = ap is_reading ok ∙ next_reads old reads
still_reads (Err e) old new ok err reads = ap is_reading err ∙ reads

-- and the tree is the same
pub still_tree : (r : Result (Unit {0}) TreeFault) (old new : Option Reading) → OnOk r (new ≡ option_map after_next old) → OnErr r (new ≡ old)
    → tree_in new ≡ tree_in old
still_tree (Ok x) old new ok err = ap tree_in ok ∙ next_tree old
still_tree (Err e) old new ok err = ap tree_in err

-- what stands as a file may be opened
pub can_open : (told : Option Reading) (p : Path) → Stands (tree_in told) (p, kind.File) → CanOpen told p
unfolding CanOpen
can_open told p stands = λ s is. stands_file (tree_in told) p stands s.tree (ap tree_in is)

-- what stands as a directory may be listed
pub can_list : (told : Option Reading) (p : Path) → Stands (tree_in told) (p, kind.Dir) → CanList told p
unfolding CanList
can_list told p stands = λ s is. stands_dir (tree_in told) p stands s.tree (ap tree_in is)

-- so may the top
pub can_list_top : (told : Option Reading) → CanList told []
can_list_top told = can_list told [] (top_stands (tree_in told))

-- a file that was opened is read from then on
pub opens_reads : (old new : Option Reading) (p : Path) → Stands (tree_in old) (p, kind.File) → new ≡ option_map (after_open p) old → Reads new
opens_reads None new p stands is = ap is_reading is
opens_reads (Some r) new p stands is = ap is_reading is ∙ on (file_at r.tree p) (stands_file (Some r.tree) p stands r.tree refl)
  where
    on : (o : Option (List ℕ)) → IsSome o → is_some o ≡ true
    on None h = absurd (cc)
    on (Some x) h = refl

pub opens_tree : (old new : Option Reading) (p : Path) → new ≡ option_map (after_open p) old → tree_in new ≡ tree_in old
opens_tree None new p is = ap tree_in is
opens_tree (Some r) new p is = ap tree_in is

-- after a file was asked for, the tree is the same
pub still_there : (r : Result (Unit {0}) TreeFault) (old new : Option Reading) (p : Path) → OnOk r (new ≡ option_map (after_open p) old) → OnErr r (new ≡ old)
    → tree_in new ≡ tree_in old
still_there (Ok x) old new p ok err = opens_tree old new p ok
still_there (Err e) old new p ok err = ap tree_in err

pub ruleset calls = (can_read, can_open, can_list, can_list_top, opens_reads, opens_tree, seen_kind)
