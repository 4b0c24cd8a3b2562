-- How what a run carries and tells grows, item by item.
use Rattle.std.specs.Prelude.{◌≡◌, ◌≤◌, ℕ, suc, ◌++◌, flat_map, length, Some, slice_get, take}
use Rattle.std.specs.Option.{option_map}
use Rattle.pt_object.specs.Root.{base}
use Rattle.pt_tree.specs.Forest.{Forest}
use Rattle.pt_tree.specs.Path.{Path}
use Rattle.pt_tree.specs.Tree.{Entry, Tree}
use Rattle.pt_plan.specs.Carried.{Marked, after, after_all, all_carried, carried_among, carried_by, is_taken, marked}
use Rattle.pt_plan.specs.Items.{Item, items}
use Rattle.pt_plan.specs.Job.{Job}
use Rattle.pt_plan.specs.Lines.{all_lines, end_line, line_of, line_text, lines, log_of, text}

-- an item is taken or not against the root and the items before it
abbrev pub IsTakenAgainstEarlier : Type 0
IsTakenAgainstEarlier =
    (job : Job) (source : Forest) (root : Tree) (k : ℕ)
    → slice_get (marked job source root) k
    ≡ option_map
    (λ (item : Item). (item, is_taken job root (take k (items job source)) item.verdict))
    (slice_get (items job source) k)

-- with one item more its object, if it is carried, comes last
abbrev pub CarriedGrows : Type 0
CarriedGrows =
    (job : Job) (source : Forest) (root : Tree) (k : ℕ) (m : Marked)
    → slice_get (marked job source root) k ≡ Some m
    → carried_among job source root (suc k)
    ≡ carried_among job source root k ++ carried_by job m.1 m.0.verdict

-- and its line, if it has one
abbrev pub TextGrows : Type 0
TextGrows =
    (job : Job) (source : Forest) (root : Tree) (k : ℕ) (m : Marked)
    → slice_get (marked job source root) k ≡ Some m
    → (lines job source root (suc k) ≡ lines job source root k ++ line_of job m)
    × (text job source root (suc k) ≡ text job source root k ++ flat_map line_text (line_of job m))

-- with all items the root is the one after all, and the text is the log but for the end line
abbrev pub AllItemsAreAll : Type 0
AllItemsAreAll =
    (job : Job) (source : Forest) (root : Tree) (k : ℕ) → length (items job source) ≤ k
    → (carried_among job source root k ≡ all_carried job source root)
    × (after job source root k ≡ after_all job source root)
    × (lines job source root k ≡ all_lines job source root)
    × (log_of job source root ≡ text job source root k ++ line_text (end_line (lines job source root k)))

-- before any item the root is the one that stands, or else a new one
abbrev pub BeginsWithTheBase : Type 0
BeginsWithTheBase = (job : Job) (source : Forest) (root : Tree)
    → after job source root 0 ≡ base job.tuples root

-- what stands then stands after any number of items, as it was
abbrev pub WhatStandsStays : Type 0
WhatStandsStays =
    (job : Job) (source : Forest) (root : Tree) (k : ℕ) (path : Path) (entry : Entry)
    → base job.tuples root path ≡ Some entry → after job source root k path ≡ Some entry
