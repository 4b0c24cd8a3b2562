-- How the names of a path are held: one in the path itself, or a list that is the path's own, or one that its copies share.
use Rattle.pt_tree.specs.Path.{Path}
use Rattle.pt_tree.specs.declared.name_list.NameList.{NameList}
use Rattle.pt_tree.specs.declared.name_list.NameList.TheVariants as list

-- the names that are held, however they are
abbrev pub held_names : NameList → Path
held_names (list.One names alloc) = names
held_names (list.Own names) = names.items
held_names (list.Shared names) = names.value.items
