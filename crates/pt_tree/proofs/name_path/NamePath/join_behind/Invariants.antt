use Rattle.std.proofs.Common.{◌≡◌, ◌+◌, ◌++◌, ◌≤◌, true, take, length}
use Rattle.std.specs.Str.{is_utf8}
use Rattle.pt_tree.specs.Name.{AreNames}
use Rattle.pt_tree.specs.Path.{joined}
use Rattle.pt_tree.proofs.name_path.NamePath.join_behind.Given as goal

abbrev pub invariant-loop-i : goal.invariant-loop-i
invariant-loop-i l = (take l.end l.text.items ≡ l.fn.text.items ++ joined (take (l.i + 1) l.self)) × (l.end ≤ length l.text.items)
    × (is_utf8 (joined (take (l.i + 1) l.self)) ≡ true) × AreNames (take (l.i + 1) l.self)
