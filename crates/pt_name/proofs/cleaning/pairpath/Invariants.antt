use Rattle.std.proofs.Common.{◌≡◌, ◌++◌, drop}
use Rattle.pt_tree.specs.Path.{joined}
use Rattle.pt_name.specs.Clean.{cleaned, pieces_of_two}
use Rattle.pt_name.proofs.Pieces.{spaced}
use Rattle.pt_name.proofs.cleaning.pairpath.Given as goal

-- what is written, with what is still to be written, is the whole
abbrev pub invariant-loop-i : goal.invariant-loop-i
invariant-loop-i l = record {
  text : l.character-items ≡ cleaned l.fn.id;
  path : l.path.items ++ spaced l.i (drop l.i l.character-items) ≡ joined (pieces_of_two l.character-items);
}
