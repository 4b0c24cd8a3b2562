-- An inventory claims the rows of which it was made.
use Rattle.std.specs.Prelude.{◌≡◌, ℕ, All, List, Some, true}
use Rattle.pt_object.specs.FilePaths.{row_paths}
use Rattle.pt_object.specs.HexDigest.{IsDigest}
use Rattle.pt_object.specs.Inventory.{inventory_text}
use Rattle.pt_object.specs.MetaParts.{MetaParts}
use Rattle.pt_object.specs.declared.algorithm.Algorithm.{Algorithm}
use Rattle.pt_object.specs.declared.rows.Row.{Row}
use Rattle.pt_quick.specs.Claimed.{claimed_in, with_digests}
use Rattle.pt_quick.specs.ReadAlike.{HasRead, ReadAlike}
use Rattle.pt_tree.specs.Name.{AreNames}
use Rattle.pt_tree.specs.Path.{Path}
use Rattle.pt_tree.specs.PathOrder.{part_in_order}

-- of an inventory that was made of some rows with digests of its algorithm, just those are claimed for rows with the same paths, where those with one
-- of these digests were read alike
abbrev pub InventoryClaimsItsRows : Type 0
InventoryClaimsItsRows =
    (id : List ℕ) (told rows : List Row) (meta : MetaParts) (algorithm : Algorithm) (read : Path → List ℕ)
    → row_paths told ≡ row_paths rows → All AreNames (row_paths rows)
    → part_in_order (row_paths rows) ≡ true → All (λ row. IsDigest algorithm row.digest) told
    → ReadAlike read told → All (HasRead read) rows
    → claimed_in algorithm (inventory_text id told meta algorithm) rows ≡ Some (with_digests rows told)
