-- How deep the trees of an inventory are.
use Rattle.std.proofs.Common.{ℕ, ◌≤◌, List, [], ◌∷◌, fold, map, arith}
use Rattle.std.specs.Prelude.{Option, Some, None}
use Rattle.std.specs.declared.cmp.Ordering.{Ordering}
use Rattle.std.specs.declared.cmp.Ordering.TheVariants.{Less, Equal, Greater}
use Rattle.std.specs.Ordering.{nat_cmp, match_ordering}
use Rattle.std.specs.Cmp.Lexicographic.{slice_cmp}
use Rattle.serde_json.specs.Data.{array, Members, no_members, member, put, depth, items_depth, members_depth}
use Rattle.pt_object.specs.Inventory.{content_path, paths_with, texts, put_content, put_paths, inventory_tree, user_tree}
use Rattle.pt_object.specs.Distinct.{content_of_row, distinct}
use Rattle.pt_tree.specs.Path.{joined}
use Rattle.hex.specs.Hex.{encode_lower}
use Rattle.pt_object.specs.MetaParts.{MetaParts}
use Rattle.pt_object.specs.declared.algorithm.Algorithm.{Algorithm}
use Rattle.pt_object.specs.declared.table.contents.Content.{Content}
use Rattle.pt_object.specs.declared.rows.Row.{Row}

-- lists of texts alone, so not many levels
abbrev IsFlat : Members → Type 0
IsFlat ms = members_depth ms ≤ 1

texts-depth : (list : List (List ℕ)) → items_depth (texts list) ≤ 0
texts-depth [] = omega arith
texts-depth (x ∷ list) = omega (arith, texts-depth list)

flat-cases : (o : Ordering) (a b e : Members) → IsFlat a → IsFlat b → IsFlat e → IsFlat (match_ordering o a b e)
flat-cases Less a b e p q r = p
flat-cases Equal a b e p q r = q
flat-cases Greater a b e p q r = r

flat-put : (key : List ℕ) (list : List (List ℕ)) (ms : Members) → IsFlat ms → IsFlat (put key (array (texts list)) ms)
flat-put key list no_members flat = omega (arith, texts-depth list)
flat-put key list (member k d ms) flat =
    let more = flat-put key list ms (omega arith) in
    flat-cases (slice_cmp nat_cmp key k) _ _ _ (omega (arith, texts-depth list)) (omega (arith, texts-depth list)) (omega (arith, more))

flat-manifest : (contents : List Content) (ms : Members) → IsFlat ms → IsFlat (fold put_content ms contents)
flat-manifest [] ms flat = flat
flat-manifest (x ∷ contents) ms flat = flat-manifest contents (put_content ms x) (flat-put (encode_lower x.digest) (content_path x.path ∷ []) ms flat)

flat-state : (rows : List Row) (contents : List Content) (ms : Members) → IsFlat ms → IsFlat (fold (put_paths rows) ms contents)
flat-state rows [] ms flat = flat
flat-state rows (x ∷ contents) ms flat = flat-state rows contents (put_paths rows ms x)
    (flat-put (encode_lower x.digest) (map joined (paths_with rows x.digest)) ms flat)

pub depth-inventory : (id : List ℕ) (rows : List Row) (meta : MetaParts) (algorithm : Algorithm) → depth (inventory_tree id rows meta algorithm) ≤ 127
depth-inventory id rows meta algorithm =
    omega (
      arith,
      flat-manifest (map content_of_row (distinct rows)) no_members (omega arith),
      flat-state rows (map content_of_row (distinct rows)) no_members
          (omega arith),
      by_address meta.address,
    )
  where
    by_address : (address : Option (List ℕ)) → depth (user_tree address meta.name) ≤ 1
    by_address None = omega arith
    by_address (Some a) = omega arith
