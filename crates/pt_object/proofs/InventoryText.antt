-- The text of an inventory reads as its tree.
use Rattle.std.proofs.Common.{◌≡◌, ℕ, List, [], ◌∷◌, fold, map, refl, ◌∙◌, ap}
use Rattle.std.specs.Prelude.{Option, Some, None}
use Rattle.std.specs.declared.cmp.Ordering.{Ordering}
use Rattle.std.specs.declared.cmp.Ordering.TheVariants.{Less, Equal, Greater}
use Rattle.std.specs.Ordering.{nat_cmp, match_ordering, ordering_reverse}
use Rattle.std.specs.Cmp.Lexicographic.{slice_cmp, nat_list_cmp_total}
use Rattle.hex.specs.Hex.{encode_lower}
use Rattle.pt_tree.specs.Path.{joined}
use Rattle.serde_json.specs.Data.{Data, object, Members, no_members, member, put}
use Rattle.pt_object.specs.Distinct.{content_of_row, distinct}
use Rattle.pt_object.specs.Inventory.{content_path, paths_with, texts, put_content, put_paths, inventory_tree, state_members, user_tree, version_tree}
use Rattle.pt_object.specs.InventoryLaws.{InventoryReadsAsItsTree}
use Rattle.pt_object.specs.MetaParts.{MetaParts}
use Rattle.pt_object.specs.declared.algorithm.Algorithm.{Algorithm}
use Rattle.pt_object.specs.declared.table.contents.Content.{Content}
use Rattle.pt_object.specs.declared.rows.Row.{Row}
use Rattle.pt_object.proofs.Texts.{IsBelow, Rises, below_all, IsSound, AreSoundItems, AreSoundMembers, read_compact}
use Rattle.pt_object.proofs.Trees.{depth-inventory}

-- the keys rise, and each value is sound
pub record AreSound (ms : Members) : Type 0 where
  pub rise : Rises ms
  pub sound : AreSoundMembers ms

below_put : (j k : List ℕ) (d : Data) (ms : Members) → slice_cmp nat_cmp j k ≡ Less → IsBelow j ms → IsBelow j (put k d ms)
below_put j k d no_members less below = (less, tt)
below_put j k d (member l e ms) less below = by (slice_cmp nat_cmp k l) (below_put j k d ms less below.1)
  where
    by : (o : Ordering) → IsBelow j (put k d ms) → IsBelow j (match_ordering o (member k d (member l e ms)) (member l d ms) (member l e (put k d ms)))
    by Less more = (less, below)
    by Equal more = below
    by Greater more = (below.0, more)

sound_put : (k : List ℕ) (d : Data) (ms : Members) → IsSound d → AreSound ms → AreSound (put k d ms)
sound_put k d no_members is sound = record { rise = (tt, tt); sound = (is, tt) }
sound_put k d (member l e ms) is sound =
    let rest : AreSound ms = record { rise = sound.rise.1; sound = sound.sound.1 } in
    by (slice_cmp nat_cmp k l) refl (sound_put k d ms is rest)
  where
    by : (o : Ordering) → slice_cmp nat_cmp k l ≡ o → AreSound (put k d ms)
        → AreSound (match_ordering o (member k d (member l e ms)) (member l d ms) (member l e (put k d ms)))
    by Less less more = record { rise = ((less, below_all k l ms less sound.rise.0), sound.rise); sound = (is, sound.sound) }
    by Equal same more = record { rise = sound.rise; sound = (is, sound.sound.1) }
    by Greater above more = record {
      rise = (below_put l k d ms (nat_list_cmp_total.antisymm l k ∙ ap ordering_reverse above) sound.rise.0, more.rise);
      sound = (sound.sound.0, more.sound);
    }

sound_texts : (list : List (List ℕ)) → AreSoundItems (texts list)
sound_texts [] = tt
sound_texts (x ∷ list) = (tt, sound_texts list)

pub sound_manifest : (contents : List Content) (ms : Members) → AreSound ms → AreSound (fold put_content ms contents)
sound_manifest [] ms sound = sound
sound_manifest (x ∷ contents) ms sound = sound_manifest contents (put_content ms x)
    (sound_put (encode_lower x.digest) _ ms (sound_texts (content_path x.path ∷ [])) sound)

pub sound_state : (rows : List Row) (contents : List Content) (ms : Members) → AreSound ms → AreSound (fold (put_paths rows) ms contents)
sound_state rows [] ms sound = sound
sound_state rows (x ∷ contents) ms sound =
    sound_state rows contents (put_paths rows ms x) (sound_put (encode_lower x.digest) _ ms (sound_texts (map joined (paths_with rows x.digest))) sound)

pub none_sound : AreSound no_members
none_sound = record { rise = tt; sound = tt }

sound_user : (address : Option (List ℕ)) (name : List ℕ) → IsSound (user_tree address name)
sound_user None name = ((tt, tt), (tt, tt))
sound_user (Some address) name = (((refl, tt), (tt, tt)), (tt, (tt, tt)))

sound_inventory : (id : List ℕ) (rows : List Row) (meta : MetaParts) (algorithm : Algorithm) → IsSound (inventory_tree id rows meta algorithm)
sound_inventory id rows meta algorithm =
    let contents = map content_of_row (distinct rows) in
    let manifest = sound_manifest contents no_members none_sound in
    let state = sound_state rows contents no_members none_sound in
    let version : IsSound (version_tree meta (object (state_members rows))) = (
      ((refl, (refl, (refl, tt))), ((refl, (refl, tt)), ((refl, tt), (tt, tt)))),
      (tt, (tt, ((state.rise, state.sound), (sound_user meta.address meta.name, tt)))),
    ) in (
      (
        (refl, (refl, (refl, (refl, (refl, tt))))),
        (
          (refl, (refl, (refl, (refl, tt)))),
          ((refl, (refl, (refl, tt))), ((refl, (refl, tt)), ((refl, tt), (tt, tt)))),
        ),
      ),
      (tt, (tt, (tt, ((manifest.rise, manifest.sound), (tt, (((tt, tt), (version, tt)), tt)))))),
    )

pub inventory_reads : InventoryReadsAsItsTree
inventory_reads id rows meta algorithm = read_compact (inventory_tree id rows meta algorithm) (sound_inventory id rows meta algorithm)
    (depth-inventory id rows meta algorithm)
