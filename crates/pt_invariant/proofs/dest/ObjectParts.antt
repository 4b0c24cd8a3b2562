-- The parts of an object are the items of its script, one after another.
use Rattle.std.proofs.Common.{◌≡◌, ◌+◌, ℕ, List, [], ◌∷◌, ◌++◌, refl, ap, sym, ◌∙◌, append_assoc, arith, drop, length, map, take}
use Rattle.std.proofs.lemmas.List.{length-append, length-map, map-append}
use Rattle.pt_object.specs.Files.{object_declaration_bytes, sidecar_text}
use Rattle.pt_object.specs.Object.{inventory_name, object_declaration_name, sidecar_name, stored_files, version_folder}
use Rattle.pt_object.specs.Script.{Item, MakeFile, MakeFolder, files_items, item_in}
use Rattle.pt_object.specs.Scripts.{object_items, staging}
use Rattle.pt_object.specs.declared.rows.Row.{Row}
use Rattle.pt_tree.specs.Path.{Path}
use Rattle.pt_plan.specs.Job.{Job}
use Rattle.pt_plan.specs.TurnMake.{in_version, inventory_file, sidecar_file, text_of_inventory}
use Rattle.pt_plan.specs.declared.object.Object.{Object}
use Rattle.pt_plan.specs.declared.phase.Part.{Part}
use Rattle.pt_plan.specs.declared.phase.Part.TheVariants as part
use Rattle.pt_plan.specs.declared.phase.Position.{Position}
use Rattle.pt_invariant.specs.PartsMade.{contents_before, contents_of, made_before, script_of_object}
use Rattle.pt_invariant.proofs.dest.ScriptParts.{
  IsFront,
  IsNext,
  all_contents,
  contents_front,
  front_in,
  front_next,
  front_within,
  next_in,
  next_within,
  taken_front,
}

-- ---- the items around the contents

module _ (job : Job) (object : Object) (rows : List Row) (bytes : Path → List ℕ) where
  abbrev text : List ℕ
  text = text_of_inventory job object rows

  abbrev all_items : List Item
  all_items = object_items job.algorithm text (stored_files rows bytes)

  abbrev contents : List Item
  contents = files_items [] (contents_of rows bytes)

  abbrev in_version_folder : List Item
  in_version_folder = map (item_in version_folder) contents

  -- before the contents
  abbrev first_three : List Item
  first_three = MakeFolder [] ∷ MakeFile (object_declaration_name ∷ []) object_declaration_bytes ∷ MakeFolder version_folder ∷ []

  abbrev version_inventory : Item
  version_inventory = MakeFile (version_folder ++ inventory_name ∷ []) text

  abbrev version_sidecar : Item
  version_sidecar = MakeFile (version_folder ++ sidecar_name job.algorithm ∷ []) (sidecar_text job.algorithm text)

  abbrev own_inventory : Item
  own_inventory = MakeFile (inventory_name ∷ []) text

  abbrev own_sidecar : Item
  own_sidecar = MakeFile (sidecar_name job.algorithm ∷ []) (sidecar_text job.algorithm text)

  abbrev last_four : List Item
  last_four = version_inventory ∷ version_sidecar ∷ own_inventory ∷ own_sidecar ∷ []

  -- with all contents
  abbrev upto_contents : List Item
  upto_contents = first_three ++ in_version_folder

  split_items : all_items ≡ upto_contents ++ last_four
  split_items = sym (append_assoc first_three in_version_folder last_four)

  many : length upto_contents ≡ 3 + length contents
  many = let same = length-map contents (item_in version_folder) in omega (arith, same)

  front_is : (n : ℕ) (front rest : List Item) → upto_contents ++ last_four ≡ front ++ rest → n ≡ length front → take n all_items ≡ front
  front_is n front rest same long = ap (take n) (split_items ∙ same) ∙ ap (λ k. take k (front ++ rest)) long ∙ taken_front front rest

  longer : (front : List Item) (item : Item) → length (front ++ item ∷ []) ≡ length front + 1
  longer front item = length-append front (item ∷ [])

  shift : (front : List Item) (item : Item) (rest : List Item) → front ++ item ∷ rest ≡ (front ++ item ∷ []) ++ rest
  shift front item rest = sym (append_assoc front (item ∷ []) rest)

  -- what is made before each of the last four
  pub before_first : made_before job object rows bytes part.VersionInventory ≡ map (item_in staging) upto_contents
  before_first = ap (map (item_in staging)) (front_is _ upto_contents last_four refl (sym many))

  abbrev with_first : List Item
  with_first = upto_contents ++ version_inventory ∷ []

  pub before_second : made_before job object rows bytes part.VersionSidecar ≡ map (item_in staging) with_first
  before_second =
      let long = longer upto_contents version_inventory in
      let all = many in
      ap (map (item_in staging)) (front_is _ with_first (version_sidecar ∷ own_inventory ∷ own_sidecar ∷ [])
      (shift upto_contents version_inventory (version_sidecar ∷ own_inventory ∷ own_sidecar ∷ [])) (omega (arith, long, all)))

  abbrev with_second : List Item
  with_second = with_first ++ version_sidecar ∷ []

  pub before_third : made_before job object rows bytes part.Inventory ≡ map (item_in staging) with_second
  before_third =
      let one = longer upto_contents version_inventory in
      let two = longer with_first version_sidecar in
      let all = many in
      ap (map (item_in staging))
      (front_is _ with_second _
      (shift upto_contents version_inventory (version_sidecar ∷ own_inventory ∷ own_sidecar ∷ [])
      ∙ shift with_first version_sidecar (own_inventory ∷ own_sidecar ∷ [])) (omega (arith, one, two, all)))

  abbrev with_third : List Item
  with_third = with_second ++ own_inventory ∷ []

  pub before_fourth : made_before job object rows bytes part.Sidecar ≡ map (item_in staging) with_third
  before_fourth =
      let one = longer upto_contents version_inventory in
      let two = longer with_first version_sidecar in
      let three = longer with_second own_inventory in
      let all = many in
      ap (map (item_in staging))
      (front_is _ with_third (own_sidecar ∷ [])
      (shift upto_contents version_inventory (version_sidecar ∷ own_inventory ∷ own_sidecar ∷ [])
      ∙ shift with_first version_sidecar (own_inventory ∷ own_sidecar ∷ []) ∙ shift with_second own_inventory (own_sidecar ∷ []))
      (omega (arith, one, two, three, all)))

  -- ---- the next item at each part

  abbrev script : List Item
  script = script_of_object job object rows bytes

  pub next_staging : IsNext script (made_before job object rows bytes part.Staging) (MakeFolder staging)
  next_staging = next_in staging all_items [] _ (record { rest = drop 1 all_items; is = refl })

  pub next_declaration : IsNext script (made_before job object rows bytes part.Declaration)
      (MakeFile (staging ++ object_declaration_name ∷ []) object_declaration_bytes)
  next_declaration = next_in staging all_items (take 1 all_items) _ (record { rest = drop 2 all_items; is = refl })

  pub next_version : IsNext script (made_before job object rows bytes part.Version) (MakeFolder (in_version []))
  next_version = next_in staging all_items (take 2 all_items) _ (record { rest = drop 3 all_items; is = refl })

  pub next_content : (position : Position) (item : Item) → IsNext contents (contents_before (contents_of rows bytes) position) item
      → IsNext script (made_before job object rows bytes (part.Content position)) (item_in staging (item_in version_folder item))
  next_content position item next =
      next_in staging all_items _ _
      (next_within first_three _ last_four _
      (next_in version_folder contents _ item next))

  -- of the last four
  last_next : (here : Part) (front : List Item) (item : Item) (rest : List Item) → made_before job object rows bytes here ≡ map (item_in staging) front
      → upto_contents ++ last_four ≡ front ++ item ∷ rest → IsNext script (made_before job object rows bytes here) (item_in staging item)
  last_next here front item rest before same =
      rw before (next_in staging all_items front item (record { rest = rest; is = split_items ∙ same }))

  pub next_first : IsNext script (made_before job object rows bytes part.VersionInventory) (inventory_file job object rows (in_version []))
  next_first = last_next part.VersionInventory upto_contents version_inventory (version_sidecar ∷ own_inventory ∷ own_sidecar ∷ []) before_first refl

  pub next_second : IsNext script (made_before job object rows bytes part.VersionSidecar) (sidecar_file job object rows (in_version []))
  next_second = last_next part.VersionSidecar with_first version_sidecar (own_inventory ∷ own_sidecar ∷ []) before_second
      (shift upto_contents version_inventory (version_sidecar ∷ own_inventory ∷ own_sidecar ∷ []))

  pub next_third : IsNext script (made_before job object rows bytes part.Inventory) (inventory_file job object rows staging)
  next_third =
      last_next part.Inventory with_second own_inventory (own_sidecar ∷ []) before_third
      (shift upto_contents version_inventory (version_sidecar ∷ own_inventory ∷ own_sidecar ∷ [])
      ∙ shift with_first version_sidecar (own_inventory ∷ own_sidecar ∷ []))

  pub next_fourth : IsNext script (made_before job object rows bytes part.Sidecar) (sidecar_file job object rows staging)
  next_fourth =
      last_next part.Sidecar with_third own_sidecar [] before_fourth
      (shift upto_contents version_inventory (version_sidecar ∷ own_inventory ∷ own_sidecar ∷ [])
      ∙ shift with_first version_sidecar (own_inventory ∷ own_sidecar ∷ []) ∙ shift with_second own_inventory (own_sidecar ∷ []))

  -- ---- what is made then

  grown : (front : List Item) (item : Item) → map (item_in staging) (front ++ item ∷ []) ≡ map (item_in staging) front ++ item_in staging item ∷ []
  grown front item = map-append (item_in staging) front (item ∷ [])

  pub after_first : made_before job object rows bytes part.VersionSidecar ≡ made_before job object rows bytes part.VersionInventory
      ++ inventory_file job object rows (in_version []) ∷ []
  after_first = before_second ∙ grown upto_contents version_inventory ∙ ap (λ l. l ++ inventory_file job object rows (in_version []) ∷ []) (sym before_first)

  pub after_second : made_before job object rows bytes part.Inventory ≡ made_before job object rows bytes part.VersionSidecar
      ++ sidecar_file job object rows (in_version []) ∷ []
  after_second = before_third ∙ grown with_first version_sidecar ∙ ap (λ l. l ++ sidecar_file job object rows (in_version []) ∷ []) (sym before_second)

  pub after_third : made_before job object rows bytes part.Sidecar ≡ made_before job object rows bytes part.Inventory ++ inventory_file job object rows staging
      ∷ []
  after_third = before_fourth ∙ grown with_second own_inventory ∙ ap (λ l. l ++ inventory_file job object rows staging ∷ []) (sym before_third)

  pub after_fourth : script ≡ made_before job object rows bytes part.Sidecar ++ sidecar_file job object rows staging ∷ []
  after_fourth =
      ap (map (item_in staging)) (split_items ∙ shift upto_contents version_inventory (version_sidecar ∷ own_inventory ∷ own_sidecar ∷ [])
      ∙ shift with_first version_sidecar (own_inventory ∷ own_sidecar ∷ []) ∙ shift with_second own_inventory (own_sidecar ∷ []))
      ∙ grown with_third own_sidecar
      ∙ ap (λ l. l ++ sidecar_file job object rows staging ∷ []) (sym before_fourth)

  pub after_content : (position next : Position) (item : Item) → contents_before (contents_of rows bytes) next
      ≡ contents_before (contents_of rows bytes) position ++ item ∷ []
      → made_before job object rows bytes (part.Content next) ≡ made_before job object rows bytes (part.Content position)
      ++ item_in staging (item_in version_folder item) ∷ []
  after_content position next item more =
      ap (λ l. map (item_in staging) (first_three ++ map (item_in version_folder) l)) more
      ∙ ap (λ l. map (item_in staging) (first_three ++ l)) (map-append (item_in version_folder) (contents_before (contents_of rows bytes) position) (item ∷ []))
      ∙ map-append (item_in staging) (first_three ++ map (item_in version_folder) (contents_before (contents_of rows bytes) position))
      (item_in version_folder item ∷ [])

  -- once all contents are made the version's inventory is next
  pub at_inventory : (position : Position) → position.stored ≡ length (contents_of rows bytes)
      → made_before job object rows bytes part.VersionInventory ≡ made_before job object rows bytes (part.Content position)
  at_inventory position all = before_first ∙ ap (λ l. map (item_in staging) (first_three ++ map (item_in version_folder) l)) (sym (all_contents _ position all))

  -- what is made before any part is a front of the script
  pub front_made : (here : Part) → IsFront script (made_before job object rows bytes here)
  front_made part.Staging = front_next next_staging
  front_made part.Declaration = front_next next_declaration
  front_made part.Version = front_next next_version
  front_made (part.Content position) =
      front_in staging
      (front_within first_three _ last_four
      (front_in version_folder (contents_front _ position)))
  front_made part.VersionInventory = front_next next_first
  front_made part.VersionSidecar = front_next next_second
  front_made part.Inventory = front_next next_third
  front_made part.Sidecar = front_next next_fourth
