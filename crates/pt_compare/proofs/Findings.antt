-- From what was met, item by item, to what is found at the place.
use Rattle.std.proofs.Common.{◌≡◌, ◌∙◌, ◌⊎◌, inl, inr, ℕ, List, [], ◌∷◌, ◌++◌, Bool, true, false, refl, sym, ap, subst, cond, append_assoc}
use Rattle.std.specs.Prelude.{All, Option, None, Some, IsSome}
use Rattle.std.specs.Option.{option_and_then, option_map, option_or}
use Rattle.std.proofs.lemmas.List.Elements.{All-head, All-tail}
use Rattle.pt_compare.specs.Found.{
  HaveOtherBytes,
  IsFirst,
  IsHeld,
  IsOtherFile,
  IsWrong,
  Sought,
  StandsUpTo,
  all_items,
  inventory_items,
  object_with,
  shape,
  version_inventory,
}
use Rattle.pt_compare.specs.Marks.{Marks, all_met, at_first, inside, is_entry_of, kind_in, met, without_mark}
use Rattle.pt_compare.specs.Meeting.{HasOtherBytes, HasOtherKind, IsWrongInventory, IsWrongItem, StandsSo, StopsAt}
use Rattle.pt_compare.specs.Parts.{early_items, last_items}
use Rattle.pt_compare.specs.declared.difference.Why.{Why}
use Rattle.pt_compare.specs.declared.difference.Why.TheVariants as why
use Rattle.pt_compare.proofs.Contents.{items_are}
use Rattle.pt_compare.proofs.Made.{Noting, all_same, entries_some, is_some_of, kind_none, kind_some, made_either, met_all, next_noted, put_there, stays_made}
use Rattle.pt_object.proofs.Making.{CanCarryOut, Carries, on_way}
use Rattle.pt_object.proofs.MakingObjects.{object_carries}
use Rattle.pt_object.specs.FilePaths.{are_apart, paths_of}
use Rattle.pt_tree.specs.PathOrder.{part_in_order}
use Rattle.pt_object.specs.Script.{Item, MakeFolder, MakeFile, done, item_entry, item_path, made}
use Rattle.pt_object.specs.Scripts.{object_items}
use Rattle.pt_tree.specs.Forest.{Forest, Node, File as file_node, Dir, Other, find, node_at}
use Rattle.pt_tree.specs.Path.{Path, same_path, split_path}
use Rattle.pt_tree.specs.Tree.{CanMake, Bytes, Folder, Tree, entry_of, kind_of_entry, put, tree_of}
use Rattle.pt_tree.specs.declared.kind.Kind.{Kind}

-- ---- a folder is above each entry of a root

node_above : (x : Node) (q : Path) (n : List ℕ) → IsSome (node_at x (q ++ n ∷ [])) → (d : Forest) × (node_at x q ≡ Some (Dir d))
node_above (file_node b) [] n h = absurd (let e = h in cc)
node_above Other [] n h = absurd (let e = h in cc)
node_above (Dir d) [] n h = (d, refl)
node_above (file_node b) (m ∷ q) n h = absurd (let e = h in cc)
node_above Other (m ∷ q) n h = absurd (let e = h in cc)
node_above (Dir g) (m ∷ q) n h = by (find g m) (λ x. node_above x q n) h
  where
    by : (o : Option Node) → ((x : Node) → IsSome (node_at x (q ++ n ∷ [])) → (d : Forest) × (node_at x q ≡ Some (Dir d)))
        → IsSome (option_and_then (λ x. node_at x (q ++ n ∷ [])) o) → (d : Forest) × (option_and_then (λ x. node_at x q) o ≡ Some (Dir d))
    by None deeper h = absurd (let e = h in cc)
    by (Some x) deeper h = deeper x h

pub inside_above : (r : Forest) (place p : Path) (n : List ℕ) → IsSome (inside r place (p ++ n ∷ [])) → inside r place p ≡ Some Folder
inside_above r place p n h =
    let there : IsSome (tree_of r ((place ++ p) ++ n ∷ [])) = subst (λ (q : Path). IsSome (tree_of r q)) (sym (append_assoc place p (n ∷ []))) h in
    let dir = node_above (Dir r) (place ++ p) n (node _ there) in
    ap (option_map entry_of) dir.1
  where
    node : (o : Option Node) → IsSome (option_map entry_of o) → IsSome o
    node None h = absurd (let e = h in cc)
    node (Some x) h = refl

-- ---- items that are made one after another

made-append : (a b : List Item) (u : Tree) → made (a ++ b) u ≡ made b (made a u)
made-append [] b u = refl
made-append (x ∷ a) b u = made-append a b (done x u)

-- from the first items on to one
record Reaches (front : List Item) (item : Item) (rest : List Item) (u : Tree) : Type 0 where
  first : CanCarryOut front u
  here : CanMake (made front u) (item_path item)
  later : CanCarryOut rest (done item (made front u))

reaches : (front : List Item) (item : Item) (rest : List Item) (u : Tree) → CanCarryOut (front ++ item ∷ rest) u → Reaches front item rest u
reaches [] item rest u can = record { first = tt; here = can.0; later = can.1 }
reaches (x ∷ front) item rest u can =
    let more = reaches front item rest (done x u) can.1 in
    record { first = (can.0, more.first); here = more.here; later = more.later }

-- other bytes change no kind
put_kind : (u v : Tree) (p : Path) (a b : List ℕ) → ((q : Path) → kind_in u q ≡ kind_in v q) → (q : Path)
    → kind_in (put u p (Bytes a)) q ≡ kind_in (put v p (Bytes b)) q
put_kind u v p a b same q = on (same_path q p)
  where
    on : (c : Bool) → option_map kind_of_entry (cond c (Some (Bytes a)) (u q)) ≡ option_map kind_of_entry (cond c (Some (Bytes b)) (v q))
    on true = refl
    on false = same q

tail_of : List Item → List Item
tail_of [] = []
tail_of (x ∷ items) = items

module _ (sought : Sought) (order : part_in_order (paths_of sought.stored) ≡ true) (apart : are_apart (paths_of sought.stored) ≡ true) (t : Tree) where
  pub are_items : (inventory : List ℕ) → object_items sought.algorithm inventory sought.stored ≡ all_items sought inventory
  are_items inventory = items_are sought.algorithm inventory sought.stored order

  start : Tree
  start = on_way [] []

  -- what is noted once the place itself was met
  started : Noting t (on_way [] []) (met t (MakeFolder []) (at_first t))
  started = record {
    tree = record { top = refl; above = λ p n some. absurd (none_deeper p n some) };
    noted = λ q k some. from q k (entries_some t [] q (without_mark [] (at_first t)) k some);
    unmade = not_top;
    listed = opened;
  }
    where
      none_deeper : (p : Path) (n : List ℕ) → IsSome (on_way [] [] (p ++ n ∷ [])) → ⊥
      none_deeper [] n some = let e = some in cc
      none_deeper (x ∷ p) n some = let e = some in cc

      from : (q : Path) (k : Kind) → ((is_entry_of [] (split_path q) ≡ true) × (kind_in t q ≡ Some k)) ⊎ (without_mark [] (at_first t) q ≡ Some k)
          → kind_in t q ≡ Some k
      from q k (inl entry) = entry.1
      from [] k (inr left) = absurd (cc)
      from (x ∷ q) k (inr left) = absurd (cc)

      not_top : (q : Path) → IsSome (met t (MakeFolder []) (at_first t) q) → on_way [] [] q ≡ None
      not_top [] some = absurd (let e = some in cc)
      not_top (x ∷ q) some = refl

      plain : (o : Option Kind) → option_or o None ≡ o
      plain None = refl
      plain (Some x) = refl

      opened : (p : Path) (n : List ℕ) → on_way [] [] p ≡ Some Folder → on_way [] [] (p ++ n ∷ []) ≡ None
          → met t (MakeFolder []) (at_first t) (p ++ n ∷ []) ≡ kind_in t (p ++ n ∷ [])
      opened [] n folder absent = plain (kind_in t (n ∷ []))
      opened (x ∷ p) n folder absent = absurd (cc)

  carries : (inventory : List ℕ) → Carries (tail_of (object_items sought.algorithm inventory sought.stored)) (on_way [] []) (object_with sought inventory)
  unfolding tail_of
  carries inventory = object_carries sought.algorithm inventory sought.stored apart

  -- where an item comes: what stands there is noted, and the object has it there
  pub record Located (inventory : List ℕ) (front : List Item) (item : Item) : Type 0 where
    pub noted : all_met t front (at_first t) (item_path item) ≡ kind_in t (item_path item)
    pub wanted : object_with sought inventory (item_path item) ≡ Some (item_entry item)

  pub locate : (inventory : List ℕ) (front : List Item) (item : Item) (rest : List Item)
      → object_items sought.algorithm inventory sought.stored ≡ front ++ item ∷ rest → Located inventory front item
  unfolding tail_of
  locate inventory [] item rest is =
      let same : MakeFolder [] ≡ item = cc in
      let c = carries inventory in
      subst (Located inventory []) same
      (record {
        noted = refl;
        wanted = ap (λ (u : Tree). u []) (sym c.leaves) ∙ stays_made (tail_of (object_items sought.algorithm inventory sought.stored)) (on_way [] []) [] Folder
            c.can refl;
      })
  locate inventory (x ∷ front) item rest is =
      let same : MakeFolder [] ≡ x = cc in
      let tail : tail_of (object_items sought.algorithm inventory sought.stored) ≡ front ++ item ∷ rest = ap tail_of is in
      let c = carries inventory in
      let r = reaches front item rest (on_way [] []) (subst (λ (l : List Item). CanCarryOut l (on_way [] [])) tail c.can) in
      record {
        noted = ap (λ (first : Item). all_met t front (met t first (at_first t)) (item_path item)) (sym same)
            ∙ next_noted t (item_path item) (made front (on_way [] [])) (all_met t front (met t (MakeFolder []) (at_first t))) r.here
            (met_all t front (on_way [] []) (met t (MakeFolder []) (at_first t)) r.first started);
        wanted = ap (λ (u : Tree). u (item_path item)) (sym c.leaves ∙ ap (λ (l : List Item). made l (on_way [] [])) tail
            ∙ made-append front (item ∷ rest) (on_way [] []))
            ∙ stays_made rest (done item (made front (on_way [] []))) (item_path item) (item_entry item) r.later
            (put_there (made front (on_way [] [])) (item_path item) (item_entry item));
      }

  -- a folder is at the object's place
  pub at_top : (inventory : List ℕ) → object_with sought inventory [] ≡ Some Folder
  unfolding tail_of
  at_top inventory = (locate inventory [] (MakeFolder []) (tail_of (object_items sought.algorithm inventory sought.stored)) refl).wanted

  -- another inventory changes no kind
  pub kinds : (a b : List ℕ) (q : Path) → kind_in (object_with sought a) q ≡ kind_in (object_with sought b) q
  unfolding tail_of
  kinds a b q = ap (λ (u : Tree). kind_in u q) (whole a) ∙ four q ∙ ap (λ (u : Tree). kind_in u q) (sym (whole b))
    where
      early : Tree
      early = made (tail_of (early_items sought.stored)) (on_way [] [])

      whole : (inventory : List ℕ) → object_with sought inventory ≡ made (inventory_items sought.algorithm inventory)
          (made (tail_of (early_items sought.stored)) (on_way [] []))
      whole inventory = sym (carries inventory).leaves ∙ ap (λ (l : List Item). made (tail_of l) (on_way [] [])) (are_items inventory)
          ∙ made-append (tail_of (early_items sought.stored)) (inventory_items sought.algorithm inventory) (on_way [] [])

      four : (q : Path) → kind_in (made (inventory_items sought.algorithm a) (made (tail_of (early_items sought.stored)) (on_way [] []))) q
          ≡ kind_in (made (inventory_items sought.algorithm b) (made (tail_of (early_items sought.stored)) (on_way [] []))) q
      four = put_kind _ _ _ _ _ (put_kind _ _ _ _ _ (put_kind _ _ _ _ _ (put_kind _ _ _ _ _ (λ q. refl))))

  -- ---- what is wrong with an item

  module _ (inventory : List ℕ) (front : List Item) (item : Item) (rest : List Item) (is : object_items sought.algorithm inventory sought.stored
      ≡ front ++ item ∷ rest) where
    there : Located inventory front item
    there = locate inventory front item rest is

    wanted_kind : kind_in (shape sought) (item_path item) ≡ Some (kind_of_entry (item_entry item))
    wanted_kind = kinds [] inventory (item_path item) ∙ ap (option_map kind_of_entry) there.wanted

    missing : all_met t front (at_first t) (item_path item) ≡ None → IsWrong sought t (item_path item) why.Missing
    missing none = (
      let some = kind_some (shape sought) (item_path item) _ wanted_kind in subst IsSome (sym some.1) refl,
      kind_none t (item_path item) (sym there.noted ∙ none),
    )

    other_kind : HasOtherKind (all_met t front (at_first t)) (item_path item) (kind_of_entry (item_entry item)) → IsWrong sought t (item_path item) why.Kind
    other_kind other =
        let wants = kind_some (shape sought) (item_path item) _ wanted_kind in
        let here = kind_some t (item_path item) other.0 (sym there.noted ∙ other.1) in
        (wants.0, here.0, wants.1, here.1, λ same. other.2 (sym here.2 ∙ same ∙ wants.2))

  other_bytes : (inventory : List ℕ) (front : List Item) (item : Item) (rest : List Item)
      → object_items sought.algorithm inventory sought.stored ≡ front ++ item ∷ rest → HasOtherBytes t item
      → HaveOtherBytes (object_with sought inventory) t (item_path item)
  other_bytes inventory front (MakeFolder p) rest is other = absurd other
  other_bytes inventory front (MakeFile p bytes) rest is other = (bytes, other.0, (locate inventory front (MakeFile p bytes) rest is).wanted, other.1, other.2)

  wrong_item : (inventory : List ℕ) (front : List Item) (item : Item) (rest : List Item)
      → object_items sought.algorithm inventory sought.stored ≡ front ++ item ∷ rest → (w : Why) → IsWrongItem t (all_met t front (at_first t)) item w
      → (HasOtherBytes t item → IsOtherFile sought t (item_path item)) → IsWrong sought t (item_path item) w
  wrong_item inventory front item rest is why.Missing wrong bytes = missing inventory front item rest is wrong
  wrong_item inventory front item rest is why.Kind wrong bytes = other_kind inventory front item rest is wrong
  wrong_item inventory front item rest is why.Bytes wrong bytes = bytes wrong
  wrong_item inventory front item rest is why.Extra wrong bytes = absurd wrong

  pub stopped_early : (p : Path) (w : Why) → StopsAt t (at_first t) (early_items sought.stored) p w → IsWrong sought t p w
  stopped_early p w s =
      subst (λ (q : Path). IsWrong sought t q w) (sym s.path_is)
      (wrong_item [] s.front s.item (s.rest ++ inventory_items sought.algorithm []) (whole []) w s.wrong
      (λ other. inl (λ inventory. other_bytes inventory s.front s.item (s.rest ++ inventory_items sought.algorithm inventory) (whole inventory) other)))
    where
      whole : (inventory : List ℕ) → object_items sought.algorithm inventory sought.stored
          ≡ s.front ++ s.item ∷ (s.rest ++ inventory_items sought.algorithm inventory)
      whole inventory = are_items inventory ∙ ap (λ (l : List Item). l ++ inventory_items sought.algorithm inventory) s.items_are
          ∙ append_assoc s.front (s.item ∷ s.rest) (inventory_items sought.algorithm inventory)

  pub stopped_late : (inventory : List ℕ) (p : Path) (w : Why) → IsHeld sought t inventory → StopsAt t (at_first t) (all_items sought inventory) p w
      → IsWrong sought t p w
  stopped_late inventory p w held s =
      subst (λ (q : Path). IsWrong sought t q w) (sym s.path_is)
      (wrong_item inventory s.front s.item s.rest (are_items inventory ∙ s.items_are) w s.wrong
      (λ other. inr (inr (inventory, held, other_bytes inventory s.front s.item s.rest (are_items inventory ∙ s.items_are) other))))

  pub stopped_between : (p : Path) (w : Why) → p ≡ version_inventory → IsWrongInventory t (all_met t (early_items sought.stored) (at_first t)) version_inventory
      sought.text_with w → IsWrong sought t p w
  stopped_between p w is wrong = subst (λ (q : Path). IsWrong sought t q w) (sym is) (by w wrong)
    where
      by : (w : Why) → IsWrongInventory t (all_met t (early_items sought.stored) (at_first t)) version_inventory sought.text_with w
          → IsWrong sought t version_inventory w
      by why.Missing wrong = missing [] (early_items sought.stored) (MakeFile version_inventory []) (last_items sought.algorithm []) (are_items []) wrong
      by why.Kind wrong = other_kind [] (early_items sought.stored) (MakeFile version_inventory []) (last_items sought.algorithm []) (are_items []) wrong
      by why.Bytes wrong = inr (inl (refl, wrong))
      by why.Extra wrong = absurd wrong

  -- ---- and that it is the first

  not_extra : (q : Path) (w : Why) (marks : Marks) (item : Item) → IsWrongItem t marks item w → StandsUpTo sought t q → IsFirst sought t q w
  not_extra q why.Missing marks item wrong up_to = up_to
  not_extra q why.Kind marks item wrong up_to = up_to
  not_extra q why.Bytes marks item wrong up_to = up_to
  not_extra q why.Extra marks item wrong up_to = absurd wrong

  pub first_early : (p : Path) (w : Why) → StopsAt t (at_first t) (early_items sought.stored) p w → IsFirst sought t p w
  first_early p w s = not_extra p w (all_met t s.front (at_first t)) s.item s.wrong
      ([], s.front, s.item, s.rest ++ inventory_items sought.algorithm [], whole, s.path_is, s.stand)
    where
      whole : object_items sought.algorithm [] sought.stored ≡ s.front ++ s.item ∷ (s.rest ++ inventory_items sought.algorithm [])
      whole = are_items [] ∙ ap (λ (l : List Item). l ++ inventory_items sought.algorithm []) s.items_are
          ∙ append_assoc s.front (s.item ∷ s.rest) (inventory_items sought.algorithm [])

  pub first_between : (p : Path) (w : Why) → p ≡ version_inventory → All (StandsSo t) (early_items sought.stored)
      → IsWrongInventory t (all_met t (early_items sought.stored) (at_first t)) version_inventory sought.text_with w → IsFirst sought t p w
  first_between p w is stand wrong = by w wrong
    where
      up_to : StandsUpTo sought t p
      up_to = ([], early_items sought.stored, MakeFile version_inventory [], last_items sought.algorithm [], are_items [], is, stand)

      by : (w : Why) → IsWrongInventory t (all_met t (early_items sought.stored) (at_first t)) version_inventory sought.text_with w → IsFirst sought t p w
      by why.Missing wrong = up_to
      by why.Kind wrong = up_to
      by why.Bytes wrong = up_to
      by why.Extra wrong = absurd wrong

  pub first_late : (inventory : List ℕ) (p : Path) (w : Why) → StopsAt t (at_first t) (all_items sought inventory) p w → IsFirst sought t p w
  first_late inventory p w s = not_extra p w (all_met t s.front (at_first t)) s.item s.wrong (
    inventory,
    s.front,
    s.item,
    s.rest,
    are_items inventory
        ∙ s.items_are,
    s.path_is,
    s.stand,
  )

  -- ---- all of it stands

  module _ (inventory : List ℕ) (marks : Marks) (is : marks ≡ all_met t (all_items sought inventory) (at_first t)) where
    ended : Noting t (object_with sought inventory) marks
    unfolding tail_of
    ended =
        let c = carries inventory in
        subst (Noting t (object_with sought inventory)) (ap (λ (l : List Item). all_met t l (at_first t)) (are_items inventory) ∙ sym is)
        (subst (λ (u : Tree). Noting t u (all_met t (object_items sought.algorithm inventory sought.stored) (at_first t))) c.leaves
        (met_all t (tail_of (object_items sought.algorithm inventory sought.stored)) (on_way [] []) (met t (MakeFolder []) (at_first t)) c.can started))

    pub is_extra : (q : Path) → IsSome (marks q) → IsWrong sought t q why.Extra
    is_extra q some =
        let there = is_some_of (marks q) some in
        let stands = kind_some t q there.0 (ended.noted q there.0 there.1) in
        (by_inventory (ended.unmade q some), subst IsSome (sym stands.1) refl)
      where
        by_inventory : object_with sought inventory q ≡ None → shape sought q ≡ None
        by_inventory none = kind_none (shape sought) q (kinds [] inventory q ∙ ap (option_map kind_of_entry) none)

    pub is_all : All (StandsSo t) (all_items sought inventory) → ((p : Path) (n : List ℕ) → IsSome (t (p ++ n ∷ [])) → t p ≡ Some Folder)
        → ((q : Path) → marks q ≡ None) → (q : Path) → t q ≡ object_with sought inventory q
    unfolding tail_of
    is_all stand above none = all_same t (record { top = top; above = above }) (object_with sought inventory) marks ended none either
      where
        all : All (StandsSo t) (object_items sought.algorithm inventory sought.stored)
        all = subst (All (StandsSo t)) (sym (are_items inventory)) stand

        top : t [] ≡ Some Folder
        top = All-head (StandsSo t) (MakeFolder []) (tail_of (object_items sought.algorithm inventory sought.stored)) all

        begins : (q : Path) → (on_way [] [] q ≡ t q) ⊎ (on_way [] [] q ≡ None)
        begins [] = inl (sym top)
        begins (x ∷ q) = inr refl

        either : (q : Path) → (object_with sought inventory q ≡ t q) ⊎ (object_with sought inventory q ≡ None)
        either q = subst (λ (u : Tree). (u q ≡ t q) ⊎ (u q ≡ None)) (carries inventory).leaves
            (made_either t (tail_of (object_items sought.algorithm inventory sought.stored)) (on_way [] []) q
            (All-tail (StandsSo t) (MakeFolder []) (tail_of (object_items sought.algorithm inventory sought.stored)) all) (begins q))
