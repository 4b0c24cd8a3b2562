-- What a quick audit of an object finds.
use Rattle.std.proofs.Common.{◌≡◌, ◌∙◌, ℕ, List, [], true, refl, sym, ap, subst}
use Rattle.std.specs.Prelude.{All, Option, None, Some, IsSome}
use Rattle.pt_compare.specs.Found.{IsFound, IsObject, Sought, version_inventory}
use Rattle.pt_compare.specs.declared.difference.Comparison.{Comparison}
use Rattle.pt_compare.specs.declared.difference.Comparison.TheVariants as found
use Rattle.pt_compare.specs.declared.scanned.ScannedObject.{ScannedObject}
use Rattle.pt_compare.proofs.Compared.{stored_order}
use Rattle.pt_compare.proofs.Exact.{inventory_is, standing_object_is_the_same, top_is}
use Rattle.pt_object.specs.FilePaths.{are_apart, paths_of, row_paths}
use Rattle.pt_object.specs.declared.rows.Row.{Row}
use Rattle.pt_object.proofs.ObjectScripts.{in_order_apart}
use Rattle.pt_quick.specs.Claimed.{claimed_in, with_digests}
use Rattle.pt_quick.specs.Quick.{ClaimsAt, CouldBe, CouldBeOf, IsAlike, IsQuick, sought_by, source_bytes, source_digest}
use Rattle.pt_quick.specs.QuickLaws.{StandingObjectIsAlike}
use Rattle.pt_quick.specs.ReadAlike.{HasRead}
use Rattle.pt_quick.proofs.Alike.{own_alike}
use Rattle.pt_quick.proofs.Alone.{inventory_claims_its_rows}
use Rattle.pt_quick.proofs.Digests.{read_have_digests}
use Rattle.pt_quick.proofs.Bare.{same_stored, same_text_with}
use Rattle.pt_tree.specs.Forest.{Forest}
use Rattle.pt_tree.specs.Path.{Path}
use Rattle.pt_tree.specs.PathOrder.{part_in_order}
use Rattle.pt_tree.specs.Tree.{Bytes, Entry, Folder, Tree}

-- the object that is sought where these are its rows, of a store whose source's tree this is
abbrev pub sought_with : ScannedObject → List Row → Forest → Sought
sought_with object rows source = sought_by object.algorithm object.id.now rows (source_bytes object source)

module _ (object : ScannedObject) (order : part_in_order (row_paths object.rows.now) ≡ true) (s : Forest) (t : Tree)
    (own : All (HasRead (source_digest object s)) object.rows.now) where
  abbrev held : Path → List ℕ
  held = source_bytes object s

  -- these could be its rows
  abbrev Could : List Row → Type 0
  Could rows = CouldBe object.algorithm (row_paths object.rows.now) (source_bytes object s) rows

  could_here : (rows : List Row) → CouldBeOf object rows → Could rows
  could_here rows could = record { paths_are = could.paths_are; digests = could.digests; alike = could.alike (source_digest object s) own }

  -- and so could those that were scanned
  could_own : Could object.rows.now
  could_own = record {
    paths_are = refl;
    digests = read_have_digests object.algorithm (source_bytes object s) object.rows.now own;
    alike = own_alike (source_digest object s) object.rows.now own;
  }

  ordered : (rows : List Row) → Could rows → part_in_order (paths_of (sought_with object rows s).stored) ≡ true
  ordered rows could = stored_order held rows (ap part_in_order could.paths_are ∙ order)

  apart : (rows : List Row) → Could rows → are_apart (paths_of (sought_with object rows s).stored) ≡ true
  apart rows could = in_order_apart (paths_of (sought_with object rows s).stored) (ordered rows could)

  -- where the object stands with some digests, something stands
  top_stands : (rows : List Row) → Could rows → IsObject (sought_with object rows s) t → t [] ≡ Some Folder
  top_stands rows could (inventory, made, all) = top_is (sought_with object rows s) t (ordered rows could) (apart rows could) inventory made all

  -- with the digests of other rows the object is sought as with those
  same_sought : (told : List Row) → row_paths told ≡ row_paths object.rows.now
      → sought_with object (with_digests object.rows.now told) s ≡ sought_with object told s
  same_sought told paths = λ i. record {
    algorithm = object.algorithm;
    text_with = λ meta. same_text_with object.id.now object.rows.now told meta object.algorithm paths i;
    stored = same_stored object.rows.now told held paths i;
  }

  -- where the object stands with some digests, those are claimed
  record Claims (claimed : Option (List Row)) : Type 0 where
    rows : List Row
    are : claimed ≡ Some rows
    stands : IsObject (sought_with object rows s) t

  claims_it : (claimed : Option (List Row)) → ClaimsAt object t claimed → IsAlike object s t → Claims claimed
  claims_it claimed claims alike = on alike.stands
    where
      on : IsObject (sought_with object alike.rows s) t → Claims claimed
      on (inventory, made, all) =
          let sought = sought_with object alike.rows s in
          let here : t version_inventory ≡ Some (Bytes inventory) =
          inventory_is sought t (ordered alike.rows alike.could) (apart alike.rows alike.could) inventory made all in
          let told = claims inventory here made.is_text in
          record {
            rows = with_digests object.rows.now alike.rows;
            are = told.1 ∙ ap (λ (b : List ℕ). claimed_in object.algorithm b object.rows.now) made.is
                ∙ inventory_claims_its_rows object.id.now alike.rows object.rows.now made.meta object.algorithm (source_digest object s)
                alike.could.paths_are told.0 order alike.could.digests alike.could.alike own;
            stands = subst (λ (sought : Sought). IsObject sought t) (sym (same_sought alike.rows alike.could.paths_are)) (inventory, made, all);
          }

  -- what is found with these rows, which stand where the object is alike
  found_with : (rows : List Row) (finding : Comparison) → Could rows → IsSome (t []) → (IsAlike object s t → IsObject (sought_with object rows s) t)
      → IsFound (sought_with object rows s) t finding → IsQuick object s t finding
  found_with rows finding could some stands is = record {
    same = (
      λ same. record { rows = rows; could = could; stands = subst (λ f. IsFound (sought_with object rows s) t f) same is },
      λ alike. standing_object_is_the_same (sought_with object rows s) t finding (ordered rows could) (apart rows could) (stands alike) is,
    );
    absent = (
      λ absent. subst (λ f. IsFound (sought_with object rows s) t f) absent is,
      λ none. absurd (never (t []) some none),
    );
    found = record { rows = rows; could = could; found = is };
  }
    where
      never : (o : Option Entry) → IsSome o → o ≡ None → ⊥
      never None some none = absurd (let e = some in cc)
      never (Some x) some none = absurd (cc)

  pub found_claimed : (rows : List Row) (finding : Comparison) → ClaimsAt object t (Some rows) → CouldBeOf object rows → IsSome (t [])
      → IsFound (sought_with object rows s) t finding → IsQuick object s t finding
  found_claimed rows finding claims could some is = found_with rows finding (could_here rows could) some stands is
    where
      stands : IsAlike object s t → IsObject (sought_with object rows s) t
      stands alike =
          let claimed = claims_it (Some rows) claims alike in
          let same : claimed.rows ≡ rows = same_rows claimed.rows claimed.are in
          subst (λ (l : List Row). IsObject (sought_with object l s) t) same claimed.stands
        where
          same_rows : (other : List Row) → Some rows ≡ Some other → other ≡ rows
          same_rows other h = cc

  pub found_unclaimed : (finding : Comparison) → ClaimsAt object t None → IsSome (t [])
      → IsFound (sought_with object object.rows.now s) t finding → IsQuick object s t finding
  found_unclaimed finding claims some is =
      found_with object.rows.now finding could_own some
      (λ alike. none (claims_it None claims alike)) is
    where
      none : Claims None → IsObject (sought_with object object.rows.now s) t
      none claimed = let e : None ≡ Some claimed.rows = claimed.are in absurd (cc)

  pub found_absent : t [] ≡ None → IsQuick object s t found.Absent
  found_absent none = record {
    same = (λ e. absurd (cc), λ alike. absurd (never (top_stands alike.rows alike.could alike.stands)));
    absent = (λ e. none, λ e. refl);
    found = record { rows = object.rows.now; could = could_own; found = none };
  }
    where
      never : t [] ≡ Some Folder → ⊥
      never h = let e : Some Folder ≡ None = sym h ∙ none in absurd (cc)

pub standing_is_alike : StandingObjectIsAlike
standing_is_alike algorithm id rows bytes t digests alike stands =
    record { rows = rows; could = record { paths_are = refl; digests = digests; alike = alike }; stands = stands }
