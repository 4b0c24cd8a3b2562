-- The tokens of an inventory, part by part.
use Rattle.std.proofs.Common.{◌≡◌, ℕ, List, [], ◌∷◌, ◌++◌, append_assoc, ap, ap₂, fold, map, sym, ◌∙◌}
use Rattle.std.specs.Prelude.{codes}
use Rattle.json.specs.Token.{Token, begin_object, end_object, key, string}
use Rattle.serde_json.specs.Data.{no_members, object}
use Rattle.pt_object.specs.Algorithm.{algorithm_word}
use Rattle.pt_object.specs.Distinct.{content_of_row, distinct}
use Rattle.pt_object.specs.Entries.{entries, grouped, stored}
use Rattle.pt_object.specs.Index.{IsIndex}
use Rattle.pt_object.specs.InPieces.{back, head, middle}
use Rattle.pt_object.specs.Inventory.{inventory_tree, manifest_members, state_members, user_tree}
use Rattle.pt_object.specs.MetaParts.{MetaParts}
use Rattle.pt_object.specs.Tokens.{tokens_of}
use Rattle.pt_object.specs.declared.algorithm.Algorithm.{Algorithm}
use Rattle.pt_object.specs.declared.table.contents.Content.{Content}
use Rattle.pt_object.specs.declared.rows.Row.{Row}
use Rattle.pt_object.proofs.Appended.{appended}
use Rattle.pt_object.proofs.Entries.{all_entries}
use Rattle.pt_object.proofs.InventoryText.{none_sound, sound_manifest, sound_state}
use Rattle.pt_object.proofs.Sorted.{AreBytes, put_by}

pub head_written : (id : List ℕ) (algorithm : Algorithm) (t0 t1 t2 t3 t4 t5 : List Token)
    → t1 ≡ t0 ++ begin_object ∷ [] → t2 ≡ t1 ++ key (codes "digestAlgorithm") ∷ string (algorithm_word algorithm) ∷ []
    → t3 ≡ t2 ++ key (codes "head") ∷ string (codes "v1") ∷ []
    → t4 ≡ t3 ++ key (codes "id") ∷ string id ∷ [] → t5 ≡ t4 ++ key (codes "manifest") ∷ [] → t5 ≡ t0 ++ head id algorithm
head_written id algorithm t0 t1 t2 t3 t4 t5 e1 e2 e3 e4 e5 = appended t0 _ _ t4 t5
    (appended t0 _ _ t3 t4 (appended t0 _ _ t2 t3 (appended t0 _ _ t1 t2 e1 e2) e3) e4) e5

pub middle_written : (meta : MetaParts) (t0 t1 t2 t3 t4 t5 t6 t7 t8 t9 t10 : List Token)
    → t1 ≡ t0 ++ end_object ∷ [] → t2 ≡ t1 ++ key (codes "type") ∷ string (codes "https://ocfl.io/1.1/spec/#inventory") ∷ []
    → t3 ≡ t2 ++ key (codes "versions") ∷ []
    → t4 ≡ t3 ++ begin_object ∷ [] → t5 ≡ t4 ++ key (codes "v1") ∷ [] → t6 ≡ t5 ++ begin_object ∷ []
    → t7 ≡ t6 ++ key (codes "created") ∷ string meta.created ∷ []
    → t8 ≡ t7 ++ key (codes "message") ∷ string meta.message ∷ [] → t9 ≡ t8 ++ key (codes "state") ∷ [] → t10 ≡ t9 ++ begin_object ∷ []
    → t10 ≡ t0 ++ middle meta
middle_written meta t0 t1 t2 t3 t4 t5 t6 t7 t8 t9 t10 e1 e2 e3 e4 e5 e6 e7 e8 e9 e10 =
    appended t0 _ _ t9 t10 (appended t0 _ _ t8 t9 (appended t0 _ _ t7 t8
    (appended t0 _ _ t6 t7 (appended t0 _ _ t5 t6 (appended t0 _ _ t4 t5 (appended t0 _ _ t3 t4
    (appended t0 _ _ t2 t3 (appended t0 _ _ t1 t2 e1 e2) e3) e4) e5) e6) e7) e8) e9) e10

-- the tokens of an inventory whose manifest and whose state have these
written : List ℕ → Algorithm → MetaParts → List Token → List Token → List Token
written id algorithm meta manifest state =
    head id algorithm
    ++ (manifest ++ (key (codes "type") ∷ string (codes "https://ocfl.io/1.1/spec/#inventory") ∷ key (codes "versions")
    ∷ ((begin_object ∷ key (codes "v1") ∷ ((begin_object ∷ key (codes "created") ∷ string meta.created ∷ key (codes "message") ∷ string meta.message
    ∷ key (codes "state")
    ∷ (state ++ (key (codes "user") ∷ (tokens_of (user_tree meta.address meta.name) ++ end_object ∷ [])))) ++ end_object ∷ [])) ++ end_object ∷ [])))

-- from the first step on all tokens are left
pub all_left : (id : List ℕ) (rows : List Row) (meta : MetaParts) (algorithm : Algorithm) (items : List Content) (index : List ℕ)
    → items ≡ map content_of_row (distinct rows) → IsIndex items index → AreBytes items
    → (head id algorithm ++ begin_object ∷ []) ++ (entries stored items index ++ (middle meta ++ (entries (grouped rows) items index ++ back meta)))
    ≡ tokens_of (inventory_tree id rows meta algorithm)
unfolding written
all_left id rows meta algorithm items index are ordered bytes =
    let m : tokens_of (object (manifest_members rows)) ≡ begin_object ∷ (entries stored items index ++ end_object ∷ []) =
    ap (λ (l : List Content). tokens_of (object (fold (put_by stored) no_members l))) (sym are)
    ∙ all_entries stored items index ordered bytes (sound_manifest items no_members none_sound).rise in
    let s : tokens_of (object (state_members rows)) ≡ begin_object ∷ (entries (grouped rows) items index ++ end_object ∷ []) =
    ap (λ (l : List Content). tokens_of (object (fold (put_by (grouped rows)) no_members l))) (sym are)
    ∙ all_entries (grouped rows) items index ordered bytes (sound_state rows items no_members none_sound).rise in
    let both : written id algorithm meta (begin_object ∷ (entries stored items index ++ end_object ∷ []))
    (begin_object ∷ (entries (grouped rows) items index ++ end_object ∷ []))
    ≡ written id algorithm meta (tokens_of (object (manifest_members rows))) (tokens_of (object (state_members rows))) = ap₂ (written id algorithm meta) (sym m)
    (sym s) in
    let flat : (head id algorithm ++ begin_object ∷ []) ++ (entries stored items index ++ (middle meta ++ (entries (grouped rows) items index ++ back meta)))
    ≡ written id algorithm meta (begin_object ∷ (entries stored items index ++ end_object ∷ []))
    (begin_object ∷ (entries (grouped rows) items index ++ end_object ∷ [])) = simp append_assoc in
    flat ∙ both
