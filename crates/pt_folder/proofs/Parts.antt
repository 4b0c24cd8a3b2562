-- What a directory gives is parted, one after another.
use Rattle.std.proofs.Common.{◌≡◌, ℕ, length, true, false, List, [], ◌∷◌, ◌++◌, ◌&&◌, Bool, refl, sym, ap, ◌∙◌, append-nil, cond, subst}
use Rattle.std.specs.Prelude.{Vec, Result, Ok, Err, IfErr, OnOk}
use Rattle.std.specs.Global.{Global}
use Rattle.std.specs.List.{filter}
use Rattle.std.proofs.lemmas.List.{length-map}
use Rattle.std.proofs.lemmas.List.Elements.{filter-append}
use Rattle.pt_tree.specs.declared.faults.TreeFault.{TreeFault}
use Rattle.pt_tree.specs.declared.faults.TreeFault.TheVariants.{Device, Memory}
use Rattle.pt_folder.specs.Calls.{IsDueTo}
use Rattle.pt_folder.specs.Names.{is_entry}
use Rattle.pt_folder.specs.Taking.{HasOneMore}
use Rattle.pt_folder.specs.Parting.{HasNoRoom, HasParts, IsBeyond, IsFew, IsOneTooMany, bytes_in, is_no_name}
use Rattle.pt_folder.specs.declared.parting.Partition.{Partition}
use Rattle.pt_tree.specs.Name.{is_name}

-- those that pass of one more
one_more : (p : List ℕ → Bool) (name : List ℕ) (all now new : List (List ℕ)) (entry : Bool) → now ≡ filter p all
    → new ≡ cond (entry && p name) (now ++ name ∷ []) now
    → new ≡ filter p (cond entry (all ++ name ∷ []) all)
one_more p name all now new false before is = is ∙ before
one_more p name all now new true before is = is ∙ by (p name) ∙ ap (λ l. l ++ cond (p name) (name ∷ []) []) before ∙ sym (filter-append p all (name ∷ []))
  where
    by : (b : Bool) → cond b (now ++ name ∷ []) now ≡ now ++ cond b (name ∷ []) []
    by true = refl
    by false = sym (append-nil now)

-- the next of what a directory gives
pub parts_one : (name : List ℕ) (all : List (List ℕ)) (old new : Partition) → HasParts old all
    → new.names.items ≡ cond (is_entry name && is_name name) (old.names.items ++ name ∷ []) old.names.items
    → bytes_in new.refused.items ≡ cond (is_entry name && is_no_name name) (bytes_in old.refused.items ++ name ∷ []) (bytes_in old.refused.items)
    → (IsFew old → IsFew new)
    → HasParts new (cond (is_entry name) (all ++ name ∷ []) all)
parts_one name all old new parts names others few = record {
  named = one_more is_name name all old.names.items new.names.items (is_entry name) parts.named names;
  refused = one_more is_no_name name all (bytes_in old.refused.items) (bytes_in new.refused.items) (is_entry name) parts.refused others;
  few = few parts.few;
}

-- what isn't taken behind the parts isn't behind all that was given
pub beyond_all : (name : List ℕ) (all : List (List ℕ)) (old : Partition) → HasParts old all → IsBeyond old name → IsOneTooMany all name
beyond_all name all old parts beyond =
    let others : length old.refused.items ≡ length (filter is_no_name all) = sym (length-map old.refused.items (λ (name : Vec ℕ Global). name.items))
    ∙ ap length parts.refused in
    subst (λ n. HasNoRoom (length (filter is_name all)) n name) others (subst (λ n. HasNoRoom n (length old.refused.items) name) (ap length parts.named) beyond)

-- so it is taken, or isn't
pub parts_taken : (r : Result (Unit {0}) TreeFault) (name : List ℕ) (old new : Partition)
    → OnOk r (new.names.items ≡ cond (is_entry name && is_name name) (old.names.items ++ name ∷ []) old.names.items)
    → OnOk r (bytes_in new.refused.items ≡ cond (is_entry name && is_no_name name) (bytes_in old.refused.items ++ name ∷ []) (bytes_in old.refused.items))
    → (IsFew old → IsFew new)
    → OnOk r (HasOneMore HasParts old new name)
parts_taken (Ok done) name old new names others few = λ all parts. parts_one name all old new parts names others few
parts_taken (Err fault) name old new names others few = tt

pub parts_refused : (r : Result (Unit {0}) TreeFault) (name : List ℕ) (old : Partition) → IfErr r (λ fault. IsDueTo fault (IsBeyond old name))
    → IfErr r (λ fault. (all : List (List ℕ)) → HasParts old all → IsDueTo fault (IsOneTooMany all name))
parts_refused (Ok done) name old beyond = tt
parts_refused (Err Memory) name old beyond = λ all parts. tt
parts_refused (Err Device) name old beyond = λ all parts. beyond_all name all old parts beyond
