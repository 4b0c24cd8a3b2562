-- The identifiers of a list of which no object was met so far: at each position of the list its identifier, or None where one was met.
use Rattle.std.specs.Prelude.{◌≡◌, ◌==◌, ℕ, zero, suc, Bool, true, false, cond, List, [], ◌∷◌, map, Option, None, Some}
use Rattle.std.specs.Global.{Global}
use Rattle.std.specs.Str.{bytes_eq}
use Rattle.std.specs.declared.rc.Rc.{Rc}
use Rattle.pt_name.specs.Share.{Portion, by_division, is_listed, share_number}

-- the identifiers of a list that there may be
abbrev pub ids_of : Option (Rc (List (List ℕ)) Global) → List (List ℕ)
ids_of None = []
ids_of (Some list) = list.value

-- an identifier, while its flag is set
abbrev pub while_set : Bool → List ℕ → Option (List ℕ)
while_set flag id = cond flag (Some id) None

-- these identifiers, by their flags
abbrev pub unmet_flagged : List (List ℕ) → List Bool → List (Option (List ℕ))
unmet_flagged ids [] = []
unmet_flagged [] (flag ∷ flags) = None ∷ unmet_flagged [] flags
unmet_flagged (id ∷ ids) (flag ∷ flags) = while_set flag id ∷ unmet_flagged ids flags

-- the share may meet an object of this identifier: it is of the share's number; or the way to its site, which isn't known, decides
abbrev pub may_meet : Portion → List ℕ → Bool
may_meet share id =
    by_division share.division (share_number share.count id == share.index) (λ depth. true)

-- of a list, those that the share may meet; the others are met by other shares
abbrev pub unmet_in : Portion → Option (List (List ℕ)) → List (Option (List ℕ))
unmet_in share None = []
unmet_in share (Some ids) = map (λ id. while_set (may_meet share id) id) ids

-- of the share's list, before any was met
abbrev pub unmet_by : Portion → List (Option (List ℕ))
unmet_by share = unmet_in share share.list

-- one, unless it is this one
abbrev pub unless_it : List ℕ → Option (List ℕ) → Option (List ℕ)
unless_it id None = None
unless_it id (Some unmet) = cond (bytes_eq unmet id) None (Some unmet)

-- those that are left once this one was met
abbrev pub without : List ℕ → List (Option (List ℕ)) → List (Option (List ℕ))
without id = map (unless_it id)

-- or once one was met, if one was
abbrev pub without_any : Option (List ℕ) → List (Option (List ℕ)) → List (Option (List ℕ))
without_any None unmet = unmet
without_any (Some id) unmet = without id unmet

-- the one at a position
abbrev pub unmet_there : List (Option (List ℕ)) → ℕ → Option (List ℕ)
unmet_there [] position = None
unmet_there (one ∷ more) zero = one
unmet_there (one ∷ more) (suc position) = unmet_there more position

-- the identifier stands there in the list, and nowhere else
abbrev pub StandsOnlyAt : List ℕ → List (List ℕ) → ℕ → Type 0
StandsOnlyAt id [] position = ⊥
StandsOnlyAt id (listed ∷ ids) zero = (bytes_eq listed id ≡ true) × (is_listed ids id ≡ false)
StandsOnlyAt id (listed ∷ ids) (suc position) =
    (bytes_eq listed id ≡ false) × StandsOnlyAt id ids position
