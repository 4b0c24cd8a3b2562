-- What a run takes of a store: its share, and of that what begins with the texts that are asked for, or stands in a list. A store is divided into
-- shares by the identifiers of its objects, or by its folders.
use Rattle.std.specs.Prelude.{
  ℕ,
  ◌≡◌,
  ◌≤◌,
  ◌+◌,
  ◌*◌,
  ◌/◌,
  ◌^◌,
  ◌==◌,
  ◌&&◌,
  ◌||◌,
  Bool,
  true,
  false,
  not,
  nat_lt,
  if◌then◌else◌,
  List,
  [],
  ◌∷◌,
  length,
  map,
  take,
  Option,
  None,
  Some,
  String,
  Vec,
  Result,
  Ok,
  Err,
}
use Rattle.std.specs.Global.{Global}
use Rattle.std.specs.Int.{from_be_bytes, w32}
use Rattle.std.specs.List.{list_any}
use Rattle.std.specs.Str.{bytes_eq}
use Rattle.std.specs.String.{string_bytes}
use Rattle.pt_tree.specs.Path.{Path, joined}
use Rattle.sha2.specs.Sha256.{sha256}
use Rattle.pt_name.specs.declared.division.Division.{Division}
use Rattle.pt_name.specs.declared.division.Division.TheVariants as division
use Rattle.pt_name.specs.declared.share.ShareFault.{ShareFault}
use Rattle.pt_name.specs.declared.share.ShareFault.TheVariants as fault

-- the share of this number, of so many into which the store is divided so, and of it what begins with one of these texts, or is one of those of a
-- list; all of it, where there is neither text nor list
pub record Portion : Type 0 where
  pub index : ℕ
  pub count : ℕ
  pub division : Division
  pub only : List (List ℕ)
  pub list : Option (List (List ℕ))

-- the share of this number, of so many, with all its identifiers
abbrev pub numbered : ℕ → ℕ → Portion
numbered index count =
    record { index = index; count = count; division = division.Identifiers; only = []; list = None }

-- the one value where a store is divided by identifiers, and the other, by the depth, where it is by folders
abbrev pub by_division : {A : Type 0} → Division → A → (ℕ → A) → A
by_division division.Identifiers whole folders = whole
by_division (division.Folders depth) whole folders = folders depth

-- the texts that are asked for, where any are
abbrev pub texts_of : Option (Vec (String Global) Global) → List (List ℕ)
texts_of None = []
texts_of (Some texts) = map string_bytes texts.items

-- the shares are counted from 1, and there are at most 4,096
pub record IsPortion (share : Portion) : Type 0 where
  pub first : 1 ≤ share.index
  pub last : share.index ≤ share.count
  pub few : share.count ≤ 4096

-- the share with these numbers, or the first of the three refusals that applies
abbrev pub share_of : ℕ → ℕ → Result Portion ShareFault
share_of index count =
    if index == 0 || count == 0 then Err fault.Zero
    else if nat_lt 4096 count then Err fault.TooMany
    else if nat_lt count index then Err fault.OutOfRange
    else Ok (numbered index count)

-- the number of a refusal
abbrev pub share_number_of_fault : ShareFault → ℕ
share_number_of_fault fault.Zero = 1
share_number_of_fault fault.TooMany = 2
share_number_of_fault fault.OutOfRange = 3

-- the whole store, as the one share of one
abbrev pub whole : Portion
whole = numbered 1 1

-- the first four bytes of an identifier's SHA-256 as a number, the first byte the highest
unfoldable pub digest_number : List ℕ → ℕ
digest_number id = from_be_bytes w32 (sha256 id)

-- the number, from 1 on, of the share that an identifier is of: `h * count / 2^32 + 1`, rounded down, where h is the first four bytes of its SHA-256
-- as a number; so the digests are cut into so many parts of one size
abbrev pub share_number : ℕ → List ℕ → ℕ
share_number count id = digest_number id * count / 2 ^ 32 + 1

-- the identifier begins with this text, byte for byte
abbrev pub begins_with : List ℕ → List ℕ → Bool
begins_with text id = bytes_eq text (take (length text) id)

-- the identifier begins with one of these texts, or there is none
abbrev pub begins_so : List (List ℕ) → List ℕ → Bool
begins_so [] id = true
begins_so (text ∷ texts) id = list_any (λ t. begins_with t id) (text ∷ texts)

-- the identifier is one of these
abbrev pub is_listed : List (List ℕ) → List ℕ → Bool
is_listed ids id = list_any (λ listed. bytes_eq listed id) ids

-- two lists have the same identifiers
abbrev pub ListsAs : List (List ℕ) → List (List ℕ) → Type 0
ListsAs ids others = (id : List ℕ) → is_listed ids id ≡ is_listed others id

-- the identifier stands in the list, or begins with one of these texts; without a list it begins so, where there are texts
abbrev pub chosen : List (List ℕ) → Option (List (List ℕ)) → List ℕ → Bool
chosen texts (Some ids) id = is_listed ids id || list_any (λ t. begins_with t id) texts
chosen texts None id = begins_so texts id

-- it is the first
abbrev pub is_first : Portion → Bool
is_first share = share.index == 1

-- ---- by folders

-- the names of the first so many shorties on the way to a site, with `/` between them; of all, where there are fewer
abbrev pub way_text : ℕ → Path → List ℕ
way_text depth site = joined (take depth site)

-- the way to the site gives the share's number, where a store is divided by its folders so deep
abbrev pub is_on_own_way : Portion → Path → ℕ → Bool
is_on_own_way share site depth = share_number share.count (way_text depth site) == share.index

-- folders so deep are divided among the shares
abbrev pub divides_at : Portion → ℕ → Bool
divides_at share depth = by_division share.division false (λ folders. depth == folders)

-- the folder of a site is walked: where folders so deep are divided, only a share's own are, and so no share but one comes to what is below
abbrev pub walks : Portion → Path → Bool
walks share site =
    not (divides_at share (length site)) || by_division share.division true (is_on_own_way share site)

-- ---- what is of a share

-- what is passed over at a site before an identifier is carried is told by the share: the first, or the one that the way gives
abbrev pub tells_at : Portion → Path → Bool
tells_at share site = by_division share.division (is_first share) (is_on_own_way share site)

-- the object of a site, with this identifier, is of the share, by the one or by the other, and chosen
abbrev pub takes : Portion → Path → List ℕ → Bool
takes share site id = chosen share.only share.list id
    && by_division share.division (share_number share.count id == share.index) (is_on_own_way share site)

-- an identifier whose site isn't known is of the share, and chosen; where a store is divided by folders it is of the first
abbrev pub holds : Portion → List ℕ → Bool
holds share id = chosen share.only share.list id
    && by_division share.division (share_number share.count id == share.index) (λ depth. is_first share)
