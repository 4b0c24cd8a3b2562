-- The digests that an inventory claims for the files of an object.
use Rattle.std.specs.Prelude.{ℕ, Bool, true, cond, List, [], ◌∷◌, ◌++◌, Option, None, Some}
use Rattle.std.specs.Cmp.Lexicographic.{slice_cmp}
use Rattle.std.specs.Global.{Vec}
use Rattle.std.specs.Map.{lookup}
use Rattle.std.specs.Option.{option_and_then, option_map_or, unwrap_or}
use Rattle.std.specs.Ordering.{is_eq, nat_cmp}
use Rattle.std.specs.Str.{bytes_eq}
use Rattle.serde_json.specs.Data.{Data, Items, Members, item, member, no_items, no_members, null}
use Rattle.serde_json.specs.Find.{as_array, as_str}
use Rattle.serde_json.specs.Read.{read}
use Rattle.pt_object.specs.HexDigest.{hex_digest}
use Rattle.pt_object.specs.Rows.{row_of}
use Rattle.pt_object.specs.VersionState.{state_in}
use Rattle.pt_object.specs.declared.algorithm.Algorithm.{Algorithm}
use Rattle.pt_object.specs.declared.rows.Row.{Row}
use Rattle.pt_tree.specs.Path.{joined}

-- the digest that is claimed for each text of a logical path, if one is
abbrev pub Claimed : Type 0
Claimed = List ℕ → Option (List ℕ)

-- texts that are held, each with its digest
abbrev pub Held : Type 0
Held = List (Vec ℕ × List ℕ)

-- what they claim
abbrev pub claimed_at : Held → Claimed
claimed_at entries = λ text. lookup (λ held. is_eq (slice_cmp nat_cmp text held.items)) entries

-- none
abbrev pub no_claims : Claimed
no_claims = λ text. None

-- with a digest for a text, if it is one
abbrev pub with_text : List ℕ → Option (List ℕ) → Claimed → Claimed
with_text digest None claims = claims
with_text digest (Some text) claims = λ other. cond (bytes_eq text other) (Some digest) (claims other)

-- with it for each of these that is a text
abbrev pub with_items : List ℕ → Items → Claimed → Claimed
with_items digest no_items claims = claims
with_items digest (item d items) claims = with_items digest items (with_text digest (as_str d) claims)

-- with it for all of these, if it is one
abbrev pub with_list : Option (List ℕ) → Option Items → Claimed → Claimed
with_list (Some digest) (Some items) claims = with_items digest items claims
with_list _ _ claims = claims

-- with what a member of a state claims, if its key is a digest in hex
abbrev pub with_member : Algorithm → List ℕ → Data → Claimed → Claimed
with_member algorithm key paths claims =
    with_list (hex_digest algorithm key) (as_array paths) claims

-- with what the members of a state claim, one after another
abbrev pub claims_after : Algorithm → Members → Claimed → Claimed
claims_after algorithm no_members claims = claims
claims_after algorithm (member key paths state) claims =
    claims_after algorithm state (with_member algorithm key paths claims)

-- by the digests that are claimed for files, those of what was read of them
abbrev pub HeldDigests : Type 0
HeldDigests = List (List ℕ × List ℕ)

-- the one that is held for each, if one is
abbrev pub read_at : HeldDigests → Claimed
read_at entries = λ claimed. lookup (λ held. is_eq (slice_cmp nat_cmp claimed held)) entries

-- what is read of a file fits what was read of another with the digest that is claimed for it, if there was one
abbrev pub fits : Claimed → List ℕ → List ℕ → Bool
fits known claimed digest = option_map_or (λ other. bytes_eq other digest) (known claimed) true

-- each of these rows with the digest that is claimed for its path, behind those that have theirs, where all with one digest were read alike
abbrev pub claimed_all : Claimed → Claimed → List Row → List Row → Option (List Row)
claimed_all claims known front [] = Some front
claimed_all claims known front (row ∷ rows) =
    option_and_then (λ digest. cond (fits known digest row.digest)
    (claimed_all claims (with_text row.digest (Some digest) known) (front ++ row_of row.path digest row.length ∷ []) rows)
    None) (claims (joined row.path))

-- the rows with the digests that an inventory claims for their paths in its state, if it does for all, and all with one of these were read alike
abbrev pub claimed_in : Algorithm → List ℕ → List Row → Option (List Row)
claimed_in algorithm inventory rows =
    option_and_then (λ state. claimed_all (claims_after algorithm state no_claims) no_claims [] rows)
    (state_in (unwrap_or (read inventory) null))

-- these rows with the digests of others, one for each
abbrev pub with_digests : List Row → List Row → List Row
with_digests [] told = []
with_digests (row ∷ rows) [] = []
with_digests (row ∷ rows) (other ∷ told) =
    row_of row.path other.digest row.length ∷ with_digests rows told
