-- What the names of a site's path say of its object: the identifier that they read, its place, and whether it is of the share.
use Rattle.std.specs.Prelude.{ℕ, Bool, ◌==◌, ◌&&◌, cond, codes, List, [], ◌∷◌, ◌++◌, Option, None, Some, Result, Ok, Err}
use Rattle.std.specs.List.{concat}
use Rattle.std.specs.Str.{is_utf8}
use Rattle.pt_tree.specs.Path.{Path, same_path}
use Rattle.pt_name.specs.Place.{place_of}
use Rattle.pt_name.specs.Reading.{reading_of}
use Rattle.pt_name.specs.Share.{Portion, takes}
use Rattle.pt_name.specs.Tuples.{Tuples}
use Rattle.pt_name.specs.declared.identifying.Identification.{Identification}
use Rattle.pt_name.specs.declared.identifying.Identification.TheVariants as answer
use Rattle.pt_name.specs.declared.identifying.Refusal.{Refusal}
use Rattle.pt_name.specs.declared.identifying.Refusal.TheVariants as refusal

-- no tuples are used, and the place is that of the storage root's own extensions (OCFL 1.1, "Root Structure")
abbrev pub is_own_place : Tuples → Path → Bool
is_own_place tuples place = tuples.count == 0 && same_path place (codes "extensions" ∷ [])

-- the identifier, unless its place is reserved
abbrev pub unless_reserved : Tuples → List ℕ → Result (List ℕ) Refusal
unless_reserved tuples id = cond (is_own_place tuples (place_of tuples id)) (Err refusal.Reserved) (Ok id)

-- by what the names read: nothing; bytes that aren't UTF-8; or the identifier's part behind the prefix
abbrev pub identifier_by : Tuples → List ℕ → Option (List ℕ) → Result (List ℕ) Refusal
identifier_by tuples prefix None = Err refusal.Malformed
identifier_by tuples prefix (Some read) =
    cond (is_utf8 read) (unless_reserved tuples (prefix ++ read)) (Err refusal.NotUtf8)

-- the identifier that the names of a site's path read, behind the prefix, or why none is carried: they are read with nothing between (Pairtree 0.1,
-- "Identifier string cleaning")
abbrev pub identifier_at : Tuples → List ℕ → Path → Result (List ℕ) Refusal
identifier_at tuples prefix site = identifier_by tuples prefix (reading_of (concat site))

-- by what the names read: the identifier, whatever its place; none where they read nothing, or bytes that aren't UTF-8
abbrev pub identifier_read_by : List ℕ → Option (List ℕ) → Option (List ℕ)
identifier_read_by prefix None = None
identifier_read_by prefix (Some read) = cond (is_utf8 read) (Some (prefix ++ read)) None

-- the identifier that the names of a site's path read, behind the prefix, whatever its place
abbrev pub identifier_read : List ℕ → Path → Option (List ℕ)
identifier_read prefix site = identifier_read_by prefix (reading_of (concat site))

-- the object of a site by its identifier: with its place, if it is of the share
abbrev pub identification_by : Tuples → Portion → Path → Result (List ℕ) Refusal → Identification
identification_by tuples share site (Err why) = answer.Refused why
identification_by tuples share site (Ok id) =
    cond (takes share site id) (answer.Candidate (record { id = id; place = place_of tuples id }))
    answer.OtherShare

-- the object of the site at this path, in a store of this prefix
abbrev pub identification_of : Tuples → Portion → List ℕ → Path → Identification
identification_of tuples share prefix site =
    identification_by tuples share site (identifier_at tuples prefix site)
