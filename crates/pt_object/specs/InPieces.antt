-- A text that is made piece by piece, and that of an inventory.
use Rattle.std.specs.Prelude.{◌≡◌, ◌<◌, ◌++◌, [], ◌∷◌, ℕ, Bool, List, codes, drop, false, fold, length, map, nat_lt, true}
use Rattle.std.specs.Str.{IsUtf8}
use Rattle.json.specs.Print.{ends, print_from}
use Rattle.json.specs.Token.{Token, begin_array, begin_object, end_array, end_object, key, string}
use Rattle.pt_object.specs.Algorithm.{algorithm_word}
use Rattle.pt_object.specs.Distinct.{content_of_row, distinct}
use Rattle.pt_object.specs.Entries.{entries, grouped, stored}
use Rattle.pt_object.specs.Index.{IsIndex}
use Rattle.pt_object.specs.Inventory.{paths_with, user_tree}
use Rattle.pt_object.specs.Later.{group_lent, parted}
use Rattle.pt_object.specs.MetaParts.{MetaParts}
use Rattle.pt_object.specs.Tokens.{tokens_of}
use Rattle.pt_object.specs.declared.algorithm.Algorithm.{Algorithm}
use Rattle.pt_object.specs.declared.inventories.parts.Parts.{Parts}
use Rattle.pt_object.specs.declared.inventories.parts.Step.{Step}
use Rattle.pt_object.specs.declared.inventories.parts.Step.TheVariants as step

-- the piece that was made last, and what is still to be made behind it
pub record InPieces : Type 0 where
  pub piece : List ℕ
  pub rest : List ℕ

-- one more piece, a text of some bytes, is taken from what is still to be made; or nothing is
abbrev pub TakesPiece : Bool → InPieces → InPieces → Type 0
TakesPiece true old new = (old.rest ≡ new.piece ++ new.rest) × (0 < length new.piece) × IsUtf8 new.piece
TakesPiece false old new = (old.rest ≡ []) × (new.rest ≡ [])

-- ---- the tokens of an inventory

-- the members before the manifest, and its key
abbrev pub head : List ℕ → Algorithm → List Token
head id algorithm =
    begin_object ∷ key (codes "digestAlgorithm") ∷ string (algorithm_word algorithm)
    ∷ key (codes "head") ∷ string (codes "v1") ∷ key (codes "id") ∷ string id
    ∷ key (codes "manifest") ∷ []

-- from the manifest's end to the state's beginning
abbrev pub middle : MetaParts → List Token
middle meta =
    end_object ∷ key (codes "type") ∷ string (codes "https://ocfl.io/1.1/spec/#inventory")
    ∷ key (codes "versions") ∷ begin_object ∷ key (codes "v1") ∷ begin_object
    ∷ key (codes "created") ∷ string meta.created ∷ key (codes "message") ∷ string meta.message
    ∷ key (codes "state") ∷ begin_object ∷ []

-- from the state's end on
abbrev pub back : MetaParts → List Token
back meta =
    (end_object ∷ key (codes "user") ∷ tokens_of (user_tree meta.address meta.name))
    ++ end_object ∷ end_object ∷ end_object ∷ []

-- the entries of the state from a place of the index on, and what comes behind them
abbrev pub left_in_state : Parts → ℕ → List Token
left_in_state parts place =
    entries (grouped parts.rows.now) parts.items.now (drop place parts.index.now) ++ back parts.meta.now

-- the same of the manifest
abbrev pub left_in_manifest : Parts → ℕ → List Token
left_in_manifest parts place =
    entries stored parts.items.now (drop place parts.index.now)
    ++ (middle parts.meta.now ++ left_in_state parts 0)

-- all tokens from a step on
abbrev pub left : Parts → Step → List Token
left parts step.Head = (head parts.id.now parts.algorithm ++ begin_object ∷ []) ++ left_in_manifest parts 0
left parts (step.Manifest place) = left_in_manifest parts place
left parts (step.State place) = left_in_state parts place
left parts step.End = []

-- a value ended before them
abbrev pub is_behind : Step → Bool
is_behind step.Head = false
is_behind (step.Manifest place) = nat_lt 0 place
is_behind (step.State place) = nat_lt 0 place
is_behind step.End = true

-- their text
abbrev pub text_left : Parts → Step → List ℕ
text_left parts here = print_from (is_behind here) (left parts here)

-- a token behind which a text is as behind a value, or as where none is
abbrev pub bracket : Bool → Token
bracket true = end_array
bracket false = begin_array

-- ---- steps

-- it makes what stands before the manifest
abbrev pub is_head : Step → Bool
is_head step.Head = true
is_head _ = false

-- it makes entries of the manifest
abbrev pub is_in_manifest : Step → Bool
is_in_manifest (step.Manifest place) = true
is_in_manifest _ = false

-- it makes entries of the state
abbrev pub is_in_state : Step → Bool
is_in_state (step.State place) = true
is_in_state _ = false

-- something is still to be made
abbrev pub is_before_end : Step → Bool
is_before_end step.End = false
is_before_end _ = true

-- from a step to the next tokens were put that come there; where the test holds of the step these have a text, and else all is as before
pub record Puts (test : Step → Bool) (parts : Parts) (here next : Step) (old new : List Token) : Type 0 where
  pub tokens : List Token
  pub put : new ≡ old ++ tokens
  pub left_are : left parts here ≡ tokens ++ left parts next
  pub behind : is_behind next ≡ fold (λ _ t. ends t) (is_behind here) tokens
  pub some : test here ≡ true → (b : Bool) → 0 < length (print_from b tokens)
  pub still : test here ≡ false → next ≡ here

-- the contents are those of the rows, with their places and the paths of each
pub record AreParts (parts : Parts) : Type 0 where
  pub contents : parts.items.now ≡ map content_of_row (distinct parts.rows.now)
  pub ordered : IsIndex parts.items.now parts.index.now
  pub grouped_are : map group_lent parts.groups.items
      ≡ map (λ content. parted (paths_with parts.rows.now content.digest)) parts.items.now
