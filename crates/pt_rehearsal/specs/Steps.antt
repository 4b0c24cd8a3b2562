-- The steps that a destination was asked for, and what it holds after them.
use Rattle.std.specs.Prelude.{◌≡◌, ◌⊎◌, ℕ, List, [], ◌∷◌, None, refl}
use Rattle.std.proofs.Common.{inl, inr}
use Rattle.std.specs.Coded.{Coded, code_by, coded_ℕ, coded_list, coded×, coded⊎}
use base.Stored.{coded_unit}
use Rattle.pt_tree.specs.Dest.{Writing, after_append, after_create, after_finish, after_mkdir, after_rename}
use Rattle.pt_tree.specs.Path.{Path}
use Rattle.pt_tree.specs.Tree.{Tree}

-- a step: a directory or a file was made, a piece added to the open file, that closed, or something moved
pub data Step : Type 0 where
  MadeDir : (path : Path) → Step
  MadeFile : (path : Path) → Step
  Added : (piece : List ℕ) → Step
  Closed : Step
  Moved : (from to : Path) → Step

-- what is held after a step
abbrev pub after_step : Step → Writing → Writing
after_step (MadeDir path) w = after_mkdir path w
after_step (MadeFile path) w = after_create path w
after_step (Added piece) w = after_append piece w
after_step Closed w = after_finish w
after_step (Moved from to) w = after_rename from to w

-- what is held over a tree after steps, the last one first; no file is open before the first
abbrev pub played : List Step → Tree → Writing
played [] t = record { tree = t; writing = None }
played (step ∷ steps) t = after_step step (played steps t)

-- ---- how the logic stores a step

-- a step as a choice of its parts
abbrev pub Parts : Type 0
Parts = (Path ⊎ Path) ⊎ (List ℕ ⊎ (Unit {0} ⊎ (Path × Path)))

-- a step, as its parts
abbrev pub to_parts : Step → Parts
to_parts (MadeDir path) = inl (inl path)
to_parts (MadeFile path) = inl (inr path)
to_parts (Added piece) = inr (inl piece)
to_parts Closed = inr (inr (inl tt))
to_parts (Moved from to) = inr (inr (inr (from, to)))

-- a step of its parts
abbrev pub from_parts : Parts → Step
from_parts (inl (inl path)) = MadeDir path
from_parts (inl (inr path)) = MadeFile path
from_parts (inr (inl piece)) = Added piece
from_parts (inr (inr (inl _))) = Closed
from_parts (inr (inr (inr p))) = Moved p.0 p.1

-- taking a step apart and putting it together gives it again
pub from_parts-to_parts : (step : Step) → from_parts (to_parts step) ≡ step
from_parts-to_parts (MadeDir path) = refl
from_parts-to_parts (MadeFile path) = refl
from_parts-to_parts (Added piece) = refl
from_parts-to_parts Closed = refl
from_parts-to_parts (Moved from to) = refl

-- paths can be coded
abbrev pub path_code : Coded Path
path_code = coded_list (coded_list coded_ℕ)

-- lists of steps can be coded
abbrev pub steps_code : Coded (List Step)
steps_code = coded_list (code_by Parts
    (coded⊎ (coded⊎ path_code path_code)
    (coded⊎ (coded_list coded_ℕ) (coded⊎ coded_unit (coded× path_code path_code))))
    to_parts from_parts from_parts-to_parts)
