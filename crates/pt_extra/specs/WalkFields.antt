-- What a walk over a root is made of: these fields, and nothing else. A further field, which might grow with the root, would have to stand here.
use Rattle.std.specs.Prelude.{◌≡◌}
use Rattle.pt_extra.specs.declared.walking.Extras.{Extras}

-- it is its devices and who explains them, against what the root is held, the numbers of its lines, and where memory is asked for
abbrev pub IsOnlyWalk : {S R L E : Type 0} → Extras S R L E → Type 0
IsOnlyWalk w = w ≡ record {
  store = w.store;
  root = w.root;
  log = w.log;
  explains = w.explains;
  job = w.job;
  prefix = w.prefix;
  numbers = w.numbers;
  alloc = w.alloc;
}

-- whatever a walk over such devices holds, it holds these fields, and nothing beside
pub data WalkHoldsFieldsAlone (S R L E : Type 0) : Type 0 where
  FieldsAlone : ((walk : Extras S R L E) → IsOnlyWalk walk) → WalkHoldsFieldsAlone S R L E
