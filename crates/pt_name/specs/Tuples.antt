-- The tuples of a place: how many, and of how many digits.
use Rattle.std.specs.Prelude.{ℕ, ◌≡◌, ◌≤◌, ◌*◌, ◌↔◌}

-- `count` tuples of `size` digits each
pub record Tuples : Type 0 where
  pub size : ℕ
  pub count : ℕ

-- What extension 0003 allows for a digest of 64 digits: each number is at most 32, both or neither are 0, and
-- the tuples take no more digits than there are.
pub record IsLayout (tuples : Tuples) : Type 0 where
  pub size : tuples.size ≤ 32
  pub count : tuples.count ≤ 32
  pub zeros : (tuples.size ≡ 0) ↔ (tuples.count ≡ 0)
  pub digits : tuples.size * tuples.count ≤ 64
