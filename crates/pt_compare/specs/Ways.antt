-- The folders on the way to a content that the content before it needed too.
use Rattle.std.specs.Prelude.{◌≡◌, ◌≤◌, ℕ, suc, Option, length, nat_lt, take}
use Rattle.pt_compare.specs.Parts.{leads_to_last}
use Rattle.pt_tree.specs.Path.{Path}

-- of the folders on the way to what is stored at the path, from the version's folder for contents on, just so many lead to the
-- content that was met last
abbrev pub AreMet : Option Path → Path → ℕ → Type 0
AreMet last stored met = (k : ℕ) → suc (suc k) ≤ length stored
    → leads_to_last last (take (suc (suc k)) stored) ≡ nat_lt k met
