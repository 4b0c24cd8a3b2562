-- What a check finds of a folder that it comes to.
use Rattle.std.specs.Prelude.{ℕ, Bool, List, length}
use Rattle.pt_check.specs.Shares.{is_own_in}
use Rattle.pt_check.specs.Visits.{found_by}
use Rattle.pt_check.specs.declared.wants.Wants.{Wants}
use Rattle.pt_check.specs.declared.within.FoundFolder.{FoundFolder}
use Rattle.pt_check.specs.declared.within.Part.{Part}
use Rattle.pt_name.specs.Share.{Portion}
use Rattle.pt_tree.specs.Listing.{Item}
use Rattle.pt_tree.specs.Path.{Path, joined}

-- a folder at a path in a store of this prefix, which are a pair, and which is this part of a store, as it is found to be by the entries that
-- it lists, all or those that have names
abbrev pub found_folder : Wants → Portion → Path × List ℕ → Part → Bool → List Item → FoundFolder
found_folder wants share at part whole items =
    let what = found_by whole wants.form part.within items in
    record {
      part = record { within = part.within; own = is_own_in wants.layout share at what part.own };
      finding = what;
      length = length (joined at.0);
    }
