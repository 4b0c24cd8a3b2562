-- What a check finds of a folder, and of what lies in it, field by field.
use Rattle.std.proofs.Common.{◌≡◌, ◌∙◌, ℕ, Bool, List, ap, length, sym}
use Rattle.pt_check.specs.Found.{found_folder}
use Rattle.pt_check.specs.Shares.{is_own_entry, is_own_in}
use Rattle.pt_check.specs.Visits.{found_by}
use Rattle.pt_check.specs.Within.{below, holder}
use Rattle.pt_check.specs.declared.wants.Wants.{Wants}
use Rattle.pt_check.specs.declared.within.FoundFolder.{FoundFolder}
use Rattle.pt_check.specs.declared.within.Part.{Part}
use Rattle.pt_check.specs.declared.within.Within.{Within}
use Rattle.pt_name.specs.Share.{Portion}
use Rattle.pt_tree.specs.Listing.{Item}
use Rattle.pt_tree.specs.Path.{Path, joined}
use Rattle.pt_walk.specs.declared.site.Finding.{Finding}

-- of a folder at a path, in a store of this prefix, which are a pair: what it is, its path's length, and whether what lies in it is the share's own
pub record IsFound (share : Portion) (wants : Wants) (at : Path × List ℕ) (part : Part) (folder : FoundFolder) : Type 0 where
  pub within : folder.part.within ≡ part.within
  pub length_is : folder.length ≡ length (joined at.0)
  pub own : folder.part.own ≡ is_own_in wants.layout share at folder.finding part.own

pub found_are : (share over : Portion) (wants again : Wants) (at : Path × List ℕ) (part : Part) (whole : Bool) (items : List Item) (folder : FoundFolder)
    → over ≡ share → again ≡ wants → folder ≡ found_folder again over at part whole items → IsFound share wants at part folder
found_are share over wants again at part whole items folder same_share same_wants is =
    let finding_is : found_by whole again.form part.within items ≡ folder.finding = sym (ap (λ (f : FoundFolder). f.finding) is) in
    record {
      within = ap (λ (f : FoundFolder). f.part.within) is;
      length_is = ap (λ (f : FoundFolder). f.length) is;
      own = ap (λ (f : FoundFolder). f.part.own) is ∙ ap (λ (s : Finding). is_own_in again.layout over at s part.own) finding_is
          ∙ ap (λ (w : Wants). is_own_in w.layout over at folder.finding part.own) same_wants
          ∙ ap (λ (s : Portion). is_own_in wants.layout s at folder.finding part.own) same_share;
    }

-- what it is found to be
pub finding_is : (over : Portion) (wants again : Wants) (at : Path × List ℕ) (part : Part) (whole : Bool) (items : List Item) (folder : FoundFolder)
    → again ≡ wants → folder ≡ found_folder again over at part whole items → folder.finding ≡ found_by whole wants.form part.within items
finding_is over wants again at part whole items folder same_wants is =
    ap (λ (f : FoundFolder). f.finding) is ∙ ap (λ (w : Wants). found_by whole w.form part.within items) same_wants

-- what holds an entry
pub held_within : (share : Portion) (wants : Wants) (at : Path × List ℕ) (part held : Part) (folder : FoundFolder) (own : Bool)
    → IsFound share wants at part folder → held ≡ record { within = holder folder.part.within folder.finding folder.length; own = own }
    → held.within ≡ holder part.within folder.finding (length (joined at.0))
held_within share wants at part held folder own found is =
    ap (λ (p : Part). p.within) is ∙ ap (λ (w : Within). holder w folder.finding folder.length) found.within
    ∙ ap (λ (n : ℕ). holder part.within folder.finding n) found.length_is

-- and whether it is the share's own
pub held_own : (share over : Portion) (wants : Wants) (at : Path × List ℕ) (entry : Path) (item : Item) (part held : Part) (folder : FoundFolder)
    (within : Within) → over ≡ share → IsFound share wants at part folder
    → held ≡ record { within = within; own = is_own_entry over entry folder.part.within item folder.part.own }
    → held.own ≡ is_own_entry share entry part.within item (is_own_in wants.layout share at folder.finding part.own)
held_own share over wants at entry item part held folder within same_share found is =
    ap (λ (p : Part). p.own) is ∙ ap (λ (s : Portion). is_own_entry s entry folder.part.within item folder.part.own) same_share
    ∙ ap (λ (w : Within). is_own_entry share entry w item folder.part.own) found.within
    ∙ ap (λ (o : Bool). is_own_entry share entry part.within item o) found.own

-- what a folder in it is
pub inside_within : (share : Portion) (wants : Wants) (at : Path × List ℕ) (entry : Path) (name : List ℕ) (bytes : ℕ) (part inside : Part)
    (folder : FoundFolder) (own : Bool) → IsFound share wants at part folder
    → inside ≡ record { within = below folder.part.within folder.finding name folder.length bytes; own = own } → bytes ≡ length (joined entry)
    → inside.within ≡ below part.within folder.finding name (length (joined at.0)) (length (joined entry))
inside_within share wants at entry name bytes part inside folder own found is bytes_are =
    ap (λ (p : Part). p.within) is ∙ ap (λ (w : Within). below w folder.finding name folder.length bytes) found.within
    ∙ ap (λ (n : ℕ). below part.within folder.finding name n bytes) found.length_is
    ∙ ap (λ (n : ℕ). below part.within folder.finding name (length (joined at.0)) n) bytes_are
