-- Where a system fails stays, whatever is asked of it to read.
use Rattle.std.proofs.Common.{◌∙◌, ℕ, List, ap, inl, inr}
use Rattle.std.specs.Prelude.{Result}
use Rattle.std.specs.declared.io.Error.{Error}
use Rattle.pt_tree.specs.declared.faults.TreeFault.{TreeFault}
use Rattle.pt_tree.specs.declared.kind.Kind.{Kind}
use Rattle.pt_folder.specs.FailingLaws.{FailingBelow, FailsStill}
use Rattle.pt_folder.specs.Listing.{LooksIn}

-- from one system to the next but one
pub still_on : {S : Type 0} (failing : FailingBelow S) (a b c : S) → FailsStill failing a b → FailsStill failing b c → FailsStill failing a c
still_on failing a b c p q = λ folder. q folder ∙ p folder

-- over a look at an entry, or none
pub looks_still : {S : Type 0} (failing : FailingBelow S) {looks : S → List ℕ → Result Kind Error → S → Type 0}
    → ((old new : S) (text : List ℕ) (reply : Result Kind Error) → looks old text reply new → FailsStill failing old new)
    → (front : List ℕ) (old new : S) (name : List ℕ) (result : Result Kind TreeFault) → LooksIn looks front name old new result → FailsStill failing old new
looks_still failing law front old new name result (inl none) = λ folder. ap (λ s. failing s folder) none.0
looks_still failing law front old new name result (inr (reply, asked, leads)) = law old new _ reply asked

-- over the opening of a directory, whatever becomes of it
pub opens_still : {S D : Type 0} (failing : FailingBelow S) {opens : S → List ℕ → Result D Error → S → Type 0}
    → ((old new : S) (text : List ℕ) (reply : Result D Error) → opens old text reply new → FailsStill failing old new)
    → (old new : S) (text : List ℕ) {Q : Result D Error → Type 0} → ((reply : Result D Error) × opens old text reply new × Q reply) → FailsStill failing old new
opens_still failing law old new text (reply, asked, leads) = law old new text reply asked
