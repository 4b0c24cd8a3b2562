use Rattle.std.proofs.Common.{◌≡◌, ◌∙◌, ℕ, List, ap, inr, length, refl, string_bytes, subst}
use Rattle.std.specs.Prelude.{Option, Some, Result, Ok, Err}
use Rattle.std.specs.declared.io.Error.{Error}
use Rattle.pt_tree.specs.Path.{Path}
use Rattle.pt_tree.specs.declared.faults.TreeFault.{TreeFault}
use Rattle.pt_tree.specs.declared.kind.Kind.{Kind}
use Rattle.pt_folder.specs.Calls.{change_of}
use Rattle.pt_folder.specs.Folder.{entry_in, entry_text}
use Rattle.pt_folder.specs.Laws.{IsPath}
use Rattle.pt_folder.specs.Opening.{LeadsToFile, OpensOnce}
use Rattle.pt_folder.specs.Reading.{OpensAt}
use Rattle.pt_folder.specs.declared.reading.FileInReading.{FileInReading}
use Rattle.pt_folder.specs.declared.system.System.{Ghosts as OfSystem}
use Rattle.pt_folder.proofs.source.open.Goals as goal

found : {T : Type 0} (reply : Result Kind Error) (x : T) → LeadsToFile reply (Ok x) → LeadsToFile {T = Unit {0}} reply (Ok tt)
found (Ok kind) x leads = leads
found (Err e) x leads = absurd (cc)

-- a file was found by a look at a path, and was asked to be opened
asked : {S F D T : Type 0} (sys : OfSystem S F D)
    (folder text : List ℕ) (p : Path) (w v : Option (FileInReading F)) (old mid new : S) (x : T) (answer : Result F Error)
    (result : Result (Unit {0}) TreeFault)
    → text ≡ entry_text folder p → (length folder ≡ 0 → ⊥) → IsPath p → (reply : Result Kind Error) × sys.looks old text reply mid × LeadsToFile reply (Ok x)
    → sys.opens mid text answer new → OpensAt w v answer result
    → OpensOnce sys (entry_in folder p) (change_of w v) (change_of old new) result
asked sys folder text p w v old mid new x answer result at filled named look opened leads = inr (record {
  reply = look.0;
  found = Ok tt;
  mid = mid;
  filled = filled;
  named = named;
  looked = subst (λ t. sys.looks old t look.0 mid) at look.1;
  leads = found look.0 x look.2;
  gives = (answer, subst (λ t. sys.opens mid t answer new) at opened, leads);
})

pub returns-in-Ok-clause-asked : goal.returns-in-Ok-clause-asked
returns-in-Ok-clause-asked g c =
    let text = string_bytes c.in_ok-text.text in
    let file = c.in-Ok.file in
    let same : c.as_str.result.now ≡ text = c.as_str.ensures.value ∙ ap string_bytes c.in_ok-text-2.ensures.same in
    let opened = subst (λ t. g.S.System.opens c.look_at_file.new.self.system t (Ok file) c.open_to_read.new.self) same c.in-Ok.ensures in
    asked g.S.System c.args.folder.now.path.now text c.args.path.now c.args.opened.now _ c.args.syscalls.now.system c.look_at_file.new.self.system
    c.open_to_read.new.self c.in_ok-text-2.text (Ok file) _
    c.in_ok-text.ensures.text (λ none. let empty = c.in_ok-text.ensures.empty.1 none in absurd (cc)) c.in_ok-text.ensures.named c.in_ok-text-2.ensures.asked
    opened (refl, ap Some c.at_start.ensures)

pub returns-in-Err-clause-asked : goal.returns-in-Err-clause-asked
returns-in-Err-clause-asked g c =
    let text = string_bytes c.in_ok-text.text in
    let error = c.in-Err.error in
    let same : c.as_str.result.now ≡ text = c.as_str.ensures.value ∙ ap string_bytes c.in_ok-text-2.ensures.same in
    let opened = subst (λ t. g.S.System.opens c.look_at_file.new.self.system t (Err error) c.open_to_read.new.self) same c.in-Err.ensures in
    asked g.S.System c.args.folder.now.path.now text c.args.path.now c.args.opened.now _ c.args.syscalls.now.system c.look_at_file.new.self.system
    c.open_to_read.new.self c.in_ok-text-2.text (Err error) _
    c.in_ok-text.ensures.text (λ none. let empty = c.in_ok-text.ensures.empty.1 none in absurd (cc)) c.in_ok-text.ensures.named c.in_ok-text-2.ensures.asked
    opened (ap Err c.record_error.ensures.fault, refl)
