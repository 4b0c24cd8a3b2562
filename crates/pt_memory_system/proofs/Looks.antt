-- What a look and an opening give.
use Rattle.std.proofs.Common.{◌≡◌, ℕ, List, subst}
use Rattle.std.specs.Prelude.{Option, Result, Err, IfOk}
use Rattle.std.specs.IoError.{error_kind}
use Rattle.std.specs.declared.io.Error.{Error}
use Rattle.pt_tree.specs.declared.kind.Kind.{Kind}
use Rattle.pt_tree.specs.Path.{Path}
use Rattle.pt_folder.specs.Folder.{IsAbsent, entry_text}
use Rattle.pt_folder.specs.Laws.{IsPath, LooksRight}
use Rattle.pt_folder.specs.SourceLaws.{IsLengthOf}
use Rattle.pt_memory_system.specs.System.{OfEntry, bytes_in}
use Rattle.pt_memory_system.specs.declared.file.MemFile.{MemFile}

-- the kind of what stands at the path that the text leads to
pub look_shows : (folder text : List ℕ) (here : Path → Option Kind) (path : Path) (reply : Result Kind Error)
    → ((p : Path) → IsPath p → text ≡ entry_text folder p → path ≡ p) → LooksRight (here path) reply
    → OfEntry folder text (λ p. LooksRight (here p) reply)
look_shows folder text here path reply leads right = λ p named is. subst (λ q. LooksRight (here q) reply) (leads p named is) right

-- an error says that nothing is there only where the text leads nowhere
pub look_fails : (folder text : List ℕ) (here : Path → Option Kind) (e : Error)
    → (IsAbsent (error_kind e) → (p : Path) → IsPath p → ¬ (text ≡ entry_text folder p))
    → OfEntry folder text (λ p. LooksRight (here p) (Err e))
look_fails folder text here e none = λ p named is absent. absurd (none absent p named is)

-- the bytes of the file there
pub opens_file : (folder text : List ℕ) (here : Path → Option (List ℕ)) (path : Path) (reply : Result MemFile Error)
    → ((p : Path) → IsPath p → text ≡ entry_text folder p → path ≡ p) → IfOk reply (λ f. bytes_in f ≡ here path)
    → OfEntry folder text (λ p. IfOk reply (λ f. bytes_in f ≡ here p))
opens_file folder text here path reply leads right =
    λ p named is. subst (λ q. IfOk reply (λ f. bytes_in f ≡ here q)) (leads p named is) right

-- the length of the file there
pub measures_file : (folder text : List ℕ) (here : Path → Option (List ℕ)) (path : Path) (reply : Result ℕ Error)
    → ((p : Path) → IsPath p → text ≡ entry_text folder p → path ≡ p) → IsLengthOf (here path) reply
    → OfEntry folder text (λ p. IsLengthOf (here p) reply)
measures_file folder text here path reply leads right = λ p named is. subst (λ q. IsLengthOf (here q) reply) (leads p named is) right
