-- What a look answers is the kind of what stands, or that nothing does.
use Rattle.std.proofs.Common.{◌≡◌, ◌∙◌}
use Rattle.std.specs.Prelude.{Option, None, Some, Result, Ok, Err}
use Rattle.std.specs.declared.io.Error.{Error}
use Rattle.pt_tree.specs.declared.kind.Kind.{Kind}
use Rattle.pt_folder.specs.Calls.{LeadsToKind}
use Rattle.pt_folder.specs.Laws.{LooksRight}

pub right_kind_here : (here : Option Kind) (reply : Result Kind Error) (k : Option Kind) → LooksRight here reply → LeadsToKind reply (Ok k) → here ≡ k
right_kind_here here (Ok j) k right leads = let same : Some j ≡ k = cc in right ∙ same
right_kind_here here (Err e) None right leads = right leads
right_kind_here here (Err e) (Some k) right leads = absurd leads
