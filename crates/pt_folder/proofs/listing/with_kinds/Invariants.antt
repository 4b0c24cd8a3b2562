use Rattle.std.proofs.Common.{◌≡◌, map, string_bytes}
use Rattle.std.specs.List.{FoldsTo}
use Rattle.pt_folder.specs.FailingLaws.{FailsStill}
use Rattle.pt_folder.specs.Listing.{LooksAt}
use Rattle.pt_folder.specs.Seeing.{SeesAt}
use Rattle.pt_folder.proofs.listing.with_kinds.Given as goal

-- the text is the directory's path again
abbrev pub invariant-loop-name : goal.invariant-loop-name
invariant-loop-name g l = record {
  can : (goal.iterator-loop-name g).can_next l.name-iterator;
  ends : (goal.iterator-loop-name g).is_finite l.name-iterator;
  names : map (λ item. item.0) l.listing ≡ l.yielded;
  text : string_bytes l.text ≡ string_bytes l.fn.text;
  seen : SeesAt g.S.System.forest (string_bytes l.fn.text) l.fn.syscalls.system l.syscalls.system l.listing;
  still : FailsStill g.S.System.failing l.fn.syscalls.system l.syscalls.system;
  looked : FoldsTo (LooksAt g.S.System.looks (string_bytes l.fn.text)) l.fn.syscalls.system l.listing l.syscalls.system;
}
