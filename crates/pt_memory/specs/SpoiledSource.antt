-- A source in memory of which something can't be read.
use Rattle.std.specs.Prelude.{◌≡◌, ℕ, Bool, true, false, cond, List, Option, None, Some, Result, Err, MatchResult}
use Rattle.std.specs.List.{list_any}
use Rattle.std.proofs.Common.{ap, refl, sym, ◌∙◌}
use Rattle.pt_memory.specs.declared.spoiled_source.SpoiledSource.{SpoiledSource}
use Rattle.pt_memory.specs.Fuse.{has_fuse}
use Rattle.pt_memory.specs.MemSource.{SourceState, source_state, after_refusal, KindGives, ListGives, OpenGives, NextGives}
use Rattle.pt_memory.specs.MemSourceTells.{KeepsFuse, fuse_failing}
use Rattle.pt_tree.specs.declared.faults.TreeFault.{TreeFault}
use Rattle.pt_tree.specs.declared.faults.TreeFault.TheVariants.{Device}
use Rattle.pt_tree.specs.Failing.{Failing, failing_paths}
use Rattle.pt_tree.specs.Listing.{Item}
use Rattle.pt_tree.specs.Path.{Path, parent, same_path}
use Rattle.pt_tree.specs.declared.kind.Kind.{Kind}

-- the tree in memory, the paths at which nothing can be read, and whether the open file was opened at one of them
pub record SpoiledState : Type 0 where
  pub source : SourceState
  pub spoiled : List Path
  pub is_open_spoiled : Bool

-- what it holds
abbrev pub spoiled_state : SpoiledSource → SpoiledState
spoiled_state s =
    record { source = source_state s.source; spoiled = s.spoiled.items; is_open_spoiled = s.is_open_spoiled }

-- nothing can be read at the path
abbrev pub is_spoiled : List Path → Path → Bool
is_spoiled spoiled p = list_any (λ other. same_path other p) spoiled

-- it fails at these paths, and where a file is read on that was opened at one of them
abbrev pub fails_at : List Path → Bool → Failing
fails_at spoiled is_open_spoiled = record { at = is_spoiled spoiled; reading = is_open_spoiled }

-- where it fails, as long as it has no fuse
abbrev pub spoiled_failing : SpoiledSource → Option Failing
spoiled_failing s = fuse_failing (fails_at s.spoiled.items s.is_open_spoiled) s.source.fuse

-- A call: on what can't be read it fails, be a fuse there or not; on all else it gives what the tree's call gives.
abbrev pub GivesUnless : {T : Type 0} → Bool → SourceState → SourceState → Result T TreeFault
    → Type 0 → Type 0
GivesUnless true old new result gives = (result ≡ Err Device) × (new ≡ after_refusal old)
GivesUnless false old new result gives = gives

-- what `list` gives
abbrev pub SpoiledListGives : SpoiledState → SpoiledState → Path → Result (List Item) TreeFault → Type 0
SpoiledListGives old new p result = (new ≡ record old { source = new.source })
    × GivesUnless (is_spoiled old.spoiled p) old.source new.source result
    (ListGives old.source new.source p result)

-- what `kind` gives: it fails on an entry of a directory that can't be listed
abbrev pub SpoiledKindGives : SpoiledState → SpoiledState → Path → Result (Option Kind) TreeFault → Type 0
SpoiledKindGives old new p result = (new ≡ record old { source = new.source })
    × GivesUnless (is_spoiled old.spoiled (parent p)) old.source new.source result
    (KindGives old.source new.source p result)

-- what `open` gives: it is the tree's, wherever the file stands; whether what is open now can be read, its path says
abbrev pub SpoiledOpenGives : SpoiledState → SpoiledState → Path → Result (Unit {0}) TreeFault → Type 0
SpoiledOpenGives old new p result = (new.spoiled ≡ old.spoiled)
    × MatchResult result (λ _. new.is_open_spoiled ≡ is_spoiled old.spoiled p)
    (λ _. new.is_open_spoiled ≡ old.is_open_spoiled)
    × OpenGives old.source new.source p result

-- what `next` gives: it fails on a file that was opened where nothing can be read, which stays where it was
abbrev pub SpoiledNextGives : SpoiledState → SpoiledState → List ℕ → Result (Unit {0}) TreeFault → Type 0
SpoiledNextGives old new block result = (new ≡ record old { source = new.source })
    × GivesUnless old.is_open_spoiled old.source new.source result
    (NextGives old.source new.source block result)

-- nothing can be read at the same paths, and it has a fuse now just where it had one
abbrev pub KeepsSpoiled : SpoiledSource → SpoiledSource → Type 0
KeepsSpoiled a b = (b.spoiled.items ≡ a.spoiled.items) × KeepsFuse a.source b.source

-- and so after further calls
pub keeps_on : (a b c : SpoiledSource) → KeepsSpoiled a b → KeepsSpoiled b c → KeepsSpoiled a c
keeps_on a b c p q = (q.0 ∙ p.0, q.1 ∙ p.1)

-- the paths at which it fails, if it has no fuse
abbrev fails_by : Bool → List Path → Option (Path → Bool)
fails_by has spoiled = cond has None (Some (is_spoiled spoiled))

-- whatever file is open, it fails at these paths
paths_alone : (has : Bool) (spoiled : List Path) (is_open_spoiled : Bool)
    → failing_paths (cond has None (Some (fails_at spoiled is_open_spoiled))) ≡ fails_by has spoiled
paths_alone true spoiled is_open_spoiled = refl
paths_alone false spoiled is_open_spoiled = refl

-- so it fails where it did
pub keeps_failing : (a b : SpoiledSource) → KeepsSpoiled a b
    → failing_paths (spoiled_failing b) ≡ failing_paths (spoiled_failing a)
keeps_failing a b same =
    paths_alone (has_fuse b.source.fuse) b.spoiled.items b.is_open_spoiled
    ∙ ap (fails_by (has_fuse b.source.fuse)) same.0
    ∙ ap (λ has. fails_by has a.spoiled.items) same.1
    ∙ sym (paths_alone (has_fuse a.source.fuse) a.spoiled.items a.is_open_spoiled)
