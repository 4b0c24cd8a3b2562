-- What a call leaves is what the next one needs.
use Rattle.std.proofs.Common.{◌≡◌, ℕ, List, refl, subst}
use Rattle.std.specs.Prelude.{Option, None, Some, IsSome, drop}
use Rattle.std.specs.Option.{option_map}
use Rattle.pt_tree.specs.Path.{Path}
use Rattle.pt_tree.specs.Source.{Reading, CanOpen, CanRead, after_open, after_next}
use Rattle.pt_tree.specs.Dest.{Writing, CanWrite, after_create, after_append}

-- a file that was opened can be read
pub can_read-opened : (old new : Option Reading) (p : Path) → CanOpen old p → new ≡ option_map (after_open p) old → CanRead new
unfolding CanOpen CanRead
can_read-opened None new p can is = λ s e. absurd (cc)
can_read-opened (Some r) new p can is = λ s e. let same : after_open p r ≡ s = cc in subst (λ (s : Reading). IsSome s.unread) same (can r refl)

-- and read on
pub can_read-read : (old new : Option Reading) → CanRead old → new ≡ option_map after_next old → CanRead new
unfolding CanRead
can_read-read None new can is = λ s e. absurd (cc)
can_read-read (Some r) new can is = λ s e. let same : after_next r ≡ s = cc in subst (λ (s : Reading). IsSome s.unread) same (by r.unread (can r refl))
  where
    by : (u : Option (List ℕ)) → IsSome u → IsSome (option_map (drop 8192) u)
    by None h = h
    by (Some bytes) h = refl

-- a file that was made can be written
pub can_write-created : (old new : Option Writing) (p : Path) → new ≡ option_map (after_create p) old → CanWrite new
unfolding CanWrite
can_write-created None new p is = λ s e. absurd (cc)
can_write-created (Some w) new p is = λ s e. let same : after_create p w ≡ s = cc in subst (λ (s : Writing). IsSome s.writing) same refl

-- and written on, whether the piece was taken or not
pub can_write-appended : (old new : Option Writing) (piece : List ℕ) → CanWrite old → new ≡ option_map (after_append piece) old → CanWrite new
unfolding CanWrite
can_write-appended None new piece can is = λ s e. absurd (cc)
can_write-appended (Some w) new piece can is = λ s e. let same : after_append piece w ≡ s = cc in subst (λ (s : Writing). IsSome s.writing) same (can w refl)

pub ruleset reading = (can_read-opened, can_read-read)

pub ruleset writing = (can_write-created, can_write-appended)
