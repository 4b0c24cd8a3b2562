-- The parts of the last line of a check, behind `as`, and what its keys count.
use Rattle.std.specs.Prelude.{ℕ, Bool, true, nat_lt, List, [], ◌∷◌, codes}
use Rattle.pt_check.specs.Counting.{told_of}
use Rattle.pt_check.specs.LineKind.{kind_word}
use Rattle.pt_check.specs.declared.breakdown.Breakdown.TheVariants as breakdown
use Rattle.pt_check.specs.declared.end_key.EndKey.{EndKey}
use Rattle.pt_check.specs.declared.end_key.EndKey.TheVariants as key
use Rattle.pt_check.specs.declared.end_key.EndPart.{EndPart}
use Rattle.pt_check.specs.declared.end_key.EndPart.TheVariants as part
use Rattle.pt_check.specs.declared.line_kind.LineKind.TheVariants as kind
use Rattle.pt_check.specs.declared.numbers.Numbers.{Numbers}
use Rattle.pt_check.specs.declared.trouble.Trouble.TheVariants as trouble
use Rattle.pt_walk.specs.declared.cause.Cause.TheVariants as cause

-- all parts, in the order of the bytes of their keys
abbrev pub end_parts : List EndPart
end_parts =
    part.One key.Bytes
    ∷ part.Each breakdown.BytesOf
    ∷ part.One (key.Kind (kind.Troubled trouble.Deep))
    ∷ part.One (key.Kind (kind.Troubled trouble.Desktop))
    ∷ part.One (key.Kind (kind.Troubled trouble.Doubtful))
    ∷ part.One (key.Kind (kind.Troubled (trouble.Skipped cause.Empty)))
    ∷ part.One key.Files
    ∷ part.Each breakdown.FilesOf
    ∷ part.One key.Folders
    ∷ part.One (key.Kind (kind.Troubled trouble.Large))
    ∷ part.One key.Largest
    ∷ part.One (key.Kind (kind.Troubled trouble.Long))
    ∷ part.One key.Longest
    ∷ part.One (key.Kind (kind.Troubled trouble.Many))
    ∷ part.One (key.Kind (kind.Troubled trouble.Missing))
    ∷ part.One (key.Kind (kind.Troubled (trouble.Skipped cause.Name)))
    ∷ part.One key.Objects
    ∷ part.Each breakdown.ObjectsAt
    ∷ part.One (key.Kind (kind.Troubled (trouble.Skipped cause.Other)))
    ∷ part.One (key.Kind (kind.Troubled (trouble.Skipped cause.Past)))
    ∷ part.One (key.Kind (kind.Troubled trouble.Place))
    ∷ part.One (key.Kind (kind.Troubled trouble.Prefix))
    ∷ part.One key.Renamed
    ∷ part.One (key.Kind (kind.Troubled (trouble.Skipped cause.Reserved)))
    ∷ part.One (key.Kind (kind.Troubled (trouble.Skipped cause.Root)))
    ∷ part.One key.Sites
    ∷ part.Each breakdown.SitesAt
    ∷ part.One (key.Kind (kind.Troubled trouble.Spelling))
    ∷ part.One (key.Kind (kind.Troubled (trouble.Skipped cause.Split)))
    ∷ part.One key.Told
    ∷ part.One (key.Kind kind.Unreadable)
    ∷ part.One (key.Kind (kind.Troubled (trouble.Skipped cause.Utf8)))
    ∷ part.One (key.Kind (kind.Troubled trouble.Width))
    ∷ []

-- the word of a key
abbrev pub end_word : EndKey → List ℕ
end_word key.Bytes = codes "bytes"
end_word key.Files = codes "files"
end_word key.Folders = codes "folders"
end_word key.Largest = codes "largest"
end_word key.Longest = codes "longest"
end_word key.Objects = codes "objects"
end_word key.Renamed = codes "renamed"
end_word key.Sites = codes "sites"
end_word key.Told = codes "told"
end_word (key.Kind kind) = kind_word kind

-- what it counts
abbrev pub end_number : Numbers → EndKey → ℕ
end_number numbers key.Bytes = numbers.bytes
end_number numbers key.Files = numbers.files
end_number numbers key.Folders = numbers.folders
end_number numbers key.Largest = numbers.largest
end_number numbers key.Longest = numbers.longest
end_number numbers key.Objects = numbers.objects
end_number numbers key.Renamed = numbers.renamed
end_number numbers key.Sites = numbers.sites
end_number numbers key.Told = numbers.told
end_number numbers (key.Kind kind) = told_of kind numbers

-- a line of these numbers has it: a kind only where something of it was told, and objects that are renamed where there are any
abbrev pub is_told : Numbers → EndKey → Bool
is_told numbers key.Renamed = nat_lt 0 numbers.renamed
is_told numbers (key.Kind kind) = nat_lt 0 (told_of kind numbers)
is_told numbers _ = true
