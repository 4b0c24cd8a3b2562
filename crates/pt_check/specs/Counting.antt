-- What a check counts.
use Rattle.std.specs.Prelude.{◌+◌, ◌||◌, ℕ, Bool, true, false, cond, max, min, nat_lt, not, replicate, slice_index, slice_set, List, [], ◌∷◌}
use Rattle.std.specs.List.{count_by}
use Rattle.pt_check.specs.LineKind.{kind_number, kinds}
use Rattle.pt_check.specs.declared.line_kind.LineKind.{LineKind}
use Rattle.pt_check.specs.declared.line_kind.LineKind.TheVariants as kind
use Rattle.pt_check.specs.declared.numbers.Numbers.{Numbers}
use Rattle.pt_check.specs.declared.trouble.Trouble.TheVariants as trouble
use Rattle.pt_check.specs.declared.within.Within.{Within}
use Rattle.pt_check.specs.declared.within.Within.TheVariants as within
use Rattle.pt_tree.specs.Failures.{greatest_count}
use Rattle.pt_tree.specs.declared.kind.Kind.{Kind}
use Rattle.pt_tree.specs.declared.kind.Kind.TheVariants as entry

-- so many classes of depths there are
abbrev pub depths : ℕ
depths = 33

-- and so many of lengths
abbrev pub lengths : ℕ
lengths = 21

-- nothing is counted
abbrev pub no_numbers : Numbers
no_numbers = record {
  told = 0;
  sites = 0;
  objects = 0;
  folders = 0;
  files = 0;
  bytes = 0;
  largest = 0;
  longest = 0;
  held = 0;
  held_bytes = 0;
  kinds = replicate kinds 0;
  sites_at = replicate depths 0;
  objects_at = replicate depths 0;
  renamed = 0;
  files_of = replicate lengths 0;
  bytes_of = replicate lengths 0;
}

-- two numbers together, up to the greatest that is counted
abbrev pub plus : ℕ → ℕ → ℕ
plus n m = min (n + m) greatest_count

-- so many more are counted of a class
abbrev pub counted_at : ℕ → ℕ → List ℕ → List ℕ
counted_at class more counts = slice_set counts class (plus (slice_index counts class) more)

-- how many lines of this kind there are
abbrev pub told_of : LineKind → Numbers → ℕ
told_of kind numbers = slice_index numbers.kinds (kind_number kind)

-- a line more, of this kind
abbrev pub with_line : LineKind → Numbers → Numbers
with_line kind numbers =
    record numbers {
      told = plus numbers.told 1;
      kinds = slice_set numbers.kinds (kind_number kind) (plus (told_of kind numbers) 1);
    }

-- something was told that would stop a run: what its store must have isn't there, it can't be read, its prefix is none, or a path is too
-- long for its destination
abbrev pub stops_run : Numbers → Bool
stops_run numbers =
    nat_lt 0 (told_of kind.Unreadable numbers)
    || (nat_lt 0 (told_of (kind.Troubled trouble.Missing) numbers)
    || (nat_lt 0 (told_of (kind.Troubled trouble.Prefix) numbers) || nat_lt 0 (told_of (kind.Troubled trouble.Place) numbers)))

-- the class of a depth: from 32 on they are counted together
abbrev pub depth_class : ℕ → ℕ
depth_class depth = min depth 32

-- a site more, so deep below `pairtree_root`, which has an object or not
abbrev pub with_site : ℕ → Bool → Numbers → Numbers
with_site depth has_object numbers =
    record numbers {
      sites = plus numbers.sites 1;
      objects = plus numbers.objects (cond has_object 1 0);
      sites_at = counted_at (depth_class depth) 1 numbers.sites_at;
      objects_at = counted_at (depth_class depth) (cond has_object 1 0) numbers.objects_at;
    }

-- an object more whose own folder has another name than those of its site join to, where that is so
abbrev pub with_renamed : Bool → Numbers → Numbers
with_renamed is_renamed numbers = record numbers { renamed = plus numbers.renamed (cond is_renamed 1 0) }

-- an entry of this kind more, whose path has so many bytes
abbrev pub with_entry : Kind → ℕ → Numbers → Numbers
with_entry entry.File length numbers =
    record numbers {
      files = plus numbers.files 1;
      longest = max numbers.longest length;
      held = plus numbers.held 1;
    }
with_entry entry.Dir length numbers =
    record numbers { folders = plus numbers.folders 1; longest = max numbers.longest length }
with_entry entry.Other length numbers = record numbers { longest = max numbers.longest length }

-- of a file in a folder that is this so many bytes were read: those of an object are compared with the most of any
abbrev pub with_bytes : Within → ℕ → Numbers → Numbers
with_bytes (within.Object before) bytes numbers =
    record numbers {
      bytes = plus numbers.bytes bytes;
      largest = max numbers.largest (plus numbers.held_bytes bytes);
      held_bytes = plus numbers.held_bytes bytes;
    }
with_bytes _ bytes numbers = record numbers { bytes = plus numbers.bytes bytes }

-- the powers of ten that can be counted to
abbrev pub powers_of_ten : List ℕ
powers_of_ten =
    1
    ∷ 10
    ∷ 100
    ∷ 1000
    ∷ 10000
    ∷ 100000
    ∷ 1000000
    ∷ 10000000
    ∷ 100000000
    ∷ 1000000000
    ∷ 10000000000
    ∷ 100000000000
    ∷ 1000000000000
    ∷ 10000000000000
    ∷ 100000000000000
    ∷ 1000000000000000
    ∷ 10000000000000000
    ∷ 100000000000000000
    ∷ 1000000000000000000
    ∷ 10000000000000000000
    ∷ []

-- how many digits a length has, twenty at most: as many powers of ten aren't greater; 0 has none
abbrev pub digits : ℕ → ℕ
digits length = count_by (λ power. not (nat_lt length power)) powers_of_ten

-- a file of this length was read whole
abbrev pub with_length : ℕ → Numbers → Numbers
with_length length numbers =
    record numbers {
      files_of = counted_at (digits length) 1 numbers.files_of;
      bytes_of = counted_at (digits length) length numbers.bytes_of;
    }

-- a file was opened, in a folder that is this, and read whole or not, and so many bytes of it were read
abbrev pub with_opened : Bool → Within → ℕ → Numbers → Numbers
with_opened true within bytes numbers = with_length bytes (with_bytes within bytes numbers)
with_opened false within bytes numbers = with_bytes within bytes numbers

-- an object begins
abbrev pub with_object_begun : Numbers → Numbers
with_object_begun numbers = record numbers { held = 0; held_bytes = 0 }

-- the object at hand is again the one that was before
abbrev pub back_at : Numbers → Numbers → Numbers
back_at before numbers = record numbers { held = before.held; held_bytes = before.held_bytes }
