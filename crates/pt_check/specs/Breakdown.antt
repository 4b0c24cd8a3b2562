-- The keys of what is counted class by class, and what they count.
use Rattle.std.specs.List.{range_with_len}
use Rattle.std.specs.Prelude.{◌+◌, ◌/◌, ◌%◌, ℕ, List, [], ◌∷◌, ◌++◌, codes, map}
use Rattle.pt_check.specs.Counting.{depths}
use Rattle.pt_check.specs.declared.breakdown.Breakdown.{Breakdown}
use Rattle.pt_check.specs.declared.breakdown.Breakdown.TheVariants as breakdown
use Rattle.pt_check.specs.declared.numbers.Numbers.{Numbers}

-- a number below a hundred, in two digits
abbrev pub two_digits : ℕ → List ℕ
two_digits n = (48 + n / 10) ∷ (48 + n % 10) ∷ []

-- the key of a class
abbrev pub class_word : Breakdown → ℕ → List ℕ
class_word breakdown.BytesOf class = codes "bytes_of_" ++ two_digits class
class_word breakdown.FilesOf class = codes "files_of_" ++ two_digits class
class_word breakdown.ObjectsAt class = codes "objects_at_" ++ two_digits class
class_word breakdown.SitesAt class = codes "sites_at_" ++ two_digits class

-- the keys of all classes
abbrev pub class_words : Breakdown → List (List ℕ)
class_words breakdown = map (class_word breakdown) (range_with_len 0 depths)

-- what is counted of each class
abbrev pub class_counts : Numbers → Breakdown → List ℕ
class_counts numbers breakdown.BytesOf = numbers.bytes_of
class_counts numbers breakdown.FilesOf = numbers.files_of
class_counts numbers breakdown.ObjectsAt = numbers.objects_at
class_counts numbers breakdown.SitesAt = numbers.sites_at
