-- What is told of the prefix of a store, by the bytes of its file.
use Rattle.std.specs.Prelude.{ℕ, cond, List, Option, None, Some}
use Rattle.pt_check.specs.declared.trouble.Trouble.{Trouble}
use Rattle.pt_check.specs.declared.trouble.Trouble.TheVariants as trouble
use Rattle.pt_name.specs.Prefix.{is_doubtful, prefix_refusal, without_line_ends}
use Rattle.pt_name.specs.declared.prefix.PrefixFault.{PrefixFault}

-- what is told of a prefix, unless the bytes of its file are none for this reason
abbrev pub trouble_of_prefix : Option PrefixFault → List ℕ → Option Trouble
trouble_of_prefix None prefix = cond (is_doubtful prefix) (Some trouble.Doubtful) None
trouble_of_prefix (Some refusal) prefix = Some trouble.Prefix

-- what is told of a file with these bytes
abbrev pub prefix_trouble : List ℕ → Option Trouble
prefix_trouble bytes = trouble_of_prefix (prefix_refusal bytes) (without_line_ends bytes)
