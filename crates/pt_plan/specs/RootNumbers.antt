-- How many items and files a storage root has. A run numbers them from 0 on.
use Rattle.std.specs.Prelude.{ℕ, ◌+◌}

-- its script makes so many folders first, those on the way to the layout's configuration
abbrev pub root_folder_count : ℕ
root_folder_count = 3

-- and then its files; of a root that stands they are compared
abbrev pub root_file_count : ℕ
root_file_count = 3

-- the items of the script
abbrev pub root_item_count : ℕ
root_item_count = root_folder_count + root_file_count

-- the number of the layout's configuration, the last of the files that are compared
abbrev pub configuration_number : ℕ
configuration_number = 2
