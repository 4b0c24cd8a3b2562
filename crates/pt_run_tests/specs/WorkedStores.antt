-- The worked stores and the jobs that they are carried by.
use Rattle.std.specs.Prelude.{ℕ, zero, suc, true, false, List, [], codes, None}
use Rattle.pt_run_tests.specs.WorkedObjects.{worked_meta}
use Rattle.pt_name.specs.Share.{whole}
use Rattle.pt_object.specs.declared.algorithm.Algorithm.TheVariants.{Sha512}
use Rattle.pt_tree.specs.Forest.{Forest, none, file, dir}
use Rattle.pt_tree.specs.Tree.{Tree}
use Rattle.pt_walk.specs.Limits.{Bounds, greatest_limits}
use Rattle.pt_plan.specs.Job.{Job}

-- ---- jobs

-- tuples of three digits, three of them, and the greatest limits
abbrev pub worked_job : Job
worked_job = record {
  meta = worked_meta;
  tuples = record { size = 3; count = 3 };
  algorithm = Sha512;
  limits = greatest_limits;
  gather = false;
  share = whole;
}

-- with no tuples
abbrev pub flat_job : Job
flat_job = record worked_job { tuples = record { size = 0; count = 0 } }

-- which gathers divided sites
abbrev pub gathering_job : Job
gathering_job = record worked_job { gather = true }

-- with other limits
abbrev pub limited_job : Bounds → Job
limited_job limits = record worked_job { limits = limits }

-- ---- stores

-- a store with this pairtree
abbrev pub store : Forest → Forest
store pairtree = dir (codes "pairtree_root") pairtree (file (codes "pairtree_version0_1") [] none)

-- one directory of this name
abbrev pub one_dir : List ℕ → Forest → Forest
one_dir name inside = dir name inside none

-- one file of this name
abbrev pub one_file : List ℕ → List ℕ → Forest
one_file name bytes = file name bytes none

-- whose pairtree is empty
abbrev pub empty_store : Forest
empty_store = store none

-- what stands at `ab/c`
abbrev pub at_abc : Forest → Forest
at_abc inside = store (one_dir (codes "ab") (one_dir (codes "c") inside))

-- what the object at `ab/c/obj` holds
abbrev pub object_abc : Forest → Forest
object_abc inside = at_abc (one_dir (codes "obj") inside)

-- `ab/c/obj/a.txt`
abbrev pub store_of_one_object : Forest
store_of_one_object = object_abc (one_file (codes "a.txt") (codes "abc"))

-- an empty directory `a/bc/obj`, an empty directory `de`, and a file `readme`
abbrev pub store_of_strays : Forest
store_of_strays =
    store (dir (codes "a") (one_dir (codes "bc") (one_dir (codes "obj") none))
    (dir (codes "de") none (one_file (codes "readme") [])))

-- a file and a directory at `ab/c`
abbrev pub divided_store : Forest
divided_store = at_abc
    (file (codes "notes.txt") (codes "abc") (one_dir (codes "obj") (one_file (codes "f") [])))

-- `^f/f/obj/x` and `a^/2/obj/x`
abbrev pub store_of_bad_names : Forest
store_of_bad_names = store
    (dir (codes "^f") (one_dir (codes "f") (one_dir (codes "obj") (one_file (codes "x") [])))
    (one_dir (codes "a^") (one_dir (codes "2") (one_dir (codes "obj") (one_file (codes "x") [])))))

-- `^6/1b/c/one/a.txt` and `ab/c/two/b.txt`
abbrev pub store_of_one_identifier : Forest
store_of_one_identifier = store
    (dir (codes "^6")
    (one_dir (codes "1b")
    (one_dir (codes "c") (one_dir (codes "one") (one_file (codes "a.txt") (codes "abc")))))
    (one_dir (codes "ab") (one_dir (codes "c") (one_dir (codes "two") (one_file (codes "b.txt") [])))))

-- a prefix file, and `bc/abc/a.txt`
abbrev pub prefixed_store : List ℕ → Forest
prefixed_store bytes =
    file (codes "pairtree_prefix") bytes
    (store (one_dir (codes "bc") (one_dir (codes "abc") (one_file (codes "a.txt") (codes "abc")))))

-- `ab/cd/obj` with `a/x` and `a.txt`, which are equal, and `c`, which is empty
abbrev pub store_of_equal_contents : Forest
store_of_equal_contents = store (one_dir (codes "ab") (one_dir (codes "cd") (one_dir (codes "obj")
    (dir (codes "a") (one_file (codes "x") (codes "abc"))
    (file (codes "a.txt") (codes "abc") (one_file (codes "c") []))))))

-- `ex/te/ns/io/ns/obj/f`
abbrev pub store_of_extensions : Forest
store_of_extensions =
    store (one_dir (codes "ex")
    (one_dir (codes "te")
    (one_dir (codes "ns")
    (one_dir (codes "io")
    (one_dir (codes "ns") (one_dir (codes "obj") (one_file (codes "f") [])))))))

-- `ab/cd/obj/f` and `ab/cd/ef/obj/f`
abbrev pub store_of_two_depths : Forest
store_of_two_depths =
    store (one_dir (codes "ab")
    (one_dir (codes "cd")
    (dir (codes "ef") (one_dir (codes "obj") (one_file (codes "f") []))
    (one_dir (codes "obj") (one_file (codes "f") [])))))

-- `ab/cd/x` and `ab/cd/ef/f.txt`
abbrev pub store_to_gather : Forest
store_to_gather =
    store (one_dir (codes "ab")
    (one_dir (codes "cd")
    (dir (codes "ef") (one_file (codes "f.txt") []) (one_file (codes "x") (codes "abc")))))

-- `ab/cd/abcd/f` and `ab/cd/e/abcde/f`
abbrev pub store_of_nested_sites : Forest
store_of_nested_sites = store (one_dir (codes "ab") (one_dir (codes "cd")
    (dir (codes "abcd") (one_file (codes "f") (codes "abc"))
    (one_dir (codes "e") (one_dir (codes "abcde") (one_file (codes "f") []))))))

-- so many directories, one in the other, and this in the last
abbrev pub chain : ℕ → Forest → Forest
chain zero inside = inside
chain (suc n) inside = one_dir (codes "ab") (chain n inside)

-- an object at the end of such a chain
abbrev pub deep_store : ℕ → Forest
deep_store n = store (chain n (one_dir (codes "obj") (one_file (codes "f") [])))

-- no root stands
abbrev pub no_root : Tree
no_root = λ path. None
