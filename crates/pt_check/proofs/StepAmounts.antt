-- How much each step of a check adds to its numbers.
use Rattle.std.proofs.Common.{◌≡◌, ◌<◌, ◌≤◌, ◌==◌, ◌∙◌, ℕ, Bool, true, false, cond, List, [], ◌∷◌, arith, ap, eqb-true, eq-eqb, length, refl, sym}
use Rattle.std.proofs.Math.Nat.{max-zero}
use Rattle.std.proofs.lemmas.Bool.{true≢false}
use Rattle.std.proofs.lemmas.List.{get_or-set_other, get_or-set_same, length-set}
use Rattle.std.proofs.lemmas.List.Sums.{count_by-le-length}
use Rattle.std.specs.Prelude.{max, nat_lt, not, slice_index}
use Rattle.pt_check.specs.Counting.{counted_at, depth_class, digits, plus, powers_of_ten}
use Rattle.pt_check.specs.Steps.{Step, Judges, Meets, Opens, Tells, counted_by}
use Rattle.pt_check.specs.Trouble.{trouble_number}
use Rattle.pt_check.specs.declared.numbers.Numbers.{Numbers}
use Rattle.pt_check.specs.declared.trouble.Trouble.{Trouble}
use Rattle.pt_check.specs.declared.trouble.Trouble.TheVariants as trouble
use Rattle.pt_check.specs.declared.within.Within.{Within}
use Rattle.pt_check.specs.declared.within.Within.TheVariants as within
use Rattle.pt_tree.specs.Failures.{greatest_count}
use Rattle.pt_tree.specs.declared.kind.Kind.TheVariants as kind
use Rattle.pt_walk.specs.declared.cause.Cause.TheVariants as cause
use Rattle.pt_walk.specs.declared.site.At.{At}
use Rattle.pt_walk.specs.declared.site.Finding.{Finding}
use Rattle.pt_walk.specs.declared.site.Finding.TheVariants as finding

-- ---- how much a step adds

pub record Amounts : Type 0 where
  pub told : ℕ
  pub sites : ℕ
  pub objects : ℕ
  pub folders : ℕ
  pub files : ℕ
  pub bytes : ℕ
  pub renamed : ℕ
  pub kinds : ℕ → ℕ
  pub sites_at : ℕ → ℕ
  pub objects_at : ℕ → ℕ
  pub files_of : ℕ → ℕ
  pub bytes_of : ℕ → ℕ

abbrev pub none_added : Amounts
none_added = record {
  told = 0;
  sites = 0;
  objects = 0;
  folders = 0;
  files = 0;
  bytes = 0;
  renamed = 0;
  kinds = λ i. 0;
  sites_at = λ i. 0;
  objects_at = λ i. 0;
  files_of = λ i. 0;
  bytes_of = λ i. 0;
}

-- so many at one class
abbrev pub only_at : ℕ → ℕ → ℕ → ℕ
only_at class more i = cond (class == i) more 0

abbrev pub has_object : Finding → ℕ
has_object finding.Interior = 0
has_object (finding.Skip why) = 0
has_object (finding.Candidate i) = 1
has_object finding.Gathered = 1

abbrev pub of_site : ℕ → Bool → Finding → Amounts
of_site depth renamed what = record none_added {
  sites = 1;
  objects = has_object what;
  renamed = cond renamed 1 0;
  sites_at = only_at (depth_class depth) 1;
  objects_at = only_at (depth_class depth) (has_object what);
}

abbrev pub amounts : Step → Amounts
amounts (Tells path trouble) = record none_added { told = 1; kinds = only_at (trouble_number trouble) 1 }
amounts (Meets kind.File length) = record none_added { files = 1 }
amounts (Meets kind.Dir length) = record none_added { folders = 1 }
amounts (Meets kind.Other length) = none_added
amounts (Opens true here bytes before) =
    record none_added { bytes = bytes; files_of = only_at (digits bytes) 1; bytes_of = only_at (digits bytes) bytes }
amounts (Opens false here bytes before) = record none_added { bytes = bytes }
amounts (Judges depth renamed (within.Site w) what) = of_site depth renamed what
amounts (Judges depth renamed within.Past what) = none_added
amounts (Judges depth renamed (within.Object before) what) = none_added
amounts (Judges depth renamed within.Beside what) = none_added

-- b is a, and those more
abbrev pub Adds : Amounts → Numbers → Numbers → Type 0
Adds x a b = (b.told ≡ plus a.told x.told) × (b.sites ≡ plus a.sites x.sites) × (b.objects ≡ plus a.objects x.objects)
    × (b.folders ≡ plus a.folders x.folders) × (b.files ≡ plus a.files x.files) × (b.bytes ≡ plus a.bytes x.bytes)
    × (b.renamed ≡ plus a.renamed x.renamed)
    × ((i : ℕ) → slice_index b.kinds i ≡ plus (slice_index a.kinds i) (x.kinds i))
    × ((i : ℕ) → slice_index b.sites_at i ≡ plus (slice_index a.sites_at i) (x.sites_at i))
    × ((i : ℕ) → slice_index b.objects_at i ≡ plus (slice_index a.objects_at i) (x.objects_at i))
    × ((i : ℕ) → slice_index b.files_of i ≡ plus (slice_index a.files_of i) (x.files_of i))
    × ((i : ℕ) → slice_index b.bytes_of i ≡ plus (slice_index a.bytes_of i) (x.bytes_of i))

-- no number is over the greatest
pub record Small (n : Numbers) : Type 0 where
  pub told : n.told ≤ greatest_count
  pub sites : n.sites ≤ greatest_count
  pub objects : n.objects ≤ greatest_count
  pub folders : n.folders ≤ greatest_count
  pub files : n.files ≤ greatest_count
  pub bytes : n.bytes ≤ greatest_count
  pub renamed : n.renamed ≤ greatest_count
  pub kinds : (i : ℕ) → slice_index n.kinds i ≤ greatest_count
  pub sites_at : (i : ℕ) → slice_index n.sites_at i ≤ greatest_count
  pub objects_at : (i : ℕ) → slice_index n.objects_at i ≤ greatest_count
  pub files_of : (i : ℕ) → slice_index n.files_of i ≤ greatest_count
  pub bytes_of : (i : ℕ) → slice_index n.bytes_of i ≤ greatest_count

-- and the classes are as many as ever
abbrev pub Fits : Numbers → Type 0
Fits n = (length n.kinds ≡ 21) × (length n.sites_at ≡ 33) × (length n.objects_at ≡ 33) × (length n.files_of ≡ 21) × (length n.bytes_of ≡ 21)

stays : (n : ℕ) → n ≤ greatest_count → n ≡ plus n 0
stays n small = omega (arith, small)

at_one : (counts : List ℕ) (class more i : ℕ) → class < length counts → slice_index counts i ≤ greatest_count
    → slice_index (counted_at class more counts) i ≡ plus (slice_index counts i) (only_at class more i)
at_one counts class more i within small = by (class == i) refl
  where
    by : (t : Bool) → (class == i) ≡ t → slice_index (counted_at class more counts) i ≡ plus (slice_index counts i) (cond t more 0)
    by true is =
        let same : class ≡ i = eqb-true class i is in
        ap (slice_index (counted_at class more counts)) (sym same)
        ∙ get_or-set_same counts class (plus (slice_index counts class) more) 0 within ∙ ap (λ (j : ℕ). plus (slice_index counts j) more) same
    by false is =
        get_or-set_other counts class i (plus (slice_index counts class) more) 0
        (λ e. absurd (true≢false (sym (eq-eqb class i (sym e)) ∙ is)))
        ∙ stays (slice_index counts i) small

few_kinds : (t : Trouble) → trouble_number t < 21
few_kinds (trouble.Skipped cause.Root) = omega arith
few_kinds (trouble.Skipped cause.Empty) = omega arith
few_kinds (trouble.Skipped cause.Split) = omega arith
few_kinds (trouble.Skipped cause.Past) = omega arith
few_kinds (trouble.Skipped cause.Name) = omega arith
few_kinds (trouble.Skipped cause.Utf8) = omega arith
few_kinds (trouble.Skipped cause.Other) = omega arith
few_kinds (trouble.Skipped cause.Limit) = omega arith
few_kinds (trouble.Skipped cause.Reserved) = omega arith
few_kinds trouble.Desktop = omega arith
few_kinds trouble.Long = omega arith
few_kinds trouble.Deep = omega arith
few_kinds trouble.Missing = omega arith
few_kinds trouble.Spelling = omega arith
few_kinds trouble.Prefix = omega arith
few_kinds trouble.Doubtful = omega arith
few_kinds trouble.Many = omega arith
few_kinds trouble.Large = omega arith
few_kinds trouble.Place = omega arith
few_kinds trouble.Width = omega arith

few_digits : (bytes : ℕ) → digits bytes < 21
few_digits bytes = let few = count_by-le-length (λ power. not (nat_lt bytes power)) powers_of_ten in omega (arith, few)

module _ (n : Numbers) (small : Small n) (fits : Fits n) where
  -- nothing is added
  same : Adds none_added n n
  same = (
    stays n.told small.told,
    stays n.sites small.sites,
    stays n.objects small.objects,
    stays n.folders small.folders,
    stays n.files small.files,
    stays n.bytes small.bytes,
    stays n.renamed small.renamed,
    (λ i. stays (slice_index n.kinds i) (small.kinds i)),
    (λ i. stays (slice_index n.sites_at i) (small.sites_at i)),
    (λ i. stays (slice_index n.objects_at i) (small.objects_at i)),
    (λ i. stays (slice_index n.files_of i) (small.files_of i)),
    (λ i. stays (slice_index n.bytes_of i) (small.bytes_of i)),
  )

  -- a file that was read whole
  read_more : (here : Within) (bytes before : ℕ) → Adds (amounts (Opens true here bytes before)) n (counted_by (Opens true here bytes before) n)
  read_more here bytes before = by here
    where
      files : (i : ℕ) → slice_index (counted_at (digits bytes) 1 n.files_of) i ≡ plus (slice_index n.files_of i) (only_at (digits bytes) 1 i)
      files i = let few = few_digits bytes in let all = fits.3 in at_one n.files_of (digits bytes) 1 i (omega (arith, few, all)) (small.files_of i)

      lengths : (i : ℕ) → slice_index (counted_at (digits bytes) bytes n.bytes_of) i ≡ plus (slice_index n.bytes_of i) (only_at (digits bytes) bytes i)
      lengths i = let few = few_digits bytes in let all = fits.4 in at_one n.bytes_of (digits bytes) bytes i (omega (arith, few, all)) (small.bytes_of i)

      by : (here : Within) → Adds (amounts (Opens true here bytes before)) n (counted_by (Opens true here bytes before) n)
      by (within.Site w) = (same.0, same.1, same.2, same.3, same.4, refl, same.6, same.7, same.8, same.9, files, lengths)
      by within.Past = (same.0, same.1, same.2, same.3, same.4, refl, same.6, same.7, same.8, same.9, files, lengths)
      by (within.Object b) = (same.0, same.1, same.2, same.3, same.4, refl, same.6, same.7, same.8, same.9, files, lengths)
      by within.Beside = (same.0, same.1, same.2, same.3, same.4, refl, same.6, same.7, same.8, same.9, files, lengths)

  -- a site
  site_more : (depth : ℕ) (renamed : Bool) (w : At) (what : Finding)
      → Adds (of_site depth renamed what) n (counted_by (Judges depth renamed (within.Site w) what) n)
  site_more depth renamed w what = by what
    where
      sites : (i : ℕ) → slice_index (counted_at (depth_class depth) 1 n.sites_at) i ≡ plus (slice_index n.sites_at i) (only_at (depth_class depth) 1 i)
      sites i = let all = fits.1 in at_one n.sites_at (depth_class depth) 1 i (omega (arith, all)) (small.sites_at i)

      objects : (more i : ℕ)
          → slice_index (counted_at (depth_class depth) more n.objects_at) i ≡ plus (slice_index n.objects_at i) (only_at (depth_class depth) more i)
      objects more i = let all = fits.2 in at_one n.objects_at (depth_class depth) more i (omega (arith, all)) (small.objects_at i)

      by : (what : Finding) → Adds (of_site depth renamed what) n (counted_by (Judges depth renamed (within.Site w) what) n)
      by finding.Interior = (same.0, refl, refl, same.3, same.4, same.5, refl, same.7, sites, objects 0, same.10, same.11)
      by (finding.Skip why) = (same.0, refl, refl, same.3, same.4, same.5, refl, same.7, sites, objects 0, same.10, same.11)
      by (finding.Candidate i) = (same.0, refl, refl, same.3, same.4, same.5, refl, same.7, sites, objects 1, same.10, same.11)
      by finding.Gathered = (same.0, refl, refl, same.3, same.4, same.5, refl, same.7, sites, objects 1, same.10, same.11)

  -- what a step adds
  pub step_adds : (step : Step) → Adds (amounts step) n (counted_by step n)
  step_adds (Tells path t) = (refl, same.1, same.2, same.3, same.4, same.5, same.6, of_kind, same.8, same.9, same.10, same.11)
    where
      of_kind : (i : ℕ) → slice_index (counted_at (trouble_number t) 1 n.kinds) i ≡ plus (slice_index n.kinds i) (only_at (trouble_number t) 1 i)
      of_kind i = let few = few_kinds t in let all = fits.0 in at_one n.kinds (trouble_number t) 1 i (omega (arith, few, all)) (small.kinds i)
  step_adds (Meets kind.File length) = (same.0, same.1, same.2, same.3, refl, same.5, same.6, same.7, same.8, same.9, same.10, same.11)
  step_adds (Meets kind.Dir length) = (same.0, same.1, same.2, refl, same.4, same.5, same.6, same.7, same.8, same.9, same.10, same.11)
  step_adds (Meets kind.Other length) = same
  step_adds (Opens true here bytes before) = read_more here bytes before
  step_adds (Opens false (within.Site w) bytes before) = (same.0, same.1, same.2, same.3, same.4, refl, same.6, same.7, same.8, same.9, same.10, same.11)
  step_adds (Opens false within.Past bytes before) = (same.0, same.1, same.2, same.3, same.4, refl, same.6, same.7, same.8, same.9, same.10, same.11)
  step_adds (Opens false (within.Object b) bytes before) = (same.0, same.1, same.2, same.3, same.4, refl, same.6, same.7, same.8, same.9, same.10, same.11)
  step_adds (Opens false within.Beside bytes before) = (same.0, same.1, same.2, same.3, same.4, refl, same.6, same.7, same.8, same.9, same.10, same.11)
  step_adds (Judges depth renamed (within.Site w) what) = site_more depth renamed w what
  step_adds (Judges depth renamed within.Past what) = same
  step_adds (Judges depth renamed (within.Object before) what) = same
  step_adds (Judges depth renamed within.Beside what) = same

  -- and what then holds still
  most : (a b more : ℕ) → b ≡ plus a more → b ≤ greatest_count
  most a b more is = omega (arith, is)

  pub then_small : (step : Step) → Small (counted_by step n)
  then_small step = let x = step_adds step in record {
    told = most _ _ _ x.0;
    sites = most _ _ _ x.1;
    objects = most _ _ _ x.2;
    folders = most _ _ _ x.3;
    files = most _ _ _ x.4;
    bytes = most _ _ _ x.5;
    renamed = most _ _ _ x.6;
    kinds = λ i. most _ _ _ (x.7 i);
    sites_at = λ i. most _ _ _ (x.8 i);
    objects_at = λ i. most _ _ _ (x.9 i);
    files_of = λ i. most _ _ _ (x.10 i);
    bytes_of = λ i. most _ _ _ (x.11 i);
  }

  pub then_fits : (step : Step) → Fits (counted_by step n)
  then_fits (Tells path t) = (length-set n.kinds (trouble_number t) _ ∙ fits.0, fits.1, fits.2, fits.3, fits.4)
  then_fits (Meets kind.File length) = fits
  then_fits (Meets kind.Dir length) = fits
  then_fits (Meets kind.Other length) = fits
  then_fits (Opens true here bytes before) = by here
    where
      files : length (counted_at (digits bytes) 1 n.files_of) ≡ 21
      files = length-set n.files_of (digits bytes) _ ∙ fits.3

      lengths : length (counted_at (digits bytes) bytes n.bytes_of) ≡ 21
      lengths = length-set n.bytes_of (digits bytes) _ ∙ fits.4

      by : (here : Within) → Fits (counted_by (Opens true here bytes before) n)
      by (within.Site w) = (fits.0, fits.1, fits.2, files, lengths)
      by within.Past = (fits.0, fits.1, fits.2, files, lengths)
      by (within.Object b) = (fits.0, fits.1, fits.2, files, lengths)
      by within.Beside = (fits.0, fits.1, fits.2, files, lengths)
  then_fits (Opens false (within.Site w) bytes before) = fits
  then_fits (Opens false within.Past bytes before) = fits
  then_fits (Opens false (within.Object b) bytes before) = fits
  then_fits (Opens false within.Beside bytes before) = fits
  then_fits (Judges depth renamed (within.Site w) what) = by what
    where
      sites : length (counted_at (depth_class depth) 1 n.sites_at) ≡ 33
      sites = length-set n.sites_at (depth_class depth) _ ∙ fits.1

      objects : (more : ℕ) → length (counted_at (depth_class depth) more n.objects_at) ≡ 33
      objects more = length-set n.objects_at (depth_class depth) _ ∙ fits.2

      by : (what : Finding) → Fits (counted_by (Judges depth renamed (within.Site w) what) n)
      by finding.Interior = (fits.0, sites, objects 0, fits.3, fits.4)
      by (finding.Skip why) = (fits.0, sites, objects 0, fits.3, fits.4)
      by (finding.Candidate i) = (fits.0, sites, objects 1, fits.3, fits.4)
      by finding.Gathered = (fits.0, sites, objects 1, fits.3, fits.4)
  then_fits (Judges depth renamed within.Past what) = fits
  then_fits (Judges depth renamed (within.Object before) what) = fits
  then_fits (Judges depth renamed within.Beside what) = fits

-- ---- how much is seen at most

abbrev pub most_by : (Step → ℕ) → List Step → ℕ
most_by w [] = 0
most_by w (step ∷ steps) = max (w step) (most_by w steps)

abbrev pub length_of : Step → ℕ
length_of (Tells path t) = 0
length_of (Meets kind length) = length
length_of (Opens reads here bytes before) = 0
length_of (Judges depth renamed here what) = 0

abbrev pub size_of : Step → ℕ
size_of (Tells path t) = 0
size_of (Meets kind length) = 0
size_of (Opens reads (within.Object b) bytes before) = plus before bytes
size_of (Opens reads (within.Site w) bytes before) = 0
size_of (Opens reads within.Past bytes before) = 0
size_of (Opens reads within.Beside bytes before) = 0
size_of (Judges depth renamed here what) = 0

no_more : (n : ℕ) → n ≡ max n 0
no_more n = sym (max-zero n)

pub longest_is : (step : Step) (n : Numbers) → (counted_by step n).longest ≡ max n.longest (length_of step)
longest_is (Tells path t) n = no_more n.longest
longest_is (Meets kind.File length) n = refl
longest_is (Meets kind.Dir length) n = refl
longest_is (Meets kind.Other length) n = refl
longest_is (Opens true (within.Site w) bytes before) n = no_more n.longest
longest_is (Opens true within.Past bytes before) n = no_more n.longest
longest_is (Opens true (within.Object b) bytes before) n = no_more n.longest
longest_is (Opens true within.Beside bytes before) n = no_more n.longest
longest_is (Opens false (within.Site w) bytes before) n = no_more n.longest
longest_is (Opens false within.Past bytes before) n = no_more n.longest
longest_is (Opens false (within.Object b) bytes before) n = no_more n.longest
longest_is (Opens false within.Beside bytes before) n = no_more n.longest
longest_is (Judges depth renamed (within.Site w) finding.Interior) n = no_more n.longest
longest_is (Judges depth renamed (within.Site w) (finding.Skip why)) n = no_more n.longest
longest_is (Judges depth renamed (within.Site w) (finding.Candidate i)) n = no_more n.longest
longest_is (Judges depth renamed (within.Site w) finding.Gathered) n = no_more n.longest
longest_is (Judges depth renamed within.Past what) n = no_more n.longest
longest_is (Judges depth renamed (within.Object b) what) n = no_more n.longest
longest_is (Judges depth renamed within.Beside what) n = no_more n.longest

pub largest_is : (step : Step) (n : Numbers) → (counted_by step n).largest ≡ max n.largest (size_of step)
largest_is (Tells path t) n = no_more n.largest
largest_is (Meets kind.File length) n = no_more n.largest
largest_is (Meets kind.Dir length) n = no_more n.largest
largest_is (Meets kind.Other length) n = no_more n.largest
largest_is (Opens true (within.Site w) bytes before) n = no_more n.largest
largest_is (Opens true within.Past bytes before) n = no_more n.largest
largest_is (Opens true (within.Object b) bytes before) n = refl
largest_is (Opens true within.Beside bytes before) n = no_more n.largest
largest_is (Opens false (within.Site w) bytes before) n = no_more n.largest
largest_is (Opens false within.Past bytes before) n = no_more n.largest
largest_is (Opens false (within.Object b) bytes before) n = refl
largest_is (Opens false within.Beside bytes before) n = no_more n.largest
largest_is (Judges depth renamed (within.Site w) finding.Interior) n = no_more n.largest
largest_is (Judges depth renamed (within.Site w) (finding.Skip why)) n = no_more n.largest
largest_is (Judges depth renamed (within.Site w) (finding.Candidate i)) n = no_more n.largest
largest_is (Judges depth renamed (within.Site w) finding.Gathered) n = no_more n.largest
largest_is (Judges depth renamed within.Past what) n = no_more n.largest
largest_is (Judges depth renamed (within.Object b) what) n = no_more n.largest
largest_is (Judges depth renamed within.Beside what) n = no_more n.largest
