-- What the names of a site read.
use Rattle.std.proofs.Common.{◌≡◌, ◌<◌, ℕ, Bool, true, false, List, [], ◌∷◌, arith, length, refl, sym, ap, ◌∙◌, cond}
use Rattle.std.proofs.lemmas.Str.{is_utf8-from_IsUtf8, IsUtf8-from_is_utf8, IsUtf8-string_bytes}
use Rattle.std.specs.Global.{Global}
use Rattle.std.specs.Prelude.{Some, String, Err, Ok}
use Rattle.std.specs.Str.{is_utf8}
use Rattle.std.specs.String.{string_bytes}
use Rattle.pt_check.specs.Visits.{reserved_at, reserved_by, spelling_trouble, trouble_of_names, trouble_of_reading}
use Rattle.pt_check.specs.declared.trouble.Trouble.TheVariants as trouble
use Rattle.pt_name.specs.Identifying.{identification_of}
use Rattle.pt_name.specs.Reading.{GivesReading, reading_of}
use Rattle.pt_name.specs.Share.{whole}
use Rattle.pt_name.specs.Tuples.{Tuples}
use Rattle.pt_name.specs.declared.reading.UncleanFault.TheVariants as unclean
use Rattle.pt_tree.specs.Path.{Path}
use Rattle.pt_walk.specs.declared.cause.Cause.TheVariants as cause

pub reads_text : (text joined : List ℕ) (id : String Global) → GivesReading (reading_of text) (Ok id) → text ≡ joined
    → spelling_trouble text (string_bytes id) ≡ trouble_of_names joined
reads_text text joined id is same =
    let valid : is_utf8 (string_bytes id) ≡ true = is_utf8-from_IsUtf8 (string_bytes id) (IsUtf8-string_bytes id) in
    sym (ap trouble_of_names (sym same) ∙ ap (trouble_of_reading text) is
    ∙ ap (λ (b : Bool). cond b (spelling_trouble text (string_bytes id)) (Some (trouble.Skipped cause.Utf8))) valid)

pub reads_bytes : (text joined : List ℕ) → GivesReading (reading_of text) (Err unclean.NotUtf8) → text ≡ joined
    → Some (trouble.Skipped cause.Utf8) ≡ trouble_of_names joined
reads_bytes text joined (bytes, is, other) same = sym (ap trouble_of_names (sym same) ∙ ap (trouble_of_reading text) is ∙ by (is_utf8 bytes) refl)
  where
    by : (b : Bool) → is_utf8 bytes ≡ b → cond b (spelling_trouble text bytes) (Some (trouble.Skipped cause.Utf8)) ≡ Some (trouble.Skipped cause.Utf8)
    by true valid = absurd (other (IsUtf8-from_is_utf8 bytes valid))
    by false valid = refl

pub reads_nothing : (text joined : List ℕ) → GivesReading (reading_of text) (Err unclean.Malformed) → text ≡ joined
    → Some (trouble.Skipped cause.Name) ≡ trouble_of_names joined
reads_nothing text joined is same = sym (ap trouble_of_names (sym same) ∙ ap (trouble_of_reading text) is)

-- where there is a name, what is told of the place is what is said of the names
pub place_told : (tuples : Tuples) (prefix : List ℕ) (path : Path) → 0 < length path
    → reserved_by (identification_of tuples whole prefix path) ≡ reserved_at tuples prefix path
place_told tuples prefix [] some = absurd (omega (arith, some))
place_told tuples prefix (name ∷ names) some = refl

pub ruleset names_read = (reads_text, reads_bytes, reads_nothing)
